-- How what a guest brings and shows is told in C's structs.
use Rattle.std.specs.Prelude.{◌≡◌, ℕ, ◌<◌, ⊤, List, ◌++◌, map, length}
use Rattle.std.specs.Option.{unwrap_or}
use Rattle.jv_limits.specs.Bytes.{bytes_of}
use Rattle.jv_meaning_world.specs.declared.verdict.LoadVerdict.{LoadVerdict}
use Rattle.jv_meaning_world.specs.declared.verdict.LoadVerdict.TheVariants as reasons
use Rattle.jv_meaning_typing.specs.declared.verdict.Verdict.{Verdict}
use Rattle.jv_meaning_typing.specs.declared.verdict.Verdict.TheVariants.{Refused, Verify, Accepted}
use Rattle.jv_meaning_machine.specs.State.{End, ThrowPlace}
use Rattle.jv_meaning_machine.specs.State.{End as ends}
use Rattle.jv_meaning_machine.specs.Start.{Budget}
use Rattle.jv_meaning_machine.specs.Alone.{GuestFiles}
use Rattle.jv_meaning_machine.specs.Observation.{Observed}
use Rattle.jv_loader.specs.declared.library_fault.LibraryFault.{LibraryFault}
use Rattle.jv_loader.specs.declared.library_fault.LibraryFault.TheVariants as faults
use Rattle.jv_program_base.specs.Library.{fault_place}
use Rattle.jv_program_base.specs.Verdict.{rule_number}
use Rattle.libjvhost.specs.declared.told.Guest.{Guest}
use Rattle.libjvhost.specs.declared.told.Seen.{Seen}
use Rattle.libjvhost.specs.declared.told.ToldFault.{ToldFault}
use Rattle.libjvhost.specs.declared.told.ToldPlace.{ToldPlace}
use Rattle.libjvhost.specs.declared.told.ToldVerdict.{ToldVerdict}

-- ---- what a guest brings

-- with a library of these files
abbrev pub files_told : (library : List (List ℕ)) → Guest → GuestFiles
files_told library g = record { library = library; files = map bytes_of g.files.now; main = g.main.now; input = g.input.now }

abbrev pub budget_told : Guest → Budget
budget_told g = record { cells = g.cells; words = g.words; output = g.output }

-- ---- what it shows

-- enum jvhost_end
abbrev pub end_number : End → ℕ
end_number ends.Running = 0
end_number ends.Returned = 1
end_number (ends.Threw class) = 2
end_number ends.NoMain = 3

-- the numbers of what is shown
pub record AreNumbers (seen : Seen) (o : Observed) : Type 0 where
  pub steps : seen.steps ≡ o.steps
  pub throws : seen.throws ≡ o.throws
  pub output : seen.output ≡ length o.output
  pub verdicts : seen.verdicts ≡ length o.verdicts
  pub end : seen.end ≡ end_number o.end

-- ---- where the last object was thrown

-- how long the names are, and the offset
pub record IsPlaceTold (told : ToldPlace) (p : ThrowPlace) : Type 0 where
  pub class : told.class ≡ length p.class
  pub method : told.method ≡ length p.method
  pub descriptor : told.descriptor ≡ length p.descriptor
  pub offset : told.offset ≡ p.offset

-- the names of the class and the method, and the descriptor, one behind the other
abbrev pub place_names : ThrowPlace → List ℕ
place_names p = p.class ++ p.method ++ p.descriptor

-- ---- verdicts

-- enum jvhost_verdict_kind, from 2 on
abbrev pub reason_number : LoadVerdict → ℕ
reason_number reasons.Version = 2
reason_number reasons.Format = 3
reason_number reasons.Unsupported = 4
reason_number reasons.Reserved = 5
reason_number reasons.Duplicate = 6
reason_number reasons.Circular = 7
reason_number reasons.NoSuper = 8
reason_number reasons.WrongKind = 9
reason_number reasons.NoAccess = 10
reason_number reasons.FinalBroken = 11

abbrev pub told_verdict : Verdict → ToldVerdict
told_verdict Accepted = record { kind = 0; method = 0; offset = 0; rule = 0 }
told_verdict (Verify fault) = record { kind = 1; method = fault.method; offset = fault.offset; rule = rule_number fault.rule }
told_verdict (Refused reason) = record { kind = reason_number reason; method = 0; offset = 0; rule = 0 }

-- a method has a number below 65,536 (JVMS 4.1)
abbrev pub IsTellable : Verdict → Type 0
IsTellable (Verify fault) = fault.method < 65536
IsTellable _ = ⊤

-- ---- what is wrong with files that are no library

-- enum jvhost_library_fault_kind; the last is told by a code
abbrev pub fault_number : LibraryFault → ℕ
fault_number (faults.Version place) = 0
fault_number (faults.Format place) = 1
fault_number (faults.Unsupported place) = 2
fault_number (faults.Reserved place) = 3
fault_number (faults.Duplicate place) = 4
fault_number (faults.Main place) = 5
fault_number (faults.Header place) = 6
fault_number (faults.Initializer place) = 7
fault_number (faults.AboveArrays place) = 8
fault_number faults.NoString = 9
fault_number faults.NoComparable = 10
fault_number faults.NoCharSequence = 11
fault_number faults.OutOfMemory = 12

-- with the place of the file that has it, 0 where none has
abbrev pub IsFaultTold : ToldFault → LibraryFault → Type 0
IsFaultTold told fault = (told.kind ≡ fault_number fault) × (told.file ≡ unwrap_or (fault_place fault) 0)
