-- A guest alone (own): what its own files behind its host's library, its main class name, input, feeds and budget give on the machine,
-- after some number of steps; and what of the files is found before that (JVMS 4.10, 5.3).
use Rattle.std.specs.Prelude.{◌≡◌, ◌↔◌, ℕ, zero, suc, ◌==◌, if◌then◌else◌, List, [], ◌∷◌, ◌++◌, length, map, Option, Some, Ok, false, true, slice_get}
use Rattle.std.specs.List.{All}
use Rattle.jv_text.specs.Text.{Spells}
use Rattle.jv_class.specs.Class.{Class}
use Rattle.jv_code.specs.Insns.{Instruction}
use Rattle.jv_code.specs.Places.{IsCode}
use Rattle.jv_meaning_world.specs.FileContent.{FileContent, AreContents}
use Rattle.jv_meaning_world.specs.declared.content.Content.TheVariants.{Holds}
use Rattle.jv_meaning_world.specs.Library.{IsLibrary, with_library}
use Rattle.jv_meaning_world.specs.World.{HostClasses, World, loaded, world_of}
use Rattle.jv_meaning_typing.specs.declared.verdict.Verdict.{Verdict}
use Rattle.jv_meaning_typing.specs.declared.verdict.Verdict.TheVariants.{Accepted}
use Rattle.jv_meaning_typing.specs.Judgement.{IsVerdictOfClass, IsVerdictOfFile}
use Rattle.jv_meaning_machine.specs.Faults.{OrFault, ◌>>=◌}
use Rattle.jv_meaning_machine.specs.State.{Program, State}
use Rattle.jv_meaning_machine.specs.Start.{Budget, start}
use Rattle.jv_meaning_machine.specs.Step.{step}

-- the class files of its host's library, a guest's own, the name of its main class, and its input before anything is fed
pub record GuestFiles : Type 0 where
  pub library : List (List ℕ)
  pub files : List (List ℕ)
  pub main : List ℕ
  pub input : List ℕ

-- ---- what is found of the files before anything runs

pub record Judged : Type 0 where
  pub program : Program
  pub verdicts : List Verdict

-- the class of a file, where its verdict is that it is accepted
abbrev pub accepted_in : FileContent → Verdict → List (List ℕ)
accepted_in (Holds class) Accepted = class.name ∷ []
accepted_in _ _ = []

abbrev pub accepted_names : List FileContent → List Verdict → List (List ℕ)
accepted_names (file ∷ files) (verdict ∷ verdicts) = accepted_in file verdict ++ accepted_names files verdicts
accepted_names _ _ = []

-- bytes have these instructions exactly where they are the code of them
abbrev pub FindsInstructions : (List ℕ → Option (List Instruction)) → Type 0
FindsInstructions instructions = (bytes : List ℕ) (all : List Instruction) → (instructions bytes ≡ Some all) ↔ IsCode bytes all

-- and these units exactly where they spell them
abbrev pub AreUnits : (List ℕ → Option (List ℕ)) → Type 0
AreUnits units = (bytes all : List ℕ) → (units bytes ≡ Some all) ↔ Spells all bytes

-- This is what is to be found of a guest's files behind those of a library: the classes that both hold beside the system's, and a verdict
-- on each of the guest's. The library's count as accepted.
pub record IsJudged (library files : List (List ℕ)) (judged : Judged) : Type 0 where
  pub given : List Class
  pub gives : IsLibrary library given
  pub contents : List FileContent
  pub held : AreContents files contents
  pub world : judged.program.world ≡ world_of (with_library given) contents
  pub count : length judged.verdicts ≡ length contents
  pub verdict :
      (place : ℕ) (verdict : Verdict) → slice_get judged.verdicts place ≡ Some verdict
      → IsVerdictOfFile (with_library given) contents place verdict
  pub accepted : judged.program.accepted ≡ map (λ c. c.name) (with_library given).front ++ accepted_names contents judged.verdicts
  pub instructions : FindsInstructions judged.program.instructions
  pub units : AreUnits judged.program.units

-- In a world the classes that a host gives are accepted: those of the system, which are lent methods, and those in front.
pub record Stands (world : World) (host : HostClasses) : Type 0 where
  pub system : All (λ c. IsVerdictOfClass world (loaded true c) Accepted) host.system
  pub front : All (λ c. IsVerdictOfClass world (loaded false c) Accepted) host.front

-- ---- feeds: what comes to a guest's input while it runs

-- these bytes came after so many of its own steps
pub record Feed : Type 0 where
  pub own_step : ℕ
  pub bytes : List ℕ

-- the bytes that came after so many steps, of feeds in order of coming
abbrev pub came_at : ℕ → List Feed → List ℕ
came_at n [] = []
came_at n (feed ∷ more) = if feed.own_step == n then feed.bytes ++ came_at n more else came_at n more

-- bytes join behind the input that waits
abbrev pub fed : List ℕ → State → State
fed bytes s = record s { memory = record s.memory { input = s.memory.input ++ bytes } }

-- ---- the run

-- The state of a guest whose files were judged, after so many of its own steps, and after what came then: it waits for the next
-- step. What comes before the first step joins at the start.
abbrev pub alone : Judged → GuestFiles → Budget → List Feed → ℕ → OrFault State
alone judged g b feeds zero = start judged.program g.main g.input b >>= λ s. Ok (fed (came_at zero feeds) s)
alone judged g b feeds (suc n) = alone judged g b feeds n >>= step judged.program >>= λ s. Ok (fed (came_at (suc n) feeds) s)
