-- A library that stands beside a guest's files, or doesn't, by what the verifier finds.
use Rattle.std.proofs.Common.{◌≡◌, ◌≢◌, [], Result, Ok, Err, ap, inl, inr, subst, sym, ◌∙◌}
use Rattle.std.specs.Prelude.{IsErrAnd}
use Rattle.jv_meaning_world.specs.FileContent.{OneContent}
use Rattle.jv_meaning_world.specs.Library.{with_library}
use Rattle.jv_meaning_machine.specs.Alone.{GuestFiles, Stands}
use Rattle.jv_meaning_machine.specs.Laws.Shown.{JudgedByVerdicts}
use Rattle.jv_sound.specs.Law.{NoLibraryStands}
use Rattle.jv_library.specs.Files.{AreFilesOf, Verified}
use Rattle.jv_interp.proofs.Begun.{judged, right, stands_here}
use Rattle.jv_interp_heap.specs.ObjectsInBlocks.{Blocks}
use Rattle.jv_limits.specs.declared.fault.AdmitFault.{AdmitFault}
use Rattle.jv_limits.specs.declared.fault.AdmitFault.TheVariants.{HostMemory, LibraryBroken}
use Rattle.jv_host.specs.declared.admission.Admitted.{Admitted}
use Rattle.jv_host.specs.Host.{Admission}
use Rattle.jv_host.specs.Limits.{IsLibraryBroken, LibraryStands}
use Rattle.jv_host.specs.Inside.Holding.{HasBegun, IsNotBegun}

pub broken_beside :
    JudgedByVerdicts → OneContent → (g : GuestFiles) (found : Verified) (are : AreFilesOf g.library g.files found)
    → (Stands found.world (with_library are.given) → ⊥) → IsLibraryBroken g
broken_beside by_verdicts one g found are broken = record {
  judged = judged by_verdicts one found g.library g.files are;
  right = right by_verdicts one found g.library g.files are;
  broken = λ stand. broken (stands_here by_verdicts one found g.library g.files are stand);
}

-- without a library none is broken
pub none_broken : NoLibraryStands → (g : GuestFiles) → g.library ≡ [] → IsLibraryBroken g → ⊥
none_broken stands g none h = h.broken (stands h.judged g.library g.files none h.right)

-- so it is not refused for that
pub not_broken : {T : Type 0} → NoLibraryStands → (g : GuestFiles) (result : Result T AdmitFault) (fault : AdmitFault) → IsErrAnd result (λ e. e ≡ fault)
    → IsNotBegun g fault → g.library ≡ [] → result ≢ Err LibraryBroken
not_broken stands g (Ok t) fault is why none e = cc
not_broken stands g (Err found) fault is why none e = elim why [
  | inl memory ↦
      let short : Err found ≡ Err HostMemory = ap Err (is ∙ memory) in
      let both : Err HostMemory ≡ Err LibraryBroken = sym short ∙ e in
      cc
  | inr broken ↦ none_broken stands g none broken.1
]

-- that of a guest which has begun stands
pub standing : (admission : Admission) (a : Admitted) (before after : Blocks) → HasBegun admission a before after → LibraryStands admission.guest
standing admission a before after h =
    subst LibraryStands (ap (λ (x : Admission). x.guest) h.admission_is)
    (record { judged = h.held.stands.judged; right = h.held.stands.right; stands = h.held.stands.library_stands })
