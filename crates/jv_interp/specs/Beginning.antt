-- A guest at its start (JVMS 5.2; own).
use Rattle.std.specs.Prelude.{ℕ, List, []}
use Rattle.jv_meaning_world.specs.Library.{with_library}
use Rattle.jv_meaning_machine.specs.Alone.{GuestFiles, Stands}
use Rattle.jv_verify.specs.Files.{Verified, AreFilesOf}
use Rattle.jv_interp_heap.specs.ObjectsInBlocks.{Blocks}
use Rattle.jv_interp_held.specs.Growing.{Grows}
use Rattle.jv_interp.specs.declared.budget.Budget.{Budget}
use Rattle.jv_interp.specs.Started.{budget_of}
use Rattle.jv_interp.specs.declared.guest.Guest.{Guest}
use Rattle.jv_interp.specs.Standing.{GuestStands}

abbrev pub guest_with : (library files : List (List ℕ)) → (main input : List ℕ) → GuestFiles
guest_with library files main input = record { library = library; files = files; main = main; input = input }

-- It stands for the start, under addresses of new blocks; and all that there were are as they were.
pub record Begins (library files : List (List ℕ)) (main input : List ℕ) (budget : Budget) (before : Blocks) (guest : Guest)
    (after : Blocks) : Type 0 where
  pub addresses : List ℕ
  pub stands : GuestStands (guest_with library files main input) (budget_of budget) [] 0 addresses guest after
  pub grows : Grows [] addresses before after

-- There are files of a guest with these classes and verdicts, and of a library that stands beside them.
abbrev pub HasStanding : Verified → Type 0
HasStanding judged =
    (library files : List (List ℕ)) × (are : AreFilesOf library files judged) × Stands judged.world (with_library are.given)

abbrev pub HasBegun : Verified → List ℕ → List ℕ → Budget → Blocks → Guest → Blocks → Type 0
HasBegun judged main input budget before guest after =
    (library files : List (List ℕ)) (are : AreFilesOf library files judged) → Stands judged.world (with_library are.given)
    → Begins library files main input budget before guest after
