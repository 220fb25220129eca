-- Where cells are not left for what is to be made, nothing has changed.
use Rattle.std.proofs.Common.{◌≡◌, ℕ, List, refl}
use Rattle.jv_interp_words.specs.declared.registers.Registers.{Registers}
use Rattle.jv_interp_heap.specs.ObjectsInBlocks.{Blocks}
use Rattle.jv_interp_held.specs.declared.held.Held.{Held}
use Rattle.jv_interp_held.specs.Executing.{place}
use Rattle.jv_interp_objects.specs.Payments.{IsLacking}
use Rattle.jv_interp_objects.specs.Literals.{NothingGiven}

pub lacking_unmoved :
    (at : Registers) (words : List ℕ) (held : Held) (cost cells : ℕ) (before after : Blocks) → IsLacking cost held.cells cells before after
    → place at words (record held { cells = cells }) after ≡ place at words held before
lacking_unmoved at words held cost cells before after lacks = rw lacks.same_cells (rw lacks.same refl)

pub nothing_unmoved :
    (at : Registers) (words : List ℕ) (held held_after : Held) (before after : Blocks) → NothingGiven held held_after before after
    → place at words held_after after ≡ place at words held before
nothing_unmoved at words held held_after before after nothing = rw nothing.same_held (rw nothing.same refl)
