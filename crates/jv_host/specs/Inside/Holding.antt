-- What the code keeps of the guests that were admitted, over one store.
use Rattle.std.specs.Prelude.{◌≡◌, ◌⊎◌, ℕ, suc, ◌+◌, ◌≤◌, List, [], ◌∷◌, ◌++◌, length, map, Some, slice_get}
use Rattle.jv_store.specs.Content.{words_held}
use Rattle.jv_meaning_machine.specs.Alone.{Feed, GuestFiles}
use Rattle.jv_interp_heap.specs.ObjectsInBlocks.{Blocks}
use Rattle.jv_interp_held.specs.Growing.{Grows, words_under}
use Rattle.jv_interp.specs.Started.{budget_of}
use Rattle.jv_interp.specs.Standing.{GuestStands, AreApart}
use Rattle.jv_host.specs.declared.admission.Fed.{Fed}
use Rattle.jv_host.specs.declared.admission.Admitted.{Admitted}
use Rattle.jv_limits.specs.declared.fault.AdmitFault.{AdmitFault}
use Rattle.jv_limits.specs.declared.fault.AdmitFault.TheVariants.{HostMemory, LibraryBroken}
use Rattle.jv_host.specs.Files.{guest_of}
use Rattle.jv_host.specs.Host.{Admission, input_bytes}
use Rattle.jv_host.specs.Limits.{IsLibraryBroken}

abbrev pub feed_of : Fed → Feed
feed_of fed = record { own_step = fed.own_step; bytes = fed.bytes.items }

abbrev pub admission_of : Admitted → Admission
admission_of a = record {
  guest = guest_of a.files;
  budget = budget_of a.budget;
  feeds = map feed_of a.feeds.items;
  steps = a.guest.steps;
}

-- ---- one guest

-- A guest stands, under addresses of the store, for itself alone after its own steps. It is known how many bytes came to its input, and
-- that its budget is one that the host allows.
pub record IsHeld (a : Admitted) (addresses : List ℕ) (blocks : Blocks) : Type 0 where
  pub stands : GuestStands (guest_of a.files) (budget_of a.budget) (map feed_of a.feeds.items) a.guest.steps addresses a.guest blocks
  pub came : a.came ≡ input_bytes (admission_of a)
  pub few : a.came ≤ 16777216
  pub least : 64 ≤ a.budget.cells
  pub most : a.budget.cells ≤ 16777216

abbrev pub IsSomeHeld : Admitted → Blocks → Type 0
IsSomeHeld a blocks = (addresses : List ℕ) × IsHeld a addresses blocks

-- What one guest did changes nothing of the blocks of others, and it stands after it under the same addresses and further ones.
pub record Goes (after : Admitted) (addresses : List ℕ) (blocks blocks_after : Blocks) : Type 0 where
  pub more : List ℕ
  pub held : IsHeld after (addresses ++ more) blocks_after
  pub grows : Grows addresses more blocks blocks_after

abbrev pub GoesOn : Admitted → Admitted → Blocks → Blocks → Type 0
GoesOn before after blocks blocks_after = (addresses : List ℕ) → IsHeld before addresses blocks → Goes after addresses blocks blocks_after

-- ---- all guests

abbrev pub cells_of : Admitted → ℕ
cells_of a = a.guest.held.cells

abbrev pub sum_over : {X : Type 0} → (X → ℕ) → List X → ℕ
sum_over count [] = 0
sum_over count (x ∷ xs) = count x + sum_over count xs

-- the cells that they have left
abbrev pub cells_left : List Admitted → ℕ
cells_left guests = sum_over cells_of guests

-- the words of the objects that they have
abbrev pub words_of : (ℕ → List ℕ) → List Admitted → Blocks → ℕ
words_of addresses [] blocks = 0
words_of addresses (a ∷ more) blocks = words_under (addresses 0) blocks + words_of (λ id. addresses (suc id)) more blocks

-- Each stands under addresses of its own, by its number; no two have one in common; and the store has the words of their objects and room
-- for the cells that they have left, and nothing else.
pub record AreHeld (guests : List Admitted) (room : ℕ) (blocks : Blocks) : Type 0 where
  pub addresses : ℕ → List ℕ
  pub each : (id : ℕ) (a : Admitted) → slice_get guests id ≡ Some a → IsHeld a (addresses id) blocks
  pub apart :
      (one other : ℕ) (a b : Admitted) → slice_get guests one ≡ Some a → slice_get guests other ≡ Some b → (one ≡ other → ⊥)
      → AreApart (addresses one) (addresses other)
  pub room_is : room ≡ cells_left guests
  pub words : words_held blocks ≡ words_of addresses guests blocks
  pub few : length guests ≤ 64

-- ---- what single calls do

-- a guest is at its start, under addresses of new blocks, and the blocks of others are as they were
pub record HasBegun (admission : Admission) (a : Admitted) (blocks blocks_after : Blocks) : Type 0 where
  pub admission_is : admission_of a ≡ admission
  pub addresses : List ℕ
  pub held : IsHeld a addresses blocks_after
  pub grows : Grows [] addresses blocks blocks_after

-- why a guest that is otherwise allowed was not begun
abbrev pub IsNotBegun : GuestFiles → AdmitFault → Type 0
IsNotBegun g fault = (fault ≡ HostMemory) ⊎ ((fault ≡ LibraryBroken) × IsLibraryBroken g)

-- what holds of a guest holds of it still, whatever the store's blocks are
abbrev pub StaysHeld : Admitted → Admitted → Type 0
StaysHeld before after = (addresses : List ℕ) (blocks : Blocks) → IsHeld before addresses blocks → IsHeld after addresses blocks
