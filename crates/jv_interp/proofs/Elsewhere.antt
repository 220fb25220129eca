-- A step of one guest changes nothing of another (own).
use Rattle.std.proofs.Common.{◌≡◌, ℕ, zero, suc, ◌<◌, List, [], ◌∷◌, ◌++◌, Some, Contains, inl, inr, length, get_or, slice_get, sym, ap, subst, arith}
use Rattle.std.proofs.lemmas.List.Elements.{Contains-append_cases}
use Rattle.jv_meaning_world.specs.World.{World}
use Rattle.jv_meaning_machine.specs.Objects.{Object}
use Rattle.jv_meaning_machine.specs.State.{Memory}
use Rattle.jv_meaning_machine.specs.Start.{Budget}
use Rattle.jv_meaning_machine.specs.Alone.{GuestFiles, Feed}
use Rattle.jv_interp_heap.specs.ObjectsInBlocks.{Blocks, ObjectStands, ObjectsStand}
use Rattle.jv_interp_held.specs.declared.held.Held.{Held}
use Rattle.jv_interp_held.specs.HeldInWords.{MemoryStands}
use Rattle.jv_interp_held.specs.Growing.{Grows}
use Rattle.jv_interp_held.proofs.Growths.{there_in}
use Rattle.jv_interp.specs.declared.guest.Guest.{Guest}
use Rattle.jv_interp.specs.Standing.{GuestStands, AreApart}

objects_elsewhere :
    (world : World) (objects : List Object) (own addresses more : List ℕ) (before after : Blocks) → AreApart own addresses → Grows addresses more before after
    → ObjectsStand world objects own before → ObjectsStand world objects own after
objects_elsewhere world objects own addresses more before after apart grows h = record {
  count = h.count;
  are = h.are;
  held = λ id address at. let low = h.held id address at in let up = grows.no_lower in omega (arith, low, up);
  each =
      λ id address object at is.
      subst (λ (ws : List ℕ). ObjectStands world own object ws)
      (sym (grows.others address (h.held id address at) (λ inside. apart address (there_in own id address at) inside)))
      (h.each id address object at is);
}

memory_elsewhere :
    (world : World) (texts : List (List ℕ)) (memory : Memory) (own addresses more : List ℕ) (held : Held) (before after : Blocks) → AreApart own addresses
    → Grows addresses more before after → MemoryStands world texts memory own held before → MemoryStands world texts memory own held after
memory_elsewhere world texts memory own addresses more held before after apart grows h = record {
  objects = objects_elsewhere world memory.objects own addresses more before after apart grows h.objects;
  statics = h.statics;
  literals = h.literals;
  error_stands = h.error_stands;
  arguments_stand = h.arguments_stand;
  cells = h.cells;
  output_left = h.output_left;
  output = h.output;
  output_room = h.output_room;
  read_within = h.read_within;
  input = h.input;
}

pub stands_elsewhere :
    (g : GuestFiles) (b : Budget) (feeds : List Feed) (n : ℕ) (own addresses more : List ℕ) (guest : Guest) (before after : Blocks) → AreApart own addresses
    → Grows addresses more before after → GuestStands g b feeds n own guest before → GuestStands g b feeds n own guest after
stands_elsewhere g b feeds n own addresses more guest before after apart grows h = record {
  judged = h.judged;
  right = h.right;
  library_stands = h.library_stands;
  world_is = h.world_is;
  verdicts_are = h.verdicts_are;
  verified_are = h.verified_are;
  tables = h.tables;
  came = h.came;
  state = h.state;
  ran = h.ran;
  stands = record {
    frames = h.stands.frames;
    control = h.stands.control;
    memory = memory_elsewhere h.judged.program.world guest.texts.names h.state.memory own addresses more guest.held before after apart grows h.stands.memory;
  };
  steps_are = h.steps_are;
  few_cells = h.few_cells;
}

at_place : (xs : List ℕ) (k x : ℕ) → k < length xs → get_or xs k x ≡ x → slice_get xs k ≡ Some x
at_place [] k x less e = absurd (omega (arith, less))
at_place (y ∷ ys) zero x less e = ap Some e
at_place (y ∷ ys) (suc k) x less e = at_place ys k x (omega (arith, less)) e

pub held_at : (xs : List ℕ) (x : ℕ) → Contains xs x → (k : ℕ) × (slice_get xs k ≡ Some x)
held_at xs x c = (c.0, at_place xs c.0 x c.1 c.2)

-- and its new objects are none of the other's
pub still_apart :
    (g : GuestFiles) (b : Budget) (feeds : List Feed) (n : ℕ) (own addresses more : List ℕ) (guest : Guest) (before after : Blocks) → AreApart own addresses
    → Grows addresses more before after → GuestStands g b feeds n own guest before → AreApart own (addresses ++ more)
still_apart g b feeds n own addresses more guest before after apart grows h address mine theirs =
    elim (Contains-append_cases addresses more address theirs) [
      | inl old ↦ apart address mine old
      | inr new ↦
          let up = grows.above address new in
          let at = held_at own address mine in
          let low = h.stands.memory.objects.held at.0 address at.1 in
          omega (arith, up, low)
    ]
