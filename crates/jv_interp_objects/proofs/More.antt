-- A guest's memory with more objects, in new blocks.
use Rattle.std.proofs.Common.{◌≡◌, ℕ, zero, suc, ◌+◌, ◌-◌, List, [], ◌∷◌, ◌++◌, Option, Some, None, length, slice_get, sym, ap, arith}
use Rattle.jv_meaning_world.specs.World.{World}
use Rattle.jv_meaning_machine.specs.Literals.{literal_in}
use Rattle.jv_meaning_machine.specs.Objects.{Object}
use Rattle.jv_meaning_machine.specs.State.{Memory}
use Rattle.jv_meaning_machine.specs.Initialization.{main_arguments}
use Rattle.jv_meaning_machine.specs.Effects.{out_of_memory}
use Rattle.jv_interp_heap.specs.ObjectsInBlocks.{Blocks, ObjectsStand}
use Rattle.jv_interp_heap.proofs.Grown.{get_more, fields_grown}
use Rattle.jv_interp_held.specs.declared.held.Held.{Held}
use Rattle.jv_interp_held.specs.HeldInWords.{static_fields, IsLiteral, AreLiterals, MemoryStands}

-- ---- memory

literal_grown : (addresses more : List ℕ) (o : Option ℕ) (address : ℕ) → IsLiteral addresses o address → IsLiteral (addresses ++ more) o address
literal_grown addresses more None address h = h
literal_grown addresses more (Some object) address h = get_more addresses more object address h

pub literals_grown :
    (texts : List (List ℕ)) (addresses more : List ℕ) (literals : List (List ℕ × ℕ)) (kept : List ℕ) → AreLiterals texts addresses literals kept
    → AreLiterals texts (addresses ++ more) literals kept
literals_grown texts addresses more literals kept h = record {
  count = h.count;
  each = λ number text address a b. literal_grown addresses more (literal_in text literals) address (h.each number text address a b);
  differ = h.differ;
  among = h.among;
}

module _ (world : World) (texts : List (List ℕ)) (memory : Memory) (addresses more : List ℕ) (held : Held) (before after : Blocks) (objects : List Object)
    (h : MemoryStands world texts memory addresses held before) (stand : ObjectsStand world (memory.objects ++ objects) (addresses ++ more) after) where
  -- with fewer cells
  pub memory_grown :
      (cost left : ℕ) → left + cost ≡ held.cells
      → MemoryStands world texts (record memory { objects = memory.objects ++ objects; cells = memory.cells - cost }) (addresses ++ more)
      (record held { cells = left }) after
  memory_grown cost left paid = record {
    objects = stand;
    statics = fields_grown addresses more (static_fields world) memory.statics held.statics.items h.statics;
    literals = literals_grown texts addresses more memory.literals held.literals.items h.literals;
    error_stands = get_more addresses more out_of_memory held.out_of_memory h.error_stands;
    arguments_stand = get_more addresses more main_arguments held.arguments h.arguments_stand;
    cells = let same = h.cells in omega (arith, same, paid);
    output_left = h.output_left;
    output = h.output;
    output_room = h.output_room;
    read_within = h.read_within;
    input = h.input;
  }

-- the next one is the last
pub last_place : {A : Type 0} (all : List A) (a : A) (n : ℕ) → length all ≡ n → slice_get (all ++ a ∷ []) n ≡ Some a
last_place [] a n e = ap (λ (k : ℕ). slice_get (a ∷ []) k) (sym e)
last_place (first ∷ more) a zero e = absurd (omega (arith, e))
last_place (first ∷ more) a (suc n) e = last_place more a n (omega (arith, e))
