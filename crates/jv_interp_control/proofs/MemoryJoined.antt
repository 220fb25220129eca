-- An exception that the machine makes joins the objects of a memory (JVMS 2.4; own).
use Rattle.std.proofs.Common.{◌≡◌, ℕ, ◌+◌, ◌-◌, ◌<◌, ◌≤◌, nat_le, Bool, true, false, List, [], ◌∷◌, ◌++◌, Option, Some, None, length, drop, replicate, slice_get, refl, sym, ap, subst, ◌∙◌, arith, append-nil, if◌then◌else◌}
use Rattle.std.specs.Prelude.{unwrap_or, vec_capacity}
use Rattle.std.proofs.lemmas.Grind.{common_steps}
use Rattle.jv_meaning_world.specs.World.{Loaded, World}
use Rattle.jv_meaning_typing.specs.Layout.{object_words, object_cells}
use Rattle.jv_meaning_machine.specs.Objects.{Object, made_object}
use Rattle.jv_meaning_machine.specs.State.{Memory}
use Rattle.jv_meaning_machine.specs.Costs.{paid}
use Rattle.jv_meaning_machine.specs.Effects.{out_of_memory}
use Rattle.jv_meaning_machine.specs.Literals.{literal_in}
use Rattle.jv_meaning_machine.specs.Throws.{exception_made}
use Rattle.jv_interp_heap.specs.ObjectsInBlocks.{Blocks, HasNumber, ObjectsStand}
use Rattle.jv_interp_heap.proofs.Grown.{get_more, fields_grown}
use Rattle.jv_interp_heap.proofs.NewObjects.{instance_joined}
use Rattle.jv_interp_held.specs.declared.held.Held.{Held}
use Rattle.jv_interp_held.specs.HeldInWords.{static_fields, IsLiteral, AreLiterals, MemoryStands}
use Rattle.jv_interp_held.specs.Growing.{Grows}
use Rattle.jv_interp_held.proofs.Growths.{grows_not, joined_grows}
use Rattle.jv_interp_control.specs.Exceptions.{IsMade}

-- ---- what stood under the addresses stands under more

pub literals_grown :
    (texts : List (List ℕ)) (addresses more : List ℕ) (literals : List (List ℕ × ℕ)) (kept : List ℕ) → AreLiterals texts addresses literals kept
    → AreLiterals texts (addresses ++ more) literals kept
literals_grown texts addresses more literals kept h = record {
  count = h.count;
  each = λ number text address e f. by_object (literal_in text literals) address (h.each number text address e f);
  differ = h.differ;
  among = h.among;
}
  where
    by_object : (o : Option ℕ) (address : ℕ) → IsLiteral addresses o address → IsLiteral (addresses ++ more) o address
    by_object None address h = h
    by_object (Some object) address h = get_more addresses more object address h

-- the objects with one more, and fewer cells
pub memory_joined :
    (world : World) (texts : List (List ℕ)) (memory : Memory) (addresses more : List ℕ) (held after : Held) (before blocks : Blocks)
    (objects : List Object) (cells : ℕ) → MemoryStands world texts memory addresses held before
    → ObjectsStand world objects (addresses ++ more) blocks → after ≡ record held { cells = after.cells } → cells ≡ after.cells
    → MemoryStands world texts (record memory { objects = objects; cells = cells }) (addresses ++ more) after blocks
memory_joined world texts memory addresses more held after before blocks objects cells h joined same cells_are = record {
  objects = joined;
  statics =
      subst (λ (g : Held). Rattle.jv_interp_heap.specs.ObjectsInBlocks.AreFields (addresses ++ more) (static_fields world) memory.statics g.statics.items) (sym same)
      (fields_grown addresses more (static_fields world) memory.statics held.statics.items h.statics);
  literals =
      subst (λ (g : Held). AreLiterals texts (addresses ++ more) memory.literals g.literals.items) (sym same)
      (literals_grown texts addresses more memory.literals held.literals.items h.literals);
  error_stands =
      get_more addresses more out_of_memory held.out_of_memory h.error_stands ∙ ap Some (sym (ap (λ (g : Held). g.out_of_memory) same));
  arguments_stand =
      get_more addresses more 1 held.arguments h.arguments_stand ∙ ap Some (sym (ap (λ (g : Held). g.arguments) same));
  cells = cells_are;
  output_left = h.output_left ∙ sym (ap (λ (g : Held). g.output_left) same);
  output = h.output ∙ sym (ap (λ (g : Held). g.output.items) same);
  output_room = subst (λ (g : Held). length g.output.items + g.output_left ≤ vec_capacity g.output) (sym same) h.output_room;
  read_within = subst (λ (g : Held). g.read ≤ length g.input.items) (sym same) h.read_within;
  input = h.input ∙ sym (ap (λ (g : Held). drop g.read g.input.items) same);
}

-- ---- the exception

pub record ExceptionStands (world : World) (texts : List (List ℕ)) (made : Memory × ℕ) (addresses : List ℕ) (address : ℕ) (before : Blocks) (held : Held) (blocks : Blocks) : Type 0 where
  pub more : List ℕ
  pub memory : MemoryStands world texts made.0 (addresses ++ more) held blocks
  pub object : slice_get (addresses ++ more) made.1 ≡ Some address
  pub grows : Grows addresses more before blocks

newest : (addresses : List ℕ) (address : ℕ) → slice_get (addresses ++ address ∷ []) (length addresses) ≡ Some address
newest [] address = refl
newest (a ∷ more) address = newest more address

module _ (world : World) (texts : List (List ℕ)) (memory : Memory) (addresses : List ℕ) (held after : Held) (before blocks : Blocks)
    (class words : ℕ) (h : MemoryStands world texts memory addresses held before) (same : after ≡ record held { cells = after.cells })
    (few : class < 2147483648) where
  kept_same : held.cells ≡ after.cells → after ≡ held
  kept_same e = same ∙ ap (λ (n : ℕ). record held { cells = n }) (sym e)

  pub made_of :
      (l : Loaded) (address : Option ℕ) → (number : HasNumber world l.class.name class) → number.l ≡ l → object_words world l ≡ words
      → IsMade class words held.cells after.cells before blocks address
      → ExceptionStands world texts (exception_made world l memory (paid (object_cells world l) memory)) addresses (unwrap_or address held.out_of_memory) before after blocks
  made_of l None number is size made =
      let lacks : nat_le (object_cells world l) memory.cells ≡ false = let c = h.cells in let m = made.0 in grind (arith, common_steps) in
      let back = kept_same (sym made.1) in
      subst (λ (b : Bool). ExceptionStands world texts
      (exception_made world l memory (if b then Some (record memory { cells = memory.cells - object_cells world l }) else None)) addresses
      held.out_of_memory before after blocks)
      (sym lacks)
      (record {
        more = [];
        memory =
            subst (λ (l : List ℕ). MemoryStands world texts memory l after blocks) (sym (append-nil addresses))
            (subst (λ (g : Held). MemoryStands world texts memory addresses g blocks) (sym back)
            (subst (λ (c : Blocks). MemoryStands world texts memory addresses held c) (sym made.2) h));
        object = subst (λ (l : List ℕ). slice_get l 0 ≡ Some held.out_of_memory) (sym (append-nil addresses)) h.error_stands;
        grows = subst (λ (c : Blocks). Grows addresses [] before c) (sym made.2) (grows_not addresses before);
      })
  made_of l (Some address) number is size made =
      let fits : nat_le (object_cells world l) memory.cells ≡ true = let c = h.cells in let m = made.0 in grind (arith, common_steps) in
      let cells : memory.cells - object_cells world l ≡ after.cells = let c = h.cells in let m = made.0 in omega (arith, c, m, size) in
      let objects = instance_joined world memory.objects addresses before blocks true l class address words h.objects number is few size made.1 in
      let there : length addresses ≡ length memory.objects = h.objects.count in
      subst (λ (b : Bool). ExceptionStands world texts
      (exception_made world l memory (if b then Some (record memory { cells = memory.cells - object_cells world l }) else None)) addresses address
      before after blocks)
      (sym fits)
      (record {
        more = address ∷ [];
        memory = memory_joined world texts memory addresses (address ∷ []) held after before blocks (memory.objects ++ made_object world l ∷ [])
            (memory.cells - object_cells world l) h objects same cells;
        object = subst (λ (n : ℕ). slice_get (addresses ++ address ∷ []) n ≡ Some address) there (newest addresses address);
        grows = joined_grows addresses (class ∷ replicate words 0) before blocks address made.1;
      })
