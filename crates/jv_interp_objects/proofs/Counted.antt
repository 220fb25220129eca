-- newarray and anewarray on words: what the machine does stands afterwards.
use Rattle.std.proofs.Common.{◌≡◌, ℕ, suc, ◌+◌, ◌-◌, ◌*◌, ◌<◌, ◌≤◌, ℤ, pos, negsuc, List, [], ◌∷◌, ◌++◌, Ok, Err, length, replicate, set, get_or, drop, refl, sym, ap, subst, ◌∙◌, arith}
use Rattle.std.specs.Int.{w32, cast_signed}
use Rattle.std.proofs.lemmas.Int.{to_z_pos}
use Rattle.std.proofs.Math.Facts.{to_z-neg}
use Rattle.jv_text.specs.declared.descriptor.FieldTypeOf.{FieldTypeOf}
use Rattle.jv_text.specs.Descriptor.{field_slots}
use Rattle.jv_stackmap.specs.declared.verification.VerificationTypeOf.TheVariants as types
use Rattle.jv_stackmap.specs.Types.{value_type, width}
use Rattle.jv_code.specs.declared.kinds.ElementType.{ElementType}
use Rattle.jv_code.specs.declared.kinds.ElementType.TheVariants as elements
use Rattle.jv_code.specs.declared.insn.Insn.TheVariants as insns
use Rattle.jv_meaning_world.specs.World.{World}
use Rattle.jv_meaning_machine.specs.Faults.{OrFault, ◌>>=◌}
use Rattle.jv_meaning_machine.specs.Values.{Value}
use Rattle.jv_meaning_machine.specs.Values.Value.{Int, Reference}
use Rattle.jv_meaning_machine.specs.Objects.{new_array}
use Rattle.jv_meaning_machine.specs.State.{Memory}
use Rattle.jv_meaning_machine.specs.Costs.{array_cells, paid, next_object}
use Rattle.jv_meaning_machine.specs.Operands.{taken_as}
use Rattle.jv_meaning_machine.specs.Effects.{Effect, Context, out_of_memory, negative_size}
use Rattle.jv_meaning_machine.specs.Effects.Effect.{Goes, Throws, Raises}
use Rattle.jv_meaning_machine.specs.Arithmetic.{as_int, one}
use Rattle.jv_meaning_machine.specs.Arrays.{push_arrays, make_array, base_of, base_components}
use Rattle.jv_meaning_machine.specs.Instructions.{execute}
use Rattle.jv_interp_words.specs.declared.registers.Registers.{Registers}
use Rattle.jv_interp_words.specs.FramesInWords.{in_use}
use Rattle.jv_interp_words.proofs.Gave.{bound_gave, int_gave}
use Rattle.jv_interp_words.proofs.Taken.{taken_gave}
use Rattle.jv_interp_words.proofs.Grown.{frame_grown}
use Rattle.jv_interp_words.proofs.InUse.{in_use_top, in_use_pushed}
use Rattle.jv_interp_heap.specs.ObjectsInBlocks.{Blocks, HasNumber}
use Rattle.jv_interp_heap.proofs.NewObjects.{array_joined}
use Rattle.jv_interp_heap.specs.NewBlocks.{Joins}
use Rattle.jv_interp_held.specs.declared.effect.Effect.TheVariants as effects
use Rattle.jv_interp_held.specs.Executing.{Place, place}
use Rattle.jv_interp_held.specs.Growing.{DidIn}
use Rattle.jv_interp_heap.proofs.Numbered.{system_numbers}
use Rattle.jv_interp_held.proofs.Popped.{Popped, frame_popped, frame_pushed, some_used}
use Rattle.jv_interp_objects.specs.Payments.{IsLacking, IsMade}
use Rattle.jv_interp_objects.specs.Arrays.{array_of, MakingArray, MakingBaseArray}
use Rattle.jv_interp_held.proofs.Growths.{joined_grows}
use Rattle.jv_interp_objects.proofs.More.{memory_grown, last_place}
use Rattle.jv_interp_objects.proofs.Went.{done_same, paid_lacks, paid_left, lacks_in, raises_in, goes_in}

-- ---- the count, by its word

pub small_count : (word : ℕ) → word ≤ 2147483647 → cast_signed w32 word ≡ pos word
small_count word h = to_z_pos w32 word (omega (arith, h))

pub negative_count : (word : ℕ) → 2147483647 < word → word < 4294967296 → cast_signed w32 word ≡ negsuc (4294967295 - word)
negative_count word h k =
    let small : 4294967295 - word < 2147483648 = omega (arith, h, k) in
    let back : 4294967296 - suc (4294967295 - word) ≡ word = omega (arith, h, k) in
    subst (λ (n : ℕ). cast_signed w32 n ≡ negsuc (4294967295 - word)) back (to_z-neg w32 (4294967295 - word) small)

-- ---- what the machine does

pub record TakesCount (c : Context) (components : FieldTypeOf (List ℕ)) (done : Memory × Effect) : Type 0 where
  pub count : ℤ
  pub rest : List Value
  pub stood : c.frame.stack ≡ Int count ∷ rest
  pub does : make_array c components count rest ≡ Ok done

pub takes_count : (c : Context) (components : FieldTypeOf (List ℕ)) (done : Memory × Effect) → array_of components c ≡ Ok done → TakesCount c components done
takes_count c components done e =
    let top =
    bound_gave (taken_as c.memory.objects types.Int c.frame.stack)
    (λ (t : Value × List Value). as_int t.0 >>= λ count. make_array c components count t.1) done e in
    let count = bound_gave (as_int top.0.0) (λ (n : ℤ). make_array c components n top.0.1) done top.2 in
    record {
      count = count.0;
      rest = top.0.1;
      stood =
          taken_gave c.memory.objects types.Int c.frame.stack top.0 top.1
          ∙ ap (λ (v : Value). v ∷ top.0.1) (int_gave top.0.0 count.0 count.1);
      does = count.2;
    }

module _ (word slots next : ℕ) (here : Place) (texts : List (List ℕ)) (c : Context) (components : FieldTypeOf (List ℕ)) (addresses : List ℕ) (done : Memory × Effect) (below : List ℕ)
    (h : MakingArray word slots next here texts c components addresses done below) where
  pub t : TakesCount c components done
  t = takes_count c components done h.executes.does

  pub top : Popped addresses c.frame.locals (Int t.count) t.rest (in_use here.words here.at.top) below
  top = frame_popped addresses c.frame.locals c.frame.stack (Int t.count) t.rest (in_use here.words here.at.top) below h.executes.frame t.stood

  pub some : 1 ≤ here.at.top
  some = some_used addresses (Int t.count) here.words here.at.top top.under h.executes.top_within top.on_top

  pub within : here.at.top ≤ length here.words
  within = h.executes.top_within

  abbrev count : ℕ
  count = get_or here.words (here.at.top - 1) 0

  both : top.on_top.0 ∷ top.under ≡ count ∷ in_use here.words (here.at.top - 1)
  both = sym top.on_top.1 ∙ in_use_top here.words here.at.top some h.executes.top_within

  under_is : top.under ≡ in_use here.words (here.at.top - 1)
  under_is = ap (λ (l : List ℕ). drop 1 l) both

  count_is : t.count ≡ cast_signed w32 count
  count_is = top.on_top.2 ∙ ap (λ (l : List ℕ). cast_signed w32 (get_or l 0 0)) both

  -- ---- a negative one

  pub raises : 2147483647 < count → count < 4294967296 → DidIn here.blocks texts here (effects.Raises 14) c addresses done below
  raises negative fits =
      raises_in (array_of components) texts next here c addresses done below h.executes negative_size 14
      (done_same (c.memory, Raises negative_size) done
      (sym (ap (λ (n : ℤ). make_array c components n t.rest) (count_is ∙ negative_count count negative fits)) ∙ t.does))
      (subst (λ (w : World). HasNumber w negative_size 14) (sym h.guests.world_is) (system_numbers h.guests.given h.guests.contents).negative_size)

  -- ---- an array

  abbrev cost : ℕ
  cost = array_cells components count

  cost_is : cost ≡ 2 + count * slots
  cost_is = ap (λ (n : ℕ). 2 + count * n) h.cells_are

  does : count ≤ 2147483647 → push_arrays c components (count ∷ []) t.rest (paid cost c.memory) ≡ Ok done
  does small = sym (ap (λ (n : ℤ). make_array c components n t.rest) (count_is ∙ small_count count small)) ∙ t.does

  pub lacking : (cells : ℕ) (after : Blocks) → count ≤ 2147483647 → IsLacking (2 + count * slots) here.held.cells cells here.blocks after →
      DidIn here.blocks texts (place here.at here.words (record here.held { cells = cells }) after) (effects.Throws here.held.out_of_memory) c
      addresses done below
  lacking cells after small lacks =
      let fewer : c.memory.cells < cost = let a = h.executes.memory.cells in let b = lacks.lacks in let e = cost_is in omega (arith, a, b, e) in
      lacks_in (array_of components) texts next here c addresses done below h.executes cells after
      (done_same (c.memory, Throws out_of_memory) done
      (sym (ap (push_arrays c components (count ∷ []) t.rest) (paid_lacks cost c.memory fewer)) ∙ does small))
      lacks.same_cells lacks.same

  pub made :
      (cells : ℕ) (after : Blocks) (address : ℕ) (at : Registers) → count ≤ 2147483647
      → IsMade (word ∷ count ∷ replicate (count * slots) 0) (2 + count * slots) here.held.cells cells here.blocks after address → at.pc ≡ next
      → at.top ≡ here.at.top
      → DidIn here.blocks texts (place at (set here.words (here.at.top - 1) address) (record here.held { cells = cells }) after) effects.Goes c addresses done below
  made cells after address at small new pc_is top_is =
      let enough : cost ≤ c.memory.cells = let a = h.executes.memory.cells in let b = new.paid in let e = cost_is in omega (arith, a, b, e) in
      let left : cells + cost ≡ here.held.cells = let b = new.paid in let e = cost_is in omega (arith, b, e) in
      let is : done ≡ (
        record c.memory { objects = c.memory.objects ++ new_array components count ∷ []; cells = c.memory.cells - cost },
        Goes c.next c.frame.locals (Reference (next_object c.memory) ∷ t.rest),
      ) =
      done_same (
        record c.memory { objects = c.memory.objects ++ new_array components count ∷ []; cells = c.memory.cells - cost },
        Goes c.next c.frame.locals (Reference (next_object c.memory) ∷ t.rest),
      ) done
      (sym (ap (push_arrays c components (count ∷ []) t.rest) (paid_left cost c.memory enough)) ∙ does small) in
      let joins : Joins (word ∷ count ∷ replicate (count * width (value_type components)) 0) here.blocks after address =
      subst (λ (n : ℕ). Joins (word ∷ count ∷ replicate (count * n) 0) here.blocks after address) (sym h.slots_are) new.joins in
      let few : count < 2147483648 = omega (arith, small) in
      let stand =
      array_joined c.program.world c.memory.objects addresses here.blocks after components word count address h.executes.memory.objects h.type few joins in
      let less : here.at.top - 1 < length here.words = let a = within in let b = some in omega (arith, a, b) in
      let up : here.at.top - 1 + 1 ≡ at.top = let b = some in omega (arith, b, top_is) in
      let used =
      subst (λ (n : ℕ). in_use (set here.words (here.at.top - 1) address) n ≡ address ∷ in_use here.words (here.at.top - 1)) up
      (in_use_pushed here.words (here.at.top - 1) address less) in
      let lower = frame_grown addresses (address ∷ []) c.frame.locals t.rest top.under below top.lower in
      goes_in (array_of components) texts next here c addresses done below h.executes at (set here.words (here.at.top - 1) address) (record here.held { cells = cells }) after
      (address ∷ []) _ (Reference (next_object c.memory) ∷ t.rest) is pc_is
      (frame_pushed (addresses ++ address ∷ []) c.frame.locals (Reference (next_object c.memory)) t.rest (in_use (set here.words (here.at.top - 1) address) at.top)
      top.under below lower (address, used ∙ ap (λ (u : List ℕ). address ∷ u) (sym under_is), last_place addresses address (next_object c.memory) h.executes.memory.objects.count))
      (memory_grown c.program.world texts c.memory addresses (address ∷ []) here.held here.blocks after (new_array components count ∷ []) h.executes.memory stand cost cells left)
      (joined_grows addresses (word ∷ count ∷ replicate (count * slots) 0) here.blocks after address new.joins)

-- ---- newarray

-- the same part of the machine
pub same_part : (c : Context) (element : ElementType) → execute c (insns.NewArray element) ≡ array_of (base_components (base_of element)) c
same_part c element = by_top (taken_as c.memory.objects types.Int c.frame.stack)
  where
    by_top :
        (o : OrFault (Value × List Value))
        → (◌>>=◌ {A = Value × List Value} {B = List Value × List Value} o (λ t. Ok (t.0 ∷ [], t.1)) >>= λ operands. one operands.0 >>= as_int >>=
        λ count. make_array c (base_components (base_of element)) count operands.1)
        ≡ (o >>= λ t. as_int t.0 >>= λ count. make_array c (base_components (base_of element)) count t.1)
    by_top (Ok taken) = refl
    by_top (Err fault) = refl

as_wide : (element : ElementType) → field_slots (base_components (base_of element)) ≡ width (value_type (base_components (base_of element)))
as_wide elements.Boolean = refl
as_wide elements.Char = refl
as_wide elements.Byte = refl
as_wide elements.Short = refl
as_wide elements.Int = refl
as_wide elements.Long = refl

pub base_array :
    (word slots next : ℕ) (here : Place) (texts : List (List ℕ)) (c : Context) (element : ElementType) (addresses : List ℕ) (done : Memory × Effect) (below : List ℕ)
    → MakingBaseArray word slots next here texts c element addresses done below
    → MakingArray word slots next here texts c (base_components (base_of element)) addresses done below
base_array word slots next here texts c element addresses done below h = record {
  executes = record {
    does = sym (same_part c element) ∙ h.executes.does;
    frame = h.executes.frame;
    memory = h.executes.memory;
    base_is = h.executes.base_is;
    pc_is = h.executes.pc_is;
    next_is = h.executes.next_is;
    top_within = h.executes.top_within;
  };
  type = h.type;
  slots_are = h.slots_are;
  cells_are = as_wide element ∙ h.slots_are;
  guests = h.guests;
}
