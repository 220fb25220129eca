-- What aastore does in the machine, inverted, and the three words on top of its frame.
use Rattle.std.proofs.Common.{◌≡◌, ℕ, zero, suc, ◌-◌, ◌≤◌, ℤ, Bool, true, List, [], ◌∷◌, Some, Ok, length, get_or, drop, refl, sym, ap, subst, ◌∙◌, arith, slice_get}
use Rattle.std.specs.Prelude.{codes}
use Rattle.std.specs.Int.{w32, cast_signed}
use Rattle.jv_text.specs.declared.descriptor.Element.{Element}
use Rattle.jv_text.specs.declared.descriptor.Element.TheVariants as elements
use Rattle.jv_text.specs.declared.descriptor.FieldTypeOf.{FieldTypeOf}
use Rattle.jv_stackmap.specs.declared.verification.VerificationTypeOf.TheVariants as types
use Rattle.jv_stackmap.specs.Types.{FrameType, value_type, width}
use Rattle.jv_code.specs.declared.insn.Insn.TheVariants as insns
use Rattle.jv_meaning_typing.specs.FrameChanges.{is_reference}
use Rattle.jv_meaning_typing.specs.Named.{class_components, array_with, object_class_type}
use Rattle.jv_meaning_machine.specs.Faults.{OrFault, tested, ◌>>=◌}
use Rattle.jv_meaning_machine.specs.Faults.Fault.{ReferenceFault}
use Rattle.jv_meaning_machine.specs.Values.{Value, is_reference_value, narrowed, narrowed_by}
use Rattle.jv_meaning_machine.specs.Values.Value.{Int, Long, Null, Reference, Half, Unset}
use Rattle.jv_meaning_machine.specs.Objects.{Object, is_instance_of}
use Rattle.jv_meaning_machine.specs.Objects.Object.{ArrayWith}
use Rattle.jv_meaning_machine.specs.State.{Memory}
use Rattle.jv_meaning_machine.specs.Operands.{object_at, taken_as, taken_before, taken}
use Rattle.jv_meaning_machine.specs.Effects.{Effect, Context, world_at}
use Rattle.jv_meaning_machine.specs.Arithmetic.{as_int}
use Rattle.jv_meaning_machine.specs.Arrays.{Components, array_in, holds_references, at_place, can_stand, store_reference, store_reference_at}
use Rattle.jv_meaning_machine.specs.Instructions.{store_in_array, execute}
use Rattle.jv_interp_words.specs.ValuesInWords.{AreAddresses}
use Rattle.jv_interp_words.specs.FramesInWords.{in_use, FrameStands}
use Rattle.jv_interp_words.proofs.Gave.{bound_gave, found_gave, tested_gave, int_gave}
use Rattle.jv_interp_words.proofs.Taken.{taken_gave}
use Rattle.jv_interp_words.proofs.InUse.{in_use_top}
use Rattle.jv_interp_heap.specs.ObjectsInBlocks.{IsIn}
use Rattle.jv_interp_held.proofs.Popped.{frame_popped, some_used}
use Rattle.jv_interp_objects.proofs.Loaded.{array_there}
use Rattle.jv_interp_objects.proofs.Thrice.{taken_kind}
use Rattle.jv_interp_objects.proofs.TopReference.{RefersTo, reference_on_top}

-- ---- the operands

abbrev object_array : FrameType
object_array = array_with (class_components (codes "java/lang/Object"))

pub record TakesArray (c : Context) (done : Memory × Effect) : Type 0 where
  pub value : Value
  pub index : ℤ
  pub array : Value
  pub rest : List Value
  pub stood : c.frame.stack ≡ value ∷ Int index ∷ array ∷ rest
  pub value_kind : is_reference_value value ≡ true
  pub array_kind : is_reference_value array ≡ true
  pub does : store_reference c array index value rest ≡ Ok done

operands_same : (a b : List Value × List Value) → ◌≡◌ {A = OrFault (List Value × List Value)} (Ok a) (Ok b) → b ≡ a
operands_same a b e = cc

pub takes_array : (c : Context) (done : Memory × Effect) → execute c insns.ReferenceArrayStore ≡ Ok done → TakesArray c done
takes_array c done e =
    let operands =
    bound_gave (taken c.memory.objects (object_array ∷ types.Int ∷ object_class_type ∷ []) c.frame.stack)
    (λ (o : List Value × List Value). store_in_array c o.0 o.1) done e in
    let value =
    bound_gave (taken_as c.memory.objects object_class_type c.frame.stack)
    (λ (t : Value × List Value). taken_before c.memory.objects (t.0 ∷ []) (types.Int ∷ object_array ∷ []) t.1) operands.0 operands.1 in
    let index =
    bound_gave (taken_as c.memory.objects types.Int value.0.1)
    (λ (t : Value × List Value). taken_before c.memory.objects (t.0 ∷ value.0.0 ∷ []) (object_array ∷ []) t.1) operands.0 value.2 in
    let array =
    bound_gave (taken_as c.memory.objects object_array index.0.1)
    (λ (t : Value × List Value). taken_before c.memory.objects (t.0 ∷ index.0.0 ∷ value.0.0 ∷ []) [] t.1) operands.0 index.2 in
    let all = operands_same (array.0.0 ∷ index.0.0 ∷ value.0.0 ∷ [], array.0.1) operands.0 array.2 in
    let does : store_in_array c (array.0.0 ∷ index.0.0 ∷ value.0.0 ∷ []) array.0.1 ≡ Ok done =
    subst (λ (o : List Value × List Value). store_in_array c o.0 o.1 ≡ Ok done) all operands.2 in
    let number = bound_gave (as_int index.0.0) (λ (n : ℤ). store_reference c array.0.0 n value.0.0 array.0.1) done does in
    record {
      value = value.0.0;
      index = number.0;
      array = array.0.0;
      rest = array.0.1;
      stood =
          taken_gave c.memory.objects object_class_type c.frame.stack value.0 value.1
          ∙ ap (λ (l : List Value). value.0.0 ∷ l)
          (taken_gave c.memory.objects types.Int value.0.1 index.0 index.1 ∙ ap (λ (v : Value). v ∷ index.0.1) (int_gave index.0.0 number.0 number.1)
          ∙ ap (λ (l : List Value). Int number.0 ∷ l) (taken_gave c.memory.objects object_array index.0.1 array.0 array.1));
      value_kind = taken_kind c.memory.objects object_class_type c.frame.stack value.0 value.1;
      array_kind = taken_kind c.memory.objects object_array index.0.1 array.0 array.1;
      does = number.2;
    }

-- ---- the array

pub record StoreOf (c : Context) (index : ℤ) (value : Value) (id : ℕ) (rest : List Value) (done : Memory × Effect) : Type 0 where
  pub components : FieldTypeOf (List ℕ)
  pub values : List Value
  pub there : slice_get c.memory.objects id ≡ Some (ArrayWith components values)
  pub passes : holds_references components ≡ true
  pub does : store_reference_at c id (components, values) index value rest (at_place index values) ≡ Ok done

pub store_of :
    (c : Context) (index : ℤ) (value : Value) (id : ℕ) (rest : List Value) (done : Memory × Effect)
    → store_reference c (Reference id) index value rest ≡ Ok done → StoreOf c index value id rest done
store_of c index value id rest done e =
    let array =
    bound_gave (object_at c.memory.objects id >>= array_in)
    (λ (a : Components).
    tested ReferenceFault (holds_references a.0) a >>= λ a. store_reference_at c id a index value rest (at_place index a.1)) done e in
    let passed =
    bound_gave (tested ReferenceFault (holds_references array.0.0) array.0)
    (λ (a : Components). store_reference_at c id a index value rest (at_place index a.1)) done array.2 in
    let kept = tested_gave ReferenceFault (holds_references array.0.0) array.0 passed.0 passed.1 in
    record {
      components = array.0.0;
      values = array.0.1;
      there = (array_there c.memory.objects id array.0 array.1).there;
      passes = kept.0;
      does = ap (λ (a : Components). store_reference_at c id a index value rest (at_place index a.1)) kept.1 ∙ passed.2;
    }

-- its components have one word, and a reference stands there as it is
pub reference_width : (components : FieldTypeOf (List ℕ)) → holds_references components ≡ true → width (value_type components) ≡ 1
reference_width components h = by_type (value_type components) h
  where
    by_type : (t : FrameType) → is_reference t ≡ true → width t ≡ 1
    by_type types.Null h = refl
    by_type types.UninitializedThis h = refl
    by_type (types.Class name) h = refl
    by_type (types.Array inner) h = refl
    by_type (types.Uninitialized offset) h = refl
    by_type _ h = absurd cc

pub reference_stays : (components : FieldTypeOf (List ℕ)) (value : Value) → is_reference_value value ≡ true → narrowed components value ≡ value
reference_stays components value kind = by_parts components.dimensions components.element value kind
  where
    by_parts : (n : ℕ) (element : Element (List ℕ)) (v : Value) → is_reference_value v ≡ true → narrowed_by n element v ≡ v
    by_parts zero (elements.Base base) Null k = refl
    by_parts zero (elements.Base base) (Reference id) k = refl
    by_parts zero (elements.Base base) (Int n) k = absurd cc
    by_parts zero (elements.Base base) (Long n) k = absurd cc
    by_parts zero (elements.Base base) Half k = absurd cc
    by_parts zero (elements.Base base) Unset k = absurd cc
    by_parts zero (elements.Class name) v k = refl
    by_parts (suc n) element v k = refl

-- ---- the three words on top

pub record ThreeOnTop (addresses : List ℕ) (locals : List Value) (value : Value) (index : ℤ) (array : Value) (rest : List Value) (words : List ℕ) (top : ℕ) (below : List ℕ) : Type 0 where
  pub enough : 3 ≤ top
  pub value_null : get_or words (top - 1) 0 ≡ 0 → value ≡ Null
  pub value_refers : (get_or words (top - 1) 0 ≡ 0 → ⊥) → RefersTo addresses value (get_or words (top - 1) 0)
  pub index_is : index ≡ cast_signed w32 (get_or words (top - 2) 0)
  pub array_null : get_or words (top - 3) 0 ≡ 0 → array ≡ Null
  pub array_refers : (get_or words (top - 3) 0 ≡ 0 → ⊥) → RefersTo addresses array (get_or words (top - 3) 0)
  pub lower : FrameStands addresses locals rest (in_use words (top - 3)) below

pub three_on_top :
    (addresses : List ℕ) (locals stack : List Value) (value : Value) (index : ℤ) (array : Value) (rest : List Value) (words : List ℕ) (top : ℕ) (below : List ℕ)
    → AreAddresses addresses → FrameStands addresses locals stack (in_use words top) below → stack ≡ value ∷ Int index ∷ array ∷ rest
    → is_reference_value value ≡ true → is_reference_value array ≡ true → top ≤ length words
    → ThreeOnTop addresses locals value index array rest words top below
three_on_top addresses locals stack value index array rest words top below are frame stood value_kind array_kind within =
    let first = reference_on_top addresses locals stack value (Int index ∷ array ∷ rest) words top below are frame stood value_kind within in
    let second_within : top - 1 ≤ length words = omega (arith, within) in
    let second = frame_popped addresses locals (Int index ∷ array ∷ rest) (Int index) (array ∷ rest) (in_use words (top - 1)) below first.lower refl in
    let some = some_used addresses (Int index) words (top - 1) second.under second_within second.on_top in
    let both : second.on_top.0 ∷ second.under ≡ get_or words (top - 1 - 1) 0 ∷ in_use words (top - 1 - 1) =
    sym second.on_top.1 ∙ in_use_top words (top - 1) some second_within in
    let two : top - 1 - 1 ≡ top - 2 = omega arith in
    let lower : FrameStands addresses locals (array ∷ rest) (in_use words (top - 2)) below =
    subst (λ (l : List ℕ). FrameStands addresses locals (array ∷ rest) l below) (ap (λ (l : List ℕ). drop 1 l) both ∙ ap (in_use words) two) second.lower in
    let third_within : top - 2 ≤ length words = omega (arith, within) in
    let third = reference_on_top addresses locals (array ∷ rest) array rest words (top - 2) below are lower refl array_kind third_within in
    let three : top - 2 - 1 ≡ top - 3 = omega arith in
    record {
      enough = let a = third.some in omega (arith, a);
      value_null = first.null;
      value_refers = first.refers;
      index_is =
          second.on_top.2 ∙ ap (λ (l : List ℕ). cast_signed w32 (get_or l 0 0)) both
          ∙ ap (λ (n : ℕ). cast_signed w32 (get_or words n 0)) two;
      array_null = subst (λ (n : ℕ). get_or words n 0 ≡ 0 → array ≡ Null) three third.null;
      array_refers = subst (λ (n : ℕ). (get_or words n 0 ≡ 0 → ⊥) → RefersTo addresses array (get_or words n 0)) three third.refers;
      lower = subst (λ (n : ℕ). FrameStands addresses locals rest (in_use words n) below) three third.lower;
    }

-- a reference stands in its word
pub reference_in : (addresses : List ℕ) (value : Value) (word : ℕ) → (word ≡ 0 → value ≡ Null) → ((word ≡ 0 → ⊥) → RefersTo addresses value word) → IsIn addresses value (word ∷ [])
reference_in addresses value zero null refers = subst (λ (v : Value). IsIn addresses v (zero ∷ [])) (sym (null refl)) refl
reference_in addresses value (suc n) null refers =
    let r = refers (λ e. absurd cc) in
    subst (λ (v : Value). IsIn addresses v (suc n ∷ [])) (sym r.is) (suc n, refl, r.at)

-- ---- whether it can stand there

pub record CanBe (c : Context) (components : FieldTypeOf (List ℕ)) (value : Value) (answer : Bool) : Type 0 where
  pub null : value ≡ Null → answer ≡ true
  pub object :
      (id : ℕ) → value ≡ Reference id
      → (o : Object) × (slice_get c.memory.objects id ≡ Some o) × (is_instance_of (world_at c) o components ≡ answer)

answer_same : (a b : Bool) → ◌≡◌ {A = OrFault Bool} (Ok a) (Ok b) → a ≡ b
answer_same a b e = cc

pub can_be : (c : Context) (components : FieldTypeOf (List ℕ)) (value : Value) (answer : Bool) → can_stand c components value ≡ Ok answer → CanBe c components value answer
can_be c components Null answer e = record { null = λ is. sym (answer_same true answer e); object = λ id is. absurd cc }
can_be c components (Reference id) answer e =
    let object = bound_gave (object_at c.memory.objects id) (λ (o : Object). Ok (is_instance_of (world_at c) o components)) answer e in
    let there = found_gave ReferenceFault (slice_get c.memory.objects id) object.0 object.1 in
    record {
      null = λ is. absurd cc;
      object =
          λ other is.
          let same : id ≡ other = cc in (
            object.0,
            ap (slice_get c.memory.objects) (sym same) ∙ there,
            answer_same (is_instance_of (world_at c) object.0 components) answer object.2,
          );
    }
can_be c components (Int n) answer e = absurd cc
can_be c components (Long n) answer e = absurd cc
can_be c components Half answer e = absurd cc
can_be c components Unset answer e = absurd cc
