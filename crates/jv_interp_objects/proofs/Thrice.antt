-- What stores of numbers into arrays do in the machine, inverted.
use Rattle.std.proofs.Common.{◌≡◌, ℕ, zero, suc, ℤ, true, List, ◌∷◌, Some, Ok, refl, ap, subst, ◌∙◌, slice_get}
use Rattle.jv_text.specs.declared.descriptor.Base.{Base}
use Rattle.jv_text.specs.declared.descriptor.Base.TheVariants as bases
use Rattle.jv_text.specs.declared.descriptor.Element.{Element}
use Rattle.jv_text.specs.declared.descriptor.Element.TheVariants as elements
use Rattle.jv_text.specs.declared.descriptor.FieldTypeOf.{FieldTypeOf}
use Rattle.jv_stackmap.specs.declared.verification.VerificationTypeOf.TheVariants as types
use Rattle.jv_stackmap.specs.Types.{FrameType, value_type, value_type_by, primitive_type}
use Rattle.jv_code.specs.declared.kinds.NumberElement.{NumberElement}
use Rattle.jv_code.specs.declared.kinds.NumberElement.TheVariants as numbers
use Rattle.jv_meaning_typing.specs.Named.{object_class_type}
use Rattle.jv_meaning_typing.specs.NumberRules.{element_number}
use Rattle.jv_meaning_machine.specs.Faults.{OrFault, tested, ◌>>=◌}
use Rattle.jv_meaning_machine.specs.Faults.Fault.{ReferenceFault, ConstructionFault, TagFault}
use Rattle.jv_meaning_machine.specs.Values.{Value, has_type}
use Rattle.jv_meaning_machine.specs.Values.Value.{Int, Long, Null, Reference, Half, Unset}
use Rattle.jv_meaning_machine.specs.Objects.{Object, is_constructed}
use Rattle.jv_meaning_machine.specs.Objects.Object.{ArrayWith}
use Rattle.jv_meaning_machine.specs.State.{Memory}
use Rattle.jv_meaning_machine.specs.Operands.{object_at, usable_value, popped, popped_as, taken_as, taken_reference}
use Rattle.jv_meaning_machine.specs.Effects.{Effect, Context}
use Rattle.jv_meaning_machine.specs.Arithmetic.{as_int}
use Rattle.jv_meaning_machine.specs.Arrays.{Components, array_in, holds_base, holds_by, holds_numbers, at_place, store_at, store_number, store_component}
use Rattle.jv_interp_words.proofs.Gave.{bound_gave, tested_gave, int_gave}
use Rattle.jv_interp_words.proofs.Taken.{taken_gave}
use Rattle.jv_interp_objects.proofs.Loaded.{array_there}

-- ---- what is taken as of a type is of it

pub taken_kind : (objects : List Object) (type : FrameType) (stack : List Value) (top : Value × List Value) → taken_as objects type stack ≡ Ok top → has_type type top.0 ≡ true
taken_kind objects type stack top e =
    let p = bound_gave (popped_as type stack) (λ (t : Value × List Value). usable_value objects t.0 >>= λ value. Ok (value, t.1)) top e in
    let u = bound_gave (usable_value objects p.0.0) (λ (v : Value). Ok (v, p.0.1)) top p.2 in
    let q = bound_gave (popped stack) (λ (t : Value × List Value). tested TagFault (has_type type t.0) t) p.0 p.1 in
    let kind = tested_gave TagFault (has_type type q.0.0) q.0 p.0 q.2 in
    let same : p.0.0 ≡ top.0 = usable_same objects p.0.0 u.0 u.1 ∙ first_same u.0 p.0.1 top u.2 in
    subst (λ (v : Value). has_type type v ≡ true) (ap (λ (t : Value × List Value). t.0) kind.1 ∙ same) kind.0
  where
    first_same : (v : Value) (rest : List Value) (t : Value × List Value) → ◌≡◌ {A = OrFault (Value × List Value)} (Ok (v, rest)) (Ok t) → v ≡ t.0
    first_same v rest t e = cc

    usable_same : (objects : List Object) (v w : Value) → usable_value objects v ≡ Ok w → v ≡ w
    usable_same objects (Reference id) w e =
        let object = bound_gave (object_at objects id) (λ (o : Object). tested ConstructionFault (is_constructed o) (Reference id)) w e in
        (tested_gave ConstructionFault (is_constructed object.0) (Reference id) w object.2).1
    usable_same objects (Int n) w e = cc
    usable_same objects (Long n) w e = cc
    usable_same objects Null w e = cc
    usable_same objects Half w e = cc
    usable_same objects Unset w e = cc

-- ---- what an array holds for a kind of numbers

pub held_type : (kind : NumberElement) (type : FieldTypeOf (List ℕ)) → holds_numbers kind type ≡ true → value_type type ≡ element_number kind
held_type kind type h = by_parts type.dimensions type.element h
  where
    by_base : (kind : NumberElement) (base : Base) → holds_base kind base ≡ true → primitive_type base ≡ element_number kind
    by_base numbers.Int bases.Int h = refl
    by_base numbers.Long bases.Long h = refl
    by_base numbers.ByteOrBoolean bases.Byte h = refl
    by_base numbers.ByteOrBoolean bases.Boolean h = refl
    by_base numbers.Char bases.Char h = refl
    by_base numbers.Short bases.Short h = refl
    by_base _ _ h = absurd cc

    by_parts : (n : ℕ) (element : Element (List ℕ)) → holds_by kind n element ≡ true → value_type_by n element ≡ element_number kind
    by_parts zero (elements.Base base) h = by_base kind base h
    by_parts zero (elements.Class name) h = absurd cc
    by_parts (suc n) element h = absurd cc

-- ---- stores

pub record TakesThree (c : Context) (kind : NumberElement) (done : Memory × Effect) : Type 0 where
  pub value : Value
  pub index : ℤ
  pub array : Value
  pub rest : List Value
  pub stood : c.frame.stack ≡ value ∷ Int index ∷ array ∷ rest
  pub kind_is : has_type (element_number kind) value ≡ true
  pub does : store_number c kind index value array rest ≡ Ok done

pub takes_three : (c : Context) (kind : NumberElement) (done : Memory × Effect) → store_component c kind ≡ Ok done → TakesThree c kind done
takes_three c kind done e =
    let top =
    bound_gave (taken_as c.memory.objects (element_number kind) c.frame.stack)
    (λ (t : Value × List Value). taken_as c.memory.objects types.Int t.1 >>= λ second. as_int second.0 >>= λ index. taken_reference c.memory.objects
    second.1 >>= λ under. store_number c kind index t.0 under.0 under.1) done e in
    let second =
    bound_gave (taken_as c.memory.objects types.Int top.0.1)
    (λ (t : Value × List Value). as_int t.0 >>= λ index. taken_reference c.memory.objects t.1 >>= λ under. store_number c kind index top.0.0 under.0 under.1) done top.2 in
    let index =
    bound_gave (as_int second.0.0) (λ (n : ℤ). taken_reference c.memory.objects second.0.1 >>= λ under. store_number c kind n top.0.0 under.0 under.1) done second.2 in
    let under =
    bound_gave (taken_reference c.memory.objects second.0.1) (λ (u : Value × List Value). store_number c kind index.0 top.0.0 u.0 u.1) done index.2 in
    record {
      value = top.0.0;
      index = index.0;
      array = under.0.0;
      rest = under.0.1;
      stood =
          taken_gave c.memory.objects (element_number kind) c.frame.stack top.0 top.1
          ∙ ap (λ (l : List Value). top.0.0 ∷ l)
          (taken_gave c.memory.objects types.Int top.0.1 second.0 second.1 ∙ ap (λ (v : Value). v ∷ second.0.1) (int_gave second.0.0 index.0 index.1)
          ∙ ap (λ (l : List Value). Int index.0 ∷ l) (taken_gave c.memory.objects object_class_type second.0.1 under.0 under.1));
      kind_is = taken_kind c.memory.objects (element_number kind) c.frame.stack top.0 top.1;
      does = under.2;
    }

pub record StoreOf (c : Context) (kind : NumberElement) (index : ℤ) (value : Value) (id : ℕ) (rest : List Value) (done : Memory × Effect) : Type 0 where
  pub components : FieldTypeOf (List ℕ)
  pub values : List Value
  pub there : slice_get c.memory.objects id ≡ Some (ArrayWith components values)
  pub passes : holds_numbers kind components ≡ true
  pub does : store_at c id (components, values) index value rest (at_place index values) ≡ Ok done

pub store_of :
    (c : Context) (kind : NumberElement) (index : ℤ) (value : Value) (id : ℕ) (rest : List Value) (done : Memory × Effect)
    → store_number c kind index value (Reference id) rest ≡ Ok done → StoreOf c kind index value id rest done
store_of c kind index value id rest done e =
    let array =
    bound_gave (object_at c.memory.objects id >>= array_in)
    (λ (a : Components). tested ReferenceFault (holds_numbers kind a.0) a >>= λ a. store_at c id a index value rest (at_place index a.1)) done e in
    let passed =
    bound_gave (tested ReferenceFault (holds_numbers kind array.0.0) array.0)
    (λ (a : Components). store_at c id a index value rest (at_place index a.1)) done array.2 in
    let kept = tested_gave ReferenceFault (holds_numbers kind array.0.0) array.0 passed.0 passed.1 in
    record {
      components = array.0.0;
      values = array.0.1;
      there = (array_there c.memory.objects id array.0 array.1).there;
      passes = kept.0;
      does = ap (λ (a : Components). store_at c id a index value rest (at_place index a.1)) kept.1 ∙ passed.2;
    }
