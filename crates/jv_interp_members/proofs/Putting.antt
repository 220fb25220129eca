-- putfield on words: what the machine does stands afterwards.
use Rattle.std.proofs.Common.{◌≡◌, ℕ, true, List, ◌∷◌, Option, Some, None, Ok, refl, sym, ap, subst, ◌∙◌, slice_get}
use Rattle.std.specs.Prelude.{is_some}
use Rattle.jv_text.specs.declared.descriptor.FieldTypeOf.{FieldTypeOf}
use Rattle.jv_text.specs.Types.{field_type_of}
use Rattle.jv_stackmap.specs.Types.{FrameType, value_type}
use Rattle.jv_pool.specs.Constants.{MemberReference}
use Rattle.jv_meaning_world.specs.LookUps.{DeclaredField}
use Rattle.jv_meaning_typing.specs.Named.{object_class_type}
use Rattle.jv_meaning_machine.specs.Faults.{OrFault, tested, ◌>>=◌}
use Rattle.jv_meaning_machine.specs.Faults.Fault.{OffsetFault, ReferenceFault, ConstructionFault, TagFault}
use Rattle.jv_meaning_machine.specs.Values.{Value, has_type, narrowed}
use Rattle.jv_meaning_machine.specs.Values.Value.{Int, Long, Null, Reference, Half, Unset}
use Rattle.jv_meaning_machine.specs.Objects.{key_of, value_at, Instance, Object}
use Rattle.jv_meaning_machine.specs.Objects.Object.{InstanceOf}
use Rattle.jv_meaning_machine.specs.State.{Memory}
use Rattle.jv_meaning_machine.specs.Operands.{object_at, popped_reference, popped_as, taken_as, usable_value}
use Rattle.jv_meaning_machine.specs.Effects.{Effect, Context, goes_on_with}
use Rattle.jv_meaning_machine.specs.Effects.Effect.{Goes}
use Rattle.jv_meaning_machine.specs.Fields.{described, instance_in, can_be_set, with_object, with_field_value, put_field_of, put_field}
use Rattle.jv_interp_words.proofs.Gave.{bound_gave, found_gave, tested_gave}
use Rattle.jv_interp_words.proofs.Taken.{popped_as_gave, taken_gave}
use Rattle.jv_interp_members.proofs.Got.{done_same, instance_there}

-- ---- what is taken as of a type is of it

pub taken_kind : (objects : List Object) (type : FrameType) (stack : List Value) (top : Value × List Value) → taken_as objects type stack ≡ Ok top → has_type type top.0 ≡ true
taken_kind objects type stack top e =
    let p = bound_gave (popped_as type stack) (λ (t : Value × List Value). usable_value objects t.0 >>= λ value. Ok (value, t.1)) top e in
    let u = bound_gave (usable_value objects p.0.0) (λ (v : Value). Ok (v, p.0.1)) top p.2 in
    let q = bound_gave (Rattle.jv_meaning_machine.specs.Operands.popped stack) (λ (t : Value × List Value). tested TagFault (has_type type t.0) t) p.0 p.1 in
    let kind = tested_gave TagFault (has_type type q.0.0) q.0 p.0 q.2 in
    let same : p.0.0 ≡ top.0 = usable_same objects p.0.0 u.0 u.1 ∙ first_same u.0 p.0.1 top u.2 in
    subst (λ (v : Value). has_type type v ≡ true) (ap (λ (t : Value × List Value). t.0) kind.1 ∙ same) kind.0
  where
    first_same : (v : Value) (rest : List Value) (t : Value × List Value) → ◌≡◌ {A = OrFault (Value × List Value)} (Ok (v, rest)) (Ok t) → v ≡ t.0
    first_same v rest t e = cc

    usable_same : (objects : List Object) (v w : Value) → usable_value objects v ≡ Ok w → v ≡ w
    usable_same objects (Reference id) w e =
        let object = bound_gave (object_at objects id) (λ (o : Object). tested ConstructionFault (Rattle.jv_meaning_machine.specs.Objects.is_constructed o) (Reference id)) w e in
        (tested_gave ConstructionFault (Rattle.jv_meaning_machine.specs.Objects.is_constructed object.0) (Reference id) w object.2).1
    usable_same objects (Int n) w e = cc
    usable_same objects (Long n) w e = cc
    usable_same objects Null w e = cc
    usable_same objects Half w e = cc
    usable_same objects Unset w e = cc

-- ---- what putfield does

pub record Puts (c : Context) (reference : MemberReference) (d : DeclaredField) (done : Memory × Effect) : Type 0 where
  pub type : FieldTypeOf (List ℕ)
  pub type_is : field_type_of d.field.descriptor ≡ Some type
  pub value : Value
  pub kind : has_type (value_type type) value ≡ true
  pub object : Value
  pub rest : List Value
  pub stood : c.frame.stack ≡ value ∷ object ∷ rest
  pub does : put_field_of c reference d object (narrowed type value) rest ≡ Ok done

pub puts : (c : Context) (reference : MemberReference) (d : DeclaredField) (done : Memory × Effect) → put_field c reference d ≡ Ok done → Puts c reference d done
puts c reference d done e =
    let type =
    bound_gave (described d.field.descriptor)
    (λ (t : FieldTypeOf (List ℕ)). taken_as c.memory.objects (value_type t) c.frame.stack >>= λ top. popped_reference top.1 >>= λ under. put_field_of c reference d under.0 (narrowed t top.0) under.1)
    done e in
    let top =
    bound_gave (taken_as c.memory.objects (value_type type.0) c.frame.stack)
    (λ (t : Value × List Value). popped_reference t.1 >>= λ under. put_field_of c reference d under.0 (narrowed type.0 t.0) under.1) done type.2 in
    let under =
    bound_gave (popped_reference top.0.1) (λ (u : Value × List Value). put_field_of c reference d u.0 (narrowed type.0 top.0.0) u.1) done top.2 in
    record {
      type = type.0;
      type_is = found_gave OffsetFault (field_type_of d.field.descriptor) type.0 type.1;
      value = top.0.0;
      kind = taken_kind c.memory.objects (value_type type.0) c.frame.stack top.0 top.1;
      object = under.0.0;
      rest = under.0.1;
      stood =
          taken_gave c.memory.objects (value_type type.0) c.frame.stack top.0 top.1
          ∙ ap (λ (l : List Value). top.0.0 ∷ l) (popped_as_gave object_class_type top.0.1 under.0 under.1);
      does = under.2;
    }

-- of an object
pub record PutOf (c : Context) (d : DeclaredField) (id : ℕ) (new : Value) (below : List Value) (done : Memory × Effect) : Type 0 where
  pub instance : Instance
  pub there : slice_get c.memory.objects id ≡ Some (InstanceOf instance)
  pub old : Value
  pub holds : value_at (key_of d) instance.fields ≡ Some old
  pub is : done ≡ (with_object id (with_field_value (key_of d) new instance) c.memory, Goes c.next c.frame.locals below)

some_of : {A : Type 0} (o : Option A) → is_some o ≡ true → (a : A) × (o ≡ Some a)
some_of None e = absurd cc
some_of (Some a) e = (a, refl)

pub put_of :
    (c : Context) (reference : MemberReference) (d : DeclaredField) (id : ℕ) (new : Value) (below : List Value) (done : Memory × Effect)
    → put_field_of c reference d (Reference id) new below ≡ Ok done → PutOf c d id new below done
put_of c reference d id new below done e =
    let instance =
    bound_gave (object_at c.memory.objects id >>= instance_in)
    (λ (i : Instance). tested ConstructionFault (can_be_set c reference id i) i >>= λ i. tested ReferenceFault (is_some (value_at (key_of d) i.fields)) i >>= λ i.
    goes_on_with c (with_object id (with_field_value (key_of d) new i) c.memory) below)
    done e in
    let settable =
    bound_gave (tested ConstructionFault (can_be_set c reference id instance.0) instance.0)
    (λ (i : Instance). tested ReferenceFault (is_some (value_at (key_of d) i.fields)) i >>= λ i. goes_on_with c (with_object id (with_field_value (key_of d) new i) c.memory) below)
    done instance.2 in
    let same = (tested_gave ConstructionFault (can_be_set c reference id instance.0) instance.0 settable.0 settable.1).1 in
    let there =
    bound_gave (tested ReferenceFault (is_some (value_at (key_of d) settable.0.fields)) settable.0)
    (λ (i : Instance). goes_on_with c (with_object id (with_field_value (key_of d) new i) c.memory) below) done settable.2 in
    let has = tested_gave ReferenceFault (is_some (value_at (key_of d) settable.0.fields)) settable.0 there.0 there.1 in
    let old = some_of (value_at (key_of d) settable.0.fields) has.0 in
    let all_same : instance.0 ≡ there.0 = same ∙ has.1 in
    record {
      instance = instance.0;
      there = (instance_there c.memory.objects id instance.0 instance.1).there;
      old = old.0;
      holds = ap (λ (i : Instance). value_at (key_of d) i.fields) same ∙ old.1;
      is =
          done_same (with_object id (with_field_value (key_of d) new there.0) c.memory, Goes c.next c.frame.locals below) done there.2
          ∙ ap (λ (i : Instance). (with_object id (with_field_value (key_of d) new i) c.memory, Goes c.next c.frame.locals below)) (sym all_same);
    }
