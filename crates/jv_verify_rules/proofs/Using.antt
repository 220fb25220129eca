-- Members that a method's instructions name.
use Rattle.std.proofs.Common.{◌≡◌, ℕ, Bool, true, false, not, ◌&&◌, List, Option, Some, None, refl, sym, ap, subst, ◌∙◌}
use Rattle.std.specs.Option.{option_map}
use Rattle.std.specs.Str.{bytes_eq}
use Rattle.jv_format.specs.Format.{◌>>=◌}
use Rattle.jv_text.specs.Name.{is_array_name, is_init}
use Rattle.jv_text.specs.Types.{field_type_of, method_type_of}
use Rattle.jv_pool.specs.Constants.{Entry, MemberReference, field_reference_at}
use Rattle.jv_stackmap.specs.declared.verification.VerificationTypeOf.TheVariants as types
use Rattle.jv_stackmap.specs.Types.{reference_type}
use Rattle.jv_meaning_world.specs.World.{Loaded}
use Rattle.jv_meaning_typing.specs.Operands.{field_operand, MethodReference, method_operand}
use Rattle.jv_meaning_typing.specs.Environment.{Environment, current_class}
use Rattle.jv_meaning_typing.specs.Named.{when, FieldUse, field_named_by, MethodUse, method_named_by, can_be_of, is_guarded_field, is_guarded_method, guard}
use Rattle.jv_meaning_typing.specs.MemberRules.{field_guard, method_guard}
use Rattle.jv_verify_types.specs.Typed.{TypeWorld, name_at}
use Rattle.jv_verify_types.specs.Numbered.{Item}
use Rattle.jv_verify_types.specs.Outcomes.{given}
use Rattle.jv_verify_types.specs.Current.{CurrentClass, IsOfClass}
use Rattle.jv_verify_types.specs.declared.fields.FieldTypes.{FieldTypes}
use Rattle.jv_verify_types.specs.declared.methods.CalledTypes.{CalledTypes}
use Rattle.jv_verify_types.specs.Operands.{HasPool, FindsFieldTypes, IsCalled, FindsCalledTypes}
use Rattle.jv_verify_rules.specs.declared.field_access.FieldOperand.{FieldOperand}
use Rattle.jv_verify_rules.specs.Operands.{IsField}
use Rattle.jv_verify_rules.specs.Method.{MethodContext, IsOfMethod}
use Rattle.jv_verify_rules.specs.Inside.Used.{UsesField}

-- ---- the class of the method

pub has_pool : (context : MethodContext) (env : Environment) (pool : List Entry) → IsOfMethod context env → pool ≡ context.class.by.class.constant_pool → HasPool pool env
has_pool context env pool of same = ap (λ (l : Loaded). l.class.constant_pool) of.class.by ∙ sym same

pub of_class : (context : MethodContext) (env : Environment) (class : CurrentClass) → IsOfMethod context env → class ≡ context.class → IsOfClass class env
of_class context env class of same = subst (λ (k : CurrentClass). IsOfClass k env) (sym same) of.class

-- ---- the constant behind what is named

chained : {A B : Type 0} (o : Option A) (f : A → Option B) (y : B) → (o >>= f) ≡ Some y → (a : A) × (o ≡ Some a) × (f a ≡ Some y)
chained None f y e = absurd cc
chained (Some a) f y e = (a, refl, e)

same_kept : {A : Type 0} (test : Bool) (x y : A) → when test x ≡ Some y → x ≡ y
same_kept true x y e = cc
same_kept false x y e = absurd cc

pub field_reference : (env : Environment) (index : ℕ) (named : FieldUse) → field_named_by env index ≡ Some named → field_operand (current_class env) index ≡ Some named.reference
field_reference env index named e =
    let found = chained (field_operand (current_class env) index) _ named e in
    let kept = chained (when (not (is_array_name found.0.class)) found.0) _ named found.2 in
    let owner = chained (reference_type kept.0.class) _ named kept.2 in
    let type = chained (field_type_of kept.0.descriptor) _ named owner.2 in
    found.1 ∙ (ap (λ (r : MemberReference). Some r) (same_kept (not (is_array_name found.0.class)) found.0 kept.0 kept.1) ∙ ap (option_map (λ (f : FieldUse). f.reference)) type.2)

-- the constant of a method, and its class as a type
pub record IsReference (env : Environment) (index : ℕ) (named : MethodUse) : Type 0 where
  pub constant : MethodReference
  pub found : method_operand (current_class env) index ≡ Some constant
  pub member : constant.member ≡ named.reference
  pub owner : reference_type named.reference.class ≡ Some named.owner

pub method_reference : (env : Environment) (index : ℕ) (named : MethodUse) → method_named_by env index ≡ Some named → IsReference env index named
method_reference env index named e =
    let found = chained (method_operand (current_class env) index) _ named e in
    let kept = chained (when (can_be_of found.0.constant found.0.member.class) found.0) _ named found.2 in
    let owner = chained (reference_type kept.0.member.class) _ named kept.2 in
    let type = chained (method_type_of kept.0.member.descriptor) _ named owner.2 in
    let member : kept.0.member ≡ named.reference = one (ap (option_map (λ (m : MethodUse). m.reference)) type.2) in
    record {
      constant = kept.0;
      found = found.1 ∙ ap (λ (m : MethodReference). Some m) (same_kept (can_be_of found.0.constant found.0.member.class) found.0 kept.0 kept.1);
      member = member;
      owner = ap (λ (r : MemberReference). reference_type r.class) (sym member) ∙ (owner.1 ∙ ap (option_map (λ (m : MethodUse). m.owner)) type.2);
    }
  where
    one : {a b : MemberReference} → Some a ≡ Some b → a ≡ b
    one f = cc

-- ---- guarded members

pub field_guarded : (class : CurrentClass) (env : Environment) (index : ℕ) (named : FieldUse) (answer : Bool) → IsOfClass class env
    → ((reference : MemberReference) → field_reference_at class.by.class.constant_pool index ≡ Some reference → is_guarded_field env.world env.site.by reference ≡ answer)
    → field_named_by env index ≡ Some named → field_guard env named ≡ guard env answer
field_guarded class env index named answer of told e =
    ap (guard env) (told named.reference (ap (λ (l : Loaded). field_reference_at l.class.constant_pool index) (sym of.by) ∙ field_reference env index named e))

pub method_guarded : (class : CurrentClass) (env : Environment) (index : ℕ) (named : MethodUse) (answer : Bool) → IsOfClass class env
    → ((m : MethodReference) → method_operand class.by.class index ≡ Some m → is_guarded_method env.world env.site.by m.member ≡ answer)
    → method_named_by env index ≡ Some named → method_guard env named ≡ guard env answer
method_guarded class env index named answer of told e =
    let is = method_reference env index named e in
    ap (λ (r : MemberReference). guard env (is_guarded_method env.world env.site.by r)) (sym is.member)
    ∙ ap (guard env) (told is.constant (ap (λ (l : Loaded). method_operand l.class index) (sym of.by) ∙ is.found))

-- ---- operands

abbrev operand : FieldTypes → Option Item → Bool → FieldOperand
operand field guarded own = record { owner = types.Class field.owner; value = field.value; guard = guarded; sets_own = own }

pub uses_field : (world : TypeWorld) (env : Environment) (o : Option FieldUse) (field : FieldTypes) (guarded : Option Item) (own : Bool) → env.world ≡
    world.world → FindsFieldTypes world.names o (Some field)
    → ((named : FieldUse) → o ≡ Some named → field_guard env named ≡ given world.names guarded)
    → (is_init env.site.method.name && bytes_eq (name_at world.names field.owner) (current_class env).name) ≡ own
    → UsesField world env o (Some (operand field guarded own))
uses_field world env None field guarded own same h guards owns = absurd h
uses_field world env (Some named) field guarded own same h guards owns = record {
  world = same;
  owner = h.owner;
  value = h.value;
  guard = guards named refl;
  sets_own = ap (λ name. is_init env.site.method.name && bytes_eq name (current_class env).name) h.class ∙ owns;
}

-- a field that is named is one that is used by its types
pub record IsUsed (world : TypeWorld) (env : Environment) (o : Option FieldUse) (by : FieldOperand) : Type 0 where
  pub field : FieldUse
  pub is : o ≡ Some field
  pub types : IsField world env field by

pub is_used : (world : TypeWorld) (env : Environment) (o : Option FieldUse) (by : FieldOperand) → UsesField world env o (Some by) → IsUsed world env o by
is_used world env None by h = absurd h
is_used world env (Some field) by h = record { field = field; is = refl; types = h }

-- a method that is named is one that is called by its types
pub record IsNamed (names : List (List ℕ)) (o : Option MethodUse) (called : CalledTypes) : Type 0 where
  pub method : MethodUse
  pub is : o ≡ Some method
  pub types : IsCalled names method called

pub is_named : (names : List (List ℕ)) (o : Option MethodUse) (called : CalledTypes) → FindsCalledTypes names o (Some called) → IsNamed names o called
is_named names None called h = absurd h
is_named names (Some method) called h = record { method = method; is = refl; types = h }
