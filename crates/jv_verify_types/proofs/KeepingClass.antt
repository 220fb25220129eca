-- What the current class knows.
use Rattle.std.proofs.Common.{◌≡◌, ℕ, Bool, true, false, List, get_or, Option, Some, None, refl, sym, ap, subst, ◌∙◌}
use Rattle.std.specs.Str.{bytes_eq}
use Rattle.std.proofs.lemmas.Slice.Eq.{bytes_eq-Decides}
use Rattle.jv_text.specs.Name.{is_array_name}
use Rattle.jv_pool.specs.Constants.{MemberReference, field_reference_at}
use Rattle.jv_meaning_world.specs.World.{Loaded, World, class_named}
use Rattle.jv_meaning_world.specs.Verdicts.{is_interface}
use Rattle.jv_meaning_world.specs.Numbers.{number_named}
use Rattle.jv_meaning_world.specs.Numbers.{HoldsAtNumber}
use Rattle.jv_classes.proofs.Told.{stands_at}
use Rattle.jv_lookups.proofs.Chain.{not_named}
use Rattle.jv_meaning_typing.specs.Operands.{MethodReference, method_operand}
use Rattle.jv_link.specs.Inside.References.{method_operand_in}
use Rattle.jv_meaning_typing.specs.Environment.{Environment}
use Rattle.jv_meaning_typing.specs.Named.{is_guarded_field, is_guarded_method}
use Rattle.jv_meaning_typing.specs.MemberRules.{is_that_name, is_interface_named}
use Rattle.jv_verify_types.specs.PoolTypes.{PoolTypes}
use Rattle.jv_verify_types.specs.Current.{CurrentClass, IsOfClass}
use Rattle.jv_verify_types.specs.Inside.KeptClass.{IsNoArray, IsKept}

-- ---- interfaces

pub interface_at : (env : Environment) (world : World) (name : List ℕ) (k : ℕ) (l : Loaded) (answer : Bool) → env.world ≡ world → Some k ≡
    number_named world name → HoldsAtNumber world k (λ m. l ≡ m) → answer ≡ is_interface l
    → is_interface_named env name (class_named env.world name) ≡ answer
interface_at env world name k l answer same numbered stands is =
    let there = stands_at world name k (sym numbered) in
    ap (is_interface_named env name) (ap (λ w. class_named w name) same ∙ there.2) ∙ (ap is_interface (sym (stands there.0 there.1)) ∙ sym is)

pub no_interface : (env : Environment) (world : World) (name : List ℕ) → env.world ≡ world → None ≡ number_named world name → is_interface_named env name (class_named env.world name) ≡ false
no_interface env world name same none = ap (is_interface_named env name) (ap (λ w. class_named w name) same ∙ not_named world name (sym none))

-- ---- guarded members

module _ (constants : PoolTypes) (class : Loaded) (name : ℕ) (superclass : Option ℕ) (direct guarded : List Bool)
    (kept : IsKept constants class name superclass direct guarded) (index : ℕ) (answer : Bool) (is : answer ≡ get_or guarded index false) where
  abbrev value : CurrentClass
  value = record { types = constants.types; by = class }

  pub field_told : (v : CurrentClass) → value ≡ v → (env : Environment) → IsOfClass v env → (reference : MemberReference) →
      field_reference_at v.by.class.constant_pool index ≡ Some reference → is_guarded_field env.world env.site.by reference ≡ answer
  field_told v same = subst (λ (u : CurrentClass). (env : Environment) → IsOfClass u env → (reference : MemberReference) →
      field_reference_at u.by.class.constant_pool index ≡ Some reference → is_guarded_field env.world env.site.by reference ≡ answer) same told
    where
      told : (env : Environment) → IsOfClass value env → (reference : MemberReference) → field_reference_at class.class.constant_pool index ≡
          Some reference → is_guarded_field env.world env.site.by reference ≡ answer
      told env of reference e =
          ap (λ w. is_guarded_field w env.site.by reference) of.world
          ∙ (ap (λ (l : Loaded). is_guarded_field constants.types.world l reference) of.by
          ∙ ((kept.guards index).field reference (subst (λ p. field_reference_at p index ≡ Some reference) (sym kept.pool) e) ∙ sym is))

  pub method_told : (v : CurrentClass) → value ≡ v → (env : Environment) → IsOfClass v env → (m : MethodReference) → method_operand v.by.class index ≡
      Some m → is_guarded_method env.world env.site.by m.member ≡ answer
  method_told v same = subst (λ (u : CurrentClass). (env : Environment) → IsOfClass u env → (m : MethodReference) → method_operand u.by.class index ≡
      Some m → is_guarded_method env.world env.site.by m.member ≡ answer) same told
    where
      told : (env : Environment) → IsOfClass value env → (m : MethodReference) → method_operand class.class index ≡ Some m → is_guarded_method env.world env.site.by m.member ≡ answer
      told env of m e =
          ap (λ w. is_guarded_method w env.site.by m.member) of.world
          ∙ (ap (λ (l : Loaded). is_guarded_method constants.types.world l m.member) of.by
          ∙ ((kept.guards index).method m (subst (λ p. method_operand_in p index ≡ Some m) (sym kept.pool) e) ∙ sym is))

-- ---- arrays

pub no_array_is : (text : List ℕ) (name : Option (List ℕ)) → IsNoArray name → is_array_name text ≡ true → is_that_name text name ≡ false
no_array_is text None none array = refl
no_array_is text (Some name) none array = by_test (bytes_eq text name) refl
  where
    clash : true ≡ false → ⊥
    clash e = cc

    by_test : (b : Bool) → bytes_eq text name ≡ b → b ≡ false
    by_test false e = refl
    by_test true e = absurd (clash (sym array ∙ (ap is_array_name ((bytes_eq-Decides text name).0 e) ∙ none)))
