-- Which members are guarded.
use Rattle.std.proofs.Common.{◌≡◌, ℕ, ◌<◌, ◌≤◌, ◌+◌, Bool, true, false, not, ◌&&◌, List, [], ◌∷◌, ◌++◌, length, get_or, Option, Some, None, unwrap_or, refl, sym, ap, subst, ◌∙◌, inl, inr, arith}
use Rattle.std.specs.Prelude.{slice_get, ◌⊎◌}
use Rattle.std.specs.Option.{option_map, option_or}
use Rattle.std.proofs.lemmas.Bool.{cases_lt}
use Rattle.std.proofs.Math.ListN.{get_or-append}
use Rattle.std.proofs.Math.Seq.{get_or-append_seam}
use Rattle.jv_format.specs.Format.{◌>>=◌}
use Rattle.jv_pool.specs.Constants.{Entry, MemberReference, pool_count, at_index, field_reference_in, method_reference_in, interface_method_reference_in}
use Rattle.jv_pool.proofs.Kept.{past_table}
use Rattle.jv_class_structure.specs.Flags.{has, acc_protected, acc_static}
use Rattle.jv_meaning_world.specs.World.{Loaded, World, class_named, same_package}
use Rattle.jv_meaning_world.specs.Overriding.{Declared}
use Rattle.jv_meaning_world.specs.LookUps.{DeclaredField, is_subclass, lookup_field, lookup_method}
use Rattle.jv_meaning_world.specs.Numbers.{number_named}
use Rattle.jv_meaning_world.specs.Numbers.{HoldsAtNumber}
use Rattle.jv_classes.proofs.Numbers.{number_at}
use Rattle.jv_classes.proofs.Told.{stands_at}
use Rattle.jv_lookups.proofs.Chain.{not_named}
use Rattle.jv_meaning_typing.specs.Access.{same_class}
use Rattle.jv_meaning_typing.specs.Operands.{MethodReference, through}
use Rattle.jv_meaning_typing.specs.Operands.MethodConstant.{Methodref, InterfaceMethodref}
use Rattle.jv_meaning_typing.specs.Named.{is_guarded, is_guarded_field, is_guarded_method}
use Rattle.jv_verify_types.specs.Inside.Guarded.{is_proper_subclass, is_far, field_is_far, method_is_far, IsGuard}
use Rattle.jv_verify_types.specs.Inside.KeptClass.{AreGuards}

-- ---- superclasses

pub no_class : (world : World) (text : List ℕ) → None ≡ number_named world text → (l : Loaded) → class_named world text ≡ Some l → ⊥
no_class world text none l named = clash (sym named ∙ not_named world text (sym none))
  where
    clash : Some l ≡ None → ⊥
    clash e = cc

pub stands_there : (world : World) (text : List ℕ) (k : ℕ) → Some k ≡ number_named world text → (l : Loaded) → class_named world text ≡ Some l → slice_get world k ≡ Some l
stands_there world text k at l named = sym (number_at world text k (sym at)) ∙ named

pub one_member : {r s : MemberReference} → Some r ≡ Some s → r ≡ s
one_member e = cc

-- ---- what is found from a superclass

far_alone : (a b c d e : Bool) → (a && b) ≡ true → (a && b && c && d && e) ≡ (c && d && e)
far_alone true true c d e h = refl
far_alone true false c d e h = absurd cc
far_alone false b c d e h = absurd cc

far_only : (world : World) (current named by : Loaded) (flags : ℕ) → is_proper_subclass world current named ≡ true → is_guarded world current named by flags ≡ is_far current by flags
far_only world current named by flags below =
    far_alone (is_subclass world current named) (not (same_class current named)) (has flags acc_protected) (not (has flags acc_static)) (not (same_package current by)) below

pub field_guarded : (world : World) (current : ℕ) (c : Loaded) (reference : MemberReference) (k : ℕ) (answer : Bool) → slice_get world current ≡ Some c → number_named world reference.class ≡ Some k
    → HoldsAtNumber world current (λ c. HoldsAtNumber world k (λ l. is_proper_subclass world c l ≡ true)) → HoldsAtNumber world current
    (λ c. HoldsAtNumber world k (λ n. answer ≡ field_is_far world c n reference))
    → is_guarded_field world c reference ≡ answer
field_guarded world current c reference k answer at numbered below far =
    let there = stands_at world reference.class k numbered in
    let named : Loaded = there.0 in
    let by_found : (o : Option DeclaredField) → unwrap_or (o >>= λ d. Some (is_guarded world c named d.by d.field.access_flags)) false ≡
    unwrap_or (o >>= λ d. Some (is_far c d.by d.field.access_flags)) false = found named (below c at named there.1) in
    ap (λ o. unwrap_or (o >>= λ n. lookup_field world n reference.name reference.descriptor >>= λ d. Some (is_guarded world c n d.by d.field.access_flags)) false) there.2
    ∙ (by_found (lookup_field world named reference.name reference.descriptor) ∙ sym (far c at named there.1))
  where
    found : (n : Loaded) → is_proper_subclass world c n ≡ true → (o : Option DeclaredField)
        → unwrap_or (o >>= λ d. Some (is_guarded world c n d.by d.field.access_flags)) false ≡ unwrap_or (o >>= λ d. Some (is_far c d.by d.field.access_flags)) false
    found n h None = refl
    found n h (Some d) = far_only world c n d.by d.field.access_flags h

pub method_guarded : (world : World) (current : ℕ) (c : Loaded) (reference : MemberReference) (k : ℕ) (answer : Bool) → slice_get world current ≡ Some c → number_named world reference.class ≡ Some k
    → HoldsAtNumber world current (λ c. HoldsAtNumber world k (λ l. is_proper_subclass world c l ≡ true)) → HoldsAtNumber world current
    (λ c. HoldsAtNumber world k (λ n. answer ≡ method_is_far world c n reference))
    → is_guarded_method world c reference ≡ answer
method_guarded world current c reference k answer at numbered below far =
    let there = stands_at world reference.class k numbered in
    let named : Loaded = there.0 in
    let by_found : (o : Option Declared) → unwrap_or (o >>= λ d. Some (is_guarded world c named d.by d.method.access_flags)) false ≡
    unwrap_or (o >>= λ d. Some (is_far c d.by d.method.access_flags)) false = found named (below c at named there.1) in
    ap (λ o. unwrap_or (o >>= λ n. lookup_method world n reference.name reference.descriptor >>= λ d. Some (is_guarded world c n d.by d.method.access_flags)) false) there.2
    ∙ (by_found (lookup_method world named reference.name reference.descriptor) ∙ sym (far c at named there.1))
  where
    found : (n : Loaded) → is_proper_subclass world c n ≡ true → (o : Option Declared)
        → unwrap_or (o >>= λ d. Some (is_guarded world c n d.by d.method.access_flags)) false ≡ unwrap_or (o >>= λ d. Some (is_far c d.by d.method.access_flags)) false
    found n h None = refl
    found n h (Some d) = far_only world c n d.by d.method.access_flags h

-- ---- all constants

-- where none is, nothing is guarded
past_all : (world : World) (c : Loaded) (pool : List Entry) (index : ℕ) (mark : Bool) → at_index pool index ≡ None → IsGuard world c pool index mark
past_all world c pool index mark none = record {
  field = λ r e. absurd (no_field r (subst (λ o. field_reference_in pool o ≡ Some r) none e));
  method = λ m e.
      absurd (no_method m (subst (λ o. option_or (option_map (through Methodref) (method_reference_in pool o))
      (option_map (through InterfaceMethodref) (interface_method_reference_in pool o)) ≡ Some m) none e));
}
  where
    no_field : (r : MemberReference) → field_reference_in pool None ≡ Some r → ⊥
    no_field r e = cc

    no_method : (m : MethodReference) → option_or (option_map (through Methodref) (method_reference_in pool None))
        (option_map (through InterfaceMethodref) (interface_method_reference_in pool None)) ≡ Some m → ⊥
    no_method m e = cc

abbrev pub AreGuardsBelow : ℕ → World → Loaded → List Entry → List Bool → Type 0
AreGuardsBelow count world c pool marks = (index : ℕ) → index < count → IsGuard world c pool index (get_or marks index false)

pub guards_next : (world : World) (c : Loaded) (pool : List Entry) (marks : List Bool) (count : ℕ) (mark : Bool) → length marks ≡ count →
    AreGuardsBelow count world c pool marks → IsGuard world c pool count mark
    → AreGuardsBelow (count + 1) world c pool (marks ++ mark ∷ [])
guards_next world c pool marks count mark size below here index lt = by_index (cases_lt index count)
  where
    by_index : (index < count) ⊎ (count ≤ index) → IsGuard world c pool index (get_or (marks ++ mark ∷ []) index false)
    by_index (inl before) = subst (IsGuard world c pool index) (sym (get_or-append marks (mark ∷ []) false index (omega (arith, size)))) (below index before)
    by_index (inr behind) =
        let last : index ≡ count = omega arith in
        let place : index ≡ length marks = last ∙ sym size in
        subst (IsGuard world c pool index) (sym (ap (λ n. get_or (marks ++ mark ∷ []) n false) place ∙ get_or-append_seam marks mark [] false))
        (subst (λ n. IsGuard world c pool n mark) (sym last) here)

pub all_guards : (world : World) (c : Loaded) (pool : List Entry) (marks : List Bool) → AreGuardsBelow (pool_count pool) world c pool marks → AreGuards world c pool marks
all_guards world c pool marks below index = by_index (cases_lt index (pool_count pool))
  where
    by_index : (index < pool_count pool) ⊎ (pool_count pool ≤ index) → IsGuard world c pool index (get_or marks index false)
    by_index (inl before) = below index before
    by_index (inr behind) = past_all world c pool index (get_or marks index false) (past_table pool index behind)
