-- Members that are marked one after the other, class by class.
use Rattle.std.proofs.Common.{◌≡◌, ◌≢◌, ℕ, suc, ◌+◌, ◌<◌, ◌≤◌, Bool, true, false, cond, ◌&&◌, List, [], ◌∷◌, nat_eq, length, get_or, Option, Some, None, refl, sym, ap, ◌∙◌, subst, arith}
use Rattle.std.specs.Prelude.{slice_get}
use Rattle.std.specs.List.{find}
use Rattle.std.specs.Option.{IsSomeAnd}
use Rattle.std.specs.Str.{bytes_eq}
use borrow.Author.Tests.{eqb-true, eqb-false}
use Rattle.std.proofs.lemmas.Bool.{and_parts}
use Rattle.std.proofs.lemmas.Slice.Eq.{bytes_eq-Decides}
use Rattle.std.proofs.lemmas.Option.{slice_get_within, slice_get-get_or}
use Rattle.jv_meaning_world.specs.World.{Loaded, World}
use Rattle.jv_classes.specs.Marks.{MarkedKeys, AreKept, is_marked}
use Rattle.jv_classes.specs.Texts.{key_of}

pub same_some : {X : Type 0} (x y : X) → Some x ≡ Some y → x ≡ y
same_some x y e = cc

-- what is found is there, and passes
found_there : {X : Type 0} (test : X → Bool) (xs : List X) (x : X) → find test xs ≡ Some x → (place : ℕ) × (slice_get xs place ≡ Some x) × (test x ≡ true)
found_there test [] x e = absurd cc
found_there test (y ∷ xs) x e = by_test (test y) refl (λ h. found_there test xs x h) e
  where
    by_test : (b : Bool) → test y ≡ b → (find test xs ≡ Some x → (place : ℕ) × (slice_get xs place ≡ Some x) × (test x ≡ true))
        → cond b (Some y) (find test xs) ≡ Some x → (place : ℕ) × (slice_get (y ∷ xs) place ≡ Some x) × (test x ≡ true)
    by_test true t rest e = (0, e, subst (λ z. test z ≡ true) (same_some y x e) t)
    by_test false t rest e =
        let its = rest e in
        (suc its.0, its.1, its.2)

module _ {X : Type 0} (name_of descriptor_of : X → List ℕ) (seed : ℕ) where
  -- the items of a class at the first places are marked for it
  pub record AreMarkedBelow (marks : MarkedKeys) (class : ℕ) (items : List X) (many : ℕ) : Type 0 where
    pub marked : (place : ℕ) (x : X) → place < many → slice_get items place ≡ Some x → is_marked marks (key_of seed (name_of x) (descriptor_of x)) class ≡ true

  pub none_marked : (marks : MarkedKeys) (class : ℕ) (items : List X) → AreMarkedBelow marks class items 0
  none_marked marks class items = record { marked = λ place x h at. absurd (omega (arith, h)) }

  pub one_marked : (old new : MarkedKeys) (class : ℕ) (items : List X) (many key : ℕ) (name descriptor : List ℕ) → AreMarkedBelow old class items
      many → AreKept old new → IsSomeAnd (slice_get items many) (λ x. name_of x ≡ name)
      → IsSomeAnd (slice_get items many) (λ x. descriptor_of x ≡ descriptor) → key ≡ key_of seed name descriptor → is_marked new key class ≡ true → AreMarkedBelow new class items (many + 1)
  one_marked old new class items many key name descriptor below kept named described is mark = record { marked = each }
    where
      each : (place : ℕ) (x : X) → place < many + 1 → slice_get items place ≡ Some x → is_marked new (key_of seed (name_of x) (descriptor_of x)) class ≡ true
      each place x h at = elim (nat_eq place many) as (λ t. nat_eq place many ≡ t → is_marked new (key_of seed (name_of x) (descriptor_of x)) class ≡ true) [
        | true ↦ λ e.
            let here : slice_get items many ≡ Some x = ap (slice_get items) (sym (eqb-true place many e)) ∙ at in
            let its_name : name_of x ≡ name = subst (λ o. IsSomeAnd o (λ y. name_of y ≡ name)) here named in
            let its_descriptor : descriptor_of x ≡ descriptor = subst (λ o. IsSomeAnd o (λ y. descriptor_of y ≡ descriptor)) here described in
            ap (λ n. is_marked new (key_of seed n (descriptor_of x)) class) its_name
            ∙ (ap (λ d. is_marked new (key_of seed name d) class) its_descriptor ∙ (ap (λ k. is_marked new k class) (sym is) ∙ mark))
        | false ↦ λ e.
            let other : place ≢ many = eqb-false place many e in
            kept.marked _ class (below.marked place x (omega (arith, h, other)) at)
      ] refl

  pub all_marked : (marks : MarkedKeys) (class : ℕ) (items : List X) (many : ℕ) → AreMarkedBelow marks class items many → length items ≤ many
      → (place : ℕ) (x : X) → slice_get items place ≡ Some x → is_marked marks (key_of seed (name_of x) (descriptor_of x)) class ≡ true
  all_marked marks class items many below all place x at =
      let within = slice_get_within items place x at in
      below.marked place x (omega (arith, within, all)) at

  -- ---- class by class

  module _ (items_of : Loaded → List X) (world : World) where
    pub record TellsBelow (many : ℕ) (marks : MarkedKeys) : Type 0 where
      pub width : marks.width ≡ length world
      pub marked : (number : ℕ) (l : Loaded) → number < many → slice_get world number ≡ Some l
          → (place : ℕ) (x : X) → slice_get (items_of l) place ≡ Some x → is_marked marks (key_of seed (name_of x) (descriptor_of x)) number ≡ true

    pub tells_none : (marks : MarkedKeys) → marks.width ≡ length world → TellsBelow 0 marks
    tells_none marks width = record { width = width; marked = λ number l h at. absurd (omega (arith, h)) }

    pub tells_more : (old new : MarkedKeys) (many : ℕ) (l : Loaded) → TellsBelow many old → AreKept old new → many < length world → l ≡ get_or world many l
        → ((place : ℕ) (x : X) → slice_get (items_of l) place ≡ Some x → is_marked new (key_of seed (name_of x) (descriptor_of x)) many ≡ true) → TellsBelow (many + 1) new
    tells_more old new many l below kept within is marks = record { width = kept.width ∙ below.width; marked = each }
      where
        each : (number : ℕ) (m : Loaded) → number < many + 1 → slice_get world number ≡ Some m
            → (place : ℕ) (x : X) → slice_get (items_of m) place ≡ Some x → is_marked new (key_of seed (name_of x) (descriptor_of x)) number ≡ true
        each number m h at place x there =
            elim (nat_eq number many) as (λ t. nat_eq number many ≡ t → is_marked new (key_of seed (name_of x) (descriptor_of x)) number ≡ true) [
              | true ↦ λ e.
                  let here : slice_get world many ≡ Some m = ap (slice_get world) (sym (eqb-true number many e)) ∙ at in
                  let same : l ≡ m = same_some l m (ap (λ k. Some k) is ∙ (sym (slice_get-get_or world many l within) ∙ here)) in
                  ap (λ n. is_marked new (key_of seed (name_of x) (descriptor_of x)) n) (eqb-true number many e)
                  ∙ marks place x (subst (λ k. slice_get (items_of k) place ≡ Some x) (sym same) there)
              | false ↦ λ e.
                  let other : number ≢ many = eqb-false number many e in
                  kept.marked _ number (below.marked number m (omega (arith, h, other)) at place x there)
            ] refl

    pub tells_all : (marks : MarkedKeys) (many : ℕ) → TellsBelow many marks → length world ≤ many → (number : ℕ) (l : Loaded) → slice_get world number ≡ Some l
        → (place : ℕ) (x : X) → slice_get (items_of l) place ≡ Some x → is_marked marks (key_of seed (name_of x) (descriptor_of x)) number ≡ true
    tells_all marks many below all number l at =
        let within = slice_get_within world number l at in
        below.marked number l (omega (arith, within, all)) at

  -- ---- a class that is not marked

  pub none_named : (marks : MarkedKeys) (class : ℕ) (items : List X) (name descriptor : List ℕ)
      → ((place : ℕ) (x : X) → slice_get items place ≡ Some x → is_marked marks (key_of seed (name_of x) (descriptor_of x)) class ≡ true)
      → is_marked marks (key_of seed name descriptor) class ≡ false
      → find (λ x. bytes_eq (name_of x) name && bytes_eq (descriptor_of x) descriptor) items ≡ None
  none_named marks class items name descriptor marked unmarked = by_find (find test items) refl
    where
      test : X → Bool
      test x = bytes_eq (name_of x) name && bytes_eq (descriptor_of x) descriptor

      no : true ≡ false → ⊥
      no e = cc

      by_find : (o : Option X) → find test items ≡ o → find test items ≡ None
      by_find None e = e
      by_find (Some x) e =
          let there = found_there test items x e in
          let parts = and_parts (bytes_eq (name_of x) name) (bytes_eq (descriptor_of x) descriptor) there.2 in
          let its_name : name_of x ≡ name = (bytes_eq-Decides (name_of x) name).0 parts.0 in
          let its_descriptor : descriptor_of x ≡ descriptor = (bytes_eq-Decides (descriptor_of x) descriptor).0 parts.1 in
          absurd (no (sym (marked there.0 x there.1)
          ∙ (ap (λ n. is_marked marks (key_of seed n (descriptor_of x)) class) its_name ∙ (ap (λ d. is_marked marks (key_of seed name d) class) its_descriptor ∙ unmarked))))
