-- What was found is in the list that was searched, and what a step gave.
use Rattle.std.proofs.Common.{◌≡◌, ℕ, zero, suc, Bool, true, false, cond, ◌&&◌, List, [], ◌∷◌, Option, Some, None, refl, ap, ◌∙◌, subst, inl, inr, arith}
use Rattle.std.specs.Prelude.{◌⊎◌, IsTrue, Ok, Err, filter}
use Rattle.std.specs.List.{Contains, cons_option, filter_map, find}
use Rattle.std.specs.Option.{ok_or, option_or}
use Rattle.std.specs.Result.{result_unwrap_or}
use Rattle.std.specs.Str.{bytes_eq}
use Rattle.std.proofs.lemmas.Bool.{and_parts}
use Rattle.std.proofs.lemmas.List.Elements.{Contains-append_left, Contains-append_right, Contains-append_cases}
use Rattle.std.proofs.lemmas.Slice.Eq.{bytes_eq-Decides}
use Rattle.jv_class.specs.Class.{Class, Field, Method, field_named, method_named}
use Rattle.jv_meaning_world.specs.Overriding.{Declared}
use Rattle.jv_meaning_world.specs.LookUps.{first_found, else_option, only, method_if}
use Rattle.jv_meaning_world.proofs.Up.{none, single, first, later}
use Rattle.jv_meaning_typing.specs.LinkErrors.{LinkError, OrError, ◌>>=◌, provided}
use Rattle.jv_meaning_typing.specs.Selection.{one_of}

-- ---- elements

module _ {X : Type 0} where
  -- the first, or one of the others
  pub split : (x : X) (xs : List X) (y : X) → Contains (x ∷ xs) y → (x ≡ y) ⊎ Contains xs y
  split x xs y h = by_part (Contains-append_cases (x ∷ []) xs y h)
    where
      by_part : Contains (x ∷ []) y ⊎ Contains xs y → (x ≡ y) ⊎ Contains xs y
      by_part (inl here) = inl (single x y here)
      by_part (inr there) = inr there

  pub in_filter : (test : X → Bool) (xs : List X) (y : X) → Contains (filter test xs) y → Contains xs y × IsTrue (test y)
  in_filter test [] y h = absurd (none y h)
  in_filter test (x ∷ xs) y h = by_test (test x) refl (λ k. in_filter test xs y k) h
    where
      by_part : test x ≡ true → (Contains (filter test xs) y → Contains xs y × IsTrue (test y)) → (x ≡ y) ⊎ Contains (filter test xs) y → Contains (x ∷ xs) y × IsTrue (test y)
      by_part e again (inl here) = (subst (Contains (x ∷ xs)) here (first x xs), subst (λ z. IsTrue (test z)) here e)
      by_part e again (inr there) = let parts = again there in (later x xs y parts.0, parts.1)

      by_test : (b : Bool) → test x ≡ b → (Contains (filter test xs) y → Contains xs y × IsTrue (test y)) →
          Contains (cond b (x ∷ filter test xs) (filter test xs)) y → Contains (x ∷ xs) y × IsTrue (test y)
      by_test true e again h = by_part e again (split x (filter test xs) y h)
      by_test false e again h = let parts = again h in (later x xs y parts.0, parts.1)

  pub in_only : (xs : List X) (y : X) → only xs ≡ Some y → Contains xs y
  in_only [] y e = absurd cc
  in_only (x ∷ []) y e = subst (Contains (x ∷ [])) (same e) (first x [])
    where
      same : Some x ≡ Some y → x ≡ y
      same e = cc
  in_only (x ∷ z ∷ xs) y e = absurd cc

  -- the one or the other
  pub in_else : (o other : Option X) (y : X) → else_option o other ≡ Some y → (o ≡ Some y) ⊎ (other ≡ Some y)
  in_else None other y e = inr e
  in_else (Some x) other y e = inl e

  pub in_or : (o other : Option X) (y : X) → option_or o other ≡ Some y → (o ≡ Some y) ⊎ (other ≡ Some y)
  in_or None other y e = inr e
  in_or (Some x) other y e = inl e

  pub in_find : (test : X → Bool) (xs : List X) (y : X) → find test xs ≡ Some y → IsTrue (test y)
  in_find test [] y e = absurd cc
  in_find test (x ∷ xs) y e = by_test (test x) refl (λ k. in_find test xs y k) e
    where
      same : Some x ≡ Some y → x ≡ y
      same e = cc

      by_test : (b : Bool) → test x ≡ b → (find test xs ≡ Some y → IsTrue (test y)) → cond b (Some x) (find test xs) ≡ Some y → IsTrue (test y)
      by_test true t again e = subst (λ z. IsTrue (test z)) (same e) t
      by_test false t again e = again e

module _ {X Y : Type 0} (look : X → Option Y) where
  pub in_first : (xs : List X) (y : Y) → first_found look xs ≡ Some y → (x : X) × Contains xs x × (look x ≡ Some y)
  in_first [] y e = absurd cc
  in_first (x ∷ xs) y e = by_part (λ k. in_first xs y k) (in_else (look x) (first_found look xs) y e)
    where
      by_part : (first_found look xs ≡ Some y → (z : X) × Contains xs z × (look z ≡ Some y)) → (look x ≡ Some y) ⊎ (first_found look xs ≡ Some y) → (z : X) × Contains (x ∷ xs) z × (look z ≡ Some y)
      by_part again (inl here) = (x, first x xs, here)
      by_part again (inr there) = let found = again there in (found.0, later x xs found.0 found.1, found.2)

  pub in_found : (xs : List X) (y : Y) → Contains (filter_map look xs) y → (x : X) × Contains xs x × (look x ≡ Some y)
  in_found [] y h = absurd (none y h)
  in_found (x ∷ xs) y h = by_look (λ k. in_found xs y k) (look x) refl h
    where
      further : (z : X) × Contains xs z × (look z ≡ Some y) → (z : X) × Contains (x ∷ xs) z × (look z ≡ Some y)
      further found = (found.0, later x xs found.0 found.1, found.2)

      by_part : (Contains (filter_map look xs) y → (z : X) × Contains xs z × (look z ≡ Some y)) → (w : Y) → look x ≡ Some w → (w ≡ y) ⊎
          Contains (filter_map look xs) y → (z : X) × Contains (x ∷ xs) z × (look z ≡ Some y)
      by_part again w e (inl here) = (x, first x xs, e ∙ ap (λ v. Some v) here)
      by_part again w e (inr there) = further (again there)

      by_look : (Contains (filter_map look xs) y → (z : X) × Contains xs z × (look z ≡ Some y)) → (o : Option Y) → look x ≡ o →
          Contains (cons_option o (filter_map look xs)) y → (z : X) × Contains (x ∷ xs) z × (look z ≡ Some y)
      by_look again None e k = further (again k)
      by_look again (Some w) e k = by_part again w e (split w (filter_map look xs) y k)

  -- what is found of an item that is there
  pub found_in : (xs : List X) (x : X) (y : Y) → Contains xs x → look x ≡ Some y → Contains (filter_map look xs) y
  found_in [] x y h e = absurd (none x h)
  found_in (z ∷ xs) x y h e = by_part (λ k. found_in xs x y k e) (split z xs x h)
    where
      put : (o : Option Y) → o ≡ Some y → Contains (cons_option o (filter_map look xs)) y
      put None f = absurd cc
      put (Some w) f = subst (Contains (w ∷ filter_map look xs)) (same f) (first w (filter_map look xs))
        where
          same : Some w ≡ Some y → w ≡ y
          same f = cc

      behind : (o : Option Y) → Contains (filter_map look xs) y → Contains (cons_option o (filter_map look xs)) y
      behind None h = h
      behind (Some w) h = later w (filter_map look xs) y h

      by_part : (Contains xs x → Contains (filter_map look xs) y) → (z ≡ x) ⊎ Contains xs x → Contains (filter_map look (z ∷ xs)) y
      by_part again (inl here) = put (look z) (ap look here ∙ e)
      by_part again (inr there) = behind (look z) (again there)

pub in_one : (ds : List Declared) (d : Declared) → one_of ds ≡ Ok d → Contains ds d
in_one [] d e = absurd cc
in_one (x ∷ []) d e = subst (Contains (x ∷ [])) (ap (λ (r : OrError Declared). result_unwrap_or r x) e) (first x [])
in_one (x ∷ y ∷ ds) d e = absurd cc

-- ---- steps

pub passed : (test : Declared → Bool) (o : Option Declared) (d : Declared) → method_if test o ≡ Some d → (o ≡ Some d) × IsTrue (test d)
passed test None d e = absurd cc
passed test (Some x) d e = by_test (test x) refl e
  where
    same : Some x ≡ Some d → x ≡ d
    same e = cc

    by_test : (b : Bool) → test x ≡ b → cond b (Some x) None ≡ Some d → (Some x ≡ Some d) × IsTrue (test d)
    by_test true t e = (e, subst (λ z. IsTrue (test z)) (same e) t)
    by_test false t e = absurd cc

module _ {A : Type 0} where
  pub went_on : {B : Type 0} (r : OrError A) (next : A → OrError B) (b : B) → (r >>= next) ≡ Ok b → (a : A) × (r ≡ Ok a) × (next a ≡ Ok b)
  went_on (Ok a) next b e = (a, refl, e)
  went_on (Err error) next b e = absurd cc

  pub held : (test : Bool) (error : LinkError) (a b : A) → provided test error a ≡ Ok b → IsTrue test × (a ≡ b)
  held true error a b e = (refl, cc)
  held false error a b e = absurd cc

  -- what passed a test behind a step
  pub guarded : (r : OrError A) (test : A → Bool) (error : LinkError) (b : A) → (r >>= (λ a. provided (test a) error a)) ≡ Ok b → (r ≡ Ok b) × IsTrue (test b)
  guarded (Err other) test error b e = absurd cc
  guarded (Ok a) test error b e =
      let parts = held (test a) error a b e in
      (ap (λ (x : A). let r : OrError A = Ok x in r) parts.1, subst (λ x. IsTrue (test x)) parts.1 parts.0)

  pub there : (o : Option A) (error : LinkError) (a : A) → ok_or o error ≡ Ok a → o ≡ Some a
  there None error a e = absurd cc
  there (Some x) error a e = cc

-- ---- names

pub same_text : (a b : List ℕ) → IsTrue (bytes_eq a b) → a ≡ b
same_text a b e = (bytes_eq-Decides a b).0 e

pub field_is_named : (class : Class) (name descriptor : List ℕ) (f : Field) → field_named class name descriptor ≡ Some f → (f.name ≡ name) × (f.descriptor ≡ descriptor)
field_is_named class name descriptor f e =
    let parts = and_parts (bytes_eq f.name name) (bytes_eq f.descriptor descriptor) (in_find (λ g. bytes_eq g.name name && bytes_eq g.descriptor descriptor) class.fields f e) in
    (same_text f.name name parts.0, same_text f.descriptor descriptor parts.1)

pub method_is_named : (class : Class) (name descriptor : List ℕ) (m : Method) → method_named class name descriptor ≡ Some m → (m.name ≡ name) × (m.descriptor ≡ descriptor)
method_is_named class name descriptor m e =
    let parts = and_parts (bytes_eq m.name name) (bytes_eq m.descriptor descriptor) (in_find (λ g. bytes_eq g.name name && bytes_eq g.descriptor descriptor) class.methods m e) in
    (same_text m.name name parts.0, same_text m.descriptor descriptor parts.1)
