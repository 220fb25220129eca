-- Two steps that give the same, and lists of which each item has a property.
use Rattle.std.proofs.Common.{◌≡◌, ℕ, zero, suc, Bool, true, false, ◌&&◌, ◌||◌, List, [], ◌∷◌, ◌++◌, map, reverse, drop, replicate, Option, Some, None, refl, ap, ◌∙◌, subst}
use Rattle.std.specs.Prelude.{IfSome, if◌then◌else◌, slice_get}
use Rattle.std.specs.List.{AllByRecursion, Contains, find, list_all, list_any}
use Rattle.std.specs.Option.{option_map}
use mathlib.Core.List.{reverse_aux}
use Rattle.jv_format.specs.Format.{◌>>=◌}
use Rattle.jv_meaning_world.proofs.Up.{first, later}

-- ---- the same, which has a property where it is there

pub record SameIf {A : Type 0} (P : A → Type 0) (one other : Option A) : Type 0 where
  pub same : one ≡ other
  pub has : IfSome one P

module _ {A : Type 0} (P : A → Type 0) where
  pub nothing : SameIf P None None
  nothing = record { same = refl; has = tt }

  pub given : (a : A) → P a → SameIf P (Some a) (Some a)
  given a p = record { same = refl; has = p }

  pub one_of : (o : Option A) → IfSome o P → SameIf P o o
  one_of o p = record { same = refl; has = p }

  passes_or : (b : Bool) (a : A) → P a → IfSome (if b then Some a else None) P
  passes_or true a p = p
  passes_or false a p = tt

  -- what two tests that agree let pass
  pub passed : (b c : Bool) (a : A) → b ≡ c → P a → SameIf P (if b then Some a else None) (if c then Some a else None)
  passed b c a e p = record { same = ap (λ t. if t then Some a else None) e; has = passes_or b a p }

  pub known_of : (one other : Option A) (a : A) → SameIf P one other → one ≡ Some a → P a
  known_of one other a s e = out one e s.has
    where
      out : (o : Option A) → o ≡ Some a → IfSome o P → P a
      out None f h = absurd cc
      out (Some b) f h = subst P (unsome f) h
        where
          unsome : Some b ≡ Some a → b ≡ a
          unsome g = cc

  -- a choice by two tests that agree
  pub chosen : (b c : Bool) (one other : Option A) → b ≡ c → (b ≡ true → SameIf P one other) → SameIf P (if b then one else None) (if c then other else None)
  chosen true c one other e h =
      record { same = (h refl).same ∙ ap (λ t. if t then other else None) e; has = (h refl).has }
  chosen false c one other e h = record { same = ap (λ t. if t then other else None) e; has = tt }

module _ {A B : Type 0} (P : A → Type 0) (Q : B → Type 0) (f g : A → Option B) where
  pub bound : (one other : Option A) → SameIf P one other → ((a : A) → P a → SameIf Q (f a) (g a)) → SameIf Q (one >>= f) (other >>= g)
  bound one other s next =
      let all = go one s.has in
      record { same = all.same ∙ ap (λ o. o >>= g) s.same; has = all.has }
    where
      go : (o : Option A) → IfSome o P → SameIf Q (o >>= f) (o >>= g)
      go None h = record { same = refl; has = tt }
      go (Some a) h = next a h

module _ {A B : Type 0} (P : A → Type 0) (Q : B → Type 0) (f : A → B) where
  pub mapped : (one other : Option A) → SameIf P one other → ((a : A) → P a → Q (f a)) → SameIf Q (option_map f one) (option_map f other)
  mapped one other s next = record { same = ap (option_map f) s.same; has = go one s.has }
    where
      go : (o : Option A) → IfSome o P → IfSome (option_map f o) Q
      go None h = tt
      go (Some a) h = next a h

-- ---- lists

module _ {X : Type 0} (P : X → Type 0) where
  pub each_appended : (xs ys : List X) → AllByRecursion P xs → AllByRecursion P ys → AllByRecursion P (xs ++ ys)
  each_appended [] ys h k = k
  each_appended (x ∷ xs) ys h k = (h.0, each_appended xs ys h.1 k)

  each_onto : (xs ys : List X) → AllByRecursion P xs → AllByRecursion P ys → AllByRecursion P (reverse_aux xs ys)
  each_onto [] ys h k = k
  each_onto (x ∷ xs) ys h k = each_onto xs (x ∷ ys) h.1 (h.0, k)

  pub each_reversed : (xs : List X) → AllByRecursion P xs → AllByRecursion P (reverse xs)
  each_reversed xs h = each_onto xs [] h tt

  pub each_dropped : (n : ℕ) (xs : List X) → AllByRecursion P xs → AllByRecursion P (drop n xs)
  each_dropped zero xs h = h
  each_dropped (suc n) [] h = tt
  each_dropped (suc n) (x ∷ xs) h = each_dropped n xs h.1

  pub each_repeated : (n : ℕ) (x : X) → P x → AllByRecursion P (replicate n x)
  each_repeated zero x p = tt
  each_repeated (suc n) x p = (p, each_repeated n x p)

  pub each_mapped : {Y : Type 0} (f : Y → X) (ys : List Y) → AllByRecursion (λ y. P (f y)) ys → AllByRecursion P (map f ys)
  each_mapped f [] h = tt
  each_mapped f (y ∷ ys) h = (h.0, each_mapped f ys h.1)

  pub each_of : (xs : List X) → ((x : X) → Contains xs x → P x) → AllByRecursion P xs
  each_of [] h = tt
  each_of (x ∷ xs) h = (h x (first x xs), each_of xs (λ y k. h y (later x xs y k)))

  pub each_got : (xs : List X) (n : ℕ) → AllByRecursion P xs → IfSome (slice_get xs n) P
  each_got [] n h = tt
  each_got (x ∷ xs) zero h = h.0
  each_got (x ∷ xs) (suc n) h = each_got xs n h.1

  pub each_found : (test : X → Bool) (xs : List X) → AllByRecursion P xs → IfSome (find test xs) P
  each_found test [] h = tt
  each_found test (x ∷ xs) h = by_test (test x) (each_found test xs h.1)
    where
      by_test : (b : Bool) → IfSome (find test xs) P → IfSome (if b then Some x else find test xs) P
      by_test true k = h.0
      by_test false k = k

module _ {X : Type 0} (P Q : X → Type 0) where
  pub each_weaker : ((x : X) → P x → Q x) → (xs : List X) → AllByRecursion P xs → AllByRecursion Q xs
  each_weaker f [] h = tt
  each_weaker f (x ∷ xs) h = (f x h.0, each_weaker f xs h.1)

-- two tests that agree at each item
module _ {X : Type 0} (P : X → Type 0) (one other : X → Bool) (same : (x : X) → P x → one x ≡ other x) where
  pub all_alike : (xs : List X) → AllByRecursion P xs → list_all one xs ≡ list_all other xs
  all_alike [] h = refl
  all_alike (x ∷ xs) h = ap (λ b. b && list_all one xs) (same x h.0) ∙ ap (λ b. other x && b) (all_alike xs h.1)

  pub any_alike : (xs : List X) → AllByRecursion P xs → list_any one xs ≡ list_any other xs
  any_alike [] h = refl
  any_alike (x ∷ xs) h = ap (λ b. b || list_any one xs) (same x h.0) ∙ ap (λ b. other x || b) (any_alike xs h.1)
