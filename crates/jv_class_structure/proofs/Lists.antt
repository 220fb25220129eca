-- At most one item of a list has a value: what that says of the items of one kind.
use Rattle.std.proofs.Common.{◌≡◌, Bool, true, false, cond, List, [], ◌∷◌, ◌++◌, Option, Some, None, refl, sym, ap, ◌∙◌}
use Rattle.std.specs.Prelude.{IsTrue, ◌&&◌, map, filter, is_some}
use Rattle.std.specs.Option.{option_map}
use Rattle.std.specs.List.{list_all}
use Rattle.std.proofs.lemmas.Bool.{and_parts, and_from}
use Rattle.jv_format.specs.Format.{◌>>=◌}
use Rattle.jv_class_structure.specs.Attributes.{at_most_one, sole}
use Rattle.jv_class_structure.specs.Inside.Reading.{listed, values_in}

-- ---- tests of all items

and_swap : (a b c d : Bool) → IsTrue ((a && b) && (c && d)) → IsTrue ((a && c) && (b && d))
and_swap a b c d h =
    let x = and_parts (a && b) (c && d) h in
    let y = and_parts a b x.0 in
    let z = and_parts c d x.1 in
    and_from _ _ (and_from _ _ y.0 z.0) (and_from _ _ y.1 z.1)

pub all_both : {A : Type 0} (p q : A → Bool) (xs : List A) → IsTrue (list_all p xs && list_all q xs) → IsTrue (list_all (λ a. p a && q a) xs)
all_both p q [] h = refl
all_both p q (x ∷ xs) h =
    let a = and_parts (p x && q x) (list_all p xs && list_all q xs) (and_swap (p x) (list_all p xs) (q x) (list_all q xs) h) in
    and_from _ _ a.0 (all_both p q xs a.1)

pub all_parts : {A : Type 0} (p q : A → Bool) (xs : List A) → IsTrue (list_all (λ a. p a && q a) xs) → IsTrue (list_all p xs) × IsTrue (list_all q xs)
all_parts p q [] h = (refl, refl)
all_parts p q (x ∷ xs) h =
    let a = and_parts (p x && q x) _ h in
    let b = and_parts (p x) (q x) a.0 in
    let c = all_parts p q xs a.1 in
    (and_from _ _ b.0 c.0, and_from _ _ b.1 c.1)

pub all_true : {A : Type 0} (xs : List A) → IsTrue (list_all (λ a. true) xs)
all_true [] = refl
all_true (x ∷ xs) = all_true xs

-- ---- at most one

pub at_most_one-map : {A B : Type 0} (f : A → B) (xs : List A) → at_most_one (map f xs) ≡ at_most_one xs
at_most_one-map f [] = refl
at_most_one-map f (x ∷ []) = refl
at_most_one-map f (x ∷ y ∷ xs) = refl

pub sole-map : {A B : Type 0} (f : A → B) (xs : List A) → sole (map f xs) ≡ option_map f (sole xs)
sole-map f [] = refl
sole-map f (x ∷ []) = refl
sole-map f (x ∷ y ∷ xs) = refl

-- ---- the values of the items of one kind

-- the value of an item of the kind
abbrev pub picked : {A V : Type 0} → (A → Bool) → (A → Option V) → A → Option V
picked p g a = cond (p a) (g a) None

-- an item of the kind has a value
abbrev pub has_own : {A V : Type 0} → (A → Bool) → (A → Option V) → A → Bool
has_own p g a = cond (p a) (is_some (g a)) true

has_own_all : {A V : Type 0} (p : A → Bool) (g : A → Option V) (x : A) (b : Bool) (more : Bool) (rest : List A) → more ≡ list_all (λ a. is_some (g a)) rest
    → (cond b (is_some (g x)) true && more) ≡ list_all (λ a. is_some (g a)) (cond b (x ∷ rest) rest)
has_own_all p g x true more rest e = ap (λ (m : Bool). is_some (g x) && m) e
has_own_all p g x false more rest e = e

pub all_own : {A V : Type 0} (p : A → Bool) (g : A → Option V) (xs : List A) → list_all (has_own p g) xs ≡ list_all (λ a. is_some (g a)) (filter p xs)
all_own p g [] = refl
all_own p g (x ∷ xs) = has_own_all p g x (p x) (list_all (has_own p g) xs) (filter p xs) (all_own p g xs)

abbrev just : {A : Type 0} → A → Option A
just a = Some a

some_head : {A V : Type 0} (g : A → Option V) (x : A) (o : Option V) (b : Bool) (values : List V) (rest : List A) → g x ≡ o → IsTrue (cond b (is_some (g x)) true) → map just values ≡ map g rest
    → map just (listed (cond b (g x) None) ++ values) ≡ map g (cond b (x ∷ rest) rest)
some_head g x None true values rest e h same = let no : is_some (g x) ≡ false = ap is_some e in absurd cc
some_head g x (Some v) true values rest e h same = rw e (rw same refl)
some_head g x o false values rest e h same = same

pub somes : {A V : Type 0} (p : A → Bool) (g : A → Option V) (xs : List A) → IsTrue (list_all (has_own p g) xs) → map just (values_in (picked p g) xs) ≡ map g (filter p xs)
somes p g [] h = refl
somes p g (x ∷ xs) h =
    let parts = and_parts (has_own p g x) (list_all (has_own p g) xs) h in
    some_head g x (g x) (p x) (values_in (picked p g) xs) (filter p xs) refl parts.0 (somes p g xs parts.1)

-- as many items of the kind as values
pub same_number : {A V : Type 0} (p : A → Bool) (g : A → Option V) (xs : List A) → IsTrue (list_all (has_own p g) xs) → at_most_one (values_in (picked p g) xs) ≡ at_most_one (filter p xs)
same_number {A = A} {V = V} p g xs h =
    sym (at_most_one-map just (values_in (picked p g) xs)) ∙ ap at_most_one (somes p g xs h) ∙ at_most_one-map g (filter p xs)

unjust : {A V : Type 0} (g : A → Option V) (v : Option V) (a : Option A) → option_map just v ≡ option_map g a → v ≡ (a >>= g)
unjust g None None e = refl
unjust g None (Some a) e = absurd cc
unjust g (Some v) None e = absurd cc
unjust g (Some v) (Some a) e = cc

pub same_value : {A V : Type 0} (p : A → Bool) (g : A → Option V) (xs : List A) → IsTrue (list_all (has_own p g) xs) → sole (values_in (picked p g) xs) ≡ (sole (filter p xs) >>= g)
same_value p g xs h =
    unjust g (sole (values_in (picked p g) xs)) (sole (filter p xs)) (sym (sole-map just (values_in (picked p g) xs)) ∙ ap sole (somes p g xs h) ∙ sole-map g (filter p xs))

-- where each item of the kind has a value
pub own_all : {A V : Type 0} (p : A → Bool) (g : A → V) (xs : List A) → IsTrue (list_all (has_own p (λ a. just (g a))) xs)
own_all p g xs = all_own p (λ a. just (g a)) xs ∙ all_true (filter p xs)

bind_map : {A V : Type 0} (g : A → V) (a : Option A) → (a >>= λ x. just (g x)) ≡ option_map g a
bind_map g None = refl
bind_map g (Some a) = refl

pub same_mapped : {A V : Type 0} (p : A → Bool) (g : A → V) (xs : List A) → sole (values_in (picked p (λ a. just (g a))) xs) ≡ option_map g (sole (filter p xs))
same_mapped p g xs = same_value p (λ a. just (g a)) xs (own_all p g xs) ∙ bind_map g (sole (filter p xs))

-- where no item is of the kind
pub none_in : {A V : Type 0} (xs : List A) → values_in {V = V} (λ a. None) xs ≡ []
none_in [] = refl
none_in (x ∷ xs) = none_in xs
