-- What names a world has, part by part.
use Rattle.std.proofs.Common.{◌≡◌, ℕ, zero, suc, ◌+◌, ◌≤◌, ◌<◌, Bool, true, false, cond, ◌&&◌, not, List, [], ◌∷◌, ◌++◌, length, map, take, get_or, Option, Some, None, refl, sym, ap, ◌∙◌, subst, arith, append-nil, append_assoc, inl, inr}
use Rattle.std.specs.Prelude.{is_some, nat_lt, slice_get, IsTrue, ◌⊎◌}
use Rattle.std.specs.List.{find, flat_map, list_all, position, prefix_len, AllByRecursion}
use Rattle.std.specs.Option.{IsSomeAnd}
use Rattle.std.specs.Str.{bytes_eq}
use Rattle.std.proofs.lemmas.Bool.{ltb-true, lt-ltb, and_parts, and_from, cases_lt}
use Rattle.std.proofs.lemmas.List.{take_more, take_all}
use Rattle.std.proofs.lemmas.List.Folds.{list_all-append}
use Rattle.std.proofs.lemmas.Option.{get_or_from_slice_get, slice_get-get_or, slice_get_within}
use Rattle.std.proofs.lemmas.List.Elements.{All-from_recursion, recursion_from_All}
use Rattle.jv_closed.specs.There.{are_there, types_are_there, constant_is_there, constants_are_there}
use Rattle.jv_meaning_world.specs.Above.{super_names}
use Rattle.jv_class.specs.Class.{Class}
use Rattle.jv_pool.proofs.Kept.{at_every, every_at}
use Rattle.jv_pool.specs.Inside.Known.{At}
use Rattle.jv_pool.specs.Constants.{Entry, at_index, pool_count}
use Rattle.jv_text.specs.declared.descriptor.FieldTypeOf.{FieldTypeOf}
use Rattle.jv_text.specs.Descriptor.{IsField, MethodDescriptor, IsMethod}
use Rattle.jv_text.specs.Types.{field_type_of, method_type_of, TypesAgree}
use Rattle.jv_meaning_world.specs.World.{World}
use Rattle.jv_meaning_world.specs.Numbers.{number_named}
use Rattle.jv_meaning_library.specs.Closed.{is_there, element_names, type_names, method_names, descriptor_names, constant_names, names_classes_of}

-- ---- a class that has a number is there

position_found : {X : Type 0} (p : X → Bool) (xs : List X) → is_some (position p xs) ≡ is_some (find p xs)
position_found p [] = refl
position_found p (x ∷ xs) = by_test (p x) (position_found p xs)
  where
    shown : (b : Bool) (n : ℕ) → is_some (cond b (Some n) None) ≡ b
    shown true n = refl
    shown false n = refl

    same_bool : (a b : Bool) → (a ≡ true → b ≡ true) → (b ≡ true → a ≡ true) → a ≡ b
    same_bool true b there back = sym (there refl)
    same_bool false true there back = back refl
    same_bool false false there back = refl

    more : (m n : ℕ) → nat_lt (1 + m) (suc n) ≡ nat_lt m n
    more m n =
        same_bool (nat_lt (1 + m) (suc n)) (nat_lt m n)
        (λ h. let lt : 1 + m < suc n = ltb-true (1 + m) (suc n) h in let less : m < n = omega (arith, lt) in lt-ltb m n less)
        (λ h. let lt : m < n = ltb-true m n h in let more : 1 + m < suc n = omega (arith, lt) in lt-ltb (1 + m) (suc n) more)

    by_test : (b : Bool) → is_some (position p xs) ≡ is_some (find p xs)
        → is_some (cond (nat_lt (cond (not b) (1 + prefix_len (λ x. not (p x)) xs) 0) (suc (length xs))) (Some (cond (not b) (1 + prefix_len (λ x. not (p x)) xs) 0)) None)
        ≡ is_some (cond b (Some x) (find p xs))
    by_test true again =
        let lt : 0 < suc (length xs) = omega arith in
        shown (nat_lt 0 (suc (length xs))) 0 ∙ lt-ltb 0 (suc (length xs)) lt
    by_test false again =
        shown (nat_lt (1 + prefix_len (λ x. not (p x)) xs) (suc (length xs))) (1 + prefix_len (λ x. not (p x)) xs)
        ∙ more (prefix_len (λ x. not (p x)) xs) (length xs)
        ∙ sym (shown (nat_lt (prefix_len (λ x. not (p x)) xs) (length xs)) (prefix_len (λ x. not (p x)) xs)) ∙ again

pub number_is_there : (world : World) (name : List ℕ) → is_some (number_named world name) ≡ is_there world name
number_is_there world name = position_found (λ l. bytes_eq l.class.name name) world

-- ---- one item more

pub and_true : (b : Bool) → (b && true) ≡ b
and_true true = refl
and_true false = refl

flat_join : {X Y : Type 0} (f : X → List Y) (xs ys : List X) → flat_map f (xs ++ ys) ≡ flat_map f xs ++ flat_map f ys
flat_join f [] ys = refl
flat_join f (x ∷ xs) ys = ap (λ l. f x ++ l) (flat_join f xs ys) ∙ sym (append_assoc (f x) (flat_map f xs) (flat_map f ys))

pub flat_of_map : {X Y Z : Type 0} (f : Y → List Z) (g : X → Y) (xs : List X) → flat_map (λ x. f (g x)) xs ≡ flat_map f (map g xs)
flat_of_map f g [] = refl
flat_of_map f g (x ∷ xs) = ap (λ l. f (g x) ++ l) (flat_of_map f g xs)

module _ {X Y : Type 0} (test : Y → Bool) (names : X → List Y) (xs : List X) where
  pub one_more : (i : ℕ) (x : X) (all is : Bool) → slice_get xs i ≡ Some x → all ≡ list_all test (flat_map names (take i xs)) → is ≡ list_all test (names x)
      → (all && is) ≡ list_all test (flat_map names (take (i + 1) xs))
  one_more i x all is at so here =
      ap (λ b. b && is) so ∙ ap (λ b. list_all test (flat_map names (take i xs)) && b) (here ∙ ap (list_all test) (sym (append-nil (names x))))
      ∙ sym (list_all-append test (flat_map names (take i xs)) (names x ++ []))
      ∙ sym (ap (list_all test) (ap (flat_map names) (take_more xs i x (slice_get_within xs i x at) ∙ ap (λ y. take i xs ++ y ∷ []) (get_or_from_slice_get xs i x x at))
      ∙ flat_join names (take i xs) (x ∷ [])))

  pub one_more_such : (i : ℕ) (all is : Bool) (P : X → Type 0) → IsSomeAnd (slice_get xs i) P → ((x : X) → P x → is ≡ list_all test (names x))
      → all ≡ list_all test (flat_map names (take i xs)) → (all && is) ≡ list_all test (flat_map names (take (i + 1) xs))
  one_more_such i all is P h each so = by_option (slice_get xs i) refl h
    where
      by_option : (o : Option X) → slice_get xs i ≡ o → IsSomeAnd o P → (all && is) ≡ list_all test (flat_map names (take (i + 1) xs))
      by_option None e k = absurd k
      by_option (Some x) e k = one_more i x all is e so (each x k)

  pub all_of_them : (i : ℕ) (all : Bool) → length xs ≤ i → all ≡ list_all test (flat_map names (take i xs)) → all ≡ list_all test (flat_map names xs)
  all_of_them i all le so = so ∙ ap (λ l. list_all test (flat_map names l)) (take_all i xs le)

  pub one_more_at : (i : ℕ) (d : X) (all is : Bool) → i < length xs → all ≡ list_all test (flat_map names (take i xs)) → is ≡ list_all test (names (get_or xs i d))
      → (all && is) ≡ list_all test (flat_map names (take (i + 1) xs))
  one_more_at i d all is lt so here = one_more i (get_or xs i d) all is (slice_get-get_or xs i d lt) so here

pub one_more_name : {Y : Type 0} (test : Y → Bool) (front xs : List Y) (i : ℕ) (x : Y) (all is : Bool) → slice_get xs i ≡ Some x
    → all ≡ list_all test (front ++ take i xs) → is ≡ test x → (all && is) ≡ list_all test (front ++ take (i + 1) xs)
one_more_name test front xs i x all is at so here =
    ap (λ b. b && is) so ∙ ap (λ b. list_all test (front ++ take i xs) && b) (here ∙ sym (and_true (test x)))
    ∙ sym (list_all-append test (front ++ take i xs) (x ∷ []))
    ∙ ap (list_all test) (append_assoc front (take i xs) (x ∷ [])
    ∙ sym (ap (λ l. front ++ l) (take_more xs i x (slice_get_within xs i x at) ∙ ap (λ y. take i xs ++ y ∷ []) (get_or_from_slice_get xs i x x at))))

-- ---- a method's types

pub method_is_there : (world : World) (text : List ℕ) (m : MethodDescriptor) (parameters returned : Bool) → method_type_of text ≡ Some m
    → parameters ≡ types_are_there world m.parameters → returned ≡ are_there world (type_names m.result)
    → (parameters && returned) ≡ are_there world (method_names (method_type_of text))
method_is_there world text m parameters returned is p r =
    ap (λ b. b && returned) p ∙ ap (λ b. types_are_there world m.parameters && b) r
    ∙ sym (list_all-append (is_there world) (flat_map (λ type. element_names type.element) m.parameters) (type_names m.result))
    ∙ ap (λ o. are_there world (method_names o)) (sym is)

-- ---- the constants of a pool, by their indices

at_from : (world : World) (pool : List Entry) (o : Option Entry) → IsTrue (constant_is_there world pool o) → At (λ e. IsTrue (are_there world (constant_names pool e))) o
at_from world pool None h = tt
at_from world pool (Some e) h = h

from_at : (world : World) (pool : List Entry) (o : Option Entry) → At (λ e. IsTrue (are_there world (constant_names pool e))) o → IsTrue (constant_is_there world pool o)
from_at world pool None h = refl
from_at world pool (Some e) h = h

each_below : (world : World) (pool : List Entry) (n : ℕ) → IsTrue (constants_are_there world pool n) → (k : ℕ) → k < n → IsTrue (constant_is_there world pool (at_index pool k))
each_below world pool zero h k lt = absurd (omega (arith, lt))
each_below world pool (suc n) h k lt =
    let parts = and_parts (constants_are_there world pool n) (constant_is_there world pool (at_index pool n)) h in
    by_order parts.1 (λ less. each_below world pool n parts.0 k less) (cases_lt k n)
  where
    by_order : IsTrue (constant_is_there world pool (at_index pool n)) → (k < n → IsTrue (constant_is_there world pool (at_index pool k)))
        → (k < n) ⊎ (n ≤ k) → IsTrue (constant_is_there world pool (at_index pool k))
    by_order last again (inl less) = again less
    by_order last again (inr more) = let same : n ≡ k = omega (arith, lt, more) in subst (λ j. IsTrue (constant_is_there world pool (at_index pool j))) same last

all_below : (world : World) (pool : List Entry) (n : ℕ) → ((k : ℕ) → IsTrue (constant_is_there world pool (at_index pool k))) → IsTrue (constants_are_there world pool n)
all_below world pool zero h = refl
all_below world pool (suc n) h = and_from (constants_are_there world pool n) (constant_is_there world pool (at_index pool n)) (all_below world pool n h) (h n)

module _ {X : Type 0} (test : List ℕ → Bool) (names : X → List (List ℕ)) where
  all_named : (xs : List X) → AllByRecursion (λ x. IsTrue (list_all test (names x))) xs → IsTrue (list_all test (flat_map names xs))
  all_named [] h = refl
  all_named (x ∷ xs) h = list_all-append test (names x) (flat_map names xs) ∙ and_from (list_all test (names x)) (list_all test (flat_map names xs)) h.0 (all_named xs h.1)

  each_named : (xs : List X) → IsTrue (list_all test (flat_map names xs)) → AllByRecursion (λ x. IsTrue (list_all test (names x))) xs
  each_named [] h = tt
  each_named (x ∷ xs) h =
      let parts = and_parts (list_all test (names x)) (list_all test (flat_map names xs)) (sym (list_all-append test (names x) (flat_map names xs)) ∙ h) in
      (parts.0, each_named xs parts.1)

same_bool : (a b : Bool) → (IsTrue a → IsTrue b) → (IsTrue b → IsTrue a) → a ≡ b
same_bool true b there back = sym (there refl)
same_bool false true there back = back refl
same_bool false false there back = refl

pub pool_is_there : (world : World) (pool : List Entry) (count : ℕ) → pool_count pool ≤ count
    → constants_are_there world pool count ≡ are_there world (flat_map (constant_names pool) pool)
pool_is_there world pool count le =
    same_bool (constants_are_there world pool count) (are_there world (flat_map (constant_names pool) pool))
    (λ h. all_named (is_there world) (constant_names pool) pool
    (recursion_from_All (λ e. IsTrue (are_there world (constant_names pool e))) pool
    (every_at (λ e. IsTrue (are_there world (constant_names pool e))) pool count le (λ k lt. at_from world pool (at_index pool k) (each_below world pool count h k lt)))))
    (λ h. all_below world pool count (λ k. from_at world pool (at_index pool k)
    (at_every (λ e. IsTrue (are_there world (constant_names pool e))) pool
    (All-from_recursion (λ e. IsTrue (are_there world (constant_names pool e))) pool (each_named (is_there world) (constant_names pool) pool h)) k)))

-- ---- a class

pub class_is_there : (world : World) (class : Class) (supers constants fields methods : Bool) → supers ≡ are_there world (super_names class)
    → constants ≡ are_there world (flat_map (constant_names class.constant_pool) class.constant_pool)
    → fields ≡ are_there world (flat_map (λ f. descriptor_names f.descriptor) class.fields)
    → methods ≡ are_there world (flat_map (λ m. descriptor_names m.descriptor) class.methods)
    → (supers && (constants && (fields && methods))) ≡ names_classes_of world class
class_is_there world class supers constants fields methods s c f m = joined ∙ sym whole
  where
    S : List (List ℕ)
    S = super_names class

    C : List (List ℕ)
    C = flat_map (constant_names class.constant_pool) class.constant_pool

    F : List (List ℕ)
    F = flat_map (λ f. descriptor_names f.descriptor) class.fields

    M : List (List ℕ)
    M = flat_map (λ m. descriptor_names m.descriptor) class.methods

    joined : (supers && (constants && (fields && methods))) ≡ (are_there world S && (are_there world C && (are_there world F && are_there world M)))
    joined = cc

    whole : names_classes_of world class ≡ (are_there world S && (are_there world C && (are_there world F && are_there world M)))
    whole =
        list_all-append (is_there world) S (C ++ (F ++ M))
        ∙ ap (λ b. are_there world S && b) (list_all-append (is_there world) C (F ++ M) ∙ ap (λ b. are_there world C && b) (list_all-append (is_there world) F M))

-- ---- texts that are no descriptors

pub no_field : TypesAgree → (text : List ℕ) → ((t : FieldTypeOf (List ℕ)) → IsField text t → ⊥) → field_type_of text ≡ None
no_field agree text none = by_type (field_type_of text) refl
  where
    by_type : (o : Option (FieldTypeOf (List ℕ))) → field_type_of text ≡ o → o ≡ None
    by_type None e = refl
    by_type (Some t) e = absurd (none t ((agree.field text t).1 e))

pub no_method : TypesAgree → (text : List ℕ) → ((m : MethodDescriptor) → IsMethod text m → ⊥) → method_type_of text ≡ None
no_method agree text none = by_type (method_type_of text) refl
  where
    by_type : (o : Option MethodDescriptor) → method_type_of text ≡ o → o ≡ None
    by_type None e = refl
    by_type (Some m) e = absurd (none m ((agree.method text m).1 e))
