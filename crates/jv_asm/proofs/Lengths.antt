-- How many bytes parts have.
use Rattle.std.proofs.Common.{◌≡◌, ℕ, ◌+◌, ◌*◌, ◌<◌, ◌≤◌, Bool, true, false, List, [], ◌∷◌, length, take, get_or, refl, ap, subst, ◌∙◌, arith, length-append}
use Rattle.std.specs.Prelude.{IsTrue, map, nat_lt}
use Rattle.std.specs.List.{flat_map, list_all}
use Rattle.std.proofs.lemmas.Bool.{and_parts, ltb-true}
use Rattle.std.proofs.lemmas.List.{take_more, map-append}
use Rattle.std.proofs.lemmas.Grind.{flat_map-append}
use Rattle.std.proofs.lemmas.List.Folds.{list_all-map, list_all_at}
use Rattle.std.proofs.lemmas.List.Folds.{flat_map-map, length-flat_map-take}
use Rattle.jv_format.specs.Format.{half, quad}
use Rattle.jv_format.specs.declared.handlers.Handler.{Handler}
use Rattle.jv_format.specs.Handlers.{handler_bytes}
use Rattle.jv_pool.specs.Constants.{Entry, entries_of, table_of, pool_count}
use Rattle.jv_class_structure.specs.Structure.{AttributeInfo, CodeAttribute, attribute_bytes, attribute_fits, code_bytes, table_fits}

-- each of some parts that all fit does
all_at : {X : Type 0} (p : X → Bool) (xs : List X) (i : ℕ) (d : X) → i < length xs → IsTrue (list_all p xs) → IsTrue (p (get_or xs i d))
all_at p xs i d lt h = by_cases (p (get_or xs i d)) (λ e. let no = list_all_at p xs i d lt e in absurd (cc))
  where
    by_cases : (b : Bool) → (b ≡ false → IsTrue b) → IsTrue b
    by_cases true h = refl
    by_cases false h = h refl

small : (n : ℕ) → IsTrue (quad.fits n) → n < 4294967296
small n h = ltb-true n 4294967296 h

-- one more part
more : {X Y Z : Type 0} (f : Y → List Z) (view : X → Y) (xs : List X) (i : ℕ) (d : X) → i < length xs
    → length (flat_map f (map view (take (i + 1) xs))) ≡ length (flat_map f (map view (take i xs))) + length (f (view (get_or xs i d)))
more f view xs i d lt =
    ap (λ ys. length (flat_map f (map view ys))) (take_more xs i d lt)
    ∙ simp (map-append, flat_map-append, length-append) (omega (arith, length-append (f (view (get_or xs i d))) []))

-- the sum goes on, and stays small
pub attributes_more : {X : Type 0} (view : X → AttributeInfo) (xs : List X) (i : ℕ) (d : X) (total : ℕ) → i < length xs
    → IsTrue (table_fits attribute_fits (map view xs)) → total ≡ length (flat_map attribute_bytes (map view (take i xs))) → total ≤ 8589934592 * i
    → (total + (6 + length (view (get_or xs i d)).info) ≡ length (flat_map attribute_bytes (map view (take (i + 1) xs))))
    × (total + (6 + length (view (get_or xs i d)).info) ≤ 8589934592 * (i + 1))
attributes_more view xs i d total lt h e le =
    let seen : IsTrue (list_all attribute_fits (map view xs)) = (and_parts (nat_lt (length (map view xs)) 65536) (list_all attribute_fits (map view xs)) h).1 in
    let all : IsTrue (list_all (λ x. attribute_fits (view x)) xs) = subst (λ b. IsTrue b) (list_all-map attribute_fits view xs) seen in
    let fits : IsTrue (quad.fits (length (view (get_or xs i d)).info)) =
    (and_parts (half.fits (view (get_or xs i d)).attribute_name_index) (quad.fits (length (view (get_or xs i d)).info))
    (all_at (λ x. attribute_fits (view x)) xs i d lt all)).1 in
    let few : length (view (get_or xs i d)).info < 4294967296 = small (length (view (get_or xs i d)).info) fits in
    let next = more attribute_bytes view xs i d lt in
    (omega arith, omega arith)

handlers : (xs : List Handler) → length (flat_map handler_bytes xs) ≡ 8 * length xs
handlers [] = refl
handlers (x ∷ xs) = let rest = handlers xs in omega arith

pub code_length_is : (c : CodeAttribute)
    → 12 + length c.code + 8 * length c.exception_table + length (flat_map attribute_bytes c.attributes) ≡ length (code_bytes c)
code_length_is c = simp length-append (omega (arith, handlers c.exception_table))

-- ---- the entries of a pool

table_seen : {X : Type 0} (view : X → Entry) (xs : List X) → length (table_of (map view xs)) ≡ length (flat_map (λ x. entries_of (view x)) xs)
table_seen view xs = ap length (flat_map-map entries_of view xs)

pub count_more : {X : Type 0} (view : X → Entry) (xs : List X) (i : ℕ) (d : X) (count entries : ℕ) → i < length xs
    → count ≡ pool_count (map view (take i xs)) → entries ≡ length (entries_of (view (get_or xs i d)))
    → (count + entries ≡ pool_count (map view (take (i + 1) xs))) × (count + entries ≤ pool_count (map view xs))
count_more view xs i d count entries lt e here =
    let next = more entries_of view xs i d lt in
    let some = length-flat_map-take (λ x. entries_of (view x)) xs i d lt in
    let all = table_seen view xs in
    let front = table_seen view (take i xs) in
    (omega arith, omega arith)
