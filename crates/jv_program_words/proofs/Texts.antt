-- What is read of an option's text.
use Rattle.std.proofs.Common.{◌≡◌, ◌∙◌, ℕ, ◌<◌, ◌≤◌, ◌^◌, Bool, true, false, Decides, List, Option, Some, None, ap, codes, cond, refl, subst, sym, arith}
use Rattle.std.specs.Prelude.{IfErr, IsErrAnd, Result, Ok, Err, option_map, option_and_then, slice_get, unwrap_or}
use Rattle.std.specs.Str.{bytes_eq}
use Rattle.std.specs.Str.Parse.{IsNumeral, ParsesBool, ParsesUnsigned, digits_value, without_leading_plus}
use Rattle.std.proofs.lemmas.Slice.Eq.{bytes_eq-Decides}
use Rattle.clap.specs.Words.{ReadsOne, all_of, first_value, found_of, matched_of, one_of, one_text, raw_values, rows_of}
use Rattle.clap.specs.ValueTests.{is_unsigned_in}
use Rattle.clap.specs.declared.builder.value_parser.ValueParser.TheVariants as parsers
use Rattle.clap.specs.declared.parser.matches.ArgMatches.{ArgMatches}
use Rattle.clap.proofs.ValueTestLemmas.{Accepts-accepts, accepts-Accepts}
use Rattle.clap.proofs.WalkLemmas.{one_text-rows, raw_values-rows}
use Rattle.jv_program_words.specs.Settings.{guest_in, guest_or_none, is_set, number_of, number_or}

-- ---- numbers

-- the text is digits of a number of 32 bits
abbrev pub IsNumber : List ℕ → Type 0
IsNumber text = IsNumeral 10 (without_leading_plus text) × (digits_value 10 (without_leading_plus text) < 2 ^ 32)

none_by_test : {A : Type 0} (b : Bool) (x : A) → (b ≡ true → ⊥) → cond b (Some x) None ≡ None
none_by_test true x no_test = absurd (no_test refl)
none_by_test false x no_test = refl

pub no_number : (least most : ℕ) (text : List ℕ) → most < 2 ^ 32 → (IsNumber text → ⊥) → number_of least most text ≡ None
no_number least most text small refused =
    none_by_test (is_unsigned_in least most text) (digits_value 10 (without_leading_plus text)) (λ passes.
    let a = accepts-Accepts false (parsers.Unsigned least most) text passes in
    let most_of = a.3 in
    refused (a.0, omega (arith, most_of)))

pub outside : (least most : ℕ) (text : List ℕ)
    → (least ≤ digits_value 10 (without_leading_plus text) → digits_value 10 (without_leading_plus text) ≤ most → ⊥)
    → number_of least most text ≡ None
outside least most text refused =
    none_by_test (is_unsigned_in least most text) (digits_value 10 (without_leading_plus text)) (λ passes.
    let a = accepts-Accepts false (parsers.Unsigned least most) text passes in refused a.2 a.3)

pub within : (least most : ℕ) (text : List ℕ) → IsNumber text → least ≤ digits_value 10 (without_leading_plus text)
    → digits_value 10 (without_leading_plus text) ≤ most
    → number_of least most text ≡ Some (digits_value 10 (without_leading_plus text))
within least most text is low high =
    let value = is.1 in
    let small : digits_value 10 (without_leading_plus text) < 2 ^ 64 = omega (arith, value) in
    rw (Accepts-accepts false (parsers.Unsigned least most) text (is.0, small, low, high)) refl

pub not_read : {E : Type 0} (gives : List ℕ → Result ℕ E → Type 0) (text : List ℕ) (r : Option ℕ)
    → ReadsOne gives text r → ((x : Result ℕ E) → gives text x → ParsesUnsigned 32 10 text x) → r ≡ None → IsNumber text → ⊥
not_read gives text None reads parses e = parses (Err reads.0) reads.1
not_read gives text (Some n) reads parses e = cc

pub read : {E : Type 0} (gives : List ℕ → Result ℕ E → Type 0) (text : List ℕ) (r : Option ℕ) (n : ℕ)
    → ReadsOne gives text r → ((x : Result ℕ E) → gives text x → ParsesUnsigned 32 10 text x) → r ≡ Some n
    → IsNumber text × (n ≡ digits_value 10 (without_leading_plus text))
read gives text None n reads parses e = cc
read gives text (Some x) n reads parses e =
    let p = parses (Ok x) reads in
    (p.0, sym (ap (λ o. unwrap_or o x) e) ∙ p.1)

-- ---- where the text stands

none_of : {A B C : Type 0} (first : A → Option B) (second : A → Option C) → ((a : A) → first a ≡ None → second a ≡ None)
    → (o : Option A) → option_and_then first o ≡ None → option_and_then second o ≡ None
none_of first second each None e = refl
none_of first second each (Some a) e = each a e

some_of : {A B C : Type 0} (first : A → Option B) (second : A → Option C)
    → ((a : A) (b : B) → first a ≡ Some b → (c : C) × (second a ≡ Some c))
    → (o : Option A) (b : B) → option_and_then first o ≡ Some b → (c : C) × (option_and_then second o ≡ Some c)
some_of first second each None b e = cc
some_of first second each (Some a) b e = each a b e

none_mapped : {A B C : Type 0} (f : A → B) (g : A → C) (o : Option A) → option_map f o ≡ None → option_map g o ≡ None
none_mapped f g None e = refl
none_mapped f g (Some a) e = cc

some_mapped : {A B C : Type 0} (f : A → B) (g : A → C) (o : Option A) (b : B) → option_map f o ≡ Some b
    → (c : C) × (option_map g o ≡ Some c)
some_mapped f g None b e = cc
some_mapped f g (Some a) b e = (g a, refl)

pub unused : (m : ArgMatches) (id : List ℕ) → first_value (found_of m) id ≡ None → one_of id (rows_of (found_of m)) ≡ None
unused m id none =
    sym (one_text-rows (found_of m) id) ∙ none_of _ _ (λ a e. none_mapped _ _ (slice_get a.vals.items 0) e) (matched_of (found_of m) id) none

pub used : (m : ArgMatches) (id text : List ℕ) → first_value (found_of m) id ≡ Some text
    → (t : List ℕ) × (one_text (found_of m) id ≡ Some t)
used m id text some =
    some_of _ _ (λ a b e. some_mapped _ _ (slice_get a.vals.items 0) b e) (matched_of (found_of m) id) text some

pub in_rows : (m : ArgMatches) (id text : List ℕ) → one_text (found_of m) id ≡ Some text
    → one_of id (rows_of (found_of m)) ≡ Some text
in_rows m id text e = sym (one_text-rows (found_of m) id) ∙ e

pub all_in_rows : (m : ArgMatches) (id : List ℕ) → option_map raw_values (matched_of (found_of m) id) ≡ all_of id (rows_of (found_of m))
all_in_rows m id = raw_values-rows (found_of m) id

-- the number of a guest is read as that of an option
pub guest_is : (m : ArgMatches) (id text : List ℕ) (r : Option ℕ) → one_of id (rows_of (found_of m)) ≡ Some text
    → r ≡ number_or 0 1 64 (one_of id (rows_of (found_of m))) → guest_in (rows_of (found_of m)) id ≡ option_map Some r
guest_is m id text r there e =
    ap guest_or_none there ∙ ap (option_map Some) (sym (e ∙ ap (number_or 0 1 64) there))

-- ---- the command

-- a command is found by its name and its rows
pub both_found : {X A B : Type 0} (f : X → A) (g : X → B) (o : Option X) (a : A) (b : B)
    → Some a ≡ option_map f o → Some b ≡ option_map (λ p. p.1) (option_map {U = A × B} (λ x. (f x, g x)) o)
    → option_map {U = A × B} (λ x. (f x, g x)) o ≡ Some (a, b)
both_found f g None a b first second = cc
both_found f g (Some x) a b first second =
    let is_first : f x ≡ a = sym (ap (λ m. unwrap_or m a) first) in
    let is_second : g x ≡ b = sym (ap (λ n. unwrap_or n b) second) in
    ap (λ m. Some (m, g x)) is_first ∙ ap (λ n. Some (a, n)) is_second

-- an error that is handed on
pub passed_on : {T E : Type 0} (result : Result T E) (x : E) (P : E → Type 0) → IsErrAnd result (λ e. e ≡ x) → P x → IfErr result P
passed_on (Ok t) x P h p = tt
passed_on (Err e) x P h p = subst P (sym h) p

-- ---- flags

-- a text that isn't `true` is no flag's
other_text : (text : List ℕ) (b : Bool) → Decides b (text ≡ codes "true") → (text ≡ codes "true" → ⊥) → b ≡ false
other_text text true same other = absurd (other (same.0 refl))
other_text text false same other = refl

-- a flag is read as its text says
pub set_as_read : (E : Type 0) (o : Option (List ℕ)) (r : Option Bool) → (o ≡ None → r ≡ None)
    → ((text : List ℕ) → o ≡ Some text → ReadsOne {E = E} ParsesBool text r) → unwrap_or r false ≡ is_set o
set_as_read E None r none value = rw (none refl) refl
set_as_read E (Some text) None none value =
    let refused = (value text refl).1 in
    sym (other_text text (bytes_eq text (codes "true")) (bytes_eq-Decides text (codes "true")) refused.0)
set_as_read E (Some text) (Some true) none value = rw (value text refl) refl
set_as_read E (Some text) (Some false) none value = rw (value text refl) refl
