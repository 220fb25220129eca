-- Texts that get numbers one behind the other.
use Rattle.std.proofs.Common.{◌≡◌, ℕ, zero, suc, ◌+◌, ◌<◌, ◌≤◌, ◌⊎◌, inl, inr, Bool, true, false, ◌||◌, List, [], ◌∷◌, ◌++◌, length, get_or, Option, Some, None, refl, sym, ap, ◌∙◌, subst, arith, slice_get, take, drop, append-nil}
use Rattle.std.specs.Prelude.{All, IsSomeAnd, position, if◌then◌else◌}
use Rattle.std.specs.List.{list_any}
use Rattle.std.specs.Str.{bytes_eq}
use Rattle.std.proofs.lemmas.List.Quantifiers.{position-Some}
use Rattle.std.proofs.lemmas.Option.{slice_get-get_or, slice_get_within, get_or_from_slice_get}
use Rattle.std.proofs.lemmas.Slice.Eq.{bytes_eq-Decides}
use Rattle.std.proofs.Math.Nat.{eq-or-lt_of_le}
use Rattle.jv_pool.specs.Constants.{Entry, pool_count, at_index, class_name_at, string_in, string_at}
use Rattle.jv_pool.proofs.Kept.{past_table}
use Rattle.jv_class_structure.specs.Structure.{ClassStructure}
use Rattle.jv_class.specs.Class.{Class, all_found, field_of, method_of, super_of, class_of}
use Rattle.jv_class.specs.ClassFile.{class_name}
use Rattle.jv_link_cache.proofs.Bodied.{chained}
use Rattle.std.proofs.lemmas.Bool.{cases_lt}
use Rattle.jv_classes.specs.Names.{has_name, with_name}
use Rattle.jv_meaning_world.proofs.Up.{same_name}
use Rattle.jv_meaning_world.specs.World.{Loaded, World}
use Rattle.jv_interp_objects.specs.declared.texts.ClassTexts.{ClassTexts}
use Rattle.jv_interp_objects.specs.declared.texts.Texts.{Texts}
use Rattle.jv_interp_objects.specs.Units.{HasUnits}
use Rattle.jv_interp_objects.specs.Texts.{HasText, AreDifferent, AreShort, AreNumbers, AreTextsOf, AreTexts}
use Rattle.jv_interp_objects.specs.Inside.Numbering.{Extends, Numbers, IsKnown, IsNumberAt, AreBefore}

pub some_same : {A : Type 0} → {x y : A} → Some x ≡ Some y → x ≡ y
some_same e = cc

-- ---- one more

at_end : {A : Type 0} → (xs : List A) (x y : A) (k : ℕ) → slice_get (xs ++ x ∷ []) k ≡ Some y → (slice_get xs k ≡ Some y) ⊎ ((k ≡ length xs) × (x ≡ y))
at_end [] x y zero e = inr (refl, some_same e)
at_end [] x y (suc k) e = absurd cc
at_end (z ∷ xs) x y zero e = inl e
at_end (z ∷ xs) x y (suc k) e = by_cases (at_end xs x y k e)
  where
    by_cases : (slice_get xs k ≡ Some y) ⊎ ((k ≡ length xs) × (x ≡ y)) → (slice_get xs k ≡ Some y) ⊎ ((suc k ≡ suc (length xs)) × (x ≡ y))
    by_cases (inl h) = inl h
    by_cases (inr h) = inr (ap suc h.0, h.1)

in_front : {A : Type 0} (xs ys : List A) (k : ℕ) (x : A) → slice_get xs k ≡ Some x → slice_get (xs ++ ys) k ≡ Some x
in_front [] ys k x e = absurd cc
in_front (y ∷ xs) ys zero x e = e
in_front (y ∷ xs) ys (suc k) x e = in_front xs ys k x e

text_is : (text : List ℕ) → bytes_eq text text ≡ true
text_is text = (bytes_eq-Decides text text).1 refl

has_at : (names : List (List ℕ)) (text : List ℕ) (k : ℕ) → slice_get names k ≡ Some text → has_name names text ≡ true
has_at [] text k e = absurd cc
has_at (name ∷ names) text zero e = ap (λ (b : Bool). b || list_any (bytes_eq text) names) (ap (bytes_eq text) (some_same e) ∙ text_is text)
has_at (name ∷ names) text (suc k) e = ap (λ (b : Bool). bytes_eq text name || b) (has_at names text k e) ∙ or_true (bytes_eq text name)
  where
    or_true : (b : Bool) → (b || true) ≡ true
    or_true true = refl
    or_true false = refl

joined_differ : (names : List (List ℕ)) (text : List ℕ) → has_name names text ≡ false → AreDifferent names → AreDifferent (names ++ text ∷ [])
joined_differ names text absent differ number other t at other_at = by_cases (at_end names text t number at) (at_end names text t other other_at)
  where
    clash : true ≡ false → ⊥
    clash e = cc

    by_cases :
        (slice_get names number ≡ Some t) ⊎ ((number ≡ length names) × (text ≡ t)) → (slice_get names other ≡ Some t) ⊎ ((other ≡ length names) × (text ≡ t))
        → other ≡ number
    by_cases (inl a) (inl b) = differ number other t a b
    by_cases (inl a) (inr b) = absurd (clash (sym (has_at names text number (a ∙ ap Some (sym b.1))) ∙ absent))
    by_cases (inr a) (inl b) = absurd (clash (sym (has_at names text other (b ∙ ap Some (sym a.1))) ∙ absent))
    by_cases (inr a) (inr b) = b.0 ∙ sym a.0

joined_short : (names : List (List ℕ)) (text : List ℕ) → length text < 2147483648 → AreShort names → AreShort (names ++ text ∷ [])
joined_short names text few short number t at = by_cases (at_end names text t number at)
  where
    by_cases : (slice_get names number ≡ Some t) ⊎ ((number ≡ length names) × (text ≡ t)) → length t < 2147483648
    by_cases (inl a) = short number t a
    by_cases (inr b) = subst (λ (x : List ℕ). length x < 2147483648) b.1 few

pub joined_numbers : (names : List (List ℕ)) (text : List ℕ) → length text < 2147483648 → Numbers names (with_name names text)
joined_numbers names text few = by_test (has_name names text) refl
  where
    by_test : (b : Bool) → has_name names text ≡ b → Numbers names (if b then names else names ++ text ∷ [])
    by_test true e = record { extends = λ number t at. at; differ = λ h. h; short = λ h. h }
    by_test false e = record { extends = λ number t at. in_front names (text ∷ []) number t at; differ = λ h. joined_differ names text e h; short = λ h. joined_short names text few h }

pub numbers_go_on : (a b c : List (List ℕ)) → Numbers a b → Numbers b c → Numbers a c
numbers_go_on a b c h k = record {
  extends = λ number t at. k.extends number t (h.extends number t at);
  differ = λ d. k.differ (h.differ d);
  short = λ s. k.short (h.short s);
}

pub same_numbers : (a : List (List ℕ)) → Numbers a a
same_numbers a = record { extends = λ number t at. at; differ = λ d. d; short = λ s. s }

pub found_text : (names : List (List ℕ)) (text : List ℕ) (number : ℕ) → position (bytes_eq text) names ≡ Some number → HasText names text number
found_text names text number e =
    let p = position-Some (bytes_eq text) names number [] e in
    slice_get-get_or names number [] p.0 ∙ ap Some (sym (same_name text (get_or names number []) p.1))

-- ---- what is known

pub known_grown : (old new : List (List ℕ)) (pool : List Entry) (entries : List (Option (ℕ × ℕ))) → Extends old new → All (IsKnown old pool) entries → All (IsKnown new pool) entries
known_grown old new pool entries extends h k d less = grown (get_or entries k d) (h k d less)
  where
    grown : (o : Option (ℕ × ℕ)) → IsKnown old pool o → IsKnown new pool o
    grown None g = g
    grown (Some entry) g = λ text at. extends entry.1 text (g text at)

pub before_grown : (old new : List (List ℕ)) (pool : List Entry) (numbers : List ℕ) → Extends old new → AreBefore old pool numbers → AreBefore new pool numbers
before_grown old new pool numbers extends h index number at text string = extends number text (h index number at text string)

pub one_before :
    (names : List (List ℕ)) (pool : List Entry) (numbers : List ℕ) (number : ℕ) → AreBefore names pool numbers → IsNumberAt names pool (length numbers) number
    → AreBefore names pool (numbers ++ number ∷ [])
one_before names pool numbers number h is index other at = by_cases (at_end numbers number other index at)
  where
    by_cases : (slice_get numbers index ≡ Some other) ⊎ ((index ≡ length numbers) × (number ≡ other)) → IsNumberAt names pool index other
    by_cases (inl a) = h index other a
    by_cases (inr b) = subst (λ (n : ℕ). IsNumberAt names pool n other) (sym b.0) (subst (λ (n : ℕ). IsNumberAt names pool (length numbers) n) b.1 is)

none_in_none : {A : Type 0} (k : ℕ) (x : A) → slice_get {X = A} [] k ≡ Some x → ⊥
none_in_none zero x e = cc
none_in_none (suc k) x e = cc

pub none_before : (names : List (List ℕ)) (pool : List Entry) (numbers : List ℕ) → numbers ≡ [] → AreBefore names pool numbers
none_before names pool numbers none index number at = absurd (none_in_none index number (ap (λ (l : List ℕ). slice_get l index) (sym none) ∙ at))

-- what was written to a part that is the whole
pub written_back : {A : Type 0} (new old : List A) (len : ℕ) → length new ≡ length old → len ≡ length old → take len (new ++ drop (length new) old) ≡ new
written_back new old len same len_is =
    ap (λ (l : List _). take len (new ++ l)) (dropped old (length new) (omega (arith, same))) ∙ ap (take len) (append-nil new) ∙ taken new len (omega (arith, same, len_is))
  where
    dropped : {A : Type 0} (xs : List A) (n : ℕ) → length xs ≤ n → drop n xs ≡ []
    dropped [] zero h = refl
    dropped [] (suc n) h = refl
    dropped (x ∷ xs) zero h = absurd (omega (arith, h))
    dropped (x ∷ xs) (suc n) h = dropped xs n (omega (arith, h))

    taken : {A : Type 0} (xs : List A) (n : ℕ) → length xs ≤ n → take n xs ≡ xs
    taken [] zero h = refl
    taken [] (suc n) h = refl
    taken (x ∷ xs) zero h = absurd (omega (arith, h))
    taken (x ∷ xs) (suc n) h = ap (λ l. x ∷ l) (taken xs n (omega (arith, h)))

-- ---- no entry is known at first

pub one_unknown : (texts : List (List ℕ)) (pool : List Entry) (entries : List (Option (ℕ × ℕ))) → All (IsKnown texts pool) entries → All (IsKnown texts pool) (entries ++ None ∷ [])
one_unknown texts pool entries h k d less = by_end (at_end entries None (get_or (entries ++ None ∷ []) k d) k (slice_get-get_or (entries ++ None ∷ []) k d less))
  where
    by_end : (slice_get entries k ≡ Some (get_or (entries ++ None ∷ []) k d)) ⊎ ((k ≡ length entries) × (None ≡ get_or (entries ++ None ∷ []) k d)) →
        IsKnown texts pool (get_or (entries ++ None ∷ []) k d)
    by_end (inl at) =
        subst (IsKnown texts pool) (get_or_from_slice_get entries k (get_or (entries ++ None ∷ []) k d) d at)
        (h k d (slice_get_within entries k (get_or (entries ++ None ∷ []) k d) at))
    by_end (inr e) = subst (IsKnown texts pool) e.1 tt

-- ---- all String constants of a pool

in_range : {A : Type 0} (xs : List A) (n : ℕ) → n < length xs → (x : A) × (slice_get xs n ≡ Some x)
in_range [] n h = absurd (omega (arith, h))
in_range (x ∷ xs) zero h = (x, refl)
in_range (x ∷ xs) (suc n) h = in_range xs n (omega (arith, h))

found_number : {A : Type 0} (o : Option A) (x : A) (P : A → Type 0) → o ≡ Some x → P x → IsSomeAnd o P
found_number None x P e h = absurd cc
found_number (Some y) x P e h = subst P (some_same (sym e)) h

pub from_found : {A : Type 0} (o : Option A) (P : A → Type 0) → IsSomeAnd o P → (x : A) × (o ≡ Some x) × P x
from_found None P h = absurd h
from_found (Some x) P h = (x, refl, h)

pub all_before :
    (names : List (List ℕ)) (pool : List Entry) (numbers : List ℕ) → AreBefore names pool numbers
    → ((index : ℕ) (text : List ℕ) → string_at pool index ≡ Some text → index < length numbers) → AreNumbers names pool numbers
all_before names pool numbers h within index text string =
    let n = in_range numbers index (within index text string) in
    found_number (slice_get numbers index) n.0 (HasText names text) n.1 (h index n.0 n.1 text string)

-- ---- a text by its class and its index

pub text_at :
    (world : World) (texts : Texts) (class index : ℕ) (l : Loaded) (text : List ℕ) → AreTexts world texts → slice_get world class ≡ Some l
    → string_at l.class.constant_pool index ≡ Some text
    → (row : ClassTexts) × (slice_get texts.classes.items class ≡ Some row)
    × (number : ℕ) × (slice_get row.numbers.items index ≡ Some number) × HasText texts.names text number
text_at world texts class index l text h at string =
    let row = from_found (slice_get texts.classes.items class) (AreTextsOf texts.names l) (h.classes class l at) in
    let number = from_found (slice_get row.0.numbers.items index) (HasText texts.names text) (row.2 index text string) in
    (row.0, row.1, number.0, number.1, number.2)

-- ---- the texts of one class more

pub texts_grown :
    (old new : List (List ℕ)) (classes : List ClassTexts) (class : ℕ) (m : Loaded) → Extends old new
    → IsSomeAnd (slice_get classes class) (AreTextsOf old m) → IsSomeAnd (slice_get classes class) (AreTextsOf new m)
texts_grown old new classes class m extends h =
    let row = from_found (slice_get classes class) (AreTextsOf old m) h in
    found_number (slice_get classes class) row.0 (AreTextsOf new m) row.1 (λ index text string.
    let number = from_found (slice_get row.0.numbers.items index) (HasText old text) (row.2 index text string) in
    found_number (slice_get row.0.numbers.items index) number.0 (HasText new text) number.1 (extends number.0 text number.2))

pub one_class_more :
    (old new : List (List ℕ)) (world : World) (classes : List ClassTexts) (row : ClassTexts) (count : ℕ) → Extends old new → length classes ≡ count
    → ((class : ℕ) (m : Loaded) → class < count → slice_get world class ≡ Some m → IsSomeAnd (slice_get classes class) (AreTextsOf old m))
    → ((m : Loaded) → slice_get world count ≡ Some m → AreTextsOf new m row)
    → (class : ℕ) (m : Loaded) → class < count + 1 → slice_get world class ≡ Some m → IsSomeAnd (slice_get (classes ++ row ∷ []) class) (AreTextsOf new m)
one_class_more old new world classes row count extends many h own class m less at = by_order (eq-or-lt_of_le (at_most class count less))
  where
    last : (rows : List ClassTexts) → slice_get (rows ++ row ∷ []) (length rows) ≡ Some row
    last [] = refl
    last (r ∷ rows) = last rows

    at_most : (a b : ℕ) → a < b + 1 → a ≤ b
    at_most a b h = omega (arith, h)

    by_order : (class ≡ count) ⊎ (class < count) → IsSomeAnd (slice_get (classes ++ row ∷ []) class) (AreTextsOf new m)
    by_order (inr below) =
        let r = from_found (slice_get classes class) (AreTextsOf new m) (texts_grown old new classes class m extends (h class m below at)) in
        found_number (slice_get (classes ++ row ∷ []) class) r.0 (AreTextsOf new m) (in_front classes (row ∷ []) class r.0 r.1) r.2
    by_order (inl is) =
        found_number (slice_get (classes ++ row ∷ []) class) row (AreTextsOf new m)
        (ap (slice_get (classes ++ row ∷ [])) (is ∙ sym many) ∙ last classes) (own m (ap (slice_get world) (sym is) ∙ at))

-- ---- how many units each has

abbrev pub AreCountsBefore : List (List ℕ) → List ℕ → Type 0
AreCountsBefore names counts = (number count : ℕ) (text : List ℕ) → slice_get counts number ≡ Some count → HasText names text number → HasUnits text count

pub no_counts : (names : List (List ℕ)) (counts : List ℕ) → counts ≡ [] → AreCountsBefore names counts
no_counts names counts none number count text at has = absurd (none_in_none number count (ap (λ (l : List ℕ). slice_get l number) (sym none) ∙ at))

pub one_count :
    (names : List (List ℕ)) (counts : List ℕ) (count : ℕ) → AreCountsBefore names counts
    → ((text : List ℕ) → HasText names text (length counts) → HasUnits text count) → AreCountsBefore names (counts ++ count ∷ [])
one_count names counts count h own number other text at has = by_cases (at_end counts count other number at)
  where
    by_cases : (slice_get counts number ≡ Some other) ⊎ ((number ≡ length counts) × (count ≡ other)) → HasUnits text other
    by_cases (inl a) = h number other text a has
    by_cases (inr b) = subst (λ (n : ℕ). HasUnits text n) b.1 (own text (subst (λ (n : ℕ). HasText names text n) b.0 has))

-- ---- a class by its file

pub pool_of : (c : ClassStructure) (class : Class) → class_of c ≡ Some class → c.constant_pool ≡ class.constant_pool
pool_of c class e =
    let name = chained (class_name c) _ class e in
    let above = chained (super_of c) _ class name.2 in
    let interfaces = chained (all_found (class_name_at c.constant_pool) c.interfaces) _ class above.2 in
    let fields = chained (all_found (field_of c.constant_pool) c.fields) _ class interfaces.2 in
    let methods = chained (all_found (method_of c.constant_pool) c.methods) _ class fields.2 in
    ap (λ (k : Class). k.constant_pool) (some_same methods.2)

pub string_within : (pool : List Entry) (index : ℕ) (text : List ℕ) → string_at pool index ≡ Some text → index < pool_count pool
string_within pool index text e = by_order (cases_lt index (pool_count pool))
  where
    none_there : (o : Option Entry) → o ≡ None → string_in pool o ≡ Some text → ⊥
    none_there None f g = absurd cc
    none_there (Some c) f g = absurd cc

    by_order : (index < pool_count pool) ⊎ (pool_count pool ≤ index) → index < pool_count pool
    by_order (inl h) = h
    by_order (inr h) = absurd (none_there (at_index pool index) (past_table pool index h) e)
