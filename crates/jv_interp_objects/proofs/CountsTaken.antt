-- Counts that are taken from the stack, and the words that they stand in.
use Rattle.std.proofs.Common.{◌≡◌, ℕ, zero, suc, ◌+◌, ◌-◌, ◌<◌, ◌≤◌, ℤ, Bool, true, false, ◌||◌, nat_lt, List, [], ◌∷◌, ◌++◌, Ok, map, length, reverse, replicate, take, drop, get_or, refl, sym, ap, subst, ◌∙◌, arith, append_assoc, length-append}
use Rattle.std.specs.Prelude.{⊤}
use Rattle.std.specs.List.{list_any}
use Rattle.std.specs.Int.{w32, cast_signed}
use Rattle.std.proofs.lemmas.Bool.{ltb-true, ltb-false}
use Rattle.std.proofs.lemmas.List.{reverse-append, reverse-reverse, take-take, take_at}
use Rattle.std.proofs.Math.Seq.{drop-append_seam}
use Rattle.std.proofs.Math.ListN.{length-take}
use Rattle.jv_stackmap.specs.declared.verification.VerificationTypeOf.TheVariants as types
use Rattle.jv_stackmap.specs.Types.{FrameType}
use Rattle.jv_meaning_machine.specs.Faults.{OrFault, tested, ◌>>=◌}
use Rattle.jv_meaning_machine.specs.Faults.Fault.{TagFault}
use Rattle.jv_meaning_machine.specs.Values.{Value, has_type}
use Rattle.jv_meaning_machine.specs.Values.Value.{Int, Long, Null, Reference, Half, Unset}
use Rattle.jv_meaning_machine.specs.Objects.{Object}
use Rattle.jv_meaning_machine.specs.Operands.{usable_value, popped, popped_as, taken_as, taken_before, taken}
use Rattle.jv_meaning_machine.specs.Arrays.{is_negative_count, count_of}
use Rattle.jv_interp_words.specs.ValuesInWords.{IsOnTop, AreOnTop}
use Rattle.jv_interp_words.specs.FramesInWords.{in_use}
use Rattle.jv_interp_words.proofs.Gave.{bound_gave, tested_gave}
use Rattle.jv_interp_objects.specs.NestedArrays.{AreCounts, AreWords, is_negative_word}
use Rattle.jv_interp_objects.proofs.Counted.{small_count, negative_count}

-- ---- the values are ints

pub record IsInt (value : Value) : Type 0 where
  pub number : ℤ
  pub is : value ≡ Int number

abbrev pub AreInts : List Value → Type 0
AreInts [] = ⊤
AreInts (value ∷ more) = IsInt value × AreInts more

typed_int : (value : Value) → has_type types.Int value ≡ true → IsInt value
typed_int (Int number) h = record { number = number; is = refl }
typed_int (Long number) h = absurd cc
typed_int Null h = absurd cc
typed_int (Reference id) h = absurd cc
typed_int Half h = absurd cc
typed_int Unset h = absurd cc

usable_int : (objects : List Object) (value same : Value) → IsInt value → usable_value objects value ≡ Ok same → IsInt same
usable_int objects value same h e =
    record {
      number = h.number;
      is = same_value (Int h.number) same (subst (λ (v : Value). usable_value objects v ≡ Ok same) h.is e);
    }
  where
    same_value : (a b : Value) → ◌≡◌ {A = OrFault Value} (Ok a) (Ok b) → b ≡ a
    same_value a b e = cc

same_first : (a b : Value × List Value) → ◌≡◌ {A = OrFault (Value × List Value)} (Ok a) (Ok b) → a.0 ≡ b.0
same_first a b e =
    let same : a ≡ b = cc in
    ap (λ (p : Value × List Value). p.0) same

int_taken : (objects : List Object) (stack : List Value) (top : Value × List Value) → taken_as objects types.Int stack ≡ Ok top → IsInt top.0
int_taken objects stack top e =
    let parts =
    bound_gave (popped_as types.Int stack) (λ (p : Value × List Value). usable_value objects p.0 >>= λ value. Ok (value, p.1)) top e in
    let popped_top = bound_gave (popped stack) (λ (p : Value × List Value). tested TagFault (has_type types.Int p.0) p) parts.0 parts.1 in
    let passed = tested_gave TagFault (has_type types.Int popped_top.0.0) popped_top.0 parts.0 popped_top.2 in
    let inner = bound_gave (usable_value objects parts.0.0) (λ (value : Value). Ok (value, parts.0.1)) top parts.2 in
    let first = typed_int popped_top.0.0 passed.0 in
    let there : IsInt parts.0.0 = subst (λ (p : Value × List Value). IsInt p.0) passed.1 first in
    subst (λ (v : Value). IsInt v) (same_first (inner.0, parts.0.1) top inner.2) (usable_int objects parts.0.0 inner.0 there inner.1)

abbrev AllInt : List FrameType → Type 0
AllInt [] = ⊤
AllInt (type ∷ more) = (type ≡ types.Int) × AllInt more

same_operands : (a b : List Value × List Value) → ◌≡◌ {A = OrFault (List Value × List Value)} (Ok a) (Ok b) → a.0 ≡ b.0
same_operands a b e =
    let same : a ≡ b = cc in
    ap (λ (p : List Value × List Value). p.0) same

ints_before :
    (objects : List Object) (values : List Value) (kinds : List FrameType) (stack : List Value) (operands : List Value × List Value) → AreInts values
    → AllInt kinds → taken_before objects values kinds stack ≡ Ok operands → AreInts operands.0
ints_before objects values [] stack operands h k e = subst (λ (vs : List Value). AreInts vs) (same_operands (values, stack) operands e) h
ints_before objects values (type ∷ more) stack operands h k e =
    let parts =
    bound_gave (taken_as objects type stack) (λ (top : Value × List Value). taken_before objects (top.0 ∷ values) more top.1) operands e in
    let int = int_taken objects stack parts.0 (subst (λ (t : FrameType). taken_as objects t stack ≡ Ok parts.0) k.0 parts.1) in
    ints_before objects (parts.0.0 ∷ values) more parts.0.1 operands (int, h) k.1 parts.2

int_both : (xs ys : List FrameType) → AllInt xs → AllInt ys → AllInt (xs ++ ys)
int_both [] ys h k = k
int_both (x ∷ xs) ys h k = (h.0, int_both xs ys h.1 k)

int_turned : (xs : List FrameType) → AllInt xs → AllInt (reverse xs)
int_turned [] h = tt
int_turned (x ∷ xs) h =
    subst (λ (l : List FrameType). AllInt l) (sym (reverse-append (x ∷ []) xs)) (int_both (reverse xs) (x ∷ []) (int_turned xs h.1) (h.0, tt))

int_repeated : (n : ℕ) → AllInt (replicate n types.Int)
int_repeated zero = tt
int_repeated (suc n) = (refl, int_repeated n)

pub ints_taken :
    (objects : List Object) (n : ℕ) (stack : List Value) (operands : List Value × List Value)
    → taken objects (replicate n types.Int) stack ≡ Ok operands → AreInts operands.0
ints_taken objects n stack operands e =
    ints_before objects [] (reverse (replicate n types.Int)) stack operands tt (int_turned (replicate n types.Int) (int_repeated n)) e

-- ---- their words

abbrev pub AreWordsOf : List Value → List ℕ → Type 0
AreWordsOf [] [] = ⊤
AreWordsOf (value ∷ values) (word ∷ words) = (value ≡ Int (cast_signed w32 word)) × AreWordsOf values words
AreWordsOf _ _ = ⊥

pub record OnTop (addresses : List ℕ) (values rest : List Value) (used below : List ℕ) : Type 0 where
  pub words : List ℕ
  pub under : List ℕ
  pub used_is : used ≡ reverse words ++ under
  pub are : AreWordsOf values words
  pub lower : AreOnTop addresses rest under below

put_before : {A : Type 0} (values : List A) (value : A) (below : List A) → reverse values ++ (value ∷ below) ≡ reverse (value ∷ values) ++ below
put_before values value below =
    sym (append_assoc (reverse values) (value ∷ []) below)
    ∙ ap (λ l. l ++ below) (sym (reverse-append (value ∷ []) values))

pub on_top :
    (addresses : List ℕ) (values rest : List Value) (used below : List ℕ) → AreInts values → AreOnTop addresses (reverse values ++ rest) used below
    → OnTop addresses values rest used below
on_top addresses [] rest used below h k = record { words = []; under = used; used_is = refl; are = tt; lower = k }
on_top addresses (value ∷ values) rest used below h k =
    let i =
    on_top addresses values (value ∷ rest) used below h.1
    (subst (λ (vs : List Value). AreOnTop addresses vs used below) (sym (put_before values value rest)) k) in
    let under = i.lower.0 in
    let top = subst (λ (v : Value). IsOnTop addresses v i.under under) h.0.is i.lower.1 in
    record {
      words = top.0 ∷ i.words;
      under = under;
      used_is =
          i.used_is ∙ ap (λ (l : List ℕ). reverse i.words ++ l) top.1 ∙ put_before i.words top.0 under;
      are = (h.0.is ∙ ap (λ (n : ℤ). Int n) top.2, i.are);
      lower = i.lower.2;
    }

pub words_count : (values : List Value) (words : List ℕ) → AreWordsOf values words → length words ≡ length values
words_count [] [] h = refl
words_count [] (word ∷ words) h = absurd h
words_count (value ∷ values) [] h = absurd h
words_count (value ∷ values) (word ∷ words) h = ap suc (words_count values words h.1)

-- where they stand among all
pub record Among (items words under : List ℕ) (top first : ℕ) : Type 0 where
  pub within : first + length words ≡ top
  pub words_are : drop first (take top items) ≡ words
  pub under_is : in_use items first ≡ under

pub among :
    (items words under : List ℕ) (top first : ℕ) → top ≤ length items → in_use items top ≡ reverse words ++ under → first ≡ top - length words
    → Among items words under top first
among items words under top first fits e n =
    let turned : take top items ≡ reverse under ++ words =
    sym (reverse-reverse (take top items)) ∙ ap (λ (l : List ℕ). reverse l) e ∙ reverse-append (reverse words) under
    ∙ ap (λ (l : List ℕ). reverse under ++ l) (reverse-reverse words) in
    let taken_size : top ≡ length (take top items) = let n = length-take top items in omega (arith, n, fits) in
    let all : top ≡ length (reverse under) + length words =
    taken_size ∙ ap (λ (l : List ℕ). length l) turned ∙ length-append (reverse under) words in
    let front : length (reverse under) ≡ first = omega (arith, all, n) in
    let low : first ≤ top = omega (arith, n) in
    record {
      within = omega (arith, all, front);
      words_are =
          ap (λ (l : List ℕ). drop first l) turned ∙ ap (λ (k : ℕ). drop k (reverse under ++ words)) (sym front)
          ∙ drop-append_seam (reverse under) words;
      under_is =
          ap (λ (l : List ℕ). reverse l)
          (sym (take-take first top items low) ∙ ap (λ (l : List ℕ). take first l) turned ∙ take_at (reverse under) words first front)
          ∙ reverse-reverse under;
    }

-- ---- negative ones

pub all_fit : (words : List ℕ) → ((k : ℕ) → get_or words k 0 < 4294967296) → AreWords words
all_fit [] h = tt
all_fit (word ∷ words) h = (h 0, all_fit words (λ k. h (suc k)))

negative_word : (word : ℕ) → word < 4294967296 → is_negative_count (Int (cast_signed w32 word)) ≡ is_negative_word word
negative_word word fits = by_test (nat_lt 2147483647 word) refl
  where
    by_test : (b : Bool) → nat_lt 2147483647 word ≡ b → is_negative_count (Int (cast_signed w32 word)) ≡ is_negative_word word
    by_test true t =
        ap (λ (n : ℤ). is_negative_count (Int n)) (negative_count word (ltb-true 2147483647 word t) fits) ∙ sym t
    by_test false t = ap (λ (n : ℤ). is_negative_count (Int n)) (small_count word (ltb-false 2147483647 word t)) ∙ sym t

pub negatives : (values : List Value) (words : List ℕ) → AreWordsOf values words → AreWords words → list_any is_negative_count values ≡ list_any is_negative_word words
negatives [] [] h fits = refl
negatives [] (word ∷ words) h fits = absurd h
negatives (value ∷ values) [] h fits = absurd h
negatives (value ∷ values) (word ∷ words) h fits =
    ap (λ (v : Value). is_negative_count v || list_any is_negative_count values) h.0
    ∙ ap (λ (b : Bool). b || list_any is_negative_count values) (negative_word word fits.0)
    ∙ ap (λ (b : Bool). is_negative_word word || b) (negatives values words h.1 fits.1)

pub are_counts : (words : List ℕ) → list_any is_negative_word words ≡ false → AreCounts words
are_counts [] e = tt
are_counts (word ∷ words) e =
    let parts = none_of (is_negative_word word) (list_any is_negative_word words) e in
    (let small = ltb-false 2147483647 word parts.0 in omega (arith, small), are_counts words parts.1)
  where
    none_of : (a b : Bool) → (a || b) ≡ false → (a ≡ false) × (b ≡ false)
    none_of true b e = absurd cc
    none_of false b e = (refl, e)

pub counts_are : (values : List Value) (words : List ℕ) → AreWordsOf values words → AreCounts words → map count_of values ≡ words
counts_are [] [] h small = refl
counts_are [] (word ∷ words) h small = absurd h
counts_are (value ∷ values) [] h small = absurd h
counts_are (value ∷ values) (word ∷ words) h small =
    let few = small.0 in
    let is : count_of value ≡ word =
    ap (λ (v : Value). count_of v) h.0 ∙ ap (λ (n : ℤ). count_of (Int n)) (small_count word (omega (arith, few))) in
    ap (λ (n : ℕ). n ∷ map count_of values) is ∙ ap (λ (l : List ℕ). word ∷ l) (counts_are values words h.1 small.1)
