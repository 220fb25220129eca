-- What a form of the stack leaves: values that stand on the words that it leaves (JVMS 6.5, dup_x1 and its kin).
use Rattle.std.proofs.Common.{◌≡◌, ℕ, zero, suc, ◌+◌, ◌≤◌, List, [], ◌∷◌, ◌++◌, Option, Some, None, length, refl, sym, ap, subst, ◌∙◌, arith, length-append, append_assoc}
use Rattle.jv_format.specs.Format.{◌>>=◌}
use Rattle.jv_code.specs.declared.kinds.StackForm.{StackForm}
use Rattle.jv_code.specs.declared.kinds.StackForm.TheVariants as forms
use Rattle.jv_meaning_typing.specs.StackForms.{item_before, top_words, taken_words, passed_words, arranged, rearranged}
use Rattle.jv_meaning_machine.specs.Values.{Value, value_width}
use Rattle.jv_meaning_machine.specs.Values.Value.{Int, Long, Null, Reference, Half, Unset}
use Rattle.jv_interp_words.specs.ValuesInWords.{IsOnTop, AreOnTop}
use Rattle.jv_interp_words.specs.Inside.Forms.{word_width, Rearranges, added_words}
use Rattle.jv_interp_words.proofs.Stacks.{stack_joined}

-- ---- what steps in maybes gave

pub maybe_gave :
    {A B : Type 0} (o : Option A) (next : A → Option B) (b : B) → (o >>= next) ≡ Some b → (a : A) × (o ≡ Some a) × (next a ≡ Some b)
maybe_gave None next b e = absurd cc
maybe_gave (Some a) next b e = (a, refl, e)

-- ---- items that come to so many words stand on as many

-- values on top of words, wherever those stand
abbrev pub StandOn : List ℕ → List Value → List ℕ → Type 0
StandOn addresses values words = (others : List ℕ) → AreOnTop addresses values (words ++ others) others

pub joined_on :
    (addresses : List ℕ) (upper lower : List Value) (words others : List ℕ) → StandOn addresses upper words → StandOn addresses lower others
    → StandOn addresses (upper ++ lower) (words ++ others)
joined_on addresses upper lower words others h k = λ rest.
    subst (λ (l : List ℕ). AreOnTop addresses (upper ++ lower) l rest) (sym (append_assoc words others rest))
    (stack_joined addresses upper lower (words ++ (others ++ rest)) (others ++ rest) rest (h (others ++ rest)) (k rest))

-- the words below, what of them values stand on, and how many those are
pub record TopWords (addresses : List ℕ) (n : ℕ) (values rest : List Value) (used below : List ℕ) : Type 0 where
  pub words : List ℕ
  pub under : List ℕ
  pub place : used ≡ words ++ under
  pub taken : top_words word_width n used ≡ Some (words, under)
  pub stand : StandOn addresses values words
  pub rest_stands : AreOnTop addresses rest under below

-- as items of one word each
word_taken :
    (n : ℕ) (word : ℕ) (used words under : List ℕ) → top_words word_width n used ≡ Some (words, under)
    → top_words word_width (suc n) (word ∷ used) ≡ Some (word ∷ words, under)
word_taken n word used words under e = ap (λ (o : Option (List ℕ × List ℕ)). o >>= λ parts. Some (item_before word parts)) e

-- an item of one word, and one of two
first_part : (a b : List ℕ × List ℕ) → Some a ≡ Some b → a.0 ≡ b.0
first_part a b e = let known : a ≡ b = cc in ap (λ (p : List ℕ × List ℕ). p.0) known

-- as many words as were asked for
words_count : (n : ℕ) (used words under : List ℕ) → top_words word_width n used ≡ Some (words, under) → length words ≡ n
words_count zero used words under e = sym (ap length (first_part ([], used) (words, under) e))
words_count (suc n) [] words under e = absurd cc
words_count (suc n) (word ∷ used) words under e =
    let got = maybe_gave (top_words word_width n used) (λ (p : List ℕ × List ℕ). Some (item_before word p)) (words, under) e in
    let known : word ∷ got.0.0 ≡ words = first_part (item_before word got.0) (words, under) got.2 in
    sym (ap length known) ∙ ap suc (words_count n used got.0.0 got.0.1 got.1)

same_words : (o : Option (List ℕ)) (a b : List ℕ) → o ≡ Some a → o ≡ Some b → a ≡ b
same_words o a b e f = cc

longer :
    (taken passed under : List ℕ) (size n : ℕ) → length taken ≡ n → length (taken ++ (passed ++ under)) ≤ size
    → length ((taken ++ (passed ++ taken)) ++ under) ≤ size → length (taken ++ (passed ++ under)) + n ≤ size
longer taken passed under size n e h k =
    omega (
      arith,
      e,
      h,
      k,
      length-append taken (passed ++ under),
      length-append passed under,
      length-append (taken ++ (passed ++ taken)) under,
      length-append taken (passed ++ taken),
      length-append passed taken,
    )

module _ (addresses : List ℕ) where
  one_before :
      (n : ℕ) (value : Value) (values rest : List Value) (used under below : List ℕ) (word : ℕ) → used ≡ word ∷ under
      → ((others : List ℕ) → IsOnTop addresses value (word ∷ others) others) → TopWords addresses n values rest under below
      → TopWords addresses (suc n) (value ∷ values) rest used below
  one_before n value values rest used under below word e on h = record {
    words = word ∷ h.words;
    under = h.under;
    place = e ∙ ap (λ (l : List ℕ). word ∷ l) h.place;
    taken = ap (λ (l : List ℕ). top_words word_width (suc n) l) e ∙ word_taken n word under h.words h.under h.taken;
    stand = λ others. (h.words ++ others, on (h.words ++ others), h.stand others);
    rest_stands = h.rest_stands;
  }

  two_before :
      (n : ℕ) (value : Value) (values rest : List Value) (used under below : List ℕ) (high low : ℕ) → used ≡ high ∷ low ∷ under
      → ((others : List ℕ) → IsOnTop addresses value (high ∷ low ∷ others) others) → TopWords addresses n values rest under below
      → TopWords addresses (suc (suc n)) (value ∷ values) rest used below
  two_before n value values rest used under below high low e on h = record {
    words = high ∷ low ∷ h.words;
    under = h.under;
    place = e ∙ ap (λ (l : List ℕ). high ∷ low ∷ l) h.place;
    taken =
        ap (λ (l : List ℕ). top_words word_width (suc (suc n)) l) e
        ∙ word_taken (suc n) high (low ∷ under) (low ∷ h.words) h.under (word_taken n low under h.words h.under h.taken);
    stand = λ others. (h.words ++ others, on (h.words ++ others), h.stand others);
    rest_stands = h.rest_stands;
  }

  parts_are : (value : Value) (got parts : List Value × List Value) → Some (item_before value got) ≡ Some parts → (value ∷ got.0 ≡ parts.0) × (got.1 ≡ parts.1)
  parts_are value got parts e =
      let known : item_before value got ≡ parts = cc in
      (ap (λ (p : List Value × List Value). p.0) known, ap (λ (p : List Value × List Value). p.1) known)

  moved :
      (n : ℕ) (values others rest rests : List Value) (used below : List ℕ) → values ≡ others → rest ≡ rests
      → TopWords addresses n values rest used below → TopWords addresses n others rests used below
  moved n values others rest rests used below e f h =
      subst (λ (vs : List Value). TopWords addresses n vs rests used below) e
      (subst (λ (rs : List Value). TopWords addresses n values rs used below) f h)

  pub stack_taken :
      (n : ℕ) (stack : List Value) (used below : List ℕ) (parts : List Value × List Value) → AreOnTop addresses stack used below
      → top_words value_width n stack ≡ Some parts → TopWords addresses n parts.0 parts.1 used below
  stack_taken zero stack used below parts h e =
      let known : ([], stack) ≡ parts = cc in
      subst (λ (p : List Value × List Value). TopWords addresses zero p.0 p.1 used below) known
      (record { words = []; under = used; place = refl; taken = refl; stand = λ others. refl; rest_stands = h })
  stack_taken (suc n) [] used below parts h e = absurd cc
  stack_taken (suc n) (Int number ∷ stack) used below parts h e =
      let got = maybe_gave (top_words value_width n stack) (λ (p : List Value × List Value). Some (item_before (Int number) p)) parts e in
      let same = parts_are (Int number) got.0 parts got.2 in
      moved (suc n) (Int number ∷ got.0.0) parts.0 got.0.1 parts.1 used below same.0 same.1
      (one_before n (Int number) got.0.0 got.0.1 used h.0 below h.1.0 h.1.1 (λ others. (h.1.0, refl, h.1.2))
      (stack_taken n stack h.0 below got.0 h.2 got.1))
  stack_taken (suc zero) (Long number ∷ stack) used below parts h e = absurd cc
  stack_taken (suc (suc n)) (Long number ∷ stack) used below parts h e =
      let got = maybe_gave (top_words value_width n stack) (λ (p : List Value × List Value). Some (item_before (Long number) p)) parts e in
      let same = parts_are (Long number) got.0 parts got.2 in
      moved (suc (suc n)) (Long number ∷ got.0.0) parts.0 got.0.1 parts.1 used below same.0 same.1
      (two_before n (Long number) got.0.0 got.0.1 used h.0 below h.1.1 h.1.0 h.1.2 (λ others. (h.1.0, h.1.1, refl, h.1.3))
      (stack_taken n stack h.0 below got.0 h.2 got.1))
  stack_taken (suc n) (Null ∷ stack) used below parts h e =
      let got = maybe_gave (top_words value_width n stack) (λ (p : List Value × List Value). Some (item_before Null p)) parts e in
      let same = parts_are Null got.0 parts got.2 in
      moved (suc n) (Null ∷ got.0.0) parts.0 got.0.1 parts.1 used below same.0 same.1
      (one_before n Null got.0.0 got.0.1 used h.0 below 0 h.1 (λ others. refl) (stack_taken n stack h.0 below got.0 h.2 got.1))
  stack_taken (suc n) (Reference id ∷ stack) used below parts h e =
      let got = maybe_gave (top_words value_width n stack) (λ (p : List Value × List Value). Some (item_before (Reference id) p)) parts e in
      let same = parts_are (Reference id) got.0 parts got.2 in
      moved (suc n) (Reference id ∷ got.0.0) parts.0 got.0.1 parts.1 used below same.0 same.1
      (one_before n (Reference id) got.0.0 got.0.1 used h.0 below h.1.0 h.1.1 (λ others. (h.1.0, refl, h.1.2))
      (stack_taken n stack h.0 below got.0 h.2 got.1))
  stack_taken (suc n) (Half ∷ stack) used below parts h e = absurd h.1
  stack_taken (suc n) (Unset ∷ stack) used below parts h e = absurd h.1

  -- ---- the forms

  arranged_on :
      (form : StackForm) (taken passed : List Value) (words others : List ℕ) → StandOn addresses taken words → StandOn addresses passed others
      → StandOn addresses (arranged form taken passed) (arranged form words others)
  arranged_on forms.Pop taken passed words others h k = k
  arranged_on forms.Pop2 taken passed words others h k = k
  arranged_on forms.Dup taken passed words others h k =
      joined_on addresses taken (passed ++ taken) words (others ++ words) h (joined_on addresses passed taken others words k h)
  arranged_on forms.DupX1 taken passed words others h k =
      joined_on addresses taken (passed ++ taken) words (others ++ words) h (joined_on addresses passed taken others words k h)
  arranged_on forms.DupX2 taken passed words others h k =
      joined_on addresses taken (passed ++ taken) words (others ++ words) h (joined_on addresses passed taken others words k h)
  arranged_on forms.Dup2 taken passed words others h k =
      joined_on addresses taken (passed ++ taken) words (others ++ words) h (joined_on addresses passed taken others words k h)
  arranged_on forms.Dup2X1 taken passed words others h k =
      joined_on addresses taken (passed ++ taken) words (others ++ words) h (joined_on addresses passed taken others words k h)
  arranged_on forms.Dup2X2 taken passed words others h k =
      joined_on addresses taken (passed ++ taken) words (others ++ words) h (joined_on addresses passed taken others words k h)
  arranged_on forms.Swap taken passed words others h k = joined_on addresses passed taken others words k h

  -- the words that a form leaves, and what stands on them
  pub record Moves (form : StackForm) (after : List Value) (used below : List ℕ) : Type 0 where
    pub taken : List ℕ
    pub passed : List ℕ
    pub under : List ℕ
    pub place : used ≡ taken ++ (passed ++ under)
    pub taken_count : length taken ≡ taken_words form
    pub passed_count : length passed ≡ passed_words form
    pub leaves : rearranged word_width form used ≡ Some (arranged form taken passed ++ under)
    pub stand : AreOnTop addresses after (arranged form taken passed ++ under) below

  pub stack_moves :
      (form : StackForm) (stack after : List Value) (used below : List ℕ) → AreOnTop addresses stack used below
      → rearranged value_width form stack ≡ Some after → Moves form after used below
  stack_moves form stack after used below h e =
      let a =
      maybe_gave (top_words value_width (taken_words form) stack)
      (λ (a : List Value × List Value). top_words value_width (passed_words form) a.1 >>= λ b. Some (arranged form a.0 b.0 ++ b.1)) after e in
      let b =
      maybe_gave (top_words value_width (passed_words form) a.0.1)
      (λ (b : List Value × List Value). Some (arranged form a.0.0 b.0 ++ b.1)) after a.2 in
      let first = stack_taken (taken_words form) stack used below a.0 h a.1 in
      let second = stack_taken (passed_words form) a.0.1 first.under below b.0 first.rest_stands b.1 in
      let values_are : arranged form a.0.0 b.0.0 ++ b.0.1 ≡ after = cc b.2 in
      record {
        taken = first.words;
        passed = second.words;
        under = second.under;
        place = first.place ∙ ap (λ (l : List ℕ). first.words ++ l) second.place;
        taken_count = words_count (taken_words form) used first.words first.under first.taken;
        passed_count = words_count (passed_words form) first.under second.words second.under second.taken;
        leaves =
            ap
            (λ (o : Option (List ℕ × List ℕ)). o >>= λ a. top_words word_width (passed_words form) a.1 >>= λ b. Some (arranged form a.0 b.0 ++ b.1))
            first.taken
            ∙ ap (λ (o : Option (List ℕ × List ℕ)). o >>= λ b. Some (arranged form first.words b.0 ++ b.1)) second.taken;
        stand =
            subst (λ (vs : List Value). AreOnTop addresses vs (arranged form first.words second.words ++ second.under) below) values_are
            (stack_joined addresses (arranged form a.0.0 b.0.0) b.0.1 (arranged form first.words second.words ++ second.under) second.under below
            (arranged_on form a.0.0 b.0.0 first.words second.words first.stand second.stand second.under) second.rest_stands);
      }

  pub stack_moved :
      (form : StackForm) (stack after : List Value) (used words below : List ℕ) → AreOnTop addresses stack used below
      → rearranged value_width form stack ≡ Some after → Rearranges form used words → AreOnTop addresses after words below
  stack_moved form stack after used words below h e f =
      let m = stack_moves form stack after used below h e in
      subst (λ (ws : List ℕ). AreOnTop addresses after ws below)
      (same_words (rearranged word_width form used) (arranged form m.taken m.passed ++ m.under) words m.leaves f) m.stand

-- ---- room

-- where there is room for what a form leaves, there is for all that it adds
pub form_fits :
    (form : StackForm) (taken passed under : List ℕ) (size : ℕ) → length taken ≡ taken_words form → length passed ≡ passed_words form
    → length (taken ++ (passed ++ under)) ≤ size → length (arranged form taken passed ++ under) ≤ size
    → length (taken ++ (passed ++ under)) + added_words form ≤ size
form_fits forms.Pop taken passed under size e f h k = omega arith
form_fits forms.Pop2 taken passed under size e f h k = omega arith
form_fits forms.Swap taken passed under size e f h k = omega arith
form_fits forms.Dup taken passed under size e f h k = longer taken passed under size 1 e h k
form_fits forms.DupX1 taken passed under size e f h k = longer taken passed under size 1 e h k
form_fits forms.DupX2 taken passed under size e f h k = longer taken passed under size 1 e h k
form_fits forms.Dup2 taken passed under size e f h k = longer taken passed under size 2 e h k
form_fits forms.Dup2X1 taken passed under size e f h k = longer taken passed under size 2 e h k
form_fits forms.Dup2X2 taken passed under size e f h k = longer taken passed under size 2 e h k
