-- What holds at every index of a table.
use Rattle.std.proofs.Common.{◌≡◌, ℕ, zero, suc, ◌<◌, ◌≤◌, ◌+◌, ◌-◌, Bool, true, false, inl, inr, List, [], ◌∷◌, ◌++◌, length, Option, Some, None, refl, sym, ap, subst, ◌∙◌, arith, length-append}
use Rattle.std.specs.Prelude.{IsTrue, ◌⊎◌, ◌↔◌, slice_get, get_or, unwrap_or, is_none}
use Rattle.std.proofs.lemmas.List.{append-nil}
use Rattle.std.specs.List.{All}
use Rattle.std.proofs.lemmas.Option.{slice_get_past}
use Rattle.std.proofs.lemmas.List.Elements.{All-nil, All-cons, All-head, All-tail}
use Rattle.std.specs.Option.{IsSomeAnd}
use Rattle.std.proofs.lemmas.Bool.{and_parts, and_from}
use Rattle.jv_format.specs.Format.{◌>>=◌}
use Rattle.jv_text.specs.Text.{IsText}
use Rattle.jv_text.specs.Descriptor.{MethodDescriptor}
use Rattle.jv_text.proofs.Methods.{one_method}
use Rattle.jv_pool.specs.declared.facts.TextFacts.{TextFacts}
use Rattle.jv_pool.specs.declared.facts.MethodFacts.{MethodFacts}
use Rattle.jv_pool.specs.Rules.{IsMethodMember, NamesMethod}
use Rattle.jv_pool.specs.Facts.{AreFacts, AreMethodFacts}
use Rattle.jv_pool.specs.Constants.{Entry, takes_two, entries_of, table_of, pool_count, usable, at_index, utf8_at, utf8_in, name_and_descriptor}
use Rattle.jv_pool.specs.Inside.Alike.{IsAlike, IsInOrder}
use Rattle.jv_pool.specs.Inside.Known.{IsKnown, known_in, AllKnown, KnownBelow, place_alike, IsAdded, IsNewText, AreTexts, AreTextsBelow, MethodKnown, IsNamedFor, special_keeps_rules, At}

-- ---- lists

pub get_before : {X : Type 0} (xs ys : List X) (i : ℕ) → i < length xs → slice_get (xs ++ ys) i ≡ slice_get xs i
get_before [] ys i lt = absurd (omega arith)
get_before (x ∷ xs) ys zero lt = refl
get_before (x ∷ xs) ys (suc i) lt = get_before xs ys i (omega arith)

pub get_last : {X : Type 0} (xs : List X) (y : X) (i : ℕ) → length xs ≡ i → slice_get (xs ++ y ∷ []) i ≡ Some y
get_last [] y zero e = refl
get_last [] y (suc i) e = absurd (omega arith)
get_last (x ∷ xs) y zero e = absurd (omega arith)
get_last (x ∷ xs) y (suc i) e = get_last xs y i (omega arith)

-- what holds below i, and at i, holds below i + 1
pub below_or_here : (P : ℕ → Type 0) (i : ℕ) → ((k : ℕ) → k < i → P k) → P i → (k : ℕ) → k < i + 1 → P k
below_or_here P zero below here zero lt = here
below_or_here P zero below here (suc k) lt = absurd (omega arith)
below_or_here P (suc i) below here zero lt = below 0 (omega arith)
below_or_here P (suc i) below here (suc k) lt = below_or_here (λ n. P (suc n)) i (λ n l. below (suc n) (omega arith)) here k (omega arith)

-- what holds below i, and from i on, holds everywhere
pub below_or_past : (P : ℕ → Type 0) (i : ℕ) → ((k : ℕ) → k < i → P k) → ((k : ℕ) → i ≤ k → P k) → (k : ℕ) → P k
below_or_past P zero below past k = past k (omega arith)
below_or_past P (suc i) below past zero = below 0 (omega arith)
below_or_past P (suc i) below past (suc k) = below_or_past (λ n. P (suc n)) i (λ n l. below (suc n) (omega arith)) (λ n l. past (suc n) (omega arith)) k

-- ---- indices

pub past_table : (pool : List Entry) (index : ℕ) → pool_count pool ≤ index → at_index pool index ≡ None
past_table pool zero le = absurd (omega arith)
past_table pool (suc n) le = ap usable (slice_get_past (table_of pool) n (omega arith))

pub past_texts : (pool : List Entry) (index : ℕ) → pool_count pool ≤ index → utf8_at pool index ≡ None
past_texts pool index le = ap utf8_in (past_table pool index le)

-- ---- what is known of the texts

-- what stands at a place still stands there with more behind it
known_still : (facts more : List TextFacts) (place : ℕ) → place ≤ length facts → known_in (facts ++ more) place ≡ known_in facts place
known_still facts more zero le = refl
known_still facts more (suc before) le = get_before facts more before (omega arith)

-- the next place, beside those before
place_before : (places : List ℕ) (place : ℕ) (k : ℕ) → k < length places → get_or (places ++ place ∷ []) k 0 ≡ get_or places k 0
place_before [] place k lt = absurd (omega arith)
place_before (p ∷ places) place zero lt = refl
place_before (p ∷ places) place (suc k) lt = place_before places place k (omega arith)

place_last : (places : List ℕ) (place : ℕ) (i : ℕ) → length places ≡ i → get_or (places ++ place ∷ []) i 0 ≡ place
place_last [] place zero e = refl
place_last [] place (suc i) e = absurd (omega arith)
place_last (p ∷ places) place zero e = absurd (omega arith)
place_last (p ∷ places) place (suc i) e = place_last places place i (omega arith)

place_past : (places : List ℕ) (k : ℕ) → length places ≤ k → get_or places k 0 ≡ 0
place_past [] k le = refl
place_past (p ∷ places) zero le = absurd (omega arith)
place_past (p ∷ places) (suc k) le = place_past places k (omega arith)

-- an item that is there
get_there : (places : List ℕ) (k place : ℕ) → slice_get places k ≡ Some place → get_or places k 0 ≡ place
get_there [] k place e = absurd cc
get_there (p ∷ places) zero place e = ap (λ (o : Option ℕ). unwrap_or o 0) e
get_there (p ∷ places) (suc k) place e = get_there places k place e

there_below : (places : List ℕ) (k place : ℕ) → slice_get places k ≡ Some place → k < length places
there_below [] k place e = absurd cc
there_below (p ∷ places) zero place e = omega arith
there_below (p ∷ places) (suc k) place e = let lt = there_below places k place e in omega (arith, lt)

-- facts that joined, or none
record Joined (text : Option (List ℕ)) (facts more : List TextFacts) (place : ℕ) : Type 0 where
  new : List TextFacts
  same : more ≡ facts ++ new
  one : length new ≤ 1
  within : place ≤ length more
  here : IsKnown text (known_in more place)

-- what a place that was found is known to be
abbrev IsPlaced : List ℕ → List TextFacts → ℕ → Type 0
IsPlaced text facts place = (place ≤ length facts) × IsKnown (Some text) (known_in facts place)

joined : (text : Option (List ℕ)) (known : Option ℕ) (facts more : List TextFacts) (place : ℕ) → ((t : List ℕ) (p : ℕ) → text ≡ Some t → known ≡ Some p → IsPlaced t facts p)
    → IsAdded text known facts more place → Joined text facts more place
joined None known facts more place there h =
    record { new = []; same = h.0 ∙ sym (append-nil facts); one = omega arith; within = omega (arith, h.1); here = rw h.1 tt }
joined (Some t) (Some p) facts more place there h =
    let placed : IsPlaced t facts p = there t p refl refl in
    record {
      new = [];
      same = h.0 ∙ sym (append-nil facts);
      one = omega arith;
      within = rw (h.0, h.1) placed.0;
      here = rw (h.0, h.1) placed.1;
    }
joined (Some t) None facts more place there h =
    let at : known_in more place ≡ Some h.0 = rw (h.2, h.3) (known_last facts h.0) in
    record {
      new = h.0 ∷ [];
      same = h.2;
      one = omega arith;
      within = rw (h.2, h.3) (omega (arith, length-append facts (h.0 ∷ [])));
      here = rw at h.1;
    }
  where
    known_last : (facts : List TextFacts) (new : TextFacts) → known_in (facts ++ new ∷ []) (length facts + 1) ≡ Some new
    known_last facts new = let next : length facts + 1 ≡ suc (length facts) = omega arith in ap (known_in (facts ++ new ∷ [])) next ∙ get_last facts new (length facts) refl

-- where the first text alike stands at a lower index
record Before (pool : List Entry) (places : List ℕ) (text : List ℕ) (place : ℕ) : Type 0 where
  first : ℕ
  below : first < length places
  at : get_or places first 0 ≡ place
  same : utf8_at pool first ≡ Some text

alike_before : (pool : List Entry) (alike : List ℕ) (i : ℕ) (places : List ℕ) → IsInOrder pool alike → (t : List ℕ) (p : ℕ) → utf8_at pool i ≡ Some t
    → place_alike alike places i ≡ Some p → Before pool places t p
alike_before pool alike i places order t p here e = by_first (slice_get alike i) refl e
  where
    by_first : (o : Option ℕ) → slice_get alike i ≡ o → (o >>= slice_get places) ≡ Some p → Before pool places t p
    by_first None first found = absurd cc
    by_first (Some f) first found =
        let there : IsAlike pool i (utf8_at pool i) (Some f) = subst (λ (o : Option ℕ). IsAlike pool i (utf8_at pool i) o) first (order i) in
        let is_alike : IsAlike pool i (Some t) (Some f) = subst (λ (o : Option (List ℕ)). IsAlike pool i o (Some f)) here there in
        record { first = f; below = there_below places f p found; at = get_there places f p found; same = is_alike.same ∙ here }

-- the place of the first text alike is right for this text too
placed_before : (pool : List Entry) (alike : List ℕ) (i : ℕ) (facts : List TextFacts) (places : List ℕ) → IsInOrder pool alike → KnownBelow pool i facts places
    → (t : List ℕ) (p : ℕ) → utf8_at pool i ≡ Some t → place_alike alike places i ≡ Some p → IsPlaced t facts p
placed_before pool alike i facts places order so_far t p here e =
    let b = alike_before pool alike i places order t p here e in (
      omega (arith, b.at, so_far.within b.first),
      subst (λ (o : Option (List ℕ)). IsKnown o (known_in facts p)) b.same
          (subst (λ (k : ℕ). IsKnown (utf8_at pool b.first) (known_in facts k)) b.at (so_far.known b.first (omega (arith, b.below, so_far.long)))),
    )

-- and with those before it is a text
pub texts_more : (pool : List Entry) (alike : List ℕ) (i : ℕ) (facts : List TextFacts) (places : List ℕ) → IsInOrder pool alike → KnownBelow pool i facts places
    → IsNewText (utf8_at pool i) (place_alike alike places i) → AreTextsBelow pool i → AreTextsBelow pool (i + 1)
texts_more pool alike i facts places order so_far new texts =
    below_or_here (λ k. (t : List ℕ) → utf8_at pool k ≡ Some t → IsText t) i texts
    (λ t here. by_place t here (place_alike alike places i) refl)
  where
    by_place : (t : List ℕ) → utf8_at pool i ≡ Some t → (o : Option ℕ) → place_alike alike places i ≡ o → IsText t
    by_place t here None e = subst (λ (o : Option ℕ). IsNewText (Some t) o) e (subst (λ (o : Option (List ℕ)). IsNewText o (place_alike alike places i)) here new)
    by_place t here (Some p) e =
        let b = alike_before pool alike i places order t p here e in
        texts b.first (omega (arith, b.below, so_far.long)) t b.same

pub texts_all : (pool : List Entry) (i : ℕ) → pool_count pool ≤ i → AreTextsBelow pool i → AreTexts pool
texts_all pool i le texts =
    below_or_past (λ k. (t : List ℕ) → utf8_at pool k ≡ Some t → IsText t) i texts
    (λ k past t here. let none : utf8_at pool k ≡ None = past_texts pool k (omega arith) in absurd cc)

pub KnownBelow-start : (pool : List Entry) → KnownBelow pool 0 [] []
KnownBelow-start pool = record { long = refl; few = omega arith; within = λ k. omega arith; known = λ k lt. absurd (omega arith) }

pub KnownBelow-push : (pool : List Entry) (alike : List ℕ) (i : ℕ) (facts more : List TextFacts) (places : List ℕ) (place : ℕ) → IsInOrder pool alike
    → IsAdded (utf8_at pool i) (place_alike alike places i) facts more place → KnownBelow pool i facts places → KnownBelow pool (i + 1) more (places ++ place ∷ [])
KnownBelow-push pool alike i facts more places place order added so_far =
    let j = joined (utf8_at pool i) (place_alike alike places i) facts more place (placed_before pool alike i facts places order so_far) added in
    let size : length more ≡ length facts + length j.new = ap length j.same ∙ length-append facts j.new in
    let long : length (places ++ place ∷ []) ≡ length places + 1 = length-append places (place ∷ []) in
    let last : get_or (places ++ place ∷ []) i 0 ≡ place = place_last places place i so_far.long in
    let W : ℕ → Type 0 = λ k. get_or (places ++ place ∷ []) k 0 ≤ length more in
    let P : ℕ → Type 0 = λ k. IsKnown (utf8_at pool k) (known_in more (get_or (places ++ place ∷ []) k 0)) in
    record {
      long = omega (arith, so_far.long, long);
      few = omega (arith, so_far.few, size, j.one);
      within =
          below_or_past W (i + 1)
          (below_or_here W i (λ k lt. let same = place_before places place k (omega (arith, so_far.long, lt)) in omega (arith, same, so_far.within k, size)) (omega (arith, last, j.within)))
          (λ k past. let none = place_past (places ++ place ∷ []) k (omega (arith, so_far.long, long, past)) in omega (arith, none));
      known =
          below_or_here P i
          (λ k lt.
          let same = place_before places place k (omega (arith, so_far.long, lt)) in
          let still : known_in more (get_or places k 0) ≡ known_in facts (get_or places k 0) = rw j.same (known_still facts j.new (get_or places k 0) (so_far.within k)) in
          subst (IsKnown (utf8_at pool k)) (sym (ap (known_in more) same ∙ still)) (so_far.known k lt))
          (subst (λ (p : ℕ). IsKnown (utf8_at pool i) (known_in more p)) (sym last) j.here);
    }

pub KnownBelow-all : (pool : List Entry) (i : ℕ) (facts : List TextFacts) (places : List ℕ) → pool_count pool ≤ i → KnownBelow pool i facts places → AllKnown pool facts places
KnownBelow-all pool i facts places le so_far =
    let P : ℕ → Type 0 = λ k. IsKnown (utf8_at pool k) (known_in facts (get_or places k 0)) in
    below_or_past P i so_far.known (λ k past.
    let no_text : utf8_at pool k ≡ None = past_texts pool k (omega arith) in
    let no_place : get_or places k 0 ≡ 0 = place_past places k (omega (arith, so_far.long)) in
    rw (no_text, no_place) tt)

-- what is known of the text at an index, by its place
get_nothing : (places : List ℕ) (k : ℕ) → slice_get places k ≡ None → get_or places k 0 ≡ 0
get_nothing [] k e = refl
get_nothing (p ∷ places) zero e = absurd cc
get_nothing (p ∷ places) (suc k) e = get_nothing places k e

pub known_at_place : (pool : List Entry) (facts : List TextFacts) (places : List ℕ) (index place : ℕ) → AllKnown pool facts places →
    slice_get places index ≡ Some place → IsKnown (utf8_at pool index) (known_in facts place)
known_at_place pool facts places index place all e = subst (λ (p : ℕ). IsKnown (utf8_at pool index) (known_in facts p)) (get_there places index place e) (all index)

pub known_past : (pool : List Entry) (facts : List TextFacts) (places : List ℕ) (index : ℕ) → AllKnown pool facts places → slice_get places index ≡ None → IsKnown (utf8_at pool index) None
known_past pool facts places index all e = subst (λ (p : ℕ). IsKnown (utf8_at pool index) (known_in facts p)) (get_nothing places index e) (all index)

-- the facts at a place
pub known_there : (facts : List TextFacts) (place : ℕ) (found : TextFacts) → 0 < place → slice_get facts (place - 1) ≡ Some found → Some found ≡ known_in facts place
known_there facts zero found lt e = absurd (omega arith)
known_there facts (suc before) found lt e = let here : before ≡ suc before - 1 = omega arith in sym (ap (slice_get facts) here ∙ e)

pub known_nowhere : (facts : List TextFacts) (place : ℕ) → 0 < place → slice_get facts (place - 1) ≡ None → None ≡ known_in facts place
known_nowhere facts zero lt e = absurd (omega arith)
known_nowhere facts (suc before) lt e = let here : before ≡ suc before - 1 = omega arith in sym (ap (slice_get facts) here ∙ e)

-- ---- every constant has an index

-- the entries of a constant, and those of others behind them
entries_two : (c : Entry) (two : Bool) → takes_two c ≡ two → (table : List (Option Entry)) → (entries_of c ++ table ≡ Some c ∷ None ∷ table) ⊎ (entries_of c ++ table ≡ Some c ∷ table)
entries_two c true e table = inl (rw e refl)
entries_two c false e table = inr (rw e refl)

pub all_at : (P : Entry → Type 0) (pool : List Entry) → ((n : ℕ) → At P (usable (slice_get (table_of pool) n))) → All P pool
all_at P [] each = All-nil P
all_at P (c ∷ pool) each =
    let Q : List (Option Entry) → Type 0 = λ table. (n : ℕ) → At P (usable (slice_get table n)) in
    elim (entries_two c (takes_two c) refl (table_of pool)) [
      | inl e ↦ let all : Q (Some c ∷ None ∷ table_of pool) = subst Q e each in All-cons P c pool (all 0) (all_at P pool (λ n. all (suc (suc n))))
      | inr e ↦ let all : Q (Some c ∷ table_of pool) = subst Q e each in All-cons P c pool (all 0) (all_at P pool (λ n. all (suc n)))
    ]

two_entries : (P : Entry → Type 0) (c : Entry) (table : List (Option Entry)) → P c → ((n : ℕ) → At P (usable (slice_get table n))) → (n : ℕ) → At P (usable (slice_get (Some c ∷ None ∷ table) n))
two_entries P c table here each zero = here
two_entries P c table here each (suc zero) = tt
two_entries P c table here each (suc (suc n)) = each n

one_entry : (P : Entry → Type 0) (c : Entry) (table : List (Option Entry)) → P c → ((n : ℕ) → At P (usable (slice_get table n))) → (n : ℕ) → At P (usable (slice_get (Some c ∷ table) n))
one_entry P c table here each zero = here
one_entry P c table here each (suc n) = each n

pub at_all : (P : Entry → Type 0) (pool : List Entry) → All P pool → (n : ℕ) → At P (usable (slice_get (table_of pool) n))
at_all P [] all n = tt
at_all P (c ∷ pool) all n =
    let Q : List (Option Entry) → Type 0 = λ table. (k : ℕ) → At P (usable (slice_get table k)) in
    let here : P c = All-head P c pool all in
    let rest : Q (table_of pool) = at_all P pool (All-tail P c pool all) in
    elim (entries_two c (takes_two c) refl (table_of pool)) [
      | inl e ↦ subst Q (sym e) (two_entries P c (table_of pool) here rest) n
      | inr e ↦ subst Q (sym e) (one_entry P c (table_of pool) here rest) n
    ]

pub at_every : (P : Entry → Type 0) (pool : List Entry) → All P pool → (index : ℕ) → At P (at_index pool index)
at_every P pool all zero = tt
at_every P pool all (suc n) = at_all P pool all n

pub every_at : (P : Entry → Type 0) (pool : List Entry) (count : ℕ) → pool_count pool ≤ count → ((index : ℕ) → index < count → At P (at_index pool index)) → All P pool
every_at P pool count le each =
    let Q : ℕ → Type 0 = λ k. At P (at_index pool k) in
    let every : (k : ℕ) → Q k = below_or_past Q count each (λ k past. rw (past_table pool k (omega arith)) tt) in
    all_at P pool (λ n. every (suc n))

pub untrue : (b : Bool) → b ≡ false → IsTrue b → ⊥
untrue b off on = cc

-- ---- tests

pub same_test : (a b : Bool) → a ≡ b → IsTrue a ↔ IsTrue b
same_test a b e = (λ on. sym e ∙ on, λ on. e ∙ on)

-- a test of two parts, of which the first holds, or fails
pub first_holds : {A B R : Type 0} (b : Bool) → A → (IsTrue b ↔ B) → (A → B → R) → (R → B) → IsTrue b ↔ R
first_holds b here h make part = (λ on. make here (h.0 on), λ r. h.1 (part r))

pub first_fails : {A R : Type 0} (b : Bool) → b ≡ false → (IsTrue b ↔ A) → (R → A) → IsTrue b ↔ R
first_fails b off h part = (λ on. absurd (untrue b off on), λ r. absurd (untrue b off (h.1 (part r))))

-- a test of what is known of a text, and of what isn't a text
pub if_known : (P : List ℕ → Type 0) (text : Option (List ℕ)) (facts : TextFacts) (b : Bool) → IsKnown text (Some facts) →
    ((t : List ℕ) → AreFacts t facts → IsTrue b ↔ P t) → IsTrue b ↔ IsSomeAnd text P
if_known P None facts b known h = absurd known
if_known P (Some t) facts b known h = h t known

pub if_unknown : (P : List ℕ → Type 0) (text : Option (List ℕ)) → IsKnown text None → IsTrue false ↔ IsSomeAnd text P
if_unknown P None known = (λ on. absurd (untrue false refl on), λ r. absurd r)
if_unknown P (Some t) known = absurd known

-- ---- a method's name and descriptor

named_for : (name text : List ℕ) (facts : MethodFacts) → AreMethodFacts text facts → IsNamedFor facts.void name → IsMethodMember name text
named_for name text facts known h =
    let parts = and_parts _ _ h in
    record { named = parts.0; type = known.type; described = known.described; special = ap (special_keeps_rules name) (sym known.void) ∙ parts.1 }

member_for : (name text : List ℕ) (facts : MethodFacts) → AreMethodFacts text facts → IsMethodMember name text → IsNamedFor facts.void name
member_for name text facts known h =
    let same : h.type ≡ known.type = one_method text h.type known.type h.described known.described in
    let void : facts.void ≡ is_none h.type.result = known.void ∙ ap (λ (m : MethodDescriptor). is_none m.result) (sym same) in
    and_from _ _ h.named (ap (special_keeps_rules name) void ∙ h.special)

pub method_named : (name text : Option (List ℕ)) (facts : MethodFacts) (b : Bool) → MethodKnown text (Some facts) → (IsTrue b ↔ IsSomeAnd name (IsNamedFor facts.void))
    → IsTrue b ↔ IsSomeAnd (name >>= λ n. text >>= λ d. Some (name_and_descriptor n d)) NamesMethod
method_named name None facts b known h = absurd known
method_named None (Some d) facts b known h = h
method_named (Some n) (Some d) facts b known h = (λ yes. named_for n d facts known (h.0 yes), λ is. h.1 (member_for n d facts known is))
