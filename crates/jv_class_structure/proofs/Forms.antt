-- The laws of the forms, and what is kept of what a form reads.
use Rattle.std.proofs.Common.{◌≡◌, ℕ, zero, suc, ◌<◌, Bool, true, false, cond, List, [], ◌∷◌, ◌++◌, length, Option, Some, None, refl, sym, ap, subst, ◌∙◌, append_assoc, eq-eqb, arith}
use Rattle.std.specs.Prelude.{IsTrue, map}
use Rattle.std.specs.List.{list_all}
use Rattle.std.proofs.lemmas.Bool.{and_parts, and_from, eqb-true}
use Rattle.jv_format.specs.Format.{Format, ◌>>=◌, IsBytes, half, quad}
use Rattle.jv_format.specs.Readers.{both, list_read, found_as, after, passed, paired, contents, whole, enclosed}
use Rattle.jv_format.proofs.Laws.{is_some, IsFormat, bind_some, IsBytes-rest, half_is, list_is, after_is, such_is, contents_is}
use Rattle.jv_class_structure.specs.Attributes.{at_most_one, sole}
use Rattle.jv_class_structure.specs.Inside.Reading.{shaped, kept, items_of, table, listed, values_in, solely, one_more, gathered, gather}

-- ---- laws

pub shaped_is : {A C : Type 0} (spelling : C → List ℕ) (fits : C → Bool) (to : A → C) (from : C → A) (f : Format A)
    → ((a : A) → from (to a) ≡ a) → ((c : C) → to (from c) ≡ c) → ((c : C) → IsTrue (fits c) → spelling c ≡ f.spelling (from c))
    → ((c : C) → IsTrue (fits c) → IsTrue (f.fits (from c))) → ((a : A) → IsTrue (f.fits a) → IsTrue (fits (to a)))
    → IsFormat f → IsFormat (shaped spelling fits to f)
shaped_is {A = A} {C = C} spelling fits to from f there back spelled enters leaves F = record {
  takes = λ bytes rest x small e.
      let a = bind_some (f.read bytes) (found_as to) (x, rest) e in
      let one = F.takes bytes a.0.1 a.0.0 small a.1 in
      let made : C × List ℕ = (to a.0.0, a.0.1) in
      let same : made ≡ (x, rest) = is_some made (x, rest) a.2 in
      let fit : IsTrue (fits (to a.0.0)) = leaves a.0.0 one.1 in
      subst (λ (y : C × List ℕ). (bytes ≡ spelling y.0 ++ y.1) × IsTrue (fits y.0)) same
      (one.0 ∙ ap (λ (b : A). f.spelling b ++ a.0.1) (sym (there a.0.0)) ∙ ap (λ (s : List ℕ). s ++ a.0.1) (sym (spelled (to a.0.0) fit)), fit);
  again = λ x rest h.
      ap (λ (s : List ℕ). f.read (s ++ rest) >>= found_as to) (spelled x h)
      ∙ ap (λ (o : Option (A × List ℕ)). o >>= found_as to) (F.again (from x) rest (enters x h))
      ∙ ap (λ (c : C). Some (c, rest)) (back x);
}

own_length : {A : Type 0} (f : Format A) (n : ℕ) (xs : List A) → IsTrue ((items_of f n).fits xs) → length xs ≡ n
own_length f n xs h = eqb-true (length xs) n (and_parts _ _ h).0

pub table_is : {A : Type 0} (f : Format A) → IsFormat f → IsFormat (table f)
table_is f F =
    let G : IsFormat (after half length (items_of f)) = after_is half length (items_of f) half_is (λ n. list_is n f F) (own_length f) in
    record {
      takes = λ bytes rest xs small e.
          let one = G.takes bytes rest xs small e in
          let a = and_parts (half.fits (length xs)) _ one.1 in
          let b = and_parts _ (list_all f.fits xs) a.1 in
          (one.0, and_from _ _ a.0 b.1);
      again = λ xs rest h.
          let a = and_parts (half.fits (length xs)) (list_all f.fits xs) h in
          G.again xs rest (and_from _ _ a.0 (and_from _ _ (eq-eqb (length xs) (length xs) refl) a.1));
    }

pub solely_is : {A V : Type 0} (value : A → Option V) (f : Format A) → IsFormat f → IsFormat (solely value f)
solely_is value f F = such_is _ (table f) (table_is f F)

-- ---- what is kept

-- what a format gives is what is kept of what another reads
pub record Keeps {A S : Type 0} (g : Format S) (keep : A → S) (f : Format A) : Type 0 where
  pub reads : (bytes : List ℕ) → IsBytes bytes → g.read bytes ≡ (f.read bytes >>= found_as keep)

-- the bytes that follow what was read
pub following : {A : Type 0} (f : Format A) → IsFormat f → (bytes rest : List ℕ) (a : A) → IsBytes bytes → f.read bytes ≡ Some (a, rest) → IsBytes rest
following f F bytes rest a small e = IsBytes-rest (f.spelling a) rest bytes (F.takes bytes rest a small e).0 small

-- by what a reading found
pub by_found : {A : Type 0} (P : Type 0) (o : Option (A × List ℕ)) → (o ≡ None → P) → ((a : A) (rest : List ℕ) → o ≡ Some (a, rest) → P) → P
by_found P None none some = none refl
by_found P (Some x) none some = some x.0 x.1 refl

self_at : {A : Type 0} (o : Option (A × List ℕ)) → o ≡ (o >>= found_as (λ (a : A). a))
self_at None = refl
self_at (Some x) = refl

pub itself : {A : Type 0} (f : Format A) → Keeps f (λ (a : A). a) f
itself f = record { reads = λ bytes small. self_at (f.read bytes) }

pub kept_itself : {A S : Type 0} (keep : A → S) (f : Format A) → Keeps (kept keep f) keep f
kept_itself keep f = record { reads = λ bytes small. refl }

abbrev pub each_side : {A B S T : Type 0} → (A → S) → (B → T) → A × B → S × T
each_side s t p = (s p.0, t p.1)

abbrev pub second_side : {A B S : Type 0} → (B → A → S) → B × A → B × S
second_side s p = (p.0, s p.0 p.1)

join_both : {A B S T : Type 0} (s : A → S) (t : B → T) (a : A) (o : Option (B × List ℕ))
    → ((o >>= found_as t) >>= λ (b : T × List ℕ). Some ((s a, b.0), b.1)) ≡ ((o >>= λ (b : B × List ℕ). Some ((a, b.0), b.1)) >>= found_as (each_side s t))
join_both s t a None = refl
join_both s t a (Some b) = refl

pub both_keeps : {A B S T : Type 0} (g : Format S) (s : A → S) (f : Format A) (g' : Format T) (t : B → T) (f' : Format B) → IsFormat f → Keeps g s f →
    Keeps g' t f' → Keeps (both g g') (each_side s t) (both f f')
both_keeps {A = A} {B = B} {S = S} {T = T} g s f g' t f' F K K' = record {
  reads = λ bytes small.
      let start : (both g g').read bytes ≡ ((f.read bytes >>= found_as s) >>= λ (a : S × List ℕ). g'.read a.1 >>= λ (b : T × List ℕ). Some ((a.0, b.0), b.1)) =
      ap (λ (o : Option (S × List ℕ)). o >>= λ (a : S × List ℕ). g'.read a.1 >>= λ (b : T × List ℕ). Some ((a.0, b.0), b.1)) (K.reads bytes small) in
      start
      ∙ by_found _ (f.read bytes)
      (λ none. rw none refl)
      (λ a rest some. rw (some, K'.reads rest (following f F bytes rest a small some)) (join_both s t a (f'.read rest)));
}

join_second : {A B S : Type 0} (s : B → A → S) (b : B) (o : Option (A × List ℕ))
    → ((o >>= found_as (s b)) >>= λ (x : S × List ℕ). Some ((b, x.0), x.1)) ≡ ((o >>= λ (x : A × List ℕ). Some ((b, x.0), x.1)) >>= found_as (second_side s))
join_second s b None = refl
join_second s b (Some x) = refl

pub paired_keeps : {A B S : Type 0} (h : Format B) (g : B → Format S) (s : B → A → S) (f : B → Format A) → IsFormat h →
    ((b : B) → Keeps (g b) (s b) (f b)) → Keeps (paired h g) (second_side s) (paired h f)
paired_keeps h g s f H each = record {
  reads = λ bytes small.
      by_found _ (h.read bytes)
      (λ none. rw none refl)
      (λ b rest some.
      let one = (each b).reads rest (following h H bytes rest b small some) in
      rw (some, one) (join_second s b ((f b).read rest)));
}

seen_at : {A C S T : Type 0} (s : A → S) (to : A → C) (view : S → T) (t : C → T) (a : A) (rest : List ℕ) → view (s a) ≡ t (to a) →
    ((found_as s (a, rest)) >>= found_as view) ≡ ((found_as to (a, rest)) >>= found_as t)
seen_at {T = T} s to view t a rest e = ap (λ (v : T). Some (v, rest)) e

pub shaped_keeps : {A C S T : Type 0} (g : Format S) (s : A → S) (f : Format A) (spelling : C → List ℕ) (fits : C → Bool) (to : A → C) (view : S → T)
    (t : C → T) → IsFormat f → ((a : A) → IsTrue (f.fits a) → view (s a) ≡ t (to a)) → Keeps g s f
    → Keeps (kept view g) t (shaped spelling fits to f)
shaped_keeps {S = S} g s f spelling fits to view t F same K = record {
  reads = λ bytes small.
      ap (λ (o : Option (S × List ℕ)). o >>= found_as view) (K.reads bytes small)
      ∙ by_found _ (f.read bytes)
      (λ none. rw none refl)
      (λ a rest some. rw some (seen_at s to view t a rest (same a (F.takes bytes rest a small some).1)));
}

join_list : {A S : Type 0} (s : A → S) (a : A) (o : Option (List A × List ℕ))
    → ((o >>= found_as (map s)) >>= λ (xs : List S × List ℕ). Some (s a ∷ xs.0, xs.1)) ≡ ((o >>= λ (xs : List A × List ℕ). Some (a ∷ xs.0, xs.1)) >>= found_as (map s))
join_list s a None = refl
join_list s a (Some xs) = refl

pub list_keeps : {A S : Type 0} (g : Format S) (s : A → S) (f : Format A) → IsFormat f → Keeps g s f → (n : ℕ) (bytes : List ℕ) → IsBytes bytes →
    list_read g n bytes ≡ (list_read f n bytes >>= found_as (map s))
list_keeps g s f F K zero bytes small = refl
list_keeps {A = A} {S = S} g s f F K (suc n) bytes small =
    ap (λ (o : Option (S × List ℕ)). o >>= λ (x : S × List ℕ). list_read g n x.1 >>= λ (xs : List S × List ℕ). Some (x.0 ∷ xs.0, xs.1)) (K.reads bytes small)
    ∙ by_found _ (f.read bytes)
    (λ none. rw none refl)
    (λ a rest some.
    let more = list_keeps g s f F K n rest (following f F bytes rest a small some) in
    rw (some, more) (join_list s a (list_read f n rest)))

pub table_keeps : {A S : Type 0} (g : Format S) (s : A → S) (f : Format A) → IsFormat f → Keeps g s f → Keeps (table g) (map s) (table f)
table_keeps g s f F K = record {
  reads = λ bytes small.
      by_found _ (half.read bytes)
      (λ none. rw none refl)
      (λ n rest some. rw some (list_keeps g s f F K n rest (following half half_is bytes rest n small some)));
}

-- ---- the one value of a table's items

abbrev joined : {A V : Type 0} → (A → Option V) → Option V → List A → Option (Option V)
joined value found [] = Some found
joined value found (x ∷ xs) = one_more found (value x) >>= λ v. joined value v xs

abbrev with_rest : {V : Type 0} → List ℕ → Option V → Option (Option V × List ℕ)
with_rest rest v = Some (v, rest)

abbrev chosen : {A V : Type 0} → (A → Option V) → Option V → List A × List ℕ → Option (Option V × List ℕ)
chosen value found xs = joined value found xs.0 >>= with_rest xs.1

join_chosen : {A V : Type 0} (value : A → Option V) (found : Option V) (a : A) (next : Option (Option V)) (o : Option (List A × List ℕ)) → next ≡ one_more found (value a)
    → (next >>= λ v. o >>= chosen value v) ≡ ((o >>= λ (xs : List A × List ℕ). Some (a ∷ xs.0, xs.1)) >>= chosen value found)
join_chosen value found a None None e = refl
join_chosen value found a (Some v) None e = refl
join_chosen value found a None (Some xs) e = rw (← e) refl
join_chosen value found a (Some v) (Some xs) e = rw (← e) refl

pub gathered_keeps : {A V : Type 0} (g : Format (Option V)) (value : A → Option V) (f : Format A) → IsFormat f → Keeps g value f → (n : ℕ) (found : Option V) (bytes : List ℕ) → IsBytes bytes
    → gathered g n found bytes ≡ (list_read f n bytes >>= chosen value found)
gathered_keeps g value f F K zero found bytes small = refl
gathered_keeps {A = A} {V = V} g value f F K (suc n) found bytes small =
    ap (λ (o : Option (Option V × List ℕ)). o >>= λ (x : Option V × List ℕ). one_more found x.0 >>= λ v. gathered g n v x.1) (K.reads bytes small)
    ∙ by_found _ (f.read bytes)
    (λ none. rw none refl)
    (λ a rest some.
    let below = following f F bytes rest a small some in
    let inner : (next : Option (Option V)) → (next >>= λ v. gathered g n v rest) ≡ (next >>= λ v. list_read f n rest >>= chosen value v) =
    λ next. gathered_next g value f n rest (λ v. gathered_keeps g value f F K n v rest below) next in
    rw some (inner (one_more found (value a)) ∙ join_chosen value found a (one_more found (value a)) (list_read f n rest) refl))
  where
    gathered_next : {A V : Type 0} (g : Format (Option V)) (value : A → Option V) (f : Format A) (n : ℕ) (rest : List ℕ) →
        ((v : Option V) → gathered g n v rest ≡ (list_read f n rest >>= chosen value v)) → (next : Option (Option V))
        → (next >>= λ v. gathered g n v rest) ≡ (next >>= λ v. list_read f n rest >>= chosen value v)
    gathered_next g value f n rest each None = refl
    gathered_next g value f n rest each (Some v) = each v

-- what the values of a list come to, beside one that was found before
beside_at : {A V : Type 0} (value : A → Option V) (v : V) (o : Option V) (xs : List A) → joined value (Some v) xs ≡ cond (at_most_one (v ∷ values_in value xs)) (Some (Some v)) None
    → (one_more (Some v) o >>= λ u. joined value u xs) ≡ cond (at_most_one (v ∷ (listed o ++ values_in value xs))) (Some (Some v)) None
beside_at value v None xs h = h
beside_at value v (Some w) xs h = refl

beside : {A V : Type 0} (value : A → Option V) (v : V) (xs : List A) → joined value (Some v) xs ≡ cond (at_most_one (v ∷ values_in value xs)) (Some (Some v)) None
beside value v [] = refl
beside value v (x ∷ xs) = beside_at value v (value x) xs (beside value v xs)

first_sole : {V : Type 0} (v : V) (vs : List V) → cond (at_most_one (v ∷ vs)) (Some (Some v)) None ≡ cond (at_most_one (v ∷ vs)) (Some (sole (v ∷ vs))) None
first_sole v [] = refl
first_sole v (w ∷ vs) = refl

all_at : {A V : Type 0} (value : A → Option V) (o : Option V) (xs : List A) → joined value None xs ≡ cond (at_most_one (values_in value xs)) (Some (sole (values_in value xs))) None
    → joined value o xs ≡ cond (at_most_one (listed o ++ values_in value xs)) (Some (sole (listed o ++ values_in value xs))) None
all_at value None xs h = h
all_at value (Some v) xs h = beside value v xs ∙ first_sole v (values_in value xs)

all_joined : {A V : Type 0} (value : A → Option V) (xs : List A) → joined value None xs ≡ cond (at_most_one (values_in value xs)) (Some (sole (values_in value xs))) None
all_joined value [] = refl
all_joined value (x ∷ xs) = all_at value (value x) xs (all_joined value xs)

by_choice : {A V : Type 0} (keep : List A → Option V) (b : Bool) (xs : List A × List ℕ) → (cond b (Some (keep xs.0)) None >>= with_rest xs.1) ≡ (cond b (Some xs) None >>= found_as keep)
by_choice keep true xs = refl
by_choice keep false xs = refl

choice_of : {A V : Type 0} (value : A → Option V) (o : Option (List A × List ℕ))
    → (o >>= chosen value None) ≡ ((o >>= passed (λ (items : List A). at_most_one (values_in value items))) >>= found_as (λ (items : List A). sole (values_in value items)))
choice_of value None = refl
choice_of {A = A} {V = V} value (Some xs) =
    ap (λ (j : Option (Option V)). j >>= with_rest xs.1) (all_joined value xs.0) ∙ by_choice (λ (items : List A). sole (values_in value items)) (at_most_one (values_in value xs.0)) xs

pub gather_keeps : {A V : Type 0} (g : Format (Option V)) (value : A → Option V) (f : Format A) → IsFormat f → Keeps g value f →
    Keeps (gather g) (λ (items : List A). sole (values_in value items)) (solely value f)
gather_keeps g value f F K = record {
  reads = λ bytes small.
      by_found _ (half.read bytes)
      (λ none. rw none refl)
      (λ n rest some. rw some (gathered_keeps g value f F K n None rest (following half half_is bytes rest n small some) ∙ choice_of value (list_read f n rest)));
}

-- ---- contents that are filled

bytes_from : (x : ℕ) (bytes : List ℕ) → x < 256 → IsBytes bytes → IsBytes (x ∷ bytes)
bytes_from x bytes lt h zero = lt
bytes_from x bytes lt h (suc i) = h i

IsBytes-front : (front rest : List ℕ) → IsBytes (front ++ rest) → IsBytes front
IsBytes-front [] rest h = λ i. omega arith
IsBytes-front (x ∷ front) rest h =
    let more : IsBytes (front ++ rest) = λ i. h (suc i) in
    let tail = IsBytes-front front rest more in
    bytes_from x front (h 0) tail

filled : {A S : Type 0} (s : A → S) (rest : List ℕ) (a : A) (more : List ℕ) → whole rest (s a, more) ≡ (whole rest (a, more) >>= found_as s)
filled s rest a [] = refl
filled s rest a (x ∷ more) = refl

join_enclosed : {A S : Type 0} (s : A → S) (rest : List ℕ) (o : Option (A × List ℕ)) → ((o >>= found_as s) >>= whole rest) ≡ ((o >>= whole rest) >>= found_as s)
join_enclosed s rest None = refl
join_enclosed s rest (Some a) = filled s rest a.0 a.1

pub enclosed_keeps : {A S : Type 0} (g : Format S) (s : A → S) (f : Format A) → Keeps g s f → Keeps (enclosed g) s (enclosed f)
enclosed_keeps {S = S} g s f K = record {
  reads = λ bytes small.
      by_found _ (contents.read bytes)
      (λ none. rw none refl)
      (λ t rest some.
      let one = contents_is.takes bytes rest t small some in
      let inside : IsBytes t = IsBytes-front t rest (IsBytes-rest (quad.spelling (length t)) (t ++ rest) bytes (one.0 ∙ append_assoc (quad.spelling (length t)) t rest) small) in
      rw some (ap (λ (o : Option (S × List ℕ)). o >>= whole rest) (K.reads t inside) ∙ join_enclosed s rest (f.read t)));
}
