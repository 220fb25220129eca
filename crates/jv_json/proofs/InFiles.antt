-- Files one after another.
use Rattle.std.proofs.Common.{◌≡◌, ℕ, zero, suc, ◌+◌, ◌≤◌, List, [], ◌∷◌, ◌++◌, length, drop, min, Option, Some, refl, sym, ap, ◌∙◌, append_assoc, append-nil, arith, ◌⊎◌, inl, inr}
use Rattle.std.specs.Prelude.{slice_get}
use Rattle.std.proofs.lemmas.Bool.{cases_lt}
use Rattle.serde_json.specs.Data.{Data}
use Rattle.jv_meaning_typing.specs.declared.verdict.Verdict.{Verdict}
use Rattle.jv_json.specs.Files.{explained_value, explained_values, file_value, file_values}

from : {A : Type 0} (xs : List A) (k : ℕ) (x : A) → slice_get xs k ≡ Some x → drop k xs ≡ x ∷ drop (suc k) xs
from [] zero x e = absurd cc
from [] (suc k) x e = absurd cc
from (y ∷ xs) zero x e = let same : y ≡ x = cc in ap (λ z. z ∷ xs) same
from (y ∷ xs) (suc k) x e = from xs k x e

none : {A : Type 0} (xs : List A) (k : ℕ) → length xs ≤ k → drop k xs ≡ []
none [] zero h = refl
none [] (suc k) h = refl
none (x ∷ xs) zero h = absurd (omega (arith, h))
none (x ∷ xs) (suc k) h = none xs k (omega (arith, h))

no_verdicts : (names : List (List ℕ)) → file_values names [] ≡ []
unfolding file_values
no_verdicts [] = refl
no_verdicts (name ∷ names) = refl

-- one file more
pub files-more : (k : ℕ) (names : List (List ℕ)) (verdicts : List Verdict) (all values : List Data) (name : List ℕ) (verdict : Verdict)
    → slice_get names k ≡ Some name → slice_get verdicts k ≡ Some verdict → values ++ file_values (drop k names) (drop k verdicts) ≡ all
    → (values ++ file_value name verdict ∷ []) ++ file_values (drop (k + 1) names) (drop (k + 1) verdicts) ≡ all
unfolding file_values
files-more k names verdicts all values name verdict e f before =
    let next : k + 1 ≡ suc k = omega arith in
    let rest : file_values (drop k names) (drop k verdicts) ≡ file_value name verdict ∷ file_values (drop (suc k) names) (drop (suc k) verdicts) =
    rw (from names k name e, from verdicts k verdict f) refl in
    rw next (append_assoc values (file_value name verdict ∷ []) _ ∙ ap (λ (l : List Data). values ++ l) (sym rest) ∙ before)

-- no more files than names, and than verdicts
pub files-all : (k : ℕ) (names : List (List ℕ)) (verdicts : List Verdict) (all values : List Data) → (length names ≤ k) ⊎ (length verdicts ≤ k)
    → values ++ file_values (drop k names) (drop k verdicts) ≡ all → values ≡ all
unfolding file_values
files-all k names verdicts all values (inl h) before =
    let end : file_values (drop k names) (drop k verdicts) ≡ [] = rw (none names k h) refl in
    sym (append-nil values) ∙ ap (λ (l : List Data). values ++ l) (sym end) ∙ before
files-all k names verdicts all values (inr h) before =
    let end : file_values (drop k names) (drop k verdicts) ≡ [] = rw (none verdicts k h) (no_verdicts (drop k names)) in
    sym (append-nil values) ∙ ap (λ (l : List Data). values ++ l) (sym end) ∙ before

none_explained : (names : List (List ℕ)) (lines : List (Option ℕ)) (said : List (List ℕ)) → explained_values names [] lines said ≡ []
unfolding explained_values
none_explained [] lines said = refl
none_explained (name ∷ names) lines said = refl

no_lines : (names : List (List ℕ)) (verdicts : List Verdict) (said : List (List ℕ)) → explained_values names verdicts [] said ≡ []
unfolding explained_values
no_lines [] verdicts said = refl
no_lines (name ∷ names) [] said = refl
no_lines (name ∷ names) (verdict ∷ verdicts) said = refl

none_said : (names : List (List ℕ)) (verdicts : List Verdict) (lines : List (Option ℕ)) → explained_values names verdicts lines [] ≡ []
unfolding explained_values
none_said [] verdicts lines = refl
none_said (name ∷ names) [] lines = refl
none_said (name ∷ names) (verdict ∷ verdicts) [] = refl
none_said (name ∷ names) (verdict ∷ verdicts) (line ∷ lines) = refl

pub explained-more : (k : ℕ) (names : List (List ℕ)) (verdicts : List Verdict) (lines : List (Option ℕ)) (said : List (List ℕ)) (all values : List Data) (name : List ℕ)
    (verdict : Verdict) (line : Option ℕ) (text : List ℕ) → slice_get names k ≡ Some name → slice_get verdicts k ≡ Some verdict → slice_get lines k ≡ Some line
    → slice_get said k ≡ Some text → values ++ explained_values (drop k names) (drop k verdicts) (drop k lines) (drop k said) ≡ all
    → (values ++ explained_value name verdict line text ∷ []) ++ explained_values (drop (k + 1) names) (drop (k + 1) verdicts) (drop (k + 1) lines) (drop (k + 1) said) ≡ all
unfolding explained_values
explained-more k names verdicts lines said all values name verdict line text e f g h before =
    let next : k + 1 ≡ suc k = omega arith in
    let rest : explained_values (drop k names) (drop k verdicts) (drop k lines) (drop k said)
    ≡ explained_value name verdict line text ∷ explained_values (drop (suc k) names) (drop (suc k) verdicts) (drop (suc k) lines) (drop (suc k) said) =
    rw (from names k name e, from verdicts k verdict f, from lines k line g, from said k text h) refl in
    rw next (append_assoc values (explained_value name verdict line text ∷ []) _ ∙ ap (λ (l : List Data). values ++ l) (sym rest) ∙ before)

pub explained-all : (k : ℕ) (names : List (List ℕ)) (verdicts : List Verdict) (lines : List (Option ℕ)) (said : List (List ℕ)) (all values : List Data)
    → (length names ≤ k) ⊎ ((length verdicts ≤ k) ⊎ ((length lines ≤ k) ⊎ (length said ≤ k)))
    → values ++ explained_values (drop k names) (drop k verdicts) (drop k lines) (drop k said) ≡ all → values ≡ all
unfolding explained_values
explained-all k names verdicts lines said all values (inl h) before =
    let end : explained_values (drop k names) (drop k verdicts) (drop k lines) (drop k said) ≡ [] = rw (none names k h) refl in
    sym (append-nil values) ∙ ap (λ (l : List Data). values ++ l) (sym end) ∙ before
explained-all k names verdicts lines said all values (inr (inl h)) before =
    let end : explained_values (drop k names) (drop k verdicts) (drop k lines) (drop k said) ≡ [] =
    rw (none verdicts k h) (none_explained (drop k names) (drop k lines) (drop k said)) in
    sym (append-nil values) ∙ ap (λ (l : List Data). values ++ l) (sym end) ∙ before
explained-all k names verdicts lines said all values (inr (inr (inl h))) before =
    let end : explained_values (drop k names) (drop k verdicts) (drop k lines) (drop k said) ≡ [] =
    rw (none lines k h) (no_lines (drop k names) (drop k verdicts) (drop k said)) in
    sym (append-nil values) ∙ ap (λ (l : List Data). values ++ l) (sym end) ∙ before
explained-all k names verdicts lines said all values (inr (inr (inr h))) before =
    let end : explained_values (drop k names) (drop k verdicts) (drop k lines) (drop k said) ≡ [] =
    rw (none said k h) (none_said (drop k names) (drop k verdicts) (drop k lines)) in
    sym (append-nil values) ∙ ap (λ (l : List Data). values ++ l) (sym end) ∙ before

-- the least of two numbers is one of them, and that of four
pub least_of_two : (m a b : ℕ) → m ≡ min a b → (a ≤ m) ⊎ (b ≤ m)
least_of_two m a b e = elim (cases_lt a b) [ inl lt ↦ inl (omega (arith, e, lt)) | inr le ↦ inr (omega (arith, e, le)) ]

pub least_of_four : (m a b c d : ℕ) → m ≡ min (min (min a b) c) d → (a ≤ m) ⊎ ((b ≤ m) ⊎ ((c ≤ m) ⊎ (d ≤ m)))
least_of_four m a b c d e = by_last (least_of_two m (min (min a b) c) d e)
  where
    by_first : (n : ℕ) → n ≤ m → (a ≤ n) ⊎ (b ≤ n) → (a ≤ m) ⊎ ((b ≤ m) ⊎ ((c ≤ m) ⊎ (d ≤ m)))
    by_first n le (inl h) = inl (omega (arith, le, h))
    by_first n le (inr h) = inr (inl (omega (arith, le, h)))

    by_middle : (n : ℕ) → n ≤ m → (min a b ≤ n) ⊎ (c ≤ n) → (a ≤ m) ⊎ ((b ≤ m) ⊎ ((c ≤ m) ⊎ (d ≤ m)))
    by_middle n le (inl h) = by_first (min a b) (omega (arith, le, h)) (least_of_two (min a b) a b refl)
    by_middle n le (inr h) = inr (inr (inl (omega (arith, le, h))))

    by_last : (min (min a b) c ≤ m) ⊎ (d ≤ m) → (a ≤ m) ⊎ ((b ≤ m) ⊎ ((c ≤ m) ⊎ (d ≤ m)))
    by_last (inl h) = by_middle (min (min a b) c) h (least_of_two (min (min a b) c) (min a b) c refl)
    by_last (inr h) = inr (inr (inr h))
