-- The lines of files, one after another.
use Rattle.std.proofs.Common.{◌≡◌, ℕ, zero, suc, ◌≤◌, ◌<◌, length, take, List, [], ◌∷◌, ◌++◌, get_or, min, Bor, refl, sym, ap, ◌∙◌, append_assoc, append-nil, arith, ◌⊎◌, inl, inr}
use Rattle.std.specs.Prelude.{map}
use Rattle.std.proofs.lemmas.Bool.{cases_lt}
use Rattle.jv_limits.specs.Bytes.{bytes_of}
use Rattle.jv_meaning_typing.specs.declared.verdict.Verdict.{Verdict}
use Rattle.jv_program_check.specs.Text.{check_line, check_text}

-- the lines of files whose names the code has
abbrev pub lines_of : List (Bor (List ℕ)) → List Verdict → List ℕ
lines_of names verdicts = check_text (map bytes_of names) verdicts

-- one line more
pub lines-more : (k : ℕ) (names : List (Bor (List ℕ))) (verdicts : List Verdict) (name : Bor (List ℕ)) (verdict : Verdict)
    → k < length names → k < length verdicts → ((d : Bor (List ℕ)) → name ≡ get_or names k d) → ((d : Verdict) → verdict ≡ get_or verdicts k d)
    → lines_of (take k names) (take k verdicts) ++ check_line name.now verdict ≡ lines_of (take (suc k) names) (take (suc k) verdicts)
unfolding check_text
lines-more k [] verdicts name verdict short long e f = absurd (omega arith)
lines-more k (n ∷ names) [] name verdict short long e f = absurd (omega arith)
lines-more zero (n ∷ names) (v ∷ verdicts) name verdict short long e f =
    let same_name : name ≡ n = e n in
    let same_verdict : verdict ≡ v = f v in
    rw (same_name, same_verdict) (sym (append-nil (check_line n.now v)))
lines-more (suc k) (n ∷ names) (v ∷ verdicts) name verdict short long e f =
    let shorter : k < length names = omega arith in
    let longer : k < length verdicts = omega arith in
    append_assoc (check_line n.now v) _ _
    ∙ ap (λ (t : List ℕ). check_line n.now v ++ t) (lines-more k names verdicts name verdict shorter longer e f)

-- no more lines than names, and than verdicts
pub lines-take : (m : ℕ) (names : List (Bor (List ℕ))) (verdicts : List Verdict) → (length names ≤ m) ⊎ (length verdicts ≤ m)
    → lines_of (take m names) (take m verdicts) ≡ lines_of names verdicts
unfolding check_text
lines-take zero [] verdicts h = refl
lines-take (suc m) [] [] h = refl
lines-take (suc m) [] (v ∷ verdicts) h = refl
lines-take zero (n ∷ names) [] h = refl
lines-take (suc m) (n ∷ names) [] h = refl
lines-take zero (n ∷ names) (v ∷ verdicts) (inl h) = absurd (omega arith)
lines-take zero (n ∷ names) (v ∷ verdicts) (inr h) = absurd (omega arith)
lines-take (suc m) (n ∷ names) (v ∷ verdicts) (inl h) =
    ap (λ (t : List ℕ). check_line n.now v ++ t) (lines-take m names verdicts (inl (omega arith)))
lines-take (suc m) (n ∷ names) (v ∷ verdicts) (inr h) =
    ap (λ (t : List ℕ). check_line n.now v ++ t) (lines-take m names verdicts (inr (omega arith)))

-- the least of two numbers is one of them
pub one_is_least : (m a b : ℕ) → m ≡ min a b → (a ≤ m) ⊎ (b ≤ m)
one_is_least m a b e = elim (cases_lt a b) [ inl lt ↦ inl (omega arith) | inr le ↦ inr (omega arith) ]
