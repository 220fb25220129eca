-- What is said of files, one after another.
use Rattle.std.proofs.Common.{◌≡◌, ℕ, zero, suc, ◌+◌, ◌≤◌, length, take, List, [], ◌∷◌, ◌++◌, Some, min, refl, sym, ap, ◌∙◌, append_assoc, append-nil, arith, ◌⊎◌, inl, inr}
use Rattle.std.specs.Prelude.{slice_get}
use Rattle.std.proofs.lemmas.Bool.{cases_lt}
use Rattle.jv_meaning_typing.specs.declared.verdict.Verdict.{Verdict}
use Rattle.jv_program_check.specs.Text.{check_line}
use Rattle.jv_program_explain.specs.Text.{explain_text}

-- one part more
parts_suc : (k : ℕ) (names : List (List ℕ)) (verdicts : List Verdict) (said : List (List ℕ)) (name : List ℕ) (verdict : Verdict) (text : List ℕ)
    → slice_get names k ≡ Some name → slice_get verdicts k ≡ Some verdict → slice_get said k ≡ Some text
    → explain_text (take k names) (take k verdicts) (take k said) ++ (check_line name verdict ++ text) ≡ explain_text (take (suc k) names) (take (suc k) verdicts) (take (suc k) said)
unfolding explain_text
parts_suc zero [] verdicts said name verdict text e f g = absurd cc
parts_suc (suc k) [] verdicts said name verdict text e f g = absurd cc
parts_suc zero (n ∷ names) [] said name verdict text e f g = absurd cc
parts_suc (suc k) (n ∷ names) [] said name verdict text e f g = absurd cc
parts_suc zero (n ∷ names) (v ∷ verdicts) [] name verdict text e f g = absurd cc
parts_suc (suc k) (n ∷ names) (v ∷ verdicts) [] name verdict text e f g = absurd cc
parts_suc zero (n ∷ names) (v ∷ verdicts) (t ∷ said) name verdict text e f g =
    let same_name : name ≡ n = cc in
    let same_verdict : verdict ≡ v = cc in
    let same_text : text ≡ t = cc in
    rw (same_name, same_verdict, same_text) (sym (append-nil (check_line n v ++ t)))
parts_suc (suc k) (n ∷ names) (v ∷ verdicts) (t ∷ said) name verdict text e f g =
    append_assoc (check_line n v ++ t) _ _
    ∙ ap (λ (x : List ℕ). (check_line n v ++ t) ++ x) (parts_suc k names verdicts said name verdict text e f g)

pub parts-more : (k : ℕ) (names : List (List ℕ)) (verdicts : List Verdict) (said : List (List ℕ)) (name : List ℕ) (verdict : Verdict) (text : List ℕ)
    → slice_get names k ≡ Some name → slice_get verdicts k ≡ Some verdict → slice_get said k ≡ Some text
    → explain_text (take k names) (take k verdicts) (take k said) ++ (check_line name verdict ++ text)
    ≡ explain_text (take (k + 1) names) (take (k + 1) verdicts) (take (k + 1) said)
parts-more k names verdicts said name verdict text e f g =
    let next : k + 1 ≡ suc k = omega arith in
    rw next (parts_suc k names verdicts said name verdict text e f g)

-- no more parts than names, than verdicts, and than texts
pub parts-take : (m : ℕ) (names : List (List ℕ)) (verdicts : List Verdict) (said : List (List ℕ)) → (length names ≤ m) ⊎ ((length verdicts ≤ m) ⊎ (length said ≤ m))
    → explain_text (take m names) (take m verdicts) (take m said) ≡ explain_text names verdicts said
unfolding explain_text
parts-take zero [] verdicts said h = refl
parts-take (suc m) [] verdicts said h = refl
parts-take zero (n ∷ names) [] said h = refl
parts-take (suc m) (n ∷ names) [] said h = refl
parts-take zero (n ∷ names) (v ∷ verdicts) [] h = refl
parts-take (suc m) (n ∷ names) (v ∷ verdicts) [] h = refl
parts-take zero (n ∷ names) (v ∷ verdicts) (t ∷ said) (inl h) = absurd (omega (arith, h))
parts-take zero (n ∷ names) (v ∷ verdicts) (t ∷ said) (inr (inl h)) = absurd (omega (arith, h))
parts-take zero (n ∷ names) (v ∷ verdicts) (t ∷ said) (inr (inr h)) = absurd (omega (arith, h))
parts-take (suc m) (n ∷ names) (v ∷ verdicts) (t ∷ said) (inl h) =
    ap (λ (x : List ℕ). (check_line n v ++ t) ++ x) (parts-take m names verdicts said (inl (omega (arith, h))))
parts-take (suc m) (n ∷ names) (v ∷ verdicts) (t ∷ said) (inr (inl h)) =
    ap (λ (x : List ℕ). (check_line n v ++ t) ++ x) (parts-take m names verdicts said (inr (inl (omega (arith, h)))))
parts-take (suc m) (n ∷ names) (v ∷ verdicts) (t ∷ said) (inr (inr h)) =
    ap (λ (x : List ℕ). (check_line n v ++ t) ++ x) (parts-take m names verdicts said (inr (inr (omega (arith, h)))))

-- the least of three numbers is one of them
pub one_is_least : (m a b c : ℕ) → m ≡ min (min a b) c → (a ≤ m) ⊎ ((b ≤ m) ⊎ (c ≤ m))
one_is_least m a b c e = elim (cases_lt a b) [
  | inl lt ↦ elim (cases_lt a c) [ inl less ↦ inl (omega arith) | inr le ↦ inr (inr (omega arith)) ]
  | inr le ↦ elim (cases_lt b c) [ inl less ↦ inr (inl (omega arith)) | inr low ↦ inr (inr (omega arith)) ]
]
