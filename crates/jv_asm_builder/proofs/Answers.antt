-- Answers that are passed on.
use Rattle.std.proofs.Common.{◌≡◌, ℕ, ◌+◌, ◌<◌, List, [], ◌∷◌, ◌++◌, length, drop, get_or, Ok, Err, inl, inr, refl, sym, ap, ◌∙◌, append_assoc}
use Rattle.std.proofs.lemmas.List.{drop_more}
use Rattle.std.specs.Prelude.{◌⊎◌, IsErrAnd}
use Rattle.jv_asm_builder.specs.declared.fault.BuilderFault.{BuilderFault}
use Rattle.jv_asm_builder.specs.declared.fault.BuilderFault.TheVariants.{OutOfMemory}
use Rattle.jv_asm_builder.specs.Faults.{Expected, ◌>>=◌, each, IsAnswer}
use Rattle.jv_asm_builder.specs.Inside.Behind.{with_front}

-- a fault that is that of the whole
pub fault_answer : {A B C : Type 0} (inner : Expected C) (expected : Expected B) (value : A → B) (result : Expected A) (fault : BuilderFault)
    → IsErrAnd result (λ e. e ≡ fault) → (inner ≡ Err fault → expected ≡ Err fault) → (fault ≡ OutOfMemory) ⊎ (inner ≡ Err fault) → IsAnswer expected value result
fault_answer inner expected value (Ok a) fault h whole p = absurd h
fault_answer inner expected value (Err f) fault h whole (inl memory) = inl (h ∙ memory)
fault_answer inner expected value (Err f) fault h whole (inr e) = inr (whole e ∙ ap (λ x. Err x) (sym h))

-- ---- one more of a list

shift : {B : Type 0} (front : List B) (y : B) (r : Expected (List B)) → with_front front (r >>= λ ys. Ok (y ∷ ys)) ≡ with_front (front ++ y ∷ []) r
shift front y (Ok ys) = ap (λ (l : List _). Ok l) (sym (append_assoc front (y ∷ []) ys))
shift front y (Err fault) = refl

pub each_next : {A B : Type 0} (f : A → Expected B) (xs : List A) (i : ℕ) (d : A) → i < length xs → (front new : List B) (y : B) (total : Expected (List B)) → new ≡ front ++ y ∷ []
    → f (get_or xs i d) ≡ Ok y → with_front front (each f (drop i xs)) ≡ total → with_front new (each f (drop (i + 1) xs)) ≡ total
each_next f xs i d lt front new y total more e so_far =
    ap (λ l. with_front l (each f (drop (i + 1) xs))) more
    ∙ sym (shift front y (each f (drop (i + 1) xs)))
    ∙ sym (ap (λ r. with_front front (r >>= λ z. each f (drop (i + 1) xs) >>= λ zs. Ok (z ∷ zs))) e)
    ∙ sym (ap (λ l. with_front front (each f l)) (drop_more xs i d lt))
    ∙ so_far

pub each_stops : {A B : Type 0} (f : A → Expected B) (xs : List A) (i : ℕ) (d : A) → i < length xs → (front : List B) (fault : BuilderFault) (total : Expected (List B))
    → f (get_or xs i d) ≡ Err fault → with_front front (each f (drop i xs)) ≡ total → total ≡ Err fault
each_stops f xs i d lt front fault total e so_far =
    sym so_far
    ∙ ap (λ l. with_front front (each f l)) (drop_more xs i d lt)
    ∙ ap (λ r. with_front front (r >>= λ z. each f (drop (i + 1) xs) >>= λ zs. Ok (z ∷ zs))) e
