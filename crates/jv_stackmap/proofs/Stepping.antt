-- Loops that read values and take a step by each.
use Rattle.std.proofs.Common.{◌≡◌, ℕ, suc, ◌+◌, ◌-◌, ◌<◌, List, ◌∷◌, Option, Some, None, refl, sym, ap, ◌∙◌, arith}
use Rattle.jv_format.specs.Format.{Format, ◌>>=◌}
use Rattle.jv_format.specs.Readers.{list_read}
use Rattle.jv_format.proofs.Laws.{bind_some, is_some}
use Rattle.jv_stackmap.specs.Inside.Steps.{all_steps, beside, stepped, all_stepped}

-- what was read is of no use
none_behind : {A B : Type 0} (o : Option A) (f : A → Option B) → ((a : A) → f a ≡ None) → (o >>= f) ≡ None
none_behind None f h = refl
none_behind (Some a) f h = h a

abbrev front : {A : Type 0} → A → List A × List ℕ → Option (List A × List ℕ)
front a xs = Some (a ∷ xs.0, xs.1)

step_first : {S A : Type 0} (step : S → A → Option S) (s t : S) (a : A) (o : Option (List A × List ℕ)) → step s a ≡ Some t
    → (o >>= front a >>= all_stepped step s) ≡ (o >>= all_stepped step t)
step_first step s t a None e = refl
step_first {S = S} step s t a (Some y) e = ap (λ (o : Option S). o >>= (λ t. all_steps step t y.0) >>= beside y.1) e

no_first : {S A : Type 0} (step : S → A → Option S) (s : S) (a : A) (o : Option (List A × List ℕ)) → step s a ≡ None
    → (o >>= front a >>= all_stepped step s) ≡ None
no_first step s a None e = refl
no_first {S = S} step s a (Some y) e = ap (λ (o : Option S). o >>= (λ t. all_steps step t y.0) >>= beside y.1) e

no_step : {S : Type 0} (o : Option S) (rest : List ℕ) → (o >>= beside rest) ≡ None → o ≡ None
no_step None rest e = refl
no_step (Some s) rest e = absurd cc

-- the value read and the step taken
the_step : {S A : Type 0} (f : Format A) (step : S → A → Option S) (n : ℕ) (s t : S) (bytes after : List ℕ) (x : A × List ℕ) → f.read bytes ≡ Some x → stepped step s x ≡ Some (t, after)
    → (list_read f (suc n) bytes >>= all_stepped step s) ≡ (list_read f n after >>= all_stepped step t)
the_step {S = S} {A = A} f step n s t bytes after x is e =
    let a = bind_some (step s x.0) (beside x.1) (t, after) e in
    let made : S × List ℕ = (a.0, x.1) in
    let same : made ≡ (t, after) = is_some made (t, after) a.2 in
    let state : a.0 ≡ t = ap (λ (p : S × List ℕ). p.0) same in
    let rest : x.1 ≡ after = ap (λ (p : S × List ℕ). p.1) same in
    ap (λ (o : Option (A × List ℕ)). o >>= (λ x. list_read f n x.1 >>= front x.0) >>= all_stepped step s) is
    ∙ step_first step s a.0 x.0 (list_read f n x.1) a.1
    ∙ ap (λ (q : S). list_read f n x.1 >>= all_stepped step q) state
    ∙ ap (λ (r : List ℕ). list_read f n r >>= all_stepped step t) rest

pub step_on : {S A : Type 0} (f : Format A) (step : S → A → Option S) (count i : ℕ) (s t : S) (bytes after : List ℕ) (total : Option (S × List ℕ)) → i < count
    → (f.read bytes >>= stepped step s) ≡ Some (t, after) → (list_read f (count - i) bytes >>= all_stepped step s) ≡ total
    → (list_read f (count - (i + 1)) after >>= all_stepped step t) ≡ total
step_on f step count i s t bytes after total lt e so_far =
    let k : count - i ≡ suc (count - (i + 1)) = omega arith in
    let x = bind_some (f.read bytes) (stepped step s) (t, after) e in
    let one : (list_read f (count - i) bytes >>= all_stepped step s) ≡ (list_read f (count - (i + 1)) after >>= all_stepped step t) =
    rw k (the_step f step (count - (i + 1)) s t bytes after x.0 x.1 x.2) in
    sym one ∙ so_far

no_more : {S A : Type 0} (f : Format A) (step : S → A → Option S) (n : ℕ) (s : S) (o : Option (A × List ℕ)) → (o >>= stepped step s) ≡ None
    → (o >>= (λ x. list_read f n x.1 >>= front x.0) >>= all_stepped step s) ≡ None
no_more f step n s None e = refl
no_more f step n s (Some x) e = no_first step s x.0 (list_read f n x.1) (no_step (step s x.0) x.1 e)

pub step_ends : {S A : Type 0} (f : Format A) (step : S → A → Option S) (count i : ℕ) (s : S) (bytes : List ℕ) (total : Option (S × List ℕ)) → i < count
    → (f.read bytes >>= stepped step s) ≡ None → (list_read f (count - i) bytes >>= all_stepped step s) ≡ total → total ≡ None
step_ends f step count i s bytes total lt e so_far =
    let k : count - i ≡ suc (count - (i + 1)) = omega arith in
    let none : (list_read f (count - i) bytes >>= all_stepped step s) ≡ None = rw k (no_more f step (count - (i + 1)) s (f.read bytes) e) in
    sym so_far ∙ none
