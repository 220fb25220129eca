-- The map from texts to their least indices.
use Rattle.std.proofs.Common.{◌≡◌, ℕ, ◌<◌, ◌≤◌, ◌+◌, Bool, true, false, cond, List, [], ◌∷◌, ◌++◌, length, Option, Some, None, refl, sym, ap, subst, ◌∙◌, arith, length-append, Bor}
use Rattle.std.specs.Prelude.{◌≢◌, slice_get}
use Rattle.std.specs.Str.{bytes_eq}
use Rattle.std.specs.BTreeMap.{BTreeMap}
use Rattle.std.proofs.lemmas.Option.{same_Some}
use Rattle.std.proofs.lemmas.Slice.Eq.{bytes_eq-Decides}
use Rattle.jv_pool.specs.Constants.{Entry, pool_count, utf8_at}
use Rattle.jv_pool.specs.Inside.Alike.{IsFirst, IsAlike, IsInOrder, AlikeBelow, IsFirstBelow, first_in, AreFirsts}
use Rattle.jv_pool.proofs.Kept.{get_before, get_last, below_or_here, below_or_past, past_texts}

-- one index more, at which another text is
next : (pool : List Entry) (i : ℕ) (q : List ℕ) (o : Option ℕ) → (o ≡ None → utf8_at pool i ≢ Some q) → IsFirstBelow pool i q o → IsFirstBelow pool (i + 1) q o
next pool i q None other h = let P : ℕ → Type 0 = λ j. utf8_at pool j ≢ Some q in below_or_here P i h (other refl)
next pool i q (Some f) other h = h

first_is : (pool : List Entry) (i f : ℕ) (t : List ℕ) → utf8_at pool i ≡ Some t → IsFirstBelow pool i t (Some f) → IsFirst pool i f
first_is pool i f t here h = record { same = h.0 ∙ sym here; first = λ j lt e. h.1 j lt (e ∙ here) }

-- a text that was there before
pub firsts_known : (pool : List Entry) (i : ℕ) (m : BTreeMap (Bor (List ℕ)) ℕ) (t : List ℕ) (f : ℕ) → utf8_at pool i ≡ Some t → first_in m t ≡
    Some f → AreFirsts pool i m → IsFirst pool i f × AreFirsts pool (i + 1) m
firsts_known pool i m t f here found h = (
  first_is pool i f t here (subst (λ (o : Option ℕ). IsFirstBelow pool i t o) found (h t)),
  λ q. next pool i q (first_in m q) (λ o e.
      let same : t ≡ q = same_Some t q (sym here ∙ e) in
      let none : first_in m t ≡ None = ap (first_in m) same ∙ o in
      cc) (h q),
)

-- a new one
pub firsts_new : (pool : List Entry) (i : ℕ) (m n : BTreeMap (Bor (List ℕ)) ℕ) (t : List ℕ) → utf8_at pool i ≡ Some t → first_in m t ≡ None
    → ((q : List ℕ) → first_in n q ≡ cond (bytes_eq t q) (Some i) (first_in m q)) → AreFirsts pool i m → IsFirst pool i i × AreFirsts pool (i + 1) n
firsts_new pool i m n t here none updates h =
    let below : (j : ℕ) → j < i → utf8_at pool j ≢ Some t = subst (λ (o : Option ℕ). IsFirstBelow pool i t o) none (h t) in
    let first : IsFirst pool i i = record { same = refl; first = λ j lt e. below j lt (e ∙ here) } in
    (first, λ q. subst (λ (o : Option ℕ). IsFirstBelow pool (i + 1) q o) (sym (updates q)) (chosen below q (bytes_eq t q) refl))
  where
    chosen : ((j : ℕ) → j < i → utf8_at pool j ≢ Some t) → (q : List ℕ) (b : Bool) → bytes_eq t q ≡ b → IsFirstBelow pool (i + 1) q (cond b (Some i) (first_in m q))
    chosen below q true e =
        let same : t ≡ q = (bytes_eq-Decides t q).0 e in
        (here ∙ ap (λ (x : List ℕ). Some x) same, λ j lt is. below j lt (is ∙ ap (λ (x : List ℕ). Some x) (sym same)))
    chosen below q false e = next pool i q (first_in m q) (λ o is. let yes : bytes_eq t q ≡ true = (bytes_eq-Decides t q).1 (same_Some t q (sym here ∙ is)) in cc) (h q)

-- one that was there, whose index took the place of a new one again
pub firsts_back :
    (pool : List Entry) (i : ℕ) (m n k : BTreeMap (Bor (List ℕ)) ℕ) (t : List ℕ) (f : ℕ) → utf8_at pool i ≡ Some t → first_in m t ≡ Some f
    → ((q : List ℕ) → first_in n q ≡ cond (bytes_eq t q) (Some i) (first_in m q))
    → ((q : List ℕ) → first_in k q ≡ cond (bytes_eq t q) (Some f) (first_in n q)) → AreFirsts pool i m → IsFirst pool i f × AreFirsts pool (i + 1) k
firsts_back pool i m n k t f here found put back h =
    let known = firsts_known pool i m t f here found h in
    (known.0, λ q. subst (λ (o : Option ℕ). IsFirstBelow pool (i + 1) q o) (sym (same q (bytes_eq t q) refl)) (known.1 q))
  where
    same : (q : List ℕ) (b : Bool) → bytes_eq t q ≡ b → first_in k q ≡ first_in m q
    same q true e =
        back q ∙ ap (λ (b : Bool). cond b (Some f) (first_in n q)) e ∙ sym found ∙ ap (first_in m) ((bytes_eq-Decides t q).0 e)
    same q false e =
        back q ∙ ap (λ (b : Bool). cond b (Some f) (first_in n q)) e ∙ put q ∙ ap (λ (b : Bool). cond b (Some i) (first_in m q)) e

-- ---- the list of them

pub AlikeBelow-push : (pool : List Entry) (i : ℕ) (alike : List ℕ) (new : ℕ) → IsAlike pool i (utf8_at pool i) (Some new) → AlikeBelow pool i alike → AlikeBelow pool (i + 1) (alike ++ new ∷ [])
AlikeBelow-push pool i alike new here so_far = record {
  long = omega (arith, so_far.long, length-append alike (new ∷ []));
  each =
      let P : ℕ → Type 0 = λ k. IsAlike pool k (utf8_at pool k) (slice_get (alike ++ new ∷ []) k) in
      below_or_here P i
      (λ k lt. let lt' : k < length alike = omega (arith, so_far.long, lt) in subst (λ (o : Option ℕ). IsAlike pool k (utf8_at pool k) o) (sym (get_before alike (new ∷ []) k lt')) (so_far.each k lt))
      (subst (λ (o : Option ℕ). IsAlike pool i (utf8_at pool i) o) (sym (get_last alike new i so_far.long)) here);
}

pub AlikeBelow-all : (pool : List Entry) (i : ℕ) (alike : List ℕ) → pool_count pool ≤ i → AlikeBelow pool i alike → IsInOrder pool alike
AlikeBelow-all pool i alike le so_far =
    let P : ℕ → Type 0 = λ k. IsAlike pool k (utf8_at pool k) (slice_get alike k) in
    below_or_past P i so_far.each (λ k past. let no_text : utf8_at pool k ≡ None = past_texts pool k (omega arith) in rw no_text tt)

pub alike_from : (pool : List Entry) (k : ℕ) (t : List ℕ) (f : ℕ) → utf8_at pool k ≡ Some t → IsFirst pool k f → IsAlike pool k (utf8_at pool k) (Some f)
alike_from pool k t f here h = subst (λ (o : Option (List ℕ)). IsAlike pool k o (Some f)) (sym here) h
