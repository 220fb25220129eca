-- What is left of other guests' blocks where a guest's own join the store or are written: how a guest's blocks grow.
use Rattle.std.proofs.Common.{◌≡◌, ℕ, zero, suc, ◌+◌, ◌<◌, inl, inr, List, [], ◌∷◌, ◌++◌, Some, Contains, length, slice_get, slice_index_or, refl, sym, ap, subst, ◌∙◌, arith}
use Rattle.std.proofs.lemmas.List.Elements.{Contains-append_cases, Contains-append_right}
use Rattle.jv_store.specs.Content.{words_at, words_held, greatest}
use Rattle.jv_store.proofs.Contents.{words_at-append, words_held-append}
use Rattle.jv_store.proofs.LookUps.{greatest-append_above}
use Rattle.jv_interp_heap.specs.ObjectsInBlocks.{Blocks}
use Rattle.jv_interp_heap.specs.NewBlocks.{Joins}
use Rattle.jv_interp_heap.proofs.Joined.{within, others_stay}
use Rattle.jv_interp_heap.proofs.Changed.{Changes}
use Rattle.jv_interp_held.specs.Growing.{Grows, words_under}

pub one_in : (a x : ℕ) → Contains (a ∷ []) x → a ≡ x
one_in a x h = by_place h.0 h.1 h.2
  where
    by_place : (k : ℕ) → k < length (a ∷ []) → slice_index_or (a ∷ []) k x ≡ x → a ≡ x
    by_place zero less e = e
    by_place (suc k) less e = absurd (omega (arith, less))

none_in : (x : ℕ) → Contains {X = ℕ} [] x → ⊥
none_in x h = let less = h.1 in omega (arith, less)

-- ---- words under addresses

pub under_both : (first second : List ℕ) (blocks : Blocks) → words_under (first ++ second) blocks ≡ words_under first blocks + words_under second blocks
under_both [] second blocks = omega arith
under_both (a ∷ first) second blocks = let rest = under_both first second blocks in omega (arith, rest)

pub under_same :
    (addresses : List ℕ) (before after : Blocks)
    → ((a : ℕ) → Contains addresses a → length (words_at after a) ≡ length (words_at before a))
    → words_under addresses after ≡ words_under addresses before
under_same [] before after same = refl
under_same (a ∷ more) before after same =
    let here = same a (0, omega arith, refl) in
    let rest = under_same more before after (λ b inside. same b (Contains-append_right (a ∷ []) more b inside)) in
    omega (arith, here, rest)

-- ---- a block more, or none

pub joined_grows : (addresses words : List ℕ) (before after : Blocks) (address : ℕ) → Joins words before after address → Grows addresses (address ∷ []) before after
joined_grows addresses words before after address j = record {
  others =
      λ other low apart. ap (λ (c : Blocks). words_at c other) j.joins ∙ others_stay before address words other j.above low;
  above = λ a inside. subst (λ (n : ℕ). greatest before < n) (one_in address a inside) j.above;
  no_lower = let e = top in let a = j.above in omega (arith, e, a);
  there = λ a inside. let e = top in let is = one_in address a inside in omega (arith, e, is);
  lengths =
      λ other low.
      ap (λ (c : Blocks). length (words_at c other)) j.joins
      ∙ ap (λ (ws : List ℕ). length ws) (others_stay before address words other j.above low);
  words =
      let held = ap words_held j.joins ∙ words_held-append before address words in
      let own =
      ap (λ (c : Blocks). length (words_at c address)) j.joins
      ∙ ap (λ (ws : List ℕ). length ws) (words_at-append before address words j.above) in
      omega (arith, held, own);
}
  where
    top : greatest after ≡ address
    top = ap greatest j.joins ∙ greatest-append_above before address words j.above

pub same_grows : (addresses : List ℕ) (before after : Blocks) → after ≡ before → Grows addresses [] before after
same_grows addresses before after e = record {
  others = λ other low apart. ap (λ (c : Blocks). words_at c other) e;
  above = λ a inside. absurd (none_in a inside);
  no_lower = let same = ap greatest e in omega (arith, same);
  there = λ a inside. absurd (none_in a inside);
  lengths = λ other low. ap (λ (c : Blocks). length (words_at c other)) e;
  words = let same = ap words_held e in omega (arith, same);
}

pub grows_not : (addresses : List ℕ) (blocks : Blocks) → Grows addresses [] blocks blocks
grows_not addresses blocks = same_grows addresses blocks blocks refl

-- ---- once more

pub then_grows :
    (addresses first second : List ℕ) (before between after : Blocks) → Grows addresses first before between
    → Grows (addresses ++ first) second between after → Grows addresses (first ++ second) before after
then_grows addresses first second before between after g h = record {
  others =
      λ other low apart.
      h.others other (let n = g.no_lower in omega (arith, low, n))
      (λ inside.
      elim (Contains-append_cases addresses first other inside) [
        | inl p ↦ apart p
        | inr p ↦ let up = g.above other p in omega (arith, up, low)
      ])
      ∙ g.others other low apart;
  above =
      λ a inside.
      elim (Contains-append_cases first second a inside) [
        | inl p ↦ g.above a p
        | inr p ↦ let up = h.above a p in let n = g.no_lower in omega (arith, up, n)
      ];
  no_lower = let n = g.no_lower in let m = h.no_lower in omega (arith, n, m);
  there =
      λ a inside.
      elim (Contains-append_cases first second a inside) [
        | inl p ↦ let at = g.there a p in let m = h.no_lower in omega (arith, at, m)
        | inr p ↦ h.there a p
      ];
  lengths =
      λ other low.
      h.lengths other (let n = g.no_lower in omega (arith, low, n)) ∙ g.lengths other low;
  words =
      let one = g.words in
      let two = h.words in
      let all = under_both first second after in
      let old = under_same first between after (λ a inside. h.lengths a (g.there a inside)) in
      omega (arith, one, two, all, old);
}

-- one block of the guest's own has other words
pub there_in : (xs : List ℕ) (k x : ℕ) → slice_get xs k ≡ Some x → Contains xs x
there_in xs k x e = (k, within xs k x e, is_there xs k x e)
  where
    is_there : (xs : List ℕ) (k x : ℕ) → slice_get xs k ≡ Some x → slice_index_or xs k x ≡ x
    is_there [] k x e = absurd cc
    is_there (y ∷ ys) zero x e = cc
    is_there (y ∷ ys) (suc k) x e = is_there ys k x e

pub changed_grows :
    (addresses words : List ℕ) (id address : ℕ) (before after : Blocks) → slice_get addresses id ≡ Some address
    → Changes address words before after → Grows addresses [] before after
changed_grows addresses words id address before after at changes = record {
  others =
      λ other low apart.
      changes.others other (λ same. apart (subst (λ (n : ℕ). Contains addresses n) (sym same) (there_in addresses id address at)));
  above = λ a inside. absurd (none_in a inside);
  no_lower = let same = changes.same_greatest in omega (arith, same);
  there = λ a inside. absurd (none_in a inside);
  lengths = λ other low. changes.same_lengths other;
  words = let same = changes.same_held in omega (arith, same);
}
