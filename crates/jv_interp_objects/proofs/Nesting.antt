-- Arrays of arrays that are made one by one in an outer one.
use Rattle.std.proofs.Common.{◌≡◌, ℕ, suc, ◌+◌, ◌-◌, ◌*◌, ◌<◌, ◌≤◌, List, [], ◌∷◌, ◌++◌, length, replicate, set, drop, refl, sym, ap, subst, ◌∙◌, arith, append-nil, append_assoc, length-append}
use Rattle.std.proofs.Math.Seq.{set-append_seam}
use Rattle.std.proofs.lemmas.List.{length-replicate}
use Rattle.jv_store.specs.Content.{words_at, greatest, written}
use Rattle.jv_store.proofs.LookUps.{greatest-append_above}
use Rattle.jv_interp_heap.specs.ObjectsInBlocks.{Blocks}
use Rattle.jv_interp_heap.specs.NewBlocks.{Joins}
use Rattle.jv_interp_objects.specs.NestedBlocks.{outer_slots, Follow, AreNested, EachAbove, NestedJoin, HasInner, CanTakeInner, TakesInner}
use Rattle.jv_interp_objects.proofs.Behind.{above_both, own_words, own_written}
use Rattle.jv_interp_objects.proofs.Following.{first_of, above_as, follow_last}

-- so many are made, in an outer one at an address
pub record Nesting (slots : ℕ) (counts : List ℕ) (word outer made : ℕ) (before now : Blocks) : Type 0 where
  pub inner : List ℕ
  pub left : ℕ
  pub blocks : Blocks
  pub above : greatest before < outer
  pub size_is : length inner ≡ made
  pub all : made + left ≡ first_of counts * outer_slots slots counts
  pub follow : Follow (AreNested slots (drop 1 counts) (word - 65536)) inner blocks
  pub each_above : EachAbove (before ++ (outer, word ∷ first_of counts ∷ (inner ++ replicate left 0)) ∷ []) blocks
  pub are : now ≡ (before ++ (outer, word ∷ first_of counts ∷ (inner ++ replicate left 0)) ∷ []) ++ blocks

pub nesting_begins :
    (slots : ℕ) (counts : List ℕ) (word outer width : ℕ) (before now : Blocks) → width ≡ outer_slots slots counts
    → Joins (word ∷ first_of counts ∷ replicate (first_of counts * width) 0) before now outer → Nesting slots counts word outer 0 before now
nesting_begins slots counts word outer width before now e j = record {
  inner = [];
  left = first_of counts * width;
  blocks = [];
  above = j.above;
  size_is = refl;
  all = let same = ap (λ (n : ℕ). first_of counts * n) e in omega (arith, same);
  follow = refl;
  each_above = tt;
  are = j.joins ∙ sym (append-nil (before ++ (outer, word ∷ first_of counts ∷ replicate (first_of counts * width) 0) ∷ []));
}

module _ (slots : ℕ) (counts : List ℕ) (word outer made : ℕ) (before now : Blocks) (n : Nesting slots counts word outer made before now) where
  abbrev words : List ℕ
  words = word ∷ first_of counts ∷ (n.inner ++ replicate n.left 0)

  abbrev base : Blocks
  base = before ++ (outer, words) ∷ []

  pub words_length : length words ≡ 2 + first_of counts * outer_slots slots counts
  words_length =
      let a = n.size_is in
      let b = n.all in
      let zeros = length-replicate {A = ℕ} n.left 0 in
      omega (arith, a, b, zeros, length-append n.inner (replicate n.left 0))

  -- ---- one more

  module _ (some : 1 ≤ n.left) (between : Blocks) (inner : ℕ) (j : NestedJoin slots (drop 1 counts) (word - 65536) now between inner) where
    between_is : between ≡ base ++ (n.blocks ++ j.blocks)
    between_is = j.joins ∙ ap (λ (b : Blocks). b ++ j.blocks) n.are ∙ append_assoc base n.blocks j.blocks

    both_above : EachAbove base (n.blocks ++ j.blocks)
    both_above = above_both base n.blocks j.blocks n.each_above (subst (λ (b : Blocks). EachAbove b j.blocks) n.are j.above)

    pub has_place : made + 2 < length (words_at between outer)
    has_place =
        let size =
        ap (λ (b : Blocks). length (words_at b outer)) between_is ∙ ap (λ (w : List ℕ). length w) (own_words before outer words (n.blocks ++ j.blocks) n.above both_above) in
        let all = words_length in
        let b = n.all in
        omega (arith, size, all, b, some)

    abbrev more : List ℕ
    more = word ∷ first_of counts ∷ ((n.inner ++ inner ∷ []) ++ replicate (n.left - 1) 0)

    set_is : set words (made + 2) inner ≡ more
    set_is =
        let one_less : n.left ≡ suc (n.left - 1) = omega (arith, some) in
        let place : made + 2 ≡ suc (suc (length n.inner)) = let a = n.size_is in omega (arith, a) in
        ap (λ (k : ℕ). set (word ∷ first_of counts ∷ (n.inner ++ replicate {A = ℕ} k 0)) (made + 2) inner) one_less
        ∙ ap (λ (k : ℕ). set ((word ∷ first_of counts ∷ n.inner) ++ 0 ∷ replicate (n.left - 1) 0) k inner) place
        ∙ set-append_seam (word ∷ first_of counts ∷ n.inner) 0 (replicate (n.left - 1) 0) inner
        ∙ ap (λ (l : List ℕ). word ∷ first_of counts ∷ l) (sym (append_assoc n.inner (inner ∷ []) (replicate (n.left - 1) 0)))

    pub nesting_goes_on : (after : Blocks) → after ≡ written between outer (made + 2) inner → Nesting slots counts word outer (made + 1) before after
    nesting_goes_on after e = record {
      inner = n.inner ++ inner ∷ [];
      left = n.left - 1;
      blocks = n.blocks ++ j.blocks;
      above = n.above;
      size_is = let a = n.size_is in omega (arith, a, length-append n.inner (inner ∷ []));
      all = let b = n.all in omega (arith, b, some);
      follow = follow_last (AreNested slots (drop 1 counts) (word - 65536)) n.inner n.blocks j.blocks inner n.follow j.are;
      each_above =
          above_as base (before ++ (outer, more) ∷ []) (n.blocks ++ j.blocks)
          (greatest-append_above before outer words n.above ∙ sym (greatest-append_above before outer more n.above)) both_above;
      are =
          e ∙ ap (λ (b : Blocks). written b outer (made + 2) inner) (between_is ∙ append_assoc before ((outer, words) ∷ []) (n.blocks ++ j.blocks))
          ∙ own_written before outer words (n.blocks ++ j.blocks) (made + 2) inner n.above
          ∙ ap (λ (w : List ℕ). before ++ (outer, w) ∷ (n.blocks ++ j.blocks)) set_is
          ∙ sym (append_assoc before ((outer, more) ∷ []) (n.blocks ++ j.blocks));
    }

  -- ---- none more, and those that are there are taken back

  abbrev pub nested_has : (same : Blocks) → same ≡ now → HasInner slots (drop 1 counts) (word - 65536) made outer same
  nested_has same e = record {
    earlier = before;
    first = word;
    second = first_of counts;
    inner = n.inner;
    others = replicate n.left 0;
    made = n.blocks;
    above = n.above;
    size_is = n.size_is;
    follow = n.follow;
    each_above = n.each_above;
    are = e ∙ n.are;
  }

  pub nested_can : (known : List ℕ) (same : Blocks) → known ≡ drop 1 counts → same ≡ now → CanTakeInner slots known made outer same
  nested_can known same a e =
      record {
        word = word - 65536;
        has = subst (λ (k : List ℕ). HasInner slots k (word - 65536) made outer same) (sym a) (nested_has same e);
      }

  pub outer_joins :
      (known : List ℕ) (same between : Blocks) → known ≡ drop 1 counts → same ≡ now → TakesInner slots known made outer same between
      → Joins words before between outer
  outer_joins known same between a e takes =
      let one = subst (λ (k : List ℕ). TakesInner slots k made outer same between) a takes in
      record { above = n.above; joins = one (word - 65536) (nested_has same e) }
  -- ---- all of them
