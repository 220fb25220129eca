-- Blocks of arrays of arrays: how they follow on one another, and what they cost.
use Rattle.std.proofs.Common.{◌≡◌, ℕ, zero, suc, ◌+◌, ◌-◌, ◌*◌, ◌<◌, ◌≤◌, List, [], ◌∷◌, ◌++◌, length, replicate, get_or, drop, refl, sym, ap, ◌∙◌, arith, append-nil, append_assoc}
use Rattle.std.proofs.lemmas.List.{length-replicate}
use Rattle.std.proofs.Math.Nat.{mul-le-mul_left}
use Rattle.jv_store.specs.Content.{greatest}
use Rattle.jv_store.proofs.LookUps.{greatest-append_above}
use Rattle.jv_interp_heap.specs.ObjectsInBlocks.{Blocks}
use Rattle.jv_interp_objects.specs.NestedBlocks.{nested_cost, outer_slots, inner_size, Follow, AreNested, EachAbove}

-- ---- counts

abbrev pub first_of : List ℕ → ℕ
first_of counts = get_or counts 0 0

pub many_slots : (slots : ℕ) (counts : List ℕ) → 1 < length counts → 1 ≡ outer_slots slots counts
many_slots slots [] h = absurd (omega (arith, h))
many_slots slots (count ∷ []) h = absurd (omega (arith, h))
many_slots slots (count ∷ second ∷ more) h = refl

pub one_slots : (slots : ℕ) (counts : List ℕ) → length counts ≤ 1 → slots ≡ outer_slots slots counts
one_slots slots [] h = refl
one_slots slots (count ∷ []) h = refl
one_slots slots (count ∷ second ∷ more) h = absurd (omega (arith, h))

pub many_size : (counts : List ℕ) (x : ℕ) → 1 < length counts → x ≡ get_or counts 0 x → x ≡ inner_size counts
many_size [] x h e = absurd (omega (arith, h))
many_size (count ∷ []) x h e = absurd (omega (arith, h))
many_size (count ∷ second ∷ more) x h e = e

pub many_size_zero : (counts : List ℕ) → 1 < length counts → get_or counts 0 0 ≡ inner_size counts
many_size_zero [] h = absurd (omega (arith, h))
many_size_zero (count ∷ []) h = absurd (omega (arith, h))
many_size_zero (count ∷ second ∷ more) h = refl

pub one_size : (counts : List ℕ) → length counts ≤ 1 → 0 ≡ inner_size counts
one_size [] h = refl
one_size (count ∷ []) h = refl
one_size (count ∷ second ∷ more) h = absurd (omega (arith, h))

-- an outer array that has some in it has a second count
pub some_inner : (counts : List ℕ) → 1 ≤ inner_size counts → 2 ≤ length counts
some_inner [] h = absurd (omega (arith, h))
some_inner (count ∷ []) h = absurd (omega (arith, h))
some_inner (count ∷ second ∷ more) h = omega arith

-- the outer array's words, and the others'
pub cost_parts : (slots : ℕ) (counts : List ℕ) → 1 ≤ length counts → nested_cost slots counts ≡ 2 + first_of counts * outer_slots slots counts + inner_size counts * nested_cost slots (drop 1 counts)
cost_parts slots [] h = absurd (omega (arith, h))
cost_parts slots (count ∷ []) h = omega arith
cost_parts slots (count ∷ second ∷ more) h = refl

-- each array in an outer one has a word there
pub inner_words : (slots : ℕ) (counts : List ℕ) → inner_size counts ≤ first_of counts * outer_slots slots counts
inner_words slots [] = omega arith
inner_words slots (count ∷ []) = omega arith
inner_words slots (count ∷ second ∷ more) = omega arith

pub few_slots : (slots : ℕ) (counts : List ℕ) → slots ≤ 2 → outer_slots slots counts ≤ 2
few_slots slots [] h = h
few_slots slots (count ∷ []) h = h
few_slots slots (count ∷ second ∷ more) h = omega arith

-- so many more cost so much more
pub costs_more : (a b cost : ℕ) → a < b → a * cost + cost ≤ b * cost
costs_more a b cost h =
    let up : suc a ≤ b = omega (arith, h) in
    let products = mul-le-mul_left cost up in
    let first : cost * suc a ≡ a * cost + cost = omega arith in
    let second : cost * b ≡ b * cost = omega arith in
    omega (arith, products, first, second)

pub one_at_least : (a cost : ℕ) → 1 ≤ a → cost ≤ a * cost
one_at_least a cost h =
    let more = costs_more 0 a cost (omega (arith, h)) in
    omega (arith, more)

pub one_less : (left cost : ℕ) → 1 ≤ left → left * cost ≡ cost + (left - 1) * cost
one_less zero cost h = absurd (omega (arith, h))
one_less (suc left) cost h =
    let e : suc left - 1 ≡ left = omega arith in
    let product : suc left * cost ≡ cost + left * cost = omega arith in
    product ∙ ap (λ (n : ℕ). cost + n * cost) (sym e)

-- ---- blocks above others

pub above_as : (before other xs : Blocks) → greatest before ≡ greatest other → EachAbove before xs → EachAbove other xs
above_as before other [] e h = h
above_as before other (x ∷ xs) e h =
    let first = h.0 in
    let above : greatest other < x.0 = omega (arith, first, e) in
    let same : greatest (before ++ x ∷ []) ≡ greatest (other ++ x ∷ []) =
    greatest-append_above before x.0 x.1 h.0 ∙ sym (greatest-append_above other x.0 x.1 above) in
    (above, above_as (before ++ x ∷ []) (other ++ x ∷ []) xs same h.1)

-- ---- blocks that follow on one another

pub record LastOf (Kind : Blocks → ℕ → Type 0) (inner : List ℕ) (address : ℕ) (blocks : Blocks) : Type 0 where
  pub rest : Blocks
  pub own : Blocks
  pub are : blocks ≡ rest ++ own
  pub follow : Follow Kind inner rest
  pub kind : Kind own address

module _ (Kind : Blocks → ℕ → Type 0) where
  pub follow_last :
      (inner : List ℕ) (blocks own : Blocks) (address : ℕ) → Follow Kind inner blocks → Kind own address
      → Follow Kind (inner ++ address ∷ []) (blocks ++ own)
  follow_last [] blocks own address h k = (own, [], ap (λ (b : Blocks). b ++ own) h ∙ sym (append-nil own), k, refl)
  follow_last (a ∷ inner) blocks own address h k =
      (h.0, h.1 ++ own, ap (λ (b : Blocks). b ++ own) h.2 ∙ append_assoc h.0 h.1 own, h.3, follow_last inner h.1 own address h.4 k)

  pub follow_split : (inner : List ℕ) (address : ℕ) (blocks : Blocks) → Follow Kind (inner ++ address ∷ []) blocks → LastOf Kind inner address blocks
  follow_split [] address blocks h =
      record { rest = []; own = h.0; are = h.2 ∙ ap (λ (r : Blocks). h.0 ++ r) h.4 ∙ append-nil h.0; follow = refl; kind = h.3 }
  follow_split (a ∷ inner) address blocks h =
      let t = follow_split inner address h.1 h.4 in
      record {
        rest = h.0 ++ t.rest;
        own = t.own;
        are = h.2 ∙ ap (λ (r : Blocks). h.0 ++ r) t.are ∙ sym (append_assoc h.0 t.rest t.own);
        follow = (h.0, t.rest, refl, h.3, t.follow);
        kind = t.kind;
      }

-- the last of a list
pub record LastAt (k : ℕ) (xs : List ℕ) : Type 0 where
  pub front : List ℕ
  pub last : ℕ
  pub are : xs ≡ front ++ last ∷ []
  pub size : length front ≡ k

pub last_at : (k : ℕ) (xs : List ℕ) → length xs ≡ suc k → LastAt k xs
last_at k [] e = absurd (omega (arith, e))
last_at zero (x ∷ []) e = record { front = []; last = x; are = refl; size = refl }
last_at zero (x ∷ y ∷ more) e = absurd (omega (arith, e))
last_at (suc k) (x ∷ xs) e =
    let l = last_at k xs (omega (arith, e)) in
    record { front = x ∷ l.front; last = l.last; are = ap (λ (t : List ℕ). x ∷ t) l.are; size = ap suc l.size }

-- ---- the outer array's block, and what is behind it

pub record Opened (slots : ℕ) (counts : List ℕ) (word : ℕ) (own : Blocks) (address : ℕ) : Type 0 where
  pub first : ℕ
  pub second : ℕ
  pub inner : List ℕ
  pub others : List ℕ
  pub made : Blocks
  pub are : own ≡ (address, first ∷ second ∷ (inner ++ others)) ∷ made
  pub size_is : length inner ≡ inner_size counts
  pub words_are : length (inner ++ others) ≡ first_of counts * outer_slots slots counts
  pub follow : Follow (AreNested slots (drop 1 counts) (word - 65536)) inner made
  pub some : 1 ≤ length counts

pub opened : (slots : ℕ) (counts : List ℕ) (word : ℕ) (own : Blocks) (address : ℕ) → AreNested slots counts word own address → Opened slots counts word own address
opened slots [] word own address h = absurd h
opened slots (count ∷ []) word own address h = record {
  first = word;
  second = count;
  inner = [];
  others = replicate (count * slots) 0;
  made = [];
  are = h;
  size_is = refl;
  words_are = length-replicate {A = ℕ} (count * slots) 0;
  follow = refl;
  some = omega arith;
}
opened slots (count ∷ second ∷ more) word own address h = record {
  first = word;
  second = count;
  inner = h.0;
  others = [];
  made = h.1;
  are = h.2 ∙ ap (λ (l : List ℕ). (address, word ∷ count ∷ l) ∷ h.1) (sym (append-nil h.0));
  size_is = h.3;
  words_are = let n = h.3 in let a = ap (λ (l : List ℕ). length l) (append-nil h.0) in omega (arith, n, a);
  follow = h.4;
  some = omega arith;
}

-- and together again
pub closed :
    (slots : ℕ) (counts : List ℕ) (word : ℕ) (address : ℕ) (inner : List ℕ) (left : ℕ) (made : Blocks) → 1 ≤ length counts
    → length inner ≡ inner_size counts → length inner + left ≡ first_of counts * outer_slots slots counts
    → Follow (AreNested slots (drop 1 counts) (word - 65536)) inner made
    → AreNested slots counts word ((address, word ∷ first_of counts ∷ (inner ++ replicate left 0)) ∷ made) address
closed slots [] word address inner left made some size all follow = absurd (omega (arith, some))
closed slots (count ∷ []) word address [] left made some size all follow =
    let same : left ≡ count * slots = omega (arith, all) in
    ap (λ (n : ℕ). (address, word ∷ count ∷ replicate {A = ℕ} n 0) ∷ made) same
    ∙ ap (λ (b : Blocks). (address, word ∷ count ∷ replicate {A = ℕ} (count * slots) 0) ∷ b) follow
closed slots (count ∷ []) word address (a ∷ inner) left made some size all follow = absurd (omega (arith, size))
closed slots (count ∷ second ∷ more) word address inner left made some size all follow =
    let none : left ≡ 0 = omega (arith, size, all) in (
      inner,
      made,
      ap (λ (n : ℕ). (address, word ∷ count ∷ (inner ++ replicate {A = ℕ} n 0)) ∷ made) none
          ∙ ap (λ (l : List ℕ). (address, word ∷ count ∷ l) ∷ made) (append-nil inner),
      size,
      follow,
    )
