-- The superclass chain, followed number by number.
use Rattle.std.proofs.Common.{◌≡◌, ℕ, zero, suc, ◌+◌, ◌<◌, Bool, false, ◌&&◌, List, [], ◌∷◌, ◌++◌, map, length, get_or, Option, Some, None, refl, sym, ap, ◌∙◌, subst, arith, append-nil, append_assoc, length-append}
use Rattle.std.specs.Prelude.{slice_get}
use Rattle.std.specs.Global.{Vec}
use Rattle.std.specs.List.{All, filter_map, list_all, cons_option}
use Rattle.std.proofs.lemmas.List.Elements.{All-append}
use Rattle.std.proofs.lemmas.Option.{slice_get-get_or}
use Rattle.jv_format.specs.Format.{◌>>=◌}
use Rattle.jv_class.specs.Class.{Class}
use Rattle.jv_classes.specs.Ways.{IsBelowSize}
use Rattle.jv_meaning_world.specs.World.{Loaded, World, class_named}
use Rattle.jv_meaning_world.specs.Above.{superclass_in, class_if_named, chain_within, superclasses}
use Rattle.jv_meaning_world.specs.Verdicts.{passes}
use Rattle.jv_meaning_world.specs.Numbers.{number_named, superclass_number}
use Rattle.jv_meaning_world.specs.Numbers.{HoldsAtNumber}
use Rattle.jv_classes.specs.Inside.Rows.{all_superclass_numbers}
use Rattle.jv_classes.specs.Inside.Told.{IsChain, AreChains}
use Rattle.jv_classes.specs.Inside.Tests.{passes_at, marked_at}
use Rattle.jv_classes.proofs.Numbers.{numbered, number_at}
use Rattle.jv_classes.proofs.Told.{at_map, past_map, superclass_below}

-- ---- marks

marked_one : (world : World) (test : Loaded → Bool) (number : Option ℕ) → marked_at (map test world) number ≡ passes_at world test number
marked_one world test None = refl
marked_one world test (Some k) = by_class (slice_get world k) refl
  where
    by_class : (o : Option Loaded) → slice_get world k ≡ o → get_or (map test world) k false ≡ passes test o
    by_class None e = past_map test world k false e
    by_class (Some l) e = at_map test world k l false e

pub marked : (world : World) (test : Loaded → Bool) (numbers : List (Option ℕ)) → list_all (marked_at (map test world)) numbers ≡ list_all (passes_at world test) numbers
marked world test [] = refl
marked world test (n ∷ numbers) = ap (λ b. b && list_all (marked_at (map test world)) numbers) (marked_one world test n) ∙ ap (λ b. passes_at world test n && b) (marked world test numbers)

-- ---- the superclass by its number

pub at_named : (world : World) (name : List ℕ) → (number_named world name >>= slice_get world) ≡ class_named world name
at_named world name = by_number (number_named world name) refl
  where
    clash : {k : ℕ} → Some k ≡ None → ⊥
    clash g = cc

    by_class : (o : Option Loaded) → class_named world name ≡ o → number_named world name ≡ None → None ≡ o
    by_class None e f = refl
    by_class (Some s) e f = absurd (clash (sym (numbered world name s e).1 ∙ f))

    by_number : (o : Option ℕ) → number_named world name ≡ o → (o >>= slice_get world) ≡ class_named world name
    by_number None e = by_class (class_named world name) refl e
    by_number (Some k) e = sym (number_at world name k e)

at_superclass_named : (world : World) (name : Option (List ℕ)) → ((name >>= number_named world) >>= slice_get world) ≡ class_if_named world name
at_superclass_named world None = refl
at_superclass_named world (Some name) = at_named world name

pub at_superclass : (world : World) (class : Class) → (superclass_number world class >>= slice_get world) ≡ superclass_in world class
at_superclass world class = at_superclass_named world class.super_class

-- ---- the chain

pub record HasFollowed (world : World) (number : ℕ) (chain : List ℕ) (left : ℕ) (next : Option ℕ) : Type 0 where
  pub below : IsBelowSize (length world) next
  pub numbers : All (λ k. k < length world) chain
  pub followed : HoldsAtNumber world number (λ l. superclasses world l.class ≡ filter_map (slice_get world) chain ++ chain_within world left (next >>= slice_get world))

pub follow_start : (world : World) (number : ℕ) (next : Option ℕ) → HoldsAtNumber world number (λ l. next ≡ superclass_number world l.class) →
    (l : Loaded) → slice_get world number ≡ Some l → HasFollowed world number [] (length world) next
follow_start world number next is l at = record {
  below = subst (IsBelowSize (length world)) (sym (is l at)) (superclass_below world l.class.super_class);
  numbers = λ k d h. absurd (omega (arith, h));
  followed = λ m at_m. ap (chain_within world (length world)) (sym (ap (λ n. n >>= slice_get world) (is m at_m) ∙ at_superclass world m.class));
}

found_more : (world : World) (chain : List ℕ) (k : ℕ) (s : Loaded) → slice_get world k ≡ Some s → filter_map (slice_get world) (chain ++ k ∷ []) ≡ filter_map (slice_get world) chain ++ s ∷ []
found_more world [] k s e = ap (λ o. cons_option o []) e
found_more world (n ∷ chain) k s e = by_class (slice_get world n) (found_more world chain k s e)
  where
    by_class : (o : Option Loaded) → filter_map (slice_get world) (chain ++ k ∷ []) ≡ filter_map (slice_get world) chain ++ s ∷ []
        → cons_option o (filter_map (slice_get world) (chain ++ k ∷ [])) ≡ cons_option o (filter_map (slice_get world) chain) ++ s ∷ []
    by_class None again = again
    by_class (Some x) again = ap (λ xs. x ∷ xs) again

pub follow_step : (world : World) (number : ℕ) (chain : List ℕ) (left : ℕ) (k : ℕ) (next : Option ℕ) (s : Loaded) → slice_get world k ≡ Some s →
    k < length world → HoldsAtNumber world k (λ m. next ≡ superclass_number world m.class)
    → HasFollowed world number chain (suc left) (Some k) → HasFollowed world number (chain ++ k ∷ []) left next
follow_step world number chain left k next s at less is h = record {
  below = subst (IsBelowSize (length world)) (sym (is s at)) (superclass_below world s.class.super_class);
  numbers = All-append (λ j. j < length world) chain (k ∷ []) h.numbers (λ j d within. by_place j d within);
  followed = λ l at_l.
      h.followed l at_l
      ∙ (ap (λ o. filter_map (slice_get world) chain ++ chain_within world (suc left) o) at
      ∙ (sym (append_assoc (filter_map (slice_get world) chain) (s ∷ []) (chain_within world left (superclass_in world s.class)))
      ∙ (ap (λ xs. xs ++ chain_within world left (superclass_in world s.class)) (sym (found_more world chain k s at))
      ∙ ap (λ o. filter_map (slice_get world) (chain ++ k ∷ []) ++ chain_within world left o) (sym (ap (λ n. n >>= slice_get world) (is s at) ∙ at_superclass world s.class)))));
}
  where
    by_place : (j d : ℕ) → j < 1 → get_or (k ∷ []) j d < length world
    by_place zero d within = less
    by_place (suc j) d within = absurd (omega (arith, within))

nothing_left : (world : World) (left : ℕ) → chain_within world left None ≡ []
nothing_left world zero = refl
nothing_left world (suc left) = refl

pub follow_end : (world : World) (number : ℕ) (chain : List ℕ) (left : ℕ) → HasFollowed world number chain left None → HoldsAtNumber world number
    (λ l. filter_map (slice_get world) chain ≡ superclasses world l.class)
follow_end world number chain left h = λ l at.
    sym (h.followed l at ∙ (ap (λ xs. filter_map (slice_get world) chain ++ xs) (nothing_left world left) ∙ append-nil (filter_map (slice_get world) chain)))

pub follow_all : (world : World) (number : ℕ) (chain : List ℕ) (left : ℕ) (next : Option ℕ) → left ≡ 0 → HasFollowed world number chain left next →
    HoldsAtNumber world number (λ l. filter_map (slice_get world) chain ≡ superclasses world l.class)
follow_all world number chain left next e h = λ l at.
    sym (h.followed l at ∙ (ap (λ n. filter_map (slice_get world) chain ++ chain_within world n (next >>= slice_get world)) e ∙ append-nil (filter_map (slice_get world) chain)))

pub some_class : (world : World) (k : ℕ) → k < length world → (l : Loaded) × (slice_get world k ≡ Some l)
some_class [] k h = absurd (omega (arith, h))
some_class (x ∷ world) k h = (get_or (x ∷ world) k x, slice_get-get_or (x ∷ world) k x h)

-- ---- the superclasses of each class

pub superclass_told : (world : World) (direct : List (Option ℕ)) (k : ℕ) (d : Option ℕ) → direct ≡ all_superclass_numbers world →
    HoldsAtNumber world k (λ l. get_or direct k d ≡ superclass_number world l.class)
superclass_told world direct k d e = λ l at. ap (λ numbers. get_or numbers k d) e ∙ at_map (λ m. superclass_number world m.class) world k l d at

one_more : (P : ℕ → Vec ℕ → Type 0) (chains : List (Vec ℕ)) (last : Vec ℕ) → ((k : ℕ) (v : Vec ℕ) → slice_get chains k ≡ Some v → P k v) → P (length chains) last
    → (k : ℕ) (v : Vec ℕ) → slice_get (chains ++ last ∷ []) k ≡ Some v → P k v
one_more P [] last each at zero v e = subst (P 0) (same e) at
  where
    same : Some last ≡ Some v → last ≡ v
    same e = cc
one_more P [] last each at (suc k) v e = absurd (past k e)
  where
    past : (j : ℕ) → slice_get [] j ≡ Some v → ⊥
    past zero e = absurd cc
    past (suc j) e = absurd cc
one_more P (c ∷ chains) last each at zero v e = each zero v e
one_more P (c ∷ chains) last each at (suc k) v e = one_more (λ j. P (suc j)) chains last (λ j. each (suc j)) at k v e

pub chain_more : (world : World) (count : ℕ) (chains : List (Vec ℕ)) (chain : Vec ℕ) → IsChain world count chain.items →
    AreChains world count chains → AreChains world (count + 1) (chains ++ chain ∷ [])
chain_more world count chains chain is are = record {
  size = length-append chains (chain ∷ []) ∙ ap (λ n. n + 1) are.size;
  each = one_more (λ k v. IsChain world k v.items) chains chain are.each (subst (λ n. IsChain world n chain.items) (sym are.size) is);
}

pub chain_at : (world : World) (count : ℕ) (chains : List (Vec ℕ)) (number : ℕ) (chain : Vec ℕ) → AreChains world count chains → number < count →
    chain ≡ get_or chains number chain → IsChain world number chain.items
chain_at world count chains number chain are less is =
    are.each number chain (slice_get-get_or chains number chain (subst (λ n. number < n) (sym are.size) less) ∙ ap (λ v. Some v) (sym is))
