-- Lists of types that flow one by one.
use Rattle.std.proofs.Common.{rules, ◌≡◌, ℕ, zero, suc, ◌-◌, ◌<◌, ◌≤◌, Bool, true, false, ◌&&◌, List, [], ◌∷◌, ◌++◌, length, map, drop, replicate, Some, None, refl, sym, ap, ◌∙◌, arith, eqb, length-drop}
use Rattle.std.proofs.lemmas.List.{length-map}
use Rattle.std.specs.Prelude.{slice_get}
use Rattle.std.proofs.lemmas.Option.{slice_get_within}
use Rattle.jv_stackmap.specs.declared.verification.VerificationTypeOf.TheVariants as types
use Rattle.jv_stackmap.specs.Types.{FrameType}
use Rattle.jv_meaning_world.specs.Flow.{flows}
use Rattle.jv_meaning_world.specs.FrameFlow.{all_flow, item_flows}
use Rattle.jv_meaning_world.specs.World.{World}
use Rattle.jv_meaning_world.proofs.Order.{flows_is_reflexive}
use Rattle.jv_verify_types.specs.Typed.{TypeWorld, typed, typed_all}
use Rattle.jv_verify_types.specs.Numbered.{Item}
use Rattle.jv_verify_flow.specs.Inside.Behind.{ItemsFlow}

pub smaller : {m n : ℕ} → suc m ≤ suc n → m ≤ n
smaller h = omega (arith, h)

and_false : (b : Bool) → (b && false) ≡ false
and_false true = refl
and_false false = refl

-- a stack item flows to its own type
pub item_to_itself : (world : World) (t : FrameType) → item_flows world t t ≡ true
item_to_itself world types.Long = refl
item_to_itself world types.Top = refl
item_to_itself world types.Int = refl
item_to_itself world types.Null = refl
item_to_itself world types.UninitializedThis = refl
item_to_itself world (types.Class x) = flows_is_reflexive world (types.Class x)
item_to_itself world (types.Array a) = flows_is_reflexive world (types.Array a)
item_to_itself world (types.Uninitialized o) = flows_is_reflexive world (types.Uninitialized o)

-- ---- what is behind a place of a list

pub at_place : {X Y : Type 0} (g : X → Y) (xs : List X) (k : ℕ) (x : X) → slice_get xs k ≡ Some x → drop k (map g xs) ≡ g x ∷ drop (suc k) (map g xs)
at_place g [] k x e = absurd (omega (arith, slice_get_within [] k x e))
at_place g (y ∷ xs) zero x e = let same : y ≡ x = cc in ap (λ z. g z ∷ map g xs) same
at_place g (y ∷ xs) (suc k) x e = at_place g xs k x e

pub past_end : {X Y : Type 0} (g : X → Y) (xs : List X) (k : ℕ) → slice_get xs k ≡ None → drop k (map g xs) ≡ []
past_end g [] zero e = refl
past_end g [] (suc k) e = refl
past_end g (y ∷ xs) zero e = absurd cc
past_end g (y ∷ xs) (suc k) e = past_end g xs k e

-- ---- lists that flow

module _ (f : FrameType → FrameType → Bool) where
  -- what does not flow behind a front
  pub behind_front : (front rest xs : List FrameType) → length front ≤ length xs → all_flow f (drop (length front) xs) rest ≡ false → all_flow f xs (front ++ rest) ≡ false
  behind_front [] rest xs h e = e
  behind_front (t ∷ front) rest [] h e = absurd (omega (arith, h))
  behind_front (t ∷ front) rest (x ∷ xs) h e = ap (λ b. f x t && b) (behind_front front rest xs (smaller h) e) ∙ and_false (f x t)

  -- a list that is too short
  pub too_few : (xs ys : List FrameType) → length xs < length ys → all_flow f xs ys ≡ false
  too_few [] [] h = absurd (omega (arith, h))
  too_few [] (y ∷ ys) h = refl
  too_few (x ∷ xs) [] h = refl
  too_few (x ∷ xs) (y ∷ ys) h = ap (λ b. f x y && b) (too_few xs ys (omega (arith, h))) ∙ and_false (f x y)

  -- no items, where none is left
  pub none_left : (xs : List FrameType) → eqb (length xs) 0 ≡ all_flow f xs []
  none_left [] = refl
  none_left (x ∷ xs) = search rules

-- ---- items of a stack

module _ (f : FrameType → FrameType → Bool) (types : TypeWorld) (stack : List Item) (all : List FrameType) (height left : ℕ) (es : List FrameType)
    (so_far : ItemsFlow f (typed_all types.names stack) all height left es) where
  module _ (e : FrameType) (rest : List FrameType) (is : es ≡ e ∷ rest) where
    pub no_item : slice_get stack (height - left) ≡ None → all_flow f (typed_all types.names stack) all ≡ false
    no_item none = so_far.all ∙ (ap (λ xs. all_flow f xs es) (past_end (typed types.names) stack (height - left) none) ∙ ap (all_flow f []) is)

    module _ (item : Item) (is_item : slice_get stack (height - left) ≡ Some item) where
      pub one_left : 1 ≤ left
      one_left = omega (arith, slice_get_within stack (height - left) item is_item, so_far.counted, so_far.room, length-map stack (typed types.names))

      at_item : all_flow f (typed_all types.names stack) all ≡ (f (typed types.names item) e && all_flow f (drop (suc (height - left)) (typed_all types.names stack)) rest)
      at_item =
          so_far.all
          ∙ (ap (λ xs. all_flow f xs es) (at_place (typed types.names) stack (height - left) item is_item)
          ∙ ap (all_flow f (typed types.names item ∷ drop (suc (height - left)) (typed_all types.names stack))) is)

      pub item_not : f (typed types.names item) e ≡ false → all_flow f (typed_all types.names stack) all ≡ false
      item_not g = at_item ∙ ap (λ b. b && all_flow f (drop (suc (height - left)) (typed_all types.names stack)) rest) g

      pub item_more : f (typed types.names item) e ≡ true → ItemsFlow f (typed_all types.names stack) all height (left - 1) rest
      item_more g =
          let next : suc (height - left) ≡ height - (left - 1) = omega (arith, one_left, so_far.room) in
          record {
            all = at_item ∙ (ap (λ b. b && all_flow f (drop (suc (height - left)) (typed_all types.names stack)) rest) g
                ∙ ap (λ n. all_flow f (drop n (typed_all types.names stack)) rest) next);
            counted = so_far.counted;
            room = omega (arith, so_far.room);
          }

  pub items_end : es ≡ [] → eqb left 0 ≡ all_flow f (typed_all types.names stack) all
  items_end none =
      let rest = drop (height - left) (typed_all types.names stack) in
      let count : left ≡ length rest = omega (arith, length-drop (height - left) (typed_all types.names stack), so_far.counted, so_far.room) in
      ap (λ n. eqb n 0) count ∙ (none_left f rest ∙ (ap (all_flow f rest) (sym none) ∙ sym so_far.all))

-- ---- top, to which all flow

pub to_top : (world : World) (x : FrameType) → flows world x types.Top ≡ true
to_top world x = refl

pub to_tops : (world : World) (xs : List FrameType) (n : ℕ) → length xs ≡ n → all_flow (flows world) xs (replicate n types.Top) ≡ true
to_tops world [] zero h = refl
to_tops world [] (suc n) h = absurd (omega (arith, h))
to_tops world (x ∷ xs) zero h = absurd (omega (arith, h))
to_tops world (x ∷ xs) (suc n) h = to_tops world xs n (omega (arith, h))
