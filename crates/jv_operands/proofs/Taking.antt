-- What is taken from a stack meets what is wanted of it.
use Rattle.std.proofs.Common.{◌≡◌, Bool, true, false, List, [], ◌∷◌, ◌++◌, Option, Some, None, refl, sym, subst, append_assoc}
use Rattle.std.specs.Prelude.{ℕ, suc, map, reverse, ◌&&◌, if◌then◌else◌}
use Rattle.std.specs.List.{list_all}
use Rattle.jv_format.specs.Format.{◌>>=◌}
use Rattle.jv_format.proofs.Laws.{bind_some}
use Rattle.jv_stackmap.specs.Types.{FrameType}
use Rattle.jv_meaning_world.specs.FrameFlow.{item_flows}
use Rattle.jv_meaning_world.specs.World.{World}
use Rattle.jv_meaning_typing.specs.FrameChanges.{taken, taken_as_all, taken_downward}
use Rattle.jv_operands.specs.declared.unmet.Place.TheVariants.{Item}
use Rattle.jv_operands.specs.Unmet.{Unmet, first_unmet_item, is_met, unmet}
use Rattle.jv_operands.specs.Wants.{FrameWant, of_type, of_types}

-- all these items are there, and each meets its want
abbrev pub all_met : World → List FrameWant → List FrameType → Bool
all_met world [] stack = true
all_met world (want ∷ more) [] = false
all_met world (want ∷ more) (found ∷ below) = is_met world want found && all_met world more below

pub if_some : {A : Type 0} (test : Bool) (x y : A) → (if test then Some x else None) ≡ Some y → (test ≡ true) × (x ≡ y)
if_some true x y e = (refl, cc)
if_some false x y e = absurd cc

pub and_true : (a b : Bool) → a ≡ true → b ≡ true → (a && b) ≡ true
and_true a b p q = rw (p, q) refl

pub and_parts : (a b : Bool) → (a && b) ≡ true → (a ≡ true) × (b ≡ true)
and_parts true b e = (refl, e)
and_parts false b e = absurd cc

-- where one is not met, not all are
pub not_all : (world : World) (depth : ℕ) (wanted : List FrameWant) (stack : List FrameType) (u : Unmet) → first_unmet_item world depth wanted stack ≡ Some u
    → all_met world wanted stack ≡ false
not_all world depth [] stack u e = absurd cc
not_all world depth (want ∷ more) [] u e = refl
not_all world depth (want ∷ more) (found ∷ below) u e =
    cases (is_met world want found) (unmet (Item depth) want (Some found)) (λ h. not_all world (suc depth) more below u h) e
  where
    cases : (met : Bool) (other : Unmet) → (first_unmet_item world (suc depth) more below ≡ Some u → all_met world more below ≡ false)
        → (if met then first_unmet_item world (suc depth) more below else Some other) ≡ Some u → (met && all_met world more below) ≡ false
    cases true other next h = next h
    cases false other next h = refl

module _ (world : World) where
  -- what is taken meets these wants, and what is wanted of the rest comes behind them
  abbrev pub Takes : List FrameWant → (List FrameType → Option (List FrameType)) → Type 0
  Takes wanted take =
      (stack below : List FrameType) → take stack ≡ Some below → (rest : List FrameWant) → all_met world rest below ≡ true
      → all_met world (wanted ++ rest) stack ≡ true

  -- one that passes a test
  pub takes_one : (want : FrameWant) (take : List FrameType → Option (List FrameType)) → take [] ≡ None
      → ((item : FrameType) (under below : List FrameType) → take (item ∷ under) ≡ Some below → (is_met world want item ≡ true) × (under ≡ below))
      → Takes (want ∷ []) take
  takes_one want take none some [] below e rest h = absurd cc
  takes_one want take none some (item ∷ under) below e rest h =
      let (met, same) = some item under below e in
      and_true (is_met world want item) (all_met world rest under) met (subst (λ s. all_met world rest s ≡ true) (sym same) h)

  pub takes_first : (type : FrameType) (more : List FrameType) → Takes (of_type type ∷ []) (taken_as_all world (type ∷ more))
  takes_first type more =
      takes_one (of_type type) (taken_as_all world (type ∷ more)) refl
      (λ item under below e.
      let (all, same) = if_some (list_all (item_flows world item) (type ∷ more)) under below e in
      ((and_parts (item_flows world item type) (list_all (item_flows world item) more) all).0, same))

  pub takes_downward : (expected : List FrameType) → Takes (map of_type expected) (taken_downward world expected)
  takes_downward [] stack below e rest h =
      let same : stack ≡ below = cc in
      subst (λ s. all_met world rest s ≡ true) (sym same) h
  takes_downward (type ∷ more) stack below e rest h =
      let (under, was, after) = bind_some (taken_as_all world (type ∷ []) stack) (λ b. taken_downward world more b) below e in
      takes_first type [] stack under was (map of_type more ++ rest) (takes_downward more under below after rest h)

  pub takes_all : (expected : List FrameType) → Takes (of_types expected) (taken world expected)
  takes_all expected = takes_downward (reverse expected)

  -- one behind the other
  pub takes_both : (one other : List FrameWant) (first second : List FrameType → Option (List FrameType)) → Takes one first → Takes other second
      → Takes (one ++ other) (λ s. first s >>= second)
  takes_both one other first second a b stack below e rest h =
      let (under, was, after) = bind_some (first stack) second below e in
      rw (append_assoc one other rest) (a stack under was (other ++ rest) (b under below after rest h))

  pub met : {A : Type 0} (wanted : List FrameWant) (take : List FrameType → Option (List FrameType)) → Takes wanted take → (stack : List FrameType)
      → (rest : List FrameType → Option A) (left : A) → (take stack >>= rest) ≡ Some left → all_met world (wanted ++ []) stack ≡ true
  met wanted take takes stack rest left e =
      let (below, was, after) = bind_some (take stack) rest left e in
      takes stack below was [] refl
