-- Marks of the classes above those that declare a method.
use Rattle.std.proofs.Common.{◌≡◌, ℕ, zero, suc, ◌+◌, ◌<◌, ◌≤◌, Bool, true, false, not, ◌&&◌, ◌||◌, List, [], ◌∷◌, length, nat_eq, nat_lt, take, get_or, set, drop, Some, refl, sym, ap, ◌∙◌, arith}
use Rattle.std.specs.Prelude.{slice_get, replicate}
use borrow.Author.Tests.{ltb-true, ltb-false}
use Rattle.std.specs.List.{list_any}
use Rattle.std.proofs.lemmas.Bool.{eqb-true, eqb-false}
use Rattle.std.proofs.lemmas.List.{get_or-set_same, get_or-set_other, get_or-replicate, get_or_past, length-replicate, take-replicate}
use Rattle.jv_classes.specs.Above.{MarksAbove}
use Rattle.jv_meaning_world.specs.World.{Loaded, World}
use Rattle.jv_meaning_world.specs.Above.{is_above}
use Rattle.jv_meaning_world.specs.Numbers.{IsNumbered, HoldsAtBoth, classes_at}
use Rattle.jv_lookups.specs.Inside.Members.{is_other_above, below_in, MarksOthersAbove, MarksAboveCandidate, MarksAboveCandidates}
use Rattle.jv_lookups.proofs.Among.{same_test}
use Rattle.jv_lookups.proofs.Found.{one_class_more, no_class_left}

same_aside : (a b s : Bool) → s ≡ true → a ≡ (a || (not s && b))
same_aside true b s e = refl
same_aside false b s e = sym (ap (λ x. not x && b) e)

other_joined : (a b s : Bool) → s ≡ false → (a || b) ≡ (a || (not s && b))
other_joined a b s e = sym (ap (λ x. a || (not x && b)) e)

-- the class's own mark is put back
pub others_marked : (world : World) (class : ℕ) (old now : List Bool) → IsNumbered world → class < length now → MarksAbove world class old now
    → MarksOthersAbove world class old (set now class (get_or old class false))
others_marked world class old now numbered less marked = λ to c at_c by at_by. by_test to c by at_c at_by (nat_eq class to) refl
  where
    by_test : (to : ℕ) (c by : Loaded) → slice_get world class ≡ Some c → slice_get world to ≡ Some by → (t : Bool) → nat_eq class to ≡ t
        → get_or (set now class (get_or old class false)) to false ≡ (get_or old to false || is_other_above world by c)
    by_test to c by at_c at_by true e =
        let here : class ≡ to = eqb-true class to e in
        ap (λ n. get_or (set now class (get_or old class false)) n false) (sym here)
        ∙ (get_or-set_same now class (get_or old class false) false less
        ∙ (ap (λ n. get_or old n false) here
        ∙ same_aside (get_or old to false) (is_above world by.class.name c.class) _ (sym (same_test world numbered class to c by at_c at_by) ∙ e)))
    by_test to c by at_c at_by false e =
        get_or-set_other now class to (get_or old class false) false (λ h. eqb-false class to e (sym h))
        ∙ (marked to c at_c by at_by
        ∙ other_joined (get_or old to false) (is_above world by.class.name c.class) _ (sym (same_test world numbered class to c by at_c at_by) ∙ e))

-- ---- one candidate

pub by_candidate : (a b t : Bool) → true ≡ t → (a || b) ≡ (a || (b && t))
by_candidate true b t e = refl
by_candidate false true t e = e
by_candidate false false t e = refl

pub by_none : (a b t : Bool) → false ≡ t → a ≡ (a || (b && t))
by_none true b t e = refl
by_none false true t e = e
by_none false false t e = refl

-- ---- all of them

or_joined : (a b c : Bool) → ((a || b) || c) ≡ (a || (b || c))
or_joined true b c = refl
or_joined false b c = refl

or_false : (a : Bool) → a ≡ (a || false)
or_false true = refl
or_false false = refl

-- the marks, with what the rest marks, are those that all mark
pub record LeavesMarks (world : World) (from : ℕ) (searched name descriptor : List ℕ) (first now : List Bool) (place : ℕ) : Type 0 where
  pub size : length now ≡ length first
  pub left : (to : ℕ) → HoldsAtBoth world from to
      (λ l by. (get_or now to false || list_any (below_in world name descriptor l by) (classes_at world (drop place searched)))
      ≡ (get_or first to false || list_any (below_in world name descriptor l by) (classes_at world searched)))

module _ (world : World) (from : ℕ) (searched name descriptor : List ℕ) (first : List Bool) where
  pub marks_step : (now new : List Bool) (i k : ℕ) (c : Loaded) → i < length searched → get_or searched i 0 ≡ k → slice_get world k ≡ Some c
      → length new ≡ length now → MarksAboveCandidate world from k name descriptor now new
      → LeavesMarks world from searched name descriptor first now i → LeavesMarks world from searched name descriptor first new (i + 1)
  marks_step now new i k c h e at size marked on = record {
    size = size ∙ on.size;
    left = λ to l at_l by at_by.
        let test = below_in world name descriptor l by in
        let rest = list_any test (classes_at world (drop (i + 1) searched)) in
        ap (λ b. b || rest) (marked to l at_l by at_by c at)
        ∙ (or_joined (get_or now to false) (test c) rest
        ∙ (ap (λ cs. get_or now to false || list_any test cs) (sym (one_class_more world searched i k c h e at)) ∙ on.left to l at_l by at_by));
  }

  pub marks_end : (now : List Bool) (i : ℕ) → length searched ≡ i → LeavesMarks world from searched name descriptor first now i
      → MarksAboveCandidates world from searched name descriptor first now
  marks_end now i e on = λ to l at_l by at_by.
      let test = below_in world name descriptor l by in
      or_false (get_or now to false)
      ∙ (ap (λ cs. get_or now to false || list_any test cs) (sym (no_class_left world searched i e)) ∙ on.left to l at_l by at_by)

-- ---- where none is marked

pub none_marked : (count most class : ℕ) → count ≤ most → get_or (take count (replicate most false)) class false ≡ false
none_marked count most class few = ap (λ marks. get_or marks class false) (take-replicate count most false few) ∙ by_place (nat_lt class count) refl
  where
    by_place : (t : Bool) → nat_lt class count ≡ t → get_or (replicate count false) class false ≡ false
    by_place true e = get_or-replicate count class false false (ltb-true class count e)
    by_place false e = get_or_past (replicate count false) class false (omega (arith, length-replicate count false, ltb-false class count e))

-- ---- a class that is marked

pub within : (marks : List Bool) (k : ℕ) → get_or marks k false ≡ true → k < length marks
within [] k e = absurd cc
within (m ∷ marks) zero e = omega arith
within (m ∷ marks) (suc k) e = let less = within marks k e in omega (arith, less)
