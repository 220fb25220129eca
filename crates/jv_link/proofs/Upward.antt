-- Steps on the way up.
use Rattle.std.proofs.Common.{◌≡◌, ℕ, ◌<◌, Bool, true, false, ◌||◌, List, [], ◌∷◌, length, map, Option, Some, None, refl, sym, ap, ◌∙◌, subst, arith}
use Rattle.std.specs.Prelude.{IfSome, slice_get, if◌then◌else◌}
use Rattle.std.specs.List.{list_any}
use Rattle.std.specs.Option.{option_and_then}
use Rattle.jv_format.specs.Format.{◌>>=◌}
use Rattle.jv_classes.specs.Ways.{IsBelowSize}
use Rattle.jv_meaning_world.specs.World.{Loaded, World}
use Rattle.jv_meaning_world.specs.Above.{superclass_in}
use Rattle.jv_meaning_world.specs.Laws.Above.{AboveByWays, AboveIsTransitive}
use Rattle.jv_meaning_world.specs.Overriding.{Declared}
use Rattle.jv_meaning_world.specs.LookUps.{else_option}
use Rattle.jv_meaning_world.specs.Numbers.{superclass_number}
use Rattle.jv_meaning_world.specs.Numbers.{HoldsAtNumber}
use Rattle.jv_classes.proofs.Told.{superclass_below}
use Rattle.jv_classes.proofs.Followed.{at_superclass, some_class}
use Rattle.jv_lookups.specs.declared.place.Place.{Place}
use Rattle.jv_lookups.specs.Places.{method_at, IsMethodPlace}
use Rattle.jv_loader.specs.Straight.{IsStraight}
use Rattle.jv_link.specs.Inside.Climbing.{Meeting, meets, is_opening, run_of, upward_of, met_upward, run_behind, sure_behind, numbered, IsStraightAt}
use Rattle.jv_link.specs.Inside.Climbing.Meeting.{Nothing, Far, Sure, Opens}
use Rattle.jv_link.proofs.Running.{goes_up, super_is_straight}

-- ---- what is run, step by step

pub run_nothing : (more : List Meeting) → run_of (Nothing ∷ more) ≡ run_of more
run_nothing more = refl

pub run_far : (d : Declared) (more : List Meeting) → run_of (Far d ∷ more) ≡ run_behind d None more
run_far d more = by_any (list_any is_opening more)
  where
    by_any : (b : Bool) → else_option (if b then Some d else None) (run_of more) ≡ (if b then Some d else run_of more)
    by_any true = refl
    by_any false = refl

-- one that opens
pub opened_behind : (w : Declared) (sure : Option Declared) (m : Meeting) (more : List Meeting) → is_opening m ≡ true → Some w ≡ run_behind w sure (m ∷ more)
opened_behind w sure m more h = ap (λ b. if b || list_any is_opening more then Some w else else_option sure (run_of (m ∷ more))) (sym h)

-- one that doesn't
pub behind_more : (w : Declared) (sure : Option Declared) (m : Meeting) (more : List Meeting) → is_opening m ≡ false → run_behind w sure (m ∷ more) ≡ run_behind w (sure_behind sure m) more
behind_more w sure Nothing more h = ap (λ o. run_behind w o more) (with_none sure)
  where
    with_none : (o : Option Declared) → o ≡ else_option o None
    with_none None = refl
    with_none (Some d) = refl
behind_more w sure (Far d) more h = by_any (list_any is_opening more) sure
  where
    by_any : (b : Bool) (o : Option Declared) → (if b then Some w else else_option o (else_option (if b then Some d else None) (run_of more))) ≡
        (if b then Some w else else_option (else_option o None) (run_of more))
    by_any true o = refl
    by_any false None = refl
    by_any false (Some x) = refl
behind_more w sure (Sure d) more h = by_any (list_any is_opening more) sure
  where
    by_any : (b : Bool) (o : Option Declared) → (if b then Some w else else_option o (Some d)) ≡ (if b then Some w else else_option (else_option o (Some d)) (run_of more))
    by_any true o = refl
    by_any false None = refl
    by_any false (Some x) = refl
behind_more w sure (Opens d) more h = absurd cc

pub behind_end : (w : Declared) (sure : Option Declared) → sure ≡ run_behind w sure []
behind_end w None = refl
behind_end w (Some d) = refl

-- ---- the next class

module _ (ways : AboveByWays) (above_above : AboveIsTransitive) (world : World) where
  -- a class on the way, by its number, and the number of its superclass
  pub next_up : (k : ℕ) (c : Loaded) (next : Option ℕ) → slice_get world k ≡ Some c → HoldsAtNumber world k (λ l. next ≡ superclass_number world l.class) → IsStraightAt world (Some k)
      → upward_of world (numbered world (Some k)) ≡ c ∷ upward_of world (numbered world next)
  next_up k c next at is straight =
      ap (upward_of world) at ∙ ap (λ ls. c ∷ ls) (goes_up ways above_above world c (straight c at) ∙ ap (upward_of world)
      (sym (ap (λ n. n >>= slice_get world) (is c at) ∙ at_superclass world c.class)))

  pub next_straight : (k : ℕ) (c : Loaded) (next : Option ℕ) → slice_get world k ≡ Some c → HoldsAtNumber world k
      (λ l. next ≡ superclass_number world l.class) → IsStraightAt world (Some k) → IsStraightAt world next
  next_straight k c next at is straight = λ s e.
      super_is_straight ways above_above world c s (straight c at) (sym (ap (λ n. n >>= slice_get world) (is c at) ∙ at_superclass world c.class) ∙ e)

pub next_below : (world : World) (k : ℕ) (c : Loaded) (next : Option ℕ) → slice_get world k ≡ Some c → HoldsAtNumber world k
    (λ l. next ≡ superclass_number world l.class) → IsBelowSize (length world) next
next_below world k c next at is = subst (IsBelowSize (length world)) (sym (is c at)) (superclass_below world c.class.super_class)

-- ---- loops

-- nothing was run so far: what is run of the rest is what is run of all
pub record Climbs (world : World) (from : ℕ) (called : Place) (next : Option ℕ) : Type 0 where
  pub below : IsBelowSize (length world) next
  pub straight : IsStraightAt world next
  pub rest : HoldsAtNumber world from (λ l. (e : Declared) → method_at world called ≡ Some e → run_of (met_upward world e (numbered world next)) ≡ run_of (met_upward world e (Some l)))

-- one waits
pub record Waits (world : World) (called waits : Place) (first next : Option ℕ) (sure : Option Place) : Type 0 where
  pub below : IsBelowSize (length world) next
  pub straight : IsStraightAt world next
  pub place : IfSome sure (IsMethodPlace world)
  pub rest : (e w : Declared) → method_at world called ≡ Some e → method_at world waits ≡ Some w
      → run_behind w (option_and_then (method_at world) sure) (met_upward world e (numbered world next)) ≡ run_behind w None (met_upward world e (numbered world first))

-- ---- what the loops keep

module _ (ways : AboveByWays) (above_above : AboveIsTransitive) (world : World) where
  -- what is met from a class on
  met_from : (e : Declared) (k : ℕ) (c : Loaded) → slice_get world k ≡ Some c → IsStraightAt world (Some k) → met_upward world e
      (numbered world (Some k)) ≡ meets world e c ∷ met_upward world e (superclass_in world c.class)
  met_from e k c at straight = ap (met_upward world e) at ∙ ap (λ ls. meets world e c ∷ map (meets world e) ls) (goes_up ways above_above world c (straight c at))

  met_next : (e : Declared) (k : ℕ) (c : Loaded) (next : Option ℕ) → slice_get world k ≡ Some c → HoldsAtNumber world k (λ l. next ≡ superclass_number world l.class) → IsStraightAt world (Some k)
      → met_upward world e (numbered world (Some k)) ≡ meets world e c ∷ met_upward world e (numbered world next)
  met_next e k c next at is straight = ap (map (meets world e)) (next_up ways above_above world k c next at is straight)

  pub fewer : (k : ℕ) (next : Option ℕ) → k < length world → HoldsAtNumber world k (λ l. next ≡ superclass_number world l.class) → IsStraightAt world (Some k)
      → length (upward_of world (numbered world next)) < length (upward_of world (numbered world (Some k)))
  fewer k next less is straight =
      let class = some_class world k less in
      let size = ap length (next_up ways above_above world k class.0 next class.1 is straight) in
      omega (arith, size)

  pub waits_opened : (called waits : Place) (first : Option ℕ) (k : ℕ) (sure : Option Place) (c : Loaded) (e w : Declared) → slice_get world k ≡
      Some c → method_at world called ≡ Some e → method_at world waits ≡ Some w
      → is_opening (meets world e c) ≡ true → Waits world called waits first (Some k) sure → method_at world waits ≡ run_behind w None (met_upward world e (numbered world first))
  waits_opened called waits first k sure c e w at at_e at_w opens h =
      at_w ∙ (opened_behind w (option_and_then (method_at world) sure) (meets world e c) (met_upward world e (superclass_in world c.class)) opens
      ∙ (ap (run_behind w (option_and_then (method_at world) sure)) (sym (met_from e k c at h.straight)) ∙ h.rest e w at_e at_w))

  pub waits_on : (called waits : Place) (first : Option ℕ) (k : ℕ) (sure : Option Place) (next : Option ℕ) (more : Option Place) → k < length world →
      HoldsAtNumber world k (λ l. next ≡ superclass_number world l.class)
      → IfSome more (IsMethodPlace world)
      → HoldsAtNumber world k (λ c. (e : Declared) → method_at world called ≡ Some e → (is_opening (meets world e c) ≡ false) ×
      (option_and_then (method_at world) more ≡ sure_behind (option_and_then (method_at world) sure) (meets world e c)))
      → Waits world called waits first (Some k) sure → Waits world called waits first next more
  waits_on called waits first k sure next more less is stands goes h =
      let class = some_class world k less in
      record {
        below = next_below world k class.0 next class.1 is;
        straight = next_straight ways above_above world k class.0 next class.1 is h.straight;
        place = stands;
        rest = λ e w at_e at_w.
            let met = goes class.0 class.1 e at_e in
            ap (λ o. run_behind w o (met_upward world e (numbered world next))) met.1
            ∙ (sym (behind_more w (option_and_then (method_at world) sure) (meets world e class.0) (met_upward world e (numbered world next)) met.0)
            ∙ (ap (run_behind w (option_and_then (method_at world) sure)) (sym (met_next e k class.0 next class.1 is h.straight)) ∙ h.rest e w at_e at_w));
      }

  pub climbs_on : (from : ℕ) (called : Place) (k : ℕ) (next : Option ℕ) → k < length world → HoldsAtNumber world k (λ l. next ≡ superclass_number world l.class)
      → HoldsAtNumber world k (λ c. (e : Declared) → method_at world called ≡ Some e → meets world e c ≡ Nothing)
      → Climbs world from called (Some k) → Climbs world from called next
  climbs_on from called k next less is none h =
      let class = some_class world k less in
      record {
        below = next_below world k class.0 next class.1 is;
        straight = next_straight ways above_above world k class.0 next class.1 is h.straight;
        rest = λ l at_l e at_e.
            ap (λ m. run_of (m ∷ met_upward world e (numbered world next))) (sym (none class.0 class.1 e at_e))
            ∙ (ap run_of (sym (met_next e k class.0 next class.1 is h.straight)) ∙ h.rest l at_l e at_e);
      }

  -- one that is run whatever is further up
  pub climbs_sure : (from : ℕ) (called : Place) (k : ℕ) (c : Loaded) (e d : Declared) → slice_get world k ≡ Some c → method_at world called ≡ Some e →
      (meets world e c ≡ Sure d) → Climbs world from called (Some k)
      → HoldsAtNumber world from (λ l. Some d ≡ run_of (met_upward world e (Some l)))
  climbs_sure from called k c e d at at_e met h = λ l at_l.
      ap (λ m. run_of (m ∷ met_upward world e (superclass_in world c.class))) (sym met) ∙ (ap run_of (sym (met_from e k c at h.straight)) ∙ h.rest l at_l e at_e)

  pub climbs_open : (from : ℕ) (called : Place) (k : ℕ) (c : Loaded) (e d : Declared) → slice_get world k ≡ Some c → method_at world called ≡ Some e →
      (meets world e c ≡ Opens d) → Climbs world from called (Some k)
      → HoldsAtNumber world from (λ l. Some d ≡ run_of (met_upward world e (Some l)))
  climbs_open from called k c e d at at_e met h = λ l at_l.
      ap (λ m. run_of (m ∷ met_upward world e (superclass_in world c.class))) (sym met) ∙ (ap run_of (sym (met_from e k c at h.straight)) ∙ h.rest l at_l e at_e)

  -- one that waits for another further up
  pub climbs_far : (from : ℕ) (called : Place) (k : ℕ) (c : Loaded) (next : Option ℕ) (e d : Declared) → slice_get world k ≡ Some c →
      HoldsAtNumber world k (λ l. next ≡ superclass_number world l.class) → method_at world called ≡ Some e
      → (meets world e c ≡ Far d) → Climbs world from called (Some k) → HoldsAtNumber world from
      (λ l. run_behind d None (met_upward world e (numbered world next)) ≡ run_of (met_upward world e (Some l)))
  climbs_far from called k c next e d at is at_e met h = λ l at_l.
      sym (run_far d (met_upward world e (numbered world next)))
      ∙ (ap (λ m. run_of (m ∷ met_upward world e (numbered world next))) (sym met) ∙ (ap run_of (sym (met_next e k c next at is h.straight)) ∙ h.rest l at_l e at_e))

pub waits_start : (world : World) (called waits : Place) (first : Option ℕ) → IsBelowSize (length world) first → IsStraightAt world first → Waits world called waits first first None
waits_start world called waits first below straight = record { below = below; straight = straight; place = tt; rest = λ e w at_e at_w. refl }

pub waits_end : (world : World) (called waits : Place) (first : Option ℕ) (sure : Option Place) (e w : Declared) → method_at world called ≡ Some e →
    method_at world waits ≡ Some w → Waits world called waits first None sure
    → option_and_then (method_at world) sure ≡ run_behind w None (met_upward world e (numbered world first))
waits_end world called waits first sure e w at_e at_w h = behind_end w (option_and_then (method_at world) sure) ∙ h.rest e w at_e at_w

pub climbs_start : (world : World) (from : ℕ) (called : Place) → from < length world → HoldsAtNumber world from (IsStraight world) → Climbs world from called (Some from)
climbs_start world from called less straight = record {
  below = less;
  straight = λ l at. straight l at;
  rest = λ l at e at_e. ap (λ o. run_of (met_upward world e o)) at;
}
