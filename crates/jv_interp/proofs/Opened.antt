-- The class of the main method is begun, or the guest has ended.
use Rattle.std.proofs.Common.{◌≡◌, ◌<◌, ℕ, zero, suc, Bool, List, [], ◌∷◌, length, Option, Some, None, Ok, slice_get, refl, sym, ap, subst, ◌∙◌, append-nil, arith}
use Rattle.std.specs.Option.{option_and_then, option_map}
use Rattle.jv_format.specs.Format.{◌>>=◌}
use Rattle.jv_class.specs.Class.{Method}
use Rattle.jv_classes.proofs.Followed.{some_class}
use Rattle.jv_meaning_world.specs.World.{Loaded, World}
use Rattle.jv_meaning_world.specs.Overriding.{Declared}
use Rattle.jv_meaning_world.specs.Verdicts.{declared_by}
use Rattle.jv_meaning_machine.specs.Faults.{OrFault}
use Rattle.jv_meaning_machine.specs.Frames.{Frame}
use Rattle.jv_meaning_machine.specs.State.{Program, Control as ControlOfNames, State, state_of}
use Rattle.jv_meaning_machine.specs.State.End.{Running, NoMain}
use Rattle.jv_meaning_machine.specs.Initialization.{begin, main_method}
use Rattle.jv_meaning_machine.specs.Start.{start_control, start_with}
use Rattle.jv_lookups.specs.declared.place.Place.{Place}
use Rattle.jv_lookups.specs.Places.{method_at, method_of, IsMethodPlace}
use Rattle.jv_interp_heap.specs.ObjectsInBlocks.{Blocks}
use Rattle.jv_interp_held.specs.declared.held.Held.{Held}
use Rattle.jv_interp_held.proofs.Growths.{grows_not}
use Rattle.jv_interp_control.specs.declared.frames.Frames.{Frames}
use Rattle.jv_interp_control.specs.declared.control.Control.{Control}
use Rattle.jv_interp_control.specs.declared.control.End.TheVariants as ends
use Rattle.jv_interp_control.specs.FramesStand.{FramesStand}
use Rattle.jv_interp_control.specs.ControlStands.{ControlStands}
use Rattle.jv_interp_control.specs.Standing.{kept, StateStands, Moves, Reaches}
use Rattle.jv_interp_control.specs.Moves.{Beginning}
use Rattle.jv_interp.specs.Opening.{Opening}

same_state : (s t : State) → ◌≡◌ {A = OrFault State} (Ok s) (Ok t) → s ≡ t
same_state s t e = cc

-- ---- where a method stands

record StandsAt (world : World) (place : Place) : Type 0 where
  d : Declared
  found : method_at world place ≡ Some d
  class : slice_get world place.class ≡ Some d.by

stands_at : (world : World) (place : Place) → IsMethodPlace world place → StandsAt world place
stands_at world place is =
    let class = some_class world place.class is.class in
    let item = some_class_item class.0.class.methods place.member (is.member class.0 class.1) in
    record {
      d = declared_by class.0 item.0;
      found = ap (λ (o : Option Loaded). o >>= method_of place.member) class.1 ∙ ap (option_map (declared_by class.0)) item.1;
      class = class.1;
    }
  where
    some_class_item : (xs : List Method) (k : ℕ) → k < length xs → (m : Method) × (slice_get xs k ≡ Some m)
    some_class_item [] k less = absurd (omega (arith, less))
    some_class_item (x ∷ xs) zero less = (x, refl)
    some_class_item (x ∷ xs) (suc k) less = some_class_item xs k (omega (arith, less))

module _ (world : World) (place : Option Place) (verified : List Bool) (program : Program) (texts : List (List ℕ)) (s t : State) (addresses : List ℕ)
    (frames : Frames) (control : Control) (held : Held) (blocks : Blocks)
    (h : Moves world (Opening place verified) program texts s t addresses (kept frames control held blocks)) where
  -- ---- there is no main method

  pub ended : place ≡ None → Reaches program texts t addresses (kept frames control held blocks) (kept frames (record control { end = ends.NoMain }) held blocks)
  ended none =
      let o = h.does in
      let found : None ≡ main_method program.world o.main = ap (option_and_then (method_at program.world)) (sym none) ∙ o.found in
      let now : ControlOfNames = start_control o.main o.budget NoMain in
      let is : state_of s.memory [] now ≡ t =
      same_state (state_of s.memory [] now) t (ap (start_with program o.main o.budget s.memory) found ∙ o.does) in
      let c : ControlStands program.world (start_control o.main o.budget Running) control =
      subst (λ (k : ControlOfNames). ControlStands program.world k control) o.control h.stands.control in
      let f : FramesStand program addresses [] frames o.budget.words =
      subst (λ (k : ControlOfNames). FramesStand program addresses [] frames k.words) o.control
      (subst (λ (fs : List Frame). FramesStand program addresses fs frames s.control.words) o.none h.stands.frames) in
      subst (λ (t : State). Reaches program texts t addresses (kept frames control held blocks) (kept frames (record control { end = ends.NoMain }) held blocks)) is
      (record {
        more = [];
        stands =
            subst
            (λ (l : List ℕ). StateStands program texts (state_of s.memory [] now) l (kept frames (record control { end = ends.NoMain }) held blocks))
            (sym (append-nil addresses))
            (record {
              frames = f;
              control = record { states = c.states; throws = c.throws; last = c.last; place = c.place; main = c.main; end = tt };
              memory = h.stands.memory;
            });
        grows = grows_not addresses blocks;
      })

  -- ---- there is one

  pub begun : (p : Place) → place ≡ Some p → IsMethodPlace program.world p
      → Moves world (Beginning p.class verified) program texts s t addresses (kept frames control held blocks)
  begun p is stands =
      let o = h.does in
      let there = stands_at program.world p stands in
      let found : Some there.d ≡ main_method program.world o.main =
      sym (ap (option_and_then (method_at program.world)) is ∙ there.found) ∙ o.found in
      let does : begin program s.memory [] (start_control o.main o.budget Running) there.d.by ≡ Ok t =
      ap (start_with program o.main o.budget s.memory) found ∙ o.does in
      record {
        world_is = h.world_is;
        guests = h.guests;
        stands = h.stands;
        does = record {
          l = there.d.by;
          at = there.class;
          are = o.are;
          does =
              subst (λ (k : ControlOfNames). begin program s.memory s.frames k there.d.by ≡ Ok t) (sym o.control)
              (subst (λ (fs : List Frame). begin program s.memory fs (start_control o.main o.budget Running) there.d.by ≡ Ok t) (sym o.none) does);
        };
      }
