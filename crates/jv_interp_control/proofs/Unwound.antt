-- What is thrown comes to a handler, or out of all frames (JVMS 2.10).
use Rattle.std.proofs.Common.{◌≡◌, ℕ, ◌<◌, ◌≤◌, nat_le, true, List, [], ◌∷◌, ◌++◌, Option, Some, None, Ok, drop, length, reverse, take, refl, sym, ap, subst, ◌∙◌, arith}
use Rattle.std.proofs.lemmas.Grind.{common_steps}
use Rattle.std.proofs.lemmas.List.{length-reverse}
use Rattle.jv_format.specs.declared.handlers.Handler.{Handler}
use Rattle.jv_meaning_world.specs.World.{World}
use Rattle.jv_meaning_machine.specs.Faults.{OrFault, tested}
use Rattle.jv_meaning_machine.specs.Faults.Fault.{StackFault}
use Rattle.jv_meaning_machine.specs.Frames.{MethodFrame, Frame}
use Rattle.jv_meaning_machine.specs.State.{Program, Control as ControlOfNames, State, state_of}
use Rattle.jv_meaning_machine.specs.State.End.{Threw}
use Rattle.jv_meaning_machine.specs.Throws.{Thrown as ThrownOfNames, at_handler, caught, passed_method, unwound}
use Rattle.jv_interp_words.specs.FramesInWords.{in_use}
use Rattle.jv_interp_words.proofs.Gave.{bound_gave, tested_gave}
use Rattle.jv_interp_words.proofs.Grown.{frames_grown}
use Rattle.jv_interp_heap.specs.ObjectsInBlocks.{Blocks}
use Rattle.jv_interp_held.specs.declared.held.Held.{Held}
use Rattle.jv_interp_members.specs.declared.methods.Methods.{Methods}
use Rattle.jv_interp_members.specs.Methods.{AreMethods}
use Rattle.jv_interp_control.specs.declared.frames.Frames.{Frames}
use Rattle.jv_interp_control.specs.declared.control.Control.{Control}
use Rattle.jv_interp_control.specs.declared.control.End.TheVariants as ends
use Rattle.jv_interp_control.specs.declared.throwing.Thrown.{Thrown}
use Rattle.jv_interp_control.specs.declared.throwing.Landing.{Landing}
use Rattle.jv_interp_control.specs.FramesStand.{FramesStand}
use Rattle.jv_interp_control.specs.ControlStands.{ControlStands, IsClassOf}
use Rattle.jv_interp_control.specs.Standing.{kept, Reaches}
use Rattle.jv_interp_control.specs.Inside.Passing.{passed, all_passed, PassingAll, PassedAll, Catching}
use Rattle.jv_interp_control.specs.Inside.Walking.{with_throws, Walking, StopsAt, Landed}
use Rattle.jv_interp_control.specs.Inside.Unwinding.{Unwinding}
use Rattle.jv_interp_control.proofs.Counted.{frames_count}
use Rattle.jv_interp_control.proofs.Walks.{passed-throws}

pub stand_grown :
    (program : Program) (addresses more : List ℕ) (fs : List Frame) (frames : Frames) (left : ℕ) → FramesStand program addresses fs frames left
    → FramesStand program (addresses ++ more) fs frames left
stand_grown program addresses more fs frames left h = record {
  stand = frames_grown addresses more program fs (reverse frames.records.items) (in_use frames.words.items frames.top) h.stand;
  top_within = h.top_within;
  left_is = h.left_is;
  room = h.room;
  few = h.few;
  records_fit = h.records_fit;
}

all_passed-throws :
    (fs : List Frame) (other control : ControlOfNames) → all_passed fs (with_throws other control) ≡ with_throws other (all_passed fs control)
all_passed-throws [] other control = refl
all_passed-throws (f ∷ fs) other control = ap (all_passed fs) (passed-throws f other control) ∙ all_passed-throws fs other (passed f control)

pub same_state : (a b : State) → ◌≡◌ {A = OrFault State} (Ok a) (Ok b) → a ≡ b
same_state a b e = cc

pub fits : (a b : ℕ) → nat_le a b ≡ true → a ≤ b
fits a b e = grind (arith, common_steps)

module _ (world : World) (thrown : Thrown) (program : Program) (texts : List (List ℕ)) (fs : List Frame) (control : ControlOfNames) (t : ThrownOfNames) (goes_to : State)
    (addresses : List ℕ) (frames : Frames) (before_control : Control) (held : Held) (blocks : Blocks)
    (h : Unwinding world thrown program texts fs control t goes_to addresses (kept frames before_control held blocks)) where
  pub walking : Walking world frames.records.items program texts fs (in_use frames.words.items frames.top) t goes_to addresses thrown held blocks
  walking = record {
    world_is = h.world_is;
    guests = h.guests;
    frames_stand = h.frames_stand.stand;
    thrown_stands = h.thrown_stands;
    goes = h.goes;
  }

  pub few_records : length frames.records.items < 4294967296
  few_records =
      let s = h.frames_stand in
      let room = s.room in
      let few = s.few in
      let count = frames_count program addresses fs (reverse frames.records.items) (in_use frames.words.items frames.top) s.stand in
      omega (arith, room, few, count, length-reverse frames.records.items)

  module _ (landing : Landing) (held_after : Held) (blocks_after : Blocks) (l : Landed program texts fs t goes_to addresses blocks landing held_after blocks_after) where
    abbrev grown : List ℕ
    grown = addresses ++ l.walked.more

    abbrev passed_control : ControlOfNames
    passed_control = all_passed (take landing.passed fs) control

    pub passing : PassingAll world landing.passed program grown fs control frames before_control
    passing = record {
      world_is = h.world_is;
      stand = stand_grown program addresses l.walked.more fs frames control.words h.frames_stand;
      control_stands = h.control_stands;
      within = l.within;
    }

    control_now : l.walked.now.control ≡ with_throws l.walked.now.control passed_control
    control_now =
        l.walked.control_is
        ∙ ap (λ (c : ControlOfNames). with_throws l.walked.now.control c)
        (ap (all_passed (take landing.passed fs)) h.control_is ∙ all_passed-throws (take landing.passed fs) t.control control)
        ∙ refl

    last_stands : (last : Option (List ℕ)) → last ≡ Some l.walked.now.class → IsClassOf program.world last (Some landing.thrown.class)
    last_stands None e = absurd cc
    last_stands (Some name) e =
        let same : name ≡ l.walked.now.class = cc in
        subst (λ (n : List ℕ). Rattle.jv_interp_heap.specs.ObjectsInBlocks.HasNumber program.world n landing.thrown.class) (sym same) l.walked.stands.class

    -- what is kept of the throw
    abbrev thrown_kept : Control → Control
    thrown_kept passed_kept =
        record passed_kept { throws = landing.thrown.throws; last = Some landing.thrown.class; place = landing.thrown.place }

    thrown_control : (passed_kept : Control) → ControlStands program.world passed_control passed_kept
        → ControlStands program.world l.walked.now.control (thrown_kept passed_kept)
    thrown_control passed_kept c =
        subst (λ (n : ControlOfNames). ControlStands program.world n (thrown_kept passed_kept)) (sym control_now)
        (record {
          states = c.states;
          throws = l.walked.stands.throws;
          last = last_stands l.walked.now.control.last l.walked.stands.last;
          place = l.walked.stands.place;
          main = c.main;
          end = c.end;
        })

    words_now : l.walked.now.control.words ≡ passed_control.words
    words_now = ap (λ (c : ControlOfNames). c.words) control_now

    -- ---- out of all frames

    pub out_of_all :
        (frames_after : Frames) (passed_kept : Control) → landing.handler ≡ None
        → PassedAll landing.passed program grown fs control frames_after passed_kept
        → Reaches program texts goes_to addresses (kept frames before_control held blocks)
        (kept frames_after (record (thrown_kept passed_kept) { end = ends.Threw landing.thrown.class }) held_after blocks_after)
    out_of_all frames_after passed_kept none p =
        let now = l.walked.now in
        let rest : drop landing.passed fs ≡ [] = subst (λ (o : Option ℕ). StopsAt program.world now.class (drop landing.passed fs) o) none l.stops in
        let goes = same_state (state_of now.memory [] (record now.control { end = Threw now.class })) goes_to (sym (ap (unwound program.world now) rest) ∙ l.walked.goes) in
        let c = thrown_control passed_kept p.control_stands in
        subst (λ (s : State). Reaches program texts s addresses (kept frames before_control held blocks)
        (kept frames_after (record (thrown_kept passed_kept) { end = ends.Threw landing.thrown.class }) held_after blocks_after)) goes
        (record {
          more = l.walked.more;
          stands = record {
            frames =
                subst (λ (n : ℕ). FramesStand program grown [] frames_after n) (sym words_now)
                (subst (λ (xs : List Frame). FramesStand program grown xs frames_after passed_control.words) rest p.stand);
            control = record { states = c.states; throws = c.throws; last = c.last; place = c.place; main = c.main; end = l.walked.stands.class };
            memory = l.walked.stands.memory;
          };
          grows = l.walked.grows;
        })

    -- ---- to a handler

    pub record Caught (pc : ℕ) (frames_after : Frames) (methods : Methods) : Type 0 where
      pub frame : MethodFrame
      pub below : List Frame
      pub catching : Catching methods frames_after landing.thrown.address program grown frame below passed_control.words l.walked.now.object
      pub goes : state_of l.walked.now.memory (at_handler frame pc l.walked.now.object ∷ below) l.walked.now.control ≡ goes_to

    pub caught_by :
        (pc : ℕ) (frames_after : Frames) (passed_kept : Control) (methods : Methods) → AreMethods world methods → landing.handler ≡ Some pc
        → PassedAll landing.passed program grown fs control frames_after passed_kept → Caught pc frames_after methods
    caught_by pc frames_after passed_kept methods are some p =
        let now = l.walked.now in
        let s = subst (λ (o : Option ℕ). StopsAt program.world now.class (drop landing.passed fs) o) some l.stops in
        let frame = s.0 in
        let below = s.1 in
        let x = s.2 in
        let goes : caught now frame below x ≡ Ok goes_to =
        sym (ap (λ (o : Option Handler). elim o [ None ↦ unwound program.world (passed_method frame now) below | Some y ↦ caught now frame below y ]) s.4)
        ∙ sym (ap (unwound program.world now) s.3) ∙ l.walked.goes in
        let parts =
        bound_gave (tested StackFault (nat_le 1 frame.method.code.max_stack) frame)
        (λ (f : MethodFrame). Ok (state_of now.memory (at_handler f x.handler_pc now.object ∷ below) now.control)) goes_to goes in
        let test = tested_gave StackFault (nat_le 1 frame.method.code.max_stack) frame parts.0 parts.1 in
        let is = same_state (state_of now.memory (at_handler parts.0 x.handler_pc now.object ∷ below) now.control) goes_to parts.2 in
        record {
          frame = frame;
          below = below;
          catching = record {
            are = subst (λ (w : World). AreMethods w methods) (sym h.world_is) are;
            stand = subst (λ (xs : List Frame). FramesStand program grown xs frames_after passed_control.words) s.3 p.stand;
            at = l.walked.stands.object;
            has_stack = fits 1 frame.method.code.max_stack test.0;
          };
          goes =
              ap (λ (f : MethodFrame). state_of now.memory (at_handler f pc now.object ∷ below) now.control) test.1
              ∙ ap (λ (n : ℕ). state_of now.memory (at_handler parts.0 n now.object ∷ below) now.control) s.5 ∙ is;
        }

    pub to_handler :
        (pc : ℕ) (frames_passed frames_after : Frames) (passed_kept : Control) (methods : Methods)
        → PassedAll landing.passed program grown fs control frames_passed passed_kept → (x : Caught pc frames_passed methods)
        → FramesStand program grown (at_handler x.frame pc l.walked.now.object ∷ x.below) frames_after passed_control.words
        → Reaches program texts goes_to addresses (kept frames before_control held blocks)
        (kept frames_after (thrown_kept passed_kept) held_after blocks_after)
    to_handler pc frames_passed frames_after passed_kept methods p x stand =
        subst (λ (s : State). Reaches program texts s addresses (kept frames before_control held blocks)
        (kept frames_after (thrown_kept passed_kept) held_after blocks_after)) x.goes
        (record {
          more = l.walked.more;
          stands = record {
            frames = subst (λ (n : ℕ). FramesStand program grown (at_handler x.frame pc l.walked.now.object ∷ x.below) frames_after n) (sym words_now) stand;
            control = thrown_control passed_kept p.control_stands;
            memory = l.walked.stands.memory;
          };
          grows = l.walked.grows;
        })
