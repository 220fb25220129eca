-- A throw that goes up the frames, one by one (JVMS 2.10).
use Rattle.std.proofs.Common.{◌≡◌, ℕ, suc, ◌+◌, ◌-◌, ◌<◌, List, [], ◌∷◌, ◌++◌, Option, Some, None, Ok, drop, get_or, length, reverse, slice_get, take, refl, sym, ap, subst, ◌∙◌, arith, append_assoc, append-nil}
use Rattle.std.specs.Option.{option_map, option_or}
use Rattle.std.proofs.lemmas.List.{get_or-reverse, length-reverse}
use Rattle.std.proofs.lemmas.Option.{slice_get-get_or, slice_get_within}
use Rattle.jv_format.specs.declared.handlers.Handler.{Handler}
use Rattle.jv_classes.proofs.Numbers.{take_more}
use Rattle.jv_meaning_world.specs.World.{World}
use Rattle.jv_meaning_machine.specs.Frames.{MethodFrame, Frame}
use Rattle.jv_meaning_machine.specs.Frames.Frame.{Runs, Initializes}
use Rattle.jv_meaning_machine.specs.State.{Program, Control, State}
use Rattle.jv_meaning_machine.specs.Throws.{Thrown, handler_for, caught, passed_method, passed_initialization, replacement_place, replacement, unwound}
use Rattle.jv_interp_words.specs.declared.records.MethodRecord.{MethodRecord}
use Rattle.jv_interp_words.specs.declared.records.InitializationRecord.{InitializationRecord}
use Rattle.jv_interp_words.specs.declared.records.FrameRecord.{FrameRecord}
use Rattle.jv_interp_words.specs.declared.records.FrameRecord.TheVariants as records
use Rattle.jv_interp_words.proofs.Gave.{bound_gave}
use Rattle.jv_interp_heap.specs.ObjectsInBlocks.{Blocks}
use Rattle.jv_interp_held.specs.declared.held.Held.{Held}
use Rattle.jv_interp_held.proofs.Growths.{grows_not, then_grows}
use Rattle.jv_interp_control.specs.declared.throwing.Thrown.{Thrown as ThrownInWords}
use Rattle.jv_interp_control.specs.ControlStands.{PlaceStands}
use Rattle.jv_interp_control.specs.Inside.Places.{record_place}
use Rattle.jv_interp_control.specs.Inside.Handling.{pc_of, Handling}
use Rattle.jv_interp_control.specs.Inside.Passing.{passed, all_passed}
use Rattle.jv_interp_control.specs.Inside.Walking.{with_throws, ThrownStands, Replacing, Replaced, Walking, Walked, Landed}
use Rattle.jv_interp_control.proofs.PlacesStand.{places_stand_or}
use Rattle.jv_interp_control.proofs.Stacked.{MethodAt, InitializationAt, method_at, initialization_at, same_count}

-- the record that is looked at
pub turned_at :
    (all : List FrameRecord) (k : ℕ) (r d : FrameRecord) → k < length all → get_or all (length all - 1 - k) d ≡ r → slice_get (reverse all) k ≡ Some r
turned_at all k r d low e =
    let within : k < length (reverse all) = omega (arith, low, length-reverse all) in
    slice_get-get_or (reverse all) k d within ∙ ap Some (get_or-reverse all k d low ∙ e)

pub all_passed-more : (frames : List Frame) (frame : Frame) (control : Control) → all_passed (frames ++ frame ∷ []) control ≡ passed frame (all_passed frames control)
all_passed-more [] frame control = refl
all_passed-more (f ∷ frames) frame control = all_passed-more frames frame (passed f control)

-- what passes a frame keeps its throws
pub passed-throws :
    (frame : Frame) (other control : Control) → passed frame (with_throws other control) ≡ with_throws other (passed frame control)
passed-throws (Runs frame) other control = refl
passed-throws (Initializes frame) other control = refl

one_more : (k : ℕ) → k + 1 ≡ suc k
one_more k = omega arith

module _ (world : World) (all : List FrameRecord) (program : Program) (texts : List (List ℕ)) (frames : List Frame) (used : List ℕ) (t : Thrown) (goes_to : State)
    (addresses : List ℕ) (thrown : ThrownInWords) (held : Held) (blocks : Blocks)
    (h : Walking world all program texts frames used t goes_to addresses thrown held blocks) where
  pub begun : Walked 0 program texts frames t goes_to addresses thrown blocks held blocks
  begun = record {
    more = [];
    now = t;
    stands = subst (λ (l : List ℕ). ThrownStands program texts t l thrown held blocks) (sym (append-nil addresses)) h.thrown_stands;
    control_is = refl;
    goes = h.goes;
    grows = grows_not addresses blocks;
  }

  pub count : length frames ≡ length all
  count = same_count program addresses frames (reverse all) used h.frames_stand ∙ length-reverse all

  module _ (k : ℕ) (now : ThrownInWords) (held_now : Held) (blocks_now : Blocks)
      (w : Walked k program texts frames t goes_to addresses now blocks held_now blocks_now) where
    -- ---- at a method

    pub method_here : (own : MethodRecord) → slice_get (reverse all) k ≡ Some (records.Runs own) → MethodAt program addresses frames (reverse all) used k own
    method_here own e = method_at program addresses frames (reverse all) used k own h.frames_stand e

    pub handling :
        (own : MethodRecord) (e : slice_get (reverse all) k ≡ Some (records.Runs own))
        → Handling world own now.class program addresses (method_here own e).frame (method_here own e).used (method_here own e).below w.now.class
    handling own e = record { world_is = h.world_is; stands = (method_here own e).stands; has_number = w.stands.class }

    control_more :
        (frame : Frame) → slice_get frames k ≡ Some frame
        → passed frame w.now.control ≡ with_throws w.now.control (all_passed (take (k + 1) frames) t.control)
    control_more frame there =
        ap (passed frame) w.control_is ∙ passed-throws frame w.now.control (all_passed (take k frames) t.control)
        ∙ ap (λ (c : Control). with_throws w.now.control c)
        (sym (ap (λ (fs : List Frame). all_passed fs t.control) (take_more frames k frame there) ∙ all_passed-more (take k frames) frame t.control))

    none_caught : (frame : MethodFrame) (o : Option Handler) → handler_for program.world w.now.class frame ≡ o → None ≡ option_map pc_of o → o ≡ None
    none_caught frame None e f = refl
    none_caught frame (Some x) e f = absurd cc

    pub passes_method :
        (own : MethodRecord) (e : slice_get (reverse all) k ≡ Some (records.Runs own))
        → None ≡ option_map pc_of (handler_for program.world w.now.class (method_here own e).frame)
        → Walked (k + 1) program texts frames t goes_to addresses now blocks held_now blocks_now
    passes_method own e none =
        let m = method_here own e in
        let none_is = none_caught m.frame (handler_for program.world w.now.class m.frame) refl none in
        let goes : unwound program.world (passed_method m.frame w.now) (drop (suc k) frames) ≡ Ok goes_to =
        sym (ap (λ (o : Option Handler). elim o [ None ↦ unwound program.world (passed_method m.frame w.now) (drop (suc k) frames) | Some x ↦ caught w.now m.frame (drop (suc k) frames) x ]) none_is)
        ∙ sym (ap (unwound program.world w.now) m.is) ∙ w.goes in
        record {
          more = w.more;
          now = passed_method m.frame w.now;
          stands = record {
            object = w.stands.object;
            class = w.stands.class;
            throws = w.stands.throws;
            last = w.stands.last;
            place = w.stands.place;
            memory = w.stands.memory;
          };
          control_is = control_more (Runs m.frame) m.there;
          goes = subst (λ (n : ℕ). unwound program.world (passed_method m.frame w.now) (drop n frames) ≡ Ok goes_to) (sym (one_more k)) goes;
          grows = w.grows;
        }

    -- ---- at an initialization

    pub record Behind (own : InitializationRecord) (e : slice_get (reverse all) k ≡ Some (records.Initializes own)) : Type 0 where
      pub at : InitializationAt program frames k own
      pub behind : Thrown
      pub replacing : Replacing world all (k + 1) now held_now blocks_now program texts (passed_initialization at.frame.class w.now) (drop (suc k) frames) behind (addresses ++ w.more)
      pub goes : unwound program.world behind (drop (suc k) frames) ≡ Ok goes_to

    pub behind_it : (own : InitializationRecord) (e : slice_get (reverse all) k ≡ Some (records.Initializes own)) → Behind own e
    behind_it own e =
        let i = initialization_at program addresses frames (reverse all) used k own h.frames_stand e in
        let parts =
        bound_gave (replacement program.world (passed_initialization i.frame.class w.now) (drop (suc k) frames)) (λ (b : Thrown). unwound program.world b (drop (suc k) frames)) goes_to
        (sym (ap (unwound program.world w.now) i.is) ∙ w.goes) in
        record {
          at = i;
          behind = parts.0;
          replacing = record {
            world_is = h.world_is;
            guests = h.guests;
            stands = record {
              object = w.stands.object;
              class = w.stands.class;
              throws = w.stands.throws;
              last = w.stands.last;
              place = w.stands.place;
              memory = w.stands.memory;
            };
            place = subst
                (λ (n : ℕ). PlaceStands program.world (replacement_place (drop (suc k) frames) w.now.control) (option_or (record_place (drop n (reverse all))) now.place))
                (sym (one_more k)) (places_stand_or program addresses frames (reverse all) used (suc k) w.now.control.place now.place h.frames_stand w.stands.place);
            goes = parts.1;
          };
          goes = parts.2;
        }

    pub passes_initialization :
        (own : InitializationRecord) (e : slice_get (reverse all) k ≡ Some (records.Initializes own)) (next : ThrownInWords) (held_next : Held) (blocks_next : Blocks)
        → Replaced program texts (passed_initialization (behind_it own e).at.frame.class w.now) (behind_it own e).behind (addresses ++ w.more) blocks_now next held_next blocks_next
        → Walked (k + 1) program texts frames t goes_to addresses next blocks held_next blocks_next
    passes_initialization own e next held_next blocks_next r =
        let b = behind_it own e in
        let joined = append_assoc addresses w.more r.more in
        record {
          more = w.more ++ r.more;
          now = b.behind;
          stands = subst (λ (l : List ℕ). ThrownStands program texts b.behind l next held_next blocks_next) joined r.stands;
          control_is =
              r.control_is
              ∙ ap (λ (c : Control). with_throws b.behind.control c) (control_more (Initializes b.at.frame) b.at.there);
          goes = subst (λ (n : ℕ). unwound program.world b.behind (drop n frames) ≡ Ok goes_to) (sym (one_more k)) b.goes;
          grows = then_grows addresses w.more r.more blocks blocks_now blocks_next w.grows r.grows;
        }

    -- ---- where it stops

    stops_by : (frame : MethodFrame) (o : Option Handler) (pc : ℕ) → Some pc ≡ option_map pc_of o → (x : Handler) × (o ≡ Some x) × (pc ≡ x.handler_pc)
    stops_by frame None pc e = absurd cc
    stops_by frame (Some x) pc e = (x, refl, cc)

    pub lands_here :
        (own : MethodRecord) (e : slice_get (reverse all) k ≡ Some (records.Runs own)) (pc : ℕ)
        → Some pc ≡ option_map pc_of (handler_for program.world w.now.class (method_here own e).frame)
        → Landed program texts frames t goes_to addresses blocks (record { passed = k; handler = Some pc; thrown = now }) held_now blocks_now
    lands_here own e pc found =
        let m = method_here own e in
        let x = stops_by m.frame (handler_for program.world w.now.class m.frame) pc found in
        let low = slice_get_within frames k (Runs m.frame) m.there in
        record {
          walked = w;
          stops = (m.frame, drop (suc k) frames, x.0, m.is, x.1, x.2);
          within = omega (arith, low);
        }

    pub lands_nowhere :
        k ≡ length all → Landed program texts frames t goes_to addresses blocks (record { passed = k; handler = None; thrown = now }) held_now blocks_now
    lands_nowhere e =
        let size = count in
        record {
          walked = w;
          stops = ap (λ (n : ℕ). drop n frames) (e ∙ sym size) ∙ none_left frames;
          within = omega (arith, e, size);
        }
      where
        none_left : (xs : List Frame) → drop (length xs) xs ≡ []
        none_left [] = refl
        none_left (x ∷ xs) = none_left xs
