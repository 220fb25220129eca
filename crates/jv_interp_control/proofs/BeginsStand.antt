-- The initialization of a class is begun, by its state (JVMS 5.5).
use Rattle.std.proofs.Common.{◌≡◌, ℕ, ◌+◌, ◌-◌, ◌<◌, ◌≤◌, Bool, true, false, List, [], ◌∷◌, ◌++◌, Some, Ok, codes, length, reverse, slice_get, refl, sym, ap, subst, ◌∙◌, arith, append-nil}
use Rattle.std.specs.Prelude.{vec_capacity}
use Rattle.std.proofs.lemmas.List.Sums.{sum_by-cons}
use Rattle.jv_meaning_world.specs.World.{Loaded, World}
use Rattle.jv_meaning_typing.specs.LinkErrors.{error_class}
use Rattle.jv_meaning_typing.specs.LinkErrors.LinkError.{NoClassDefFoundError, VerifyError}
use Rattle.jv_meaning_machine.specs.Faults.{OrFault}
use Rattle.jv_meaning_machine.specs.Frames.Frame.{Initializes}
use Rattle.jv_meaning_machine.specs.State.{Program, Control as ControlOfNames, State, state_of, with_state, class_state, ClassState as StateOfNames}
use Rattle.jv_meaning_machine.specs.State.ClassState.{Untouched, Begun, Initialized, Erroneous}
use Rattle.jv_meaning_machine.specs.Costs.{initialization_words}
use Rattle.jv_meaning_machine.specs.Throws.{raise}
use Rattle.jv_meaning_machine.specs.Entering.{within_words}
use Rattle.jv_meaning_machine.specs.Initialization.{is_verified, initialization_of, main_method}
use Rattle.jv_meaning_machine.specs.Laws.Shapes.{frame_words, used_words}
use Rattle.jv_interp_words.specs.declared.records.InitializationRecord.{InitializationRecord}
use Rattle.jv_interp_words.specs.declared.records.FrameRecord.{FrameRecord}
use Rattle.jv_interp_words.specs.declared.records.FrameRecord.TheVariants as records
use Rattle.jv_interp_words.specs.FramesInWords.{in_use, methods_of, InitializationStands, AreFrames}
use Rattle.jv_interp_heap.specs.ObjectsInBlocks.{Blocks, HasNumber}
use Rattle.jv_interp_held.specs.declared.held.Held.{Held}
use Rattle.jv_interp_held.specs.declared.class_state.ClassState.{ClassState}
use Rattle.jv_interp_held.specs.declared.class_state.ClassState.TheVariants as states
use Rattle.jv_interp_held.specs.ClassStates.{kept_state, AreClassStates}
use Rattle.jv_interp_held.proofs.Growths.{grows_not}
use Rattle.jv_interp_heap.specs.SystemNumbers.{SystemHasNumbers}
use Rattle.jv_interp_control.specs.declared.frames.Frames.{Frames}
use Rattle.jv_interp_control.specs.declared.control.Control.{Control}
use Rattle.jv_interp_control.specs.ControlStands.{IsClassOf, PlaceStands, EndStands}
use Rattle.std.specs.Option.{option_and_then}
use Rattle.jv_interp_control.specs.Standing.{kept, StateStands, Moves, Reaches}
use Rattle.jv_interp_control.specs.Moves.{Raising, Beginning}
use Rattle.jv_interp_control.proofs.Counted.{reversed_push}
use Rattle.jv_interp_control.proofs.EntersStand.{words_lack, words_given}
use Rattle.jv_interp_control.proofs.Replacements.{numbers_in}
use Rattle.jv_interp_control.proofs.Unwound.{same_state}

same_some : {A : Type 0} (x y : A) → Some x ≡ Some y → x ≡ y
same_some x y e = cc

-- ---- what it does, by the class's state and the verdict

module _ (program : Program) (s : State) (l : Loaded) where
  abbrev begins_in : ControlOfNames → OrFault State
  begins_in given = Ok (state_of s.memory (Initializes (initialization_of program.world l) ∷ s.frames) (with_state Begun l given))

  abbrev by_verdict : Bool → OrFault State
  by_verdict verdict = elim verdict [
    | false ↦ raise program.world s.memory s.frames s.control (error_class VerifyError)
    | true ↦ within_words program.world s.memory s.frames s.control initialization_words begins_in
  ]

  abbrev by_state : StateOfNames → OrFault State
  by_state state = elim state [
    | Begun ↦ Ok (state_of s.memory s.frames s.control)
    | Initialized ↦ Ok (state_of s.memory s.frames s.control)
    | Erroneous ↦ raise program.world s.memory s.frames s.control (error_class NoClassDefFoundError)
    | Untouched ↦ by_verdict (is_verified program l)
  ]

module _ (world : World) (class : ℕ) (verified : List Bool) (program : Program) (texts : List (List ℕ)) (s t : State) (addresses : List ℕ)
    (frames : Frames) (control : Control) (held : Held) (blocks : Blocks)
    (h : Moves world (Beginning class verified) program texts s t addresses (kept frames control held blocks)) where
  abbrev state_now : StateOfNames
  state_now = class_state s.control.states h.does.l

  pub does : by_state program s h.does.l state_now ≡ Ok t
  does = h.does.does

  pub kept_now : slice_get control.states.items class ≡ Some (kept_state state_now)
  kept_now = h.stands.control.states class h.does.l h.does.at

  -- the state that is kept tells the class's
  pub is_state : (k : ClassState) → slice_get control.states.items class ≡ Some k → kept_state state_now ≡ k
  is_state k e = same_some (kept_state state_now) k (sym kept_now ∙ e)

  pub nothing_done : (n : StateOfNames) → state_now ≡ n → by_state program s h.does.l n ≡ Ok (state_of s.memory s.frames s.control) →
      Reaches program texts t addresses (kept frames control held blocks) (kept frames control held blocks)
  nothing_done n e same =
      let is = same_state (state_of s.memory s.frames s.control) t (sym same ∙ ap (by_state program s h.does.l) (sym e) ∙ does) in
      subst (λ (t : State). Reaches program texts t addresses (kept frames control held blocks) (kept frames control held blocks)) is
      (record {
        more = [];
        stands = subst (λ (l : List ℕ). StateStands program texts s l (kept frames control held blocks)) (sym (append-nil addresses)) h.stands;
        grows = grows_not addresses blocks;
      })

  pub no_change : (k : ClassState) → kept_state state_now ≡ k → (k ≡ states.Begun) → Reaches program texts t addresses (kept frames control held blocks) (kept frames control held blocks)
  no_change k e is = by_now state_now refl (e ∙ is)
    where
      by_now : (n : StateOfNames) → state_now ≡ n → kept_state n ≡ states.Begun → Reaches program texts t addresses (kept frames control held blocks) (kept frames control held blocks)
      by_now Untouched f g = absurd cc
      by_now Begun f g = nothing_done Begun f refl
      by_now Initialized f g = absurd cc
      by_now Erroneous f g = absurd cc

  pub no_change_either : (k : ClassState) → kept_state state_now ≡ k → (k ≡ states.Initialized) → Reaches program texts t addresses (kept frames control held blocks) (kept frames control held blocks)
  no_change_either k e is = by_now state_now refl (e ∙ is)
    where
      by_now : (n : StateOfNames) → state_now ≡ n → kept_state n ≡ states.Initialized → Reaches program texts t addresses (kept frames control held blocks) (kept frames control held blocks)
      by_now Untouched f g = absurd cc
      by_now Begun f g = absurd cc
      by_now Initialized f g = nothing_done Initialized f refl
      by_now Erroneous f g = absurd cc

  raising : (name : List ℕ) (number : ℕ) → HasNumber program.world name number
      → raise program.world s.memory s.frames s.control name ≡ Ok t → Moves world (Raising number) program texts s t addresses (kept frames control held blocks)
  raising name number has e =
      record { world_is = h.world_is; guests = h.guests; stands = h.stands; does = record { name = name; has_number = has; does = e } }

  pub raises_erroneous : SystemHasNumbers → kept_state state_now ≡ states.Erroneous → Moves world (Raising 25) program texts s t addresses (kept frames control held blocks)
  raises_erroneous system e = by_now state_now refl e
    where
      by_now : (n : StateOfNames) → state_now ≡ n → kept_state n ≡ states.Erroneous → Moves world (Raising 25) program texts s t addresses (kept frames control held blocks)
      by_now Untouched f g = absurd cc
      by_now Begun f g = absurd cc
      by_now Initialized f g = absurd cc
      by_now Erroneous f g = raising (error_class NoClassDefFoundError) 25 (numbers_in program.world h.guests system).no_class (ap (by_state program s h.does.l) (sym f) ∙ does)

  pub untouched : kept_state state_now ≡ states.Untouched → (by_verdict program s h.does.l (is_verified program h.does.l) ≡ Ok t) × (state_now ≡ Untouched)
  untouched e = by_now state_now refl e
    where
      by_now : (n : StateOfNames) → state_now ≡ n → kept_state n ≡ states.Untouched → (by_verdict program s h.does.l (is_verified program h.does.l) ≡ Ok t) × (state_now ≡ Untouched)
      by_now Untouched f g = (ap (by_state program s h.does.l) (sym f) ∙ does, f)
      by_now Begun f g = absurd cc
      by_now Initialized f g = absurd cc
      by_now Erroneous f g = absurd cc

  pub verdict : (b : Bool) → slice_get verified class ≡ Some b → is_verified program h.does.l ≡ b
  verdict b e = same_some (is_verified program h.does.l) b (sym (h.does.are class h.does.l h.does.at) ∙ e)

  pub raises_unverified :
      SystemHasNumbers → kept_state state_now ≡ states.Untouched → is_verified program h.does.l ≡ false
      → Moves world (Raising 26) program texts s t addresses (kept frames control held blocks)
  raises_unverified system e bad =
      raising (error_class VerifyError) 26 (numbers_in program.world h.guests system).verify (ap (by_verdict program s h.does.l) (sym bad) ∙ (untouched e).0)

  given_words_goes : kept_state state_now ≡ states.Untouched → is_verified program h.does.l ≡ true
      → within_words program.world s.memory s.frames s.control initialization_words (begins_in program s h.does.l) ≡ Ok t
  given_words_goes e good = ap (by_verdict program s h.does.l) (sym good) ∙ (untouched e).0

  pub raises_overflow :
      SystemHasNumbers → kept_state state_now ≡ states.Untouched → is_verified program h.does.l ≡ true → s.control.words < 4
      → Moves world (Raising 21) program texts s t addresses (kept frames control held blocks)
  raises_overflow system e good lack =
      raising (codes "java/lang/StackOverflowError") 21 (numbers_in program.world h.guests system).stack_overflow
      (sym (words_lack program.world s 4 (begins_in program s h.does.l) lack) ∙ given_words_goes e good)

  pub begins :
      (after : Frames) (all : List ClassState) (control_after : Control) → kept_state state_now ≡ states.Untouched → is_verified program h.does.l ≡ true → 4 ≤ s.control.words
      → after.words ≡ frames.words → after.records.items ≡ frames.records.items ++ records.Initializes (record { class = class; done = 0 }) ∷ []
      → vec_capacity after.records ≡ vec_capacity frames.records → after.top ≡ frames.top → after.left + 4 ≡ frames.left
      → AreClassStates program.world ((h.does.l.class.name, Begun) ∷ s.control.states) control_after.states.items
      → control_after ≡ record control { states = control_after.states }
      → Reaches program texts t addresses (kept frames control held blocks) (kept after control_after held blocks)
  begins after all control_after e good fit words_are records_are capacity top_is left_is set same =
      let given : ControlOfNames = record s.control { words = s.control.words - 4 } in
      let now = with_state Begun h.does.l given in
      let fs = Initializes (initialization_of program.world h.does.l) ∷ s.frames in
      let is = same_state (state_of s.memory fs now) t (sym (words_given program.world s 4 (begins_in program s h.does.l) fit) ∙ given_words_goes e good) in
      let f = h.stands.frames in
      let c = h.stands.control in
      let own : InitializationRecord = record { class = class; done = 0 } in
      let turned : reverse after.records.items ≡ records.Initializes own ∷ reverse frames.records.items =
      ap (λ (l : List FrameRecord). reverse l) records_are ∙ reversed_push frames.records.items (records.Initializes own) in
      let size = ap (λ v. length v.items) words_are in
      let used : in_use after.words.items after.top ≡ in_use frames.words.items frames.top =
      ap (λ v. in_use v.items after.top) words_are ∙ ap (in_use frames.words.items) top_is in
      let count : used_words fs ≡ 4 + used_words s.frames = sum_by-cons frame_words (Initializes (initialization_of program.world h.does.l)) s.frames in
      let own_stands : InitializationStands program (initialization_of program.world h.does.l) own = record { has_number = h.does.at; tasks_are = refl } in
      subst (λ (t : State). Reaches program texts t addresses (kept frames control held blocks) (kept after control_after held blocks)) is
      (record {
        more = [];
        stands =
            subst (λ (l : List ℕ). StateStands program texts (state_of s.memory fs now) l (kept after control_after held blocks)) (sym (append-nil addresses))
            (record {
              frames = record {
                stand =
                    subst (λ (l : List FrameRecord). AreFrames program addresses fs l (in_use after.words.items after.top)) (sym turned)
                    (own_stands, subst (λ (ws : List ℕ). AreFrames program addresses s.frames (reverse frames.records.items) ws) (sym used) f.stand);
                top_within = let a = f.top_within in omega (arith, a, top_is, size);
                left_is = let a = f.left_is in omega (arith, a, left_is);
                room = let a = f.room in omega (arith, a, size, count, fit);
                few = let a = f.few in omega (arith, a, size);
                records_fit = let a = f.records_fit in omega (arith, a, size, capacity);
              };
              control = record {
                states = set;
                throws = c.throws ∙ sym (ap (λ (k : Control). k.throws) same);
                last = subst (λ (k : Control). IsClassOf program.world s.control.last k.last) (sym same) c.last;
                place = subst (λ (k : Control). PlaceStands program.world s.control.place k.place) (sym same) c.place;
                main = subst (λ (k : Control). option_and_then (slice_get (methods_of program.world)) k.main ≡ main_method program.world s.control.main) (sym same) c.main;
                end = subst (λ (k : Control). EndStands program.world s.control.end k.end) (sym same) c.end;
              };
              memory = h.stands.memory;
            });
        grows = grows_not addresses blocks;
      })
