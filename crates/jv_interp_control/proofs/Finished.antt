-- The class is initialized: its initialization's frame is gone, and a frame is left, or main is entered (JVMS 5.5, step 10; own).
use Rattle.std.proofs.Common.{◌≡◌, ℕ, ◌+◌, ◌≤◌, List, [], ◌∷◌, Option, Some, None, Ok, length, reverse, slice_get, slice_set, take, refl, sym, ap, subst, ◌∙◌, arith, append-nil, length-set}
use Rattle.std.proofs.lemmas.List.{length-reverse}
use Rattle.std.specs.Option.{option_and_then}
use Rattle.std.specs.Vec.{with_item}
use Rattle.jv_meaning_world.specs.World.{World}
use Rattle.jv_meaning_world.specs.Overriding.{Declared}
use Rattle.jv_meaning_machine.specs.Values.Value.{Reference}
use Rattle.jv_meaning_machine.specs.Faults.{OrFault, found, ◌>>=◌}
use Rattle.jv_meaning_machine.specs.Faults.Fault.{OffsetFault}
use Rattle.jv_meaning_machine.specs.Frames.{Frame}
use Rattle.jv_meaning_machine.specs.Frames.Frame.{Runs, Initializes}
use Rattle.jv_meaning_machine.specs.State.{Program, State, state_of}
use Rattle.jv_meaning_machine.specs.Entering.{enter}
use Rattle.jv_meaning_machine.specs.Initialization.{finish, finished, enter_main, main_method, main_arguments}
use Rattle.jv_interp_words.specs.declared.records.FrameRecord.{FrameRecord}
use Rattle.jv_interp_words.specs.FramesInWords.{in_use, methods_of, AreFrames}
use Rattle.jv_interp_words.proofs.InUse.{length-in_use}
use Rattle.jv_interp_heap.specs.ObjectsInBlocks.{Blocks}
use Rattle.jv_interp_held.specs.declared.held.Held.{Held}
use Rattle.jv_interp_held.proofs.Growths.{grows_not}
use Rattle.jv_interp_control.specs.declared.frames.Frames.{Frames}
use Rattle.jv_interp_control.specs.declared.control.Control.{Control}
use Rattle.jv_interp_control.specs.Moves.{Entering}
use Rattle.jv_interp_control.specs.Standing.{kept, Moves, Reaches, StateStands}
use Rattle.jv_interp_control.specs.Inside.Finishing.{Finishing, Marking, Marked}

-- ---- frames and records

no_frames :
    (program : Program) (addresses : List ℕ) (all : List Frame) (records : List FrameRecord) (used : List ℕ) → AreFrames program addresses all records used
    → length records ≡ 0 → (all ≡ []) × (used ≡ [])
no_frames program addresses [] [] used h e = (refl, h)
no_frames program addresses [] (r ∷ rs) used h e = absurd h
no_frames program addresses (Runs f ∷ fs) [] used h e = absurd h
no_frames program addresses (Initializes f ∷ fs) [] used h e = absurd h
no_frames program addresses (f ∷ fs) (r ∷ rs) used h e = absurd (grind (arith, e))

abbrev IsFirst : List Frame → Type 0
IsFirst all = (f : Frame) × (fs : List Frame) × (all ≡ f ∷ fs)

a_frame :
    (program : Program) (addresses : List ℕ) (all : List Frame) (records : List FrameRecord) (used : List ℕ) → AreFrames program addresses all records used
    → (length records ≡ 0 → ⊥) → IsFirst all
a_frame program addresses (f ∷ fs) records used h some = (f, fs, refl)
a_frame program addresses [] [] used h some = absurd (some refl)
a_frame program addresses [] (r ∷ rs) used h some = absurd h

same_ok : (a b : State) → ◌≡◌ {A = OrFault State} (Ok a) (Ok b) → a ≡ b
same_ok a b e = cc

first_word : (words : List ℕ) (word : ℕ) → 4 ≤ length words → take 1 (slice_set words 0 word) ≡ word ∷ []
first_word [] word h = absurd (omega (arith, h))
first_word (w ∷ words) word h = refl

module _ (world : World) (class : ℕ) (program : Program) (texts : List (List ℕ)) (s t : State) (addresses : List ℕ) (frames : Frames) (control : Control) (held : Held) (blocks : Blocks)
    (h : Moves world (Finishing class frames) program texts s t addresses (kept frames control held blocks)) where
  pub marking : Marking world class frames control program addresses s.frames s.control h.does.l
  marking = record { world_is = h.world_is; class_is = h.does.class_is; stand = h.stands.frames; control_stands = h.stands.control; room = h.does.room }

  -- ---- a frame is left

  pub goes_on :
      (after : Frames) (control_after : Control) → Marked program addresses s.frames s.control h.does.l after control_after
      → (length frames.records.items ≡ 0 → ⊥) → Reaches program texts t addresses (kept frames control held blocks) (kept after control_after held blocks)
  goes_on after control_after marked some =
      let first = a_frame program addresses s.frames (reverse frames.records.items) (in_use frames.words.items frames.top) h.stands.frames.stand
      (λ e. some (sym (length-reverse frames.records.items) ∙ e)) in
      let is : state_of s.memory s.frames (finished h.does.l s.control) ≡ t =
      ap (λ (all : List Frame). state_of s.memory all (finished h.does.l s.control)) first.2
      ∙ same_ok (state_of s.memory (first.0 ∷ first.1) (finished h.does.l s.control)) t
      (subst (λ (all : List Frame). finish program s.memory all (finished h.does.l s.control) ≡ Ok t) first.2 h.does.does) in
      record {
        more = [];
        stands = subst (λ (l : List ℕ). StateStands program texts t l (kept after control_after held blocks)) (sym (append-nil addresses))
            (subst (λ (u : State). StateStands program texts u addresses (kept after control_after held blocks)) is
            (record { frames = marked.stand; control = marked.control_stands; memory = h.stands.memory }));
        grows = grows_not addresses blocks;
      }

  -- ---- no frame is left, and main is entered

  abbrev IsMain : Declared → Type 0
  IsMain d =
      (main_method program.world s.control.main ≡ Some d) × (enter program s.memory [] (finished h.does.l s.control) d None (Reference main_arguments ∷ []) ≡ Ok t)

  module _ (none : length frames.records.items ≡ 0) where
    nothing : (s.frames ≡ []) × (in_use frames.words.items frames.top ≡ [])
    nothing =
        no_frames program addresses s.frames (reverse frames.records.items) (in_use frames.words.items frames.top) h.stands.frames.stand
        (length-reverse frames.records.items ∙ none)

    top_none : frames.top ≡ 0
    top_none = sym (length-in_use frames.words.items frames.top h.stands.frames.top_within) ∙ ap (λ (l : List ℕ). length l) nothing.1

    does_main : enter_main program s.memory (finished h.does.l s.control) ≡ Ok t
    does_main = subst (λ (all : List Frame). finish program s.memory all (finished h.does.l s.control) ≡ Ok t) nothing.0 h.does.does

    pub main_known : (d : Declared) × IsMain d
    main_known = by_main (main_method program.world s.control.main) refl does_main
      where
        by_main :
            (o : Option Declared) → main_method program.world s.control.main ≡ o
            → (found OffsetFault o >>= λ d. enter program s.memory [] (finished h.does.l s.control) d None (Reference main_arguments ∷ [])) ≡ Ok t
            → (d : Declared) × IsMain d
        by_main None is does = absurd cc
        by_main (Some d) is does = (d, (is, does))

    pub has_main : control.main ≡ None → ⊥
    has_main e =
        let d = main_known.0 in
        let same : None ≡ Some d = ap (option_and_then (slice_get (methods_of program.world))) (sym e) ∙ h.stands.control.main ∙ main_known.1.0 in
        cc

    pub enters_main :
        (main : ℕ) (after : Frames) (control_after : Control) → Marked program addresses s.frames s.control h.does.l after control_after
        → after ≡ record frames { left = frames.left + 4 } → control_after.main ≡ Some main
        → Moves world (Entering main (record after { words = with_item after.words 0 held.arguments })) program texts (state_of s.memory s.frames (finished h.does.l s.control)) t addresses
        (kept (record after { words = with_item after.words 0 held.arguments }) control_after held blocks)
    enters_main main after control_after marked same main_is =
        let d = main_known.0 in
        let top : after.top ≡ 0 = ap (λ (f : Frames). f.top) same ∙ top_none in
        let there : 4 ≤ length after.words.items =
        let a = h.does.room in let e = ap (λ (f : Frames). length f.words.items) same in omega (arith, a, e) in
        let set = slice_set after.words.items 0 held.arguments in
        let size : length set ≡ length after.words.items = length-set after.words.items 0 held.arguments in
        let used : in_use set after.top ≡ [] = ap (in_use set) top in
        let used_before : in_use after.words.items after.top ≡ [] = ap (in_use after.words.items) top in
        record {
          world_is = h.world_is;
          guests = h.guests;
          stands = record {
            frames = record {
              stand = subst (λ (l : List ℕ). AreFrames program addresses s.frames (reverse after.records.items) l) (used_before ∙ sym used) marked.stand.stand;
              top_within = let a = marked.stand.top_within in omega (arith, a, size);
              left_is = marked.stand.left_is;
              room = let a = marked.stand.room in omega (arith, a, size);
              few = let a = marked.stand.few in omega (arith, a, size);
              records_fit = let a = marked.stand.records_fit in omega (arith, a, size);
            };
            control = marked.control_stands;
            memory = h.stands.memory;
          };
          does = record {
            d = d;
            receiver = None;
            arguments = Reference main_arguments ∷ [];
            has_number = sym (ap (option_and_then (slice_get (methods_of program.world))) main_is) ∙ marked.control_stands.main ∙ main_known.1.0;
            count = 1;
            count_is = refl;
            within = omega (arith, top, there, size);
            on_top = (
              in_use set after.top,
              (
                held.arguments,
                ap (λ (n : ℕ). in_use set (n + 1)) top ∙ ap reverse (first_word after.words.items held.arguments there) ∙ ap (λ (l : List ℕ). held.arguments ∷ l) (sym used),
                h.stands.memory.arguments_stand,
              ),
              refl,
            );
            memory = s.memory;
            same_words = λ texts held blocks m. m;
            does =
                subst (λ (all : List Frame). enter program s.memory all (finished h.does.l s.control) d None (Reference main_arguments ∷ []) ≡ Ok t) (sym nothing.0)
                main_known.1.1;
          };
        }
