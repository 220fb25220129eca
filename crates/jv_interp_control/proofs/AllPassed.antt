-- Frames that a throw passes, one by one, and the handler that takes it (JVMS 2.10).
use Rattle.std.proofs.Common.{◌≡◌, ℕ, zero, suc, ◌+◌, ◌<◌, ◌≤◌, List, [], ◌∷◌, ◌++◌, Some, drop, length, reverse, slice_get, take, refl, sym, ap, subst, ◌∙◌, arith, length-append}
use Rattle.std.proofs.lemmas.List.{length-reverse}
use Rattle.std.proofs.lemmas.List.Sums.{sum_by-cons}
use Rattle.std.specs.Prelude.{vec_capacity}
use Rattle.jv_classes.proofs.Numbers.{take_more}
use Rattle.jv_meaning_world.specs.World.{World}
use Rattle.jv_meaning_machine.specs.Frames.{MethodFrame, Frame}
use Rattle.jv_meaning_machine.specs.Frames.Frame.{Runs}
use Rattle.jv_meaning_machine.specs.State.{Program, Control as ControlOfNames}
use Rattle.jv_meaning_machine.specs.Throws.{at_handler}
use Rattle.jv_meaning_machine.specs.Laws.Shapes.{frame_words, used_words}
use Rattle.jv_interp_words.specs.declared.records.MethodRecord.{MethodRecord}
use Rattle.jv_interp_words.specs.declared.records.FrameRecord.{FrameRecord}
use Rattle.jv_interp_words.specs.declared.records.FrameRecord.TheVariants as records
use Rattle.jv_interp_words.specs.FramesInWords.{in_use, MethodStands, AreFrames}
use Rattle.jv_interp_words.proofs.Returned.{in_use_under}
use Rattle.jv_interp_words.proofs.Stacks.{stack_above}
use Rattle.jv_interp_words.proofs.Stored.{same_length}
use Rattle.jv_interp_control.specs.declared.frames.Frames.{Frames}
use Rattle.jv_interp_control.specs.declared.control.Control.{Control}
use Rattle.jv_interp_control.specs.FramesStand.{FramesStand}
use Rattle.jv_interp_control.specs.Inside.Passing.{passed, all_passed, Passing, Passed, PassedAll}
use Rattle.jv_interp_control.proofs.Counted.{frames_bound, reversed_push}
use Rattle.jv_interp_control.proofs.FramesPassed.{runs_there}
use Rattle.jv_interp_control.proofs.Walks.{all_passed-more}

-- the next one
pub next_frame : (all : List Frame) (k : ℕ) → k < length all → (frame : Frame) × (slice_get all k ≡ Some frame) × (drop k all ≡ frame ∷ drop (suc k) all)
next_frame [] k low = absurd (omega (arith, low))
next_frame (f ∷ all) zero low = (f, refl, refl)
next_frame (f ∷ all) (suc k) low = next_frame all k (omega (arith, low))

one_more : (k : ℕ) → k + 1 ≡ suc k
one_more k = omega arith

module _ (world : World) (count : ℕ) (program : Program) (addresses : List ℕ) (all : List Frame) (control : ControlOfNames) (k : ℕ) (frames : Frames) (kept : Control)
    (world_is : program.world ≡ world) (within : count ≤ length all) (low : k < count) (h : PassedAll k program addresses all control frames kept) where
  pub next : (frame : Frame) × (slice_get all k ≡ Some frame) × (drop k all ≡ frame ∷ drop (suc k) all)
  next = next_frame all k (omega (arith, low, within))

  pub passing_next : Passing world program addresses next.0 (drop (suc k) all) (all_passed (take k all) control) frames kept
  passing_next = record {
    world_is = world_is;
    stand = subst (λ (fs : List Frame). FramesStand program addresses fs frames (all_passed (take k all) control).words) next.2 h.stand;
    control_stands = h.control_stands;
  }

  pub passed_next :
      (frames_after : Frames) (kept_after : Control)
      → Passed program addresses next.0 (drop (suc k) all) (all_passed (take k all) control) frames_after kept_after
      → PassedAll (k + 1) program addresses all control frames_after kept_after
  passed_next frames_after kept_after p =
      let is : passed next.0 (all_passed (take k all) control) ≡ all_passed (take (k + 1) all) control =
      sym (ap (λ (fs : List Frame). all_passed fs control) (take_more all k next.0 next.1) ∙ all_passed-more (take k all) next.0 control) in
      record {
        stand =
            subst (λ (n : ℕ). FramesStand program addresses (drop n all) frames_after (all_passed (take (k + 1) all) control).words) (sym (one_more k))
            (subst (λ (c : ControlOfNames). FramesStand program addresses (drop (suc k) all) frames_after c.words) is p.stand);
        control_stands = subst (λ (c : ControlOfNames). Rattle.jv_interp_control.specs.ControlStands.ControlStands program.world c kept_after) is p.control_stands;
      }

-- ---- caught

module _ (program : Program) (addresses : List ℕ) (frame : MethodFrame) (below : List Frame) (kept : Frames) (left : ℕ) (rest : List FrameRecord) (own : MethodRecord)
    (h : FramesStand program addresses (Runs frame ∷ below) kept left) (e : kept.records.items ≡ rest ++ records.Runs own ∷ []) where
  pub record Here : Type 0 where
    pub under : List ℕ
    pub stands : MethodStands program addresses frame own (in_use kept.words.items kept.top) under
    pub others : AreFrames program addresses below (reverse rest) under

  pub here : Here
  here =
      let n = runs_there program addresses (Runs frame) below kept left rest h own e in
      let same : n.method ≡ frame = same_frame frame n.method n.is in
      record {
        under = n.under;
        stands = subst (λ (f : MethodFrame). MethodStands program addresses f own (in_use kept.words.items kept.top) n.under) same n.stands;
        others = n.others;
      }
    where
      same_frame : (a b : MethodFrame) → Runs a ≡ Runs b → b ≡ a
      same_frame a b e = let is : a ≡ b = cc in sym is

  -- the local variables' words end there
  pub locals_end : (in_use kept.words.items (own.base + frame.method.code.max_locals) ≡ reverse here.stands.words.words ++ here.under) ×
      (own.base + frame.method.code.max_locals + 4 ≤ length kept.words.items)
  locals_end =
      let s = here.stands in
      let top = stack_above addresses frame.stack (in_use kept.words.items kept.top) (reverse s.words.words ++ here.under) s.words.stack_stands in
      let size : own.base + frame.method.code.max_locals ≡ length (reverse s.words.words ++ here.under) =
      omega (
        arith,
        s.base_is,
        s.locals_count,
        same_length addresses frame.locals s.words.words s.words.locals_stand,
        length-append (reverse s.words.words) here.under,
        length-reverse s.words.words,
      ) in
      let bound = frames_bound program addresses below (reverse rest) here.under here.others in
      let a = h.room in (
        (in_use_under kept.words.items kept.top (own.base + frame.method.code.max_locals) top.front (reverse s.words.words ++ here.under) h.top_within top.place size).0,
        omega (arith, a, bound, s.base_is, sum_by-cons frame_words (Runs frame) below),
      )

  pub caught_here :
      (pc object address : ℕ) (after : Frames) → slice_get addresses object ≡ Some address → 1 ≤ frame.method.code.max_stack
      → in_use after.words.items after.top ≡ address ∷ in_use kept.words.items (own.base + frame.method.code.max_locals)
      → length after.words.items ≡ length kept.words.items
      → after.records.items ≡ rest ++ records.Runs (record { method = own.method; pc = pc; base = own.base }) ∷ []
      → vec_capacity after.records ≡ vec_capacity kept.records → after.top ≡ own.base + frame.method.code.max_locals + 1 → after.left ≡ kept.left
      → FramesStand program addresses (at_handler frame pc object ∷ below) after left
  caught_here pc object address after at has_stack words_are size records_are capacity top_is left_is =
      let s = here.stands in
      let end = locals_end in
      let record_kept : MethodRecord = record { method = own.method; pc = pc; base = own.base } in
      let used : in_use after.words.items after.top ≡ address ∷ (reverse s.words.words ++ here.under) =
      words_are ∙ ap (λ (l : List ℕ). address ∷ l) end.0 in
      let method : MethodStands program addresses
      (record frame { offset = pc; stack = Rattle.jv_meaning_machine.specs.Values.Value.Reference object ∷ [] }) record_kept
      (in_use after.words.items after.top) here.under =
      record {
        declared = s.declared;
        has_number = s.has_number;
        entered = s.entered;
        words = record {
          words = s.words.words;
          stack_stands = (reverse s.words.words ++ here.under, (address, used, at), refl);
          locals_stand = s.words.locals_stand;
        };
        base_is = s.base_is;
        pc_is = refl;
        locals_count = s.locals_count;
        stack_fits = has_stack;
      } in
      let turned : reverse after.records.items ≡ records.Runs record_kept ∷ reverse rest =
      ap (λ (l : List FrameRecord). reverse l) records_are ∙ reversed_push rest (records.Runs record_kept) in
      let all : used_words (at_handler frame pc object ∷ below) ≡ used_words (Runs frame ∷ below) =
      sum_by-cons frame_words (at_handler frame pc object) below ∙ sym (sum_by-cons frame_words (Runs frame) below) in
      record {
        stand =
            subst (λ (l : List FrameRecord). AreFrames program addresses (at_handler frame pc object ∷ below) l (in_use after.words.items after.top)) (sym turned)
            (here.under, method, here.others);
        top_within = let b = end.1 in omega (arith, b, top_is, size);
        left_is = h.left_is ∙ sym left_is;
        room = let a = h.room in omega (arith, a, all, size);
        few = let a = h.few in omega (arith, a, size);
        records_fit = let a = h.records_fit in omega (arith, a, size, capacity);
      }
