-- The method that ran waits (JVMS 2.6).
use Rattle.std.proofs.Common.{◌≡◌, ℕ, ◌<◌, List, [], ◌∷◌, ◌++◌, length, reverse, sym, ap, subst, ◌∙◌, arith}
use Rattle.std.proofs.lemmas.List.{length-reverse}
use Rattle.std.proofs.lemmas.List.Sums.{sum_by-cons}
use Rattle.std.specs.Prelude.{vec_len, vec_capacity}
use Rattle.jv_meaning_machine.specs.Frames.{MethodFrame, Frame}
use Rattle.jv_meaning_machine.specs.Frames.Frame.{Runs}
use Rattle.jv_meaning_machine.specs.State.{Program}
use Rattle.jv_meaning_machine.specs.Laws.Shapes.{frame_words}
use Rattle.jv_interp_words.specs.declared.registers.Registers.{Registers}
use Rattle.jv_interp_words.specs.declared.records.FrameRecord.{FrameRecord}
use Rattle.jv_interp_words.specs.declared.records.FrameRecord.TheVariants as records
use Rattle.jv_interp_words.specs.StatesInWords.{record_of}
use Rattle.jv_interp_words.specs.FramesInWords.{in_use, AreFrames}
use Rattle.jv_interp_control.specs.declared.frames.Frames.{Frames}
use Rattle.jv_interp_control.specs.FramesStand.{FramesStand}
use Rattle.jv_interp_control.specs.Suspending.{Suspending}
use Rattle.jv_interp_control.proofs.Counted.{frames_bound, frames_count, reversed_push}

module _ (at : Registers) (top : ℕ) (frames : Frames) (program : Program) (addresses : List ℕ) (frame : MethodFrame) (others : List Frame) (left : ℕ)
    (h : Suspending at top frames program addresses frame others left) where
  pub base_fits : at.base < 4294967296
  base_fits =
      let room = h.room in
      let few = h.few in
      let base = h.current.base_is in
      let bound = frames_bound program addresses others (reverse frames.records.items) h.under h.others_stand in
      omega (arith, room, few, base, bound, sum_by-cons frame_words (Runs frame) others)

  pub room_for_it : vec_len frames.records < vec_capacity frames.records
  room_for_it =
      let room = h.room in
      let fit = h.records_fit in
      let count = frames_count program addresses others (reverse frames.records.items) h.under h.others_stand in
      let size = frames.records.ok.0 in
      omega (arith, room, fit, count, size, length-reverse frames.records.items, sum_by-cons frame_words (Runs frame) others)

  pub suspended :
      (after : Frames) → after.words ≡ frames.words → after.records.items ≡ frames.records.items ++ records.Runs (record_of at) ∷ []
      → vec_capacity after.records ≡ vec_capacity frames.records → after.top ≡ top → after.left ≡ frames.left
      → FramesStand program addresses (Runs frame ∷ others) after left
  suspended after words_are records_are capacity top_is left_is =
      let size = ap (λ v. length v.items) words_are in
      let turned : reverse after.records.items ≡ records.Runs (record_of at) ∷ reverse frames.records.items =
      ap (λ (l : List FrameRecord). reverse l) records_are ∙ reversed_push frames.records.items (records.Runs (record_of at)) in
      record {
        stand =
            subst (λ v. AreFrames program addresses (Runs frame ∷ others) (reverse after.records.items) (in_use v.items after.top)) (sym words_are)
            (subst (λ (n : ℕ). AreFrames program addresses (Runs frame ∷ others) (reverse after.records.items) (in_use frames.words.items n)) (sym top_is)
            (subst (λ (l : List FrameRecord). AreFrames program addresses (Runs frame ∷ others) l (in_use frames.words.items top)) (sym turned)
            (h.under, h.current, h.others_stand)));
        top_within = let a = h.top_within in omega (arith, a, top_is, size);
        left_is = h.left_is ∙ sym left_is;
        room = let a = h.room in omega (arith, a, size);
        few = let a = h.few in omega (arith, a, size);
        records_fit = let a = h.records_fit in omega (arith, a, size, capacity);
      }
