-- How many words and records frames have.
use Rattle.std.proofs.Common.{◌≡◌, ℕ, ◌*◌, ◌≤◌, ◌<◌, List, [], ◌∷◌, ◌++◌, length, reverse, ap, arith}
use Rattle.std.proofs.lemmas.List.{length-reverse, reverse-append}
use Rattle.std.proofs.lemmas.List.Sums.{sum_by-cons}
use Rattle.std.specs.Prelude.{vec_len, vec_capacity}
use Rattle.jv_meaning_machine.specs.Frames.{Frame}
use Rattle.jv_meaning_machine.specs.Frames.Frame.{Runs, Initializes}
use Rattle.jv_meaning_machine.specs.State.{Program}
use Rattle.jv_meaning_machine.specs.Laws.Shapes.{frame_words, used_words}
use Rattle.jv_interp_words.specs.declared.records.FrameRecord.{FrameRecord}
use Rattle.jv_interp_words.specs.declared.records.FrameRecord.TheVariants as records
use Rattle.jv_interp_words.specs.FramesInWords.{in_use, AreFrames}
use Rattle.jv_interp_words.proofs.InUse.{length-in_use}
use Rattle.jv_interp_words.proofs.FramesStand.{frame_length}
use Rattle.jv_interp_control.specs.declared.frames.Frames.{Frames}
use Rattle.jv_interp_control.specs.FramesStand.{FramesStand}

-- frames have no more words than they were given
pub frames_bound :
    (program : Program) (addresses : List ℕ) (frames : List Frame) (kept : List FrameRecord) (used : List ℕ)
    → AreFrames program addresses frames kept used → length used ≤ used_words frames
frames_bound program addresses [] [] used h = let e : length used ≡ 0 = ap length h in omega arith
frames_bound program addresses [] (k ∷ kept) used h = absurd h
frames_bound program addresses (Runs frame ∷ frames) [] used h = absurd h
frames_bound program addresses (Runs frame ∷ frames) (records.Runs k ∷ kept) used h =
    omega (
      arith,
      frame_length addresses frame.locals frame.stack used h.0 h.1.words,
      h.1.locals_count,
      h.1.stack_fits,
      frames_bound program addresses frames kept h.0 h.2,
      sum_by-cons frame_words (Runs frame) frames,
    )
frames_bound program addresses (Runs frame ∷ frames) (records.Initializes k ∷ kept) used h = absurd h
frames_bound program addresses (Initializes frame ∷ frames) [] used h = absurd h
frames_bound program addresses (Initializes frame ∷ frames) (records.Runs k ∷ kept) used h = absurd h
frames_bound program addresses (Initializes frame ∷ frames) (records.Initializes k ∷ kept) used h =
    omega (arith, frames_bound program addresses frames kept used h.1, sum_by-cons frame_words (Initializes frame) frames)

-- and each was given four at least
pub frames_count :
    (program : Program) (addresses : List ℕ) (frames : List Frame) (kept : List FrameRecord) (used : List ℕ)
    → AreFrames program addresses frames kept used → 4 * length kept ≤ used_words frames
frames_count program addresses [] [] used h = omega arith
frames_count program addresses [] (k ∷ kept) used h = absurd h
frames_count program addresses (Runs frame ∷ frames) [] used h = absurd h
frames_count program addresses (Runs frame ∷ frames) (records.Runs k ∷ kept) used h =
    omega (arith, frames_count program addresses frames kept h.0 h.2, sum_by-cons frame_words (Runs frame) frames)
frames_count program addresses (Runs frame ∷ frames) (records.Initializes k ∷ kept) used h = absurd h
frames_count program addresses (Initializes frame ∷ frames) [] used h = absurd h
frames_count program addresses (Initializes frame ∷ frames) (records.Runs k ∷ kept) used h = absurd h
frames_count program addresses (Initializes frame ∷ frames) (records.Initializes k ∷ kept) used h =
    omega (arith, frames_count program addresses frames kept used h.1, sum_by-cons frame_words (Initializes frame) frames)

-- ---- where all stand

module _ (program : Program) (addresses : List ℕ) (frames : List Frame) (kept : Frames) (left : ℕ) (h : FramesStand program addresses frames kept left) where
  pub top_bound : kept.top ≤ used_words frames
  top_bound =
      omega (
        arith,
        frames_bound program addresses frames (reverse kept.records.items) (in_use kept.words.items kept.top) h.stand,
        length-in_use kept.words.items kept.top h.top_within,
      )

  pub has_room : (words : ℕ) → 4 ≤ words → words ≤ left → vec_len kept.records < vec_capacity kept.records
  has_room words four fits =
      omega (
        arith,
        frames_count program addresses frames (reverse kept.records.items) (in_use kept.words.items kept.top) h.stand,
        length-reverse kept.records.items,
        kept.records.ok.0,
        h.room,
        h.records_fit,
      )

pub reversed_push : (records : List FrameRecord) (r : FrameRecord) → reverse (records ++ r ∷ []) ≡ r ∷ reverse records
reversed_push records r = reverse-append records (r ∷ [])
