-- Frames one on the other: the one with a number from the newest on, what stands on it, and what it stands on.
use Rattle.std.proofs.Common.{◌≡◌, ℕ, zero, suc, List, [], ◌∷◌, ◌++◌, Some, drop, length, reverse, slice_get, refl, sym, ap, subst, ◌∙◌, append_assoc}
use Rattle.jv_meaning_machine.specs.Frames.{MethodFrame, InitializationFrame, Frame}
use Rattle.jv_meaning_machine.specs.Frames.Frame.{Runs, Initializes}
use Rattle.jv_meaning_machine.specs.State.{Program}
use Rattle.jv_interp_words.specs.declared.records.MethodRecord.{MethodRecord}
use Rattle.jv_interp_words.specs.declared.records.InitializationRecord.{InitializationRecord}
use Rattle.jv_interp_words.specs.declared.records.FrameRecord.{FrameRecord}
use Rattle.jv_interp_words.specs.declared.records.FrameRecord.TheVariants as records
use Rattle.jv_interp_words.specs.FramesInWords.{FrameStands, MethodStands, InitializationStands, AreFrames}
use Rattle.jv_interp_words.proofs.Stacks.{stack_above}

-- a frame's words are in front of those below it
pub frame_above :
    (addresses : List ℕ) (frame : MethodFrame) (used below : List ℕ) → FrameStands addresses frame.locals frame.stack used below
    → (front : List ℕ) × (used ≡ front ++ below)
frame_above addresses frame used below h =
    let top = stack_above addresses frame.stack used _ h.stack_stands in
    (top.front ++ reverse h.words, top.place ∙ sym (append_assoc top.front (reverse h.words) below))

pub record MethodAt (program : Program) (addresses : List ℕ) (frames : List Frame) (kept : List FrameRecord) (all : List ℕ) (k : ℕ) (r : MethodRecord) : Type 0 where
  pub frame : MethodFrame
  pub there : slice_get frames k ≡ Some (Runs frame)
  pub is : drop k frames ≡ Runs frame ∷ drop (suc k) frames
  pub used : List ℕ
  pub below : List ℕ
  pub stands : MethodStands program addresses frame r used below
  pub others : AreFrames program addresses (drop (suc k) frames) (drop (suc k) kept) below
  pub above : List ℕ
  pub place : all ≡ above ++ used

pub record InitializationAt (program : Program) (frames : List Frame) (k : ℕ) (r : InitializationRecord) : Type 0 where
  pub frame : InitializationFrame
  pub there : slice_get frames k ≡ Some (Initializes frame)
  pub is : drop k frames ≡ Initializes frame ∷ drop (suc k) frames
  pub stands : InitializationStands program frame r

module _ (program : Program) (addresses : List ℕ) where
  pub method_at :
      (frames : List Frame) (kept : List FrameRecord) (all : List ℕ) (k : ℕ) (r : MethodRecord) → AreFrames program addresses frames kept all
      → slice_get kept k ≡ Some (records.Runs r) → MethodAt program addresses frames kept all k r
  method_at [] [] all k r h e = absurd cc
  method_at [] (o ∷ kept) all k r h e = absurd h
  method_at (Runs f ∷ frames) [] all k r h e = absurd h
  method_at (Initializes f ∷ frames) [] all k r h e = absurd h
  method_at (Runs f ∷ frames) (records.Initializes o ∷ kept) all k r h e = absurd h
  method_at (Initializes f ∷ frames) (records.Runs o ∷ kept) all k r h e = absurd h
  method_at (Runs f ∷ frames) (records.Runs o ∷ kept) all zero r h e =
      let same : o ≡ r = cc in
      record {
        frame = f;
        there = refl;
        is = refl;
        used = all;
        below = h.0;
        stands = subst (λ (m : MethodRecord). MethodStands program addresses f m all h.0) same h.1;
        others = h.2;
        above = [];
        place = refl;
      }
  method_at (Initializes f ∷ frames) (records.Initializes o ∷ kept) all zero r h e = absurd cc
  method_at (Runs f ∷ frames) (records.Runs o ∷ kept) all (suc k) r h e =
      let rest = method_at frames kept h.0 k r h.2 e in
      let front = frame_above addresses f all h.0 h.1.words in
      record {
        frame = rest.frame;
        there = rest.there;
        is = rest.is;
        used = rest.used;
        below = rest.below;
        stands = rest.stands;
        others = rest.others;
        above = front.0 ++ rest.above;
        place = front.1 ∙ ap (λ (l : List ℕ). front.0 ++ l) rest.place ∙ sym (append_assoc front.0 rest.above rest.used);
      }
  method_at (Initializes f ∷ frames) (records.Initializes o ∷ kept) all (suc k) r h e =
      let rest = method_at frames kept all k r h.1 e in
      record {
        frame = rest.frame;
        there = rest.there;
        is = rest.is;
        used = rest.used;
        below = rest.below;
        stands = rest.stands;
        others = rest.others;
        above = rest.above;
        place = rest.place;
      }

  pub initialization_at :
      (frames : List Frame) (kept : List FrameRecord) (all : List ℕ) (k : ℕ) (r : InitializationRecord) → AreFrames program addresses frames kept all
      → slice_get kept k ≡ Some (records.Initializes r) → InitializationAt program frames k r
  initialization_at [] [] all k r h e = absurd cc
  initialization_at [] (o ∷ kept) all k r h e = absurd h
  initialization_at (Runs f ∷ frames) [] all k r h e = absurd h
  initialization_at (Initializes f ∷ frames) [] all k r h e = absurd h
  initialization_at (Runs f ∷ frames) (records.Initializes o ∷ kept) all k r h e = absurd h
  initialization_at (Initializes f ∷ frames) (records.Runs o ∷ kept) all k r h e = absurd h
  initialization_at (Runs f ∷ frames) (records.Runs o ∷ kept) all zero r h e = absurd cc
  initialization_at (Initializes f ∷ frames) (records.Initializes o ∷ kept) all zero r h e =
      let same : o ≡ r = cc in
      record { frame = f; there = refl; is = refl; stands = subst (λ (m : InitializationRecord). InitializationStands program f m) same h.0 }
  initialization_at (Runs f ∷ frames) (records.Runs o ∷ kept) all (suc k) r h e =
      let rest = initialization_at frames kept h.0 k r h.2 e in
      record { frame = rest.frame; there = rest.there; is = rest.is; stands = rest.stands }
  initialization_at (Initializes f ∷ frames) (records.Initializes o ∷ kept) all (suc k) r h e =
      let rest = initialization_at frames kept all k r h.1 e in
      record { frame = rest.frame; there = rest.there; is = rest.is; stands = rest.stands }

-- as many frames as records
pub same_count :
    (program : Program) (addresses : List ℕ) (frames : List Frame) (kept : List FrameRecord) (used : List ℕ)
    → AreFrames program addresses frames kept used → length frames ≡ length kept
same_count program addresses [] [] used h = refl
same_count program addresses [] (k ∷ kept) used h = absurd h
same_count program addresses (Runs frame ∷ frames) [] used h = absurd h
same_count program addresses (Runs frame ∷ frames) (records.Runs k ∷ kept) used h = ap suc (same_count program addresses frames kept h.0 h.2)
same_count program addresses (Runs frame ∷ frames) (records.Initializes k ∷ kept) used h = absurd h
same_count program addresses (Initializes frame ∷ frames) [] used h = absurd h
same_count program addresses (Initializes frame ∷ frames) (records.Runs k ∷ kept) used h = absurd h
same_count program addresses (Initializes frame ∷ frames) (records.Initializes k ∷ kept) used h = ap suc (same_count program addresses frames kept used h.1)
