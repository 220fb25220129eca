-- The newest frame goes, and those below it stand as they did (JVMS 2.6, 2.10).
use Rattle.std.proofs.Common.{◌≡◌, ℕ, ◌+◌, ◌≤◌, List, [], ◌∷◌, ◌++◌, length, reverse, refl, sym, ap, subst, ◌∙◌, arith}
use Rattle.std.proofs.lemmas.List.Sums.{sum_by-cons}
use Rattle.std.specs.Prelude.{vec_capacity}
use Rattle.jv_meaning_machine.specs.Frames.{MethodFrame, InitializationFrame, Frame}
use Rattle.jv_meaning_machine.specs.Frames.Frame.{Runs, Initializes}
use Rattle.jv_meaning_machine.specs.State.{Program}
use Rattle.jv_meaning_machine.specs.Laws.Shapes.{frame_words}
use Rattle.jv_interp_words.specs.declared.records.MethodRecord.{MethodRecord}
use Rattle.jv_interp_words.specs.declared.records.InitializationRecord.{InitializationRecord}
use Rattle.jv_interp_words.specs.declared.records.FrameRecord.{FrameRecord}
use Rattle.jv_interp_words.specs.declared.records.FrameRecord.TheVariants as records
use Rattle.jv_interp_words.specs.FramesInWords.{in_use, MethodStands, InitializationStands, AreFrames}
use Rattle.jv_interp_words.proofs.Returned.{in_use_under}
use Rattle.jv_interp_control.specs.declared.frames.Frames.{Frames}
use Rattle.jv_interp_control.specs.FramesStand.{FramesStand}
use Rattle.jv_interp_control.proofs.Counted.{reversed_push}
use Rattle.jv_interp_control.proofs.Stacked.{frame_above}

pub record NewestRuns (program : Program) (addresses : List ℕ) (frame : Frame) (below : List Frame) (r : MethodRecord) (more : List FrameRecord) (used : List ℕ) : Type 0 where
  pub method : MethodFrame
  pub is : frame ≡ Runs method
  pub under : List ℕ
  pub stands : MethodStands program addresses method r used under
  pub others : AreFrames program addresses below more under

pub newest_runs :
    (program : Program) (addresses : List ℕ) (frame : Frame) (below : List Frame) (r : MethodRecord) (more : List FrameRecord) (used : List ℕ)
    → AreFrames program addresses (frame ∷ below) (records.Runs r ∷ more) used → NewestRuns program addresses frame below r more used
newest_runs program addresses (Runs method) below r more used h = record { method = method; is = refl; under = h.0; stands = h.1; others = h.2 }
newest_runs program addresses (Initializes class) below r more used h = absurd h

pub record NewestInitializes (program : Program) (addresses : List ℕ) (frame : Frame) (below : List Frame) (r : InitializationRecord) (more : List FrameRecord) (used : List ℕ) : Type 0 where
  pub initialization : InitializationFrame
  pub is : frame ≡ Initializes initialization
  pub stands : InitializationStands program initialization r
  pub others : AreFrames program addresses below more used

pub newest_initializes :
    (program : Program) (addresses : List ℕ) (frame : Frame) (below : List Frame) (r : InitializationRecord) (more : List FrameRecord) (used : List ℕ)
    → AreFrames program addresses (frame ∷ below) (records.Initializes r ∷ more) used → NewestInitializes program addresses frame below r more used
newest_initializes program addresses (Runs method) below r more used h = absurd h
newest_initializes program addresses (Initializes class) below r more used h =
    record { initialization = class; is = refl; stands = h.0; others = h.1 }

module _ (program : Program) (addresses : List ℕ) (frame : Frame) (below : List Frame) (kept : Frames) (left : ℕ) (rest : List FrameRecord)
    (h : FramesStand program addresses (frame ∷ below) kept left) where
  turned : (r : FrameRecord) → kept.records.items ≡ rest ++ r ∷ [] → AreFrames program addresses (frame ∷ below) (r ∷ reverse rest) (in_use kept.words.items kept.top)
  turned r e =
      subst (λ (l : List FrameRecord). AreFrames program addresses (frame ∷ below) l (in_use kept.words.items kept.top))
      (ap (λ (l : List FrameRecord). reverse l) e ∙ reversed_push rest r) h.stand

  pub runs_there : (r : MethodRecord) → kept.records.items ≡ rest ++ records.Runs r ∷ [] → NewestRuns program addresses frame below r (reverse rest) (in_use kept.words.items kept.top)
  runs_there r e = newest_runs program addresses frame below r (reverse rest) (in_use kept.words.items kept.top) (turned (records.Runs r) e)

  pub initializes_there :
      (r : InitializationRecord) → kept.records.items ≡ rest ++ records.Initializes r ∷ []
      → NewestInitializes program addresses frame below r (reverse rest) (in_use kept.words.items kept.top)
  initializes_there r e = newest_initializes program addresses frame below r (reverse rest) (in_use kept.words.items kept.top) (turned (records.Initializes r) e)

  pub none_there : kept.records.items ≡ [] → ⊥
  none_there e = by_frame frame (subst (λ (l : List FrameRecord). AreFrames program addresses (frame ∷ below) (reverse l) (in_use kept.words.items kept.top)) e h.stand)
    where
      by_frame : (f : Frame) → AreFrames program addresses (f ∷ below) [] (in_use kept.words.items kept.top) → ⊥
      by_frame (Runs f) h = absurd h
      by_frame (Initializes f) h = absurd h

  -- so many words are given back
  pub words_fit : left + frame_words frame ≤ length kept.words.items
  words_fit = let a = h.room in omega (arith, a, sum_by-cons frame_words frame below)

  pub method_gone :
      (r : MethodRecord) (after : Frames) → kept.records.items ≡ rest ++ records.Runs r ∷ [] → after.words ≡ kept.words
      → after.records.items ≡ rest → vec_capacity after.records ≡ vec_capacity kept.records → after.top ≡ r.base
      → after.left ≡ kept.left + frame_words frame → FramesStand program addresses below after (left + frame_words frame)
  method_gone r after e words_are records_are capacity top_is left_is =
      let n = runs_there r e in
      let above = frame_above addresses n.method (in_use kept.words.items kept.top) n.under n.stands.words in
      let fallen = in_use_under kept.words.items kept.top r.base above.0 n.under h.top_within above.1 n.stands.base_is in
      let size = ap (λ v. length v.items) words_are in
      record {
        stand =
            subst (λ (ws : List ℕ). AreFrames program addresses below (reverse after.records.items) (in_use ws after.top)) (sym (ap (λ v. v.items) words_are))
            (subst (λ (t : ℕ). AreFrames program addresses below (reverse after.records.items) (in_use kept.words.items t)) (sym top_is)
            (subst (λ (l : List FrameRecord). AreFrames program addresses below (reverse l) (in_use kept.words.items r.base)) (sym records_are)
            (subst (λ (l : List ℕ). AreFrames program addresses below (reverse rest) l) (sym fallen.0) n.others)));
        top_within = let low = fallen.1 in let a = h.top_within in omega (arith, low, a, top_is, size);
        left_is = let a = h.left_is in omega (arith, a, left_is);
        room = let a = h.room in omega (arith, a, size, sum_by-cons frame_words frame below);
        few = let a = h.few in omega (arith, a, size);
        records_fit = let a = h.records_fit in omega (arith, a, size, capacity);
      }

  pub initialization_gone :
      (r : InitializationRecord) (after : Frames) → kept.records.items ≡ rest ++ records.Initializes r ∷ [] → after.words ≡ kept.words
      → after.records.items ≡ rest → vec_capacity after.records ≡ vec_capacity kept.records → after.top ≡ kept.top
      → after.left ≡ kept.left + frame_words frame → FramesStand program addresses below after (left + frame_words frame)
  initialization_gone r after e words_are records_are capacity top_is left_is =
      let n = initializes_there r e in
      let size = ap (λ v. length v.items) words_are in
      record {
        stand =
            subst (λ (ws : List ℕ). AreFrames program addresses below (reverse after.records.items) (in_use ws after.top)) (sym (ap (λ v. v.items) words_are))
            (subst (λ (t : ℕ). AreFrames program addresses below (reverse after.records.items) (in_use kept.words.items t)) (sym top_is)
            (subst (λ (l : List FrameRecord). AreFrames program addresses below (reverse l) (in_use kept.words.items kept.top)) (sym records_are) n.others));
        top_within = let a = h.top_within in omega (arith, a, top_is, size);
        left_is = let a = h.left_is in omega (arith, a, left_is);
        room = let a = h.room in omega (arith, a, size, sum_by-cons frame_words frame below);
        few = let a = h.few in omega (arith, a, size);
        records_fit = let a = h.records_fit in omega (arith, a, size, capacity);
      }
