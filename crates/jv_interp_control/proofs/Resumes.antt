-- The method of the newest frame goes on in registers (JVMS 2.5.1).
use Rattle.std.proofs.Common.{◌≡◌, ℕ, ◌≤◌, List, [], ◌∷◌, ◌++◌, length, reverse, refl, sym, ap, subst, ◌∙◌, arith}
use Rattle.std.specs.Prelude.{vec_capacity}
use Rattle.jv_meaning_machine.specs.Frames.{Frame}
use Rattle.jv_meaning_machine.specs.Frames.Frame.{Runs, Initializes}
use Rattle.jv_meaning_machine.specs.State.{Program}
use Rattle.jv_interp_words.specs.declared.records.MethodRecord.{MethodRecord}
use Rattle.jv_interp_words.specs.declared.records.InitializationRecord.{InitializationRecord}
use Rattle.jv_interp_words.specs.declared.records.FrameRecord.{FrameRecord}
use Rattle.jv_interp_words.specs.declared.records.FrameRecord.TheVariants as records
use Rattle.jv_interp_words.specs.declared.registers.Registers.{Registers}
use Rattle.jv_interp_words.specs.FramesInWords.{in_use, MethodStands, AreFrames}
use Rattle.jv_interp_words.specs.StatesInWords.{record_of}
use Rattle.jv_interp_members.specs.declared.methods.Methods.{Methods}
use Rattle.jv_interp_control.specs.declared.frames.Frames.{Frames}
use Rattle.jv_interp_control.specs.Inside.Codes.{IsCodeOf}
use Rattle.jv_interp_control.proofs.CodeThere.{code_there}
use Rattle.jv_interp_control.proofs.Counted.{reversed_push}
use Rattle.jv_interp_control.proofs.FramesPassed.{NewestRuns, newest_runs}
use Rattle.jv_interp_control.specs.Resuming.{Resuming, Resumed, NoneRuns}

-- frames are those of their records
some_frame :
    (program : Program) (addresses : List ℕ) (all : List Frame) (r : FrameRecord) (more : List FrameRecord) (used : List ℕ)
    → AreFrames program addresses all (r ∷ more) used → (f : Frame) × (fs : List Frame) × (all ≡ f ∷ fs)
some_frame program addresses [] r more used h = absurd h
some_frame program addresses (f ∷ fs) r more used h = (f, fs, refl)

none_runs : (program : Program) (addresses : List ℕ) (all : List Frame) (used : List ℕ) → AreFrames program addresses all [] used → NoneRuns all
none_runs program addresses [] used h = tt
none_runs program addresses (Runs f ∷ fs) used h = absurd h
none_runs program addresses (Initializes f ∷ fs) used h = tt

initialization_first :
    (program : Program) (addresses : List ℕ) (all : List Frame) (own : InitializationRecord) (more : List FrameRecord) (used : List ℕ)
    → AreFrames program addresses all (records.Initializes own ∷ more) used → NoneRuns all
initialization_first program addresses [] own more used h = tt
initialization_first program addresses (Runs f ∷ fs) own more used h = absurd h
initialization_first program addresses (Initializes f ∷ fs) own more used h = tt

module _ (methods : Methods) (frames : Frames) (program : Program) (addresses : List ℕ) (all : List Frame) (left : ℕ)
    (h : Resuming methods frames program addresses all left) where
  pub none_there : frames.records.items ≡ [] → NoneRuns all
  none_there e =
      none_runs program addresses all (in_use frames.words.items frames.top)
      (subst (λ (l : List FrameRecord). AreFrames program addresses all (reverse l) (in_use frames.words.items frames.top)) e h.stand.stand)

  module _ (rest : List FrameRecord) (r : FrameRecord) (there : frames.records.items ≡ rest ++ r ∷ []) where
    turned : AreFrames program addresses all (r ∷ reverse rest) (in_use frames.words.items frames.top)
    turned =
        subst (λ (l : List FrameRecord). AreFrames program addresses all l (in_use frames.words.items frames.top))
        (ap (λ (l : List FrameRecord). reverse l) there ∙ reversed_push rest r) h.stand.stand

    pub initialization_there : (own : InitializationRecord) → r ≡ records.Initializes own → NoneRuns all
    initialization_there own is =
        initialization_first program addresses all own (reverse rest) (in_use frames.words.items frames.top)
        (subst (λ (x : FrameRecord). AreFrames program addresses all (x ∷ reverse rest) (in_use frames.words.items frames.top)) is turned)

  module _ (rest : List FrameRecord) (own : MethodRecord) (there : frames.records.items ≡ rest ++ records.Runs own ∷ []) where
    pub record Newest : Type 0 where
      pub frame : Frame
      pub others : List Frame
      pub is : all ≡ frame ∷ others
      pub runs : NewestRuns program addresses frame others own (reverse rest) (in_use frames.words.items frames.top)

    pub newest : Newest
    newest =
        let t = turned rest (records.Runs own) there in
        let some = some_frame program addresses all (records.Runs own) (reverse rest) (in_use frames.words.items frames.top) t in
        record {
          frame = some.0;
          others = some.1;
          is = some.2;
          runs =
              newest_runs program addresses some.0 some.1 own (reverse rest) (in_use frames.words.items frames.top)
              (subst (λ (fs : List Frame). AreFrames program addresses fs (records.Runs own ∷ reverse rest) (in_use frames.words.items frames.top)) some.2 t);
        }

    pub code_now : IsCodeOf methods own.method program newest.runs.stands.declared newest.runs.method.method.code
    code_now = code_there program addresses newest.runs.method own _ newest.runs.under methods program.world refl h.are newest.runs.stands

    pub resumed :
        (at : Registers) (after : Frames) → record_of at ≡ own → at.top ≡ frames.top → at.code.now ≡ newest.runs.method.method.code.code
        → after ≡ record frames { records = after.records } → after.records.items ≡ rest → vec_capacity after.records ≡ vec_capacity frames.records
        → Resumed program addresses all left at after
    resumed at after own_is top_is code_is same records_are capacity =
        let n = newest in
        let s = h.stand in
        let words_are = ap (λ (f : Frames). f.words) same in
        let frames_are : all ≡ Runs n.runs.method ∷ n.others = n.is ∙ ap (λ (f : Frame). f ∷ n.others) n.runs.is in
        record {
          running = record {
            frame = n.runs.method;
            others = n.others;
            frames_are = frames_are;
            below = n.runs.under;
            current =
                subst (λ ws. MethodStands program addresses n.runs.method (record_of at) (in_use ws.items at.top) n.runs.under)
                (sym words_are)
                (subst (λ (t : ℕ). MethodStands program addresses n.runs.method (record_of at) (in_use frames.words.items t) n.runs.under)
                (sym top_is)
                (subst (λ (m : MethodRecord). MethodStands program addresses n.runs.method m (in_use frames.words.items frames.top) n.runs.under)
                (sym own_is) n.runs.stands));
            others_stand =
                subst (λ (l : List FrameRecord). AreFrames program addresses n.others (reverse l) n.runs.under) (sym records_are) n.runs.others;
            code_is = code_is;
            top_within =
                subst (λ ws. at.top ≤ length ws.items) (sym words_are)
                (subst (λ (t : ℕ). t ≤ length frames.words.items) (sym top_is) s.top_within);
            room = let a = s.room in let size = ap (λ v. length v.items) words_are in omega (arith, a, size);
          };
          rooms = record {
            left_is = s.left_is ∙ sym (ap (λ (f : Frames). f.left) same);
            room = let a = s.room in let size = ap (λ v. length v.items) words_are in omega (arith, a, size);
            few = let a = s.few in let size = ap (λ v. length v.items) words_are in omega (arith, a, size);
            records_fit = let a = s.records_fit in let size = ap (λ v. length v.items) words_are in omega (arith, a, size, capacity);
          };
        }
