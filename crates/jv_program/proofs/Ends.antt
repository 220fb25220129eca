-- How the program ends.
use Rattle.std.proofs.Common.{◌≡◌, ◌≢◌, ◌⊎◌, ℕ, Bool, true, false, List, Option, None, Result, Ok, Err, refl, sym, subst, ◌∙◌, inl, inr}
use Rattle.std.specs.Prelude.{IfErr, IfOk, IsErrAnd, IsOk, IsTrue, OnErr, OnOk}
use Rattle.std.specs.Io.KnownBytes.{Appends}
use Rattle.std.proofs.KnownBytes.{Appends-trans}
use Rattle.clap.specs.Values.{kind_of}
use Rattle.clap.specs.Words.{IsAmong, fault_of}
use Rattle.clap.specs.declared.error.Error.{Error}
use Rattle.clap.specs.declared.error.kind.ErrorKind.{ErrorKind}
use Rattle.clap.specs.declared.error.kind.ErrorKind.TheVariants as kinds
use Rattle.jv_program_base.specs.Disk.{Disk}
use Rattle.jv_program_check.specs.Named.{IsNamedFailure}
use Rattle.jv_program_base.specs.Failure.{failure_line}
use Rattle.jv_program_base.specs.declared.failure.Failure.{Failure}
use Rattle.jv_program_base.specs.declared.outcome.Outcome.{Outcome}
use Rattle.jv_program_run.specs.Named.{IsRunFailure}
use Rattle.jv_program_words.specs.declared.asked.ExplainOptions.{ExplainOptions}
use Rattle.jv_program_words.specs.declared.asked.RunOptions.{RunOptions}
use Rattle.jv_program_words.specs.Settings.Asked.{run, check, explain}
use Rattle.jv_program_words.specs.CommandLine.{command_line}
use Rattle.jv_program_words.specs.Settings.{AskFor, AskForHelp, AreRefused}
use Rattle.jv_program.specs.Command.{AreWrong, AskForCompany, HasEnded, IsReport, IsToldBeside, settings_of, streams}
use Rattle.jv_program.specs.Inside.Stops.{IsCarriedOut, IsEarly}
use Rattle.jv_program.specs.Status.{HasStatus, IsAsked, IsStatusOf, output_line}
use Rattle.jv_program.specs.Written.{IsWritten, WritesCut, WritesFront, beside_of, shown_of}
use Rattle.jv_program.specs.declared.stop.Stop.{Stop}
use Rattle.jv_program.specs.declared.stop.Stop.TheVariants.{CommandLine, Run, Output}

-- words ask for help or the version, or they don't
asked_or_not : (kind : ErrorKind) → ((kind ≡ kinds.DisplayHelp) ⊎ (kind ≡ kinds.DisplayVersion)) ⊎ ((kind ≢ kinds.DisplayHelp) × (kind ≢ kinds.DisplayVersion))
asked_or_not kinds.DisplayHelp = inl (inl refl)
asked_or_not kinds.DisplayVersion = inl (inr refl)
asked_or_not kinds.InvalidValue = inr (λ e. cc, λ e. cc)
asked_or_not kinds.UnknownArgument = inr (λ e. cc, λ e. cc)
asked_or_not kinds.InvalidSubcommand = inr (λ e. cc, λ e. cc)
asked_or_not kinds.NoEquals = inr (λ e. cc, λ e. cc)
asked_or_not kinds.ValueValidation = inr (λ e. cc, λ e. cc)
asked_or_not kinds.TooManyValues = inr (λ e. cc, λ e. cc)
asked_or_not kinds.TooFewValues = inr (λ e. cc, λ e. cc)
asked_or_not kinds.WrongNumberOfValues = inr (λ e. cc, λ e. cc)
asked_or_not kinds.ArgumentConflict = inr (λ e. cc, λ e. cc)
asked_or_not kinds.MissingRequiredArgument = inr (λ e. cc, λ e. cc)
asked_or_not kinds.MissingSubcommand = inr (λ e. cc, λ e. cc)
asked_or_not kinds.DisplayHelpOnMissingArgumentOrSubcommand = inr (λ e. cc, λ e. cc)
asked_or_not kinds.Io = inr (λ e. cc, λ e. cc)
asked_or_not kinds.Format = inr (λ e. cc, λ e. cc)
asked_or_not kinds.OutOfMemory = inr (λ e. cc, λ e. cc)

-- words that are refused with help or the version ask for them
help_asked : (line : List (List ℕ)) (error : Error) → AreRefused line error
    → (kind_of error ≡ kinds.DisplayHelp) ⊎ (kind_of error ≡ kinds.DisplayVersion) → AskForHelp line
help_asked line error (inl (inl memory)) (inl help) = let none : kinds.OutOfMemory ≡ kinds.DisplayHelp = sym memory ∙ help in cc
help_asked line error (inl (inl memory)) (inr version) = let none : kinds.OutOfMemory ≡ kinds.DisplayVersion = sym memory ∙ version in cc
help_asked line error (inl (inr among)) (inl help) =
    inl (subst (λ (kind : ErrorKind). IsAmong kind (fault_of command_line line)) help among)
help_asked line error (inl (inr among)) (inr version) =
    inr (subst (λ (kind : ErrorKind). IsAmong kind (fault_of command_line line)) version among)
help_asked line error (inr nothing) (inl help) = let none : kinds.ValueValidation ≡ kinds.DisplayHelp = sym nothing.2 ∙ help in cc
help_asked line error (inr nothing) (inr version) =
    let none : kinds.ValueValidation ≡ kinds.DisplayVersion = sym nothing.2 ∙ version in cc

-- what was told: nothing on the output, but where words ask for it; and with the errors the line of a failure, or of an output that is lost
pub record IsToldOf (sure : Bool) (mid new e0 e1 : Option (List ℕ)) (stop : Stop) : Type 0 where
  pub quiet : (IsAsked stop → ⊥) → new ≡ mid
  pub calm : IsAsked stop → e1 ≡ e0
  pub failure : (failure : Failure) → stop ≡ Run failure → (IsTrue sure → Appends e0 e1 (failure_line failure)) × WritesFront e0 e1 (failure_line failure)
  pub output : stop ≡ Output → (IsTrue sure → Appends e0 e1 output_line) × WritesFront e0 e1 output_line

on_ok : {T E P : Type 0} (result : Result T E) → OnOk result P → IsOk result → P
on_ok (Ok t) p ok = p
on_ok (Err e) p ok = absurd (cc)

-- a line that was written, where no write fails the whole of it
line_told : {T E : Type 0} (sure : Bool) (e0 e1 told : Option (List ℕ)) (line : List ℕ) (result : Result T E) → e1 ≡ told → (IsTrue sure → IsOk result)
    → IsWritten result e0 told line → (IsTrue sure → Appends e0 e1 line) × WritesFront e0 e1 line
line_told sure e0 e1 told line result same is_sure written = (
  λ yes. subst (λ e. Appends e0 e line) (sym same) (on_ok result written.0 (is_sure yes)),
  subst (λ e. WritesFront e0 e line) (sym same) written.1,
)

-- what `tell` says
pub told_of : {T E : Type 0} (sure : Bool) (mid new e0 e1 told : Option (List ℕ)) (stop : Stop) (result : Result T E) → e1 ≡ told
    → ((IsAsked stop → ⊥) → new ≡ mid) → (IsAsked stop → told ≡ e0)
    → ((failure : Failure) → stop ≡ Run failure → IsWritten result e0 told (failure_line failure)) → (stop ≡ Output → IsWritten result e0 told output_line)
    → ((IsAsked stop → ⊥) → IsTrue sure → IsOk result) → IsToldOf sure mid new e0 e1 stop
told_of sure mid new e0 e1 told stop result same quiet calm failure output is_sure = record {
  quiet = quiet;
  calm = λ asked. same ∙ calm asked;
  failure = λ f e. line_told sure e0 e1 told (failure_line f) result same (is_sure (λ h. subst IsAsked e h)) (failure f e);
  output = λ e. line_told sure e0 e1 told output_line result same (is_sure (λ h. subst IsAsked e h)) (output e);
}

abbrev pub IsToldAfter : Bool → Option (List ℕ) → Option (List ℕ) → Option (List ℕ) → Option (List ℕ) → Result Outcome Stop → Type 0
IsToldAfter sure mid new e1 e2 (Ok outcome) = (new ≡ mid) × (e2 ≡ e1)
IsToldAfter sure mid new e1 e2 (Err stop) = IsToldOf sure mid new e1 e2 stop

-- with nothing, or with what goes to the output or a part of it; behind that something may be told
stopped : (disk : Option Disk) (so se : Bool) (line : List (List ℕ)) (b0 b1 old mid new e0 e1 e2 : Option (List ℕ)) (stop : Stop) (status : ℕ)
    → IsCarriedOut disk so se line (streams b0 old e0) (streams b1 mid e1) (Err stop) → IsToldOf se mid new e1 e2 stop
    → HasStatus stop status → HasEnded disk so se line (streams b0 old e0) (streams b1 new e2) status
stopped disk so se line b0 b1 old mid new e0 e1 e2 (CommandLine error) status done told is =
    elim (asked_or_not (kind_of error)) [
      | inl asked ↦
          inr (inr (inr (record {
            asked = help_asked line error done.0.0 asked;
            unread = done.0.2;
            quiet = told.calm asked ∙ done.2;
            ends = is.asked asked;
          })))
      | inr not ↦
          let same : new ≡ mid = told.quiet (λ h. elim h [ inl help ↦ not.0 help | inr version ↦ not.1 version ]) in
          let wrong : AreWrong line b0 b1 =
          record { error = error; refused = done.0.0; no_help = not.0; no_version = not.1; had_memory = done.0.1; unread = done.0.2 } in
          inr (inr (inl (record { nothing = same ∙ done.1; why = inl (wrong, is.wrong not.0 not.1) })))
    ]
stopped disk so se line b0 b1 old mid new e0 e1 e2 (Run failure) status done told is =
    inr (inr (inl (record {
      nothing = told.quiet (λ h. h) ∙ done.1;
      why = inr (record {
        failure = failure;
        why = done.0;
        told = λ yes. subst (λ e. Appends e e2 (failure_line failure)) done.2 ((told.failure failure refl).0 yes);
        front = subst (λ e. WritesFront e e2 (failure_line failure)) done.2 (told.failure failure refl).1;
        ends = is;
      });
    })))
stopped disk so se line b0 b1 old mid new e0 e1 e2 Output status done told is =
    let same : new ≡ mid = told.quiet (λ h. h) in
    inr (inl (record {
      outcome = done.0;
      report = done.1;
      front = subst (λ (o : Option (List ℕ)). WritesCut old o (shown_of done.0)) (sym same) done.2;
      unsure = done.3;
      told = λ yes. Appends-trans e0 e1 e2 (beside_of done.0) output_line (done.4.told yes) ((told.output refl).0 yes);
      between = e1;
      fronts = (done.4.front, (told.output refl).1);
      ends = is;
    }))

-- what ends the program before anything is written
pub early : (disk : Option Disk) (so se : Bool) (line : List (List ℕ)) (b0 b1 old e0 : Option (List ℕ)) (stop : Stop) → IsEarly disk line b0 b1 stop
    → IsCarriedOut disk so se line (streams b0 old e0) (streams b1 old e0) (Err stop)
early disk so se line b0 b1 old e0 (CommandLine error) h = (h, refl, refl)
early disk so se line b0 b1 old e0 (Run failure) h = (h, refl, refl)
early disk so se line b0 b1 old e0 Output h = absurd h

pub early_result : (disk : Option Disk) (so se : Bool) (line : List (List ℕ)) (b0 b1 old e0 : Option (List ℕ)) (result : Result Outcome Stop) (stop : Stop)
    → IsErrAnd result (λ e. e ≡ stop) → IsEarly disk line b0 b1 stop → IsCarriedOut disk so se line (streams b0 old e0) (streams b1 old e0) result
early_result disk so se line b0 b1 old e0 (Ok outcome) stop is h = absurd is
early_result disk so se line b0 b1 old e0 (Err e) stop is h =
    subst (λ (s : Stop). IsCarriedOut disk so se line (streams b0 old e0) (streams b1 old e0) (Err s)) (sym is) (early disk so se line b0 b1 old e0 stop h)

not_sure : (so : Bool) (result : Result Outcome Stop) (stop : Stop) → result ≡ Err stop → (IsTrue so → IsOk result) → so ≡ false
not_sure false result stop is sure = refl
not_sure true result stop is sure = absurd (let no = subst IsOk is (sure refl) in cc)

-- what goes to the output is written, and the report told before where it has no place there
pub written : (disk : Option Disk) (so se : Bool) (line : List (List ℕ)) (b0 b1 old new e0 e1 : Option (List ℕ)) (outcome : Outcome) (result : Result Outcome Stop)
    → IsReport disk line b0 b1 outcome → (IsTrue se → Appends e0 e1 (beside_of outcome)) → WritesFront e0 e1 (beside_of outcome) → (outcome.raw ≡ None → e1 ≡ e0)
    → OnOk result (Appends old new (shown_of outcome)) → IfOk result (λ w. w ≡ outcome) → OnErr result (WritesCut old new (shown_of outcome))
    → IfErr result (λ stop. stop ≡ Output) → (IsTrue so → IsOk result) → IsCarriedOut disk so se line (streams b0 old e0) (streams b1 new e1) result
written disk so se line b0 b1 old new e0 e1 outcome (Ok w) report told front quiet whole same cut lost sure =
    let beside : IsToldBeside se (streams b0 old e0) (streams b1 new e1) outcome = record { told = told; front = front; quiet = quiet } in
    subst (λ (o : Outcome). IsReport disk line b0 b1 o × Appends old new (shown_of o) × IsToldBeside se (streams b0 old e0) (streams b1 new e1) o) (sym same)
    (report, whole, beside)
written disk so se line b0 b1 old new e0 e1 outcome (Err stop) report told front quiet whole same cut lost sure =
    let beside : IsToldBeside se (streams b0 old e0) (streams b1 new e1) outcome = record { told = told; front = front; quiet = quiet } in
    subst (λ (s : Stop). IsCarriedOut disk so se line (streams b0 old e0) (streams b1 new e1) (Err s)) (sym lost)
    (outcome, report, cut, not_sure so (Err stop) stop refl sure, beside)

-- with a report and nothing more to tell, or without one
pub ended : (disk : Option Disk) (so se : Bool) (line : List (List ℕ)) (b0 b1 old mid new e0 e1 e2 : Option (List ℕ)) (end : Result Outcome Stop) (status : ℕ)
    → IsCarriedOut disk so se line (streams b0 old e0) (streams b1 mid e1) end → IsToldAfter se mid new e1 e2 end → IsStatusOf end status
    → HasEnded disk so se line (streams b0 old e0) (streams b1 new e2) status
ended disk so se line b0 b1 old mid new e0 e1 e2 (Ok outcome) status done told is =
    inl (record {
      outcome = outcome;
      report = done.0;
      written = subst (λ (o : Option (List ℕ)). Appends old o (shown_of outcome)) (sym told.0) done.1;
      beside = record {
        told = λ yes. subst (λ e. Appends e0 e (beside_of outcome)) (sym told.1) (done.2.told yes);
        front = subst (λ e. WritesFront e0 e (beside_of outcome)) (sym told.1) done.2.front;
        quiet = λ none. told.1 ∙ done.2.quiet none;
      };
      ends = is;
    })
ended disk so se line b0 b1 old mid new e0 e1 e2 (Err stop) status done told is = stopped disk so se line b0 b1 old mid new e0 e1 e2 stop status done told is

-- ---- what is not asked for

not_so : (b : Bool) → (b ≡ true → ⊥) → b ≡ false
not_so true refused = absurd (refused refl)
not_so false refused = refl

-- where nothing is to be told besides, neither option is there
pub alone : (line : List (List ℕ)) (options : RunOptions) (library : Option (List ℕ)) (folders : List (List ℕ)) → AskFor line (run options library folders) → (AskForCompany line → ⊥)
    → (options.progress ≡ false) × (options.time ≡ false)
alone line options library folders asked none = (
  not_so options.progress (λ yes. none (options, library, folders, asked, inl yes)),
  not_so options.time (λ yes. none (options, library, folders, asked, inr yes)),
)

-- ---- why there is no report

module _ (disk : Option Disk) (line : List (List ℕ)) (b0 b1 : Option (List ℕ)) where
  pub run_failed : (options : RunOptions) (library : Option (List ℕ)) (folders : List (List ℕ)) (failure : Failure) → AskFor line (run options library folders)
      → IsRunFailure disk (settings_of options) library folders b0 b1 failure → IsEarly disk line b0 b1 (Run failure)
  run_failed options library folders failure asked failed =
      inl (record { options = options; library = library; folders = folders; asked = asked; failed = failed })

  pub check_failed : (json : Bool) (library : Option (List ℕ)) (names : List (List ℕ)) (failure : Failure) → AskFor line (check json library names)
      → IsNamedFailure disk library names failure → b1 ≡ b0 → IsEarly disk line b0 b1 (Run failure)
  check_failed json library names failure asked failed unread =
      inr (inl (record { library = library; names = names; asked = inl (json, asked); failed = failed; unread = unread }))

  pub explain_failed : (options : ExplainOptions) (library : Option (List ℕ)) (names : List (List ℕ)) (failure : Failure) → AskFor line (explain options library names)
      → IsNamedFailure disk library names failure → b1 ≡ b0 → IsEarly disk line b0 b1 (Run failure)
  explain_failed options library names failure asked failed unread =
      inr (inl (record { library = library; names = names; asked = inr (options, asked); failed = failed; unread = unread }))
