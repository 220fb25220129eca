-- What is said of folders that have been read.
use Rattle.std.proofs.Common.{◌≡◌, ℕ, List, Option, Result, Ok, Err, map, subst, sym}
use Rattle.std.specs.Prelude.{IfErr, IfOk}
use Rattle.jv_program_base.specs.declared.failure.Failure.{Failure}
use Rattle.jv_program_base.specs.declared.folder.Folder.{Folder}
use Rattle.jv_program_base.specs.declared.outcome.Outcome.{Outcome}
use Rattle.jv_program_run.specs.declared.settings.RunSettings.{RunSettings}
use Rattle.jv_program_base.specs.Disk.{Disk}
use Rattle.jv_program_base.specs.Library.{AreLibraryFiles}
use Rattle.jv_program_run.specs.Guests.{named_guest}
use Rattle.jv_program_run.specs.Named.{AreFoldersOf, AreReady, AreTaken, IsRunAs, IsRunFailure, reads_all}
use Rattle.jv_program_run.specs.Outcome.{IsGuestsFailure, IsRunOutcome}
use Rattle.jv_program_run.proofs.NotRun.{not_run}

module _ (disk : Option Disk) (s : RunSettings) (library : Option (List ℕ)) (words given : List (List ℕ)) (folders was now ran : List Folder)
    (before middle after : Option (List ℕ)) (taken : AreTaken s words) (gives : AreLibraryFiles disk library given) (read : AreFoldersOf disk words folders)
    (same : was ≡ folders) (kept : ran ≡ now)
    (ready : AreReady (reads_all s) (map (named_guest given) was) (map (named_guest given) now) before middle) where
  ready_here : AreReady (reads_all s) (map (named_guest given) folders) (map (named_guest given) ran) before middle
  ready_here =
      subst (λ (l : List Folder). AreReady (reads_all s) (map (named_guest given) folders) (map (named_guest given) l) before middle) (sym kept)
      (subst (λ (l : List Folder). AreReady (reads_all s) (map (named_guest given) l) (map (named_guest given) now) before middle) same ready)

  pub ran_as : (result : Result Outcome Failure) → IfOk result (IsRunOutcome s (map (named_guest given) ran) middle after)
      → IfOk result (IsRunAs disk s library words before after)
  ran_as (Err failure) h = tt
  ran_as (Ok outcome) h = record {
    taken = taken;
    given = given;
    gives = gives;
    folders = folders;
    read = read;
    guests = map (named_guest given) ran;
    middle = middle;
    ready = ready_here;
    ran = h;
  }

  pub failed_as : (result : Result Outcome Failure) → IfErr result (IsGuestsFailure s (map (named_guest given) ran) middle after)
      → IfErr result (IsRunFailure disk s library words before after)
  failed_as (Ok outcome) h = tt
  failed_as (Err failure) h =
      not_run disk s library words taken given folders (map (named_guest given) ran) before middle after failure gives read ready_here h
