-- What is said of files that are read by their names.
use Rattle.std.specs.Prelude.{ℕ, List, Option}
use Rattle.jv_program_base.specs.Disk.{Disk}
use Rattle.jv_program_base.specs.Library.{AreLibraryFiles}
use Rattle.jv_program_base.specs.declared.outcome.Outcome.{Outcome}
use Rattle.jv_program_check.specs.Named.{AreFilesAt}
use Rattle.jv_program_explain.specs.Explain.{IsExplained}
use Rattle.jv_program_explain.specs.declared.settings.ExplainSettings.{ExplainSettings}

-- the library was read, where a word names one, and the files of the names, and their verdicts are explained as those on the files of one
-- guest
pub record IsExplainedAs (disk : Option Disk) (s : ExplainSettings) (library : Option (List ℕ)) (names : List (List ℕ))
    (outcome : Outcome) : Type 0 where
  pub given : List (List ℕ)
  pub gives : AreLibraryFiles disk library given
  pub files : List (List ℕ)
  pub read : AreFilesAt disk names files
  pub explained : IsExplained s given names files outcome
