-- How far a run is, as it is told.
use Rattle.std.specs.Prelude.{ℕ, List, ◌++◌, codes}
use Rattle.std.specs.Fmt.{decimal}
use Rattle.jv_host.specs.declared.watch.Progress.{Progress}

abbrev pub progress_text : Progress → List ℕ
progress_text progress =
    codes "rounds " ++ decimal progress.rounds ++ codes ", steps " ++ decimal progress.steps
    ++ codes ", running " ++ decimal progress.running
