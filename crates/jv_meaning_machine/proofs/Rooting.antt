-- The world of any library and any files is rooted.
use Rattle.std.specs.Prelude.{ℕ, List}
use Rattle.std.proofs.Common.{sym, subst}
use Rattle.jv_meaning_world.specs.Laws.Order.{IsRooted}
use Rattle.jv_meaning_world.proofs.OrderWorlds.{files_are_rooted}
use Rattle.jv_meaning_machine.specs.Alone.{Judged, IsJudged}

pub judged_is_rooted : (library files : List (List ℕ)) (judged : Judged) → IsJudged library files judged → IsRooted judged.program.world
judged_is_rooted library files judged right =
    subst IsRooted (sym right.world) (files_are_rooted library right.given right.gives right.contents files right.held)
