-- A law of the worlds that guests run in: the types of their values have an order (JVMS 4.10.1.2).
use Rattle.std.specs.Prelude.{ℕ, List}
use Rattle.jv_meaning_world.specs.Laws.Order.{IsRooted}
use Rattle.jv_meaning_machine.specs.Alone.{Judged, IsJudged}

-- java/lang/Object is at the top of the world of any library and files, so that the laws of the order of types hold there.
abbrev pub JudgedIsRooted : Type 0
JudgedIsRooted = (library files : List (List ℕ)) (judged : Judged) → IsJudged library files judged → IsRooted judged.program.world
