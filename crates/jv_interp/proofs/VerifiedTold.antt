-- The classes that the machine takes for verified are told.
use Rattle.std.proofs.Common.{◌≡◌, ℕ, ◌+◌, Bool, List, length, sym, subst}
use Rattle.jv_meaning_world.specs.Library.{with_library}
use Rattle.jv_meaning_world.specs.World.{World}
use Rattle.jv_meaning_world.specs.Numbers.{IsNumbered}
use Rattle.jv_meaning_machine.specs.State.{is_class_accepted}
use Rattle.jv_meaning_machine.specs.Alone.{Judged, IsJudged}
use Rattle.jv_interp_control.specs.Moves.{AreVerified}
use Rattle.jv_interp.specs.VerifiedClasses.{accepted_by, TellWithAbove}
use Rattle.jv_interp.proofs.AcceptedClasses.{judged_told}

pub verified_told :
    (library files : List (List ℕ)) (judged : Judged) (world : World) (flags all : List Bool) (is : IsJudged library files judged)
    → judged.program.world ≡ world
    → flags ≡ accepted_by (length (with_library is.given).system + length (with_library is.given).front) judged.verdicts → IsNumbered world
    → TellWithAbove world flags all → AreVerified judged.program all
verified_told library files judged world flags all is world_is flags_are numbered told =
    told_there (subst IsNumbered (sym world_is) numbered)
    (subst (λ (w : World). TellWithAbove w (accepted_by given judged.verdicts) all) (sym world_is)
    (subst (λ (bs : List Bool). TellWithAbove world bs all) flags_are told))
  where
    given : ℕ
    given = length (with_library is.given).system + length (with_library is.given).front

    told_there :
        IsNumbered judged.program.world → TellWithAbove judged.program.world (accepted_by given judged.verdicts) all → AreVerified judged.program all
    told_there numbers tells = tells (is_class_accepted judged.program) (judged_told library files judged is numbers)
