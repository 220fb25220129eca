-- What is found of the methods of a class (JVMS 4.10).
use Rattle.std.specs.Prelude.{Option, Some, None}
use Rattle.jv_meaning_world.specs.World.{Loaded, World}
use Rattle.jv_meaning_typing.specs.declared.verdict.VerifyFault.{VerifyFault}
use Rattle.jv_meaning_typing.specs.Judgement.{AreTyped, IsFirstFault}

-- the first rule that the first ill-typed method breaks, and where; none where each method with code has a typing
abbrev pub AreJudged : World → Loaded → Option VerifyFault → Type 0
AreJudged world l None = AreTyped world l l.class.methods
AreJudged world l (Some fault) = IsFirstFault world l fault
