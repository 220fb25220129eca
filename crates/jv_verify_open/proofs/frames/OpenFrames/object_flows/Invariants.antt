use Rattle.std.proofs.Common.{◌≡◌, ◌<◌, ◌-◌, ℕ, true, get_or}
use Rattle.jv_stackmap.specs.declared.verification.VerificationTypeOf.TheVariants as variants
use Rattle.jv_verify_types.specs.Mapped.{names_of_types}
use Rattle.jv_verify_open.specs.Open.{holds, AreOpenAsBefore, AreWanting, FlowsToOpen}
use Rattle.jv_verify_open.proofs.frames.OpenFrames.object_flows.Given as goal

abbrev pub invariant-loop-k : goal.invariant-loop-k
invariant-loop-k l =
    ((j : ℕ) → j < l.k → holds (names_of_types l.at.types.now) l.object l.frame.locals (get_or l.places.items j 0) ≡ true
    → FlowsToOpen l.at.types.now l.at.words.now l.fn.self l.at.offset (get_or l.places.items j 0) variants.Top)
    × AreWanting l.at.types.now l.at.words.now l.self l.at.offset
    × AreOpenAsBefore l.fn.self l.self
