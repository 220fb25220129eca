use Rattle.std.proofs.Common.{sym, ◌∙◌}
use Rattle.std.specs.Prelude.{string_bytes}
use Rattle.std.proofs.lemmas.Result.{IfOk-weaker}
use Rattle.jv_program_explain.proofs.BelowFaults.{listed_at_none, listed_at_place}
use Rattle.jv_program_explain.proofs.below.below_at.Goals as goal

pub returns-then-not-is_at_instruction : goal.returns-then-not-is_at_instruction
returns-then-not-is_at_instruction c = λ l at.
    listed_at_none c.args.classes.now.world l c.args.fault (string_bytes c.new.result) c.args.fault.rule (sym c.if-not-is_at_instruction.ensures) c.new.ensures.bytes

pub below_in-requires-clause-instruction : goal.below_in-requires-clause-instruction
below_in-requires-clause-instruction c = sym c.is_at_instruction.ensures ∙ c.if-not-is_at_instruction.false

pub returns-in-Some : goal.returns-in-Some
returns-in-Some c =
    IfOk-weaker c.below_in.result _ _
    (λ text told l at. listed_at_place c.args.classes.now.world l c.args.fault (string_bytes text) c.args.fault.rule
    (sym c.is_at_instruction.ensures ∙ c.if-not-is_at_instruction.false) (told l at))
    c.below_in.ensures
