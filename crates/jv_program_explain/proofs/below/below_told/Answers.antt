use Rattle.std.proofs.Common.{Bool, sym, subst}
use Rattle.std.specs.Prelude.{string_bytes}
use Rattle.std.proofs.lemmas.Result.{IfOk-weaker}
use Rattle.jv_program_explain.specs.Explain.{IsAsked, TellsBelow}
use Rattle.jv_program_explain.proofs.below.below_told.Goals as goal

pub returns-then-asked : goal.returns-then-asked
returns-then-asked c =
    IfOk-weaker c.list_below.result _ _
    (λ text h why content is stands.
    subst (λ (b : Bool). IsAsked b (TellsBelow c.args.classes.now.world content c.args.verdict) (string_bytes text)) (sym c.if-asked.true) (h why content is stands))
    c.list_below.ensures

pub returns-else-asked : goal.returns-else-asked
returns-else-asked c = λ why content is stands.
    subst (λ (b : Bool). IsAsked b (TellsBelow c.args.classes.now.world content c.args.verdict) (string_bytes c.new.result)) (sym c.if-asked.false) c.new.ensures.bytes
