use Rattle.std.proofs.Common.{ap, sym, ◌∙◌}
use Rattle.std.specs.Option.{option_map}
use Rattle.jv_class_structure.specs.Seen.{seen_method}
use Rattle.jv_beyond.proofs.InOrder.{no_code_at}
use Rattle.jv_beyond.proofs.finding.instruction_at.Goals as goal

pub returns-in-None : goal.returns-in-None
returns-in-None c =
    no_code_at c.args.parts.now c.args.place (seen_method c.in-Some.method)
    (sym c.method.ensures ∙ ap (option_map seen_method) c.in-Some.is) ((c.in-None.ensures {u = tt}).none)
