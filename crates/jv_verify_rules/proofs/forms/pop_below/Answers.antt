use Rattle.std.proofs.Common.{ap}
use Rattle.std.specs.Option.{option_map}
use Rattle.jv_meaning_typing.specs.StackForms.{item_before}
use Rattle.jv_verify_types.specs.Typed.{typed}
use Rattle.jv_verify_rules.proofs.forms.pop_below.Goals as goal

pub returns-in-Some : goal.returns-in-Some
returns-in-Some c = λ names. (ap (option_map (item_before (typed names c.args.first))) (c.in-Some.ensures names).0, (c.in-Some.ensures names).1)
