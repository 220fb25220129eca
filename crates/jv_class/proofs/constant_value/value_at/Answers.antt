use Rattle.std.proofs.Common.{sym, ap, ◌∙◌, Some}
use Rattle.jv_class.proofs.Values.{string_there}
use Rattle.jv_class.proofs.constant_value.value_at.Goals as goal

pub returns-in-Some-String-clause-named : goal.returns-in-Some-String-clause-named
returns-in-Some-String-clause-named c = string_there c.args.pool.now c.args.index c.requires (sym c.kind.ensures ∙ c.in-Some-String.is ∙ ap Some c.in-Some-String.field-0-is)
