use Rattle.std.proofs.Common.{rules}
use Rattle.jv_class.proofs.Keys.{fields_there}
use Rattle.jv_class.proofs.alike.shown_are_unlike.Goals as goal

pub fields_are_unlike-requires : goal.fields_are_unlike-requires
fields_are_unlike-requires c = fields_there c.args.parts.now c.pool.result.now c.fields.result.now c.pool.ensures c.fields.ensures c.requires

pub returns-clause-ok : goal.returns-clause-ok
returns-clause-ok c = search rules
