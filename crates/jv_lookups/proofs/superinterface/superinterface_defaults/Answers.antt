use Rattle.jv_lookups.proofs.Defaulting.{defaults_of_specifics}
use Rattle.jv_lookups.proofs.superinterface.superinterface_defaults.Goals as goal

pub returns-clause-found : goal.returns-clause-found
returns-clause-found c =
    defaults_of_specifics c.args.table.now c.args.from c.args.searched.now c.args.name.now c.args.descriptor.now c.all_specifics.result c.all_specifics.ensures.found
