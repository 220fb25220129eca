use Rattle.jv_classes.proofs.OfFile.{if_ok_so, fields_unlike, fields_kept}
use Rattle.jv_classes.proofs.reading.fields_of.Goals as goal

pub fields_in-requires-clause-unlike : goal.fields_in-requires-clause-unlike
fields_in-requires-clause-unlike c =
    fields_unlike c.args.file.now c.pool.result.now c.pool.ensures c.fields.result.now c.fields.ensures.shown c.is_well_formed.ensures.rules.unlike.fields

pub returns : goal.returns
returns c =
    if_ok_so c.fields_in.result _ _ (fields_kept c.args.file.now c.pool.result.now c.pool.ensures c.fields.result.now c.fields.ensures.shown) c.fields_in.ensures
