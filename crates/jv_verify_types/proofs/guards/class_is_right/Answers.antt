use Rattle.jv_verify_types.proofs.Protecting.{file_is_right}
use Rattle.jv_verify_types.proofs.guards.class_is_right.Goals as goal

pub returns-in-Some : goal.returns-in-Some
returns-in-Some c = file_is_right c.in-Some.file.now c.args.class.now.class c.is_well_formed.ensures c.in-Some.ensures.file
