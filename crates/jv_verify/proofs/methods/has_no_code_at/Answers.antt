use Rattle.std.specs.Prelude.{slice_get}
use Rattle.jv_class_structure.specs.Parts.{methods_of}
use Rattle.jv_class_structure.specs.Seen.{seen_method}
use Rattle.jv_verify.proofs.Shown.{none_at}
use Rattle.jv_verify.proofs.methods.has_no_code_at.Goals as goal

pub returns-in-Some : goal.returns-in-Some
returns-in-Some c = none_at (slice_get (methods_of c.args.file.now) c.args.place) (seen_method c.in-Some.method) c.has_code.result c.in-Some.ensures.shown c.has_code.ensures
