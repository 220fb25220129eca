use Rattle.jv_classes.proofs.OfFile.{keeps}
use Rattle.jv_classes.proofs.reading.kept_of_file.Goals as goal

pub returns : goal.returns
returns c =
    keeps c.args.file.now _
    c.major.ensures c.access_flags.ensures c.name-name.ensures c.package.ensures c.super_name.ensures c.in_ok-fields.ensures c.in_ok-methods.ensures
