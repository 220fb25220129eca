use Rattle.std.proofs.Common.{rules}
use Rattle.jv_loader.proofs.Fitting.{all_fit}
use Rattle.jv_loader.proofs.throwables.put_throwable_files.Goals as goal

pub put_files-requires : goal.put_files-requires
put_files-requires c = search (rules, all_fit)

pub returns : goal.returns
returns c = search rules
