use Rattle.std.proofs.Common.{None, Some}
use Rattle.jv_link_cache.specs.Inside.Selections.{IsEntry}
use Rattle.jv_link_cache.proofs.Rowed.{rows_keep}
use Rattle.jv_link_cache.proofs.selections.keep_selection.Goals as goal

pub returns : goal.returns
returns c = λ world how are right. rows_keep (λ row place. IsEntry world how) None (Some c.args.entry) _ _ _ _ (λ number at. tt) right are c.keep.ensures
