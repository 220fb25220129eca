use Rattle.std.proofs.Common.{ℕ, None, Some, subst, sym}
use Rattle.jv_link_cache.specs.Inside.Methods.{IsEntry, IsFound}
use Rattle.jv_link_cache.proofs.Rowed.{rows_keep}
use Rattle.jv_link_cache.proofs.methods.found_and_kept.Goals as goal

pub returns-clause-rows : goal.returns-clause-rows
returns-clause-rows c =
    rows_keep (IsEntry c.args.table.now) None (Some c.found_anew-found.result) c.args.class c.from.result _ _ (λ number at. tt)
    (subst (λ (n : ℕ). IsFound c.args.table.now c.args.class n c.found_anew-found.result) (sym c.from.ensures) c.found_anew-found.ensures)
    c.requires.rows c.keep.ensures
