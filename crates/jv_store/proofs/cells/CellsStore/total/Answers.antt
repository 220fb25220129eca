use Rattle.std.proofs.Common.{ap, sym, arith, ◌∙◌}
use Rattle.jv_store.specs.Inside.Layouts.{fill}
use Rattle.jv_store.proofs.Fills.{fill_held}
use Rattle.jv_store.proofs.cells.CellsStore.total.Goals as goal

pub returns-clause-value : goal.returns-clause-value
returns-clause-value c =
    let held = fill_held c.args.self.now.starts.items c.args.self.now.words.items (ap (fill c.args.self.now.starts.items) (sym c.args.self.now.words.ok.0) ∙ c.args.self.now.filled) in
    omega (arith, held, c.len.ensures, c.args.self.now.words.ok.0)
