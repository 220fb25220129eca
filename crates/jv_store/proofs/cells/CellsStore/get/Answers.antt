use Rattle.std.proofs.Common.{◌+◌, ◌-◌, arith, ◌∙◌}
use Rattle.std.proofs.lemmas.Grind.{get_or_default_zero}
use Rattle.jv_store.proofs.Fills.{stands}
use Rattle.jv_store.proofs.cells.CellsStore.get.Goals as goal

pub overflow_sub-address : goal.overflow_sub-address
overflow_sub-address c =
    omega (
      arith,
      (stands c.args.self.now.starts.items c.args.self.now.words.items _ c.args.address c.args.place c.args.self.now.filled c.requires).above,
    )

pub index-requires : goal.index-requires
index-requires c = omega (arith, (stands c.args.self.now.starts.items c.args.self.now.words.items _ c.args.address c.args.place c.args.self.now.filled c.requires).inside, c.args.self.now.words.ok.0)

pub returns : goal.returns
returns c =
    let there = stands c.args.self.now.starts.items c.args.self.now.words.items _ c.args.address c.args.place c.args.self.now.filled c.requires in
    c.index.ensures ∙ (get_or_default_zero c.args.self.now.words.items (c.args.address + c.args.place - 1) c.index.result.now there.inside ∙ there.read)
