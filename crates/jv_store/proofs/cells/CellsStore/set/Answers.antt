use Rattle.std.proofs.Common.{arith}
use Rattle.jv_store.proofs.Fills.{stands}
use Rattle.jv_store.proofs.cells.CellsStore.set.Goals as goal

pub overflow_sub-address : goal.overflow_sub-address
overflow_sub-address c =
    omega (
      arith,
      (stands c.args.self.now.starts.items c.args.self.now.words.items _ c.args.address c.args.place c.args.self.now.filled c.requires).above,
    )

pub index_mut-requires : goal.index_mut-requires
index_mut-requires c =
    omega (
      arith,
      (stands c.args.self.now.starts.items c.args.self.now.words.items _ c.args.address c.args.place c.args.self.now.filled
          c.requires).inside,
      c.args.self.now.words.ok.0,
    )

pub returns-clause-content : goal.returns-clause-content
returns-clause-content c = (stands c.args.self.now.starts.items c.args.self.now.words.items _ c.args.address c.args.place c.args.self.now.filled c.requires).write c.args.word
