use Rattle.std.proofs.Common.{ap, sym, ◌<◌, ◌∙◌, get_or, length, arith}
use Rattle.std.proofs.lemmas.Grind.{get_or_default_zero}
use Rattle.jv_store.proofs.Rows.{within_row, read_row}
use Rattle.jv_store.proofs.blocks.BlocksStore.get.Goals as goal

pub overflow_sub-address : goal.overflow_sub-address
overflow_sub-address c = (within_row (λ v. v.items) c.args.self.now.blocks.items c.args.address c.args.place c.requires).0

pub index-requires : goal.index-requires
index-requires c = omega (arith, (within_row (λ v. v.items) c.args.self.now.blocks.items c.args.address c.args.place c.requires).1, c.args.self.now.blocks.ok.0)

pub index-requires-2 : goal.index-requires-2
index-requires-2 c =
    let within = within_row (λ v. v.items) c.args.self.now.blocks.items c.args.address c.args.place c.requires in
    let same = read_row (λ v. v.items) c.args.self.now.blocks.items c.args.address c.index.result.now within.0 within.1 c.index.ensures in
    omega (arith, c.requires, ap length same, c.index.result.now.ok.0)

pub returns : goal.returns
returns c =
    let within = within_row (λ v. v.items) c.args.self.now.blocks.items c.args.address c.args.place c.requires in
    let same = read_row (λ v. v.items) c.args.self.now.blocks.items c.args.address c.index.result.now within.0 within.1 c.index.ensures in
    let inside : c.args.place < length c.index.result.now.items = omega (arith, c.requires, ap length same) in
    c.index-2.ensures ∙ (get_or_default_zero c.index.result.now.items c.args.place c.index-2.result.now inside ∙ ap (λ l. get_or l c.args.place 0) (sym same))
