use Rattle.std.proofs.Common.{ap, sym, ◌∙◌, length, arith, refl}
use Rattle.jv_store.proofs.Rows.{within_row, read_row, write_row}
use Rattle.jv_store.specs.Content.{words_held}
use Rattle.jv_store.specs.Inside.Layouts.{none_empty}
use Rattle.jv_store.proofs.Contents.{words_held-written, none_empty-written}
use Rattle.jv_store.proofs.blocks.BlocksStore.set.Goals as goal

pub overflow_sub-address : goal.overflow_sub-address
overflow_sub-address c = (within_row (λ v. v.items) c.args.self.now.blocks.items c.args.address c.args.place c.requires).0

pub index_mut-requires : goal.index_mut-requires
index_mut-requires c = omega (arith, (within_row (λ v. v.items) c.args.self.now.blocks.items c.args.address c.args.place c.requires).1, c.args.self.now.blocks.ok.0)

pub index_mut-requires-2 : goal.index_mut-requires-2
index_mut-requires-2 c =
    let within = within_row (λ v. v.items) c.args.self.now.blocks.items c.args.address c.args.place c.requires in
    let same = read_row (λ v. v.items) c.args.self.now.blocks.items c.args.address c.index_mut.result.now within.0 within.1 c.index_mut.ensures.value in
    omega (arith, c.requires, ap length same, c.index_mut.result.now.ok.0)

pub invariant_of-self-clause-exact : goal.invariant_of-self-clause-exact
invariant_of-self-clause-exact c =
    let within = within_row (λ v. v.items) c.args.self.now.blocks.items c.args.address c.args.place c.requires in
    let after = write_row (λ v. v.items) c.args.self.now.blocks.items c.args.address c.args.place c.args.word c.index_mut.result.now _ within.0 within.1 c.index_mut.ensures.value refl in
    c.args.self.now.exact ∙ (sym (words_held-written _ c.args.address c.args.place c.args.word) ∙ ap words_held (sym after))

pub returns-clause-content : goal.returns-clause-content
returns-clause-content c =
    let within = within_row (λ v. v.items) c.args.self.now.blocks.items c.args.address c.args.place c.requires in
    write_row (λ v. v.items) c.args.self.now.blocks.items c.args.address c.args.place c.args.word c.index_mut.result.now _ within.0 within.1 c.index_mut.ensures.value refl

pub invariant_of-self-clause-solid : goal.invariant_of-self-clause-solid
invariant_of-self-clause-solid c =
    let within = within_row (λ v. v.items) c.args.self.now.blocks.items c.args.address c.args.place c.requires in
    let after = write_row (λ v. v.items) c.args.self.now.blocks.items c.args.address c.args.place c.args.word c.index_mut.result.now _ within.0 within.1 c.index_mut.ensures.value refl in
    ap none_empty after ∙ (none_empty-written _ c.args.address c.args.place c.args.word ∙ c.args.self.now.solid)
