use Rattle.std.proofs.Common.{sym, arith}
use Rattle.jv_store.proofs.Contents.{newest_solid}
use Rattle.jv_store.proofs.Rows.{within_row, last_row}
use Rattle.jv_store.proofs.blocks.BlocksStore.take_back.Goals as goal

pub overflow_sub-self : goal.overflow_sub-self
overflow_sub-self c =
    let within = within_row (λ v. v.items) c.args.self.now.blocks.items c.args._address 0 (omega (arith, c.requires.some, c.requires.length)) in
    let there = c.pop-newest.ensures.variant.1 (omega (arith, within.1, c.args.self.now.blocks.ok.0)) in
    let newest = last_row (λ v. v.items) c.args.self.now.blocks.items c.pop-newest.new.self.items c.pop-newest.result c.args._address c.pop-newest.ensures.items there c.requires.newest in
    omega (arith, newest.held, c.args.self.now.exact, c.requires.length)

pub invariant_of-self-clause-exact : goal.invariant_of-self-clause-exact
invariant_of-self-clause-exact c =
    let within = within_row (λ v. v.items) c.args.self.now.blocks.items c.args._address 0 (omega (arith, c.requires.some, c.requires.length)) in
    let there = c.pop-newest.ensures.variant.1 (omega (arith, within.1, c.args.self.now.blocks.ok.0)) in
    let newest = last_row (λ v. v.items) c.args.self.now.blocks.items c.pop-newest.new.self.items c.pop-newest.result c.args._address c.pop-newest.ensures.items there c.requires.newest in
    omega (arith, newest.held, c.args.self.now.exact, c.requires.length)

pub invariant_of-self-clause-solid : goal.invariant_of-self-clause-solid
invariant_of-self-clause-solid c =
    let within = within_row (λ v. v.items) c.args.self.now.blocks.items c.args._address 0 (omega (arith, c.requires.some, c.requires.length)) in
    let there = c.pop-newest.ensures.variant.1 (omega (arith, within.1, c.args.self.now.blocks.ok.0)) in
    let newest = last_row (λ v. v.items) c.args.self.now.blocks.items c.pop-newest.new.self.items c.pop-newest.result c.args._address c.pop-newest.ensures.items there c.requires.newest in
    newest_solid newest c.args.self.now.solid

pub returns-clause-content : goal.returns-clause-content
returns-clause-content c =
    let within = within_row (λ v. v.items) c.args.self.now.blocks.items c.args._address 0 (omega (arith, c.requires.some, c.requires.length)) in
    let there = c.pop-newest.ensures.variant.1 (omega (arith, within.1, c.args.self.now.blocks.ok.0)) in
    let newest = last_row (λ v. v.items) c.args.self.now.blocks.items c.pop-newest.new.self.items c.pop-newest.result c.args._address c.pop-newest.ensures.items there c.requires.newest in
    sym newest.rest

pub invariant_of-self-clause-few : goal.invariant_of-self-clause-few
invariant_of-self-clause-few c =
    let within = within_row (λ v. v.items) c.args.self.now.blocks.items c.args._address 0 (omega (arith, c.requires.some, c.requires.length)) in
    let there = c.pop-newest.ensures.variant.1 (omega (arith, within.1, c.args.self.now.blocks.ok.0)) in
    let newest = last_row (λ v. v.items) c.args.self.now.blocks.items c.pop-newest.new.self.items c.pop-newest.result c.args._address c.pop-newest.ensures.items there c.requires.newest in
    omega (arith, newest.held, c.args.self.now.exact, c.requires.length, c.args.self.now.few)
