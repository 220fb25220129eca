use Rattle.std.proofs.Common.{◌≡◌, ◌+◌, map, length, replicate, [], ◌∷◌, ◌++◌, ap, ◌∙◌, arith, rules}
use Rattle.jv_store.specs.Inside.Layouts.{numbered}
use Rattle.jv_store.proofs.Contents.{grows}
use Rattle.jv_store.proofs.Rows.{add_words, longer, greatest_row, row_count}
use Rattle.jv_store.proofs.blocks.BlocksStore.alloc.Goals as goal

pub invariant_of-self-2-clause-exact : goal.invariant_of-self-2-clause-exact
invariant_of-self-2-clause-exact c =
    let added = add_words (λ v. v.items) c.args.self.now.blocks.items c.add_zeros.new.blocks.items _ (c.in_ok-add_zeros.ensures {u = tt}).ok in
    let more = grows _ _ _ c.args.len c.requires.some added in
    omega (arith, more.held, c.args.self.now.exact)

pub invariant_of-self-2-clause-solid : goal.invariant_of-self-2-clause-solid
invariant_of-self-2-clause-solid c =
    let added = add_words (λ v. v.items) c.args.self.now.blocks.items c.add_zeros.new.blocks.items _ (c.in_ok-add_zeros.ensures {u = tt}).ok in
    (grows _ _ _ c.args.len c.requires.some added).solid c.args.self.now.solid

pub overflow_cast-address : goal.overflow_cast-address
overflow_cast-address c =
    let count = row_count (λ v. v.items) c.args.self.now.blocks.items c.args.self.now.solid in
    let next = longer (λ v. v.items) c.args.self.now.blocks.items c.add_zeros.new.blocks.items _ (c.in_ok-add_zeros.ensures {u = tt}).ok in
    omega (arith, count, next, c.len-address.ensures, c.add_zeros.new.blocks.ok.0, c.args.self.now.exact, c.args.self.now.few, c.requires.some, c.requires.room)

pub returns-clause-above : goal.returns-clause-above
returns-clause-above c =
    let next = longer (λ v. v.items) c.args.self.now.blocks.items c.add_zeros.new.blocks.items _ (c.in_ok-add_zeros.ensures {u = tt}).ok in
    omega (arith, greatest_row (λ v. v.items) c.args.self.now.blocks.items, next, c.len-address.ensures, c.add_zeros.new.blocks.ok.0)

pub returns-clause-content : goal.returns-clause-content
returns-clause-content c =
    let added = add_words (λ v. v.items) c.args.self.now.blocks.items c.add_zeros.new.blocks.items _ (c.in_ok-add_zeros.ensures {u = tt}).ok in
    let next = longer (λ v. v.items) c.args.self.now.blocks.items c.add_zeros.new.blocks.items _ (c.in_ok-add_zeros.ensures {u = tt}).ok in
    let same : length c.args.self.now.blocks.items + 1 ≡ c.len-address.result = omega (arith, next, c.len-address.ensures, c.add_zeros.new.blocks.ok.0) in
    added ∙ ap (λ n. numbered 0 (map (λ v. v.items) c.args.self.now.blocks.items) ++ (n, replicate c.args.len 0) ∷ []) same

pub invariant_of-self-2-clause-few : goal.invariant_of-self-2-clause-few
invariant_of-self-2-clause-few c = search rules

pub returns-clause-room : goal.returns-clause-room
returns-clause-room c = search rules

pub returns-in_err-add_zeros-clause-sure : goal.returns-in_err-add_zeros-clause-sure
returns-in_err-add_zeros-clause-sure c = search rules
