use Rattle.std.proofs.Common.{◌≡◌, ℕ, suc, ◌+◌, arith}
use Rattle.std.proofs.lemmas.List.{length-replicate}
use Rattle.jv_interp_heap.proofs.NewWords.{zeros_joined, joined_length, then_written}
use Rattle.jv_interp_objects.proofs.blocks.pay_object.Goals as goal

pub set-requires : goal.set-requires
set-requires g c =
    let one_more : c.args.size + 1 ≡ suc c.args.size = omega arith in
    let new =
    zeros_joined (g.S.Store.content c.args.store.now) (g.S.Store.content c.alloc.new.self) c.in_ok-address.address (c.args.size + 1)
    (suc c.args.size) c.in_ok-address.ensures.above c.in_ok-address.ensures.content one_more in
    let size = joined_length _ _ _ c.in_ok-address.address (suc c.args.size) new (length-replicate {A = ℕ} (suc c.args.size) 0) in
    omega (arith, size)

pub returns-clause-paid : goal.returns-clause-paid
returns-clause-paid g c =
    let one_more : c.args.size + 1 ≡ suc c.args.size = omega arith in
    let new =
    zeros_joined (g.S.Store.content c.args.store.now) (g.S.Store.content c.alloc.new.self) c.in_ok-address.address (c.args.size + 1)
    (suc c.args.size) c.in_ok-address.ensures.above c.in_ok-address.ensures.content one_more in
    record {
      paid = let more = c.if-cells-size.false in omega (arith, more);
      joins = then_written _ _ _ (g.S.Store.content c.set.new.self) c.in_ok-address.address 0 c.args.class new c.set.ensures.content;
    }
