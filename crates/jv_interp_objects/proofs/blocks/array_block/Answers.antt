use Rattle.std.proofs.Common.{◌≡◌, ℕ, suc, ◌+◌, ◌*◌, ap, arith}
use Rattle.std.proofs.lemmas.List.{length-replicate}
use Rattle.jv_interp_heap.proofs.NewWords.{zeros_joined, joined_length, then_written}
use Rattle.jv_interp_objects.proofs.blocks.array_block.Goals as goal

two_more : (n : ℕ) → n + 2 ≡ suc (suc n)
two_more n = omega arith

pub set-requires : goal.set-requires
set-requires g c =
    let n = c.args.count * c.args.slots in
    let new =
    zeros_joined (g.S.Store.content c.args.store.now) (g.S.Store.content c.alloc.new.self) c.in_ok-address.address (n + 2)
    (suc (suc n)) c.in_ok-address.ensures.above c.in_ok-address.ensures.content (two_more n) in
    let size = joined_length _ _ _ c.in_ok-address.address (suc (suc n)) new (length-replicate {A = ℕ} (suc (suc n)) 0) in
    omega (arith, size)

pub set-requires-2 : goal.set-requires-2
set-requires-2 g c =
    let n = c.args.count * c.args.slots in
    let new =
    zeros_joined (g.S.Store.content c.args.store.now) (g.S.Store.content c.alloc.new.self) c.in_ok-address.address (n + 2)
    (suc (suc n)) c.in_ok-address.ensures.above c.in_ok-address.ensures.content (two_more n) in
    let next = then_written _ _ _ (g.S.Store.content c.set.new.self) c.in_ok-address.address 0 c.args.word new c.set.ensures.content in
    let size =
    joined_length _ _ _ c.in_ok-address.address (suc (suc n)) next (ap (λ (k : ℕ). suc k) (length-replicate {A = ℕ} (suc n) 0)) in
    omega (arith, size)

pub returns-clause-made : goal.returns-clause-made
returns-clause-made g c =
    let n = c.args.count * c.args.slots in
    let new =
    zeros_joined (g.S.Store.content c.args.store.now) (g.S.Store.content c.alloc.new.self) c.in_ok-address.address (n + 2)
    (suc (suc n)) c.in_ok-address.ensures.above c.in_ok-address.ensures.content (two_more n) in
    let next = then_written _ _ _ (g.S.Store.content c.set.new.self) c.in_ok-address.address 0 c.args.word new c.set.ensures.content in
    then_written _ _ _ (g.S.Store.content c.set-2.new.self) c.in_ok-address.address 1 c.args.count next c.set-2.ensures.content
