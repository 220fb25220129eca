use Rattle.std.proofs.Common.{◌≡◌, ℕ, ◌+◌, List, length, sym, subst, arith}
use Rattle.jv_pool.specs.Constants.{Entry}
use Rattle.jv_link_cache.specs.declared.handlers.MethodHandlers.{MethodHandlers}
use Rattle.jv_link_cache.specs.Inside.Each.{Each}
use Rattle.jv_link_cache.specs.Inside.Handlers.{AreKnownAt, AreKnownOf}
use Rattle.jv_link_cache.proofs.Eachwise.{each_goes_on, each_none}
use Rattle.jv_link_cache.proofs.handlers.handlers_with.Goals as goal

pub loop-member-init : goal.loop-member-init
loop-member-init c = record {
  known = c.in_ok-known.ensures c.args.table.now c.args.pool.now;
  methods = λ ranks stand.
      subst (λ (ms : List MethodHandlers). Each (AreKnownAt c.args.table.now ranks c.args.class.now) 0 ms) (sym c.in_ok-methods.ensures.items)
      (each_none (AreKnownAt c.args.table.now ranks c.args.class.now));
}

pub loop-member-preserved : goal.loop-member-preserved
loop-member-preserved c = record {
  known = c.in_ok-handlers.ensures.known;
  methods = λ ranks stand.
      let P = AreKnownAt c.args.table.now ranks c.args.class.now in
      subst (λ (ms : List MethodHandlers). Each P (c.loop-member.member + 1) ms) (sym c.in_ok-push.ensures.items)
      (each_goes_on P c.loop-member.member c.loop-member.methods.items c.in_ok-handlers.handlers
      (λ m at. subst (λ (pool : List Entry). AreKnownOf c.args.table.now ranks pool m c.in_ok-handlers.handlers) c.requires
      (c.in_ok-handlers.ensures.handlers ranks m stand at))
      (c.loop-member.invariant.methods ranks stand));
}

pub returns : goal.returns
returns c = λ ranks stand.
    let all : c.loop-member.member ≡ length c.args.class.now.class.methods = omega arith in
    subst (λ (n : ℕ). Each (AreKnownAt c.args.table.now ranks c.args.class.now) n c.loop-member.methods.items) all (c.loop-member.invariant.methods ranks stand)
