use Rattle.std.proofs.Common.{◌≡◌, ℕ, List, Option, ◌+◌, length, sym, subst, arith}
use Rattle.jv_class_structure.specs.Parts.{CodeSeen}
use Rattle.jv_link_cache.specs.declared.handlers.MethodHandlers.{MethodHandlers}
use Rattle.jv_link_cache.specs.Handlers.{handlers_of_code}
use Rattle.jv_link_cache.specs.Inside.Each.{Each}
use Rattle.jv_link_cache.specs.Inside.Handlers.{AreKnown, AreKnownAt}
use Rattle.jv_link_cache.proofs.Eachwise.{each_goes_on}
use Rattle.jv_link_cache.proofs.Taking.{io_no_code}
use Rattle.jv_link_cache.proofs.handlers.handlers_without.Goals as goal

pub loop-member-preserved : goal.loop-member-preserved
loop-member-preserved c = λ ranks.
    let world = c.args.table.now in
    let class = c.args.class.now in
    let P = AreKnownAt world ranks class in
    subst (λ (ms : List MethodHandlers). Each P (c.loop-member.member + 1) ms) (sym c.in_ok-push.ensures.items)
    (each_goes_on P c.loop-member.member c.loop-member.methods.items c.no_handlers.result
    (λ m at. subst (λ (code : Option CodeSeen). AreKnown world ranks class.class.constant_pool (handlers_of_code code) c.no_handlers.result)
    (sym (io_no_code class c.requires c.loop-member.member m at)) (c.no_handlers.ensures world ranks class.class.constant_pool))
    (c.loop-member.invariant ranks))

pub returns : goal.returns
returns c = λ ranks.
    let all : c.loop-member.member ≡ length c.args.class.now.class.methods = omega arith in
    subst (λ (n : ℕ). Each (AreKnownAt c.args.table.now ranks c.args.class.now) n c.loop-member.methods.items) all (c.loop-member.invariant ranks)
