use Rattle.std.proofs.Common.{◌≡◌, ℕ, ◌+◌, List, length, sym, subst, arith}
use Rattle.jv_meaning_world.specs.World.{Loaded}
use Rattle.jv_link_cache.specs.declared.handlers.ClassHandlers.{ClassHandlers}
use Rattle.jv_link_cache.specs.Inside.Each.{Each}
use Rattle.jv_link_cache.specs.Inside.Handlers.{AreKnownAt, AreClassHandlers}
use Rattle.jv_link_cache.proofs.Eachwise.{each_goes_on}
use Rattle.jv_link_cache.proofs.handlers.all_handlers.Goals as goal

pub loop-class-preserved : goal.loop-class-preserved
loop-class-preserved c = λ ranks stand.
    let world = c.args.table.now in
    let P = AreClassHandlers world ranks in
    subst (λ (rows : List ClassHandlers). Each P (c.loop-class.class + 1) rows) (sym c.in_ok-push.ensures.items)
    (each_goes_on P c.loop-class.class c.loop-class.rows.items (record { methods = c.in_ok-methods.methods })
    (λ l at. subst (λ (k : Loaded). Each (AreKnownAt world ranks k) (length k.class.methods) c.in_ok-methods.methods.items) (c.class_at.ensures l at)
    (c.in_ok-methods.ensures ranks stand))
    (c.loop-class.invariant ranks stand))

pub returns : goal.returns
returns c = λ ranks spans.
    let all : c.loop-class.class ≡ length c.args.table.now = omega arith in
    subst (λ (n : ℕ). Each (AreClassHandlers c.args.table.now ranks) n c.loop-class.rows.items) all
    (c.loop-class.invariant ranks (record { numbered = c.is_numbered.ensures; spans = spans }))
