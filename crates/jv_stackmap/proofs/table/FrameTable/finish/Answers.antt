use Rattle.std.proofs.lemmas.Grind.{common_steps}
use Rattle.std.proofs.Common.{◌≡◌, ◌+◌, ap, sym, ◌∙◌, arith}
use Rattle.jv_stackmap.specs.Inside.Steps.{Built, with_frame}
use Rattle.jv_stackmap.specs.Inside.Table.{built}
use Rattle.jv_stackmap.proofs.Piles.{holds_joined, built_joined, finished_as}
use Rattle.jv_stackmap.proofs.table.FrameTable.finish.Goals as goal

pub invariant_of-self-2 : goal.invariant_of-self-2
invariant_of-self-2 c =
    let i = c.self.inside in
    rw c.in_ok-push.ensures.items (holds_joined i.widths.now i.nodes i.frames.items i.base i.locals i.pile (i.base + c.from.result) c.self.invariant
    (omega arith) (omega (arith, c.from.ensures, c.ranges.delta)))

pub returns : goal.returns
returns c =
    let i = c.self.inside in
    let offset : i.base + c.from.result ≡ c.args.self.now.base + c.args.delta = omega (arith, c.from.ensures, ap (λ (b : Built). b.base) c.self.view_is) in
    let joined : built i.widths.now i.nodes c.push.new.self.items (i.base + c.from.result + 1) i.locals.top 0 ≡ with_frame (i.base + c.from.result) c.args.self.now =
    rw c.in_ok-push.ensures.items (built_joined i.widths.now i.nodes i.frames.items i.base i.locals i.pile (i.base + c.from.result) c.self.invariant ∙
    ap (with_frame (i.base + c.from.result)) c.self.view_is) in
    finished_as c.args.limits c.args.delta c.args.self.now _ (i.base + c.from.result) (sym c.if-not-is_within.ensures) offset joined

pub overflow_add-self : goal.overflow_add-self
overflow_add-self c = grind (arith, common_steps)

pub overflow_add-offset : goal.overflow_add-offset
overflow_add-offset c = grind (arith, common_steps)

pub invariant_of-self : goal.invariant_of-self
invariant_of-self c = rw (c.in_err-push.ensures {u = tt}).items c.self.invariant
