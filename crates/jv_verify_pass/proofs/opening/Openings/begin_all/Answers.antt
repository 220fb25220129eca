use Rattle.std.proofs.Common.{◌+◌, ◌<◌, List, length, sym, ap, subst, ◌∙◌, arith}
use Rattle.std.specs.Prelude.{slice_get}
use Rattle.jv_format.specs.declared.handlers.Handler.{Handler}
use Rattle.jv_verify_maps.specs.Words.{MapWords}
use Rattle.jv_verify_open.specs.Open.{AllFlow}
use Rattle.jv_verify_pass.specs.Inside.Opening.{Openings, AreOpenings}
use Rattle.jv_verify_pass.proofs.Beginning.{at_next, has_begun, past_begun, rest_begun}
use Rattle.jv_verify_pass.proofs.Handling.{cover}
use Rattle.jv_verify_pass.proofs.opening.Openings.begin_all.Goals as goal

pub returns-then-from-offset-clause-all : goal.returns-then-from-offset-clause-all
returns-then-from-offset-clause-all c = λ t.
    let less = c.loop-self-test.true in
    let len = c.len.ensures in
    let there = at_next _ c.loop-self.self c.index-handler.result.now _ c.self.view_is c.index-handler.ensures (omega (arith, less, len)) in
    rest_begun c.loop-self.self c.args.offset c.index-handler.result.now c.loop-self.invariant.0.order there
    (let late = c.if-from-offset.true in let start = c.from.ensures in omega (arith, late, start))

pub returns-then-not-begins-clause-not : goal.returns-then-not-begins-clause-not
returns-then-not-begins-clause-not c = λ e.
    let less = c.loop-self-test.true in
    let len = c.len.ensures in
    let there = at_next _ c.loop-self.self c.index-handler.result.now _ c.self.view_is c.index-handler.ensures (omega (arith, less, len)) in
    let not = c.begins.ensures.not c.if-not-begins.true in
    let early = c.if-from-offset.false in
    let start = c.from.ensures in (
      c.index-handler.result.now,
      (c.loop-self.self.next, ap (λ (hs : List Handler). slice_get hs c.loop-self.self.next) (sym c.loop-self.invariant.4) ∙ there),
      cover c.index-handler.result.now c.args.offset (omega (arith, early, start)) not.0,
      not.1,
    )

pub loop-self-preserved : goal.loop-self-preserved
loop-self-preserved c =
    let pass = c.args.pass.now in
    let old = c.loop-self.self in
    let inv = c.loop-self.invariant in
    let locals = c.args.frame.now.locals in
    let words = c.begins.new.known.words in
    let less = c.loop-self-test.true in
    let len = c.len.ensures in
    let there = at_next _ old c.index-handler.result.now _ c.self.view_is c.index-handler.ensures (omega (arith, less, len)) in
    let lt : old.next < length old.sorted =
    let next = ap (λ (o : Openings). o.next) c.self.view_is in
    let many = ap (λ (o : Openings). length o.sorted) c.self.view_is in omega (arith, less, len, next, many) in
    let early = c.if-from-offset.false in
    let start = c.from.ensures in
    let view = c.self-in-loop-self.view_is in
    let begun =
    has_begun pass words c.args.offset locals old (subst (λ (ws : MapWords). AreOpenings pass ws c.args.offset old) (sym c.begins.ensures.words) inv.0)
    c.index-handler.result.now lt there c.begins.new.self _ (omega (arith, early, start))
    (subst (λ (ws : MapWords). AllFlow pass.types ws old.frames c.args.offset locals) (sym c.begins.ensures.words) inv.1) (c.begins.ensures.begun c.if-not-begins.false)
    (ap (λ (o : Openings). o.sorted) view) (ap (λ (o : Openings). o.next + 1) view) (ap (λ (o : Openings). o.frames) view) (ap (λ (o : Openings). o.last_end) view)
    (ap (λ (o : Openings). o.end_without_this) view) in
    (begun.openings, begun.flow, c.begins.ensures.known, c.begins.ensures.words ∙ inv.3, begun.sorted ∙ inv.4)

pub returns-clause-all : goal.returns-clause-all
returns-clause-all c = λ t.
    let stop = c.loop-self-test.false in
    let len = c.len.ensures in
    let next = ap (λ (o : Openings). o.next) c.self.view_is in
    let many = ap (λ (o : Openings). length o.sorted) c.self.view_is in past_begun c.loop-self.self c.args.offset (omega (arith, stop, len, next, many))
