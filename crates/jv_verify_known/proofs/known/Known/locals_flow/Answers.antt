use Rattle.std.proofs.Common.{◌∙◌, ap, get_or, length, max, refl, sym, arith}
use Rattle.jv_verify_maps.specs.Words.{words_at}
use Rattle.jv_verify_known.specs.Known.{KnownLocals}
use Rattle.jv_verify_known.proofs.Comparing.{all_flow_now, flows_all, flows_none, stamped_again}
use Rattle.jv_verify_known.proofs.known.Known.locals_flow.Goals as goal

pub returns-then-from-local_count-clause-flows : goal.returns-then-from-local_count-clause-flows
returns-then-from-local_count-clause-flows c =
    flows_none (record {
      words = c.self.inside.words;
      writes = c.self.inside.writes;
      stamps = c.self.inside.stamps;
      origin = c.self.inside.origin;
      merged = c.self.inside.merged;
    }) c.args.self.now c.self.view_is c.args.types.now c.args.frame.now.locals c.args.place
    (omega (arith, c.if-from-local_count.true, c.from.ensures, c.local_count.ensures, c.count-count.ensures))

pub returns-then-count-le-FEW-clause-flows : goal.returns-then-count-le-FEW-clause-flows
returns-then-count-le-FEW-clause-flows c =
    flows_all (record {
      words = c.self.inside.words;
      writes = c.self.inside.writes;
      stamps = c.self.inside.stamps;
      origin = c.self.inside.origin;
      merged = c.self.inside.merged;
    }) c.args.self.now c.self.view_is c.args.types.now c.args.frame.now.locals c.args.place
    c.words_flow.result c.count-count.result c.count-count.ensures (omega (arith, c.if-from-local_count.false, c.from.ensures, c.local_count.ensures)) c.words_flow.ensures.all c.words_flow.ensures.one

pub returns-then-not-pieces_flow-clause-flows : goal.returns-then-not-pieces_flow-clause-flows
returns-then-not-pieces_flow-clause-flows c = λ map at.
    sym c.if-not-pieces_flow.true
    ∙ flows_all c.args.self.now c.args.self.now refl c.args.types.now c.args.frame.now.locals c.args.place c.pieces_flow.result c.count-count.result
    (c.count-count.ensures ∙ ap (λ (k : KnownLocals). length (words_at k.words c.args.place)) c.self.view_is)
    (omega (arith, c.if-from-local_count.false, c.from.ensures, c.local_count.ensures)) c.pieces_flow.ensures.all c.pieces_flow.ensures.one map at

pub returns-clause-flows : goal.returns-clause-flows
returns-clause-flows c = λ map at.
    sym c.if-not-pieces_flow.false
    ∙ flows_all c.args.self.now c.args.self.now refl c.args.types.now c.args.frame.now.locals c.args.place c.pieces_flow.result c.count-count.result
    (c.count-count.ensures ∙ ap (λ (k : KnownLocals). length (words_at k.words c.args.place)) c.self.view_is)
    (omega (arith, c.if-from-local_count.false, c.from.ensures, c.local_count.ensures)) c.pieces_flow.ensures.all c.pieces_flow.ensures.one map at

pub returns-clause-known : goal.returns-clause-known
returns-clause-known c =
    stamped_again c.args.self.now c.ask-stamp.new.self (record {
      words = c.self-2.inside.words;
      writes = c.self-2.inside.writes;
      stamps = c.self-2.inside.stamps;
      origin = c.self-2.inside.origin;
      merged = c.self-2.inside.merged;
    }) c.args.types.now c.args.frame.now.locals c.args.place (max (get_or c.self-2.inside.stamps c.args.place 0) c.ask-stamp.result)
    c.count-count.result c.raise.new.self c.ask-stamp.ensures.same c.self-2.view_is c.requires.known
    (c.count-count.ensures ∙ ap (λ (k : KnownLocals). length (words_at k.words c.args.place)) c.self.view_is)
    (c.pieces_flow.ensures.all c.if-not-pieces_flow.false) c.raise.ensures

pub returns-then-count-le-FEW-clause-each : goal.returns-then-count-le-FEW-clause-each
returns-then-count-le-FEW-clause-each c = λ flow k.
    all_flow_now (record {
      words = c.self.inside.words;
      writes = c.self.inside.writes;
      stamps = c.self.inside.stamps;
      origin = c.self.inside.origin;
      merged = c.self.inside.merged;
    }) c.args.self.now c.self.view_is c.args.types.now c.args.frame.now.locals c.args.place c.count-count.result c.count-count.ensures (c.words_flow.ensures.all flow) k

pub returns-clause-each : goal.returns-clause-each
returns-clause-each c = λ flow k.
    all_flow_now c.args.self.now c.args.self.now refl c.args.types.now c.args.frame.now.locals c.args.place c.count-count.result
    (c.count-count.ensures ∙ ap (λ (k : KnownLocals). length (words_at k.words c.args.place)) c.self.view_is)
    (c.pieces_flow.ensures.all c.if-not-pieces_flow.false) k
