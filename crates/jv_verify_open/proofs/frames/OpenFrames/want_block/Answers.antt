use Rattle.std.proofs.Common.{◌+◌, min, refl, sym, subst, arith}
use Rattle.jv_verify_open.specs.Open.{OpenFrames}
use Rattle.jv_verify_open.specs.Inside.Finding.{AreFoundOf}
use Rattle.jv_verify_open.proofs.Finding.{some_open}
use Rattle.jv_verify_open.proofs.frames.OpenFrames.want_block.Goals as goal

pub returns-clause-found : goal.returns-clause-found
returns-clause-found c =
    let view = sym c.self.view_is in
    let greatest = c.greatest.ensures in
    let small = c.requires.block in
    subst (λ (o : OpenFrames). AreFoundOf c.args.at.types.now c.args.at.words.now c.args.at.offset c.args.place (c.alike-first.result.1 + 1) c.args.block o c.want_words.new.wants)
    c.self.view_is
    (some_open c.args.at.types.now c.args.at.words.now c.args.at.offset c.args.place c.args.block c.alike-first.result.0 c.alike-first.result.1 c.greatest.result _
    c.alike-first.ensures.first c.alike-first.ensures.last c.alike-first.ensures.within c.greatest.ensures c.saturating_add-to.result c.count.result c.alike-first.ensures.agree
    (let to = c.saturating_add-to.ensures in omega (arith, to, small)) (sym c.count.ensures) _ c.want_words.new.wants refl c.min.ensures refl c.in_ok-want_words.ensures)
