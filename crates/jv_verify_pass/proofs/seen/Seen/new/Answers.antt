use Rattle.std.proofs.Common.{sym, ap, subst, ◌∙◌, arith}
use Rattle.jv_verify_maps.specs.Words.{MapWords, map_by_words}
use Rattle.jv_verify_known.specs.Known.{AreTopsFrom, IsKnown}
use Rattle.jv_verify_pass.specs.Pass.{Pass}
use Rattle.jv_verify_pass.specs.Inside.Kept.{IsPass}
use Rattle.jv_verify_pass.specs.Inside.Opening.{AreOpenings, IsByWords}
use Rattle.jv_verify_pass.proofs.FlowingStacks.{none_flowed}
use Rattle.jv_verify_pass.proofs.Seeing.{initial_tops}
use Rattle.jv_verify_pass.proofs.seen.Seen.new.Goals as goal

pub returns : goal.returns
returns c = λ frame begins.
    let pass = c.args.pass.now in
    let entries = c.pass.inside.initial.now in
    let count = c.pass.inside.words in
    let kept : IsPass pass entries count = subst (λ (p : Pass). IsPass p entries count) c.pass.view_is c.pass.invariant in
    let known = c.in_ok-new.field-0 in
    let words : IsByWords pass known.words = c.in_ok-new.ensures.words ∙ ap (λ (p : Pass). map_by_words p.types p.frames) c.pass.view_is in
    record {
      locals = begins.0;
      few =
          let many = begins.0 in
          let fits = c.pass.ranges.1 in
          let view = ap (λ (p : Pass). p.max_locals) c.pass.view_is in omega (arith, many, fits, view);
      words = words;
      known =
          subst (λ (p : Pass). IsKnown p.types known frame.locals) c.pass.view_is
          (c.in_ok-new.ensures.known frame.locals (begins.0 ∙ sym (ap (λ (p : Pass). p.max_locals) c.pass.view_is))
          (subst (λ (p : Pass). AreTopsFrom p.types count frame.locals) (sym c.pass.view_is) (initial_tops pass entries count frame kept begins)));
      handled = record {
        openings = subst (λ (ws : MapWords). AreOpenings pass ws 0 c.in_ok-new-2.field-0) (sym words) c.in_ok-new-2.ensures.openings;
        flowed = λ k low place lt. absurd (let none = c.in_ok-new-2.ensures.none place in omega (arith, lt, none));
        settled = let handled = c.in_ok-new-2.ensures.handled in let next = c.in_ok-new.ensures.next in omega (arith, handled, next);
      };
      stacks = none_flowed pass _ frame c.new-3.ensures;
    }
