use Rattle.std.proofs.Common.{length, sym, ap, subst, arith}
use Rattle.std.proofs.lemmas.Bool.{eqb-true}
use Rattle.std.proofs.lemmas.List.{length-map}
use Rattle.jv_verify_maps.specs.Words.{frame_by_words, map_by_words}
use Rattle.jv_verify_pass.specs.Pass.{Pass}
use Rattle.jv_verify_pass.specs.Inside.Opening.{AreAsGood}
use Rattle.jv_verify_pass.proofs.Beginning.{none_begun}
use Rattle.jv_verify_pass.proofs.Opened.{as_good}
use Rattle.jv_verify_pass.proofs.opening.Openings.new.Goals.{then-is_empty, else-is_empty}
use Rattle.jv_verify_pass.proofs.opening.Openings.new.Goals as goal

pub returns-clause-openings : goal.returns-clause-openings
returns-clause-openings c =
    let pass = c.args.pass.now in
    let sorted = c.in_ok-sorted.sorted.items in
    none_begun pass (map_by_words pass.types pass.frames) sorted c.if-is_empty.frames c.in_ok-new.field-0
    (λ at. subst (AreAsGood at sorted) (ap (λ (p : Pass). p.handlers) c.pass.view_is) (as_good at _ sorted c.in_ok-sorted.ensures.same)) c.in_ok-sorted.ensures.order
    c.in_ok-sorted.ensures.few c.in_ok-new.ensures.ends c.in_ok-new.ensures.opens
    (λ some. elim c.if-is_empty.branch [
      | then-is_empty w ↦ let zero_is = eqb-true _ 0 (sym w.if-is_empty.ensures) in absurd (omega (arith, some, zero_is))
      | else-is_empty w ↦
          let is = w.frames-is in
          let many = w.count-frames.ensures in
          let view = ap (λ (p : Pass). length p.frames) c.pass.view_is in
          let mapped = length-map pass.frames (frame_by_words pass.types) in omega (arith, is, many, view, mapped)
    ]) (c.in_ok-new.ensures.wanting pass.types (map_by_words pass.types pass.frames) 0)
