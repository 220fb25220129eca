use Rattle.std.proofs.Common.{rules, ◌≡◌, length, suc, ◌++◌, ◌∷◌, [], length-append, refl, ◌∙◌, arith}
use Rattle.std.proofs.Output.{has_written_append, has_written_of_eq}
use Rattle.std.proofs.lemmas.Slice.Zip.{zip_turn, zip_end}
use Rattle.std.specs.Iterator.Adapters.{zip_first, zip_second}
use Rattle.std.specs.Slice.Iter.{iter_rest}
use Rattle.jv_program_run.specs.Report.{verdict_lines}
use Rattle.jv_program_run.proofs.Lines.{lines-more, lines-take, one_is_least}
use Rattle.jv_program_run.proofs.report.VerdictLinesDisplay.fmt.Goals as goal

pub loop-name-init : goal.loop-name-init
unfolding verdict_lines
loop-name-init g c = search rules

-- one line more
pub loop-name-preserved : goal.loop-name-preserved
loop-name-preserved g c = λ plain.
    let names = c.args.self.now.names.now in
    let verdicts = c.args.self.now.verdicts.now in
    let first : iter_rest (zip_first c.into_iter-name-iterator.result) ≡ names = search rules in
    let second : iter_rest (zip_second c.into_iter-name-iterator.result) ≡ verdicts = search rules in
    let turn = zip_turn names verdicts c.loop-name.yielded c.into_iter-name-iterator.result c.loop-name.name-iterator c.next.new.self
    c.next.result first second c.loop-name.yielded_by (c.in-Some.name, c.in-Some.verdict) c.in-Some.is c.next.ensures.steps in
    let one_more : length (c.loop-name.yielded ++ (c.in-Some.name, c.in-Some.verdict) ∷ []) ≡ suc (length c.loop-name.yielded) =
    length-append c.loop-name.yielded ((c.in-Some.name, c.in-Some.verdict) ∷ []) ∙ omega arith in
    let so_far = c.loop-name.invariant plain in
    let line = c.in_ok-write.ensures.writes so_far.plain refl in
    rw one_more
    (has_written_of_eq _ _ _ _ _ (lines-more (length c.loop-name.yielded) names verdicts c.in-Some.name.now c.in-Some.verdict.now turn.0 turn.1 turn.2 turn.3)
    (has_written_append _ _ _ _ _ _ so_far line))

-- as many lines as there are names, or verdicts
pub returns-clause-writes : goal.returns-clause-writes
returns-clause-writes g c = λ plain _.
    let names = c.args.self.now.names.now in
    let verdicts = c.args.self.now.verdicts.now in
    let first : iter_rest (zip_first c.into_iter-name-iterator.result) ≡ names = search rules in
    let second : iter_rest (zip_second c.into_iter-name-iterator.result) ≡ verdicts = search rules in
    let count = zip_end names verdicts c.loop-name.yielded c.into_iter-name-iterator.result c.loop-name.name-iterator c.next.new.self
    c.next.result first second c.loop-name.yielded_by c.in-None.is c.next.ensures.steps in
    has_written_of_eq _ _ _ _ _ (lines-take (length c.loop-name.yielded) names verdicts (one_is_least _ _ _ count)) (c.loop-name.invariant plain)
