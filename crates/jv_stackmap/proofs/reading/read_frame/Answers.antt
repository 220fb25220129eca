use Rattle.std.proofs.lemmas.Grind.{common_steps}
use Rattle.std.proofs.Common.{◌≡◌, ◌<◌, length, List, Some, None, Err, subst, sym, arith}
use Rattle.std.proofs.lemmas.Result.{err_from_is_err_and}
use Rattle.jv_stackmap.specs.Entries.{ReadFrame}
use Rattle.jv_stackmap.specs.Inside.Steps.{frame_read}
use Rattle.jv_stackmap.proofs.Faults.{fails_on, gives_fault}
use Rattle.jv_stackmap.proofs.Counts.{begun_keeps, read_done}
use Rattle.jv_stackmap.proofs.reading.read_frame.Goals as goal

pub finish-requires : goal.finish-requires
finish-requires c =
    subst (λ (l : List ReadFrame). length l < 65535)
    (sym (begun_keeps c.args.pool.now c.in-Some.tag c.in_ok-delta.delta c.args.table.now c.begin.new.table c.in-Some.rest.now c.in_ok-delta.rest.now c.in_ok-delta.ensures)) c.requires

pub returns-in_err-finish : goal.returns-in_err-finish
returns-in_err-finish c =
    let p = err_from_is_err_and c.from_residual-in_err-finish.result c.from_residual-in_err-finish.ensures.1 in
    let e = c.in_err-finish.field-0.0 in
    let is : c.from_residual-in_err-finish.result ≡ Err e = cc (p.1, p.2) in
    gives_fault e (frame_read c.args.pool.now c.args.limits c.args.table.now c.args.bytes.now) _ c.from_residual-in_err-finish.result is
    (fails_on e _ _ (λ none. read_done c.args.pool.now c.args.limits c.in-Some.tag c.in_ok-delta.delta c.args.table.now c.begin.new.table
    c.args.bytes.now c.in-Some.rest.now c.in_ok-delta.rest.now None c.in-Some.ensures c.in_ok-delta.ensures none)
    c.in_err-finish.ensures)

pub returns : goal.returns
returns c =
    read_done c.args.pool.now c.args.limits c.in-Some.tag c.in_ok-delta.delta c.args.table.now c.begin.new.table c.args.bytes.now c.in-Some.rest.now
    c.in_ok-delta.rest.now (Some c.finish.new.self) c.in-Some.ensures c.in_ok-delta.ensures
    c.in_ok-finish.ensures

pub returns-in_err-delta : goal.returns-in_err-delta
returns-in_err-delta c = grind (arith, common_steps)
