use Rattle.std.proofs.Common.{◌≡◌, List, sym, subst, arith}
use Rattle.std.specs.List.{All}
use Rattle.std.proofs.lemmas.Result.{err_from_is_err_and}
use Rattle.jv_format.specs.Format.{IsBytes}
use Rattle.jv_stackmap.specs.declared.fault.FrameFault.TheVariants.{BadFrames}
use Rattle.jv_stackmap.specs.Frames.{Maps}
use Rattle.jv_stackmap.specs.Entries.{ReadFrame, frames_placed, HoldsKnown, HasItsWords}
use Rattle.jv_stackmap.specs.Inside.Steps.{started, table_read}
use Rattle.jv_stackmap.proofs.Faults.{fails_bad}
use Rattle.jv_stackmap.proofs.Mapped.{maps_read, known_read, words_read, no_maps}
use Rattle.jv_stackmap.proofs.frames.read_frames.Goals as goal

pub returns-in_err-table-clause-bad : goal.returns-in_err-table-clause-bad
returns-in_err-table-clause-bad c = λ is types h.
    let p = err_from_is_err_and c.from_residual.result c.from_residual.ensures.1 in
    let same : c.in_err-table.field-0.0 ≡ BadFrames = cc (p.1, p.2) in
    no_maps c.args.pool.now c.args.limits c.args.widths.now types c.args.bytes.now c.types_agree.ensures
    (λ class text found. (c.kinds_name.ensures c.args.pool.now c.keeps_rules.ensures).class class text found) h
    (fails_bad (table_read c.args.pool.now c.args.limits (started c.args.widths.now) c.args.bytes.now) c.in_err-table.field-0.0 same c.in_err-table.ensures)

pub returns-clause-ok : goal.returns-clause-ok
returns-clause-ok c = λ types h.
    let small : IsBytes c.args.bytes.now = λ i. omega (arith, c.type_inv.bytes i) in
    subst (λ (frames : List ReadFrame). Maps c.args.pool.now c.args.limits types c.args.bytes.now (frames_placed c.args.pool.now types c.args.limits.max_locals frames)) (sym c.frames.ensures)
    (maps_read c.args.pool.now c.args.limits c.args.widths.now types c.args.bytes.now c.in_ok-table.table c.types_agree.ensures
    (λ class text found. (c.kinds_name.ensures c.args.pool.now c.keeps_rules.ensures).class class text found) small h c.in_ok-table.ensures)

pub returns-clause-words : goal.returns-clause-words
returns-clause-words c =
    let small : IsBytes c.args.bytes.now = λ i. omega (arith, c.type_inv.bytes i) in
    subst (λ (frames : List ReadFrame). All (HasItsWords c.args.widths.now) frames) (sym c.frames.ensures)
    (words_read c.args.pool.now c.args.limits c.args.widths.now c.args.bytes.now c.in_ok-table.table small c.in_ok-table.ensures)

pub returns-clause-known : goal.returns-clause-known
returns-clause-known c =
    let small : IsBytes c.args.bytes.now = λ i. omega (arith, c.type_inv.bytes i) in
    subst (λ (frames : List ReadFrame). All (HoldsKnown c.args.pool.now c.args.widths.now) frames) (sym c.frames.ensures)
    (known_read c.args.pool.now c.args.limits c.args.widths.now c.args.bytes.now c.in_ok-table.table small c.in_ok-table.ensures)
