use Rattle.std.proofs.Common.{◌∙◌, ◌<◌, ◌/◌, ap, length, arith}
use Rattle.std.proofs.lemmas.List.{with_items_is}
use Rattle.jv_verify_peaks.proofs.Rows.{raised, row_raised_at}
use Rattle.jv_verify_peaks.proofs.peaks.Peaks.raise.Goals as goal

pub invariant_of-self : goal.invariant_of-self
invariant_of-self c =
    let v = c.self.inside.values in
    let a = c.self.inside.by_16 in
    let b = c.self.inside.by_256 in
    let d = c.self.inside.by_4096 in
    let place = c.args.place in
    let value = c.args.value in
    let lt : place < length v.items = omega (arith, ap length c.self.view_is, c.requires) in
    let one =
    with_items_is v c.raise_at.new.numbers (omega (arith, c.raise_at.ensures.same, ap length c.deref_mut.ensures.value, v.ok.0))
    ∙ (c.raise_at.ensures.raised ∙ ap (λ xs. raised xs place value) c.deref_mut.ensures.value) in
    let two =
    with_items_is a c.raise_at-2.new.numbers (omega (arith, c.raise_at-2.ensures.same, ap length c.deref_mut-2.ensures.value, a.ok.0))
    ∙ (c.raise_at-2.ensures.raised ∙ ap (λ xs. raised xs (place / 16) value) c.deref_mut-2.ensures.value) in
    let three =
    with_items_is b c.raise_at-3.new.numbers (omega (arith, c.raise_at-3.ensures.same, ap length c.deref_mut-3.ensures.value, b.ok.0))
    ∙ (c.raise_at-3.ensures.raised ∙ ap (λ xs. raised xs (place / 256) value) c.deref_mut-3.ensures.value) in
    let four =
    with_items_is d c.raise_at-4.new.numbers (omega (arith, c.raise_at-4.ensures.same, ap length c.deref_mut-4.ensures.value, d.ok.0))
    ∙ (c.raise_at-4.ensures.raised ∙ ap (λ xs. raised xs (place / 4096) value) c.deref_mut-4.ensures.value) in
    record {
      row_16 = row_raised_at 16 place value v.items a.items _ _ one two c.self.invariant.row_16 lt;
      row_256 = row_raised_at 256 place value v.items b.items _ _ one three c.self.invariant.row_256 lt;
      row_4096 = row_raised_at 4096 place value v.items d.items _ _ one four c.self.invariant.row_4096 lt;
    }
