use Rattle.std.proofs.Common.{ap, sym, arith, ◌∙◌, vec_len, rules}
use Rattle.jv_store.specs.Inside.Layouts.{fill}
use Rattle.jv_store.proofs.Fills.{fill_count, fill_held}
use Rattle.jv_store.proofs.cells.CellsStore.reserve.Goals as goal

pub overflow_sub-len : goal.overflow_sub-len
overflow_sub-len c = omega (arith, fill_count c.args.self.now.starts.items _ c.args.self.now.filled, c.len.ensures, c.len-2.ensures, c.reserve.ensures.len, c.args.self.now.starts.ok.0)

pub invariant_of-self-2-clause-filled : goal.invariant_of-self-2-clause-filled
invariant_of-self-2-clause-filled c =
    ap (λ l. fill l (vec_len c.reserve.new.self)) c.reserve-2.ensures.items ∙ (ap (fill c.args.self.now.starts.items) c.reserve.ensures.len ∙ c.args.self.now.filled)

pub invariant_of-self-2-clause-starts_fit : goal.invariant_of-self-2-clause-starts_fit
invariant_of-self-2-clause-starts_fit c = omega (
  arith,
  fill_count c.args.self.now.starts.items _ c.args.self.now.filled,
  c.len.ensures,
  c.len-2.ensures,
  c.reserve.ensures.len,
  c.args.self.now.starts.ok.0,
  (c.in_ok-reserve-2.ensures {u = tt}).ok,
  c.reserve-2.ensures.len,
)

pub invariant_of-self-2-clause-few : goal.invariant_of-self-2-clause-few
invariant_of-self-2-clause-few c =
    let held = fill_held c.args.self.now.starts.items c.args.self.now.words.items (ap (fill c.args.self.now.starts.items) (sym c.args.self.now.words.ok.0) ∙ c.args.self.now.filled) in
    omega (arith, held, c.requires, c.reserve.ensures.len, c.args.self.now.words.ok.0)

pub returns-in_err-reserve-2-clause-nothing : goal.returns-in_err-reserve-2-clause-nothing
returns-in_err-reserve-2-clause-nothing c e =
    absurd (omega (
      arith,
      e,
      (c.in_err-reserve-2.ensures {u = tt}).full,
      fill_count c.args.self.now.starts.items _ c.args.self.now.filled,
      c.len.ensures,
      c.len-2.ensures,
      c.reserve.ensures.len,
      c.args.self.now.starts.ok.0,
      c.args.self.now.starts_fit,
    ))

pub invariant_of-self-2-clause-words_fit : goal.invariant_of-self-2-clause-words_fit
invariant_of-self-2-clause-words_fit c = search rules
