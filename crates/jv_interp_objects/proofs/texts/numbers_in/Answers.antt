use Rattle.std.proofs.Common.{◌∙◌, ℕ, length, sym, subst, ap, arith, length-append}
use Rattle.jv_interp_objects.specs.Inside.Numbering.{IsNumberAt}
use Rattle.jv_interp_objects.proofs.InTexts.{same_numbers, numbers_go_on, none_before, one_before, before_grown, written_back}
use Rattle.jv_interp_objects.proofs.texts.numbers_in.Goals as goal

pub loop-index-init : goal.loop-index-init
loop-index-init c = (
  same_numbers c.args.names.now,
  c.in_ok-entries.ensures c.args.names.now c.args.pool.now,
  none_before c.args.names.now c.args.pool.now c.in_ok-numbers.numbers.items c.in_ok-numbers.ensures.items,
  ap length c.in_ok-numbers.ensures.items,
)

pub loop-index-preserved : goal.loop-index-preserved
loop-index-preserved c =
    let i = c.loop-index.invariant in
    let numbers = c.in_ok-number_of_string.ensures.numbers in
    let back = written_back c.number_of_string.new.entries c.loop-index.entries.items c.loop-index.entries.len
    (c.number_of_string.ensures.count ∙ ap length c.deref_mut.ensures.value) c.loop-index.entries.ok.0 in (
      numbers_go_on _ _ _ i.0 numbers,
      rw back c.in_ok-number_of_string.ensures.known,
      rw c.in_ok-push.ensures.items
          (one_before _ _ c.loop-index.numbers.items _ (before_grown _ _ _ _ numbers.extends i.2)
          (subst (λ (n : ℕ). IsNumberAt c.number_of_string.new.names c.args.pool.now n c.in_ok-number_of_string.field-0) (sym i.3) c.in_ok-number_of_string.ensures.number)),
      ap length c.in_ok-push.ensures.items ∙ length-append c.loop-index.numbers.items _ ∙ (let many = i.3 in omega (arith, many)),
    )
