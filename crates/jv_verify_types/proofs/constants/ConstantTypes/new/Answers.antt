use Rattle.std.proofs.Common.{rules, ◌≡◌, codes, sym, subst, Some}
use Rattle.std.specs.Prelude.{slice_get}
use Rattle.jv_verify_types.specs.Inside.KeptTexts.{AreKept}
use Rattle.jv_verify_types.proofs.Lasting.{through}
use Rattle.jv_verify_types.proofs.constants.ConstantTypes.new.Goals as goal

pub invariant_of-result : goal.invariant_of-result
invariant_of-result c =
    let string : c.as_slice.result.now ≡ codes "java/lang/String" = search rules in
    let throwable : c.as_slice-2.result.now ≡ codes "java/lang/Throwable" = search rules in
    let names = c.type_table.new.names.names in
    record {
      kept = c.in_ok-table.ensures.kept;
      items_are = c.in_ok-items.ensures names c.in_ok-table.table.arguments.items
          (subst (AreKept names c.in_ok-table.table.arguments.items c.args.pool.now) (sym c.deref.ensures.value) c.in_ok-table.ensures.kept);
      string_at = subst (λ text. slice_get names c.in_ok-string.string ≡ Some text) string
          ((through c.in_ok-throwable.ensures.goes_on c.in_ok-table.ensures.goes_on).kept c.in_ok-string.string c.as_slice.result.now c.in_ok-string.ensures.number);
      throwable_at = subst (λ text. slice_get names c.in_ok-throwable.throwable ≡ Some text) throwable
          (c.in_ok-table.ensures.goes_on.kept c.in_ok-throwable.throwable c.as_slice-2.result.now c.in_ok-throwable.ensures.number);
    }
