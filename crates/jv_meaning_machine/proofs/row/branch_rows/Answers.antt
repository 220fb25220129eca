use Rattle.std.proofs.Common.{refl}
use Rattle.jv_meaning_machine.proofs.row.branch_rows.Goals as goal

pub returns : goal.returns
returns c = record {
  ifeq = refl;
  ifeq_not = refl;
  ifne = refl;
  ifne_not = refl;
  iflt = refl;
  iflt_not = refl;
  ifge = refl;
  ifge_not = refl;
  ifgt = refl;
  ifgt_not = refl;
  ifle = refl;
  ifle_not = refl;
  if_icmpeq = refl;
  if_icmpne = refl;
  if_icmplt = refl;
  if_icmplt_not = refl;
  if_icmpge = refl;
  if_icmpgt = refl;
  if_icmpgt_not = refl;
  if_icmple = refl;
  if_acmpeq = refl;
  if_acmpeq_not = refl;
  if_acmpeq_nulls = refl;
  if_acmpne = refl;
  if_acmpeq_null = refl;
  if_acmpeq_of_null = refl;
  if_acmpne_null = refl;
  ifnull = refl;
  ifnull_not = refl;
  ifnonnull = refl;
  int_for_reference = refl;
  goto = refl;
  goto_far = refl;
  nop = refl;
  null_constant = refl;
  outside = refl;
}
