use Rattle.std.proofs.Common.{rules, None, sym, subst}
use Rattle.jv_verify_types.specs.PoolTypes.{typed_result}
use Rattle.jv_verify_types.specs.Inside.Lasting.{Lasts}
use Rattle.jv_verify_types.proofs.Descriptors.{no_field, no_method}
use Rattle.jv_verify_types.proofs.Keeping.{nothing_named}
use Rattle.jv_verify_types.proofs.texts.described_by.Goals as goal

pub returns-else-is_some-2-clause-described : goal.returns-else-is_some-2-clause-described
returns-else-is_some-2-clause-described c = record {
  field = subst (Lasts typed_result _ None) (sym (no_field c.types_agree.ensures c.args.text.now c.args.facts.field c.requires.field (sym c.if-is_some.ensures))) (nothing_named _);
  method = no_method c.types_agree.ensures c.args.text.now c.args.facts.method c.requires.method (sym c.if-is_some-2.ensures);
}

pub returns-in_ok-type_of-clause-described : goal.returns-in_ok-type_of-clause-described
returns-in_ok-type_of-clause-described c = search rules
