use Rattle.std.proofs.Common.{None, Err, sym, ap, subst}
use Rattle.jv_text.specs.Seen.{seen_method_type}
use Rattle.jv_verify_types.specs.PoolTypes.{typed_result}
use Rattle.jv_verify_types.specs.Inside.Lasting.{Lasts}
use Rattle.jv_verify_types.proofs.Descriptors.{no_such_method}
use Rattle.jv_verify_types.proofs.Keeping.{nothing_named}
use Rattle.jv_verify_types.proofs.texts.described_method.Goals as goal

pub returns-in_ok-entry-in-Ok-clause-described : goal.returns-in_ok-entry-in-Ok-clause-described
returns-in_ok-entry-in-Ok-clause-described c = record {
  field = subst (Lasts typed_result _ None) (sym c.requires) (nothing_named _);
  method = record {
    method = seen_method_type c.in-Ok.method;
    is = (c.types_agree.ensures.method c.args.text.now (seen_method_type c.in-Ok.method)).0 c.in-Ok.ensures.ok;
    entered = c.in_ok-entry-in-Ok.ensures.entry;
  };
}

pub returns-in-Err-BadDescriptor-clause-described : goal.returns-in-Err-BadDescriptor-clause-described
returns-in-Err-BadDescriptor-clause-described c = record {
  field = subst (Lasts typed_result _ None) (sym c.requires) (nothing_named _);
  method = no_such_method c.types_agree.ensures c.args.text.now (c.in-Err-BadDescriptor.ensures.bad (ap Err c.in-Err-BadDescriptor.field-0-is));
}
