use Rattle.std.proofs.Common.{Result, subst, sym, ◌∙◌}
use Rattle.jv_link.specs.declared.error.LinkError.{LinkError}
use Rattle.jv_link_cache.specs.declared.field_use.FieldUse.{FieldUse}
use Rattle.jv_link_cache.specs.Inside.Fields.{IsFound}
use Rattle.jv_link_cache.proofs.fields.usable_at_once.Goals as goal

pub returns : goal.returns
returns c = λ world are. record {
  found =
      subst (λ (r : Result FieldUse LinkError). IsFound world c.args.class c.args.index r) c.in-Some-Ok.field-0-is
      (c.in-Some-Ok.ensures {u = tt} world are);
  kind = λ f flags. sym (c.is_used_so.ensures f flags) ∙ c.if-is_used_so.true;
  settable = λ s d flags. c.is_settable.ensures s d flags c.if-is_settable.true;
}
