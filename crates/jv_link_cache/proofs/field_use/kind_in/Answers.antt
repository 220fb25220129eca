use Rattle.std.proofs.Common.{◌≡◌, ◌∙◌, ap, sym, Some}
use Rattle.jv_text.specs.Seen.{seen_field_type}
use Rattle.jv_link_cache.specs.FieldUses.{kind_of}
use Rattle.jv_link_cache.proofs.field_use.kind_in.Goals as goal

same_some : {A : Type 0} → {x y : A} → Some x ≡ Some y → x ≡ y
same_some e = cc

pub returns-in-Ok : goal.returns-in-Ok
returns-in-Ok c = λ type e.
    c.kind_of.ensures
    ∙ ap kind_of (same_some (sym ((c.types_agree.ensures.field c.args.descriptor.now (seen_field_type c.in-Ok.field)).0 c.in-Ok.ensures.ok) ∙ e))

pub returns-in-Err : goal.returns-in-Err
returns-in-Err c = λ type e. absurd (c.in-Err.ensures.bad type ((c.types_agree.ensures.field c.args.descriptor.now type).1 e))
