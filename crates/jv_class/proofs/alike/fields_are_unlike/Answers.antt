use Rattle.std.specs.Prelude.{IsTrue, nat_eq, ◌↔◌, map}
use Rattle.std.proofs.Common.{ℕ, List, sym, subst}
use Rattle.std.specs.List.{AllZip, IsDistinct}
use Rattle.jv_class.specs.Inside.Reading.{IsFieldKey}
use Rattle.jv_class_structure.specs.Seen.{seen_field}
use Rattle.jv_class.specs.Rules.{NoTwoAlike}
use Rattle.jv_class.specs.Inside.Shown.{shown_field_texts}
use Rattle.jv_class.proofs.Kept.{if_ok_same}
use Rattle.jv_class.proofs.Keys.{unlike_fields}
use Rattle.jv_class.proofs.alike.fields_are_unlike.Goals as goal

pub returns-clause-ok : goal.returns-clause-ok
returns-clause-ok c =
    if_ok_same c.all_differ.result (λ differ. IsTrue differ ↔ IsDistinct nat_eq c.deref.result.now)
    (λ unlike. IsTrue unlike ↔ NoTwoAlike (map (shown_field_texts c.args.pool.now) (map seen_field c.args.fields.now)))
    (unlike_fields c.args.pool.now c.args.fields.now c.deref.result.now
    (subst (λ (ks : List ℕ). AllZip (IsFieldKey c.args.pool.now) c.args.fields.now ks) (sym c.deref.ensures.value) c.in_ok-keys.ensures.ok) c.requires)
    c.all_differ.ensures.ok
