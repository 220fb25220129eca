use Rattle.std.proofs.Common.{rules, ◌≡◌, true, sym, subst}
use Rattle.jv_text.specs.Name.{is_class_name}
use Rattle.jv_verify_types.specs.PoolTypes.{typed_result}
use Rattle.jv_verify_types.specs.Inside.Lasting.{Lasts}
use Rattle.jv_verify_types.proofs.Lasting.{class_lasts}
use Rattle.jv_verify_types.proofs.Descriptors.{class_name_known, named_class}
use Rattle.jv_verify_types.proofs.texts.named_by.Goals as goal

pub returns-in_ok-number-clause-named : goal.returns-in_ok-number-clause-named
returns-in_ok-number-clause-named c =
    let class : is_class_name c.args.text.now ≡ true = class_name_known c.args.text.now c.args.facts c.requires.facts (sym c.if-is_array_name.ensures) c.if-facts.true in
    subst (Lasts typed_result _ _) (sym (named_class c.args.text.now (sym c.if-is_array_name.ensures) class)) (class_lasts c.in_ok-number.ensures.number)

pub returns-then-is_array_name-clause-named : goal.returns-then-is_array_name-clause-named
returns-then-is_array_name-clause-named c = search rules
