use Rattle.std.proofs.Common.{◌∙◌, sym, ap, Option}
use Rattle.std.specs.Option.{option_map}
use Rattle.jv_class.specs.Value.{value_number}
use Rattle.jv_class.specs.declared.constant_value.ConstantValue.{ConstantValue}
use Rattle.jv_link_cache.specs.Tasks.{seen_initial}
use Rattle.jv_link_cache.proofs.Begun.{setting_stands, none_stands}
use Rattle.jv_link_cache.proofs.tasks.initial_value.Goals as goal

pub returns-in_default-constant_value : goal.returns-in_default-constant_value
returns-in_default-constant_value c = λ f at.
    none_stands c.in-Some.file.now c.args.class.now.class c.in-Some.ensures.file c.args.member f at
    (ap (λ (o : Option ConstantValue). option_map value_number o) (sym c.in_default-constant_value.is) ∙ c.constant_value.ensures.same)

pub returns : goal.returns
returns c = λ f at.
    setting_stands c.in-Some.file.now c.args.class.now.class c.pool.result.now c.in-Some.ensures.file c.pool.ensures c.args.member f at
    (value_number c.in-Some-constant_value.value) (seen_initial c.value_in.result)
    (ap (λ (o : Option ConstantValue). option_map value_number o) (sym c.in-Some-constant_value.is) ∙ c.constant_value.ensures.same) c.value_in.ensures
