use Rattle.std.proofs.Common.{◌≡◌, Option, Some, sym, ap, ◌∙◌}
use Rattle.std.specs.Option.{option_map}
use Rattle.jv_pool.specs.Constants.{class_name_at}
use Rattle.jv_class_structure.specs.Structure.{ClassStructure}
use Rattle.jv_class.specs.Class.{Class, all_found, field_of, method_of, super_of, class_of}
use Rattle.jv_class.specs.ClassFile.{class_name}
use Rattle.jv_class.specs.Value.{value_number}
use Rattle.jv_class.specs.declared.constant_value.ConstantValue.{ConstantValue}
use Rattle.jv_meaning_world.specs.World.{Loaded}
use Rattle.jv_classes.proofs.Followed.{some_class}
use Rattle.jv_link_cache.proofs.Bodied.{chained}
use Rattle.jv_link_cache.proofs.Begun.{setting_stands, none_stands}
use Rattle.jv_interp_control.specs.Inside.Constants.{seen_constant}
use Rattle.jv_interp_control.proofs.constants.constant_of.Goals as goal

same_some : {A : Type 0} → {x y : A} → Some x ≡ Some y → x ≡ y
same_some e = cc

pool_is : (c : ClassStructure) (class : Class) → class_of c ≡ Some class → class.constant_pool ≡ c.constant_pool
pool_is c class e =
    let name = chained (class_name c) _ class e in
    let above = chained (super_of c) _ class name.2 in
    let interfaces = chained (all_found (class_name_at c.constant_pool) c.interfaces) _ class above.2 in
    let fields = chained (all_found (field_of c.constant_pool) c.fields) _ class interfaces.2 in
    let methods = chained (all_found (method_of c.constant_pool) c.methods) _ class fields.2 in
    sym (ap (λ (x : Class). x.constant_pool) (same_some methods.2))

pub returns-in_default-constant_value-clause-value : goal.returns-in_default-constant_value-clause-value
returns-in_default-constant_value-clause-value c = λ l at f field.
    let loaded = c.class_at.ensures l at in
    none_stands c.in-Some.file.now l.class (c.in-Some.ensures.file ∙ ap (λ (x : Loaded). Some x.class) loaded) c.args.member f field
    (ap (λ (o : Option ConstantValue). option_map value_number o) (sym c.in_default-constant_value.is) ∙ c.constant_value.ensures.same)

pub returns-clause-value : goal.returns-clause-value
returns-clause-value c = λ l at f field.
    let loaded = c.class_at.ensures l at in
    setting_stands c.in-Some.file.now l.class c.pool.result.now (c.in-Some.ensures.file ∙ ap (λ (x : Loaded). Some x.class) loaded) c.pool.ensures c.args.member f field
    (value_number c.in-Some-constant_value.value) (seen_constant c.constant_at.result)
    (ap (λ (o : Option ConstantValue). option_map value_number o) (sym c.in-Some-constant_value.is) ∙ c.constant_value.ensures.same) c.constant_at.ensures.value

pub returns-clause-text : goal.returns-clause-text
returns-clause-text c =
    let l = some_class c.args.table.now c.args.class c.requires.class in
    let loaded = c.class_at.ensures l.0 l.1 in
    let pool = pool_is c.in-Some.file.now l.0.class (c.in-Some.ensures.file ∙ ap (λ (x : Loaded). Some x.class) loaded) in
    c.constant_at.ensures.text c.args.table.now l.0 c.requires.texts l.1 (c.pool.ensures ∙ sym pool)
