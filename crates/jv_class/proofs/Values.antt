-- Constants of a kind, and the values of fields.
use Rattle.std.proofs.Common.{◌≡◌, ℕ, Bool, true, false, List, Option, Some, None, refl, sym, ap, subst, ◌∙◌}
use Rattle.std.specs.Prelude.{IsTrue, IsSome, not, slice_get, ◌||◌}
use Rattle.std.specs.Option.{option_map, IsSomeAnd}
use Rattle.std.specs.List.{All}
use Rattle.std.proofs.lemmas.List.Elements.{All-get_or}
use Rattle.std.proofs.lemmas.Option.{slice_get_within, get_or_from_slice_get}
use Rattle.jv_text.specs.declared.descriptor.FieldTypeOf.{FieldTypeOf}
use Rattle.jv_text.specs.Descriptor.{is_floating}
use Rattle.jv_pool.specs.declared.constant.Constant.TheVariants.{Utf8, Integer, Float, Long, Double, Class, String, Fieldref, Methodref, InterfaceMethodref, NameAndType, MethodHandle, MethodType, InvokeDynamic}
use Rattle.jv_pool.specs.declared.constant.Kind.TheVariants as kinds
use Rattle.jv_pool.specs.Constants.{Entry, at_index, kind_of, kind_at, string_in, string_at, utf8_at}
use Rattle.jv_pool.specs.Rules.{KeepsRules}
use Rattle.std.proofs.Common.{cond}
use Rattle.std.specs.Prelude.{codes, ◌==◌}
use Rattle.std.specs.Str.{bytes_eq}
use Rattle.jv_format.specs.Format.{◌>>=◌}
use Rattle.jv_text.specs.declared.descriptor.Base.{Base}
use Rattle.jv_text.specs.declared.descriptor.Base.TheVariants as bases
use Rattle.jv_text.specs.declared.descriptor.Element.{Element}
use Rattle.jv_text.specs.declared.descriptor.Element.TheVariants as elements
use Rattle.jv_text.specs.Descriptor.{is_floating_element}
use Rattle.jv_pool.specs.declared.constant.Kind.{Kind}
use Rattle.jv_pool.specs.declared.facts.ConstantValueKind.{ConstantValueKind}
use Rattle.jv_pool.specs.declared.facts.ConstantValueKind.TheVariants as values
use Rattle.jv_pool.specs.Constants.{NameAndDescriptor, name_and_descriptor}
use Rattle.jv_pool.specs.Facts.{value_of_base, value_of_element, value_of_type}
use Rattle.jv_class_structure.specs.Structure.{ClassStructure}
use Rattle.jv_class_structure.specs.Parts.{FieldSeen}
use Rattle.jv_class.specs.Rules.{is_integer, is_long, is_string, takes, value_keeps_rules, KeepsRulesAsField, KeepsClassRules}
use Rattle.jv_class.proofs.ShownOf.{members_shown, supported_shown}
use Rattle.jv_class.specs.Inside.Shown.{KeepsFieldShown}
use Rattle.jv_class_structure.specs.Parts.{fields_of}
use Rattle.jv_class.specs.Supported.{HasNoFloating, IsSupported}
use Rattle.jv_class.proofs.ShownOf.{members_shown, supported_shown}
use Rattle.jv_class.specs.Inside.Shown.{IsFieldShownSupported}
use Rattle.std.specs.Prelude.{IfSome, IfNone}
use Rattle.jv_class_structure.specs.Seen.{seen_field}
use Rattle.jv_class_structure.specs.declared.member.Field.{Field}
use Rattle.jv_class.specs.declared.constant_value.ConstantValue.{ConstantValue}
use Rattle.jv_class.specs.Value.{is_value, value_number, value_of_field}
use Rattle.jv_class.proofs.Kept.{at_indices}

string_in_pool : (pool : List Entry) (o : Option Entry) → ((c : Entry) → o ≡ Some c → KeepsRules pool c) → option_map kind_of o ≡ Some kinds.String → IsSome (string_in pool o)
string_in_pool pool None rules e = absurd cc
string_in_pool pool (Some (Utf8 t)) rules e = absurd cc
string_in_pool pool (Some (Integer b)) rules e = absurd cc
string_in_pool pool (Some (Float b)) rules e = absurd cc
string_in_pool pool (Some (Long h l)) rules e = absurd cc
string_in_pool pool (Some (Double h l)) rules e = absurd cc
string_in_pool pool (Some (Class n)) rules e = absurd cc
string_in_pool pool (Some (String t)) rules e = rules (String t) refl
string_in_pool pool (Some (Fieldref c n)) rules e = absurd cc
string_in_pool pool (Some (Methodref c n)) rules e = absurd cc
string_in_pool pool (Some (InterfaceMethodref c n)) rules e = absurd cc
string_in_pool pool (Some (NameAndType n d)) rules e = absurd cc
string_in_pool pool (Some (MethodHandle k i)) rules e = absurd cc
string_in_pool pool (Some (MethodType d)) rules e = absurd cc
string_in_pool pool (Some (InvokeDynamic b n)) rules e = absurd cc

pub string_there : (pool : List Entry) (index : ℕ) → All (KeepsRules pool) pool → kind_at pool index ≡ Some kinds.String → IsSome (string_at pool index)
string_there pool index all e = string_in_pool pool (at_index pool index) (at_indices (KeepsRules pool) pool all index) e

-- ---- the value of a field is of one of the three kinds

or_first : (a b c : Bool) → IsTrue a → (a || (b || c)) ≡ true
or_first true b c h = refl
or_first false b c h = absurd cc

or_second : (a b c : Bool) → IsTrue b → (a || (b || c)) ≡ true
or_second true b c h = refl
or_second false b c h = cc

or_third : (a b c : Bool) → IsTrue c → (a || (b || c)) ≡ true
or_third true b c h = refl
or_third false true c h = refl
or_third false false c h = h

taken : (v : ConstantValueKind) (k : Option Kind) → IsTrue (takes v k) → (v ≡ values.Floating → ⊥) → is_value k ≡ true
taken values.Integer k t n = or_first (is_integer k) (is_long k) (is_string k) t
taken values.Long k t n = or_second (is_integer k) (is_long k) (is_string k) t
taken values.String k t n = or_third (is_integer k) (is_long k) (is_string k) t
taken values.Floating k t n = absurd (n refl)
taken values.Nothing k t n = absurd cc

floating_base : (b : Base) → value_of_base b ≡ values.Floating → is_floating_element (elements.Base b) ≡ true
floating_base bases.Long e = absurd cc
floating_base bases.Float e = refl
floating_base bases.Double e = refl
floating_base bases.Int e = absurd cc
floating_base bases.Short e = absurd cc
floating_base bases.Char e = absurd cc
floating_base bases.Byte e = absurd cc
floating_base bases.Boolean e = absurd cc

string_or_nothing : (b : Bool) → cond b values.String values.Nothing ≡ values.Floating → ⊥
string_or_nothing true e = absurd cc
string_or_nothing false e = absurd cc

floating_element : (x : Element (List ℕ)) → value_of_element x ≡ values.Floating → is_floating_element x ≡ true
floating_element (elements.Base b) e = floating_base b e
floating_element (elements.Class name) e = absurd (string_or_nothing (bytes_eq name (codes "java/lang/String")) e)

at_dimensions : (b : Bool) (x : Element (List ℕ)) → cond b (value_of_element x) values.Nothing ≡ values.Floating → is_floating_element x ≡ true
at_dimensions true x e = floating_element x e
at_dimensions false x e = absurd cc

floating_type : (t : FieldTypeOf (List ℕ)) → value_of_type t ≡ values.Floating → is_floating t ≡ true
floating_type t e = at_dimensions (t.dimensions == 0) t.element e

both_ways : (b : Bool) → b ≡ true → IsTrue (not b) → ⊥
both_ways b t n = cc

module _ (pool : List Entry) (flags : ℕ) (f : FieldSeen) (index : ℕ) (at : f.constant_value ≡ Some index) where
  kept_value : (texts : NameAndDescriptor) → KeepsRulesAsField pool flags f.access_flags f.constant_value texts → HasNoFloating texts.descriptor → is_value (kind_at pool index) ≡ true
  kept_value texts right none =
      taken (value_of_type right.type) (kind_at pool index) (ap (value_keeps_rules pool (value_of_type right.type)) (sym at) ∙ right.value_kind)
      (λ e. both_ways (is_floating right.type) (floating_type right.type e) (none.field right.type right.described))

  by_texts : (n d : Option (List ℕ)) → IsSomeAnd (n >>= λ a. d >>= λ b. Some (name_and_descriptor a b))
      (KeepsRulesAsField pool flags f.access_flags f.constant_value) → IsSomeAnd d HasNoFloating → is_value (kind_at pool index) ≡ true
  by_texts None d right none = absurd right
  by_texts (Some n) None right none = absurd right
  by_texts (Some n) (Some d) right none = kept_value (name_and_descriptor n d) right none

  pub value_kept : KeepsFieldShown pool flags f → IsFieldShownSupported pool f → is_value (kind_at pool index) ≡ true
  value_kept right none = by_texts (utf8_at pool f.name_index) (utf8_at pool f.descriptor_index) right none

pub value_is : (c : ClassStructure) → KeepsClassRules c → IsSupported c → (place : ℕ) (f : FieldSeen) (index : ℕ) → slice_get (fields_of c) place ≡
    Some f → f.constant_value ≡ Some index → is_value (kind_at c.constant_pool index) ≡ true
value_is c rules supported place f index there at =
    let lt = slice_get_within (fields_of c) place f there in
    let same = get_or_from_slice_get (fields_of c) place f f there in
    let right : KeepsFieldShown c.constant_pool c.access_flags f = subst (KeepsFieldShown c.constant_pool c.access_flags) same
    (All-get_or (KeepsFieldShown c.constant_pool c.access_flags) (fields_of c) place f lt (members_shown c rules.members).fields) in
    let none : IsFieldShownSupported c.constant_pool f = subst (IsFieldShownSupported c.constant_pool) same
    (All-get_or (IsFieldShownSupported c.constant_pool) (fields_of c) place f lt (supported_shown c supported).fields) in
    value_kept c.constant_pool c.access_flags f index at right none

pub value_same : (c : ClassStructure) → KeepsClassRules c → IsSupported c → (place : ℕ) (f : Field) (index : ℕ) (o : Option Field) →
    option_map seen_field o ≡ slice_get (fields_of c) place → o ≡ Some f → f.constant_value ≡ Some index
    → (r : Option ConstantValue) → IfSome r (λ v. value_number v ≡ index) → IfNone r (is_value (kind_at c.constant_pool index) ≡ false) → option_map value_number r ≡ value_of_field c place
value_same c rules supported place f index o seen is at (Some v) same none =
    let there : slice_get (fields_of c) place ≡ Some (seen_field f) = sym seen ∙ ap (option_map seen_field) is in
    ap Some same ∙ sym at ∙ sym (ap (λ (x : Option FieldSeen). x >>= λ g. g.constant_value) there)
value_same c rules supported place f index o seen is at None same none =
    let there : slice_get (fields_of c) place ≡ Some (seen_field f) = sym seen ∙ ap (option_map seen_field) is in
    let yes = value_is c rules supported place (seen_field f) index there at in
    absurd (cc (yes, none))
