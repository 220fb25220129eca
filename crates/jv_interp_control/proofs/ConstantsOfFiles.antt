-- In the world of a guest's files a field with a constant is static, the constant is of its type, and its value stands at its word among those
-- of all static fields (JVMS 4.5, 4.7.2).
use Rattle.std.proofs.Common.{◌≡◌, ℕ, zero, suc, Bool, true, false, not, ◌&&◌, ◌==◌, List, [], ◌∷◌, Option, Some, None, refl, sym, ap, subst, ◌∙◌, arith, if◌then◌else◌, slice_get}
use Rattle.std.specs.Prelude.{IsTrue, codes}
use Rattle.std.specs.List.{Contains, list_all}
use Rattle.std.specs.Option.{IsSomeAnd, option_map}
use Rattle.std.specs.Str.{bytes_eq}
use Rattle.std.proofs.lemmas.Bool.{eqb-true}
use Rattle.std.proofs.lemmas.List.Elements.{All-contains}
use Rattle.jv_format.specs.Format.{◌>>=◌}
use Rattle.jv_text.specs.declared.descriptor.FieldTypeOf.{FieldTypeOf}
use Rattle.jv_text.specs.declared.descriptor.Base.TheVariants as bases
use Rattle.jv_text.specs.declared.descriptor.Element.{Element}
use Rattle.jv_text.specs.declared.descriptor.Element.TheVariants as elements
use Rattle.jv_text.specs.Descriptor.{is_floating_element}
use Rattle.jv_text.specs.Types.{field_type_of}
use Rattle.jv_text.proofs.TypesOf.{agree}
use Rattle.jv_pool.specs.declared.constant.Constant.TheVariants.{Integer, Long as LongConstant, String}
use Rattle.jv_pool.specs.declared.facts.ConstantValueKind.TheVariants as values
use Rattle.jv_pool.specs.Constants.{Entry, NameAndDescriptor, name_and_descriptor, named_at, utf8_at, at_index, kind_of}
use Rattle.jv_pool.specs.Facts.{value_of_element, value_of_type}
use Rattle.jv_stackmap.specs.declared.verification.VerificationTypeOf.TheVariants as types
use Rattle.jv_stackmap.specs.Types.{FrameType, value_type, value_type_by}
use Rattle.jv_class_structure.specs.Attributes.{constant_values, value_index, sole, static_value}
use Rattle.jv_class_structure.specs.Flags.{has, acc_static}
use Rattle.jv_class_structure.specs.Structure.{FieldInfo, ClassStructure}
use Rattle.jv_class.specs.Class.{Class, Field, InitialValue, field_of, value_of_constant}
use Rattle.jv_class.specs.Class.InitialValue.{IntValue, LongValue, StringValue}
use Rattle.jv_class.specs.ClassFile.{IsWellFormed}
use Rattle.jv_class.specs.Rules.{KeepsRulesAsField, KeepsFieldRules, is_integer, is_long, is_string, takes, value_keeps_rules}
use Rattle.jv_class.specs.Supported.{HasNoFloating, IsSupportedType}
use Rattle.jv_meaning_world.specs.FileContent.{IsProfileClass}
use Rattle.jv_meaning_world.specs.World.{Loaded, World}
use Rattle.jv_meaning_world.specs.LookUps.{DeclaredField, field_by}
use Rattle.jv_meaning_typing.specs.Kind.{is_static_field}
use Rattle.jv_link_cache.specs.Places.{IsWordOf}
use Rattle.jv_meaning_machine.specs.Values.{has_type}
use Rattle.jv_meaning_machine.specs.Values.Value.{Int, Long, Reference}
use Rattle.jv_meaning_machine.specs.Objects.{key_of}
use Rattle.jv_interp_heap.specs.ObjectsInBlocks.{place_among}
use Rattle.jv_interp_held.specs.HeldInWords.{static_fields}
use Rattle.jv_interp_heap.specs.SystemNumbers.{IsGuestsWorld}
use Rattle.jv_interp_members.proofs.Sites.{stood}
use Rattle.jv_interp_members.proofs.FieldsOfFiles.{both, clash, each_passes, chained, some_same, found_each, field_named, fields_found, each_keeps}
use Rattle.jv_interp_members.proofs.Given.{own_classes}
use Rattle.jv_interp_members.proofs.FieldPlaces.{static_place}

-- ---- what is to be shown

-- a constant is of a field's type (4.7.2)
abbrev pub IsOfType : FrameType → InitialValue → Type 0
IsOfType type (IntValue number) = has_type type (Int number) ≡ true
IsOfType type (LongValue number) = has_type type (Long number) ≡ true
IsOfType type (StringValue text) = (object : ℕ) → has_type type (Reference object) ≡ true

-- A field has a type, of which its constant is, and its value is at its word among those of all static fields.
pub record ConstantFits (world : World) (d : DeclaredField) (constant : InitialValue) (word : ℕ) : Type 0 where
  pub type : FieldTypeOf (List ℕ)
  pub typed : field_type_of d.field.descriptor ≡ Some type
  pub fits : IsOfType (value_type type) constant
  pub begins : place_among (key_of d) (static_fields world) ≡ Some word

-- So it is for each field with a constant: where no class has two fields of one name and descriptor (4.5), and constants are of their fields'
-- types and stand at static fields alone (4.7.2).
abbrev pub ConstantsFit : World → Type 0
ConstantsFit world =
    (class place : ℕ) (l : Loaded) (f : Field) (constant : InitialValue) (word : ℕ) → slice_get world class ≡ Some l
    → slice_get l.class.fields place ≡ Some f → f.initial ≡ Some constant → IsWordOf world (field_by l f) word
    → ConstantFits world (field_by l f) constant word

-- ---- a field with a constant

-- a static field, and of its type
record IsConstantOf (f : Field) (constant : InitialValue) : Type 0 where
  static : IsTrue (is_static_field f)
  type : FieldTypeOf (List ℕ)
  typed : field_type_of f.descriptor ≡ Some type
  fits : IsOfType (value_type type) constant

abbrev HasRightConstants : Class → Type 0
HasRightConstants class = (f : Field) (constant : InitialValue) → Contains class.fields f → f.initial ≡ Some constant → IsConstantOf f constant

-- ---- by tests, which the system's classes pass

is_of_type : FrameType → InitialValue → Bool
is_of_type types.Int (IntValue number) = true
is_of_type types.Long (LongValue number) = true
is_of_type (types.Class name) (StringValue text) = true
is_of_type _ _ = false

fits_its_type : Option (FieldTypeOf (List ℕ)) → InitialValue → Bool
fits_its_type None constant = false
fits_its_type (Some type) constant = is_of_type (value_type type) constant

initial_passes : Field → Option InitialValue → Bool
initial_passes f None = true
initial_passes f (Some constant) = is_static_field f && fits_its_type (field_type_of f.descriptor) constant

class_passes : Class → Bool
class_passes class = list_all (λ (f : Field). initial_passes f f.initial) class.fields

passed_type : (type : FrameType) (constant : InitialValue) → is_of_type type constant ≡ true → IsOfType type constant
unfolding is_of_type
passed_type types.Int (IntValue number) e = refl
passed_type types.Long (LongValue number) e = refl
passed_type (types.Class name) (StringValue text) e = λ object. refl
passed_type _ _ e = clash (sym e)

passed_right : (class : Class) → class_passes class ≡ true → HasRightConstants class
unfolding class_passes initial_passes fits_its_type
passed_right class e f constant h initial =
    let parts =
    both (is_static_field f) (fits_its_type (field_type_of f.descriptor) constant)
    (subst (λ (o : Option InitialValue). initial_passes f o ≡ true) initial (each_passes (λ (f : Field). initial_passes f f.initial) class.fields e f h)) in
    by_type (field_type_of f.descriptor) refl parts.1
  where
    static : IsTrue (is_static_field f)
    static =
        (both (is_static_field f) (fits_its_type (field_type_of f.descriptor) constant)
        (subst (λ (o : Option InitialValue). initial_passes f o ≡ true) initial (each_passes (λ (f : Field). initial_passes f f.initial) class.fields e f h))).0

    by_type : (o : Option (FieldTypeOf (List ℕ))) → field_type_of f.descriptor ≡ o → fits_its_type o constant ≡ true → IsConstantOf f constant
    by_type None typed k = clash (sym k)
    by_type (Some type) typed k = record { static = static; type = type; typed = typed; fits = passed_type (value_type type) constant k }

own_pass : (library : List Class) → list_all class_passes (own_classes library) ≡ true
unfolding class_passes initial_passes fits_its_type is_of_type
own_pass [] = refl
own_pass (c ∷ library) = refl

-- ---- by the rules of a file (4.7.2, table 4.7.2-A)

unlike : {A : Type 0} → false ≡ true → A
unlike e = absurd cc

is_int : (pool : List Entry) (entry : Entry) (constant : InitialValue) → is_integer (Some (kind_of entry)) ≡ true
    → value_of_constant pool entry ≡ Some constant → IsOfType types.Int constant
is_int pool (Integer bits) constant h e = subst (IsOfType types.Int) (some_same _ constant e) refl
is_int pool _ constant h e = unlike h

is_long_value : (pool : List Entry) (entry : Entry) (constant : InitialValue) → is_long (Some (kind_of entry)) ≡ true
    → value_of_constant pool entry ≡ Some constant → IsOfType types.Long constant
is_long_value pool (LongConstant high low) constant h e = subst (IsOfType types.Long) (some_same _ constant e) refl
is_long_value pool _ constant h e = unlike h

is_text : (pool : List Entry) (name : List ℕ) (entry : Entry) (constant : InitialValue) → is_string (Some (kind_of entry)) ≡ true
    → value_of_constant pool entry ≡ Some constant → IsOfType (types.Class name) constant
is_text pool name (String text) constant h e = by_text (utf8_at pool text) e
  where
    by_text : (o : Option (List ℕ)) → option_map StringValue o ≡ Some constant → IsOfType (types.Class name) constant
    by_text None e = absurd cc
    by_text (Some text) e = subst (IsOfType (types.Class name)) (some_same (StringValue text) constant e) (λ object. refl)
is_text pool name _ constant h e = unlike h

is_of_element :
    (pool : List Entry) (n : ℕ) (e : Element (List ℕ)) (entry : Entry) (constant : InitialValue) → not (is_floating_element e) ≡ true
    → takes (if n == 0 then value_of_element e else values.Nothing) (Some (kind_of entry)) ≡ true → value_of_constant pool entry ≡ Some constant
    → IsOfType (value_type_by n e) constant
is_of_element pool (suc n) e entry constant plain h is = by_test (suc n == 0) refl h
  where
    by_test :
        (b : Bool) → (suc n == 0) ≡ b → takes (if b then value_of_element e else values.Nothing) (Some (kind_of entry)) ≡ true
        → IsOfType (value_type_by (suc n) e) constant
    by_test true t k = let z = eqb-true (suc n) 0 t in absurd (omega (arith, z))
    by_test false t k = unlike k
is_of_element pool zero (elements.Base bases.Byte) entry constant plain h is = is_int pool entry constant h is
is_of_element pool zero (elements.Base bases.Char) entry constant plain h is = is_int pool entry constant h is
is_of_element pool zero (elements.Base bases.Short) entry constant plain h is = is_int pool entry constant h is
is_of_element pool zero (elements.Base bases.Boolean) entry constant plain h is = is_int pool entry constant h is
is_of_element pool zero (elements.Base bases.Int) entry constant plain h is = is_int pool entry constant h is
is_of_element pool zero (elements.Base bases.Long) entry constant plain h is = is_long_value pool entry constant h is
is_of_element pool zero (elements.Base bases.Float) entry constant plain h is = unlike plain
is_of_element pool zero (elements.Base bases.Double) entry constant plain h is = unlike plain
is_of_element pool zero (elements.Class name) entry constant plain h is = by_name (bytes_eq name (codes "java/lang/String")) h
  where
    by_name : (b : Bool) → takes (if b then values.String else values.Nothing) (Some (kind_of entry)) ≡ true → IsOfType (types.Class name) constant
    by_name true k = is_text pool name entry constant k is
    by_name false k = unlike k

-- a text at an index that names a field's descriptor
descriptor_at : (pool : List Entry) (name descriptor : ℕ) (texts : NameAndDescriptor) → named_at pool name descriptor ≡ Some texts
    → utf8_at pool descriptor ≡ Some texts.descriptor
descriptor_at pool name descriptor texts e = by_texts (utf8_at pool name) (utf8_at pool descriptor) e
  where
    by_texts : (a b : Option (List ℕ)) → (a >>= λ n. b >>= λ d. Some (name_and_descriptor n d)) ≡ Some texts → b ≡ Some texts.descriptor
    by_texts None b e = absurd cc
    by_texts (Some n) None e = absurd cc
    by_texts (Some n) (Some d) e = ap (λ (t : NameAndDescriptor). Some t.descriptor) (some_same (name_and_descriptor n d) texts e)

-- the index of a constant is a static field's
static_by : (b : Bool) (o : Option ℕ) (index : ℕ) → (if b then o else None) ≡ Some index → b ≡ true
static_by true o index e = refl
static_by false o index e = absurd cc

is_constant_of :
    (pool : List Entry) (flags : ℕ) (info : FieldInfo) (f : Field) (constant : InitialValue) → KeepsFieldRules pool flags info
    → IsSupportedType pool info.descriptor_index → field_of pool info ≡ Some f → f.initial ≡ Some constant → IsConstantOf f constant
is_constant_of pool flags info f constant rules supported e initial =
    let n = field_named pool info f e in
    let kept : KeepsRulesAsField pool flags info.access_flags (static_value pool info) n.texts =
    subst (λ (o : Option NameAndDescriptor). IsSomeAnd o (KeepsRulesAsField pool flags info.access_flags (static_value pool info))) n.are rules in
    let plain : HasNoFloating n.texts.descriptor =
    subst (λ (o : Option (List ℕ)). IsSomeAnd o HasNoFloating) (descriptor_at pool info.name_index info.descriptor_index n.texts n.are) supported in
    let index = chained (static_value pool info) (λ index. at_index pool index >>= value_of_constant pool) constant (sym n.initial ∙ initial) in
    let entry = chained (at_index pool index.0) (value_of_constant pool) constant index.2 in
    let static = static_by (has info.access_flags acc_static) (sole (constant_values pool info) >>= value_index) index.0 index.1 in
    let taken : takes (value_of_type kept.type) (option_map kind_of (at_index pool index.0)) ≡ true =
    subst (λ (o : Option ℕ). value_keeps_rules pool (value_of_type kept.type) o ≡ true) index.1 kept.value_kind in
    record {
      static = ap (λ (n : ℕ). has n acc_static) n.flags ∙ static;
      type = kept.type;
      typed = ap field_type_of n.descriptor ∙ (agree.field n.texts.descriptor kept.type).0 kept.described;
      fits =
          is_of_element pool kept.type.dimensions kept.type.element entry.0 constant (plain.field kept.type kept.described)
          (subst (λ (o : Option Entry). takes (value_of_type kept.type) (option_map kind_of o) ≡ true) entry.1 taken) entry.2;
    }

structure_right : (c : ClassStructure) (class : Class) → IsWellFormed c → IsProfileClass c class → HasRightConstants class
structure_right c class formed is f constant h initial =
    let it = found_each (field_of c.constant_pool) c.fields class.fields (fields_found c class is.named) f h in
    is_constant_of c.constant_pool c.access_flags it.0 f constant
    (All-contains (KeepsFieldRules c.constant_pool c.access_flags) c.fields it.0 formed.rules.members.fields it.1)
    (All-contains (λ (info : FieldInfo). IsSupportedType c.constant_pool info.descriptor_index) c.fields it.0 is.supported.fields it.1) it.2 initial

-- ---- all of them

pub constants_fit : (world : World) → IsGuestsWorld world → ConstantsFit world
constants_fit world guests class place l f constant word class_is field_is initial is_word =
    let here = stood world class l class_is in
    let among = stood l.class.fields place f field_is in
    let right =
    each_keeps HasRightConstants structure_right (λ library c h. passed_right c (each_passes class_passes (own_classes library) (own_pass library) c h)) world guests l here f
    constant among initial in
    record {
      type = right.type;
      typed = right.typed;
      fits = right.fits;
      begins = static_place world guests (field_by l f) word here among is_word right.static;
    }
