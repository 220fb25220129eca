-- Which structures can be read and are supported, decided by tests: of those with ASCII texts whose constants are texts,
-- classes, fields, methods and their types.
use Rattle.std.proofs.Common.{◌≡◌, ℕ, ◌<◌, ◌^◌, Bool, true, false, List, [], ◌∷◌, ◌++◌, Option, Some, None, refl, sym, ap, subst, ◌∙◌, arith, inl, inr, ◌⊎◌}
use Rattle.std.specs.Prelude.{◌≢◌, IsTrue, is_some, is_none, not, ◌&&◌, nat_lt, map, if◌then◌else◌}
use Rattle.std.specs.List.{All, AllByRecursion, list_all}
use Rattle.std.specs.Option.{IsSomeAnd}
use Rattle.std.specs.Str.{bytes_eq}
use Rattle.std.proofs.lemmas.Bool.{and_parts, and_from, ltb-true, lt-ltb, false≢true}
use Rattle.std.proofs.lemmas.List.Sums.{AllPass-from_list_all}
use Rattle.std.proofs.lemmas.Slice.Eq.{bytes_eq-Decides}
use Rattle.jv_text.specs.declared.descriptor.FieldTypeOf.{FieldTypeOf}
use Rattle.jv_text.specs.Text.{unit_bytes, text_bytes, is_unit}
use Rattle.jv_text.specs.Name.{is_unqualified_name, is_class_name, is_method_name}
use Rattle.jv_text.specs.Descriptor.{MethodDescriptor, slots, is_floating, is_floating_method}
use Rattle.jv_text.specs.Types.{field_type_of, method_type_of, TypesAgree}
use Rattle.jv_pool.specs.declared.constant.Constant.TheVariants.{Utf8, Integer, Float, Long, Double, Class, String, Fieldref, Methodref, InterfaceMethodref, NameAndType, MethodHandle, MethodType, InvokeDynamic}
use Rattle.jv_pool.specs.Constants.{Entry, NameAndDescriptor, named_at, pool_fits, utf8_at, class_name_at, name_and_type_at}
use Rattle.jv_pool.specs.Facts.{value_of_type}
use Rattle.jv_pool.specs.Rules.{IsFieldDescriptor, IsMethodDescriptor, IsDescriptor, NamesField, special_name_keeps_rules, NamesMethod, KeepsRules}
use Rattle.jv_class_structure.specs.Structure.{FieldInfo, MethodInfo, ClassStructure, body_fits}
use Rattle.jv_class_structure.specs.Attributes.{attributes_keep_rules, static_value}
use Rattle.jv_class_structure.specs.Flags.{has, acc_interface, class_flags_keep_rules}
use Rattle.jv_class_structure.specs.Version.{is_supported_version}
use Rattle.jv_class.specs.Rules.{is_no_array_name, is_class_at, super_keeps_rules, interface_super_keeps_rules, field_flags_keep_rules, value_keeps_rules, KeepsRulesAsField, method_flags_keep_rules, init_keeps_rules, clinit_keeps_rules, slots_keep_rules, code_presence_keeps_rules, KeepsRulesAsMethod, field_texts, method_texts, has_code, NoTwoAlike, KeepsClassRules}
use Rattle.jv_class.specs.Supported.{HasNoFloating, IsSupportedConstant, IsSupportedType, AreSupportedFlags, is_supported_method, IsSupported}
use Rattle.jv_asm.specs.Law.{CanBeRead}

-- ---- tests of what may be there

abbrev pub passes : {A : Type 0} → (A → Bool) → Option A → Bool
passes test None = false
passes test (Some a) = test a

pub passed : {A : Type 0} (test : A → Bool) (P : A → Type 0) → ((a : A) → IsTrue (test a) → P a) → (o : Option A) → IsTrue (passes test o) → IsSomeAnd o P
passed test P sound None h = absurd cc
passed test P sound (Some a) h = sound a h

pub record Passed {A : Type 0} (test : A → Bool) (o : Option A) : Type 0 where
  pub value : A
  pub is : o ≡ Some value
  pub passes : IsTrue (test value)

pub found : {A : Type 0} (test : A → Bool) (o : Option A) → IsTrue (passes test o) → Passed test o
found test None h = absurd cc
found test (Some a) h = record { value = a; is = refl; passes = h }

pub each : {A : Type 0} (test : A → Bool) (P : A → Type 0) → ((a : A) → IsTrue (test a) → P a) → (xs : List A) → IsTrue (list_all test xs) → All P xs
each test P sound xs h = λ k d lt. sound _ (AllPass-from_list_all test xs h k d lt)

-- ---- texts

abbrev pub is_ascii : ℕ → Bool
is_ascii byte = nat_lt 0 byte && nat_lt byte 128

below_unit : (byte : ℕ) → byte < 128 → byte < 2 ^ 16
below_unit byte h = omega arith

pub ascii_spells : (text : List ℕ) → IsTrue (list_all is_ascii text) → IsTrue (list_all is_unit text) × (text ≡ text_bytes text)
ascii_spells [] h = (refl, refl)
ascii_spells (byte ∷ more) h =
    let parts = and_parts _ _ h in
    let rest = ascii_spells more parts.1 in
    let below : byte < 128 = ltb-true byte 128 (and_parts (nat_lt 0 byte) (nat_lt byte 128) parts.0).1 in
    let small : byte < 2 ^ 16 = below_unit byte below in
    let fits : IsTrue (is_unit byte) = lt-ltb byte (2 ^ 16) small in
    let ascii : (nat_lt 0 byte && nat_lt byte 128) ≡ true = parts.0 in
    let one : unit_bytes byte ≡ byte ∷ [] = rw ascii refl in
    (and_from _ _ fits rest.0, ap (λ (t : List ℕ). byte ∷ t) rest.1 ∙ ap (λ (t : List ℕ). t ++ text_bytes more) (sym one))

-- ---- constants (4.4)

abbrev pub is_descriptor : List ℕ → Bool
is_descriptor text = if is_some (field_type_of text) then true else is_some (method_type_of text)

abbrev pub names_field : NameAndDescriptor → Bool
names_field member = is_some (field_type_of member.descriptor)

abbrev pub names_method : NameAndDescriptor → Bool
names_method member =
    is_method_name member.name && passes (λ type. special_name_keeps_rules member.name type.result) (method_type_of member.descriptor)

abbrev pub keeps_rules : List Entry → Entry → Bool
keeps_rules pool (Utf8 text) = list_all is_ascii text
keeps_rules pool (Class name) = passes is_class_name (utf8_at pool name)
keeps_rules pool (Fieldref class name_and_type) = is_some (class_name_at pool class) && passes names_field (name_and_type_at pool name_and_type)
keeps_rules pool (Methodref class name_and_type) = is_some (class_name_at pool class) && passes names_method (name_and_type_at pool name_and_type)
keeps_rules pool (NameAndType name descriptor) = passes is_unqualified_name (utf8_at pool name) && passes is_descriptor (utf8_at pool descriptor)
keeps_rules pool _ = false

some_value : {A : Type 0} (o : Option A) → IsTrue (is_some o) → (a : A) × (o ≡ Some a)
some_value None h = absurd cc
some_value (Some a) h = (a, refl)

field_described : TypesAgree → (text : List ℕ) → IsTrue (is_some (field_type_of text)) → IsFieldDescriptor text
field_described agree text h =
    let type = some_value (field_type_of text) h in
    (type.0, (agree.field text type.0).1 type.1)

method_described : TypesAgree → (text : List ℕ) → IsTrue (is_some (method_type_of text)) → IsMethodDescriptor text
method_described agree text h =
    let type = some_value (method_type_of text) h in
    (type.0, (agree.method text type.0).1 type.1)

either : {P Q : Type 0} {a : Bool} (b : Bool) → (IsTrue b → P) → (IsTrue a → Q) → IsTrue (if b then true else a) → P ⊎ Q
either true p q h = inl (p refl)
either false p q h = inr (q h)

described : TypesAgree → (text : List ℕ) → IsTrue (is_descriptor text) → IsDescriptor text
described agree text h = either _ (field_described agree text) (method_described agree text) h

method_named : TypesAgree → (member : NameAndDescriptor) → IsTrue (names_method member) → NamesMethod member
method_named agree member h =
    let parts = and_parts _ _ h in
    let type = found _ (method_type_of member.descriptor) parts.1 in
    record { named = parts.0; type = type.value; described = (agree.method member.descriptor type.value).1 type.is; special = type.passes }

pub rules_kept : TypesAgree → (pool : List Entry) (entry : Entry) → IsTrue (keeps_rules pool entry) → KeepsRules pool entry
rules_kept agree pool (Utf8 text) h = let spelled = ascii_spells text h in (text, record { fit = spelled.0; spelled = spelled.1 })
rules_kept agree pool (Integer bits) h = absurd cc
rules_kept agree pool (Float bits) h = absurd cc
rules_kept agree pool (Long high low) h = absurd cc
rules_kept agree pool (Double high low) h = absurd cc
rules_kept agree pool (Class name) h = passed is_class_name _ (λ text k. inl k) (utf8_at pool name) h
rules_kept agree pool (String text) h = absurd cc
rules_kept agree pool (Fieldref class name_and_type) h =
    let parts = and_parts _ _ h in
    record { owner = parts.0; member = passed names_field NamesField (λ member k. field_described agree member.descriptor k) (name_and_type_at pool name_and_type) parts.1 }
rules_kept agree pool (Methodref class name_and_type) h =
    let parts = and_parts _ _ h in
    record { owner = parts.0; member = passed names_method NamesMethod (method_named agree) (name_and_type_at pool name_and_type) parts.1 }
rules_kept agree pool (InterfaceMethodref class name_and_type) h = absurd cc
rules_kept agree pool (NameAndType name descriptor) h =
    let parts = and_parts _ _ h in
    record { named = passed is_unqualified_name _ (λ text k. k) (utf8_at pool name) parts.0; described = passed is_descriptor _ (described agree) (utf8_at pool descriptor) parts.1 }
rules_kept agree pool (MethodHandle kind index) h = absurd cc
rules_kept agree pool (MethodType descriptor) h = absurd cc
rules_kept agree pool (InvokeDynamic bootstrap name_and_type) h = absurd cc

-- ---- the class, its fields and its methods (4.1, 4.5, 4.6)

abbrev pub name_keeps_rules : List Entry → ℕ → List ℕ → Bool
name_keeps_rules pool super_class name = is_no_array_name name && super_keeps_rules pool name super_class

abbrev pub itself_keeps_rules : ClassStructure → Bool
itself_keeps_rules c =
    class_flags_keep_rules c.access_flags && (passes (name_keeps_rules c.constant_pool c.super_class) (class_name_at c.constant_pool c.this_class)
    && (interface_super_keeps_rules c.constant_pool c.access_flags c.super_class && list_all (is_class_at c.constant_pool) c.interfaces))

abbrev pub field_keeps_rules : List Entry → ℕ → FieldInfo → NameAndDescriptor → Bool
field_keeps_rules pool class_flags f texts =
    is_unqualified_name texts.name && (field_flags_keep_rules (has class_flags acc_interface) f.access_flags
    && passes (λ type. value_keeps_rules pool (value_of_type type) (static_value pool f)) (field_type_of texts.descriptor))

abbrev pub field_keeps : List Entry → ℕ → FieldInfo → Bool
field_keeps pool class_flags f = passes (field_keeps_rules pool class_flags f) (named_at pool f.name_index f.descriptor_index)

abbrev pub type_keeps_rules : ℕ → MethodInfo → NameAndDescriptor → MethodDescriptor → Bool
type_keeps_rules class_flags m texts type =
    init_keeps_rules (has class_flags acc_interface) texts.name (is_none type.result) && slots_keep_rules m.access_flags (slots type)

abbrev pub method_keeps_rules : ℕ → ℕ → MethodInfo → NameAndDescriptor → Bool
method_keeps_rules major class_flags m texts =
    is_method_name texts.name && (method_flags_keep_rules major (has class_flags acc_interface) texts.name m.access_flags
    && (clinit_keeps_rules texts.name texts.descriptor m.access_flags
    && (code_presence_keeps_rules texts.name m.access_flags (has_code m) && passes (type_keeps_rules class_flags m texts) (method_type_of texts.descriptor))))

abbrev pub method_keeps : List Entry → ℕ → ℕ → MethodInfo → Bool
method_keeps pool major class_flags m = passes (method_keeps_rules major class_flags m) (named_at pool m.name_index m.descriptor_index)

field_is_kept : TypesAgree → (pool : List Entry) (class_flags : ℕ) (f : FieldInfo) (texts : NameAndDescriptor) →
    IsTrue (field_keeps_rules pool class_flags f texts) → KeepsRulesAsField pool class_flags f.access_flags (static_value pool f) texts
field_is_kept agree pool class_flags f texts h =
    let parts = and_parts _ _ h in
    let rest = and_parts _ _ parts.1 in
    let type = found _ (field_type_of texts.descriptor) rest.1 in
    record { named = parts.0; type = type.value; described = (agree.field texts.descriptor type.value).1 type.is; flags_keep_rules = rest.0; value_kind = type.passes }

method_is_kept : TypesAgree → (major class_flags : ℕ) (m : MethodInfo) (texts : NameAndDescriptor) →
    IsTrue (method_keeps_rules major class_flags m texts) → KeepsRulesAsMethod major class_flags m.access_flags (has_code m) texts
method_is_kept agree major class_flags m texts h =
    let parts = and_parts _ _ h in
    let rest = and_parts _ _ parts.1 in
    let more = and_parts _ _ rest.1 in
    let last = and_parts _ _ more.1 in
    let type = found _ (method_type_of texts.descriptor) last.1 in
    let ends = and_parts _ _ type.passes in
    record {
      named = parts.0;
      type = type.value;
      described = (agree.method texts.descriptor type.value).1 type.is;
      flags_keep_rules = rest.0;
      init = ends.0;
      clinit = more.0;
      few_slots = ends.1;
      code_there = last.0;
    }

-- ---- no two alike

abbrev pub same_texts : Option NameAndDescriptor → Option NameAndDescriptor → Bool
same_texts None None = true
same_texts (Some a) (Some b) = bytes_eq a.name b.name && bytes_eq a.descriptor b.descriptor
same_texts _ _ = false

abbrev pub none_alike : List (Option NameAndDescriptor) → Bool
none_alike [] = true
none_alike (texts ∷ others) = list_all (λ other. not (same_texts texts other)) others && none_alike others

same_bytes : (text : List ℕ) → IsTrue (bytes_eq text text)
same_bytes text = (bytes_eq-Decides text text).1 refl

itself_same : (a : Option NameAndDescriptor) → IsTrue (same_texts a a)
itself_same None = refl
itself_same (Some a) = and_from _ _ (same_bytes a.name) (same_bytes a.descriptor)

unlike : (a b : Option NameAndDescriptor) → IsTrue (not (same_texts a b)) → a ≢ b
unlike a b h e =
    let same : IsTrue (same_texts a b) = subst (λ x. IsTrue (same_texts a x)) e (itself_same a) in
    absurd (false≢true (sym (ap not same) ∙ h))

unlike_each : (a : Option NameAndDescriptor) (others : List (Option NameAndDescriptor)) → IsTrue (list_all (λ other. not (same_texts a other)) others) → AllByRecursion (λ other. a ≢ other) others
unlike_each a [] h = tt
unlike_each a (b ∷ others) h = let parts = and_parts _ _ h in (unlike a b parts.0, unlike_each a others parts.1)

no_two : (all : List (Option NameAndDescriptor)) → IsTrue (none_alike all) → NoTwoAlike all
no_two [] h = tt
no_two (a ∷ others) h = let parts = and_parts _ _ h in (unlike_each a others parts.0, no_two others parts.1)

-- ---- the whole

abbrev pub members_keep_rules : ClassStructure → Bool
members_keep_rules c =
    (list_all (field_keeps c.constant_pool c.access_flags) c.fields && list_all (method_keeps c.constant_pool c.major_version c.access_flags) c.methods)
    && (none_alike (map (field_texts c.constant_pool) c.fields) && none_alike (map (method_texts c.constant_pool) c.methods))

abbrev pub version_supported : ClassStructure → Bool
version_supported c = is_supported_version c.minor_version c.major_version

abbrev pub numbers_keep_rules : ClassStructure → Bool
numbers_keep_rules c = pool_fits c.constant_pool && (body_fits c && (attributes_keep_rules c && list_all (keeps_rules c.constant_pool) c.constant_pool))

pub class_rules_kept : TypesAgree → (c : ClassStructure) → IsTrue (itself_keeps_rules c) → IsTrue (members_keep_rules c) → KeepsClassRules c
class_rules_kept agree c h k =
    let flags = and_parts _ _ h in
    let name = and_parts _ _ flags.1 in
    let supers = and_parts _ _ name.1 in
    let parts = and_parts _ _ k in
    let right = and_parts _ _ parts.0 in
    let apart = and_parts _ _ parts.1 in
    record {
      itself = record {
        flags = flags.0;
        named = passed (name_keeps_rules c.constant_pool c.super_class) _
            (λ text t. let two = and_parts _ _ t in record { no_array = two.0; superclass = two.1 }) (class_name_at c.constant_pool c.this_class)
            name.0;
        supers = record { interface_super = supers.0; interfaces = each (is_class_at c.constant_pool) _ (λ index t. t) c.interfaces supers.1 };
      };
      members = record {
        fields = each (field_keeps c.constant_pool c.access_flags) _ (λ f t. passed (field_keeps_rules c.constant_pool c.access_flags f) _
            (field_is_kept agree c.constant_pool c.access_flags f) (named_at c.constant_pool f.name_index f.descriptor_index) t) c.fields right.0;
        methods = each (method_keeps c.constant_pool c.major_version c.access_flags) _
            (λ m t. passed (method_keeps_rules c.major_version c.access_flags m) _ (method_is_kept agree c.major_version c.access_flags m)
            (named_at c.constant_pool m.name_index m.descriptor_index) t) c.methods right.1;
      };
      unlike = record { fields = no_two _ apart.0; methods = no_two _ apart.1 };
    }

abbrev pub can_be_read : ClassStructure → Bool
can_be_read c = version_supported c && (numbers_keep_rules c && (itself_keeps_rules c && members_keep_rules c))

pub readable : TypesAgree → (c : ClassStructure) → IsTrue (can_be_read c) → CanBeRead c
readable agree c h =
    let version = and_parts _ _ h in
    let parts = and_parts _ _ version.1 in
    let numbers = and_parts _ _ parts.0 in
    let body = and_parts _ _ numbers.1 in
    let rest = and_parts _ _ body.1 in
    let rules = and_parts _ _ parts.1 in
    record {
      version = version.0;
      well_formed = record {
        pool = record { spelled = refl; fits = numbers.0; rules = each (keeps_rules c.constant_pool) _ (rules_kept agree c.constant_pool) c.constant_pool rest.1 };
        fits = body.0;
        attributes = rest.0;
        rules = class_rules_kept agree c rules.0 rules.1;
      };
    }

-- ---- what the profile supports

abbrev pub no_floating_field : Option (FieldTypeOf (List ℕ)) → Bool
no_floating_field None = true
no_floating_field (Some type) = not (is_floating type)

abbrev pub no_floating_method : Option MethodDescriptor → Bool
no_floating_method None = true
no_floating_method (Some type) = not (is_floating_method type)

abbrev pub no_floating : List ℕ → Bool
no_floating text = no_floating_field (field_type_of text) && no_floating_method (method_type_of text)

nothing_floats : TypesAgree → (text : List ℕ) → IsTrue (no_floating text) → HasNoFloating text
nothing_floats agree text h =
    let parts = and_parts _ _ h in
    record {
      field = λ type is. subst (λ o. IsTrue (no_floating_field o)) ((agree.field text type).0 is) parts.0;
      method = λ type is. subst (λ o. IsTrue (no_floating_method o)) ((agree.method text type).0 is) parts.1;
    }

abbrev pub constant_supported : List Entry → Entry → Bool
constant_supported pool (Utf8 text) = true
constant_supported pool (Class name) = passes is_no_array_name (utf8_at pool name)
constant_supported pool (Fieldref class name_and_type) = true
constant_supported pool (Methodref class name_and_type) = true
constant_supported pool (NameAndType name descriptor) = passes no_floating (utf8_at pool descriptor)
constant_supported pool _ = false

constant_is_supported : TypesAgree → (pool : List Entry) (entry : Entry) → IsTrue (constant_supported pool entry) → IsSupportedConstant pool entry
constant_is_supported agree pool (Utf8 text) h = tt
constant_is_supported agree pool (Integer bits) h = absurd cc
constant_is_supported agree pool (Float bits) h = absurd cc
constant_is_supported agree pool (Long high low) h = absurd cc
constant_is_supported agree pool (Double high low) h = absurd cc
constant_is_supported agree pool (Class name) h =
    passed is_no_array_name _ (λ text t. record { array = λ a. absurd (false≢true (sym (ap not a) ∙ t)) }) (utf8_at pool name) h
constant_is_supported agree pool (String text) h = absurd cc
constant_is_supported agree pool (Fieldref class name_and_type) h = tt
constant_is_supported agree pool (Methodref class name_and_type) h = tt
constant_is_supported agree pool (InterfaceMethodref class name_and_type) h = absurd cc
constant_is_supported agree pool (NameAndType name descriptor) h = passed no_floating _ (nothing_floats agree) (utf8_at pool descriptor) h
constant_is_supported agree pool (MethodHandle kind index) h = absurd cc
constant_is_supported agree pool (MethodType descriptor) h = absurd cc
constant_is_supported agree pool (InvokeDynamic bootstrap name_and_type) h = absurd cc

abbrev pub field_supported : List Entry → FieldInfo → Bool
field_supported pool f = passes no_floating (utf8_at pool f.descriptor_index)

abbrev pub method_supported : List Entry → MethodInfo → Bool
method_supported pool m =
    passes no_floating (utf8_at pool m.descriptor_index) && passes (λ name. is_supported_method name m.access_flags) (utf8_at pool m.name_index)

method_is_supported : TypesAgree → (pool : List Entry) (m : MethodInfo) → IsTrue (method_supported pool m) → IsSupportedType pool m.descriptor_index ×
    AreSupportedFlags pool m.name_index m.access_flags
method_is_supported agree pool m h =
    let parts = and_parts _ _ h in (
      passed no_floating _ (nothing_floats agree) (utf8_at pool m.descriptor_index) parts.0,
      passed (λ name. is_supported_method name m.access_flags) _ (λ name t. t) (utf8_at pool m.name_index) parts.1,
    )

abbrev pub is_supported : ClassStructure → Bool
is_supported c =
    list_all (constant_supported c.constant_pool) c.constant_pool
    && (list_all (field_supported c.constant_pool) c.fields && list_all (method_supported c.constant_pool) c.methods)

pub supported : TypesAgree → (c : ClassStructure) → IsTrue (is_supported c) → IsSupported c
supported agree c h =
    let parts = and_parts _ _ h in
    let rest = and_parts _ _ parts.1 in
    record {
      constants = each (constant_supported c.constant_pool) _ (constant_is_supported agree c.constant_pool) c.constant_pool parts.0;
      fields = each (field_supported c.constant_pool) _ (λ f t. passed no_floating _ (nothing_floats agree) (utf8_at c.constant_pool f.descriptor_index) t) c.fields rest.0;
      methods = each (method_supported c.constant_pool) _ (method_is_supported agree c.constant_pool) c.methods rest.1;
    }
