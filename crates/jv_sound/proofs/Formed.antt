-- What a class keeps of its file's rules (JVMS 4.4 to 4.7): tests of the class itself, which the class of a well-formed structure that is
-- supported passes.
use Rattle.std.proofs.Common.{◌≡◌, ◌⊎◌, inl, inr, ℕ, zero, suc, ◌+◌, ◌*◌, Bool, true, false, not, ◌&&◌, ◌||◌, ◌==◌, List, [], ◌∷◌, ◌++◌, Option, Some, None, refl, sym, ap, subst, ◌∙◌, arith}
use Rattle.std.specs.Prelude.{IsTrue, IsSome, is_some, is_none, slice_get, bit_and, codes, if◌then◌else◌}
use Rattle.std.specs.List.{All, Contains}
use Rattle.std.specs.Option.{IsSomeAnd, option_map}
use Rattle.std.specs.Str.{bytes_eq}
use Rattle.std.proofs.lemmas.Bool.{eqb-true, and_from}
use Rattle.std.proofs.lemmas.List.Elements.{All-head, All-tail, All-contains, All-contains_itself}
use Rattle.std.proofs.lemmas.Nat.{and_assoc}
use Rattle.jv_text.specs.declared.descriptor.FieldTypeOf.{FieldTypeOf}
use Rattle.jv_text.specs.declared.descriptor.Base.TheVariants as bases
use Rattle.jv_text.specs.declared.descriptor.Element.{Element}
use Rattle.jv_text.specs.declared.descriptor.Element.TheVariants as elements
use Rattle.jv_text.specs.Text.{IsText}
use Rattle.jv_text.specs.Name.{is_init, is_array_name}
use Rattle.jv_text.specs.Descriptor.{MethodDescriptor, is_floating_element, is_floating, is_floating_method}
use Rattle.jv_text.specs.Types.{field_type_of, method_type_of, TypesAgree}
use Rattle.jv_stackmap.specs.declared.verification.VerificationTypeOf.TheVariants as types
use Rattle.jv_stackmap.specs.Types.{FrameType, value_type}
use Rattle.jv_class_structure.specs.Flags.{has, acc_static, acc_interface, acc_abstract, acc_native, acc_private, acc_final, acc_synchronized, acc_strict, acc_bridge, field_flags_but_synthetic, visibility_keeps_rules, volatile_keeps_rules, abstract_keeps_rules, interface_field_keeps_rules, init_flags_keep_rules}
use Rattle.jv_class_structure.specs.Structure.{FieldInfo, MethodInfo, ClassStructure}
use Rattle.jv_class_structure.specs.Parts.{CodeSeen, method_shown, code_shown}
use Rattle.jv_class_structure.specs.Attributes.{some_and, static_value, sole, codes_of}
use Rattle.jv_pool.specs.declared.constant.Constant.TheVariants.{Utf8, Integer, Float, Long, Double, Class as ClassConstant, String, Fieldref, Methodref, InterfaceMethodref, NameAndType, MethodHandle, MethodType, InvokeDynamic}
use Rattle.jv_pool.specs.declared.facts.ConstantValueKind.{ConstantValueKind}
use Rattle.jv_pool.specs.declared.facts.ConstantValueKind.TheVariants as values
use Rattle.jv_pool.specs.Facts.{value_of_element, value_of_type}
use Rattle.jv_pool.specs.Constants.{Entry, NameAndDescriptor, named_at, utf8_in, utf8_at, at_index, usable, table_of, takes_two, kind_of, class_name_at}
use Rattle.jv_pool.specs.Rules.{KeepsRules}
use Rattle.jv_class.specs.Class.{Class, Field, Method, InitialValue, field_of, method_of, initial_value, value_of_constant, all_found, super_of, class_of}
use Rattle.jv_class.specs.Class.InitialValue.{IntValue, LongValue, StringValue}
use Rattle.jv_class.specs.ClassFile.{IsWellFormed, class_name}
use Rattle.jv_class.specs.Rules.{KeepsRulesAsName, is_no_array_name, is_object, is_clinit, is_no_arguments_void, is_integer, is_long, is_string, takes, value_keeps_rules, field_flags_keep_rules, method_flags_keep_rules, interface_flags_keep_rules, named_flags_keep_rules, init_keeps_rules, clinit_keeps_rules, code_presence_keeps_rules, KeepsRulesAsField, KeepsRulesAsMethod, KeepsFieldRules, KeepsMethodRules, has_code}
use Rattle.jv_class.specs.Supported.{IsSupported, IsSupportedConstant, IsSupportedType, AreSupportedFlags, is_supported_method, HasNoFloating, IsNoFloatingArray}
use Rattle.jv_format.specs.Format.{◌>>=◌}
use Rattle.jv_meaning_machine.specs.Literals.{string_name}
use Rattle.jv_sound.proofs.Logic.{clash}
use Rattle.jv_sound.proofs.Taking.{and_parts}
use Rattle.jv_sound.proofs.Formats.{chained, of_each}

-- ---- the tests

-- there is a type, and no floating point number is in it
abbrev pub plain_type : Option (FieldTypeOf (List ℕ)) → Bool
plain_type None = false
plain_type (Some type) = not (is_floating type)

abbrev pub plain_method_type : Option MethodDescriptor → Bool
plain_method_type None = false
plain_method_type (Some d) = not (is_floating_method d)

-- where there is a type, none is in it
abbrev pub no_floating_type : Option (FieldTypeOf (List ℕ)) → Bool
no_floating_type None = true
no_floating_type (Some type) = not (is_floating type)

abbrev pub no_floating_method : Option MethodDescriptor → Bool
no_floating_method None = true
no_floating_method (Some d) = not (is_floating_method d)

-- the value of a constant is of a type
abbrev pub value_is : FrameType → InitialValue → Bool
value_is types.Int (IntValue number) = true
value_is types.Long (LongValue number) = true
value_is (types.Class name) (StringValue text) = bytes_eq name string_name
value_is _ _ = false

abbrev pub initial_fits : Option (FieldTypeOf (List ℕ)) → Option InitialValue → Bool
initial_fits type None = true
initial_fits None (Some value) = false
initial_fits (Some type) (Some value) = value_is (value_type type) value

abbrev pub field_test : ℕ → Field → Bool
field_test class_flags f =
    plain_type (field_type_of f.descriptor)
    && (initial_fits (field_type_of f.descriptor) f.initial && (not (has class_flags acc_interface) || has f.access_flags acc_static))

-- `<clinit>`, `<init>`, static methods, and others that are not abstract have code
abbrev pub needs_code : Method → Bool
needs_code m = (is_clinit m.name || is_init m.name) || (has m.access_flags acc_static || not (has m.access_flags acc_abstract))

abbrev pub code_test : Method → Bool
code_test m = not (needs_code m) || is_some m.code

abbrev pub is_void : Option MethodDescriptor → Bool
is_void None = false
is_void (Some d) = is_none d.result

-- `<init>` is void, not static, and in no interface; `<clinit>` is static and `()V`
abbrev pub init_test : ℕ → Method → Bool
init_test class_flags m =
    not (is_init m.name) || (not (has class_flags acc_interface) &&
    (is_void (method_type_of m.descriptor) && not (has m.access_flags acc_static)))

abbrev pub clinit_test : Method → Bool
clinit_test m = not (is_clinit m.name) || (has m.access_flags acc_static && is_no_arguments_void m.descriptor)

abbrev pub method_test : ℕ → Method → Bool
method_test class_flags m = plain_method_type (method_type_of m.descriptor) && (init_test class_flags m && clinit_test m)

abbrev pub descriptor_test : Option (List ℕ) → Bool
descriptor_test None = false
descriptor_test (Some text) = no_floating_type (field_type_of text) && no_floating_method (method_type_of text)

abbrev pub class_test : Option (List ℕ) → Bool
class_test None = false
class_test (Some text) = not (is_array_name text) || no_floating_type (field_type_of text)

-- a constant of the profile
abbrev pub constant_test : List Entry → Entry → Bool
constant_test pool (Utf8 text) = true
constant_test pool (Integer bits) = true
constant_test pool (Float bits) = false
constant_test pool (Long high low) = true
constant_test pool (Double high low) = false
constant_test pool (ClassConstant name) = class_test (utf8_at pool name)
constant_test pool (String text) = true
constant_test pool (Fieldref class name_and_type) = true
constant_test pool (Methodref class name_and_type) = true
constant_test pool (InterfaceMethodref class name_and_type) = true
constant_test pool (NameAndType name descriptor) = descriptor_test (utf8_at pool descriptor)
constant_test pool (MethodHandle kind index) = false
constant_test pool (MethodType descriptor) = false
constant_test pool (InvokeDynamic bootstrap name_and_type) = false

-- a String constant's text is found, and is one
abbrev pub HasText : List Entry → Entry → Type 0
HasText pool (String text) = (bytes : List ℕ) × (utf8_at pool text ≡ Some bytes) × IsText bytes
HasText pool _ = Unit {0}

abbrev pub IsInitialText : Option InitialValue → Type 0
IsInitialText (Some (StringValue text)) = IsText text
IsInitialText _ = Unit {0}

-- a name of a class is none of an array
abbrev pub class_name_test : List ℕ → Bool
class_name_test name = not (is_array_name name)

abbrev pub super_name_test : Option (List ℕ) → Bool
super_name_test None = true
super_name_test (Some name) = not (is_array_name name)

pub record IsFormed (class : Class) : Type 0 where
  pub named : class_name_test class.name ≡ true
  pub superclass : super_name_test class.super_class ≡ true
  pub fields : (f : Field) → Contains class.fields f → field_test class.access_flags f ≡ true
  pub initials : (f : Field) → Contains class.fields f → IsInitialText f.initial
  pub methods : (m : Method) → Contains class.methods m → method_test class.access_flags m ≡ true
  pub constants : (index : ℕ) (entry : Entry) → at_index class.constant_pool index ≡ Some entry
      → (constant_test class.constant_pool entry ≡ true) × HasText class.constant_pool entry

pub record IsCoded (class : Class) : Type 0 where
  pub coded : (m : Method) → Contains class.methods m → code_test m ≡ true

-- ---- lists

pub found_each : {A B : Type 0} (find : A → Option B) (as_ : List A) (bs : List B) → all_found find as_ ≡ Some bs → (b : B) → Contains bs b
    → (a : A) × Contains as_ a × (find a ≡ Some b)
found_each {A = A} {B = B} find as_ bs e b h = of_each find (Contains as_) (λ (b : B). (a : A) × Contains as_ a
    × (find a ≡ Some b)) (λ a b c f. (a, c, f)) as_ bs (All-contains_itself as_) e b h

found_in : (b : Bool) (c : Entry) (rest : List (Option Entry)) (n : ℕ) (d : Entry)
    → usable (slice_get ((if b then Some c ∷ None ∷ [] else Some c ∷ []) ++ rest) n) ≡ Some d
    → (c ≡ d) ⊎ ((m : ℕ) × (usable (slice_get rest m) ≡ Some d))
found_in true c rest zero d e = inl (cc)
found_in true c rest (suc zero) d e = absurd cc
found_in true c rest (suc (suc m)) d e = inr (m, e)
found_in false c rest zero d e = inl (cc)
found_in false c rest (suc m) d e = inr (m, e)

at_table : (P : Entry → Type 0) (pool : List Entry) → All P pool → (n : ℕ) (c : Entry) → usable (slice_get (table_of pool) n) ≡ Some c → P c
at_table P [] all n c e = absurd cc
at_table P (d ∷ pool) all n c e = by_part (λ m f. at_table P pool (All-tail P d pool all) m c f)
    (found_in (takes_two d) d (table_of pool) n c e)
  where
    by_part : ((m : ℕ) → usable (slice_get (table_of pool) m) ≡ Some c → P c)
        → (d ≡ c) ⊎ ((m : ℕ) × (usable (slice_get (table_of pool) m) ≡ Some c)) → P c
    by_part again (inl same) = subst P same (All-head P d pool all)
    by_part again (inr more) = again more.0 more.1

pub at_indices : (P : Entry → Type 0) (pool : List Entry) → All P pool → (index : ℕ) (c : Entry) → at_index pool index ≡ Some c → P c
at_indices P pool all zero c e = absurd cc
at_indices P pool all (suc n) c e = at_table P pool all n c e

-- ---- flags

pub no_bit : (n : ℕ) → not (n == 0) ≡ false → n ≡ 0
no_bit n h = by_test (n == 0) refl h
  where
    by_test : (b : Bool) → (n == 0) ≡ b → not b ≡ false → n ≡ 0
    by_test true e h = eqb-true n 0 e
    by_test false e h = absurd (clash (sym h))

-- of flags that are not set none is
pub has_none : (flags all one : ℕ) → bit_and all one ≡ one → has flags all ≡ false → has flags one ≡ false
has_none flags all one part h =
    let z : bit_and flags all ≡ 0 = no_bit (bit_and flags all) h in
    ap (λ (n : ℕ). not (n == 0)) (ap (bit_and flags) (sym part) ∙ sym (and_assoc one flags all) ∙ ap (λ (n : ℕ). bit_and n one) z)

pub not_true : (b : Bool) → not b ≡ true → b ≡ false
not_true false e = refl
not_true true e = absurd (clash e)

or_of : (a b : Bool) → (a ≡ true → b ≡ true) → (not a || b) ≡ true
or_of true b h = h refl
or_of false b h = refl

pub or_gives : (a b : Bool) → (not a || b) ≡ true → a ≡ true → b ≡ true
or_gives true b h e = h
or_gives false b h e = absurd (clash e)

-- ---- texts

pub parts_named : (pool : List Entry) (n d : ℕ) (texts : NameAndDescriptor) → named_at pool n d ≡ Some texts
    → (utf8_at pool n ≡ Some texts.name) × (utf8_at pool d ≡ Some texts.descriptor)
parts_named pool n d texts e = by_texts (utf8_at pool n) (utf8_at pool d) e
  where
    by_texts : (a b : Option (List ℕ)) → (a >>= λ n. b >>= λ d. Some
        (Rattle.jv_pool.specs.Constants.name_and_descriptor n d)) ≡ Some texts
        → (a ≡ Some texts.name) × (b ≡ Some texts.descriptor)
    by_texts None b k = absurd cc
    by_texts (Some x) None k = absurd cc
    by_texts (Some x) (Some y) k =
        let same : Rattle.jv_pool.specs.Constants.name_and_descriptor x y ≡ texts = cc in
        (ap (λ (t : NameAndDescriptor). Some t.name) same, ap (λ (t : NameAndDescriptor). Some t.descriptor) same)

pub some_and_at : {A : Type 0} (P : A → Type 0) (o : Option A) (a : A) → IsSomeAnd o P → o ≡ Some a → P a
some_and_at P None a h e = absurd h
some_and_at P (Some b) a h e = let same : b ≡ a = cc in subst P same h

module _ (agree : TypesAgree) where
  no_floating_field_text : (text : List ℕ) → HasNoFloating text → no_floating_type (field_type_of text) ≡ true
  no_floating_field_text text h = by_type (field_type_of text) refl
    where
      by_type : (o : Option (FieldTypeOf (List ℕ))) → field_type_of text ≡ o → no_floating_type o ≡ true
      by_type None e = refl
      by_type (Some type) e = h.field type ((agree.field text type).1 e)

  no_floating_method_text : (text : List ℕ) → HasNoFloating text → no_floating_method (method_type_of text) ≡ true
  no_floating_method_text text h = by_type (method_type_of text) refl
    where
      by_type : (o : Option MethodDescriptor) → method_type_of text ≡ o → no_floating_method o ≡ true
      by_type None e = refl
      by_type (Some type) e = h.method type ((agree.method text type).1 e)

  -- ---- constants

  supported_passes : (pool : List Entry) (entry : Entry) → IsSupportedConstant pool entry → constant_test pool entry ≡ true
  supported_passes pool (Utf8 text) h = refl
  supported_passes pool (Integer bits) h = refl
  supported_passes pool (Float bits) h = absurd h
  supported_passes pool (Long high low) h = refl
  supported_passes pool (Double high low) h = absurd h
  supported_passes pool (ClassConstant name) h = by_text (utf8_at pool name) h
    where
      by_text : (o : Option (List ℕ)) → IsSomeAnd o IsNoFloatingArray → class_test o ≡ true
      by_text None k = absurd k
      by_text (Some text) k = or_of (is_array_name text) (no_floating_type (field_type_of text))
          (λ a. no_floating_field_text text (k.array a))
  supported_passes pool (String text) h = refl
  supported_passes pool (Fieldref class name_and_type) h = refl
  supported_passes pool (Methodref class name_and_type) h = refl
  supported_passes pool (InterfaceMethodref class name_and_type) h = refl
  supported_passes pool (NameAndType name descriptor) h = by_text (utf8_at pool descriptor) h
    where
      by_text : (o : Option (List ℕ)) → IsSomeAnd o HasNoFloating → descriptor_test o ≡ true
      by_text None k = absurd k
      by_text (Some text) k = and_from (no_floating_type (field_type_of text)) (no_floating_method (method_type_of text))
          (no_floating_field_text text k) (no_floating_method_text text k)
  supported_passes pool (MethodHandle kind index) h = absurd h
  supported_passes pool (MethodType descriptor) h = absurd h
  supported_passes pool (InvokeDynamic bootstrap name_and_type) h = absurd h

-- ---- constant values

int_value : (pool : List Entry) (entry : Entry) → is_integer (Some (kind_of entry)) ≡ true
    → (v : InitialValue) × (value_of_constant pool entry ≡ Some v) × (value_is types.Int v ≡ true)
int_value pool (Integer bits) h = (IntValue (Rattle.std.specs.Int.cast_signed Rattle.std.specs.Int.w32 bits), refl, refl)
int_value pool _ h = absurd (clash h)

long_value : (pool : List Entry) (entry : Entry) → is_long (Some (kind_of entry)) ≡ true
    → (v : InitialValue) × (value_of_constant pool entry ≡ Some v) × (value_is types.Long v ≡ true)
long_value pool (Long high low) h = (
  LongValue (Rattle.std.specs.Int.cast_signed Rattle.std.specs.Int.w64
      (high * 4294967296 + low)),
  refl,
  refl,
)
long_value pool _ h = absurd (clash h)

string_value : (pool : List Entry) (entry : Entry) → is_string (Some (kind_of entry)) ≡ true → (text : ℕ) × (entry ≡ String text)
string_value pool (String text) h = (text, refl)
string_value pool _ h = absurd (clash h)

typed_by : (n : ℕ) (e : Element (List ℕ)) → FieldTypeOf (List ℕ)
typed_by n e = record { dimensions = n; element = e }

int_fits : (pool : List Entry) (type : FieldTypeOf (List ℕ)) (entry : Entry) → value_type type ≡ types.Int
    → is_integer (Some (kind_of entry)) ≡ true → initial_fits (Some type) (value_of_constant pool entry) ≡ true
int_fits pool type entry t h =
    let v = int_value pool entry h in
    ap (initial_fits (Some type)) v.1 ∙ (ap (λ (u : FrameType). value_is u v.0) t ∙ v.2)

long_fits : (pool : List Entry) (type : FieldTypeOf (List ℕ)) (entry : Entry) → value_type type ≡ types.Long
    → is_long (Some (kind_of entry)) ≡ true → initial_fits (Some type) (value_of_constant pool entry) ≡ true
long_fits pool type entry t h =
    let v = long_value pool entry h in
    ap (initial_fits (Some type)) v.1 ∙ (ap (λ (u : FrameType). value_is u v.0) t ∙ v.2)

string_fits : (pool : List Entry) (type : FieldTypeOf (List ℕ)) (name : List ℕ) (entry : Entry) → value_type type ≡ types.Class name
    → bytes_eq name string_name ≡ true → is_string (Some (kind_of entry)) ≡ true
    → initial_fits (Some type) (value_of_constant pool entry) ≡ true
string_fits pool type name entry t n h =
    let v = string_value pool entry h in
    ap (λ (x : Entry). initial_fits (Some type) (value_of_constant pool x)) v.1 ∙ by_text (utf8_at pool v.0)
  where
    by_text : (o : Option (List ℕ)) → initial_fits (Some type) (option_map StringValue o) ≡ true
    by_text None = refl
    by_text (Some text) = ap (λ (u : FrameType). value_is u (StringValue text)) t ∙ n

constant_fits : (pool : List Entry) (n : ℕ) (e : Element (List ℕ)) (entry : Entry) → not (is_floating_element e) ≡ true
    → takes (if n == 0 then value_of_element e else values.Nothing) (Some (kind_of entry)) ≡ true
    → initial_fits (Some (record { dimensions = n; element = e })) (value_of_constant pool entry) ≡ true
constant_fits pool (suc n) e entry f h = by_test (suc n == 0) refl h
  where
    by_test : (b : Bool) → (suc n == 0) ≡ b → takes (if b then value_of_element e else values.Nothing) (Some (kind_of entry)) ≡ true
        → initial_fits (Some (record { dimensions = suc n; element = e })) (value_of_constant pool entry) ≡ true
    by_test true t k = absurd (not_zero (eqb-true (suc n) 0 t))
      where
        not_zero : suc n ≡ 0 → ⊥
        not_zero z = absurd (omega (arith, z))
    by_test false t k = absurd (clash k)
constant_fits pool zero (elements.Base bases.Byte) entry f h = int_fits pool
    (record { dimensions = 0; element = elements.Base bases.Byte }) entry refl h
constant_fits pool zero (elements.Base bases.Char) entry f h = int_fits pool
    (record { dimensions = 0; element = elements.Base bases.Char }) entry refl h
constant_fits pool zero (elements.Base bases.Short) entry f h = int_fits pool
    (record { dimensions = 0; element = elements.Base bases.Short }) entry refl h
constant_fits pool zero (elements.Base bases.Boolean) entry f h = int_fits pool
    (record { dimensions = 0; element = elements.Base bases.Boolean }) entry refl h
constant_fits pool zero (elements.Base bases.Int) entry f h = int_fits pool
    (record { dimensions = 0; element = elements.Base bases.Int }) entry refl h
constant_fits pool zero (elements.Base bases.Long) entry f h = long_fits pool
    (record { dimensions = 0; element = elements.Base bases.Long }) entry refl h
constant_fits pool zero (elements.Base bases.Float) entry f h = absurd (clash f)
constant_fits pool zero (elements.Base bases.Double) entry f h = absurd (clash f)
constant_fits pool zero (elements.Class name) entry f h = by_name (bytes_eq name (codes "java/lang/String")) refl h
  where
    by_name : (b : Bool) → bytes_eq name (codes "java/lang/String") ≡ b
        → takes (if b then values.String else values.Nothing) (Some (kind_of entry)) ≡ true
        → initial_fits (Some (record { dimensions = 0; element = elements.Class name })) (value_of_constant pool entry) ≡ true
    by_name true t k = string_fits pool (record { dimensions = 0; element = elements.Class name }) name entry refl t k
    by_name false t k = absurd (clash k)

nothing_taken : (v : ConstantValueKind) → takes v None ≡ true → v ≡ values.Floating
nothing_taken values.Floating h = refl
nothing_taken values.Integer h = absurd (clash h)
nothing_taken values.Long h = absurd (clash h)
nothing_taken values.String h = absurd (clash h)
nothing_taken values.Nothing h = absurd (clash h)

initial_ok : (pool : List Entry) (type : FieldTypeOf (List ℕ)) (index : Option ℕ) → not (is_floating type) ≡ true
    → value_keeps_rules pool (value_of_type type) index ≡ true
    → initial_fits (Some type) (index >>= λ i. at_index pool i >>= value_of_constant pool) ≡ true
initial_ok pool type None f h = refl
initial_ok pool type (Some i) f h = by_entry (at_index pool i) h
  where
    by_entry : (o : Option Entry) → takes (value_of_type type) (option_map kind_of o) ≡ true
        → initial_fits (Some type) (o >>= value_of_constant pool) ≡ true
    by_entry None k = refl
    by_entry (Some entry) k = constant_fits pool type.dimensions type.element entry f k

-- ---- texts of strings

utf8_is_text : (pool : List Entry) (index : ℕ) (bytes : List ℕ) → All (KeepsRules pool) pool → utf8_at pool index ≡ Some bytes
    → IsText bytes
utf8_is_text pool index bytes rules e = by_entry (at_index pool index) refl e
  where
    by_entry : (o : Option Entry) → at_index pool index ≡ o → utf8_in o ≡ Some bytes → IsText bytes
    by_entry None k e = absurd cc
    by_entry (Some (Utf8 text)) k e =
        let same : text ≡ bytes = cc in
        subst IsText same (at_indices (KeepsRules pool) pool rules index (Utf8 text) k)
    by_entry (Some _) k e = absurd cc

initial_text : (pool : List Entry) → All (KeepsRules pool) pool → (index : Option ℕ)
    → IsInitialText (index >>= λ i. at_index pool i >>= value_of_constant pool)
initial_text pool rules None = tt
initial_text pool rules (Some i) = by_entry (at_index pool i)
  where
    by_text : (t : ℕ) (o : Option (List ℕ)) → utf8_at pool t ≡ o → IsInitialText (option_map StringValue o)
    by_text t None e = tt
    by_text t (Some text) e = utf8_is_text pool t text rules e

    by_entry : (o : Option Entry) → IsInitialText (o >>= value_of_constant pool)
    by_entry None = tt
    by_entry (Some (String t)) = by_text t (utf8_at pool t) refl
    by_entry (Some (Integer bits)) = tt
    by_entry (Some (Long high low)) = tt
    by_entry (Some _) = tt

text_there : (pool : List Entry) → All (KeepsRules pool) pool → (index : ℕ) (entry : Entry) → at_index pool index ≡ Some entry
    → HasText pool entry
text_there pool rules index (String t) e = by_text (utf8_at pool t) refl (at_indices (KeepsRules pool) pool rules index (String t) e)
  where
    by_text : (o : Option (List ℕ)) → utf8_at pool t ≡ o → IsSome o → (bytes : List ℕ) × (utf8_at pool t ≡ Some bytes) × IsText bytes
    by_text None k s = absurd cc
    by_text (Some bytes) k s = (bytes, k, utf8_is_text pool t bytes rules k)
text_there pool rules index _ e = tt

-- ---- fields

plain_of : (type : FieldTypeOf (List ℕ)) (o : Option (FieldTypeOf (List ℕ))) → o ≡ Some type → no_floating_type o ≡ true
    → not (is_floating type) ≡ true
plain_of type o e h = subst (λ (x : Option (FieldTypeOf (List ℕ))). no_floating_type x ≡ true) e h

third : (a b c : Bool) → (a && b && c) ≡ true → c ≡ true
third true true c h = h
third true false c h = absurd (clash h)
third false b c h = absurd (clash h)

-- an interface's field is static, by its flags
static_flags : (flags : ℕ) → interface_field_keeps_rules flags ≡ true → has flags acc_static ≡ true
static_flags flags e =
    let masked : bit_and flags field_flags_but_synthetic ≡ 25 = eqb-true (bit_and flags field_flags_but_synthetic) 25 e in
    let eight : bit_and flags 8 ≡ 8 = sym (and_assoc 8 flags field_flags_but_synthetic) ∙ ap (λ (n : ℕ). bit_and n 8) masked in
    ap (λ (n : ℕ). not (n == 0)) eight

static_in_interface : (interface : Bool) (flags : ℕ) → field_flags_keep_rules interface flags ≡ true
    → (not interface || has flags acc_static) ≡ true
static_in_interface false flags h = refl
static_in_interface true flags h = static_flags flags (third (visibility_keeps_rules flags) (volatile_keeps_rules flags)
    (interface_field_keeps_rules flags) h)

field_made : (pool : List Entry) (info : FieldInfo) (f : Field) → field_of pool info ≡ Some f
    → (texts : NameAndDescriptor) × (named_at pool info.name_index info.descriptor_index ≡ Some texts)
    × (record { access_flags = info.access_flags; name = texts.name; descriptor = texts.descriptor; initial = initial_value pool info } ≡ f)
field_made pool info f e = by_texts (named_at pool info.name_index info.descriptor_index) refl e
  where
    by_texts : (o : Option NameAndDescriptor) → named_at pool info.name_index info.descriptor_index ≡ o
        → option_map (λ (texts : NameAndDescriptor). record {
          access_flags = info.access_flags;
          name = texts.name;
          descriptor =
              texts.descriptor;
          initial = initial_value pool info;
        }) o ≡ Some f
        → (texts : NameAndDescriptor) × (named_at pool info.name_index info.descriptor_index ≡ Some texts)
        × (record { access_flags = info.access_flags; name = texts.name; descriptor = texts.descriptor; initial = initial_value pool info }
        ≡ f)
    by_texts None k e = absurd cc
    by_texts (Some texts) k e = (texts, k, cc)

module _ (agree : TypesAgree) where
  field_passes : (pool : List Entry) (class_flags : ℕ) (info : FieldInfo) (f : Field) → KeepsFieldRules pool class_flags info
      → IsSupportedType pool info.descriptor_index → field_of pool info ≡ Some f → field_test class_flags f ≡ true
  field_passes pool class_flags info f rules supported e =
      let made = field_made pool info f e in
      let texts = made.0 in
      let kept : KeepsRulesAsField pool class_flags info.access_flags (static_value pool info) texts = some_and_at
      (KeepsRulesAsField pool class_flags info.access_flags (static_value pool info))
      (named_at pool info.name_index info.descriptor_index) texts rules made.1 in
      let at : utf8_at pool info.descriptor_index ≡ Some texts.descriptor =
      (parts_named pool info.name_index info.descriptor_index texts made.1).1 in
      let typed : field_type_of texts.descriptor ≡ Some kept.type = (agree.field texts.descriptor kept.type).0 kept.described in
      let plain : not (is_floating kept.type) ≡ true = plain_of kept.type (field_type_of texts.descriptor) typed
      (no_floating_field_text agree texts.descriptor (some_and_at HasNoFloating
      (utf8_at pool info.descriptor_index) texts.descriptor supported at)) in
      subst (λ (x : Field). field_test class_flags x ≡ true) made.2
      (and_from (plain_type (field_type_of texts.descriptor)) _ (ap plain_type typed ∙ plain)
      (and_from (initial_fits (field_type_of texts.descriptor) (initial_value pool info))
      (not (has class_flags acc_interface) || has info.access_flags acc_static)
      (ap (λ (o : Option (FieldTypeOf (List ℕ))). initial_fits o (initial_value pool info)) typed ∙ initial_ok pool kept.type
      (static_value pool info) plain kept.value_kind)
      (static_in_interface (has class_flags acc_interface) info.access_flags kept.flags_keep_rules)))

initial_is_text : (pool : List Entry) (info : FieldInfo) (f : Field) → All (KeepsRules pool) pool → field_of pool info ≡ Some f
    → IsInitialText f.initial
initial_is_text pool info f rules e =
    let made = field_made pool info f e in
    subst (λ (x : Field). IsInitialText x.initial) made.2 (initial_text pool rules (static_value pool info))

-- ---- methods

method_made : (pool : List Entry) (info : MethodInfo) (m : Method) → method_of pool info ≡ Some m
    → (texts : NameAndDescriptor) × (named_at pool info.name_index info.descriptor_index ≡ Some texts)
    × (record {
      access_flags = info.access_flags;
      name = texts.name;
      descriptor = texts.descriptor;
      code =
          (method_shown pool info).code;
    } ≡ m)
method_made pool info m e = by_texts (named_at pool info.name_index info.descriptor_index) refl e
  where
    by_texts : (o : Option NameAndDescriptor) → named_at pool info.name_index info.descriptor_index ≡ o
        → option_map (λ (texts : NameAndDescriptor). record {
          access_flags = info.access_flags;
          name = texts.name;
          descriptor =
              texts.descriptor;
          code = (method_shown pool info).code;
        }) o ≡ Some m
        → (texts : NameAndDescriptor) × (named_at pool info.name_index info.descriptor_index ≡ Some texts)
        × (record {
          access_flags = info.access_flags;
          name = texts.name;
          descriptor = texts.descriptor;
          code =
              (method_shown pool info).code;
        } ≡ m)
    by_texts None k e = absurd cc
    by_texts (Some texts) k e = (texts, k, cc)

same_some_ness : {A B : Type 0} (f : A → B) (o : Option A) → is_some (option_map f o) ≡ is_some o
same_some_ness f None = refl
same_some_ness f (Some a) = refl

-- `<init>` is not static nor abstract, and it is no `<clinit>`
init_not_clinit : (name : List ℕ) → is_init name ≡ true → is_clinit name ≡ false
init_not_clinit name e =
    let same : name ≡ codes "<init>" = Rattle.jv_meaning_world.proofs.Up.same_name name (codes "<init>") e in
    ap is_clinit same

init_flags : (major : ℕ) (interface : Bool) (name : List ℕ) (flags : ℕ)
    → method_flags_keep_rules major interface name flags ≡ true → is_init name ≡ true
    → (has flags acc_static ≡ false) × (has flags acc_abstract ≡ false)
init_flags major interface name flags h init =
    let plain : (visibility_keeps_rules flags && abstract_keeps_rules flags && interface_flags_keep_rules major interface flags &&
    named_flags_keep_rules name flags) ≡ true =
    ap (λ (b : Bool). if b then true else visibility_keeps_rules flags && abstract_keeps_rules flags && interface_flags_keep_rules
    major interface flags && named_flags_keep_rules name flags) (sym (init_not_clinit name init)) ∙ h in
    let last : named_flags_keep_rules name flags ≡ true = fourth (visibility_keeps_rules flags) (abstract_keeps_rules flags)
    (interface_flags_keep_rules major interface flags) (named_flags_keep_rules name flags) plain in
    let kept : init_flags_keep_rules flags ≡ true = ap (λ (b : Bool). if b then init_flags_keep_rules flags else true) (sym init) ∙ last in
    let none : has flags (acc_static + acc_final + acc_synchronized + acc_bridge + acc_native + acc_abstract) ≡ false = not_true
    (has flags (acc_static + acc_final + acc_synchronized + acc_bridge + acc_native + acc_abstract)) kept in (
      has_none flags (acc_static + acc_final + acc_synchronized + acc_bridge + acc_native + acc_abstract) acc_static refl none,
      has_none
          flags (acc_static + acc_final + acc_synchronized + acc_bridge + acc_native + acc_abstract) acc_abstract refl none,
    )
  where
    fourth : (a b c d : Bool) → (a && b && c && d) ≡ true → d ≡ true
    fourth true true true d h = h
    fourth true true false d h = absurd (clash h)
    fourth true false c d h = absurd (clash h)
    fourth false b c d h = absurd (clash h)

-- a static method is not abstract
static_flags_of : (major : ℕ) (interface : Bool) (name : List ℕ) (flags : ℕ)
    → method_flags_keep_rules major interface name flags ≡ true
    → is_clinit name ≡ false → has flags acc_static ≡ true → has flags acc_abstract ≡ false
static_flags_of major interface name flags h plain_name static =
    let plain : (visibility_keeps_rules flags && abstract_keeps_rules flags && interface_flags_keep_rules major interface flags &&
    named_flags_keep_rules name flags) ≡ true =
    ap (λ (b : Bool). if b then true else visibility_keeps_rules flags && abstract_keeps_rules flags && interface_flags_keep_rules
    major interface flags && named_flags_keep_rules name flags) (sym plain_name) ∙ h in
    by_abstract (has flags acc_abstract) refl (second (visibility_keeps_rules flags) (abstract_keeps_rules flags)
    (interface_flags_keep_rules major interface flags) (named_flags_keep_rules name flags) plain)
  where
    second : (a b c d : Bool) → (a && b && c && d) ≡ true → b ≡ true
    second true true c d h = refl
    second true false c d h = absurd (clash h)
    second false b c d h = absurd (clash h)

    by_abstract : (b : Bool) → has flags acc_abstract ≡ b → (if b then not
        (has flags (acc_private + acc_static + acc_final + acc_synchronized + acc_native + acc_strict)) else true) ≡ true
        → has flags acc_abstract ≡ false
    by_abstract false e k = e
    by_abstract true e k =
        absurd (clash (sym (has_none flags (acc_private + acc_static + acc_final + acc_synchronized + acc_native + acc_strict) acc_static
        refl (not_true (has flags (acc_private + acc_static + acc_final + acc_synchronized + acc_native + acc_strict)) k)) ∙ static))

code_ok : (major : ℕ) (interface : Bool) (name : List ℕ) (flags : ℕ) (code : Option CodeSeen)
    → method_flags_keep_rules major interface name flags ≡ true
    → code_presence_keeps_rules name flags (is_some code) ≡ true
    → (is_clinit name || not (has flags acc_native)) ≡ true → (not
    ((is_clinit name || is_init name) || (has flags acc_static || not (has flags acc_abstract))) || is_some code) ≡ true
code_ok major interface name flags code rules there supported = by_clinit (is_clinit name) refl there supported
  where
    no_body : (a b : Bool) → has flags acc_abstract ≡ a → has flags acc_native ≡ b → a ≡ false → b ≡ false
        → has flags (acc_abstract + acc_native) ≡ false
    no_body a b ea eb fa fb = both_clear (ea ∙ fa) (eb ∙ fb)
      where
        both_clear : has flags acc_abstract ≡ false → has flags acc_native ≡ false → has flags (acc_abstract + acc_native) ≡ false
        both_clear x y = ap (λ (n : ℕ). not (n == 0)) (Rattle.jv_sound.proofs.Bits.two_bits flags (no_bit (bit_and flags 1024) x)
            (no_bit (bit_and flags 256) y))

    with_body : is_clinit name ≡ false → has flags acc_abstract ≡ false → has flags acc_native ≡ false
        → (if not (is_clinit name) && has flags (acc_abstract + acc_native) then not (is_some code) else is_some code) ≡ true
        → is_some code ≡ true
    with_body c a n k =
        ap (λ (b : Bool). if b then not (is_some code) else is_some code)
        (sym (ap (λ (b : Bool). not b && has flags (acc_abstract + acc_native)) c ∙ no_body (has flags acc_abstract)
        (has flags acc_native) refl refl a n)) ∙ k

    or_true : (b : Bool) → (b || true) ≡ true
    or_true true = refl
    or_true false = refl

    plain_case : is_clinit name ≡ false → has flags acc_native ≡ false → (i s a : Bool) → is_init name ≡ i → has flags acc_static ≡ s
        → has flags acc_abstract ≡ a → (if not (is_clinit name) && has flags (acc_abstract + acc_native) then not
        (is_some code) else is_some code) ≡ true
        → (not ((false || i) || (s || not a)) || is_some code) ≡ true
    plain_case c n i s false ei es ea k = ap (λ (b : Bool). not ((false || i) || (s || true)) || b) (with_body c ea n k) ∙ or_true
        (not ((false || i) || (s || true)))
    plain_case c n true s true ei es ea k = absurd (clash (sym (init_flags major interface name flags rules ei).1 ∙ ea))
    plain_case c n false true true ei es ea k = absurd (clash (sym (static_flags_of major interface name flags rules c es) ∙ ea))
    plain_case c n false false true ei es ea k = refl

    by_clinit : (b : Bool) → is_clinit name ≡ b → (if not (is_clinit name) && has flags (acc_abstract + acc_native) then not
        (is_some code) else is_some code) ≡ true → (is_clinit name || not (has flags acc_native)) ≡ true
        → (not ((is_clinit name || is_init name) || (has flags acc_static || not (has flags acc_abstract))) || is_some code) ≡ true
    by_clinit true e k n =
        let coded : is_some code ≡ true = ap (λ (b : Bool). if not b && has flags (acc_abstract + acc_native) then not
        (is_some code) else is_some code) (sym e) ∙ k in
        ap (λ (b : Bool). not ((is_clinit name || is_init name) ||
        (has flags acc_static || not (has flags acc_abstract))) || b) coded ∙ or_true
        (not ((is_clinit name || is_init name) || (has flags acc_static || not (has flags acc_abstract))))
    by_clinit false e k n =
        ap (λ (b : Bool). not ((b || is_init name) || (has flags acc_static || not (has flags acc_abstract))) || is_some code) e
        ∙ plain_case e (not_true (has flags acc_native) (ap (λ (b : Bool). b || not (has flags acc_native)) (sym e) ∙ n)) (is_init name)
        (has flags acc_static) (has flags acc_abstract) refl refl refl k

init_ok : (major : ℕ) (interface : Bool) (name : List ℕ) (flags : ℕ) (void : Bool)
    → method_flags_keep_rules major interface name flags ≡ true
    → init_keeps_rules interface name void ≡ true → (not (is_init name) || (not interface && (void && not (has flags acc_static)))) ≡ true
init_ok major interface name flags void rules kept = or_of (is_init name) (not interface && (void && not (has flags acc_static))) (λ e.
    let both : (not interface && void) ≡ true = ap (λ (b : Bool). if b then not interface && void else true) (sym e) ∙ kept in
    let parts = and_parts (not interface) void both in
    and_from (not interface) (void && not (has flags acc_static)) parts.0
    (and_from void (not (has flags acc_static)) parts.1 (ap not (init_flags major interface name flags rules e).0)))

clinit_ok : (name descriptor : List ℕ) (flags : ℕ) → clinit_keeps_rules name descriptor flags ≡ true
    → (not (is_clinit name) || (has flags acc_static && is_no_arguments_void descriptor)) ≡ true
clinit_ok name descriptor flags h = or_of (is_clinit name) (has flags acc_static && is_no_arguments_void descriptor)
    (λ e. ap (λ (b : Bool). if b then has flags acc_static && is_no_arguments_void descriptor else true) (sym e) ∙ h)

not_native : (name : List ℕ) (flags : ℕ) → is_supported_method name flags ≡ true → (is_clinit name || not (has flags acc_native)) ≡ true
not_native name flags h = by_test (is_clinit name) h
  where
    by_test : (b : Bool) → (b || not (has flags (acc_native + acc_synchronized))) ≡ true → (b || not (has flags acc_native)) ≡ true
    by_test true k = refl
    by_test false k = ap not (has_none flags (acc_native + acc_synchronized) acc_native refl
        (not_true (has flags (acc_native + acc_synchronized)) k))

plain_method_of : (type : MethodDescriptor) (o : Option MethodDescriptor) → o ≡ Some type → no_floating_method o ≡ true
    → not (is_floating_method type) ≡ true
plain_method_of type o e h = subst (λ (x : Option MethodDescriptor). no_floating_method x ≡ true) e h

module _ (agree : TypesAgree) where
  method_passes : (pool : List Entry) (major class_flags : ℕ) (info : MethodInfo) (m : Method) → KeepsMethodRules pool major class_flags info
      → IsSupportedType pool info.descriptor_index → AreSupportedFlags pool info.name_index info.access_flags
      → method_of pool info ≡ Some m → (method_test class_flags m ≡ true) × (code_test m ≡ true)
  method_passes pool major class_flags info m rules supported flags e =
      let made = method_made pool info m e in
      let texts = made.0 in
      let kept : KeepsRulesAsMethod major class_flags info.access_flags (has_code info) texts = some_and_at
      (KeepsRulesAsMethod major class_flags info.access_flags (has_code info))
      (named_at pool info.name_index info.descriptor_index) texts rules made.1 in
      let at = parts_named pool info.name_index info.descriptor_index texts made.1 in
      let typed : method_type_of texts.descriptor ≡ Some kept.type = (agree.method texts.descriptor kept.type).0 kept.described in
      let plain : not (is_floating_method kept.type) ≡ true = plain_method_of kept.type (method_type_of texts.descriptor) typed
      (no_floating_method_text agree texts.descriptor (some_and_at HasNoFloating
      (utf8_at pool info.descriptor_index) texts.descriptor supported at.1)) in
      let free : is_supported_method texts.name info.access_flags ≡ true = some_and_at
      (λ (name : List ℕ). IsTrue (is_supported_method name info.access_flags)) (utf8_at pool info.name_index) texts.name flags at.0 in (
        subst (λ (x : Method). method_test class_flags x ≡ true) made.2
            (and_from (plain_method_type (method_type_of texts.descriptor)) _ (ap plain_method_type typed ∙ plain)
            (and_from (not (is_init texts.name) || (not (has class_flags acc_interface) &&
            (is_void (method_type_of texts.descriptor) && not (has info.access_flags acc_static))))
            (not (is_clinit texts.name) || (has info.access_flags acc_static && is_no_arguments_void texts.descriptor))
            (ap (λ (o : Option MethodDescriptor). not (is_init texts.name) ||
            (not (has class_flags acc_interface) && (is_void o && not (has info.access_flags acc_static)))) typed
            ∙ init_ok major (has class_flags acc_interface) texts.name info.access_flags
            (is_none kept.type.result) kept.flags_keep_rules kept.init)
            (clinit_ok texts.name texts.descriptor info.access_flags kept.clinit))),
        subst (λ (x : Method). code_test x ≡ true) made.2
            (code_ok major (has class_flags acc_interface) texts.name info.access_flags (method_shown pool info).code kept.flags_keep_rules
            (ap (code_presence_keeps_rules texts.name info.access_flags)
            (same_some_ness (code_shown pool) (sole (codes_of info))) ∙ kept.code_there)
            (not_native texts.name info.access_flags free)),
      )

-- ---- the class of a structure

pub record AreParts (c : ClassStructure) (class : Class) : Type 0 where
  pub name : class_name c ≡ Some class.name
  pub superclass : super_of c ≡ Some class.super_class
  pub flags : c.access_flags ≡ class.access_flags
  pub pool : c.constant_pool ≡ class.constant_pool
  pub fields : all_found (field_of c.constant_pool) c.fields ≡ Some class.fields
  pub methods : all_found (method_of c.constant_pool) c.methods ≡ Some class.methods

pub parts_of : (c : ClassStructure) (class : Class) → class_of c ≡ Some class → AreParts c class
parts_of c class e =
    let name = chained (class_name c) _ class e in
    let above = chained (super_of c) _ class name.2 in
    let interfaces = chained (all_found (class_name_at c.constant_pool) c.interfaces) _ class above.2 in
    let fields = chained (all_found (field_of c.constant_pool) c.fields) _ class interfaces.2 in
    let methods = chained (all_found (method_of c.constant_pool) c.methods) _ class fields.2 in
    record {
      name = name.1 ∙ ap (λ (n : List ℕ). Some n) cc;
      superclass = above.1 ∙ ap
          (λ (n : Option (List ℕ)). Some n) cc;
      flags = cc;
      pool = cc;
      fields = fields.1 ∙ ap
          (λ (l : List Field). Some l) cc;
      methods = methods.1 ∙ ap (λ (l : List Method). Some l) cc;
    }

-- the law ClassIsFormed: the class of a well-formed file is formed, and its methods have the code that they need
pub class_is_formed : TypesAgree → (c : ClassStructure) (class : Class) → IsWellFormed c → IsSupported c → class_of c ≡ Some class
    → IsFormed class × IsCoded class
class_is_formed agree c class formed supported e =
    let parts = parts_of c class e in (
      record {
        named = (some_and_at (λ n. KeepsRulesAsName c.constant_pool c.super_class n)
            (class_name c) class.name formed.rules.itself.named parts.name).no_array;
        superclass = super_passes (c.super_class == 0) (is_object class.name) (class_name_at c.constant_pool c.super_class) parts.superclass
            (some_and_at (λ n. KeepsRulesAsName c.constant_pool c.super_class n)
            (class_name c) class.name formed.rules.itself.named parts.name).superclass;
        fields = λ f h.
            let found = found_each (field_of c.constant_pool) c.fields class.fields parts.fields f h in
            subst (λ (n : ℕ). field_test n f ≡ true) parts.flags
            (field_passes agree c.constant_pool c.access_flags found.0 f
            (All-contains (KeepsFieldRules c.constant_pool c.access_flags) c.fields found.0 formed.rules.members.fields found.1)
            (All-contains (λ (f : FieldInfo). IsSupportedType c.constant_pool f.descriptor_index) c.fields found.0 supported.fields found.1)
            found.2);
        initials = λ f h.
            let found = found_each (field_of c.constant_pool) c.fields class.fields parts.fields f h in
            initial_is_text c.constant_pool found.0 f formed.pool.rules found.2;
        methods = λ m h.
            let found = found_each (method_of c.constant_pool) c.methods class.methods parts.methods m h in
            subst (λ (n : ℕ). method_test n m ≡ true) parts.flags (method_both c class formed supported found.0 m found.1 found.2).0;
        constants = λ index entry at. subst (λ (pool : List Entry). at_index pool index ≡ Some entry
            → (constant_test pool entry ≡ true) × HasText pool entry) parts.pool
            (λ at. (
              at_indices (λ (x : Entry). constant_test c.constant_pool x ≡ true) c.constant_pool
                  (all_also (IsSupportedConstant c.constant_pool) (λ (x : Entry). constant_test c.constant_pool x ≡ true)
                  (supported_passes agree c.constant_pool) c.constant_pool supported.constants) index entry at,
              text_there c.constant_pool formed.pool.rules index entry at,
            )) at;
      },
      record {
        coded = λ m h.
            let found = found_each (method_of c.constant_pool) c.methods class.methods parts.methods m h in
            (method_both c class formed supported found.0 m found.1 found.2).1;
      },
    )
  where
    super_passes : (none object : Bool) (o : Option (List ℕ)) → (if none then Some None else option_map Some o) ≡ Some class.super_class
        → (if object then none else some_and is_no_array_name o) ≡ true → super_name_test class.super_class ≡ true
    super_passes true object o k h = let same : None ≡ class.super_class = cc in ap super_name_test (sym same)
    super_passes false true o k h = absurd (clash h)
    super_passes false false None k h = absurd (clash h)
    super_passes false false (Some name) k h = let same : Some name ≡ class.super_class = cc in ap super_name_test (sym same) ∙ h

    all_also : {X : Type 0} (P Q : X → Type 0) → ((x : X) → P x → Q x) → (xs : List X) → All P xs → All Q xs
    all_also P Q f [] h = Rattle.std.proofs.lemmas.List.Elements.All-nil Q
    all_also P Q f (x ∷ xs) h = Rattle.std.proofs.lemmas.List.Elements.All-cons Q x xs (f x (All-head P x xs h))
        (all_also P Q f xs (All-tail P x xs h))

    method_both : (c : ClassStructure) (class : Class) → IsWellFormed c → IsSupported c → (info : MethodInfo) (m : Method)
        → Contains c.methods info → method_of c.constant_pool info ≡ Some m → (method_test c.access_flags m ≡ true) × (code_test m ≡ true)
    method_both c class formed supported info m there e =
        let both = All-contains (λ (m : MethodInfo). IsSupportedType c.constant_pool m.descriptor_index
        × AreSupportedFlags c.constant_pool m.name_index m.access_flags) c.methods info supported.methods there in
        method_passes agree c.constant_pool c.major_version c.access_flags info m
        (All-contains (KeepsMethodRules c.constant_pool c.major_version c.access_flags) c.methods info formed.rules.members.methods there) both.0 both.1 e
