-- What the operands of a class name, where the class names known classes alone: known types (JVMS 4.10.1.9).
use Rattle.std.proofs.Common.{◌≡◌, ℕ, zero, suc, ◌+◌, ◌-◌, Bool, true, false, not, List, map, Option, Some, None, refl, codes}
use Rattle.std.specs.Prelude.{IfSome, IsTrue, if◌then◌else◌, nat_le}
use Rattle.std.specs.List.{AllByRecursion}
use Rattle.std.specs.Option.{option_map, option_or}
use Rattle.jv_format.specs.Format.{◌>>=◌}
use Rattle.jv_text.specs.declared.descriptor.Base.{Base}
use Rattle.jv_text.specs.declared.descriptor.Base.TheVariants as bases
use Rattle.jv_text.specs.declared.descriptor.Element.{Element}
use Rattle.jv_text.specs.declared.descriptor.Element.TheVariants as elements
use Rattle.jv_text.specs.declared.descriptor.FieldTypeOf.{FieldTypeOf}
use Rattle.jv_text.specs.Descriptor.{MethodDescriptor}
use Rattle.jv_text.specs.Name.{is_array_name, is_class_name}
use Rattle.jv_text.specs.Types.{field_type_of, method_type_of}
use Rattle.jv_pool.specs.declared.constant.Constant.TheVariants as constants
use Rattle.jv_pool.specs.Constants.{Entry, at_index, class_name_at, name_and_type_at, MemberReference, member_of, member_at, field_reference_in, method_reference_in, interface_method_reference_in, method_reference_at, interface_method_reference_at}
use Rattle.jv_class.specs.Class.{Class}
use Rattle.jv_stackmap.specs.declared.verification.VerificationTypeOf.TheVariants as types
use Rattle.jv_stackmap.specs.Types.{array_of, reference_type, primitive_type, value_type_by, value_type}
use Rattle.jv_meaning_typing.specs.Operands.{MethodReference, through, class_operand, field_operand, method_operand}
use Rattle.jv_meaning_typing.specs.Operands.MethodConstant.{Methodref, InterfaceMethodref}
use Rattle.jv_meaning_typing.specs.Environment.{Environment, current_class}
use Rattle.jv_meaning_typing.specs.Named.{array_with, class_components, when, constant_type_of, constant_type, named_type, operand_type, array_of_operand, array_operand, FieldUse, field_named_by, MethodUse, result_types, can_be_of, method_named_by}
use Rattle.jv_meaning_library.proofs.Answers.{KnownElement, KnownType}
use Rattle.jv_meaning_library.proofs.Frames.{AllKnown}
use Rattle.jv_meaning_library.proofs.Steps.{each_mapped, each_weaker}

-- ---- steps

module _ {A B : Type 0} (P : A → Type 0) (Q : B → Type 0) where
  pub if_bound : (o : Option A) (f : A → Option B) → IfSome o P → ((a : A) → P a → IfSome (f a) Q) → IfSome (o >>= f) Q
  if_bound None f h next = tt
  if_bound (Some a) f h next = next a h

  pub if_mapped : (o : Option A) (f : A → B) → IfSome o P → ((a : A) → P a → Q (f a)) → IfSome (option_map f o) Q
  if_mapped None f h next = tt
  if_mapped (Some a) f h next = next a h

module _ {A : Type 0} (P : A → Type 0) where
  pub if_when : (b : Bool) (a : A) → P a → IfSome (when b a) P
  if_when true a p = p
  if_when false a p = tt

  pub if_either : (one other : Option A) → IfSome one P → IfSome other P → IfSome (option_or one other) P
  if_either None other h k = k
  if_either (Some a) other h k = h

  pub if_this : (b : Bool) (o : Option A) → (b ≡ true → IfSome o P) → IfSome (if b then o else None) P
  if_this true o h = h refl
  if_this false o h = tt

  if_cases : (b : Bool) (one other : Option A) → (b ≡ true → IfSome one P) → (b ≡ false → IfSome other P) → IfSome (if b then one else other) P
  if_cases true one other h k = h refl
  if_cases false one other h k = k refl

-- ---- types of descriptors

module _ (known : List ℕ → Bool) where
  abbrev pub KnownField : FieldTypeOf (List ℕ) → Type 0
  KnownField type = KnownElement known type.element

  pub record KnownMethod (method : MethodDescriptor) : Type 0 where
    pub parameters : AllByRecursion KnownField method.parameters
    pub result : IfSome method.result KnownField

  primitive_known : (base : Base) → KnownType known (primitive_type base)
  primitive_known bases.Byte = tt
  primitive_known bases.Char = tt
  primitive_known bases.Short = tt
  primitive_known bases.Boolean = tt
  primitive_known bases.Int = tt
  primitive_known bases.Long = tt
  primitive_known bases.Float = tt
  primitive_known bases.Double = tt

  by_dimensions : (n : ℕ) (element : Element (List ℕ)) → KnownElement known element → KnownType known (value_type_by n element)
  by_dimensions zero (elements.Base base) k = primitive_known base
  by_dimensions zero (elements.Class name) k = k
  by_dimensions (suc n) element k = k

  pub value_known : (type : FieldTypeOf (List ℕ)) → KnownField type → KnownType known (value_type type)
  value_known type k = by_dimensions type.dimensions type.element k

  pub values_known : (parameters : List (FieldTypeOf (List ℕ))) → AllByRecursion KnownField parameters → AllKnown known (map value_type parameters)
  values_known parameters k =
      each_mapped (KnownType known) value_type parameters (each_weaker KnownField (λ type. KnownType known (value_type type)) value_known parameters k)

  -- ---- texts

  pub record KnownDescriptor (text : List ℕ) : Type 0 where
    pub field : IfSome (field_type_of text) KnownField
    pub method : IfSome (method_type_of text) KnownMethod

  -- the text of a Class constant
  pub record KnownText (text : List ℕ) : Type 0 where
    pub name : IsTrue (known text)
    pub array : IsTrue (is_array_name text) → IfSome (field_type_of text) KnownField

  pub record KnownReference (reference : MemberReference) : Type 0 where
    pub class : KnownText reference.class
    pub descriptor : KnownDescriptor reference.descriptor

  -- a class names known classes alone
  pub record NamesKnown (class : Class) : Type 0 where
    pub own : IsTrue (known class.name)
    pub texts : (index : ℕ) → IfSome (class_name_at class.constant_pool index) KnownText
    pub descriptors : (index : ℕ) → IfSome (name_and_type_at class.constant_pool index) (λ m. KnownDescriptor m.descriptor)

  pub reference_known : (text : List ℕ) → KnownText text → IfSome (reference_type text) (KnownType known)
  reference_known text k =
      if_cases (KnownType known) (is_array_name text) (field_type_of text >>= array_of) (if is_class_name text then Some (types.Class text) else None)
      (λ e. if_bound KnownField (KnownType known) (field_type_of text) array_of (k.array e) (λ type h. h))
      (λ e. if_this (KnownType known) (is_class_name text) (Some (types.Class text)) (λ f. k.name))

  named_known : (text : List ℕ) → KnownText text → IfSome (named_type text) KnownField
  named_known text k =
      if_cases KnownField (is_array_name text) (field_type_of text) (when (is_class_name text) (class_components text)) k.array
      (λ e. if_when KnownField (is_class_name text) (class_components text) k.name)

  -- ---- uses of members

  pub record KnownFieldUse (field : FieldUse) : Type 0 where
    pub class : IsTrue (known field.reference.class)
    pub owner : KnownType known field.owner
    pub type : KnownType known field.type

  pub record KnownMethodUse (method : MethodUse) : Type 0 where
    pub class : IsTrue (known method.reference.class)
    pub owner : KnownType known method.owner
    pub arguments : AllKnown known method.arguments
    pub result : AllKnown known method.result

  result_known : (o : Option (FieldTypeOf (List ℕ))) → IfSome o KnownField → AllKnown known (result_types o)
  result_known None h = tt
  result_known (Some type) h = (value_known type h, tt)

  module _ (class : Class) (names : NamesKnown class) where
    member_known : (c n : ℕ) → IfSome (member_at class.constant_pool c n) KnownReference
    member_known c n =
        if_bound KnownText KnownReference (class_name_at class.constant_pool c)
        (λ c. name_and_type_at class.constant_pool n >>= λ m. Some (member_of c m)) (names.texts c)
        (λ text k. if_bound (λ m. KnownDescriptor m.descriptor) KnownReference (name_and_type_at class.constant_pool n) (λ m. Some (member_of text m)) (names.descriptors n)
        (λ m j. record { class = k; descriptor = j }))

    field_in : (o : Option Entry) → IfSome (field_reference_in class.constant_pool o) KnownReference
    field_in (Some (constants.Fieldref c n)) = member_known c n
    field_in o = tt

    method_in : (o : Option Entry) → IfSome (method_reference_in class.constant_pool o) KnownReference
    method_in (Some (constants.Methodref c n)) = member_known c n
    method_in o = tt

    interface_method_in : (o : Option Entry) → IfSome (interface_method_reference_in class.constant_pool o) KnownReference
    interface_method_in (Some (constants.InterfaceMethodref c n)) = member_known c n
    interface_method_in o = tt

    pub field_known : (index : ℕ) → IfSome (field_operand class index) KnownReference
    field_known index = field_in (at_index class.constant_pool index)

    pub method_known : (index : ℕ) → IfSome (method_operand class index) (λ m. KnownReference m.member)
    method_known index =
        if_either (λ (m : MethodReference). KnownReference m.member) _ _
        (if_mapped KnownReference (λ (m : MethodReference). KnownReference m.member) (method_reference_at class.constant_pool index) (through Methodref)
        (method_in (at_index class.constant_pool index)) (λ r k. k))
        (if_mapped KnownReference (λ (m : MethodReference). KnownReference m.member) (interface_method_reference_at class.constant_pool index) (through InterfaceMethodref)
        (interface_method_in (at_index class.constant_pool index)) (λ r k. k))

  module _ (env : Environment) (names : NamesKnown (current_class env)) where
    pub operand_known : (index : ℕ) → IfSome (operand_type env index) (KnownType known)
    operand_known index = if_bound KnownText (KnownType known) (class_operand (current_class env) index) reference_type (names.texts index) reference_known

    pub array_of_known : (index : ℕ) → IfSome (array_of_operand env index) (KnownType known)
    array_of_known index =
        if_bound KnownField (KnownType known) (class_operand (current_class env) index >>= named_type) (λ type. when (nat_le (type.dimensions + 1) 255) (array_with type))
        (if_bound KnownText KnownField (class_operand (current_class env) index) named_type (names.texts index) named_known)
        (λ type k. if_when (KnownType known) (nat_le (type.dimensions + 1) 255) (array_with type) k)

    pub array_known : (index dimensions : ℕ) → IfSome (array_operand env index dimensions) (KnownType known)
    array_known index dimensions =
        if_bound KnownText (KnownType known) (class_operand (current_class env) index)
        (λ text. when (is_array_name text) text >>= field_type_of >>= λ type.
        when (nat_le dimensions type.dimensions) (array_with (record { dimensions = type.dimensions - 1; element = type.element }))) (names.texts index)
        (λ text k. if_bound KnownField (KnownType known) (when (is_array_name text) text >>= field_type_of)
        (λ type. when (nat_le dimensions type.dimensions) (array_with (record { dimensions = type.dimensions - 1; element = type.element }))) (by_test text k (is_array_name text) refl)
        (λ type j. if_when (KnownType known) (nat_le dimensions type.dimensions) (array_with (record { dimensions = type.dimensions - 1; element = type.element })) j))
      where
        by_test : (text : List ℕ) → KnownText text → (b : Bool) → is_array_name text ≡ b → IfSome (when b text >>= field_type_of) KnownField
        by_test text k true e = k.array e
        by_test text k false e = tt

    pub field_use_known : (index : ℕ) → IfSome (field_named_by env index) KnownFieldUse
    field_use_known index =
        if_bound KnownReference KnownFieldUse (field_operand (current_class env) index) _ (field_known (current_class env) names index)
        (λ r k. if_bound KnownReference KnownFieldUse (when (not (is_array_name r.class)) r) _ (if_when KnownReference (not (is_array_name r.class)) r k)
        (λ r k. if_bound (KnownType known) KnownFieldUse (reference_type r.class) _ (reference_known r.class k.class)
        (λ owner o. if_bound KnownField KnownFieldUse (field_type_of r.descriptor) _ k.descriptor.field
        (λ type t. record { class = k.class.name; owner = o; type = value_known type t }))))

    pub method_use_known : (index : ℕ) → IfSome (method_named_by env index) KnownMethodUse
    method_use_known index =
        if_bound (λ (m : MethodReference). KnownReference m.member) KnownMethodUse (method_operand (current_class env) index) _ (method_known (current_class env) names index)
        (λ m k. if_bound (λ (m : MethodReference). KnownReference m.member) KnownMethodUse (when (can_be_of m.constant m.member.class) m) _
        (if_when (λ (m : MethodReference). KnownReference m.member) (can_be_of m.constant m.member.class) m k)
        (λ m k. if_bound (KnownType known) KnownMethodUse (reference_type m.member.class) _ (reference_known m.member.class k.class)
        (λ owner o. if_bound KnownMethod KnownMethodUse (method_type_of m.member.descriptor) _ k.descriptor.method
        (λ descriptor d. record {
          class = k.class.name;
          owner = o;
          arguments = values_known descriptor.parameters d.parameters;
          result = result_known descriptor.result d.result;
        }))))

    -- a constant that is pushed; a string is of java/lang/String
    pub constant_known : IsTrue (known (codes "java/lang/String")) → (index : ℕ) → IfSome (constant_type env index) (KnownType known)
    constant_known string index = by_constant (at_index (current_class env).constant_pool index)
      where
        by_constant : (o : Option Entry) → IfSome (constant_type_of o) (KnownType known)
        by_constant (Some (constants.Integer bits)) = tt
        by_constant (Some (constants.String text)) = string
        by_constant o = tt
