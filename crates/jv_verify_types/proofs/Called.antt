-- Methods that are called, by the types of what their constants name.
use Rattle.std.proofs.Common.{◌≡◌, ℕ, Bool, true, false, not, ◌&&◌, List, Option, Some, None, refl, sym, ap, subst, ◌∙◌, if◌then◌else◌}
use Rattle.std.specs.Option.{option_map}
use Rattle.jv_format.specs.Format.{◌>>=◌}
use Rattle.jv_text.specs.declared.descriptor.FieldTypeOf.{FieldTypeOf}
use Rattle.jv_text.specs.Descriptor.{MethodDescriptor}
use Rattle.jv_text.specs.Name.{is_array_name, is_class_name, is_init}
use Rattle.jv_text.specs.Types.{field_type_of, method_type_of}
use Rattle.jv_class.specs.Rules.{is_clinit}
use Rattle.jv_stackmap.specs.declared.verification.VerificationTypeOf.TheVariants as types
use Rattle.jv_stackmap.specs.Types.{FrameType, array_of, reference_type}
use Rattle.jv_meaning_typing.specs.Operands.{MethodReference, through}
use Rattle.jv_meaning_typing.specs.Named.{when, MethodUse, method_use, result_types, can_be_of}
use Rattle.jv_meaning_typing.specs.MemberRules.{is_of_class}
use Rattle.jv_verify_types.specs.Typed.{typed, typed_all}
use Rattle.jv_verify_types.specs.Numbered.{Item}
use Rattle.jv_verify_types.specs.declared.texts.MethodTypes.{MethodTypes}
use Rattle.jv_verify_types.specs.PoolTypes.{CallTypes, call_types, typed_call, typed_result}
use Rattle.jv_verify_types.specs.Outcomes.{given}
use Rattle.jv_verify_types.specs.declared.methods.CalledTypes.{CalledTypes}
use Rattle.jv_verify_types.specs.Operands.{IsCalled, FindsCalledTypes}
use Rattle.jv_verify_types.specs.Inside.Parts.{reference_of}
use Rattle.jv_verify_types.specs.Inside.Calls.{is_array, result_given, can_be_of as can_be_by_number}
use Rattle.jv_verify_types.proofs.Members.{constant_of}

-- what a method that is named comes to
abbrev pub called : MethodReference → Option MethodUse
called m =
    when (can_be_of m.constant m.member.class) m >>= λ method. reference_type method.member.class >>= λ owner. method_type_of method.member.descriptor >>= λ descriptor.
    Some (method_use method owner descriptor)

abbrev pub made : Bool → Option (List ℕ) → Option (List ℕ) → Option (List ℕ) → Option MethodUse
made b class name descriptor =
    option_map (through (constant_of b)) (class >>= λ c. name >>= λ n. descriptor >>= λ d. Some (reference_of c n d)) >>= called

-- ---- no descriptor

pub no_call : (b : Bool) (class name descriptor : Option (List ℕ)) → None ≡ (descriptor >>= method_type_of >>= λ m. Some (call_types m)) → made b class name descriptor ≡ None
no_call b None name descriptor e = refl
no_call b (Some c) None descriptor e = refl
no_call b (Some c) (Some n) None e = refl
no_call b (Some c) (Some n) (Some d) e = by_test (can_be_of (constant_of b) c)
  where
    none : (o : Option MethodDescriptor) → None ≡ (o >>= λ m. Some (call_types m)) → o ≡ None
    none None f = refl
    none (Some m) f = absurd cc

    m : MethodReference
    m = through (constant_of b) (reference_of c n d)

    by_owner : (o : Option FrameType) → (o >>= λ owner. method_type_of d >>= λ descriptor. Some (method_use (through (constant_of b) (reference_of c n d)) owner descriptor)) ≡ None
    by_owner None = refl
    by_owner (Some owner) = ap (λ o. o >>= λ descriptor. Some (method_use (through (constant_of b) (reference_of c n d)) owner descriptor)) (none (method_type_of d) e)

    by_test : (t : Bool) → (when t (through (constant_of b) (reference_of c n d)) >>= λ method. reference_type method.member.class >>=
        λ owner. method_type_of method.member.descriptor >>= λ descriptor.
        Some (method_use method owner descriptor)) ≡ None
    by_test false = refl
    by_test true = by_owner (reference_type c)

-- ---- what is named

-- the type of what is no array is no array's
no_array_by : (text : List ℕ) (names : List (List ℕ)) (owner : Item) → reference_type text ≡ Some (typed names owner) → not (is_array owner) ≡ true → is_array_name text ≡ false
no_array_by text names owner e f = by_array (is_array_name text) refl
  where
    one : (t : Item) (x : FieldTypeOf (List ℕ)) → Some (types.Array x) ≡ Some (typed names t) → not (is_array t) ≡ true → ⊥
    one types.Top x g h = cc
    one types.Int x g h = cc
    one types.Long x g h = cc
    one types.Null x g h = cc
    one types.UninitializedThis x g h = cc
    one (types.Class n) x g h = cc
    one (types.Array c) x g h = cc
    one (types.Uninitialized p) x g h = cc

    by_type : (o : Option (FieldTypeOf (List ℕ))) → (o >>= array_of) ≡ Some (typed names owner) → ⊥
    by_type None g = cc
    by_type (Some x) g = one owner _ g f

    by_array : (b : Bool) → is_array_name text ≡ b → is_array_name text ≡ false
    by_array false g = g
    by_array true g = absurd (by_type (field_type_of text) (sym (ap (λ b. if b then field_type_of text >>= array_of else if is_class_name text then Some (types.Class text) else None) g) ∙ e))

can_be : (b : Bool) (text : List ℕ) (names : List (List ℕ)) (owner : Item) → reference_type text ≡ Some (typed names owner) → can_be_by_number b owner ≡ true
    → can_be_of (constant_of b) text ≡ true
can_be true text names owner e f = refl
can_be false text names owner e f = ap not (no_array_by text names owner e f)

result_same : (names : List (List ℕ)) (r : Option (FieldTypeOf ℕ)) → result_types (typed_result names r) ≡ result_given names r
result_same names None = refl
result_same names (Some t) = refl

-- a type that was found, of a text that was
pub record Found {A : Type 0} (o : Option (List ℕ)) (f : List ℕ → Option A) (a : A) : Type 0 where
  pub text : List ℕ
  pub is : o ≡ Some text
  pub found : f text ≡ Some a

pub found_in : {A : Type 0} (o : Option (List ℕ)) (f : List ℕ → Option A) (a : A) → Some a ≡ (o >>= f) → Found o f a
found_in None f a e = absurd cc
found_in (Some text) f a e = record { text = text; is = refl; found = sym e }

descriptor_found : (o : Option (List ℕ)) (t : CallTypes) → Some t ≡ (o >>= method_type_of >>= λ m. Some (call_types m))
    → (d : List ℕ) × (m : MethodDescriptor) × (o ≡ Some d) × (method_type_of d ≡ Some m) × (call_types m ≡ t)
descriptor_found None t e = absurd cc
descriptor_found (Some d) t e = by_type (method_type_of d) refl e
  where
    by_type : (o : Option MethodDescriptor) → method_type_of d ≡ o → Some t ≡ (o >>= λ m. Some (call_types m))
        → (x : List ℕ) × (m : MethodDescriptor) × (Some d ≡ Some x) × (method_type_of x ≡ Some m) × (call_types m ≡ t)
    by_type None g f = absurd cc
    by_type (Some m) g f = (d, m, refl, g, cc)

pub names_method : (names : List (List ℕ)) (b : Bool) (class name descriptor : Option (List ℕ)) (n : List ℕ) (owner : Item) (found : MethodTypes) (to : CalledTypes)
    → name ≡ Some n → Some (typed names owner) ≡ (class >>= reference_type)
    → Some (typed_call names found) ≡ (descriptor >>= method_type_of >>= λ m. Some (call_types m))
    → can_be_by_number b owner ≡ true
    → to.of_class ≡ b → to.is_init ≡ is_init n → to.plain_name ≡ (not (is_init n) && not (is_clinit n)) → to.owner ≡ owner → to.arguments ≡ found.arguments
    → given names to.result ≡ result_given names found.result
    → FindsCalledTypes names (made b class name descriptor) (Some to)
names_method names b class name descriptor n owner found to named typed_as described can of_class init plain owned arguments result =
    let c = found_in class reference_type (typed names owner) typed_as in
    let d = descriptor_found descriptor (typed_call names found) described in
    let m = through (constant_of b) (reference_of c.text n d.0) in
    let all : made b class name descriptor ≡ called m =
    ap (λ o. made b o name descriptor) c.is ∙ (ap (λ o. made b (Some c.text) o descriptor) named ∙ ap (λ o. made b (Some c.text) (Some n) o) d.2) in
    let test : called m ≡ (reference_type c.text >>= λ owner. method_type_of d.0 >>= λ descriptor. Some (method_use m owner descriptor)) =
    ap (λ t. when t m >>= λ method. reference_type method.member.class >>= λ owner. method_type_of method.member.descriptor >>= λ descriptor. Some
    (method_use method owner descriptor)) (can_be b c.text names owner c.found can) in
    let end : (reference_type c.text >>= λ owner. method_type_of d.0 >>= λ descriptor. Some (method_use m owner descriptor)) ≡ Some (method_use m (typed names owner) d.1) =
    ap (λ o. o >>= λ owner. method_type_of d.0 >>= λ descriptor. Some (method_use m owner descriptor)) c.found
    ∙ ap (λ o. o >>= λ descriptor. Some (method_use m (typed names owner) descriptor)) d.3 in
    let same : call_types d.1 ≡ typed_call names found = d.4 in
    let is_called : IsCalled names (method_use m (typed names owner) d.1) to = record {
      of_class = constant_class b ∙ sym of_class;
      init = sym init;
      plain_name = sym plain;
      class = c.found ∙ ap (λ o. Some (typed names o)) (sym owned);
      owner = ap (typed names) (sym owned);
      arguments = ap (λ (t : CallTypes). t.arguments) same ∙ ap (λ a. typed_all names a.now) (sym arguments);
      result = ap (λ (t : CallTypes). result_types t.result) same ∙ (result_same names found.result ∙ sym result);
    } in
    subst (λ o. FindsCalledTypes names o (Some to)) (sym (all ∙ (test ∙ end))) is_called
  where
    constant_class : (b : Bool) → is_of_class (constant_of b) ≡ b
    constant_class true = refl
    constant_class false = refl
