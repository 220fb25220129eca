-- What a class's own constants name: descriptors without floating point numbers, array types without them, and texts of strings that
-- spell units.
use Rattle.std.proofs.Common.{◌≡◌, ℕ, true, not, List, Option, Some, None, refl, subst}
use Rattle.std.specs.Option.{option_map, option_or}
use Rattle.jv_text.specs.declared.descriptor.FieldTypeOf.{FieldTypeOf}
use Rattle.jv_text.specs.Name.{is_array_name}
use Rattle.jv_text.specs.Descriptor.{MethodDescriptor, is_floating}
use Rattle.jv_text.specs.Types.{field_type_of, method_type_of}
use Rattle.jv_stackmap.specs.Types.{value_type}
use Rattle.jv_pool.specs.declared.constant.Constant.TheVariants.{Class as ClassConstant, String, Fieldref, Methodref, InterfaceMethodref, NameAndType}
use Rattle.jv_pool.specs.Constants.{Entry, NameAndDescriptor, MemberReference, at_index, utf8_at, class_name_at, class_name_in, name_and_type_at, name_and_type_in, member_at, member_of, field_reference_in, method_reference_at, method_reference_in, interface_method_reference_at, interface_method_reference_in}
use Rattle.jv_class.specs.Class.{Class}
use Rattle.jv_format.specs.Format.{◌>>=◌}
use Rattle.jv_meaning_typing.specs.Operands.{MethodReference, through, class_operand, field_operand, method_operand}
use Rattle.jv_meaning_typing.specs.Operands.MethodConstant.{Methodref as OfClass, InterfaceMethodref as OfInterface}
use Rattle.jv_meaning_machine.specs.Alone.{AreUnits}
use Rattle.jv_sound.specs.Sound.{IsSort, AreSorts, IsResultSort}
use Rattle.jv_sound.proofs.Taking.{and_parts}
use Rattle.jv_sound.proofs.Formats.{chained}
use Rattle.jv_sound.proofs.Words.{plain_sort, plain_sorts}
use Rattle.jv_sound.proofs.Formed.{IsFormed, descriptor_test, class_test, no_floating_type, no_floating_method, or_gives, parts_named}

module _ (class : Class) (formed : IsFormed class) where
  abbrev pool : List Entry
  pool = class.constant_pool

  name_and_type_plain : (index : ℕ) (member : NameAndDescriptor) → name_and_type_at pool index ≡ Some member
      → descriptor_test (Some member.descriptor) ≡ true
  name_and_type_plain index member e = by_entry (at_index pool index) refl e
    where
      by_entry : (o : Option Entry) → at_index pool index ≡ o → name_and_type_in pool o ≡ Some member
          → descriptor_test (Some member.descriptor) ≡ true
      by_entry None k f = absurd cc
      by_entry (Some (NameAndType n d)) k f = subst (λ (o : Option (List ℕ)). descriptor_test o ≡ true) (parts_named pool n d member f).1
          (formed.constants index (NameAndType n d) k).0
      by_entry (Some _) k f = absurd cc

  member_plain : (owner name_and_type : ℕ) (reference : MemberReference) → member_at pool owner name_and_type ≡ Some reference
      → descriptor_test (Some reference.descriptor) ≡ true
  member_plain owner name_and_type reference e =
      let c = chained (class_name_at pool owner) (λ c. name_and_type_at pool name_and_type >>= λ m. Some (member_of c m)) reference e in
      let m = chained (name_and_type_at pool name_and_type) (λ m. Some (member_of c.0 m)) reference c.2 in
      subst (λ (r : MemberReference). descriptor_test (Some r.descriptor) ≡ true) (same (member_of c.0 m.0) reference m.2)
      (name_and_type_plain name_and_type m.0 m.1)
    where
      same : (a b : MemberReference) → Some a ≡ Some b → a ≡ b
      same a b k = cc

  field_plain : (index : ℕ) (reference : MemberReference) → field_operand class index ≡ Some reference
      → descriptor_test (Some reference.descriptor) ≡ true
  field_plain index reference e = by_entry (at_index pool index) e
    where
      by_entry : (o : Option Entry) → field_reference_in pool o ≡ Some reference → descriptor_test (Some reference.descriptor) ≡ true
      by_entry None f = absurd cc
      by_entry (Some (Fieldref c nt)) f = member_plain c nt reference f
      by_entry (Some _) f = absurd cc

  class_method_plain : (index : ℕ) (reference : MemberReference) → method_reference_at pool index ≡ Some reference
      → descriptor_test (Some reference.descriptor) ≡ true
  class_method_plain index reference e = by_entry (at_index pool index) e
    where
      by_entry : (o : Option Entry) → method_reference_in pool o ≡ Some reference → descriptor_test (Some reference.descriptor) ≡ true
      by_entry None f = absurd cc
      by_entry (Some (Methodref c nt)) f = member_plain c nt reference f
      by_entry (Some _) f = absurd cc

  interface_method_plain : (index : ℕ) (reference : MemberReference) → interface_method_reference_at pool index ≡ Some reference
      → descriptor_test (Some reference.descriptor) ≡ true
  interface_method_plain index reference e = by_entry (at_index pool index) e
    where
      by_entry : (o : Option Entry) → interface_method_reference_in pool o ≡ Some reference
          → descriptor_test (Some reference.descriptor) ≡ true
      by_entry None f = absurd cc
      by_entry (Some (InterfaceMethodref c nt)) f = member_plain c nt reference f
      by_entry (Some _) f = absurd cc

  method_plain : (index : ℕ) (reference : MethodReference) → method_operand class index ≡ Some reference
      → descriptor_test (Some reference.member.descriptor) ≡ true
  method_plain index reference e = by_two (method_reference_at pool index) (interface_method_reference_at pool index) refl refl e
    where
      by_two : (a b : Option MemberReference) → method_reference_at pool index ≡ a → interface_method_reference_at pool index ≡ b
          → option_or (option_map (through OfClass) a) (option_map (through OfInterface) b) ≡ Some reference
          → descriptor_test (Some reference.member.descriptor) ≡ true
      by_two (Some r) b ea eb f =
          let same : through OfClass r ≡ reference = cc in
          subst (λ (x : MethodReference). descriptor_test (Some x.member.descriptor) ≡ true) same (class_method_plain index r ea)
      by_two None (Some r) ea eb f =
          let same : through OfInterface r ≡ reference = cc in
          subst (λ (x : MethodReference). descriptor_test (Some x.member.descriptor) ≡ true) same (interface_method_plain index r eb)
      by_two None None ea eb f = absurd cc

  -- a field that is named has values, and no floating point number is in its type
  pub named_field_is_plain : (index : ℕ) (reference : MemberReference) (type : FieldTypeOf (List ℕ))
      → field_operand class index ≡ Some reference → field_type_of reference.descriptor ≡ Some type → not (is_floating type) ≡ true
  named_field_is_plain index reference type e t =
      subst (λ (o : Option (FieldTypeOf (List ℕ))). no_floating_type o ≡ true) t
      (and_parts (no_floating_type (field_type_of reference.descriptor)) (no_floating_method (method_type_of reference.descriptor))
      (field_plain index reference e)).0

  pub named_field_is_sort : (index : ℕ) (reference : MemberReference) (type : FieldTypeOf (List ℕ))
      → field_operand class index ≡ Some reference → field_type_of reference.descriptor ≡ Some type → IsSort (value_type type)
  named_field_is_sort index reference type e t = plain_sort type (named_field_is_plain index reference type e t)

  pub named_method_has_sorts : (index : ℕ) (reference : MethodReference) (d : MethodDescriptor)
      → method_operand class index ≡ Some reference → method_type_of reference.member.descriptor ≡ Some d
      → AreSorts d.parameters × IsResultSort d.result
  named_method_has_sorts index reference d e t =
      plain_sorts d (subst (λ (o : Option MethodDescriptor). no_floating_method o ≡ true) t
      (and_parts (no_floating_type (field_type_of reference.member.descriptor))
      (no_floating_method (method_type_of reference.member.descriptor)) (method_plain index reference e)).1)

  -- an array type that is named
  pub named_array_is_plain : (index : ℕ) (text : List ℕ) (type : FieldTypeOf (List ℕ)) → class_operand class index ≡ Some text
      → is_array_name text ≡ true → field_type_of text ≡ Some type → not (is_floating type) ≡ true
  named_array_is_plain index text type e a t = by_entry (at_index pool index) refl e
    where
      by_entry : (o : Option Entry) → at_index pool index ≡ o → class_name_in pool o ≡ Some text → not (is_floating type) ≡ true
      by_entry None k f = absurd cc
      by_entry (Some (ClassConstant name)) k f =
          subst (λ (o : Option (FieldTypeOf (List ℕ))). no_floating_type o ≡ true) t
          (or_gives (is_array_name text) (no_floating_type (field_type_of text))
          (subst (λ (o : Option (List ℕ)). class_test o ≡ true) f (formed.constants index (ClassConstant name) k).0) a)
      by_entry (Some _) k f = absurd cc

  -- a String constant's text
  pub string_has_units : (units : List ℕ → Option (List ℕ)) → AreUnits units → (index text : ℕ) → at_index pool index ≡ Some (String text)
      → (bytes : List ℕ) × (utf8_at pool text ≡ Some bytes) × (all : List ℕ) × (units bytes ≡ Some all)
  string_has_units units are index text e = let h = (formed.constants index (String text) e).1 in (h.0, h.1, h.2.0, (are h.0 h.2.0).1 h.2.1)
