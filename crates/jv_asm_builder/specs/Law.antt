-- The law of the class builder: what the indices name that it gives (JVMS 4.4).
use Rattle.std.specs.Prelude.{◌≡◌, ℕ, List, Some}
use Rattle.jv_pool.specs.declared.constant.Constant.TheVariants.{Utf8, Class, String, Fieldref, Methodref, InterfaceMethodref}
use Rattle.jv_pool.specs.Constants.{Entry, at_index, utf8_at, class_name_at, string_at, name_and_descriptor, name_and_type_at, MemberReference, member_of, field_reference_at, method_reference_at, interface_method_reference_at}
use Rattle.jv_asm_builder.specs.Added.{IsAdded, IsNamedAdded, IsNameAndTypeAdded, IsMemberAdded, IsGrownPool}

abbrev pub reference : List ℕ → List ℕ → List ℕ → MemberReference
reference class name descriptor = member_of class (name_and_descriptor name descriptor)

-- What was added is what its index names; and an index names the same when more constants have joined.
pub record IndicesName : Type 0 where
  pub kept : (old new : List Entry) (index : ℕ) (c : Entry) → IsGrownPool old new → at_index old index ≡ Some c
      → at_index new index ≡ Some c
  pub text : (old new : List Entry) (text : List ℕ) (index : ℕ) → IsAdded old (Utf8 text) new index → utf8_at new index ≡ Some text
  pub class : (old new : List Entry) (name : List ℕ) (index : ℕ) → IsNamedAdded Class old name new index
      → class_name_at new index ≡ Some name
  pub string : (old new : List Entry) (text : List ℕ) (index : ℕ) → IsNamedAdded String old text new index → string_at new index ≡ Some text
  pub name_and_type : (old new : List Entry) (name descriptor : List ℕ) (index : ℕ) → IsNameAndTypeAdded old name descriptor new index
      → name_and_type_at new index ≡ Some (name_and_descriptor name descriptor)
  pub field : (old new : List Entry) (class name descriptor : List ℕ) (index : ℕ)
      → IsMemberAdded Fieldref old class name descriptor new index
      → field_reference_at new index ≡ Some (reference class name descriptor)
  pub method : (old new : List Entry) (class name descriptor : List ℕ) (index : ℕ)
      → IsMemberAdded Methodref old class name descriptor new index
      → method_reference_at new index ≡ Some (reference class name descriptor)
  pub interface_method : (old new : List Entry) (class name descriptor : List ℕ) (index : ℕ)
      → IsMemberAdded InterfaceMethodref old class name descriptor new index
      → interface_method_reference_at new index ≡ Some (reference class name descriptor)
