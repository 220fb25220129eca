-- What the constants of a pool name, by the rules of their kinds.
use Rattle.std.proofs.Common.{◌≡◌, ℕ, List, Option, Some, None, refl, subst}
use Rattle.std.specs.List.{All}
use Rattle.std.specs.Option.{IsSomeAnd}
use Rattle.jv_format.specs.Format.{◌>>=◌}
use Rattle.jv_text.specs.Text.{IsText}
use Rattle.jv_pool.specs.declared.constant.Constant.TheVariants.{Utf8, Class, String, Fieldref, Methodref, InterfaceMethodref, NameAndType}
use Rattle.jv_pool.specs.Constants.{Entry, NameAndDescriptor, MemberReference, name_and_descriptor, member_of, at_index, utf8_in, utf8_at, class_name_in, class_name_at, string_in, name_and_type_in, name_and_type_at, member_at, field_reference_in, method_reference_in, interface_method_reference_in}
use Rattle.jv_pool.specs.Rules.{NamesClass, IsUnqualified, IsDescriptor, NamesField, NamesMethod, NamesInterfaceMethod, IsMemberIn, KeepsRules}
use Rattle.jv_pool.specs.Inside.Known.{At}
use Rattle.jv_pool.specs.Named.{IsMember, KindsName, HoldsAtIndex}
use Rattle.jv_pool.proofs.Kept.{at_every}

-- what holds of a value that may be there holds of the value
given : {A : Type 0} (P : A → Type 0) (o : Option A) (x : A) → IsSomeAnd o P → o ≡ Some x → P x
given P None x h e = absurd h
given P (Some y) x h e = let same : y ≡ x = cc in subst P same h

pub at_one : HoldsAtIndex
at_one pool rules index constant e =
    let here : At (KeepsRules pool) (at_index pool index) = at_every (KeepsRules pool) pool rules index in
    subst (λ o. At (KeepsRules pool) o) e here

module _ (pool : List Entry) (rules : All (KeepsRules pool) pool) where
  kept : (index : ℕ) (o : Option Entry) → at_index pool index ≡ o → At (KeepsRules pool) o
  kept index o e = subst (λ o. At (KeepsRules pool) o) e (at_every (KeepsRules pool) pool rules index)

  text_in : (o : Option Entry) (text : List ℕ) → At (KeepsRules pool) o → utf8_in o ≡ Some text → IsText text
  text_in (Some (Utf8 t)) text h e = let same : t ≡ text = cc in subst IsText same h
  text_in _ text h e = absurd cc

  text_at : (index : ℕ) (text : List ℕ) → utf8_at pool index ≡ Some text → IsText text
  text_at index text e = text_in (at_index pool index) text (kept index _ refl) e

  class_in : (o : Option Entry) (name : List ℕ) → At (KeepsRules pool) o → class_name_in pool o ≡ Some name → NamesClass name
  class_in (Some (Class index)) name h e = given NamesClass (utf8_at pool index) name h e
  class_in _ name h e = absurd cc

  class_at : (index : ℕ) (name : List ℕ) → class_name_at pool index ≡ Some name → NamesClass name
  class_at index name e = class_in (at_index pool index) name (kept index _ refl) e

  literal_in : (o : Option Entry) (text : List ℕ) → At (KeepsRules pool) o → string_in pool o ≡ Some text → IsText text
  literal_in (Some (String index)) text h e = text_at index text e
  literal_in _ text h e = absurd cc

  both_named : (name descriptor : Option (List ℕ)) (member : NameAndDescriptor) → IsSomeAnd name IsUnqualified → IsSomeAnd descriptor IsDescriptor
      → (name >>= λ n. descriptor >>= λ d. Some (name_and_descriptor n d)) ≡ Some member → IsUnqualified member.name × IsDescriptor member.descriptor
  both_named None d member h k e = absurd h
  both_named (Some n) None member h k e = absurd k
  both_named (Some n) (Some d) member h k e =
      let same : name_and_descriptor n d ≡ member = cc in
      subst (λ (m : NameAndDescriptor). IsUnqualified m.name × IsDescriptor m.descriptor) same (h, k)

  named_in : (o : Option Entry) (member : NameAndDescriptor) → At (KeepsRules pool) o → name_and_type_in pool o ≡ Some member → IsUnqualified member.name × IsDescriptor member.descriptor
  named_in (Some (NameAndType name descriptor)) member h e = both_named (utf8_at pool name) (utf8_at pool descriptor) member h.named h.described e
  named_in _ member h e = absurd cc

  named : (index : ℕ) (member : NameAndDescriptor) → name_and_type_at pool index ≡ Some member → IsUnqualified member.name × IsDescriptor member.descriptor
  named index member e = named_in (at_index pool index) member (kept index _ refl) e

  member_named : (N : NameAndDescriptor → Type 0) (class : Option (List ℕ)) (named : Option NameAndDescriptor) (member : MemberReference) → ((name : List ℕ) → class ≡ Some name → NamesClass name)
      → ((m : NameAndDescriptor) → named ≡ Some m → IsUnqualified m.name)
      → IsSomeAnd named N → (class >>= λ c. named >>= λ m. Some (member_of c m)) ≡ Some member → IsMember N member
  member_named N None named member h u k e = absurd cc
  member_named N (Some c) None member h u k e = absurd k
  member_named N (Some c) (Some m) member h u k e =
      let same : member_of c m ≡ member = cc in
      subst (λ (r : MemberReference). IsMember N r) same (record { class = h c refl; unqualified = u m refl; named = k })

  member : (N : NameAndDescriptor → Type 0) (class name_and_type : ℕ) (found : MemberReference) → IsMemberIn N pool class name_and_type →
      member_at pool class name_and_type ≡ Some found → IsMember N found
  member N class name_and_type found h e =
      member_named N (class_name_at pool class) (name_and_type_at pool name_and_type) found (λ name. class_at class name) (λ m f. (named name_and_type m f).0) h.member e

  field_in : (o : Option Entry) (found : MemberReference) → At (KeepsRules pool) o → field_reference_in pool o ≡ Some found → IsMember NamesField found
  field_in (Some (Fieldref class name_and_type)) found h e = member NamesField class name_and_type found h e
  field_in _ found h e = absurd cc

  method_in : (o : Option Entry) (found : MemberReference) → At (KeepsRules pool) o → method_reference_in pool o ≡ Some found → IsMember NamesMethod found
  method_in (Some (Methodref class name_and_type)) found h e = member NamesMethod class name_and_type found h e
  method_in _ found h e = absurd cc

  interface_method_in : (o : Option Entry) (found : MemberReference) → At (KeepsRules pool) o → interface_method_reference_in pool o ≡ Some found → IsMember NamesInterfaceMethod found
  interface_method_in (Some (InterfaceMethodref class name_and_type)) found h e = member NamesInterfaceMethod class name_and_type found h e
  interface_method_in _ found h e = absurd cc

pub by_kind : KindsName
by_kind pool rules = record {
  utf8 = text_at pool rules;
  class = class_at pool rules;
  string = λ index text e. literal_in pool rules (at_index pool index) text (kept pool rules index _ refl) e;
  name = λ index member e. (named pool rules index member e).0;
  descriptor = λ index member e. (named pool rules index member e).1;
  field = λ index found e. field_in pool rules (at_index pool index) found (kept pool rules index _ refl) e;
  method = λ index found e. method_in pool rules (at_index pool index) found (kept pool rules index _ refl) e;
  interface_method = λ index found e. interface_method_in pool rules (at_index pool index) found (kept pool rules index _ refl) e;
}
