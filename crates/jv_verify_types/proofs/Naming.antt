-- Classes that constants name.
use Rattle.std.proofs.Common.{◌≡◌, ℕ, Bool, true, false, not, cond, List, Option, Some, None, refl, sym, ap, subst, ◌∙◌, inl, inr}
use Rattle.std.specs.Prelude.{IsTrue}
use Rattle.jv_format.specs.Format.{◌>>=◌}
use Rattle.jv_text.specs.declared.descriptor.FieldTypeOf.{FieldTypeOf}
use Rattle.jv_text.specs.Name.{is_array_name, is_class_name}
use Rattle.jv_text.specs.Types.{field_type_of}
use Rattle.jv_pool.specs.Rules.{NamesClass}
use Rattle.jv_pool.specs.Named.{NamesByKind}
use Rattle.jv_pool.specs.Constants.{Entry, class_name_at}
use Rattle.jv_class_structure.specs.Attributes.{some_and}
use Rattle.jv_class.specs.Rules.{is_no_array_name, IsClassAt}
use Rattle.jv_stackmap.specs.declared.verification.VerificationTypeOf.TheVariants as types
use Rattle.jv_stackmap.specs.Types.{array_of, reference_type}
use Rattle.jv_meaning_world.specs.World.{World}
use Rattle.jv_meaning_world.specs.Numbers.{number_named, AreNoArrays}
use Rattle.jv_classes.proofs.Told.{stands_at}
use Rattle.jv_meaning_world.proofs.Up.{has_name}
use Rattle.jv_verify_types.specs.Typed.{name_at}
use Rattle.jv_verify_types.specs.Inside.Named.{class_of_type, class_of_constant, class_of_constant_at}
use Rattle.jv_verify_types.specs.Inside.KeptClass.{IsNoArray}

-- ---- a text as the name of a class

no_array_in : (name : List ℕ) (found : Option (FieldTypeOf (List ℕ))) → class_of_type (found >>= array_of) ≡ Some name → ⊥
no_array_in name None e = cc
no_array_in name (Some type) e = cc

class_is : (text name : List ℕ) → class_of_type (reference_type text) ≡ Some name → name ≡ text
class_is text name e = by_array (is_array_name text) e
  where
    same : Some text ≡ Some name → name ≡ text
    same f = cc

    by_class : (b : Bool) → class_of_type (cond b (Some (types.Class text)) None) ≡ Some name → name ≡ text
    by_class true f = same f
    by_class false f = absurd cc

    by_array : (b : Bool) → class_of_type (cond b (field_type_of text >>= array_of) (cond (is_class_name text) (Some (types.Class text)) None)) ≡ Some name → name ≡ text
    by_array true f = absurd (no_array_in name (field_type_of text) f)
    by_array false f = by_class (is_class_name text) f

class_known : (text : List ℕ) → NamesClass text → is_array_name text ≡ false → class_of_type (reference_type text) ≡ Some text
class_known text (inl class) array = rw (array, class) refl
class_known text (inr described) array = absurd (clash (sym array ∙ described.array))
  where
    clash : false ≡ true → ⊥
    clash e = cc

is_array : (text : List ℕ) → NamesClass text → class_of_type (reference_type text) ≡ None → is_array_name text ≡ true
is_array text kind none = by_array (is_array_name text) refl
  where
    clash : Some text ≡ None → ⊥
    clash e = cc

    by_array : (b : Bool) → is_array_name text ≡ b → b ≡ true
    by_array true e = refl
    by_array false e = absurd (clash (sym (class_known text kind e) ∙ none))

-- ---- what an index names

named_by_text : (pool : List Entry) (index : ℕ) (text : List ℕ) → class_name_at pool index ≡ Some text → class_of_constant pool index ≡ class_of_type (reference_type text)
named_by_text pool index text e = ap (λ o. class_of_type (o >>= reference_type)) e

-- the number of the class of a text, by the number of its name
pub class_numbered : (names : List (List ℕ)) (world : World) (pool : List Entry) (index number : ℕ) (found : Option ℕ)
    → Some (name_at names number) ≡ class_of_constant pool index → found ≡ number_named world (name_at names number)
    → (text : List ℕ) → class_name_at pool index ≡ Some text → found ≡ number_named world text
class_numbered names world pool index number found is at text e =
    at ∙ ap (number_named world) (class_is text (name_at names number) (sym (named_by_text pool index text e) ∙ sym is))

-- an array's name is that of no class
array_unnumbered : (world : World) → AreNoArrays world → (text : List ℕ) → is_array_name text ≡ true → number_named world text ≡ None
array_unnumbered world none text array = by_number (number_named world text) refl
  where
    clash : IsTrue (not true) → ⊥
    clash h = cc

    by_number : (o : Option ℕ) → number_named world text ≡ o → o ≡ None
    by_number None e = refl
    by_number (Some k) e =
        let there = stands_at world text k e in
        let name : is_array_name there.0.class.name ≡ true = ap is_array_name (has_name world text there.0 there.2) ∙ array in
        absurd (clash (subst (λ b. IsTrue (not b)) name (none k there.0 there.1)))

pub array_numbered : (world : World) (pool : List Entry) (index : ℕ) → AreNoArrays world → NamesByKind pool → None ≡ class_of_constant pool index
    → (text : List ℕ) → class_name_at pool index ≡ Some text → None ≡ number_named world text
array_numbered world pool index none kinds is text e =
    sym (array_unnumbered world none text (is_array text (kinds.class index text e) (sym (named_by_text pool index text e) ∙ sym is)))

-- ---- where the rules say that no array is named

pub named_class : (pool : List Entry) (index : ℕ) → NamesByKind pool → IsClassAt pool index → class_of_constant pool index ≡ class_name_at pool index
named_class pool index kinds right = by_text (class_name_at pool index) refl right
  where
    by_test : (b : Bool) → IsTrue (not b) → b ≡ false
    by_test true h = absurd cc
    by_test false h = refl

    by_text : (o : Option (List ℕ)) → class_name_at pool index ≡ o → IsTrue (some_and is_no_array_name o) → class_of_type (o >>= reference_type) ≡ o
    by_text None e h = refl
    by_text (Some text) e h = class_known text (kinds.class index text e) (by_test (is_array_name text) h)

-- ---- no array is named

text_no_array : (text : List ℕ) → IsNoArray (class_of_type (reference_type text))
text_no_array text = by_array (is_array_name text) refl
  where
    of_array : (o : Option (FieldTypeOf (List ℕ))) → IsNoArray (class_of_type (o >>= array_of))
    of_array None = tt
    of_array (Some type) = tt

    by_class : (b : Bool) → is_array_name text ≡ false → IsNoArray (class_of_type (cond b (Some (types.Class text)) None))
    by_class true e = e
    by_class false e = tt

    by_array : (b : Bool) → is_array_name text ≡ b → IsNoArray (class_of_type (cond b (field_type_of text >>= array_of) (cond (is_class_name text) (Some (types.Class text)) None)))
    by_array true e = of_array (field_type_of text)
    by_array false e = by_class (is_class_name text) e

pub named_no_array : (pool : List Entry) (index : ℕ) → IsNoArray (class_of_constant pool index)
named_no_array pool index = by_text (class_name_at pool index)
  where
    by_text : (o : Option (List ℕ)) → IsNoArray (class_of_type (o >>= reference_type))
    by_text None = tt
    by_text (Some text) = text_no_array text

pub named_by_no_array : (pool : List Entry) (index : Option ℕ) → IsNoArray (class_of_constant_at pool index)
named_by_no_array pool None = tt
named_by_no_array pool (Some index) = named_no_array pool index
