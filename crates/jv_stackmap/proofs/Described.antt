-- What a Class constant names is a class, or an array by its descriptor.
use Rattle.std.proofs.Common.{◌≡◌, ℕ, Bool, true, false, List, [], ◌∷◌, Option, Some, None, inl, inr, refl, ap, subst}
use Rattle.std.specs.Prelude.{◌==◌, length, not, IsSome, IsTrue}
use Rattle.std.specs.List.{list_all, slice_split, onto_first}
use Rattle.std.proofs.lemmas.Bool.{and_parts, eqb-true}
use Rattle.jv_text.specs.declared.descriptor.FieldTypeOf.{FieldTypeOf}
use Rattle.jv_text.specs.Name.{is_name_byte, is_unqualified_name, is_class_name, is_array_name}
use Rattle.jv_text.specs.Types.{field_type_of, TypesAgree}
use Rattle.jv_pool.specs.Rules.{IsArrayDescriptor, NamesClass}

-- no class name begins with a bracket
clash : (b : Bool) → b ≡ false → IsTrue b → ⊥
clash b off on = cc

bracketed_part : (part : List ℕ) → IsTrue (is_unqualified_name (91 ∷ part)) → ⊥
bracketed_part part h =
    let bytes = and_parts (not (length (91 ∷ part) == 0)) (list_all is_name_byte (91 ∷ part)) h in
    clash (is_name_byte 91) refl (and_parts (is_name_byte 91) (list_all is_name_byte part) bytes.1).0

bracketed : (parts : List (List ℕ)) → IsTrue (list_all is_unqualified_name (onto_first 91 parts)) → ⊥
bracketed [] h = bracketed_part [] (and_parts (is_unqualified_name (91 ∷ [])) true h).0
bracketed (part ∷ parts) h = bracketed_part part (and_parts (is_unqualified_name (91 ∷ part)) (list_all is_unqualified_name parts) h).0

no_class : (text : List ℕ) → IsTrue (is_array_name text) → IsTrue (is_class_name text) → ⊥
no_class [] array class = absurd cc
no_class (byte ∷ rest) array class =
    let first : byte ≡ 91 = eqb-true byte 91 array in
    bracketed (slice_split (λ byte. byte == 47) rest) (subst (λ b. IsTrue (is_class_name (b ∷ rest))) first class)

there : TypesAgree → (text : List ℕ) → IsArrayDescriptor text → IsSome (field_type_of text)
there law text h = ap IsThere ((law.field text h.described.0).0 h.described.1)
  where
    IsThere : Option (FieldTypeOf (List ℕ)) → Bool
    IsThere None = false
    IsThere (Some type) = true

pub array_there : TypesAgree → (text : List ℕ) → NamesClass text → IsTrue (is_array_name text) → IsSome (field_type_of text)
array_there law text (inl class) array = absurd (no_class text array class)
array_there law text (inr h) array = there law text h
