-- What entries of frames stand for, and whether a `new` made it.
use Rattle.std.proofs.Common.{◌≡◌, ℕ, zero, suc, ◌-◌, Bool, true, false, ◌&&◌, cond, List, [], ◌∷◌, map, get_or, reverse, replicate, Option, Some, None, refl, sym, ap, ◌∙◌, unwrap_or, not, codes, bytes_eq}
use Rattle.std.specs.Prelude.{if◌then◌else◌}
use Rattle.std.specs.List.{list_all, flat_map}
use Rattle.std.proofs.lemmas.List.{reverse-append}
use Rattle.std.proofs.lemmas.List.Folds.{list_all-append}
use Rattle.jv_format.specs.Format.{◌>>=◌}
use Rattle.jv_text.specs.declared.descriptor.Base.TheVariants as bases
use Rattle.jv_text.specs.declared.descriptor.Element.{Element}
use Rattle.jv_text.specs.declared.descriptor.Element.TheVariants as elements
use Rattle.jv_text.specs.declared.descriptor.FieldTypeOf.{FieldTypeOf}
use Rattle.jv_text.specs.Name.{is_array_name, is_class_name}
use Rattle.jv_text.specs.Types.{field_type_of}
use Rattle.jv_pool.specs.Constants.{Entry, class_name_at}
use Rattle.jv_stackmap.specs.declared.entry.FrameEntry.{FrameEntry}
use Rattle.jv_stackmap.specs.declared.entry.FrameEntry.TheVariants as entries
use Rattle.jv_stackmap.specs.declared.verification.VerificationTypeOf.TheVariants as types
use Rattle.jv_stackmap.specs.Types.{FrameType, array_of, reference_type, value_type, value_type_by, words}
use Rattle.jv_stackmap.specs.Frames.{expanded, type_by_words}
use Rattle.jv_stackmap.specs.Entries.{entry_type}
use Rattle.jv_stackmap.specs.Initial.{receiver_entries, initial_entries}
use Rattle.jv_meaning_typing.specs.Environment.{Environment}
use Rattle.jv_meaning_typing.specs.Typing.{is_made_by_new as is_made}
use Rattle.jv_verify_pass.specs.Inside.Parts.{is_made_by_new}
use Rattle.jv_verify_pass.proofs.Tests.{both, joined, and_true}

module _ (env : Environment) where
  abbrev all_made : List FrameType → Bool
  all_made ts = list_all (is_made env) ts

  -- ---- initial local entries hold nothing that a `new` made

  value_made : (n : ℕ) (e : Element (List ℕ)) → is_made env (value_type_by n e) ≡ true
  value_made zero (elements.Base bases.Byte) = refl
  value_made zero (elements.Base bases.Char) = refl
  value_made zero (elements.Base bases.Double) = refl
  value_made zero (elements.Base bases.Float) = refl
  value_made zero (elements.Base bases.Int) = refl
  value_made zero (elements.Base bases.Long) = refl
  value_made zero (elements.Base bases.Short) = refl
  value_made zero (elements.Base bases.Boolean) = refl
  value_made zero (elements.Class name) = refl
  value_made (suc n) e = refl

  values_made : (parameters : List (FieldTypeOf (List ℕ))) → all_made (map value_type parameters) ≡ true
  values_made [] = refl
  values_made (p ∷ parameters) = rw (value_made p.dimensions p.element) (values_made parameters)

  receiver_made : (name : List ℕ) (test : Bool) → is_made env (if test then types.UninitializedThis else types.Class name) ≡ true
  receiver_made name true = refl
  receiver_made name false = refl

  receivers_made : (name : List ℕ) (static test : Bool) → all_made (if static then [] else (if test then types.UninitializedThis else types.Class name) ∷ []) ≡ true
  receivers_made name true test = refl
  receivers_made name false test = rw (receiver_made name test) refl

  pub initial_made : (name : List ℕ) (static init : Bool) (parameters : List (FieldTypeOf (List ℕ))) → all_made (initial_entries name static init parameters) ≡ true
  initial_made name static init parameters =
      list_all-append (is_made env) (receiver_entries name static init) (map value_type parameters)
      ∙ joined (all_made (receiver_entries name static init)) (all_made (map value_type parameters))
      (receivers_made name static (init && not (bytes_eq name (codes "java/lang/Object")))) (values_made parameters)

  place_made : (ts : List FrameType) (k : ℕ) → all_made ts ≡ true → is_made env (get_or ts k types.Top) ≡ true
  place_made [] k e = refl
  place_made (t ∷ ts) zero e = (both (is_made env t) (all_made ts) e).0
  place_made (t ∷ ts) (suc k) e = place_made ts k (both (is_made env t) (all_made ts) e).1

  -- ---- an entry, and those of a list

  object_by : (text : List ℕ) (array class : Bool) (o : Option (FieldTypeOf (List ℕ))) →
      is_made env (unwrap_or (cond array (o >>= array_of) (cond class (Some (types.Class text)) None)) types.Top) ≡ true
  object_by text true class None = refl
  object_by text true class (Some t) = refl
  object_by text false true o = refl
  object_by text false false o = refl

  object_made : (o : Option (List ℕ)) → is_made env (unwrap_or (o >>= reference_type) types.Top) ≡ true
  object_made None = refl
  object_made (Some text) = object_by text (is_array_name text) (is_class_name text) (field_type_of text)

  module _ (pool : List Entry) (initial : List FrameType) (made : all_made initial ≡ true) where
    entry_made : (e : FrameEntry) → is_made_by_new env e ≡ is_made env (entry_type pool initial e)
    entry_made entries.Top = refl
    entry_made entries.Int = refl
    entry_made entries.Long = refl
    entry_made entries.Null = refl
    entry_made entries.UninitializedThis = refl
    entry_made (entries.Object class) = sym (object_made (class_name_at pool class))
    entry_made (entries.Uninitialized offset) = refl
    entry_made (entries.Initial place) = sym (place_made initial place made)

    pub entries_made : (es : List FrameEntry) → list_all (is_made_by_new env) es ≡ all_made (map (entry_type pool initial) es)
    entries_made [] = refl
    entries_made (e ∷ es) =
        ap (λ (b : Bool). b && list_all (is_made_by_new env) es) (entry_made e)
        ∙ ap (λ (b : Bool). is_made env (entry_type pool initial e) && b) (entries_made es)

  -- ---- local variables by words

  tops_made : (n : ℕ) → all_made (replicate n types.Top) ≡ true
  tops_made zero = refl
  tops_made (suc n) = tops_made n

  one_by_words : (t : FrameType) → all_made (type_by_words t) ≡ is_made env t
  one_by_words types.Long = refl
  one_by_words types.Top = refl
  one_by_words types.Int = refl
  one_by_words types.Null = refl
  one_by_words types.UninitializedThis = refl
  one_by_words (types.Class name) = refl
  one_by_words (types.Array type) = refl
  one_by_words (types.Uninitialized offset) = and_true (is_made env (types.Uninitialized offset))

  by_words_made : (ts : List FrameType) → all_made (flat_map type_by_words ts) ≡ all_made ts
  by_words_made [] = refl
  by_words_made (t ∷ ts) =
      list_all-append (is_made env) (type_by_words t) (flat_map type_by_words ts)
      ∙ (ap (λ (b : Bool). b && all_made (flat_map type_by_words ts)) (one_by_words t) ∙ ap (λ (b : Bool). is_made env t && b) (by_words_made ts))

  turned_and : (a b : Bool) → (a && (b && true)) ≡ (b && a)
  turned_and true true = refl
  turned_and true false = refl
  turned_and false true = refl
  turned_and false false = refl

  reversed_made : (ts : List FrameType) → all_made (reverse ts) ≡ all_made ts
  reversed_made [] = refl
  reversed_made (t ∷ ts) =
      ap all_made (reverse-append (t ∷ []) ts)
      ∙ (list_all-append (is_made env) (reverse ts) (t ∷ [])
      ∙ (turned_and (all_made (reverse ts)) (is_made env t) ∙ ap (λ (b : Bool). is_made env t && b) (reversed_made ts)))

  pub expanded_made : (max_locals : ℕ) (ts : List FrameType) → all_made (expanded max_locals (reverse ts)) ≡ all_made ts
  expanded_made max_locals ts =
      let tops = replicate (max_locals - words (reverse ts)) types.Top in
      list_all-append (is_made env) (flat_map type_by_words (reverse ts)) tops
      ∙ (ap (λ (b : Bool). all_made (flat_map type_by_words (reverse ts)) && b) (tops_made (max_locals - words (reverse ts)))
      ∙ (and_true (all_made (flat_map type_by_words (reverse ts))) ∙ (by_words_made (reverse ts) ∙ reversed_made ts)))
