-- What the text of a Class constant names, by the type of its objects.
use Rattle.std.proofs.Common.{◌≡◌, ◌⊎◌, inl, inr, ℕ, Bool, true, false, not, List, Option, Some, None, refl, sym, ap, ◌∙◌, if◌then◌else◌}
use Rattle.std.specs.Option.{option_map}
use Rattle.jv_format.specs.Format.{◌>>=◌}
use Rattle.jv_text.specs.declared.descriptor.FieldTypeOf.{FieldTypeOf}
use Rattle.jv_text.specs.Name.{is_array_name, is_class_name}
use Rattle.jv_text.specs.Types.{field_type_of}
use Rattle.jv_stackmap.specs.declared.verification.VerificationTypeOf.TheVariants as types
use Rattle.jv_stackmap.specs.Types.{FrameType, array_of, reference_type}
use Rattle.jv_meaning_typing.specs.Named.{when}
use Rattle.jv_verify_types.specs.Typed.{name_at, typed}
use Rattle.jv_verify_types.specs.Numbered.{Item}
use Rattle.jv_verify_types.specs.Operands.{plain_class}
use Rattle.jv_verify_types.specs.Numbered.{class_number}
use Rattle.jv_verify_types.specs.Inside.Named.{class_of_type}

-- a class by its name, and no array
pub record IsPlain (text : List ℕ) : Type 0 where
  pub array : is_array_name text ≡ false
  pub plain : plain_class text ≡ Some text
  pub type : reference_type text ≡ Some (types.Class text)

-- it is none, and has no class as its type
pub record IsOther (text : List ℕ) : Type 0 where
  pub plain : plain_class text ≡ None
  pub type : (name : List ℕ) → reference_type text ≡ Some (types.Class name) → ⊥

pub no_array_class : (o : Option (FieldTypeOf (List ℕ))) (name : List ℕ) → (o >>= array_of) ≡ Some (types.Class name) → ⊥
no_array_class None name f = cc
no_array_class (Some t) name f = cc

pub plain_or_other : (text : List ℕ) → IsPlain text ⊎ IsOther text
plain_or_other text = by_array (is_array_name text) refl
  where
    type_by : Bool → Bool → Option FrameType
    type_by b k = if b then field_type_of text >>= array_of else if k then Some (types.Class text) else None

    by_array : (b : Bool) → is_array_name text ≡ b → IsPlain text ⊎ IsOther text
    by_array true e = inr (record {
      plain = ap (λ b. when (not b) text >>= λ name. when (is_class_name name) name) e;
      type = λ name f. no_array_class (field_type_of text) name (sym (ap (λ b. if b then field_type_of text >>= array_of else if is_class_name text then Some (types.Class text) else None) e) ∙ f);
    })
    by_array false e = by_class (is_class_name text) refl
      where
        by_class : (k : Bool) → is_class_name text ≡ k → IsPlain text ⊎ IsOther text
        by_class true g = inl (record {
          array = e;
          plain = ap (λ b. when (not b) text >>= λ name. when (is_class_name name) name) e ∙ ap (λ k. when k text) g;
          type = ap (λ b. if b then field_type_of text >>= array_of else if is_class_name text then Some (types.Class text) else None) e ∙ ap (λ k. if k then Some (types.Class text) else None) g;
        })
        by_class false g = inr (record {
          plain = ap (λ b. when (not b) text >>= λ name. when (is_class_name name) name) e ∙ ap (λ k. when k text) g;
          type = λ name f.
              let none : reference_type text ≡ None =
              ap (λ b. if b then field_type_of text >>= array_of else if is_class_name text then Some (types.Class text) else None) e ∙
              ap (λ k. if k then Some (types.Class text) else None) g in
              absurd (unlike (sym none ∙ f));
        })
          where
            unlike : {name : List ℕ} → None ≡ Some (types.Class name) → ⊥
            unlike f = cc

-- ---- the number of a class

same_class : (a b : List ℕ) → Some (types.Class a) ≡ Some (types.Class b) → a ≡ b
same_class a b e = cc

pub number_named : (names : List (List ℕ)) (o : Option Item) (t : Option (List ℕ)) → option_map (typed names) o ≡ (t >>= reference_type)
    → option_map (name_at names) (class_number o) ≡ (t >>= plain_class)
number_named names None None e = refl
number_named names (Some item) None e = absurd cc
number_named names o (Some text) e = by_text (plain_or_other text)
  where
    by_text : IsPlain text ⊎ IsOther text → option_map (name_at names) (class_number o) ≡ plain_class text
    by_text (inl p) = plainly o (e ∙ p.type) ∙ sym p.plain
      where
        plainly : (o : Option Item) → option_map (typed names) o ≡ Some (types.Class text) → option_map (name_at names) (class_number o) ≡ Some text
        plainly None f = absurd cc
        plainly (Some (types.Class n)) f = ap Some (same_class (name_at names n) text f)
        plainly (Some types.Top) f = absurd cc
        plainly (Some types.Int) f = absurd cc
        plainly (Some types.Long) f = absurd cc
        plainly (Some types.Null) f = absurd cc
        plainly (Some types.UninitializedThis) f = absurd cc
        plainly (Some (types.Array c)) f = absurd cc
        plainly (Some (types.Uninitialized p)) f = absurd cc
    by_text (inr p) = other o e ∙ sym p.plain
      where
        other : (o : Option Item) → option_map (typed names) o ≡ reference_type text → option_map (name_at names) (class_number o) ≡ None
        other None f = refl
        other (Some (types.Class n)) f = absurd (p.type (name_at names n) (sym f))
        other (Some types.Top) f = refl
        other (Some types.Int) f = refl
        other (Some types.Long) f = refl
        other (Some types.Null) f = refl
        other (Some types.UninitializedThis) f = refl
        other (Some (types.Array c)) f = refl
        other (Some (types.Uninitialized p)) f = refl

pub class_by_number : (names : List (List ℕ)) (o : Option Item) → option_map (name_at names) (class_number o) ≡ class_of_type (option_map (typed names) o)
class_by_number names None = refl
class_by_number names (Some (types.Class n)) = refl
class_by_number names (Some types.Top) = refl
class_by_number names (Some types.Int) = refl
class_by_number names (Some types.Long) = refl
class_by_number names (Some types.Null) = refl
class_by_number names (Some types.UninitializedThis) = refl
class_by_number names (Some (types.Array c)) = refl
class_by_number names (Some (types.Uninitialized p)) = refl
