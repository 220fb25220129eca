-- What linking answers, as an error or none.
use Rattle.std.proofs.Common.{◌≡◌, ℕ, zero, suc, ◌<◌, true, ◌||◌, List, [], ◌∷◌, length, Option, Some, None, refl, sym, ap, subst, ◌∙◌, arith}
use Rattle.std.specs.Prelude.{Result, Ok, Err, IsSome, is_some, slice_get}
use Rattle.std.specs.Option.{option_map, option_or, option_and_then}
use Rattle.jv_format.specs.Format.{◌>>=◌}
use Rattle.jv_text.specs.declared.descriptor.FieldTypeOf.{FieldTypeOf}
use Rattle.jv_text.specs.Name.{is_array_name}
use Rattle.jv_text.specs.Types.{field_type_of}
use Rattle.jv_pool.specs.Constants.{MemberReference, method_reference_at, interface_method_reference_at}
use Rattle.jv_class.specs.Class.{Class, Method}
use Rattle.jv_meaning_world.specs.World.{Loaded, World}
use Rattle.jv_meaning_world.specs.Overriding.{Declared}
use Rattle.jv_meaning_world.specs.Verdicts.{declared_by}
use Rattle.jv_lookups.specs.Places.{method_of}
use Rattle.jv_meaning_typing.specs.LinkErrors.{OrError}
use Rattle.jv_meaning_typing.specs.Operands.{through, method_operand}
use Rattle.jv_meaning_typing.specs.Operands.MethodConstant.{Methodref, InterfaceMethodref}
use Rattle.jv_link.specs.declared.error.LinkError.{LinkError}
use Rattle.jv_link.specs.declared.site.Site.{Site}
use Rattle.jv_link.specs.Seen.{IsSite, answer, answer_at, error_of, seen_site}
use Rattle.jv_links.specs.Inside.Shown.{names_method}
use Rattle.jv_links.specs.References.{error_in}
use Rattle.jv_links.specs.Text.{class_within, element_class}

pub some_of : {X : Type 0} (o : Option X) → IsSome o → (x : X) × (o ≡ Some x)
some_of None h = absurd cc
some_of (Some x) h = (x, refl)

there : {X : Type 0} (xs : List X) (k : ℕ) → k < length xs → (x : X) × (slice_get xs k ≡ Some x)
there [] k h = absurd (omega (arith, h))
there (x ∷ xs) zero h = (x, refl)
there (x ∷ xs) (suc k) h = there xs k (omega (arith, h))

-- ---- answers

module _ {B : Type 0} where
  of_found : (o : Option B) (r : OrError B) → option_map answer o ≡ Some r → None ≡ error_in r
  of_found None r e = absurd cc
  of_found (Some b) r e =
      let same : answer b ≡ r = cc in
      ap error_in same

  of_error : (error : LinkError) (r : OrError B) → Some (Err (error_of error)) ≡ Some r → Some (error_of error) ≡ error_in r
  of_error error r e =
      let same : Err (error_of error) ≡ r = cc in
      ap error_in same

module _ {X A B : Type 0} (at : A → Option B) (resolve : X → OrError B) (o : Option X) (x : X) (found : Result A LinkError) (is : o ≡ Some x)
    (answers : answer_at at found ≡ Some (resolve x)) where
  pub resolves : (a : A) → found ≡ Ok a → None ≡ option_and_then (λ x. error_in (resolve x)) o
  resolves a e =
      of_found (at a) (resolve x) (subst (λ (f : Result A LinkError). answer_at at f ≡ Some (resolve x)) e answers)
      ∙ ap (option_and_then (λ x. error_in (resolve x))) (sym is)

  pub fails : (error : LinkError) → found ≡ Err error → Some (error_of error) ≡ option_and_then (λ x. error_in (resolve x)) o
  fails error e =
      of_error error (resolve x) (subst (λ (f : Result A LinkError). answer_at at f ≡ Some (resolve x)) e answers)
      ∙ ap (option_and_then (λ x. error_in (resolve x))) (sym is)

-- ---- sites

-- a method of the class of a site stands there
pub site_there : (world : World) (site : Site) → IsSite world site → (l : Loaded) → slice_get world site.class ≡ Some l
    → (m : Method) × (slice_get l.class.methods site.method ≡ Some m) × (seen_site world site ≡ Some (declared_by l m))
site_there world site is l at =
    let found = there l.class.methods site.method (is.member l at) in
    (found.0, found.1, ap (λ o. o >>= method_of site.method) at ∙ ap (option_map (declared_by l)) found.1)

-- the method of a site stands there
pub method_there : (world : World) (site : Site) (s : Declared) → seen_site world site ≡ Some s → slice_get s.by.class.methods site.method ≡ Some s.method
method_there world site s e = by_class (slice_get world site.class) e
  where
    by_method : (l : Loaded) (o : Option Method) → slice_get l.class.methods site.method ≡ o → option_map (declared_by l) o ≡ Some s
        → slice_get s.by.class.methods site.method ≡ Some s.method
    by_method l None at e = absurd cc
    by_method l (Some m) at e =
        let same : declared_by l m ≡ s = cc in
        subst (λ (d : Declared). slice_get d.by.class.methods site.method ≡ Some d.method) same at

    by_class : (o : Option Loaded) → (o >>= method_of site.method) ≡ Some s → slice_get s.by.class.methods site.method ≡ Some s.method
    by_class None e = absurd cc
    by_class (Some l) e = by_method l (slice_get l.class.methods site.method) refl e

-- ---- operands

pub is_method : (class : Class) (index : ℕ) → names_method class.constant_pool index ≡ true → IsSome (method_operand class index)
is_method class index e = by_two (method_reference_at class.constant_pool index) (interface_method_reference_at class.constant_pool index) e
  where
    by_two : (a b : Option MemberReference) → (is_some a || is_some b) ≡ true
        → IsSome (option_or (option_map (through Methodref) a) (option_map (through InterfaceMethodref) b))
    by_two (Some a) b e = refl
    by_two None (Some b) e = refl
    by_two None None e = absurd cc

-- ---- names

pub within_array : (text : List ℕ) (type : FieldTypeOf (List ℕ)) → is_array_name text ≡ true → field_type_of text ≡ Some type
    → element_class type.element ≡ class_within text
within_array text type is e = rw (is, e) refl

pub within_none : (text : List ℕ) → is_array_name text ≡ true → None ≡ field_type_of text → None ≡ class_within text
within_none text is e = rw (is, ← e) refl
