-- The types that Class constants name, and what resolution makes of them (JVMS 4.4.1, 5.4.3.1).
use Rattle.std.proofs.Common.{◌≡◌, ◌⊎◌, inl, inr, ℕ, suc, ◌-◌, Bool, true, false, ◌==◌, List, [], ◌∷◌, Option, Some, None, Ok, Err, refl, sym, ap, subst, ◌∙◌, arith}
use Rattle.std.specs.Prelude.{IsTrue, if◌then◌else◌}
use Rattle.std.specs.Option.{option_map, option_and_then}
use Rattle.jv_format.specs.Format as rules_format
use Rattle.jv_text.specs.declared.descriptor.Element.{Element}
use Rattle.jv_text.specs.declared.descriptor.Element.TheVariants as elements
use Rattle.jv_text.specs.declared.descriptor.FieldTypeOf.{FieldTypeOf}
use Rattle.jv_text.specs.Name.{is_array_name, is_class_name}
use Rattle.jv_text.specs.Types.{brackets, with_dimensions, type_at, type_alone, field_type_of}
use Rattle.jv_stackmap.specs.declared.verification.VerificationTypeOf.TheVariants as types
use Rattle.jv_stackmap.specs.Types.{FrameType, array_of, component, reference_type, value_type, value_type_by}
use Rattle.jv_meaning_world.specs.World.{Loaded, World, class_named}
use Rattle.jv_meaning_world.specs.Laws.Above.{SystemStandsAlone}
use Rattle.jv_meaning_world.specs.Verdicts.{passes, is_loadable}
use Rattle.jv_meaning_typing.specs.LinkErrors as link
use Rattle.jv_meaning_typing.specs.LinkErrors.{OrError}
use Rattle.jv_meaning_typing.specs.ClassResolution.{ResolvedClass, resolve_name, resolve_element, resolve_array, resolve_text}
use Rattle.jv_meaning_typing.specs.ClassResolution.ResolvedClass.{ClassOf, ArrayOf}
use Rattle.jv_meaning_world.specs.Laws.Order.{has_loadable_element, is_usable_reference}
use Rattle.jv_meaning_typing.specs.Named.{class_components, named_type, when}
use Rattle.jv_sound.proofs.Logic.{clash}
use Rattle.jv_sound.proofs.Resolving.{IsNamedClass, resolved, resolved_class}
use Rattle.jv_meaning_machine.specs.Effects.{resolved_type}

-- ---- array types by their descriptors

-- a text that begins with a bracket is of one dimension at least
pub array_dimensions : (text : List ℕ) (type : FieldTypeOf (List ℕ)) → is_array_name text ≡ true → field_type_of text ≡ Some type
    → (k : ℕ) × (type.dimensions ≡ suc k)
array_dimensions [] type a e = absurd (clash a)
array_dimensions (byte ∷ rest) type a e = by_type (type_at (byte ∷ rest)) known e
  where
    counted : (b : Bool) → b ≡ true → (if b then suc (brackets rest) else 0) ≡ suc (brackets rest)
    counted true k = refl
    counted false k = absurd (clash k)

    known : (found : FieldTypeOf (List ℕ) × List ℕ) → type_at (byte ∷ rest) ≡ Some found → found.0.dimensions ≡ brackets (byte ∷ rest)
    known found k = by_element _ k
      where
        by_element : (o : Option (Element (List ℕ) × List ℕ)) → option_map (with_dimensions (brackets (byte ∷ rest))) o ≡ Some found
            → found.0.dimensions ≡ brackets (byte ∷ rest)
        by_element None k = absurd cc
        by_element (Some p) k = let s : with_dimensions (brackets (byte ∷ rest)) p ≡ found = cc in ap
            (λ (f : FieldTypeOf (List ℕ) × List ℕ). f.0.dimensions) (sym s)

    by_alone : (found : FieldTypeOf (List ℕ) × List ℕ) (b : Bool) → (if b then Some found.0 else None) ≡ Some type → found.0 ≡ type
    by_alone found true k = cc
    by_alone found false k = absurd cc

    by_type : (o : Option (FieldTypeOf (List ℕ) × List ℕ)) → ((found : FieldTypeOf (List ℕ) × List ℕ) → o ≡ Some found
        → found.0.dimensions ≡ brackets (byte ∷ rest)) → option_and_then type_alone o ≡ Some type → (k : ℕ) × (type.dimensions ≡ suc k)
    by_type None known k = absurd cc
    by_type (Some found) known k = (
      brackets rest,
      ap (λ (t : FieldTypeOf (List ℕ)). t.dimensions) (sym (by_alone found _ k)) ∙ known found refl ∙ counted
          (byte == 91) a,
    )

-- the values of such a type are arrays
pub value_of_array : (type : FieldTypeOf (List ℕ)) (k : ℕ) → type.dimensions ≡ suc k → value_type type ≡ types.Array (component type)
value_of_array type k e =
    let less : suc k - 1 ≡ k = omega arith in
    ap (λ (n : ℕ). value_type_by n type.element) e ∙ ap (λ (n : ℕ). types.Array (record { dimensions = n; element = type.element }))
    (sym less ∙ ap (λ (n : ℕ). n - 1) (sym e))

-- ---- what resolution makes of a text

pub record IsResolvedArray (world : World) (text : List ℕ) (class : ResolvedClass) : Type 0 where
  pub array : is_array_name text ≡ true
  pub type : FieldTypeOf (List ℕ)
  pub described : field_type_of text ≡ Some type
  pub is : class ≡ ArrayOf type
  pub loadable : IsTrue (has_loadable_element world type.element)

pub record IsResolvedClass (world : World) (text : List ℕ) (class : ResolvedClass) : Type 0 where
  pub plain : is_array_name text ≡ false
  pub l : Loaded
  pub is : class ≡ ClassOf l
  pub named : IsNamedClass world text l

pub resolved_text : (world : World) → SystemStandsAlone world → (current : Loaded) (text : List ℕ) (class : ResolvedClass)
    → resolve_text world current text ≡ Ok class
    → IsResolvedArray world text class ⊎ IsResolvedClass world text class
resolved_text world alone current text class e = by_array (is_array_name text) refl e
  where
    by_name : is_array_name text ≡ false → (r : OrError Loaded) → resolve_name world current text ≡ r
        → link.◌>>=◌ r (λ l. Ok (ClassOf l)) ≡ Ok class → IsResolvedArray world text class ⊎ IsResolvedClass world text class
    by_name plain (Ok l) n k = let s : ClassOf l ≡ class = cc in inr
        (record { plain = plain; l = l; is = sym s; named = resolved_class world alone text l (resolved world current text l n) })
    by_name plain (Err x) n k = absurd cc

    by_element : is_array_name text ≡ true → (type : FieldTypeOf (List ℕ)) → field_type_of text ≡ Some type → (element : Element (List ℕ))
        → type.element ≡ element → resolve_element world current type element ≡ Ok class
        → IsResolvedArray world text class ⊎ IsResolvedClass world text class
    by_element array type d (elements.Base base) f k =
        let s : ArrayOf type ≡ class = cc in
        inl (record { array = array; type = type; described = d; is = sym s; loadable = ap (has_loadable_element world) f })
    by_element array type d (elements.Class name) f k = by_resolved (resolve_name world current name) refl k
      where
        by_resolved : (r : OrError Loaded) → resolve_name world current name ≡ r → link.◌>>=◌ r (λ l. Ok (ArrayOf type)) ≡ Ok class
            → IsResolvedArray world text class ⊎ IsResolvedClass world text class
        by_resolved (Ok l) n j =
            let s : ArrayOf type ≡ class = cc in
            let known = resolved world current name l n in
            inl (record {
              array = array;
              type = type;
              described = d;
              is = sym s;
              loadable = ap (has_loadable_element world) f ∙ ap (passes (is_loadable world)) known.named ∙
                  (resolved_class world alone name l known).loadable;
            })
        by_resolved (Err x) n j = absurd cc

    by_type : is_array_name text ≡ true → (o : Option (FieldTypeOf (List ℕ))) → field_type_of text ≡ o
        → resolve_array world current o ≡ Ok class → IsResolvedArray world text class ⊎ IsResolvedClass world text class
    by_type array None d k = absurd cc
    by_type array (Some type) d k = by_element array type d type.element refl k

    by_array : (b : Bool) → is_array_name text ≡ b → (if b then resolve_array world current (field_type_of text) else link.◌>>=◌
        (resolve_name world current text) (λ l. Ok (ClassOf l))) ≡ Ok class
        → IsResolvedArray world text class ⊎ IsResolvedClass world text class
    by_array true a k = by_type a (field_type_of text) refl k
    by_array false a k = by_name a (resolve_name world current text) refl k

-- ---- the verifier's type of a text is that of the resolved class

pub same_option : {A : Type 0} (a b : A) → Some a ≡ Some b → a ≡ b
same_option a b e = cc

-- what the verifier reads of an array's text, and of another's
pub reference_of_array : (text : List ℕ) (type : FieldTypeOf (List ℕ)) (t : FrameType) → is_array_name text ≡ true
    → field_type_of text ≡ Some type → reference_type text ≡ Some t → t ≡ value_type type
reference_of_array text type t a d e =
    let k = array_dimensions text type a d in
    by_test (is_array_name text) a e ∙ sym (value_of_array type k.0 k.1)
  where
    by_test : (b : Bool) → b ≡ true → (if b then rules_format.◌>>=◌ (field_type_of text) array_of else if is_class_name text then Some
        (types.Class text) else None) ≡ Some t → t ≡ types.Array (component type)
    by_test true b k = sym (same_option (types.Array (component type)) t
        (sym (ap (λ (o : Option (FieldTypeOf (List ℕ))). rules_format.◌>>=◌ o array_of) d) ∙ k))
    by_test false b k = absurd (clash b)

pub reference_of_class : (text : List ℕ) (t : FrameType) → is_array_name text ≡ false → reference_type text ≡ Some t → t ≡ types.Class text
reference_of_class text t a e = by_test (is_array_name text) (is_class_name text) a e
  where
    by_test : (b c : Bool) → b ≡ false → (if b then rules_format.◌>>=◌ (field_type_of text) array_of else if c then Some
        (types.Class text) else None) ≡ Some t → t ≡ types.Class text
    by_test true c b k = absurd (clash (sym b))
    by_test false true b k = sym (same_option (types.Class text) t k)
    by_test false false b k = absurd cc

pub resolved_reference : (world : World) (text : List ℕ) (class : ResolvedClass) (t : FrameType)
    → IsResolvedArray world text class ⊎ IsResolvedClass world text class → reference_type text ≡ Some t
    → value_type (resolved_type class) ≡ t
resolved_reference world text class t (inl r) e = ap (λ (c : ResolvedClass). value_type (resolved_type c)) r.is ∙ sym
    (reference_of_array text r.type t r.array r.described e)
resolved_reference world text class t (inr r) e =
    ap (λ (c : ResolvedClass). value_type (resolved_type c)) r.is ∙ ap (λ (n : List ℕ). types.Class n) r.named.name ∙ sym
    (reference_of_class text t r.plain e)

-- the components of an array of what is named
pub resolved_components : (world : World) (text : List ℕ) (class : ResolvedClass) (type : FieldTypeOf (List ℕ))
    → IsResolvedArray world text class ⊎ IsResolvedClass world text class → named_type text ≡ Some type
    → (resolved_type class ≡ type) × IsTrue (has_loadable_element world type.element)
resolved_components world text class type (inl r) e =
    let same : r.type ≡ type = by_test (is_array_name text) r.array e in
    (ap resolved_type r.is ∙ same, subst (λ (t : FieldTypeOf (List ℕ)). IsTrue (has_loadable_element world t.element)) same r.loadable)
  where
    by_test : (b : Bool) → b ≡ true → (if b then field_type_of text else when (is_class_name text) (class_components text)) ≡ Some type
        → r.type ≡ type
    by_test true b k = same_option r.type type (sym r.described ∙ k)
    by_test false b k = absurd (clash b)
resolved_components world text class type (inr r) e =
    let same : class_components text ≡ type = by_test (is_array_name text) (is_class_name text) r.plain e in
    let loadable : passes (is_loadable world) (class_named world text) ≡ true = ap
    (λ (n : List ℕ). passes (is_loadable world) (class_named world n)) (sym r.named.name) ∙ ap
    (passes (is_loadable world)) r.named.there ∙ r.named.loadable in (
      ap resolved_type r.is ∙ ap class_components r.named.name ∙ same,
      subst
          (λ (t : FieldTypeOf (List ℕ)). IsTrue (has_loadable_element world t.element)) same loadable,
    )
  where
    by_test : (b c : Bool) → b ≡ false → (if b then field_type_of text else when c (class_components text)) ≡ Some type
        → class_components text ≡ type
    by_test true c b k = absurd (clash (sym b))
    by_test false true b k = same_option (class_components text) type k
    by_test false false b k = absurd cc

-- what a text names is a class or an array
pub reference_is_usable : (text : List ℕ) (t : FrameType) → reference_type text ≡ Some t → is_usable_reference t ≡ true
reference_is_usable text t e = by_test (is_array_name text) (is_class_name text) (field_type_of text) e
  where
    by_test : (b c : Bool) (o : Option (FieldTypeOf (List ℕ))) →
        (if b then rules_format.◌>>=◌ o array_of else if c then Some (types.Class text) else None) ≡ Some t → is_usable_reference t ≡ true
    by_test true c None k = absurd cc
    by_test true c (Some type) k = ap is_usable_reference (sym (same_option (types.Array (component type)) t k))
    by_test false true o k = ap is_usable_reference (sym (same_option (types.Class text) t k))
    by_test false false o k = absurd cc
