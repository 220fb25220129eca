-- Which arrays a value of an array type can be (JVMS 4.10.1.2), and what these hold.
use Rattle.std.proofs.Common.{◌≡◌, ◌⊎◌, inl, inr, ℕ, zero, suc, Bool, true, false, ◌||◌, List, [], ◌∷◌, Some, None, refl, sym, ap, subst, ◌∙◌}
use Rattle.std.specs.Prelude.{⊤, slice_get, slice_set, if◌then◌else◌}
use Rattle.std.specs.List.{AllByRecursion, list_any}
use Rattle.std.proofs.lemmas.Bool.{or_cases}
use Rattle.jv_text.specs.declared.descriptor.Base.{Base}
use Rattle.jv_text.specs.declared.descriptor.Base.TheVariants as bases
use Rattle.jv_text.specs.declared.descriptor.Element.{Element}
use Rattle.jv_text.specs.declared.descriptor.Element.TheVariants as elements
use Rattle.jv_text.specs.declared.descriptor.FieldTypeOf.{FieldTypeOf}
use Rattle.jv_stackmap.specs.declared.verification.VerificationTypeOf.TheVariants as types
use Rattle.jv_stackmap.specs.Types.{FrameType, value_type, value_type_by}
use Rattle.jv_code.specs.declared.kinds.NumberElement.{NumberElement}
use Rattle.jv_code.specs.declared.kinds.NumberElement.TheVariants as numbers
use Rattle.jv_meaning_world.specs.World.{World}
use Rattle.jv_meaning_world.proofs.Order.{below_is_reference, below_is_transitive, components_are_below}
use Rattle.jv_meaning_world.specs.Flow.{component_flows, same_base}
use Rattle.jv_meaning_world.specs.FrameFlow.{item_flows}
use Rattle.jv_meaning_world.specs.Laws.Order.{IsBelow, IsRooted, erased_element, is_usable_reference}
use Rattle.jv_meaning_typing.specs.FrameChanges.{is_reference, taken_as_any}
use Rattle.jv_meaning_typing.specs.NumberRules.{array_of_base, number_arrays, element_number}
use Rattle.jv_meaning_machine.specs.Values.{Value}
use Rattle.jv_meaning_machine.specs.Values.Value.{Null, Reference}
use Rattle.jv_meaning_machine.specs.Objects.{Object}
use Rattle.jv_meaning_machine.specs.Objects.Object.{InstanceOf, ArrayWith}
use Rattle.jv_meaning_machine.specs.Arrays.{holds_base, holds_by, holds_numbers, holds_references}
use Rattle.jv_meaning_machine.specs.Operands.{taken_reference}
use Rattle.jv_sound.specs.Values.{Fits, IsObject, IsReferenceTo, Place, HasStack, object_type}
use Rattle.jv_sound.specs.Memory.{AreLoadable}
use Rattle.jv_sound.proofs.Logic.{clash, Agrees, both, nothing}
use Rattle.jv_sound.proofs.Types.{sort_has_type, sort_usable, item_flows_fit}

-- ---- lists

pub got : {A : Type 0} (P : A → Type 0) (values : List A) (k : ℕ) (v : A) → AllByRecursion P values → slice_get values k ≡ Some v → P v
got P [] k v h e = absurd cc
got P (x ∷ values) zero v h e = let s : x ≡ v = cc in subst P s h.0
got P (x ∷ values) (suc k) v h e = got P values k v h.1 e

pub all_set : {A : Type 0} (P : A → Type 0) (values : List A) (k : ℕ) (w : A) → AllByRecursion P values → P w
    → AllByRecursion P (slice_set values k w)
all_set P [] k w h f = tt
all_set P (x ∷ values) zero w h f = (f, h.1)
all_set P (x ∷ values) (suc k) w h f = (h.0, all_set P values k w h.1 f)

-- ---- values that are null or an array

abbrev pub IsArray : List Object → (FieldTypeOf (List ℕ) → Type 0) → Value → Type 0
IsArray objects P Null = ⊤
IsArray objects P (Reference id) = (components : FieldTypeOf (List ℕ)) × (values : List Value)
    × (slice_get objects id ≡ Some (ArrayWith components values)) × P components
IsArray objects P _ = ⊥

-- what is of an array type is an array, whose own type is below it
pub array_value : (world : World) (objects : List Object) (c : FieldTypeOf (List ℕ)) (v : Value)
    → IsReferenceTo world objects (types.Array c) v → IsArray objects (λ d. IsBelow world (types.Array d) (types.Array c)) v
array_value world objects c Null f = tt
array_value world objects c (Reference id) f = by_object f.object f.there f.below
  where
    by_object : (o : Object) → slice_get objects id ≡ Some o → IsBelow world (object_type o) (types.Array c)
        → IsArray objects (λ d. IsBelow world (types.Array d) (types.Array c)) (Reference id)
    by_object (InstanceOf i) e b = absurd (clash b)
    by_object (ArrayWith components values) e b = (components, values, e, b)
array_value world objects c _ f = absurd f

pub array_weaker : (objects : List Object) (P Q : FieldTypeOf (List ℕ) → Type 0) (v : Value) → ((c : FieldTypeOf (List ℕ)) → P c → Q c)
    → IsArray objects P v → IsArray objects Q v
array_weaker objects P Q Null k f = tt
array_weaker objects P Q (Reference id) k f = (f.0, f.1, f.2, k f.0 f.3)
array_weaker objects P Q _ k f = absurd f

-- ---- arrays of numbers

base_same : (a b : Base) → same_base a b ≡ true → a ≡ b
base_same bases.Byte bases.Byte e = refl
base_same bases.Char bases.Char e = refl
base_same bases.Short bases.Short e = refl
base_same bases.Boolean bases.Boolean e = refl
base_same bases.Int bases.Int e = refl
base_same bases.Long bases.Long e = refl
base_same bases.Float bases.Float e = refl
base_same bases.Double bases.Double e = refl
base_same _ _ e = absurd (clash e)

kind_type : (kind : NumberElement) (b : Base) → holds_base kind b ≡ true → value_type_by zero (elements.Base b) ≡ element_number kind
kind_type numbers.Int bases.Int e = refl
kind_type numbers.Long bases.Long e = refl
kind_type numbers.ByteOrBoolean bases.Byte e = refl
kind_type numbers.ByteOrBoolean bases.Boolean e = refl
kind_type numbers.Char bases.Char e = refl
kind_type numbers.Short bases.Short e = refl
kind_type _ _ e = absurd (clash e)

abbrev pub IsNumbers : NumberElement → FieldTypeOf (List ℕ) → Type 0
IsNumbers kind components = (holds_numbers kind components ≡ true) × (value_type components ≡ element_number kind)

number_components : (world : World) (kind : NumberElement) (b : Base) (n : ℕ) (e : Element (List ℕ)) → holds_base kind b ≡ true
    → component_flows world n (erased_element world e) 0 (elements.Base b) ≡ true
    → (holds_by kind n e ≡ true) × (value_type_by n e ≡ element_number kind)
number_components world kind b zero (elements.Base a) h f =
    let s : a ≡ b = base_same a b f in
    let k : holds_base kind a ≡ true = ap (holds_base kind) s ∙ h in
    (k, kind_type kind a k)
number_components world kind b zero (elements.Class x) h f = absurd (clash f)
number_components world kind b (suc n) e h f = absurd (clash f)

pub number_array : (world : World) (objects : List Object) (kind : NumberElement) (b : Base) (v : Value) → holds_base kind b ≡ true
    → IsReferenceTo world objects (array_of_base b) v → IsArray objects (IsNumbers kind) v
number_array world objects kind b v h f =
    array_weaker objects _ (IsNumbers kind) v (λ c below. number_components world kind b c.dimensions c.element h below)
    (array_value world objects (record { dimensions = 0; element = elements.Base b }) v f)

-- ---- arrays of references

abbrev pub IsReferences : World → FieldTypeOf (List ℕ) → FieldTypeOf (List ℕ) → Type 0
IsReferences world c components = (holds_references components ≡ true) × IsBelow world (value_type components) (value_type c)

-- a type of values that is one of references is usable
pub value_usable : (n : ℕ) (e : Element (List ℕ)) → is_reference (value_type_by n e) ≡ true → is_usable_reference (value_type_by n e) ≡ true
value_usable (suc n) e h = refl
value_usable zero (elements.Class name) h = refl
value_usable zero (elements.Base bases.Byte) h = absurd (clash h)
value_usable zero (elements.Base bases.Char) h = absurd (clash h)
value_usable zero (elements.Base bases.Short) h = absurd (clash h)
value_usable zero (elements.Base bases.Boolean) h = absurd (clash h)
value_usable zero (elements.Base bases.Int) h = absurd (clash h)
value_usable zero (elements.Base bases.Long) h = absurd (clash h)
value_usable zero (elements.Base bases.Float) h = absurd (clash h)
value_usable zero (elements.Base bases.Double) h = absurd (clash h)

pub usable_reference : (t : FrameType) → is_usable_reference t ≡ true → is_reference t ≡ true
usable_reference types.Null h = refl
usable_reference (types.Class name) h = refl
usable_reference (types.Array components) h = refl
usable_reference _ h = absurd (clash h)

pub reference_components : (world : World) (c d : FieldTypeOf (List ℕ)) → is_reference (value_type c) ≡ true
    → IsBelow world (types.Array d) (types.Array c) → IsReferences world c d
reference_components world c d r b =
    let k = components_are_below world d c b in
    (usable_reference (value_type d) (below_is_reference world (value_type d) (value_type c) (value_usable c.dimensions c.element r) k), k)

-- null and objects below a usable type are of it
pub null_of_usable : (world : World) (objects : List Object) (t : FrameType) → is_usable_reference t ≡ true → Fits world objects t Null
null_of_usable world objects types.Null u = refl
null_of_usable world objects (types.Class name) u = tt
null_of_usable world objects (types.Array c) u = tt
null_of_usable world objects _ u = absurd (clash u)

pub object_of_usable : (world : World) (objects : List Object) (t : FrameType) (id : ℕ) → is_usable_reference t ≡ true
    → IsObject world objects t id → Fits world objects t (Reference id)
object_of_usable world objects (types.Class name) id u k = k
object_of_usable world objects (types.Array c) id u k = k
object_of_usable world objects types.Null id u k = absurd (none k.object k.below)
  where
    none : (o : Object) → IsBelow world (object_type o) types.Null → ⊥
    none (InstanceOf i) b = clash b
    none (ArrayWith c vs) b = clash b
object_of_usable world objects _ id u k = absurd (clash u)

-- what is of a type is of each type that it is below
pub fits_below : (world : World) → IsRooted world → (objects : List Object) (t u : FrameType) (v : Value) → is_usable_reference u ≡ true
    → IsBelow world t u → Fits world objects t v → Fits world objects u v
fits_below world rooted objects t u v usable b f = by_types t u (below_is_reference world t u usable b) usable b f
  where
    by_value : (t u : FrameType) (v : Value) → IsBelow world t u → IsReferenceTo world objects t v → IsReferenceTo world objects u v
    by_value t u Null b f = tt
    by_value t u (Reference id) b f = record {
      object = f.object;
      there = f.there;
      constructed = f.constructed;
      below = below_is_transitive
          world rooted (object_type f.object) t u f.below b;
    }
    by_value t u _ b f = absurd f

    by_types : (t u : FrameType) → is_usable_reference t ≡ true → is_usable_reference u ≡ true → IsBelow world t u → Fits world objects t v
        → Fits world objects u v
    by_types types.Null u h k b f = subst (λ (w : Value). Fits world objects u w) (sym f) (null_of_usable world objects u k)
    by_types (types.Class x) (types.Class y) h k b f = by_value (types.Class x) (types.Class y) v b f
    by_types (types.Class x) (types.Array c) h k b f = by_value (types.Class x) (types.Array c) v b f
    by_types (types.Class x) types.Null h k b f = absurd (clash b)
    by_types (types.Class x) _ h k b f = absurd (clash k)
    by_types (types.Array d) (types.Class y) h k b f = by_value (types.Array d) (types.Class y) v b f
    by_types (types.Array d) (types.Array c) h k b f = by_value (types.Array d) (types.Array c) v b f
    by_types (types.Array d) types.Null h k b f = absurd (clash b)
    by_types (types.Array d) _ h k b f = absurd (clash k)
    by_types _ u h k b f = absurd (clash h)

-- ---- taking an array

module _ (p : Place) (rooted : IsRooted p.method.world) (loadable : AreLoadable p.method.world p.heap.objects) where
  abbrev pub IsTakenArray : (FieldTypeOf (List ℕ) → Type 0) → List FrameType → Value × List Value → Type 0
  IsTakenArray P below top = IsArray p.heap.objects P top.0 × HasStack p below top.1

  pub array_taken : (P : FieldTypeOf (List ℕ) → Type 0) (c : FieldTypeOf (List ℕ)) (S : List FrameType) (v : Value) (s : List Value)
      → IsReferenceTo p.method.world p.heap.objects (types.Array c) v → IsArray p.heap.objects P v
      → HasStack p S s → Agrees (IsTakenArray P) (Some S) (taken_reference p.heap.objects (v ∷ s))
  array_taken P c S v s f a hs =
      rw (
        sort_has_type p.method.world p.heap.objects (types.Array c) v tt f,
        sort_usable p.method.world p.heap.objects
            (types.Array c) v tt f,
      ) (both (a, hs))

  -- an array of numbers of a kind
  pub numbers_taken : (kind : NumberElement) (S : List FrameType) (s : List Value) → HasStack p S s
      → Agrees (IsTakenArray (IsNumbers kind)) (taken_as_any p.method.world (number_arrays kind) S) (taken_reference p.heap.objects s)
  numbers_taken kind [] s hs = nothing
  numbers_taken kind (x ∷ S) (v ∷ s) hs = by_test (list_any (item_flows p.method.world x) (number_arrays kind)) (of_kind kind)
    where
      of_base : (kind : NumberElement) (b : Base) → holds_base kind b ≡ true → item_flows p.method.world x (array_of_base b) ≡ true
          → (c : FieldTypeOf (List ℕ)) × IsReferenceTo p.method.world p.heap.objects (types.Array c) v
          × IsArray p.heap.objects (IsNumbers kind) v
      of_base kind b h e =
          let f = item_flows_fit p rooted loadable x (array_of_base b) v e hs.0 in
          (record { dimensions = 0; element = elements.Base b }, f.fits, number_array p.method.world p.heap.objects kind b v h f.fits)

      one : (b : Bool) → (b || false) ≡ true → b ≡ true
      one true e = refl
      one false e = e

      of_kind : (kind : NumberElement) → list_any (item_flows p.method.world x) (number_arrays kind) ≡ true
          → (c : FieldTypeOf (List ℕ)) × IsReferenceTo p.method.world p.heap.objects (types.Array c) v
          × IsArray p.heap.objects (IsNumbers kind) v
      of_kind numbers.Int e = of_base numbers.Int bases.Int refl (one _ e)
      of_kind numbers.Long e = of_base numbers.Long bases.Long refl (one _ e)
      of_kind numbers.Char e = of_base numbers.Char bases.Char refl (one _ e)
      of_kind numbers.Short e = of_base numbers.Short bases.Short refl (one _ e)
      of_kind numbers.ByteOrBoolean e = by_part (or_cases (item_flows p.method.world x (array_of_base bases.Byte)) _ e)
        where
          by_part : (item_flows p.method.world x (array_of_base bases.Byte) ≡ true) ⊎
              ((item_flows p.method.world x (array_of_base bases.Boolean) || false) ≡ true)
              → (c : FieldTypeOf (List ℕ)) × IsReferenceTo p.method.world p.heap.objects (types.Array c) v
              × IsArray p.heap.objects (IsNumbers numbers.ByteOrBoolean) v
          by_part (inl k) = of_base numbers.ByteOrBoolean bases.Byte refl k
          by_part (inr k) = of_base numbers.ByteOrBoolean bases.Boolean refl (one _ k)

      by_test : (b : Bool) → (b ≡ true → (c : FieldTypeOf (List ℕ)) × IsReferenceTo p.method.world p.heap.objects (types.Array c) v
          × IsArray p.heap.objects (IsNumbers kind) v)
          → Agrees (IsTakenArray (IsNumbers kind)) (if b then Some S else None) (taken_reference p.heap.objects (v ∷ s))
      by_test false k = nothing
      by_test true k = let r = k refl in array_taken (IsNumbers kind) r.0 S v s r.1 r.2 hs.1
  numbers_taken kind (x ∷ S) [] hs = absurd hs
