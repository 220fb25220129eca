-- The order of types with interfaces erased (JVMS 4.10.1.2).
use Rattle.std.proofs.Common.{◌≡◌, ℕ, zero, suc, true, false, List, refl, sym, ◌∙◌, subst}
use Rattle.std.specs.Prelude.{IsTrue}
use Rattle.std.proofs.lemmas.Bool.{eqb-true, eq-eqb}
use Rattle.jv_text.specs.declared.descriptor.Base.{Base}
use Rattle.jv_text.specs.declared.descriptor.Base.TheVariants as bases
use Rattle.jv_text.specs.declared.descriptor.Element.{Element}
use Rattle.jv_text.specs.declared.descriptor.Element.TheVariants as elements
use Rattle.jv_text.specs.declared.descriptor.FieldTypeOf.{FieldTypeOf}
use Rattle.jv_text.specs.Descriptor.{base_letter}
use Rattle.jv_stackmap.specs.declared.verification.VerificationTypeOf.TheVariants as types
use Rattle.jv_stackmap.specs.Types.{FrameType, primitive_type, value_type_by, value_type}
use Rattle.jv_meaning_world.specs.World.{World}
use Rattle.jv_meaning_world.specs.Flow.{same_base, component_flows, flows}
use Rattle.jv_meaning_world.specs.Laws.Order.{object_name, erased_element, erased, IsBelow, is_usable_reference, has_loadable_element, is_loadable_type, IsRooted}
use Rattle.jv_meaning_world.proofs.OrderNames.{flows_to_itself, loadable_to_object, erased_flows_on, erased_kept, arrays_erased, erased_arrays_on, arrays_kept}

clash : false ≡ true → ⊥
clash e = cc

same_base_on : (a b c : Base) → IsTrue (same_base a b) → IsTrue (same_base b c) → IsTrue (same_base a c)
same_base_on a b c h k =
    eq-eqb (base_letter a) (base_letter c) (eqb-true (base_letter a) (base_letter b) h ∙ eqb-true (base_letter b) (base_letter c) k)

-- ---- to flow is reflexive, in every world

components_to_themselves : (world : World) (n : ℕ) (e : Element (List ℕ)) → IsTrue (component_flows world n e n e)
components_to_themselves world zero (elements.Base b) = eq-eqb (base_letter b) (base_letter b) refl
components_to_themselves world zero (elements.Class x) = flows_to_itself world x
components_to_themselves world (suc n) e = components_to_themselves world n e

pub flows_is_reflexive : (world : World) (t : FrameType) → IsTrue (flows world t t)
flows_is_reflexive world types.Top = refl
flows_is_reflexive world types.Int = refl
flows_is_reflexive world types.Long = refl
flows_is_reflexive world types.Null = refl
flows_is_reflexive world types.UninitializedThis = refl
flows_is_reflexive world (types.Class x) = flows_to_itself world x
flows_is_reflexive world (types.Array a) = components_to_themselves world a.dimensions a.element
flows_is_reflexive world (types.Uninitialized o) = eq-eqb o o refl

-- and so is the order
pub below_is_reflexive : (world : World) (t : FrameType) → IsBelow world t t
below_is_reflexive world t = flows_is_reflexive world (erased world t)

-- ---- what is below a class, an array or null, in every world

pub below_is_reference : (world : World) (t u : FrameType) → IsTrue (is_usable_reference u) → IsBelow world t u → IsTrue (is_usable_reference t)
below_is_reference world types.Null u h k = refl
below_is_reference world (types.Class x) u h k = refl
below_is_reference world (types.Array a) u h k = refl
below_is_reference world types.Top types.Null h k = absurd (clash k)
below_is_reference world types.Top (types.Class y) h k = absurd (clash k)
below_is_reference world types.Top (types.Array b) h k = absurd (clash k)
below_is_reference world types.Int types.Null h k = absurd (clash k)
below_is_reference world types.Int (types.Class y) h k = absurd (clash k)
below_is_reference world types.Int (types.Array b) h k = absurd (clash k)
below_is_reference world types.Long types.Null h k = absurd (clash k)
below_is_reference world types.Long (types.Class y) h k = absurd (clash k)
below_is_reference world types.Long (types.Array b) h k = absurd (clash k)
below_is_reference world types.UninitializedThis types.Null h k = absurd (clash k)
below_is_reference world types.UninitializedThis (types.Class y) h k = absurd (clash k)
below_is_reference world types.UninitializedThis (types.Array b) h k = absurd (clash k)
below_is_reference world (types.Uninitialized o) types.Null h k = absurd (clash k)
below_is_reference world (types.Uninitialized o) (types.Class y) h k = absurd (clash k)
below_is_reference world (types.Uninitialized o) (types.Array b) h k = absurd (clash k)
below_is_reference world t _ h k = absurd (clash h)

-- ---- components of arrays, in every world

same_primitive : (world : World) (a b : Base) → IsTrue (same_base a b) → IsTrue (flows world (erased world (primitive_type a)) (erased world (primitive_type b)))
same_primitive world bases.Byte bases.Byte h = refl
same_primitive world bases.Char bases.Char h = refl
same_primitive world bases.Double bases.Double h = refl
same_primitive world bases.Float bases.Float h = refl
same_primitive world bases.Int bases.Int h = refl
same_primitive world bases.Long bases.Long h = refl
same_primitive world bases.Short bases.Short h = refl
same_primitive world bases.Boolean bases.Boolean h = refl
same_primitive world _ _ h = cc

values_by : (world : World) (m n : ℕ) (e f : Element (List ℕ)) → IsTrue (component_flows world m (erased_element world e) n (erased_element world f))
    → IsBelow world (value_type_by m e) (value_type_by n f)
values_by world zero zero (elements.Base a) (elements.Base b) h = same_primitive world a b h
values_by world zero zero (elements.Class x) (elements.Class y) h = h
values_by world zero zero (elements.Base a) (elements.Class y) h = absurd (clash h)
values_by world zero zero (elements.Class x) (elements.Base b) h = absurd (clash h)
values_by world zero (suc n) e f h = absurd (clash h)
values_by world (suc m) zero e (elements.Base b) h = absurd (clash h)
values_by world (suc m) zero e (elements.Class y) h = h
values_by world (suc m) (suc n) e f h = h

-- where an array is below another, so is what it contains
pub components_are_below : (world : World) (a b : FieldTypeOf (List ℕ)) → IsBelow world (types.Array a) (types.Array b) → IsBelow world (value_type a) (value_type b)
components_are_below world a b h = values_by world a.dimensions b.dimensions a.element b.element h

module _ (world : World) (rooted : IsRooted world) where
  -- ---- the order is transitive

  abbrev bare : Element (List ℕ) → Element (List ℕ)
  bare e = erased_element world e

  elements_on : (g e f : Element (List ℕ)) → IsTrue (component_flows world zero (bare g) zero (bare e)) →
      IsTrue (component_flows world zero (bare e) zero (bare f)) → IsTrue (component_flows world zero (bare g) zero (bare f))
  elements_on (elements.Base a) (elements.Base b) (elements.Base c) h k = same_base_on a b c h k
  elements_on (elements.Class x) (elements.Class y) (elements.Class z) h k = erased_flows_on world rooted x y z h k
  elements_on (elements.Base a) (elements.Class y) f h k = absurd (clash h)
  elements_on (elements.Class x) (elements.Base b) f h k = absurd (clash h)
  elements_on (elements.Base a) (elements.Base b) (elements.Class z) h k = absurd (clash k)
  elements_on (elements.Class x) (elements.Class y) (elements.Base c) h k = absurd (clash k)

  array_on : (m : ℕ) (g e f : Element (List ℕ)) → IsTrue (component_flows world (suc m) (bare g) zero (bare e)) →
      IsTrue (component_flows world zero (bare e) zero (bare f)) → IsTrue (component_flows world (suc m) (bare g) zero (bare f))
  array_on m g (elements.Class y) (elements.Class z) h k = erased_arrays_on world rooted y z h k
  array_on m g (elements.Base b) f h k = absurd (clash h)
  array_on m g (elements.Class y) (elements.Base c) h k = absurd (clash k)

  to_element : (k m : ℕ) (g e f : Element (List ℕ)) → IsTrue (component_flows world (suc m) e zero f) → IsTrue (component_flows world (suc k) g zero f)
  to_element k m g e (elements.Class z) h = h
  to_element k m g e (elements.Base c) h = absurd (clash h)

  components_on : (k m n : ℕ) (g e f : Element (List ℕ)) → IsTrue (component_flows world k (bare g) m (bare e)) →
      IsTrue (component_flows world m (bare e) n (bare f)) → IsTrue (component_flows world k (bare g) n (bare f))
  components_on zero zero zero g e f h i = elements_on g e f h i
  components_on zero zero (suc n) g e f h i = absurd (clash i)
  components_on zero (suc m) n g e f h i = absurd (clash h)
  components_on (suc k) zero zero g e f h i = array_on k g e f h i
  components_on (suc k) zero (suc n) g e f h i = absurd (clash i)
  components_on (suc k) (suc m) zero g e f h i = to_element k m (bare g) (bare e) (bare f) i
  components_on (suc k) (suc m) (suc n) g e f h i = components_on k m n g e f h i

  above_top : (t v : FrameType) → IsTrue (flows world types.Top v) → IsTrue (flows world t v)
  above_top t types.Top k = refl
  above_top t types.Int k = absurd (clash k)
  above_top t types.Long k = absurd (clash k)
  above_top t types.Null k = absurd (clash k)
  above_top t types.UninitializedThis k = absurd (clash k)
  above_top t (types.Class z) k = absurd (clash k)
  above_top t (types.Array c) k = absurd (clash k)
  above_top t (types.Uninitialized q) k = absurd (clash k)

  pub below_is_transitive : (t u v : FrameType) → IsBelow world t u → IsBelow world u v → IsBelow world t v
  below_is_transitive t types.Top v h k = above_top (erased world t) (erased world v) k
  below_is_transitive types.Int types.Int v h k = k
  below_is_transitive types.Long types.Long v h k = k
  below_is_transitive types.Null types.Null v h k = k
  below_is_transitive types.UninitializedThis types.UninitializedThis v h k = k
  below_is_transitive (types.Uninitialized o) (types.Uninitialized p) v h k =
      subst (λ q. IsTrue (flows world (types.Uninitialized q) (erased world v))) (sym (eqb-true o p h)) k
  below_is_transitive types.Null (types.Class y) types.Top h k = refl
  below_is_transitive types.Null (types.Class y) (types.Class z) h k = refl
  below_is_transitive types.Null (types.Array b) types.Top h k = refl
  below_is_transitive types.Null (types.Array b) (types.Class z) h k = refl
  below_is_transitive types.Null (types.Array b) (types.Array c) h k = refl
  below_is_transitive (types.Class x) (types.Class y) types.Top h k = refl
  below_is_transitive (types.Class x) (types.Class y) (types.Class z) h k = erased_flows_on world rooted x y z h k
  below_is_transitive (types.Array a) (types.Class y) types.Top h k = refl
  below_is_transitive (types.Array a) (types.Class y) (types.Class z) h k = erased_arrays_on world rooted y z h k
  below_is_transitive (types.Array a) (types.Array b) types.Top h k = refl
  below_is_transitive (types.Array a) (types.Array b) (types.Class z) h k = k
  below_is_transitive (types.Array a) (types.Array b) (types.Array c) h k = components_on a.dimensions b.dimensions c.dimensions a.element b.element c.element h k
  below_is_transitive _ _ _ h k = cc

  -- ---- what flows is kept

  elements_kept : (g e f : Element (List ℕ)) → IsTrue (has_loadable_element world g) → IsTrue (component_flows world zero (bare g) zero (bare e)) →
      IsTrue (component_flows world zero e zero f) → IsTrue (component_flows world zero (bare g) zero (bare f))
  elements_kept (elements.Base a) (elements.Base b) (elements.Base c) there h k = same_base_on a b c h k
  elements_kept (elements.Class x) (elements.Class y) (elements.Class z) there h k = erased_kept world rooted x y z there h k
  elements_kept (elements.Base a) (elements.Class y) f there h k = absurd (clash h)
  elements_kept (elements.Class x) (elements.Base b) f there h k = absurd (clash h)
  elements_kept (elements.Base a) (elements.Base b) (elements.Class z) there h k = absurd (clash k)
  elements_kept (elements.Class x) (elements.Class y) (elements.Base c) there h k = absurd (clash k)

  array_kept : (m : ℕ) (g e f : Element (List ℕ)) → IsTrue (component_flows world (suc m) (bare g) zero (bare e)) →
      IsTrue (component_flows world zero e zero f) → IsTrue (component_flows world (suc m) (bare g) zero (bare f))
  array_kept m g (elements.Class y) (elements.Class z) h k = arrays_kept world rooted y z h k
  array_kept m g (elements.Base b) f h k = absurd (clash h)
  array_kept m g (elements.Class y) (elements.Base c) h k = absurd (clash k)

  to_element_kept : (k m : ℕ) (g e f : Element (List ℕ)) → IsTrue (component_flows world (suc m) e zero f) → IsTrue (component_flows world (suc k) g zero (bare f))
  to_element_kept k m g e (elements.Class z) h = arrays_erased world rooted z h
  to_element_kept k m g e (elements.Base c) h = absurd (clash h)

  components_kept : (k m n : ℕ) (g e f : Element (List ℕ)) → IsTrue (has_loadable_element world g) →
      IsTrue (component_flows world k (bare g) m (bare e)) → IsTrue (component_flows world m e n f) →
      IsTrue (component_flows world k (bare g) n (bare f))
  components_kept zero zero zero g e f there h i = elements_kept g e f there h i
  components_kept zero zero (suc n) g e f there h i = absurd (clash i)
  components_kept zero (suc m) n g e f there h i = absurd (clash h)
  components_kept (suc k) zero zero g e f there h i = array_kept k g e f h i
  components_kept (suc k) zero (suc n) g e f there h i = absurd (clash i)
  components_kept (suc k) (suc m) zero g e f there h i = to_element_kept k m (bare g) e f i
  components_kept (suc k) (suc m) (suc n) g e f there h i = components_kept k m n g e f there h i

  above_top_kept : (t v : FrameType) → IsTrue (flows world types.Top v) → IsTrue (flows world t (erased world v))
  above_top_kept t types.Top k = refl
  above_top_kept t types.Int k = absurd (clash k)
  above_top_kept t types.Long k = absurd (clash k)
  above_top_kept t types.Null k = absurd (clash k)
  above_top_kept t types.UninitializedThis k = absurd (clash k)
  above_top_kept t (types.Class z) k = absurd (clash k)
  above_top_kept t (types.Array c) k = absurd (clash k)
  above_top_kept t (types.Uninitialized q) k = absurd (clash k)

  -- A type with a loadable class that is below another is below each that the other flows to, whether that one has a
  -- loadable class or not: so a value that fits a type fits each that the type flows to.
  pub below_is_kept : (s t u : FrameType) → IsTrue (is_loadable_type world s) → IsBelow world s t → IsTrue (flows world t u) → IsBelow world s u
  below_is_kept s types.Top u there h k = above_top_kept (erased world s) u k
  below_is_kept types.Int types.Int types.Top there h k = refl
  below_is_kept types.Int types.Int types.Int there h k = refl
  below_is_kept types.Long types.Long types.Top there h k = refl
  below_is_kept types.Long types.Long types.Long there h k = refl
  below_is_kept types.Null types.Null types.Top there h k = refl
  below_is_kept types.Null types.Null types.Null there h k = refl
  below_is_kept types.Null types.Null (types.Class z) there h k = refl
  below_is_kept types.Null types.Null (types.Array c) there h k = refl
  below_is_kept types.UninitializedThis types.UninitializedThis types.Top there h k = refl
  below_is_kept types.UninitializedThis types.UninitializedThis types.UninitializedThis there h k = refl
  below_is_kept (types.Uninitialized o) (types.Uninitialized p) types.Top there h k = refl
  below_is_kept (types.Uninitialized o) (types.Uninitialized p) (types.Uninitialized q) there h k = eq-eqb o q (eqb-true o p h ∙ eqb-true p q k)
  below_is_kept types.Null (types.Class y) types.Top there h k = refl
  below_is_kept types.Null (types.Class y) (types.Class z) there h k = refl
  below_is_kept types.Null (types.Array b) types.Top there h k = refl
  below_is_kept types.Null (types.Array b) (types.Class z) there h k = refl
  below_is_kept types.Null (types.Array b) (types.Array c) there h k = refl
  below_is_kept (types.Class x) (types.Class y) types.Top there h k = refl
  below_is_kept (types.Class x) (types.Class y) (types.Class z) there h k = erased_kept world rooted x y z there h k
  below_is_kept (types.Array a) (types.Class y) types.Top there h k = refl
  below_is_kept (types.Array a) (types.Class y) (types.Class z) there h k = arrays_kept world rooted y z h k
  below_is_kept (types.Array a) (types.Array b) types.Top there h k = refl
  below_is_kept (types.Array a) (types.Array b) (types.Class z) there h k = arrays_erased world rooted z k
  below_is_kept (types.Array a) (types.Array b) (types.Array c) there h k = components_kept a.dimensions b.dimensions c.dimensions a.element b.element c.element there h k
  below_is_kept _ _ _ there h k = cc

  -- What flows is below. The class, or that of the elements, is to be loadable: one that is not there flows to each loadable
  -- interface, and is not below it (row `missing_below_interface`).
  pub flows_is_below : (t u : FrameType) → IsTrue (is_loadable_type world t) → IsTrue (flows world t u) → IsBelow world t u
  flows_is_below t u there k = below_is_kept t t u there (below_is_reflexive world t) k

  -- ---- java/lang/Object at the top

  -- Each class, array and null flows to java/lang/Object, interfaces included. A class is to be loadable: one that is not
  -- there does not (row `missing_to_object`).
  pub flows_to_object : (t : FrameType) → IsTrue (is_usable_reference t) → IsTrue (is_loadable_type world t) → IsTrue (flows world t (types.Class object_name))
  flows_to_object types.Null r there = refl
  flows_to_object (types.Class x) r there = loadable_to_object world rooted x there
  flows_to_object (types.Array a) r there = refl
  flows_to_object types.Top r there = absurd (clash r)
  flows_to_object types.Int r there = absurd (clash r)
  flows_to_object types.Long r there = absurd (clash r)
  flows_to_object types.UninitializedThis r there = absurd (clash r)
  flows_to_object (types.Uninitialized o) r there = absurd (clash r)

  pub below_object : (t : FrameType) → IsTrue (is_usable_reference t) → IsTrue (is_loadable_type world t) → IsBelow world t (types.Class object_name)
  below_object t r there = flows_is_below t (types.Class object_name) there (flows_to_object t r there)
