-- Memory stays over an instruction on arrays.
use Rattle.std.proofs.Common.{◌≡◌, ℕ, suc, ◌+◌, ◌*◌, ℤ, pos, negsuc, Bool, true, false, List, [], ◌∷◌, ◌++◌, map, length, replicate, Option, Some, None, Ok, refl, sym, subst, ap, ◌∙◌, arith, slice_get, slice_set, sum_by, length-set, suc-mul}
use Rattle.std.specs.List.{flat_map, list_any}
use Rattle.std.proofs.lemmas.List.{length-map, length-replicate, map-append}
use Rattle.std.proofs.lemmas.List.Concat.{flat_map-cons}
use Rattle.std.proofs.lemmas.List.FromFn.{length-map-range_with_len}
use Rattle.std.proofs.lemmas.List.Sums.{sum_by-append}
use Rattle.jv_text.specs.declared.descriptor.FieldTypeOf.{FieldTypeOf}
use Rattle.jv_stackmap.specs.Types.{component}
use Rattle.jv_code.specs.declared.kinds.NumberElement.{NumberElement}
use Rattle.jv_meaning_world.specs.World.{World}
use Rattle.jv_meaning_machine.specs.Faults.{OrFault, tested, ◌>>=◌}
use Rattle.jv_meaning_machine.specs.Faults.Fault.{ReferenceFault, TagFault}
use Rattle.jv_meaning_machine.specs.Values.{Value, default_of_type, narrowed}
use Rattle.jv_meaning_machine.specs.Values.Value.{Int, Long, Null, Reference, Half, Unset}
use Rattle.jv_meaning_machine.specs.Objects.{Object}
use Rattle.jv_meaning_machine.specs.Objects.Object.{InstanceOf, ArrayWith}
use Rattle.jv_meaning_machine.specs.State.{Memory}
use Rattle.jv_meaning_machine.specs.Costs.{array_cells, arrays_cells, paid, next_object}
use Rattle.jv_meaning_machine.specs.Operands.{object_at}
use Rattle.jv_meaning_machine.specs.Effects.{Context, world_at}
use Rattle.jv_meaning_machine.specs.Arrays.{Components, array_in, at_place, place_for, holds_numbers, holds_references, load_at, load_from, load_component, with_component_stored, store_at, store_number, store_component, can_stand, store_reference_if, store_reference_at, store_reference, length_of, array_length, arrays_in, inner_numbers, reference_to, arrays_made, push_arrays, make_array, new_reference_array, make_arrays_if, make_arrays, new_multi_array, is_negative_count, count_of}
use Rattle.jv_meaning_machine.specs.Laws.Shapes.{Shape, shape_of, AreOfClasses, shape_cells}
use Rattle.jv_meaning_machine.specs.Laws.Shapes.Shape.{ArrayShape}
use Rattle.jv_meaning_machine.specs.Laws.Kept.{Keeps}
use Rattle.jv_meaning_machine.proofs.Leading.{failing, bound, bound_tested, bound_gave}
use Rattle.jv_meaning_machine.proofs.KeptMemory.{keeps_object, keeps_joined, by_payment}
use Rattle.jv_meaning_machine.proofs.KeptOutcomes.{Stored, made_stored, same_stored, Kept, made_kept, same_kept, unless_kept, object_stands, cost_of_one}

-- ---- what is known of an array

array_is : (object : Object) (array : Components) → array_in object ≡ Ok array → object ≡ ArrayWith array.0 array.1
array_is (InstanceOf instance) array e = absurd cc
array_is (ArrayWith components values) array e = same (components, values) array (Ok (components, values)) refl e
  where
    same : (a b : Components) (o : OrFault Components) → o ≡ Ok a → o ≡ Ok b → ArrayWith a.0 a.1 ≡ ArrayWith b.0 b.1
    same a b o e f = let known : a ≡ b = cc in ap (λ (c : Components). ArrayWith c.0 c.1) known

pub array_stands :
    (objects : List Object) (id : ℕ) (array : Components) → (object_at objects id >>= array_in) ≡ Ok array
    → slice_get objects id ≡ Some (ArrayWith array.0 array.1)
array_stands objects id array e =
    let parts = bound_gave (object_at objects id) array_in array e in
    object_stands objects id parts.0 parts.1 ∙ ap (λ (o : Object). Some o) (array_is parts.0 array parts.2)

-- ---- loads

load_at_kept : (c : Context) (below : List Value) (o : Option Value) → Kept c (load_at c below o)
load_at_kept c below None = same_kept c _ refl
load_at_kept c below (Some value) = same_kept c _ refl

load_from_kept :
    (c :
    Context) (test : FieldTypeOf (List ℕ)
    → Bool) (index : ℤ) (value : Value) (below : List Value) → Kept c (load_from c test index value below)
load_from_kept c test index (Int number) below = failing TagFault
load_from_kept c test index (Long number) below = failing TagFault
load_from_kept c test index Null below = same_kept c _ refl
load_from_kept c test index (Reference id) below = search (bound, bound_tested, load_at_kept)
load_from_kept c test index Half below = failing TagFault
load_from_kept c test index Unset below = failing TagFault

pub load_component_kept : (c : Context) (test : FieldTypeOf (List ℕ) → Bool) → Kept c (load_component c test)
load_component_kept c test = search (bound, load_from_kept)

-- ---- stores

keeps_component :
    {world : World} (memory : Memory) (id : ℕ) (array : Components) (place : ℕ) (value : Value)
    → slice_get memory.objects id ≡ Some (ArrayWith array.0 array.1)
    → Keeps world memory (with_component_stored id array place value memory)
keeps_component memory id array place value e =
    keeps_object id (ArrayWith array.0 array.1) (ArrayWith array.0 (slice_set array.1 place (narrowed array.0 value))) memory e
    (ap (λ (n : ℕ). ArrayShape array.0 n) (length-set array.1 place (narrowed array.0 value))) (λ constructed. refl)

abbrev Stands : Context → ℕ → Components → Type 0
Stands c id array = slice_get c.memory.objects id ≡ Some (ArrayWith array.0 array.1)

store_at_stored :
    (c : Context) (id : ℕ) (array : Components) (index : ℤ) (value : Value) (below : List Value) (o : Option Value) → Stands c id array
    → Stored c (store_at c id array index value below o)
store_at_stored c id array index value below None e = same_stored c _ refl
store_at_stored c id array index value below (Some old) e =
    made_stored c _ _ refl (keeps_component c.memory id array (place_for index) value e)

store_number_stored :
    (c : Context) (kind : NumberElement) (index : ℤ) (value under : Value) (below : List Value)
    → Stored c (store_number c kind index value under below)
store_number_stored c kind index value (Int number) below = failing TagFault
store_number_stored c kind index value (Long number) below = failing TagFault
store_number_stored c kind index value Null below = same_stored c _ refl
store_number_stored c kind index value (Reference id) below =
    bound (object_at c.memory.objects id >>= array_in) _ (λ array e. at_array array (array_stands c.memory.objects id array e))
  where
    at_array :
        (array : Components) → Stands c id array
        → Stored c
        (tested ReferenceFault (holds_numbers kind array.0) array >>= λ array. store_at c id array index value below (at_place index array.1))
    at_array array e =
        let h : Stored c (store_at c id array index value below (at_place index array.1)) =
        store_at_stored c id array index value below (at_place index array.1) e in
        search (bound_tested, h)
store_number_stored c kind index value Half below = failing TagFault
store_number_stored c kind index value Unset below = failing TagFault

pub store_component_stored : (c : Context) (kind : NumberElement) → Stored c (store_component c kind)
store_component_stored c kind = search (bound, store_number_stored)

store_if_stored :
    (c : Context) (id : ℕ) (array : Components) (index : ℤ) (value : Value) (below : List Value) (test : Bool) → Stands c id array
    → Stored c (store_reference_if c id array index value below test)
store_if_stored c id array index value below true e = made_stored c _ _ refl (keeps_component c.memory id array (place_for index) value e)
store_if_stored c id array index value below false e = same_stored c _ refl

store_reference_at_stored :
    (c : Context) (id : ℕ) (array : Components) (index : ℤ) (value : Value) (below : List Value) (o : Option Value) → Stands c id array
    → Stored c (store_reference_at c id array index value below o)
store_reference_at_stored c id array index value below None e = same_stored c _ refl
store_reference_at_stored c id array index value below (Some old) e =
    bound (can_stand c array.0 value) (store_reference_if c id array index value below)
    (λ test f. store_if_stored c id array index value below test e)

pub store_reference_stored :
    (c : Context) (under : Value) (index : ℤ) (value : Value) (below : List Value) → Stored c (store_reference c under index value below)
store_reference_stored c (Int number) index value below = failing TagFault
store_reference_stored c (Long number) index value below = failing TagFault
store_reference_stored c Null index value below = same_stored c _ refl
store_reference_stored c (Reference id) index value below =
    bound (object_at c.memory.objects id >>= array_in) _ (λ array e. at_array array (array_stands c.memory.objects id array e))
  where
    at_array :
        (array : Components) → Stands c id array
        → Stored c
        (tested ReferenceFault (holds_references array.0) array >>= λ array. store_reference_at c id array index value below (at_place index array.1))
    at_array array e =
        let h : Stored c (store_reference_at c id array index value below (at_place index array.1)) =
        store_reference_at_stored c id array index value below (at_place index array.1) e in
        search (bound_tested, h)
store_reference_stored c Half index value below = failing TagFault
store_reference_stored c Unset index value below = failing TagFault

-- ---- lengths

length_of_kept : (c : Context) (value : Value) (below : List Value) → Kept c (length_of c value below)
length_of_kept c (Int number) below = failing TagFault
length_of_kept c (Long number) below = failing TagFault
length_of_kept c Null below = same_kept c _ refl
length_of_kept c (Reference id) below = search (bound, same_kept)
length_of_kept c Half below = failing TagFault
length_of_kept c Unset below = failing TagFault

pub array_length_kept : (c : Context) → Kept c (array_length c)
array_length_kept c = search (bound, length_of_kept)

-- ---- what new arrays cost

abbrev cost : List Object → ℕ
cost objects = sum_by shape_cells (map shape_of objects)

cost_of_both : (a b : List Object) → cost (a ++ b) ≡ cost a + cost b
cost_of_both a b =
    ap (λ (l : List Shape). sum_by shape_cells l) (map-append shape_of a b) ∙ sum_by-append shape_cells (map shape_of a) (map shape_of b)

-- what each number makes costs the same
cost_of_each :
    (made : ℕ → List Object) (each : ℕ) → ((n : ℕ) → cost (made n) ≡ each) → (numbers : List ℕ)
    → cost (flat_map made numbers) ≡ length numbers * each
cost_of_each made each h [] = omega arith
cost_of_each made each h (n ∷ more) =
    let both : cost (flat_map made (n ∷ more)) ≡ cost (made n) + cost (flat_map made more) =
    ap (λ (l : List Object). cost l) (flat_map-cons made n more) ∙ cost_of_both (made n) (flat_map made more) in
    let rest : cost (flat_map made more) ≡ length more * each = cost_of_each made each h more in
    let here : cost (made n) ≡ each = h n in
    let product : suc (length more) * each ≡ length more * each + each = suc-mul (length more) each in
    omega arith

cost_of_array :
    (components : FieldTypeOf (List ℕ)) (values : List Value)
    → cost (ArrayWith components values ∷ []) ≡ array_cells components (length values)
cost_of_array components values = cost_of_one (ArrayWith components values)

inner_count : (count : ℕ) (more : List ℕ) (number : ℕ) → length (inner_numbers count more number) ≡ count
inner_count count more number = length-map-range_with_len (λ k. number + 1 + k * arrays_in more) 0 count

pub cost_of_arrays :
    (components :
    FieldTypeOf (List ℕ)) (counts : List ℕ) (number : ℕ) → cost (arrays_made components counts number) ≡ arrays_cells components counts
cost_of_arrays components [] number = refl
cost_of_arrays components (count ∷ []) number =
    cost_of_array components (replicate count (default_of_type components))
    ∙ ap (λ (n : ℕ). array_cells components n) (length-replicate count (default_of_type components))
cost_of_arrays components (count ∷ next ∷ more) number =
    let inner : List ℕ = inner_numbers count (next ∷ more) number in
    let made : ℕ → List Object = λ n. arrays_made (component components) (next ∷ more) n in
    let outer : Object = ArrayWith components (map reference_to (inner_numbers count (next ∷ more) number)) in
    let both : cost (outer ∷ flat_map made inner) ≡ cost (outer ∷ []) + cost (flat_map made inner) =
    cost_of_both (outer ∷ []) (flat_map made inner) in
    let first : cost (outer ∷ []) ≡ array_cells components count =
    cost_of_array components (map reference_to inner)
    ∙ ap (λ (n : ℕ). array_cells components n) (length-map inner reference_to ∙ inner_count count (next ∷ more) number) in
    let rest : cost (flat_map made inner) ≡ count * arrays_cells (component components) (next ∷ more) =
    cost_of_each made (arrays_cells (component components) (next ∷ more)) (cost_of_arrays (component components) (next ∷ more)) inner
    ∙ ap (λ (n : ℕ). n * arrays_cells (component components) (next ∷ more)) (inner_count count (next ∷ more) number) in
    both ∙ ap (λ (n : ℕ). n + cost (flat_map made inner)) first ∙ ap (λ (n : ℕ). array_cells components count + n) rest

-- ---- new arrays, which are no objects of a class

of_classes_over :
    (world : World) (a b : List Object) → AreOfClasses world (map shape_of a) → AreOfClasses world (map shape_of b)
    → AreOfClasses world (map shape_of (a ++ b))
of_classes_over world [] b h k = k
of_classes_over world (object ∷ a) b h k = (h.0, of_classes_over world a b h.1 k)

each_of_classes :
    (world : World) (made : ℕ → List Object) → ((n : ℕ) → AreOfClasses world (map shape_of (made n))) → (numbers : List ℕ)
    → AreOfClasses world (map shape_of (flat_map made numbers))
each_of_classes world made h [] = tt
each_of_classes world made h (n ∷ more) =
    subst (λ (l : List Object). AreOfClasses world (map shape_of l)) (sym (flat_map-cons made n more))
    (of_classes_over world (made n) (flat_map made more) (h n) (each_of_classes world made h more))

arrays_of_classes :
    (world : World) (components : FieldTypeOf (List ℕ)) (counts : List ℕ) (number : ℕ)
    → AreOfClasses world (map shape_of (arrays_made components counts number))
arrays_of_classes world components [] number = tt
arrays_of_classes world components (count ∷ []) number = (tt, tt)
arrays_of_classes world components (count ∷ next ∷ more) number = (
  tt,
  each_of_classes world (λ n. arrays_made (component components) (next ∷ more) n)
      (λ n. arrays_of_classes world (component components) (next ∷ more) n) (inner_numbers count (next ∷ more) number),
)

push_arrays_kept :
    (c : Context) (components : FieldTypeOf (List ℕ)) (counts : List ℕ) (below : List Value)
    → Kept c (push_arrays c components counts below (paid (arrays_cells components counts) c.memory))
push_arrays_kept c components counts below =
    by_payment (λ (o : Option Memory). Kept c (push_arrays c components counts below o)) (arrays_cells components counts) c.memory
    (same_kept c _ refl)
    (λ within.
    made_kept c _ _ refl
    (keeps_joined (arrays_cells components counts) (arrays_made components counts (next_object c.memory)) c.memory within
    (cost_of_arrays components counts (next_object c.memory)) (arrays_of_classes (world_at c) components counts (next_object c.memory)))
    (record { statics = refl; objects = (arrays_made components counts (next_object c.memory), refl) }))

pub make_array_kept :
    (c : Context) (components : FieldTypeOf (List ℕ)) (count : ℤ) (below : List Value) → Kept c (make_array c components count below)
make_array_kept c components (pos count) below = push_arrays_kept c components (count ∷ []) below
make_array_kept c components (negsuc n) below = same_kept c _ refl

pub new_reference_array_kept : (c : Context) (index : ℕ) → Kept c (new_reference_array c index)
new_reference_array_kept c index = search (bound, unless_kept, make_array_kept)

make_arrays_if_kept :
    (c : Context) (components : FieldTypeOf (List ℕ)) (counts below : List Value) (negative : Bool)
    → Kept c (make_arrays_if c components counts below negative)
make_arrays_if_kept c components counts below true = same_kept c _ refl
make_arrays_if_kept c components counts below false = push_arrays_kept c components (map count_of counts) below

make_arrays_kept :
    (c : Context) (components : FieldTypeOf (List ℕ)) (counts below : List Value) → Kept c (make_arrays c components counts below)
make_arrays_kept c components counts below = make_arrays_if_kept c components counts below (list_any is_negative_count counts)

pub new_multi_array_kept : (c : Context) (index dimensions : ℕ) → Kept c (new_multi_array c index dimensions)
new_multi_array_kept c index dimensions = search (bound, unless_kept, make_arrays_kept) depth 8
