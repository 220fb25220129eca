-- The words of a guest's objects are no more than the cells that it has paid.
use Rattle.std.proofs.Common.{◌≡◌, ℕ, zero, suc, ◌+◌, ◌*◌, ◌≤◌, Bool, true, false, ◌==◌, ◌&&◌, List, [], ◌∷◌, Some, length, map, slice_get, refl, ap, ◌∙◌, arith, length-append}
use Rattle.std.specs.Prelude.{sum_by, if◌then◌else◌}
use Rattle.std.proofs.lemmas.List.Sums.{sum_by-cons}
use Rattle.jv_store.specs.Content.{words_at}
use Rattle.jv_text.specs.declared.descriptor.Base.TheVariants as bases
use Rattle.jv_text.specs.declared.descriptor.Element.{Element}
use Rattle.jv_text.specs.declared.descriptor.Element.TheVariants as elements
use Rattle.jv_text.specs.declared.descriptor.FieldTypeOf.{FieldTypeOf}
use Rattle.jv_text.specs.Descriptor.{field_slots, is_wide}
use Rattle.jv_stackmap.specs.Types.{value_type, value_type_by, width}
use Rattle.jv_meaning_world.specs.World.{World}
use Rattle.jv_meaning_world.specs.LookUps.{DeclaredField}
use Rattle.jv_meaning_typing.specs.Layout.{instance_fields, field_words}
use Rattle.jv_meaning_machine.specs.Values.{Value}
use Rattle.jv_meaning_machine.specs.Objects.{Object, Content, key_of}
use Rattle.jv_meaning_machine.specs.Objects.Object.{InstanceOf, ArrayWith}
use Rattle.jv_meaning_machine.specs.State.{Memory}
use Rattle.jv_meaning_machine.specs.Laws.Shapes.{keys_in, shape_of, field_cells, shape_cells, used_cells}
use Rattle.jv_interp_heap.specs.ObjectsInBlocks.{Blocks, AreFields, AreComponents, ObjectStands, ObjectsStand}
use Rattle.jv_interp_heap.proofs.Fields.{own_length}
use Rattle.jv_interp_held.specs.Growing.{words_under}

-- ---- one object

fields_words :
    (addresses : List ℕ) (fields : List DeclaredField) (content : Content) (words : List ℕ) → AreFields addresses fields content words
    → length words ≡ sum_by field_cells (keys_in content)
fields_words addresses [] [] words h = ap length h
fields_words addresses [] (entry ∷ content) words h = absurd h
fields_words addresses (d ∷ fields) [] words h = absurd h
fields_words addresses (d ∷ fields) (entry ∷ content) words h =
    let all = ap length h.2 in
    let joined = length-append h.0 h.1 in
    let own = own_length addresses entry.1 h.0 h.5 in
    let wide = h.4 in
    let key = ap field_cells h.3 in
    let cells : field_cells (key_of d) ≡ field_words d = refl in
    let sum = sum_by-cons field_cells entry.0 (keys_in content) in
    let rest = fields_words addresses fields content h.1 h.6 in
    omega (arith, all, joined, own, wide, key, cells, sum, rest)

components_words :
    (addresses : List ℕ) (type : FieldTypeOf (List ℕ)) (values : List Value) (words : List ℕ) → AreComponents addresses type values words
    → length words ≡ length values * width (value_type type)
components_words addresses type [] words h = let none = ap length h in omega (arith, none)
components_words addresses type (value ∷ more) words h =
    let all = ap length h.2 in
    let joined = length-append h.0 h.1 in
    let own = own_length addresses value h.0 h.4 in
    let wide = h.3 in
    let rest = components_words addresses type more h.1 h.5 in
    let product : suc (length more) * width (value_type type) ≡ width (value_type type) + length more * width (value_type type) = omega arith in
    all ∙ joined ∙ omega (arith, own, wide, rest, product)

-- a component has no more words than slots
width_by : (n : ℕ) (e : Element (List ℕ)) → width (value_type_by n e) ≤ field_slots (record { dimensions = n; element = e })
width_by (suc n) e = by_test (suc n == 0) (is_wide e)
  where
    by_test : (none wide : Bool) → 1 ≤ (if none && wide then 2 else 1)
    by_test false wide = omega arith
    by_test true false = omega arith
    by_test true true = omega arith
width_by zero (elements.Base bases.Byte) = omega arith
width_by zero (elements.Base bases.Char) = omega arith
width_by zero (elements.Base bases.Short) = omega arith
width_by zero (elements.Base bases.Boolean) = omega arith
width_by zero (elements.Base bases.Int) = omega arith
width_by zero (elements.Base bases.Long) = omega arith
width_by zero (elements.Base bases.Float) = omega arith
width_by zero (elements.Base bases.Double) = omega arith
width_by zero (elements.Class name) = omega arith

times : (n a b : ℕ) → a ≤ b → n * a ≤ n * b
times zero a b h = omega arith
times (suc n) a b h =
    let rest = times n a b h in
    let one : suc n * a ≡ a + n * a = omega arith in
    let other : suc n * b ≡ b + n * b = omega arith in
    omega (arith, rest, one, other, h)

object_words :
    (world : World) (addresses : List ℕ) (object : Object) (words : List ℕ) → ObjectStands world addresses object words
    → length words ≤ shape_cells (shape_of object)
object_words world addresses (InstanceOf instance) words h =
    let all = ap length h.words_are in
    let fields = fields_words addresses (instance_fields world h.class.l) instance.fields h.fields h.stand in
    omega (arith, all, fields)
object_words world addresses (ArrayWith components values) words h =
    let all = ap length h.words_are in
    let inside = components_words addresses components values h.inside h.stand in
    let wide = times (length values) (width (value_type components)) (field_slots components) (width_by components.dimensions components.element) in
    omega (arith, all, inside, wide)

-- ---- all of them

each_word :
    (world : World) (all addresses : List ℕ) (objects : List Object) (blocks : Blocks) → length addresses ≡ length objects
    → ((id address : ℕ) (object : Object) → slice_get addresses id ≡ Some address → slice_get objects id ≡ Some object
    → ObjectStands world all object (words_at blocks address))
    → words_under addresses blocks ≤ sum_by shape_cells (map shape_of objects)
each_word world all [] [] blocks same each = omega arith
each_word world all [] (object ∷ objects) blocks same each = absurd (omega (arith, same))
each_word world all (address ∷ addresses) [] blocks same each = absurd (omega (arith, same))
each_word world all (address ∷ addresses) (object ∷ objects) blocks same each =
    let one = object_words world all object (words_at blocks address) (each 0 address object refl refl) in
    let rest =
    each_word world all addresses objects blocks (omega (arith, same)) (λ id a o e f. each (suc id) a o e f) in
    let sum = sum_by-cons shape_cells (shape_of object) (map shape_of objects) in
    omega (arith, one, rest, sum)

pub words_paid :
    (world : World) (memory : Memory) (addresses : List ℕ) (blocks : Blocks) → ObjectsStand world memory.objects addresses blocks
    → words_under addresses blocks ≤ used_cells memory
words_paid world memory addresses blocks h = each_word world addresses addresses memory.objects blocks h.count h.each
