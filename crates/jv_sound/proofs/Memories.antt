-- Memories that grow, and exceptions that the machine makes.
use Rattle.std.proofs.Common.{◌≡◌, ◌⊎◌, inl, inr, ℕ, zero, suc, ◌-◌, Bool, true, false, List, [], ◌∷◌, ◌++◌, length, map, Option, Some, None, Ok, refl, sym, ap, subst}
use Rattle.std.specs.Prelude.{IsTrue, slice_get, nat_le, codes, if◌then◌else◌}
use Rattle.std.specs.List.{AllByRecursion}
use Rattle.jv_text.specs.declared.descriptor.Base.TheVariants as bases
use Rattle.jv_text.specs.declared.descriptor.Element.{Element}
use Rattle.jv_text.specs.declared.descriptor.Element.TheVariants as elements
use Rattle.jv_text.specs.declared.descriptor.FieldTypeOf.{FieldTypeOf}
use Rattle.jv_text.specs.Types.{field_type_of}
use Rattle.jv_stackmap.specs.Types.{value_type, value_type_by}
use Rattle.jv_meaning_world.specs.World.{Loaded, World, class_named}
use Rattle.jv_meaning_world.specs.Verdicts.{passes, is_loadable, is_interface}
use Rattle.jv_meaning_world.specs.LookUps.{DeclaredField}
use Rattle.jv_meaning_typing.specs.Layout.{instance_fields, object_cells}
use Rattle.jv_meaning_world.specs.Laws.Order.{is_loadable_type}
use Rattle.jv_meaning_typing.specs.Named.{array_with, class_components, class_type, string_type, throwable_type}
use Rattle.jv_meaning_machine.specs.Faults.Fault.{ReferenceFault}
use Rattle.jv_meaning_machine.specs.Values.{default_value, default_of_type, default_described}
use Rattle.jv_meaning_machine.specs.Objects.{FieldKey, Object, key_of, default_entry, new_instance, made_object}
use Rattle.jv_meaning_machine.specs.Objects.Object.{InstanceOf, ArrayWith}
use Rattle.jv_meaning_machine.specs.State.{Program, Memory}
use Rattle.jv_meaning_machine.specs.Costs.{paid}
use Rattle.jv_meaning_machine.specs.Effects.{out_of_memory}
use Rattle.jv_meaning_machine.specs.Initialization.{is_verified}
use Rattle.jv_meaning_machine.specs.Laws.Shapes.{keys_in}
use Rattle.jv_meaning_machine.specs.Throws.{exception_made, exception}
use Rattle.jv_meaning_machine.specs.Literals.{string_name}
use Rattle.jv_sound.specs.Values.{Fits, FitsDescribed, FitsEntry, Heap, IsObject, object_type}
use Rattle.jv_sound.specs.Memory.{AreLoadable, IsTypedObject, IsTypedMemory}
use Rattle.jv_sound.specs.Later.{IsLater}
use Rattle.jv_sound.specs.Frames.{Holds}
use Rattle.jv_sound.specs.Effects.{IsThrown}
use Rattle.jv_sound.proofs.Logic.{holds, then_holds, found_holds}
use Rattle.jv_sound.proofs.Heaps.{same, more_later, with_more, object_later, entries_later, values_later, get_behind}

-- ---- zero and null fit

module _ (world : World) (objects : List Object) where
  first_typed : (n : ℕ) (e : Element (List ℕ)) → Fits world objects (value_type_by n e) (default_value (value_type_by n e))
  first_typed zero (elements.Base bases.Byte) = tt
  first_typed zero (elements.Base bases.Char) = tt
  first_typed zero (elements.Base bases.Short) = tt
  first_typed zero (elements.Base bases.Boolean) = tt
  first_typed zero (elements.Base bases.Int) = tt
  first_typed zero (elements.Base bases.Long) = tt
  first_typed zero (elements.Base bases.Float) = tt
  first_typed zero (elements.Base bases.Double) = tt
  first_typed zero (elements.Class name) = tt
  first_typed (suc n) e = tt

  pub first_fits : (type : FieldTypeOf (List ℕ)) → Fits world objects (value_type type) (default_of_type type)
  first_fits type = first_typed type.dimensions type.element

  pub described_fits : (o : Option (FieldTypeOf (List ℕ))) → FitsDescribed world objects o (default_described o)
  described_fits None = tt
  described_fits (Some type) = first_fits type

  entries_fit : (ds : List DeclaredField) → AllByRecursion (FitsEntry world objects) (map default_entry ds)
  entries_fit [] = tt
  entries_fit (d ∷ ds) = (described_fits (field_type_of d.field.descriptor), entries_fit ds)

entry_keys : (ds : List DeclaredField) → keys_in (map default_entry ds) ≡ map key_of ds
entry_keys [] = refl
entry_keys (d ∷ ds) = ap (λ (ks : List FieldKey). key_of d ∷ ks) (entry_keys ds)

-- a class of which objects can be made
pub record IsMakeable (program : Program) (l : Loaded) : Type 0 where
  pub named : class_named program.world l.class.name ≡ Some l
  pub loadable : IsTrue (is_loadable program.world l)
  pub verified : IsTrue (is_verified program l)
  pub plain : is_interface l ≡ false

pub new_typed : (program : Program) (objects : List Object) (constructed : Bool) (l : Loaded) → IsMakeable program l
    → IsTypedObject program objects (InstanceOf (new_instance program.world constructed l))
new_typed program objects constructed l h = record {
  l = l;
  named = h.named;
  loadable = h.loadable;
  verified = h.verified;
  plain = h.plain;
  keys = entry_keys (instance_fields program.world l);
  values = entries_fit program.world objects (instance_fields program.world l);
}

-- ---- more objects

pub append_cases : (h more : List Object) (id : ℕ) (o : Object) → slice_get (h ++ more) id ≡ Some o
    → (slice_get h id ≡ Some o) ⊎ ((k : ℕ) × (slice_get more k ≡ Some o))
append_cases [] more id o e = inr (id, e)
append_cases (x ∷ h) more zero o e = inl e
append_cases (x ∷ h) more (suc id) o e = append_cases h more id o e

module _ (program : Program) where
  pub typed_later : {d : ℕ} {a b : Heap} → IsLater d a b → (o : Object) → IsTypedObject program a.objects o
      → IsTypedObject program b.objects o
  typed_later g (InstanceOf i) h = record {
    l = h.l;
    named = h.named;
    loadable = h.loadable;
    verified = h.verified;
    plain = h.plain;
    keys =
        h.keys;
    values = entries_later program.world g i.fields h.values;
  }
  typed_later g (ArrayWith components values) h = record {
    loadable = h.loadable;
    fit = values_later program.world g
        (value_type components) values h.fit;
  }

  -- objects that are of their types join
  pub more_typed :
      (a : Heap) (memory : Memory) (more : List Object) (cells : ℕ) → a.objects ≡ memory.objects → IsTypedMemory program memory
      → ((k : ℕ) (o : Object) → slice_get more k ≡ Some o → IsTypedObject program (a.objects ++ more) o)
      → IsTypedMemory program (record memory { objects = a.objects ++ more; cells = cells })
  more_typed a memory more cells is typed new =
      let g : IsLater 0 a (with_more a more) = more_later 0 a more in
      record {
        objects = record { each = λ id o e. by_place id o (append_cases a.objects more id o e) };
        statics = entries_later program.world g memory.statics (subst
            (λ (os : List Object). AllByRecursion (FitsEntry program.world os) memory.statics) (sym is) typed.statics);
        statics_there = typed.statics_there;
        literals = λ text id e. object_later program.world g string_type id
            (subst (λ (os : List Object). IsObject program.world os string_type id) (sym is) (typed.literals text id e));
        no_memory = object_later program.world g (class_type (codes "java/lang/OutOfMemoryError")) out_of_memory
            (subst (λ (os : List Object). IsObject program.world os (class_type (codes "java/lang/OutOfMemoryError")) out_of_memory)
            (sym is) typed.no_memory);
        arguments = object_later program.world g (array_with (class_components string_name)) 1
            (subst (λ (os : List Object). IsObject program.world os (array_with (class_components string_name)) 1)
            (sym is) typed.arguments);
      }
    where
      by_place : (id : ℕ) (o : Object) → (slice_get a.objects id ≡ Some o) ⊎ ((k : ℕ) × (slice_get more k ≡ Some o))
          → IsTypedObject program (a.objects ++ more) o
      by_place id o (inl e) = typed_later {d = 0} {a = a} {b = with_more a more} (more_later 0 a more) o
          (subst (λ (os : List Object). IsTypedObject program os o) (sym is)
          (typed.objects.each id o (subst (λ (os : List Object). slice_get os id ≡ Some o) is e)))
      by_place id o (inr h) = new h.0 o h.1

  -- ---- exceptions

  -- what is made: memory and a number, in a later heap
  pub record IsMade (a : Heap) (made : Memory × ℕ) : Type 0 where
    pub heap : Heap
    pub grows : (d : ℕ) → IsLater d a heap
    pub is : heap.objects ≡ made.0.objects
    pub typed : IsTypedMemory program made.0
    pub throwable : IsObject program.world heap.objects throwable_type made.1

  pub paid_is : (cells : ℕ) (memory after : Memory) → paid cells memory ≡ Some after
      → after ≡ record memory { cells = memory.cells - cells }
  paid_is cells memory after e = by_test (nat_le cells memory.cells) e
    where
      by_test : (b : Bool) → (if b then Some (record memory { cells = memory.cells - cells }) else None) ≡ Some after
          → after ≡ record memory { cells = memory.cells - cells }
      by_test true k = cc
      by_test false k = absurd cc

  module _ (makeable : (name : List ℕ) (h : IsThrown program.world name) → IsMakeable program h.l)
      (out_of_memory_is_thrown : (objects : List Object) → IsObject program.world objects
      (class_type (codes "java/lang/OutOfMemoryError")) out_of_memory
      → IsObject program.world objects throwable_type out_of_memory) where
    pub exception_ok :
        (a : Heap) (memory : Memory) (name : List ℕ) → a.objects ≡ memory.objects → IsTypedMemory program memory
        → IsThrown program.world name
        → Holds (IsMade a) (exception program.world name memory)
    exception_ok a memory name is typed h =
        then_holds (found_holds {P = λ l. l ≡ h.l} ReferenceFault (class_named program.world name) h.l h.named refl) (λ l e.
        subst (λ (l : Loaded). Holds (IsMade a) (Ok (exception_made program.world l memory (paid (object_cells program.world l) memory))))
        (sym e)
        (holds (by_cells (paid (object_cells program.world h.l) memory) refl)))
      where
        by_cells : (o : Option Memory) → paid (object_cells program.world h.l) memory ≡ o
            → IsMade a (exception_made program.world h.l memory o)
        by_cells None k = record {
          heap = a;
          grows = λ d. same d a;
          is = is;
          typed = typed;
          throwable = out_of_memory_is_thrown a.objects
              (subst (λ (os : List Object). IsObject program.world os (class_type (codes "java/lang/OutOfMemoryError")) out_of_memory)
              (sym is) typed.no_memory);
        }
        by_cells (Some after) k =
            let o = made_object program.world h.l in
            let b = with_more a (o ∷ []) in
            subst (λ (m : Memory). IsMade a (exception_made program.world h.l memory (Some m)))
            (sym (paid_is (object_cells program.world h.l) memory after k))
            (record {
              heap = b;
              grows = λ d. more_later d a (o ∷ []);
              is = ap (λ (os : List Object). os ++ o ∷ []) is;
              typed = subst (λ (os : List Object). IsTypedMemory program
                  (record memory { objects = os ++ o ∷ []; cells = memory.cells - object_cells program.world h.l })) is
                  (more_typed a memory (o ∷ []) (memory.cells - object_cells program.world h.l) is typed (λ k x e. only_one k x e));
              throwable = subst (λ (n : ℕ). IsObject program.world b.objects throwable_type n) (ap (λ (os : List Object). length os) is)
                  (record { object = o; there = get_behind a.objects (o ∷ []); constructed = refl; below = h.below });
            })
          where
            only_one : (k : ℕ) (x : Object) → slice_get (made_object program.world h.l ∷ []) k ≡ Some x
                → IsTypedObject program (a.objects ++ made_object program.world h.l ∷ []) x
            only_one zero x e =
                let s : made_object program.world h.l ≡ x = cc in
                subst (λ (y : Object). IsTypedObject program (a.objects ++ made_object program.world h.l ∷ []) y) s
                (new_typed program (a.objects ++ made_object program.world h.l ∷ []) true h.l (makeable name h))
            only_one (suc k) x e = absurd cc

-- ---- objects of a typed memory are of types that can be loaded
loadable_object : (program : Program) (objects : List Object) (o : Object) → IsTypedObject program objects o
    → IsTrue (is_loadable_type program.world (object_type o))
loadable_object program objects (InstanceOf i) h = subst (λ (x : Option Loaded). passes (is_loadable program.world) x ≡ true)
    (sym h.named) h.loadable
loadable_object program objects (ArrayWith components values) h = h.loadable

pub loadable_of : (program : Program) (heap : Heap) (memory : Memory) → heap.objects ≡ memory.objects → IsTypedMemory program memory
    → AreLoadable program.world heap.objects
loadable_of program heap memory is typed id o e = loadable_object program memory.objects o
    (typed.objects.each id o (subst (λ (os : List Object). slice_get os id ≡ Some o) is e))
