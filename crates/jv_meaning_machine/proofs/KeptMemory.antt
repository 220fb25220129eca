-- What stays in memory over the changes that instructions make to it.
use Rattle.std.proofs.Common.{◌≡◌, ℕ, ℤ, ◌%◌, ◌==◌, zero, suc, ◌+◌, ◌-◌, ◌≤◌, nat_le, Bool, true, false, List, [], ◌∷◌, ◌++◌, map, Option, Some, None, refl, sym, ap, subst, ◌∙◌, ◌⊎◌, inl, inr, arith, append_assoc, append-nil, slice_get, slice_set, sum_by, length-append, true≢false, if◌then◌else◌, bytes_eq}
use Rattle.std.specs.Int.{w32, cast_unsigned}
use Rattle.std.proofs.lemmas.Bool.{leb-true, cases_eq}
use Rattle.std.proofs.lemmas.List.{map-append}
use Rattle.std.proofs.lemmas.List.Sums.{sum_by-append}
use Rattle.std.proofs.lemmas.Slice.Eq.{bytes_eq-Decides}
use Rattle.std.proofs.lemmas.Option.{get_or_from_slice_get}
use Rattle.std.proofs.Math.Seq.{map-set_same}
use Rattle.jv_meaning_world.specs.World.{Loaded, World, class_named}
use Rattle.jv_meaning_world.specs.LookUps.{DeclaredField}
use Rattle.jv_meaning_typing.specs.Layout.{instance_fields}
use Rattle.jv_meaning_world.proofs.Up.{found_is_named}
use Rattle.jv_meaning_machine.specs.Values.{Value}
use Rattle.jv_meaning_machine.specs.Objects.{FieldKey, key_of, Content, default_entry, new_instance, Object, is_constructed, same_key, with_value}
use Rattle.jv_meaning_machine.specs.Objects.Object.{InstanceOf}
use Rattle.jv_meaning_machine.specs.State.{Memory}
use Rattle.jv_meaning_machine.specs.Costs.{paid, with_objects}
use Rattle.jv_meaning_machine.specs.Literals.{literal_in}
use Rattle.jv_meaning_machine.specs.Fields.{with_static, with_object}
use Rattle.jv_meaning_machine.specs.Calls.{with_byte_written}
use Rattle.jv_meaning_machine.specs.Laws.Shapes.{Shape, shape_of, shapes, IsOfClass, AreOfClasses, shape_cells, keys_in}
use Rattle.jv_meaning_machine.specs.Laws.Kept.{BeginsWith, EndsWith, Keeps}

-- ---- lists

pub begins_same : {A : Type 0} (all : List A) → BeginsWith all all
begins_same all = ([], sym (append-nil all))

pub begins_over : {A : Type 0} (a b c : List A) → BeginsWith b a → BeginsWith c b → BeginsWith c a
begins_over a b c h k = (h.0 ++ k.0, k.1 ∙ ap (λ l. l ++ k.0) h.1 ∙ append_assoc a h.0 k.0)

pub ends_same : {A : Type 0} (all : List A) → EndsWith all all
ends_same all = ([], refl)

pub ends_over : {A : Type 0} (a b c : List A) → EndsWith a b → EndsWith b c → EndsWith a c
ends_over a b c h k = (h.0 ++ k.0, h.1 ∙ ap (λ l. h.0 ++ l) k.1 ∙ sym (append_assoc h.0 k.0 c))

-- what stands in a list stands in one that begins with it
pub in_longer : {A : Type 0} (front more : List A) (n : ℕ) (a : A) → slice_get front n ≡ Some a → slice_get (front ++ more) n ≡ Some a
in_longer [] more n a e = absurd cc
in_longer (b ∷ front) more zero a e = e
in_longer (b ∷ front) more (suc n) a e = in_longer front more n a e

pub set_there : {A : Type 0} (all : List A) (n : ℕ) (a old : A) → slice_get all n ≡ Some old → slice_get (slice_set all n a) n ≡ Some a
set_there [] n a old e = absurd cc
set_there (b ∷ all) zero a old e = refl
set_there (b ∷ all) (suc n) a old e = set_there all n a old e

pub set_elsewhere : {A : Type 0} (all : List A) (n k : ℕ) (a : A) → (k ≡ n → ⊥) → slice_get (slice_set all n a) k ≡ slice_get all k
set_elsewhere [] n k a other = refl
set_elsewhere (b ∷ all) zero zero a other = absurd (other refl)
set_elsewhere (b ∷ all) zero (suc k) a other = refl
set_elsewhere (b ∷ all) (suc n) zero a other = refl
set_elsewhere (b ∷ all) (suc n) (suc k) a other = set_elsewhere all n k a (λ e. other (ap suc e))

-- ---- nothing, and one change after the other

pub keeps_same : {world : World} (memory : Memory) → Keeps world memory memory
keeps_same memory = record {
  output = begins_same memory.output;
  output_budget = refl;
  objects = begins_same (shapes memory);
  fields = λ h. h;
  constructed = λ number object e constructed. (object, e, constructed);
  cells_budget = refl;
  statics = refl;
  literals = λ text object e. e;
  input = ends_same memory.input;
}

pub keeps_over : {world : World} (a b c : Memory) → Keeps world a b → Keeps world b c → Keeps world a c
keeps_over a b c h k = record {
  output = begins_over a.output b.output c.output h.output k.output;
  output_budget = k.output_budget ∙ h.output_budget;
  objects = begins_over (shapes a) (shapes b) (shapes c) h.objects k.objects;
  fields = λ f. k.fields (h.fields f);
  constructed = λ number object e constructed.
      let between = h.constructed number object e constructed in
      k.constructed number between.0 between.1 between.2;
  cells_budget = k.cells_budget ∙ h.cells_budget;
  statics = k.statics ∙ h.statics;
  literals = λ text object e. k.literals text object (h.literals text object e);
  input = ends_over a.input b.input c.input h.input k.input;
}

-- ---- fields

-- a store to a field changes none but its value
pub same_keys : (key : FieldKey) (value : Value) (content : Content) → keys_in (with_value key value content) ≡ keys_in content
same_keys key value [] = refl
same_keys key value (entry ∷ more) = by_test (same_key key entry.0) (same_keys key value more)
  where
    by_test :
        (test : Bool) → keys_in (with_value key value more) ≡ keys_in more
        → keys_in (if test then (entry.0, value) ∷ more else entry ∷ with_value key value more) ≡ entry.0 ∷ keys_in more
    by_test true e = refl
    by_test false e = ap (λ (keys : List FieldKey). entry.0 ∷ keys) e

pub keeps_static : {world : World} (key : FieldKey) (value : Value) (memory : Memory) → Keeps world memory (with_static key value memory)
keeps_static key value memory = record {
  output = begins_same memory.output;
  output_budget = refl;
  objects = begins_same (shapes memory);
  fields = λ h. h;
  constructed = λ number object e constructed. (object, e, constructed);
  cells_budget = refl;
  statics = same_keys key value memory.statics;
  literals = λ text object e. e;
  input = ends_same memory.input;
}

-- ---- new objects have the fields of their classes

new_keys : (fields : List DeclaredField) → keys_in (map default_entry fields) ≡ map key_of fields
new_keys [] = refl
new_keys (d ∷ more) = ap (λ (keys : List FieldKey). key_of d ∷ keys) (new_keys more)

-- a class that was found by a name is found by its own
pub named_itself : (world : World) (name : List ℕ) (l : Loaded) → class_named world name ≡ Some l → class_named world l.class.name ≡ Some l
named_itself world name l e = ap (λ (n : List ℕ). class_named world n) (found_is_named world name l e) ∙ e

pub new_is_of_class :
    (world : World) (constructed : Bool) (l : Loaded) → class_named world l.class.name ≡ Some l
    → IsOfClass world (shape_of (InstanceOf (new_instance world constructed l)))
new_is_of_class world constructed l named = (l, named, new_keys (instance_fields world l))

-- ---- objects

-- what is the same of an object and of the one that takes its place is the same of all
pub same_of_all :
    {B :
    Type 0} (f : Object → B) (id : ℕ) (old object : Object) (objects : List Object) → slice_get objects id ≡ Some old → f object ≡ f old
    → map f (slice_set objects id object) ≡ map f objects
same_of_all f id old object objects e same =
    map-set_same f objects id object old (same ∙ ap f (sym (get_or_from_slice_get objects id old old e)))

pub keeps_object :
    {world :
    World} (id : ℕ) (old object : Object) (memory : Memory) → slice_get memory.objects id ≡ Some old → shape_of object ≡ shape_of old
    → (is_constructed old ≡ true → is_constructed object ≡ true) → Keeps world memory (with_object id object memory)
keeps_object {world = world} id old object memory e same stays =
    let shapes_same : map shape_of (slice_set memory.objects id object) ≡ shapes memory =
    same_of_all shape_of id old object memory.objects e same in
    record {
      output = begins_same memory.output;
      output_budget = refl;
      objects = ([], shapes_same ∙ sym (append-nil (shapes memory)));
      fields = λ h. subst (λ (all : List Shape). AreOfClasses world all) (sym shapes_same) h;
      constructed = λ number other f constructed. by_number number other f constructed (cases_eq number id);
      cells_budget = ap (λ (l : List Shape). sum_by shape_cells l + memory.cells) shapes_same;
      statics = refl;
      literals = λ text object e. e;
      input = ends_same memory.input;
    }
  where
    by_number :
        (number : ℕ) (other : Object) → slice_get memory.objects number ≡ Some other → is_constructed other ≡ true
        → (number ≡ id) ⊎ (number ≡ id → ⊥)
        → (same : Object) × (slice_get (slice_set memory.objects id object) number ≡ Some same) × (is_constructed same ≡ true)
    by_number number other f constructed (inl is) =
        let there : slice_get memory.objects id ≡ Some other = ap (λ (n : ℕ). slice_get memory.objects n) (sym is) ∙ f in
        let known : other ≡ old = cc in
        let before : is_constructed old ≡ true = ap is_constructed (sym known) ∙ constructed in (
          object,
          ap (λ (n : ℕ). slice_get (slice_set memory.objects id object) n) is ∙ set_there memory.objects id object old e,
          stays before,
        )
    by_number number other f constructed (inr apart) = (other, set_elsewhere memory.objects id number object apart ∙ f, constructed)

-- the memory behind a payment
abbrev pub less : ℕ → Memory → Memory
less cells memory = record memory { cells = memory.cells - cells }

all_of_both : (world : World) (a b : List Shape) → AreOfClasses world a → AreOfClasses world b → AreOfClasses world (a ++ b)
all_of_both world [] b h k = k
all_of_both world (shape ∷ a) b h k = (h.0, all_of_both world a b h.1 k)

-- objects join whose cells were paid
pub keeps_joined :
    {world : World} (cells : ℕ) (objects : List Object) (memory : Memory) → cells ≤ memory.cells
    → sum_by shape_cells (map shape_of objects) ≡ cells → AreOfClasses world (map shape_of objects)
    → Keeps world memory (with_objects objects (less cells memory))
keeps_joined {world = world} cells objects memory within cost of_classes =
    let joined : map shape_of (memory.objects ++ objects) ≡ shapes memory ++ map shape_of objects =
    map-append shape_of memory.objects objects in
    let sum : sum_by shape_cells (map shape_of (memory.objects ++ objects)) ≡ sum_by shape_cells (shapes memory) + sum_by shape_cells
    (map shape_of objects) =
    ap (λ (l : List Shape). sum_by shape_cells l) joined ∙ sum_by-append shape_cells (shapes memory) (map shape_of objects) in
    record {
      output = begins_same memory.output;
      output_budget = refl;
      objects = (map shape_of objects, joined);
      fields =
          λ h.
          subst (λ (all : List Shape). AreOfClasses world all) (sym joined)
          (all_of_both world (shapes memory) (map shape_of objects) h of_classes);
      constructed = λ number object e constructed. (object, in_longer memory.objects objects number object e, constructed);
      cells_budget = omega arith;
      statics = refl;
      literals = λ text object e. e;
      input = ends_same memory.input;
    }

-- what holds where the cells are not left and where they were paid holds of a payment
pub by_payment :
    (P : Option Memory → Type 0) (cells : ℕ) (memory : Memory) → P None → (cells ≤ memory.cells → P (Some (less cells memory)))
    → P (paid cells memory)
by_payment P cells memory none some = by_test (nat_le cells memory.cells) refl
  where
    by_test : (test : Bool) → nat_le cells memory.cells ≡ test → P (if test then Some (less cells memory) else None)
    by_test true e = some (leb-true cells memory.cells e)
    by_test false e = none

-- ---- literals

abbrev pub with_literal_at : List ℕ → ℕ → Memory → Memory
with_literal_at text object memory = record memory { literals = (text, object) ∷ memory.literals }

-- a text that had no object gets one
pub keeps_literal :
    {world : World} (text : List ℕ) (object : ℕ) (memory : Memory) → literal_in text memory.literals ≡ None
    → Keeps world memory (with_literal_at text object memory)
keeps_literal text object memory none = record {
  output = begins_same memory.output;
  output_budget = refl;
  objects = begins_same (shapes memory);
  fields = λ h. h;
  constructed = λ number object e constructed. (object, e, constructed);
  cells_budget = refl;
  statics = refl;
  literals = λ other old e. by_test other old e (bytes_eq other text) refl;
  input = ends_same memory.input;
}
  where
    by_test :
        (other : List ℕ) (old : ℕ) → literal_in other memory.literals ≡ Some old → (test : Bool) → bytes_eq other text ≡ test
        → (if test then Some object else literal_in other memory.literals) ≡ Some old
    by_test other old e true is =
        let same : other ≡ text = (bytes_eq-Decides other text).0 is in
        let known : literal_in text memory.literals ≡ Some old = ap (λ (t : List ℕ). literal_in t memory.literals) (sym same) ∙ e in
        absurd cc
    by_test other old e false is = e

-- ---- output and input

not_none : (n : ℕ) → (n == 0) ≡ false → 1 ≤ n
not_none zero e = absurd (true≢false e)
not_none (suc n) e = omega arith

pub keeps_written :
    {world :
    World} (number : ℤ) (memory : Memory) → (memory.output_left == 0) ≡ false → Keeps world memory (with_byte_written number memory)
keeps_written number memory e = record {
  output = ((cast_unsigned w32 number % 256) ∷ [], refl);
  output_budget = omega (arith, length-append memory.output ((cast_unsigned w32 number % 256) ∷ []), not_none memory.output_left e);
  objects = begins_same (shapes memory);
  fields = λ h. h;
  constructed = λ number object e constructed. (object, e, constructed);
  cells_budget = refl;
  statics = refl;
  literals = λ text object e. e;
  input = ends_same memory.input;
}

abbrev pub with_input : List ℕ → Memory → Memory
with_input input memory = record memory { input = input }

pub keeps_read :
    {world : World} (byte : ℕ) (more : List ℕ) (memory : Memory) → memory.input ≡ byte ∷ more → Keeps world memory (with_input more memory)
keeps_read byte more memory e = record {
  output = begins_same memory.output;
  output_budget = refl;
  objects = begins_same (shapes memory);
  fields = λ h. h;
  constructed = λ number object e constructed. (object, e, constructed);
  cells_budget = refl;
  statics = refl;
  literals = λ text object e. e;
  input = (byte ∷ [], e);
}
