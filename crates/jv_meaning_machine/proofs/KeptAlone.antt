-- What a guest alone keeps of its budget.
use Rattle.std.proofs.Common.{◌≡◌, ℕ, zero, suc, ◌+◌, ◌-◌, true, List, [], ◌∷◌, map, length, Option, Some, None, refl, sym, ap, subst, ◌∙◌, arith, slice_get, length-append, append-nil, codes}
use Rattle.std.specs.Option.{option_map}
use Rattle.std.proofs.lemmas.List.{length-map}
use Rattle.std.proofs.lemmas.Option.{slice_get-map}
use Rattle.std.proofs.lemmas.List.Sums.{sum_by-cons}
use Rattle.jv_meaning_world.specs.Library.{with_library}
use Rattle.jv_meaning_world.specs.World.{Loaded, World, class_named, world_of}
use Rattle.jv_meaning_world.specs.Overriding.{Declared}
use Rattle.jv_meaning_typing.specs.Named.{class_components}
use Rattle.jv_meaning_machine.specs.Faults.{found}
use Rattle.jv_meaning_machine.specs.Faults.Fault.{ReferenceFault}
use Rattle.jv_meaning_machine.specs.Objects.{Object, made_object, new_array}
use Rattle.jv_meaning_machine.specs.Objects.Object.{InstanceOf}
use Rattle.jv_meaning_machine.specs.State.{Program, Memory, Control, State, state_of}
use Rattle.jv_meaning_machine.specs.State.End.{Running, NoMain}
use Rattle.jv_meaning_machine.specs.Literals.{string_name}
use Rattle.jv_meaning_machine.specs.Initialization.{main_method, begin}
use Rattle.jv_meaning_machine.specs.Start.{Budget, start_cells, start_memory, start_control, start_with, start}
use Rattle.jv_meaning_machine.specs.Alone.{GuestFiles, Judged, Feed, alone}
use Rattle.jv_meaning_machine.specs.Laws.Shapes.{Shape, shape_of, shapes, IsOfClass, AreOfClasses, shape_cells, used_cells, used_words, first_cells}
use Rattle.jv_meaning_machine.specs.Laws.Kept.{BeginsWith, Keeps, KeepsState}
use Rattle.jv_meaning_machine.specs.Laws.Runs.{OutputGrows, ObjectsStay, ObjectsAreNeverFewer, OutputIsBudgeted, WordsAreBudgeted, CellsAreBudgeted, ObjectsHaveFields, FirstObjectsCost}
use Rattle.jv_meaning_machine.proofs.Leading.{Leads, leaf, bound, found_gave}
use Rattle.jv_meaning_machine.proofs.KeptMemory.{keeps_same, keeps_over, in_longer, with_input, named_itself, new_is_of_class}
use Rattle.jv_meaning_machine.proofs.KeptOutcomes.{cost_of_object, cost_of_one}
use Rattle.jv_meaning_machine.proofs.KeptControl.{Stays, begin_stays}
use Rattle.jv_meaning_machine.proofs.KeptSteps.{step_kept, after_kept}
use Rattle.jv_meaning_machine.proofs.Fed.{alone_keeps}

-- ---- from a state to a later one

pub output_grows : OutputGrows
output_grows program n before later e = (after_kept program n before later e).memory.output

pub never_fewer : ObjectsAreNeverFewer
never_fewer program n before later e =
    let more : BeginsWith (shapes later.memory) (shapes before.memory) = (after_kept program n before later e).memory.objects in
    let count : length (shapes later.memory) ≡ length (shapes before.memory) + length more.0 =
    ap (λ (l : List Shape). length l) more.1 ∙ length-append (shapes before.memory) more.0 in
    omega (arith, count, length-map later.memory.objects shape_of, length-map before.memory.objects shape_of)

mapped_gave : {A B : Type 0} (f : A → B) (o : Option A) (b : B) → option_map f o ≡ Some b → (a : A) × (o ≡ Some a) × (f a ≡ b)
mapped_gave f None b e = absurd cc
mapped_gave f (Some a) b e = (a, refl, cc)

pub objects_stay : ObjectsStay
objects_stay program n before later e number object here =
    let more : BeginsWith (shapes later.memory) (shapes before.memory) = (after_kept program n before later e).memory.objects in
    let there : slice_get (shapes before.memory) number ≡ Some (shape_of object) =
    slice_get-map shape_of before.memory.objects number ∙ ap (λ (o : Option Object). option_map shape_of o) here in
    let then : slice_get (shapes later.memory) number ≡ Some (shape_of object) =
    ap (λ (l : List Shape). slice_get l number) more.1 ∙ in_longer (shapes before.memory) more.0 number (shape_of object) there in
    mapped_gave shape_of (slice_get later.memory.objects number) (shape_of object)
    (sym (slice_get-map shape_of later.memory.objects number) ∙ then)

-- ---- the start

-- what a state has kept of a memory of the start, but for the input, and all words
pub record IsFrom (world : World) (b : Budget) (memory : Memory) (s : State) : Type 0 where
  pub memory_kept : Keeps world memory (with_input [] s.memory)
  pub words : used_words s.frames + s.control.words ≡ b.words

-- what stays whatever the input is
unread : {world : World} (before after : Memory) → Keeps world before after → Keeps world before (with_input [] after)
unread before after h = record {
  output = h.output;
  output_budget = h.output_budget;
  objects = h.objects;
  fields = h.fields;
  constructed = h.constructed;
  cells_budget = h.cells_budget;
  statics = h.statics;
  literals = h.literals;
  input = (before.input, sym (append-nil before.input));
}

both_unread : {world : World} (before after : Memory) → Keeps world before after → Keeps world (with_input [] before) (with_input [] after)
both_unread before after h = record {
  output = h.output;
  output_budget = h.output_budget;
  objects = h.objects;
  fields = h.fields;
  constructed = h.constructed;
  cells_budget = h.cells_budget;
  statics = h.statics;
  literals = h.literals;
  input = ([], refl);
}

start_with_leads :
    (program : Program) (main : List ℕ) (b : Budget) (memory : Memory) (d : Option Declared)
    → Leads State (IsFrom program.world b memory) (start_with program main b memory d)
start_with_leads program main b memory None =
    leaf (IsFrom program.world b memory) (state_of memory [] (start_control main b NoMain))
    (record { memory_kept = unread memory memory (keeps_same memory); words = omega arith })
start_with_leads program main b memory (Some d) =
    let control : Control = start_control main b Running in
    let begun : Leads State (Stays program memory b.words main) (begin program memory [] control d.by) =
    begin_stays program memory b.words main memory [] control d.by (keeps_same memory) (record { sum = omega arith; same_main = refl }) in
    record { at = λ s e. record { memory_kept = unread memory s.memory (begun.at s e).0; words = (begun.at s e).1.sum } }

-- from the memory with which a guest starts
pub record IsFromStart (program : Program) (input : List ℕ) (b : Budget) (s : State) : Type 0 where
  pub error : Loaded
  pub named : class_named program.world (codes "java/lang/OutOfMemoryError") ≡ Some error
  pub from : IsFrom program.world b (start_memory program.world input b error) s

start_leads :
    (program : Program) (main input : List ℕ) (b : Budget) → Leads State (IsFromStart program input b) (start program main input b)
start_leads program main input b =
    bound (found ReferenceFault (class_named program.world (codes "java/lang/OutOfMemoryError")))
    (λ error. start_with program main b (start_memory program.world input b error) (main_method program.world main))
    (λ error e.
    record {
      at = λ s f. record {
        error = error;
        named = found_gave ReferenceFault (class_named program.world (codes "java/lang/OutOfMemoryError")) error e;
        from = (start_with_leads program main b (start_memory program.world input b error) (main_method program.world main)).at s f;
      };
    })

from_over :
    (world : World) (b : Budget) (memory : Memory) (s t : State) → IsFrom world b memory s → KeepsState world s t → IsFrom world b memory t
from_over world b memory s t h k = record {
  memory_kept =
      keeps_over memory (with_input [] s.memory) (with_input [] t.memory) h.memory_kept (both_unread s.memory t.memory k.memory);
  words = k.words_budget ∙ h.words;
}

pub alone_leads :
    (judged : Judged) (g : GuestFiles) (b : Budget) (feeds : List Feed) (n : ℕ)
    → Leads State (IsFromStart judged.program g.input b) (alone judged g b feeds n)
alone_leads judged g b feeds n =
    alone_keeps judged g b feeds (IsFromStart judged.program g.input b)
    (λ s t h e.
    record {
      error = h.error;
      named = h.named;
      from =
          from_over judged.program.world b (start_memory judged.program.world g.input b h.error) s t h.from
          (step_kept judged.program s t e);
    })
    (λ bytes s h.
    record {
      error = h.error;
      named = h.named;
      from = record { memory_kept = h.from.memory_kept; words = h.from.words };
    })
    (start_leads judged.program g.main g.input b) n

-- ---- a guest alone

pub output_is_budgeted : OutputIsBudgeted
output_is_budgeted judged g b feeds n s e = omega (arith, ((alone_leads judged g b feeds n).at s e).from.memory_kept.output_budget)

pub words_are_budgeted : WordsAreBudgeted
words_are_budgeted judged g b feeds n s e = ((alone_leads judged g b feeds n).at s e).from.words

one_of_classes :
    (world : World) (objects : List Object) (number : ℕ) (object : Object) → slice_get objects number ≡ Some object
    → AreOfClasses world (map shape_of objects) → IsOfClass world (shape_of object)
one_of_classes world [] number object e h = absurd cc
one_of_classes world (first ∷ more) zero object e h =
    let same : first ≡ object = cc in
    subst (λ (o : Object). IsOfClass world (shape_of o)) same h.0
one_of_classes world (first ∷ more) (suc number) object e h = one_of_classes world more number object e h.1

pub objects_have_fields : ObjectsHaveFields
objects_have_fields judged g b feeds n s e number instance there =
    let known : IsFromStart judged.program g.input b s = (alone_leads judged g b feeds n).at s e in
    let first : IsOfClass judged.program.world (shape_of (made_object judged.program.world known.error)) =
    new_is_of_class judged.program.world true known.error
    (named_itself judged.program.world (codes "java/lang/OutOfMemoryError") known.error known.named) in
    let all : AreOfClasses judged.program.world (shapes s.memory) = known.from.memory_kept.fields (first, (tt, tt)) in
    one_of_classes judged.program.world s.memory.objects number (InstanceOf instance) there all

start_cells_used :
    (world : World) (input : List ℕ) (b : Budget) (error : Loaded) → used_cells (start_memory world input b error) ≡ start_cells world error
start_cells_used world input b error =
    let array : Object = new_array (class_components string_name) 0 in
    omega (arith, sum_by-cons shape_cells (shape_of (made_object world error)) (shape_of array ∷ []), cost_of_one array, cost_of_object world true error)

-- the cells of the start, in any world
cost_in : World → Option Loaded → ℕ
cost_in world None = first_cells
cost_in world (Some l) = start_cells world l

pub first_objects_cost : FirstObjectsCost
unfolding cost_in
first_objects_cost [] contents error e = sym (ap (cost_in (world_of (with_library []) contents)) e)
first_objects_cost (first ∷ more) contents error e = sym (ap (cost_in (world_of (with_library (first ∷ more)) contents)) e)

pub cells_are_budgeted : CellsAreBudgeted
cells_are_budgeted judged g b feeds n s right room e =
    let known : IsFromStart judged.program g.input b s = (alone_leads judged g b feeds n).at s e in
    let named : class_named (world_of (with_library right.given) right.contents) (codes "java/lang/OutOfMemoryError") ≡ Some known.error =
    ap (λ (w : World). class_named w (codes "java/lang/OutOfMemoryError")) (sym right.world) ∙ known.named in
    let cost : start_cells judged.program.world known.error ≡ first_cells =
    ap (λ (w : World). start_cells w known.error) right.world ∙ first_objects_cost right.given right.contents known.error named in
    let first : used_cells (start_memory judged.program.world g.input b known.error) ≡ start_cells judged.program.world known.error =
    start_cells_used judged.program.world g.input b known.error in
    let kept :
    used_cells s.memory + s.memory.cells
    ≡ used_cells (start_memory judged.program.world g.input b known.error) + (b.cells - start_cells judged.program.world known.error) =
    known.from.memory_kept.cells_budget in
    omega (arith, room, cost, first, kept)
