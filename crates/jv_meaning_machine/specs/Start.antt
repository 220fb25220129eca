-- The start (JVMS 5.2; own): one OutOfMemoryError object and an empty array of Strings for main are made, static fields are zero or null,
-- and the main class's initialization is begun.
use Rattle.std.specs.Prelude.{ℕ, ◌+◌, ◌-◌, List, [], ◌∷◌, filter, map, Option, Some, None, Ok, codes}
use Rattle.std.specs.List.{flat_map}
use Rattle.jv_meaning_world.specs.World.{Loaded, World, class_named}
use Rattle.jv_meaning_world.specs.Overriding.{Declared}
use Rattle.jv_meaning_world.specs.LookUps.{field_by}
use Rattle.jv_meaning_typing.specs.Kind.{is_static_field}
use Rattle.jv_meaning_typing.specs.Layout.{object_cells}
use Rattle.jv_meaning_typing.specs.Named.{class_components}
use Rattle.jv_meaning_machine.specs.Faults.{OrFault, found, ◌>>=◌}
use Rattle.jv_meaning_machine.specs.Faults.Fault.{ReferenceFault}
use Rattle.jv_meaning_machine.specs.Objects.{Content, default_entry, made_object, new_array}
use Rattle.jv_meaning_machine.specs.State.{Program, Memory, Control, End, State, state_of}
use Rattle.jv_meaning_machine.specs.State.End.{Running, NoMain}
use Rattle.jv_meaning_machine.specs.Costs.{array_cells}
use Rattle.jv_meaning_machine.specs.Literals.{string_name}
use Rattle.jv_meaning_machine.specs.Initialization.{main_method, begin}

-- what a guest may use: cells for objects, words for frames, bytes of output
pub record Budget : Type 0 where
  pub cells : ℕ
  pub words : ℕ
  pub output : ℕ

-- ---- memory

abbrev pub static_entries : Loaded → Content
static_entries l = map (λ f. default_entry (field_by l f)) (filter is_static_field l.class.fields)

abbrev pub start_cells : World → Loaded → ℕ
start_cells world error = object_cells world error + array_cells (class_components string_name) 0

abbrev pub start_memory : World → List ℕ → Budget → Loaded → Memory
start_memory world input budget error = record {
  objects = made_object world error ∷ new_array (class_components string_name) 0 ∷ [];
  statics = flat_map static_entries world;
  literals = [];
  cells = budget.cells - start_cells world error;
  output_left = budget.output;
  output = [];
  input = input;
}

-- ---- control

abbrev pub start_control : List ℕ → Budget → End → Control
start_control main budget end =
    record { main = main; states = []; words = budget.words; throws = 0; last = None; place = None; end = end }

-- where there is no main method the guest has ended
abbrev pub start_with : Program → List ℕ → Budget → Memory → Option Declared → OrFault State
start_with program main budget memory None = Ok (state_of memory [] (start_control main budget NoMain))
start_with program main budget memory (Some d) = begin program memory [] (start_control main budget Running) d.by

abbrev pub start : Program → List ℕ → List ℕ → Budget → OrFault State
start program main input budget =
    found ReferenceFault (class_named program.world (codes "java/lang/OutOfMemoryError")) >>= λ error.
    start_with program main budget (start_memory program.world input budget error) (main_method program.world main)
