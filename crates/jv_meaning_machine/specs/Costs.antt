-- What objects and frames cost (own), against what is left of the guest's own budget. No cell comes back; the words of a
-- frame do, when it is left.
use Rattle.std.specs.Prelude.{ℕ, ◌+◌, ◌*◌, ◌-◌, nat_le, List, [], ◌∷◌, ◌++◌, length, Option, Some, None, if◌then◌else◌}
use Rattle.jv_text.specs.declared.descriptor.FieldTypeOf.{FieldTypeOf}
use Rattle.jv_text.specs.Descriptor.{field_slots}
use Rattle.jv_stackmap.specs.Types.{component}
use Rattle.jv_class_structure.specs.Parts.{CodeSeen}
use Rattle.jv_meaning_machine.specs.Objects.{Object}
use Rattle.jv_meaning_machine.specs.Frames.{MethodFrame}
use Rattle.jv_meaning_machine.specs.State.{Memory, Control}

-- ---- cells: an object's are those of its layout

-- two for an array, and one for each component, two where that is a long
abbrev pub array_cells : FieldTypeOf (List ℕ) → ℕ → ℕ
array_cells components count = 2 + count * field_slots components

-- an array of arrays with these counts, the outer one's first: all of them, and behind a count of 0 no more
abbrev pub arrays_cells : FieldTypeOf (List ℕ) → List ℕ → ℕ
arrays_cells components [] = 0
arrays_cells components (count ∷ []) = array_cells components count
arrays_cells components (count ∷ more) = array_cells components count + count * arrays_cells (component components) more

-- so many cells are taken, where they are left
abbrev pub paid : ℕ → Memory → Option Memory
paid cells memory = if nat_le cells memory.cells then Some (record memory { cells = memory.cells - cells }) else None

-- objects join behind the others
abbrev pub with_objects : List Object → Memory → Memory
with_objects objects memory = record memory { objects = memory.objects ++ objects }

-- the number of the next object
abbrev pub next_object : Memory → ℕ
next_object memory = length memory.objects

-- ---- words

abbrev pub code_words : CodeSeen → ℕ
code_words code = code.max_locals + code.max_stack + 4

abbrev pub method_words : MethodFrame → ℕ
method_words frame = code_words frame.method.code

abbrev pub initialization_words : ℕ
initialization_words = 4

abbrev pub given_words : ℕ → Control → Option Control
given_words words control = if nat_le words control.words then Some (record control { words = control.words - words }) else None

abbrev pub with_words_back : ℕ → Control → Control
with_words_back words control = record control { words = control.words + words }
