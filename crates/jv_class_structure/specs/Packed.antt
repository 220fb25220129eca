-- How a method's code is found in the contents of its Code attribute (JVMS 4.7.3).
use Rattle.std.specs.Prelude.{ℕ, ◌*◌, false, if◌then◌else◌, nat_eq, List, [], take, drop, Option, Some, None}
use Rattle.jv_format.specs.Format.{Format, ◌>>=◌, half, front}
use Rattle.jv_format.specs.Readers.{both, contents, found_as}
use Rattle.jv_format.specs.declared.handlers.Handler.{Handler}
use Rattle.jv_format.specs.Handlers.{handlers_in}
use Rattle.jv_class_structure.specs.Parts.{CodeSeen}

-- exception_table_length, and as many handlers, eight bytes each
abbrev pub handlers_read : ℕ × List ℕ → Option (List Handler × List ℕ)
handlers_read n = front (n.0 * 8, n.1) >>= found_as handlers_in

abbrev pub handlers_kept : Format (List Handler)
handlers_kept = record { spelling = λ _. []; fits = λ _. false; read = λ bytes. half.read bytes >>= handlers_read }

-- what stands before a code's attributes: max_stack and max_locals, the instructions behind code_length, and the handlers
abbrev pub CodeFront : Type 0
CodeFront = (ℕ × ℕ) × (List ℕ × List Handler)

abbrev pub code_front : Format CodeFront
code_front = both (both half half) (both contents handlers_kept)

-- what was found at the front of contents; nothing where they are too short for it
abbrev pub front_found : Option (CodeFront × List ℕ) → CodeFront
front_found None = ((0, 0), ([], []))
front_found (Some found) = found.0

-- the code with this front, and with the contents of its StackMapTable (4.7.4) where it has one
abbrev pub code_with : Option (List ℕ) → CodeFront → CodeSeen
code_with map f =
    record { max_stack = f.0.0; max_locals = f.0.1; code = f.1.0; exception_table = f.1.1; stack_map_table = map }

-- the code that a Code attribute's contents hold, from max_stack on
abbrev pub code_in : List ℕ → Option (List ℕ) → CodeSeen
code_in bytes map = code_with map (front_found (code_front.read bytes))

-- as many bytes as the number says, from this place on; fewer where they end before
abbrev pub part_of : List ℕ → ℕ → ℕ → List ℕ
part_of bytes place count = take count (drop place bytes)

-- the contents of the StackMapTable, so many bytes from this place on; a place of 0, where max_stack stands, says that there is none
abbrev pub map_in : List ℕ → ℕ → ℕ → Option (List ℕ)
map_in bytes place count = if nat_eq place 0 then None else Some (part_of bytes place count)
