-- The line of source of an instruction, as it was read (JVMS 4.7.12). Whether a file says so is said nowhere.
use Rattle.std.specs.Prelude.{ℕ, List, Option, slice_get}
use Rattle.std.specs.Option.{option_and_then}
use Rattle.jv_lines.specs.declared.lines.Lines.{Lines}

-- at an offset of code
abbrev pub line_in : List (Option ℕ) → (pc : ℕ) → Option ℕ
line_in lines pc = option_and_then (λ line. line) (slice_get lines pc)

-- of the method with a number, at an offset of its code
unfoldable pub line_at : Lines → (number : ℕ) → (pc : ℕ) → Option ℕ
line_at lines number pc = option_and_then (λ m. line_in m.items pc) (slice_get lines.methods.items number)
