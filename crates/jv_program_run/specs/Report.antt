-- The report on guests, as text.
use Rattle.std.specs.Prelude.{ℕ, ◌-◌, Bool, true, false, List, [], ◌∷◌, ◌++◌, length, slice_get, codes, ◌==◌, Option, Some, None, option_map, if◌then◌else◌}
use Rattle.std.specs.List.{flat_map, list_any}
use Rattle.std.specs.Fmt.{decimal}
use Rattle.jv_meaning_typing.specs.declared.verdict.Verdict.{Verdict}
use Rattle.jv_meaning_machine.specs.State.{ThrowPlace, End}
use Rattle.jv_meaning_machine.specs.State.End.{Running, Returned, Threw, NoMain}
use Rattle.jv_meaning_machine.specs.Observation.{Observed}
use Rattle.jv_program_base.specs.Escape.{escaped_text}
use Rattle.jv_program_base.specs.Verdict.{verdict_text}

-- What a guest's files say of the place of its last throw, where that is told: the line of source, as a LineNumberTable may say it
-- (4.7.12), which no definition here speaks of; and the instruction there, as text.
pub record PlaceInFile : Type 0 where
  pub line : Option ℕ
  pub instruction : Option (List ℕ)

-- What is told of a guest: its number, the word for its folder, the names of its class files, what it showed, and what its files say of
-- the place of its last throw.
pub record Told : Type 0 where
  pub number : ℕ
  pub word : List ℕ
  pub names : List (List ℕ)
  pub seen : Observed
  pub in_file : PlaceInFile

-- the line of a class file
abbrev pub verdict_line : List ℕ → Verdict → List ℕ
verdict_line name verdict = codes "  " ++ escaped_text name ++ codes ": " ++ verdict_text verdict ++ 10 ∷ []

-- the lines of the class files, each with its verdict
unfoldable pub verdict_lines : List (List ℕ) → List Verdict → List ℕ
verdict_lines (name ∷ names) (verdict ∷ verdicts) = verdict_line name verdict ++ verdict_lines names verdicts
verdict_lines _ _ = []

-- the number of a guest, and the word for its folder
abbrev pub heading_text : ℕ → List ℕ → List ℕ
heading_text number word = decimal number ++ codes " " ++ escaped_text word

-- an instruction's class, method and offset
abbrev pub place_text : ThrowPlace → List ℕ
place_text p =
    escaped_text p.class ++ codes "." ++ escaped_text p.method ++ codes ":" ++ escaped_text p.descriptor
    ++ codes " offset " ++ decimal p.offset

abbrev pub line_text : Option ℕ → List ℕ
line_text None = []
line_text (Some line) = codes ", line " ++ decimal line

abbrev pub shown_text : Option (List ℕ) → List ℕ
shown_text None = []
shown_text (Some instruction) = codes ": " ++ instruction

abbrev pub at_text : Option ThrowPlace → PlaceInFile → List ℕ
at_text None in_file = []
at_text (Some p) in_file = codes " at " ++ place_text p ++ line_text in_file.line ++ shown_text in_file.instruction

-- how often something was thrown, and of what was thrown last the class, and the place and what is said of it where these are told
abbrev pub throws_text : ℕ → Option (List ℕ) → Option ThrowPlace → PlaceInFile → List ℕ
throws_text count None place in_file = decimal count
throws_text count (Some name) place in_file = decimal count ++ codes " last " ++ escaped_text name ++ at_text place in_file

-- what a guest wrote; with nothing, no space follows the colon
unfoldable pub output_text : List ℕ → List ℕ
output_text bytes =
    if length bytes == 0 then codes "0:" else decimal (length bytes) ++ codes ": " ++ escaped_text bytes

abbrev pub ending_text : End → List ℕ
ending_text Running = codes "Running"
ending_text Returned = codes "Returned"
ending_text (Threw name) = codes "Threw " ++ escaped_text name
ending_text NoMain = codes "NoMain"

-- a line: its label and a text
abbrev pub labelled_line : List ℕ → List ℕ → List ℕ
labelled_line label text = label ++ text ++ 10 ∷ []

-- the lines on a guest, with the place of the last throw or without
unfoldable pub told_text : (places : Bool) → Told → List ℕ
told_text places told =
    labelled_line (codes "guest ") (heading_text told.number told.word)
    ++ verdict_lines told.names told.seen.verdicts
    ++ labelled_line (codes "  steps ") (decimal told.seen.steps)
    ++ labelled_line (codes "  throws ")
    (throws_text told.seen.throws told.seen.last (if places then told.seen.place else None) told.in_file)
    ++ labelled_line (codes "  output ") (output_text told.seen.output)
    ++ labelled_line (codes "  end ") (ending_text told.seen.end)

-- the report: the lines on each guest
abbrev pub report_text : (places : Bool) → List Told → List ℕ
report_text places told = flat_map (told_text places) told

-- ---- what a guest wrote, as it is

-- the output of the guest with a number, where one's is wanted
abbrev pub raw_output : Option ℕ → List Told → Option (List ℕ)
raw_output None told = None
raw_output (Some number) told = option_map (λ t. t.seen.output) (slice_get told (number - 1))

-- ---- the status after the report

abbrev pub is_running : End → Bool
is_running Running = true
is_running _ = false

-- 5 where a guest still runs
abbrev pub run_status : List Told → ℕ
run_status told = if list_any (λ t. is_running t.seen.end) told then 5 else 0
