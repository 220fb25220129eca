-- The report on guests as JSON (own).
use Rattle.std.specs.Prelude.{ℕ, Bool, List, Option, Some, None, codes, map, if◌then◌else◌}
use Rattle.serde_json.specs.Data.{Data, Members, no_members, object, put}
use Rattle.jv_meaning_machine.specs.State.{ThrowPlace, End}
use Rattle.jv_meaning_machine.specs.State.End.{Running, Returned, Threw, NoMain}
use Rattle.jv_meaning_machine.specs.Observation.{Observed}
use Rattle.jv_json.specs.Files.{with_files}
use Rattle.jv_json.specs.Lines.{json_lines}
use Rattle.jv_json.specs.Members.{with_bytes, with_number, with_text}
use Rattle.jv_program_run.specs.Report.{PlaceInFile, Told, report_text}

-- the class of what was thrown last, where something was
abbrev pub with_last : Option (List ℕ) → Members → Members
with_last None members = members
with_last (Some name) members = with_bytes (codes "last") name members

-- the place where it was thrown, where that was in a method
abbrev pub place_members : ThrowPlace → Members
place_members p =
    with_number (codes "offset") p.offset
    (with_bytes (codes "descriptor") p.descriptor
    (with_bytes (codes "method") p.method (with_bytes (codes "class") p.class no_members)))

-- and the line of source, and the instruction, where there is one
abbrev pub with_line : Option ℕ → Members → Members
with_line None members = members
with_line (Some line) members = with_number (codes "line") line members

abbrev pub with_instruction : Option (List ℕ) → Members → Members
with_instruction None members = members
with_instruction (Some text) members = with_text (codes "instruction") text members

abbrev pub with_place : Option ThrowPlace → PlaceInFile → Members → Members
with_place None in_file members = members
with_place (Some p) in_file members =
    put (codes "place") (object (with_instruction in_file.instruction (with_line in_file.line (place_members p)))) members

-- how a guest ended, and of an exception that left `main` the class
abbrev pub with_ending : End → Members → Members
with_ending Running members = with_text (codes "end") (codes "Running") members
with_ending Returned members = with_text (codes "end") (codes "Returned") members
with_ending (Threw name) members = with_bytes (codes "threw") name (with_text (codes "end") (codes "Threw") members)
with_ending NoMain members = with_text (codes "end") (codes "NoMain") members

-- what a guest showed, but for its verdicts
abbrev pub with_seen : Observed → PlaceInFile → Members → Members
with_seen seen in_file members =
    with_ending seen.end
    (with_bytes (codes "output") seen.output
    (with_place seen.place in_file
    (with_last seen.last (with_number (codes "throws") seen.throws (with_number (codes "steps") seen.steps members)))))

-- which guest it is, and its class files, each with its verdict
abbrev pub guest_members : Told → Members
guest_members told =
    with_files told.names told.seen.verdicts
    (with_bytes (codes "folder") told.word (with_number (codes "guest") told.number no_members))

abbrev pub told_value : Told → Data
told_value told = object (with_seen told.seen told.in_file (guest_members told))

-- the report: in JSON a line for each guest, with the place of its last throw; else lines, with the place or without
abbrev pub run_report : (json places : Bool) → List Told → List ℕ
run_report json places told = if json then json_lines (map told_value told) else report_text places told
