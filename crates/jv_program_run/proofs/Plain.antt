-- Reports in JSON have no floating point.
use Rattle.std.proofs.Common.{ℕ, List, [], ◌∷◌, All, Option, Some, None, codes, map, refl}
use Rattle.std.proofs.lemmas.List.Elements.{All-cons, All-nil}
use Rattle.serde_json.specs.Data.{Members, no_members, object}
use Rattle.jv_meaning_machine.specs.State.{ThrowPlace, End}
use Rattle.jv_meaning_machine.specs.State.End.{Running, Returned, Threw, NoMain}
use Rattle.jv_json.specs.Members.{with_bytes, with_number, with_text}
use Rattle.jv_json.proofs.Plain.{ArePlain, IsPlain, bytes_plain, number_plain, put_plain, text_plain, with_files_plain}
use Rattle.jv_program_run.specs.Json.{guest_members, told_value, place_members, with_ending, with_instruction, with_last, with_line, with_place}
use Rattle.jv_program_run.specs.Report.{PlaceInFile, Told}

last_plain : (last : Option (List ℕ)) (before : Members) → ArePlain before → ArePlain (with_last last before)
last_plain None before are = are
last_plain (Some name) before are = bytes_plain (codes "last") name before are

members_plain : (p : ThrowPlace) → ArePlain (place_members p)
members_plain p =
    let class = with_bytes (codes "class") p.class no_members in
    let method = with_bytes (codes "method") p.method class in
    number_plain (codes "offset") p.offset (with_bytes (codes "descriptor") p.descriptor method)
    (bytes_plain (codes "descriptor") p.descriptor method
    (bytes_plain (codes "method") p.method class (bytes_plain (codes "class") p.class no_members refl)))

line_plain : (line : Option ℕ) (before : Members) → ArePlain before → ArePlain (with_line line before)
line_plain None before are = are
line_plain (Some n) before are = number_plain (codes "line") n before are

instruction_plain : (text : Option (List ℕ)) (before : Members) → ArePlain before → ArePlain (with_instruction text before)
instruction_plain None before are = are
instruction_plain (Some text) before are = text_plain (codes "instruction") text before are

place_plain : (place : Option ThrowPlace) (in_file : PlaceInFile) (before : Members) → ArePlain before → ArePlain (with_place place in_file before)
place_plain None in_file before are = are
place_plain (Some p) in_file before are =
    let line = with_line in_file.line (place_members p) in
    put_plain (codes "place") (object (with_instruction in_file.instruction line)) before
    (instruction_plain in_file.instruction line (line_plain in_file.line (place_members p) (members_plain p))) are

ending_plain : (end : End) (before : Members) → ArePlain before → ArePlain (with_ending end before)
ending_plain Running before are = text_plain (codes "end") (codes "Running") before are
ending_plain Returned before are = text_plain (codes "end") (codes "Returned") before are
ending_plain (Threw name) before are =
    bytes_plain (codes "threw") name (with_text (codes "end") (codes "Threw") before) (text_plain (codes "end") (codes "Threw") before are)
ending_plain NoMain before are = text_plain (codes "end") (codes "NoMain") before are

guest_plain : (t : Told) → ArePlain (guest_members t)
guest_plain t =
    let number = with_number (codes "guest") t.number no_members in
    with_files_plain t.names t.seen.verdicts (with_bytes (codes "folder") t.word number)
    (bytes_plain (codes "folder") t.word number (number_plain (codes "guest") t.number no_members refl))

told_plain : (t : Told) → IsPlain (told_value t)
told_plain t =
    let steps = with_number (codes "steps") t.seen.steps (guest_members t) in
    let throws = with_number (codes "throws") t.seen.throws steps in
    let last = with_last t.seen.last throws in
    let place = with_place t.seen.place t.in_file last in
    ending_plain t.seen.end (with_bytes (codes "output") t.seen.output place)
    (bytes_plain (codes "output") t.seen.output place
    (place_plain t.seen.place t.in_file last
    (last_plain t.seen.last throws
    (number_plain (codes "throws") t.seen.throws steps (number_plain (codes "steps") t.seen.steps (guest_members t) (guest_plain t))))))

pub all_plain : (told : List Told) → All IsPlain (map told_value told)
all_plain [] = All-nil IsPlain
all_plain (t ∷ told) = All-cons IsPlain (told_value t) (map told_value told) (told_plain t) (all_plain told)
