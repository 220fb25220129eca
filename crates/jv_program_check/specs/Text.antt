-- The verdicts on files of some names as text, or as JSON, and the status that they come to (own).
use Rattle.std.specs.Prelude.{ℕ, Bool, true, false, List, [], ◌∷◌, ◌++◌, codes, if◌then◌else◌}
use Rattle.std.specs.List.{list_all}
use Rattle.jv_meaning_typing.specs.declared.verdict.Verdict.{Verdict}
use Rattle.jv_meaning_typing.specs.declared.verdict.Verdict.TheVariants.{Accepted}
use Rattle.jv_program_base.specs.Escape.{escaped_text}
use Rattle.jv_program_base.specs.Verdict.{verdict_text}
use Rattle.jv_json.specs.Files.{file_values}
use Rattle.jv_json.specs.Lines.{json_lines}

-- the line of a file
abbrev pub check_line : List ℕ → Verdict → List ℕ
check_line name verdict = escaped_text name ++ codes ": " ++ verdict_text verdict ++ 10 ∷ []

-- a line for each file
unfoldable pub check_text : List (List ℕ) → List Verdict → List ℕ
check_text (name ∷ names) (verdict ∷ verdicts) = check_line name verdict ++ check_text names verdicts
check_text _ _ = []

-- the report in JSON, or not
abbrev pub check_report : (json : Bool) → List (List ℕ) → List Verdict → List ℕ
check_report json names verdicts = if json then json_lines (file_values names verdicts) else check_text names verdicts

abbrev pub is_accepted : Verdict → Bool
is_accepted Accepted = true
is_accepted _ = false

-- 0 where each file is accepted, and else 1
abbrev pub check_status : List Verdict → ℕ
check_status verdicts = if list_all is_accepted verdicts then 0 else 1
