-- The verdicts on files of some names and what is said of them as text, or as JSON (own).
use Rattle.std.specs.Prelude.{ℕ, Bool, if◌then◌else◌, List, [], ◌∷◌, ◌++◌, Option}
use Rattle.jv_meaning_typing.specs.declared.verdict.Verdict.{Verdict}
use Rattle.jv_program_check.specs.Text.{check_line}
use Rattle.jv_json.specs.Files.{explained_values}
use Rattle.jv_json.specs.Lines.{json_lines}

-- for each file the line of `check`, and what is said of it
unfoldable pub explain_text : (names : List (List ℕ)) → List Verdict → (said : List (List ℕ)) → List ℕ
explain_text (name ∷ names) (verdict ∷ verdicts) (text ∷ said) = check_line name verdict ++ text ++ explain_text names verdicts said
explain_text _ _ _ = []

-- the report in JSON, with lines of source, or not
abbrev pub explain_report : (json : Bool) → (names : List (List ℕ)) → List Verdict → (lines : List (Option ℕ)) → (said : List (List ℕ))
    → List ℕ
explain_report json names verdicts lines said =
    if json then json_lines (explained_values names verdicts lines said) else explain_text names verdicts said
