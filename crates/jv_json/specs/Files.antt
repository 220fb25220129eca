-- Class files with their verdicts as JSON (own).
use Rattle.std.specs.Prelude.{ℕ, List, [], ◌∷◌, codes, Option}
use Rattle.serde_json.specs.Data.{Data, Members, array, no_members, object, put}
use Rattle.serde_json.specs.View.{items_of}
use Rattle.jv_meaning_typing.specs.declared.verdict.Verdict.{Verdict}
use Rattle.jv_json.specs.Members.{with_bytes, with_line, with_text, with_verdict}

-- a class file by its name, and the verdict on it
abbrev pub file_members : (name : List ℕ) → Verdict → Members
file_members name verdict = with_verdict verdict (with_bytes (codes "file") name no_members)

abbrev pub file_value : (name : List ℕ) → Verdict → Data
file_value name verdict = object (file_members name verdict)

-- each file, in order
unfoldable pub file_values : (names : List (List ℕ)) → List Verdict → List Data
file_values (name ∷ names) (verdict ∷ verdicts) = file_value name verdict ∷ file_values names verdicts
file_values _ _ = []

-- the files, under a name
abbrev pub with_files : (names : List (List ℕ)) → List Verdict → Members → Members
with_files names verdicts members = put (codes "files") (array (items_of (file_values names verdicts))) members

-- a class file with a line of its source, and with what is said of the verdict on it
abbrev pub explained_value : (name : List ℕ) → Verdict → (line : Option ℕ) → (said : List ℕ) → Data
explained_value name verdict line said =
    object (with_text (codes "explanation") said (with_line line (file_members name verdict)))

unfoldable pub explained_values : (names : List (List ℕ)) → List Verdict → (lines : List (Option ℕ)) → (said : List (List ℕ)) → List Data
explained_values (name ∷ names) (verdict ∷ verdicts) (line ∷ lines) (text ∷ said) =
    explained_value name verdict line text ∷ explained_values names verdicts lines said
explained_values _ _ _ _ = []
