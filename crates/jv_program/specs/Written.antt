-- What is written.
use Rattle.std.specs.Prelude.{◌≡◌, ◌≢◌, ◌++◌, ℕ, List, [], OnOk, Option, Result, Some, None, string_bytes, unwrap_or}
use Rattle.std.specs.Io.KnownBytes.{Appends}
use Rattle.jv_program_base.specs.Outcome.{raw_bytes}
use Rattle.jv_program_base.specs.declared.outcome.Outcome.{Outcome}

-- what goes to the output: what a guest wrote, where that goes there in the report's place, and else the report
abbrev pub shown_of : Outcome → List ℕ
shown_of outcome = unwrap_or (raw_bytes outcome) (string_bytes outcome.report)

-- what goes with the errors: the report, where what a guest wrote goes to the output in its place
abbrev pub beside : (raw : Option (List ℕ)) → (report : List ℕ) → List ℕ
beside None report = []
beside (Some bytes) report = report

abbrev pub beside_of : Outcome → List ℕ
beside_of outcome = beside (raw_bytes outcome) (string_bytes outcome.report)

-- the front of a text was written, which may be none of it and is not all, and nothing else
abbrev pub WritesCut : Option (List ℕ) → Option (List ℕ) → List ℕ → Type 0
WritesCut old new text = (front : List ℕ) × (rest : List ℕ) × (rest ≢ []) × (text ≡ front ++ rest) × Appends old new front

-- a text was written, whole or its front, and nothing else
abbrev pub WritesFront : Option (List ℕ) → Option (List ℕ) → List ℕ → Type 0
WritesFront old new text = (front : List ℕ) × (rest : List ℕ) × (text ≡ front ++ rest) × Appends old new front

-- a text was written, whole where this ends well, or its front, and nothing else
abbrev pub IsWritten : {T E : Type 0} → Result T E → Option (List ℕ) → Option (List ℕ) → List ℕ → Type 0
IsWritten result old new text = OnOk result (Appends old new text) × WritesFront old new text
