-- What the code finds behind a version.
use Rattle.std.specs.Prelude.{ℕ, List, Option, Some, None, slice_get}
use Rattle.std.specs.List.{All}
use Rattle.jv_class_structure.specs.Parts.{IsBehindVersion}
use Rattle.jv_class_structure.specs.Structure.{ClassStructure}
use Rattle.jv_class.specs.Rules.{KeepsClassRules}
use Rattle.jv_malformed.specs.First.{IsFirstBreach}
use Rattle.jv_malformed.specs.Part.{IsFaultyBehind}
use Rattle.jv_malformed.specs.declared.part.FaultyPart.{FaultyPart}

-- no structure stands there
abbrev pub NoStructure : (major : ℕ) → List ℕ → Type 0
NoStructure major rest = (c : ClassStructure) → IsBehindVersion major rest c → ⊥

-- no structure that stands there keeps the rules
abbrev pub NoClassBehind : (major : ℕ) → List ℕ → Type 0
NoClassBehind major rest = (c : ClassStructure) → IsBehindVersion major rest c → KeepsClassRules c → ⊥

-- what is at fault, where that is so
abbrev pub IsFaultyUnlessClass : (major : ℕ) → List ℕ → FaultyPart → Type 0
IsFaultyUnlessClass major rest part = NoClassBehind major rest → IsFaultyBehind major rest part

-- the place of the first item that breaks a rule, where one does
abbrev pub IsFoundAmong : {A : Type 0} → (A → Type 0) → List A → Option ℕ → Type 0
IsFoundAmong Keeps items None = All Keeps items
IsFoundAmong Keeps items (Some place) = IsFirstBreach Keeps (slice_get items) place
