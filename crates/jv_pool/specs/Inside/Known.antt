-- What is known of the texts of a table, and the rules of constants in terms of it.
use Rattle.std.specs.Prelude.{◌≡◌, ⊤, ℕ, zero, suc, ◌+◌, ◌<◌, ◌≤◌, Bool, true, ◌&&◌, if◌then◌else◌, List, [], ◌∷◌, ◌++◌, length, Option, Some, None, slice_get, get_or, IsTrue}
use Rattle.std.specs.Option.{IsSomeAnd}
use Rattle.jv_format.specs.Format.{◌>>=◌}
use Rattle.jv_text.specs.Text.{IsText}
use Rattle.jv_text.specs.Name.{is_plain_name, is_method_name}
use Rattle.jv_pool.specs.declared.constant.Constant.TheVariants.{NameAndType}
use Rattle.jv_pool.specs.declared.facts.TextFacts.{TextFacts}
use Rattle.jv_pool.specs.declared.facts.MethodFacts.{MethodFacts}
use Rattle.jv_pool.specs.Constants.{Entry, utf8_at}
use Rattle.jv_pool.specs.Rules.{IsMethodDescriptor, KeepsRules}
use Rattle.jv_text.specs.Name.{begins_with, is_init}
use Rattle.jv_pool.specs.Facts.{AreMethodFacts, AreFacts}

-- facts where there is a text, and none where there is none
abbrev pub IsKnown : Option (List ℕ) → Option TextFacts → Type 0
IsKnown None None = ⊤
IsKnown None (Some facts) = ⊥
IsKnown (Some text) None = ⊥
IsKnown (Some text) (Some facts) = AreFacts text facts

-- A place is one more than the number of the facts before some; 0 is that of none.
abbrev pub known_in : List TextFacts → ℕ → Option TextFacts
known_in facts zero = None
known_in facts (suc before) = slice_get facts before

-- at every index
abbrev pub AllKnown : List Entry → List TextFacts → List ℕ → Type 0
AllKnown pool facts places = (index : ℕ) → IsKnown (utf8_at pool index) (known_in facts (get_or places index 0))

-- so far
pub record KnownBelow (pool : List Entry) (count : ℕ) (facts : List TextFacts) (places : List ℕ) : Type 0 where
  pub long : length places ≡ count
  pub few : length facts ≤ count
  pub within : (index : ℕ) → get_or places index 0 ≤ length facts
  pub known : (index : ℕ) → index < count → IsKnown (utf8_at pool index) (known_in facts (get_or places index 0))

-- the place that the first text alike has, where it is among these
abbrev pub place_alike : List ℕ → List ℕ → ℕ → Option ℕ
place_alike alike places index = slice_get alike index >>= slice_get places

-- the place of a text's facts: none where there is no text; the one that facts of the same text have; or one behind the others, where
-- they joined
abbrev pub IsAdded : Option (List ℕ) → Option ℕ → List TextFacts → List TextFacts → ℕ → Type 0
IsAdded None known before after place = (after ≡ before) × (place ≡ 0)
IsAdded (Some text) (Some known) before after place = (after ≡ before) × (place ≡ known)
IsAdded (Some text) None before after place =
    (facts : TextFacts) × AreFacts text facts × (after ≡ before ++ facts ∷ []) × (place ≡ length before + 1)

-- where it joined, it is modified UTF-8 (4.4.7)
abbrev pub IsNewText : Option (List ℕ) → Option ℕ → Type 0
IsNewText (Some text) None = IsText text
IsNewText text before = ⊤

-- all texts are, and those at the first indices
abbrev pub AreTexts : List Entry → Type 0
AreTexts pool = (index : ℕ) (text : List ℕ) → utf8_at pool index ≡ Some text → IsText text

abbrev pub AreTextsBelow : List Entry → ℕ → Type 0
AreTextsBelow pool count = (index : ℕ) → index < count → (text : List ℕ) → utf8_at pool index ≡ Some text → IsText text

-- what is known of a method descriptor
abbrev pub MethodKnown : Option (List ℕ) → Option MethodFacts → Type 0
MethodKnown text (Some facts) = IsSomeAnd text (λ t. AreMethodFacts t facts)
MethodKnown text None = IsSomeAnd text IsMethodDescriptor → ⊥

-- a name that a method can have whose result is void, or not
abbrev pub special_keeps_rules : List ℕ → Bool → Bool
special_keeps_rules name void = if begins_with 60 name then is_init name && void else true

abbrev pub is_named_for : Bool → List ℕ → Bool
is_named_for void name = is_method_name name && special_keeps_rules name void

abbrev pub IsNamedFor : Bool → List ℕ → Type 0
IsNamedFor void name = IsTrue (is_named_for void name)

-- a name that a method can have that is called through an interface
pub record IsPlainMethodName (name : List ℕ) : Type 0 where
  pub named : IsTrue (is_method_name name)
  pub plain : IsTrue (is_plain_name name)

-- the indices that a NameAndType constant holds
abbrev pub pair_in : Option Entry → Option (ℕ × ℕ)
pair_in (Some (NameAndType name descriptor)) = Some (name, descriptor)
pair_in _ = None

-- P of the constant that is there
abbrev pub At : (Entry → Type 0) → Option Entry → Type 0
At P None = ⊤
At P (Some c) = P c

-- an index that names a constant names one that keeps its rules
abbrev pub IsKept : List Entry → Option Entry → Type 0
IsKept pool o = At (KeepsRules pool) o
