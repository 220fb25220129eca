-- The blocks of a String and of its array of chars (JVMS 5.1; own for the fields of java/lang/String).
use Rattle.std.specs.Prelude.{◌≡◌, ℕ, ◌+◌, List, [], ◌∷◌, Option, Some, None, length, replicate}
use Rattle.jv_store.specs.Content.{written}
use Rattle.jv_text.specs.Text.{Spells}
use Rattle.jv_interp_heap.specs.ObjectsInBlocks.{Blocks}
use Rattle.jv_interp_heap.specs.NewBlocks.{Joins}
use Rattle.jv_interp_heap.specs.declared.numbers.TheConstants.{STRING}
use Rattle.jv_interp_objects.specs.declared.units.TheConstants.{CHARS}
use Rattle.jv_interp_objects.specs.Payments.{IsLacking}

-- ---- an array of chars that is filled with the units of a text

pub record CanFill (text : List ℕ) (blocks : Blocks) (address : ℕ) : Type 0 where
  pub units : List ℕ
  pub spells : Spells units text
  pub first : ℕ
  pub second : ℕ
  pub earlier : Blocks
  pub joined : Joins (first ∷ second ∷ replicate (length units) 0) earlier blocks address

abbrev pub Fills : List ℕ → Blocks → Blocks → ℕ → Type 0
Fills text before after address =
    (units : List ℕ) (first second : ℕ) (earlier : Blocks) → Spells units text
    → Joins (first ∷ second ∷ replicate (length units) 0) earlier before address
    → Joins (first ∷ second ∷ units) earlier after address

-- ---- a String, and then its array of chars, whose reference it holds

pub record TextJoins (units : List ℕ) (before after : Blocks) (string : ℕ) : Type 0 where
  pub chars : ℕ
  pub between : Blocks
  pub filled : Blocks
  pub string_joins : Joins (STRING ∷ 0 ∷ []) before between string
  pub chars_join : Joins (CHARS ∷ length units ∷ units) between filled chars
  pub linked : after ≡ written filled string 1 chars

abbrev pub JoinsText : List ℕ → Blocks → Blocks → ℕ → Type 0
JoinsText text before after string = (units : List ℕ) → Spells units text → TextJoins units before after string

-- what both cost: a cell for each word
abbrev pub text_cost : List ℕ → ℕ
text_cost units = 4 + length units

pub record TextPaid (units : List ℕ) (cells cells_after : ℕ) (before after : Blocks) (string : ℕ) : Type 0 where
  pub paid : cells_after + text_cost units ≡ cells
  pub joins : TextJoins units before after string

abbrev pub PaysText : List ℕ → ℕ → ℕ → Blocks → Blocks → Option ℕ → Type 0
PaysText text cells cells_after before after None =
    (units : List ℕ) → Spells units text → IsLacking (text_cost units) cells cells_after before after
PaysText text cells cells_after before after (Some string) =
    (units : List ℕ) → Spells units text → TextPaid units cells cells_after before after string
