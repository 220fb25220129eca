-- A table in which names are found: each falls into a slot, and those of one slot are linked, the last one first.
use Rattle.std.specs.Prelude.{◌≡◌, ◌<◌, ◌≤◌, ℕ, zero, suc, List, [], Some, length, get_or, nat_eq, position, if◌then◌else◌}
use Rattle.std.specs.Borrow.{Bor}
use Rattle.std.specs.Str.{bytes_eq}
use Rattle.jv_classes.specs.Inside.KeptNames.{texts_of}
use Rattle.jv_classes.specs.Marks.{slot_of}
use Rattle.jv_classes.specs.Texts.{text_hash}

abbrev pub text_in : List (List ℕ) → ℕ → List ℕ
text_in texts place = get_or texts place []

-- the slot into which a text falls, of so many
abbrev pub slot_of_text : ℕ → ℕ → List ℕ → ℕ
slot_of_text seed size text = slot_of size (text_hash seed text)

-- of so many texts, the end of those up to the last one that falls into a slot, 0 where none does
abbrev pub end_in : ℕ → ℕ → ℕ → List (List ℕ) → ℕ → ℕ
end_in seed size slot texts zero = 0
end_in seed size slot texts (suc place) =
    if nat_eq (slot_of_text seed size (text_in texts place)) slot then suc place else end_in seed size slot texts place

-- of so many texts a table of so many slots has the end for each slot, and each text that for those before it in its slot
pub record AreLinkedTo (seed size : ℕ) (texts : List (List ℕ)) (count : ℕ) (before ends : List ℕ) : Type 0 where
  pub long : length ends ≡ size
  pub heads : (slot : ℕ) → slot < size → get_or ends slot 0 ≡ end_in seed size slot texts count
  pub links : (place : ℕ) → place < count
      → get_or before place 0 ≡ end_in seed size (slot_of_text seed size (text_in texts place)) texts place

-- no two are equal: each is the first of those like it
abbrev pub AreApart : List (List ℕ) → Type 0
AreApart texts = (place : ℕ) → place < length texts → position (bytes_eq (text_in texts place)) texts ≡ Some place

-- names, no two equal, that are all linked; there are as many slots at least
pub record AreNamesLinked (seed : ℕ) (names : List (Bor (List ℕ))) (before ends : List ℕ) : Type 0 where
  pub many : length before ≡ length names
  pub room : length names ≤ length ends
  pub linked : AreLinkedTo seed (length ends) (texts_of names) (length names) before ends
  pub apart : AreApart (texts_of names)
