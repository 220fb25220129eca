-- Hashes of the texts of a constant pool.
use Rattle.std.specs.Prelude.{◌≡◌, ◌≢◌, ℕ, List, Some, slice_get}
use Rattle.jv_pool.specs.Constants.{Entry, utf8_at}
use Rattle.jv_classes.specs.Texts.{text_hash}

-- where there is one for the index of a text, and it is not 0, it is that of the text
abbrev pub AreHashes : ℕ → List Entry → List ℕ → Type 0
AreHashes seed pool hashes =
    (index : ℕ) (text : List ℕ) (hash : ℕ) → utf8_at pool index ≡ Some text → slice_get hashes index ≡ Some hash
    → hash ≢ 0 → hash ≡ text_hash seed text
