-- The least index of each text of a table.
use Rattle.std.specs.Prelude.{◌≡◌, ◌≢◌, ⊤, ℕ, ◌<◌, List, length, Option, Some, None, slice_get}
use Rattle.std.specs.Borrow.{Bor}
use Rattle.std.specs.BTreeMap.{BTreeMap, get_by}
use Rattle.std.specs.Cmp.Lexicographic.{slice_cmp}
use Rattle.std.specs.Ordering.{nat_cmp}
use Rattle.jv_pool.specs.Constants.{Entry, utf8_at}

-- the text of this index is there, and at no index below
pub record IsFirst (pool : List Entry) (index : ℕ) (found : ℕ) : Type 0 where
  pub same : utf8_at pool found ≡ utf8_at pool index
  pub first : (i : ℕ) → i < found → utf8_at pool i ≢ utf8_at pool index

-- where there is a text
abbrev pub IsAlike : List Entry → ℕ → Option (List ℕ) → Option ℕ → Type 0
IsAlike pool index None found = ⊤
IsAlike pool index (Some text) None = ⊥
IsAlike pool index (Some text) (Some found) = IsFirst pool index found

-- at every index
abbrev pub IsInOrder : List Entry → List ℕ → Type 0
IsInOrder pool alike = (index : ℕ) → IsAlike pool index (utf8_at pool index) (slice_get alike index)

-- so far
pub record AlikeBelow (pool : List Entry) (count : ℕ) (alike : List ℕ) : Type 0 where
  pub long : length alike ≡ count
  pub each : (index : ℕ) → index < count → IsAlike pool index (utf8_at pool index) (slice_get alike index)

-- the least index below a bound with this text
abbrev pub IsFirstBelow : List Entry → ℕ → List ℕ → Option ℕ → Type 0
IsFirstBelow pool bound text (Some found) = (utf8_at pool found ≡ Some text) × ((i : ℕ) → i < found → utf8_at pool i ≢ Some text)
IsFirstBelow pool bound text None = (i : ℕ) → i < bound → utf8_at pool i ≢ Some text

abbrev pub first_in : BTreeMap (Bor (List ℕ)) ℕ → List ℕ → Option ℕ
first_in firsts text = get_by (λ k. slice_cmp nat_cmp text k.now) firsts

-- the map has that of each text
abbrev pub AreFirsts : List Entry → ℕ → BTreeMap (Bor (List ℕ)) ℕ → Type 0
AreFirsts pool bound firsts = (text : List ℕ) → IsFirstBelow pool bound text (first_in firsts text)
