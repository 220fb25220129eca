-- Relations on the numbers below some number, and the ways along them.
use Rattle.std.specs.Prelude.{◌≡◌, ℕ, Bool, true, false, List, [], ◌∷◌, length, get_or, set, replicate, nat_eq, Option, Some, None, IfSome, IsTrue, ◌<◌, ◌&&◌, ◌||◌}
use Rattle.std.specs.List.{All}

-- for each number, from 0, a row that tells of each whether it is related to it
abbrev pub Rows : Type 0
Rows = List (List Bool)

-- as many in each row as there are rows
abbrev pub IsSquare : Rows → Type 0
IsSquare rows = All (λ row. length row ≡ length rows) rows

-- whether the first number is related to the second; a number that is no row's is related to none
abbrev pub related : Rows → ℕ → ℕ → Bool
related rows from to = get_or (get_or rows from []) to false

abbrev pub empty : ℕ → Rows
empty size = replicate size (replicate size false)

-- one pair more, where both are numbers of rows
abbrev pub with_pair : Rows → ℕ → ℕ → Rows
with_pair rows from to = set rows from (set (get_or rows from []) to true)

-- a number that is there is below a size
abbrev pub IsBelowSize : ℕ → Option ℕ → Type 0
IsBelowSize size place = IfSome place (λ n. n < size)

abbrev pub is_there : ℕ → Option ℕ → Bool
is_there number None = false
is_there number (Some n) = nat_eq number n

-- a way from one number to another, with those between
abbrev pub IsWay : Rows → ℕ → List ℕ → ℕ → Type 0
IsWay rows from [] to = IsTrue (related rows from to)
IsWay rows from (by ∷ more) to = IsTrue (related rows from by) × IsWay rows by more to

-- in one step or more
abbrev pub Reaches : Rows → ℕ → ℕ → Type 0
Reaches rows from to = (between : List ℕ) × IsWay rows from between to

-- A law: of what is reached there is a way with fewer between than there are numbers.
abbrev pub ShortWays : Type 0
ShortWays =
    (rows : Rows) (from to : ℕ) → IsSquare rows → Reaches rows from to
    → (between : List ℕ) × IsWay rows from between to × (length between < length rows)

-- a row gets what another has, if it has the number of that one
abbrev pub JoinsWhere : ℕ → List Bool → List Bool → List Bool → Type 0
JoinsWhere by other old new = (to : ℕ) → get_or new to false ≡ (get_or old to false || (get_or old by false && get_or other to false))
