-- Where among bytes a stack map table was found.
use Rattle.std.specs.Prelude.{◌≡◌, ⊤, ℕ, ◌<◌, List, ◌++◌, length, Option, Some, None}
use Rattle.jv_class_structure.specs.declared.attributes.FoundMap.{FoundMap}

-- the rest of bytes behind some front
pub record IsRest (bytes : List ℕ) (rest : List ℕ) : Type 0 where
  pub front : List ℕ
  pub joined : bytes ≡ front ++ rest

-- and the front is not empty
pub record IsBehindSome (bytes : List ℕ) (rest : List ℕ) : Type 0 where
  pub front : List ℕ
  pub joined : bytes ≡ front ++ rest
  pub some : 0 < length front

-- what was found stands there, with something in front of it, before what is behind it
abbrev pub IsFoundIn : List ℕ → Option FoundMap → Type 0
IsFoundIn bytes None = ⊤
IsFoundIn bytes (Some found) = IsBehindSome bytes (found.info.now ++ found.behind.now)

-- and the rest of the bytes is known to be one
pub record AreFoundIn (bytes : List ℕ) (found : Option FoundMap) (rest : List ℕ) : Type 0 where
  pub within : IsFoundIn bytes found
  pub after : IsRest bytes rest
