-- Types by number, also once more names have got numbers.
use Rattle.std.specs.Prelude.{◌≡◌, ℕ, List, ◌++◌}
use Rattle.jv_verify_types.specs.Typed.{GoesOn}

-- the number stands for the name, and for nothing else however the names go on
pub record Lasts {A B : Type 0} (stands_for : List (List ℕ) → A → B) (names : List (List ℕ)) (number : A) (name : B) : Type 0 where
  pub kept : (longer : List (List ℕ)) → GoesOn names longer → stands_for longer number ≡ name

-- a list goes on in another
pub record IsFront {A : Type 0} (front whole : List A) : Type 0 where
  pub more : List A
  pub joined : whole ≡ front ++ more
