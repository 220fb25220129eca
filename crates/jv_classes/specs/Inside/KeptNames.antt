-- The names that a table keeps.
use Rattle.std.specs.Prelude.{ℕ, List, map}
use Rattle.std.specs.Borrow.{Bor}

abbrev pub text_of : Bor (List ℕ) → List ℕ
text_of name = name.now

abbrev pub texts_of : List (Bor (List ℕ)) → List (List ℕ)
texts_of names = map text_of names
