-- Bytes that the code refers to.
use Rattle.std.specs.Prelude.{ℕ, List}
use Rattle.std.specs.Borrow.{Bor}

abbrev pub bytes_of : Bor (List ℕ) → List ℕ
bytes_of bytes = bytes.now
