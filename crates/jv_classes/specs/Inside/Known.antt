-- The numbers of the classes that the texts of a constant pool name, as far as they were looked up.
use Rattle.std.specs.Prelude.{◌≡◌, ⊤, ℕ, List, get_or, Option, Some, None}
use Rattle.jv_format.specs.Format.{◌>>=◌}
use Rattle.jv_pool.specs.Constants.{Entry, utf8_at, class_name_at}
use Rattle.jv_pool.specs.declared.index.ClassIndex.{ClassIndex}
use Rattle.jv_meaning_world.specs.World.{World}
use Rattle.jv_meaning_world.specs.Numbers.{number_named}

-- the class whose name is the text at an index
abbrev pub text_number : World → List Entry → ℕ → Option ℕ
text_number world pool index = utf8_at pool index >>= number_named world

-- the class that a Class constant names
abbrev pub class_number : World → List Entry → ClassIndex → Option ℕ
class_number world pool index = class_name_at pool index.0 >>= number_named world

-- what is known of a text, if anything, is so
abbrev pub IsKnown : World → List Entry → ℕ → Option (Option ℕ) → Type 0
IsKnown world pool index None = ⊤
IsKnown world pool index (Some number) = number ≡ text_number world pool index

abbrev pub AreKnown : World → List Entry → List (Option (Option ℕ)) → Type 0
AreKnown world pool known = (index : ℕ) → IsKnown world pool index (get_or known index None)
