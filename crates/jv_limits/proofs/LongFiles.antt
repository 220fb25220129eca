-- The files of a guest, as the code has them.
use Rattle.std.proofs.Common.{◌≡◌, ℕ, Bool, List, [], ◌∷◌, refl, ap}
use Rattle.std.specs.Prelude.{map, ◌||◌}
use Rattle.std.specs.Borrow.{Bor}
use Rattle.std.specs.List.{list_any}
use Rattle.jv_limits.specs.Bytes.{bytes_of}
use Rattle.jv_limits.specs.FileLimits.{is_long_file}

pub any_long_file : (files : List (Bor (List ℕ))) → list_any is_long_file (map bytes_of files) ≡ list_any (λ file. is_long_file file.now) files
any_long_file [] = refl
any_long_file (f ∷ files) = ap (λ (b : Bool). is_long_file f.now || b) (any_long_file files)
