-- The name in the file `main`.
use Rattle.std.specs.Prelude.{ℕ, ◌-◌, List, [], ◌∷◌, length, take, nat_eq, if◌then◌else◌}
use Rattle.std.specs.List.{ends_with}

-- the text less one LF, or CR LF, at its end
abbrev pub main_name_of : List ℕ → List ℕ
main_name_of text =
    if ends_with nat_eq text (13 ∷ 10 ∷ []) then take (length text - 2) text
    else (if ends_with nat_eq text (10 ∷ []) then take (length text - 1) text else text)
