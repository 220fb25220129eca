-- The names in a folder.
use Rattle.std.specs.Prelude.{ℕ, ◌-◌, Bool, List, length, take, nat_eq, codes, ◌==◌}
use Rattle.std.specs.List.{ends_with, list_any, slice_split}
use Rattle.std.specs.Str.{bytes_eq}

-- a name that ends in `.class`
abbrev pub is_class_file : List ℕ → Bool
is_class_file name = ends_with nat_eq name (codes ".class")

-- the parts of a listing between its NULs, before the first and behind the last
abbrev pub listing_parts : List ℕ → List (List ℕ)
listing_parts listing = slice_split (λ byte. byte == 0) listing

-- The names in a listing, in which a NUL ends each: its parts without the last, which nothing ends.
abbrev pub names_listed : List ℕ → List (List ℕ)
names_listed listing = take (length (listing_parts listing) - 1) (listing_parts listing)

-- a name is among some
abbrev pub is_listed_name : List ℕ → List (List ℕ) → Bool
is_listed_name wanted names = list_any (λ name. bytes_eq name wanted) names
