-- Names of classes, fields and methods in class files (JVMS 4.2.1, 4.2.2).
use Rattle.std.specs.Prelude.{ℕ, Bool, false, List, [], ◌∷◌, length, ◌==◌, not, ◌&&◌, ◌||◌, codes}
use Rattle.std.specs.List.{list_all, slice_split}
use Rattle.std.specs.Str.{bytes_eq}

-- `.`, `;`, `[` and `/` stand in no unqualified name
abbrev pub is_name_byte : ℕ → Bool
is_name_byte byte = not (byte == 46 || byte == 59 || byte == 91 || byte == 47)

-- a name that is not empty and has none of these
abbrev pub is_unqualified_name : List ℕ → Bool
is_unqualified_name text = not (length text == 0) && list_all is_name_byte text

-- unqualified names joined by `/`
abbrev pub is_class_name : List ℕ → Bool
is_class_name text = list_all is_unqualified_name (slice_split (λ byte. byte == 47) text)

-- `<init>` and `<clinit>`
abbrev pub is_special_name : List ℕ → Bool
is_special_name text = bytes_eq text (codes "<init>") || bytes_eq text (codes "<clinit>")

-- neither `<` nor `>` stands in it
abbrev pub is_plain_name : List ℕ → Bool
is_plain_name text = list_all (λ byte. not (byte == 60 || byte == 62)) text

-- an unqualified name that is special or plain
abbrev pub is_method_name : List ℕ → Bool
is_method_name text = is_unqualified_name text && (is_special_name text || is_plain_name text)

abbrev pub begins_with : ℕ → List ℕ → Bool
begins_with byte [] = false
begins_with byte (first ∷ rest) = first == byte

-- A Class constant names an array type by its descriptor, which begins with `[` (91), as no class name does (4.3.2, 4.4.1).
abbrev pub is_array_name : List ℕ → Bool
is_array_name text = begins_with 91 text

-- `<init>` (2.9)
abbrev pub is_init : List ℕ → Bool
is_init name = bytes_eq name (codes "<init>")
