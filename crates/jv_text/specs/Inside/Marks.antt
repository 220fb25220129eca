-- The marks of bytes, by which one pass tells what a text can be the name of.
use Rattle.std.specs.Prelude.{◌≡◌, ℕ, ◌<◌, ◌%◌, ◌==◌, nat_lt, Bool, not, ◌&&◌, ◌||◌, List, get_or}
use Rattle.std.specs.List.{list_all}
use Rattle.jv_text.specs.declared.kinds.TheConstants.{MARKS}
use Rattle.jv_text.specs.Name.{is_name_byte}

abbrev pub mark_at : ℕ → ℕ
mark_at byte = get_or MARKS byte 0

-- spells a unit alone
abbrev pub is_single : ℕ → Bool
is_single byte = nat_lt 0 byte && nat_lt byte 128

-- stands in class names: in a part, or between two
abbrev pub is_class_byte : ℕ → Bool
is_class_byte byte = is_name_byte byte || byte == 47

abbrev pub is_no_angle : ℕ → Bool
is_no_angle byte = not (byte == 60 || byte == 62)

-- stands in each kind of name
abbrev pub is_plain_byte : ℕ → Bool
is_plain_byte byte = is_name_byte byte && is_no_angle byte

-- what marks say
abbrev pub all_single : ℕ → Bool
all_single marks = marks % 2 == 0

abbrev pub are_below : ℕ → ℕ → Bool
are_below bound marks = nat_lt marks bound

-- The marks of a text, in one number.
pub record AreMarks (text : List ℕ) (marks : ℕ) : Type 0 where
  pub few : marks < 16
  pub single : all_single marks ≡ list_all is_single text
  pub plain : are_below 2 marks ≡ list_all is_plain_byte text
  pub name : are_below 4 marks ≡ list_all is_name_byte text
  pub class : are_below 8 marks ≡ list_all is_class_byte text
