-- Which classes may declare a member of a name and a descriptor, by keys: marks that leave out none that does.
use Rattle.std.specs.Prelude.{◌≡◌, ◌-◌, ◌/◌, ◌%◌, ◌^◌, ◌||◌, ℕ, suc, Bool, false, true, List, [], length, Some, None, bit_and, get_or, nat_eq, slice_get, if◌then◌else◌}
use Rattle.jv_class.specs.Class.{Field, Method, field_named, method_named}
use Rattle.jv_meaning_world.specs.World.{Loaded, World}
use Rattle.jv_classes.specs.Texts.{Key, key_of}

-- the slot into which a key falls, of so many, which are a power of two
abbrev pub slot_of : ℕ → Key → ℕ
slot_of size key = bit_and key (size - 1)

-- A cell for each class: 0 where no key was marked for it, the print of the keys where all that were have one, and else 255. A key
-- has a print from 1 to 254.
abbrev pub print_of : Key → ℕ
print_of key = suc (key / 2 ^ 40 % 254)

abbrev pub has_print : ℕ → ℕ → Bool
has_print print cell = nat_eq cell print || nat_eq cell 255

-- a print more in a cell
abbrev pub with_print : ℕ → ℕ → ℕ
with_print cell print = if nat_eq cell 0 then print else if nat_eq cell print then cell else 255

-- rows of so many cells, one for each class; a key has the row of its slot
pub record MarkedKeys : Type 0 where
  pub width : ℕ
  pub rows : List (List ℕ)

abbrev pub cell_of : List (List ℕ) → ℕ → ℕ → ℕ
cell_of rows slot class = get_or (get_or rows slot []) class 0

-- the row of a key, of so many, whatever their number, by other bits than those that tell its slot among a class's members
abbrev pub row_of : ℕ → Key → ℕ
row_of size key = key / 2 ^ 20 % size

abbrev pub is_marked : MarkedKeys → Key → ℕ → Bool
is_marked marks key class = has_print (print_of key) (cell_of marks.rows (row_of (length marks.rows) key) class)

-- what is marked still is, and there are as many classes
pub record AreKept (old new : MarkedKeys) : Type 0 where
  pub width : new.width ≡ old.width
  pub marked : (key : Key) (class : ℕ) → is_marked old key class ≡ true → is_marked new key class ≡ true

-- ---- the classes of a world

-- each of so many methods, or fields, of a class is marked for it
abbrev pub AreMethodsMarked : ℕ → MarkedKeys → ℕ → List Method → Type 0
AreMethodsMarked seed marks class methods =
    (place : ℕ) (m : Method) → slice_get methods place ≡ Some m → is_marked marks (key_of seed m.name m.descriptor) class ≡ true

abbrev pub AreFieldsMarked : ℕ → MarkedKeys → ℕ → List Field → Type 0
AreFieldsMarked seed marks class fields =
    (place : ℕ) (f : Field) → slice_get fields place ≡ Some f → is_marked marks (key_of seed f.name f.descriptor) class ≡ true

-- so is each of each class
pub record TellsMethods (seed : ℕ) (world : World) (marks : MarkedKeys) : Type 0 where
  pub width : marks.width ≡ length world
  pub marked : (number : ℕ) (l : Loaded) → slice_get world number ≡ Some l → AreMethodsMarked seed marks number l.class.methods

pub record TellsFields (seed : ℕ) (world : World) (marks : MarkedKeys) : Type 0 where
  pub width : marks.width ≡ length world
  pub marked : (number : ℕ) (l : Loaded) → slice_get world number ≡ Some l → AreFieldsMarked seed marks number l.class.fields

-- ---- one name and one descriptor

-- a class that is not marked declares no such method, or no such field
pub record MarksMethod (world : World) (name descriptor : List ℕ) (marks : List Bool) : Type 0 where
  pub size : length marks ≡ length world
  pub none : (number : ℕ) (l : Loaded) → slice_get world number ≡ Some l → get_or marks number false ≡ false
      → method_named l.class name descriptor ≡ None

pub record MarksField (world : World) (name descriptor : List ℕ) (marks : List Bool) : Type 0 where
  pub size : length marks ≡ length world
  pub none : (number : ℕ) (l : Loaded) → slice_get world number ≡ Some l → get_or marks number false ≡ false
      → field_named l.class name descriptor ≡ None
