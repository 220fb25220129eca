-- Worked rows: what is initialized before a class, where objects keep their fields, and what constants name, computed.
use Rattle.std.specs.Prelude.{◌≡◌, ℕ, List, [], ◌∷◌, map, Some, None, codes}
use Rattle.jv_pool.specs.declared.constant.Constant.TheVariants as constants
use Rattle.jv_class.specs.Class.{Class, Field}
use Rattle.jv_meaning_world.specs.Rows.Files.{object_name}
use Rattle.jv_meaning_typing.specs.Operands.{class_operand, field_operand, method_operand, through}
use Rattle.jv_meaning_typing.specs.Operands.MethodConstant.{Methodref, InterfaceMethodref}
use Rattle.jv_meaning_typing.specs.InitializationOrder.{init_order}
use Rattle.jv_meaning_typing.specs.Layout.{layout, object_cells}
use Rattle.jv_meaning_typing.specs.Rows.LinkingSamples.{m, class, with_fields, implementing, interface, world_with, guest, member}

-- ---- initialization

abbrev pub before : List Class → Class → List (List ℕ)
before classes class = map (λ l. l.class.name) (init_order (world_with classes) (guest class))

-- I and K have a default; J extends K and I with a private method, S has a static one alone, B an abstract one alone, and D
-- extends S and I with a default
abbrev pub J : Class
J = interface (codes "J") (codes "K" ∷ codes "I" ∷ []) (m 2)

abbrev pub P : Class
P = implementing (codes "P") object_name (codes "K" ∷ []) []

abbrev pub C : List (List ℕ) → Class
C supers = implementing (codes "C") (codes "P") supers []

abbrev pub interfaces : List Class
interfaces =
    P
    ∷ interface (codes "I") [] (m 1)
    ∷ interface (codes "K") [] (m 1)
    ∷ J
    ∷ interface (codes "S") [] (m 9)
    ∷ interface (codes "B") [] (m 1025)
    ∷ interface (codes "D") (codes "S" ∷ codes "I" ∷ []) (m 1)
    ∷ []

pub record InitializationRows : Type 0 where
  pub superclass : before interfaces (C []) ≡ codes "P" ∷ []
  -- an interface's superinterfaces first, and then it
  pub own_first : before interfaces (C (codes "J" ∷ [])) ≡ codes "P" ∷ codes "K" ∷ codes "I" ∷ codes "J" ∷ []
  -- each once, at its first place
  pub diamond : before interfaces (C (codes "I" ∷ codes "J" ∷ codes "D" ∷ []))
      ≡ codes "P" ∷ codes "I" ∷ codes "K" ∷ codes "J" ∷ codes "D" ∷ []
  -- interfaces without a method that is neither abstract nor static are left out
  pub left_out : before interfaces (C (codes "S" ∷ codes "B" ∷ codes "D" ∷ [])) ≡ codes "P" ∷ codes "I" ∷ codes "D" ∷ []
  -- an interface initializes none before itself
  pub interface : before interfaces J ≡ []

-- ---- layouts

abbrev pub field : ℕ → List ℕ → List ℕ → Field
field flags name descriptor = record { access_flags = flags; name = name; descriptor = descriptor; initial = None }

-- X has an int a, a static int b and a long c; Y extends it with an array a and a byte d
abbrev pub X : Class
X = with_fields (codes "X") object_name
    (field 2 (codes "a") (codes "I") ∷ field 10 (codes "b") (codes "I") ∷ field 1 (codes "c") (codes "J") ∷ [])

abbrev pub Y : Class
Y = with_fields (codes "Y") (codes "X") (field 1 (codes "a") (codes "[J") ∷ field 1 (codes "d") (codes "B") ∷ [])

abbrev pub places : Class → List (List ℕ × List ℕ × ℕ)
places class = map (λ p. (p.field.by.class.name, p.field.field.name, p.place)) (layout (world_with (X ∷ Y ∷ [])) (guest class))

pub record LayoutRows : Type 0 where
  pub of_x : places X ≡ (codes "X", codes "a", 0) ∷ (codes "X", codes "c", 1) ∷ []
  pub of_y : places Y ≡ (codes "X", codes "a", 0) ∷ (codes "X", codes "c", 1) ∷ (codes "Y", codes "a", 3) ∷ (codes "Y", codes "d", 4) ∷ []
  pub cells_of_x : object_cells (world_with (X ∷ Y ∷ [])) (guest X) ≡ 4
  pub cells_of_y : object_cells (world_with (X ∷ Y ∷ [])) (guest Y) ≡ 6

-- ---- constants

-- 1 `p/A`, 2 that class, 3 `m`, 4 `()V`, 5 these two, 6 a method of a class, 7 one of an interface; 8 `x`, 9 `I`, 10 these two,
-- 11 a field
abbrev pub with_constants : Class
with_constants = record (class (codes "A") object_name []) {
  constant_pool =
      constants.Utf8 (codes "p/A") ∷ constants.Class 1 ∷ constants.Utf8 (codes "m") ∷ constants.Utf8 (codes "()V")
      ∷ constants.NameAndType 3 4
      ∷ constants.Methodref 2 5 ∷ constants.InterfaceMethodref 2 5
      ∷ constants.Utf8 (codes "x") ∷ constants.Utf8 (codes "I") ∷ constants.NameAndType 8 9 ∷ constants.Fieldref 2 10 ∷ [];
}

pub record OperandRows : Type 0 where
  pub class : class_operand with_constants 2 ≡ Some (codes "p/A")
  pub field : field_operand with_constants 11 ≡ Some (member (codes "p/A") (codes "x") (codes "I"))
  pub method : method_operand with_constants 6 ≡ Some (through Methodref (member (codes "p/A") (codes "m") (codes "()V")))
  pub interface_method : method_operand with_constants 7
      ≡ Some (through InterfaceMethodref (member (codes "p/A") (codes "m") (codes "()V")))
  pub other_kind : method_operand with_constants 11 ≡ None
