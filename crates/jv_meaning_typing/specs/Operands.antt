-- What the operands of instructions name: symbolic references to classes, fields and methods (JVMS 5.1), as the constants
-- of the class have them (4.4.1, 4.4.2). A field is a `MemberReference`, a class the text of its Class constant.
use Rattle.std.specs.Prelude.{ℕ, List, Option}
use Rattle.std.specs.Option.{option_map, option_or}
use Rattle.jv_pool.specs.Constants.{MemberReference, class_name_at, field_reference_at, method_reference_at, interface_method_reference_at}
use Rattle.jv_class.specs.Class.{Class}

-- the constant that names a method: of a class, or of an interface
pub data MethodConstant : Type 0 where
  Methodref : MethodConstant
  InterfaceMethodref : MethodConstant

pub record MethodReference : Type 0 where
  pub constant : MethodConstant
  pub member : MemberReference

abbrev pub through : MethodConstant → MemberReference → MethodReference
through constant member = record { constant = constant; member = member }

-- ---- what an index of the class's constants names; None where it is one of another kind

abbrev pub class_operand : Class → ℕ → Option (List ℕ)
class_operand class index = class_name_at class.constant_pool index

abbrev pub field_operand : Class → ℕ → Option MemberReference
field_operand class index = field_reference_at class.constant_pool index

abbrev pub method_operand : Class → ℕ → Option MethodReference
method_operand class index =
    option_or (option_map (through Methodref) (method_reference_at class.constant_pool index))
    (option_map (through InterfaceMethodref) (interface_method_reference_at class.constant_pool index))
