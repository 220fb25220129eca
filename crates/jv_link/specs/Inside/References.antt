-- References to methods, as the code has them.
use Rattle.std.specs.Prelude.{ℕ, Bool, true, false, List, Option}
use Rattle.std.specs.Option.{option_map, option_or}
use Rattle.jv_pool.specs.Constants.{Entry, method_reference_at, interface_method_reference_at}
use Rattle.jv_pool.specs.Seen.{seen_member}
use Rattle.jv_meaning_typing.specs.Operands.{MethodConstant, MethodReference, through}
use Rattle.jv_meaning_typing.specs.Operands.MethodConstant.{Methodref, InterfaceMethodref}
use Rattle.jv_link.specs.declared.reference.MethodName.{MethodName}

abbrev pub constant_of : Bool → MethodConstant
constant_of true = InterfaceMethodref
constant_of false = Methodref

abbrev pub reference_of : MethodName → MethodReference
reference_of m = through (constant_of m.of_interface) (seen_member m.member)

-- what an index of a pool names (4.4.2)
abbrev pub method_operand_in : List Entry → ℕ → Option MethodReference
method_operand_in pool index =
    option_or (option_map (through Methodref) (method_reference_at pool index))
    (option_map (through InterfaceMethodref) (interface_method_reference_at pool index))
