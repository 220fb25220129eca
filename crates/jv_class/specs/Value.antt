-- The constants that static fields have as their values (JVMS 4.7.2).
use Rattle.std.specs.Prelude.{ℕ, Bool, ◌||◌, List, Option, IsSome, slice_get}
use Rattle.jv_format.specs.Format.{◌>>=◌}
use Rattle.jv_pool.specs.declared.constant.Kind.{Kind}
use Rattle.jv_pool.specs.Constants.{Entry, integer_at, long_at, string_at}
use Rattle.jv_class_structure.specs.Structure.{ClassStructure}
use Rattle.jv_class.specs.Rules.{is_integer, is_long, is_string}
use Rattle.jv_class_structure.specs.Parts.{fields_of}
use Rattle.jv_class.specs.declared.constant_value.ConstantValue.{ConstantValue}
use Rattle.jv_class.specs.declared.constant_value.ConstantValue.TheVariants as values

-- the index that a field's value is at
abbrev pub value_number : ConstantValue → ℕ
value_number (values.Integer index) = index.0
value_number (values.Long index) = index.0
value_number (values.String index) = index.0

-- its constant is of its kind
abbrev pub IsValueNamed : List Entry → ConstantValue → Type 0
IsValueNamed pool (values.Integer index) = IsSome (integer_at pool index.0)
IsValueNamed pool (values.Long index) = IsSome (long_at pool index.0)
IsValueNamed pool (values.String index) = IsSome (string_at pool index.0)

abbrev pub is_value : Option Kind → Bool
is_value constant = is_integer constant || (is_long constant || is_string constant)

-- the index of the value of the field at a place
abbrev pub value_of_field : ClassStructure → ℕ → Option ℕ
value_of_field c place = slice_get (fields_of c) place >>= λ f. f.constant_value
