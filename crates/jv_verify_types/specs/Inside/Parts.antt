-- What constants of members refer to, by indices (JVMS 4.4.2, 4.4.6).
use Rattle.std.specs.Prelude.{ℕ, Bool, true, false, List, Option, Some, None}
use Rattle.std.specs.Option.{option_map}
use Rattle.jv_format.specs.Format.{◌>>=◌}
use Rattle.jv_pool.specs.declared.constant.Constant.TheVariants.{Fieldref, Methodref, InterfaceMethodref, NameAndType}
use Rattle.jv_pool.specs.Constants.{Entry, MemberReference, at_index, class_name_at, utf8_at}
use Rattle.jv_verify_types.specs.declared.indices.MemberIndices.{MemberIndices}
use Rattle.jv_verify_types.specs.declared.indices.MethodIndices.{MethodIndices}

abbrev pub member_indices : ℕ → Option Entry → Option MemberIndices
member_indices class (Some (NameAndType name descriptor)) = Some (record { class = class; name = name; descriptor = descriptor })
member_indices class _ = None

abbrev pub field_indices : List Entry → Option Entry → Option MemberIndices
field_indices pool (Some (Fieldref class member)) = member_indices class (at_index pool member)
field_indices pool _ = None

abbrev pub method_with : Bool → MemberIndices → MethodIndices
method_with of_class member = record { of_class = of_class; member = member }

abbrev pub method_indices : List Entry → Option Entry → Option MethodIndices
method_indices pool (Some (Methodref class member)) = option_map (method_with true) (member_indices class (at_index pool member))
method_indices pool (Some (InterfaceMethodref class member)) = option_map (method_with false) (member_indices class (at_index pool member))
method_indices pool _ = None

abbrev pub reference_of : List ℕ → List ℕ → List ℕ → MemberReference
reference_of class name descriptor = record { class = class; name = name; descriptor = descriptor }

-- the texts that the indices name
abbrev pub reference_at : List Entry → MemberIndices → Option MemberReference
reference_at pool i =
    class_name_at pool i.class >>= λ class. utf8_at pool i.name >>= λ name. utf8_at pool i.descriptor >>= λ descriptor.
    Some (reference_of class name descriptor)
