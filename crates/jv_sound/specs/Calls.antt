-- What the methods of host/Io are, which are built in (own).
use Rattle.std.specs.Prelude.{◌≡◌, ℕ, List, codes, [], ◌∷◌, Some, None}
use Rattle.jv_text.specs.declared.descriptor.Base.TheVariants as bases
use Rattle.jv_text.specs.declared.descriptor.FieldTypeOf.{FieldTypeOf}
use Rattle.jv_text.specs.Descriptor.{MethodDescriptor}
use Rattle.jv_text.specs.Types.{method_type_of}
use Rattle.jv_meaning_world.specs.Overriding.{Declared}
use Rattle.jv_meaning_typing.specs.Named.{class_components}
use Rattle.jv_meaning_machine.specs.Arrays.{base_components}
use Rattle.jv_meaning_machine.specs.Calls.{HostMethod, host_method}
use Rattle.jv_meaning_machine.specs.Calls.HostMethod.{Read, Write, ClassName, ArrayLike}

abbrev pub of_object : FieldTypeOf (List ℕ)
of_object = class_components (codes "java/lang/Object")

abbrev pub of_objects : FieldTypeOf (List ℕ)
of_objects = record { dimensions = 1; element = of_object.element }

-- `read()`, `write(int)`, `className(Object, int)` and `arrayLike(Object[], int)`, by the descriptor that goes with the name
abbrev pub host_type : HostMethod → MethodDescriptor
host_type Read = record { parameters = []; result = Some (base_components bases.Int) }
host_type Write = record { parameters = base_components bases.Int ∷ []; result = None }
host_type ClassName = record { parameters = of_object ∷ base_components bases.Int ∷ []; result = Some (base_components bases.Int) }
host_type ArrayLike = record { parameters = of_objects ∷ base_components bases.Int ∷ []; result = Some of_objects }

abbrev pub IsHostMethod : Declared → Type 0
IsHostMethod d = method_type_of d.method.descriptor ≡ Some (host_type (host_method d.method.name))
