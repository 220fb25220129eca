-- Why the reference of an instruction doesn't resolve (JVMS 5.4.3), by the rules of the instruction too (6.5).
use Rattle.std.specs.Prelude.{ℕ, Option, Some, None, Ok, Err}
use Rattle.std.specs.Option.{option_and_then}
use Rattle.jv_code.specs.declared.insn.Insn.TheVariants as insns
use Rattle.jv_code.specs.declared.kinds.FieldAccess.{FieldAccess}
use Rattle.jv_code.specs.declared.kinds.FieldAccess.TheVariants as access
use Rattle.jv_code.specs.declared.kinds.Invocation.{Invocation}
use Rattle.jv_code.specs.declared.kinds.Invocation.TheVariants as invocations
use Rattle.jv_code.specs.Insns.{Instruction}
use Rattle.jv_meaning_world.specs.World.{World}
use Rattle.jv_meaning_typing.specs.Uses.{Site, Use}
use Rattle.jv_meaning_typing.specs.Uses.Use.{Getstatic, Putstatic, Getfield, Putfield, Invokevirtual, Invokespecial, Invokestatic, Invokeinterface, New}
use Rattle.jv_meaning_typing.specs.LinkErrors.{LinkError, OrError}
use Rattle.jv_meaning_typing.specs.Operands.{class_operand, field_operand, method_operand}
use Rattle.jv_meaning_typing.specs.ClassResolution.{resolve_class}
use Rattle.jv_meaning_typing.specs.FieldResolution.{resolve_field}
use Rattle.jv_meaning_typing.specs.MethodResolution.{resolve_method}

-- ---- by the constant at an index; one of another kind, which no accepted method has there, is no reference

-- the error that linking ends in, where it does
abbrev pub error_in : {A : Type 0} → OrError A → Option LinkError
error_in (Ok found) = None
error_in (Err error) = Some error

-- of a class, an interface or an array (5.4.3.1)
abbrev pub class_error : World → Site → Option Use → ℕ → Option LinkError
class_error world site how index =
    option_and_then (λ text. error_in (resolve_class world site how text)) (class_operand site.by.class index)

-- of a field (5.4.3.2)
abbrev pub field_error : World → Site → Use → ℕ → Option LinkError
field_error world site how index =
    option_and_then (λ reference. error_in (resolve_field world site how reference)) (field_operand site.by.class index)

-- of a method (5.4.3.3, 5.4.3.4)
abbrev pub method_error : World → Site → Use → ℕ → Option LinkError
method_error world site how index =
    option_and_then (λ reference. error_in (resolve_method world site how reference)) (method_operand site.by.class index)

-- ---- by the instruction (6.5)

abbrev pub field_use : FieldAccess → Use
field_use access.GetStatic = Getstatic
field_use access.PutStatic = Putstatic
field_use access.GetField = Getfield
field_use access.PutField = Putfield

abbrev pub invoke_use : Invocation → Use
invoke_use invocations.Virtual = Invokevirtual
invoke_use invocations.Special = Invokespecial
invoke_use invocations.Static = Invokestatic

-- none where the reference resolves, and of an instruction that has none
abbrev pub link_error : World → Site → Instruction → Option LinkError
link_error world site (insns.Field how index) = field_error world site (field_use how) index
link_error world site (insns.Invoke how index) = method_error world site (invoke_use how) index
link_error world site (insns.InvokeInterface index count) = method_error world site Invokeinterface index
link_error world site (insns.New index) = class_error world site (Some New) index
link_error world site (insns.NewReferenceArray index) = class_error world site None index
link_error world site (insns.NewMultiArray index dimensions) = class_error world site None index
link_error world site (insns.CheckCast index) = class_error world site None index
link_error world site (insns.InstanceOf index) = class_error world site None index
link_error world site _ = None
