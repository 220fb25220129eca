-- Resolution of methods of classes (JVMS 5.4.3.3) and of interfaces (5.4.3.4).
use Rattle.std.specs.Prelude.{Bool, true, not, ◌||◌}
use Rattle.std.specs.Option.{ok_or}
use Rattle.jv_text.specs.Name.{is_init}
use Rattle.jv_pool.specs.Constants.{MemberReference}
use Rattle.jv_meaning_world.specs.World.{Loaded, World}
use Rattle.jv_meaning_world.specs.Overriding.{Declared}
use Rattle.jv_meaning_world.specs.Verdicts.{is_interface}
use Rattle.jv_meaning_world.specs.LookUps.{lookup_class_method, lookup_interface_method}
use Rattle.jv_meaning_typing.specs.Uses.{Use, Site}
use Rattle.jv_meaning_typing.specs.Uses.Use.{Invokespecial}
use Rattle.jv_meaning_typing.specs.LinkErrors.{OrError, ◌>>=◌, provided}
use Rattle.jv_meaning_typing.specs.LinkErrors.LinkError.{IncompatibleClassChangeError, IllegalAccessError, NoSuchMethodError}
use Rattle.jv_meaning_typing.specs.Operands.{MethodConstant, MethodReference}
use Rattle.jv_meaning_typing.specs.Operands.MethodConstant.{Methodref, InterfaceMethodref}
use Rattle.jv_meaning_typing.specs.ClassResolution.{resolve_text, member_class}
use Rattle.jv_meaning_typing.specs.Access.{same_class, can_access}
use Rattle.jv_meaning_typing.specs.Kind.{has_method_kind}

-- a method, with the class that the constant names, java/lang/Object for an array
pub record MethodTarget : Type 0 where
  pub named : Loaded
  pub declared : Declared

abbrev pub target : Loaded → Declared → MethodTarget
target named declared = record { named = named; declared = declared }

-- a Methodref names no interface, and an InterfaceMethodref names one
abbrev pub names_its_kind : MethodConstant → Loaded → Bool
names_its_kind Methodref named = not (is_interface named)
names_its_kind InterfaceMethodref named = is_interface named

-- the method that is looked up from the class or interface that the reference names
abbrev pub found_method : World → MethodConstant → Loaded → MemberReference → OrError Declared
found_method world Methodref named reference =
    ok_or (lookup_class_method world named reference.name reference.descriptor) NoSuchMethodError
found_method world InterfaceMethodref named reference =
    ok_or (lookup_interface_method world named reference.name reference.descriptor) NoSuchMethodError

-- that method, where the current class can access it (5.4.4)
abbrev pub method_from : World → Loaded → MethodReference → Loaded → OrError MethodTarget
method_from world current reference named =
    provided (names_its_kind reference.constant named) IncompatibleClassChangeError named
    >>= (λ named. found_method world reference.constant named reference.member)
    >>= (λ d. provided (can_access world current named d.by d.method.access_flags) IllegalAccessError (target named d))

-- the method that a reference resolves to: errors of its class come first
abbrev pub resolved_method : World → Loaded → MethodReference → OrError MethodTarget
resolved_method world current reference =
    resolve_text world current reference.member.class
    >>= (λ c. ok_or (member_class world c) NoSuchMethodError)
    >>= method_from world current reference

-- an `<init>` is called where the named class itself declares it (6.5, invokespecial)
abbrev pub is_own_init : Use → MethodTarget → Bool
is_own_init Invokespecial t = not (is_init t.declared.method.name) || same_class t.named t.declared.by
is_own_init _ t = true

-- the method that an instruction calls: resolved and accessible, and then of the instruction's kind (6.5)
abbrev pub resolve_method : World → Site → Use → MethodReference → OrError MethodTarget
resolve_method world site how reference =
    resolved_method world site.by reference
    >>= (λ t. provided (is_own_init how t) NoSuchMethodError t)
    >>= (λ t. provided (has_method_kind how t.declared.method) IncompatibleClassChangeError t)
