-- Access flags of classes, fields and methods (JVMS tables 4.1-A, 4.5-A and 4.6-A), and which of them go together.
-- Bits without a name there are not looked at.
use Rattle.std.specs.Prelude.{ℕ, ◌+◌, Bool, true, not, ◌&&◌, ◌||◌, ◌==◌, bit_and, if◌then◌else◌}
use Rattle.jv_class_structure.specs.Version.{is_below_52}

abbrev pub acc_public : ℕ
acc_public = 1

abbrev pub acc_private : ℕ
acc_private = 2

abbrev pub acc_protected : ℕ
acc_protected = 4

abbrev pub acc_static : ℕ
acc_static = 8

abbrev pub acc_final : ℕ
acc_final = 16

-- of a class
abbrev pub acc_super : ℕ
acc_super = 32

-- of a method
abbrev pub acc_synchronized : ℕ
acc_synchronized = 32

-- of a field
abbrev pub acc_volatile : ℕ
acc_volatile = 64

-- of a method
abbrev pub acc_bridge : ℕ
acc_bridge = 64

-- of a field
abbrev pub acc_transient : ℕ
acc_transient = 128

abbrev pub acc_native : ℕ
acc_native = 256

abbrev pub acc_interface : ℕ
acc_interface = 512

abbrev pub acc_abstract : ℕ
acc_abstract = 1024

abbrev pub acc_strict : ℕ
acc_strict = 2048

-- of a class
abbrev pub acc_annotation : ℕ
acc_annotation = 8192

-- of a class or a field
abbrev pub acc_enum : ℕ
acc_enum = 16384

-- whether one of these flags is set
abbrev pub has : ℕ → ℕ → Bool
has flags mask = not (bit_and flags mask == 0)

-- an interface is abstract, and not final, super or an enum; no other class is final and abstract, or an annotation (4.1)
abbrev pub class_flags_keep_rules : ℕ → Bool
class_flags_keep_rules flags =
    if has flags acc_interface then has flags acc_abstract && not (has flags (acc_final + acc_super + acc_enum))
    else not (has flags acc_final && has flags acc_abstract) && not (has flags acc_annotation)

-- the flags public, private and protected
abbrev pub visibility : ℕ → ℕ
visibility flags = bit_and flags (acc_public + acc_private + acc_protected)

-- at most one of them is set (4.5, 4.6)
abbrev pub visibility_keeps_rules : ℕ → Bool
visibility_keeps_rules flags =
    visibility flags == 0 || visibility flags == acc_public
    || visibility flags == acc_private || visibility flags == acc_protected

-- a field is not final and volatile (4.5)
abbrev pub volatile_keeps_rules : ℕ → Bool
volatile_keeps_rules flags = not (has flags acc_final && has flags acc_volatile)

-- the flags of a field but synthetic
abbrev pub field_flags_but_synthetic : ℕ
field_flags_but_synthetic =
    acc_public + acc_private + acc_protected + acc_static + acc_final + acc_volatile + acc_transient + acc_enum

-- a field of an interface is public, static and final, and else at most synthetic (4.5)
abbrev pub interface_field_keeps_rules : ℕ → Bool
interface_field_keeps_rules flags = bit_and flags field_flags_but_synthetic == acc_public + acc_static + acc_final

-- an abstract method is not private, static, final, synchronized, native or strict (4.6)
abbrev pub abstract_keeps_rules : ℕ → Bool
abstract_keeps_rules flags =
    if has flags acc_abstract
    then not (has flags (acc_private + acc_static + acc_final + acc_synchronized + acc_native + acc_strict))
    else true

-- a method of an interface is public or private, and not final, synchronized or native (4.6)
abbrev pub interface_method_keeps_rules : ℕ → Bool
interface_method_keeps_rules flags =
    (visibility flags == acc_public || visibility flags == acc_private)
    && not (has flags (acc_final + acc_synchronized + acc_native))

-- in a class file below version 52.0 a method of an interface is public and abstract (4.6)
abbrev pub older_interface_method_keeps_rules : ℕ → ℕ → Bool
older_interface_method_keeps_rules major flags =
    if is_below_52 major then has flags acc_public && has flags acc_abstract else true

-- `<init>` has at most a visibility, varargs, strict and synthetic (4.6)
abbrev pub init_flags_keep_rules : ℕ → Bool
init_flags_keep_rules flags = not (has flags (acc_static + acc_final + acc_synchronized + acc_bridge + acc_native + acc_abstract))
