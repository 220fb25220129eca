-- Worked rows (JVMS 5.4, 6.5): each error of linking by the instruction that meets it, and what comes before what, computed.
use Rattle.std.specs.Prelude.{◌≡◌, ℕ, false, List, [], ◌∷◌, Option, Some, None, Ok, Err, codes}
use Rattle.jv_code.specs.declared.insn.Insn.TheVariants as insns
use Rattle.jv_code.specs.declared.kinds.FieldAccess.{FieldAccess}
use Rattle.jv_code.specs.declared.kinds.FieldAccess.TheVariants as access
use Rattle.jv_code.specs.declared.kinds.Invocation.TheVariants as invocations
use Rattle.jv_code.specs.Insns.{Instruction}
use Rattle.jv_pool.specs.declared.constant.Constant.TheVariants as constants
use Rattle.jv_pool.specs.Constants.{Entry}
use Rattle.jv_class_structure.specs.Parts.{CodeSeen}
use Rattle.jv_class.specs.Class.{Class, Field, Method}
use Rattle.jv_meaning_world.specs.World.{loaded}
use Rattle.jv_meaning_world.specs.Rows.Files.{object_name, class_with, public_class, package_class}
use Rattle.jv_meaning_world.specs.System.Mnemonics.{return}
use Rattle.jv_meaning_machine.specs.Faults.{OrFault}
use Rattle.jv_meaning_machine.specs.Faults.Fault.{OffsetFault, StackFault, ConstructionFault}
use Rattle.jv_meaning_machine.specs.Values.{Value}
use Rattle.jv_meaning_machine.specs.Values.Value.{Null, Reference}
use Rattle.jv_meaning_machine.specs.State.{ClassState}
use Rattle.jv_meaning_machine.specs.State.ClassState.{Begun, Initialized, Erroneous}
use Rattle.jv_meaning_machine.specs.Effects.{Effect}
use Rattle.jv_meaning_machine.specs.Effects.Effect.{Enters, Begins}
use Rattle.jv_meaning_machine.specs.Rows.Samples.{code}
use Rattle.jv_meaning_machine.specs.Rows.InstructionSamples.{Setting, effect, raised, on_stack, int}
use Rattle.jv_meaning_machine.specs.Rows.Casts.{of, instance, array_of}

-- ---- classes: A is abstract, B below it declares nothing, and I is an interface

abbrev pub int_field : ℕ → List ℕ → Field
int_field flags name = record { access_flags = flags; name = name; descriptor = codes "I"; initial = None }

abbrev pub void : ℕ → List ℕ → Option CodeSeen → Method
void flags name body = record { access_flags = flags; name = name; descriptor = codes "()V"; code = body }

abbrev pub only_return : Option CodeSeen
only_return = Some (code 0 1 [] (return ∷ []))

-- public 1, private 2, static 8, final 16, abstract 1024
abbrev pub static_t : Method
static_t = void 9 (codes "t") only_return

abbrev pub A : Class
A = record (class_with 1025 (codes "A") (Some object_name) []
    (void 1025 (codes "m") None ∷ void 1 (codes "n") only_return ∷ void 2 (codes "hidden") only_return ∷ static_t ∷ [])) {
      fields =
          int_field 9 (codes "s") ∷ int_field 1 (codes "i") ∷ int_field 10 (codes "hidden") ∷ int_field 25 (codes "f")
          ∷ int_field 17 (codes "g") ∷ [];
    }

abbrev pub classes : List Class
classes =
    A ∷ public_class (codes "B") (codes "A") ∷ class_with 1537 (codes "I") (Some object_name) [] (void 1025 (codes "x") None ∷ [])
    ∷ public_class (codes "Circle") (codes "Circle") ∷ public_class (codes "Orphan") (codes "Gone")
    ∷ public_class (codes "OfInterface") (codes "I") ∷ package_class (codes "p/Hidden") object_name
    ∷ public_class (codes "BelowHidden") (codes "p/Hidden") ∷ []

-- ---- an instruction with a reference to a class, and to a member of it

-- 2 the class, 6 a field, 7 a method of a class, 8 a method of an interface
abbrev pub refers : List ℕ → List ℕ → List ℕ → List Entry
refers class name descriptor =
    constants.Utf8 class ∷ constants.Class 1 ∷ constants.Utf8 name ∷ constants.Utf8 descriptor ∷ constants.NameAndType 3 4
    ∷ constants.Fieldref 2 5 ∷ constants.Methodref 2 5 ∷ constants.InterfaceMethodref 2 5 ∷ []

-- object 0 is of B
abbrev pub setting : List Entry → List Value → Setting
setting constants stack =
    record (on_stack stack) { classes = classes; constants = constants; objects = of (codes "B") ∷ [] }

abbrev pub field : FieldAccess → List ℕ → List ℕ → List Value → OrFault Effect
field how class name stack = effect (setting (refers class name (codes "I")) stack) (insns.Field how 6)

abbrev pub calls : Instruction → List ℕ → List ℕ → List Value → OrFault Effect
calls insn class name stack = effect (setting (refers class name (codes "()V")) stack) insn

abbrev pub invokevirtual : Instruction
invokevirtual = insns.Invoke invocations.Virtual 7

abbrev pub invokespecial : Instruction
invokespecial = insns.Invoke invocations.Special 7

abbrev pub invokestatic : Instruction
invokestatic = insns.Invoke invocations.Static 7

abbrev pub invokeinterface : Instruction
invokeinterface = insns.InvokeInterface 8 1

abbrev pub new : List ℕ → OrFault Effect
new class = effect (setting (refers class (codes "x") (codes "I")) []) (insns.New 2)

abbrev pub getstatic : List ℕ → List ℕ → OrFault Effect
getstatic class name = field access.GetStatic class name []

-- ---- errors

abbrev pub no_class : OrFault Effect
no_class = raised (codes "NoClassDefFoundError")

abbrev pub class_change : OrFault Effect
class_change = raised (codes "IncompatibleClassChangeError")

abbrev pub illegal_access : OrFault Effect
illegal_access = raised (codes "IllegalAccessError")

abbrev pub no_field : OrFault Effect
no_field = raised (codes "NoSuchFieldError")

abbrev pub no_method : OrFault Effect
no_method = raised (codes "NoSuchMethodError")

abbrev pub null_pointer : OrFault Effect
null_pointer = raised (codes "NullPointerException")

abbrev pub begins : Class → OrFault Effect
begins class = Ok (Begins (loaded false class))

pub record LinkErrorRows : Type 0 where
  -- classes
  pub not_there : getstatic (codes "Gone") (codes "s") ≡ no_class
  pub circular : getstatic (codes "Circle") (codes "s") ≡ raised (codes "ClassCircularityError")
  pub no_super : getstatic (codes "Orphan") (codes "s") ≡ no_class
  pub wrong_kind : getstatic (codes "OfInterface") (codes "s") ≡ class_change
  pub no_access_to_super : getstatic (codes "BelowHidden") (codes "s") ≡ illegal_access
  pub other_package : getstatic (codes "p/Hidden") (codes "s") ≡ illegal_access
  pub new_not_there : new (codes "Gone") ≡ no_class
  pub new_abstract : new (codes "A") ≡ raised (codes "InstantiationError")
  pub new_interface : new (codes "I") ≡ raised (codes "InstantiationError")
  -- an array is no constant of `new`, whether its element is there or not
  pub new_array : new (codes "[I") ≡ Err OffsetFault
  pub new_array_not_there : new (codes "[LGone;") ≡ Err OffsetFault
  -- fields
  pub no_such_field : getstatic (codes "B") (codes "none") ≡ no_field
  pub private_field : getstatic (codes "B") (codes "hidden") ≡ illegal_access
  pub get_static_of_instance : getstatic (codes "B") (codes "i") ≡ class_change
  pub put_static_of_instance : field access.PutStatic (codes "A") (codes "i") (int 1 ∷ []) ≡ class_change
  pub get_field_of_static : field access.GetField (codes "A") (codes "s") (Reference 0 ∷ []) ≡ class_change
  pub put_field_of_static : field access.PutField (codes "A") (codes "s") (Reference 0 ∷ int 1 ∷ []) ≡ class_change
  pub final_static : field access.PutStatic (codes "A") (codes "f") (int 1 ∷ []) ≡ illegal_access
  pub final_instance : field access.PutField (codes "A") (codes "g") (Reference 0 ∷ int 1 ∷ []) ≡ illegal_access
  -- methods
  pub no_such_method : calls invokevirtual (codes "B") (codes "none") (Reference 0 ∷ []) ≡ no_method
  pub no_such_interface_method : calls invokeinterface (codes "I") (codes "none") (Reference 0 ∷ []) ≡ no_method
  pub private_method : calls invokevirtual (codes "B") (codes "hidden") (Reference 0 ∷ []) ≡ illegal_access
  pub class_for_interface : calls invokevirtual (codes "I") (codes "x") (Reference 0 ∷ []) ≡ class_change
  pub interface_for_class : calls invokeinterface (codes "A") (codes "n") (Reference 0 ∷ []) ≡ class_change
  pub static_of_instance : calls invokestatic (codes "B") (codes "n") [] ≡ class_change
  pub virtual_of_static : calls invokevirtual (codes "B") (codes "t") (Reference 0 ∷ []) ≡ class_change
  pub special_of_static : calls invokespecial (codes "B") (codes "t") (Reference 0 ∷ []) ≡ class_change
  pub abstract_virtual : calls invokevirtual (codes "A") (codes "m") (Reference 0 ∷ []) ≡ raised (codes "AbstractMethodError")
  pub abstract_special : calls invokespecial (codes "A") (codes "m") (Reference 0 ∷ []) ≡ raised (codes "AbstractMethodError")
  pub not_implemented : calls invokeinterface (codes "I") (codes "x") (Reference 0 ∷ []) ≡ class_change
  -- B declares no constructor, though java/lang/Object does
  pub inherited_constructor : calls invokespecial (codes "B") (codes "<init>") (Reference 0 ∷ []) ≡ no_method

-- ---- what comes before what

-- with a state of A
abbrev pub in_state : ClassState → List Entry → Instruction → List Value → OrFault Effect
in_state state constants insn stack =
    effect (record (setting constants stack) { states = (codes "A", state) ∷ [] }) insn

abbrev pub refers_t : List Entry
refers_t = refers (codes "B") (codes "t") (codes "()V")

-- on object 0 of B, which is not constructed
abbrev pub on_bare : Instruction → List ℕ → OrFault Effect
on_bare insn name =
    effect
    (record (setting (refers (codes "A") name (codes "()V")) (Reference 0 ∷ [])) { objects = instance false (codes "B") ∷ [] })
    insn

-- on an array of objects of B
abbrev pub on_array : List ℕ → List ℕ → OrFault Effect
on_array class name =
    effect (record (setting (refers class name (codes "()V")) (Reference 0 ∷ [])) { objects = array_of 0 (codes "B") ∷ [] })
    invokevirtual

pub record LinkOrderRows : Type 0 where
  -- resolution and kind come before initialization, and that before the operands
  pub get_begins : getstatic (codes "B") (codes "s") ≡ begins A
  pub put_begins : field access.PutStatic (codes "B") (codes "s") [] ≡ begins A
  pub final_read : getstatic (codes "A") (codes "f") ≡ begins A
  pub call_begins : calls invokestatic (codes "B") (codes "t") [] ≡ begins A
  pub new_begins : new (codes "B") ≡ begins (public_class (codes "B") (codes "A"))
  pub put_operand :
      in_state Initialized (refers (codes "A") (codes "s") (codes "I")) (insns.Field access.PutStatic 6) [] ≡ Err StackFault
  -- a class that is being initialized is used, and one that cannot be is begun again, in vain
  pub call_begun :
      in_state Begun refers_t invokestatic (int 1 ∷ [])
      ≡ Ok (Enters (record { by = loaded false A; method = static_t }) None [] (int 1 ∷ []))
  pub call_initialized :
      in_state Initialized refers_t invokestatic []
      ≡ Ok (Enters (record { by = loaded false A; method = static_t }) None [] [])
  pub call_erroneous : in_state Erroneous refers_t invokestatic [] ≡ begins A
  -- resolution and kind come before null, and null before selection
  pub field_of_null : field access.GetField (codes "A") (codes "i") (Null ∷ []) ≡ null_pointer
  pub no_field_of_null : field access.GetField (codes "A") (codes "none") (Null ∷ []) ≡ no_field
  pub put_to_null : field access.PutField (codes "A") (codes "i") (Null ∷ int 1 ∷ []) ≡ null_pointer
  pub static_of_null : calls invokevirtual (codes "A") (codes "t") (Null ∷ []) ≡ class_change
  pub virtual_of_null : calls invokevirtual (codes "A") (codes "m") (Null ∷ []) ≡ null_pointer
  pub special_of_null : calls invokespecial (codes "A") (codes "m") (Null ∷ []) ≡ null_pointer
  pub interface_of_null : calls invokeinterface (codes "I") (codes "x") (Null ∷ []) ≡ null_pointer
  pub inherited :
      calls invokevirtual (codes "B") (codes "n") (int 1 ∷ Reference 0 ∷ [])
      ≡ Ok (Enters (record { by = loaded false A; method = void 1 (codes "n") only_return }) (Some 0) [] (int 1 ∷ []))
  pub not_constructed : on_bare invokevirtual (codes "n") ≡ Err ConstructionFault
  -- an array has java/lang/Object's methods alone
  pub of_array : on_array (codes "[LB;") (codes "n") ≡ no_method
