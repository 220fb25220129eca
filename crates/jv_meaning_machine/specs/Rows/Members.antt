-- Worked rows (JVMS 2.6, 6.5): constants that are pushed, what fields hold, and how values are passed and returned, computed.
use Rattle.std.specs.Prelude.{◌≡◌, ℕ, true, false, List, [], ◌∷◌, None, Ok, Err, pos, codes}
use Rattle.jv_text.specs.declared.descriptor.Base.TheVariants as bases
use Rattle.jv_code.specs.declared.insn.Insn.TheVariants as insns
use Rattle.jv_code.specs.declared.kinds.ArithmeticOperator.TheVariants as operators
use Rattle.jv_code.specs.declared.kinds.Computation.TheVariants as compute
use Rattle.jv_code.specs.declared.kinds.FieldAccess.TheVariants as access
use Rattle.jv_code.specs.declared.kinds.IndexForm.TheVariants as index
use Rattle.jv_code.specs.declared.kinds.IntForm.TheVariants as form
use Rattle.jv_code.specs.declared.kinds.LocalForm.TheVariants as local
use Rattle.jv_code.specs.declared.kinds.LongValue.TheVariants as longs
use Rattle.jv_code.specs.declared.kinds.NumberKind.TheVariants as numbers
use Rattle.jv_code.specs.declared.kinds.ValueKind.TheVariants as kinds
use Rattle.jv_code.specs.Insns.{Instruction}
use Rattle.jv_pool.specs.declared.constant.Constant.TheVariants as constants
use Rattle.jv_pool.specs.Constants.{Entry, member_of, name_and_descriptor}
use Rattle.jv_class.specs.Class.{Class, Field}
use Rattle.jv_meaning_world.specs.Rows.Files.{object_name, public_class}
use Rattle.jv_meaning_world.specs.System.Mnemonics.{iload, return}
use Rattle.jv_meaning_machine.specs.Faults.{OrFault}
use Rattle.jv_meaning_machine.specs.Faults.Fault.{OffsetFault, LocalFault, TagFault, ReferenceFault, ConstructionFault, ReturnFault}
use Rattle.jv_meaning_machine.specs.Values.{Value}
use Rattle.jv_meaning_machine.specs.Values.Value.{Null, Reference}
use Rattle.jv_meaning_machine.specs.Objects.{Content, FieldKey, Object}
use Rattle.jv_meaning_machine.specs.Objects.Object.{InstanceOf, ArrayWith}
use Rattle.jv_meaning_machine.specs.State.ClassState.{Initialized}
use Rattle.jv_meaning_machine.specs.Effects.{Effect}
use Rattle.jv_meaning_machine.specs.Effects.Effect.{Leaves}
use Rattle.jv_meaning_machine.specs.Observation.{Observed}
use Rattle.jv_meaning_machine.specs.Rows.Samples.{program_of, run_with, invokestatic, code, method, class_with, main, main_name}
use Rattle.jv_meaning_machine.specs.Rows.Machine.{returned}
use Rattle.jv_meaning_machine.specs.Rows.InstructionSamples.{Setting, effect, objects_behind, statics_behind, follows, on_stack, int, int_minus, long, long_minus}
use Rattle.jv_meaning_machine.specs.Rows.Casts.{of, instance}
use Rattle.jv_meaning_machine.specs.Literals.{string_name, string_value}
use Rattle.jv_meaning_machine.specs.Arrays.{base_components}

-- ---- constants that are pushed

abbrev pub pushes : List Entry → Instruction → OrFault Effect
pushes constants insn = effect (record (on_stack (Null ∷ [])) { constants = constants }) insn

-- 1 the least int, 2 the long -2, 4 an int that two bytes name
abbrev pub numbers_pool : List Entry
numbers_pool = constants.Integer 2147483648 ∷ constants.Long 4294967295 4294967294 ∷ constants.Integer 5 ∷ []

-- 2 a string
abbrev pub text_pool : List Entry
text_pool = constants.Utf8 (codes "ab") ∷ constants.String 1 ∷ []

pub record ConstantRows : Type 0 where
  pub int_pushed : pushes numbers_pool (insns.PoolConstant 1 index.Byte) ≡ follows 2 [] (Null ∷ int_minus 2147483648 ∷ [])
  pub wide_int_pushed : pushes numbers_pool (insns.PoolConstant 4 index.Half) ≡ follows 3 [] (Null ∷ int 5 ∷ [])
  pub long_pushed : pushes numbers_pool (insns.PoolLongConstant 2) ≡ follows 3 [] (Null ∷ long_minus 2 ∷ [])
  -- a literal is a String, with an array of its chars behind it
  pub literal_pushed : pushes text_pool (insns.PoolConstant 2 index.Byte) ≡ follows 2 [] (Null ∷ Reference 0 ∷ [])
  pub literal_made :
      objects_behind (record (on_stack []) { constants = text_pool }) (insns.PoolConstant 2 index.Byte)
      ≡ Ok
      (InstanceOf (record {
        class = string_name;
        entered = None;
        constructed = true;
        fields = (string_value, Reference 1) ∷ [];
      })
      ∷ ArrayWith (base_components bases.Char) (int 97 ∷ int 98 ∷ []) ∷ [])
  -- constants of another kind, and the second index of a long
  pub long_as_word : pushes numbers_pool (insns.PoolConstant 2 index.Byte) ≡ Err OffsetFault
  pub int_as_long : pushes numbers_pool (insns.PoolLongConstant 1) ≡ Err OffsetFault
  pub unusable : pushes numbers_pool (insns.PoolConstant 3 index.Byte) ≡ Err OffsetFault
  pub none : pushes numbers_pool (insns.PoolConstant 5 index.Byte) ≡ Err OffsetFault

-- ---- fields of A, and of B below it, which has one of the same name; object 0 is of B

abbrev pub field_f : ℕ → List ℕ → Field
field_f flags descriptor = record { access_flags = flags; name = codes "f"; descriptor = descriptor; initial = None }

abbrev pub with_field : Field → List ℕ → List ℕ → Class
with_field field name super_name = record (public_class name super_name) { fields = field ∷ [] }

abbrev pub key : List ℕ → List ℕ → FieldKey
key class descriptor = member_of class (name_and_descriptor (codes "f") descriptor)

abbrev pub B : Value → List ℕ → Value → Object
B in_A descriptor in_B =
    InstanceOf (record {
      class = codes "B";
      entered = None;
      constructed = true;
      fields = (key (codes "A") descriptor, in_A) ∷ (key (codes "B") descriptor, in_B) ∷ [];
    })

-- the field f of a class, static where the flags have 8, which is what A has, and B too
abbrev pub setting : ℕ → List ℕ → List ℕ → List Object → Content → List Value → Setting
setting flags class descriptor objects statics stack =
    record (on_stack stack) {
      classes =
          with_field (field_f flags descriptor) (codes "A") object_name
          ∷ with_field (field_f flags descriptor) (codes "B") (codes "A") ∷ [];
      states = (codes "A", Initialized) ∷ (codes "B", Initialized) ∷ [];
      constants =
          constants.Utf8 class ∷ constants.Class 1 ∷ constants.Utf8 (codes "f") ∷ constants.Utf8 descriptor
          ∷ constants.NameAndType 3 4 ∷ constants.Fieldref 2 5 ∷ [];
      objects = objects;
      statics = statics;
    }

abbrev pub gets : List ℕ → OrFault Effect
gets class =
    effect (setting 1 class (codes "I") (B (int 1) (codes "I") (int 2) ∷ []) [] (Reference 0 ∷ []))
    (insns.Field access.GetField 6)

abbrev pub puts : List ℕ → List ℕ → Value → Value → OrFault (List Object)
puts class descriptor old value =
    objects_behind (setting 1 class descriptor (B old descriptor old ∷ []) [] (Reference 0 ∷ value ∷ []))
    (insns.Field access.PutField 6)

abbrev pub put : List ℕ → Value → Value → OrFault (List Object)
put descriptor in_A in_B = Ok (B in_A descriptor in_B ∷ [])

-- an int 0 in a field of A and in that of B
abbrev pub narrows : List ℕ → Value → OrFault (List Object)
narrows descriptor value = puts (codes "A") descriptor (int 0) value

abbrev pub statics : List ℕ → Value → Value → Content
statics descriptor in_A in_B = (key (codes "A") descriptor, in_A) ∷ (key (codes "B") descriptor, in_B) ∷ []

abbrev pub gets_static : List ℕ → OrFault Effect
gets_static class =
    effect (setting 9 class (codes "J") [] (statics (codes "J") (long 1) (long 2)) [])
    (insns.Field access.GetStatic 6)

abbrev pub puts_static : List ℕ → Value → OrFault Content
puts_static descriptor value =
    statics_behind (setting 9 (codes "B") descriptor [] (statics descriptor (int 1) (int 2)) (value ∷ []))
    (insns.Field access.PutStatic 6)

abbrev pub string_descriptor : List ℕ
string_descriptor = codes "Ljava/lang/String;"

pub record FieldRows : Type 0 where
  pub of_A : gets (codes "A") ≡ follows 3 [] (int 1 ∷ [])
  pub of_B : gets (codes "B") ≡ follows 3 [] (int 2 ∷ [])
  pub put_A : puts (codes "A") (codes "I") (int 1) (int 5) ≡ put (codes "I") (int 5) (int 1)
  pub put_B : puts (codes "B") (codes "I") (int 1) (int 5) ≡ put (codes "I") (int 1) (int 5)
  pub put_long : puts (codes "A") (codes "J") (long 1) (long 5) ≡ put (codes "J") (long 5) (long 1)
  pub put_null : puts (codes "A") string_descriptor (Reference 0) Null ≡ put string_descriptor Null (Reference 0)
  pub put_byte : narrows (codes "B") (int 200) ≡ put (codes "B") (int_minus 56) (int 0)
  pub put_boolean : narrows (codes "Z") (int 2) ≡ put (codes "Z") (int 0) (int 0)
  pub put_boolean_minus : narrows (codes "Z") (int_minus 1) ≡ put (codes "Z") (int 1) (int 0)
  pub put_char : narrows (codes "C") (int_minus 1) ≡ put (codes "C") (int 65535) (int 0)
  pub put_short : narrows (codes "S") (int 32768) ≡ put (codes "S") (int_minus 32768) (int 0)
  pub int_into_long : puts (codes "A") (codes "J") (long 1) (int 5) ≡ Err TagFault
  pub without_field :
      effect (setting 1 (codes "A") (codes "I") (of (codes "B") ∷ []) [] (Reference 0 ∷ [])) (insns.Field access.GetField 6)
      ≡ Err ReferenceFault
  -- static fields
  pub static_of_A : gets_static (codes "A") ≡ follows 3 [] (long 1 ∷ [])
  pub static_of_B : gets_static (codes "B") ≡ follows 3 [] (long 2 ∷ [])
  pub put_static : puts_static (codes "I") (int 5) ≡ Ok (statics (codes "I") (int 1) (int 5))
  pub put_static_byte : puts_static (codes "B") (int 255) ≡ Ok (statics (codes "B") (int 1) (int_minus 1))
  -- what stands below the operands stays
  pub put_goes_on :
      effect (setting 1 (codes "A") (codes "I") (B (int 1) (codes "I") (int 2) ∷ []) [] (int 7 ∷ Reference 0 ∷ int 5 ∷ []))
      (insns.Field access.PutField 6)
      ≡ follows 3 [] (int 7 ∷ [])
  pub put_static_goes_on :
      effect (setting 9 (codes "B") (codes "I") [] (statics (codes "I") (int 1) (int 2)) (int 7 ∷ int 5 ∷ []))
      (insns.Field access.PutStatic 6)
      ≡ follows 3 [] (int 7 ∷ [])
  -- static fields that aren't there
  pub get_no_static : effect (setting 9 (codes "B") (codes "I") [] [] []) (insns.Field access.GetStatic 6) ≡ Err OffsetFault
  pub put_no_static : effect (setting 9 (codes "B") (codes "I") [] [] (int 5 ∷ [])) (insns.Field access.PutStatic 6) ≡ Err OffsetFault
  -- what is stored has to be constructed
  pub not_constructed :
      statics_behind
      (setting 9 (codes "B") string_descriptor (instance false object_name ∷ []) (statics string_descriptor Null Null) (Reference 0 ∷ []))
      (insns.Field access.PutStatic 6)
      ≡ Err ConstructionFault

-- ---- calls: f of a long and a byte gives its byte, which is not narrowed, as an argument or as the result

abbrev pub sipush : ℕ → Instruction
sipush n = insns.Compute (compute.IntConstant (pos n) form.Half)

abbrev pub isub : Instruction
isub = insns.Compute (compute.Arithmetic numbers.Int operators.Subtract)

abbrev pub calls_f : List Instruction
calls_f =
    insns.Compute (compute.LongConstant longs.One) ∷ sipush 456 ∷ invokestatic 74 ∷ sipush 401 ∷ isub ∷ invokestatic 6 ∷ return ∷ []

abbrev pub gives_byte : List Instruction
gives_byte = iload 2 ∷ insns.ReturnValue kinds.Int ∷ []

abbrev pub gives_long : List Instruction
gives_long = insns.Load kinds.Long 0 local.Opcode ∷ insns.ReturnValue kinds.Long ∷ []

-- in so many local variables
abbrev pub call_f : ℕ → List Instruction → ℕ → OrFault Observed
call_f max_locals body n =
    run_with
    (program_of
    (class_with main_name object_name [] []
    (main 3 [] calls_f ∷ method 9 (codes "f") (codes "(JB)B") (code 2 max_locals [] body) ∷ []) ∷ [])
    (calls_f ∷ body ∷ []))
    main_name [] 64 n

pub record CallRows : Type 0 where
  -- 456 less 401 is the code of 7
  pub passed : call_f 3 gives_byte 10 ≡ returned 10 (codes "7")
  pub other_result : call_f 3 gives_long 10 ≡ Err ReturnFault
  pub too_many_arguments : call_f 2 gives_byte 10 ≡ Err LocalFault
  pub nothing_returned : effect (on_stack (int 1 ∷ [])) insns.Return ≡ Ok (Leaves [])
