-- Classes, programs and runs for worked rows (JVMS 4.1, 4.4), beside the system's classes.
use Rattle.std.specs.Prelude.{ℕ, negsuc, true, false, ◌++◌, List, [], ◌∷◌, map, Option, Some, None, Ok, codes}
use Rattle.std.specs.List.{find, flat_map}
use Rattle.std.specs.Str.{bytes_eq}
use Rattle.jv_format.specs.declared.handlers.Handler.{Handler}
use Rattle.jv_code.specs.declared.insn.Insn.TheVariants as insns
use Rattle.jv_code.specs.declared.kinds.Computation.TheVariants as compute
use Rattle.jv_code.specs.declared.kinds.DivisionOperator.TheVariants as divisions
use Rattle.jv_code.specs.declared.kinds.ElementType.TheVariants as element_types
use Rattle.jv_code.specs.declared.kinds.FieldAccess.TheVariants as access
use Rattle.jv_code.specs.declared.kinds.IndexForm.TheVariants as index
use Rattle.jv_code.specs.declared.kinds.IntForm.TheVariants as int
use Rattle.jv_code.specs.declared.kinds.Invocation.TheVariants as invocations
use Rattle.jv_code.specs.declared.kinds.NumberKind.TheVariants as numbers
use Rattle.jv_code.specs.declared.kinds.ShiftOperator.TheVariants as shifts
use Rattle.jv_code.specs.declared.kinds.StackForm.TheVariants as forms
use Rattle.jv_code.specs.Insns.{Instruction, insn_bytes}
use Rattle.jv_pool.specs.declared.constant.Constant.TheVariants as constants
use Rattle.jv_pool.specs.Constants.{Entry}
use Rattle.jv_class_structure.specs.Parts.{CodeSeen}
use Rattle.jv_class.specs.Class.{Class, Field, InitialValue, Method}
use Rattle.jv_meaning_world.specs.World.{World, loaded}
use Rattle.jv_meaning_world.specs.Rows.Files.{object_name}
use Rattle.jv_meaning_world.specs.System.Mnemonics.{return}
use Rattle.jv_meaning_world.specs.System.Classes.{system_classes}
use Rattle.jv_meaning_machine.specs.Faults.{OrFault, ◌>>=◌}
use Rattle.jv_meaning_machine.specs.State.{Program, End, State}
use Rattle.jv_meaning_machine.specs.Start.{Budget}
use Rattle.jv_meaning_machine.specs.Alone.{Feed, alone}
use Rattle.jv_meaning_machine.specs.Observation.{Observed, observation}

-- ---- the system's classes

abbrev pub java_lang : List ℕ → List ℕ
java_lang name = codes "java/lang/" ++ name

abbrev pub world_with : List Class → World
world_with classes = map (loaded true) system_classes ++ map (loaded false) classes

-- ---- programs: code is known by the instructions that it has, and texts are of one byte a unit

abbrev pub code_among : List (List Instruction) → List ℕ → Option (List Instruction)
code_among all bytes = find (λ instructions. bytes_eq (flat_map insn_bytes instructions) bytes) all

abbrev pub itself : List ℕ → Option (List ℕ)
itself bytes = Some bytes

-- of classes that are all accepted
abbrev pub program_of : List Class → List (List Instruction) → Program
program_of classes code = record {
  world = world_with classes;
  accepted = map (λ c. c.name) classes;
  instructions = code_among code;
  units = itself;
}

abbrev pub budget : ℕ → Budget
budget output = record { cells = 64; words = 64; output = output }

-- ---- what is shown, beside the verdicts

-- a guest with an input, which is fed
abbrev pub run_to : Program → List ℕ → List ℕ → List Feed → ℕ → ℕ → OrFault State
run_to program main input feeds output n =
    alone (record { program = program; verdicts = [] }) (record { library = []; files = []; main = main; input = input })
    (budget output) feeds n

-- the place of the last throw has rows of its own
abbrev pub run_fed : Program → List ℕ → List ℕ → List Feed → ℕ → ℕ → OrFault Observed
run_fed program main input feeds output n =
    run_to program main input feeds output n >>= λ s. Ok (record (observation [] n s) { place = None })

abbrev pub run_with : Program → List ℕ → List ℕ → ℕ → ℕ → OrFault Observed
run_with program main input output n = run_fed program main input [] output n

abbrev pub shown : ℕ → List ℕ → ℕ → Option (List ℕ) → End → OrFault Observed
shown n output throws last end =
    Ok (record { verdicts = []; steps = n; output = output; throws = throws; last = last; place = None; end = end })

-- ---- instructions

abbrev pub iconst_m1 : Instruction
iconst_m1 = insns.Compute (compute.IntConstant (negsuc 0) int.Opcode)

abbrev pub invokestatic : ℕ → Instruction
invokestatic i = insns.Invoke invocations.Static i

abbrev pub invokevirtual : ℕ → Instruction
invokevirtual i = insns.Invoke invocations.Virtual i

abbrev pub getstatic : ℕ → Instruction
getstatic i = insns.Field access.GetStatic i

abbrev pub putstatic : ℕ → Instruction
putstatic i = insns.Field access.PutStatic i

abbrev pub new : ℕ → Instruction
new i = insns.New i

abbrev pub ldc : ℕ → Instruction
ldc i = insns.PoolConstant i index.Byte

abbrev pub dup : Instruction
dup = insns.Stack forms.Dup

abbrev pub pop : Instruction
pop = insns.Stack forms.Pop

abbrev pub idiv : Instruction
idiv = insns.Division numbers.Int divisions.Divide

abbrev pub iushr : Instruction
iushr = insns.Compute (compute.Shift numbers.Int shifts.UnsignedRight)

abbrev pub new_ints : Instruction
new_ints = insns.NewArray element_types.Int

-- ---- the constants of all sample classes

-- 6 write, 10 read, 12 java/lang/Object and 16 its constructor, 18 [[I, 20 java/io/Serializable, 22 a text, 26
-- java/lang/String and 27 its length
abbrev pub first_constants : List ℕ → List Entry
first_constants text =
    constants.Utf8 (codes "host/Io") ∷ constants.Class 1 ∷ constants.Utf8 (codes "write") ∷ constants.Utf8 (codes "(I)V")
    ∷ constants.NameAndType 3 4 ∷ constants.Methodref 2 5 ∷ constants.Utf8 (codes "read") ∷ constants.Utf8 (codes "()I")
    ∷ constants.NameAndType 7 8 ∷ constants.Methodref 2 9 ∷ constants.Utf8 object_name ∷ constants.Class 11
    ∷ constants.Utf8 (codes "<init>") ∷ constants.Utf8 (codes "()V") ∷ constants.NameAndType 13 14 ∷ constants.Methodref 12 15
    ∷ constants.Utf8 (codes "[[I") ∷ constants.Class 17 ∷ constants.Utf8 (codes "java/io/Serializable") ∷ constants.Class 19
    ∷ constants.Utf8 text ∷ constants.String 21 ∷ constants.Utf8 (codes "length") ∷ constants.NameAndType 23 8
    ∷ constants.Utf8 (codes "java/lang/String") ∷ constants.Class 25 ∷ constants.Methodref 26 24 ∷ []

-- 29 java/lang/ArithmeticException, 30 the least int, 35 I.m, 40 Main.f, 42 java/lang/StackOverflowError, 45 Main.K, 50 E.x,
-- 52 java/lang/ExceptionInInitializerError
abbrev pub second_constants : List Entry
second_constants =
    constants.Utf8 (codes "java/lang/ArithmeticException") ∷ constants.Class 28 ∷ constants.Integer 2147483648
    ∷ constants.Utf8 (codes "I") ∷ constants.Class 31 ∷ constants.Utf8 (codes "m") ∷ constants.NameAndType 33 14
    ∷ constants.InterfaceMethodref 32 34 ∷ constants.Utf8 (codes "Main") ∷ constants.Class 36 ∷ constants.Utf8 (codes "f")
    ∷ constants.NameAndType 38 14 ∷ constants.Methodref 37 39 ∷ constants.Utf8 (codes "java/lang/StackOverflowError")
    ∷ constants.Class 41 ∷ constants.Utf8 (codes "K") ∷ constants.NameAndType 43 31 ∷ constants.Fieldref 37 44
    ∷ constants.Utf8 (codes "E") ∷ constants.Class 46 ∷ constants.Utf8 (codes "x") ∷ constants.NameAndType 48 31
    ∷ constants.Fieldref 47 49 ∷ constants.Utf8 (codes "java/lang/ExceptionInInitializerError") ∷ constants.Class 51 ∷ []

-- 54 P, 55 its constructor, 57 S, 58 its constructor, 59 S.x
abbrev pub third_constants : List Entry
third_constants =
    constants.Utf8 (codes "P") ∷ constants.Class 53 ∷ constants.Methodref 54 15 ∷ constants.Utf8 (codes "S") ∷ constants.Class 56
    ∷ constants.Methodref 57 15 ∷ constants.Fieldref 57 49 ∷ []

-- 61 java/lang/RuntimeException, 63 java/lang/Error, 64 its constructor, 67 D.x, 70 Main.K as a byte, 71 a constructor that
-- java/lang/String does not have, 74 Main.f of a long and a byte
abbrev pub fourth_constants : List Entry
fourth_constants =
    constants.Utf8 (codes "java/lang/RuntimeException") ∷ constants.Class 60 ∷ constants.Utf8 (codes "java/lang/Error")
    ∷ constants.Class 62 ∷ constants.Methodref 63 15 ∷ constants.Utf8 (codes "D") ∷ constants.Class 65
    ∷ constants.Fieldref 66 49 ∷ constants.Utf8 (codes "B") ∷ constants.NameAndType 43 68 ∷ constants.Fieldref 37 69
    ∷ constants.Methodref 26 15 ∷ constants.Utf8 (codes "(JB)B") ∷ constants.NameAndType 38 72 ∷ constants.Methodref 37 73 ∷ []

-- 75 P.x, 78 Main.K as a long, 79 Main's constructor
abbrev pub fifth_constants : List Entry
fifth_constants =
    constants.Fieldref 54 49 ∷ constants.Utf8 (codes "J") ∷ constants.NameAndType 43 76 ∷ constants.Fieldref 37 77
    ∷ constants.Methodref 37 15 ∷ []

-- 83 className, 87 arrayLike
abbrev pub sixth_constants : List Entry
sixth_constants =
    constants.Utf8 (codes "className") ∷ constants.Utf8 (codes "(Ljava/lang/Object;I)I") ∷ constants.NameAndType 80 81
    ∷ constants.Methodref 2 82 ∷ constants.Utf8 (codes "arrayLike")
    ∷ constants.Utf8 (codes "([Ljava/lang/Object;I)[Ljava/lang/Object;") ∷ constants.NameAndType 84 85 ∷ constants.Methodref 2 86
    ∷ []

abbrev pub all_constants : List ℕ → List Entry
all_constants text =
    first_constants text
    ++ (second_constants ++ (third_constants ++ (fourth_constants ++ (fifth_constants ++ sixth_constants))))

-- ---- classes and members

abbrev pub code : ℕ → ℕ → List Handler → List Instruction → CodeSeen
code max_stack max_locals handlers instructions = record {
  max_stack = max_stack;
  max_locals = max_locals;
  code = flat_map insn_bytes instructions;
  exception_table = handlers;
  stack_map_table = None;
}

abbrev pub method : ℕ → List ℕ → List ℕ → CodeSeen → Method
method flags name descriptor body = record { access_flags = flags; name = name; descriptor = descriptor; code = Some body }

abbrev pub class_with : List ℕ → List ℕ → List ℕ → List Field → List Method → Class
class_with name super_name text fields methods = record {
  major_version = 52;
  access_flags = 1;
  name = name;
  super_class = Some super_name;
  interfaces = [];
  fields = fields;
  methods = methods;
  constant_pool = all_constants text;
}

abbrev pub static_int : List ℕ → Option InitialValue → Field
static_int name initial = record { access_flags = 9; name = name; descriptor = codes "I"; initial = initial }

abbrev pub main_name : List ℕ
main_name = codes "Main"

-- main takes an array of Strings
abbrev pub main : ℕ → List Handler → List Instruction → Method
main max_stack handlers instructions =
    method 9 (codes "main") (codes "([Ljava/lang/String;)V") (code max_stack 1 handlers instructions)

-- a class Main with this alone
abbrev pub only_main : List ℕ → ℕ → List Handler → List Instruction → Class
only_main text max_stack handlers instructions =
    class_with main_name object_name text [] (main max_stack handlers instructions ∷ [])

-- ---- runs of one class with one method

abbrev pub run_text : List ℕ → ℕ → List Handler → List Instruction → ℕ → OrFault Observed
run_text text max_stack handlers instructions n =
    run_with (program_of (only_main text max_stack handlers instructions ∷ []) (instructions ∷ (return ∷ []) ∷ []))
    main_name [] 64 n

abbrev pub run : ℕ → List Instruction → ℕ → OrFault Observed
run max_stack instructions n = run_text (codes "ab") max_stack [] instructions n
