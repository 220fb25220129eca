-- Worked rows (JVMS 2.9, 2.10, 5.5): handlers, throws that pass calls and initializations, and what is constructed in which
-- order, computed.
use Rattle.std.specs.Prelude.{◌≡◌, ℕ, ◌-◌, ◌^◌, List, [], ◌∷◌, replicate, Option, Some, None, Ok, Err, pos, codes}
use Rattle.jv_format.specs.declared.handlers.Handler.{Handler}
use Rattle.jv_code.specs.declared.insn.Insn.TheVariants as insns
use Rattle.jv_code.specs.declared.kinds.Computation.TheVariants as compute
use Rattle.jv_code.specs.declared.kinds.Conversion.TheVariants as conversions
use Rattle.jv_code.specs.declared.kinds.FieldAccess.TheVariants as access
use Rattle.jv_code.specs.declared.kinds.NumberKind.TheVariants as numbers
use Rattle.jv_code.specs.declared.kinds.ShiftOperator.TheVariants as shifts
use Rattle.jv_code.specs.Insns.{Instruction}
use Rattle.jv_class.specs.Class.{Class, Field, InitialValue, Method}
use Rattle.jv_class.specs.Class.InitialValue.{IntValue, LongValue, StringValue}
use Rattle.jv_meaning_world.specs.Rows.Files.{object_name}
use Rattle.jv_meaning_world.specs.System.Mnemonics.{iconst, bipush, aload, invokespecial, return}
use Rattle.jv_meaning_world.specs.System.Throwable.{init_body as throwable_init}
use Rattle.jv_meaning_world.specs.System.Throwables.{init_body as error_init}
use Rattle.jv_format.specs.Handlers.{handler}
use Rattle.jv_meaning_machine.specs.Faults.{OrFault, ◌>>=◌}
use Rattle.jv_meaning_machine.specs.Faults.Fault.{ConstructionFault}
use Rattle.jv_meaning_machine.specs.State.{Program, ThrowPlace}
use Rattle.jv_meaning_machine.specs.State.End.{Running, Returned, Threw}
use Rattle.jv_meaning_machine.specs.Throws.{thrown_once_more}
use Rattle.jv_meaning_machine.specs.Observation.{Observed}
use Rattle.jv_meaning_machine.specs.Rows.Samples.{java_lang, program_of, run_to, run_with, shown, invokestatic, getstatic, new, ldc, dup, pop, idiv, iushr, new_ints, code, method, class_with, static_int, main_name, main, only_main, run, run_text}
use Rattle.jv_meaning_machine.specs.Rows.Machine.{returned, threw, calls_f}
use Rattle.jv_meaning_machine.specs.Rows.Initialization.{clinit, divides_by_zero, E, construct_P, make_S}

-- so many throws, the last of an object of a class of java/lang
abbrev pub ended : ℕ → List ℕ → ℕ → List ℕ → OrFault Observed
ended n output throws name = shown n output throws (Some (java_lang name)) Returned

abbrev pub thrown : ℕ → ℕ → List ℕ → OrFault Observed
thrown n throws name = shown n [] throws (Some (java_lang name)) (Threw (java_lang name))

-- ---- handlers: 29 java/lang/ArithmeticException, 42 java/lang/StackOverflowError, 61 java/lang/RuntimeException

-- a division by zero at 2, and handlers at 5, which writes A, and at 12, which writes B
abbrev pub divides : List Instruction
divides =
    iconst 1 ∷ iconst 0 ∷ idiv ∷ pop ∷ return
    ∷ pop  -- 5
    ∷ bipush 65 ∷ invokestatic 6 ∷ return
    ∷ pop  -- 12
    ∷ bipush 66 ∷ invokestatic 6 ∷ return ∷ []

abbrev pub handled : List Handler → OrFault Observed
handled handlers = run_text [] 2 handlers divides 8

abbrev pub writes : List ℕ → OrFault Observed
writes output = ended 8 output 1 (codes "ArithmeticException")

-- f divides by zero, and main calls it
abbrev pub with_callee : List Handler → Program
with_callee handlers =
    program_of
    (class_with main_name object_name [] []
    (main 1 (handler 0 3 4 29 ∷ []) calls_f ∷ method 9 (codes "f") (codes "()V") (code 2 0 handlers divides_by_zero) ∷ [])
    ∷ [])
    (calls_f ∷ divides_by_zero ∷ [])

abbrev pub callee : List Handler → ℕ → OrFault Observed
callee handlers n = run_with (with_callee handlers) main_name [] 64 n

-- the handler at 5 throws once more
abbrev pub throws_again : List Instruction
throws_again =
    iconst 1 ∷ iconst 0 ∷ idiv ∷ pop ∷ return
    ∷ insns.Throw  -- 5
    ∷ pop  -- 6
    ∷ return ∷ []

abbrev pub throw_null : List Instruction
throw_null = insns.NullConstant ∷ insns.Throw ∷ []

abbrev pub after_array : ℕ → List Instruction
after_array count = bipush count ∷ new_ints ∷ pop ∷ throw_null

-- how many throws there are behind one more
abbrev pub count_behind : ℕ → ℕ
count_behind throws =
    (thrown_once_more [] None
    (record { main = []; states = []; words = 0; throws = throws; last = None; place = None; end = Running })).throws

pub record HandlerRows : Type 0 where
  pub any : handled (handler 0 3 5 0 ∷ []) ≡ writes (codes "A")
  pub first_in_table : handled (handler 0 3 5 61 ∷ handler 0 3 12 29 ∷ []) ≡ writes (codes "A")
  pub first_that_catches : handled (handler 0 3 5 42 ∷ handler 0 3 12 61 ∷ handler 0 3 5 29 ∷ []) ≡ writes (codes "B")
  -- a range has its start, and not its end
  pub from_start : handled (handler 2 3 5 0 ∷ []) ≡ writes (codes "A")
  pub before_end : handled (handler 0 2 5 0 ∷ handler 0 3 12 0 ∷ []) ≡ writes (codes "B")
  pub behind : handled (handler 3 5 5 0 ∷ []) ≡ thrown 8 1 (codes "ArithmeticException")
  -- the callee's handlers come first, and then the caller's, at its call
  pub by_caller : callee (handler 0 3 3 42 ∷ []) 9 ≡ ended 9 (codes "S") 1 (codes "ArithmeticException")
  pub by_callee : callee (handler 0 3 3 29 ∷ []) 8 ≡ ended 8 [] 1 (codes "ArithmeticException")
  -- a throw in a handler
  pub again : run_text [] 2 (handler 0 3 5 0 ∷ handler 5 6 6 29 ∷ []) throws_again 7 ≡ ended 7 [] 2 (codes "ArithmeticException")
  pub again_out : run_text [] 2 (handler 0 3 5 0 ∷ []) throws_again 5 ≡ thrown 5 2 (codes "ArithmeticException")
  pub again_and_again :
      run_text [] 2 (handler 0 6 5 0 ∷ []) throws_again 9
      ≡ shown 9 [] 6 (Some (java_lang (codes "ArithmeticException"))) Running
  -- their number stays at the greatest of 64 bits
  pub last_count : count_behind (2 ^ 64 - 2) ≡ 2 ^ 64 - 1
  pub same_count : count_behind (2 ^ 64 - 1) ≡ 2 ^ 64 - 1
  pub null : run 1 throw_null 3 ≡ threw 3 (codes "NullPointerException")
  -- the machine's exception costs two cells, of which two are left, or one
  pub last_cells : run 1 (after_array 56) 6 ≡ threw 6 (codes "NullPointerException")
  pub no_cells : run 1 (after_array 57) 6 ≡ threw 6 (codes "OutOfMemoryError")
  -- main's frame takes 64 words, or 65
  pub last_words : run 59 (return ∷ []) 2 ≡ returned 2 []
  pub no_words : run 60 (return ∷ []) 1 ≡ threw 1 (codes "StackOverflowError")

-- ---- initializations that a throw passes

-- 50 E.x, 67 D.x; D is below E
abbrev pub D : Class
D = class_with (codes "D") (codes "E") [] (static_int (codes "x") None ∷ []) []

abbrev pub uses : ℕ → List Instruction
uses field = getstatic field ∷ pop ∷ return ∷ []

-- a second field is used in the handler
abbrev pub uses_both : ℕ → ℕ → List Instruction
uses_both field other =
    getstatic field ∷ pop ∷ return
    ∷ pop  -- 5
    ∷ getstatic other ∷ pop ∷ return ∷ []

abbrev pub with_E_and_D : ℕ → List Handler → List Instruction → Program
with_E_and_D max_stack handlers instructions =
    program_of (only_main [] max_stack handlers instructions ∷ E ∷ D ∷ []) (instructions ∷ divides_by_zero ∷ [])

abbrev pub use_one : ℕ → ℕ → OrFault Observed
use_one field n = run_with (with_E_and_D 1 [] (uses field)) main_name [] 64 n

abbrev pub use_both : ℕ → ℕ → ℕ → ℕ → OrFault Observed
use_both max_stack field other n =
    run_with (with_E_and_D max_stack (handler 0 3 5 0 ∷ []) (uses_both field other)) main_name [] 64 n

-- D is accepted, but E above it is not
abbrev pub with_unaccepted : Program
with_unaccepted =
    record (with_E_and_D 1 (handler 0 3 5 0 ∷ []) (uses_both 67 67)) { accepted = main_name ∷ codes "D" ∷ [] }

-- an initialization that throws an Error
abbrev pub throws_error : List Instruction
throws_error = new 63 ∷ dup ∷ invokespecial 64 ∷ insns.Throw ∷ []

abbrev pub with_error : Program
with_error =
    program_of
    (only_main [] 1 [] (uses 50)
    ∷ class_with (codes "E") object_name [] (static_int (codes "x") None ∷ []) (clinit 2 throws_error ∷ []) ∷ [])
    (uses 50 ∷ throws_error ∷ error_init.code ∷ throwable_init.code ∷ (return ∷ []) ∷ [])

-- ---- initialization writes the class's name: E's superclass is D, and it implements R, without a default method, and Q,
-- with one

abbrev pub writes_name : ℕ → List Instruction
writes_name letter = bipush letter ∷ invokestatic 6 ∷ return ∷ []

abbrev pub interface : List ℕ → List Method → Class
interface name methods = record (class_with name object_name [] [] methods) { access_flags = 1537 }

abbrev pub default_m : Method
default_m = method 1 (codes "m") (codes "()V") (code 0 1 [] (return ∷ []))

abbrev pub with_interfaces : Program
with_interfaces =
    program_of
    (only_main [] 1 [] (uses 50)
    ∷ record (class_with (codes "E") (codes "D") [] (static_int (codes "x") None ∷ []) (clinit 1 (writes_name 69) ∷ []))
    { interfaces = codes "R" ∷ codes "Q" ∷ [] }
    ∷ class_with (codes "D") object_name [] [] (clinit 1 (writes_name 68) ∷ [])
    ∷ interface (codes "Q") (default_m ∷ clinit 1 (writes_name 81) ∷ [])
    ∷ interface (codes "R") (clinit 1 (writes_name 82) ∷ []) ∷ [])
    (uses 50 ∷ writes_name 69 ∷ writes_name 68 ∷ writes_name 81 ∷ writes_name 82 ∷ [])

-- ---- constants of fields

abbrev pub with_field : Field → ℕ → List ℕ → List Instruction → ℕ → OrFault Observed
with_field field max_stack text instructions n =
    run_with
    (program_of (class_with main_name object_name text (field ∷ []) (main max_stack [] instructions ∷ []) ∷ []) (instructions ∷ []))
    main_name [] 64 n

abbrev pub field_K : List ℕ → InitialValue → Field
field_K descriptor initial =
    record { access_flags = 9; name = codes "K"; descriptor = descriptor; initial = Some initial }

abbrev pub string_K : ℕ → Field
string_K count = field_K (codes "Ljava/lang/String;") (StringValue (replicate count 97))

-- the upper half of a long
abbrev pub writes_upper : List Instruction
writes_upper =
    getstatic 78 ∷ bipush 32 ∷ insns.Compute (compute.Shift numbers.Long shifts.UnsignedRight)
    ∷ insns.Compute (compute.Convert conversions.LongToInt) ∷ invokestatic 6 ∷ return ∷ []

-- the high byte of a byte
abbrev pub writes_high : List Instruction
writes_high = getstatic 70 ∷ bipush 24 ∷ iushr ∷ invokestatic 6 ∷ return ∷ []

pub record PassedRows : Type 0 where
  -- what is no Error is replaced once; an Error is not
  pub replaced : use_one 50 6 ≡ thrown 6 2 (codes "ExceptionInInitializerError")
  pub replaced_once : use_one 67 7 ≡ thrown 7 2 (codes "ExceptionInInitializerError")
  pub error : run_with with_error main_name [] 64 14 ≡ threw 14 (codes "Error")
  -- both the class and its superclass are erroneous
  pub superclass : use_both 1 67 50 9 ≡ thrown 9 3 (codes "NoClassDefFoundError")
  pub class : use_both 1 67 67 9 ≡ thrown 9 3 (codes "NoClassDefFoundError")
  -- a superclass that is erroneous is begun, in vain
  pub erroneous_superclass : use_both 1 50 67 9 ≡ thrown 9 3 (codes "NoClassDefFoundError")
  -- a beginning in vain changes no class: it is in vain again
  pub unaccepted : run_with with_unaccepted main_name [] 64 4 ≡ thrown 4 2 (codes "VerifyError")
  pub no_words : use_both 57 50 50 4 ≡ thrown 4 2 (codes "StackOverflowError")
  -- an initialization takes 4 words, of which 4 are left, or 3
  pub last_words : use_both 55 50 50 5 ≡ thrown 5 2 (codes "NoClassDefFoundError")
  pub no_last_word : use_both 56 50 50 4 ≡ thrown 4 2 (codes "StackOverflowError")
  -- where `<clinit>` finds no words, the class is erroneous
  pub no_words_for_clinit : use_both 51 50 50 5 ≡ thrown 5 2 (codes "NoClassDefFoundError")
  pub interfaces : run_with with_interfaces main_name [] 64 22 ≡ returned 22 (codes "DQE")
  -- a constant is narrowed to its field's type, and a string is the literal of its text
  pub narrowed : with_field (field_K (codes "B") (IntValue (pos 200))) 2 [] writes_high 7 ≡ returned 7 (255 ∷ [])
  -- a long has all its bits
  pub long : with_field (field_K (codes "J") (LongValue (pos 309237645312))) 3 [] writes_upper 8 ≡ returned 8 (codes "H")
  pub literal : with_field (string_K 56) 1 (replicate 56 97) (ldc 22 ∷ pop ∷ return ∷ []) 5 ≡ returned 5 []
  pub no_cells : with_field (string_K 57) 1 [] (return ∷ []) 1 ≡ threw 1 (codes "OutOfMemoryError")

-- ---- where the last throw was

abbrev pub place_after : Program → ℕ → OrFault (Option ThrowPlace)
place_after program n = run_to program main_name [] [] 64 n >>= λ s. Ok s.control.place

abbrev pub at : (class method descriptor : List ℕ) → ℕ → OrFault (Option ThrowPlace)
at class method descriptor offset =
    Ok (Some (record { class = class; method = method; descriptor = descriptor; offset = offset }))

abbrev pub in_main : ℕ → OrFault (Option ThrowPlace)
in_main offset = at main_name (codes "main") (codes "([Ljava/lang/String;)V") offset

-- main's class divides by zero in its own initialization
abbrev pub main_fails : Program
main_fails =
    program_of
    (class_with main_name object_name [] [] (main 1 [] (return ∷ []) ∷ clinit 2 divides_by_zero ∷ []) ∷ [])
    ((return ∷ []) ∷ divides_by_zero ∷ [])

pub record PlaceRows : Type 0 where
  -- nothing was thrown yet; and then the division at 2 threw
  pub none : place_after (program_of (only_main [] 2 [] divides ∷ []) (divides ∷ [])) 3 ≡ Ok None
  pub division : place_after (program_of (only_main [] 2 [] divides ∷ []) (divides ∷ [])) 4 ≡ in_main 2
  -- in the callee, though the caller caught it
  pub callee : place_after (with_callee []) 9 ≡ at main_name (codes "f") (codes "()V") 2
  -- a throw in a handler is a later one
  pub again :
      place_after (program_of (only_main [] 2 (handler 0 3 5 0 ∷ []) throws_again ∷ []) (throws_again ∷ [])) 5 ≡ in_main 5
  -- what is thrown in place of what left the initialization of E is thrown where that was begun, by main's first instruction; and so
  -- it is of D's, which began that of E
  pub initializer : place_after (with_E_and_D 1 [] (uses 50)) 6 ≡ in_main 0
  pub superclass : place_after (with_E_and_D 1 [] (uses 67)) 7 ≡ in_main 0
  -- an Error is not replaced: it was thrown in E's initialization
  pub error : place_after with_error 14 ≡ at (codes "E") (codes "<clinit>") (codes "()V") 7
  -- an erroneous class is asked for once more, at 6
  pub erroneous : place_after (with_E_and_D 1 (handler 0 3 5 0 ∷ []) (uses_both 67 50)) 9 ≡ in_main 6
  -- no instruction began the initialization of main's class: what is thrown in place of the division's throw is thrown there
  pub main_class : place_after main_fails 4 ≡ at main_name (codes "<clinit>") (codes "()V") 2
  -- none calls main
  pub no_words : place_after (program_of (only_main [] 60 [] (return ∷ []) ∷ []) ((return ∷ []) ∷ [])) 1 ≡ Ok None

-- ---- construction: S is below P

abbrev pub instance_int : List ℕ → Field
instance_int name = record { access_flags = 1; name = name; descriptor = codes "I"; initial = None }

abbrev pub constructs_S : List Instruction → ℕ → OrFault Observed
constructs_S init n =
    run_with
    (program_of
    (only_main [] 2 [] make_S
    ∷ class_with (codes "S") (codes "P") [] (instance_int (codes "x") ∷ [])
    (method 1 (codes "<init>") (codes "()V") (code 2 1 [] init) ∷ [])
    ∷ class_with (codes "P") object_name [] (instance_int (codes "x") ∷ [])
    (method 1 (codes "<init>") (codes "()V") (code 1 1 [] construct_P) ∷ []) ∷ [])
    (make_S ∷ init ∷ construct_P ∷ (return ∷ []) ∷ []))
    main_name [] 64 n

-- 16 java/lang/Object's constructor, 55 P's, 58 S's, 59 S.x
abbrev pub stores_first : List Instruction
stores_first = aload 0 ∷ iconst 5 ∷ insns.Field access.PutField 59 ∷ aload 0 ∷ invokespecial 55 ∷ return ∷ []

abbrev pub reads_first : List Instruction
reads_first = aload 0 ∷ insns.Field access.GetField 59 ∷ pop ∷ return ∷ []

-- another object than the receiver, and the receiver by way of its superclass
abbrev pub stores_to_other : List Instruction
stores_to_other = new 57 ∷ iconst 5 ∷ insns.Field access.PutField 59 ∷ return ∷ []

abbrev pub stores_by_superclass : List Instruction
stores_by_superclass = aload 0 ∷ iconst 5 ∷ insns.Field access.PutField 75 ∷ return ∷ []

-- in a method that is no constructor
abbrev pub stores_in_main : List Instruction
stores_in_main = new 37 ∷ iconst 5 ∷ insns.Field access.PutField 45 ∷ return ∷ []

pub record ConstructionRows : Type 0 where
  -- a field of the object can be stored to before its superclass's constructor is called, and not read
  pub stores : constructs_S stores_first 20 ≡ returned 20 []
  pub reads : constructs_S reads_first 20 ≡ Err ConstructionFault
  pub stores_other : constructs_S stores_to_other 20 ≡ Err ConstructionFault
  pub stores_super : constructs_S stores_by_superclass 20 ≡ Err ConstructionFault
  pub stores_elsewhere :
      run_with
      (program_of
      (class_with main_name object_name [] (instance_int (codes "K") ∷ []) (main 2 [] stores_in_main ∷ []) ∷ [])
      (stores_in_main ∷ [])) main_name [] 64 4
      ≡ Err ConstructionFault
  pub skips_superclass : constructs_S (aload 0 ∷ invokespecial 16 ∷ return ∷ []) 20 ≡ Err ConstructionFault
  pub twice : constructs_S (aload 0 ∷ dup ∷ invokespecial 55 ∷ invokespecial 55 ∷ return ∷ []) 20 ≡ Err ConstructionFault
  -- the first constructor is not that of the object's class
  pub of_superclass : run 2 (new 26 ∷ dup ∷ invokespecial 16 ∷ []) 4 ≡ Err ConstructionFault
  -- java/lang/String has no constructor here
  pub string : run 2 (new 26 ∷ dup ∷ invokespecial 71 ∷ []) 4 ≡ threw 4 (codes "NoSuchMethodError")
