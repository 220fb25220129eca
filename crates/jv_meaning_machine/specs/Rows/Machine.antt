-- Worked rows (JVMS 2, 6.5): what small classes do, computed.
use Rattle.std.specs.Prelude.{◌≡◌, ℕ, List, [], ◌∷◌, ◌++◌, Some, None, codes}
use Rattle.jv_code.specs.declared.insn.Insn.TheVariants as insns
use Rattle.jv_code.specs.declared.kinds.LocalForm.TheVariants as local
use Rattle.jv_code.specs.declared.kinds.WordKind.TheVariants as word_kinds
use Rattle.jv_code.specs.Insns.{Instruction}
use Rattle.jv_class.specs.Class.{Class, Method}
use Rattle.jv_meaning_world.specs.Rows.Files.{object_name, class_with as bare_class}
use Rattle.jv_meaning_world.specs.System.Mnemonics.{iconst, iload, bipush, invokespecial, return}
use Rattle.jv_format.specs.Handlers.{handler}
use Rattle.jv_meaning_machine.specs.Faults.{OrFault}
use Rattle.jv_meaning_machine.specs.State.{Program}
use Rattle.jv_meaning_machine.specs.State.End.{Running, Returned, Threw, NoMain}
use Rattle.jv_meaning_machine.specs.Observation.{Observed}
use Rattle.jv_meaning_machine.specs.Rows.Samples.{java_lang, program_of, run_with, shown, iconst_m1, invokestatic, new, ldc, dup, pop, idiv, iushr, new_ints, code, method, class_with, main_name, main, only_main, run, run_text}

-- it ended in the throw of an object of a class of java/lang, the only throw, without output
abbrev pub threw : ℕ → List ℕ → OrFault Observed
threw n name = shown n [] 1 (Some (java_lang name)) (Threw (java_lang name))

abbrev pub returned : ℕ → List ℕ → OrFault Observed
returned n output = shown n output 0 None Returned

-- ---- output and input

abbrev pub hi : List Instruction
hi = bipush 72 ∷ invokestatic 6 ∷ bipush 105 ∷ invokestatic 6 ∷ return ∷ []

abbrev pub run_main : List ℕ → List ℕ → ℕ → List Instruction → ℕ → OrFault Observed
run_main name input output instructions n =
    run_with (program_of (only_main (codes "ab") 1 [] instructions ∷ []) (instructions ∷ [])) name input output n

abbrev pub reads : List Instruction
reads = invokestatic 10 ∷ invokestatic 6 ∷ invokestatic 10 ∷ invokestatic 6 ∷ return ∷ []

-- a byte is read above another one, which is written
abbrev pub reads_over : List Instruction
reads_over = bipush 72 ∷ invokestatic 10 ∷ pop ∷ invokestatic 6 ∷ return ∷ []

abbrev pub unverified : Program
unverified = record (program_of (only_main (codes "ab") 1 [] hi ∷ []) (hi ∷ [])) { accepted = [] }

pub record OutputRows : Type 0 where
  -- one step ends the initialization of the main class
  pub writes : run_main main_name [] 64 hi 6 ≡ returned 6 (codes "Hi")
  pub running : run_main main_name [] 64 hi 5 ≡ shown 5 (codes "Hi") 0 None Running
  pub over : run_main main_name [] 64 hi 9 ≡ returned 9 (codes "Hi")
  pub one_byte_of_output :
      run_main main_name [] 1 hi 5
      ≡ shown 5 (codes "H") 1 (Some (codes "java/lang/OutOfMemoryError")) (Threw (codes "java/lang/OutOfMemoryError"))
  -- -1 where the input has ended
  pub input_ends : run_main main_name (codes "A") 64 reads 6 ≡ returned 6 (65 ∷ 255 ∷ [])
  -- what stands below the operands stays
  pub read_goes_on : run 2 reads_over 6 ≡ returned 6 (codes "H")
  pub byte_goes_on :
      run_with (program_of (only_main [] 2 [] reads_over ∷ []) (reads_over ∷ [])) main_name (codes "A") 64 6 ≡ returned 6 (codes "H")
  pub write_goes_on : run 2 (bipush 72 ∷ bipush 105 ∷ invokestatic 6 ∷ invokestatic 6 ∷ return ∷ []) 6 ≡ returned 6 (codes "iH")
  -- a local variable is there in the next steps, and null is one word
  pub stored :
      run 1 (bipush 72 ∷ insns.Store word_kinds.Int 0 local.Opcode ∷ iload 0 ∷ invokestatic 6 ∷ return ∷ []) 6
      ≡ returned 6 (codes "H")
  pub null_is_one_word : run 1 (insns.NullConstant ∷ pop ∷ return ∷ []) 4 ≡ returned 4 []
  pub no_main : run_main (codes "Ho") [] 64 hi 0 ≡ shown 0 [] 0 None NoMain
  pub unverified_main : run_with unverified main_name [] 64 0 ≡ threw 0 (codes "VerifyError")

-- ---- numbers, handlers and objects

-- the least int and -1: the quotient is the least int, whose high byte is 128; and a division by zero is caught
abbrev pub divisions : List Instruction
divisions =
    ldc 30 ∷ iconst_m1 ∷ idiv ∷ bipush 24 ∷ iushr ∷ invokestatic 6
    ∷ iconst 1  -- 10
    ∷ iconst 0 ∷ idiv ∷ pop ∷ return
    ∷ pop  -- 15
    ∷ return ∷ []

abbrev pub make_ints : ℕ → List Instruction
make_ints count = bipush count ∷ new_ints ∷ pop ∷ return ∷ []

-- f calls itself
abbrev pub recursion : List Instruction
recursion = invokestatic 40 ∷ return ∷ []

abbrev pub calls_f : List Instruction
calls_f =
    invokestatic 40 ∷ return
    ∷ pop  -- 4
    ∷ bipush 83 ∷ invokestatic 6 ∷ return ∷ []

abbrev pub recursive : Class
recursive =
    class_with main_name object_name [] []
    (main 1 (handler 0 3 4 42 ∷ []) calls_f ∷ method 9 (codes "f") (codes "()V") (code 0 0 [] recursion) ∷ [])

-- an object that does not implement I, though it was taken for one
abbrev pub calls_interface : List Instruction
calls_interface = new 12 ∷ dup ∷ invokespecial 16 ∷ insns.InvokeInterface 35 1 ∷ return ∷ []

abbrev pub I : List Method → Class
I methods = bare_class 1537 (codes "I") (Some object_name) [] methods

abbrev pub abstract_m : Method
abstract_m = record { access_flags = 1025; name = codes "m"; descriptor = codes "()V"; code = None }

pub record ObjectRows : Type 0 where
  pub division :
      run_text [] 2 (handler 10 13 15 29 ∷ []) divisions 12
      ≡ shown 12 (128 ∷ []) 1 (Some (codes "java/lang/ArithmeticException")) Returned
  -- 4 cells are taken at the start
  pub last_cell : run 1 (make_ints 58) 5 ≡ returned 5 []
  pub no_cell : run 1 (make_ints 59) 3 ≡ threw 3 (codes "OutOfMemoryError")
  -- main takes 6 words, and 14 frames of f fit
  pub deep_recursion :
      run_with (program_of (recursive ∷ []) (calls_f ∷ recursion ∷ [])) main_name [] 64 20
      ≡ shown 20 (codes "S") 1 (Some (codes "java/lang/StackOverflowError")) Returned
  pub interface :
      run_with
      (program_of (only_main [] 2 [] calls_interface ∷ I (abstract_m ∷ []) ∷ []) (calls_interface ∷ (return ∷ []) ∷ []))
      main_name [] 64 6
      ≡ threw 6 (codes "IncompatibleClassChangeError")

-- ---- arrays

abbrev pub make_arrays : Instruction → Instruction → List Instruction
make_arrays outer inner = outer ∷ inner ∷ insns.NewMultiArray 18 2 ∷ pop ∷ return ∷ []

abbrev pub store_object : List Instruction
store_object =
    iconst 1 ∷ insns.NewReferenceArray 20 ∷ iconst 0 ∷ new 12 ∷ dup ∷ invokespecial 16 ∷ insns.ReferenceArrayStore ∷ return ∷ []

pub record ArrayRows : Type 0 where
  -- 50 cells and 62, of the 60 that are left
  pub made : run 2 (make_arrays (bipush 8) (iconst 3)) 6 ≡ returned 6 []
  pub too_many : run 2 (make_arrays (bipush 10) (iconst 3)) 4 ≡ threw 4 (codes "OutOfMemoryError")
  -- a negative count behind a count of 0
  pub negative : run 2 (make_arrays (iconst 0) iconst_m1) 4 ≡ threw 4 (codes "NegativeArraySizeException")
  -- an object of a class that does not implement the interface
  pub store : run 4 store_object 9 ≡ threw 9 (codes "ArrayStoreException")

-- ---- host/Io's methods that are given objects

abbrev pub object_made : List Instruction
object_made = new 12 ∷ dup ∷ invokespecial 16 ∷ []

abbrev pub objects_made : List Instruction
objects_made = iconst 1 ∷ insns.NewReferenceArray 12 ∷ []

-- the byte at a place of the name of an object's class is written
abbrev pub writes_name : List Instruction → Instruction → List Instruction
writes_name object place = object ++ place ∷ invokestatic 83 ∷ invokestatic 6 ∷ return ∷ []

-- or the high byte of the int that is given, 255 of -1
abbrev pub writes_high : List Instruction → Instruction → List Instruction
writes_high object place = object ++ place ∷ invokestatic 83 ∷ bipush 24 ∷ iushr ∷ invokestatic 6 ∷ return ∷ []

-- the length of an array like one of Objects is written
abbrev pub writes_length : Instruction → List Instruction
writes_length count = objects_made ++ count ∷ invokestatic 87 ∷ insns.ArrayLength ∷ invokestatic 6 ∷ return ∷ []

-- an Object can't stand in an array like one of Strings
abbrev pub stores_like : List Instruction
stores_like =
    iconst 1 ∷ insns.NewReferenceArray 26 ∷ iconst 1 ∷ invokestatic 87 ∷ iconst 0 ∷ new 12 ∷ dup ∷ invokespecial 16
    ∷ insns.ReferenceArrayStore ∷ return ∷ []

-- an array like one of arrays of ints has components that are null
abbrev pub loads_like : List Instruction
loads_like =
    iconst 1 ∷ iconst 1 ∷ insns.NewMultiArray 18 2 ∷ iconst 1 ∷ invokestatic 87 ∷ iconst 0 ∷ insns.ReferenceArrayLoad
    ∷ insns.ArrayLength ∷ pop ∷ return ∷ []

pub record HostRows : Type 0 where
  pub first_letter : run 2 (writes_name object_made (iconst 0)) 9 ≡ returned 9 (codes "j")
  pub last_letter : run 2 (writes_name object_made (bipush 15)) 9 ≡ returned 9 (codes "t")
  pub of_string : run 2 (writes_name (ldc 22 ∷ []) (bipush 10)) 6 ≡ returned 6 (codes "S")
  -- -1 behind the name, before it, and of an array
  pub behind : run 2 (writes_high object_made (bipush 16)) 11 ≡ returned 11 (255 ∷ [])
  pub before : run 2 (writes_high object_made iconst_m1) 11 ≡ returned 11 (255 ∷ [])
  pub of_array : run 2 (writes_high objects_made (iconst 0)) 9 ≡ returned 9 (255 ∷ [])
  pub of_null : run 2 (insns.NullConstant ∷ iconst 0 ∷ invokestatic 83 ∷ pop ∷ return ∷ []) 4 ≡ threw 4 (codes "NullPointerException")
  pub like : run 2 (writes_length (iconst 2)) 8 ≡ returned 8 (2 ∷ [])
  -- 3 cells are the first array's, and 57 are left for one of 55 components
  pub last_cell : run 2 (writes_length (bipush 55)) 8 ≡ returned 8 (55 ∷ [])
  pub no_cell : run 2 (writes_length (bipush 56)) 5 ≡ threw 5 (codes "OutOfMemoryError")
  pub negative : run 2 (writes_length iconst_m1) 5 ≡ threw 5 (codes "NegativeArraySizeException")
  pub like_strings : run 4 stores_like 11 ≡ threw 11 (codes "ArrayStoreException")
  pub like_arrays : run 2 loads_like 9 ≡ threw 9 (codes "NullPointerException")
  -- null comes before a negative count
  pub like_null : run 2 (insns.NullConstant ∷ iconst_m1 ∷ invokestatic 87 ∷ pop ∷ return ∷ []) 4 ≡ threw 4 (codes "NullPointerException")
