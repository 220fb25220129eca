-- Worked rows (JVMS 5.1, 5.5): initialization of classes, and string literals, computed.
use Rattle.std.specs.Prelude.{◌≡◌, ℕ, List, [], ◌∷◌, replicate, Some, None, pos, codes}
use Rattle.jv_code.specs.Insns.{Instruction}
use Rattle.jv_class.specs.Class.{Class, Method}
use Rattle.jv_class.specs.Class.InitialValue.{IntValue}
use Rattle.jv_meaning_world.specs.Rows.Files.{object_name}
use Rattle.jv_meaning_world.specs.System.Mnemonics.{iconst, bipush, iadd, aload, invokespecial, return}
use Rattle.jv_meaning_world.specs.System.String.{length_body}
use Rattle.jv_meaning_world.specs.World.{class_named}
use Rattle.jv_format.specs.Handlers.{handler}
use Rattle.jv_meaning_machine.specs.Faults.{OrFault, found, ◌>>=◌}
use Rattle.jv_meaning_machine.specs.Faults.Fault.{ReferenceFault}
use Rattle.jv_meaning_machine.specs.State.{Program, State}
use Rattle.jv_meaning_machine.specs.Start.{start}
use Rattle.jv_meaning_machine.specs.Initialization.{begin}
use Rattle.jv_meaning_machine.specs.State.End.{Threw}
use Rattle.jv_meaning_machine.specs.Observation.{Observed}
use Rattle.jv_meaning_machine.specs.Rows.Samples.{program_of, budget, run_with, shown, invokestatic, invokevirtual, getstatic, putstatic, new, ldc, dup, pop, idiv, code, method, class_with, static_int, main_name, main, only_main}
use Rattle.jv_meaning_machine.specs.Rows.Machine.{returned, threw}

-- ---- a constant of the main class

abbrev pub write_static : ℕ → List Instruction
write_static field = getstatic field ∷ bipush 48 ∷ iadd ∷ invokestatic 6 ∷ return ∷ []

abbrev pub with_constant : Class
with_constant =
    class_with main_name object_name [] (static_int (codes "K") (Some (IntValue (pos 7))) ∷ [])
    (main 2 [] (write_static 45) ∷ [])

abbrev pub clinit : ℕ → List Instruction → Method
clinit max_stack instructions = method 8 (codes "<clinit>") (codes "()V") (code max_stack 0 [] instructions)

abbrev pub constructor : ℕ → List Instruction → Method
constructor max_stack instructions = method 1 (codes "<init>") (codes "()V") (code max_stack 1 [] instructions)

-- ---- a class whose initialization ends in a throw

abbrev pub divides_by_zero : List Instruction
divides_by_zero = iconst 1 ∷ iconst 0 ∷ idiv ∷ pop ∷ return ∷ []

abbrev pub E : Class
E = class_with (codes "E") object_name [] (static_int (codes "x") None ∷ []) (clinit 2 divides_by_zero ∷ [])

abbrev pub uses_twice : List Instruction
uses_twice =
    getstatic 50 ∷ pop ∷ return
    ∷ pop  -- 5
    ∷ getstatic 50 ∷ pop ∷ return ∷ []

-- ---- initialization in a circle: the object that P's makes is of S, which extends P

abbrev pub make_S : List Instruction
make_S = new 57 ∷ dup ∷ invokespecial 58 ∷ pop ∷ return ∷ []

abbrev pub construct_P : List Instruction
construct_P = aload 0 ∷ invokespecial 16 ∷ return ∷ []

abbrev pub P : Class
P = class_with (codes "P") object_name [] [] (clinit 2 make_S ∷ constructor 1 construct_P ∷ [])

abbrev pub construct_S : List Instruction
construct_S = aload 0 ∷ invokespecial 55 ∷ getstatic 59 ∷ bipush 48 ∷ iadd ∷ invokestatic 6 ∷ return ∷ []

abbrev pub set_x : List Instruction
set_x = iconst 5 ∷ putstatic 59 ∷ return ∷ []

abbrev pub S : Class
S =
    class_with (codes "S") (codes "P") [] (static_int (codes "x") None ∷ [])
    (constructor 2 construct_S ∷ clinit 1 set_x ∷ [])

-- ---- string literals

abbrev pub write_length : List Instruction
write_length = ldc 22 ∷ invokevirtual 27 ∷ bipush 48 ∷ iadd ∷ invokestatic 6 ∷ return ∷ []

abbrev pub twice : List Instruction
twice = ldc 22 ∷ pop ∷ ldc 22 ∷ pop ∷ return ∷ []

abbrev pub run_literal : List ℕ → ℕ → List Instruction → ℕ → OrFault Observed
run_literal text max_stack instructions n =
    run_with (program_of (only_main text max_stack [] instructions ∷ []) (instructions ∷ length_body.code ∷ []))
    main_name [] 64 n

-- the main class's initialization is begun at the start, and here a second time
abbrev pub with_main_constant : Program
with_main_constant = program_of (with_constant ∷ []) (write_static 45 ∷ [])

abbrev pub begun : OrFault State
begun = start with_main_constant main_name [] (budget 64)

abbrev pub begun_again : OrFault State
begun_again =
    begun >>= λ s. found ReferenceFault (class_named with_main_constant.world main_name) >>=
    begin with_main_constant s.memory s.frames s.control

pub record InitializationRows : Type 0 where
  -- nothing is done for a class that is being initialized
  pub again : begun_again ≡ begun
  pub constant :
      run_with with_main_constant main_name [] 64 7 ≡ returned 7 (codes "7")
  -- the division's, its replacement, and that of an erroneous class
  pub erroneous :
      run_with
      (program_of (only_main [] 1 (handler 0 3 5 52 ∷ []) uses_twice ∷ E ∷ []) (uses_twice ∷ divides_by_zero ∷ []))
      main_name [] 64 8
      ≡ shown 8 [] 3 (Some (codes "java/lang/NoClassDefFoundError")) (Threw (codes "java/lang/NoClassDefFoundError"))
  pub circle :
      run_with (program_of (only_main [] 2 [] (write_static 59) ∷ P ∷ S ∷ [])
      (write_static 59 ∷ make_S ∷ construct_P ∷ construct_S ∷ set_x ∷ (return ∷ []) ∷ [])) main_name [] 64 31
      ≡ returned 31 (codes "05")
  pub length : run_literal (codes "ab") 2 write_length 11 ≡ returned 11 (codes "2")
  -- a literal is made once: a String of 2 cells, and its array, of 2 and one for each char
  pub last_cell : run_literal (replicate 56 97) 1 twice 6 ≡ returned 6 []
  pub no_cell : run_literal (replicate 57 97) 1 twice 2 ≡ threw 2 (codes "OutOfMemoryError")
