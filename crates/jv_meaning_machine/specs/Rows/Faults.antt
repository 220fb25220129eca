-- Worked rows (JVMS 4.9.2): for each fault the smallest programs that meet it, none of which can be verified.
use Rattle.std.specs.Prelude.{◌≡◌, ℕ, List, [], ◌∷◌, Err, codes}
use Rattle.jv_code.specs.declared.insn.Insn.TheVariants as insns
use Rattle.jv_code.specs.declared.kinds.Computation.TheVariants as compute
use Rattle.jv_code.specs.declared.kinds.LongValue.TheVariants as longs
use Rattle.jv_code.specs.declared.kinds.ValueKind.TheVariants as kinds
use Rattle.jv_code.specs.Insns.{Instruction}
use Rattle.jv_class.specs.Class.{Method}
use Rattle.jv_meaning_world.specs.System.Mnemonics.{iconst, iload, aload, invokespecial, return}
use Rattle.jv_meaning_machine.specs.Faults.{OrFault}
use Rattle.jv_meaning_machine.specs.Faults.Fault.{OffsetFault, StackFault, LocalFault, TagFault, ReferenceFault, ConstructionFault, UnverifiedFault, ReturnFault}
use Rattle.jv_meaning_machine.specs.State.{Program}
use Rattle.jv_meaning_machine.specs.Rows.Samples.{program_of, run_with, invokestatic, invokevirtual, new, ldc, pop, code, method, main_name, only_main, run}
use Rattle.jv_meaning_machine.specs.Observation.{Observed}
use Rattle.jv_meaning_machine.specs.Rows.Machine.{I, abstract_m, threw}

-- a method of an interface that was not accepted is called on an array, which counts as one of an interface
abbrev pub calls_default : List Instruction
calls_default = aload 0 ∷ invokespecial 35 ∷ return ∷ []

abbrev pub default_m : Method
default_m = method 1 (codes "m") (codes "()V") (code 0 1 [] (return ∷ []))

abbrev pub with_unaccepted : ℕ → Program
with_unaccepted max_stack =
    record (program_of (only_main [] max_stack [] calls_default ∷ I (default_m ∷ []) ∷ []) (calls_default ∷ (return ∷ []) ∷ [])) {
      accepted = main_name ∷ [];
    }

-- a call on null, where the interface I is there
abbrev pub calls_null : Instruction → List Instruction
calls_null insn = insns.NullConstant ∷ insn ∷ return ∷ []

abbrev pub run_interface : Instruction → OrFault Observed
run_interface insn =
    run_with (program_of (only_main [] 1 [] (calls_null insn) ∷ I (abstract_m ∷ []) ∷ []) (calls_null insn ∷ []))
    main_name [] 64 3

-- the same in a class of version 51.0
abbrev pub run_interface_of_51 : Instruction → OrFault Observed
run_interface_of_51 insn =
    run_with
    (program_of (record (only_main [] 1 [] (calls_null insn)) { major_version = 51 } ∷ I (abstract_m ∷ []) ∷ []) (calls_null insn ∷ []))
    main_name [] 64 3

pub record FaultRows : Type 0 where
  pub behind_code : run 0 (insns.Nop ∷ []) 3 ≡ Err OffsetFault
  pub constant_of_class : run 1 (ldc 12 ∷ return ∷ []) 2 ≡ Err OffsetFault
  -- invokevirtual of a method of an interface, and invokeinterface of one of a class
  pub virtual_of_interface : run_interface (invokevirtual 35) ≡ Err OffsetFault
  pub interface_of_class : run_interface (insns.InvokeInterface 27 1) ≡ Err OffsetFault
  -- invokespecial alone calls an `<init>`
  pub virtual_of_init : run_interface (invokevirtual 16) ≡ Err OffsetFault
  -- invokestatic and invokespecial of a method of an interface, in a class below version 52.0
  pub old_static_of_interface : run_interface_of_51 (invokestatic 35) ≡ Err OffsetFault
  pub old_special_of_interface : run_interface_of_51 (invokespecial 35) ≡ Err OffsetFault
  pub static_of_interface : run_interface (invokestatic 35) ≡ threw 3 (codes "IncompatibleClassChangeError")
  pub special_of_interface : run_interface (invokespecial 35) ≡ threw 3 (codes "NullPointerException")
  pub static_of_init : run_interface (invokestatic 16) ≡ threw 3 (codes "IncompatibleClassChangeError")
  pub below_empty : run 0 (pop ∷ []) 2 ≡ Err StackFault
  pub above_max_stack : run 0 (iconst 0 ∷ []) 2 ≡ Err StackFault
  pub outside_locals : run 1 (iload 1 ∷ []) 2 ≡ Err LocalFault
  pub other_kind : run 1 (iconst 0 ∷ insns.Throw ∷ []) 3 ≡ Err TagFault
  -- pop of a long
  pub cut_long : run 2 (insns.Compute (compute.LongConstant longs.Zero) ∷ pop ∷ []) 3 ≡ Err TagFault
  -- the array of main's arguments is thrown
  pub no_throwable : run 1 (aload 0 ∷ insns.Throw ∷ []) 3 ≡ Err ReferenceFault
  pub string_thrown : run 1 (ldc 22 ∷ insns.Throw ∷ []) 3 ≡ Err ReferenceFault
  pub not_constructed : run 1 (new 12 ∷ insns.Throw ∷ []) 3 ≡ Err ConstructionFault
  pub not_accepted : run_with (with_unaccepted 1) main_name [] 64 3 ≡ Err UnverifiedFault
  -- words are asked for first: 5 for the method, of which 4 are left
  pub no_words_for_it : run_with (with_unaccepted 55) main_name [] 64 3 ≡ threw 3 (codes "StackOverflowError")
  pub other_return : run 1 (iconst 0 ∷ insns.ReturnValue kinds.Int ∷ []) 3 ≡ Err ReturnFault
