-- Worked rows: verdicts on classes with one method.
use Rattle.std.specs.Prelude.{ℕ, List, [], ◌∷◌, Option, Some, None, pos, codes}
use Rattle.std.specs.List.{flat_map}
use Rattle.jv_format.specs.declared.handlers.Handler.{Handler}
use Rattle.jv_pool.specs.declared.constant.Constant.TheVariants as constants
use Rattle.jv_pool.specs.Constants.{Entry}
use Rattle.jv_class_structure.specs.Parts.{CodeSeen}
use Rattle.jv_class.specs.Class.{Class, Method}
use Rattle.jv_code.specs.declared.insn.Insn.TheVariants as insns
use Rattle.jv_code.specs.declared.kinds.Invocation.TheVariants as invocations
use Rattle.jv_code.specs.declared.kinds.JumpForm.TheVariants as jump
use Rattle.jv_code.specs.declared.kinds.LocalForm.TheVariants as local
use Rattle.jv_code.specs.declared.kinds.ValueKind.TheVariants as kinds
use Rattle.jv_code.specs.Insns.{Instruction, insn_bytes}
use Rattle.jv_meaning_world.specs.Rows.Files.{object_name}
use Rattle.jv_meaning_typing.specs.Rows.LinkingSamples.{world_with, guest, class}
use Rattle.jv_meaning_typing.specs.declared.verdict.VerifyRule.{VerifyRule}
use Rattle.jv_meaning_typing.specs.declared.verdict.VerifyRule.TheVariants as rules
use Rattle.jv_meaning_typing.specs.declared.verdict.Verdict.{Verdict}
use Rattle.jv_meaning_typing.specs.declared.verdict.Verdict.TheVariants as verdicts
use Rattle.jv_meaning_typing.specs.Judgement.{IsVerdictOfClass}
use Rattle.jv_meaning_typing.specs.Rows.Methods.{iconst}

-- ---- a class with one method, which is static

abbrev pub coded : List Handler → Option (List ℕ) → List Instruction → CodeSeen
coded handlers map instructions = record {
  max_stack = 1;
  max_locals = 0;
  code = flat_map insn_bytes instructions;
  exception_table = handlers;
  stack_map_table = map;
}

abbrev pub method_with : List ℕ → CodeSeen → Method
method_with descriptor code = record { access_flags = 9; name = codes "m"; descriptor = descriptor; code = Some code }

abbrev pub class_of : List ℕ → CodeSeen → Class
class_of descriptor code = class (codes "A") object_name (method_with descriptor code ∷ [])

abbrev pub HasVerdict : Class → Verdict → Type 0
HasVerdict class verdict = IsVerdictOfClass (world_with (class ∷ [])) (guest class) verdict

-- the method, the first of the class, breaks a rule at an offset
abbrev pub broken : ℕ → VerifyRule → Verdict
broken offset rule = verdicts.Verify (record { method = 0; offset = offset; rule = rule })

abbrev pub void : List Instruction → Class
void instructions = class_of (codes "()V") (coded [] None instructions)

abbrev pub handling : Handler → Class
handling handler = class_of (codes "()V") (coded (handler ∷ []) None (insns.Return ∷ []))

abbrev pub handler : ℕ → Handler
handler end = record { start_pc = 0; end_pc = end; handler_pc = 0; catch_type = 0 }

pub record PlainVerdictRows : Type 0 where
  pub accepted : HasVerdict (void (insns.Return ∷ [])) verdicts.Accepted
  -- an argument, and no local variable
  pub arguments : HasVerdict (class_of (codes "(I)V") (coded [] None (insns.Return ∷ []))) (broken 0 rules.Code)
  -- a handler that covers nothing
  pub handlers : HasVerdict (handling (handler 0)) (broken 0 rules.HandlerTable)
  -- a StackMapTable without a count
  pub map : HasVerdict (class_of (codes "()V") (coded [] (Some []) (insns.Return ∷ []))) (broken 0 rules.MapFrames)
  -- no map behind a return, where a handler begins, and where a jump goes
  pub behind_return : HasVerdict (void (insns.Return ∷ insns.Return ∷ [])) (broken 1 rules.Merge)
  pub at_handler : HasVerdict (handling (handler 1)) (broken 0 rules.CoveredHandler)
  pub at_target : HasVerdict (void (insns.Goto (pos 3) jump.Half ∷ insns.Return ∷ [])) (broken 0 rules.BranchTarget)
  pub int_as_object :
      HasVerdict (class_of (codes "()Ljava/lang/Object;") (coded [] None (iconst ∷ insns.ReturnValue kinds.Reference ∷ [])))
      (broken 1 rules.Instruction)
  pub goes_on : HasVerdict (void (insns.Nop ∷ [])) (broken 0 rules.EndOfCode)

-- ---- with a map: the number of its frames, and each

abbrev pub mapped : List ℕ → List Instruction → Class
mapped map instructions = class_of (codes "()V") (coded [] (Some map) instructions)

pub record MapVerdictRows : Type 0 where
  -- the initial frame falls into a map at 0, to which the jump goes as well
  pub loop : HasVerdict (mapped (0 ∷ 1 ∷ 0 ∷ []) (insns.Goto (pos 0) jump.Half ∷ [])) verdicts.Accepted
  -- what nothing reaches has the frame of its map
  pub unreached : HasVerdict (mapped (0 ∷ 1 ∷ 1 ∷ []) (insns.Return ∷ insns.Return ∷ [])) verdicts.Accepted
  -- a map with an int on the stack, where nothing stands on it
  pub unlike : HasVerdict (mapped (0 ∷ 1 ∷ 65 ∷ 1 ∷ []) (insns.Nop ∷ insns.Return ∷ [])) (broken 1 rules.Merge)

-- ---- a constructor whose call of another is covered by a handler, for which `this` is what it was before

-- 2 java/lang/Object, 6 its constructor, 8 java/lang/Throwable
abbrev pub constructor_constants : List Entry
constructor_constants =
    constants.Utf8 object_name ∷ constants.Class 1 ∷ constants.Utf8 (codes "<init>") ∷ constants.Utf8 (codes "()V")
    ∷ constants.NameAndType 3 4 ∷ constants.Methodref 2 5 ∷ constants.Utf8 (codes "java/lang/Throwable") ∷ constants.Class 7 ∷ []

-- aload_0, invokespecial, return; a handler of these at athrow
abbrev pub covered_super : List Instruction
covered_super = insns.Load kinds.Reference 0 local.Opcode ∷ insns.Invoke invocations.Special 6 ∷ insns.Return ∷ insns.Throw ∷ []

-- a frame at 5: `this` uninitialized, and a Throwable on the stack
abbrev pub covered_code : CodeSeen
covered_code = record {
  max_stack = 1;
  max_locals = 1;
  code = flat_map insn_bytes covered_super;
  exception_table = record { start_pc = 0; end_pc = 4; handler_pc = 5; catch_type = 0 } ∷ [];
  stack_map_table = Some (0 ∷ 1 ∷ 255 ∷ 0 ∷ 5 ∷ 0 ∷ 1 ∷ 6 ∷ 0 ∷ 1 ∷ 7 ∷ 0 ∷ 8 ∷ []);
}

abbrev pub constructor : Method
constructor = record { access_flags = 1; name = codes "<init>"; descriptor = codes "()V"; code = Some covered_code }

abbrev pub constructing : Class
constructing = record (class (codes "A") object_name (constructor ∷ [])) { constant_pool = constructor_constants }

pub record SuperVerdictRows : Type 0 where
  pub handler_over_super : HasVerdict constructing (broken 1 rules.CoveredHandler)

-- ---- all of them

pub record VerdictRows : Type 0 where
  pub plain : PlainVerdictRows
  pub mapped : MapVerdictRows
  pub super : SuperVerdictRows
