-- Worked rows: where instructions start, handlers, branch targets and the code's end (JVMS 4.10.1.6), computed.
use Rattle.std.specs.Prelude.{◌≡◌, ℕ, Bool, true, false, List, [], ◌∷◌, Some, None, pos, negsuc}
use Rattle.jv_format.specs.declared.handlers.Handler.{Handler}
use Rattle.jv_text.specs.declared.descriptor.Base.TheVariants as bases
use Rattle.jv_text.specs.declared.descriptor.Element.TheVariants as elements
use Rattle.jv_stackmap.specs.declared.verification.VerificationTypeOf.TheVariants as types
use Rattle.jv_stackmap.specs.Frames.{Frame, PlacedFrame}
use Rattle.jv_code.specs.declared.insn.Insn.TheVariants as insns
use Rattle.jv_code.specs.declared.kinds.Condition.TheVariants as conditions
use Rattle.jv_code.specs.declared.kinds.Invocation.TheVariants as invocations
use Rattle.jv_code.specs.declared.kinds.JumpForm.TheVariants as jump
use Rattle.jv_code.specs.declared.kinds.Test.TheVariants as tests
use Rattle.jv_code.specs.declared.kinds.ValueKind.TheVariants as kinds
use Rattle.jv_code.specs.Insns.{Instruction}
use Rattle.jv_meaning_typing.specs.Environment.{Environment, instruction_at}
use Rattle.jv_meaning_typing.specs.Named.{throwable_type}
use Rattle.jv_meaning_typing.specs.Typing.{argument_words, first_frame, catches_throwable, is_made_by_new, handlers_hold, targets_hold, last_instruction, ends_code}
use Rattle.jv_meaning_typing.specs.Rows.Samples.{c, object, of_type, in_m, in_init, frame, flagged}

-- ---- instructions: at 0, 3 and 6

pub record StartRows : Type 0 where
  pub first : instruction_at in_m 0 ≡ Some (insns.New 2)
  pub inside : instruction_at in_m 1 ≡ None
  pub second : instruction_at in_m 3 ≡ Some (insns.New 4)
  pub end : instruction_at in_m 9 ≡ None
  pub last : last_instruction in_m ≡ Some (insns.New 6)
  pub made_by_new : is_made_by_new in_m (types.Uninitialized 3) ≡ true
  pub made_by_none : is_made_by_new in_m (types.Uninitialized 4) ≡ false
  pub made_at_end : is_made_by_new in_m (types.Uninitialized 9) ≡ false

-- ---- the arguments of a method of an int and a long, with a receiver and without

abbrev pub with_arguments : ℕ → Environment → Environment
with_arguments flags env = record env {
  site = record { by = env.site.by; method = record env.site.method { access_flags = flags } };
  descriptor = record { parameters = of_type 0 (elements.Base bases.Int) ∷ of_type 0 (elements.Base bases.Long) ∷ []; result = None };
}

pub record ArgumentRows : Type 0 where
  pub words : argument_words (with_arguments 1 in_m) ≡ 4
  pub static_words : argument_words (with_arguments 9 in_m) ≡ 3
  pub first : first_frame (with_arguments 1 in_m) ≡ frame (c ∷ types.Int ∷ types.Long ∷ types.Top ∷ []) []
  pub static_first : first_frame (with_arguments 9 in_m) ≡ frame (types.Int ∷ types.Long ∷ types.Top ∷ types.Top ∷ []) []
  pub constructor_first : first_frame in_init ≡ flagged (types.UninitializedThis ∷ types.Top ∷ types.Top ∷ types.Top ∷ []) []

-- ---- handlers of 3 to 6 at 20, for any Throwable (0) or for what an index names

abbrev pub handler : ℕ → Handler
handler catch_type = record { start_pc = 3; end_pc = 6; handler_pc = 20; catch_type = catch_type }

pub record CatchRows : Type 0 where
  pub any : catches_throwable in_m (handler 0) ≡ true
  pub throwable : catches_throwable in_m (handler 55) ≡ true
  pub object : catches_throwable in_m (handler 6) ≡ false
  pub array : catches_throwable in_m (handler 12) ≡ false
  pub interface : catches_throwable in_m (handler 8) ≡ false
  pub other_kind : catches_throwable in_m (handler 44) ≡ false

abbrev pub with_handlers : List Handler → Environment → Environment
with_handlers handlers env = record env { code = record env.code { exception_table = handlers } }

abbrev pub placed : ℕ → Frame → PlacedFrame
placed offset frame = record { offset = offset; frame = frame }

abbrev pub at_20 : Frame → List PlacedFrame
at_20 map = placed 4 (frame [] []) ∷ placed 20 map ∷ []

-- `nop` at an offset behind an int in a local variable and a C on the stack
abbrev pub covered : ℕ → List PlacedFrame → Bool
covered pc maps = handlers_hold (with_handlers (handler 0 ∷ []) in_m) maps pc insns.Nop (frame (types.Int ∷ []) (c ∷ []))

pub record CoverRows : Type 0 where
  pub merged : covered 3 (at_20 (frame (types.Int ∷ []) (throwable_type ∷ []))) ≡ true
  pub last : covered 5 (at_20 (frame (types.Top ∷ []) (object ∷ []))) ≡ true
  pub no_map : covered 3 [] ≡ false
  pub other_local : covered 3 (at_20 (frame (c ∷ []) (throwable_type ∷ []))) ≡ false
  pub empty_stack : covered 3 (at_20 (frame (types.Int ∷ []) [])) ≡ false
  pub other_type : covered 3 (at_20 (frame (types.Int ∷ []) (c ∷ []))) ≡ false
  -- what is not covered asks nothing
  pub before : covered 2 [] ≡ true
  pub behind : covered 6 [] ≡ true
  -- each handler is asked
  pub second : handlers_hold (with_handlers (handler 0 ∷ handler 55 ∷ []) in_m) (at_20 (frame [] (throwable_type ∷ []))) 3 insns.Nop
      (frame [] []) ≡ true
  pub second_without_map :
      handlers_hold (with_handlers (handler 0 ∷ record { start_pc = 3; end_pc = 4; handler_pc = 30; catch_type = 0 } ∷ []) in_m)
      (at_20 (frame [] (throwable_type ∷ []))) 3 insns.Nop (frame [] []) ≡ false

-- a call of another constructor: neither `this` as it was before nor the lack of the flag is what the handler finds
abbrev pub over_super : Frame → Bool
over_super map =
    handlers_hold (with_handlers (handler 0 ∷ []) in_init) (at_20 map) 3 (insns.Invoke invocations.Special 39)
    (flagged (types.UninitializedThis ∷ []) (types.UninitializedThis ∷ []))

pub record OverSuperRows : Type 0 where
  pub as_before : over_super (flagged (types.UninitializedThis ∷ []) (throwable_type ∷ [])) ≡ false
  pub without : over_super (frame (types.Top ∷ []) (throwable_type ∷ [])) ≡ false
  pub constructed : over_super (frame (c ∷ []) (throwable_type ∷ [])) ≡ false

-- ---- branch targets, from 9

abbrev pub jumps : List PlacedFrame → Instruction → Frame → Bool
jumps maps insn frame = targets_hold in_m maps 9 insn frame

pub record TargetRows : Type 0 where
  pub forward : jumps (at_20 (frame [] (c ∷ []))) (insns.Goto (pos 11) jump.Half) (frame [] (c ∷ [])) ≡ true
  pub backward : jumps (at_20 (frame [] [])) (insns.Goto (negsuc 4) jump.Quad) (frame [] []) ≡ true
  pub no_map : jumps (at_20 (frame [] [])) (insns.Goto (pos 12) jump.Half) (frame [] []) ≡ false
  pub before_code : jumps (at_20 (frame [] [])) (insns.Goto (negsuc 9) jump.Half) (frame [] []) ≡ false
  pub other_frame : jumps (at_20 (frame [] [])) (insns.Goto (pos 11) jump.Half) (frame [] (c ∷ [])) ≡ false
  -- the frame is the one behind the branch
  pub behind_test : jumps (at_20 (frame [] [])) (insns.Branch (tests.IfInt conditions.Equal) (pos 11)) (frame [] (types.Int ∷ [])) ≡ true
  pub before_test : jumps (at_20 (frame [] (types.Int ∷ []))) (insns.Branch (tests.IfInt conditions.Equal) (pos 11))
      (frame [] (types.Int ∷ [])) ≡ false
  -- each target of a switch, the default one too
  pub switch : jumps (at_20 (frame [] [])) (insns.TableSwitch [] (pos 11) (pos 0) (pos 0) (0 ∷ 0 ∷ 0 ∷ 11 ∷ []))
      (frame [] (types.Int ∷ [])) ≡ true
  pub switch_other : jumps (at_20 (frame [] [])) (insns.TableSwitch [] (pos 11) (pos 0) (pos 0) (0 ∷ 0 ∷ 0 ∷ 12 ∷ []))
      (frame [] (types.Int ∷ [])) ≡ false
  pub switch_default : jumps (at_20 (frame [] [])) (insns.LookupSwitch [] (pos 12) (0 ∷ 0 ∷ 0 ∷ 1 ∷ 0 ∷ 0 ∷ 0 ∷ 11 ∷ []))
      (frame [] (types.Int ∷ [])) ≡ false
  pub no_target : jumps [] insns.Nop (frame [] []) ≡ true

-- ---- the end of code

pub record EndRows : Type 0 where
  pub return : ends_code (Some insns.Return) ≡ true
  pub areturn : ends_code (Some (insns.ReturnValue kinds.Reference)) ≡ true
  pub athrow : ends_code (Some insns.Throw) ≡ true
  pub goto : ends_code (Some (insns.Goto (pos 0) jump.Half)) ≡ true
  pub switch : ends_code (Some (insns.LookupSwitch [] (pos 0) [])) ≡ true
  pub ifeq : ends_code (Some (insns.Branch (tests.IfInt conditions.Equal) (pos 0))) ≡ false
  pub nop : ends_code (Some insns.Nop) ≡ false
