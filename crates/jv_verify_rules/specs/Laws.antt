-- Laws of the rules of instructions (JVMS 4.10.1.9).
use Rattle.std.specs.Prelude.{◌≡◌, ℕ, suc, ◌≤◌, Bool, true, false, ◌&&◌, nat_le, List, ◌++◌, length, drop, slice_get, Some, None, IsTrue}
use Rattle.jv_stackmap.specs.Frames.{Frame}
use Rattle.jv_stackmap.specs.Types.{FrameType}
use Rattle.jv_code.specs.Insns.{Instruction}
use Rattle.jv_code.specs.declared.insn.Insn.TheVariants as insns
use Rattle.jv_code.specs.declared.kinds.Invocation.TheVariants as invocations
use Rattle.jv_meaning_typing.specs.Environment.{Environment}
use Rattle.jv_meaning_typing.specs.Rule.{rule, constructed_object}

-- An instruction leaves as many local variables as there were.
abbrev pub KeepsLocalCount : Type 0
KeepsLocalCount =
    (env : Environment) (pc : ℕ) (insn : Instruction) (before behind : Frame) → rule env pc insn before ≡ Some behind
    → length behind.locals ≡ length before.locals

-- the instruction stores into no local variable, makes no object and calls no `<init>`, which both replace types (4.10.1.4)
abbrev pub keeps_locals : Instruction → Bool
keeps_locals (insns.Store kind index form) = false
keeps_locals (insns.StoreLong index form) = false
keeps_locals (insns.New index) = false
keeps_locals (insns.Invoke invocations.Special index) = false
keeps_locals insn = true

-- a local variable is that of an index, or the one before it or behind it
abbrev pub is_beside : ℕ → ℕ → Bool
is_beside index k = nat_le index (suc k) && nat_le k (suc index)

-- The instruction can give this local variable another type: one that stores writes a word or two from an index on, and a long that
-- begins before it becomes top (4.10.1.7).
abbrev pub may_write : Instruction → ℕ → Bool
may_write (insns.Store kind index form) k = is_beside index k
may_write (insns.StoreLong index form) k = is_beside index k
may_write (insns.New index) k = true
may_write (insns.Invoke invocations.Special index) k = true
may_write insn k = false

-- Such an instruction leaves the local variables and the flag as they were.
abbrev pub KeepsLocals : Type 0
KeepsLocals =
    (env : Environment) (pc : ℕ) (insn : Instruction) (before behind : Frame) → IsTrue (keeps_locals insn)
    → rule env pc insn before ≡ Some behind
    → (behind.locals ≡ before.locals) × (behind.flag_this_uninit ≡ before.flag_this_uninit)

-- An instruction leaves the local variables that it can't write.
abbrev pub WritesThere : Type 0
WritesThere =
    (env : Environment) (pc : ℕ) (insn : Instruction) (before behind : Frame) → rule env pc insn before ≡ Some behind
    → (k : ℕ) → may_write insn k ≡ false → slice_get behind.locals k ≡ slice_get before.locals k

-- Some items were taken from the top of a stack, whose top is first, and at most six put on what is left: `dup2_x2` puts as many.
pub record StandsOn (before behind : List FrameType) : Type 0 where
  pub given : List FrameType
  pub taken : ℕ
  pub few : length given ≤ 6
  pub is : behind ≡ given ++ drop taken before

-- An instruction that constructs no object leaves what is on the stack below what it takes (4.10.1.4, 4.10.1.9).
abbrev pub LeavesBelow : Type 0
LeavesBelow =
    (env : Environment) (pc : ℕ) (insn : Instruction) (before behind : Frame) → rule env pc insn before ≡ Some behind
    → constructed_object env insn before ≡ None → StandsOn before.stack behind.stack
