-- How many bytes instructions take.
use Rattle.std.proofs.Common.{◌≡◌, ℕ, ◌+◌, ◌≤◌, ◌<◌, List, ◌∷◌, ◌++◌, length, ap, ◌∙◌, arith}
use Rattle.std.specs.List.{flat_map}
use Rattle.std.proofs.lemmas.List.{length-append}
use Rattle.std.proofs.lemmas.List.Concat.{flat_map-append}
use Rattle.jv_code.specs.declared.insn.Insn.TheVariants.{Nop, NullConstant, Compute, PoolConstant, PoolLongConstant, Load, Store, StoreLong, ArrayLoad, ReferenceArrayLoad, ArrayStore, ReferenceArrayStore, Stack, Division, Increment, Branch, Goto, TableSwitch, LookupSwitch, ReturnValue, Return, Field, Invoke, InvokeInterface, New, NewArray, NewReferenceArray, NewMultiArray, ArrayLength, Throw, CheckCast, InstanceOf}
use Rattle.jv_code.specs.declared.kinds.Computation.TheVariants as compute
use Rattle.jv_code.specs.declared.kinds.LocalForm.TheVariants as local
use Rattle.jv_code.specs.declared.kinds.IncrementForm.TheVariants as increment
use Rattle.jv_code.specs.declared.kinds.IntForm.TheVariants as int
use Rattle.jv_code.specs.declared.kinds.IndexForm.TheVariants as index
use Rattle.jv_code.specs.declared.kinds.JumpForm.TheVariants as jump
use Rattle.jv_code.specs.Insns.{Instruction, insn_bytes}

abbrev pub size : List Instruction → ℕ
size insns = length (flat_map insn_bytes insns)

pub some_bytes : (i : Instruction) → 1 ≤ length (insn_bytes i)
some_bytes Nop = omega arith
some_bytes NullConstant = omega arith
some_bytes (Compute (compute.IntConstant z int.Opcode)) = omega arith
some_bytes (Compute (compute.IntConstant z int.Byte)) = omega arith
some_bytes (Compute (compute.IntConstant z int.Half)) = omega arith
some_bytes (Compute (compute.LongConstant a)) = omega arith
some_bytes (PoolConstant i index.Byte) = omega arith
some_bytes (PoolConstant i index.Half) = omega arith
some_bytes (PoolLongConstant a) = omega arith
some_bytes (Load k n local.Opcode) = omega arith
some_bytes (Load k n local.Byte) = omega arith
some_bytes (Load k n local.Wide) = omega arith
some_bytes (Store k n local.Opcode) = omega arith
some_bytes (Store k n local.Byte) = omega arith
some_bytes (Store k n local.Wide) = omega arith
some_bytes (StoreLong n local.Opcode) = omega arith
some_bytes (StoreLong n local.Byte) = omega arith
some_bytes (StoreLong n local.Wide) = omega arith
some_bytes (ArrayLoad a) = omega arith
some_bytes ReferenceArrayLoad = omega arith
some_bytes (ArrayStore a) = omega arith
some_bytes ReferenceArrayStore = omega arith
some_bytes (Stack a) = omega arith
some_bytes (Compute (compute.Arithmetic a b)) = omega arith
some_bytes (Division a b) = omega arith
some_bytes (Compute (compute.Negate a)) = omega arith
some_bytes (Compute (compute.Shift a b)) = omega arith
some_bytes (Compute (compute.Convert a)) = omega arith
some_bytes (Compute compute.CompareLongs) = omega arith
some_bytes (Increment n z increment.Byte) = omega arith
some_bytes (Increment n z increment.Wide) = omega arith
some_bytes (Branch a b) = omega arith
some_bytes (Goto z jump.Half) = omega arith
some_bytes (Goto z jump.Quad) = omega arith
some_bytes (TableSwitch a b c d e) = omega arith
some_bytes (LookupSwitch a b c) = omega arith
some_bytes (ReturnValue a) = omega arith
some_bytes Return = omega arith
some_bytes (Field a b) = omega arith
some_bytes (Invoke a b) = omega arith
some_bytes (InvokeInterface a b) = omega arith
some_bytes (New a) = omega arith
some_bytes (NewArray a) = omega arith
some_bytes (NewReferenceArray a) = omega arith
some_bytes (NewMultiArray a b) = omega arith
some_bytes ArrayLength = omega arith
some_bytes Throw = omega arith
some_bytes (CheckCast a) = omega arith
some_bytes (InstanceOf a) = omega arith

pub size-cons : (i : Instruction) (insns : List Instruction) → size (i ∷ insns) ≡ length (insn_bytes i) + size insns
size-cons i insns = length-append (insn_bytes i) (flat_map insn_bytes insns)

pub size-append : (xs ys : List Instruction) → size (xs ++ ys) ≡ size xs + size ys
size-append xs ys = ap length (flat_map-append insn_bytes xs ys) ∙ length-append (flat_map insn_bytes xs) (flat_map insn_bytes ys)

pub shorter : (i : Instruction) (rest after : List ℕ) → rest ≡ insn_bytes i ++ after → length after < length rest
shorter i rest after e = omega (arith, some_bytes i, ap length e, length-append (insn_bytes i) after)
