-- What code keeps of each instruction where it stands (JVMS 4.9.1, 6.5).
use Rattle.std.proofs.Common.{ℕ, zero, suc, ◌≤◌, nat_lt, ◌&&◌, List, IsTrue, arith}
use Rattle.std.proofs.lemmas.Bool.{and_parts}
use Rattle.jv_format.specs.Format.{half, byte}
use Rattle.jv_code.specs.Insns.{Instruction}
use Rattle.jv_code.specs.declared.insn.Insn.TheVariants as insns
use Rattle.jv_code.specs.Places.{IsAt}
use Rattle.jv_code.proofs.StartLaws.{FitsThere-holds, KeysRise-holds}
use Rattle.jv_interp_instructions.specs.InGuest.{KeepsCodeRules}

some : (dimensions : ℕ) → IsTrue (nat_lt 0 dimensions) → 1 ≤ dimensions
some zero h = absurd cc
some (suc n) h = omega arith

pub keeps_rules : (bytes : List ℕ) (pc : ℕ) (i : Instruction) → IsAt bytes pc i → KeepsCodeRules i
keeps_rules bytes pc insns.Nop at = tt
keeps_rules bytes pc insns.NullConstant at = tt
keeps_rules bytes pc (insns.Compute a) at = tt
keeps_rules bytes pc (insns.PoolConstant a b) at = tt
keeps_rules bytes pc (insns.PoolLongConstant a) at = tt
keeps_rules bytes pc (insns.Load a b c) at = tt
keeps_rules bytes pc (insns.Store a b c) at = tt
keeps_rules bytes pc (insns.StoreLong a b) at = tt
keeps_rules bytes pc (insns.ArrayLoad a) at = tt
keeps_rules bytes pc insns.ReferenceArrayLoad at = tt
keeps_rules bytes pc (insns.ArrayStore a) at = tt
keeps_rules bytes pc insns.ReferenceArrayStore at = tt
keeps_rules bytes pc (insns.Stack a) at = tt
keeps_rules bytes pc (insns.Division a b) at = tt
keeps_rules bytes pc (insns.Increment a b c) at = tt
keeps_rules bytes pc (insns.Branch a b) at = tt
keeps_rules bytes pc (insns.Goto a b) at = tt
keeps_rules bytes pc (insns.TableSwitch a b c d e) at = tt
keeps_rules bytes pc (insns.LookupSwitch padding default pairs) at = KeysRise-holds bytes pc padding default pairs at
keeps_rules bytes pc (insns.ReturnValue a) at = tt
keeps_rules bytes pc insns.Return at = tt
keeps_rules bytes pc (insns.Field a b) at = tt
keeps_rules bytes pc (insns.Invoke a b) at = tt
keeps_rules bytes pc (insns.InvokeInterface a b) at = tt
keeps_rules bytes pc (insns.New a) at = tt
keeps_rules bytes pc (insns.NewArray a) at = tt
keeps_rules bytes pc (insns.NewReferenceArray a) at = tt
keeps_rules bytes pc (insns.NewMultiArray index dimensions) at =
    let fits = FitsThere-holds bytes pc (insns.NewMultiArray index dimensions) at in
    some dimensions (and_parts (byte.fits dimensions) (nat_lt 0 dimensions) (and_parts (half.fits index) (byte.fits dimensions && nat_lt 0 dimensions) fits).1).1
keeps_rules bytes pc insns.ArrayLength at = tt
keeps_rules bytes pc insns.Throw at = tt
keeps_rules bytes pc (insns.CheckCast a) at = tt
keeps_rules bytes pc (insns.InstanceOf a) at = tt
