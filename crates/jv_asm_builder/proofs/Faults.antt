-- Refusals that are passed on.
use Rattle.std.proofs.Common.{◌≡◌, Ok, Err}
use Rattle.std.specs.Prelude.{Result, IsErrAnd}
use Rattle.jv_asm.specs.declared.fault.AsmFault.{AsmFault}
use Rattle.jv_asm.specs.declared.fault.AsmFault.TheVariants.{TooLarge, OutOfMemory}

-- want of memory is no other refusal
pub is_memory : {T : Type 0} (result : Result T AsmFault) → IsErrAnd result (λ e. e ≡ OutOfMemory) → result ≡ Err TooLarge → ⊥
is_memory (Ok t) h e = h
is_memory (Err f) h e = absurd cc

-- what was found is no refusal
pub is_no_fault : {T E : Type 0} (x : T) (fault : E) → Ok x ≡ Err fault → ⊥
is_no_fault x fault e = absurd cc
