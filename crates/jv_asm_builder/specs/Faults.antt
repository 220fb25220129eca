-- Calls that answer what a definition says, or that the host's memory was refused.
use Rattle.std.specs.Prelude.{◌≡◌, ◌⊎◌, List, [], ◌∷◌, Result, Ok, Err}
use Rattle.jv_asm.specs.declared.fault.AsmFault.{AsmFault}
use Rattle.jv_asm.specs.declared.fault.AsmFault.TheVariants as asm
use Rattle.jv_asm_builder.specs.declared.fault.BuilderFault.{BuilderFault}
use Rattle.jv_asm_builder.specs.declared.fault.BuilderFault.TheVariants.{TooLarge, OutOfMemory}

-- what is expected, or a fault
abbrev pub Expected : Type 0 → Type 0
Expected A = Result A BuilderFault

infixl 10 ◌>>=◌
-- one behind the other: the first fault is that of the whole
abbrev pub ◌>>=◌ : {A B : Type 0} → Expected A → (A → Expected B) → Expected B
Ok a >>= f = f a
Err fault >>= f = Err fault

-- the same for each of a list
abbrev pub each : {A B : Type 0} → (A → Expected B) → List A → Expected (List B)
each f [] = Ok []
each f (x ∷ xs) = f x >>= λ y. each f xs >>= λ ys. Ok (y ∷ ys)

-- A result is what was expected, or want of memory.
abbrev pub IsAnswer : {A B : Type 0} → Expected B → (A → B) → Expected A → Type 0
IsAnswer expected value (Ok a) = expected ≡ Ok (value a)
IsAnswer expected value (Err fault) = (fault ≡ OutOfMemory) ⊎ (expected ≡ Err fault)

-- the fault of one constant, as that of the whole
abbrev pub fault_of : AsmFault → BuilderFault
fault_of asm.TooLarge = TooLarge
fault_of asm.OutOfMemory = OutOfMemory
