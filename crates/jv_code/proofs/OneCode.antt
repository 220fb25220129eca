-- Bytes are code in one way at most, so the fact that they are gives the instructions.
use Rattle.std.specs.Prelude.{◌≡◌, ℕ, List}
use Rattle.std.proofs.Common.{ap, subst}
use Rattle.std.proofs.Math.Logic.{∥∥₁_elim}
use Rattle.std.proofs.Props.{props}
use Rattle.jv_code.specs.Insns.{Instruction}
use Rattle.jv_code.specs.Places.{IsCode}
use Rattle.jv_code.proofs.StartLaws.{OneList-holds}

abbrev Codes : List ℕ → Type 0
Codes bytes = (insns : List Instruction) × IsCode bytes insns

abbrev joined : (bytes : List ℕ) (insns : List Instruction) → IsCode bytes insns → Codes bytes
joined bytes insns code = (insns, code)

IsCode-prop : (bytes : List ℕ) (insns : List Instruction) → IsProp (IsCode bytes insns)
IsCode-prop bytes insns = Prim.hlevel props

same_joined : (bytes : List ℕ) (a b : List Instruction) (p : IsCode bytes a) → a ≡ b → (q : IsCode bytes b) → joined bytes a p ≡ joined bytes b q
same_joined bytes a b p e =
    subst (λ (k : List Instruction). (q : IsCode bytes k) → joined bytes a p ≡ joined bytes k q) e (λ q. ap (joined bytes a) (IsCode-prop bytes a p q))

code_prop : (bytes : List ℕ) → IsProp ((insns : List Instruction) × IsCode bytes insns)
code_prop bytes x y = same_joined bytes x.0 y.0 x.1 (OneList-holds bytes x.0 y.0 x.1 y.1) y.1

pub code_of : (bytes : List ℕ) → ∥ ((insns : List Instruction) × IsCode bytes insns) ∥₁ → (insns : List Instruction) × IsCode bytes insns
code_of bytes h = ∥∥₁_elim h (code_prop bytes) (λ code. code)
