-- Local variables that hold nothing from a place on.
use Rattle.std.specs.Prelude.{◌≡◌, ⊤, ℕ, zero, suc, List, [], ◌∷◌}
use Rattle.jv_stackmap.specs.declared.verification.VerificationTypeOf.TheVariants as types
use Rattle.jv_verify_types.specs.Numbered.{Item}

abbrev pub AreTops : ℕ → List Item → Type 0
AreTops used [] = ⊤
AreTops zero (item ∷ items) = (item ≡ types.Top) × AreTops zero items
AreTops (suc used) (item ∷ items) = AreTops used items
