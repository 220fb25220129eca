-- A long that loses its second word.
use Rattle.std.specs.Prelude.{ℕ, zero, suc, Bool, true, false, List, [], ◌∷◌, if◌then◌else◌}
use Rattle.jv_stackmap.specs.declared.verification.VerificationTypeOf.TheVariants as types
use Rattle.jv_verify_types.specs.Numbered.{Item}

abbrev pub is_long : Item → Bool
is_long types.Long = true
is_long _ = false

-- the local variable before an index, if a long begins there, is top
abbrev pub cut_at : ℕ → List Item → List Item
cut_at zero locals = locals
cut_at (suc index) [] = []
cut_at (suc zero) (local ∷ more) = (if is_long local then types.Top else local) ∷ more
cut_at (suc (suc index)) (local ∷ more) = local ∷ cut_at (suc index) more
