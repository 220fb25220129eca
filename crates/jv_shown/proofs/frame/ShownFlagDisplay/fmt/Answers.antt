use Rattle.std.proofs.Common.{◌≡◌, ℕ, Bool, true, false, List, [], ◌∷◌, ◌++◌, sym, ap, append_assoc}
use Rattle.std.specs.Prelude.{codes}
use Rattle.std.proofs.Output.{has_written_of_eq}
use Rattle.jv_shown.specs.Frames.{flag_line}
use Rattle.jv_shown.proofs.frame.ShownFlagDisplay.fmt.Goals as goal

pub returns-then-self-clause-writes : goal.returns-then-self-clause-writes
returns-then-self-clause-writes g c = λ plain ok.
    has_written_of_eq _ _ _ _ _ (set c.args.self.now.whose.now c.args.self.now.flag c.if-self.true) (c.write.ensures.writes plain ok)
  where
    set : (whose : List ℕ) (flag : Bool) → flag ≡ true → codes "  " ++ (whose ++ (codes "flag uninitializedThis" ++ 10 ∷ [])) ≡ flag_line whose flag
    set whose true e = ap (λ (t : List ℕ). codes "  " ++ t) (sym (append_assoc whose (codes "flag uninitializedThis") (10 ∷ [])))
    set whose false e = absurd cc
