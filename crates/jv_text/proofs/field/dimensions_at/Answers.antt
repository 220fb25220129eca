use Rattle.std.proofs.Common.{arith, ◌≡◌, ◌∙◌, ap, ℕ, List, ◌∷◌, ◌++◌, drop}
use Rattle.std.specs.Prelude.{replicate}
use Rattle.std.proofs.lemmas.Grind.{common_steps}
use Rattle.jv_text.proofs.Fields.{headed}
use Rattle.jv_text.proofs.field.dimensions_at.Goals as goal

pub returns-then-dimensions-clause-none : goal.returns-then-dimensions-clause-none
returns-then-dimensions-clause-none c =
    let rest = c.loop-rest.rest.now in
    let head : rest ≡ 91 ∷ drop 1 rest = headed rest c.in-91.len_at_least (grind arith) in
    (drop 1 rest, c.loop-rest.invariant.0 ∙ ap (λ (n : ℕ). replicate n 91 ++ rest) c.if-dimensions.true ∙ ap (λ (xs : List ℕ). replicate 255 91 ++ xs) head)

pub loop-rest-preserved : goal.loop-rest-preserved
loop-rest-preserved c = grind (arith, common_steps)
