use Rattle.std.proofs.Common.{ℕ, List, sym, subst, ◌∙◌}
use Rattle.jv_interp_objects.specs.Texts.{HasText}
use Rattle.jv_interp_objects.proofs.InTexts.{known_grown, some_same}
use Rattle.jv_interp_objects.proofs.texts.number_at.Goals as goal

pub returns-clause-known : goal.returns-clause-known
returns-clause-known c =
    c.keep.ensures.known _ _ (known_grown _ _ _ _ c.in_ok-number.ensures.numbers.extends c.requires.known)
    (λ text at. subst (λ (t : List ℕ). HasText c.number_of.new.names t c.in_ok-number.number) (some_same (sym c.utf8-2.ensures ∙ at)) c.in_ok-number.ensures.text)
