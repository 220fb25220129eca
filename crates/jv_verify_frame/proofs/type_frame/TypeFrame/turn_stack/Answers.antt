use Rattle.std.proofs.Common.{◌∙◌, ap, sym}
use Rattle.std.proofs.lemmas.List.Sorted.{IsPermutation-reverse, sum_by-IsPermutation}
use Rattle.std.specs.Prelude.{reverse}
use Rattle.jv_verify_types.specs.Numbered.{stack_words, item_words}
use Rattle.jv_verify_frame.proofs.type_frame.TypeFrame.turn_stack.Goals as goal

pub invariant_of-self : goal.invariant_of-self
invariant_of-self c =
    let new = c.turn.new.self in
    c.self.invariant ∙ (ap stack_words (sym c.turn.ensures) ∙ sym (sum_by-IsPermutation item_words new (reverse new) (IsPermutation-reverse new)))
