-- The text of the first place at which two frames differ.
use Rattle.std.proofs.Common.{◌≡◌, ℕ, List, ◌++◌, Option, sym, ap, ◌∙◌, append_assoc}
use Rattle.std.specs.Prelude.{codes, slice_get}
use Rattle.std.specs.Fmt.{decimal}
use Rattle.jv_stackmap.specs.Types.{FrameType}
use Rattle.jv_stackmap.specs.Frames.{Frame}
use Rattle.jv_verify.specs.difference.Difference.{Difference}
use Rattle.jv_verify.specs.difference.Difference.TheVariants.{Local, Item}
use Rattle.jv_program_explain.specs.Frames.{difference_text, wanted_text}

pub local_text : (frame map : Frame) (d : Difference) (k place : ℕ) (from to : Option FrameType) → d ≡ Local k → place ≡ k → from ≡ slice_get frame.locals place
    → to ≡ slice_get map.locals place → codes "  local variable " ++ (decimal k ++ wanted_text from to) ≡ difference_text frame map d
local_text frame map d k place from to e at one other =
    ap (λ o. codes "  local variable " ++ (decimal k ++ wanted_text o to)) (one ∙ ap (slice_get frame.locals) at)
    ∙ (ap (λ o. codes "  local variable " ++ (decimal k ++ wanted_text (slice_get frame.locals k) o)) (other ∙ ap (slice_get map.locals) at)
    ∙ (sym (append_assoc (codes "  local variable ") (decimal k) (wanted_text (slice_get frame.locals k) (slice_get map.locals k))) ∙ ap (difference_text frame map) (sym e)))

pub item_text : (frame map : Frame) (d : Difference) (k : ℕ) (from to : Option FrameType) → d ≡ Item k → from ≡ slice_get frame.stack k → to ≡ slice_get map.stack k
    → codes "  stack item " ++ (decimal k ++ (codes " from the top" ++ wanted_text from to)) ≡ difference_text frame map d
item_text frame map d k from to e one other =
    ap (λ o. codes "  stack item " ++ (decimal k ++ (codes " from the top" ++ wanted_text o to))) one
    ∙ (ap (λ o. codes "  stack item " ++ (decimal k ++ (codes " from the top" ++ wanted_text (slice_get frame.stack k) o))) other
    ∙ (grouped (codes "  stack item ") (decimal k) (codes " from the top") (wanted_text (slice_get frame.stack k) (slice_get map.stack k)) ∙ ap (difference_text frame map) (sym e)))
  where
    grouped : (a b c d : List ℕ) → a ++ (b ++ (c ++ d)) ≡ a ++ b ++ c ++ d
    grouped a b c d = sym (append_assoc (a ++ b) c d ∙ append_assoc a b (c ++ d))
