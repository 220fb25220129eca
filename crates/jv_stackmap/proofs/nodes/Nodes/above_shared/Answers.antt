use Rattle.std.proofs.Common.{◌≡◌, ◌+◌, ℕ, List, ap, ◌∙◌, arith}
use Rattle.std.specs.Prelude.{drop}
use Rattle.std.proofs.lemmas.List.{drop-drop}
use Rattle.jv_stackmap.specs.declared.entry.FrameEntry.{FrameEntry}
use Rattle.jv_stackmap.proofs.nodes.Nodes.above_shared.Goals as goal

-- one entry below is one more above
one_below : (all below next : List FrameEntry) (n : ℕ) → below ≡ drop n all → next ≡ drop 1 below → next ≡ drop (n + 1) all
one_below all below next n so is = is ∙ ap (λ (l : List FrameEntry). drop 1 l) so ∙ drop-drop 1 n all

pub loop-first-preserved-then-first-second : goal.loop-first-preserved-then-first-second
loop-first-preserved-then-first-second c = (
  omega (arith, c.if-above_first-most.false, c.loop-first.invariant.0),
  one_below _ _ _ c.loop-first.above_first c.loop-first.invariant.1 c.below-first.ensures,
  c.loop-first.invariant.2,
)

pub loop-first-preserved : goal.loop-first-preserved
loop-first-preserved c = (
  omega (arith, c.if-above_first-most.false, c.loop-first.invariant.0),
  c.loop-first.invariant.1,
  one_below _ _ _ c.loop-first.above_second c.loop-first.invariant.2 c.below-second.ensures,
)
