use Rattle.std.proofs.Common.{◌≡◌, ◌≤◌, length, take}
use Rattle.jv_meaning_world.specs.World.{package_of}
use Rattle.jv_classes.proofs.package.package.Given as goal

abbrev pub invariant-loop-end : goal.invariant-loop-end
invariant-loop-end l = (l.end ≤ length l.name) × (package_of (take l.end l.name) ≡ package_of l.name)

abbrev pub decreases-loop-end : goal.decreases-loop-end
decreases-loop-end l = l.end
