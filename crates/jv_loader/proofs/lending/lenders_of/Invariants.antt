use Rattle.std.proofs.Common.{◌≡◌, map, take}
use Rattle.jv_meaning_world.specs.Numbers.{number_named}
use Rattle.jv_loader.proofs.lending.lenders_of.Given as goal

abbrev pub invariant-loop-header : goal.invariant-loop-header
invariant-loop-header l = l.lenders.items ≡ map (λ h. number_named l.list h.name.now) (take l.header-index l.headers)
