use Rattle.std.proofs.Common.{◌≡◌, take}
use Rattle.std.specs.List.{flat_map}
use Rattle.jv_text.specs.Seen.{seen_element}
use Rattle.jv_meaning_library.specs.Closed.{element_names}
use Rattle.jv_closed.specs.There.{are_there}
use Rattle.jv_closed.proofs.texts.has_types.Given as goal

abbrev pub invariant-loop-k : goal.invariant-loop-k
invariant-loop-k l = l.all ≡ are_there l.table (flat_map (λ t. element_names (seen_element t.element)) (take l.k l.types))
