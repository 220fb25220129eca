-- The least place of what passes a test.
use Rattle.std.specs.Prelude.{ℕ, ◌+◌, Bool, Option, Some, None, List, [], ◌∷◌, ◌&&◌, if◌then◌else◌, nat_le, nat_lt, min}
use Rattle.jv_link_handlers.specs.declared.reach.Reach.{Reach}
use Rattle.jv_link_handlers.specs.declared.placed.Placed.{Placed}

-- 65535 where none does
abbrev pub least : (Placed → Bool) → List Placed → ℕ
least test [] = 65535
least test (p ∷ ps) = min (if test p then p.place else 65535) (least test ps)

abbrev pub has_offset : ℕ → Reach → Bool
has_offset offset r = nat_le r.start offset && nat_lt offset r.end

abbrev pub has_rank : ℕ → Reach → Bool
has_rank rank r = nat_le r.low rank && nat_lt rank r.high

abbrev pub holds_offset : ℕ → Placed → Bool
holds_offset offset p = has_offset offset p.reach

abbrev pub holds_rank : ℕ → Placed → Bool
holds_rank rank p = has_rank rank p.reach

abbrev pub holds : ℕ → ℕ → Placed → Bool
holds offset rank p = holds_offset offset p && holds_rank rank p

-- reaches with their places, from one on
abbrev pub placed_from : ℕ → List Reach → List Placed
placed_from place [] = []
placed_from place (r ∷ rs) = record { reach = r; place = place } ∷ placed_from (place + 1) rs

abbrev pub place_or_none : ℕ → Option ℕ
place_or_none place = if nat_lt place 65535 then Some place else None
