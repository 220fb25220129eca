-- Choices among reaches, by their ranks.
use Rattle.std.specs.Prelude.{ℕ, Bool, ◌&&◌, not, nat_le, nat_lt}
use Rattle.jv_link_handlers.specs.declared.placed.Placed.{Placed}

abbrev pub is_full : ℕ → ℕ → Placed → Bool
is_full low high p = nat_le p.reach.low low && nat_le high p.reach.high

abbrev pub is_part : ℕ → ℕ → Placed → Bool
is_part low high p = (not (is_full low high p) && nat_lt p.reach.low high) && nat_lt low p.reach.high

abbrev pub is_below : ℕ → Placed → Bool
is_below middle p = nat_lt p.reach.low middle

abbrev pub is_above : ℕ → Placed → Bool
is_above middle p = nat_lt middle p.reach.high
