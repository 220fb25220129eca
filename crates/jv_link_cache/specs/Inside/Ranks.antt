-- Ranks of classes, by which a class and those below it are found.
use Rattle.std.specs.Prelude.{◌≡◌, ℕ, ◌<◌, Bool, ◌&&◌, List, Option, IfSome, length, get_or, nat_le, nat_lt}
use Rattle.jv_meaning_world.specs.World.{World}
use Rattle.jv_meaning_world.specs.Numbers.{HoldsAtBoth, IsNumbered}
use Rattle.jv_link_cache.specs.declared.ranks.Span.{Span}
use Rattle.jv_link_cache.specs.Handlers.{is_of}
use Rattle.jv_link_cache.specs.Inside.Each.{Each}

abbrev pub rank_of : List ℕ → ℕ → ℕ
rank_of ranks class = get_or ranks class 65535

abbrev pub is_in : ℕ → Span → Bool
is_in rank span = nat_le span.low rank && nat_lt rank span.high

-- a class that has a rank is in the span of another one where it is that one or below it
abbrev pub IsTold : World → List ℕ → Span → ℕ → ℕ → Type 0
IsTold world ranks span class other =
    HoldsAtBoth world other class (λ l to. rank_of ranks other < 65535 → is_in (rank_of ranks other) span ≡ is_of world l to.class.name)

abbrev pub IsSpan : World → List ℕ → ℕ → Span → Type 0
IsSpan world ranks class span = (other : ℕ) → IsTold world ranks span class other

-- the spans of so many classes, where they are known
abbrev pub IsSpanAt : World → List ℕ → ℕ → Option Span → Type 0
IsSpanAt world ranks class span = IfSome span (IsSpan world ranks class)

abbrev pub AreSpans : World → List ℕ → ℕ → List (Option Span) → Type 0
AreSpans world ranks count spans = Each (IsSpanAt world ranks) count spans

-- all of them, in a world whose classes are those of their names
pub record SpansStand (world : World) (ranks : List ℕ) (known : List (Option Span)) : Type 0 where
  pub numbered : IsNumbered world
  pub spans : AreSpans world ranks (length world) known
