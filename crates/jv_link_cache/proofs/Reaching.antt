-- Handlers as reaches.
use Rattle.std.proofs.Common.{◌≡◌, ◌≢◌, ℕ, ◌<◌, Bool, true, false, ◌&&◌, List, IfSome, Option, Some, None, ap, ◌∙◌, arith}
use Rattle.std.specs.Prelude.{nat_le, nat_lt}
use Rattle.std.proofs.lemmas.Bool.Decides.{nat_tests}
use Rattle.jv_format.specs.declared.handlers.Handler.{Handler}
use Rattle.jv_pool.specs.Constants.{Entry}
use Rattle.jv_meaning_world.specs.World.{World}
use Rattle.jv_meaning_world.specs.Numbers.{IsNumbered}
use Rattle.jv_meaning_typing.specs.Typing.{covers}
use Rattle.jv_link_cache.specs.declared.ranks.Span.{Span}
use Rattle.jv_link_cache.specs.Inside.Caught.{class_caught}
use Rattle.jv_link_cache.specs.Inside.Ranks.{rank_of, IsSpan}
use Rattle.jv_link_cache.specs.Inside.Reaches.{IsCaughtSpan, IsReach}
use Rattle.jv_link_cache.proofs.CatchTypes.{any_catches, class_catches, nothing_catches}

in_all : (rank : ℕ) → rank < 65535 → (nat_le 0 rank && nat_lt rank 65535) ≡ true
in_all rank less = grind (arith, nat_tests)

in_none : (rank : ℕ) → (nat_le 0 rank && nat_lt rank 0) ≡ false
in_none rank = grind (arith, nat_tests)

pub any_span : (world : World) (ranks : List ℕ) (pool : List Entry) (handler : Handler) → handler.catch_type ≡ 0
    → IsCaughtSpan world ranks pool handler (record { low = 0; high = 65535 })
any_span world ranks pool handler e class thrown at less = in_all (rank_of ranks class) less ∙ any_catches world pool thrown handler e

pub class_span : (world : World) (ranks : List ℕ) (pool : List Entry) (handler : Handler) (other : ℕ) (span : Span)
    → (handler.catch_type ≢ 0) × (class_caught world pool handler.catch_type ≡ Some other) → IsSpan world ranks other span
    → IsCaughtSpan world ranks pool handler span
class_span world ranks pool handler other span is spans class thrown at less =
    let to = class_catches world pool class thrown handler other is in spans class thrown at to.0 to.1 less ∙ to.2

pub reach_is : (world : World) (ranks : List ℕ) (pool : List Entry) (handler : Handler) (span : Span) → IsCaughtSpan world ranks pool handler span
    → IsReach world ranks pool handler (record { start = handler.start_pc; end = handler.end_pc; low = span.low; high = span.high })
reach_is world ranks pool handler span is class thrown at less offset = ap (λ (b : Bool). covers handler offset && b) (is class thrown at less)

pub nothing_span : (world : World) (ranks : List ℕ) (pool : List Entry) (handler : Handler) → IsNumbered world
    → (handler.catch_type ≢ 0) × (class_caught world pool handler.catch_type ≡ None) → IsCaughtSpan world ranks pool handler (record { low = 0; high = 0 })
nothing_span world ranks pool handler numbers is class thrown at less =
    in_none (rank_of ranks class) ∙ nothing_catches world pool class thrown handler numbers at is

-- ---- where what handlers reach to is known, a table says which takes an object first

pub weaker_some : {A : Type 0} (o : Option A) (P Q : A → Type 0) → ((a : A) → P a → Q a) → IfSome o P → IfSome o Q
weaker_some None P Q more h = h
weaker_some (Some a) P Q more h = more a h
