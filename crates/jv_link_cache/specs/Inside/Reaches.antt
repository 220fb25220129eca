-- Handlers as reaches, of offsets and of ranks of classes.
use Rattle.std.specs.Prelude.{◌≡◌, ℕ, ◌<◌, List, Some, slice_get, length}
use Rattle.jv_format.specs.declared.handlers.Handler.{Handler}
use Rattle.jv_pool.specs.Constants.{Entry}
use Rattle.jv_meaning_world.specs.World.{Loaded, World}
use Rattle.jv_link_handlers.specs.declared.reach.Reach.{Reach}
use Rattle.jv_link_handlers.specs.declared.firsts.Firsts.{Firsts}
use Rattle.jv_link_handlers.specs.Firsts.{reaches_to, AreFirsts}
use Rattle.jv_link_cache.specs.declared.ranks.Span.{Span}
use Rattle.jv_link_cache.specs.Handlers.{catches, takes}
use Rattle.jv_link_cache.specs.Inside.Each.{Each}
use Rattle.jv_link_cache.specs.Inside.Ranks.{rank_of, is_in}

-- the classes with ranks in a span are those that a handler catches
abbrev pub IsCaughtSpan : World → List ℕ → List Entry → Handler → Span → Type 0
IsCaughtSpan world ranks pool handler span =
    (class : ℕ) (thrown : Loaded) → slice_get world class ≡ Some thrown → rank_of ranks class < 65535
    → is_in (rank_of ranks class) span ≡ catches world pool thrown handler

abbrev pub IsReach : World → List ℕ → List Entry → Handler → Reach → Type 0
IsReach world ranks pool handler reach =
    (class : ℕ) (thrown : Loaded) → slice_get world class ≡ Some thrown → rank_of ranks class < 65535
    → (offset : ℕ) → reaches_to offset (rank_of ranks class) reach ≡ takes world pool thrown offset handler

abbrev pub IsReachAt : World → List ℕ → List Entry → List Handler → ℕ → Reach → Type 0
IsReachAt world ranks pool handlers place reach =
    (handler : Handler) → slice_get handlers place ≡ Some handler → IsReach world ranks pool handler reach

-- those of so many handlers
abbrev pub AreReaches : World → List ℕ → List Entry → List Handler → ℕ → List Reach → Type 0
AreReaches world ranks pool handlers count reaches = Each (IsReachAt world ranks pool handlers) count reaches

-- which handler takes an object first is known
pub record AreFirstsOf (world : World) (ranks : List ℕ) (pool : List Entry) (handlers : List Handler) (firsts : Firsts) : Type 0 where
  pub reaches : List Reach
  pub of_handlers : AreReaches world ranks pool handlers (length handlers) reaches
  pub are : AreFirsts reaches firsts
