-- The handlers of methods, of each class, with what is known of them.
use Rattle.std.specs.Prelude.{◌≡◌, ℕ, List, Some, IfSome, slice_get, length}
use Rattle.jv_format.specs.declared.handlers.Handler.{Handler}
use Rattle.jv_pool.specs.Constants.{Entry}
use Rattle.jv_class.specs.Class.{Method}
use Rattle.jv_meaning_world.specs.World.{Loaded, World}
use Rattle.jv_meaning_world.specs.Numbers.{HoldsAtNumber}
use Rattle.jv_link_cache.specs.declared.handlers.MethodHandlers.{MethodHandlers}
use Rattle.jv_link_cache.specs.declared.handlers.ClassHandlers.{ClassHandlers}
use Rattle.jv_link_cache.specs.Handlers.{handlers_of_code}
use Rattle.jv_link_cache.specs.Inside.Caught.{AreCaught}
use Rattle.jv_link_cache.specs.Inside.Each.{Each}
use Rattle.jv_link_cache.specs.Inside.Reaches.{AreFirstsOf}

pub record AreKnown (world : World) (ranks : List ℕ) (pool : List Entry) (handlers : List Handler) (known : MethodHandlers) : Type 0 where
  pub caught : AreCaught world pool handlers known.caught.items
  pub firsts : IfSome known.firsts (λ firsts. AreFirstsOf world ranks pool handlers firsts.value)

abbrev pub AreKnownOf : World → List ℕ → List Entry → Method → MethodHandlers → Type 0
AreKnownOf world ranks pool method known = AreKnown world ranks pool (handlers_of_code method.code) known

abbrev pub AreKnownAt : World → List ℕ → Loaded → ℕ → MethodHandlers → Type 0
AreKnownAt world ranks l member known = (method : Method) → slice_get l.class.methods member ≡ Some method
    → AreKnownOf world ranks l.class.constant_pool method known

-- of each method of a class
abbrev pub AreClassHandlers : World → List ℕ → ℕ → ClassHandlers → Type 0
AreClassHandlers world ranks class row =
    HoldsAtNumber world class (λ l. Each (AreKnownAt world ranks l) (length l.class.methods) row.methods.items)

-- of so many classes
abbrev pub AreHandlers : World → List ℕ → ℕ → List ClassHandlers → Type 0
AreHandlers world ranks count rows = Each (AreClassHandlers world ranks) count rows
