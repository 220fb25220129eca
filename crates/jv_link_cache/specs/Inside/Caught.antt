-- What handlers catch, by the numbers of classes.
use Rattle.std.specs.Prelude.{◌≡◌, ◌≢◌, ℕ, List, Option, Some, None, slice_get, length}
use Rattle.jv_format.specs.Format.{◌>>=◌}
use Rattle.jv_format.specs.declared.handlers.Handler.{Handler}
use Rattle.jv_pool.specs.Constants.{Entry, class_name_at}
use Rattle.jv_meaning_world.specs.World.{World}
use Rattle.jv_meaning_world.specs.Numbers.{number_named}
use Rattle.jv_link_cache.specs.declared.caught.Caught.{Caught}
use Rattle.jv_link_cache.specs.declared.caught.Caught.TheVariants.{Any, Class, Nothing}
use Rattle.jv_link_cache.specs.Inside.Each.{Each}

-- the class that the constant at an index names
abbrev pub class_caught : World → List Entry → ℕ → Option ℕ
class_caught world pool index = class_name_at pool index >>= number_named world

abbrev pub IsCaught : World → List Entry → Handler → Caught → Type 0
IsCaught world pool handler Any = handler.catch_type ≡ 0
IsCaught world pool handler (Class class) = (handler.catch_type ≢ 0) × (class_caught world pool handler.catch_type ≡ Some class)
IsCaught world pool handler Nothing = (handler.catch_type ≢ 0) × (class_caught world pool handler.catch_type ≡ None)

abbrev pub IsCaughtAt : World → List Entry → List Handler → ℕ → Caught → Type 0
IsCaughtAt world pool handlers place caught =
    (handler : Handler) → slice_get handlers place ≡ Some handler → IsCaught world pool handler caught

-- of each handler
abbrev pub AreCaught : World → List Entry → List Handler → List Caught → Type 0
AreCaught world pool handlers caught = Each (IsCaughtAt world pool handlers) (length handlers) caught
