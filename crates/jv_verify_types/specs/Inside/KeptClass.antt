-- What is kept of the current class.
use Rattle.std.specs.Prelude.{◌≡◌, ℕ, Bool, false, List, Option, Some, None, get_or}
use Rattle.std.specs.Option.{option_map}
use Rattle.jv_text.specs.Name.{is_array_name}
use Rattle.jv_meaning_world.specs.World.{Loaded, World}
use Rattle.jv_pool.specs.Constants.{Entry}
use Rattle.jv_verify_types.specs.Typed.{name_at}
use Rattle.jv_verify_types.specs.PoolTypes.{PoolTypes}
use Rattle.jv_verify_types.specs.Inside.Marked.{AreNamesMarked}
use Rattle.jv_verify_types.specs.Inside.Guarded.{IsGuard}
use Rattle.jv_meaning_world.specs.Numbers.{HoldsAtNumber}

-- all guarded members are marked, by the indices of the constants that name them
abbrev pub AreGuards : World → Loaded → List Entry → List Bool → Type 0
AreGuards world current pool marks = (index : ℕ) → IsGuard world current pool index (get_or marks index false)

-- a name, where there is one, is that of no array
abbrev pub IsNoArray : Option (List ℕ) → Type 0
IsNoArray None = Unit {0}
IsNoArray (Some name) = is_array_name name ≡ false

-- the constants are those of the class; its name and its supers have these numbers, and guarded members are marked; neither
-- it nor its superclass is an array
pub record IsKept (constants : PoolTypes) (class : Loaded) (name : ℕ) (superclass : Option ℕ) (direct guarded : List Bool) : Type 0 where
  pub pool : constants.pool ≡ class.class.constant_pool
  pub named : name_at constants.types.names name ≡ class.class.name
  pub superclass_named : option_map (name_at constants.types.names) superclass ≡ class.class.super_class
  pub interfaces : AreNamesMarked constants.types.names class.class.interfaces direct
  pub guards : AreGuards constants.types.world class constants.pool guarded
  pub no_array : IsNoArray (Some class.class.name)
  pub no_array_above : IsNoArray class.class.super_class

-- of the class with a number
abbrev pub AreGuardsOf : World → ℕ → List Entry → List Bool → Type 0
AreGuardsOf world current pool marks = HoldsAtNumber world current (λ c. AreGuards world c pool marks)
