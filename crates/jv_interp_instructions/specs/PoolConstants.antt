-- Constants that ldc and its kin push (JVMS 4.4.3, 6.5), as a class's pool has them.
use Rattle.std.specs.Prelude.{◌≡◌, ℕ, ⊤, List, Option, Some, None, Ok, Err}
use Rattle.std.specs.Int.{w32, w64, cast_signed}
use Rattle.std.specs.Option.{option_map}
use Rattle.jv_class.specs.Class.{InitialValue}
use Rattle.jv_class.specs.Class.InitialValue.{IntValue, LongValue, StringValue}
use Rattle.jv_pool.specs.Constants.{Entry, at_index, string_at, long_at}
use Rattle.jv_meaning_world.specs.World.{Loaded, World}
use Rattle.jv_meaning_world.specs.Numbers.{HoldsAtNumber}
use Rattle.jv_meaning_machine.specs.Faults.{OrFault}
use Rattle.jv_meaning_machine.specs.Literals.{pushed_constant}
use Rattle.jv_link.specs.declared.site.Site.{Site}
use Rattle.jv_interp_words.specs.ValuesInWords.{long_of}
use Rattle.jv_interp_members.specs.Known.{Known}
use Rattle.jv_interp_instructions.specs.declared.pool_constants.PoolConstant.{PoolConstant}
use Rattle.jv_interp_instructions.specs.declared.pool_constants.PoolConstant.TheVariants as constants

-- an int by its 32 bits, or the text of a string; none where there is no such constant
abbrev pub IsPushed : List Entry → ℕ → OrFault InitialValue → Option PoolConstant → Type 0
IsPushed pool index (Ok (IntValue number)) (Some (constants.Int bits)) = number ≡ cast_signed w32 bits
IsPushed pool index (Ok (StringValue text)) (Some (constants.String bytes)) = (text ≡ bytes.now) × (string_at pool index ≡ Some bytes.now)
IsPushed pool index (Err fault) None = ⊤
IsPushed pool index _ _ = ⊥

-- what the instruction pushes that has this index in code of the class with a number
abbrev pub IsConstantOf : World → ℕ → ℕ → Option PoolConstant → Type 0
IsConstantOf world class index found =
    HoldsAtNumber world class (λ l. IsPushed l.class.constant_pool index
    (pushed_constant l.class.constant_pool (at_index l.class.constant_pool index)) found)

-- the long that the instruction pushes that has this index there (4.4.5), by its lower and its higher half; none where there is no such
-- constant
abbrev pub IsLongOf : World → ℕ → ℕ → Option (ℕ × ℕ) → Type 0
IsLongOf world class index found =
    HoldsAtNumber world class (λ l.
    option_map (cast_signed w64) (long_at l.class.constant_pool index) ≡ option_map (λ halves. long_of halves.0 halves.1) found)

-- It is known of the classes of this world, at this site.
pub record IsOfSite (world : World) (site : Site) (k : Known) : Type 0 where
  pub world_is : k.world ≡ world
  pub site_is : k.site ≡ site
