-- The tables of a library's classes, in a list.
use Rattle.std.specs.Prelude.{◌≡◌, ◌⊎◌, ℕ, not, List, map, Option, Some, slice_get}
use Rattle.std.specs.List.{filter}
use Rattle.jv_meaning_world.specs.Numbers.{number_named}
use Rattle.jv_meaning_world.specs.World.{World}
use Rattle.jv_loader.specs.declared.library_fault.LibraryFault.{LibraryFault}
use Rattle.jv_loader.specs.Inside.Given.{IsLacking}
use Rattle.jv_loader.specs.Inside.Headers.{HeaderSeen, IsFaultOfOne, is_lent}

-- why classes that may be given one by one are no library together
abbrev pub IsFaultTogether : World → List HeaderSeen → LibraryFault → Type 0
IsFaultTogether world headers fault = IsLacking world fault ⊎ IsFaultOfOne world headers fault

-- those without the name of one of the system's
abbrev pub in_front : List HeaderSeen → World → World
in_front headers world = filter (λ l. not (is_lent headers l.class.name)) world

pub record AreTables (world : World) (headers : List HeaderSeen) (lenders : List (Option ℕ)) (front : List ℕ) : Type 0 where
  pub lend : lenders ≡ map (λ h. number_named world h.name) headers
  pub stand : map (slice_get world) front ≡ map Some (in_front headers world)
