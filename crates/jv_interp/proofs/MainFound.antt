-- The main method is found (JVMS 5.2).
use Rattle.std.proofs.Common.{◌≡◌, ℕ, Bool, true, false, List, Option, Some, None, codes, refl, sym, ap, ◌∙◌}
use Rattle.std.specs.Prelude.{slice_get}
use Rattle.std.specs.Option.{option_and_then}
use Rattle.jv_format.specs.Format.{◌>>=◌}
use Rattle.jv_meaning_world.specs.World.{Loaded, World, class_named}
use Rattle.jv_meaning_world.specs.Overriding.{Declared}
use Rattle.jv_meaning_world.specs.LookUps.{method_if, method_in}
use Rattle.jv_meaning_world.specs.Verdicts.{is_loadable}
use Rattle.jv_meaning_world.specs.Numbers.{number_named}
use Rattle.jv_meaning_machine.specs.Initialization.{is_main, main_in, main_method}
use Rattle.jv_classes.proofs.Numbers.{number_at, numbered}
use Rattle.jv_lookups.specs.declared.place.Place.{Place}
use Rattle.jv_lookups.specs.Places.{method_of, method_at}

-- ---- of a class

abbrev by_loadable : Loaded → Bool → Option Declared
by_loadable l loadable = elim loadable [
  | false ↦ None
  | true ↦ method_if is_main (method_in (codes "main") (codes "([Ljava/lang/String;)V") l)
]

pub not_loadable : (world : World) (l : Loaded) → is_loadable world l ≡ false → None ≡ main_in world l
not_loadable world l e = sym (ap (by_loadable l) e)

pub loadable : (world : World) (l : Loaded) → is_loadable world l ≡ true → method_if is_main (method_in (codes "main") (codes "([Ljava/lang/String;)V") l) ≡ main_in world l
loadable world l e = sym (ap (by_loadable l) e)

pub method_there : (world : World) (place : Place) (l : Loaded) → slice_get world place.class ≡ Some l → method_at world place ≡ method_of place.member l
method_there world place l e = ap (λ (o : Option Loaded). o >>= method_of place.member) e

-- ---- of a name

named_none : (world : World) (name : List ℕ) (o : Option Loaded) → class_named world name ≡ o → number_named world name ≡ None → o ≡ None
named_none world name None e f = refl
named_none world name (Some l) e f =
    let there = numbered world name l e in
    let clash : Some there.0 ≡ None = sym there.1 ∙ f in
    absurd cc

pub no_class : (world : World) (name : List ℕ) → number_named world name ≡ None → None ≡ main_method world name
no_class world name e = sym (ap (option_and_then (main_in world)) (named_none world name (class_named world name) refl e))

pub main_is : (world : World) (name : List ℕ) (class : ℕ) (l : Loaded) → number_named world name ≡ Some class → slice_get world class ≡ Some l → main_in world l ≡ main_method world name
main_is world name class l e at = sym (ap (option_and_then (main_in world)) (number_at world name class e ∙ at))
