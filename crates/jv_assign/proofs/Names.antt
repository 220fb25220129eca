-- Classes by their names.
use Rattle.std.proofs.Common.{◌≡◌, ℕ, zero, suc, Bool, true, false, ◌&&◌, ◌||◌, List, [], ◌∷◌, Option, Some, None, refl, sym, ap, ◌∙◌, if◌then◌else◌}
use Rattle.std.specs.Prelude.{slice_get}
use Rattle.std.specs.List.{list_any}
use Rattle.std.specs.Str.{bytes_eq}
use Rattle.jv_meaning_world.specs.World.{Loaded, World, class_named}
use Rattle.jv_meaning_world.specs.Above.{class_if_named, chain_within, superclass_in, superclasses}
use Rattle.jv_meaning_world.specs.LookUps.{is_subclass}
use Rattle.jv_meaning_world.specs.Verdicts.{is_interface, is_loadable}
use Rattle.jv_meaning_world.proofs.Up.{same_name, has_name}
use Rattle.jv_meaning_world.specs.Numbers.{number_named, IsNumbered}
use Rattle.jv_classes.proofs.Numbers.{numbered}
use Rattle.jv_meaning_world.specs.Flow.{is_loadable_interface, is_loadable_below, class_flows}

-- a name without a number is that of no class
pub no_class : (world : World) (name : List ℕ) → number_named world name ≡ None → class_named world name ≡ None
no_class world name e = by_class (class_named world name) refl
  where
    clash : {k : ℕ} → Some k ≡ None → ⊥
    clash g = cc

    by_class : (o : Option Loaded) → class_named world name ≡ o → o ≡ None
    by_class None f = refl
    by_class (Some s) f = absurd (clash (sym (numbered world name s f).1 ∙ e))

-- ---- chains

place_of : (world : World) (name : Option (List ℕ)) (s : Loaded) → class_if_named world name ≡ Some s → (k : ℕ) × (slice_get world k ≡ Some s)
place_of world None s e = absurd cc
place_of world (Some name) s e = let place = numbered world name s e in (place.0, place.2)

other_name : (world : World) → IsNumbered world → (name : List ℕ) → number_named world name ≡ None → (k : ℕ) (s : Loaded) → slice_get world k ≡ Some s → bytes_eq s.class.name name ≡ false
other_name world numbers name none k s at = by_test (bytes_eq s.class.name name) refl
  where
    clash : {k : ℕ} → Some k ≡ None → ⊥
    clash g = cc

    by_test : (t : Bool) → bytes_eq s.class.name name ≡ t → t ≡ false
    by_test false e = refl
    by_test true e = absurd (clash (sym (numbers k s at) ∙ (ap (number_named world) (same_name s.class.name name e) ∙ none)))

-- a name that is that of no class is on no chain
pub off_chain : (world : World) → IsNumbered world → (name : List ℕ) → number_named world name ≡ None → (k : ℕ) (from : Option (List ℕ)) →
    list_any (λ s. bytes_eq s.class.name name) (chain_within world k (class_if_named world from)) ≡ false
off_chain world numbers name none zero from = refl
off_chain world numbers name none (suc k) from = by_class (class_if_named world from) refl (λ more. off_chain world numbers name none k more)
  where
    by_class : (o : Option Loaded) → class_if_named world from ≡ o → ((more : Option (List ℕ)) → list_any (λ s. bytes_eq s.class.name name) (chain_within world k (class_if_named world more)) ≡ false)
        → list_any (λ s. bytes_eq s.class.name name) (chain_within world (suc k) o) ≡ false
    by_class None e again = refl
    by_class (Some s) e again =
        let place = place_of world from s e in
        ap (λ b. b || list_any (λ t. bytes_eq t.class.name name) (chain_within world k (superclass_in world s.class))) (other_name world numbers name none place.0 s place.1)
        ∙ again s.class.super_class

-- ---- what flows

-- nothing flows to a name that is that of no class, but itself
pub to_no_class : (world : World) → IsNumbered world → (from to : List ℕ) → number_named world to ≡ None
    → (is_loadable_interface world (class_named world to) || is_loadable_below world to (class_named world from)) ≡ false
to_no_class world numbers from to none =
    ap (λ o. is_loadable_interface world o || is_loadable_below world to (class_named world from)) (no_class world to none) ∙ by_class (class_named world from)
  where
    and_false : (b : Bool) → (b && false) ≡ false
    and_false true = refl
    and_false false = refl

    by_class : (o : Option Loaded) → is_loadable_below world to o ≡ false
    by_class None = refl
    by_class (Some l) = ap (λ b. is_loadable world l && b) (off_chain world numbers to none _ l.class.super_class) ∙ and_false (is_loadable world l)

-- the class of a name is a subclass of one of another name where that is among its superclasses
pub below_other : (world : World) (name : List ℕ) (l to : Loaded) → bytes_eq name to.class.name ≡ false → class_named world name ≡ Some l
    → (is_loadable world l && is_subclass world l to) ≡ is_loadable_below world to.class.name (class_named world name)
below_other world name l to other at =
    ap (λ b. is_loadable world l && (b || list_any (λ s. bytes_eq s.class.name to.class.name) (superclasses world l.class)))
    (ap (λ n. bytes_eq n to.class.name) (has_name world name l at) ∙ other)
    ∙ ap (is_loadable_below world to.class.name) (sym at)

-- a class that is a loadable interface
pub interface_there : (world : World) (from name : List ℕ) (to : Loaded) (b : Bool) → class_named world name ≡ Some to → b ≡ (is_loadable world to && is_interface to) → b ≡ true
    → b ≡ (is_loadable_interface world (class_named world name) || is_loadable_below world name (class_named world from))
interface_there world from name to b at is yes_it_is =
    yes_it_is ∙ (ap (λ c. c || is_loadable_below world name (class_named world from)) (sym yes_it_is ∙ is)
    ∙ ap (λ o. is_loadable_interface world o || is_loadable_below world name (class_named world from)) (sym at))

-- and one that is none
pub interface_not : (world : World) (from name : List ℕ) (to : Loaded) (b below : Bool) → bytes_eq from name ≡ false → class_named world name ≡
    Some to → b ≡ (is_loadable world to && is_interface to) → b ≡ false
    → (bytes_eq from to.class.name ≡ false → below ≡ is_loadable_below world to.class.name (class_named world from))
    → below ≡ (is_loadable_interface world (class_named world name) || is_loadable_below world name (class_named world from))
interface_not world from name to b below other at is not_so rest =
    let named = has_name world name to at in
    rest (ap (bytes_eq from) named ∙ other)
    ∙ (ap (λ n. is_loadable_below world n (class_named world from)) named
    ∙ (ap (λ c. c || is_loadable_below world name (class_named world from)) (sym not_so ∙ is)
    ∙ ap (λ o. is_loadable_interface world o || is_loadable_below world name (class_named world from)) (sym at)))

-- of two names
pub of_others : (world : World) (x y : List ℕ) → bytes_eq x y ≡ false
    → (is_loadable_interface world (class_named world y) || is_loadable_below world y (class_named world x)) ≡ class_flows world x y
of_others world x y other = sym (ap (λ b. b || (is_loadable_interface world (class_named world y) || is_loadable_below world y (class_named world x))) other)
