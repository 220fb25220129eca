-- A class has a name or is below the class of that name (JVMS 2.10), by their numbers.
use Rattle.std.proofs.Common.{◌≡◌, ◌≢◌, ◌==◌, ℕ, zero, suc, Bool, true, false, ◌||◌, List, [], ◌∷◌, length, Option, Some, None, slice_get, refl, sym, ap, ◌∙◌, arith}
use Rattle.std.specs.List.{filter_map, flat_map, list_any, cons_option}
use Rattle.std.specs.Str.{bytes_eq}
use Rattle.std.proofs.lemmas.List.Folds.{list_any-append}
use Rattle.jv_class.specs.Class.{Class}
use Rattle.jv_meaning_world.specs.World.{Loaded, World, class_named}
use Rattle.jv_meaning_world.specs.Above.{super_names, supers_in, above_within, is_above}
use Rattle.jv_meaning_world.specs.Numbers.{IsNumbered, number_named}
use Rattle.jv_meaning_world.proofs.Up.{same_name, found_is_named}
use Rattle.jv_classes.proofs.Numbers.{numbered}
use Rattle.std.specs.Prelude.{if◌then◌else◌}
use Rattle.std.proofs.lemmas.Bool.Decides.{nat_tests}
use Rattle.jv_format.specs.Format.{◌>>=◌}
use Rattle.jv_format.specs.declared.handlers.Handler.{Handler}
use Rattle.jv_pool.specs.Constants.{Entry, class_name_at}
use Rattle.jv_classes.proofs.Told.{stands_at}
use Rattle.jv_link_cache.specs.Handlers.{is_of, is_of_type, catches}
use Rattle.jv_link_cache.specs.Inside.Caught.{class_caught}

pub same_some : {A : Type 0} (x y : A) → Some x ≡ Some y → x ≡ y
same_some x y e = cc

pub either : (a b : Bool) → a ≡ false → (a || b) ≡ b
either a b e = ap (λ (x : Bool). x || b) e

-- classes with different numbers have different names
pub other_name :
    (world : World) (n m : ℕ) (l k : Loaded) → IsNumbered world → slice_get world n ≡ Some l → slice_get world m ≡ Some k
    → (n ≡ m → ⊥) → bytes_eq l.class.name k.class.name ≡ false
other_name world n m l k numbers at there apart = by_test (bytes_eq l.class.name k.class.name) refl
  where
    by_test : (b : Bool) → bytes_eq l.class.name k.class.name ≡ b → b ≡ false
    by_test true e =
        absurd (apart (same_some n m (sym (numbers n l at) ∙ ap (number_named world) (same_name l.class.name k.class.name e) ∙ numbers m k there)))
    by_test false e = refl

pub of_other :
    (world : World) (n m : ℕ) (l k : Loaded) → IsNumbered world → slice_get world n ≡ Some l → slice_get world m ≡ Some k
    → (n ≡ m → ⊥) → is_of world l k.class.name ≡ is_above world k.class.name l.class
of_other world n m l k numbers at there apart =
    either (bytes_eq l.class.name k.class.name) (is_above world k.class.name l.class) (other_name world n m l k numbers at there apart)

-- ---- a name that no class has is above none

module _ (world : World) (name : List ℕ) (absent : class_named world name ≡ None) where
  abbrev test : Loaded → Bool
  test s = bytes_eq s.class.name name

  misses : (n : List ℕ) (s : Loaded) → class_named world n ≡ Some s → test s ≡ false
  misses n s e = by_test (test s) refl
    where
      clash : None ≡ Some s → ⊥
      clash e = cc

      by_test : (b : Bool) → test s ≡ b → b ≡ false
      by_test true t =
          absurd (clash (sym absent ∙ ap (class_named world) (sym (same_name s.class.name name t) ∙ found_is_named world n s e) ∙ e))
      by_test false t = refl

  supers_miss : (names : List (List ℕ)) → list_any test (filter_map (class_named world) names) ≡ false
  supers_miss [] = refl
  supers_miss (n ∷ names) = by_found (class_named world n) refl (supers_miss names)
    where
      by_found :
          (o : Option Loaded) → class_named world n ≡ o → list_any test (filter_map (class_named world) names) ≡ false
          → list_any test (cons_option o (filter_map (class_named world) names)) ≡ false
      by_found None e rest = rest
      by_found (Some s) e rest = either (test s) (list_any test (filter_map (class_named world) names)) (misses n s e) ∙ rest

  each_misses : (k : ℕ) (classes : List Loaded) → ((class : Class) → list_any test (above_within world k class) ≡ false)
      → list_any test (flat_map (λ s. above_within world k s.class) classes) ≡ false
  each_misses k [] all = refl
  each_misses k (s ∷ classes) all =
      list_any-append test (above_within world k s.class) (flat_map (λ s. above_within world k s.class) classes)
      ∙ either (list_any test (above_within world k s.class)) (list_any test (flat_map (λ s. above_within world k s.class) classes)) (all s.class)
      ∙ each_misses k classes all

  above_miss : (k : ℕ) (class : Class) → list_any test (above_within world k class) ≡ false
  above_miss zero class = supers_miss (super_names class)
  above_miss (suc k) class =
      list_any-append test (supers_in world class) (flat_map (λ s. above_within world k s.class) (supers_in world class))
      ∙ either (list_any test (supers_in world class)) (list_any test (flat_map (λ s. above_within world k s.class) (supers_in world class))) (supers_miss (super_names class))
      ∙ each_misses k (supers_in world class) (above_miss k)

pub of_none :
    (world : World) (class : ℕ) (l : Loaded) (name : List ℕ) → IsNumbered world → slice_get world class ≡ Some l
    → number_named world name ≡ None → is_of world l name ≡ false
of_none world class l name numbers at none =
    either (bytes_eq l.class.name name) (is_above world name l.class) (by_name (bytes_eq l.class.name name) refl)
    ∙ above_miss world name (by_class (class_named world name) refl) (length world) l.class
  where
    clash : {k : ℕ} → None ≡ Some k → ⊥
    clash e = cc

    by_name : (b : Bool) → bytes_eq l.class.name name ≡ b → b ≡ false
    by_name true t = absurd (clash (sym none ∙ ap (number_named world) (sym (same_name l.class.name name t)) ∙ numbers class l at))
    by_name false t = refl

    by_class : (o : Option Loaded) → class_named world name ≡ o → o ≡ None
    by_class None e = refl
    by_class (Some s) e = let place = numbered world name s e in absurd (clash (sym none ∙ place.1))

-- ---- what a handler catches

type_found : (world : World) (class : ℕ) (l : Loaded) (name : Option (List ℕ)) (other : ℕ) → (name >>= number_named world) ≡ Some other
    → (to : Loaded) × (slice_get world other ≡ Some to) × (is_of_type world l name ≡ is_of world l to.class.name)
type_found world class l None other e = absurd cc
type_found world class l (Some name) other e =
    let to = stands_at world name other e in
    (to.0, to.1, ap (is_of world l) (sym (found_is_named world name to.0 to.2)))

type_absent : (world : World) (class : ℕ) (l : Loaded) (name : Option (List ℕ)) → IsNumbered world → slice_get world class ≡ Some l
    → (name >>= number_named world) ≡ None → is_of_type world l name ≡ false
type_absent world class l None numbers at e = refl
type_absent world class l (Some name) numbers at e = of_none world class l name numbers at e

not_zero : (n : ℕ) → n ≢ 0 → (n == 0) ≡ false
not_zero n apart = grind (arith, nat_tests)

by_type : (world : World) (pool : List Entry) (l : Loaded) (handler : Handler) → handler.catch_type ≢ 0
    → catches world pool l handler ≡ is_of_type world l (class_name_at pool handler.catch_type)
by_type world pool l handler apart =
    ap (λ (b : Bool). if b then true else is_of_type world l (class_name_at pool handler.catch_type)) (not_zero handler.catch_type apart)

pub any_catches : (world : World) (pool : List Entry) (l : Loaded) (handler : Handler) → handler.catch_type ≡ 0 → true ≡ catches world pool l handler
any_catches world pool l handler e =
    sym (ap (λ (n : ℕ). if n == 0 then true else is_of_type world l (class_name_at pool handler.catch_type)) e)

pub class_catches :
    (world : World) (pool : List Entry) (class : ℕ) (l : Loaded) (handler : Handler) (other : ℕ) → (handler.catch_type ≢ 0) × (class_caught world pool handler.catch_type ≡ Some other)
    → (to : Loaded) × (slice_get world other ≡ Some to) × (is_of world l to.class.name ≡ catches world pool l handler)
class_catches world pool class l handler other is =
    let to = type_found world class l (class_name_at pool handler.catch_type) other is.1 in
    (to.0, to.1, sym (by_type world pool l handler is.0 ∙ to.2))

pub nothing_catches :
    (world : World) (pool : List Entry) (class : ℕ) (l : Loaded) (handler : Handler) → IsNumbered world → slice_get world class ≡ Some l
    → (handler.catch_type ≢ 0) × (class_caught world pool handler.catch_type ≡ None) → false ≡ catches world pool l handler
nothing_catches world pool class l handler numbers at is =
    sym (by_type world pool l handler is.0 ∙ type_absent world class l (class_name_at pool handler.catch_type) numbers at is.1)
