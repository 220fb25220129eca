-- Classes by their numbers: which is another one or below it, and which are above arrays (JVMS 4.10.1.2, 6.5).
use Rattle.std.proofs.Common.{◌≡◌, ℕ, zero, suc, Bool, true, false, ◌||◌, nat_le, List, [], ◌∷◌, Option, Some, refl, sym, ap, subst, ◌∙◌, arith, slice_get}
use Rattle.std.specs.Prelude.{codes}
use Rattle.std.specs.Str.{bytes_eq}
use Rattle.jv_class.specs.Class.{Class}
use Rattle.jv_meaning_world.specs.FileContent.{FileContent}
use Rattle.jv_meaning_world.specs.Library.{with_library}
use Rattle.jv_meaning_world.specs.World.{Loaded, World, class_named, world_of}
use Rattle.jv_meaning_world.specs.Above.{is_above}
use Rattle.jv_meaning_world.specs.Flow.{is_above_arrays}
use Rattle.jv_meaning_world.specs.Numbers.{IsNumbered, number_named}
use Rattle.jv_meaning_world.proofs.Up.{same_name, found_is_named}
use Rattle.jv_classes.proofs.Numbers.{number_at}
use Rattle.jv_classes.proofs.Told.{other_name}
use Rattle.jv_meaning_machine.specs.Objects.{is_below, is_at_or_below}
use Rattle.jv_interp_heap.specs.ObjectsInBlocks.{HasNumber}
use Rattle.jv_interp_heap.specs.SystemNumbers.{IsGuestsWorld}
use Rattle.std.proofs.lemmas.Grind.{common_steps}
use Rattle.std.proofs.lemmas.Option.{same_Some}

-- ---- a class of the world is found by its own name

pub own_name : (world : World) → IsNumbered world → (class : ℕ) (l : Loaded) → slice_get world class ≡ Some l → class_named world l.class.name ≡ Some l
own_name world numbers class l at = number_at world l.class.name class (numbers class l at) ∙ at

-- ---- one is another, or below it

module _ (world : World) (numbers : IsNumbered world) (class other : ℕ) (l to : Loaded) (at : slice_get world class ≡ Some l) (there : slice_get world other ≡ Some to) where
  pub is_other :
      (class ≡ other → ⊥) → (answer : Bool) → answer ≡ is_above world to.class.name l.class
      → answer ≡ is_at_or_below world l.class.name to.class.name
  is_other apart answer e =
      e ∙ sym (ap (λ (o : Option Loaded). is_below world o to.class.name) (own_name world numbers class l at))
      ∙ sym (ap (λ (b : Bool). b || is_below world (class_named world l.class.name) to.class.name)
      (other_name world numbers class other l to at there apart))

-- ---- one name, one number

module _ (world : World) (name other : List ℕ) (n k : ℕ) (h : HasNumber world name n) (g : HasNumber world other k) where
  pub name_is : n ≡ k → name ≡ other
  name_is e =
      let same : h.l ≡ g.l = same_Some h.l g.l (sym h.at ∙ ap (slice_get world) e ∙ g.at) in
      sym (found_is_named world name h.l h.named) ∙ ap (λ (l : Loaded). l.class.name) same ∙ found_is_named world other g.l g.named

  pub number_is : IsNumbered world → name ≡ other → n ≡ k
  number_is numbers e =
      let same : h.l ≡ g.l = same_Some h.l g.l (sym h.named ∙ ap (class_named world) e ∙ g.named) in
      same_Some n k (sym (numbers n h.l h.at) ∙ ap (λ (l : Loaded). number_named world l.class.name) same ∙ numbers k g.l g.at)

  pub differs : IsNumbered world → (n ≡ k → ⊥) → bytes_eq name other ≡ false
  differs numbers apart = by_test (bytes_eq name other) refl
    where
      by_test : (b : Bool) → bytes_eq name other ≡ b → b ≡ false
      by_test true e = absurd (apart (number_is numbers (same_name name other e)))
      by_test false e = refl

-- ---- what is above arrays stands first

cloneable_first : (library : List Class) (contents : List FileContent) → HasNumber (world_of (with_library library) contents) (codes "java/lang/Cloneable") 0
cloneable_first [] contents = record { l = _; named = refl; at = refl }
cloneable_first (c ∷ library) contents = record { l = _; named = refl; at = refl }

serializable_second :
    (library : List Class) (contents : List FileContent) → HasNumber (world_of (with_library library) contents) (codes "java/io/Serializable") 1
serializable_second [] contents = record { l = _; named = refl; at = refl }
serializable_second (c ∷ library) contents = record { l = _; named = refl; at = refl }

object_third : (library : List Class) (contents : List FileContent) → HasNumber (world_of (with_library library) contents) (codes "java/lang/Object") 2
object_third [] contents = record { l = _; named = refl; at = refl }
object_third (c ∷ library) contents = record { l = _; named = refl; at = refl }

module _ (world : World) (guests : IsGuestsWorld world) (numbers : IsNumbered world) (name : List ℕ) where
  cloneable : HasNumber world (codes "java/lang/Cloneable") 0
  cloneable = subst (λ (w : World). HasNumber w (codes "java/lang/Cloneable") 0) (sym guests.world_is) (cloneable_first guests.given guests.contents)

  serializable : HasNumber world (codes "java/io/Serializable") 1
  serializable = subst (λ (w : World). HasNumber w (codes "java/io/Serializable") 1) (sym guests.world_is) (serializable_second guests.given guests.contents)

  object : HasNumber world (codes "java/lang/Object") 2
  object = subst (λ (w : World). HasNumber w (codes "java/lang/Object") 2) (sym guests.world_is) (object_third guests.given guests.contents)

  beyond : (n : ℕ) → nat_le (suc (suc (suc n))) 2 ≡ false
  beyond n = grind (arith, common_steps)

  pub above_arrays : (n : ℕ) → HasNumber world name n → nat_le n 2 ≡ is_above_arrays name
  above_arrays zero h =
      subst (λ (t : List ℕ). true ≡ is_above_arrays t) (sym (name_is world name (codes "java/lang/Cloneable") 0 0 h cloneable refl)) refl
  above_arrays (suc zero) h =
      subst (λ (t : List ℕ). true ≡ is_above_arrays t) (sym (name_is world name (codes "java/io/Serializable") 1 1 h serializable refl)) refl
  above_arrays (suc (suc zero)) h =
      subst (λ (t : List ℕ). true ≡ is_above_arrays t) (sym (name_is world name (codes "java/lang/Object") 2 2 h object refl)) refl
  above_arrays (suc (suc (suc n))) h =
      beyond n
      ∙ sym (ap (λ (b : Bool). b || (bytes_eq name (codes "java/lang/Cloneable") || bytes_eq name (codes "java/io/Serializable")))
      (differs world name (codes "java/lang/Object") (suc (suc (suc n))) 2 h object numbers (λ e. absurd (omega (arith, e))))
      ∙ ap (λ (b : Bool). b || bytes_eq name (codes "java/io/Serializable"))
      (differs world name (codes "java/lang/Cloneable") (suc (suc (suc n))) 0 h cloneable numbers (λ e. absurd (omega (arith, e))))
      ∙ differs world name (codes "java/io/Serializable") (suc (suc (suc n))) 1 h serializable numbers (λ e. absurd (omega (arith, e))))
