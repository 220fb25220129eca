-- The superclasses of a class whose superclass is loadable are the same in two worlds that agree: they end at java/lang/Object.
use Rattle.std.proofs.Common.{◌≡◌, ℕ, zero, suc, ◌≤◌, ◌<◌, Bool, List, [], ◌∷◌, length, Option, Some, None, refl, sym, ap, ◌∙◌, inl, inr, arith}
use Rattle.std.specs.Prelude.{◌⊎◌, IsTrue, is_none, not}
use Rattle.std.specs.List.{Contains}
use Rattle.std.proofs.lemmas.Bool.{and_parts, cases_lt}
use Rattle.jv_class.specs.Class.{Class}
use Rattle.jv_meaning_world.specs.World.{Loaded, World, class_named}
use Rattle.jv_meaning_world.specs.Above.{class_if_named, superclass_in, chain_within, superclasses}
use Rattle.jv_meaning_world.specs.Verdicts.{is_interface, is_loadable}
use Rattle.jv_meaning_world.specs.Laws.Order.{object_name, IsRooted}
use Rattle.jv_meaning_world.proofs.Up.{none, named_stands}
use Rattle.jv_meaning_world.proofs.OrderChains.{up_is_named, way_to_superclass}
use Rattle.jv_meaning_world.proofs.OrderNames.{Climbs, climbs}
use Rattle.jv_meaning_typing.proofs.Found.{split}
use Rattle.jv_meaning_library.proofs.Worlds.{Agree, IsKnown, superclass_same, superclass_known}

-- ---- in one world

none_behind : (world : World) (k : ℕ) → chain_within world k None ≡ []
none_behind world zero = refl
none_behind world (suc k) = refl

-- a chain that meets a class without a superclass ends there
ends_there : (world : World) (n : ℕ) (o : Option Loaded) (root : Loaded) → Contains (chain_within world n o) root
    → superclass_in world root.class ≡ None → (k : ℕ) → n ≤ k → chain_within world k o ≡ chain_within world n o
ends_there world zero o root h end k le = absurd (none root h)
ends_there world (suc n) None root h end k le = none_behind world k
ends_there world (suc n) (Some l) root h end zero le = absurd (omega (arith, le))
ends_there world (suc n) (Some l) root h end (suc k) le =
    ap (λ ls. l ∷ ls) (by_part (split l (chain_within world n (superclass_in world l.class)) root h)
    (λ j. let fewer : n ≤ k = omega (arith, le) in ends_there world n (superclass_in world l.class) root j end k fewer))
  where
    by_part : (l ≡ root) ⊎ Contains (chain_within world n (superclass_in world l.class)) root
        → (Contains (chain_within world n (superclass_in world l.class)) root → chain_within world k (superclass_in world l.class) ≡ chain_within world n (superclass_in world l.class))
        → chain_within world k (superclass_in world l.class) ≡ chain_within world n (superclass_in world l.class)
    by_part (inl e) again =
        let stop : superclass_in world l.class ≡ None = ap (λ (x : Loaded). superclass_in world x.class) e ∙ end in
        ap (chain_within world k) stop ∙ none_behind world k ∙ sym (none_behind world n) ∙ sym (ap (chain_within world n) stop)
    by_part (inr j) again = again j

-- so does that of a class whose superclass is loadable
record Ends (world : World) (class : Class) : Type 0 where
  root : Loaded
  met : Contains (superclasses world class) root
  end : superclass_in world root.class ≡ None

without_name : (world : World) (o : Option (List ℕ)) → IsTrue (is_none o) → class_if_named world o ≡ None
without_name world None h = refl
without_name world (Some name) h = absurd cc

root_ends : (world : World) → IsRooted world → (root : Loaded) → class_named world root.class.name ≡ Some root → root.class.name ≡ object_name
    → superclass_in world root.class ≡ None
root_ends world rooted root found named =
    let parts = and_parts (not (is_interface root)) (is_none root.class.super_class) (rooted.object root (sym (ap (class_named world) named) ∙ found)) in
    without_name world root.class.super_class parts.1

chain_ends : (world : World) → IsRooted world → (class : Class) (s : Loaded) → superclass_in world class ≡ Some s → IsTrue (is_loadable world s) → Ends world class
chain_ends world rooted class s e t = by_climb (climbs world rooted (length world) s (named_stands world s.class.name s named) t)
  where
    named : class_named world s.class.name ≡ Some s
    named = up_is_named world class [] s e

    by_climb : Climbs world s → Ends world class
    by_climb (inl same) = record { root = s; met = way_to_superclass world class s [] e; end = root_ends world rooted s named same }
    by_climb (inr found) = record {
      root = found.1;
      met = way_to_superclass world class found.1 (s ∷ found.0) (e, found.2);
      end = root_ends world rooted found.1 (up_is_named world s.class found.0 found.1 found.2) found.3;
    }

-- ---- in two

module _ (known : List ℕ → Bool) (v w : World) (agree : Agree known v w) where
  within_same : (k : ℕ) (o : Option Loaded) → ((s : Loaded) → o ≡ Some s → IsKnown known v s) → chain_within v k o ≡ chain_within w k o
  within_same zero o h = refl
  within_same (suc k) None h = refl
  within_same (suc k) (Some l) h =
      ap (λ ls. l ∷ ls) (within_same k (superclass_in v l.class) (λ s e. superclass_known known v w agree l s (h l refl) e)
      ∙ ap (chain_within w k) (superclass_same known v w agree l (h l refl)))

  pub superclasses_same : (l : Loaded) → IsKnown known v l → ((s : Loaded) → superclass_in v l.class ≡ Some s → IsTrue (is_loadable v s))
      → ((s : Loaded) → superclass_in w l.class ≡ Some s → IsTrue (is_loadable w s)) → superclasses v l.class ≡ superclasses w l.class
  superclasses_same l k one other = by_super (superclass_in v l.class) refl
    where
      along : (n : ℕ) → chain_within v n (superclass_in v l.class) ≡ chain_within w n (superclass_in w l.class)
      along n = within_same n (superclass_in v l.class) (λ s e. superclass_known known v w agree l s k e) ∙ ap (chain_within w n) (superclass_same known v w agree l k)

      by_size : Ends v l.class → Ends w l.class → (length v < length w) ⊎ (length w ≤ length v) → superclasses v l.class ≡ superclasses w l.class
      by_size a b (inl lt) =
          sym (ends_there v (length v) (superclass_in v l.class) a.root a.met a.end (length w) (omega (arith, lt))) ∙ along (length w)
      by_size a b (inr le) =
          along (length v) ∙ ends_there w (length w) (superclass_in w l.class) b.root b.met b.end (length v) le

      by_super : (o : Option Loaded) → superclass_in v l.class ≡ o → superclasses v l.class ≡ superclasses w l.class
      by_super None e =
          let f : superclass_in w l.class ≡ None = sym (superclass_same known v w agree l k) ∙ e in
          ap (chain_within v (length v)) e ∙ none_behind v (length v) ∙ sym (none_behind w (length w)) ∙ sym (ap (chain_within w (length w)) f)
      by_super (Some s) e =
          let f : superclass_in w l.class ≡ Some s = sym (superclass_same known v w agree l k) ∙ e in
          by_size (chain_ends v agree.first_rooted l.class s e (one s e)) (chain_ends w agree.second_rooted l.class s f (other s f))
          (cases_lt (length v) (length w))
