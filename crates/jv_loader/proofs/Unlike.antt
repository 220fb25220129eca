-- The superclasses of a class that is not circular have other names.
use Rattle.std.proofs.Common.{◌≡◌, ℕ, zero, suc, Bool, true, false, List, [], ◌∷◌, ◌++◌, length, Option, Some, None, refl, sym, ◌∙◌, subst, inl, inr}
use Rattle.std.specs.Prelude.{◌⊎◌, IsTrue, not, slice_get}
use Rattle.std.specs.List.{Contains, filter_map}
use Rattle.std.specs.Str.{bytes_eq}
use Rattle.std.proofs.lemmas.Bool.{and_from}
use Rattle.std.proofs.lemmas.List.Elements.{Contains-append_cases}
use Rattle.jv_class.specs.Class.{Class}
use Rattle.jv_meaning_world.specs.World.{Loaded, World, class_named}
use Rattle.jv_meaning_world.specs.Above.{superclass_names, supers_in, superclass_in, class_if_named, chain_within, superclasses, above, is_circular}
use Rattle.jv_meaning_world.specs.Laws.Above.{IsWayUp}
use Rattle.jv_meaning_world.specs.Verdicts.{passes}
use Rattle.jv_meaning_world.proofs.Up.{none, first, later, single, above_by_ways}
use Rattle.jv_meaning_world.proofs.Standing.{named_super}
use Rattle.jv_classes.proofs.Ways.{any_if}
use Rattle.jv_lookups.specs.Finals.{have_other_names, AreUnlike}
use Rattle.jv_meaning_world.specs.Numbers.{classes_at}

super_there : (world : World) (interfaces : List (List ℕ)) (name : Option (List ℕ)) (t : Loaded) → class_if_named world name ≡ Some t →
    Contains (filter_map (class_named world) (superclass_names name ++ interfaces)) t
super_there world interfaces None t e = absurd cc
super_there world interfaces (Some name) t e = named_super world (name ∷ interfaces) name t (first name interfaces) e

way_of_chain : (world : World) (k : ℕ) (class : Class) (o : Option Loaded) (s : Loaded) → superclass_in world class ≡ o →
    Contains (chain_within world k o) s → (ls : List Loaded) × IsWayUp world class ls s
way_of_chain world zero class o s e h = absurd (none s h)
way_of_chain world (suc k) class None s e h = absurd (none s h)
way_of_chain world (suc k) class (Some t) s e h =
    by_part (λ m. way_of_chain world k t.class (superclass_in world t.class) s refl m) (Contains-append_cases (t ∷ []) (chain_within world k (superclass_in world t.class)) s h)
  where
    here : Contains (supers_in world class) t
    here = super_there world class.interfaces class.super_class t e

    by_part : (Contains (chain_within world k (superclass_in world t.class)) s → (ls : List Loaded) × IsWayUp world t.class ls s) →
        Contains (t ∷ []) s ⊎ Contains (chain_within world k (superclass_in world t.class)) s → (ls : List Loaded) × IsWayUp world class ls s
    by_part again (inl m) = ([], subst (Contains (supers_in world class)) (single t s m) here)
    by_part again (inr m) = let rest = again m in (t ∷ rest.0, (here, rest.1))

superclass_above : (world : World) (class : Class) (s : Loaded) → Contains (superclasses world class) s → Contains (above world class) s
superclass_above world class s h = (above_by_ways world class s).1 (way_of_chain world (length world) class (superclass_in world class) s refl h)

all_other : (l : Loaded) (ls : List Loaded) → ((s : Loaded) → Contains ls s → bytes_eq s.class.name l.class.name ≡ false) → IsTrue (have_other_names l ls)
all_other l [] h = refl
all_other l (s ∷ ls) h = and_from (not (bytes_eq s.class.name l.class.name)) (have_other_names l ls)
    (turned (bytes_eq s.class.name l.class.name) (h s (first s ls))) (all_other l ls (λ t k. h t (later s ls t k)))
  where
    turned : (b : Bool) → b ≡ false → IsTrue (not b)
    turned true e = absurd cc
    turned false e = refl

other_names : (world : World) (l : Loaded) → is_circular world l.class ≡ false → IsTrue (have_other_names l (superclasses world l.class))
other_names world l e = all_other l (superclasses world l.class) (λ s h. by_test s h (bytes_eq s.class.name l.class.name) refl)
  where
    clash : IsTrue (is_circular world l.class) → ⊥
    clash t = unlike (sym t ∙ e)
      where
        unlike : true ≡ false → ⊥
        unlike f = cc

    by_test : (s : Loaded) → Contains (superclasses world l.class) s → (b : Bool) → bytes_eq s.class.name l.class.name ≡ b → b ≡ false
    by_test s h false t = refl
    by_test s h true t = absurd (clash (any_if (λ m. bytes_eq m.class.name l.class.name) (above world l.class) s (superclass_above world l.class s h) t))

pub are_unlike : (world : World) (number : ℕ) (l : Loaded) (chain : List ℕ) → slice_get world number ≡ Some l → is_circular world l.class ≡ false →
    filter_map (slice_get world) chain ≡ superclasses world l.class → AreUnlike world number chain
are_unlike world number l chain at e same =
    subst (λ o. IsTrue (passes (λ m. have_other_names m (classes_at world chain)) o)) (sym at)
    (subst (λ ls. IsTrue (have_other_names l ls)) (sym same) (other_names world l e))
