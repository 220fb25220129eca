-- Ways along numbers and the superclass chain.
use Rattle.std.proofs.Common.{◌≡◌, ℕ, zero, suc, ◌<◌, List, [], ◌∷◌, length, Option, Some, None, refl, sym, ap, ◌∙◌, subst, inl, inr, arith}
use Rattle.std.specs.Prelude.{◌↔◌, ◌⊎◌, IsTrue, slice_get}
use Rattle.std.specs.List.{Contains}
use Rattle.std.specs.Str.{bytes_eq}
use Rattle.std.specs.Cmp.Lexicographic.{nat_list_eq_equiv}
use Rattle.std.proofs.lemmas.List.Elements.{Contains-append_cases}
use Rattle.jv_classes.specs.Ways.{Rows, related, IsSquare, IsWay, Reaches, ShortWays}
use Rattle.jv_meaning_world.specs.World.{Loaded, World, class_named}
use Rattle.jv_meaning_world.specs.Above.{superclass_in, class_if_named, chain_within, superclasses}
use Rattle.jv_meaning_world.specs.LookUps.{is_among}
use Rattle.jv_meaning_world.proofs.Up.{none, first, later, single, same_name}
use Rattle.jv_meaning_world.specs.Numbers.{IsNumbered}
use Rattle.jv_classes.specs.Inside.Direct.{IsToSuperclass}
use Rattle.jv_classes.proofs.Numbers.{numbered, number_at}
use Rattle.jv_classes.proofs.Ways.{one_class, equal_tests, any_if, one_of_any}

at_own_place : (world : World) (name : Option (List ℕ)) (s : Loaded) → class_if_named world name ≡ Some s → (k : ℕ) × (slice_get world k ≡ Some s)
at_own_place world None s e = absurd cc
at_own_place world (Some name) s e = let place = numbered world name s e in (place.0, place.2)

is_named : (world : World) → IsNumbered world → (k : ℕ) (s : Loaded) → slice_get world k ≡ Some s → class_named world s.class.name ≡ Some s
is_named world numbers k s at_k = number_at world s.class.name k (numbers k s at_k) ∙ at_k

step_of : (world : World) (rows : Rows) → IsToSuperclass world rows → (a b : ℕ) (l to : Loaded) → slice_get world a ≡ Some l → slice_get world b ≡
    Some to → IsTrue (related rows a b) → superclass_in world l.class ≡ Some to
step_of world rows direct a b l to at_a at_b t =
    let step = (direct a b).0 t in
    subst (λ (m : Loaded). superclass_in world m.class ≡ Some to) (one_class (slice_get world a) step.from l step.from_at at_a)
    (step.above ∙ ap (λ m. Some m) (one_class (slice_get world b) step.to to step.to_at at_b))

on_chain : (world : World) (rows : Rows) → IsToSuperclass world rows → (k a b : ℕ) (between : List ℕ) (l to : Loaded) → slice_get world a ≡ Some l →
    slice_get world b ≡ Some to → length between < k → IsWay rows a between b
    → Contains (chain_within world k (superclass_in world l.class)) to
on_chain world rows direct zero a b between l to at_a at_b few way = absurd (omega (arith, few))
on_chain world rows direct (suc k) a b [] l to at_a at_b few way =
    subst (λ o. Contains (chain_within world (suc k) o) to) (sym (step_of world rows direct a b l to at_a at_b way)) (first to (chain_within world k (superclass_in world to.class)))
on_chain world rows direct (suc k) a b (by ∷ more) l to at_a at_b few way =
    let step = (direct a by).0 way.0 in
    let fewer : length more < k = omega (arith, few) in
    subst (λ o. Contains (chain_within world (suc k) o) to) (sym (step_of world rows direct a by l step.to at_a step.to_at way.0))
    (later step.to (chain_within world k (superclass_in world step.to.class)) to (on_chain world rows direct k by b more step.to to step.to_at at_b fewer way.1))

off_chain : (world : World) (rows : Rows) → IsToSuperclass world rows → (k a b : ℕ) (l to : Loaded) (o : Option Loaded) → slice_get world a ≡ Some l →
    slice_get world b ≡ Some to → superclass_in world l.class ≡ o
    → Contains (chain_within world k o) to → Reaches rows a b
off_chain world rows direct zero a b l to o at_a at_b e h = absurd (none to h)
off_chain world rows direct (suc k) a b l to None at_a at_b e h = absurd (none to h)
off_chain world rows direct (suc k) a b l to (Some s) at_a at_b e h =
    let place = at_own_place world l.class.super_class s e in
    by_part place (λ m. off_chain world rows direct k place.0 b s to (superclass_in world s.class) place.1 at_b refl m)
    (Contains-append_cases (s ∷ []) (chain_within world k (superclass_in world s.class)) to h)
  where
    by_part : (place : (n : ℕ) × (slice_get world n ≡ Some s)) →
        (Contains (chain_within world k (superclass_in world s.class)) to → Reaches rows place.0 b) → Contains (s ∷ []) to ⊎
        Contains (chain_within world k (superclass_in world s.class)) to → Reaches rows a b
    by_part place again (inl here) = ([], (direct a b).1 (record { from = l; to = to; from_at = at_a; to_at = at_b; above = e ∙ ap (λ m. Some m) (single s to here) }))
    by_part place again (inr there) = let rest = again there in (place.0 ∷ rest.0, ((direct a place.0).1 (record { from = l; to = s; from_at = at_a; to_at = place.1; above = e }), rest.1))

chain_is_named : (world : World) → IsNumbered world → (k : ℕ) (name : Option (List ℕ)) (to : Loaded) →
    Contains (chain_within world k (class_if_named world name)) to → class_named world to.class.name ≡ Some to
chain_is_named world numbers k name to h = go k (class_if_named world name) h (λ s e. let place = at_own_place world name s e in is_named world numbers place.0 s place.1)
  where
    go : (k : ℕ) (o : Option Loaded) → Contains (chain_within world k o) to → ((s : Loaded) → o ≡ Some s → class_named world s.class.name ≡ Some s) → class_named world to.class.name ≡ Some to
    go zero o h named = absurd (none to h)
    go (suc k) None h named = absurd (none to h)
    go (suc k) (Some s) h named = by_part (Contains-append_cases (s ∷ []) (chain_within world k (superclass_in world s.class)) to h)
        (λ m. go k (superclass_in world s.class) m (λ t e. let place = at_own_place world s.class.super_class t e in is_named world numbers place.0 t
        place.1))
      where
        by_part : Contains (s ∷ []) to ⊎ Contains (chain_within world k (superclass_in world s.class)) to →
            (Contains (chain_within world k (superclass_in world s.class)) to → class_named world to.class.name ≡ Some to) →
            class_named world to.class.name ≡ Some to
        by_part (inl here) again = subst (λ (m : Loaded). class_named world m.class.name ≡ Some m) (single s to here) (named s refl)
        by_part (inr there) again = again there

pub superclass_if : ShortWays → (world : World) (closed rows : Rows) → IsNumbered world → length rows ≡ length world → IsSquare rows →
    IsToSuperclass world rows → ((a b : ℕ) → IsTrue (related closed a b) ↔ Reaches rows a b)
    → (a b : ℕ) (l to : Loaded) → slice_get world a ≡ Some l → slice_get world b ≡ Some to → related closed a b ≡ is_among (superclasses world l.class) to
superclass_if law world closed rows numbers size square direct reach a b l to at_a at_b = equal_tests (related closed a b) (is_among (superclasses world l.class) to) there back
  where
    there : IsTrue (related closed a b) → IsTrue (is_among (superclasses world l.class) to)
    there h =
        let short = law rows a b square ((reach a b).0 h) in
        any_if (λ s. bytes_eq s.class.name to.class.name) (superclasses world l.class) to
        (on_chain world rows direct (length world) a b short.0 l to at_a at_b (subst (λ n. length short.0 < n) size short.2) short.1) (nat_list_eq_equiv.refl to.class.name)

    back : IsTrue (is_among (superclasses world l.class) to) → IsTrue (related closed a b)
    back h =
        let one = one_of_any (λ s. bytes_eq s.class.name to.class.name) (superclasses world l.class) h in
        let named = chain_is_named world numbers (length world) l.class.super_class one.0 one.1 in
        let same : one.0 ≡ to = one_class (class_named world to.class.name) one.0 to
        (ap (class_named world) (sym (same_name one.0.class.name to.class.name one.2)) ∙ named) (is_named world numbers b to at_b) in
        (reach a b).1 (off_chain world rows direct (length world) a b l to (superclass_in world l.class) at_a at_b refl (subst (Contains (superclasses world l.class)) same one.1))
