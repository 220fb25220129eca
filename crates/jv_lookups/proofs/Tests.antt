-- Tests of a method that was found.
use Rattle.std.proofs.Common.{◌≡◌, ℕ, Bool, true, false, cond, not, ◌&&◌, List, Option, Some, None, refl, sym, ap, ◌∙◌}
use Rattle.std.specs.Prelude.{IfSome, is_some}
use Rattle.std.specs.Option.{option_and_then}
use Rattle.jv_meaning_world.specs.World.{Loaded, World}
use Rattle.jv_meaning_world.specs.Overriding.{Declared}
use Rattle.jv_meaning_world.specs.LookUps.{method_if, method_in, without_itself, is_inheritable}
use Rattle.jv_lookups.specs.declared.place.Place.{Place}
use Rattle.jv_lookups.specs.Places.{method_at, IsMethodPlace}
use Rattle.jv_lookups.specs.Inside.Members.{candidate_in}
use Rattle.jv_lookups.proofs.Standing.{method_stands}

pub kept : (test : Declared → Bool) (o : Option Declared) (d : Declared) → o ≡ Some d → test d ≡ true → Some d ≡ method_if test o
kept test o d e t = sym (ap (method_if test) e ∙ ap (λ b. cond b (Some d) None) t)

pub dropped : (test : Declared → Bool) (o : Option Declared) (d : Declared) → o ≡ Some d → test d ≡ false → None ≡ method_if test o
dropped test o d e t = sym (ap (method_if test) e ∙ ap (λ b. cond b (Some d) None) t)

pub candidate_by_method : (name descriptor : List ℕ) (l c : Loaded) (o : Option Declared) → without_itself l c ≡ true → o ≡ method_if is_inheritable
    (method_in name descriptor c) → o ≡ candidate_in name descriptor l c
candidate_by_method name descriptor l c o is e = e ∙ sym (ap (λ b. cond b (method_if is_inheritable (method_in name descriptor c)) None) is)

-- there is none where the class declares no such method, or is no superinterface
pub no_candidate : (name descriptor : List ℕ) (l c : Loaded) → None ≡ method_in name descriptor c → None ≡ candidate_in name descriptor l c
no_candidate name descriptor l c none = by_test (without_itself l c) ∙ ap (λ o. cond (without_itself l c) (method_if is_inheritable o) None) none
  where
    by_test : (t : Bool) → None ≡ cond t (method_if is_inheritable None) None
    by_test true = refl
    by_test false = refl

pub no_superinterface : (name descriptor : List ℕ) (l c : Loaded) → without_itself l c ≡ false → None ≡ candidate_in name descriptor l c
no_superinterface name descriptor l c is = sym (ap (λ b. cond b (method_if is_inheritable (method_in name descriptor c)) None) is)

pub and_not : (b t : Bool) → t ≡ false → b ≡ (b && not t)
and_not false t e = refl
and_not true t e = sym (ap not e)

pub all_three : (a b s t : Bool) → a ≡ false → b ≡ true → s ≡ t → s ≡ ((not a && b) && t)
all_three a b s t e f same = same ∙ sym (ap (λ x. (not x && b) && t) e ∙ ap (λ x. x && t) f)

-- a place is there exactly where a method stands
pub some_stands : (world : World) (o : Option Place) → IfSome o (IsMethodPlace world) → is_some o ≡ is_some (option_and_then (method_at world) o)
some_stands world None is = refl
some_stands world (Some place) is = sym (ap is_some (method_stands world place is).1)

pub some_found : (world : World) (o : Option Place) → is_some o ≡ true → IfSome o (IsMethodPlace world) → (b : Declared) × (option_and_then (method_at world) o ≡ Some b)
some_found world None t is = absurd cc
some_found world (Some place) t is = method_stands world place is

pub none_found : (world : World) (o : Option Place) → is_some o ≡ false → option_and_then (method_at world) o ≡ None
none_found world None t = refl
none_found world (Some place) t = absurd cc
