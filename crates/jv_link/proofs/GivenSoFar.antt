-- Superinterfaces that are given, step by step.
use Rattle.std.proofs.Common.{◌≡◌, ℕ, zero, suc, ◌+◌, ◌<◌, Bool, true, false, cond, List, [], ◌∷◌, ◌++◌, length, get_or, drop, map, Option, Some, None, refl, sym, ap, ◌∙◌, subst}
use Rattle.std.specs.Prelude.{⊤, slice_get}
use Rattle.std.specs.List.{fold}
use Rattle.jv_meaning_world.specs.World.{Loaded, World}
use Rattle.jv_meaning_world.specs.LookUps.{is_among}
use Rattle.jv_meaning_world.specs.Numbers.{number_named}
use Rattle.jv_meaning_world.specs.Numbers.{HoldsAtNumber}
use Rattle.jv_classes.proofs.Followed.{some_class}
use Rattle.jv_meaning_world.specs.Numbers.{classes_at}
use Rattle.jv_lookups.specs.Inside.Numbers.{NumbersBelow, numbers_below, AreNumbersOf}
use Rattle.jv_classes.specs.Once.{each_once, interface_numbers}
use Rattle.jv_lookups.proofs.Once.{among_more, among_last, kept_by_all, over_once}
use Rattle.jv_lookups.proofs.Next.{those_at, those_named, with, without, none_left, added_class}
use Rattle.jv_meaning_typing.specs.InitializationOrder.{interfaces_in, given_within}

-- the loop over the interfaces: what was given with the rest is what all lead to
pub record GivesOn (world : World) (steps : ℕ) (first : NumbersBelow) (interfaces : List (Option ℕ)) (place : ℕ) (given : NumbersBelow) : Type 0 where
  pub numbers : AreNumbersOf world given
  pub rest : fold (given_within world steps) (classes_at world given.numbers) (those_at world (drop place interfaces)) ≡
      fold (given_within world steps) (classes_at world first.numbers) (those_at world interfaces)

pub gives_without : (world : World) (steps : ℕ) (first given later : NumbersBelow) (interfaces : List (Option ℕ)) (place : ℕ) →
    place < length interfaces → get_or interfaces place None ≡ None → later ≡ given
    → GivesOn world steps first interfaces place given → GivesOn world steps first interfaces (place + 1) later
gives_without world steps first given later interfaces place h e same on =
    subst (GivesOn world steps first interfaces (place + 1)) (sym same)
    (record { numbers = on.numbers; rest = without world (given_within world steps) interfaces place (classes_at world given.numbers) h e ∙ on.rest })

pub gives_with : (world : World) (steps : ℕ) (first given later : NumbersBelow) (interfaces : List (Option ℕ)) (place k : ℕ) →
    place < length interfaces → get_or interfaces place None ≡ Some k → k < length world
    → HoldsAtNumber world k (λ s. classes_at world later.numbers ≡ given_within world steps (classes_at world given.numbers) s) → AreNumbersOf world later
    → GivesOn world steps first interfaces place given → GivesOn world steps first interfaces (place + 1) later
gives_with world steps first given later interfaces place k h e less found are on = record {
  numbers = are;
  rest =
      let class = some_class world k less in
      ap (λ b. fold (given_within world steps) b (those_at world (drop (place + 1) interfaces))) (found class.0 class.1)
      ∙ (with world (given_within world steps) interfaces place (classes_at world given.numbers) k class.0 h e class.1 ∙ on.rest);
}

-- ---- an interface that was given is given no more

-- so many steps up, a class was given, or none is
abbrev HasGiven : ℕ → List Loaded → Loaded → Type 0
HasGiven zero b l = ⊤
HasGiven (suc k) b l = is_among b l ≡ true

module _ (world : World) where
  kept : (k : ℕ) (b : List Loaded) (m l : Loaded) → is_among b l ≡ true → is_among (given_within world k b m) l ≡ true
  kept zero b m l e = e
  kept (suc k) b m l e = by_test (is_among b m) (λ c n x h. kept k c n x h)
    where
      by_test : (t : Bool) → ((c : List Loaded) (n x : Loaded) → is_among c x ≡ true → is_among (given_within world k c n) x ≡ true)
          → is_among (cond t b (fold (given_within world k) b (interfaces_in world m.class) ++ m ∷ [])) l ≡ true
      by_test true again = e
      by_test false again =
          among_more (fold (given_within world k) b (interfaces_in world m.class)) (m ∷ []) l (kept_by_all (given_within world k) again b (interfaces_in world m.class) l e)

  given_after : (k : ℕ) (b : List Loaded) (l : Loaded) → HasGiven k (given_within world k b l) l
  given_after zero b l = tt
  given_after (suc k) b l = by_test (is_among b l) refl
    where
      by_test : (t : Bool) → is_among b l ≡ t → is_among (cond t b (fold (given_within world k) b (interfaces_in world l.class) ++ l ∷ [])) l ≡ true
      by_test true t = t
      by_test false t = among_last (fold (given_within world k) b (interfaces_in world l.class)) l

  given_still : (k : ℕ) (b : List Loaded) (l m : Loaded) → HasGiven k b l → HasGiven k (given_within world k b m) l
  given_still zero b l m h = tt
  given_still (suc k) b l m h = kept (suc k) b m l h

  passed_over : (k : ℕ) (b : List Loaded) (l : Loaded) → HasGiven k b l → given_within world k b l ≡ b
  passed_over zero b l h = refl
  passed_over (suc k) b l h = ap (λ t. cond t b (fold (given_within world k) b (interfaces_in world l.class) ++ l ∷ [])) h

  given_once : (k : ℕ) (b : List Loaded) (numbers : List (Option ℕ)) → fold (given_within world k) b (those_at world (each_once numbers)) ≡ fold (given_within world k) b (those_at world numbers)
  given_once k = over_once world (given_within world k) (HasGiven k) (given_after k) (given_still k) (passed_over k)

-- all were given
pub all_given : (world : World) (steps : ℕ) (first given : NumbersBelow) (interfaces : List (Option ℕ)) (place : ℕ) (l : Loaded) → interfaces ≡
    interface_numbers world l.class → length interfaces ≡ place
    → GivesOn world steps first interfaces place given → classes_at world given.numbers ≡ fold (given_within world steps) (classes_at world first.numbers) (interfaces_in world l.class)
all_given world steps first given interfaces place l e size on =
    sym (none_left world (given_within world steps) interfaces place (classes_at world given.numbers) size) ∙ (on.rest
    ∙ (ap (λ ns. fold (given_within world steps) (classes_at world first.numbers) (those_at world ns)) e
    ∙ (given_once world steps (classes_at world first.numbers) (map (number_named world) l.class.interfaces)
    ∙ ap (fold (given_within world steps) (classes_at world first.numbers)) (those_named world l.class.interfaces))))

pub given_before : (world : World) (steps : ℕ) (b : List Loaded) (l : Loaded) → is_among b l ≡ true → b ≡ given_within world steps b l
given_before world zero b l e = refl
given_before world (suc k) b l e = sym (ap (λ t. cond t b (fold (given_within world k) b (interfaces_in world l.class) ++ l ∷ [])) e)

pub none_given : (world : World) (steps : ℕ) (b : List Loaded) (l : Loaded) → steps ≡ 0 → b ≡ given_within world steps b l
none_given world steps b l e = sym (ap (λ n. given_within world n b l) e)

pub given_now : (world : World) (steps d : ℕ) (first given last : NumbersBelow) (interfaces : List (Option ℕ)) (place number : ℕ) (l : Loaded) →
    suc d ≡ steps → slice_get world number ≡ Some l → is_among (classes_at world first.numbers) l ≡ false
    → interfaces ≡ interface_numbers world l.class → length interfaces ≡ place → GivesOn world d first interfaces place given → last ≡ numbers_below given.size (given.numbers ++ number ∷ [])
    → classes_at world last.numbers ≡ given_within world steps (classes_at world first.numbers) l
given_now world steps d first given last interfaces place number l depth at fresh e size on added =
    added_class world given last number l added at
    ∙ (ap (λ b. b ++ l ∷ []) (all_given world d first given interfaces place l e size on)
    ∙ (sym (ap (λ t. cond t (classes_at world first.numbers) (fold (given_within world d) (classes_at world first.numbers) (interfaces_in world l.class) ++ l ∷ [])) fresh)
    ∙ ap (λ n. given_within world n (classes_at world first.numbers) l) depth))
