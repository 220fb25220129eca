-- A fold over classes that passes over those it has had: the same over numbers where each stands once.
use Rattle.std.proofs.Common.{◌≡◌, ℕ, zero, suc, Bool, true, false, cond, ◌||◌, List, [], ◌∷◌, ◌++◌, Option, Some, None, refl, sym, ap, ◌∙◌, subst}
use Rattle.std.specs.Prelude.{⊤, slice_get}
use Rattle.std.specs.List.{fold, filter_map, list_any, cons_option}
use Rattle.std.specs.Str.{bytes_eq}
use Rattle.std.specs.Cmp.Lexicographic.{nat_list_eq_equiv}
use Rattle.std.proofs.lemmas.List.Elements.{filter_map-append}
use Rattle.std.proofs.lemmas.List.Sums.{fold-append}
use Rattle.std.proofs.lemmas.List.Folds.{list_any-append}
use Rattle.jv_format.specs.Format.{◌>>=◌}
use Rattle.jv_classes.specs.Once.{is_same, joined_once, each_once}
use Rattle.jv_meaning_world.specs.World.{Loaded, World}
use Rattle.jv_meaning_world.specs.LookUps.{is_among, next_in, searched_within}
use Rattle.jv_classes.proofs.OnceEach.{same_is}

-- the classes of numbers that are there
abbrev pub those_at : World → List (Option ℕ) → List Loaded
those_at world numbers = filter_map (λ number. number >>= slice_get world) numbers

module _ (world : World) (f : List Loaded → Loaded → List Loaded) (Has : List Loaded → Loaded → Type 0) (after : (b : List Loaded) (l : Loaded) → Has (f b l) l)
    (stays : (b : List Loaded) (l m : Loaded) → Has b l → Has (f b m) l) (passes : (b : List Loaded) (l : Loaded) → Has b l → f b l ≡ b) where
  stays_all : (b ms : List Loaded) (l : Loaded) → Has b l → Has (fold f b ms) l
  stays_all b [] l h = h
  stays_all b (m ∷ ms) l h = stays_all (f b m) ms l (stays b l m h)

  had : (b : List Loaded) (done : List (Option ℕ)) (n : Option ℕ) (l : Loaded) → list_any (is_same n) done ≡ true → (n >>= slice_get world) ≡ Some l → Has (fold f b (those_at world done)) l
  had b [] n l e at = absurd cc
  had b (x ∷ done) n l e at = by_test (is_same n x) refl e (λ c t. had c done n l t at)
    where
      rest : List Loaded
      rest = those_at world done

      one : (o : Option Loaded) → ((c : List Loaded) → Has (fold f c rest) l) → Has (fold f b (cons_option o rest)) l
      one None again = again b
      one (Some m) again = again (f b m)

      by_test : (t : Bool) → is_same n x ≡ t → (t || list_any (is_same n) done) ≡ true →
          ((c : List Loaded) → list_any (is_same n) done ≡ true → Has (fold f c rest) l) → Has (fold f b (cons_option (x >>= slice_get world) rest)) l
      by_test true t e again =
          let here : (x >>= slice_get world) ≡ Some l = ap (λ (o : Option ℕ). o >>= slice_get world) (sym (same_is n x t)) ∙ at in
          subst (λ o. Has (fold f b (cons_option o rest)) l) (sym here) (stays_all (f b l) rest l (after b l))
      by_test false t e again = one (x >>= slice_get world) (λ c. again c e)

  joined : (b : List Loaded) (done : List (Option ℕ)) (n : Option ℕ) → fold f b (those_at world (joined_once done n)) ≡ fold f (fold f b (those_at world done)) (cons_option (n >>= slice_get world) [])
  joined b done n = by_test (list_any (is_same n) done) refl
    where
      by_class : (o : Option Loaded) → (n >>= slice_get world) ≡ o → list_any (is_same n) done ≡ true → fold f b (those_at world done) ≡ fold f (fold f b (those_at world done)) (cons_option o [])
      by_class None at t = refl
      by_class (Some l) at t = sym (passes (fold f b (those_at world done)) l (had b done n l t at))

      by_test : (t : Bool) → list_any (is_same n) done ≡ t → fold f b (those_at world (cond t done (done ++ n ∷ []))) ≡ fold f (fold f b (those_at world done)) (cons_option (n >>= slice_get world) [])
      by_test true t = by_class (n >>= slice_get world) refl t
      by_test false t =
          ap (fold f b) (filter_map-append (λ number. number >>= slice_get world) done (n ∷ []))
          ∙ fold-append f b (those_at world done) (those_at world (n ∷ []))

  one_first : (b : List Loaded) (o : Option Loaded) (ls : List Loaded) → fold f (fold f b (cons_option o [])) ls ≡ fold f b (cons_option o ls)
  one_first b None ls = refl
  one_first b (Some l) ls = refl

  onto : (b : List Loaded) (done numbers : List (Option ℕ)) → fold f b (those_at world (fold joined_once done numbers)) ≡ fold f (fold f b (those_at world done)) (those_at world numbers)
  onto b done [] = refl
  onto b done (n ∷ numbers) =
      onto b (joined_once done n) numbers
      ∙ (ap (λ c. fold f c (those_at world numbers)) (joined b done n) ∙ one_first (fold f b (those_at world done)) (n >>= slice_get world) (those_at world numbers))

  pub over_once : (b : List Loaded) (numbers : List (Option ℕ)) → fold f b (those_at world (each_once numbers)) ≡ fold f b (those_at world numbers)
  over_once b numbers = onto b [] numbers

-- ---- a class is among those begun from then on

pub among_more : (b ls : List Loaded) (l : Loaded) → is_among b l ≡ true → is_among (b ++ ls) l ≡ true
among_more b ls l e =
    list_any-append (λ (c : Loaded). bytes_eq c.class.name l.class.name) b ls ∙ ap (λ t. t || is_among ls l) e

pub among_last : (b : List Loaded) (l : Loaded) → is_among (b ++ l ∷ []) l ≡ true
among_last b l =
    list_any-append (λ (c : Loaded). bytes_eq c.class.name l.class.name) b (l ∷ [])
    ∙ (ap (λ t. is_among b l || (t || false)) (nat_list_eq_equiv.refl l.class.name) ∙ or_true (is_among b l))
  where
    or_true : (t : Bool) → (t || true) ≡ true
    or_true true = refl
    or_true false = refl

pub kept_by_all : (f : List Loaded → Loaded → List Loaded) → ((b : List Loaded) (m l : Loaded) → is_among b l ≡ true → is_among (f b m) l ≡ true) →
    (b ms : List Loaded) (l : Loaded) → is_among b l ≡ true → is_among (fold f b ms) l ≡ true
kept_by_all f one b [] l e = e
kept_by_all f one b (m ∷ ms) l e = kept_by_all f one (f b m) ms l (one b m l e)

-- ---- a search

-- a search that goes so deep has begun a class, or begins none
abbrev pub HasBegun : ℕ → List Loaded → Loaded → Type 0
HasBegun zero b l = ⊤
HasBegun (suc k) b l = is_among b l ≡ true

module _ (world : World) where
  kept : (k : ℕ) (b : List Loaded) (m l : Loaded) → is_among b l ≡ true → is_among (searched_within world k b m) l ≡ true
  kept zero b m l e = e
  kept (suc k) b m l e = by_test (is_among b m) (λ c n x h. kept k c n x h)
    where
      by_test : (t : Bool) → ((c : List Loaded) (n x : Loaded) → is_among c x ≡ true → is_among (searched_within world k c n) x ≡ true)
          → is_among (cond t b (fold (searched_within world k) (b ++ m ∷ []) (next_in world m.class))) l ≡ true
      by_test true again = e
      by_test false again = kept_by_all (searched_within world k) again (b ++ m ∷ []) (next_in world m.class) l (among_more b (m ∷ []) l e)

  begun_after : (k : ℕ) (b : List Loaded) (l : Loaded) → HasBegun k (searched_within world k b l) l
  begun_after zero b l = tt
  begun_after (suc k) b l = by_test (is_among b l) refl
    where
      by_test : (t : Bool) → is_among b l ≡ t → is_among (cond t b (fold (searched_within world k) (b ++ l ∷ []) (next_in world l.class))) l ≡ true
      by_test true t = t
      by_test false t = kept_by_all (searched_within world k) (kept k) (b ++ l ∷ []) (next_in world l.class) l (among_last b l)

  begun_still : (k : ℕ) (b : List Loaded) (l m : Loaded) → HasBegun k b l → HasBegun k (searched_within world k b m) l
  begun_still zero b l m h = tt
  begun_still (suc k) b l m h = kept (suc k) b m l h

  passed_over : (k : ℕ) (b : List Loaded) (l : Loaded) → HasBegun k b l → searched_within world k b l ≡ b
  passed_over zero b l h = refl
  passed_over (suc k) b l h = ap (λ t. cond t b (fold (searched_within world k) (b ++ l ∷ []) (next_in world l.class))) h

  pub searched_once : (k : ℕ) (b : List Loaded) (numbers : List (Option ℕ)) → fold (searched_within world k) b (those_at world (each_once numbers)) ≡
      fold (searched_within world k) b (those_at world numbers)
  searched_once k = over_once world (searched_within world k) (HasBegun k) (begun_after k) (begun_still k) (passed_over k)
