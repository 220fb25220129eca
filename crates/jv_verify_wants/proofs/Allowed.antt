-- What is remembered of types that were allowed.
use Rattle.std.proofs.Common.{zero, suc, ◌≡◌, inl, inr, ℕ, ◌≤◌, ◌<◌, ◌-◌, ◌++◌, [], ◌∷◌, Bool, true, ◌&&◌, List, Some, Result, Ok, Err, OnOk, OnErr, cond, drop, length, set, take, refl, sym, ◌∙◌, ap, subst, arith, length-append, length-set}
use Rattle.std.specs.Prelude.{slice_get}
use Rattle.std.specs.BTreeMap.{is_at}
use Rattle.std.specs.List.{list_all}
use Rattle.std.proofs.Math.Seq.{take-length}
use Rattle.std.proofs.lemmas.Bool.{and_parts, and_from, cases_Bool, cond-true, cond-false, leb-true, le-leb, or_cases, or_left, or_right}
use Rattle.std.proofs.lemmas.List.{take_rest, take-append-drop, take-append-le}
use Rattle.std.proofs.lemmas.List.Folds.{list_all-append}
use Rattle.std.proofs.lemmas.Option.{same_Some}
use Rattle.jv_verify_types.specs.Numbered.{Item}
use Rattle.jv_verify_types.specs.Typed.{TypeWorld}
use Rattle.jv_verify_wants.specs.declared.variable.Want.{Want}
use Rattle.jv_verify_wants.specs.Wanted.{Kept, Wants, flows_by}
use Rattle.jv_verify_wants.specs.Inside.Allowed.{allows, remembered, Allow, AreAllowed, IsAllowed}
use Rattle.jv_verify_wants.specs.Inside.Codes.{code, compare}
use Rattle.jv_verify_wants.proofs.Numbers.{equal_items}

all_weaker : {X : Type 0} (p q : X → Bool) (xs : List X) → ((x : X) → p x ≡ true → q x ≡ true) → list_all p xs ≡ true → list_all q xs ≡ true
all_weaker p q [] weaker e = refl
all_weaker p q (x ∷ xs) weaker e =
    let parts = and_parts (p x) (list_all p xs) e in and_from _ _ (weaker x parts.0) (all_weaker p q xs weaker parts.1)

allow_later : (types : TypeWorld) (from to : ℕ) (item : Item) (wants : List Want) (count : ℕ) → from ≤ to
    → Allow types from item wants count → Allow types to item wants count
allow_later types from to item wants count le allow = (
  allow.0,
  all_weaker (allows types from item) (allows types to item) (take count wants)
      (λ want e. elim (or_cases _ _ e) [
        | inl ended ↦ let was = leb-true want.until from ended in or_left _ _ (le-leb want.until to (omega (arith, was, le)))
        | inr flows ↦ or_right _ _ flows
      ]) allow.1,
)

-- what is remembered is so at a later offset too, since wants end
pub allowed_later : (types : TypeWorld) (from to : ℕ) (wants : Wants) → from ≤ to → AreAllowed types from wants → AreAllowed types to wants
allowed_later types from to wants le are k d lt =
    let is = are k d lt in record {
      last = allow_later types from to _ _ _ le is.last;
      others = λ item count e. allow_later types from to item _ count le (is.others item count e);
    }

-- ---- none, one more, all

pub allow-none : (types : TypeWorld) (offset : ℕ) (item : Item) (wants : List Want) → Allow types offset item wants 0
allow-none types offset item wants = (omega arith, refl)

pub allow-push : (types : TypeWorld) (offset : ℕ) (item : Item) (wants : List Want) (want : Want) (count : ℕ) → Allow types offset item wants count
    → Allow types offset item (wants ++ want ∷ []) count
allow-push types offset item wants want count allow = (
  omega (arith, allow.0, length-append wants (want ∷ [])),
  ap (list_all (allows types offset item)) (take-append-le count wants (want ∷ []) allow.0) ∙ allow.1,
)

pub all_behind : (types : TypeWorld) (offset : ℕ) (item : Item) (wants : List Want) (count : ℕ) → Allow types offset item wants count
    → list_all (allows types offset item) (drop count wants) ≡ list_all (allows types offset item) wants
all_behind types offset item wants count allow =
    let p = allows types offset item in
    let whole : list_all p wants ≡ (list_all p (take count wants) && list_all p (drop count wants)) =
    ap (list_all p) (sym (take-append-drop count wants)) ∙ list_all-append p (take count wants) (drop count wants) in
    sym (whole ∙ ap (λ b. b && list_all p (drop count wants)) allow.1)

pub whole : (types : TypeWorld) (offset : ℕ) (item : Item) (wants now : List Want) (count : ℕ) (r : Bool) → now ≡ wants
    → r ≡ list_all (allows types offset item) (take (length now - count) (drop count now)) → Allow types offset item wants count
    → r ≡ list_all (allows types offset item) wants
whole types offset item wants now count r same e allow =
    let p = allows types offset item in
    e ∙ ap (list_all p) (take_rest now count) ∙ ap (λ ws. list_all p (drop count ws)) same ∙ all_behind types offset item wants count allow

-- ---- one is raised

all_set : {X : Type 0} (p : X → Bool) (xs : List X) (place : ℕ) (x y : X) (count : ℕ) → slice_get xs place ≡ Some x
    → (p x ≡ true → p y ≡ true) → list_all p (take count xs) ≡ true → list_all p (take count (set xs place y)) ≡ true
all_set p [] place x y count is still e = absurd cc
all_set p (first ∷ more) place x y zero is still e = refl
all_set p (first ∷ more) zero x y (suc count) is still e =
    let parts = and_parts (p first) (list_all p (take count more)) e in
    and_from _ _ (still (subst (λ z. p z ≡ true) (same_Some first x is) parts.0)) parts.1
all_set p (first ∷ more) (suc place) x y (suc count) is still e =
    let parts = and_parts (p first) (list_all p (take count more)) e in and_from _ _ parts.0 (all_set p more place x y count is still parts.1)

pub allow-set : (types : TypeWorld) (offset : ℕ) (item : Item) (wants : List Want) (place : ℕ) (want new : Want) (count : ℕ)
    → slice_get wants place ≡ Some want → offset < want.until → new.item ≡ want.item → Allow types offset item wants count
    → Allow types offset item (set wants place new) count
allow-set types offset item wants place want new count is lasts same allow = (
  omega (arith, allow.0, length-set wants place new),
  all_set (allows types offset item) wants place want new count is
      (λ e. elim (or_cases _ _ e) [
        | inl ended ↦ let le = leb-true want.until offset ended in absurd (omega (arith, le, lasts))
        | inr flows ↦ or_right _ _ (subst (λ t. flows_by types item t ≡ true) (sym same) flows)
      ]) allow.1,
)

-- ---- all

pub allow_all : (types : TypeWorld) (offset : ℕ) (item : Item) (wants : List Want) → list_all (allows types offset item) wants ≡ true
    → Allow types offset item wants (length wants)
allow_all types offset item wants e = (omega arith, ap (list_all (allows types offset item)) (take-length wants) ∙ e)

-- ---- wants change so that they allow what they did

pub still_allowed : (types : TypeWorld) (offset : ℕ) (old new : Kept)
    → ((item : Item) (count : ℕ) → Allow types offset item old.wants count → Allow types offset item new.wants count)
    → new.last ≡ old.last → new.last_allowed ≡ old.last_allowed → new.allowed ≡ old.allowed → IsAllowed types offset old → IsAllowed types offset new
still_allowed types offset old new keeps last count allowed is = record {
  last =
      subst (λ t. Allow types offset t new.wants new.last_allowed) (sym last)
      (subst (Allow types offset old.last new.wants) (sym count) (keeps old.last old.last_allowed is.last));
  others = λ item n e. keeps item n (is.others item n (subst (λ entries. remembered entries item ≡ Some n) allowed e));
}

pub pushed_allowed : {X E : Type 0} (r : Result X E) (types : TypeWorld) (offset : ℕ) (old new : Kept) (want : Want)
    → OnOk r (new.wants ≡ old.wants ++ want ∷ []) → OnErr r (new.wants ≡ old.wants) → new.last ≡ old.last → new.last_allowed ≡ old.last_allowed
    → new.allowed ≡ old.allowed → IsAllowed types offset old → IsAllowed types offset new
pushed_allowed (Ok x) types offset old new want ok err last count allowed is =
    still_allowed types offset old new
    (λ item n allow. subst (λ ws. Allow types offset item ws n) (sym ok) (allow-push types offset item old.wants want n allow)) last count allowed is
pushed_allowed (Err e) types offset old new want ok err last count allowed is =
    still_allowed types offset old new (λ item n allow. subst (λ ws. Allow types offset item ws n) (sym err) allow) last count allowed is

-- ---- the type that was allowed last is kept with the others

pub kept_with_others : (types : TypeWorld) (offset : ℕ) (old new : Kept) → new.wants ≡ old.wants → new.last ≡ old.last → new.last_allowed ≡ old.last_allowed
    → ((item : Item) → remembered new.allowed item ≡ cond (is_at (compare (code old.last)) (code item)) (Some old.last_allowed) (remembered old.allowed item))
    → IsAllowed types offset old → IsAllowed types offset new
kept_with_others types offset old new wants last last_allowed others is = record {
  last =
      subst (λ ws. Allow types offset new.last ws new.last_allowed) (sym wants)
      (subst (λ t. Allow types offset t old.wants new.last_allowed) (sym last) (subst (Allow types offset old.last old.wants) (sym last_allowed) is.last));
  others = λ item count e.
      subst (λ ws. Allow types offset item ws count) (sym wants)
      (elim (cases_Bool (is_at (compare (code old.last)) (code item))) [
        | inl here ↦
            let found : Some old.last_allowed ≡ Some count = sym (cond-true _ _ _ here) ∙ sym (others item) ∙ e in
            subst (Allow types offset item old.wants) (same_Some old.last_allowed count found)
            (subst (λ t. Allow types offset t old.wants old.last_allowed) (equal_items old.last item here) is.last)
        | inr apart ↦ is.others item count (sym (cond-false _ _ _ apart) ∙ sym (others item) ∙ e)
      ]);
}
