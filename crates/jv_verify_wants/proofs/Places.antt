-- What is wanted of local variables, where one of them changes.
use Rattle.std.proofs.Common.{◌≡◌, ◌≢◌, inl, inr, ℕ, ◌<◌, ◌≤◌, ◌++◌, [], ◌∷◌, List, get_or, length, map, set, sym, ◌∙◌, ap, subst, arith, length-append}
use Rattle.std.proofs.lemmas.Bool.{cases_eq, cases_order}
use Rattle.std.proofs.lemmas.List.{get_or-set_other, get_or_append_left, get_or-map, get_or_past, get_or_push, map-append}
use Rattle.std.proofs.lemmas.Grind.{get_or-set_at}
use Rattle.std.proofs.lemmas.List.Elements.{All-get_or, All-push, All-set}
use Rattle.jv_stackmap.specs.declared.verification.VerificationTypeOf.TheVariants as types
use Rattle.jv_verify_types.specs.Numbered.{Item}
use Rattle.jv_verify_types.specs.Typed.{TypeWorld}
use Rattle.jv_verify_wants.specs.declared.variable.Variable.{Variable}
use Rattle.jv_verify_wants.specs.Wanted.{blank, wanted_at, AddsWant, IsAmong, Kept, Wants, WantsSame}
use Rattle.jv_verify_wants.specs.Inside.Allowed.{kept_of, AddsToWants, AreAllowed, IsAllowed, KeepsWants}

-- ---- one changes

module _ (old room new : Wants) (place : ℕ) (before after : Kept) (same : (p : ℕ) → wanted_at room p ≡ wanted_at old p) (lt : place < length room)
    (was : get_or room place blank ≡ before) (is : new ≡ set room place after) where
  here_new : (p : ℕ) → p ≡ place → wanted_at new p ≡ after.wants
  here_new p at = ap (λ ks. wanted_at ks p) is ∙ ap (λ k. k.wants) (get_or-set_at room place p after blank at lt)

  here_old : (p : ℕ) → p ≡ place → wanted_at old p ≡ before.wants
  here_old p at = sym (same p) ∙ ap (λ q. wanted_at room q) at ∙ ap (λ k. k.wants) was

  apart : (p : ℕ) → p ≢ place → wanted_at new p ≡ wanted_at old p
  apart p other = ap (λ ks. wanted_at ks p) is ∙ ap (λ k. k.wants) (get_or-set_other room place p after blank other) ∙ same p

  pub added : (item : Item) (until offset : ℕ) → item ≢ types.Top → AddsToWants offset item until before.wants after.wants
      → AddsWant old new place item until offset
  added item until offset not_top adds p t q le =
      elim (cases_eq p place) [
        | inl at ↦
            let step = adds t q le in (
              λ w. elim (step.0 (subst (λ ws. IsAmong ws t q) (here_new p at) w)) [
                | inl there ↦ inl (subst (λ ws. IsAmong ws t q) (sym (here_old p at)) there)
                | inr more ↦ inr (at, more.0, not_top, more.1)
              ],
              λ w. subst (λ ws. IsAmong ws t q) (sym (here_new p at)) (step.1 (elim w [
                | inl there ↦ inl (subst (λ ws. IsAmong ws t q) (here_old p at) there)
                | inr more ↦ inr (more.1, more.3)
              ])),
            )
        | inr other ↦ (
          λ w. inl (subst (λ ws. IsAmong ws t q) (apart p other) w),
          λ w. elim w [ inl there ↦ subst (λ ws. IsAmong ws t q) (sym (apart p other)) there | inr more ↦ absurd (other more.0) ],
        )
      ]

  pub kept : (offset : ℕ) → KeepsWants offset before.wants after.wants → WantsSame old new offset
  kept offset keeps p t q le =
      elim (cases_eq p place) [
        | inl at ↦
            let step = keeps t q le in (
              λ w. subst (λ ws. IsAmong ws t q) (sym (here_old p at)) (step.0 (subst (λ ws. IsAmong ws t q) (here_new p at) w)),
              λ w. subst (λ ws. IsAmong ws t q) (sym (here_new p at)) (step.1 (subst (λ ws. IsAmong ws t q) (here_old p at) w)),
            )
        | inr other ↦ (
          λ w. subst (λ ws. IsAmong ws t q) (apart p other) w,
          λ w. subst (λ ws. IsAmong ws t q) (sym (apart p other)) w,
        )
      ]

  pub unchanged : after.wants ≡ before.wants → (p : ℕ) → wanted_at new p ≡ wanted_at old p
  unchanged wants p =
      elim (cases_eq p place) [ inl at ↦ here_new p at ∙ wants ∙ sym (here_old p at) | inr other ↦ apart p other ]

pub allowed_set : (types : TypeWorld) (offset : ℕ) (room new : Wants) (place : ℕ) (after : Kept) → new ≡ set room place after
    → AreAllowed types offset room → IsAllowed types offset after → AreAllowed types offset new
allowed_set types offset room new place after is are allowed =
    subst (AreAllowed types offset) (sym is) (All-set (IsAllowed types offset) room place after allowed are)

pub allowed_at : (types : TypeWorld) (offset : ℕ) (room : Wants) (place : ℕ) (before : Kept) → place < length room → get_or room place blank ≡ before
    → AreAllowed types offset room → IsAllowed types offset before
allowed_at types offset room place before lt was are =
    subst (IsAllowed types offset) was (All-get_or (IsAllowed types offset) room place blank lt are)

pub read_at : (variables : List Variable) (place : ℕ) (v : Variable) → place < length variables → v ≡ get_or variables place v
    → get_or (map kept_of variables) place blank ≡ kept_of v
read_at variables place v lt read = get_or-map kept_of variables place v blank lt ∙ ap kept_of (sym read)

-- ---- none is there, or one more

pub none_at : (wants : Wants) (place : ℕ) → length wants ≤ place → wanted_at wants place ≡ []
none_at wants place le = ap (λ k. k.wants) (get_or_past wants place blank le)

pub pushed_at : (wants : Wants) (kept : Kept) (p : ℕ) → kept.wants ≡ [] → wanted_at (wants ++ kept ∷ []) p ≡ wanted_at wants p
pushed_at wants kept p none =
    elim (cases_order p (length wants)) [
      | inl at ↦ ap (λ k. k.wants) (get_or_push wants kept blank p (sym at)) ∙ none ∙ sym (none_at wants p (omega (arith, at)))
      | inr apart ↦ elim apart [
        | inl before ↦ ap (λ k. k.wants) (get_or_append_left wants (kept ∷ []) blank p before)
        | inr behind ↦
            let more = length-append wants (kept ∷ []) in
            none_at (wants ++ kept ∷ []) p (omega (arith, more, behind)) ∙ sym (none_at wants p (omega (arith, behind)))
      ]
    ]

pub room_at : (variables : List Variable) (v : Variable) (p : ℕ) → v.wants.items ≡ []
    → wanted_at (map kept_of (variables ++ v ∷ [])) p ≡ wanted_at (map kept_of variables) p
room_at variables v p none =
    ap (λ ks. wanted_at ks p) (map-append kept_of variables (v ∷ [])) ∙ pushed_at (map kept_of variables) (kept_of v) p none

pub room_allowed : (types : TypeWorld) (offset : ℕ) (variables : List Variable) (v : Variable) → IsAllowed types offset (kept_of v)
    → AreAllowed types offset (map kept_of variables) → AreAllowed types offset (map kept_of (variables ++ v ∷ []))
room_allowed types offset variables v is are =
    subst (AreAllowed types offset) (sym (map-append kept_of variables (v ∷ [])))
    (All-push (IsAllowed types offset) (map kept_of variables) (kept_of v) are is)

-- ---- all as before

pub same_wanted : (old new : Wants) (offset : ℕ) → ((p : ℕ) → wanted_at new p ≡ wanted_at old p) → WantsSame old new offset
same_wanted old new offset same p t q le =
    (λ w. subst (λ ws. IsAmong ws t q) (same p) w, λ w. subst (λ ws. IsAmong ws t q) (sym (same p)) w)
