-- What is among some wants, where one joins them, one is raised, or those that have ended go.
use Rattle.std.proofs.Common.{zero, suc, ◌≡◌, ◌⊎◌, ◌↔◌, inl, inr, ℕ, ◌<◌, ◌≤◌, ◌++◌, [], ◌∷◌, Bool, true, false, List, Option, Some, None, IfSome, cond, get_or, length, length-set, set, refl, sym, ◌∙◌, ap, subst, arith}
use Rattle.std.specs.Prelude.{slice_get}
use Rattle.std.specs.List.{filter, list_all, position}
use Rattle.std.proofs.lemmas.Bool.{and_parts, and_from, cases_lt, leb-true, le-leb, ltb-true, ltb-false, or_cases, or_left, or_right}
use Rattle.std.proofs.lemmas.Option.{same_Some, slice_get-get_or}
use Rattle.std.proofs.lemmas.List.Quantifiers.{position-Some}
use Rattle.std.specs.Global.{Vec}
use Rattle.std.specs.Vec.{with_items}
use Rattle.std.proofs.lemmas.List.{with_items_is}
use Rattle.jv_verify_types.specs.Numbered.{Item}
use Rattle.jv_verify_types.specs.Typed.{TypeWorld}
use Rattle.jv_verify_wants.specs.declared.variable.Want.{Want}
use Rattle.jv_verify_wants.specs.Wanted.{flows_by, IsAmong}
use Rattle.jv_verify_wants.specs.Inside.Allowed.{allows, is_open, is_open_of, raised, AddsToWants, FlowsToAll, IsOpenAt, KeepsWants}
use Rattle.jv_verify_wants.specs.Inside.Codes.{code, same_code}
use Rattle.jv_verify_wants.proofs.Numbers.{same_items}

-- ---- one more

pub among-push : (wants : List Want) (item : Item) (until : ℕ) (other : Item) (q : ℕ)
    → IsAmong (wants ++ record { item = item; until = until } ∷ []) other q ↔ (IsAmong wants other q ⊎ ((other ≡ item) × (q < until)))
among-push [] item until other q = (
  λ h. elim h [ inl here ↦ inr (sym here.0, here.1) | inr none ↦ absurd none ],
  λ h. elim h [ inl none ↦ absurd none | inr here ↦ inl (sym here.0, here.1) ],
)
among-push (want ∷ more) item until other q =
    let rest = among-push more item until other q in (
      λ h. elim h [ inl here ↦ inl (inl here) | inr there ↦ elim (rest.0 there) [ inl was ↦ inl (inr was) | inr new ↦ inr new ] ],
      λ h. elim h [ inl was ↦ elim was [ inl here ↦ inl here | inr there ↦ inr (rest.1 (inl there)) ] | inr new ↦ inr (rest.1 (inr new)) ],
    )

pub pushed : (offset : ℕ) (item : Item) (until : ℕ) (old now new : List Want) → KeepsWants offset old now
    → new ≡ now ++ record { item = item; until = until } ∷ [] → AddsToWants offset item until old new
pushed offset item until old now new keeps is other q le =
    let one = among-push now item until other q in
    let was = keeps other q le in (
      λ h. elim (one.0 (subst (λ ws. IsAmong ws other q) is h)) [ inl there ↦ inl (was.0 there) | inr here ↦ inr here ],
      λ h. subst (λ ws. IsAmong ws other q) (sym is) (one.1 (elim h [ inl there ↦ inl (was.1 there) | inr here ↦ inr here ])),
    )

-- ---- those that have ended go

kept_or_not : (b : Bool) (want : Want) (left more : List Want) (other : Item) (q : ℕ) → (b ≡ false → want.until ≤ q)
    → (IsAmong left other q ↔ IsAmong more other q) → IsAmong (cond b (want ∷ left) left) other q ↔ IsAmong (want ∷ more) other q
kept_or_not true want left more other q ended rest = (
  λ h. elim h [ inl here ↦ inl here | inr there ↦ inr (rest.0 there) ],
  λ h. elim h [ inl here ↦ inl here | inr there ↦ inr (rest.1 there) ],
)
kept_or_not false want left more other q ended rest = (
  λ h. inr (rest.0 h),
  λ h. elim h [ inl here ↦ absurd (omega (arith, here.1, ended refl)) | inr there ↦ rest.1 there ],
)

pub among-filter : (wants : List Want) (offset : ℕ) → KeepsWants offset wants (filter (is_open offset) wants)
among-filter [] offset other q le = (λ h. h, λ h. h)
among-filter (want ∷ more) offset other q le =
    kept_or_not (is_open offset want) want (filter (is_open offset) more) more other q
    (λ e. let ended = ltb-false offset want.until e in omega (arith, ended, le)) (among-filter more offset other q le)

-- ---- one is raised

among-set : (wants : List Want) (place : ℕ) (want : Want) (until : ℕ) (other : Item) (q : ℕ) → slice_get wants place ≡ Some want
    → IsAmong (set wants place (raised want until)) other q ↔ (IsAmong wants other q ⊎ ((other ≡ want.item) × (q < until)))
among-set [] place want until other q is = absurd cc
among-set (first ∷ more) zero want until other q is =
    let same : first ≡ want = same_Some first want is in (
      λ h. elim h [
        | inl here ↦ elim (cases_lt q want.until) [
          | inl before ↦ inl (inl (ap (λ w. w.item) same ∙ here.0, subst (λ w. q < w.until) (sym same) before))
          | inr behind ↦ inr (sym here.0, omega (arith, here.1, behind))
        ]
        | inr there ↦ inl (inr there)
      ],
      λ h. elim h [
        | inl was ↦ elim was [
          | inl here ↦ let until_is : first.until ≡ want.until = ap (λ w. w.until) same in
              inl (sym (ap (λ w. w.item) same) ∙ here.0, omega (arith, here.1, until_is))
          | inr there ↦ inr there
        ]
        | inr new ↦ inl (sym new.0, omega (arith, new.1))
      ],
    )
among-set (first ∷ more) (suc place) want until other q is =
    let rest = among-set more place want until other q is in (
      λ h. elim h [ inl here ↦ inl (inl here) | inr there ↦ elim (rest.0 there) [ inl was ↦ inl (inr was) | inr new ↦ inr new ] ],
      λ h. elim h [ inl was ↦ elim was [ inl here ↦ inl here | inr there ↦ inr (rest.1 (inl there)) ] | inr new ↦ inr (rest.1 (inr new)) ],
    )

pub raised_items : (v : Vec Want) (now new : List Want) (place : ℕ) (want : Want) (until : ℕ) → now ≡ v.items
    → slice_get v.items place ≡ Some want
    → ((w : Want) → slice_get now place ≡ Some w → new ≡ set now place (raised w until))
    → (with_items v new).items ≡ set v.items place (raised want until)
raised_items v now new place want until same there raises =
    let more = raised want until in
    let is : new ≡ set v.items place more =
    raises want (ap (λ ws. slice_get ws place) same ∙ there) ∙ ap (λ (ws : List Want). set ws place more) same in
    with_items_is v new (ap length is ∙ length-set v.items place more ∙ sym v.ok.0) ∙ is

pub among-raised : (wants new : List Want) (place : ℕ) (item : Item) (until offset : ℕ) (found : IsOpenAt wants place item offset)
    → new ≡ set wants place (raised found.want until) → AddsToWants offset item until wants new
among-raised wants new place item until offset found is other q le =
    let same = among-set wants place found.want until other q found.there in
    subst (λ ws. IsAmong ws other q ↔ (IsAmong wants other q ⊎ ((other ≡ item) × (q < until)))) (sym is)
    (subst (λ t. IsAmong (set wants place (raised found.want until)) other q ↔ (IsAmong wants other q ⊎ ((other ≡ t) × (q < until)))) found.same same)

-- ---- what flows to all

pub flows_to_all : (types : TypeWorld) (offset : ℕ) (item : Item) (wants : List Want) → list_all (allows types offset item) wants ≡ true
    → FlowsToAll types item wants offset
flows_to_all types offset item [] e other none = absurd none
flows_to_all types offset item (want ∷ more) e other among =
    let parts = and_parts (allows types offset item want) (list_all (allows types offset item) more) e in
    elim among [
      | inl here ↦ elim (or_cases _ _ parts.0) [
        | inl ended ↦ let le = leb-true want.until offset ended in absurd (omega (arith, here.1, le))
        | inr flows ↦ subst (λ t. flows_by types item t ≡ true) here.0 flows
      ]
      | inr there ↦ flows_to_all types offset item more parts.1 other there
    ]

pub allows_all : (types : TypeWorld) (offset : ℕ) (item : Item) (wants : List Want) → FlowsToAll types item wants offset
    → list_all (allows types offset item) wants ≡ true
allows_all types offset item [] flow = refl
allows_all types offset item (want ∷ more) flow =
    and_from _ _
    (elim (cases_lt offset want.until) [ inl before ↦ or_right _ _ (flow want.item (inl (refl, before))) | inr ended ↦ or_left _ _ (le-leb want.until offset ended) ])
    (allows_all types offset item more (λ other there. flow other (inr there)))

-- ---- at which place a type is wanted

pub found_at : (wants : List Want) (place : ℕ) (item : Item) (offset : ℕ) (want : Want) → slice_get wants place ≡ Some want
    → is_open_of item offset want ≡ true → IsOpenAt wants place item offset
found_at wants place item offset want there e =
    let parts = and_parts (is_open offset want) (same_code (code want.item) (code item)) e in
    record { want = want; there = there; same = same_items want.item item parts.1; until = ltb-true offset want.until parts.0 }

pub first_found : (wants : List Want) (item : Item) (offset : ℕ) (place : Option ℕ) → place ≡ position (is_open_of item offset) wants
    → IfSome place (λ k. IsOpenAt wants k item offset)
first_found wants item offset None e = tt
first_found wants item offset (Some k) e =
    let blank : Want = record { item = item; until = 0 } in
    let at = position-Some (is_open_of item offset) wants k blank (sym e) in
    found_at wants k item offset (get_or wants k blank) (slice_get-get_or wants k blank at.0) at.1
