-- The places of fields one behind the other are apart, and go on where those of the superclass end.
use Rattle.std.proofs.Common.{◌≡◌, ℕ, ◌+◌, ◌≤◌, List, [], ◌∷◌, ◌++◌, map, reverse, refl, ap, ◌∙◌, inl, arith}
use Rattle.std.specs.Prelude.{sum_by}
use Rattle.std.specs.List.{AllByRecursion, flat_map}
use Rattle.std.proofs.lemmas.Grind.{flat_map-append}
use Rattle.std.proofs.lemmas.List.{reverse-append}
use Rattle.std.proofs.lemmas.List.Sums.{sum_by-cons}
use Rattle.jv_meaning_world.specs.LookUps.{DeclaredField}
use Rattle.jv_meaning_world.specs.Laws.Above.{AboveByWays, AboveIsTransitive}
use Rattle.jv_meaning_typing.specs.Selection.{upward}
use Rattle.jv_meaning_typing.specs.Layout.{own_fields, instance_fields, field_words, object_words, Placed, laid_at, placed_from, layout, end_of, AreApart, EachTwoApart}
use Rattle.jv_meaning_typing.specs.LinkingLaws.{LayoutIsByRule, LayoutExtends}
use Rattle.jv_meaning_typing.proofs.Chain.{chain_goes_on}

fields_stay : (n : ℕ) (ds : List DeclaredField) → map (λ (p : Placed). p.field) (placed_from n ds) ≡ ds
fields_stay n [] = refl
fields_stay n (d ∷ ds) = ap (λ es. d ∷ es) (fields_stay (n + field_words d) ds)

-- what holds from a place on holds from a later one
weaker : (P Q : Placed → Type 0) → ((p : Placed) → P p → Q p) → (ps : List Placed) → AllByRecursion P ps → AllByRecursion Q ps
weaker P Q f [] h = tt
weaker P Q f (p ∷ ps) h = (f p h.0, weaker P Q f ps h.1)

behind : (n : ℕ) (ds : List DeclaredField) → AllByRecursion (λ p. n ≤ p.place) (placed_from n ds)
behind n [] = tt
behind n (d ∷ ds) = (omega arith, weaker (λ p. n + field_words d ≤ p.place) (λ p. n ≤ p.place) (λ p h. omega (arith, h)) (placed_from (n + field_words d) ds) (behind (n + field_words d) ds))

within : (n : ℕ) (ds : List DeclaredField) → AllByRecursion (λ p. end_of p ≤ n + sum_by field_words ds) (placed_from n ds)
within n [] = tt
within n (d ∷ ds) =
    let all : sum_by field_words (d ∷ ds) ≡ field_words d + sum_by field_words ds = sum_by-cons field_words d ds in (
      omega (arith, all),
      weaker (λ p. end_of p ≤ (n + field_words d) + sum_by field_words ds) (λ p. end_of p ≤ n + sum_by field_words (d ∷ ds))
          (λ p h. omega (arith, h, all)) (placed_from (n + field_words d) ds) (within (n + field_words d) ds),
    )

apart : (n : ℕ) (ds : List DeclaredField) → EachTwoApart (placed_from n ds)
apart n [] = tt
apart n (d ∷ ds) = (
  weaker (λ p. n + field_words d ≤ p.place) (AreApart (laid_at d n)) (λ p h. inl h) (placed_from (n + field_words d) ds)
      (behind (n + field_words d) ds),
  apart (n + field_words d) ds,
)

pub layout_is_by_rule : LayoutIsByRule
layout_is_by_rule world l = record {
  fields = fields_stay 0 (instance_fields world l);
  within = weaker (λ p. end_of p ≤ 0 + object_words world l)
      (λ p. end_of p ≤ object_words world l) (λ p h. omega (arith, h)) (layout world l) (within 0 (instance_fields world l));
  apart =
      apart 0 (instance_fields world l);
}

pub placed_go_on : (n : ℕ) (ds es : List DeclaredField) → placed_from n (ds ++ es) ≡ placed_from n ds ++ placed_from (n + sum_by field_words ds) es
placed_go_on n [] es = ap (λ k. placed_from k es) (let e : n ≡ n + 0 = omega arith in e)
placed_go_on n (d ∷ ds) es =
    let all : sum_by field_words (d ∷ ds) ≡ field_words d + sum_by field_words ds = sum_by-cons field_words d ds in
    let e : (n + field_words d) + sum_by field_words ds ≡ n + sum_by field_words (d ∷ ds) = omega (arith, all) in
    ap (λ ps. laid_at d n ∷ ps) (placed_go_on (n + field_words d) ds es ∙ ap (λ k. placed_from (n + field_words d) ds ++ placed_from k es) e)

pub layout_extends : AboveByWays → AboveIsTransitive → LayoutExtends
layout_extends ways above_above world l s straight e =
    (placed_from (0 + sum_by field_words (instance_fields world s)) (flat_map own_fields (l ∷ [])), ap (placed_from 0) fields ∙ placed_go_on 0 (instance_fields world s) (flat_map own_fields (l ∷ [])))
  where
    chain : upward world l ≡ l ∷ upward world s
    chain = ap (λ ls. l ∷ ls) (chain_goes_on ways above_above world l s straight e)

    fields : instance_fields world l ≡ instance_fields world s ++ flat_map own_fields (l ∷ [])
    fields = ap (λ ls. flat_map own_fields (reverse ls)) chain ∙ ap (flat_map own_fields) (reverse-append (l ∷ []) (upward world s)) ∙ flat_map-append own_fields (reverse (upward world s)) (l ∷ [])
