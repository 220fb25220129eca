-- Where the texts of a constant pool stand among those that are gathered, when one more is.
use Rattle.std.proofs.Common.{◌≡◌, ℕ, zero, suc, List, [], ◌∷◌, ◌++◌, length, get_or, set, Option, Some, None, refl, inl, inr, sym, ap, ◌∙◌}
use Rattle.std.specs.Prelude.{◌⊎◌, slice_get}
use Rattle.jv_pool.specs.Constants.{Entry, utf8_at}
use Rattle.jv_classes.specs.Inside.Found.{ArePlaces, Stay}

pub stay : (texts : List (List ℕ)) (more : List (List ℕ)) → Stay texts (texts ++ more)
stay [] more zero text e = absurd cc
stay [] more (suc k) text e = absurd cc
stay (t ∷ ts) more zero text e = e
stay (t ∷ ts) more (suc k) text e = stay ts more k text e

pub at_end : (texts : List (List ℕ)) (text : List ℕ) → slice_get (texts ++ text ∷ []) (length texts) ≡ Some text
at_end [] text = refl
at_end (t ∷ ts) text = at_end ts text

set_gives : (places : List (Option ℕ)) (index other new place : ℕ) → get_or (set places index (Some new)) other None ≡ Some place
    → (get_or places other None ≡ Some place) ⊎ ((index ≡ other) × (new ≡ place))
set_gives [] index other new place e = inl e
set_gives (p ∷ ps) zero zero new place e = inr (refl, same e)
  where
    same : Some new ≡ Some place → new ≡ place
    same e = cc
set_gives (p ∷ ps) zero (suc other) new place e = inl e
set_gives (p ∷ ps) (suc index) zero new place e = inl e
set_gives (p ∷ ps) (suc index) (suc other) new place e = by_part (set_gives ps index other new place e)
  where
    by_part : (get_or ps other None ≡ Some place) ⊎ ((index ≡ other) × (new ≡ place)) → (get_or ps other None ≡ Some place) ⊎ ((suc index ≡ suc other) × (new ≡ place))
    by_part (inl e) = inl e
    by_part (inr h) = inr (ap suc h.0, h.1)

pub one_more_place : (pool : List Entry) (places : List (Option ℕ)) (texts : List (List ℕ)) → ArePlaces pool places texts → (index : ℕ) (text : List ℕ) → utf8_at pool index ≡ Some text
    → ArePlaces pool (set places index (Some (length texts))) (texts ++ text ∷ [])
one_more_place pool places texts are index text named other place its named_there e = by_part (set_gives places index other (length texts) place e)
  where
    by_part : (get_or places other None ≡ Some place) ⊎ ((index ≡ other) × (length texts ≡ place)) → slice_get (texts ++ text ∷ []) place ≡ Some its
    by_part (inl known) = stay texts (text ∷ []) place its (are other place its named_there known)
    by_part (inr h) =
        ap (slice_get (texts ++ text ∷ [])) (sym h.1)
        ∙ (at_end texts text ∙ (sym named ∙ (ap (utf8_at pool) h.0 ∙ named_there)))
