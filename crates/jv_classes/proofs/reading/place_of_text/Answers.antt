use Rattle.std.proofs.Common.{◌≡◌, ◌∙◌, ◌++◌, ◌∷◌, [], ℕ, List, Option, Some, length, set, ap, sym, subst}
use Rattle.jv_classes.specs.Inside.Found.{ArePlaces, Stay}
use Rattle.jv_classes.proofs.TextPlaces.{one_more_place, stay}
use Rattle.jv_classes.proofs.reading.place_of_text.Goals as goal

pub returns-clause-places : goal.returns-clause-places
returns-clause-places c =
    let pool = c.args.pool.now in
    let places = c.args.places.now.items in
    let texts = c.args.gathered.now.texts in
    let text = c.utf8-2.result.now in
    let grown = one_more_place pool places texts c.requires.places c.args.index.0 text c.utf8-2.ensures in
    let new_texts : c.add_text.new.self.texts ≡ texts ++ text ∷ [] = ap (λ g. g.texts) c.in_ok-place.ensures.added in
    let new_places : c.keep_place.new.places.items ≡ set places c.args.index.0 (Some (length texts)) =
    c.keep_place.ensures ∙ ap (λ n. set places c.args.index.0 (Some n)) c.in_ok-place.ensures.place in
    subst (λ (ts : List (List ℕ)). ArePlaces pool c.keep_place.new.places.items ts) (sym new_texts)
    (subst (λ (ps : List (Option ℕ)). ArePlaces pool ps (texts ++ text ∷ [])) (sym new_places) grown)

pub returns-clause-texts : goal.returns-clause-texts
returns-clause-texts c =
    let texts = c.args.gathered.now.texts in
    let text = c.utf8-2.result.now in
    let new_texts : c.add_text.new.self.texts ≡ texts ++ text ∷ [] = ap (λ g. g.texts) c.in_ok-place.ensures.added in
    subst (Stay texts) (sym new_texts) (stay texts (text ∷ []))
