use Rattle.std.proofs.Common.{◌≡◌, ◌∙◌, ap, sym, subst, map, ◌++◌, [], ◌∷◌, Some, None, codes, length}
use Rattle.std.specs.Prelude.{position, slice_get}
use Rattle.std.specs.Str.{bytes_eq}
use Rattle.std.proofs.lemmas.List.{map-append}
use Rattle.jv_meaning_world.specs.Numbers.{number_named}
use Rattle.jv_verify_types.specs.Typed.{TypeWorld}
use Rattle.jv_verify_types.specs.Inside.Kept.{AreDistinct}
use Rattle.jv_verify_types.proofs.Numbered.{joined, distinct_more, more_behind, last_one, goes_on_with}
use Rattle.jv_verify_types.proofs.names.TypeNames.add.Goals as goal

pub invariant_of-self-2 : goal.invariant_of-self-2
invariant_of-self-2 c =
    let names = c.self.inside.names in
    let name = c.args.name.now in
    let world = c.self.inside.table.now in
    let none : position (bytes_eq name) names ≡ None = subst (λ (w : TypeWorld). position (bytes_eq name) w.names ≡ None) (sym c.self.view_is) c.requires in
    let new : c.add.new.self ≡ names ++ name ∷ [] = c.in_ok-add.ensures.ok ∙ joined names name none in
    record {
      first = subst (λ ns. slice_get ns 0 ≡ Some (codes "java/lang/Object")) (sym new) (more_behind names (name ∷ []) 0 (codes "java/lang/Object") c.self.invariant.first);
      distinct = subst AreDistinct (sym new) (distinct_more names name none c.self.invariant.distinct);
      numbered =
          c.push_reserved.ensures.items
          ∙ (ap (λ xs. xs ++ c.in_ok-class.class ∷ []) (c.reserve.ensures.items ∙ c.self.invariant.numbered)
          ∙ (ap (λ o. map (number_named world) names ++ o ∷ []) (c.in_ok-class.ensures ∙ c.find.ensures)
          ∙ (sym (map-append (number_named world) names (name ∷ [])) ∙ ap (map (number_named world)) (sym new))));
    }

pub returns-clause-number : goal.returns-clause-number
returns-clause-number c =
    let names = c.self.inside.names in
    let name = c.args.name.now in
    let none : position (bytes_eq name) names ≡ None = subst (λ (w : TypeWorld). position (bytes_eq name) w.names ≡ None) (sym c.self.view_is) c.requires in
    let new : c.add.new.self ≡ names ++ name ∷ [] = c.in_ok-add.ensures.ok ∙ joined names name none in
    ap (slice_get c.add.new.self) (c.in_ok-number.ensures.number ∙ c.count.ensures)
    ∙ (ap (λ ns. slice_get ns (length names)) new ∙ last_one names name)

pub returns-clause-goes_on : goal.returns-clause-goes_on
returns-clause-goes_on c =
    let names = c.self.inside.names in
    let name = c.args.name.now in
    let none : position (bytes_eq name) names ≡ None = subst (λ (w : TypeWorld). position (bytes_eq name) w.names ≡ None) (sym c.self.view_is) c.requires in
    goes_on_with _ name _ (c.in_ok-add.ensures.ok ∙ (joined names name none ∙ ap (λ (w : TypeWorld). w.names ++ name ∷ []) c.self.view_is))
