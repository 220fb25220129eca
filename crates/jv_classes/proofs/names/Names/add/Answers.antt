use Rattle.std.proofs.Common.{◌≡◌, ◌∙◌, ℕ, true, false, List, sym, ap, not}
use Rattle.std.specs.Prelude.{position}
use Rattle.std.specs.Borrow.{Bor}
use Rattle.std.specs.Str.{bytes_eq}
use Rattle.jv_classes.specs.Names.{has_name, with_name}
use Rattle.jv_classes.specs.Inside.KeptNames.{texts_of}
use Rattle.jv_classes.proofs.LinkedNames.{is_there, stays, behind}
use Rattle.jv_classes.proofs.names.Names.add.Goals as goal

pub returns-then-is_some-clause-new : goal.returns-then-is_some-clause-new
returns-then-is_some-clause-new c =
    let name = c.args.name.now in
    let found = is_there (texts_of c.self.inside.names.items) name c.place_in-place.result
    (c.place_in-place.ensures ∙ ap (λ (ns : List (Bor (List ℕ))). position (bytes_eq name) (texts_of ns)) c.deref.ensures.value) in
    ap not (sym c.if-is_some.true ∙ (c.is_some.ensures ∙ (found ∙ ap (λ ns. has_name ns name) c.self.view_is)))

pub returns-then-is_some-clause-ok : goal.returns-then-is_some-clause-ok
returns-then-is_some-clause-ok c =
    let name = c.args.name.now in
    let found = is_there (texts_of c.self.inside.names.items) name c.place_in-place.result
    (c.place_in-place.ensures ∙ ap (λ (ns : List (Bor (List ℕ))). position (bytes_eq name) (texts_of ns)) c.deref.ensures.value) in
    let there : has_name c.args.self.now name ≡ true = ap (λ ns. has_name ns name) (sym c.self.view_is) ∙ (sym found ∙ (sym c.is_some.ensures ∙ c.if-is_some.true)) in
    stays c.args.self.now name there

pub join-requires-clause-absent : goal.join-requires-clause-absent
join-requires-clause-absent c =
    let name = c.args.name.now in
    let found = is_there (texts_of c.self.inside.names.items) name c.place_in-place.result
    (c.place_in-place.ensures ∙ ap (λ (ns : List (Bor (List ℕ))). position (bytes_eq name) (texts_of ns)) c.deref.ensures.value) in
    sym found ∙ (sym c.is_some.ensures ∙ c.if-is_some.false)

pub returns-clause-new : goal.returns-clause-new
returns-clause-new c =
    let name = c.args.name.now in
    let found = is_there (texts_of c.self.inside.names.items) name c.place_in-place.result
    (c.place_in-place.ensures ∙ ap (λ (ns : List (Bor (List ℕ))). position (bytes_eq name) (texts_of ns)) c.deref.ensures.value) in
    ap not (sym c.if-is_some.false ∙ (c.is_some.ensures ∙ (found ∙ ap (λ ns. has_name ns name) c.self.view_is)))

pub returns-clause-ok : goal.returns-clause-ok
returns-clause-ok c =
    let name = c.args.name.now in
    let found = is_there (texts_of c.self.inside.names.items) name c.place_in-place.result
    (c.place_in-place.ensures ∙ ap (λ (ns : List (Bor (List ℕ))). position (bytes_eq name) (texts_of ns)) c.deref.ensures.value) in
    let absent : has_name (texts_of c.self.inside.names.items) name ≡ false = sym found ∙ (sym c.is_some.ensures ∙ c.if-is_some.false) in
    ap texts_of c.in_ok-join.ensures.ok ∙ (behind c.self.inside.names.items c.args.name absent ∙ ap (λ ns. with_name ns name) c.self.view_is)
