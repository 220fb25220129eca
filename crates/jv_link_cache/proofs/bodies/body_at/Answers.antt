use Rattle.std.proofs.Common.{◌≡◌, ◌<◌, length, None, arith, subst, sym}
use Rattle.std.proofs.lemmas.Option.{slice_get_within}
use Rattle.jv_class.specs.Class.{Method}
use Rattle.jv_meaning_world.specs.World.{Loaded}
use Rattle.jv_link_cache.proofs.Bodied.{at_method}
use Rattle.jv_link_cache.proofs.bodies.body_at.Goals as goal

pub returns-then-place-count : goal.returns-then-place-count
returns-then-place-count c = λ d at.
    at_method c.args.table.now (λ (m : Method). m.code ≡ None) c.args.place d at (λ l m class method.
    let less = slice_get_within c.args.table.now c.args.place.class l class in
    let none : ⊥ = omega (arith, less, c.if-place-count.true, c.count.ensures) in absurd none)

pub returns-then-place-method_count : goal.returns-then-place-method_count
returns-then-place-method_count c = λ d at.
    at_method c.args.table.now (λ (m : Method). m.code ≡ None) c.args.place d at (λ l m class method.
    let less = slice_get_within l.class.methods c.args.place.member m method in
    let here : c.args.place.member < length c.class_at-class.result.now.class.methods =
    subst (λ (x : Loaded). c.args.place.member < length x.class.methods) (sym (c.class_at-class.ensures l class)) less in
    let none : ⊥ = omega (arith, here, c.if-place-method_count.true, c.method_count.ensures) in absurd none)
