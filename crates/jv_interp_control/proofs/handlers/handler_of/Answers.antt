use Rattle.std.proofs.Common.{◌≡◌, ◌<◌, Option, Some, length, slice_get, sym, ap, subst, ◌∙◌}
use Rattle.std.specs.Option.{option_map}
use Rattle.std.specs.List.{find}
use Rattle.std.proofs.lemmas.Option.{slice_get_within}
use Rattle.jv_format.specs.declared.handlers.Handler.{Handler}
use Rattle.jv_meaning_world.specs.World.{World}
use Rattle.jv_lookups.specs.Places.{method_at}
use Rattle.jv_link_cache.specs.Handlers.{takes, handlers_of_code}
use Rattle.jv_link_cache.specs.Linked.{IsLinked}
use Rattle.jv_interp_control.specs.Inside.Handling.{pc_of}
use Rattle.jv_interp_control.proofs.CodeThere.{code_there, can_find}
use Rattle.jv_interp_control.proofs.HandlerFound.{same_handler}
use Rattle.jv_interp_control.proofs.handlers.handler_of.Goals as goal

pub place_of-place-requires : goal.place_of-place-requires
place_of-place-requires c =
    let w = c.requires.can in
    can_find w.program w.addresses w.frame c.args.own w.used w.below c.args.methods.now c.args.classes.now.world w.handling.world_is c.requires.methods w.handling.stands

pub handler_at-requires : goal.handler_at-requires
handler_at-requires c =
    let w = c.requires.can in
    subst (λ (world : World). c.args.class < length world) (w.handling.world_is ∙ sym c.table.ensures)
    (slice_get_within w.program.world c.args.class _ w.handling.has_number.at)

pub returns : goal.returns
returns c = λ program addresses frame used below name h.
    let code = code_there program addresses frame c.args.own used below c.args.methods.now c.args.classes.now.world h.world_is c.requires.methods h.stands in
    let is_world : program.world ≡ c.table.result.now = h.world_is ∙ sym c.table.ensures in
    let d = h.stands.declared in
    let linked = subst (λ (w : World). IsLinked w c.args.linked.now) (sym c.table.ensures) c.requires.linked in
    let place = subst (λ (w : World). method_at w c.place_of-place.result ≡ Some d) is_world (c.place_of-place.ensures program d frame.method.code code) in
    let class = subst (λ (w : World). slice_get w c.args.class ≡ Some h.has_number.l) is_world h.has_number.at in
    c.handler_at.ensures d linked place h.has_number.l class
    ∙ ap (λ (w : World). option_map pc_of (find (takes w d.by.class.constant_pool h.has_number.l c.args.own.pc) (handlers_of_code d.method.code))) (sym is_world)
    ∙ ap (λ (o : Option Handler). option_map pc_of o)
    (same_handler c.args.classes.now.world c.args.own c.args.class program addresses frame used below name h code.has_code)
