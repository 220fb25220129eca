use Rattle.std.proofs.Common.{◌≡◌, sym, ap, subst, ◌∙◌}
use Rattle.jv_meaning_typing.specs.Typing.{flows_into, frame_at, target_holds}
use Rattle.jv_verify_types.specs.Mapped.{local_entry_words}
use Rattle.jv_verify_types.specs.Numbered.{frame_of}
use Rattle.jv_verify_pass.specs.Pass.{Pass, maps_of, names_in}
use Rattle.jv_verify_pass.specs.Inside.Kept.{IsPass}
use Rattle.jv_verify_pass.proofs.FlowsInto.{flows_there}
use Rattle.jv_verify_pass.proofs.onward.target_holds.Goals as goal

pub returns-in_default : goal.returns-in_default
returns-in_default c = λ env is.
    let pass = c.args.pass.now in
    ap (target_holds env (maps_of pass) (frame_of (names_in pass) c.args.left.now)) (sym c.in_default.is)

pub frame_flows-requires-clause-words : goal.frame_flows-requires-clause-words
frame_flows-requires-clause-words c =
    let map = c.in-Some-map_at.map in
    subst (λ (p : Pass). map.local_words ≡ local_entry_words p.types map) (sym c.pass.view_is) c.in-Some-map_at.ensures.room.words

pub returns-in-Some-map_at : goal.returns-in-Some-map_at
returns-in-Some-map_at c = λ env is.
    let pass = c.args.pass.now in
    let entries = c.pass.inside.initial.now in
    let count = c.pass.inside.words in
    let kept : IsPass pass entries count = subst (λ (p : Pass). IsPass p entries count) c.pass.view_is c.pass.invariant in
    let f = frame_of (names_in pass) c.args.left.now in
    flows_there pass entries count kept env is c.pass.inside.types.now c.args.left.now c.in-Some-map_at.map c.frame_flows.result (frame_at (maps_of pass) c.in-Some.offset)
    (ap (λ (p : Pass). p.types) c.pass.view_is) c.requires c.frame_flows.ensures (c.in-Some-map_at.ensures.frame env is)
    ∙ ap (target_holds env (maps_of pass) f) (sym c.in-Some.is)

pub returns-in-None : goal.returns-in-None
returns-in-None c = λ env is.
    let pass = c.args.pass.now in
    let f = frame_of (names_in pass) c.args.left.now in
    ap (flows_into env f) ((c.in-None.ensures {u = tt}).frame env is) ∙ ap (target_holds env (maps_of pass) f) (sym c.in-Some.is)
