use Rattle.std.proofs.Common.{◌≡◌, None, Some, sym, ap, subst}
use Rattle.jv_meaning_typing.specs.Typing.{frame_at}
use Rattle.jv_verify_types.specs.Mapped.{frame_by_types, local_entry_words}
use Rattle.jv_verify_types.specs.Numbered.{frame_of}
use Rattle.jv_verify_types.specs.Typed.{typed}
use Rattle.jv_verify_pass.specs.Pass.{Pass, maps_of, names_in}
use Rattle.jv_verify_pass.specs.Inside.Kept.{IsPass}
use Rattle.jv_verify_pass.proofs.FlowsInto.{handles_there, no_catch, no_map}
use Rattle.jv_verify_pass.proofs.onward.handles.Goals as goal

pub returns-in_default : goal.returns-in_default
returns-in_default c = λ env insn is left.
    let pass = c.args.pass.now in
    let entries = c.pass.inside.initial.now in
    let count = c.pass.inside.words in
    let kept : IsPass pass entries count = subst (λ (p : Pass). IsPass p entries count) c.pass.view_is c.pass.invariant in
    no_catch pass entries count kept env is insn (frame_of (names_in pass) c.args.frame.now) c.args.handler (c.in_default.ensures env is)

pub returns-in_default-map_at : goal.returns-in_default-map_at
returns-in_default-map_at c = λ env insn is left.
    let pass = c.args.pass.now in
    let entries = c.pass.inside.initial.now in
    let count = c.pass.inside.words in
    let kept : IsPass pass entries count = subst (λ (p : Pass). IsPass p entries count) c.pass.view_is c.pass.invariant in
    no_map pass entries count kept env is insn (frame_of (names_in pass) c.args.frame.now) c.args.handler (typed (names_in pass) c.in-Some.thrown) (c.in-Some.ensures env is)
    (subst (λ n. None ≡ frame_at (maps_of pass) n) c.from.ensures ((c.in_default-map_at.ensures {u = tt}).frame env is))

pub thrown_flows-requires : goal.thrown_flows-requires
thrown_flows-requires c =
    let map = c.in-Some-map_at.map in
    subst (λ (p : Pass). map.local_words ≡ local_entry_words p.types map) (sym c.pass.view_is) c.in-Some-map_at.ensures.room.words

pub returns : goal.returns
returns c = λ env insn is left.
    let pass = c.args.pass.now in
    let entries = c.pass.inside.initial.now in
    let count = c.pass.inside.words in
    let kept : IsPass pass entries count = subst (λ (p : Pass). IsPass p entries count) c.pass.view_is c.pass.invariant in
    let map = c.in-Some-map_at.map in
    handles_there pass entries count kept env is c.pass.inside.types.now insn c.args.frame.now c.args.object c.in-Some.thrown c.args.handler map c.thrown_flows.result
    (ap (λ (p : Pass). p.types) c.pass.view_is) c.requires c.thrown_flows.ensures left (c.in-Some.ensures env is)
    (subst (λ n. Some (frame_by_types pass.types pass.max_locals map) ≡ frame_at (maps_of pass) n) c.from.ensures (c.in-Some-map_at.ensures.frame env is))
