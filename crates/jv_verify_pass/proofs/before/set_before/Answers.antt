use Rattle.std.proofs.Common.{◌≡◌, length, sym, ap, subst, ◌∙◌, arith}
use Rattle.jv_verify_types.specs.Mapped.{local_entry_words}
use Rattle.jv_verify_types.specs.Numbered.{frame_of}
use Rattle.jv_verify_pass.specs.Before.{frame_before}
use Rattle.jv_verify_pass.specs.Pass.{Pass, names_in}
use Rattle.jv_verify_pass.specs.Inside.Kept.{IsPass}
use Rattle.jv_verify_pass.specs.Inside.Walk.{when_falls}
use Rattle.jv_verify_pass.proofs.FlowsInto.{set_is}
use Rattle.jv_verify_pass.proofs.before.set_before.Goals as goal

pub returns-in_default-clause-before : goal.returns-in_default-clause-before
returns-in_default-clause-before c = λ env is.
    let pass = c.args.pass.now in
    ap (frame_before (when_falls c.args.falls (frame_of (names_in pass) c.args.frame.now))) ((c.in_default.ensures {u = tt}).frame env is)

pub set_to_map-requires-clause-words : goal.set_to_map-requires-clause-words
set_to_map-requires-clause-words c =
    subst (λ (p : Pass). c.in-Some.map.local_words ≡ local_entry_words p.types c.in-Some.map) (sym c.pass.view_is) c.in-Some.ensures.room.words

pub set_to_map-requires-clause-room : goal.set_to_map-requires-clause-room
set_to_map-requires-clause-room c =
    let room = c.in-Some.ensures.room.room in
    omega (arith, room, c.requires)

pub returns-clause-before : goal.returns-clause-before
returns-clause-before c = λ env is.
    let pass = c.args.pass.now in
    let entries = c.pass.inside.initial.now in
    let count = c.pass.inside.words in
    let kept : IsPass pass entries count = subst (λ (p : Pass). IsPass p entries count) c.pass.view_is c.pass.invariant in
    ap (frame_before (when_falls c.args.falls (frame_of (names_in pass) c.args.frame.now)))
    (sym (set_is pass entries count kept env is c.pass.inside.types.now (length c.args.frame.now.locals) c.set_to_map.new.frame c.in-Some.map
    (ap (λ (p : Pass). p.types) c.pass.view_is) c.requires c.in_ok-set_to_map.ensures.ok)
    ∙ c.in-Some.ensures.frame env is)

pub returns-clause-locals : goal.returns-clause-locals
returns-clause-locals c = c.set_to_map.ensures.same ∙ c.requires
