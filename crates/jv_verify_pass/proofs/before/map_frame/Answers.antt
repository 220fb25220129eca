use Rattle.std.proofs.Common.{◌≡◌, length, sym, ap, subst, ◌∙◌, arith}
use Rattle.std.proofs.lemmas.List.{length-replicate}
use Rattle.jv_stackmap.specs.declared.verification.VerificationTypeOf.TheVariants as variants
use Rattle.jv_verify_types.specs.Mapped.{local_entry_words}
use Rattle.jv_verify_types.specs.Numbered.{Item, NumberFrame}
use Rattle.jv_verify_pass.specs.Pass.{Pass}
use Rattle.jv_verify_pass.specs.Inside.Kept.{IsPass}
use Rattle.jv_verify_pass.proofs.FlowsInto.{set_is}
use Rattle.jv_verify_pass.proofs.before.map_frame.Goals as goal

pub set_to_map-requires-clause-words : goal.set_to_map-requires-clause-words
set_to_map-requires-clause-words c =
    subst (λ (p : Pass). c.in-Some.map.local_words ≡ local_entry_words p.types c.in-Some.map) (sym c.pass.view_is) c.in-Some.ensures.room.words

pub set_to_map-requires-clause-room : goal.set_to_map-requires-clause-room
set_to_map-requires-clause-room c =
    let room = c.in-Some.ensures.room.room in
    let view = ap (λ (p : Pass). p.max_locals) c.pass.view_is in
    let many : length c.in_ok-frame.frame.locals ≡ c.pass.inside.max_locals =
    ap (λ (f : NumberFrame). length f.locals) c.in_ok-frame.ensures ∙ length-replicate {A = Item} c.pass.inside.max_locals variants.Top in
    omega (arith, room, view, many)

pub returns-clause-frame : goal.returns-clause-frame
returns-clause-frame c = λ env is.
    let pass = c.args.pass.now in
    let entries = c.pass.inside.initial.now in
    let count = c.pass.inside.words in
    let kept : IsPass pass entries count = subst (λ (p : Pass). IsPass p entries count) c.pass.view_is c.pass.invariant in
    let many : length c.in_ok-frame.frame.locals ≡ pass.max_locals =
    ap (λ (f : NumberFrame). length f.locals) c.in_ok-frame.ensures
    ∙ (length-replicate {A = Item} c.pass.inside.max_locals variants.Top ∙ ap (λ (p : Pass). p.max_locals) c.pass.view_is) in
    sym (set_is pass entries count kept env is c.pass.inside.types.now (length c.in_ok-frame.frame.locals) c.set_to_map.new.frame c.in-Some.map
    (ap (λ (p : Pass). p.types) c.pass.view_is) many c.in_ok-set_to_map.ensures.ok)
    ∙ c.in-Some.ensures.frame env is

pub returns-clause-locals : goal.returns-clause-locals
returns-clause-locals c =
    c.set_to_map.ensures.same
    ∙ (ap (λ (f : NumberFrame). length f.locals) c.in_ok-frame.ensures
    ∙ (length-replicate {A = Item} c.pass.inside.max_locals variants.Top ∙ ap (λ (p : Pass). p.max_locals) c.pass.view_is))
