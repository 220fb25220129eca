use Rattle.std.proofs.Common.{Bool, true, false, refl, sym, ap, subst, ◌∙◌}
use Rattle.jv_meaning_typing.specs.Typing.{frame_at}
use Rattle.jv_verify_types.specs.Numbered.{frame_of}
use Rattle.jv_verify_pass.specs.Pass.{Pass, names_in, maps_of}
use Rattle.jv_verify_pass.specs.Inside.Kept.{IsPass}
use Rattle.jv_verify_pass.specs.Inside.Walk.{merged, when_falls}
use Rattle.jv_verify_pass.proofs.FlowsInto.{flow_is, merged_not, merged_flows, merged_map, set_is}
use Rattle.jv_verify_pass.proofs.step.merge.Goals.{else-falls-via-then-falls+else-not-flows_to_map, else-falls-via-else-falls}
use Rattle.jv_verify_pass.proofs.step.merge.Goals as goal

pub returns-then-not-flows_to_map-clause-merged : goal.returns-then-not-flows_to_map-clause-merged
returns-then-not-flows_to_map-clause-merged c = λ env is.
    let pass = c.args.pass.now in
    let entries = c.pass.inside.initial.now in
    let count = c.pass.inside.words in
    let kept : IsPass pass entries count = subst (λ (p : Pass). IsPass p entries count) c.pass.view_is c.pass.invariant in
    let o = frame_at (maps_of pass) c.args.offset in
    ap (λ (b : Bool). merged env.world (when_falls b (frame_of (names_in pass) c.args.frame.now)) o) c.if-falls.true
    ∙ merged_not pass entries count kept env is c.args.frame.now c.in-Some.map o (c.in-Some.ensures.frame env is)
    (flow_is pass entries count kept env is pass.types c.args.frame.now c.in-Some.map false refl c.requires.seen.locals c.if-not-flows_to_map.ensures.flows)

pub returns-clause-merged : goal.returns-clause-merged
returns-clause-merged c = λ env is.
    let pass = c.args.pass.now in
    let entries = c.pass.inside.initial.now in
    let count = c.pass.inside.words in
    let kept : IsPass pass entries count = subst (λ (p : Pass). IsPass p entries count) c.pass.view_is c.pass.invariant in
    let o = frame_at (maps_of pass) c.args.offset in
    let f = c.args.frame.now in
    let map = c.in-Some.map in
    let at = c.in-Some.ensures.frame env is in
    elim c.else-falls.branch [
      | else-falls-via-then-falls+else-not-flows_to_map w ↦
          ap (λ (b : Bool). merged env.world (when_falls b (frame_of (names_in pass) f)) o) w.if-falls.true
          ∙ (merged_flows pass entries count kept env is f map o at
          (flow_is pass entries count kept env is pass.types f map true refl c.requires.seen.locals (sym w.if-not-flows_to_map.false ∙ w.flows_to_map.ensures.flows))
          ∙ set_is pass entries count kept env is pass.types pass.max_locals c.set_frame.new.frame map refl refl c.in_ok-set_frame.ensures.ok)
      | else-falls-via-else-falls w ↦
          ap (λ (b : Bool). merged env.world (when_falls b (frame_of (names_in pass) f)) o) w.if-falls.false
          ∙ (merged_map pass entries count kept env is map o at
          ∙ set_is pass entries count kept env is pass.types pass.max_locals c.set_frame.new.frame map refl refl c.in_ok-set_frame.ensures.ok)
    ]

pub set_frame-requires-clause-seen : goal.set_frame-requires-clause-seen
set_frame-requires-clause-seen c = elim c.else-falls.branch [
  | else-falls-via-then-falls+else-not-flows_to_map w ↦ (c.args.offset, rw w.seen-is (w.flows_to_map.ensures.seen c.args.offset c.requires.seen))
  | else-falls-via-else-falls w ↦ (c.args.offset, rw w.seen-is c.requires.seen)
]

pub returns-clause-seen : goal.returns-clause-seen
returns-clause-seen c =
    c.in_ok-set_frame.ensures.seen c.args.offset (elim c.else-falls.branch [
      | else-falls-via-then-falls+else-not-flows_to_map w ↦ rw w.seen-is (w.flows_to_map.ensures.seen c.args.offset c.requires.seen)
      | else-falls-via-else-falls w ↦ rw w.seen-is c.requires.seen
    ])

pub returns-then-not-flows_to_map-clause-seen : goal.returns-then-not-flows_to_map-clause-seen
returns-then-not-flows_to_map-clause-seen c = c.if-not-flows_to_map.ensures.seen c.args.offset c.requires.seen
