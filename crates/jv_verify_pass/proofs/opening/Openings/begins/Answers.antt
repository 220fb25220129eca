use Rattle.std.proofs.Common.{◌≡◌, inl, inr, true, None, length, max, set, refl, sym, ap, subst, ◌∙◌, arith, if◌then◌else◌}
use Rattle.jv_meaning_world.specs.Flow.{flows}
use Rattle.jv_verify_types.specs.Numbered.{frame_of}
use Rattle.jv_verify_types.specs.Mapped.{locals_flow_to, world_of_types}
use Rattle.jv_verify_maps.specs.Words.{MapWords}
use Rattle.jv_verify_known.specs.Known.{local_at, word_at, IsFrameAt}
use Rattle.jv_verify_open.specs.Open.{end_of, AreWanting}
use Rattle.jv_verify_pass.specs.Pass.{Pass, names_in}
use Rattle.jv_verify_pass.specs.Inside.Kept.{IsPass}
use Rattle.jv_verify_pass.specs.Inside.Opening.{Openings, has_this_at}
use Rattle.jv_verify_pass.proofs.Handling.{locals_not}
use Rattle.jv_verify_pass.proofs.Rooms.{frame_at, have_room, locals_each, place_within}
use Rattle.jv_verify_pass.proofs.opening.Openings.begins.Goals as goal

pub returns-then-end-offset-clause-begun : goal.returns-then-end-offset-clause-begun
returns-then-end-offset-clause-begun c = λ t. inl (refl, λ lt. absurd (let ended = c.if-end-offset.true in let end = c.from-end.ensures in omega (arith, lt, ended, end)))

pub returns-in_default-clause-not : goal.returns-in_default-clause-not
returns-in_default-clause-not c = λ e. (
  let open_yet = c.if-end-offset.false in let end = c.from-end.ensures in omega (arith, open_yet, end),
  λ env insn object is left. c.in_default.ensures.none env insn (frame_of (names_in c.args.pass.now) c.args.frame.now) is,
)

pub end-requires : goal.end-requires
end-requires c =
    let pass = c.args.pass.now in
    let leads = c.in-Some.ensures.some in
    let within = place_within pass c.args.known.now.words c.requires.words c.in-Some.place leads.map leads.there in
    let many = c.requires.many in
    let view = ap (λ (o : Openings). length o.frames.ends) c.self.view_is in omega (arith, within, many, view)

pub returns-then-end-clause-begun : goal.returns-then-end-clause-begun
returns-then-end-clause-begun c = λ t. inl (
  refl,
  λ lt. (
    c.in-Some.place,
    c.in-Some.ensures.some,
    let less = c.if-end.true in
        let end = c.end.ensures in
        let from = c.from-end.ensures in
        let view = ap (λ (o : Openings). end_of o.frames c.in-Some.place) c.self.view_is in omega (arith, less, end, from, view),
  ),
)

pub locals_flow-requires-clause-place : goal.locals_flow-requires-clause-place
locals_flow-requires-clause-place c =
    let leads = c.in-Some.ensures.some in place_within c.args.pass.now c.args.known.now.words c.requires.words c.in-Some.place leads.map leads.there

pub returns-then-not-locals_flow-clause-not : goal.returns-then-not-locals_flow-clause-not
returns-then-not-locals_flow-clause-not c = λ e. (
  let open_yet = c.if-end-offset.false in let end = c.from-end.ensures in omega (arith, open_yet, end),
  λ env insn object is left.
      let pass = c.args.pass.now in
      let entries = c.pass.inside.initial.now in
      let count = c.pass.inside.words in
      let kept : IsPass pass entries count = subst (λ (p : Pass). IsPass p entries count) c.pass.view_is c.pass.invariant in
      let words = c.args.known.now.words in
      let f = c.args.frame.now in
      let leads = c.in-Some.ensures.some in
      let at = frame_at pass words c.requires.words c.in-Some.place leads.map leads.there in
      let room = have_room pass words c.requires.words entries count kept c.in-Some.place in
      let many = c.requires.locals in
      locals_not pass entries count kept env is words c.requires.words f c.requires.locals insn object left c.args.handler c.in-Some.place leads (omega (arith, room, many))
      (c.if-not-locals_flow.ensures.flows leads.map (subst (λ (p : Pass). IsFrameAt p.types words c.in-Some.place leads.map) (sym c.pass.view_is) at)
      ∙ ap (λ (p : Pass). locals_flow_to p.types f None leads.map) c.pass.view_is),
)

pub open-requires-clause-place : goal.open-requires-clause-place
open-requires-clause-place c =
    let leads = c.in-Some.ensures.some in
    let within = place_within c.args.pass.now c.args.known.now.words c.requires.words c.in-Some.place leads.map leads.there in
    let many = c.requires.many in omega (arith, within, many)

pub open-requires-clause-words : goal.open-requires-clause-words
open-requires-clause-words c =
    let leads = c.in-Some.ensures.some in
    let within = place_within c.args.pass.now c.args.known.now.words c.requires.words c.in-Some.place leads.map leads.there in
    let same = ap (λ (ws : MapWords). length ws.frames) c.locals_flow.ensures.words in omega (arith, within, same)

pub open-requires-clause-end : goal.open-requires-clause-end
open-requires-clause-end c =
    let more = c.if-end.false in
    let end = c.end.ensures in
    let view = ap (λ (o : Openings). end_of o.frames c.in-Some.place) c.self.view_is in omega (arith, more, end, view)

pub returns-clause-begun : goal.returns-clause-begun
returns-clause-begun c = λ t.
    let pass = c.args.pass.now in
    let words = c.args.known.now.words in
    let new_words = c.locals_flow.new.self.words in
    let f = c.args.frame.now in
    let place = c.in-Some.place in
    let leads = c.in-Some.ensures.some in
    let at = frame_at pass words c.requires.words place leads.map leads.there in
    let within = place_within pass words c.requires.words place leads.map leads.there in
    let many = c.requires.many in
    let more = c.if-end.false in
    let end = c.end.ensures in
    let from = c.from-end.ensures in
    let view = ap (λ (o : Openings). end_of o.frames place) c.self.view_is in
    inr (record {
      place = place;
      leads = leads;
      longer = omega (arith, more, end, from, view);
      within = omega (arith, within, many);
      here = λ k. subst (λ (ws : MapWords). flows (world_of_types pass.types) (local_at pass.types f.locals k) (word_at pass.types ws place k) ≡ true)
          (sym c.locals_flow.ensures.words)
          (locals_each pass words c.requires.words place leads.map leads.there f
          (c.if-not-locals_flow.ensures.flows leads.map (subst (λ (p : Pass). IsFrameAt p.types words place leads.map) (sym c.pass.view_is) at)
          ∙ ap (λ (p : Pass). locals_flow_to p.types f None leads.map) c.pass.view_is) k);
      ends = c.open.ensures.ends ∙ ap (λ e. set c.args.self.now.frames.ends place e) c.from-end.ensures;
      opens = c.open.ensures.opens;
      wanting =
          c.open.ensures.wanting pass.types new_words c.args.offset
          (subst (λ (ws : MapWords). AreWanting pass.types ws c.args.self.now.frames c.args.offset) (sym c.locals_flow.ensures.words) c.requires.wanting);
      sorted = c.open.ensures.sorted;
      next = c.open.ensures.next;
      last = c.open.ensures.last ∙ ap (max c.args.self.now.last_end) c.from-end.ensures;
      without =
          c.open.ensures.without_this
          ∙ ap (λ e. if has_this_at new_words place then c.args.self.now.end_without_this else max c.args.self.now.end_without_this e) c.from-end.ensures;
    })
