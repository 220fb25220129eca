use Rattle.std.proofs.Common.{◌≡◌, ◌<◌, inl, inr, true, false, get_or, length, sym, ap, subst, ◌∙◌, arith}
use Rattle.std.proofs.lemmas.Bool.{cases_lt}
use Rattle.std.specs.Prelude.{◌↔◌, IsTrue}
use Rattle.jv_meaning_world.specs.Flow.{flows}
use Rattle.jv_verify_types.specs.Mapped.{world_of_types}
use Rattle.jv_verify_maps.specs.Words.{MapWords}
use Rattle.jv_verify_known.specs.Known.{local_at, word_at, KnownLocals}
use Rattle.jv_verify_open.specs.Open.{AllFlow, AreWanting, HaveFlowed, HaveRoom, OpenFrames}
use Rattle.jv_verify_open.proofs.Finding.{same_found}
use Rattle.jv_verify_open.proofs.Flowing.{if_ok, still_flows}
use Rattle.jv_verify_pass.specs.Pass.{Pass}
use Rattle.jv_verify_pass.specs.Inside.Kept.{IsPass}
use Rattle.jv_verify_pass.specs.Inside.Opening.{Openings, AllBegun, AreOpenings, IsByWords, RestFlows}
use Rattle.jv_verify_pass.proofs.Beginning.{if_ok_both, moved}
use Rattle.jv_verify_pass.proofs.Handling.{flow_not, none_hold, one_not, rest_is}
use Rattle.jv_verify_pass.proofs.Rooms.{have_room}
use Rattle.jv_verify_pass.proofs.opening.Openings.hold.Goals.{then-not-flow-via-then-not-flow, then-not-flow-via-else-not-flow+then-not-begin_all}
use Rattle.jv_verify_pass.proofs.opening.Openings.hold.Goals as goal

pub returns-then-is_none-clause-hold : goal.returns-then-is_none-clause-hold
returns-then-is_none-clause-hold c = λ env insn is left.
    let pass = c.args.pass.now in
    let entries = c.pass.inside.initial.now in
    let count = c.pass.inside.words in
    let kept : IsPass pass entries count = subst (λ (p : Pass). IsPass p entries count) c.pass.view_is c.pass.invariant in
    let words = c.args.known.now.words in
    let room = subst (λ n. HaveRoom words n) (sym c.requires.locals) (have_room pass words c.requires.words entries count kept) in
    none_hold pass entries count kept env is words c.requires.words c.args.frame.now c.requires.locals insn c.args.object left c.args.self.now c.args.offset
    c.requires.handled.openings room (c.is_none.ensures.0 c.if-is_none.true)

pub locals_flow-requires-clause-flowed : goal.locals_flow-requires-clause-flowed
locals_flow-requires-clause-flowed c =
    subst (λ (p : Pass). HaveFlowed p.types c.args.known.now c.args.self.now.frames c.args.offset c.args.frame.now.locals) (sym c.pass.view_is) c.requires.handled.flowed

pub locals_flow-requires-clause-room : goal.locals_flow-requires-clause-room
locals_flow-requires-clause-room c =
    let pass = c.args.pass.now in
    let entries = c.pass.inside.initial.now in
    let count = c.pass.inside.words in
    let kept : IsPass pass entries count = subst (λ (p : Pass). IsPass p entries count) c.pass.view_is c.pass.invariant in
    let words = c.args.known.now.words in
    subst (λ (ws : MapWords). HaveRoom ws (length c.args.frame.now.locals)) (sym c.words.ensures)
    (subst (λ n. HaveRoom words n) (sym c.requires.locals) (have_room pass words c.requires.words entries count kept))

pub locals_flow-requires-clause-few : goal.locals_flow-requires-clause-few
locals_flow-requires-clause-few c = c.requires.few

pub begin_all-requires-clause-flow : goal.begin_all-requires-clause-flow
begin_all-requires-clause-flow c =
    let pass = c.args.pass.now in
    let words = c.args.known.now.words in
    let locals = c.args.frame.now.locals in
    let frames = c.args.self.now.frames in
    let all : AllFlow pass.types words frames c.args.offset locals =
    subst (λ (p : Pass). AllFlow p.types words frames c.args.offset locals) c.pass.view_is
    (subst (λ (ws : MapWords). AllFlow c.pass.inside.types.now ws frames c.args.offset locals) c.words.ensures (c.in_ok-flow.ensures.flow.0 c.if-not-flow.false)) in
    λ k. still_flows pass.types words c.args.offset frames c.locals_flow.new.self.frames k (local_at pass.types locals k) c.in_ok-flow.ensures.same.frames (all k)

pub returns-then-not-flow-clause-hold : goal.returns-then-not-flow-clause-hold
returns-then-not-flow-clause-hold c = λ env insn is left.
    let pass = c.args.pass.now in
    let entries = c.pass.inside.initial.now in
    let count = c.pass.inside.words in
    let kept : IsPass pass entries count = subst (λ (p : Pass). IsPass p entries count) c.pass.view_is c.pass.invariant in
    let words = c.args.known.now.words in
    let f = c.args.frame.now in
    let frames = c.args.self.now.frames in
    let room = subst (λ n. HaveRoom words n) (sym c.requires.locals) (have_room pass words c.requires.words entries count kept) in
    elim c.then-not-flow.branch [
      | then-not-flow-via-then-not-flow w ↦
          flow_not pass entries count kept env is words c.requires.words f c.requires.locals insn c.args.object left c.args.self.now c.args.offset
          c.requires.handled.openings room (λ all. clash (sym w.if-not-flow.true ∙ c.in_ok-flow.ensures.flow.1
          (subst (λ (p : Pass). AllFlow p.types c.words.result.now frames c.args.offset f.locals) (sym c.pass.view_is)
          (subst (λ (ws : MapWords). AllFlow pass.types ws frames c.args.offset f.locals) (sym c.words.ensures) all))))
      | then-not-flow-via-else-not-flow+then-not-begin_all w ↦
          let one = w.begin_all.ensures.not w.if-not-begin_all.true in
          let same = c.in_ok-flow.ensures.same in
          let wanting : AreWanting pass.types words c.locals_flow.new.self.frames c.args.offset =
          subst (λ (p : Pass). AreWanting p.types words c.locals_flow.new.self.frames c.args.offset) c.pass.view_is
          (subst (λ (ws : MapWords). AreWanting c.pass.inside.types.now ws c.locals_flow.new.self.frames c.args.offset) c.words.ensures c.in_ok-flow.ensures.wanting) in
          one_not pass entries count kept env is words c.requires.words f c.requires.locals insn c.args.object left c.locals_flow.new.self c.args.offset
          (moved pass words c.args.offset c.args.self.now c.locals_flow.new.self c.requires.handled.openings same.sorted same.next same.frames.ends same.frames.opens
          same.last_end same.end_without_this wanting) room one.0 one.1 one.2 one.3
    ]
  where
    clash : false ≡ true → ⊥
    clash e = cc

pub rest_flows-requires-clause-many : goal.rest_flows-requires-clause-many
rest_flows-requires-clause-many c =
    let openings = c.begin_all.ensures.openings c.if-not-begin_all.false in
    let some : 0 < length c.begin_all.new.self.sorted =
    let none = c.is_none.ensures.1 in
    let one = ap length c.begin_all.ensures.sorted in
    let other = ap length c.in_ok-flow.ensures.same.sorted in
    elim (cases_lt 0 (length c.begin_all.new.self.sorted)) [
      | inl lt ↦ lt
      | inr past ↦ absurd (clash (sym c.if-is_none.false ∙ none (omega (arith, past, one, other))))
    ] in
    ap (λ (o : OpenFrames). length o.ends) c.settle.ensures
    ∙ (ap (λ (o : Openings). length o.frames.ends) c.self.view_is
    ∙ (openings.many some
    ∙ sym (ap (λ (ws : MapWords). length ws.frames) (c.words-2.ensures ∙ ap (λ (k : KnownLocals). k.words) c.ask.ensures.same))))
  where
    clash : false ≡ true → ⊥
    clash e = cc

pub rest_flows-requires-clause-wanting : goal.rest_flows-requires-clause-wanting
rest_flows-requires-clause-wanting c =
    let pass = c.args.pass.now in
    let openings = c.begin_all.ensures.openings c.if-not-begin_all.false in
    let words = c.begin_all.new.known.words in
    subst (λ (p : Pass). AreWanting p.types c.words-2.result.now c.settle.new.self c.args.offset) (sym c.pass.view_is)
    (subst (λ (ws : MapWords). AreWanting pass.types ws c.settle.new.self c.args.offset) (sym (c.words-2.ensures ∙ ap (λ (k : KnownLocals). k.words) c.ask.ensures.same))
    (same_found pass.types words c.args.offset c.begin_all.new.self.frames c.settle.new.self openings.wanting
    (ap (λ (o : OpenFrames). o.ends) c.settle.ensures ∙ ap (λ (o : Openings). o.frames.ends) c.self.view_is)
    (ap (λ (o : OpenFrames). o.opened) c.settle.ensures ∙ ap (λ (o : Openings). o.frames.opened) c.self.view_is)
    (ap (λ (o : OpenFrames). o.wants) c.settle.ensures ∙ ap (λ (o : Openings). o.frames.wants) c.self.view_is)
    (λ k. ap (λ (o : OpenFrames). get_or o.found k 0) c.settle.ensures ∙ ap (λ (o : Openings). get_or o.frames.found k 0) c.self.view_is)))

pub rest_flows-requires-clause-few : goal.rest_flows-requires-clause-few
rest_flows-requires-clause-few c = c.requires.few

pub returns-clause-hold : goal.returns-clause-hold
returns-clause-hold c =
    let pass = c.args.pass.now in
    let offset = c.args.offset in
    let f = c.args.frame.now in
    let words = c.begin_all.new.known.words in
    let yes = c.if-not-begin_all.false in
    let asked : Openings = record {
      sorted = c.self.inside.sorted.items;
      next = c.self.inside.next;
      frames = c.settle.new.self;
      last_end = c.self.inside.last_end;
      end_without_this = c.self.inside.end_without_this;
    } in
    let openings = c.begin_all.ensures.openings yes in
    let ends = ap (λ (o : OpenFrames). o.ends) c.settle.ensures ∙ ap (λ (o : Openings). o.frames.ends) c.self.view_is in
    let ok : AreOpenings pass words offset asked =
    moved pass words offset c.begin_all.new.self asked openings (ap (λ (o : Openings). o.sorted) c.self.view_is) (ap (λ (o : Openings). o.next) c.self.view_is) ends
    (ap (λ (o : OpenFrames). o.opens) c.settle.ensures ∙ ap (λ (o : Openings). o.frames.opens) c.self.view_is) (ap (λ (o : Openings). o.last_end) c.self.view_is)
    (ap (λ (o : Openings). o.end_without_this) c.self.view_is)
    (same_found pass.types words offset c.begin_all.new.self.frames c.settle.new.self openings.wanting ends
    (ap (λ (o : OpenFrames). o.opened) c.settle.ensures ∙ ap (λ (o : Openings). o.frames.opened) c.self.view_is)
    (ap (λ (o : OpenFrames). o.wants) c.settle.ensures ∙ ap (λ (o : Openings). o.frames.wants) c.self.view_is)
    (λ k. ap (λ (o : OpenFrames). get_or o.found k 0) c.settle.ensures ∙ ap (λ (o : Openings). get_or o.frames.found k 0) c.self.view_is)) in
    let flow : AllFlow pass.types words c.settle.new.self offset f.locals =
    λ k place lt. c.begin_all.ensures.flow yes k place (subst (λ es. offset < get_or es place 0) ends lt) in
    let words_are : c.words-2.result.now ≡ words = c.words-2.ensures ∙ ap (λ (k : KnownLocals). k.words) c.ask.ensures.same in
    let entries = c.pass.inside.initial.now in
    let count = c.pass.inside.words in
    let kept : IsPass pass entries count = subst (λ (p : Pass). IsPass p entries count) c.pass.view_is c.pass.invariant in
    let by : IsByWords pass words = c.begin_all.ensures.words ∙ c.requires.words in
    let room = subst (λ n. HaveRoom words n) (sym c.requires.locals) (have_room pass words by entries count kept) in
    if_ok c.rest_flows.result (λ hold h env insn is left.
    rest_is pass entries count kept env is words by f c.requires.locals insn c.args.object left asked offset ok room hold
    (subst (λ (o : Openings). AllBegun o offset) (sym c.self.view_is) (c.begin_all.ensures.all yes)) flow
    (subst (λ (p : Pass). IsTrue hold ↔ RestFlows p.types words asked offset f c.args.object) c.pass.view_is
    (subst (λ (ws : MapWords). IsTrue hold ↔ RestFlows c.pass.inside.types.now ws asked offset f c.args.object) words_are h))) c.rest_flows.ensures.flow

pub returns-clause-handled : goal.returns-clause-handled
returns-clause-handled c =
    let pass = c.args.pass.now in
    let offset = c.args.offset in
    let f = c.args.frame.now in
    let words = c.begin_all.new.known.words in
    let yes = c.if-not-begin_all.false in
    let asked : Openings = record {
      sorted = c.self.inside.sorted.items;
      next = c.self.inside.next;
      frames = c.settle.new.self;
      last_end = c.self.inside.last_end;
      end_without_this = c.self.inside.end_without_this;
    } in
    let openings = c.begin_all.ensures.openings yes in
    let ends = ap (λ (o : OpenFrames). o.ends) c.settle.ensures ∙ ap (λ (o : Openings). o.frames.ends) c.self.view_is in
    let ok : AreOpenings pass words offset asked =
    moved pass words offset c.begin_all.new.self asked openings (ap (λ (o : Openings). o.sorted) c.self.view_is) (ap (λ (o : Openings). o.next) c.self.view_is) ends
    (ap (λ (o : OpenFrames). o.opens) c.settle.ensures ∙ ap (λ (o : Openings). o.frames.opens) c.self.view_is) (ap (λ (o : Openings). o.last_end) c.self.view_is)
    (ap (λ (o : Openings). o.end_without_this) c.self.view_is)
    (same_found pass.types words offset c.begin_all.new.self.frames c.settle.new.self openings.wanting ends
    (ap (λ (o : OpenFrames). o.opened) c.settle.ensures ∙ ap (λ (o : Openings). o.frames.opened) c.self.view_is)
    (ap (λ (o : OpenFrames). o.wants) c.settle.ensures ∙ ap (λ (o : Openings). o.frames.wants) c.self.view_is)
    (λ k. ap (λ (o : OpenFrames). get_or o.found k 0) c.settle.ensures ∙ ap (λ (o : Openings). get_or o.frames.found k 0) c.self.view_is)) in
    let flow : AllFlow pass.types words c.settle.new.self offset f.locals =
    λ k place lt. c.begin_all.ensures.flow yes k place (subst (λ es. offset < get_or es place 0) ends lt) in
    let words_are : c.words-2.result.now ≡ words = c.words-2.ensures ∙ ap (λ (k : KnownLocals). k.words) c.ask.ensures.same in
    let new = c.rest_flows.new.self in
    let same = c.rest_flows.ensures.same in
    let known_are : c.ask.new.self.words ≡ words = ap (λ (k : KnownLocals). k.words) c.ask.ensures.same in
    if_ok_both c.rest_flows.result (λ wanting hold h holds. record {
      openings =
          subst (λ (ws : MapWords). AreOpenings pass ws offset new) (sym known_are)
          (moved pass words offset asked new ok same.sorted same.next same.frames.ends same.frames.opens same.last_end same.end_without_this
          (subst (λ (p : Pass). AreWanting p.types words new.frames offset) c.pass.view_is
          (subst (λ (ws : MapWords). AreWanting c.pass.inside.types.now ws new.frames offset) words_are wanting)));
      flowed = λ k low place lt.
          subst (λ (ws : MapWords). flows (world_of_types pass.types) (local_at pass.types f.locals k) (word_at pass.types ws place k) ≡ true) (sym known_are)
          (flow k place (subst (λ es. offset < get_or es place 0) same.frames.ends lt));
      settled =
          let handled = same.frames.handled in
          let asked_at = ap (λ (o : OpenFrames). o.handled) c.settle.ensures in
          let last = c.ask.ensures.last in omega (arith, handled, asked_at, last);
    }) c.rest_flows.ensures.wanting c.rest_flows.ensures.flow
