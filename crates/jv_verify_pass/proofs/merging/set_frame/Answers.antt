use Rattle.std.proofs.Common.{◌≡◌, false, List, get_or, length, sym, ap, subst, ◌∙◌, arith}
use Rattle.std.proofs.lemmas.List.{length-map}
use Rattle.jv_verify_types.specs.Typed.{typed, typed_all}
use Rattle.jv_verify_types.specs.Numbered.{Item, NumberFrame}
use Rattle.jv_verify_types.specs.Mapped.{expanded_entries, has_uninitialized_this, types_of_entries}
use Rattle.jv_verify_maps.specs.Words.{MapWords}
use Rattle.jv_verify_known.specs.Known.{AreNoted, IsFrameAt, IsKnown}
use Rattle.jv_verify_known.proofs.Words.{many, this_is}
use Rattle.jv_verify_open.proofs.Flowing.{on_ok}
use Rattle.jv_verify_pass.specs.Pass.{Pass, names_in}
use Rattle.jv_verify_pass.proofs.FlowingStacks.{none_flowed}
use Rattle.jv_verify_pass.proofs.Rooms.{frame_at, place_within, room_at}
use Rattle.jv_verify_pass.proofs.Seeing.{noted_handled, on_ok_by, same_frame}
use Rattle.jv_verify_pass.proofs.merging.set_frame.Goals as goal

pub set_locals-requires-clause-room : goal.set_locals-requires-clause-room
set_locals-requires-clause-room c =
    let room = room_at c.args.pass.now c.args.seen.now.known.words c.requires.seen.1.words c.args.place c.args.map.now c.requires.at c.requires.room in
    let view = ap (λ (p : Pass). p.max_locals) c.pass.view_is in omega (arith, room, view)

pub has_this-requires : goal.has_this-requires
has_this-requires c =
    let within = place_within c.args.pass.now c.args.seen.now.known.words c.requires.seen.1.words c.args.place c.args.map.now c.requires.at in
    let same = ap (λ (ws : MapWords). length ws.frames) (c.words.ensures ∙ c.set_locals.ensures.words) in omega (arith, within, same)

pub returns-clause-ok : goal.returns-clause-ok
returns-clause-ok c =
    let pass = c.args.pass.now in
    let map = c.args.map.now in
    let words = c.args.seen.now.known.words in
    let at = frame_at pass words c.requires.seen.1.words c.args.place map c.requires.at in
    let g = c.set_stack.new.frame in
    let locals : g.locals ≡ c.set_locals.new.frame.locals =
    ap (λ (f : NumberFrame). f.locals) c.set_stack.ensures.same ∙ ap (λ (f : NumberFrame). f.locals) c.set_flag.ensures in
    let flag = ap (λ (f : NumberFrame). f.flag_this_uninit) c.set_stack.ensures.same ∙ ap (λ (f : NumberFrame). f.flag_this_uninit) c.set_flag.ensures in
    on_ok_by c.set_stack.result (λ stack.
    same_frame (typed_all (names_in pass) g.locals) (expanded_entries pass.types pass.max_locals map.locals) (typed_all (names_in pass) g.stack)
    (types_of_entries pass.types map.stack) g.flag_this_uninit (has_uninitialized_this pass.types map)
    (ap (typed_all (names_in pass)) locals
    ∙ subst (λ (p : Pass). typed_all (names_in p) c.set_locals.new.frame.locals ≡ expanded_entries p.types p.max_locals map.locals) c.pass.view_is
    (c.set_locals.ensures.locals map (subst (λ (p : Pass). IsFrameAt p.types words c.args.place map) (sym c.pass.view_is) at)))
    (subst (λ (p : Pass). typed_all (names_in p) g.stack ≡ types_of_entries p.types map.stack) c.pass.view_is stack)
    (flag
    ∙ (c.has_this.ensures
    ∙ (ap (λ (ws : MapWords). get_or ws.with_this c.args.place false) (c.words.ensures ∙ c.set_locals.ensures.words)
    ∙ this_is pass.types words c.args.place map at)))) c.set_stack.ensures.stack

pub returns-clause-seen : goal.returns-clause-seen
returns-clause-seen c =
    let pass = c.args.pass.now in
    let map = c.args.map.now in
    let words = c.args.seen.now.known.words in
    let at = frame_at pass words c.requires.seen.1.words c.args.place map c.requires.at in
    let g = c.set_stack.new.frame in
    let set = c.set_locals.new.frame in
    let room = room_at pass words c.requires.seen.1.words c.args.place map c.requires.at c.requires.room in
    let locals : g.locals ≡ set.locals =
    ap (λ (f : NumberFrame). f.locals) c.set_stack.ensures.same ∙ ap (λ (f : NumberFrame). f.locals) c.set_flag.ensures in
    let typed_is : typed_all (names_in pass) set.locals ≡ expanded_entries pass.types pass.max_locals map.locals =
    subst (λ (p : Pass). typed_all (names_in p) set.locals ≡ expanded_entries p.types p.max_locals map.locals) c.pass.view_is
    (c.set_locals.ensures.locals map (subst (λ (p : Pass). IsFrameAt p.types words c.args.place map) (sym c.pass.view_is) at)) in
    let counted : length g.locals ≡ pass.max_locals =
    ap length locals
    ∙ (sym (length-map set.locals (typed (names_in pass))) ∙ (ap length typed_is ∙ many pass.types words c.args.place map at pass.max_locals room)) in
    on_ok c.set_stack.result (λ offset is. record {
      locals = counted;
      few = let few = is.few in let was = is.locals in omega (arith, few, was, counted);
      words = c.set_locals.ensures.words ∙ is.words;
      known =
          subst (λ (ls : List Item). IsKnown pass.types c.set_locals.new.self ls) (sym locals)
          (subst (λ (p : Pass). IsKnown p.types c.set_locals.new.self set.locals) c.pass.view_is c.set_locals.ensures.known);
      handled =
          noted_handled pass c.args.seen.now.known c.set_locals.new.self c.args.seen.now.openings offset c.args.frame.now.locals g.locals c.set_locals.ensures.words
          (subst (λ (ls : List Item). AreNoted pass.types c.args.seen.now.known.writes c.set_locals.new.self.writes c.args.frame.now.locals ls) (sym locals)
          (subst (λ (p : Pass). AreNoted p.types c.args.seen.now.known.writes c.set_locals.new.self.writes c.args.frame.now.locals set.locals) c.pass.view_is
          c.set_locals.ensures.noted)) c.set_locals.ensures.more is.handled;
      stacks = none_flowed pass _ g c.clear.ensures;
    })
