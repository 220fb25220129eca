use Rattle.std.proofs.Common.{◌/◌, length, get_or, refl, sym, ap, subst, ◌∙◌, arith}
use Rattle.std.proofs.lemmas.Grind.{get_or_default_zero}
use Rattle.std.proofs.lemmas.List.{get_or-set_other}
use Rattle.jv_verify_open.specs.Open.{OpenFrames}
use Rattle.jv_verify_open.specs.Inside.Finding.{AreFoundBelow}
use Rattle.jv_verify_open.proofs.Flowing.{same_again}
use Rattle.jv_verify_open.proofs.Finding.{all_found, first_of, found_more, found_none, most_of, none_below, same_found}
use Rattle.jv_verify_open.proofs.frames.OpenFrames.find.Goals as goal

pub returns-then-since-self-clause-wanting : goal.returns-then-since-self-clause-wanting
returns-then-since-self-clause-wanting c =
    same_found c.args.at.types.now c.args.at.words.now c.args.at.offset c.args.self.now _ c.requires.wanting
    (ap (λ (o : OpenFrames). o.ends) c.self.view_is) (ap (λ (o : OpenFrames). o.opened) c.self.view_is) (ap (λ (o : OpenFrames). o.wants) c.self.view_is)
    (λ k. c.in_ok-make_room.ensures.same k ∙ ap (λ (o : OpenFrames). get_or o.found k 0) c.self.view_is)

pub loop-opened-init : goal.loop-opened-init
loop-opened-init c = (
  omega arith,
  subst (λ ws. AreFoundBelow c.args.at.types.now c.args.at.words.now c.args.at.offset 0 c.args.block c.index-since.result.now c.args.self.now ws)
      (sym (ap (λ (o : OpenFrames). o.wants) c.self.view_is))
      (none_below c.args.at.types.now c.args.at.words.now c.args.at.offset c.args.block c.index-since.result.now c.args.self.now),
  record {
    ends = ap (λ (o : OpenFrames). o.ends) c.self.view_is;
    opened = ap (λ (o : OpenFrames). o.opened) c.self.view_is;
    opens = ap (λ (o : OpenFrames). o.opens) c.self.view_is;
    handled = ap (λ (o : OpenFrames). o.handled) c.self.view_is;
  },
  refl,
)

pub loop-opened-preserved-then-count-block : goal.loop-opened-preserved-then-count-block
loop-opened-preserved-then-count-block c =
    let so_far = c.loop-opened.invariant in
    let more = c.in_ok-place.ensures.found in
    let since = c.index-since.result.now in (
      more.within,
      found_more c.args.at.types.now c.args.at.words.now c.args.at.offset c.loop-opened.place c.in-Some.opened (length c.args.at.words.now.frames) c.args.block since
          c.args.self.now c.loop-opened.self.wants so_far.1
          (first_of since c.loop-opened.place c.in-Some.opened c.len.result (length c.args.at.words.now.frames) c.self-in-loop-opened.inside.opened c.args.self.now.opened
          (ap (λ (o : OpenFrames). o.opened) c.self-in-loop-opened.view_is ∙ so_far.2.opened) c.len.ensures c.in-Some.ensures.some)
          c.in_ok-place.place c.loop-opened.self c.want_block.new.self.wants so_far.2.ends refl more,
      same_again c.args.self.now c.loop-opened.self c.want_block.new.self so_far.2 c.want_block.ensures.same,
      c.want_block.ensures.blocks ∙ so_far.3,
    )

pub loop-opened-preserved : goal.loop-opened-preserved
loop-opened-preserved c =
    let so_far = c.loop-opened.invariant in
    let since = c.index-since.result.now in
    let more = c.next_place-place.ensures.more in (
      c.next_place-place.ensures.within,
      found_none c.args.at.types.now c.args.at.words.now c.args.at.offset c.loop-opened.place c.in-Some.opened (length c.args.at.words.now.frames) c.args.block since
          c.args.self.now c.loop-opened.self.wants so_far.1
          (first_of since c.loop-opened.place c.in-Some.opened c.len.result (length c.args.at.words.now.frames) c.self-in-loop-opened.inside.opened c.args.self.now.opened
          (ap (λ (o : OpenFrames). o.opened) c.self-in-loop-opened.view_is ∙ so_far.2.opened) c.len.ensures c.in-Some.ensures.some)
          c.next_place-place.result (omega (arith, more)) c.next_place-place.ensures.few,
      so_far.2,
      so_far.3,
    )

pub returns-clause-wanting : goal.returns-clause-wanting
returns-clause-wanting c =
    let so_far = c.loop-opened.invariant in
    let since = c.index-since.result.now in
    let old = c.args.self.now in
    let many = c.requires.many in
    let inside = c.self.invariant.many in
    let opened = ap (λ (o : OpenFrames). length o.opened) c.self.view_is in
    let ends = ap (λ (o : OpenFrames). length o.ends) c.self.view_is in
    all_found c.args.at.types.now c.args.at.words.now c.args.at.offset c.loop-opened.place c.args.block since old _ c.requires.wanting
    (subst (λ ws. AreFoundBelow c.args.at.types.now c.args.at.words.now c.args.at.offset c.loop-opened.place c.args.block since old ws)
    (sym (ap (λ (o : OpenFrames). o.wants) c.self-2.view_is)) so_far.1)
    (most_of since c.loop-opened.place c.len.result (length c.args.at.words.now.frames) c.self-in-loop-opened.inside.opened old.opened
    (ap (λ (o : OpenFrames). o.opened) c.self-in-loop-opened.view_is ∙ so_far.2.opened) c.len.ensures c.in_default.ensures.none)
    (omega (arith, many, inside, opened, ends))
    (record {
      ends = ap (λ (o : OpenFrames). o.ends) c.self-2.view_is ∙ so_far.2.ends;
      opened = ap (λ (o : OpenFrames). o.opened) c.self-2.view_is ∙ so_far.2.opened;
      opens = ap (λ (o : OpenFrames). o.opens) c.self-2.view_is ∙ so_far.2.opens;
      handled = ap (λ (o : OpenFrames). o.handled) c.self-2.view_is ∙ so_far.2.handled;
    })
    (sym (ap (λ (o : OpenFrames). get_or o.found c.args.block 0) c.self.view_is) ∙ (sym (c.in_ok-make_room.ensures.same c.args.block)
    ∙ (sym (get_or_default_zero c.make_room.new.found.items c.args.block _ c.in_ok-make_room.ensures.there) ∙ sym c.index-since.ensures)))
    (λ k other.
    get_or-set_other c.self-2.inside.found.items c.args.block (k / 16) c.self-2.inside.opens 0 other
    ∙ (ap (λ (o : OpenFrames). get_or o.found (k / 16) 0) c.self-2.view_is
    ∙ (ap (λ fs. get_or fs (k / 16) 0) so_far.3
    ∙ (c.in_ok-make_room.ensures.same (k / 16) ∙ ap (λ (o : OpenFrames). get_or o.found (k / 16) 0) c.self.view_is))))
