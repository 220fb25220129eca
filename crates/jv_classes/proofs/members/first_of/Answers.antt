use Rattle.std.proofs.Common.{◌≡◌, true, length, map}
use Rattle.jv_classes.specs.Inside.Seen.{MemberSeen, declares, kept_text}
use Rattle.jv_classes.specs.Inside.Linked.{is_in_slot}
use Rattle.jv_classes.proofs.Adding.{implied}
use Rattle.jv_classes.proofs.Linked.{way_begins, next_on_way, next_below}
use Rattle.jv_classes.proofs.members.first_of.Goals as goal

pub loop-end-init : goal.loop-end-init
loop-end-init c =
    let size = length c.args.ends.now in
    let own : (m : MemberSeen) → declares c.args.name.now c.args.descriptor.now m ≡ true → is_in_slot c.args.seed size c.slot_of-slot.result m ≡ true =
    implied c.args.seed size c.args.name.now c.args.descriptor.now c.member_key-key.result c.member_key-key.ensures c.slot_of-slot.result c.slot_of-slot.ensures.slot in
    way_begins c.args.seed size (declares c.args.name.now c.args.descriptor.now) (map kept_text c.args.texts.now) c.args.members.now c.args.ends.now c.slot_of-slot.result c.requires.linked own
    c.from-end.result c.slot_of-slot.ensures.within c.from-end.ensures

pub loop-end-preserved : goal.loop-end-preserved
loop-end-preserved c =
    let size = length c.args.ends.now in
    let own : (m : MemberSeen) → declares c.args.name.now c.args.descriptor.now m ≡ true → is_in_slot c.args.seed size c.slot_of-slot.result m ≡ true =
    implied c.args.seed size c.args.name.now c.args.descriptor.now c.member_key-key.result c.member_key-key.ensures c.slot_of-slot.result c.slot_of-slot.ensures.slot in
    next_on_way c.args.seed size (declares c.args.name.now c.args.descriptor.now) (map kept_text c.args.texts.now) c.args.members.now c.args.ends.now c.slot_of-slot.result c.requires.linked own _
    c.loop-end.end c.loop-end.found c.loop-end.invariant c.loop-end-test.true c.from-end-in-loop-end.result c.from-end-in-loop-end.ensures
    c.declares-passes.result c.declares-passes.ensures c.found_at-found.result c.found_at-found.ensures

pub loop-end-smaller : goal.loop-end-smaller
loop-end-smaller c =
    let size = length c.args.ends.now in
    let own : (m : MemberSeen) → declares c.args.name.now c.args.descriptor.now m ≡ true → is_in_slot c.args.seed size c.slot_of-slot.result m ≡ true =
    implied c.args.seed size c.args.name.now c.args.descriptor.now c.member_key-key.result c.member_key-key.ensures c.slot_of-slot.result c.slot_of-slot.ensures.slot in
    next_below c.args.seed size (declares c.args.name.now c.args.descriptor.now) (map kept_text c.args.texts.now) c.args.members.now c.args.ends.now c.slot_of-slot.result c.requires.linked own _
    c.loop-end.end c.loop-end.found c.loop-end.invariant c.loop-end-test.true c.from-end-in-loop-end.result c.from-end-in-loop-end.ensures
