use Rattle.std.proofs.Common.{List, refl, sym, subst}
use Rattle.jv_pool.specs.Constants.{Entry}
use Rattle.jv_stackmap.specs.declared.width.Width.{Width}
use Rattle.jv_stackmap.specs.Entries.{HaveWidths, frames_placed}
use Rattle.jv_stackmap.specs.Frames.{Maps}
use Rattle.jv_verify_types.specs.Mapped.{initial_types}
use Rattle.jv_verify_pass.specs.Tables.{entry_types}
use Rattle.jv_verify_pass.proofs.FramesSpelled.{have_words, have_room}
use Rattle.jv_verify_pass.proofs.maps.spelled_frames.Goals as goal

pub returns-in-Ok-clause-spelled : goal.returns-in-Ok-clause-spelled
returns-in-Ok-clause-spelled c =
    let types = entry_types c.args.constants.now c.args.initial.now in
    let wide = subst (λ (ws : List Width). HaveWidths (initial_types types) ws) (sym c.deref.ensures.value) (c.in_ok-widths.ensures c.args.constants.now.types.names) in
    subst (λ (p : List Entry). Maps p c.args.limits (initial_types types) c.args.bytes.now (frames_placed p (initial_types types) c.args.limits.max_locals c.in-Ok.frames)) c.pool.ensures
    (c.in-Ok.ensures.ok (initial_types types) wide)

pub returns-in-Ok-clause-words : goal.returns-in-Ok-clause-words
returns-in-Ok-clause-words c =
    let types = entry_types c.args.constants.now c.args.initial.now in
    let wide = subst (λ (ws : List Width). HaveWidths (initial_types types) ws) (sym c.deref.ensures.value) (c.in_ok-widths.ensures c.args.constants.now.types.names) in
    have_words types c.args.limits c.args.bytes.now c.deref.result.now wide c.in-Ok.frames c.in-Ok.ensures.words

pub returns-in-Ok-clause-room : goal.returns-in-Ok-clause-room
returns-in-Ok-clause-room c =
    let types = entry_types c.args.constants.now c.args.initial.now in
    let wide = subst (λ (ws : List Width). HaveWidths (initial_types types) ws) (sym c.deref.ensures.value) (c.in_ok-widths.ensures c.args.constants.now.types.names) in
    have_room types c.args.limits c.args.bytes.now c.deref.result.now wide c.in-Ok.frames c.in-Ok.ensures.words
    (subst (λ (p : List Entry). Maps p c.args.limits (initial_types types) c.args.bytes.now (frames_placed p (initial_types types) c.args.limits.max_locals c.in-Ok.frames)) c.pool.ensures
    (c.in-Ok.ensures.ok (initial_types types) wide))

pub returns-in-Err-BadFrames-clause-spelled : goal.returns-in-Err-BadFrames-clause-spelled
returns-in-Err-BadFrames-clause-spelled c = λ frames maps.
    let types = entry_types c.args.constants.now c.args.initial.now in
    let wide = subst (λ (ws : List Width). HaveWidths (initial_types types) ws) (sym c.deref.ensures.value) (c.in_ok-widths.ensures c.args.constants.now.types.names) in
    (rw c.in-Err-BadFrames.field-0-is at c.in-Err-BadFrames.ensures.bad) refl (initial_types types) wide frames
    (subst (λ (p : List Entry). Maps p c.args.limits (initial_types types) c.args.bytes.now frames) (sym c.pool.ensures) maps)
