use Rattle.std.proofs.Common.{◌≡◌, ℕ, Bool, List, Option, Some, None, true, false, sym, ap, subst, ◌∙◌, arith}
use Rattle.std.specs.Option.{option_map}
use Rattle.jv_format.specs.Format.{◌>>=◌}
use Rattle.jv_code.specs.Insns.{Instruction, instruction_of}
use Rattle.jv_code.specs.Places.{IsStart}
use Rattle.jv_stackmap.specs.Frames.{Frame}
use Rattle.jv_meaning_typing.specs.Typing.{frame_at}
use Rattle.jv_verify_types.specs.Numbered.{frame_of}
use Rattle.jv_verify_pass.specs.Before.{frame_before, seen_unmet}
use Rattle.jv_verify_pass.specs.Onward.{unmet_behind}
use Rattle.jv_verify_pass.specs.Pass.{Pass, maps_of, names_in}
use Rattle.jv_verify_pass.specs.Inside.Walk.{when_falls}
use Rattle.jv_verify_pass.proofs.GoingOn.{if_ok_so, insn_there, one_insn}
use Rattle.jv_verify_pass.proofs.before.unmet_from.Goals as goal

-- what stands before, where there is a frame, or where there is none
there_is : (b : Bool) (f : Frame) (o : Option Frame) → when_falls b f ≡ o → b ≡ true → Some f ≡ o
there_is b f o h e = ap (λ x. when_falls x f) (sym e) ∙ h

there_is_none : (b : Bool) (f : Frame) (o : Option Frame) → when_falls b f ≡ o → b ≡ false → None ≡ o
there_is_none b f o h e = ap (λ x. when_falls x f) (sym e) ∙ h

pub returns-then-not-branch : goal.returns-then-not-branch
returns-then-not-branch c = λ env insn is at.
    let pass = c.args.pass.now in
    ap (λ (o : Option Frame). o >>= unmet_behind env (maps_of pass) c.args.offset insn)
    (there_is_none _ _ _ (c.in_ok-set_before.ensures.before env is) c.if-not-branch.true)

pub insn_at-next-requires : goal.insn_at-next-requires
insn_at-next-requires c =
    subst (λ (b : List ℕ). IsStart b c.args.offset) (sym (c.code-code.ensures ∙ ap (λ (p : Pass). p.context.code) c.pass.view_is)) c.requires.start

pub unmet_behind-requires-clause-offset : goal.unmet_behind-requires-clause-offset
unmet_behind-requires-clause-offset c =
    let rises = c.insn_at-next.ensures.rises in
    let within = c.insn_at-next.ensures.within in
    let few = c.size-few.ensures.few in
    let bytes = c.size-few.ensures.bytes in
    omega (arith, rises, within, few, bytes)

pub returns : goal.returns
returns c = λ env insn is at.
    let pass = c.args.pass.now in
    let code = c.code-code.ensures ∙ ap (λ (p : Pass). p.context.code) c.pass.view_is in
    let found = instruction_of c.insn_at-next.result.0 in
    let same : found ≡ insn =
    one_insn env c.args.offset found insn (insn_there c.stands_in_list.ensures env is.is pass.context.code c.code-code.result.now.bytes.now c.args.offset found code is.context.code
    c.insn_at-next.ensures.insn) at in
    let f = frame_of (names_in pass) c.set_before.new.frame in
    let before = there_is _ _ _ (c.in_ok-set_before.ensures.before env is) c.if-not-branch.false in
    if_ok_so c.unmet_behind.result (λ u. option_map seen_unmet u ≡ unmet_behind env (maps_of pass) c.args.offset found f)
    (λ u. option_map seen_unmet u
    ≡ (frame_before (when_falls c.args.falls (frame_of (names_in pass) c.args.frame.now)) (frame_at (maps_of pass) c.args.offset) >>= unmet_behind env (maps_of pass) c.args.offset insn))
    (λ u h. h
    ∙ (ap (λ (i : Instruction). unmet_behind env (maps_of pass) c.args.offset i f) same
    ∙ ap (λ (o : Option Frame). o >>= unmet_behind env (maps_of pass) c.args.offset insn) before)) (c.unmet_behind.ensures env is)
