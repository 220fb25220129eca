use Rattle.std.proofs.Common.{◌≡◌, ◌<◌, ℕ, Bool, List, Some, inl, length, refl, sym, ap, subst, ◌∙◌, arith}
use Rattle.jv_code.specs.Places.{IsStart, IsStartOrEnd}
use Rattle.jv_code.specs.Insns.{instruction_of}
use Rattle.jv_meaning_typing.specs.Environment.{instruction_at, offset_behind}
use Rattle.jv_verify_types.specs.Numbered.{frame_of}
use Rattle.jv_verify_pass.specs.Pass.{InPass, Pass, maps_of, names_in}
use Rattle.jv_verify_pass.specs.Inside.Walk.{Reaches, when_falls}
use Rattle.jv_verify_pass.proofs.Passing.{at_is, no_further, start_here, step_on}
use Rattle.jv_verify_pass.proofs.SinkTold.{end_within, none_broken, took_more, took_none, wants_no_more}
use Rattle.jv_verify_pass.proofs.telling.tell_from.Goals as goal

pub instructions-init : goal.instructions-init
instructions-init g c =
    let code = c.code-code.ensures ∙ ap (λ (p : Pass). p.context.code) c.pass.view_is in
    record {
      seen = c.requires.seen;
      starts = inl (subst (λ (b : List ℕ). IsStart b 0) code c.size-size.ensures.first);
      within = omega arith;
      took = took_none g.S.FrameSink.takes c.args.sink.now c.args.pass.now;
      reaches = c.requires.begun;
    }

pub insn_at-next-requires : goal.insn_at-next-requires
insn_at-next-requires g c =
    let code = c.code-code.ensures ∙ ap (λ (p : Pass). p.context.code) c.pass.view_is in
    let less = (c.goes_on.ensures.0 c.instructions-test.true).0 in
    let (env, (is, typed)) = c.requires.typed in
    let within = end_within env.code.code c.args.end typed.ends in
    let below : c.instructions.offset < length c.code-code.result.now.bytes.now = omega (arith, within, less, ap length code, ap length is.context.code) in
    start_here c.args.pass.now.context.code c.code-code.result.now.bytes.now c.instructions.offset (length c.code-code.result.now.bytes.now) code refl below c.instructions.invariant.starts

pub tell-requires : goal.tell-requires
tell-requires g c κs = ((refl, tt), c.instructions.invariant.seen.locals)

pub step-requires-clause-method : goal.step-requires-clause-method
step-requires-clause-method g c = (c.requires.typed.0, c.requires.typed.1.0)

pub unreachable-requires : goal.unreachable-requires
unreachable-requires g c =
    let pass = c.args.pass.now in
    let (env, (is, typed)) = c.requires.typed in
    let insn = instruction_of c.insn_at-next.result.0 in
    let left = frame_of (names_in pass) c.step.new.frame in
    let code = c.code-code.ensures ∙ ap (λ (p : Pass). p.context.code) c.pass.view_is in
    let at = at_is c.stands_in_list.ensures c.starts_apart.ensures env is.is (maps_of pass) pass.context.code c.code-code.result.now.bytes.now c.instructions.offset insn code is.context.code
    c.insn_at-next.ensures.insn in
    none_broken env (maps_of pass) c.args.end typed c.instructions.offset insn left (c.goes_on.ensures.0 c.instructions-test.true).0 c.in_ok-_rule.field-0
    _ c.in-Some.is (c.in_ok-_rule.ensures.step env is at (c.instructions.invariant.reaches env is))

pub instructions-preserved : goal.instructions-preserved
instructions-preserved g c =
    let pass = c.args.pass.now in
    let insn = instruction_of c.insn_at-next.result.0 in
    let bytes = c.code-code.result.now.bytes.now in
    let left = frame_of (names_in pass) c.step.new.frame in
    let less = (c.goes_on.ensures.0 c.instructions-test.true).0 in
    let code = c.code-code.ensures ∙ ap (λ (p : Pass). p.context.code) c.pass.view_is in
    let (first, (of, typed)) = c.requires.typed in
    let end : IsStartOrEnd pass.context.code c.args.end = subst (λ (b : List ℕ). IsStartOrEnd b c.args.end) of.context.code typed.ends in
    let there : InPass pass (λ env. instruction_at env c.instructions.offset ≡ Some insn) = λ env is.
    at_is c.stands_in_list.ensures c.starts_apart.ensures env is.is (maps_of pass) pass.context.code bytes c.instructions.offset insn code is.context.code c.insn_at-next.ensures.insn in
    record {
      seen = c.in_ok-_rule.ensures.seen c.in_default.is c.insn_at-next.result.1 (let rises = c.insn_at-next.ensures.rises in omega (arith, rises));
      starts = subst (λ (b : List ℕ). IsStartOrEnd b c.insn_at-next.result.1) code c.insn_at-next.ensures.goes_on;
      within =
          no_further c.starts_apart.ensures pass.context.code bytes c.instructions.offset c.insn_at-next.result.1 c.args.end insn code c.insn_at-next.ensures.insn c.insn_at-next.ensures.next
          c.insn_at-next.ensures.within less end;
      took =
          took_more g.S.FrameSink.takes c.args.sink.now c.instructions.sink c.tell.new.sink pass c.instructions.offset c.insn_at-next.result.1 insn
          (when_falls c.instructions.falls (frame_of (names_in pass) c.instructions.frame)) c.instructions.invariant.took c.in_ok-tell.ensures there c.instructions.invariant.reaches
          c.insn_at-next.ensures.next;
      reaches =
          λ env is.
          let on =
          step_on c.stands_in_list.ensures c.starts_apart.ensures env is.is (maps_of pass) c.instructions.offset insn left c.in_ok-_rule.field-0 c.in_default.is
          (c.in_ok-_rule.ensures.step env is (there env is) (c.instructions.invariant.reaches env is)) in
          subst (λ (n : ℕ). Reaches env (maps_of pass) n (when_falls c.falls_through-falls.result left)) (sym c.insn_at-next.ensures.next)
          (subst (λ (b : Bool). Reaches env (maps_of pass) (offset_behind c.instructions.offset insn) (when_falls b left)) (sym c.falls_through-falls.ensures) on);
    }

pub returns-clause-took : goal.returns-clause-took
returns-clause-took g c = c.instructions.invariant.took

pub returns-clause-within : goal.returns-clause-within
returns-clause-within g c = c.instructions.invariant.within

pub returns-clause-full : goal.returns-clause-full
returns-clause-full g c = λ less.
    wants_no_more c.goes_on.result (g.S.FrameSink.full c.instructions.sink) c.instructions.offset c.args.end c.goes_on.ensures.1 c.instructions-test.false less
