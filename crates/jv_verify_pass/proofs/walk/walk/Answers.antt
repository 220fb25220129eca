use Rattle.std.proofs.Common.{◌≡◌, ℕ, ◌<◌, true, false, List, length, sym, ap, subst, ◌∙◌, arith}
use Rattle.std.proofs.lemmas.Bool.{ltb-true}
use Rattle.jv_code.specs.Places.{IsStartOrEnd}
use Rattle.jv_code.specs.Insns.{instruction_of}
use Rattle.jv_verify_types.specs.Numbered.{frame_of}
use Rattle.jv_verify_pass.specs.Pass.{Pass, maps_of, names_in}
use Rattle.jv_verify_pass.specs.Inside.Walk.{Progress, when_falls}
use Rattle.jv_verify_pass.proofs.Passing.{start_here, no_further, at_is, step_broken, at_end, goes_further}
use Rattle.jv_verify_pass.proofs.walk.walk.Goals.{else-falls-via-then-falls+else-next-size, else-falls-via-else-falls}
use Rattle.jv_verify_pass.proofs.walk.walk.Goals as goal

pub insn_at-next-requires : goal.insn_at-next-requires
insn_at-next-requires c =
    let code = c.code-code.ensures ∙ ap (λ (p : Pass). p.context.code) c.pass.view_is in
    let below : c.loop-offset.offset < c.size-size.result =
    let within = c.requires.within in let lt = c.loop-offset-test.true in let size = c.size-size.ensures.bytes in omega (arith, within, lt, size, ap length code) in
    start_here c.args.pass.now.context.code c.code-code.result.now.bytes.now c.loop-offset.offset c.size-size.result code c.size-size.ensures.bytes below c.loop-offset.invariant.1

pub step-requires-clause-bare : goal.step-requires-clause-bare
step-requires-clause-bare c = λ on.
    c.loop-offset.invariant.4 c.loop-offset.offset (omega arith) (ltb-true c.loop-offset.offset c.loop-offset.bare_until on)

pub returns-in-Some-clause-found : goal.returns-in-Some-clause-found
returns-in-Some-clause-found c = λ env is r.
    let maps = maps_of c.args.pass.now in
    let insn = instruction_of c.insn_at-next.result.0 in
    let left = frame_of (names_in c.args.pass.now) c.step.new.frame in
    let code = c.code-code.ensures ∙ ap (λ (p : Pass). p.context.code) c.pass.view_is in
    let at = at_is c.stands_in_list.ensures c.starts_apart.ensures env is.is maps c.args.pass.now.context.code c.code-code.result.now.bytes.now
    c.loop-offset.offset insn code is.context.code c.insn_at-next.ensures.insn in (
      c.loop-offset-test.true,
      step_broken c.stands_in_list.ensures c.starts_apart.ensures env is.is maps c.loop-offset.offset insn left c.in_ok-rule.field-0 c.in-Some.rule c.in-Some.is
          (c.in_ok-rule.ensures.step env is at (c.loop-offset.invariant.3 env is r).reaches),
    )

pub returns-then-next-size-clause-found : goal.returns-then-next-size-clause-found
returns-then-next-size-clause-found c = λ env is r.
    let maps = maps_of c.args.pass.now in
    let insn = instruction_of c.insn_at-next.result.0 in
    let left = frame_of (names_in c.args.pass.now) c.step.new.frame in
    let code = c.code-code.ensures ∙ ap (λ (p : Pass). p.context.code) c.pass.view_is in
    let at = at_is c.stands_in_list.ensures c.starts_apart.ensures env is.is maps c.args.pass.now.context.code c.code-code.result.now.bytes.now
    c.loop-offset.offset insn code is.context.code c.insn_at-next.ensures.insn in (
      c.loop-offset-test.true,
      at_end c.stands_in_list.ensures c.starts_apart.ensures env is.is maps c.args.pass.now.context.code c.code-code.result.now.bytes.now c.size-size.result
          c.loop-offset.offset c.insn_at-next.result.1 insn left c.in_ok-rule.field-0 code is.context.code c.size-size.ensures.bytes c.insn_at-next.ensures.insn c.insn_at-next.ensures.next
          c.if-next-size.true c.if-falls.ensures c.in_default.is (c.in_ok-rule.ensures.step env is at (c.loop-offset.invariant.3 env is r).reaches),
    )

pub loop-offset-preserved : goal.loop-offset-preserved
loop-offset-preserved c =
    let code = c.code-code.ensures ∙ ap (λ (p : Pass). p.context.code) c.pass.view_is in
    let not_last : c.falls_through-falls.result ≡ true → c.insn_at-next.result.1 ≡ c.size-size.result → ⊥ = λ t e. elim c.else-falls.branch [
      | else-falls-via-then-falls+else-next-size w ↦ w.if-next-size.false e
      | else-falls-via-else-falls w ↦ absurd (clash (sym w.if-falls.false ∙ t))
    ] in (
      c.in_ok-rule.ensures.seen c.in_default.is c.insn_at-next.result.1 (let rises = c.insn_at-next.ensures.rises in omega (arith, rises)),
      subst (λ (b : List ℕ). IsStartOrEnd b c.insn_at-next.result.1) code c.insn_at-next.ensures.goes_on,
      no_further c.starts_apart.ensures c.args.pass.now.context.code c.code-code.result.now.bytes.now c.loop-offset.offset c.insn_at-next.result.1 c.args.end
          (instruction_of c.insn_at-next.result.0) code c.insn_at-next.ensures.insn c.insn_at-next.ensures.next c.insn_at-next.ensures.within c.loop-offset-test.true c.requires.end,
      λ env is r.
          let maps = maps_of c.args.pass.now in
          let insn = instruction_of c.insn_at-next.result.0 in
          let left = frame_of (names_in c.args.pass.now) c.step.new.frame in
          let at = at_is c.stands_in_list.ensures c.starts_apart.ensures env is.is maps c.args.pass.now.context.code c.code-code.result.now.bytes.now
          c.loop-offset.offset insn code is.context.code c.insn_at-next.ensures.insn in
          goes_further c.stands_in_list.ensures c.starts_apart.ensures env is.is maps c.args.pass.now.context.code c.code-code.result.now.bytes.now c.size-size.result c.loop-offset.offset
          c.insn_at-next.result.1 insn left c.in_ok-rule.field-0 c.falls_through-falls.result code is.context.code c.size-size.ensures.bytes c.insn_at-next.ensures.insn c.insn_at-next.ensures.next
          c.falls_through-falls.ensures not_last c.in_default.is (c.in_ok-rule.ensures.step env is at (c.loop-offset.invariant.3 env is r).reaches),
      λ later least less. c.bare_behind-bare_until.ensures later (let rises = c.insn_at-next.ensures.rises in omega (arith, rises, least)) less,
    )
  where
    clash : false ≡ true → ⊥
    clash e = cc

pub returns-clause-found : goal.returns-clause-found
returns-clause-found c = λ env is r.
    let le = c.loop-offset.invariant.2 in
    let past = c.loop-offset-test.false in
    let same : c.loop-offset.offset ≡ c.args.end = omega (arith, le, past) in
    subst (λ (n : ℕ). Progress env (maps_of c.args.pass.now) n (when_falls c.loop-offset.falls (frame_of (names_in c.args.pass.now) c.loop-offset.frame))) same
    (c.loop-offset.invariant.3 env is r)

pub returns-clause-locals : goal.returns-clause-locals
returns-clause-locals c = c.loop-offset.invariant.0.locals
