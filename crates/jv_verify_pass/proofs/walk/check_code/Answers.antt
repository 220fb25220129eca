use Rattle.std.proofs.Common.{ap, subst, ◌∙◌, inr, length, arith}
use Rattle.jv_verify_types.specs.Numbered.{frame_of}
use Rattle.jv_verify_pass.specs.declared.walk.Walked.{Walked}
use Rattle.jv_verify_pass.specs.Pass.{Pass, maps_of, names_in}
use Rattle.jv_verify_pass.specs.Inside.Walk.{IsWalked}
use Rattle.jv_verify_pass.proofs.Passing.{is_whole}
use Rattle.jv_verify_pass.proofs.walk.check_code.Goals as goal

pub walk_to-requires-clause-end : goal.walk_to-requires-clause-end
walk_to-requires-clause-end c =
    let code = c.code.ensures ∙ ap (λ (p : Pass). p.context.code) c.pass.view_is in
    inr (c.size-size.ensures.bytes ∙ ap length code)

pub walk_to-requires-clause-within : goal.walk_to-requires-clause-within
walk_to-requires-clause-within c =
    let code = c.code.ensures ∙ ap (λ (p : Pass). p.context.code) c.pass.view_is in
    let size = c.size-size.ensures.bytes in omega (arith, size, ap length code)

pub returns-in-Broken : goal.returns-in-Broken
returns-in-Broken c = λ env is.
    let pass = c.args.pass.now in
    let found = subst (λ (w : Walked). IsWalked env (maps_of pass) c.size-size.result (frame_of (names_in pass) c.walk_to.new.frame) w) c.in-Broken.is
    (c.in_ok-fault.ensures.found env is) in
    found.1

pub returns-in-Reached : goal.returns-in-Reached
returns-in-Reached c = λ env is.
    let pass = c.args.pass.now in
    let code = c.code.ensures ∙ ap (λ (p : Pass). p.context.code) c.pass.view_is in
    let found = subst (λ (w : Walked). IsWalked env (maps_of pass) c.size-size.result (frame_of (names_in pass) c.walk_to.new.frame) w) c.in-Reached.is
    (c.in_ok-fault.ensures.found env is) in
    is_whole c.stands_in_list.ensures c.starts_apart.ensures env is.is (maps_of pass) pass.context.code c.code.result.now.bytes.now c.size-size.result _
    code is.context.code c.size-size.ensures.bytes found
