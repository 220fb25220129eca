use Rattle.std.proofs.Common.{ap, refl, take, ◌∙◌}
use Rattle.jv_meaning_library.specs.Closed.{is_closed_world}
use Rattle.jv_library.proofs.Always.{beside_all, closed_here}
use Rattle.jv_library.proofs.Steps.{for_files}
use Rattle.jv_library.proofs.known.KnownLibrary.ask.Goals as goal

pub invariant_of-self : goal.invariant_of-self
invariant_of-self c =
    let is =
    c.in_ok-is_closed.ensures ∙ ap (λ n. is_closed_world (take n c.table.result.now)) c.host_count.ensures.count
    ∙ ap (λ w. is_closed_world (take c.args.verified.now.host w)) (c.table.ensures ∙ c.classes.ensures) in
    let closed =
    closed_here c.one_content.ensures c.closed_stands_once.ensures c.args.system.now c.requires.files.0 c.args.verified.now c.requires.files.1
    c.in_ok-is_closed.field-0 is c.if-branch.true in
    beside_all c.one_content.ensures c.closed_stands_once.ensures c.args.system.now c.requires.files.0 c.args.verified.now c.requires.files.1 closed c.requires.once

pub returns-then-branch : goal.returns-then-branch
returns-then-branch c = λ files are.
    let is =
    c.in_ok-is_closed.ensures ∙ ap (λ n. is_closed_world (take n c.table.result.now)) c.host_count.ensures.count
    ∙ ap (λ w. is_closed_world (take c.args.verified.now.host w)) (c.table.ensures ∙ c.classes.ensures) in
    let closed =
    closed_here c.one_content.ensures c.closed_stands_once.ensures c.args.system.now files c.args.verified.now are c.in_ok-is_closed.field-0 is c.if-branch.true in (
      λ _. beside_all c.one_content.ensures c.closed_stands_once.ensures c.args.system.now files c.args.verified.now are closed c.requires.once files c.args.verified.now are,
      λ _. refl,
    )

pub returns : goal.returns
returns c = for_files c.args.system.now c.args.verified.now c.host_stands.result c.host_stands.ensures.stands
