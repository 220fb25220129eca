use Rattle.std.proofs.Common.{◌≡◌, ◌-◌, List, Some, map, refl, sym, ap, subst, ◌∙◌}
use Rattle.jv_meaning_typing.specs.Rule.{rule}
use Rattle.jv_verify_pass.specs.Inside.Changes.{may_change}
use Rattle.jv_verify_pass.proofs.Changing.{others_stay}
use Rattle.jv_code.specs.Insns.{instruction_of}
use Rattle.jv_verify_types.specs.Numbered.{frame_of}
use Rattle.jv_verify_pass.specs.Pass.{Pass, maps_of, names_in}
use Rattle.jv_verify_pass.specs.declared.stacks.FlowedStack.{FlowedStack}
use Rattle.jv_verify_pass.specs.Inside.Kept.{IsPass}
use Rattle.jv_verify_pass.specs.Inside.Stacks.{AreFlowed, lowered}
use Rattle.jv_verify_pass.specs.Inside.Walk.{Stands}
use Rattle.jv_verify_pass.proofs.Walking.{stand, merge_broken, handler_broken, instruction_broken, target_broken, goes_on}
use Rattle.jv_verify_pass.proofs.FlowsInto.{applied, is_left, is_none_left, as_many}
use Rattle.jv_verify_pass.proofs.FlowingStacks.{flowed_behind}
use Rattle.jv_verify_pass.proofs.Seeing.{later_seen, seen_behind}
use Rattle.jv_verify_pass.proofs.step.step.Goals as goal

pub returns-then-not-branch-clause-step : goal.returns-then-not-branch-clause-step
returns-then-not-branch-clause-step c = λ env is at r.
    let pass = c.args.pass.now in
    merge_broken c.stands_in_list.ensures c.starts_apart.ensures env is.is (maps_of pass) c.args.offset (instruction_of c.args.insn.now) _ at r
    (is_none_left (names_in pass) _ c.merge.new.frame _ c.if-not-branch.true (c.in_ok-merge.ensures.merged env is))

pub returns-then-not-branch-2-clause-step : goal.returns-then-not-branch-2-clause-step
returns-then-not-branch-2-clause-step c = λ env is at r.
    let pass = c.args.pass.now in
    let x = frame_of (names_in pass) c.merge.new.frame in
    let here : Stands env (maps_of pass) c.args.offset x =
    stand c.stands_in_list.ensures c.starts_apart.ensures env is.is (maps_of pass) c.args.offset x _ r
    (is_left (names_in pass) _ c.merge.new.frame _ c.if-not-branch.false (c.in_ok-merge.ensures.merged env is)) in
    handler_broken c.stands_in_list.ensures c.starts_apart.ensures env is.is (maps_of pass) c.args.offset (instruction_of c.args.insn.now) x at here
    (sym c.if-not-branch-2.true ∙ c.in_ok-is_handled.ensures.hold env is)

pub returns-then-not-branch-3-clause-step : goal.returns-then-not-branch-3-clause-step
returns-then-not-branch-3-clause-step c = λ env is at r.
    let pass = c.args.pass.now in
    let entries = c.pass.inside.initial.now in
    let count = c.pass.inside.words in
    let kept : IsPass pass entries count = subst (λ (p : Pass). IsPass p entries count) c.pass.view_is c.pass.invariant in
    let insn = instruction_of c.args.insn.now in
    let x = frame_of (names_in pass) c.merge.new.frame in
    let here : Stands env (maps_of pass) c.args.offset x =
    stand c.stands_in_list.ensures c.starts_apart.ensures env is.is (maps_of pass) c.args.offset x _ r
    (is_left (names_in pass) _ c.merge.new.frame _ c.if-not-branch.false (c.in_ok-merge.ensures.merged env is)) in
    instruction_broken c.stands_in_list.ensures c.starts_apart.ensures env is.is (maps_of pass) c.args.offset insn x at here (sym c.if-not-branch-2.false ∙ c.in_ok-is_handled.ensures.hold env is)
    (is_none_left (names_in pass) _ c.apply.new.frame _ c.if-not-branch-3.true
    (applied pass entries count kept env is c.pass.inside.context.now insn c.merge.new.frame c.apply.new.frame _ c.args.offset _ (ap (λ (p : Pass). p.context) c.pass.view_is)
    refl c.in_ok-apply.ensures))

pub targets_hold-requires : goal.targets_hold-requires
targets_hold-requires c =
    let pass = c.args.pass.now in
    let entries = c.pass.inside.initial.now in
    let count = c.pass.inside.words in
    let kept : IsPass pass entries count = subst (λ (p : Pass). IsPass p entries count) c.pass.view_is c.pass.invariant in
    let env = c.requires.method.0 in
    let is = c.requires.method.1 in
    let insn = instruction_of c.args.insn.now in
    let f = c.merge.new.frame in
    let g = c.apply.new.frame in
    let stacks = c.go_into.new.self.stacks.items in
    let left : rule env c.args.offset insn (frame_of (names_in pass) f) ≡ Some (frame_of (names_in pass) g) =
    is_left (names_in pass) _ g _ c.if-not-branch-3.false
    (applied pass entries count kept env is c.pass.inside.context.now insn f g _ c.args.offset _ (ap (λ (p : Pass). p.context) c.pass.view_is) refl c.in_ok-apply.ensures) in
    record {
      seen = (
        c.args.offset,
        seen_behind pass (may_change env c.args.offset insn (frame_of (names_in pass) f)) c.is_handled.new.seen c.note.new.known c.go_behind.new.self c.args.offset f g
            (c.in_ok-is_handled.ensures.seen c.if-not-branch-2.false) (c.in_ok-note.ensures env is) c.stays_beside_writes.ensures
            (as_many c.keeps_local_count.ensures env c.args.offset insn (names_in pass) f g left)
            (others_stay c.writes_there.ensures env c.args.offset insn (frame_of (names_in pass) f) (frame_of (names_in pass) g) left)
            (subst (λ (ss : List FlowedStack). AreFlowed pass ss g) (sym (c.go_behind.ensures ∙ ap (λ n. map (lowered (n - 6)) stacks) c.height.ensures))
            (flowed_behind pass c.leaves_below.ensures env c.args.offset insn stacks f g c.go_into.ensures.stacks left (c.go_into.ensures.object env is))),
      );
    }

pub returns-then-not-targets_hold-clause-step : goal.returns-then-not-targets_hold-clause-step
returns-then-not-targets_hold-clause-step c = λ env is at r.
    let pass = c.args.pass.now in
    let entries = c.pass.inside.initial.now in
    let count = c.pass.inside.words in
    let kept : IsPass pass entries count = subst (λ (p : Pass). IsPass p entries count) c.pass.view_is c.pass.invariant in
    let insn = instruction_of c.args.insn.now in
    let x = frame_of (names_in pass) c.merge.new.frame in
    let here : Stands env (maps_of pass) c.args.offset x =
    stand c.stands_in_list.ensures c.starts_apart.ensures env is.is (maps_of pass) c.args.offset x _ r
    (is_left (names_in pass) _ c.merge.new.frame _ c.if-not-branch.false (c.in_ok-merge.ensures.merged env is)) in
    target_broken c.stands_in_list.ensures c.starts_apart.ensures env is.is (maps_of pass) c.args.offset insn x
    (frame_of (names_in pass) c.apply.new.frame) at here (sym c.if-not-branch-2.false ∙ c.in_ok-is_handled.ensures.hold env is)
    (is_left (names_in pass) _ c.apply.new.frame _ c.if-not-branch-3.false
    (applied pass entries count kept env is c.pass.inside.context.now insn c.merge.new.frame c.apply.new.frame _ c.args.offset _ (ap (λ (p : Pass). p.context) c.pass.view_is)
    refl c.in_ok-apply.ensures))
    (c.if-not-targets_hold.ensures.flows env is)

pub returns-clause-step : goal.returns-clause-step
returns-clause-step c = λ env is at r.
    let pass = c.args.pass.now in
    let entries = c.pass.inside.initial.now in
    let count = c.pass.inside.words in
    let kept : IsPass pass entries count = subst (λ (p : Pass). IsPass p entries count) c.pass.view_is c.pass.invariant in
    let insn = instruction_of c.args.insn.now in
    let x = frame_of (names_in pass) c.merge.new.frame in
    let here : Stands env (maps_of pass) c.args.offset x =
    stand c.stands_in_list.ensures c.starts_apart.ensures env is.is (maps_of pass) c.args.offset x _ r
    (is_left (names_in pass) _ c.merge.new.frame _ c.if-not-branch.false (c.in_ok-merge.ensures.merged env is)) in
    goes_on c.stands_in_list.ensures c.starts_apart.ensures env is.is (maps_of pass) c.args.offset insn x (frame_of (names_in pass) c.apply.new.frame)
    at here (sym c.if-not-branch-2.false ∙ c.in_ok-is_handled.ensures.hold env is)
    (is_left (names_in pass) _ c.apply.new.frame _ c.if-not-branch-3.false
    (applied pass entries count kept env is c.pass.inside.context.now insn c.merge.new.frame c.apply.new.frame _ c.args.offset _ (ap (λ (p : Pass). p.context) c.pass.view_is)
    refl c.in_ok-apply.ensures))
    (c.if-not-targets_hold.ensures.flows env is)

pub returns-clause-seen : goal.returns-clause-seen
returns-clause-seen c = λ none later le.
    let pass = c.args.pass.now in
    let entries = c.pass.inside.initial.now in
    let count = c.pass.inside.words in
    let kept : IsPass pass entries count = subst (λ (p : Pass). IsPass p entries count) c.pass.view_is c.pass.invariant in
    let env = c.requires.method.0 in
    let is = c.requires.method.1 in
    let insn = instruction_of c.args.insn.now in
    let f = c.merge.new.frame in
    let g = c.apply.new.frame in
    let stacks = c.go_into.new.self.stacks.items in
    let left : rule env c.args.offset insn (frame_of (names_in pass) f) ≡ Some (frame_of (names_in pass) g) =
    is_left (names_in pass) _ g _ c.if-not-branch-3.false
    (applied pass entries count kept env is c.pass.inside.context.now insn f g _ c.args.offset _ (ap (λ (p : Pass). p.context) c.pass.view_is) refl c.in_ok-apply.ensures) in
    let here = seen_behind pass (may_change env c.args.offset insn (frame_of (names_in pass) f)) c.is_handled.new.seen c.note.new.known c.go_behind.new.self c.args.offset f g
    (c.in_ok-is_handled.ensures.seen c.if-not-branch-2.false) (c.in_ok-note.ensures env is) c.stays_beside_writes.ensures
    (as_many c.keeps_local_count.ensures env c.args.offset insn (names_in pass) f g left)
    (others_stay c.writes_there.ensures env c.args.offset insn (frame_of (names_in pass) f) (frame_of (names_in pass) g) left)
    (subst (λ (ss : List FlowedStack). AreFlowed pass ss g) (sym (c.go_behind.ensures ∙ ap (λ n. map (lowered (n - 6)) stacks) c.height.ensures))
    (flowed_behind pass c.leaves_below.ensures env c.args.offset insn stacks f g c.go_into.ensures.stacks left (c.go_into.ensures.object env is))) in
    later_seen pass c.targets_hold.new.seen c.args.offset later c.apply.new.frame le (c.targets_hold.ensures.seen c.args.offset here)

pub go_into-requires : goal.go_into-requires
go_into-requires c = (c.in_ok-is_handled.ensures.seen c.if-not-branch-2.false).stacks
