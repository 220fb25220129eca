use Rattle.std.proofs.Common.{◌≡◌, ℕ, [], ◌∷◌, Some, sym, ap, subst, ◌∙◌}
use Rattle.jv_verify_types.specs.Typed.{typed}
use Rattle.jv_verify_types.specs.Mapped.{frame_by_types, names_of_types, stack_flows_to}
use Rattle.jv_verify_pass.specs.Pass.{Pass, IsFrameAt, maps_of}
use Rattle.jv_meaning_typing.specs.Typing.{frame_at}
use Rattle.jv_verify_pass.specs.Inside.Kept.{IsPass}
use Rattle.jv_verify_pass.proofs.Handling.{stack_not}
use Rattle.jv_verify_pass.proofs.opening.place_of.Goals as goal

pub returns-then-not-thrown_stack_flows-clause-none : goal.returns-then-not-thrown_stack_flows-clause-none
returns-then-not-thrown_stack_flows-clause-none c = λ env insn frame is.
    let pass = c.args.pass.now in
    let entries = c.pass.inside.initial.now in
    let count = c.pass.inside.words in
    let kept : IsPass pass entries count = subst (λ (p : Pass). IsPass p entries count) c.pass.view_is c.pass.invariant in
    let thrown = c.in-Some.thrown in
    let map = c.in-Some-map_at.map in
    stack_not pass entries count kept env is insn frame c.args.handler map thrown (c.in-Some.ensures env is)
    (subst (λ (n : ℕ). Some (frame_by_types pass.types pass.max_locals map) ≡ frame_at (maps_of pass) n) c.from.ensures (c.in-Some-map_at.ensures.frame env is))
    (c.if-not-thrown_stack_flows.ensures ∙ ap (λ (p : Pass). stack_flows_to p.types (typed (names_of_types p.types) thrown ∷ []) map) c.pass.view_is)

pub returns-clause-some : goal.returns-clause-some
returns-clause-some c =
    let thrown = c.in-Some.thrown in
    let map = c.in-Some-map_at.map in
    record {
      map = map;
      there = c.in-Some-map_at.ensures.place;
      is = subst (λ (n : ℕ). IsFrameAt c.args.pass.now n (Some map)) c.from.ensures c.in-Some-map_at.ensures.frame;
      thrown = thrown;
      catches = c.in-Some.ensures;
      stack =
          sym (c.if-not-thrown_stack_flows.ensures ∙ ap (λ (p : Pass). stack_flows_to p.types (typed (names_of_types p.types) thrown ∷ []) map) c.pass.view_is);
    }
