use Rattle.std.specs.Prelude.{◌≡◌, ℕ, List, length}
use Rattle.std.proofs.Common.{ap, ◌∙◌}
use Rattle.jv_verify_types.specs.Mapped.{thrown_frame}
use Rattle.jv_verify_types.specs.Numbered.{NumberFrame, frame_of, topped}
use Rattle.jv_verify_pass.proofs.GoingOn.{begun_is, on_ok_so}
use Rattle.jv_verify_pass.proofs.onward.begin.Goals as goal

pub returns-clause-ok : goal.returns-clause-ok
returns-clause-ok c =
    on_ok_so c.push.result (c.push.new.self ≡ topped c.clear_stack.new.self c.args.thrown)
    ((names : List (List ℕ)) → frame_of names c.push.new.self ≡ thrown_frame names c.args.frame.now c.args.object c.args.thrown)
    (λ h names. begun_is names c.args.frame.now c.lose_object.new.frame c.clear_stack.new.self c.push.new.self c.args.object c.args.thrown (c.lose_object.ensures.locals names)
    c.lose_object.ensures.same c.clear_stack.ensures h) c.push.ensures.ok

pub returns-clause-count : goal.returns-clause-count
returns-clause-count c =
    on_ok_so c.push.result (c.push.new.self ≡ topped c.clear_stack.new.self c.args.thrown) (length c.push.new.self.locals ≡ length c.args.frame.now.locals)
    (λ h. ap (λ (f : NumberFrame). length f.locals) (h ∙ ap (λ (f : NumberFrame). topped f c.args.thrown) c.clear_stack.ensures) ∙ c.lose_object.ensures.count) c.push.ensures.ok
