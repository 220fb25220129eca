use Rattle.std.proofs.Common.{sym, ap, subst, ◌∙◌}
use Rattle.jv_verify_types.specs.Numbered.{NumberFrame, with_locals, ReplacesAny}
use Rattle.jv_stackmap.specs.declared.verification.VerificationTypeOf.TheVariants as types
use Rattle.jv_verify_rules.proofs.NewObjects.{made, not_made}
use Rattle.jv_verify_rules.proofs.references.new_object.Goals as goal

pub returns-then-has_on_stack : goal.returns-then-has_on_stack
returns-then-has_on_stack c = λ names. not_made names c.args.pc c.args.frame.now (sym (c.if-has_on_stack.ensures.found names))

pub returns : goal.returns
returns c = λ names.
    made names c.args.pc c.args.frame.now c.replace_locals.new.self (sym (c.if-has_on_stack.ensures.found names))
    (subst (λ (f : NumberFrame). ReplacesAny (types.Uninitialized c.args.pc) types.Top f.locals c.replace_locals.new.self.locals) c.has_on_stack.ensures.same c.replace_locals.ensures.locals names)
    (c.replace_locals.ensures.same ∙ ap (with_locals c.replace_locals.new.self.locals) c.has_on_stack.ensures.same)
