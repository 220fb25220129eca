use Rattle.std.proofs.Common.{◌∙◌, ap, get_or, false}
use Rattle.jv_verify_types.proofs.KeepingClass.{field_told, method_told}
use Rattle.jv_verify_types.proofs.current_class.CurrentClass.is_guarded.Goals as goal

pub returns-clause-field : goal.returns-clause-field
returns-clause-field c = field_told _ _ _ _ _ _ c.self.invariant c.args.index c.is_marked.result
    (c.is_marked.ensures ∙ ap (λ marks. get_or marks c.args.index false) c.deref.ensures.value) c.args.self.now c.self.view_is

pub returns-clause-method : goal.returns-clause-method
returns-clause-method c = method_told _ _ _ _ _ _ c.self.invariant c.args.index c.is_marked.result
    (c.is_marked.ensures ∙ ap (λ marks. get_or marks c.args.index false) c.deref.ensures.value) c.args.self.now c.self.view_is
