use Rattle.std.proofs.Common.{◌∙◌, ap, sym, subst}
use Rattle.std.specs.List.{filter}
use Rattle.jv_verify_wants.specs.Inside.Allowed.{is_open, KeepsWants}
use Rattle.jv_verify_wants.proofs.Among.{among-filter}
use Rattle.jv_verify_wants.proofs.variable.Variable.let_go.Goals as goal

pub returns-clause-wants : goal.returns-clause-wants
returns-clause-wants c =
    subst (KeepsWants c.args.offset c.args.self.now.wants.items)
    (sym (c.in_ok-left.ensures ∙ ap (filter (is_open c.args.offset)) c.deref.ensures.value)) (among-filter c.args.self.now.wants.items c.args.offset)
