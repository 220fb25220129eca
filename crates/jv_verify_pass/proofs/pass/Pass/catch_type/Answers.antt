use Rattle.std.proofs.Common.{ap, subst, ◌∙◌}
use Rattle.jv_verify_pass.specs.Pass.{Pass}
use Rattle.jv_verify_pass.specs.Inside.Kept.{IsPass}
use Rattle.jv_verify_pass.proofs.FlowsInto.{pool_is, typed_is}
use Rattle.jv_verify_pass.proofs.pass.Pass.catch_type.Goals as goal

pub returns : goal.returns
returns c = λ env is.
    let pass = c.args.self.now in
    let entries = c.self.inside.initial.now in
    let count = c.self.inside.words in
    let kept : IsPass pass entries count = subst (λ (p : Pass). IsPass p entries count) c.self.view_is c.self.invariant in
    let same = c.class.ensures ∙ ap (λ (p : Pass). p.context.class) c.self.view_is in
    typed_is pass entries count kept env is c.class.result.now c.constants.result.now.types c.catch_type.result _ same c.constants.ensures.types
    (c.catch_type.ensures env (pool_is pass entries count kept env is c.class.result.now c.constants.result.now.pool same c.constants.ensures.pool))
