use Rattle.std.proofs.Common.{sym, ap, ◌∙◌}
use Rattle.jv_verify.specs.Inside.Read.{ReadMethod}
use Rattle.jv_verify.proofs.Parts.{method_in}
use Rattle.jv_verify.proofs.read.ReadMethod.context.Goals as goal

pub new-requires : goal.new-requires
new-requires c = c.requires ∙ (sym (ap (λ (m : ReadMethod). m.body.code) c.self.view_is) ∙ c.self.invariant.code)

pub returns-clause-class : goal.returns-clause-class
returns-clause-class c = c.new.ensures.class ∙ ap (λ (m : ReadMethod). m.class) c.self.view_is

pub returns-clause-of : goal.returns-clause-of
returns-clause-of c = λ env of.
    method_in c.args.self.now c.new.result env of (c.new.ensures.class ∙ ap (λ (m : ReadMethod). m.class) c.self.view_is)
    (c.new.ensures.code ∙ (sym c.self.invariant.code ∙ ap (λ (m : ReadMethod). m.body.code) c.self.view_is)) (c.new.ensures.is_init ∙ ap (λ (m : ReadMethod). m.is_init) c.self.view_is)
    (c.new.ensures.of ∙ ap (λ (m : ReadMethod). m.result) c.self.view_is) (c.new.ensures.max_stack ∙ ap (λ (m : ReadMethod). m.body.max_stack) c.self.view_is)
