use Rattle.std.proofs.Common.{ap, ◌∙◌}
use Rattle.jv_verify.specs.Inside.Read.{ReadMethod}
use Rattle.jv_verify.proofs.Parts.{types_in}
use Rattle.jv_verify.proofs.read.ReadMethod.entry_types.Goals as goal

pub returns : goal.returns
returns c =
    types_in c.args.self.now c.new.result c.constants.result.now c.new.ensures.constants (c.new.ensures.initial ∙ ap (λ (m : ReadMethod). m.initial) c.self.view_is)
    (c.constants.ensures.types ∙ ap (λ (m : ReadMethod). m.class.types) c.self.view_is) (c.constants.ensures.pool ∙ ap (λ (m : ReadMethod). m.class.by.class.constant_pool) c.self.view_is)
