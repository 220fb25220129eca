use Rattle.std.proofs.Common.{◌≡◌, List, Some, sym, ap, subst, ◌∙◌}
use Rattle.std.specs.Prelude.{IsSome}
use Rattle.jv_text.specs.Name.{is_init}
use Rattle.jv_pool.specs.Constants.{Entry, utf8_at}
use Rattle.jv_verify.proofs.known.is_named_init.Goals as goal

pub utf8-name-requires : goal.utf8-name-requires
utf8-name-requires c = subst (λ (p : List Entry). IsSome (utf8_at p c.args.method.now.name.0)) (sym (c.pool.ensures ∙ c.constants.ensures.pool)) c.requires

pub returns : goal.returns
returns c = λ name at.
    let same : Some c.utf8-name.result.now ≡ Some name = sym c.utf8-name.ensures ∙ (ap (λ (p : List Entry). utf8_at p c.args.method.now.name.0) (c.pool.ensures ∙ c.constants.ensures.pool) ∙ at) in
    let one : c.utf8-name.result.now ≡ name = cc in
    c.is_init.ensures ∙ ap is_init one
