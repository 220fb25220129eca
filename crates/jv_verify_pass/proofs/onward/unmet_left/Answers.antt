use Rattle.std.proofs.Common.{Some, ap, ◌∙◌}
use Rattle.std.specs.Option.{option_map}
use Rattle.jv_verify_types.specs.Numbered.{frame_of}
use Rattle.jv_verify_pass.specs.Onward.{Unmet, unmet}
use Rattle.jv_verify_pass.specs.Pass.{maps_of, names_in}
use Rattle.jv_verify_pass.proofs.onward.unmet_left.Goals as goal

pub returns-in_default : goal.returns-in_default
returns-in_default c = λ env is.
    let pass = c.args.pass.now in
    ap (option_map (unmet env (maps_of pass) (frame_of (names_in pass) c.args.left.now))) (c.in_default.ensures env is)

pub returns : goal.returns
returns c = λ env is.
    let pass = c.args.pass.now in
    ap (λ (u : Unmet). Some u) (c.in_ok-found.ensures env is)
    ∙ ap (option_map (unmet env (maps_of pass) (frame_of (names_in pass) c.args.left.now))) (c.in-Some.ensures env is)
