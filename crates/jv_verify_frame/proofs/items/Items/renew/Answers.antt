use Rattle.std.proofs.Common.{◌≡◌, ◌-◌, List, length, replicate, take, ap, ◌∙◌, ◌++◌, arith}
use Rattle.std.specs.Vec.{vec_len}
use Rattle.std.proofs.lemmas.List.{length-replicate}
use Rattle.jv_stackmap.specs.declared.verification.VerificationTypeOf.TheVariants as types
use Rattle.jv_verify_types.specs.Numbered.{Item}
use Rattle.jv_verify_frame.proofs.KeptTops.{refilled}
use Rattle.jv_verify_frame.proofs.items.Items.renew.Goals as goal

pub returns-in-Ok-clause-ok : goal.returns-in-Ok-clause-ok
returns-in-Ok-clause-ok c =
    let tops : c.self.inside.items.items ≡ replicate (length c.args.self.now) types.Top = c.self.view_is ∙ c.make_tops_below.ensures in
    let m = length c.args.self.now in
    let many : vec_len c.self.inside.items ≡ m = c.self.inside.items.ok.0 ∙ ap length tops ∙ length-replicate m types.Top in
    c.in-Ok.ensures.items ∙ ap (λ (items : List Item). take c.args.count items ++ replicate (c.args.count - vec_len c.self.inside.items) types.Top) tops
    ∙ refilled c.args.count m (c.args.count - vec_len c.self.inside.items) (omega (arith, many))
