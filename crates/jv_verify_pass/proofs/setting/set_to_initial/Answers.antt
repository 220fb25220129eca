use Rattle.std.proofs.Common.{◌≡◌, [], length, ap, ◌∙◌}
use Rattle.std.proofs.lemmas.List.{length-replicate}
use Rattle.jv_stackmap.specs.declared.verification.VerificationTypeOf.TheVariants as variants
use Rattle.jv_stackmap.specs.Frames.{expanded}
use Rattle.jv_verify_types.specs.Typed.{typed_all}
use Rattle.jv_verify_types.specs.Numbered.{Item, NumberFrame}
use Rattle.jv_verify_pass.proofs.Settings.{frame_made, this_typed}
use Rattle.jv_verify_pass.proofs.setting.set_to_initial.Goals as goal

pub returns-clause-frame : goal.returns-clause-frame
returns-clause-frame c = λ names.
    let n = length c.args.frame.now.locals in
    let blank : length c.clear.new.self.locals ≡ n = ap (λ (f : NumberFrame). length f.locals) c.clear.ensures ∙ length-replicate {A = Item} n variants.Top in
    let set : c.set_flag.new.self.locals ≡ c.set_initial_locals.new.frame.locals = ap (λ (f : NumberFrame). f.locals) c.set_flag.ensures in
    let empty : c.set_flag.new.self.stack ≡ [] =
    ap (λ (f : NumberFrame). f.stack) c.set_flag.ensures ∙ (ap (λ (f : NumberFrame). f.stack) c.set_initial_locals.ensures.same ∙ ap (λ (f : NumberFrame). f.stack) c.clear.ensures) in
    frame_made names c.set_flag.new.self _ _ _
    (ap (typed_all names) set ∙ (c.set_initial_locals.ensures.locals names ∙ ap (λ k. expanded k (typed_all names c.args.initial.now)) blank))
    (ap (typed_all names) empty)
    (ap (λ (f : NumberFrame). f.flag_this_uninit) c.set_flag.ensures ∙ (c.begins_with_this.ensures ∙ this_typed names c.args.initial.now))

pub returns-clause-same : goal.returns-clause-same
returns-clause-same c =
    ap (λ (f : NumberFrame). length f.locals) c.set_flag.ensures
    ∙ (c.set_initial_locals.ensures.count ∙ (ap (λ (f : NumberFrame). length f.locals) c.clear.ensures ∙ length-replicate {A = Item} (length c.args.frame.now.locals) variants.Top))
