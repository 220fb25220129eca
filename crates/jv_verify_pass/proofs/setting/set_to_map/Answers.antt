use Rattle.std.proofs.Common.{◌≡◌, length, reverse, ap, ◌∙◌}
use Rattle.std.proofs.lemmas.List.{length-replicate}
use Rattle.jv_stackmap.specs.declared.verification.VerificationTypeOf.TheVariants as variants
use Rattle.jv_stackmap.specs.Frames.{expanded}
use Rattle.jv_verify_types.specs.Typed.{typed, typed_all}
use Rattle.jv_verify_types.specs.Numbered.{Item, NumberFrame}
use Rattle.jv_verify_frame.proofs.Replacing.{map_reversed}
use Rattle.jv_verify_types.specs.Mapped.{names_of_types, types_of_entries}
use Rattle.jv_verify_pass.proofs.Settings.{frame_made}
use Rattle.jv_verify_pass.proofs.setting.set_to_map.Goals as goal

pub returns-in_err-push_items-clause-same : goal.returns-in_err-push_items-clause-same
returns-in_err-push_items-clause-same c =
    ap (λ (f : NumberFrame). length f.locals) c.push_items.ensures.same
    ∙ (c.set_locals.ensures.count ∙ (ap (λ (f : NumberFrame). length f.locals) c.clear.ensures ∙ length-replicate {A = Item} (length c.args.frame.now.locals) variants.Top))

pub returns-clause-ok : goal.returns-clause-ok
returns-clause-ok c =
    let types = c.args.types.now in
    let names = names_of_types types in
    let n = length c.args.frame.now.locals in
    let blank : length c.clear.new.self.locals ≡ n = ap (λ (f : NumberFrame). length f.locals) c.clear.ensures ∙ length-replicate {A = Item} n variants.Top in
    let set : c.set_flag.new.self.locals ≡ c.set_locals.new.frame.locals =
    ap (λ (f : NumberFrame). f.locals) c.set_flag.ensures ∙ (ap (λ (f : NumberFrame). f.locals) c.turn_stack.ensures ∙ ap (λ (f : NumberFrame). f.locals) c.push_items.ensures.same) in
    let turned : c.set_flag.new.self.stack ≡ reverse c.push_items.new.frame.stack =
    ap (λ (f : NumberFrame). f.stack) c.set_flag.ensures ∙ ap (λ (f : NumberFrame). f.stack) c.turn_stack.ensures in
    frame_made names c.set_flag.new.self _ _ _
    (ap (typed_all names) set ∙ (c.set_locals.ensures.locals ∙ ap (λ k. expanded k (reverse (types_of_entries types c.args.map.now.locals))) blank))
    (ap (typed_all names) turned ∙ (map_reversed (typed names) c.push_items.new.frame.stack ∙ c.in_ok-push_items.ensures.stack))
    (ap (λ (f : NumberFrame). f.flag_this_uninit) c.set_flag.ensures ∙ c.has_this.ensures)

pub returns-clause-same : goal.returns-clause-same
returns-clause-same c =
    ap (λ (f : NumberFrame). length f.locals) c.set_flag.ensures
    ∙ (ap (λ (f : NumberFrame). length f.locals) c.turn_stack.ensures
    ∙ (ap (λ (f : NumberFrame). length f.locals) c.push_items.ensures.same
    ∙ (c.set_locals.ensures.count ∙ (ap (λ (f : NumberFrame). length f.locals) c.clear.ensures ∙ length-replicate {A = Item} (length c.args.frame.now.locals) variants.Top))))
