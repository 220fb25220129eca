use Rattle.std.proofs.Common.{◌∙◌, ap, sym, subst}
use Rattle.jv_meaning_typing.specs.FrameChanges.{replaced}
use Rattle.jv_verify_types.specs.Typed.{typed, typed_all}
use Rattle.jv_verify_types.specs.Numbered.{NumberFrame}
use Rattle.jv_verify_frame.specs.Inside.Tops.{AreTops}
use Rattle.jv_verify_frame.proofs.KeptTops.{all_used}
use Rattle.jv_verify_frame.proofs.Replacing.{replaced_on, words_kept}
use Rattle.jv_verify_frame.proofs.type_frame.TypeFrame.replace_stack.Goals as goal

pub invariant_of-self : goal.invariant_of-self
invariant_of-self c =
    c.self.invariant ∙ words_kept c.args.object c.args.by c.self.inside.stack c.replace.new.self c.requires c.replace.ensures

pub returns-clause-stack : goal.returns-clause-stack
returns-clause-stack c = λ names.
    replaced_on names c.args.object c.args.by c.self.inside.stack c.replace.new.self c.replace.ensures
    ∙ ap (λ (f : NumberFrame). replaced (typed names c.args.object) (typed names c.args.by) (typed_all names f.stack)) c.self.view_is

pub replace-requires : goal.replace-requires
replace-requires c = subst (λ n. AreTops n c.self.inside.stack) (sym c.len-height.ensures) (all_used c.self.inside.stack)
