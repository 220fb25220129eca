use Rattle.std.proofs.Common.{◌∙◌, ap, sym}
use Rattle.std.specs.Prelude.{List, reverse}
use Rattle.std.specs.List.{list_any}
use Rattle.jv_meaning_typing.specs.FrameChanges.{is_same_object}
use Rattle.jv_verify_types.specs.Typed.{typed, typed_all}
use Rattle.jv_verify_types.specs.Numbered.{Item, NumberFrame, stack_words}
use Rattle.jv_verify_frame.proofs.Replacing.{any_on}
use Rattle.jv_verify_frame.proofs.type_frame.TypeFrame.has_on_stack.Goals as goal

pub invariant_of-self : goal.invariant_of-self
invariant_of-self c = c.self.invariant ∙ ap (λ (s : List Item). stack_words (reverse s)) (sym c.find.ensures.same)

pub returns-clause-found : goal.returns-clause-found
returns-clause-found c = λ names.
    any_on names c.args.object c.self.inside.stack c.find.result c.find.ensures.found
    ∙ ap (λ (f : NumberFrame). list_any (is_same_object (typed names c.args.object)) (typed_all names f.stack)) c.self.view_is
