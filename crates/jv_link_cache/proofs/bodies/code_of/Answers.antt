use Rattle.std.proofs.Common.{◌∙◌, sym, ap, Option}
use Rattle.std.specs.Option.{option_map}
use Rattle.jv_class_structure.specs.declared.member.Method.{Method as ShownMethod}
use Rattle.jv_class_structure.specs.Seen.{seen_method}
use Rattle.jv_link_cache.proofs.Bodied.{code_shown, some_shown}
use Rattle.jv_link_cache.proofs.bodies.code_of.Goals as goal

pub returns-in_default-method : goal.returns-in_default-method
returns-in_default-method c = λ m at.
    absurd (some_shown c.in-Some.file.now c.args.class.now.class c.in-Some.ensures.file c.args.member m at
    (ap (λ (o : Option ShownMethod). option_map seen_method o) (sym c.in_default-method.is) ∙ c.method.ensures.shown))

pub returns : goal.returns
returns c = λ m at.
    c.code.ensures ∙ code_shown c.in-Some.file.now c.args.class.now.class c.in-Some-method.method c.in-Some.ensures.file c.args.member m at
    (ap (λ (o : Option ShownMethod). option_map seen_method o) (sym c.in-Some-method.is) ∙ c.method.ensures.shown)
