use Rattle.std.proofs.Common.{subst}
use Rattle.jv_meaning_world.specs.World.{Loaded}
use Rattle.jv_interp_objects.specs.Texts.{AreTextsOf}
use Rattle.std.proofs.Common.{◌∙◌, length, ap, arith, length-append}
use Rattle.jv_interp_objects.proofs.InTexts.{one_class_more}
use Rattle.jv_interp_objects.proofs.texts.all_texts.Goals as goal

pub loop-class-preserved : goal.loop-class-preserved
loop-class-preserved c =
    let i = c.loop-class.invariant in
    let numbers = c.in_ok-texts_of.ensures.numbers in (
      numbers.differ i.0,
      numbers.short i.1,
      ap length c.in_ok-push.ensures.items ∙ length-append c.loop-class.classes.items _ ∙ (let many = i.2 in omega (arith, many)),
      rw c.in_ok-push.ensures.items (one_class_more _ _ _ c.loop-class.classes.items _ c.loop-class.class numbers.extends i.2 i.3
          (λ m at. subst (λ (x : Loaded). AreTextsOf c.texts_of.new.names x c.in_ok-texts_of.field-0) (c.class_at.ensures m at) c.in_ok-texts_of.ensures.texts)),
    )
