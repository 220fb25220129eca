-- A step that the host refused (own): nothing has changed.
use Rattle.std.proofs.Common.{◌≡◌, Bool, Result, Ok, Err, IsOk, refl, ap, ◌∙◌}
use Rattle.std.specs.Prelude.{OnErr, vec_capacity}
use Rattle.jv_interp_held.specs.declared.effect.Effect.{Effect}
use Rattle.jv_interp_held.specs.declared.effect.Effect.TheVariants as effects
use Rattle.jv_interp_held.specs.Executing.{Place, IsUnmoved}
use Rattle.jv_interp_control.specs.declared.frames.Frames.{Frames}
use Rattle.jv_interp_control.specs.Acting.{AreAsBefore}

not_ok : {E : Type 0} (refused : E) → IsOk {T = Bool} (Err refused) → ⊥
not_ok refused h = cc

-- what an instruction's effect asks for was refused, so the instruction had changed nothing
pub still :
    {E : Type 0} (effect : Effect) (r : Result Bool E) (before after : Place) → (effect ≡ effects.Goes → IsOk r) → IsUnmoved effect before after
    → OnErr r (after ≡ before)
still effect (Ok goes_on) before after going u = tt
still effects.Goes (Err refused) before after going u = absurd (not_ok refused (going refl))
still (effects.Enters number words) (Err refused) before after going u = u
still (effects.Leaves words) (Err refused) before after going u = u
still (effects.Throws address) (Err refused) before after going u = u
still (effects.Raises number) (Err refused) before after going u = u
still (effects.Begins number) (Err refused) before after going u = u

pub both : {E : Type 0} {A B C : Type 0} (r : Result Bool E) → OnErr r A → OnErr r B → (A → B → C) → OnErr r C
both (Ok goes_on) a b f = tt
both (Err refused) a b f = f a b

-- frames whose words are as they were, and which then were left as they were
pub frames_then :
    (before between after : Frames) → between.words.items ≡ before.words.items → between.records ≡ before.records → between.top ≡ before.top
    → between.left ≡ before.left → AreAsBefore between after → AreAsBefore before after
frames_then before between after words records top left a = record {
  words = a.words ∙ words;
  records = a.records ∙ ap (λ v. v.items) records;
  capacity = a.capacity ∙ ap (λ v. vec_capacity v) records;
  top = a.top ∙ top;
  left = a.left ∙ left;
}
