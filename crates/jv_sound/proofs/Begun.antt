-- The heap once an `<init>` is entered is later, for the frames below the caller's.
use Rattle.std.proofs.Common.{◌≡◌, ℕ, suc, refl, sym, ◌∙◌, arith}
use Rattle.jv_meaning_world.specs.Overriding.{Declared}
use Rattle.jv_meaning_machine.specs.Objects.{Instance}
use Rattle.jv_meaning_machine.specs.Objects.Object.{InstanceOf}
use Rattle.jv_meaning_machine.specs.State.{Program}
use Rattle.jv_meaning_machine.specs.Entering.{entered_on}
use Rattle.jv_sound.specs.Values.{Heap, Place}
use Rattle.jv_sound.specs.Later.{IsLater}
use Rattle.jv_sound.specs.Effects.{IsUnderConstruction, begun_on}
use Rattle.jv_sound.proofs.Logic.{clash}
use Rattle.jv_sound.proofs.Heaps.{with_set, set_later}

module _ (program : Program) (p : Place) (heap : Heap) (d : Declared) (object : ℕ) (instance : Instance)
    (u : IsUnderConstruction program p heap d object instance) where
  pub begun_is : begun_on heap d object instance (suc p.depth) ≡ with_set heap object (entered_on d instance) (suc p.depth)
  begun_is = refl

  pub begun_on_later : IsLater p.depth heap (begun_on heap d object instance (suc p.depth))
  begun_on_later =
      set_later p.depth heap object (InstanceOf instance) (entered_on d instance) (suc p.depth) u.there refl
      (λ e. absurd (clash (sym u.raw ∙ e))) (λ l. absurd (omega (arith, l, u.owner)))
