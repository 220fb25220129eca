-- All copies of a type in a frame give way to another (JVMS 4.10.1.9: new, invokespecial).
use Rattle.std.proofs.Common.{◌≡◌, Bool, true, false, ◌||◌, List, [], ◌∷◌, Some, refl, sym, ap, subst, ◌∙◌}
use Rattle.std.specs.Prelude.{if◌then◌else◌}
use Rattle.std.specs.List.{list_any}
use Rattle.jv_stackmap.specs.declared.verification.VerificationTypeOf.TheVariants as types
use Rattle.jv_stackmap.specs.declared.width.Width.TheVariants.{One}
use Rattle.jv_stackmap.specs.Types.{FrameType}
use Rattle.jv_meaning_typing.specs.FrameChanges.{is_same_object, replaced}
use Rattle.jv_meaning_machine.specs.Values.{Value}
use Rattle.jv_sound.specs.Values.{Place, FitsIn, HasStack, IsPaired, HasLocals, type_width}
use Rattle.jv_sound.proofs.Logic.{clash}

-- ---- all copies of a type give way to another

same_narrow : (u t : FrameType) → is_same_object u t ≡ true → type_width t ≡ One
same_narrow u types.Long e = absurd (no u e)
  where
    no : (u : FrameType) → is_same_object u types.Long ≡ true → ⊥
    no types.UninitializedThis e = clash e
    no (types.Uninitialized o) e = clash e
    no _ e = clash e
same_narrow u _ e = refl

unpaired : (z : FrameType) (vs : List Value) → type_width z ≡ One → IsPaired z vs
unpaired types.Long vs n = absurd cc
unpaired _ vs n = tt

pub replaced_pair : (u z t : FrameType) (vs : List Value) → type_width z ≡ One → IsPaired t vs
    → IsPaired (if is_same_object u t then z else t) vs
replaced_pair u z t vs n p = go (is_same_object u t)
  where
    go : (b : Bool) → IsPaired (if b then z else t) vs
    go true = unpaired z vs n
    go false = p

module _ (x y : Place) (u z : FrameType) (n : type_width z ≡ One) (one : (t : FrameType) (v : Value) → FitsIn x t v
    → FitsIn y (if is_same_object u t then z else t) v) where
  pub replaced_locals : (ts : List FrameType) (vs : List Value) → HasLocals x ts vs → HasLocals y (replaced u z ts) vs
  replaced_locals [] [] f = tt
  replaced_locals (t ∷ ts) (v ∷ vs) f = (one t v f.0, replaced_pair u z t vs n f.1, replaced_locals ts vs f.2)
  replaced_locals _ _ f = absurd f

  replaced_width : (t : FrameType) (v : Value) → Rattle.jv_meaning_machine.specs.Values.value_width v ≡ Some (type_width t)
      → Rattle.jv_meaning_machine.specs.Values.value_width v ≡ Some (type_width (if is_same_object u t then z else t))
  replaced_width t v e = go (is_same_object u t) refl
    where
      go : (b : Bool) → is_same_object u t ≡ b → Rattle.jv_meaning_machine.specs.Values.value_width v ≡ Some
          (type_width (if b then z else t))
      go true k = e ∙ ap Some (same_narrow u t k ∙ sym n)
      go false k = e

  pub replaced_stack : (ts : List FrameType) (vs : List Value) → HasStack x ts vs → HasStack y (replaced u z ts) vs
  replaced_stack [] [] f = tt
  replaced_stack (t ∷ ts) (v ∷ vs) f = (record { fits = one t v f.0.fits; width = replaced_width t v f.0.width }, replaced_stack ts vs f.1)
  replaced_stack _ _ f = absurd f

  pub lacking_stack : (ts : List FrameType) (vs : List Value) → list_any (is_same_object u) ts ≡ false → HasStack x ts vs → HasStack y ts vs
  lacking_stack [] [] l f = tt
  lacking_stack (t ∷ ts) (v ∷ vs) l f =
      let k = neither (is_same_object u t) (list_any (is_same_object u) ts) l in (
        record {
          fits = subst (λ (b : Bool). FitsIn y (if b then z else t) v) k.0
              (one t v f.0.fits);
          width = f.0.width;
        },
        lacking_stack ts vs k.1 f.1,
      )
    where
      neither : (a b : Bool) → (a || b) ≡ false → (a ≡ false) × (b ≡ false)
      neither false b e = (refl, e)
      neither true b e = absurd (clash (sym e))
  lacking_stack _ _ l f = absurd f
