-- New objects, as the code makes them.
use Rattle.std.proofs.Common.{◌≡◌, ℕ, true, false, List, Some, None, not, sym, ap, ◌∙◌, [], ◌∷◌, refl}
use Rattle.std.specs.List.{list_any}
use Rattle.jv_format.specs.Format.{◌>>=◌}
use Rattle.jv_code.specs.declared.kinds.ValueKind.TheVariants as kinds
use Rattle.jv_stackmap.specs.declared.verification.VerificationTypeOf.TheVariants as types
use Rattle.jv_stackmap.specs.Types.{FrameType}
use Rattle.jv_stackmap.specs.Frames.{Frame}
use Rattle.jv_meaning_world.specs.World.{World}
use Rattle.jv_meaning_typing.specs.FrameChanges.{with_stack as stack_of, with_locals as locals_of, is_same_object, replaced, taken, taken_of_kind}
use Rattle.jv_meaning_typing.specs.Named.{when}
use Rattle.jv_meaning_typing.specs.ValueRules.{pushed, take_reference, with_component, reference_array_load}
use Rattle.jv_verify_types.specs.Typed.{typed, typed_all}
use Rattle.jv_verify_types.specs.Numbered.{Item, NumberFrame, frame_of, topped, with_locals, with_stack}
use Rattle.jv_verify_rules.specs.Inside.Objects.{new_object}

module _ (names : List (List ℕ)) (pc : ℕ) where
  abbrev fresh : NumberFrame → Frame
  fresh old = pushed (locals_of (frame_of names old) (replaced (types.Uninitialized pc) types.Top (typed_all names old.locals))) (types.Uninitialized pc)

  pub not_made : (old : NumberFrame) → list_any (is_same_object (types.Uninitialized pc)) (typed_all names old.stack) ≡ true → new_object pc (frame_of names old) ≡ None
  not_made old there = ap (λ b. when (not b) (fresh old)) there

  pub made : (old new : NumberFrame) → list_any (is_same_object (types.Uninitialized pc)) (typed_all names old.stack) ≡ false
      → typed_all names new.locals ≡ replaced (types.Uninitialized pc) types.Top (typed_all names old.locals) → new ≡ with_locals new.locals old
      → new_object pc (frame_of names old) ≡ Some (frame_of names (topped new (types.Uninitialized pc)))
  made old new none locals same =
      ap (λ b. when (not b) (fresh old)) none
      ∙ (ap (λ ls. Some (pushed (locals_of (frame_of names old) ls) (types.Uninitialized pc))) (sym locals)
      ∙ ap (λ (f : NumberFrame). Some (frame_of names (topped f (types.Uninitialized pc)))) (sym same))

-- ---- references

module _ (names : List (List ℕ)) where
  pub reference_taken : (old mid : NumberFrame) (item : Item) → taken_of_kind kinds.Reference (typed_all names old.stack) ≡ Some (typed names item, typed_all names mid.stack)
      → old ≡ topped mid item → take_reference (frame_of names old) ≡ Some (frame_of names mid)
  reference_taken old mid item taken top =
      ap (λ o. o >>= λ popped. Some (stack_of (frame_of names old) popped.1)) taken
      ∙ ap (λ (f : NumberFrame). Some (stack_of (frame_of names f) (typed_all names mid.stack))) top

  pub no_reference : (old : NumberFrame) → taken_of_kind kinds.Reference (typed_all names old.stack) ≡ None → take_reference (frame_of names old) ≡ None
  no_reference old taken = ap (λ o. o >>= λ popped. Some (stack_of (frame_of names old) popped.1)) taken

-- ---- components

-- what is left of an array's load when its index was taken
pub component_behind : (names : List (List ℕ)) (world : World) (old mid : NumberFrame) → taken world (types.Int ∷ []) (typed_all names old.stack) ≡ Some (typed_all names mid.stack)
    → mid ≡ with_stack mid.stack old → reference_array_load world (frame_of names old) ≡ with_component (frame_of names mid) (typed_all names mid.stack)
component_behind names world old mid e same =
    ap (λ o. o >>= with_component (frame_of names old)) e
    ∙ (alike (typed_all names mid.stack) ∙ sym (ap (λ (f : NumberFrame). with_component (frame_of names f) (typed_all names mid.stack)) same))
  where
    alike : (stack : List FrameType) → with_component (frame_of names old) stack ≡ with_component (frame_of names (with_stack mid.stack old)) stack
    alike [] = refl
    alike (array ∷ below) = refl
