-- Stores, as the code makes them: an item is taken, and put into local variables.
use Rattle.std.proofs.Common.{◌≡◌, ℕ, List, Option, Some, None, sym, ap, ◌∙◌}
use Rattle.jv_format.specs.Format.{◌>>=◌}
use Rattle.jv_stackmap.specs.Types.{FrameType}
use Rattle.jv_stackmap.specs.Frames.{Frame, type_by_words}
use Rattle.jv_code.specs.declared.kinds.ValueKind.{ValueKind}
use Rattle.jv_meaning_typing.specs.FrameChanges.{with_stack as stack_of, with_locals as locals_of, stored, taken_of_kind}
use Rattle.jv_meaning_typing.specs.ValueRules.{store}
use Rattle.jv_verify_types.specs.Typed.{typed, typed_all}
use Rattle.jv_verify_types.specs.Numbered.{Item, NumberFrame, frame_of, topped, with_locals}

module _ (names : List (List ℕ)) (kind : ValueKind) (index : ℕ) where
  -- what is left of a store when an item was taken from a frame
  abbrev behind : Frame → FrameType × List FrameType → Option Frame
  behind frame popped = stored (type_by_words popped.0) index frame.locals >>= λ locals. Some (locals_of (stack_of frame popped.1) locals)

  pub stored_in : (old mid new : NumberFrame) (item : Item) → taken_of_kind kind (typed_all names old.stack) ≡ Some (typed names item, typed_all names mid.stack) → old ≡ topped mid item
      → stored (type_by_words (typed names item)) index (typed_all names mid.locals) ≡ Some (typed_all names new.locals) → new ≡ with_locals new.locals mid
      → store kind index (frame_of names old) ≡ Some (frame_of names new)
  stored_in old mid new item taken top stores same =
      ap (λ o. o >>= behind (frame_of names old)) taken
      ∙ (ap (λ (f : NumberFrame). behind (frame_of names f) (typed names item, typed_all names mid.stack)) top
      ∙ (ap (λ o. o >>= λ locals. Some (locals_of (stack_of (frame_of names (topped mid item)) (typed_all names mid.stack)) locals)) stores
      ∙ ap (λ (f : NumberFrame). Some (frame_of names f)) (sym same)))

  pub not_stored : (old mid : NumberFrame) (item : Item) → taken_of_kind kind (typed_all names old.stack) ≡ Some (typed names item, typed_all names mid.stack) → old ≡ topped mid item
      → stored (type_by_words (typed names item)) index (typed_all names mid.locals) ≡ None → store kind index (frame_of names old) ≡ None
  not_stored old mid item taken top stores =
      ap (λ o. o >>= behind (frame_of names old)) taken
      ∙ (ap (λ (f : NumberFrame). behind (frame_of names f) (typed names item, typed_all names mid.stack)) top
      ∙ ap (λ o. o >>= λ locals. Some (locals_of (stack_of (frame_of names (topped mid item)) (typed_all names mid.stack)) locals)) stores)

  pub none_taken : (old : NumberFrame) → taken_of_kind kind (typed_all names old.stack) ≡ None → store kind index (frame_of names old) ≡ None
  none_taken old taken = ap (λ o. o >>= behind (frame_of names old)) taken
