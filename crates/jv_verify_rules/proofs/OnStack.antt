-- The words of a stack, by the names of types.
use Rattle.std.proofs.Common.{◌≡◌, ℕ, ◌+◌, Bool, true, false, List, [], ◌∷◌, Some, None, refl, sym, ap, ◌∙◌}
use Rattle.std.specs.Prelude.{nat_le}
use Rattle.std.proofs.lemmas.List.Sums.{sum_by-cons}
use Rattle.jv_stackmap.specs.declared.verification.VerificationTypeOf.TheVariants as types
use Rattle.jv_stackmap.specs.Types.{width, words}
use Rattle.jv_meaning_typing.specs.Environment.{Environment}
use Rattle.jv_meaning_typing.specs.Named.{when}
use Rattle.jv_meaning_typing.specs.Rule.{within_stack}
use Rattle.jv_verify_types.specs.Typed.{typed, typed_all}
use Rattle.jv_verify_types.specs.Numbered.{Item, NumberFrame, frame_of, topped, item_words, stack_words}

typed_width : (names : List (List ℕ)) (item : Item) → width (typed names item) ≡ item_words item
typed_width names types.Top = refl
typed_width names types.Int = refl
typed_width names types.Long = refl
typed_width names types.Null = refl
typed_width names types.UninitializedThis = refl
typed_width names (types.Class n) = refl
typed_width names (types.Array c) = refl
typed_width names (types.Uninitialized o) = refl

typed_words : (names : List (List ℕ)) (items : List Item) → words (typed_all names items) ≡ stack_words items
typed_words names [] = refl
typed_words names (x ∷ items) =
    sum_by-cons width (typed names x) (typed_all names items)
    ∙ (ap (λ n. n + words (typed_all names items)) (typed_width names x)
    ∙ (ap (λ n. item_words x + n) (typed_words names items) ∙ sym (sum_by-cons item_words x items)))

-- ---- a frame with an item more

module _ (names : List (List ℕ)) (env : Environment) (frame : NumberFrame) (item : Item) (max_stack : ℕ) (same : env.code.max_stack ≡ max_stack) where
  by_room : within_stack env (frame_of names (topped frame item)) ≡ when (nat_le (item_words item + stack_words frame.stack) max_stack) (frame_of names (topped frame item))
  by_room =
      ap (λ n. when (nat_le n env.code.max_stack) (frame_of names (topped frame item))) (typed_words names (item ∷ frame.stack) ∙ sum_by-cons item_words item frame.stack)
      ∙ ap (λ n. when (nat_le (item_words item + stack_words frame.stack) n) (frame_of names (topped frame item))) same

  pub pushed_within : (new : NumberFrame) (room : Bool) → room ≡ nat_le (item_words item + stack_words frame.stack) max_stack → room ≡ true → new ≡ topped frame item
      → within_stack env (frame_of names (topped frame item)) ≡ Some (frame_of names new)
  pushed_within new room is e pushed =
      by_room ∙ (ap (λ b. when b (frame_of names (topped frame item))) (sym is ∙ e) ∙ ap (λ (f : NumberFrame). Some (frame_of names f)) (sym pushed))

  pub not_within : (room : Bool) → room ≡ nat_le (item_words item + stack_words frame.stack) max_stack → room ≡ false → within_stack env (frame_of names (topped frame item)) ≡ None
  not_within room is e = by_room ∙ ap (λ b. when b (frame_of names (topped frame item))) (sym is ∙ e)
