-- Items that a form of the stack takes, as the code takes them.
use Rattle.std.proofs.Common.{◌≡◌, ℕ, List, ◌∷◌, ◌++◌, Option, Some, None, refl, sym, ap, ◌∙◌}
use Rattle.std.specs.Option.{option_map}
use Rattle.std.proofs.lemmas.List.{map-append}
use Rattle.jv_format.specs.Format.{◌>>=◌}
use Rattle.jv_stackmap.specs.Frames.{Frame}
use Rattle.jv_code.specs.declared.kinds.StackForm.{StackForm}
use Rattle.jv_code.specs.declared.kinds.StackForm.TheVariants as forms
use Rattle.jv_stackmap.specs.declared.width.Width.TheVariants.{One}
use Rattle.jv_stackmap.specs.Types.{FrameType}
use Rattle.jv_meaning_typing.specs.FrameChanges.{item_width, with_stack as stack_of}
use Rattle.jv_meaning_typing.specs.StackForms.{words_behind, top_words, item_before, taken_words, passed_words, arranged}
use Rattle.jv_meaning_typing.specs.ValueRules.{move_words}
use Rattle.jv_verify_types.specs.Typed.{typed, typed_all}
use Rattle.jv_verify_types.specs.Numbered.{Item, NumberFrame, topped, with_stack, frame_of}
use Rattle.jv_verify_rules.specs.declared.forms.Words.{Words}
use Rattle.jv_verify_rules.specs.Inside.Words.{items_in, arranged_words, AreTaken, IsBelow}

module _ (names : List (List ℕ)) (first : Item) where
  as_map : (o : Option (List FrameType × List FrameType)) → (o >>= λ parts. Some (item_before (typed names first) parts)) ≡ option_map (item_before (typed names first)) o
  as_map None = refl
  as_map (Some parts) = refl

  two_words : (below : List FrameType) → item_width (typed names first) ≡ Some One
      → top_words item_width 2 (typed names first ∷ below) ≡ option_map (item_before (typed names first)) (top_words item_width 1 below)
  two_words below one =
      ap (λ o. words_behind 2 o >>= λ left. top_words item_width left below >>= λ parts. Some (item_before (typed names first) parts)) one
      ∙ as_map (top_words item_width 1 below)

  pub two_taken : (old mid new : NumberFrame) (result : Option Words) → old ≡ topped mid first → item_width (typed names first) ≡ Some One
      → IsBelow names first (top_words item_width 1 (typed_all names mid.stack)) mid new result
      → AreTaken names (top_words item_width 2 (typed_all names old.stack)) old new result
  two_taken old mid new None top one below =
      ap (λ (f : NumberFrame). top_words item_width 2 (typed_all names f.stack)) top
      ∙ (two_words (typed_all names mid.stack) one ∙ ap (option_map (item_before (typed names first))) below)
  two_taken old mid new (Some words) top one below = (
    ap (λ (f : NumberFrame). top_words item_width 2 (typed_all names f.stack)) top ∙ (two_words (typed_all names mid.stack) one ∙ below.0),
    below.1 ∙ ap (with_stack new.stack) (sym top),
  )

-- ---- a form

arranged_typed : (names : List (List ℕ)) (form : StackForm) (a b : List Item) → typed_all names (arranged form a b) ≡ arranged form (typed_all names a) (typed_all names b)
arranged_typed names forms.Pop a b = refl
arranged_typed names forms.Pop2 a b = refl
arranged_typed names forms.Swap a b = map-append (typed names) b a
arranged_typed names forms.Dup a b = map-append (typed names) a (b ++ a) ∙ ap (λ ts. typed_all names a ++ ts) (map-append (typed names) b a)
arranged_typed names forms.DupX1 a b = map-append (typed names) a (b ++ a) ∙ ap (λ ts. typed_all names a ++ ts) (map-append (typed names) b a)
arranged_typed names forms.DupX2 a b = map-append (typed names) a (b ++ a) ∙ ap (λ ts. typed_all names a ++ ts) (map-append (typed names) b a)
arranged_typed names forms.Dup2 a b = map-append (typed names) a (b ++ a) ∙ ap (λ ts. typed_all names a ++ ts) (map-append (typed names) b a)
arranged_typed names forms.Dup2X1 a b = map-append (typed names) a (b ++ a) ∙ ap (λ ts. typed_all names a ++ ts) (map-append (typed names) b a)
arranged_typed names forms.Dup2X2 a b = map-append (typed names) a (b ++ a) ∙ ap (λ ts. typed_all names a ++ ts) (map-append (typed names) b a)

module _ (names : List (List ℕ)) (form : StackForm) where
  abbrev passing : List FrameType × List FrameType → Option (List FrameType)
  passing a = top_words item_width (passed_words form) a.1 >>= λ b. Some (arranged form a.0 b.0 ++ b.1)

  abbrev left : Frame → Option (List FrameType) → Option Frame
  left frame stack = option_map (stack_of frame) stack

  pub not_taken : (old : NumberFrame) → top_words item_width (taken_words form) (typed_all names old.stack) ≡ None → move_words form (frame_of names old) ≡ None
  not_taken old none = ap (λ o. left (frame_of names old) (o >>= passing)) none

  pub not_passed : (old mid : NumberFrame) (a : Words)
      → AreTaken names (top_words item_width (taken_words form) (typed_all names old.stack)) old mid (Some a)
      → top_words item_width (passed_words form) (typed_all names mid.stack) ≡ None → move_words form (frame_of names old) ≡ None
  not_passed old mid a taken none =
      ap (λ o. left (frame_of names old) (o >>= passing)) taken.0
      ∙ ap (λ o. left (frame_of names old) (o >>= λ b. Some (arranged form (typed_all names (items_in a)) b.0 ++ b.1))) none

  pub moved : (old mid low new : NumberFrame) (a b : Words)
      → AreTaken names (top_words item_width (taken_words form) (typed_all names old.stack)) old mid (Some a)
      → AreTaken names (top_words item_width (passed_words form) (typed_all names mid.stack)) mid low (Some b)
      → new ≡ with_stack (arranged_words form a b ++ low.stack) low → move_words form (frame_of names old) ≡ Some (frame_of names new)
  moved old mid low new a b taken passed is =
      ap (λ o. left (frame_of names old) (o >>= passing)) taken.0
      ∙ (ap (λ o. left (frame_of names old) (o >>= λ b. Some (arranged form (typed_all names (items_in a)) b.0 ++ b.1))) passed.0
      ∙ (ap (λ ts. left (frame_of names old) (Some ts))
      (sym (map-append (typed names) (arranged_words form a b) low.stack ∙ ap (λ ts. ts ++ typed_all names low.stack)
      (arranged_typed names form (items_in a) (items_in b))))
      ∙ (ap (λ (f : NumberFrame). Some (frame_of names (with_stack (arranged_words form a b ++ low.stack) f))) (sym (passed.1 ∙ ap (with_stack low.stack) taken.1))
      ∙ ap (λ (f : NumberFrame). Some (frame_of names f)) (sym is))))
