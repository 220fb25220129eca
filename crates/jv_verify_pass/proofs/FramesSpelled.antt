-- The local variables of frames that were read.
use Rattle.std.proofs.Common.{◌≡◌, ℕ, suc, ◌+◌, ◌-◌, ◌<◌, ◌≤◌, Bool, true, false, List, [], ◌∷◌, ◌++◌, length, take, take-suc, map, get_or, reverse, replicate, nat_le, Option, Some, None, refl, sym, ap, subst, ◌∙◌, arith, All, length-append, if◌then◌else◌}
use Rattle.std.proofs.lemmas.Bool.{le-leb, leb-true}
use Rattle.std.proofs.lemmas.List.{length-replicate, map-append}
use Rattle.std.proofs.lemmas.List.Elements.{All-nil, All-cons, All-head, All-tail}
use Rattle.jv_format.specs.Format.{◌>>=◌}
use Rattle.jv_format.proofs.Laws.{bind_some, is_some}
use Rattle.jv_pool.specs.Constants.{Entry}
use Rattle.jv_stackmap.specs.declared.entry.FrameEntry.{FrameEntry}
use Rattle.jv_stackmap.specs.declared.item.Item.{Item as MapItem}
use Rattle.jv_stackmap.specs.declared.limits.Limits.{Limits}
use Rattle.jv_stackmap.specs.declared.verification.VerificationTypeOf.TheVariants as types
use Rattle.jv_stackmap.specs.declared.width.Width.{Width}
use Rattle.jv_stackmap.specs.Bytes.{MapForm}
use Rattle.jv_stackmap.specs.Entries.{ReadFrame, HasItsWords, HaveWidths, entry_type, frame_placed, frames_placed, word_count, words_in}
use Rattle.jv_stackmap.specs.Frames.{MapFrame, Maps, PlacedFrame, expanded, frame_behind, frames_behind, is_within, map_frame, frame_if, placed_frame, type_of}
use Rattle.jv_stackmap.specs.Types.{FrameType, width, words}
use Rattle.jv_stackmap.proofs.Typed.{fits_typed}
use Rattle.jv_verify_types.specs.Typed.{typed, typed_all}
use Rattle.jv_verify_types.specs.Numbered.{Item}
use Rattle.jv_verify_types.specs.Mapped.{EntryTypes, local_entry_words, initial_types}
use Rattle.jv_verify_flow.proofs.Behind.{words_length}
use Rattle.jv_verify_pass.proofs.Settings.{words_reversed}
use Rattle.jv_verify_flow.specs.Inside.Behind.{words_of_entries}
use Rattle.jv_verify_pass.proofs.Tests.{both, and_true}

-- ---- the widths of initial entries

pub widths_more : (names : List (List ℕ)) (entries : List Item) (k : ℕ) (d : Item) (widths : List Width) (w : Width) → k < length entries → width (typed names (get_or entries k d)) ≡ word_count w
    → HaveWidths (typed_all names (take k entries)) widths → HaveWidths (typed_all names (take (k + 1) entries)) (widths ++ w ∷ [])
widths_more names entries k d widths w lt one so_far =
    let next : k + 1 ≡ suc k = omega arith in
    let item = get_or entries k d in
    record {
      alike = ap (λ (n : ℕ). map width (typed_all names (take n entries))) next
          ∙ (ap (λ (xs : List Item). map width (typed_all names xs)) (take-suc entries k d lt)
          ∙ (ap (map width) (map-append (typed names) (take k entries) (item ∷ []))
          ∙ (map-append width (typed_all names (take k entries)) (typed names item ∷ [])
          ∙ (ap (λ (ns : List ℕ). ns ++ width (typed names item) ∷ []) so_far.alike
          ∙ (ap (λ (n : ℕ). map word_count widths ++ n ∷ []) one ∙ sym (map-append word_count widths (w ∷ [])))))));
    }

-- ---- words by the widths of initial entries are those of the types

module _ (pool : List Entry) (initial : List FrameType) (widths : List Width) (wide : HaveWidths initial widths) (es : List FrameEntry) where
  -- both are within the same limits
  alike : (n : ℕ) → nat_le (words (map (entry_type pool initial) es)) n ≡ nat_le (words_in widths es) n
  alike n =
      sym (and_true (nat_le (words (map (entry_type pool initial) es)) n))
      ∙ (fits_typed pool (record { max_locals = n; max_stack = 0 }) initial widths wide (map_frame 0 es []) ∙ and_true (nat_le (words_in widths es) n))

  pub same_words : words (map (entry_type pool initial) es) ≡ words_in widths es
  same_words =
      let typed = words (map (entry_type pool initial) es) in
      let counted = words_in widths es in
      omega (
        arith,
        leb-true typed counted (alike counted ∙ le-leb counted counted (omega arith)),
        leb-true counted typed (sym (alike typed) ∙ le-leb typed typed (omega arith)),
      )

-- ---- frames that were made have passed their test

passes : (test : MapFrame FrameType → Bool) (g f : MapFrame FrameType) → frame_if test g ≡ Some f → test f ≡ true
passes test g f e = by_test (test g) refl e
  where
    by_test : (b : Bool) → test g ≡ b → (if b then Some g else None) ≡ Some f → test f ≡ true
    by_test true t e = ap test (sym (is_some g f e)) ∙ t
    by_test false t e = absurd cc

abbrev AllPass : (MapFrame FrameType → Bool) → List (MapFrame FrameType) → Type 0
AllPass test fs = All (λ f. test f ≡ true) fs

all_passed : (type_of : MapItem → Option FrameType) (test : MapFrame FrameType → Bool) (base : ℕ) (before : List FrameType) (forms : List MapForm) (fs : List (MapFrame FrameType))
    → frames_behind type_of test base before forms ≡ Some fs → AllPass test fs
all_passed type_of test base before [] fs e = subst (λ (fs : List (MapFrame FrameType)). AllPass test fs) (is_some [] fs e) (All-nil (λ f. test f ≡ true))
all_passed type_of test base before (form ∷ more) fs e =
    let f = bind_some (frame_behind type_of base before form >>= frame_if test) (λ f. frames_behind type_of test (f.offset + 1) f.locals more >>= λ fs. Some (f ∷ fs)) fs e in
    let rest = bind_some (frames_behind type_of test (f.0.offset + 1) f.0.locals more) (λ fs. Some (f.0 ∷ fs)) fs f.2 in
    let g = bind_some (frame_behind type_of base before form) (frame_if test) f.0 f.1 in
    subst (λ (fs : List (MapFrame FrameType)). AllPass test fs) (is_some (f.0 ∷ rest.0) fs rest.2)
    (All-cons (λ f. test f ≡ true) f.0 rest.0 (passes test g.0 f.0 g.2) (all_passed type_of test (f.0.offset + 1) f.0.locals more rest.0 rest.1))

-- ---- the words of local entries, by the local variables that they come to

expanded_length : (max_locals : ℕ) (ts : List FrameType) → length (expanded max_locals (reverse ts)) ≡ words ts + (max_locals - words ts)
expanded_length max_locals ts =
    omega (
      arith,
      length-append (words_of_entries ts) (replicate (max_locals - words (reverse ts)) types.Top),
      words_length ts,
      length-replicate {A = FrameType} (max_locals - words (reverse ts)) types.Top,
      words_reversed ts,
    )

same_head : {A : Type 0} (x y : A) (xs ys : List A) → x ∷ xs ≡ y ∷ ys → x ≡ y
same_head x y xs ys e = cc

same_tail : {A : Type 0} (x y : A) (xs ys : List A) → x ∷ xs ≡ y ∷ ys → xs ≡ ys
same_tail x y xs ys e = cc

module _ (pool : List Entry) (initial : List FrameType) (limits : Limits) where
  abbrev typed_words : ReadFrame → ℕ
  typed_words f = words (map (entry_type pool initial) f.locals)

  abbrev placed_of : ReadFrame → PlacedFrame
  placed_of f = frame_placed pool initial limits.max_locals f

  one_within : (f : ReadFrame) (e : MapFrame FrameType) → placed_of f ≡ placed_frame limits.max_locals e → is_within limits e ≡ true → typed_words f ≤ limits.max_locals
  one_within f e same h =
      let long : length (placed_of f).frame.locals ≡ length (expanded limits.max_locals (reverse e.locals)) = ap (λ (p : PlacedFrame). length p.frame.locals) same in
      let room : words e.locals ≤ limits.max_locals = leb-true (words e.locals) limits.max_locals (both (nat_le (words e.locals) limits.max_locals) (nat_le (words e.stack) limits.max_stack) h).0 in
      omega (arith, long, room, expanded_length limits.max_locals (map (entry_type pool initial) f.locals), expanded_length limits.max_locals e.locals)

  all_within : (frames : List ReadFrame) (es : List (MapFrame FrameType)) → map placed_of frames ≡ map (placed_frame limits.max_locals) es → AllPass (is_within limits) es
      → All (λ f. typed_words f ≤ limits.max_locals) frames
  all_within [] es same h = All-nil (λ f. typed_words f ≤ limits.max_locals)
  all_within (f ∷ frames) [] same h = absurd cc
  all_within (f ∷ frames) (e ∷ es) same h =
      All-cons (λ f. typed_words f ≤ limits.max_locals) f frames
      (one_within f e (same_head (placed_of f) (placed_frame limits.max_locals e) (map placed_of frames) (map (placed_frame limits.max_locals) es)
      same) (All-head (λ f. is_within limits f ≡ true) e es h))
      (all_within frames es (same_tail (placed_of f) (placed_frame limits.max_locals e) (map placed_of frames)
      (map (placed_frame limits.max_locals) es) same) (All-tail (λ f. is_within limits f ≡ true) e es h))

-- ---- frames that were read

module _ (types : EntryTypes) (limits : Limits) (bytes : List ℕ) (widths : List Width) (wide : HaveWidths (initial_types types) widths)
    (frames : List ReadFrame) (own : All (HasItsWords widths) frames) where
  one_words : (f : ReadFrame) → HasItsWords widths f → f.local_words ≡ local_entry_words types f
  one_words f h = h ∙ sym (same_words types.constants.pool (initial_types types) widths wide f.locals)

  pub have_words : All (λ f. f.local_words ≡ local_entry_words types f) frames
  have_words = λ k d lt. one_words (get_or frames k d) (own k d lt)

  pub have_room : Maps types.constants.pool limits (initial_types types) bytes (frames_placed types.constants.pool (initial_types types) limits.max_locals frames)
      → All (λ f. f.local_words ≤ limits.max_locals) frames
  have_room m =
      let within = all_within types.constants.pool (initial_types types) limits frames m.entries m.expand
      (all_passed (type_of types.constants.pool) (is_within limits) 0 (reverse (initial_types types)) m.forms m.entries m.made) in
      λ k d lt. omega (arith, within k d lt, have_words k d lt)
