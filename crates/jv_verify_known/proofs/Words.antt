-- Local variables against the words of a frame of the stack map, one by one and as a whole.
use Rattle.std.proofs.Common.{◌≡◌, inl, inr, ℕ, zero, suc, ◌-◌, ◌<◌, ◌≤◌, Bool, true, false, ◌&&◌, ◌||◌, List, [], ◌∷◌, ◌++◌, length, map, reverse, replicate, get_or, Some, refl, sym, ap, ◌∙◌, arith, length-append}
use Rattle.std.specs.Prelude.{IsTrue, slice_get}
use Rattle.std.specs.List.{flat_map, list_any}
use Rattle.std.proofs.lemmas.Bool.{cases_lt}
use Rattle.std.proofs.lemmas.List.{ext_get_or, get_or_past, length-map, length-replicate, map-append}
use Rattle.std.proofs.lemmas.List.Sums.{sum_by-cons}
use Rattle.jv_stackmap.specs.declared.entry.FrameEntry.{FrameEntry}
use Rattle.jv_stackmap.specs.declared.entry.FrameEntry.TheVariants as entries
use Rattle.jv_stackmap.specs.declared.verification.VerificationTypeOf.TheVariants as variants
use Rattle.jv_stackmap.specs.Entries.{ReadFrame}
use Rattle.jv_stackmap.specs.Frames.{is_uninitialized_this, type_by_words}
use Rattle.jv_stackmap.specs.Types.{FrameType, width, words}
use Rattle.jv_meaning_world.specs.Flow.{flows}
use Rattle.jv_meaning_world.specs.FrameFlow.{all_flow}
use Rattle.jv_meaning_world.specs.World.{World}
use Rattle.jv_verify_types.specs.Typed.{typed, typed_all}
use Rattle.jv_verify_types.specs.Numbered.{Item}
use Rattle.jv_verify_types.specs.Mapped.{EntryTypes, expanded_entries, has_uninitialized_this, names_of_types, type_of_entry, types_of_entries, world_of_types}
use Rattle.jv_verify_frame.proofs.Replacing.{map_reversed}
use Rattle.jv_verify_maps.specs.Words.{MapWords, entry_by_words, frame_by_words, frame_has_this, locals_by_words, words_at, words_by}
use Rattle.jv_verify_known.specs.Known.{local_at, word_at, IsFrameAt}
use Rattle.jv_verify_known.specs.Inside.Flowing.{FlowBetween, OneFlowsNot}

-- ---- lists

pub map_at : {X Y : Type 0} (f : X → Y) (xs : List X) (k : ℕ) (d : X) → get_or (map f xs) k (f d) ≡ f (get_or xs k d)
map_at f [] k d = refl
map_at f (x ∷ xs) zero d = refl
map_at f (x ∷ xs) (suc k) d = map_at f xs k d

pub padded : {X : Type 0} (xs : List X) (n k : ℕ) (d : X) → get_or (xs ++ replicate n d) k d ≡ get_or xs k d
padded [] n k d = of_same n k
  where
    of_same : (n k : ℕ) → get_or (replicate n d) k d ≡ d
    of_same zero k = refl
    of_same (suc n) zero = refl
    of_same (suc n) (suc k) = of_same n k
padded (x ∷ xs) n zero d = refl
padded (x ∷ xs) n (suc k) d = padded xs n k d

-- ---- the words of entries, by their types

by_type : (types : EntryTypes) (entry : FrameEntry) (t : FrameType) → type_of_entry types entry ≡ t → map (type_of_entry types) (words_by entry t) ≡ type_by_words t
by_type types entry variants.Top e = ap (λ x. x ∷ []) e
by_type types entry variants.Int e = ap (λ x. x ∷ []) e
by_type types entry variants.Long e = ap (λ x. x ∷ variants.Top ∷ []) e
by_type types entry variants.Null e = ap (λ x. x ∷ []) e
by_type types entry variants.UninitializedThis e = ap (λ x. x ∷ []) e
by_type types entry (variants.Class name) e = ap (λ x. x ∷ []) e
by_type types entry (variants.Array type) e = ap (λ x. x ∷ []) e
by_type types entry (variants.Uninitialized offset) e = ap (λ x. x ∷ []) e

all_by_type : (types : EntryTypes) (entries : List FrameEntry)
    → map (type_of_entry types) (flat_map (entry_by_words types) entries) ≡ flat_map type_by_words (map (type_of_entry types) entries)
all_by_type types [] = refl
all_by_type types (entry ∷ more) =
    map-append (type_of_entry types) (entry_by_words types entry) (flat_map (entry_by_words types) more)
    ∙ (ap (λ ts. ts ++ map (type_of_entry types) (flat_map (entry_by_words types) more)) (by_type types entry (type_of_entry types entry) refl)
    ∙ ap (λ ts. type_by_words (type_of_entry types entry) ++ ts) (all_by_type types more))

pub typed_words : (types : EntryTypes) (locals : List FrameEntry)
    → map (type_of_entry types) (locals_by_words types locals) ≡ flat_map type_by_words (reverse (types_of_entries types locals))
typed_words types locals = all_by_type types (reverse locals) ∙ ap (flat_map type_by_words) (map_reversed (type_of_entry types) locals)

one_width : (t : FrameType) → length (type_by_words t) ≡ width t
one_width variants.Top = refl
one_width variants.Int = refl
one_width variants.Long = refl
one_width variants.Null = refl
one_width variants.UninitializedThis = refl
one_width (variants.Class name) = refl
one_width (variants.Array type) = refl
one_width (variants.Uninitialized offset) = refl

pub widths : (ts : List FrameType) → length (flat_map type_by_words ts) ≡ words ts
widths [] = refl
widths (t ∷ ts) = omega (arith, length-append (type_by_words t) (flat_map type_by_words ts), one_width t, widths ts, sum_by-cons width t ts)

pub words_many : (types : EntryTypes) (locals : List FrameEntry) → length (locals_by_words types locals) ≡ words (reverse (types_of_entries types locals))
words_many types locals =
    sym (length-map (locals_by_words types locals) (type_of_entry types)) ∙ (ap length (typed_words types locals) ∙ widths (reverse (types_of_entries types locals)))

-- ---- so are local variables of entries

pub expanded_at : (types : EntryTypes) (n k : ℕ) (locals : List FrameEntry)
    → get_or (expanded_entries types n locals) k variants.Top ≡ type_of_entry types (get_or (locals_by_words types locals) k entries.Top)
expanded_at types n k locals =
    padded (flat_map type_by_words (reverse (types_of_entries types locals))) (n - words (reverse (types_of_entries types locals))) k variants.Top
    ∙ (ap (λ ts. get_or ts k variants.Top) (sym (typed_words types locals)) ∙ map_at (type_of_entry types) (locals_by_words types locals) k entries.Top)

pub expanded_many : (types : EntryTypes) (n : ℕ) (locals : List FrameEntry) → length (locals_by_words types locals) ≤ n → length (expanded_entries types n locals) ≡ n
expanded_many types n locals room =
    let ts = reverse (types_of_entries types locals) in
    omega (
      arith,
      length-append (flat_map type_by_words ts) (replicate (n - words ts) variants.Top),
      length-replicate {A = FrameType} (n - words ts) variants.Top,
      widths ts,
      words_many types locals,
      room,
    )

pub expanded_more : (types : EntryTypes) (n : ℕ) (locals : List FrameEntry) → n < length (locals_by_words types locals) → n < length (expanded_entries types n locals)
expanded_more types n locals more =
    let ts = reverse (types_of_entries types locals) in
    omega (arith, length-append (flat_map type_by_words ts) (replicate (n - words ts) variants.Top), widths ts, words_many types locals, more)

-- ---- all flow, or one does not

module _ (world : World) where
  pub all_at : (xs ys : List FrameType) → length xs ≡ length ys → ((k : ℕ) → flows world (get_or xs k variants.Top) (get_or ys k variants.Top) ≡ true)
      → all_flow (flows world) xs ys ≡ true
  all_at [] [] e h = refl
  all_at [] (y ∷ ys) e h = absurd (omega (arith, e))
  all_at (x ∷ xs) [] e h = absurd (omega (arith, e))
  all_at (x ∷ xs) (y ∷ ys) e h = ap (λ b. b && all_flow (flows world) xs ys) (h 0) ∙ all_at xs ys (omega (arith, e)) (λ k. h (suc k))

  and_false : (b : Bool) → (b && false) ≡ false
  and_false true = refl
  and_false false = refl

  clash : true ≡ false → ⊥
  clash e = cc

  pub not_at : (xs ys : List FrameType) (k : ℕ) → flows world (get_or xs k variants.Top) (get_or ys k variants.Top) ≡ false → all_flow (flows world) xs ys ≡ false
  not_at [] [] k h = absurd (clash h)
  not_at [] (y ∷ ys) k h = refl
  not_at (x ∷ xs) [] k h = refl
  not_at (x ∷ xs) (y ∷ ys) zero h = ap (λ b. b && all_flow (flows world) xs ys) h
  not_at (x ∷ xs) (y ∷ ys) (suc k) h = ap (λ b. flows world x y && b) (not_at xs ys k h) ∙ and_false (flows world x y)

  too_few : (xs ys : List FrameType) → length xs < length ys → all_flow (flows world) xs ys ≡ false
  too_few [] [] h = absurd (omega (arith, h))
  too_few [] (y ∷ ys) h = refl
  too_few (x ∷ xs) [] h = refl
  too_few (x ∷ xs) (y ∷ ys) h = ap (λ b. flows world x y && b) (too_few xs ys (omega (arith, h))) ∙ and_false (flows world x y)

-- ---- a frame of the map

pub local_is : (types : EntryTypes) (locals : List Item) (k : ℕ) → get_or (typed_all (names_of_types types) locals) k variants.Top ≡ local_at types locals k
local_is types locals k = map_at (typed (names_of_types types)) locals k variants.Top

-- behind the last local variable there is top, and behind the last word
pub local_past : (types : EntryTypes) (locals : List Item) (k : ℕ) → length locals ≤ k → local_at types locals k ≡ variants.Top
local_past types locals k past = ap (typed (names_of_types types)) (get_or_past locals k variants.Top past)

pub word_past : (types : EntryTypes) (words : MapWords) (place k : ℕ) → length (words_at words place) ≤ k → word_at types words place k ≡ variants.Top
word_past types words place k past = ap (type_of_entry types) (get_or_past (words_at words place) k entries.Top past)

map_found : {X Y : Type 0} (f : X → Y) (xs : List X) (k : ℕ) (x : X) (d : Y) → slice_get xs k ≡ Some x → get_or (map f xs) k d ≡ f x
map_found f [] zero x d e = absurd cc
map_found f [] (suc k) x d e = absurd cc
map_found f (y ∷ xs) zero x d e = let same : y ≡ x = cc in ap f same
map_found f (y ∷ xs) (suc k) x d e = map_found f xs k x d e

module _ (types : EntryTypes) (words : MapWords) (place : ℕ) (map : ReadFrame) (at : IsFrameAt types words place map) where
  pub words_are : words_at words place ≡ frame_by_words types map
  words_are = ap (λ (w : MapWords). words_at w place) at.by_words ∙ map_found (frame_by_words types) at.frames place map [] at.there

  pub this_is : get_or words.with_this place false ≡ has_uninitialized_this types map
  this_is =
      ap (λ (w : MapWords). get_or w.with_this place false) at.by_words
      ∙ (map_found (frame_has_this types) at.frames place map false at.there
      ∙ (any_mapped (reverse map.locals) ∙ ap (list_any is_uninitialized_this) (map_reversed (type_of_entry types) map.locals)))
    where
      any_mapped : (es : List FrameEntry) → list_any (λ entry. is_uninitialized_this (type_of_entry types entry)) es ≡ list_any is_uninitialized_this (types_of_entries types es)
      any_mapped [] = refl
      any_mapped (e ∷ es) = ap (λ b. is_uninitialized_this (type_of_entry types e) || b) (any_mapped es)

  pub word_is : (n k : ℕ) → get_or (expanded_entries types n map.locals) k variants.Top ≡ word_at types words place k
  word_is n k = expanded_at types n k map.locals ∙ ap (λ ws. type_of_entry types (get_or ws k entries.Top)) (sym words_are)

  pub many : (n : ℕ) → length (words_at words place) ≤ n → length (expanded_entries types n map.locals) ≡ n
  many n room = expanded_many types n map.locals (omega (arith, ap length words_are, room))

  -- each local variable flows to its word exactly where all flow
  pub all_flow_is : (locals : List Item) (flow : Bool) → length (words_at words place) ≤ length locals
      → (IsTrue flow → FlowBetween types words locals place 0 (length (words_at words place))) → (flow ≡ false → OneFlowsNot types words locals place)
      → flow ≡ all_flow (flows (world_of_types types)) (typed_all (names_of_types types) locals) (expanded_entries types (length locals) map.locals)
  all_flow_is locals true room all one =
      sym (all_at (world_of_types types) (typed_all (names_of_types types) locals) (expanded_entries types (length locals) map.locals)
      (length-map locals (typed (names_of_types types)) ∙ sym (many (length locals) room)) each)
    where
      at_word : (k : ℕ) → flows (world_of_types types) (local_at types locals k) (word_at types words place k) ≡ true
      at_word k = elim (cases_lt k (length (words_at words place))) [
        | inl less ↦ all refl k (omega arith) less
        | inr past ↦ ap (flows (world_of_types types) (local_at types locals k)) (word_past types words place k past)
      ]

      each : (k : ℕ) → flows (world_of_types types) (get_or (typed_all (names_of_types types) locals) k variants.Top)
          (get_or (expanded_entries types (length locals) map.locals) k variants.Top) ≡ true
      each k =
          ap (λ t. flows (world_of_types types) t (get_or (expanded_entries types (length locals) map.locals) k variants.Top)) (local_is types locals k)
          ∙ (ap (flows (world_of_types types) (local_at types locals k)) (word_is (length locals) k) ∙ at_word k)
  all_flow_is locals false room all one =
      let w = one refl in
      sym (not_at (world_of_types types) (typed_all (names_of_types types) locals) (expanded_entries types (length locals) map.locals) w.0
      (ap (λ t. flows (world_of_types types) t (get_or (expanded_entries types (length locals) map.locals) w.0 variants.Top)) (local_is types locals w.0)
      ∙ (ap (flows (world_of_types types) (local_at types locals w.0)) (word_is (length locals) w.0) ∙ w.1)))

  -- none flow to more words than there are local variables
  pub no_room : (locals : List Item) → length locals < length (words_at words place)
      → false ≡ all_flow (flows (world_of_types types)) (typed_all (names_of_types types) locals) (expanded_entries types (length locals) map.locals)
  no_room locals few =
      sym (too_few (world_of_types types) (typed_all (names_of_types types) locals) (expanded_entries types (length locals) map.locals)
      (omega (
        arith,
        length-map locals (typed (names_of_types types)),
        expanded_more types (length locals) map.locals (omega (arith, few, ap length words_are)),
      )))

  -- each local variable has the type of its word exactly where all are those of the entries
  pub all_are : (locals : List Item) (n : ℕ) → length locals ≡ n → length (words_at words place) ≤ n → ((k : ℕ) → local_at types locals k ≡ word_at types words place k)
      → typed_all (names_of_types types) locals ≡ expanded_entries types n map.locals
  all_are locals n is room each =
      ext_get_or variants.Top (typed_all (names_of_types types) locals) (expanded_entries types n map.locals)
      (length-map locals (typed (names_of_types types)) ∙ (is ∙ sym (many n room)))
      (λ k less. local_is types locals k ∙ (each k ∙ sym (word_is n k)))
