-- Local variables against entries, from the last on.
use Rattle.std.proofs.Common.{◌≡◌, ℕ, zero, suc, ◌+◌, ◌-◌, ◌<◌, ◌≤◌, Bool, true, false, ◌&&◌, List, [], ◌∷◌, ◌++◌, length, drop, reverse, replicate, Option, Some, None, refl, sym, ap, subst, get_or, ◌∙◌, arith, append_assoc, length-append, length-drop}
use Rattle.std.specs.Prelude.{slice_get}
use Rattle.std.proofs.lemmas.Option.{slice_get_within}
use Rattle.std.specs.List.{flat_map}
use Rattle.std.specs.Option.{option_map}
use Rattle.std.proofs.lemmas.List.{reverse-append, length-map, drop-drop}
use Rattle.std.proofs.lemmas.List.Sums.{sum_by-cons}
use Rattle.std.proofs.lemmas.Option.{slice_get-get_or}
use Rattle.std.proofs.lemmas.List.Sorted.{IsPermutation-reverse, sum_by-IsPermutation}
use Rattle.std.proofs.lemmas.Grind.{flat_map-append}
use Rattle.jv_stackmap.specs.declared.entry.FrameEntry.{FrameEntry}
use Rattle.jv_stackmap.specs.declared.entry.FrameEntry.TheVariants as entries
use Rattle.jv_stackmap.specs.declared.verification.VerificationTypeOf.TheVariants as types
use Rattle.jv_stackmap.specs.Frames.{type_by_words, expanded}
use Rattle.jv_stackmap.specs.Types.{FrameType, width, words}
use Rattle.jv_meaning_world.specs.Flow.{flows}
use Rattle.jv_meaning_world.specs.FrameFlow.{all_flow}
use Rattle.jv_meaning_world.specs.World.{World}
use Rattle.jv_meaning_typing.specs.Rule.{without_object}
use Rattle.jv_verify_types.specs.Typed.{TypeWorld, typed, typed_all}
use Rattle.jv_verify_types.specs.Numbered.{Item}
use Rattle.jv_verify_flow.specs.Inside.Behind.{left_in, narrow_item, words_of_entries, FlowsBehind}
use Rattle.jv_verify_flow.proofs.Lists.{at_place, behind_front, too_few, to_tops}

-- ---- words

pub words_more : (e : FrameType) (es : List FrameType) → words_of_entries (e ∷ es) ≡ words_of_entries es ++ type_by_words e
words_more e es =
    ap (flat_map type_by_words) (reverse-append (e ∷ []) es)
    ∙ (flat_map-append type_by_words (reverse es) (e ∷ []) ∙ ap (λ ws. words_of_entries es ++ ws) (append_nil (type_by_words e)))
  where
    append_nil : (xs : List FrameType) → xs ++ [] ≡ xs
    append_nil [] = refl
    append_nil (x ∷ xs) = ap (λ l. x ∷ l) (append_nil xs)

pub one_width : (e : FrameType) → length (type_by_words e) ≡ width e
one_width types.Long = refl
one_width types.Top = refl
one_width types.Int = refl
one_width types.Null = refl
one_width types.UninitializedThis = refl
one_width (types.Class name) = refl
one_width (types.Array type) = refl
one_width (types.Uninitialized offset) = refl

pub words_length : (es : List FrameType) → length (words_of_entries es) ≡ words es
words_length [] = refl
words_length (e ∷ es) =
    ap length (words_more e es)
    ∙ omega (arith, length-append (words_of_entries es) (type_by_words e), words_length es, one_width e, sum_by-cons width e es)

pub some_width : (e : FrameType) → 1 ≤ width e
some_width types.Long = omega arith
some_width types.Top = omega arith
some_width types.Int = omega arith
some_width types.Null = omega arith
some_width types.UninitializedThis = omega arith
some_width (types.Class name) = omega arith
some_width (types.Array type) = omega arith
some_width (types.Uninitialized offset) = omega arith

pub narrow_width : (names : List (List ℕ)) (entry : FrameEntry) → 1 ≡ width (typed names (narrow_item entry))
narrow_width names entries.Top = refl
narrow_width names entries.Int = refl
narrow_width names entries.Long = refl
narrow_width names entries.Null = refl
narrow_width names entries.UninitializedThis = refl
narrow_width names (entries.Object class) = refl
narrow_width names (entries.Uninitialized offset) = refl
narrow_width names (entries.Initial place) = refl

-- ---- one entry

module _ (world : World) where
  -- it flows, and what is behind it does
  one_more : (e x : FrameType) (behind rest : List FrameType) → flows world x e ≡ true → width e ≤ length (x ∷ behind)
      → all_flow (flows world) (drop (width e) (x ∷ behind)) rest ≡ true → all_flow (flows world) (x ∷ behind) (type_by_words e ++ rest) ≡ true
  one_more types.Long x [] rest f h b = absurd (omega (arith, h))
  one_more types.Long x (y ∷ behind) rest f h b = ap (λ t. t && all_flow (flows world) behind rest) f ∙ b
  one_more types.Top x behind rest f h b = ap (λ t. t && all_flow (flows world) behind rest) f ∙ b
  one_more types.Int x behind rest f h b = ap (λ t. t && all_flow (flows world) behind rest) f ∙ b
  one_more types.Null x behind rest f h b = ap (λ t. t && all_flow (flows world) behind rest) f ∙ b
  one_more types.UninitializedThis x behind rest f h b = ap (λ t. t && all_flow (flows world) behind rest) f ∙ b
  one_more (types.Class name) x behind rest f h b = ap (λ t. t && all_flow (flows world) behind rest) f ∙ b
  one_more (types.Array type) x behind rest f h b = ap (λ t. t && all_flow (flows world) behind rest) f ∙ b
  one_more (types.Uninitialized offset) x behind rest f h b = ap (λ t. t && all_flow (flows world) behind rest) f ∙ b

  -- it does not flow
  one_less : (e x : FrameType) (behind rest : List FrameType) → flows world x e ≡ false → all_flow (flows world) (x ∷ behind) (type_by_words e ++ rest) ≡ false
  one_less types.Long x behind rest f = ap (λ t. t && all_flow (flows world) behind (types.Top ∷ rest)) f
  one_less types.Top x behind rest f = ap (λ t. t && all_flow (flows world) behind rest) f
  one_less types.Int x behind rest f = ap (λ t. t && all_flow (flows world) behind rest) f
  one_less types.Null x behind rest f = ap (λ t. t && all_flow (flows world) behind rest) f
  one_less types.UninitializedThis x behind rest f = ap (λ t. t && all_flow (flows world) behind rest) f
  one_less (types.Class name) x behind rest f = ap (λ t. t && all_flow (flows world) behind rest) f
  one_less (types.Array type) x behind rest f = ap (λ t. t && all_flow (flows world) behind rest) f
  one_less (types.Uninitialized offset) x behind rest f = ap (λ t. t && all_flow (flows world) behind rest) f

  -- ---- the loop

  -- what is before an entry's words
  at_entry : (locals : List FrameType) (whole : Bool) (e : FrameType) (left : List FrameType) (at : ℕ) (so_far : FlowsBehind world locals whole (e ∷ left) at)
      → whole ≡ all_flow (flows world) locals (words_of_entries left ++ (type_by_words e ++ so_far.rest))
  at_entry locals whole e left at so_far =
      so_far.all ∙ ap (all_flow (flows world) locals) (ap (λ ws. ws ++ so_far.rest) (words_more e left) ∙ append_assoc (words_of_entries left) (type_by_words e) so_far.rest)

  pub step : (locals : List FrameType) (whole : Bool) (e : FrameType) (left : List FrameType) (at below : ℕ) (x : FrameType) → FlowsBehind world locals whole (e ∷ left) at
      → below + width e ≡ at → drop below locals ≡ x ∷ drop (suc below) locals → flows world x e ≡ true → FlowsBehind world locals whole left below
  step locals whole e left at below x so_far h d f =
      let behind = drop (suc below) locals in
      let long : width e ≤ length (x ∷ behind) = omega (arith, h, so_far.room, ap length d, length-drop below locals) in
      let same : drop (width e) (x ∷ behind) ≡ drop at locals = ap (drop (width e)) (sym d) ∙ (drop-drop (width e) below locals ∙ ap (λ n. drop n locals) h) in
      record {
        rest = type_by_words e ++ so_far.rest;
        all = at_entry locals whole e left at so_far;
        behind = ap (λ ls. all_flow (flows world) ls (type_by_words e ++ so_far.rest)) d
            ∙ one_more e x behind so_far.rest f long (ap (λ ls. all_flow (flows world) ls so_far.rest) same ∙ so_far.behind);
        counted = omega (arith, h, so_far.counted, sum_by-cons width e left);
        room = omega (arith, h, so_far.room);
      }

  pub stops : (locals : List FrameType) (whole : Bool) (e : FrameType) (left : List FrameType) (at below : ℕ) (x : FrameType) → FlowsBehind world locals whole (e ∷ left) at
      → below + width e ≡ at → drop below locals ≡ x ∷ drop (suc below) locals → flows world x e ≡ false → whole ≡ false
  stops locals whole e left at below x so_far h d f =
      let left_words : words left ≡ below = omega (arith, h, so_far.counted, sum_by-cons width e left) in
      let count : length (words_of_entries left) ≡ below = words_length left ∙ left_words in
      at_entry locals whole e left at so_far
      ∙ behind_front (flows world) (words_of_entries left) (type_by_words e ++ so_far.rest) locals (omega (arith, count, h, so_far.room))
      (ap (λ n. all_flow (flows world) (drop n locals) (type_by_words e ++ so_far.rest)) count
      ∙ (ap (λ ls. all_flow (flows world) ls (type_by_words e ++ so_far.rest)) d ∙ one_less e x (drop (suc below) locals) so_far.rest f))

  pub ends : (locals : List FrameType) (whole : Bool) (at : ℕ) → FlowsBehind world locals whole [] at → whole ≡ true
  ends locals whole at so_far = so_far.all ∙ (ap (λ n. all_flow (flows world) (drop n locals) so_far.rest) so_far.counted ∙ so_far.behind)

  pub begins : (locals : List FrameType) (n : ℕ) (es : List FrameType) → length locals ≡ n → words es ≤ n
      → FlowsBehind world locals (all_flow (flows world) locals (expanded n (reverse es))) es (words es)
  begins locals n es l h =
      let same : words (reverse es) ≡ words es = sum_by-IsPermutation width es (reverse es) (IsPermutation-reverse es) in
      record {
        rest = replicate (n - words (reverse es)) types.Top;
        all = refl;
        behind = to_tops world (drop (words es) locals) (n - words (reverse es)) (omega (arith, l, h, same, length-drop (words es) locals));
        counted = refl;
        room = omega (arith, l, h);
      }

  pub no_room : (locals : List FrameType) (n : ℕ) (es : List FrameType) → length locals ≡ n → n < words es
      → all_flow (flows world) locals (expanded n (reverse es)) ≡ false
  no_room locals n es l h =
      too_few (flows world) locals (expanded n (reverse es))
      (omega (arith, l, h, words_length es, length-append (words_of_entries es) (replicate (n - words (reverse es)) types.Top)))

-- ---- local variables, once an object cannot be used any more

pub local_at : (names : List (List ℕ)) (object : Option Item) (locals : List Item) (k : ℕ) (local : Item) → slice_get locals k ≡ Some local
    → drop k (without_object (option_map (typed names) object) (typed_all names locals))
    ≡ left_in (option_map (typed names) object) (typed names local) ∷ drop (suc k) (without_object (option_map (typed names) object) (typed_all names locals))
local_at names None locals k local e = at_place (typed names) locals k local e
local_at names (Some object) locals k local e =
    at_place (left_in (Some (typed names object))) (typed_all names locals) k (typed names local) (slice_map locals k e)
  where
    slice_map : (xs : List Item) (i : ℕ) → slice_get xs i ≡ Some local → slice_get (typed_all names xs) i ≡ Some (typed names local)
    slice_map [] i e = absurd (omega (arith, slice_get_within [] i local e))
    slice_map (x ∷ xs) zero e = let same : x ≡ local = cc in ap (λ y. Some (typed names y)) same
    slice_map (x ∷ xs) (suc i) e = slice_map xs i e

pub without_length : (names : List (List ℕ)) (object : Option Item) (locals : List Item) → length (without_object (option_map (typed names) object) (typed_all names locals)) ≡ length locals
without_length names None locals = length-map locals (typed names)
without_length names (Some object) locals = length-map (typed_all names locals) (left_in (Some (typed names object))) ∙ length-map locals (typed names)

-- ---- one entry of the code's loop

module _ (numbered : TypeWorld) (object : Option Item) (locals : List Item) (whole : Bool) (es : List FrameType) (at : ℕ) where
  abbrev left_locals : List FrameType
  left_locals = without_object (option_map (typed numbered.names) object) (typed_all numbered.names locals)

  module _ (so_far : FlowsBehind numbered.world left_locals whole es at) (e : FrameType) (left : List FrameType) (is : es ≡ e ∷ left)
      (item : Item) (w : ℕ) (wide : w ≡ width (typed numbered.names item)) (typed_as : typed numbered.names item ≡ e) where
    first : FlowsBehind numbered.world left_locals whole (e ∷ left) at
    first = subst (λ l. FlowsBehind numbered.world left_locals whole l at) is so_far

    is_wide : w ≡ width e
    is_wide = wide ∙ ap width typed_as

    pub enough : w ≤ at
    enough = omega (arith, is_wide, first.counted, sum_by-cons width e left)

    below_at : (at - w) + width e ≡ at
    below_at = omega (arith, is_wide, enough)

    pub no_local : slice_get locals (at - w) ≡ None → ⊥
    no_local none =
        let within : at - w < length locals = omega (arith, is_wide, some_width e, enough, so_far.room, without_length numbered.names object locals) in
        let some : slice_get locals (at - w) ≡ Some (get_or locals (at - w) types.Top) = slice_get-get_or locals (at - w) types.Top within in
        absurd cc

    module _ (local l : Item) (is_local : slice_get locals (at - w) ≡ Some local)
        (l_is : typed numbered.names l ≡ left_in (option_map (typed numbered.names) object) (typed numbered.names local))
        (n : TypeWorld) (same : n ≡ numbered) (result : Bool) (found : result ≡ flows n.world (typed n.names l) (typed n.names item)) where
      at_local : drop (at - w) left_locals ≡ typed numbered.names l ∷ drop (suc (at - w)) left_locals
      at_local = local_at numbered.names object locals (at - w) local is_local ∙ ap (λ x. x ∷ drop (suc (at - w)) left_locals) (sym l_is)

      found_is : result ≡ flows numbered.world (typed numbered.names l) e
      found_is = found ∙ (ap (λ (t : TypeWorld). flows t.world (typed t.names l) (typed t.names item)) same ∙ ap (flows numbered.world (typed numbered.names l)) typed_as)

      pub goes_on : result ≡ true → FlowsBehind numbered.world left_locals whole left (at - w)
      goes_on t = step numbered.world left_locals whole e left at (at - w) (typed numbered.names l) first below_at at_local (sym found_is ∙ t)

      pub flows_not : result ≡ false → whole ≡ false
      flows_not f = stops numbered.world left_locals whole e left at (at - w) (typed numbered.names l) first below_at at_local (sym found_is ∙ f)

    module _ (local : Item) (is_local : slice_get locals (at - w) ≡ Some local)
        (result : Bool) (found : result ≡ flows numbered.world (left_in (option_map (typed numbered.names) object) (typed numbered.names local)) (typed numbered.names item)) where
      abbrev left_local : FrameType
      left_local = left_in (option_map (typed numbered.names) object) (typed numbered.names local)

      left_found : result ≡ flows numbered.world left_local e
      left_found = found ∙ ap (flows numbered.world left_local) typed_as

      pub left_goes_on : result ≡ true → FlowsBehind numbered.world left_locals whole left (at - w)
      left_goes_on t = step numbered.world left_locals whole e left at (at - w) left_local first below_at (local_at numbered.names object locals (at - w) local is_local) (sym left_found ∙ t)

      pub left_flows_not : result ≡ false → whole ≡ false
      left_flows_not f = stops numbered.world left_locals whole e left at (at - w) left_local first below_at (local_at numbered.names object locals (at - w) local is_local) (sym left_found ∙ f)
