-- Local variables that take the types of entries, from the last on.
use Rattle.std.proofs.Common.{◌≡◌, ℕ, zero, suc, ◌+◌, ◌-◌, ◌<◌, ◌≤◌, Bool, true, false, ◌||◌, List, [], ◌∷◌, ◌++◌, length, drop, take, get_or, reverse, replicate, Some, None, nat_le, refl, sym, ap, ◌∙◌, arith, append_assoc, length-append, if◌then◌else◌}
use Rattle.std.specs.List.{flat_map, list_any}
use Rattle.std.specs.Option.{option_map}
use Rattle.std.proofs.Math.Seq.{drop-append_seam}
use Rattle.std.proofs.lemmas.Bool.{le-leb}
use Rattle.std.proofs.lemmas.List.{replicate-append-replicate, length-replicate, reverse-append, length-map, map-append}
use Rattle.std.proofs.lemmas.List.Sorted.{IsPermutation-reverse, sum_by-IsPermutation}
use Rattle.std.proofs.Math.Seq.{take-suc}
use Rattle.jv_stackmap.proofs.Words.{FillsLocals-holds}
use Rattle.std.proofs.lemmas.List.Sums.{sum_by_push}
use Rattle.std.proofs.lemmas.Grind.{flat_map-append}
use Rattle.jv_stackmap.specs.declared.verification.VerificationTypeOf.TheVariants as types
use Rattle.jv_stackmap.specs.Frames.{type_by_words, Frame, expanded, is_uninitialized_this}
use Rattle.jv_stackmap.specs.Types.{FrameType, width, words}
use Rattle.jv_meaning_typing.specs.FrameChanges.{stored}
use Rattle.jv_verify_types.specs.Typed.{typed, typed_all}
use Rattle.jv_verify_types.specs.Numbered.{Item, NumberFrame, frame_of, Stores}
use Rattle.jv_verify_pass.specs.Inside.Locals.{SetBehind, PushedSoFar, is_this}
use Rattle.jv_verify_flow.proofs.Behind.{one_width}

same_some : {A : Type 0} (x y : A) → Some x ≡ Some y → x ≡ y
same_some x y e = cc

-- ---- what a store does to local variables that hold nothing up to there

pub stored_top : (ws : List FrameType) (below m : ℕ) (rest : List FrameType) → m ≡ below + length ws →
    stored ws below (replicate m types.Top ++ rest) ≡ Some (replicate below types.Top ++ (ws ++ rest))
stored_top ws zero m rest h =
    let ls = replicate m types.Top ++ rest in
    let tops : length (replicate m types.Top) ≡ length ws = omega (arith, h, length-replicate {A = FrameType} m types.Top) in
    let enough : nat_le (length ws) (length ls) ≡ true = le-leb (length ws) (length ls) (omega (arith, tops, length-append (replicate m types.Top) rest)) in
    let behind : drop (length ws) ls ≡ rest = ap (λ n. drop n ls) (sym tops) ∙ drop-append_seam (replicate m types.Top) rest in
    ap (λ b. if b then Some (ws ++ drop (length ws) ls) else None) enough ∙ ap (λ d. Some (ws ++ d)) behind
stored_top ws (suc below) zero rest h = absurd (omega (arith, h))
stored_top ws (suc zero) (suc m) rest h = ap (option_map (λ r. types.Top ∷ r)) (stored_top ws zero m rest (omega (arith, h)))
stored_top ws (suc (suc below)) (suc m) rest h = ap (option_map (λ r. types.Top ∷ r)) (stored_top ws (suc below) m rest (omega (arith, h)))

-- a store that could be made was made
pub was_stored : (result : Bool) (ws : List FrameType) (at : ℕ) (old new all : List FrameType) → Stores result ws at old new → stored ws at old ≡ Some all → new ≡ all
was_stored true ws at old new all s e = same_some new all (sym s ∙ e)
was_stored false ws at old new all s e = absurd cc

-- ---- the loop

pub set_one : (now whole left : List FrameType) (at below : ℕ) (e : FrameType) (es : List FrameType) (result : Bool) (new : List FrameType)
    → SetBehind now whole es at → es ≡ left ++ e ∷ [] → below + width e ≡ at → Stores result (type_by_words e) below now new → SetBehind new whole left below
set_one now whole left at below e es result new so_far is h s =
    let ws = type_by_words e in
    let made : stored ws below now ≡ Some (replicate below types.Top ++ (ws ++ so_far.rest)) =
    ap (stored ws below) so_far.set ∙ stored_top ws below at so_far.rest (omega (arith, h, one_width e)) in
    record {
      rest = ws ++ so_far.rest;
      set = was_stored result ws below now new _ s made;
      all = so_far.all
          ∙ (ap (λ l. flat_map type_by_words l ++ so_far.rest) is
          ∙ (ap (λ l. l ++ so_far.rest) (flat_map-append type_by_words left (e ∷ []) ∙ ap (λ l. flat_map type_by_words left ++ l) (append_nil ws))
          ∙ append_assoc (flat_map type_by_words left) ws so_far.rest));
      counted = omega (arith, h, so_far.counted, ap words is, sum_by_push width left e);
    }
  where
    append_nil : (xs : List FrameType) → xs ++ [] ≡ xs
    append_nil [] = refl
    append_nil (x ∷ xs) = ap (λ l. x ∷ l) (append_nil xs)

pub set_room : (now whole left : List FrameType) (at : ℕ) (e : FrameType) (es : List FrameType) → SetBehind now whole es at → es ≡ left ++ e ∷ [] → width e ≤ at
set_room now whole left at e es so_far is = omega (arith, so_far.counted, ap words is, sum_by_push width left e)

pub set_end : (now whole : List FrameType) (at : ℕ) (es : List FrameType) → SetBehind now whole es at → es ≡ [] → now ≡ whole
set_end now whole at es so_far none =
    let zeros : at ≡ 0 = omega (arith, so_far.counted, ap words none) in
    so_far.set ∙ (ap (λ n. replicate n types.Top ++ so_far.rest) zeros ∙ (ap (λ l. flat_map type_by_words l ++ so_far.rest) (sym none) ∙ sym so_far.all))

tops_typed : (names : List (List ℕ)) (n : ℕ) → typed_all names (replicate n types.Top) ≡ replicate n types.Top
tops_typed names zero = refl
tops_typed names (suc n) = ap (λ l. types.Top ∷ l) (tops_typed names n)

pub set_start : (names : List (List ℕ)) (locals : List Item) (n : ℕ) (es : List FrameType) (at : ℕ) → locals ≡ replicate n types.Top → at ≡ words es → at ≤ n
    → SetBehind (typed_all names locals) (expanded n es) es at
set_start names locals n es at blank count room =
    let all : at + (n - words es) ≡ n = omega (arith, count, room) in
    record {
      rest = replicate (n - words es) types.Top;
      set = ap (typed_all names) blank ∙ (tops_typed names n ∙ (ap (λ k. replicate k types.Top) (sym all) ∙ sym (replicate-append-replicate at (n - words es) types.Top)));
      all = refl;
      counted = sym count;
    }

pub filled : (names : List (List ℕ)) (locals : List Item) (n : ℕ) (es : List FrameType) → typed_all names locals ≡ expanded n es → words es ≤ n → length locals ≡ n
filled names locals n es e h = sym (length-map locals (typed names)) ∙ (ap length e ∙ FillsLocals-holds n es (le-leb (words es) n h))

pub words_reversed : (es : List FrameType) → words es ≡ words (reverse es)
words_reversed es = sym (sum_by-IsPermutation width es (reverse es) (IsPermutation-reverse es))

pub taken_typed : (names : List (List ℕ)) (entries : List Item) (left : ℕ) (d : Item) → 0 < left → left ≤ length entries
    → typed_all names (take left entries) ≡ typed_all names (take (left - 1) entries) ++ typed names (get_or entries (left - 1) d) ∷ []
taken_typed names entries zero d some h = absurd (omega (arith, some))
taken_typed names entries (suc k) d some h =
    let one : suc k - 1 ≡ k = omega arith in
    ap (typed_all names) (take-suc entries k d (omega (arith, h)))
    ∙ (map-append (typed names) (take k entries) (get_or entries k d ∷ [])
    ∙ ap (λ j. typed_all names (take j entries) ++ typed names (get_or entries j d) ∷ []) (sym one))

-- ---- the frame that comes of it

abbrev frame_with : List FrameType → List FrameType → Bool → Frame
frame_with locals stack flag = record { locals = locals; stack = stack; flag_this_uninit = flag }

pub frame_made : (names : List (List ℕ)) (new : NumberFrame) (locals stack : List FrameType) (flag : Bool)
    → typed_all names new.locals ≡ locals → typed_all names new.stack ≡ stack → new.flag_this_uninit ≡ flag
    → frame_of names new ≡ record { locals = locals; stack = stack; flag_this_uninit = flag }
frame_made names new locals stack flag l s f =
    ap (λ x. frame_with x (typed_all names new.stack) new.flag_this_uninit) l
    ∙ (ap (λ x. frame_with locals x new.flag_this_uninit) s ∙ ap (λ x. frame_with locals stack x) f)

-- ---- a stack, the top first

pub pushed : (stack left whole : List FrameType) (e : FrameType) (es : List FrameType) → PushedSoFar stack es whole → es ≡ e ∷ left → PushedSoFar (e ∷ stack) left whole
pushed stack left whole e es so_far is =
    so_far ∙ (ap (λ l. reverse stack ++ l) is ∙ (sym (append_assoc (reverse stack) (e ∷ []) left) ∙ ap (λ l. l ++ left) (sym (reverse-append (e ∷ []) stack))))

-- ---- the flag

pub one_typed : (names : List (List ℕ)) (x : Item) → is_this x ≡ is_uninitialized_this (typed names x)
one_typed names types.Top = refl
one_typed names types.Int = refl
one_typed names types.Long = refl
one_typed names types.Null = refl
one_typed names types.UninitializedThis = refl
one_typed names (types.Class n) = refl
one_typed names (types.Array c) = refl
one_typed names (types.Uninitialized o) = refl

pub this_typed : (names : List (List ℕ)) (items : List Item) → list_any is_this items ≡ list_any is_uninitialized_this (typed_all names items)
this_typed names [] = refl
this_typed names (x ∷ items) = ap (λ b. b || list_any is_this items) (one_typed names x) ∙ ap (λ b. is_uninitialized_this (typed names x) || b) (this_typed names items)
