-- What instructions do to a frame of known types (JVMS 4.10.1.4): the same in two worlds in which such types flow alike, and of known types.
use Rattle.std.proofs.Common.{◌≡◌, ℕ, zero, suc, Bool, true, false, ◌&&◌, ◌||◌, not, List, [], ◌∷◌, ◌++◌, length, reverse, drop, Option, Some, None, refl, ap, ◌∙◌}
use Rattle.std.specs.Prelude.{IfSome, if◌then◌else◌, nat_le}
use Rattle.std.specs.List.{AllByRecursion, list_all, list_any}
use Rattle.std.specs.Option.{option_map}
use Rattle.jv_format.specs.Format.{◌>>=◌}
use Rattle.jv_stackmap.specs.declared.verification.VerificationTypeOf.TheVariants as types
use Rattle.jv_stackmap.specs.Types.{FrameType}
use Rattle.jv_stackmap.specs.Frames.{Frame, type_by_words}
use Rattle.jv_code.specs.declared.kinds.StackForm.{StackForm}
use Rattle.jv_code.specs.declared.kinds.StackForm.TheVariants as forms
use Rattle.jv_code.specs.declared.kinds.ValueKind.{ValueKind}
use Rattle.jv_meaning_world.specs.World.{World}
use Rattle.jv_meaning_world.specs.Flow.{flows}
use Rattle.jv_meaning_world.specs.FrameFlow.{all_flow, item_flows, frame_flows}
use Rattle.jv_meaning_typing.specs.FrameChanges.{with_stack, is_of_kind, taken_as_all, taken_as_any, taken_of_kind, taken_downward, taken, exchanged, item_width, stored, is_same_object, replaced}
use Rattle.jv_meaning_typing.specs.StackForms.{words_behind, item_before, top_words, taken_words, passed_words, arranged, rearranged}
use Rattle.jv_meaning_library.proofs.Answers.{KnownType}
use Rattle.jv_meaning_library.proofs.Steps.{SameIf, nothing, given, passed, bound, each_appended, each_reversed, each_dropped, each_mapped, each_weaker, all_alike, any_alike}

abbrev pub AllKnown : (List ℕ → Bool) → List FrameType → Type 0
AllKnown known ts = AllByRecursion (KnownType known) ts

pub record KnownFrame (known : List ℕ → Bool) (frame : Frame) : Type 0 where
  pub locals : AllKnown known frame.locals
  pub stack : AllKnown known frame.stack

module _ (known : List ℕ → Bool) where
  -- ---- what no world is asked for

  pub stack_known : (frame : Frame) (stack : List FrameType) → KnownFrame known frame → AllKnown known stack → KnownFrame known (with_stack frame stack)
  stack_known frame stack k h = record { locals = k.locals; stack = h }

  -- a longer list, where the words fit
  fits_or : (b : Bool) (ts : List FrameType) → AllKnown known ts → IfSome (if b then Some ts else None) (AllKnown known)
  fits_or true ts h = h
  fits_or false ts h = tt

  behind_first : (t : FrameType) (o : Option (List FrameType)) → KnownType known t → IfSome o (AllKnown known)
      → IfSome (option_map (λ rest. t ∷ rest) o) (AllKnown known)
  behind_first t None k h = tt
  behind_first t (Some rest) k h = (k, h)

  pub stored_known : (words : List FrameType) (index : ℕ) (locals : List FrameType) → AllKnown known words → AllKnown known locals
      → IfSome (stored words index locals) (AllKnown known)
  stored_known words zero locals w k =
      fits_or (nat_le (length words) (length locals)) (words ++ drop (length words) locals) (each_appended (KnownType known) words (drop (length words) locals) w
      (each_dropped (KnownType known) (length words) locals k))
  stored_known words (suc zero) [] w k = tt
  stored_known words (suc (suc n)) [] w k = tt
  stored_known words (suc zero) (types.Long ∷ more) w k = behind_first types.Top (stored words zero more) tt (stored_known words zero more w k.1)
  stored_known words (suc zero) (local ∷ more) w k = behind_first local (stored words zero more) k.0 (stored_known words zero more w k.1)
  stored_known words (suc (suc n)) (local ∷ more) w k = behind_first local (stored words (suc n) more) k.0 (stored_known words (suc n) more w k.1)

  pub words_known : (t : FrameType) → KnownType known t → AllKnown known (type_by_words t)
  words_known types.Long k = (tt, (tt, tt))
  words_known t k = (k, tt)

  -- what is taken as of a kind, and what is below it
  pub record KnownPopped (popped : FrameType × List FrameType) : Type 0 where
    pub item : KnownType known popped.0
    pub below : AllKnown known popped.1

  pub popped_known : (kind : ValueKind) (stack : List FrameType) → AllKnown known stack → IfSome (taken_of_kind kind stack) KnownPopped
  popped_known kind [] k = tt
  popped_known kind (item ∷ below) k = by_test (is_of_kind kind item)
    where
      by_test : (b : Bool) → IfSome (if b then Some (item, below) else None) KnownPopped
      by_test true = record { item = k.0; below = k.1 }
      by_test false = tt

  pub replaced_known : (object type : FrameType) (ts : List FrameType) → KnownType known type → AllKnown known ts → AllKnown known (replaced object type ts)
  replaced_known object type ts t k =
      each_mapped (KnownType known) (λ u. if is_same_object object u then type else u) ts
      (each_weaker (KnownType known) (λ u. KnownType known (if is_same_object object u then type else u)) (λ u h. by_test u h (is_same_object object u)) ts k)
    where
      by_test : (u : FrameType) → KnownType known u → (b : Bool) → KnownType known (if b then type else u)
      by_test u h true = t
      by_test u h false = h

  -- ---- forms of the stack

  pub record KnownParts (parts : List FrameType × List FrameType) : Type 0 where
    pub top : AllKnown known parts.0
    pub rest : AllKnown known parts.1

  top_known : (n : ℕ) (stack : List FrameType) → AllKnown known stack → IfSome (top_words item_width n stack) KnownParts
  top_known zero stack k = record { top = tt; rest = k }
  top_known (suc n) [] k = tt
  top_known (suc n) (item ∷ below) k = by_left (words_behind (suc n) (item_width item)) (λ m. top_known m below k.1)
    where
      by_parts : (o : Option (List FrameType × List FrameType)) → IfSome o KnownParts → IfSome (o >>= λ parts. Some (item_before item parts)) KnownParts
      by_parts None h = tt
      by_parts (Some parts) h = record { top = (k.0, h.top); rest = h.rest }

      by_left : (o : Option ℕ) → ((m : ℕ) → IfSome (top_words item_width m below) KnownParts)
          → IfSome (o >>= λ left. top_words item_width left below >>= λ parts. Some (item_before item parts)) KnownParts
      by_left None again = tt
      by_left (Some m) again = by_parts (top_words item_width m below) (again m)

  arranged_known : (form : StackForm) (taken passed : List FrameType) → AllKnown known taken → AllKnown known passed → AllKnown known (arranged form taken passed)
  arranged_known forms.Pop taken passed t p = p
  arranged_known forms.Pop2 taken passed t p = p
  arranged_known forms.Swap taken passed t p = each_appended (KnownType known) passed taken p t
  arranged_known form taken passed t p =
      each_appended (KnownType known) taken (passed ++ taken) t (each_appended (KnownType known) passed taken p t)

  pub rearranged_known : (form : StackForm) (stack : List FrameType) → AllKnown known stack → IfSome (rearranged item_width form stack) (AllKnown known)
  rearranged_known form stack k = by_first (top_words item_width (taken_words form) stack) (top_known (taken_words form) stack k)
    where
      by_second : (a : List FrameType × List FrameType) → KnownParts a → (o : Option (List FrameType × List FrameType)) → IfSome o KnownParts
          → IfSome (o >>= λ b. Some (arranged form a.0 b.0 ++ b.1)) (AllKnown known)
      by_second a h None i = tt
      by_second a h (Some b) i =
          each_appended (KnownType known) (arranged form a.0 b.0) b.1 (arranged_known form a.0 b.0 h.top i.top) i.rest

      by_first : (o : Option (List FrameType × List FrameType)) → IfSome o KnownParts
          → IfSome (o >>= λ a. top_words item_width (passed_words form) a.1 >>= λ b. Some (arranged form a.0 b.0 ++ b.1)) (AllKnown known)
      by_first None h = tt
      by_first (Some a) h = by_second a h (top_words item_width (passed_words form) a.1) (top_known (passed_words form) a.1 h.rest)

-- ---- in two worlds

module _ (known : List ℕ → Bool) (v w : World) (flow : (t u : FrameType) → KnownType known t → KnownType known u → flows v t u ≡ flows w t u) where
  pub item_same : (t u : FrameType) → KnownType known t → KnownType known u → item_flows v t u ≡ item_flows w t u
  item_same types.Long u k j = by_long u
    where
      by_long : (u : FrameType) → item_flows v types.Long u ≡ item_flows w types.Long u
      by_long types.Long = refl
      by_long u = refl
  item_same t u k j = flow t u k j

  lists_same : (one other : FrameType → FrameType → Bool) → ((t u : FrameType) → KnownType known t → KnownType known u → one t u ≡ other t u)
      → (ss ts : List FrameType) → AllKnown known ss → AllKnown known ts → all_flow one ss ts ≡ all_flow other ss ts
  lists_same one other same [] [] k j = refl
  lists_same one other same [] (t ∷ ts) k j = refl
  lists_same one other same (s ∷ ss) [] k j = refl
  lists_same one other same (s ∷ ss) (t ∷ ts) k j =
      ap (λ b. b && all_flow one ss ts) (same s t k.0 j.0) ∙ ap (λ b. other s t && b) (lists_same one other same ss ts k.1 j.1)

  pub frame_same : (f g : Frame) → KnownFrame known f → KnownFrame known g → frame_flows v f g ≡ frame_flows w f g
  frame_same f g k j =
      ap (λ b. b && all_flow (item_flows v) f.stack g.stack && (not f.flag_this_uninit || g.flag_this_uninit))
      (lists_same (flows v) (flows w) flow f.locals g.locals k.locals j.locals)
      ∙ ap (λ b. all_flow (flows w) f.locals g.locals && b && (not f.flag_this_uninit || g.flag_this_uninit))
      (lists_same (item_flows v) (item_flows w) item_same f.stack g.stack k.stack j.stack)

  -- ---- items that are taken

  pub all_taken : (expected stack : List FrameType) → AllKnown known expected → AllKnown known stack
      → SameIf (AllKnown known) (taken_as_all v expected stack) (taken_as_all w expected stack)
  all_taken expected [] k j = nothing (AllKnown known)
  all_taken expected (item ∷ below) k j =
      passed (AllKnown known) (list_all (item_flows v item) expected) (list_all (item_flows w item) expected) below
      (all_alike (KnownType known) (item_flows v item) (item_flows w item) (λ u h. item_same item u j.0 h) expected k) j.1

  pub any_taken : (expected stack : List FrameType) → AllKnown known expected → AllKnown known stack
      → SameIf (AllKnown known) (taken_as_any v expected stack) (taken_as_any w expected stack)
  any_taken expected [] k j = nothing (AllKnown known)
  any_taken expected (item ∷ below) k j =
      passed (AllKnown known) (list_any (item_flows v item) expected) (list_any (item_flows w item) expected) below
      (any_alike (KnownType known) (item_flows v item) (item_flows w item) (λ u h. item_same item u j.0 h) expected k) j.1

  downward_taken : (expected stack : List FrameType) → AllKnown known expected → AllKnown known stack
      → SameIf (AllKnown known) (taken_downward v expected stack) (taken_downward w expected stack)
  downward_taken [] stack k j = given (AllKnown known) stack j
  downward_taken (t ∷ more) stack k j =
      bound (AllKnown known) (AllKnown known) (taken_downward v more) (taken_downward w more) (taken_as_all v (t ∷ []) stack) (taken_as_all w (t ∷ []) stack)
      (all_taken (t ∷ []) stack (k.0, tt) j) (λ below h. downward_taken more below k.1 h)

  pub are_taken : (expected stack : List FrameType) → AllKnown known expected → AllKnown known stack
      → SameIf (AllKnown known) (taken v expected stack) (taken w expected stack)
  are_taken expected stack k j = downward_taken (reverse expected) stack (each_reversed (KnownType known) expected k) j

  pub are_exchanged : (expected given_types : List FrameType) (frame : Frame) → AllKnown known expected → AllKnown known given_types → KnownFrame known frame
      → SameIf (KnownFrame known) (exchanged v expected given_types frame) (exchanged w expected given_types frame)
  are_exchanged expected given_types frame k j f =
      bound (AllKnown known) (KnownFrame known) (λ below. Some (with_stack frame (given_types ++ below))) (λ below. Some (with_stack frame (given_types ++ below)))
      (taken v expected frame.stack) (taken w expected frame.stack) (are_taken expected frame.stack k f.stack)
      (λ below h. given (KnownFrame known) (with_stack frame (given_types ++ below)) (stack_known known frame (given_types ++ below) f
      (each_appended (KnownType known) given_types below j h)))
