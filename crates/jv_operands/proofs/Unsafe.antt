-- An instruction that leaves a frame meets with all that it wants in the frame before it.
use Rattle.std.proofs.Common.{◌≡◌, Bool, true, false, List, [], ◌∷◌, ◌++◌, Option, Some, None, refl, sym, ap, subst}
use Rattle.std.specs.Prelude.{◌&&◌, ◌||◌, if◌then◌else◌, is_some}
use Rattle.std.specs.List.{list_any}
use Rattle.std.specs.Option.{option_map}
use Rattle.std.proofs.lemmas.List.{append-nil}
use Rattle.jv_format.specs.Format.{◌>>=◌}
use Rattle.jv_format.proofs.Laws.{bind_some}
use Rattle.jv_text.specs.declared.descriptor.Base.TheVariants as bases
use Rattle.jv_stackmap.specs.declared.verification.VerificationTypeOf.TheVariants as types
use Rattle.jv_stackmap.specs.Types.{FrameType}
use Rattle.jv_stackmap.specs.Frames.{Frame}
use Rattle.jv_code.specs.declared.kinds.NumberElement.{NumberElement}
use Rattle.jv_code.specs.declared.kinds.NumberElement.TheVariants as numbers
use Rattle.jv_code.specs.declared.kinds.StackForm.{StackForm}
use Rattle.jv_code.specs.declared.kinds.StackForm.TheVariants as forms
use Rattle.jv_code.specs.declared.kinds.Test.{Test}
use Rattle.jv_code.specs.declared.kinds.Test.TheVariants as tests
use Rattle.jv_code.specs.declared.kinds.ValueKind.{ValueKind}
use Rattle.jv_code.specs.declared.kinds.ValueKind.TheVariants as kinds
use Rattle.jv_meaning_world.specs.FrameFlow.{item_flows}
use Rattle.jv_meaning_world.specs.World.{World}
use Rattle.jv_meaning_typing.specs.FrameChanges.{exchanged, is_of_kind, item_width, taken, taken_as_any, taken_of_kind, with_stack}
use Rattle.jv_meaning_typing.specs.Named.{when}
use Rattle.jv_meaning_typing.specs.NumberRules.{array_of_base, element_number, number_arrays}
use Rattle.jv_meaning_typing.specs.Rule.{test_references}
use Rattle.jv_meaning_typing.specs.StackForms.{rearranged, top_words}
use Rattle.jv_meaning_typing.specs.ValueRules.{array_length, is_array_or_null, reference_component, take_reference, with_component}
use Rattle.jv_operands.specs.declared.want.Want.TheVariants as wants
use Rattle.jv_operands.specs.Unmet.{is_met}
use Rattle.jv_operands.specs.Wants.{FrameWant, form_wants, number_array, of_kind, of_type, of_types, reference_test_wants}
use Rattle.jv_operands.proofs.Taking.{Takes, all_met, and_true, if_some, met, takes_all, takes_both, takes_one}

pub if_none : {A : Type 0} (test : Bool) (x : Option A) (y : A) → (if test then x else None) ≡ Some y → x ≡ Some y
if_none true x y e = e
if_none false x y e = absurd cc

or_false : (a : Bool) → (a || false) ≡ true → a ≡ true
or_false true e = refl
or_false false e = e

or_both : (a b : Bool) → (a || (b || false)) ≡ true → (a || b) ≡ true
or_both true b e = refl
or_both false b e = or_false b e

pub mapped : {A B : Type 0} (f : A → B) (o : Option A) (left : B) → option_map f o ≡ Some left → (x : A) × (o ≡ Some x)
mapped f (Some x) left e = (x, refl)
mapped f None left e = absurd cc

-- ---- one item

pub kind_met : (world : World) (kind : ValueKind) (type : FrameType) → is_of_kind kind type ≡ true → is_met world (of_kind kind) type ≡ true
kind_met world kinds.Int types.Int e = refl
kind_met world kinds.Int types.Top e = absurd cc
kind_met world kinds.Int types.Long e = absurd cc
kind_met world kinds.Int types.Null e = absurd cc
kind_met world kinds.Int types.UninitializedThis e = absurd cc
kind_met world kinds.Int (types.Class name) e = absurd cc
kind_met world kinds.Int (types.Array components) e = absurd cc
kind_met world kinds.Int (types.Uninitialized offset) e = absurd cc
kind_met world kinds.Long types.Long e = refl
kind_met world kinds.Long types.Top e = absurd cc
kind_met world kinds.Long types.Int e = absurd cc
kind_met world kinds.Long types.Null e = absurd cc
kind_met world kinds.Long types.UninitializedThis e = absurd cc
kind_met world kinds.Long (types.Class name) e = absurd cc
kind_met world kinds.Long (types.Array components) e = absurd cc
kind_met world kinds.Long (types.Uninitialized offset) e = absurd cc
kind_met world kinds.Reference type e = e

pub kind_taken : (world : World) (kind : ValueKind) (stack : List FrameType) (popped : FrameType × List FrameType) → taken_of_kind kind stack ≡ Some popped
    → (rest : List FrameWant) → all_met world rest popped.1 ≡ true → all_met world (of_kind kind ∷ rest) stack ≡ true
kind_taken world kind [] popped e rest h = absurd cc
kind_taken world kind (item ∷ below) popped e rest h =
    let (passes, same) = if_some (is_of_kind kind item) (item, below) popped e in
    and_true (is_met world (of_kind kind) item) (all_met world rest below) (kind_met world kind item passes)
    (subst (λ (s : List FrameType). all_met world rest s ≡ true) (sym (ap (λ (p : FrameType × List FrameType). p.1) same)) h)

pub reference_taken : (world : World) (frame next : Frame) → take_reference frame ≡ Some next → (rest : List FrameWant) → all_met world rest next.stack ≡ true
    → all_met world (wants.Reference ∷ rest) frame.stack ≡ true
reference_taken world frame next e rest h =
    let (popped, was, after) = bind_some (taken_of_kind kinds.Reference frame.stack) (λ popped. Some (with_stack frame popped.1)) next e in
    let same : with_stack frame popped.1 ≡ next = cc in
    kind_taken world kinds.Reference frame.stack popped was rest
    (subst (λ (f : Frame). all_met world rest f.stack ≡ true) (sym same) h)

-- ---- stacks

module _ (world : World) where
  pub exchange_met : (takes gives : List FrameType) (frame left : Frame) → exchanged world takes gives frame ≡ Some left → all_met world (of_types takes) frame.stack ≡ true
  exchange_met takes gives frame left e =
      subst (λ (ws : List FrameWant). all_met world ws frame.stack ≡ true) (append-nil (of_types takes))
      (met world (of_types takes) (taken world takes) (takes_all world takes) frame.stack (λ below. Some (with_stack frame (gives ++ below))) left e)

  pub tests_met : (test : Test) (frame left : Frame) → test_references test frame ≡ Some left → all_met world (reference_test_wants test) frame.stack ≡ true
  tests_met (tests.IfReferences equality) frame left e =
      let (next, was, after) = bind_some (take_reference frame) take_reference left e in
      reference_taken world frame next was (wants.Reference ∷ []) (reference_taken world next left after [] refl)
  tests_met (tests.IfNull equality) frame left e = reference_taken world frame left e [] refl
  tests_met (tests.IfInt condition) frame left e = refl
  tests_met (tests.IfInts condition) frame left e = refl

  takes_array : (element : NumberElement) → Takes world (number_array element ∷ []) (taken_as_any world (number_arrays element))
  takes_array element = takes_one world (number_array element) (taken_as_any world (number_arrays element)) refl (found element)
    where
      found : (element : NumberElement) (item : FrameType) (under below : List FrameType) → taken_as_any world (number_arrays element) (item ∷ under) ≡ Some below
          → (is_met world (number_array element) item ≡ true) × (under ≡ below)
      found numbers.Int item under below e =
          let (any, same) = if_some (list_any (item_flows world item) (number_arrays numbers.Int)) under below e in
          (or_false (item_flows world item (array_of_base bases.Int)) any, same)
      found numbers.Long item under below e =
          let (any, same) = if_some (list_any (item_flows world item) (number_arrays numbers.Long)) under below e in
          (or_false (item_flows world item (array_of_base bases.Long)) any, same)
      found numbers.ByteOrBoolean item under below e =
          let (any, same) = if_some (list_any (item_flows world item) (number_arrays numbers.ByteOrBoolean)) under below e in
          (or_both (item_flows world item (array_of_base bases.Byte)) (item_flows world item (array_of_base bases.Boolean)) any, same)
      found numbers.Char item under below e =
          let (any, same) = if_some (list_any (item_flows world item) (number_arrays numbers.Char)) under below e in
          (or_false (item_flows world item (array_of_base bases.Char)) any, same)
      found numbers.Short item under below e =
          let (any, same) = if_some (list_any (item_flows world item) (number_arrays numbers.Short)) under below e in
          (or_false (item_flows world item (array_of_base bases.Short)) any, same)

  pub load_met : (element : NumberElement) (frame left : Frame) → (rest : List FrameType → Option Frame)
      → (taken world (types.Int ∷ []) frame.stack >>= taken_as_any world (number_arrays element) >>= rest) ≡ Some left
      → all_met world (of_type types.Int ∷ number_array element ∷ []) frame.stack ≡ true
  load_met element frame left rest e =
      met world (of_type types.Int ∷ number_array element ∷ []) (λ s. taken world (types.Int ∷ []) s >>= taken_as_any world (number_arrays element))
      (takes_both world (of_types (types.Int ∷ [])) (number_array element ∷ []) (taken world (types.Int ∷ [])) (taken_as_any world (number_arrays element))
      (takes_all world (types.Int ∷ [])) (takes_array element)) frame.stack rest left e

  pub store_met : (element : NumberElement) (frame left : Frame) → (rest : List FrameType → Option Frame)
      → (taken world (types.Int ∷ element_number element ∷ []) frame.stack >>= taken_as_any world (number_arrays element) >>= rest) ≡ Some left
      → all_met world (of_type (element_number element) ∷ of_type types.Int ∷ number_array element ∷ []) frame.stack ≡ true
  store_met element frame left rest e =
      met world (of_type (element_number element) ∷ of_type types.Int ∷ number_array element ∷ [])
      (λ s. taken world (types.Int ∷ element_number element ∷ []) s >>= taken_as_any world (number_arrays element))
      (takes_both world (of_types (types.Int ∷ element_number element ∷ [])) (number_array element ∷ []) (taken world (types.Int ∷ element_number element ∷ []))
      (taken_as_any world (number_arrays element)) (takes_all world (types.Int ∷ element_number element ∷ [])) (takes_array element)) frame.stack rest left e

  component_met : (frame left : Frame) (stack : List FrameType) → with_component frame stack ≡ Some left → all_met world (wants.ReferenceArray ∷ []) stack ≡ true
  component_met frame left [] e = absurd cc
  component_met frame left (array ∷ below) e = is (reference_component array) e
    where
      is : (o : Option FrameType) → option_map (λ type. with_stack frame (type ∷ below)) o ≡ Some left → (is_some o && true) ≡ true
      is (Some type) e = refl
      is None e = absurd cc

  pub reference_load_met : (frame left : Frame) → (taken world (types.Int ∷ []) frame.stack >>= with_component frame) ≡ Some left
      → all_met world (of_type types.Int ∷ wants.ReferenceArray ∷ []) frame.stack ≡ true
  reference_load_met frame left e =
      let (below, was, after) = bind_some (taken world (types.Int ∷ []) frame.stack) (with_component frame) left e in
      takes_all world (types.Int ∷ []) frame.stack below was (wants.ReferenceArray ∷ []) (component_met frame left below after)

  pub length_met : (frame left : Frame) (stack : List FrameType) → option_map (with_stack frame) (array_length stack) ≡ Some left → all_met world (wants.Array ∷ []) stack ≡ true
  length_met frame left [] e = absurd cc
  length_met frame left (array ∷ below) e = is (is_array_or_null array) e
    where
      is : (b : Bool) → option_map (with_stack frame) (when b (types.Int ∷ below)) ≡ Some left → (b && true) ≡ true
      is true e = refl
      is false e = absurd cc

  -- ---- forms of the stack

  word_taken : (stack : List FrameType) (parts : List FrameType × List FrameType) → top_words item_width 1 stack ≡ Some parts → (rest : List FrameWant)
      → all_met world rest parts.1 ≡ true → all_met world (wants.Word ∷ rest) stack ≡ true
  word_taken [] parts e rest h = absurd cc
  word_taken (item ∷ below) parts e rest h = of_item item e
    where
      below_is : (item : FrameType) → Some (item ∷ [], below) ≡ Some parts → all_met world rest below ≡ true
      below_is item e =
          let same : (item ∷ [], below) ≡ parts = cc in
          subst (λ (s : List FrameType). all_met world rest s ≡ true) (sym (ap (λ (p : List FrameType × List FrameType). p.1) same)) h

      of_item : (item : FrameType) → top_words item_width 1 (item ∷ below) ≡ Some parts → all_met world (wants.Word ∷ rest) (item ∷ below) ≡ true
      of_item types.Top e = absurd cc
      of_item types.Long e = absurd cc
      of_item types.Int e = below_is types.Int e
      of_item types.Null e = below_is types.Null e
      of_item types.UninitializedThis e = below_is types.UninitializedThis e
      of_item (types.Class name) e = below_is (types.Class name) e
      of_item (types.Array components) e = below_is (types.Array components) e
      of_item (types.Uninitialized offset) e = below_is (types.Uninitialized offset) e

  first_word : {A : Type 0} (stack : List FrameType) (more : List FrameType × List FrameType → Option A) (left : A) → (top_words item_width 1 stack >>= more) ≡ Some left
      → all_met world (wants.Word ∷ []) stack ≡ true
  first_word stack more left e =
      let (parts, was, after) = bind_some (top_words item_width 1 stack) more left e in
      word_taken stack parts was [] refl

  two_words : {A : Type 0} (stack : List FrameType) (more : List FrameType × List FrameType → List FrameType × List FrameType → Option A) (left : A)
      → (top_words item_width 1 stack >>= λ a. top_words item_width 1 a.1 >>= more a) ≡ Some left → all_met world (wants.Word ∷ wants.Word ∷ []) stack ≡ true
  two_words stack more left e =
      let (parts, was, after) = bind_some (top_words item_width 1 stack) (λ a. top_words item_width 1 a.1 >>= more a) left e in
      word_taken stack parts was (wants.Word ∷ []) (first_word parts.1 (more parts) left after)

  pub form_met : (form : StackForm) (stack left : List FrameType) → rearranged item_width form stack ≡ Some left → all_met world (form_wants form) stack ≡ true
  form_met forms.Pop stack left e = first_word stack _ left e
  form_met forms.Pop2 stack left e = refl
  form_met forms.Dup stack left e = first_word stack _ left e
  form_met forms.DupX1 stack left e = two_words stack _ left e
  form_met forms.DupX2 stack left e = first_word stack _ left e
  form_met forms.Dup2 stack left e = refl
  form_met forms.Dup2X1 stack left e = refl
  form_met forms.Dup2X2 stack left e = refl
  form_met forms.Swap stack left e = two_words stack _ left e
