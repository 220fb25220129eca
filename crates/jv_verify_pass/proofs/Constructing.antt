-- What an instruction that constructs an object leaves of the stack (JVMS 4.10.1.9.invokespecial).
use Rattle.std.proofs.Common.{◌≡◌, ℕ, zero, suc, ◌+◌, Bool, true, false, List, [], ◌∷◌, length, drop, reverse, Option, Some, None, refl, sym, ap, subst, ◌∙◌, arith, if◌then◌else◌}
use Rattle.std.specs.Prelude.{nat_le, slice_get}
use Rattle.std.specs.List.{list_all}
use Rattle.std.specs.Option.{option_map}
use Rattle.std.proofs.lemmas.List.{drop-drop, length-reverse}
use Rattle.jv_format.specs.Format.{◌>>=◌}
use Rattle.jv_text.specs.Name.{is_array_name, is_class_name, is_init}
use Rattle.jv_text.specs.Types.{field_type_of, method_type_of}
use Rattle.jv_text.specs.declared.descriptor.FieldTypeOf.{FieldTypeOf}
use Rattle.jv_stackmap.specs.declared.verification.VerificationTypeOf.TheVariants as types
use Rattle.jv_stackmap.specs.Types.{FrameType, array_of, component, reference_type, width, words}
use Rattle.jv_stackmap.specs.Frames.{Frame}
use Rattle.jv_code.specs.Insns.{Instruction}
use Rattle.jv_code.specs.declared.insn.Insn.TheVariants as insns
use Rattle.jv_code.specs.declared.kinds.Invocation.{Invocation}
use Rattle.jv_code.specs.declared.kinds.Invocation.TheVariants as invocations
use Rattle.jv_meaning_world.specs.FrameFlow.{item_flows}
use Rattle.jv_meaning_world.specs.World.{World}
use Rattle.jv_meaning_typing.specs.Operands.{method_operand}
use Rattle.jv_meaning_typing.specs.Environment.{Environment, current_class}
use Rattle.jv_meaning_typing.specs.FrameChanges.{taken, taken_downward, taken_as_all, replaced}
use Rattle.jv_meaning_typing.specs.Named.{MethodUse, method_named_by, can_be_of, current_type, when}
use Rattle.jv_meaning_typing.specs.MemberRules.{invoke_super, constructs_new, constructs_this, constructed_type, constructed, construct_top, invoke_init, invoke, goes_with_version, invoke_rule}
use Rattle.jv_meaning_typing.specs.Rule.{within_stack, rule, constructed_object}

-- some items were taken from the top of a stack, and in what is left each copy of an object got one other type, which is of one word
pub record StandsReplaced (object : FrameType) (before behind : List FrameType) : Type 0 where
  pub by : FrameType
  pub wide : width by ≡ 1
  pub taken : ℕ
  pub is : behind ≡ replaced object by (drop taken before)

-- ---- so many items are taken

abbrev Below : ℕ → List FrameType → Option (List FrameType) → Type 0
Below n stack None = Unit {0}
Below n stack (Some below) = below ≡ drop n stack

one_taken : (test : Bool) (item : FrameType) (below : List FrameType) → Below 1 (item ∷ below) (if test then Some below else None)
one_taken true item below = refl
one_taken false item below = tt

all_below : (world : World) (expected stack : List FrameType) → Below 1 stack (taken_as_all world expected stack)
all_below world expected [] = tt
all_below world expected (item ∷ below) = one_taken (list_all (item_flows world item) expected) item below

-- one step behind another
then_below : (n m : ℕ) (stack : List FrameType) (o : Option (List FrameType)) (next : List FrameType → Option (List FrameType)) → Below n stack o
    → ((below : List FrameType) → Below m below (next below)) → Below (n + m) stack (o >>= next)
then_below n m stack None next h more = tt
then_below n m stack (Some below) next h more = lead (next below) (more below)
  where
    lead : (o : Option (List FrameType)) → Below m below o → Below (n + m) stack o
    lead None b = tt
    lead (Some left) b = b ∙ (ap (drop m) h ∙ drop-drop m n stack)

downward_below : (world : World) (expected stack : List FrameType) → Below (length expected) stack (taken_downward world expected stack)
downward_below world [] stack = refl
downward_below world (first ∷ more) stack =
    let count : 1 + length more ≡ length (first ∷ more) = omega arith in
    subst (λ n. Below n stack (taken_as_all world (first ∷ []) stack >>= taken_downward world more)) count
    (then_below 1 (length more) stack (taken_as_all world (first ∷ []) stack) (taken_downward world more) (all_below world (first ∷ []) stack) (λ below. downward_below world more below))

taken_below : (world : World) (expected stack : List FrameType) → Below (length expected) stack (taken world expected stack)
taken_below world expected stack = subst (λ n. Below n stack (taken world expected stack)) (length-reverse expected) (downward_below world (reverse expected) stack)

below_is : (before : List FrameType) (n : ℕ) (o : Option (List FrameType)) (below : List FrameType) → Below n before o → o ≡ Some below → below ≡ drop n before
below_is before n o below h e = subst (Below n before) e h

-- ---- the type that an object gets is of one word

chained : {A B : Type 0} (o : Option A) (f : A → Option B) (y : B) → (o >>= f) ≡ Some y → (a : A) × (o ≡ Some a) × (f a ≡ Some y)
chained None f y e = absurd cc
chained (Some a) f y e = (a, refl, e)

reference_wide : (text : List ℕ) (t : FrameType) → reference_type text ≡ Some t → width t ≡ 1
reference_wide text t e = by_array (is_array_name text) e
  where
    by_class : (b : Bool) → (if b then Some (types.Class text) else None) ≡ Some t → width t ≡ 1
    by_class true f = let is : types.Class text ≡ t = cc in sym (ap width is)
    by_class false f = absurd cc

    by_type : (o : Option (FieldTypeOf (List ℕ))) → (o >>= array_of) ≡ Some t → width t ≡ 1
    by_type None f = absurd cc
    by_type (Some type) f = let is : types.Array (component type) ≡ t = cc in sym (ap width is)

    by_array : (b : Bool) → (if b then field_type_of text >>= array_of else if is_class_name text then Some (types.Class text) else None) ≡ Some t → width t ≡ 1
    by_array true f = by_type (field_type_of text) f
    by_array false f = by_class (is_class_name text) f

owner_wide : (env : Environment) (index : ℕ) (method : MethodUse) → method_named_by env index ≡ Some method → width method.owner ≡ 1
owner_wide env index method e =
    let found = chained (method_operand (current_class env) index) _ method e in
    let kept = chained (when (can_be_of found.0.constant found.0.member.class) found.0) _ method found.2 in
    let owner = chained (reference_type kept.0.member.class) _ method kept.2 in
    let type = chained (method_type_of kept.0.member.descriptor) _ method owner.2 in
    one owner.0 method.owner (ap (option_map (λ (m : MethodUse). m.owner)) type.2) (reference_wide kept.0.member.class owner.0 owner.1)
  where
    one : (a b : FrameType) → Some a ≡ Some b → width a ≡ 1 → width b ≡ 1
    one a b f wide = let is : a ≡ b = cc in sym (ap width is) ∙ wide

type_wide : (env : Environment) (method : MethodUse) (object t : FrameType) → width method.owner ≡ 1 → constructed_type env method object ≡ Some t → width t ≡ 1
type_wide env method (types.Uninitialized offset) t wide e = by_test (constructs_new env method offset) e
  where
    by_test : (b : Bool) → when b method.owner ≡ Some t → width t ≡ 1
    by_test true f = let is : method.owner ≡ t = cc in sym (ap width is) ∙ wide
    by_test false f = absurd cc
type_wide env method types.UninitializedThis t wide e = by_test (constructs_this env method) e
  where
    by_test : (b : Bool) → when b (current_type env) ≡ Some t → width t ≡ 1
    by_test true f = let is : current_type env ≡ t = cc in sym (ap width is)
    by_test false f = absurd cc
type_wide env method types.Top t wide e = absurd cc
type_wide env method types.Int t wide e = absurd cc
type_wide env method types.Long t wide e = absurd cc
type_wide env method types.Null t wide e = absurd cc
type_wide env method (types.Class n) t wide e = absurd cc
type_wide env method (types.Array c) t wide e = absurd cc

-- ---- what is left where an object is constructed

module _ (env : Environment) (before behind : Frame) (object : FrameType) where
  abbrev Replaced : Type 0
  Replaced = StandsReplaced object before.stack behind.stack

  within_is : (o : Option Frame) → (o >>= within_stack env) ≡ Some behind → o ≡ Some behind
  within_is None e = absurd cc
  within_is (Some frame) e = by_test (nat_le (words frame.stack) env.code.max_stack) e
    where
      by_test : (test : Bool) → when test frame ≡ Some behind → Some frame ≡ Some behind
      by_test true e = e
      by_test false e = absurd cc

  on_top : (n : ℕ) (stack : List FrameType) (item : FrameType) (below : List FrameType) → item ∷ below ≡ drop n stack → slice_get stack n ≡ Some object
      → (item ≡ object) × (below ≡ drop (suc n) stack)
  on_top zero [] item below e at = absurd cc
  on_top (suc n) [] item below e at = absurd cc
  on_top zero (x ∷ stack) item below e at = (cc, cc)
  on_top (suc n) (x ∷ stack) item below e at = on_top n stack item below e at

  init_replaces : (method : MethodUse) → width method.owner ≡ 1 → invoke_init env method before ≡ Some behind → slice_get before.stack (length method.arguments) ≡ Some object → Replaced
  init_replaces method wide e at =
      by_taken (taken env.world method.arguments before.stack) e
      (λ stack is. below_is before.stack (length method.arguments) (taken env.world method.arguments before.stack) stack (taken_below env.world method.arguments before.stack) is)
    where
      by_type : (item : FrameType) (below : List FrameType) → item ≡ object → below ≡ drop (suc (length method.arguments)) before.stack → (o : Option FrameType)
          → constructed_type env method item ≡ o → option_map (λ type. constructed before item type below) o ≡ Some behind → Replaced
      by_type item below same left None gets e = absurd cc
      by_type item below same left (Some type) gets e =
          let is : constructed before item type below ≡ behind = cc in record {
            by = type;
            wide = type_wide env method item type wide gets;
            taken = suc (length method.arguments);
            is = ap (λ (f : Frame). f.stack) (sym is) ∙ (ap (λ (x : FrameType). replaced x type below) same ∙ ap (replaced object type) left);
          }

      by_stack : (stack : List FrameType) → stack ≡ drop (length method.arguments) before.stack → construct_top env method before stack ≡ Some behind → Replaced
      by_stack [] is e = absurd cc
      by_stack (item ∷ below) is e =
          let top = on_top (length method.arguments) before.stack item below is at in
          by_type item below top.0 top.1 (constructed_type env method item) refl e

      by_taken : (o : Option (List FrameType)) → (o >>= construct_top env method before) ≡ Some behind
          → ((stack : List FrameType) → o ≡ Some stack → stack ≡ drop (length method.arguments) before.stack) → Replaced
      by_taken None e h = absurd cc
      by_taken (Some stack) e h = by_stack stack (h stack refl) e

  special_replaces : (index : ℕ) → invoke_rule env invocations.Special index before ≡ Some behind
      → constructed_object env (insns.Invoke invocations.Special index) before ≡ Some object → Replaced
  special_replaces index e at = by_method (method_named_by env index) refl e at
    where
      by_name : (method : MethodUse) → width method.owner ≡ 1 → (name : Bool) → (if name then invoke_init env method before else invoke_super env method before) ≡ Some behind
          → ((when name method) >>= λ (m : MethodUse). slice_get before.stack (length m.arguments)) ≡ Some object → Replaced
      by_name method wide true e at = init_replaces method wide e at
      by_name method wide false e at = absurd cc

      by_version : (method : MethodUse) → width method.owner ≡ 1 → (test : Bool) → (when test method >>= λ named. invoke env invocations.Special named before) ≡ Some behind
          → ((when (is_init method.reference.name) method) >>= λ (m : MethodUse). slice_get before.stack (length m.arguments)) ≡ Some object → Replaced
      by_version method wide true e at = by_name method wide (is_init method.reference.name) e at
      by_version method wide false e at = absurd cc

      by_method : (o : Option MethodUse) → method_named_by env index ≡ o →
          (o >>= λ method. when (goes_with_version env method) method >>= λ named. invoke env invocations.Special named before) ≡ Some behind
          → (o >>= λ (m : MethodUse). when (is_init m.reference.name) m >>= λ (m : MethodUse). slice_get before.stack (length m.arguments)) ≡ Some object → Replaced
      by_method None is e at = absurd cc
      by_method (Some method) is e at = by_version method (owner_wide env index method is) (goes_with_version env method) e at

  invoke_replaces : (how : Invocation) (index pc : ℕ) → rule env pc (insns.Invoke how index) before ≡ Some behind
      → constructed_object env (insns.Invoke how index) before ≡ Some object → Replaced
  invoke_replaces invocations.Special index pc e at = special_replaces index (within_is (invoke_rule env invocations.Special index before) e) at
  invoke_replaces invocations.Virtual index pc e at = absurd cc
  invoke_replaces invocations.Static index pc e at = absurd cc

  rule_replaces : (pc : ℕ) (insn : Instruction) → rule env pc insn before ≡ Some behind → constructed_object env insn before ≡ Some object → Replaced
  rule_replaces pc (insns.Invoke how index) e at = invoke_replaces how index pc e at
  rule_replaces pc insn e at = absurd cc

pub leaves_others : (env : Environment) (pc : ℕ) (insn : Instruction) (before behind : Frame) (object : FrameType) → rule env pc insn before ≡ Some behind
    → constructed_object env insn before ≡ Some object → StandsReplaced object before.stack behind.stack
leaves_others env pc insn before behind object e at = rule_replaces env before behind object pc insn e at
