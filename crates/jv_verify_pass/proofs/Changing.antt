-- What instructions leave of the local variables that they don't store into, and that hold no copy of an object that they replace.
use Rattle.std.proofs.Common.{◌≡◌, ℕ, zero, suc, Bool, true, false, ◌&&◌, List, [], ◌∷◌, ◌++◌, length, drop, reverse, Option, Some, None, refl, sym, ap, ◌∙◌, if◌then◌else◌}
use Rattle.std.specs.Prelude.{slice_get, unwrap_or, nat_le, not}
use Rattle.std.specs.List.{list_all, list_any}
use Rattle.std.specs.Option.{option_map}
use Rattle.std.proofs.lemmas.List.{length-reverse}
use Rattle.std.proofs.lemmas.Option.{slice_get-map}
use Rattle.jv_format.specs.Format.{◌>>=◌}
use Rattle.jv_text.specs.Name.{is_init}
use Rattle.jv_stackmap.specs.declared.verification.VerificationTypeOf.TheVariants as types
use Rattle.jv_stackmap.specs.Types.{FrameType, words}
use Rattle.jv_stackmap.specs.Frames.{Frame}
use Rattle.jv_code.specs.Insns.{Instruction}
use Rattle.jv_code.specs.declared.insn.Insn.TheVariants as insns
use Rattle.jv_code.specs.declared.kinds.Invocation.TheVariants as invocations
use Rattle.jv_meaning_world.specs.World.{World}
use Rattle.jv_meaning_world.specs.Flow.{flows}
use Rattle.jv_meaning_world.specs.FrameFlow.{item_flows}
use Rattle.jv_meaning_typing.specs.Environment.{Environment}
use Rattle.jv_meaning_typing.specs.FrameChanges.{with_stack, with_locals, taken, taken_as_all, taken_downward, is_same_object, replaced}
use Rattle.jv_meaning_typing.specs.Named.{MethodUse, method_named_by, operand_name, current_type, when}
use Rattle.jv_meaning_typing.specs.ValueRules.{pushed, new_object}
use Rattle.jv_meaning_typing.specs.MemberRules.{has_plain_name, called_on, is_near, invoke_super, invoke_init, invoke, constructed_type, constructed, construct_top, goes_with_version, invoke_rule}
use Rattle.jv_meaning_typing.specs.Rule.{rule, within_stack, constructed_object}
use Rattle.jv_verify_types.specs.Typed.{typed, typed_all}
use Rattle.jv_verify_types.specs.Numbered.{Item, NumberFrame, frame_of}
use Rattle.jv_verify_rules.specs.Laws.{WritesThere, keeps_locals}
use Rattle.jv_verify_pass.specs.Inside.Changes.{stored_index, is_written, object_replaced, is_copy, is_object_at, changes_by, may_change, may_change_at, HoldCopies}

-- ---- what gave what

of_some : {X : Type 0} {a b : X} → Some a ≡ Some b → a ≡ b
of_some e = cc

none_some : {X : Type 0} {b : X} → None ≡ Some b → ⊥
none_some e = cc

bound_gave : {A B : Type 0} (o : Option A) (next : A → Option B) (b : B) → (o >>= next) ≡ Some b → (a : A) × (o ≡ Some a) × (next a ≡ Some b)
bound_gave None next b e = absurd (none_some e)
bound_gave (Some a) next b e = (a, refl, e)

mapped_gave : {A B : Type 0} (o : Option A) (f : A → B) (b : B) → option_map f o ≡ Some b → (a : A) × (f a ≡ b)
mapped_gave None f b e = absurd (none_some e)
mapped_gave (Some a) f b e = (a, of_some e)

when_gave : {A : Type 0} (test : Bool) (x b : A) → when test x ≡ Some b → x ≡ b
when_gave true x b e = of_some e
when_gave false x b e = absurd (none_some e)

chosen_gave : {A : Type 0} (test : Bool) (o : Option A) (b : A) → (if test then o else None) ≡ Some b → o ≡ Some b
chosen_gave true o b e = e
chosen_gave false o b e = absurd (none_some e)

-- ---- what stands below items that are taken

all_taken : (world : World) (expected stack below : List FrameType) → taken_as_all world expected stack ≡ Some below → below ≡ drop 1 stack
all_taken world expected [] below e = absurd (none_some e)
all_taken world expected (item ∷ rest) below e = sym (of_some (chosen_gave (list_all (item_flows world item) expected) (Some rest) below e))

downward_taken : (world : World) (expected stack below : List FrameType) → taken_downward world expected stack ≡ Some below → below ≡ drop (length expected) stack
downward_taken world [] stack below e = sym (of_some e)
downward_taken world (t ∷ more) stack below e =
    let g = bound_gave (taken_as_all world (t ∷ []) stack) (λ rest. taken_downward world more rest) below e in
    downward_taken world more g.0 below g.2 ∙ (ap (drop (length more)) (all_taken world (t ∷ []) stack g.0 g.1) ∙ further (length more) stack)
  where
    further : (n : ℕ) (xs : List FrameType) → drop n (drop 1 xs) ≡ drop (suc n) xs
    further zero [] = refl
    further (suc n) [] = refl
    further n (x ∷ xs) = refl

taken_below : (world : World) (expected stack below : List FrameType) → taken world expected stack ≡ Some below → below ≡ drop (length expected) stack
taken_below world expected stack below e = downward_taken world (reverse expected) stack below e ∙ ap (λ n. drop n stack) (length-reverse expected)

something : {X : Type 0} (xs : List X) (n : ℕ) (x : X) (rest : List X) → x ∷ rest ≡ drop n xs → slice_get xs n ≡ Some x
something [] zero x rest e = absurd cc
something [] (suc n) x rest e = absurd cc
something (y ∷ xs) zero x rest e = let one : x ≡ y = cc in ap Some (sym one)
something (y ∷ xs) (suc n) x rest e = something xs n x rest e

-- ---- an object is replaced

replaced_stays : (object type : FrameType) (locals : List FrameType) (k : ℕ) → is_copy object locals k ≡ false → slice_get (replaced object type locals) k ≡ slice_get locals k
replaced_stays object type locals k e =
    slice_get-map (λ t. if is_same_object object t then type else t) locals k ∙ by_item (slice_get locals k) refl
  where
    by_item : (o : Option FrameType) → slice_get locals k ≡ o → option_map (λ t. if is_same_object object t then type else t) o ≡ o
    by_item None f = refl
    by_item (Some t) f =
        ap (λ (b : Bool). Some (if b then type else t)) (ap (λ (o : Option FrameType). unwrap_or (option_map (is_same_object object) o) false) (sym f) ∙ e)

module _ (env : Environment) (frame behind : Frame) where
  -- what is left, whatever its stack's size
  within_gave : (o : Option Frame) → (o >>= within_stack env) ≡ Some behind → o ≡ Some behind
  within_gave o e =
      let g = bound_gave o (within_stack env) behind e in
      g.1 ∙ ap Some (when_gave (nat_le (words g.0.stack) env.code.max_stack) g.0 behind g.2)

  new_gave : (pc index : ℕ) → new_object env pc index frame ≡ Some behind → behind.locals ≡ replaced (types.Uninitialized pc) types.Top frame.locals
  new_gave pc index e =
      let there = not (list_any (is_same_object (types.Uninitialized pc)) frame.stack) in
      let fresh = pushed (with_locals frame (replaced (types.Uninitialized pc) types.Top frame.locals)) (types.Uninitialized pc) in
      let g = bound_gave (operand_name env index) (λ name. when there fresh) behind e in
      ap (λ (f : Frame). f.locals) (sym (when_gave there fresh behind g.2))

  super_gave : (method : MethodUse) → invoke_super env method frame ≡ Some behind → behind.locals ≡ frame.locals
  super_gave method e =
      let called = chosen_gave (has_plain_name method && flows env.world (current_type env) method.owner && is_near env method.reference.class)
      (called_on env method (current_type env ∷ []) frame) behind e in
      let g = bound_gave (taken env.world method.arguments frame.stack >>= taken_as_all env.world (current_type env ∷ [])) (λ below. Some (with_stack frame (method.result ++ below))) behind called in
      ap (λ (f : Frame). f.locals) (sym (of_some g.2))

  -- what is constructed is replaced
  init_gave : (method : MethodUse) → invoke_init env method frame ≡ Some behind
      → (object : FrameType) × (type : FrameType) × (slice_get frame.stack (length method.arguments) ≡ Some object) × (behind.locals ≡ replaced object type frame.locals)
  init_gave method e =
      let g = bound_gave (taken env.world method.arguments frame.stack) (construct_top env method frame) behind e in
      by_stack g.0 (taken_below env.world method.arguments frame.stack g.0 g.1) g.2
    where
      by_stack : (stack : List FrameType) → stack ≡ drop (length method.arguments) frame.stack → construct_top env method frame stack ≡ Some behind
          → (object : FrameType) × (type : FrameType) × (slice_get frame.stack (length method.arguments) ≡ Some object) × (behind.locals ≡ replaced object type frame.locals)
      by_stack [] is e = absurd (none_some e)
      by_stack (object ∷ below) is e =
          let g = mapped_gave (constructed_type env method object) (λ type. constructed frame object type below) behind e in
          (object, g.0, something frame.stack (length method.arguments) object below is, ap (λ (f : Frame). f.locals) (sym g.1))

  init_stays : (method : MethodUse) (index k : ℕ) → method_named_by env index ≡ Some method → is_init method.reference.name ≡ true → invoke_init env method frame ≡ Some behind
      → is_object_at (constructed_object env (insns.Invoke invocations.Special index) frame) frame.locals k ≡ false → slice_get behind.locals k ≡ slice_get frame.locals k
  init_stays method index k named is e none =
      let g = init_gave method e in
      let object : constructed_object env (insns.Invoke invocations.Special index) frame ≡ Some g.0 =
      ap (λ o. o >>= λ (m : MethodUse). when (is_init m.reference.name) m >>= λ (m : MethodUse). slice_get frame.stack (length m.arguments)) named
      ∙ (ap (λ b. when b method >>= λ (m : MethodUse). slice_get frame.stack (length m.arguments)) is ∙ g.2) in
      ap (λ (ts : List FrameType). slice_get ts k) g.3
      ∙ replaced_stays g.0 g.1 frame.locals k (ap (λ (o : Option FrameType). is_object_at o frame.locals k) (sym object) ∙ none)

  special_stays : (index k : ℕ) → invoke_rule env invocations.Special index frame ≡ Some behind
      → is_object_at (constructed_object env (insns.Invoke invocations.Special index) frame) frame.locals k ≡ false → slice_get behind.locals k ≡ slice_get frame.locals k
  special_stays index k e none =
      let g = bound_gave (method_named_by env index) (λ method. when (goes_with_version env method) method >>= λ named. invoke env invocations.Special named frame) behind e in
      let h = bound_gave (when (goes_with_version env g.0) g.0) (λ named. invoke env invocations.Special named frame) behind g.2 in
      let same : g.0 ≡ h.0 = when_gave (goes_with_version env g.0) g.0 h.0 h.1 in
      by_name h.0 (g.1 ∙ ap Some same) (is_init h.0.reference.name) refl h.2
    where
      by_name : (method : MethodUse) → method_named_by env index ≡ Some method → (b : Bool) → is_init method.reference.name ≡ b
          → (if b then invoke_init env method frame else invoke_super env method frame) ≡ Some behind → slice_get behind.locals k ≡ slice_get frame.locals k
      by_name method named true is e = init_stays method index k named is e none
      by_name method named false is e = ap (λ (ts : List FrameType). slice_get ts k) (super_gave method e)

-- what can't change stays
pub others_stay : WritesThere → (env : Environment) (pc : ℕ) (insn : Instruction) (before behind : Frame) → rule env pc insn before ≡ Some behind
    → (k : ℕ) → may_change env pc insn before k ≡ false → slice_get behind.locals k ≡ slice_get before.locals k
others_stay law env pc (insns.New index) before behind e k none =
    ap (λ (ts : List FrameType). slice_get ts k) (new_gave env before behind pc index (within_gave env before behind (new_object env pc index before) e))
    ∙ replaced_stays (types.Uninitialized pc) types.Top before.locals k none
others_stay law env pc (insns.Invoke invocations.Special index) before behind e k none =
    special_stays env before behind index k (within_gave env before behind (invoke_rule env invocations.Special index before) e) none
others_stay law env pc (insns.Store kind index form) before behind e k none = law env pc (insns.Store kind index form) before behind e k none
others_stay law env pc (insns.StoreLong index form) before behind e k none = law env pc (insns.StoreLong index form) before behind e k none
others_stay law env pc insn before behind e k none = law env pc insn before behind e k refl

-- ---- what is noted

-- an instruction that keeps local variables changes none
pub none_change : (env : Environment) (pc : ℕ) (insn : Instruction) (frame : Frame) → keeps_locals insn ≡ true → (k : ℕ) → may_change env pc insn frame k ≡ false
none_change env pc (insns.New index) frame e k = absurd cc
none_change env pc (insns.Invoke invocations.Special index) frame e k = absurd cc
none_change env pc (insns.Store kind index form) frame e k = absurd cc
none_change env pc (insns.StoreLong index form) frame e k = absurd cc
none_change env pc insn frame e k = refl

-- what is noted covers what can change
pub covers_changes : (env : Environment) (pc : ℕ) (insn : Instruction) (names : List (List ℕ)) (f : NumberFrame) (object : Option Item) (places : List ℕ)
    → option_map (typed names) object ≡ object_replaced pc (constructed_object env insn (frame_of names f)) insn
    → HoldCopies places object f.locals → (k : ℕ) → may_change_at places insn k ≡ false → may_change env pc insn (frame_of names f) k ≡ false
covers_changes env pc insn names f object places is copies k e = by_index (stored_index insn) e
  where
    others : is_written places k ≡ false → is_object_at (object_replaced pc (constructed_object env insn (frame_of names f)) insn) (typed_all names f.locals) k ≡ false
    others w = ap (λ (o : Option FrameType). is_object_at o (typed_all names f.locals) k) (sym is) ∙ copies names k w

    by_index : (o : Option ℕ) → changes_by o (is_written places) k ≡ false
        → changes_by o (is_object_at (object_replaced pc (constructed_object env insn (frame_of names f)) insn) (typed_all names f.locals)) k ≡ false
    by_index None w = others w
    by_index (Some index) w = w
