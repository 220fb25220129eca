-- What stands before an instruction, from what the parts of its method come to.
use Rattle.std.proofs.Common.{◌≡◌, ℕ, ◌<◌, List, length, Option, Some, None, Result, Ok, Err, sym, ap, subst, ◌∙◌}
use Rattle.std.specs.Prelude.{IfOk, slice_get}
use Rattle.std.proofs.lemmas.Option.{slice_get_within}
use Rattle.jv_format.specs.Format.{◌>>=◌}
use Rattle.jv_text.specs.Types.{method_type_of}
use Rattle.jv_class_structure.specs.Parts.{CodeSeen, MethodSeen}
use Rattle.jv_stackmap.specs.Frames.{OneMaps, PlacedFrame}
use Rattle.jv_meaning_world.specs.World.{World}
use Rattle.jv_meaning_typing.specs.Uses.{Site}
use Rattle.jv_meaning_typing.specs.Environment.{Environment, current_class}
use Rattle.jv_meaning_typing.specs.Typing.{AreFrames, HandlersKeepRules, HasFrames, entries_before, limits_of}
use Rattle.jv_meaning_typing.specs.Judgement.{IsCodeOf, WithFrames}
use Rattle.jv_verify_types.specs.Current.{CurrentClass}
use Rattle.jv_verify_types.specs.PoolTypes.{CallTypes, call_types, call_types_at}
use Rattle.jv_verify_pass.specs.Before.{AreBefore, TookAll}
use Rattle.jv_verify_pass.specs.declared.before.FramesBefore.{FramesBefore}
use Rattle.jv_verify_pass.specs.declared.sink.FramedInsn.{FramedInsn}
use Rattle.jv_verify.specs.Frames.{InMethod}
use Rattle.jv_verify.specs.Judged.{IsMethodOf}
use Rattle.jv_verify.specs.Inside.Known.{IsEnvironmentOf}
use Rattle.jv_verify.specs.Inside.Shown.{AreMethodsOf, method_in}
use Rattle.jv_verify.specs.Inside.Typed.{KeepsRulesWith, SomeKeepsRules}
use Rattle.jv_verify.proofs.Judging.{with_frames}
use Rattle.jv_verify.proofs.Shown.{as_many, found_at, has_body, known_method}

-- ---- the frames of a stack map are one list

one_frames : OneMaps → (env : Environment) (maps others : List PlacedFrame) → AreFrames env maps → AreFrames env others → maps ≡ others
one_frames law env maps others p q = by_table env.code.stack_map_table p.spelled q.spelled
  where
    by_table : (o : Option (List ℕ)) → HasFrames env o maps → HasFrames env o others → maps ≡ others
    by_table None h k = h ∙ sym k
    by_table (Some bytes) h k = law (current_class env).constant_pool (limits_of env) (entries_before env) bytes maps others h k

pub with_others : OneMaps → (env : Environment) (maps others : List PlacedFrame) → AreFrames env maps → AreFrames env others → (Holds : Environment → List PlacedFrame → Type 0)
    → Holds env maps → Holds env others
with_others law env maps others p q Holds t = subst (Holds env) (one_frames law env maps others p q) t

pub stand : {E : Type 0} (world : World) (env : Environment) (maps : List PlacedFrame) → env.world ≡ world → IsCodeOf env → HandlersKeepRules env → AreFrames env maps
    → (pc : ℕ) (result : Result FramesBefore E) → IfOk result (AreBefore env maps pc) → IfOk result (λ f. WithFrames world env.site (λ e ms. AreBefore e ms pc f))
stand world env maps same code right frames pc (Err e) h = tt
stand world env maps same code right frames pc (Ok found) h = with_frames world env maps same code right frames (λ e ms. AreBefore e ms pc found) h

-- what holds of all that a sink took
pub took_so : {S : Type 0} (takes : S → FramedInsn → S → Type 0) (old new : S) (P Q : List FramedInsn → Type 0) → ((all : List FramedInsn) → P all → Q all) → TookAll takes old new P
    → TookAll takes old new Q
took_so takes old new P Q so (all, folds, are) = (all, folds, so all are)

-- ---- what a descriptor says

unsome : {A : Type 0} (x y : A) → Some x ≡ Some y → x ≡ y
unsome x y e = cc

pub described_by : (class : CurrentClass) (shown : MethodSeen) (body : CodeSeen) (types : CallTypes) (env : Environment) → IsEnvironmentOf class shown body env
    → call_types_at class.by.class.constant_pool shown.descriptor_index ≡ Some types → call_types env.descriptor ≡ types
described_by class shown body types env of says =
    unsome (call_types env.descriptor) types
    (sym (ap (λ o. o >>= λ method. Some (call_types method)) of.is.descriptor)
    ∙ (sym (ap (λ o. o >>= method_type_of >>= λ method. Some (call_types method)) of.method.descriptor) ∙ says))

-- ---- the method with a number

none_is_some : {A : Type 0} (a : A) → Some a ≡ None → ⊥
none_is_some a e = cc

module _ (class : CurrentClass) (methods : List MethodSeen) (are : AreMethodsOf class.by methods) (number : ℕ) (Holds : Environment → List PlacedFrame → Type 0)
    (typed : InMethod class.types.world class.by number Holds) where
  there : (shown : MethodSeen) × (slice_get methods number ≡ Some shown) × (method_in class.by.class.constant_pool shown ≡ Some typed.method)
  there =
      let within = slice_get_within class.by.class.methods number typed.method typed.at in
      let less : number < length methods = subst (λ (n : ℕ). number < n) (as_many (method_in class.by.class.constant_pool) methods class.by.class.methods are) within in
      let at = found_at (method_in class.by.class.constant_pool) methods class.by.class.methods are number less in
      (at.0, at.2, at.3 ∙ (sym at.4 ∙ typed.at))

  pub none_missing : slice_get methods number ≡ None → ⊥
  none_missing e = none_is_some there.0 (sym there.1 ∙ e)

  looked : (shown : MethodSeen) → Some shown ≡ slice_get methods number → method_in class.by.class.constant_pool shown ≡ Some typed.method
  looked shown here = subst (λ (x : MethodSeen). method_in class.by.class.constant_pool x ≡ Some typed.method) (unsome there.0 shown (sym there.1 ∙ sym here)) there.2

  code_is : typed.method.code ≡ Some typed.holds.env.code
  code_is = subst (λ (s : Site). s.method.code ≡ Some typed.holds.env.code) typed.holds.site_is typed.holds.code.is.code

  pub has_code : (shown : MethodSeen) → Some shown ≡ slice_get methods number → shown.code ≡ None → ⊥
  has_code shown here none =
      none_is_some typed.holds.env.code (sym code_is ∙ (has_body class.by.class.constant_pool shown typed.method (looked shown here) ∙ none))

  module _ (shown : MethodSeen) (here : Some shown ≡ slice_get methods number) (body : CodeSeen) (has : shown.code ≡ Some body) where
    of : IsEnvironmentOf class shown body typed.holds.env
    of = record {
      world = typed.holds.world_is;
      method = subst (IsMethodOf class shown body) (sym typed.holds.site_is) (known_method class shown body has typed.method (looked shown here));
      is = typed.holds.code.is;
    }

    keeps : KeepsRulesWith Holds typed.holds.env
    keeps = record { code = typed.holds.code; handlers = typed.holds.handlers; maps = typed.holds.maps; frames = typed.holds.frames; holds = typed.holds.holds }

    pub some_keeps : SomeKeepsRules (IsEnvironmentOf class shown body) Holds
    some_keeps = (typed.holds.env, (of, keeps))

    -- what holds in each environment of its kind holds in it
    pub in_method : (P : Environment → List PlacedFrame → Type 0)
        → ((env : Environment) → IsEnvironmentOf class shown body env → KeepsRulesWith Holds env → WithFrames class.types.world env.site P)
        → InMethod class.types.world class.by number P
    in_method P each = record {
      method = typed.method;
      at = typed.at;
      holds = subst (λ (s : Site). WithFrames class.types.world s P) typed.holds.site_is (each typed.holds.env of keeps);
    }

    pub if_ok_in_method : {A E : Type 0} (result : Result A E) (P : A → Environment → List PlacedFrame → Type 0)
        → ((env : Environment) → IsEnvironmentOf class shown body env → KeepsRulesWith Holds env → IfOk result (λ a. WithFrames class.types.world env.site (P a)))
        → IfOk result (λ a. InMethod class.types.world class.by number (P a))
    if_ok_in_method (Ok a) P each = in_method (P a) each
    if_ok_in_method (Err e) P each = tt
