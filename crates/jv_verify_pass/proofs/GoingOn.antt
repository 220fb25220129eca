-- What goes on from an instruction to where it doesn't flow.
use Rattle.std.proofs.Common.{◌≡◌, ℕ, Bool, true, false, ◌&&◌, not, List, [], ◌∷◌, length, map, Option, Some, None, Result, Ok, Err, sym, ap, subst, ◌∙◌}
use Rattle.std.specs.Prelude.{IfOk, OnOk}
use Rattle.std.specs.Option.{option_map}
use Rattle.std.proofs.lemmas.List.{length-map}
use Rattle.jv_format.specs.Format.{◌>>=◌}
use Rattle.jv_format.specs.declared.handlers.Handler.{Handler}
use Rattle.jv_stackmap.specs.Types.{FrameType}
use Rattle.jv_stackmap.specs.Frames.{Frame, PlacedFrame}
use Rattle.jv_code.specs.Insns.{Instruction}
use Rattle.jv_code.specs.Places.{IsAt, StandsInList}
use Rattle.jv_meaning_typing.specs.Environment.{Environment, IsEnvironment, instruction_at}
use Rattle.jv_meaning_typing.specs.FrameChanges.{with_stack}
use Rattle.jv_meaning_typing.specs.Rule.{handler_frame, rule, without_object}
use Rattle.jv_meaning_typing.specs.Typing.{catch_type, covers, handles}
use Rattle.jv_meaning_typing.proofs.Starts.{instruction_at_is}
use Rattle.jv_verify_types.specs.Mapped.{thrown_frame}
use Rattle.jv_verify_types.specs.Numbered.{Item, NumberFrame, ReplacesAny, frame_of, topped, with_locals}
use Rattle.jv_verify_types.specs.Numbered as numbered
use Rattle.jv_verify_types.specs.Typed.{typed, typed_all}
use Rattle.jv_verify_pass.specs.Onward.{Unmet, begins_unmet, first_difference, is_unhandled, left_unmet, map_there, unmet, unmet_by}
use Rattle.jv_verify_pass.specs.declared.difference.Difference.{Difference}

pub if_ok_so : {A E : Type 0} (result : Result A E) (P Q : A → Type 0) → ((a : A) → P a → Q a) → IfOk result P → IfOk result Q
if_ok_so (Ok a) P Q f h = f a h
if_ok_so (Err e) P Q f h = tt

pub on_ok_so : {A E : Type 0} (result : Result A E) (P Q : Type 0) → (P → Q) → OnOk result P → OnOk result Q
on_ok_so (Ok a) P Q f h = f h
on_ok_so (Err e) P Q f h = tt

pub insn_there : StandsInList → (env : Environment) → IsEnvironment env → (code bytes : List ℕ) (pc : ℕ) (insn : Instruction) → bytes ≡ code → env.code.code ≡ code → IsAt bytes pc insn
    → instruction_at env pc ≡ Some insn
insn_there stands env is code bytes pc insn e f at = (instruction_at_is stands env pc insn is).0 (subst (λ (b : List ℕ). IsAt b pc insn) (e ∙ sym f) at)

unsome : {A : Type 0} (x y : A) → Some x ≡ Some y → x ≡ y
unsome x y e = cc

pub one_insn : (env : Environment) (pc : ℕ) (one other : Instruction) → instruction_at env pc ≡ Some one → instruction_at env pc ≡ Some other → one ≡ other
one_insn env pc one other p q = unsome one other (sym p ∙ q)

-- as many types as before
pub as_long : (object by : Item) (old new : List Item) → ReplacesAny object by old new → length new ≡ length old
as_long object by old new h =
    sym (length-map new (typed [])) ∙ (ap (λ (ts : List FrameType). length ts) (h []) ∙ (length-map (typed_all [] old) _ ∙ length-map old (typed [])))

-- what a handler begins with
pub begun_is : (names : List (List ℕ)) (old lost cleared new : NumberFrame) (object : Option Item) (thrown : Item)
    → typed_all names lost.locals ≡ without_object (option_map (typed names) object) (typed_all names old.locals) → lost ≡ with_locals lost.locals old
    → cleared ≡ numbered.with_stack [] lost → new ≡ topped cleared thrown → frame_of names new ≡ thrown_frame names old object thrown
begun_is names old lost cleared new object thrown e l s n =
    ap (frame_of names) (n ∙ ap (λ (f : NumberFrame). topped f thrown) s)
    ∙ (ap (λ (ts : List FrameType). record { locals = ts; stack = typed names thrown ∷ []; flag_this_uninit = lost.flag_this_uninit }) e
    ∙ ap (λ (f : NumberFrame). record {
      locals = without_object (option_map (typed names) object) (typed_all names old.locals);
      stack = typed names thrown ∷ [];
      flag_this_uninit = f.flag_this_uninit;
    }) l)

-- a frame with what is there
abbrev made : Frame → Option ℕ → Option Frame → Option Difference → Unmet
made frame to map differ = record { frame = frame; to = to; map = map; differ = differ }

pub unmet_is : (env : Environment) (maps : List PlacedFrame) (f g : Frame) (to : Option ℕ) (there : Option Frame) (differ : Option Difference)
    → g ≡ f → there ≡ map_there maps to → differ ≡ (there >>= first_difference env.world f) → made g to there differ ≡ unmet env maps f to
unmet_is env maps f g to there differ e m d =
    ap (λ (x : Frame). made x to there differ) e
    ∙ (ap (made f to there) d ∙ ap (λ (o : Option Frame). made f to o (o >>= first_difference env.world f)) m)

-- ---- handlers

pub not_covered : (env : Environment) (maps : List PlacedFrame) (pc : ℕ) (begun : Frame) (h : Handler) → false ≡ covers h pc → false ≡ is_unhandled env maps pc begun h
not_covered env maps pc begun h e = ap (λ b. b && not (handles env maps begun h)) e

pub is_covered : (env : Environment) (maps : List PlacedFrame) (pc : ℕ) (begun : Frame) (h : Handler) (r : Bool) → covers h pc ≡ true → r ≡ handles env maps begun h
    → not r ≡ is_unhandled env maps pc begun h
is_covered env maps pc begun h r e k = ap (λ b. not b) k ∙ ap (λ b. b && not (handles env maps begun h)) (sym e)

abbrev begun_by : Environment → List PlacedFrame → Frame → Handler → Option FrameType → Option Unmet
begun_by env maps begun h o = option_map (λ thrown. unmet env maps thrown (Some h.handler_pc)) (option_map (λ type. with_stack begun (type ∷ [])) o)

pub begins_none : (env : Environment) (maps : List PlacedFrame) (begun : Frame) (h : Handler) → None ≡ catch_type env h.catch_type → None ≡ begins_unmet env maps begun h
begins_none env maps begun h e = ap (begun_by env maps begun h) e

pub begins_is : (env : Environment) (maps : List PlacedFrame) (begun thrown : Frame) (h : Handler) (t : FrameType) (pc : ℕ) (u : Unmet) → Some t ≡ catch_type env h.catch_type
    → thrown ≡ with_stack begun (t ∷ []) → pc ≡ h.handler_pc → u ≡ unmet env maps thrown (Some pc) → Some u ≡ begins_unmet env maps begun h
begins_is env maps begun thrown h t pc u e same at is =
    ap (λ (x : Unmet). Some x) (is ∙ (ap (λ (n : ℕ). unmet env maps thrown (Some n)) at ∙ ap (λ (x : Frame). unmet env maps x (Some h.handler_pc)) same))
    ∙ ap (begun_by env maps begun h) e

-- ---- by what is found

module _ (env : Environment) (maps : List PlacedFrame) (pc : ℕ) (insn : Instruction) (frame : Frame) where
  pub at_handler : (found : Option Unmet) (h : Handler) (o : Option Handler) → Some h ≡ o → found ≡ begins_unmet env maps (handler_frame env insn frame) h
      → found ≡ unmet_by env maps pc insn frame o
  at_handler found h o e f = f ∙ ap (unmet_by env maps pc insn frame) e

  pub at_none : (o : Option Handler) → None ≡ o → rule env pc insn frame ≡ None → None ≡ unmet_by env maps pc insn frame o
  at_none o e r = ap (λ (x : Option Frame). x >>= left_unmet env maps pc insn) (sym r) ∙ ap (unmet_by env maps pc insn frame) e

  pub at_target : (found : Option Unmet) (left : Frame) (o : Option Handler) → None ≡ o → rule env pc insn frame ≡ Some left → found ≡ left_unmet env maps pc insn left
      → found ≡ unmet_by env maps pc insn frame o
  at_target found left o e r f = f ∙ (ap (λ (x : Option Frame). x >>= left_unmet env maps pc insn) (sym r) ∙ ap (unmet_by env maps pc insn frame) e)
