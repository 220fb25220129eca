-- What flows by numbers flows by names.
use Rattle.std.proofs.Common.{◌≡◌, ℕ, Bool, true, false, List, [], ◌∷◌, length, Option, Some, None, refl, sym, ap, subst, ◌∙◌}
use Rattle.std.specs.Prelude.{if◌then◌else◌, unwrap_or}
use Rattle.std.specs.Option.{option_map}
use Rattle.jv_pool.specs.Constants.{Entry}
use Rattle.jv_format.specs.declared.handlers.Handler.{Handler}
use Rattle.jv_stackmap.specs.Types.{FrameType}
use Rattle.jv_stackmap.specs.Frames.{Frame, by_words}
use Rattle.jv_stackmap.specs.Entries.{ReadFrame}
use Rattle.jv_code.specs.Insns.{Instruction}
use Rattle.jv_meaning_world.specs.World.{Loaded, World}
use Rattle.jv_meaning_world.specs.FrameFlow.{frame_flows}
use Rattle.jv_meaning_typing.specs.Environment.{Environment, current_class}
use Rattle.jv_meaning_typing.specs.FrameChanges.{with_stack}
use Rattle.jv_meaning_typing.specs.Rule.{rule, constructed_object, handler_frame}
use Rattle.jv_meaning_typing.specs.Typing.{flows_into, frame_at, handles, catch_type, first_frame, entries_before}
use Rattle.jv_verify_types.specs.Typed.{TypeWorld, typed, typed_all}
use Rattle.jv_verify_types.specs.Numbered.{Item, NumberFrame, frame_of}
use Rattle.jv_verify_types.specs.Outcomes.{IsFrame}
use Rattle.jv_verify_types.specs.Current.{CurrentClass}
use Rattle.jv_verify_rules.specs.Method.{MethodContext, IsOfMethod}
use Rattle.jv_verify_rules.specs.Laws.{KeepsLocalCount}
use Rattle.std.proofs.lemmas.List.{length-map}
use Rattle.jv_verify_types.specs.Mapped.{EntryTypes, names_of_types, world_of_types, frame_by_types, thrown_frame}
use Rattle.jv_verify_pass.specs.Pass.{Pass, IsOfPass, names_in, maps_of}
use Rattle.jv_verify_pass.specs.Inside.Kept.{IsPass}
use Rattle.jv_verify_pass.specs.Inside.Settled.{IsLeft}
use Rattle.jv_verify_pass.specs.Inside.Walk.{merged, when_falls}

module _ (pass : Pass) (entries : List Item) (count : ℕ) (kept : IsPass pass entries count) (env : Environment) (is : IsOfPass pass env) where
  pub world_is : env.world ≡ world_of_types pass.types
  world_is = is.context.class.world ∙ ap (λ (t : TypeWorld). t.world) (sym kept.types)

  pub names_are : pass.context.class.types.names ≡ names_in pass
  names_are = ap (λ (t : TypeWorld). t.names) (sym kept.types)

  -- what the class's constants say
  pub pool_is : (class : CurrentClass) (pool : List Entry) → class ≡ pass.context.class → pool ≡ class.by.class.constant_pool → (current_class env).constant_pool ≡ pool
  pool_is class pool e h = ap (λ (l : Loaded). l.class.constant_pool) is.context.class.by ∙ (ap (λ (k : CurrentClass). k.by.class.constant_pool) (sym e) ∙ sym h)

  pub typed_is : (class : CurrentClass) (types : TypeWorld) (item : Option Item) (o : Option FrameType) → class ≡ pass.context.class → types ≡ class.types
      → option_map (typed types.names) item ≡ o → option_map (typed (names_in pass)) item ≡ o
  typed_is class types item o e h w =
      ap (λ (t : TypeWorld). option_map (typed t.names) item) (kept.types ∙ (ap (λ (k : CurrentClass). k.types) (sym e) ∙ sym h)) ∙ w

  -- a frame against one of the map
  pub flow_is : (types : EntryTypes) (f : NumberFrame) (map : ReadFrame) (r : Bool) → types ≡ pass.types → length f.locals ≡ pass.max_locals
      → r ≡ frame_flows (world_of_types types) (frame_of (names_of_types types) f) (frame_by_types types (length f.locals) map)
      → r ≡ frame_flows env.world (frame_of (names_in pass) f) (frame_by_types pass.types pass.max_locals map)
  flow_is types f map r e room h =
      h
      ∙ (ap (λ (t : EntryTypes). frame_flows (world_of_types t) (frame_of (names_of_types t) f) (frame_by_types t (length f.locals) map)) e
      ∙ (ap (λ (n : ℕ). frame_flows (world_of_types pass.types) (frame_of (names_in pass) f) (frame_by_types pass.types n map)) room
      ∙ ap (λ (w : World). frame_flows w (frame_of (names_in pass) f) (frame_by_types pass.types pass.max_locals map)) (sym world_is)))

  pub flows_there : (types : EntryTypes) (f : NumberFrame) (map : ReadFrame) (r : Bool) (o : Option Frame) → types ≡ pass.types → length f.locals ≡ pass.max_locals
      → r ≡ frame_flows (world_of_types types) (frame_of (names_of_types types) f) (frame_by_types types (length f.locals) map)
      → Some (frame_by_types pass.types pass.max_locals map) ≡ o → r ≡ flows_into env (frame_of (names_in pass) f) o
  flows_there types f map r o e room h at = flow_is types f map r e room h ∙ ap (flows_into env (frame_of (names_in pass) f)) at

  -- what a handler begins with against one of the map
  pub thrown_is : (insn : Instruction) (f : NumberFrame) (object : Option Item) (thrown : Item)
      → IsLeft env insn (names_in pass) f object → thrown_frame (names_in pass) f object thrown ≡ with_stack (handler_frame env insn (frame_of (names_in pass) f)) (typed (names_in pass) thrown ∷ [])
  thrown_is insn f object thrown e =
      ap (λ (locals : List FrameType). record { locals = locals; stack = typed (names_in pass) thrown ∷ []; flag_this_uninit = f.flag_this_uninit }) e

  pub handles_is : (insn : Instruction) (frame : Frame) (handler : Handler) (t : FrameType) → Some t ≡ catch_type env handler.catch_type
      → flows_into env (with_stack (handler_frame env insn frame) (t ∷ [])) (frame_at (maps_of pass) handler.handler_pc) ≡ handles env (maps_of pass) (handler_frame env insn frame) handler
  handles_is insn frame handler t e =
      ap (λ (o : Option FrameType). unwrap_or (option_map (λ (x : Frame). flows_into env x (frame_at (maps_of pass) handler.handler_pc))
      (option_map (λ (type : FrameType). with_stack (handler_frame env insn frame) (type ∷ [])) o)) false) e

  pub no_catch : (insn : Instruction) (frame : Frame) (handler : Handler) → None ≡ catch_type env handler.catch_type
      → false ≡ handles env (maps_of pass) (handler_frame env insn frame) handler
  no_catch insn frame handler e =
      ap (λ (o : Option FrameType). unwrap_or (option_map (λ (x : Frame). flows_into env x (frame_at (maps_of pass) handler.handler_pc))
      (option_map (λ (type : FrameType). with_stack (handler_frame env insn frame) (type ∷ [])) o)) false) e

  pub no_map : (insn : Instruction) (frame : Frame) (handler : Handler) (t : FrameType) → Some t ≡ catch_type env handler.catch_type
      → None ≡ frame_at (maps_of pass) handler.handler_pc → false ≡ handles env (maps_of pass) (handler_frame env insn frame) handler
  no_map insn frame handler t e at =
      ap (flows_into env (with_stack (handler_frame env insn frame) (t ∷ []))) at ∙ handles_is insn frame handler t e

  pub handles_there : (types : EntryTypes) (insn : Instruction) (f : NumberFrame) (object : Option Item) (thrown : Item) (handler : Handler) (map : ReadFrame) (r : Bool)
      → types ≡ pass.types → length f.locals ≡ pass.max_locals
      → r ≡ frame_flows (world_of_types types) (thrown_frame (names_of_types types) f object thrown) (frame_by_types types (length f.locals) map)
      → IsLeft env insn (names_in pass) f object
      → Some (typed (names_in pass) thrown) ≡ catch_type env handler.catch_type
      → Some (frame_by_types pass.types pass.max_locals map) ≡ frame_at (maps_of pass) handler.handler_pc
      → r ≡ handles env (maps_of pass) (handler_frame env insn (frame_of (names_in pass) f)) handler
  handles_there types insn f object thrown handler map r e room h o t at =
      h
      ∙ (ap (λ (x : EntryTypes). frame_flows (world_of_types x) (thrown_frame (names_of_types x) f object thrown) (frame_by_types x (length f.locals) map)) e
      ∙ (ap (λ (n : ℕ). frame_flows (world_of_types pass.types) (thrown_frame (names_in pass) f object thrown) (frame_by_types pass.types n map)) room
      ∙ (ap (λ (w : World). frame_flows w (thrown_frame (names_in pass) f object thrown) (frame_by_types pass.types pass.max_locals map)) (sym world_is)
      ∙ (ap (λ (x : Frame). frame_flows env.world x (frame_by_types pass.types pass.max_locals map)) (thrown_is insn f object thrown o)
      ∙ (ap (flows_into env (with_stack (handler_frame env insn (frame_of (names_in pass) f)) (typed (names_in pass) thrown ∷ []))) at
      ∙ handles_is insn (frame_of (names_in pass) f) handler (typed (names_in pass) thrown) t)))))

  -- ---- the frame before an instruction

  none_merged : (falls : Bool) (f : NumberFrame) → IsFrame (names_in pass) (merged env.world (when_falls falls (frame_of (names_in pass) f)) None) f falls
  none_merged true f = refl
  none_merged false f = refl

  pub merged_none : (falls : Bool) (f : NumberFrame) (o : Option Frame) → None ≡ o
      → IsFrame (names_in pass) (merged env.world (when_falls falls (frame_of (names_in pass) f)) o) f falls
  merged_none falls f o e = subst (λ (x : Option Frame). IsFrame (names_in pass) (merged env.world (when_falls falls (frame_of (names_in pass) f)) x) f falls) e (none_merged falls f)

  pub merged_not : (f : NumberFrame) (map : ReadFrame) (o : Option Frame) → Some (frame_by_types pass.types pass.max_locals map) ≡ o
      → false ≡ frame_flows env.world (frame_of (names_in pass) f) (frame_by_types pass.types pass.max_locals map)
      → merged env.world (Some (frame_of (names_in pass) f)) o ≡ None
  merged_not f map o at h =
      ap (merged env.world (Some (frame_of (names_in pass) f))) (sym at)
      ∙ ap (λ (b : Bool). if b then Some (frame_by_types pass.types pass.max_locals map) else None) (sym h)

  pub merged_flows : (f : NumberFrame) (map : ReadFrame) (o : Option Frame) → Some (frame_by_types pass.types pass.max_locals map) ≡ o
      → true ≡ frame_flows env.world (frame_of (names_in pass) f) (frame_by_types pass.types pass.max_locals map)
      → merged env.world (Some (frame_of (names_in pass) f)) o ≡ Some (frame_by_types pass.types pass.max_locals map)
  merged_flows f map o at h =
      ap (merged env.world (Some (frame_of (names_in pass) f))) (sym at)
      ∙ ap (λ (b : Bool). if b then Some (frame_by_types pass.types pass.max_locals map) else None) (sym h)

  pub merged_map : (map : ReadFrame) (o : Option Frame) → Some (frame_by_types pass.types pass.max_locals map) ≡ o
      → merged env.world None o ≡ Some (frame_by_types pass.types pass.max_locals map)
  merged_map map o at = ap (merged env.world None) (sym at)

  pub set_is : (types : EntryTypes) (count_before : ℕ) (new : NumberFrame) (map : ReadFrame) → types ≡ pass.types → count_before ≡ pass.max_locals
      → frame_of (names_of_types types) new ≡ frame_by_types types count_before map → Some (frame_by_types pass.types pass.max_locals map) ≡ Some (frame_of (names_in pass) new)
  set_is types count_before new map e room h =
      ap (λ (f : Frame). Some f)
      (ap (λ (n : ℕ). frame_by_types pass.types n map) (sym room)
      ∙ (ap (λ (t : EntryTypes). frame_by_types t count_before map) (sym e)
      ∙ (sym h ∙ ap (λ (t : EntryTypes). frame_of (names_of_types t) new) e)))

  -- ---- the first frame

  pub first_is : (f : NumberFrame) (n : ℕ) → n ≡ pass.max_locals → ((names : List (List ℕ)) → frame_of names f ≡ by_words n (typed_all names entries) [])
      → first_frame env ≡ frame_of (names_in pass) f
  first_is f n e h =
      ap (λ (k : ℕ). by_words k (entries_before env) []) (is.max_locals ∙ sym e)
      ∙ (ap (λ (types : List FrameType). by_words n types []) (is.initial ∙ ap (typed_all (names_in pass)) kept.initial)
      ∙ sym (h (names_in pass)))

  -- ---- the frame behind an instruction

  pub applied : (context : MethodContext) (insn : Instruction) (f new : NumberFrame) (k offset : ℕ) (b : Bool) → context ≡ pass.context → k ≡ offset
      → ((e : Environment) → IsOfMethod context e → IsFrame context.class.types.names (rule e k insn (frame_of context.class.types.names f)) new b)
      → IsFrame (names_in pass) (rule env offset insn (frame_of (names_in pass) f)) new b
  applied context insn f new k offset b e o h =
      let there : IsFrame context.class.types.names (rule env k insn (frame_of context.class.types.names f)) new b =
      h env (subst (λ (m : MethodContext). IsOfMethod m env) (sym e) is.context) in
      let named : IsFrame pass.context.class.types.names (rule env k insn (frame_of pass.context.class.types.names f)) new b =
      subst (λ (m : MethodContext). IsFrame m.class.types.names (rule env k insn (frame_of m.class.types.names f)) new b) e there in
      let typed : IsFrame (names_in pass) (rule env k insn (frame_of (names_in pass) f)) new b =
      subst (λ (names : List (List ℕ)). IsFrame names (rule env k insn (frame_of names f)) new b) names_are named in
      subst (λ (n : ℕ). IsFrame (names_in pass) (rule env n insn (frame_of (names_in pass) f)) new b) o typed

  pub constructed_is : (context : MethodContext) (insn : Instruction) (f : NumberFrame) (object : Option Item) → context ≡ pass.context
      → ((e : Environment) → IsOfMethod context e → option_map (typed context.class.types.names) object ≡ constructed_object e insn (frame_of context.class.types.names f))
      → option_map (typed (names_in pass)) object ≡ constructed_object env insn (frame_of (names_in pass) f)
  constructed_is context insn f object e h =
      let there : option_map (typed context.class.types.names) object ≡ constructed_object env insn (frame_of context.class.types.names f) =
      h env (subst (λ (m : MethodContext). IsOfMethod m env) (sym e) is.context) in
      let named : option_map (typed pass.context.class.types.names) object ≡ constructed_object env insn (frame_of pass.context.class.types.names f) =
      subst (λ (m : MethodContext). option_map (typed m.class.types.names) object ≡ constructed_object env insn (frame_of m.class.types.names f)) e there in
      subst (λ (names : List (List ℕ)). option_map (typed names) object ≡ constructed_object env insn (frame_of names f)) names_are named

pub is_left : (names : List (List ℕ)) (left : Option Frame) (new : NumberFrame) (b : Bool) → b ≡ true → IsFrame names left new b → left ≡ Some (frame_of names new)
is_left names left new b e h = subst (λ (x : Bool). IsFrame names left new x) e h

pub is_none_left : (names : List (List ℕ)) (left : Option Frame) (new : NumberFrame) (b : Bool) → b ≡ false → IsFrame names left new b → left ≡ None
is_none_left names left new b e h = subst (λ (x : Bool). IsFrame names left new x) e h

-- as many local variables as before
pub as_many : KeepsLocalCount → (env : Environment) (pc : ℕ) (insn : Instruction) (names : List (List ℕ)) (f new : NumberFrame)
    → rule env pc insn (frame_of names f) ≡ Some (frame_of names new) → length new.locals ≡ length f.locals
as_many law env pc insn names f new e =
    sym (length-map new.locals (typed names)) ∙ (law env pc insn (frame_of names f) (frame_of names new) e ∙ length-map f.locals (typed names))
