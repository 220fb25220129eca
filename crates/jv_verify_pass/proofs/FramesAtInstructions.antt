-- Frames that were read, each at an instruction, are the frames of the stack map.
use Rattle.std.proofs.Common.{◌≡◌, ℕ, true, false, true≢false, ◌&&◌, List, [], ◌∷◌, map, Option, Some, None, refl, sym, ap, subst, ◌∙◌, All, is_some}
use Rattle.std.specs.List.{list_all}
use Rattle.std.proofs.lemmas.List.Elements.{All-nil, All-cons, All-head, All-tail}
use Rattle.jv_pool.specs.Constants.{Entry}
use Rattle.jv_stackmap.specs.declared.limits.Limits.{Limits}
use Rattle.jv_stackmap.specs.Entries.{ReadFrame, entry_type, frame_placed, frames_placed}
use Rattle.jv_stackmap.specs.Frames.{PlacedFrame, Maps, OneMaps}
use Rattle.jv_stackmap.specs.Types.{FrameType}
use Rattle.jv_text.specs.Name.{is_init}
use Rattle.jv_meaning_typing.specs.Environment.{Environment, current_class, instruction_at}
use Rattle.jv_meaning_typing.specs.Typing.{is_made_by_new as is_made, is_static, HasFrames, FrameStands, entries_before, limits_of}
use Rattle.jv_verify_types.specs.Mapped.{EntryTypes, initial_types}
use Rattle.jv_verify_pass.specs.Tables.{HasMap, MapsTo}
use Rattle.jv_verify_pass.specs.Inside.Parts.{HasCode, is_made_by_new, frame_stands, IsSpelled}
use Rattle.jv_verify_pass.proofs.Tests.{both, joined}
use Rattle.jv_verify_pass.proofs.EntriesMade.{initial_made, entries_made, expanded_made}

-- ---- frames, one by one

module _ (env : Environment) (pool : List Entry) (initial : List FrameType) (same : entries_before env ≡ initial) (max_locals : ℕ) where
  made : list_all (is_made env) initial ≡ true
  made =
      ap (list_all (is_made env)) (sym same)
      ∙ initial_made env (current_class env).name (is_static env) (is_init env.site.method.name) env.descriptor.parameters

  abbrev placed_of : ReadFrame → PlacedFrame
  placed_of f = frame_placed pool initial max_locals f

  locals_made : (f : ReadFrame) → list_all (is_made_by_new env) f.locals ≡ list_all (is_made env) (placed_of f).frame.locals
  locals_made f = entries_made env pool initial made f.locals ∙ sym (expanded_made env max_locals (map (entry_type pool initial) f.locals))

  stack_made : (f : ReadFrame) → list_all (is_made_by_new env) f.stack ≡ list_all (is_made env) (placed_of f).frame.stack
  stack_made f = entries_made env pool initial made f.stack

  stands : (f : ReadFrame) → frame_stands env f ≡ true → FrameStands env (placed_of f)
  stands f h =
      let at = both (is_some (instruction_at env f.offset)) (list_all (is_made_by_new env) f.locals && list_all (is_made_by_new env) f.stack) h in
      let parts = both (list_all (is_made_by_new env) f.locals) (list_all (is_made_by_new env) f.stack) at.1 in
      record { at = at.0; locals = sym (locals_made f) ∙ parts.0; stack = sym (stack_made f) ∙ parts.1 }

  stood : (f : ReadFrame) → FrameStands env (placed_of f) → frame_stands env f ≡ true
  stood f s =
      joined (is_some (instruction_at env f.offset)) (list_all (is_made_by_new env) f.locals && list_all (is_made_by_new env) f.stack) s.at
      (joined (list_all (is_made_by_new env) f.locals) (list_all (is_made_by_new env) f.stack) (locals_made f ∙ s.locals) (stack_made f ∙ s.stack))

  pub all_stand : (frames : List ReadFrame) → list_all (frame_stands env) frames ≡ true → All (FrameStands env) (frames_placed pool initial max_locals frames)
  all_stand [] h = All-nil (FrameStands env)
  all_stand (f ∷ frames) h =
      let parts = both (frame_stands env f) (list_all (frame_stands env) frames) h in
      All-cons (FrameStands env) (placed_of f) (frames_placed pool initial max_locals frames) (stands f parts.0) (all_stand frames parts.1)

  pub all_stood : (frames : List ReadFrame) → All (FrameStands env) (frames_placed pool initial max_locals frames) → list_all (frame_stands env) frames ≡ true
  all_stood [] h = refl
  all_stood (f ∷ frames) h =
      joined (frame_stands env f) (list_all (frame_stands env) frames)
      (stood f (All-head (FrameStands env) (placed_of f) (frames_placed pool initial max_locals frames) h))
      (all_stood frames (All-tail (FrameStands env) (placed_of f) (frames_placed pool initial max_locals frames) h))

-- ---- the stack map of an environment

module _ (types : EntryTypes) (code : List ℕ) (limits : Limits) (bytes : List ℕ) (env : Environment) (has : HasMap types code limits (Some bytes) env) where
  -- what the environment says of its stack map, and what was read, are the same
  in_env : (frames : List PlacedFrame) → Maps types.constants.pool limits (initial_types types) bytes frames → HasFrames env env.code.stack_map_table frames
  in_env frames m =
      subst (λ (o : Option (List ℕ)). HasFrames env o frames) (sym has.bytes)
      (subst (λ (p : List Entry). Maps p (limits_of env) (entries_before env) bytes frames) (sym has.pool)
      (subst (λ (l : Limits). Maps types.constants.pool l (entries_before env) bytes frames) (sym has.limits)
      (subst (λ (i : List FrameType). Maps types.constants.pool limits i bytes frames) (sym has.initial) m)))

  from_env : (frames : List PlacedFrame) → HasFrames env env.code.stack_map_table frames → Maps types.constants.pool limits (initial_types types) bytes frames
  from_env frames m =
      subst (λ (i : List FrameType). Maps types.constants.pool limits i bytes frames) has.initial
      (subst (λ (l : Limits). Maps types.constants.pool l (entries_before env) bytes frames) has.limits
      (subst (λ (p : List Entry). Maps p (limits_of env) (entries_before env) bytes frames) has.pool
      (subst (λ (o : Option (List ℕ)). HasFrames env o frames) has.bytes m)))

  pub with_code : HasCode code env
  with_code = record { code = has.code; instructions = has.instructions }

  pub maps_bad : IsSpelled types limits bytes None → MapsTo types limits.max_locals env None
  maps_bad bad maps are = bad maps (from_env maps are.spelled)

  pub maps_to : (frames : List ReadFrame) → IsSpelled types limits bytes (Some frames) → list_all (frame_stands env) frames ≡ true → MapsTo types limits.max_locals env (Some frames)
  maps_to frames spelled all = record {
    spelled = in_env (frames_placed types.constants.pool (initial_types types) limits.max_locals frames) spelled;
    stand = all_stand env types.constants.pool (initial_types types) has.initial limits.max_locals frames all;
  }

  pub maps_not : OneMaps → (frames : List ReadFrame) → IsSpelled types limits bytes (Some frames) → list_all (frame_stands env) frames ≡ false → MapsTo types limits.max_locals env None
  maps_not law frames spelled none maps are =
      let placed = frames_placed types.constants.pool (initial_types types) limits.max_locals frames in
      let same : maps ≡ placed = law types.constants.pool limits (initial_types types) bytes maps placed (from_env maps are.spelled) spelled in
      true≢false (sym (all_stood env types.constants.pool (initial_types types) has.initial limits.max_locals frames
      (subst (λ (fs : List PlacedFrame). All (FrameStands env) fs) same are.stand)) ∙ none)
