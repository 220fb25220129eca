-- What unwinding asks: a handler has room for what is thrown, by the limits of its frame, objects are loadable, and a class that a throw passes stays out of
-- the verified ones' way.
use Rattle.std.proofs.Common.{◌≡◌, ℕ, ◌+◌, ◌≤◌, Bool, true, false, not, ◌&&◌, ◌||◌, ◌==◌, List, [], ◌∷◌, Option, Some, None, refl, ap, subst, ◌∙◌, arith}
use Rattle.std.specs.Prelude.{IsTrue, nat_le, unwrap_or, if◌then◌else◌}
use Rattle.std.specs.List.{Contains, find}
use Rattle.std.specs.Option.{option_map}
use Rattle.std.specs.Str.{bytes_eq}
use Rattle.std.proofs.lemmas.Bool.{le-leb}
use Rattle.std.proofs.lemmas.List.Sums.{sum_by-cons}
use Rattle.jv_format.specs.declared.handlers.Handler.{Handler}
use Rattle.jv_stackmap.specs.declared.verification.VerificationTypeOf.TheVariants as types
use Rattle.jv_stackmap.specs.Types.{FrameType, width, words}
use Rattle.jv_stackmap.specs.Frames.{Frame, PlacedFrame}
use Rattle.jv_code.specs.Insns.{Instruction}
use Rattle.jv_code.specs.Places.{StandsInList, NextStarts}
use Rattle.jv_meaning_world.specs.World.{Loaded, World}
use Rattle.jv_meaning_world.proofs.Up.{first, later}
use Rattle.jv_meaning_world.proofs.OrderChains.{all_at}
use Rattle.jv_meaning_world.specs.Flow.{flows}
use Rattle.jv_meaning_world.specs.FrameFlow.{all_flow, item_flows}
use Rattle.jv_meaning_world.specs.Laws.Order.{IsRooted}
use Rattle.jv_meaning_typing.specs.Environment.{Environment, instruction_at, current_class}
use Rattle.jv_meaning_typing.specs.Rule.{handler_frame}
use Rattle.jv_meaning_typing.specs.Typing.{HasFrames, limits_of, entries_before, frame_at, flows_into, covers, handles, catch_type}
use Rattle.jv_meaning_typing.proofs.Starts.{start_within}
use Rattle.jv_meaning_machine.specs.Frames.{MethodFrame}
use Rattle.jv_meaning_machine.specs.State.{Program, state_named, is_ready}
use Rattle.jv_meaning_machine.specs.State.ClassState.{Initialized, Erroneous}
use Rattle.jv_meaning_machine.specs.Initialization.{is_verified}
use Rattle.jv_meaning_machine.specs.Throws.{Thrown, passed_initialization}
use Rattle.jv_sound.specs.Values.{Heap}
use Rattle.jv_sound.specs.Memory.{AreLoadable}
use Rattle.jv_sound.specs.Sound.{IsChecked}
use Rattle.jv_sound.specs.Frames.{AreVerified}
use Rattle.jv_sound.proofs.Logic.{clash}
use Rattle.jv_sound.proofs.Taking.{and_parts}
use Rattle.jv_sound.proofs.Frames.{IsThrownGood}
use Rattle.jv_sound.proofs.Limits.{maps_within}
use Rattle.jv_sound.proofs.Memories.{loadable_of}

width_some : (t : FrameType) → 1 ≤ width t
width_some types.Long = omega arith
width_some types.Top = omega arith
width_some types.Int = omega arith
width_some types.Null = omega arith
width_some types.UninitializedThis = omega arith
width_some (types.Uninitialized offset) = omega arith
width_some (types.Class name) = omega arith
width_some (types.Array components) = omega arith

some_words : (w : World) (t : FrameType) (stack : List FrameType) → all_flow (item_flows w) (t ∷ []) stack ≡ true → 1 ≤ words stack
some_words w t [] h = absurd (clash h)
some_words w t (s ∷ more) h =
    let one = width_some s in
    let sum : words (s ∷ more) ≡ width s + words more = sum_by-cons width s more in
    omega (arith, one, sum)

-- a frame at an offset is one of the map
in_map : (maps : List PlacedFrame) (pc : ℕ) (map : Frame) → frame_at maps pc ≡ Some map
    → (f : PlacedFrame) × Contains maps f × (f.frame ≡ map)
in_map [] pc map e = absurd cc
in_map (f ∷ maps) pc map e = by_test (f.offset == pc) e (λ k. in_map maps pc map k)
  where
    by_test : (b : Bool) → option_map (λ (x : PlacedFrame). x.frame)
        (if b then Some f else find (λ (x : PlacedFrame). x.offset == pc) maps) ≡ Some map
        → (frame_at maps pc ≡ Some map → (x : PlacedFrame) × Contains maps x × (x.frame ≡ map))
        → (x : PlacedFrame) × Contains (f ∷ maps) x × (x.frame ≡ map)
    by_test true k next = (f, first f maps, cc)
    by_test false k next = let n = next k in (n.0, later f maps n.0 n.1, n.2)

spelled_within : (env : Environment) (maps : List PlacedFrame) (o : Option (List ℕ)) → HasFrames env o maps → (f : PlacedFrame)
    → Contains maps f → words f.frame.stack ≤ env.code.max_stack
spelled_within env maps None h f k = absurd (Rattle.jv_meaning_world.proofs.Up.none f
    (subst (λ (ms : List PlacedFrame). Contains ms f) h k))
spelled_within env maps (Some bytes) h f k = maps_within (current_class env).constant_pool (limits_of env)
    (entries_before env) bytes maps h f k

module _ (program : Program) where
  pub handler_room : (f : MethodFrame) (checked : IsChecked program f.method) (insn : Instruction) (h : Handler)
      → instruction_at f.method f.offset ≡ Some insn → Contains f.method.code.exception_table h → covers h f.offset ≡ true
      → nat_le 1 f.method.code.max_stack ≡ true
  handler_room f checked insn h e there covering =
      by_type (catch_type f.method h.catch_type)
      (reached (covers h f.offset) (handles f.method checked.maps (handler_frame f.method insn (checked.frames f.offset)) h) covering
      (all_at (λ (h : Handler). not (covers h f.offset) || handles f.method checked.maps
      (handler_frame f.method insn (checked.frames f.offset)) h) f.method.code.exception_table h
      (checked.typing.below f.offset insn e (start_within f.method f.offset insn checked.is e)).handled there))
    where
      reached : (a b : Bool) → a ≡ true → (not a || b) ≡ true → b ≡ true
      reached true b e k = k
      reached false b e k = absurd (clash e)

      by_map : (thrown : Frame) (type : FrameType) → thrown.stack ≡ type ∷ [] → (o : Option Frame) → frame_at checked.maps h.handler_pc ≡ o
          → flows_into f.method thrown o ≡ true → nat_le 1 f.method.code.max_stack ≡ true
      by_map thrown type one None k flow = absurd (clash flow)
      by_map thrown type one (Some map) k flow =
          let placed = in_map checked.maps h.handler_pc map k in
          let within : words map.stack ≤ f.method.code.max_stack = subst (λ (x : Frame). words x.stack ≤ f.method.code.max_stack) placed.2
          (spelled_within f.method checked.maps f.method.code.stack_map_table checked.typing.stack_map.spelled placed.0 placed.1) in
          let parts = and_parts (all_flow (flows f.method.world) thrown.locals map.locals && all_flow
          (item_flows f.method.world) thrown.stack map.stack) (not thrown.flag_this_uninit || map.flag_this_uninit) flow in
          let stacks = (and_parts (all_flow (flows f.method.world) thrown.locals map.locals)
          (all_flow (item_flows f.method.world) thrown.stack map.stack) parts.0).1 in
          let some = some_words f.method.world type map.stack (subst
          (λ (s : List FrameType). all_flow (item_flows f.method.world) s map.stack ≡ true) one stacks) in
          le-leb 1 f.method.code.max_stack (omega (arith, some, within))

      by_type : (o : Option FrameType)
          → unwrap_or (option_map (λ (thrown : Frame). flows_into f.method thrown (frame_at checked.maps h.handler_pc))
          (option_map (λ (type : FrameType). record (handler_frame f.method insn
          (checked.frames f.offset)) { stack = type ∷ [] }) o)) false ≡ true
          → nat_le 1 f.method.code.max_stack ≡ true
      by_type None k = absurd (clash k)
      by_type (Some type) k = by_map (record (handler_frame f.method insn (checked.frames f.offset)) { stack = type ∷ [] }) type refl
          (frame_at checked.maps h.handler_pc) refl k

  module _ (rooted : IsRooted program.world) (next_starts : NextStarts) (stands_in_list : StandsInList) where
    pub thrown_loadable : (heap : Heap) (t : Thrown) → IsThrownGood program rooted next_starts stands_in_list heap t
        → AreLoadable program.world heap.objects
    thrown_loadable heap t ok = loadable_of program heap t.memory ok.is ok.memory

    -- an erroneous class is not under way
    pub begun_is_verified : (l : Loaded) (t : Thrown) (heap : Heap) → Contains program.world l
        → IsThrownGood program rooted next_starts stands_in_list heap t
        → IsThrownGood program rooted next_starts stands_in_list heap (passed_initialization l t)
    begun_is_verified l t heap here ok = record {
      is = ok.is;
      memory = ok.memory;
      object = ok.object;
      throwable = ok.throwable;
      loadable =
          ok.loadable;
      verified = verified;
    }
      where
        verified : AreVerified program ((l.class.name, Erroneous) ∷ t.control.states)
        verified other there e = by_system other.by_system refl e
          where
            by_name : (b : Bool) → is_ready (if b then Erroneous else state_named other.class.name t.control.states) ≡ true
                → (is_ready (state_named other.class.name t.control.states) ≡ true → IsTrue (is_verified program other))
                → IsTrue (is_verified program other)
            by_name true k next = absurd (clash k)
            by_name false k next = next k

            by_system : (b : Bool) → other.by_system ≡ b → is_ready
                (if b then Initialized else state_named other.class.name ((l.class.name, Erroneous) ∷ t.control.states)) ≡ true
                → IsTrue (is_verified program other)
            by_system true k f = ok.verified other there (ap (λ (b : Bool). is_ready
                (if b then Initialized else state_named other.class.name t.control.states)) k)
            by_system false k f = by_name (bytes_eq other.class.name l.class.name) f
                (λ g. ok.verified other there (ap (λ (b : Bool). is_ready
                (if b then Initialized else state_named other.class.name t.control.states)) k ∙ g))
