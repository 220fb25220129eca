-- Frames that run, frames that wait, and what an effect makes of them.
use Rattle.jv_meaning_world.specs.Verdicts.{is_loadable, passes}
use Rattle.std.proofs.Common.{◌≡◌, ◌⊎◌, inl, inr, ℕ, suc, Bool, true, false, not, ◌&&◌, ◌||◌, List, [], ◌∷◌, ◌++◌, length, Option, Some, None, refl, sym, ap, subst, ◌∙◌, arith}
use Rattle.std.specs.Prelude.{⊤, IsTrue, nat_le, if◌then◌else◌}
use Rattle.std.specs.List.{AllByRecursion, Contains, find}
use Rattle.std.proofs.lemmas.List.Sums.{sum_by-cons}
use Rattle.jv_meaning_world.proofs.Up.{first, later as one_later_of}
use Rattle.jv_text.specs.declared.descriptor.FieldTypeOf.{FieldTypeOf}
use Rattle.jv_format.specs.declared.handlers.Handler.{Handler}
use Rattle.jv_stackmap.specs.declared.verification.VerificationTypeOf.TheVariants as types
use Rattle.jv_stackmap.specs.Types.{FrameType, width, words}
use Rattle.jv_stackmap.specs.Frames.{Frame as TypesOf}
use Rattle.jv_code.specs.Insns.{Instruction}
use Rattle.jv_code.specs.Places.{StandsInList, NextStarts}
use Rattle.jv_code.specs.Successors.{falls_through}
use Rattle.jv_sound.specs.Following.{IsSuccessor}
use Rattle.jv_meaning_world.specs.World.{Loaded, World, class_named}
use Rattle.jv_meaning_world.specs.Flow.{flows}
use Rattle.jv_meaning_world.specs.FrameFlow.{all_flow, item_flows, frame_flows}
use Rattle.jv_meaning_world.specs.Laws.Order.{IsRooted}
use Rattle.jv_meaning_typing.specs.Environment.{Environment, instruction_at, offset_behind, current_class}
use Rattle.jv_meaning_typing.specs.Named.{throwable_type}
use Rattle.jv_meaning_typing.specs.Rule.{rule, effect, within_stack}
use Rattle.jv_meaning_typing.specs.Typing.{covers, catch_type}
use Rattle.jv_meaning_machine.specs.Faults.Fault.{OffsetFault, StackFault}
use Rattle.jv_meaning_machine.specs.Values.{Value, value_words, words_of_values}
use Rattle.jv_meaning_machine.specs.Values.Value.{Long, Reference}
use Rattle.jv_meaning_machine.specs.Frames.{MethodFrame, Frame}
use Rattle.jv_meaning_machine.specs.Frames.Frame.{Runs, Initializes}
use Rattle.jv_meaning_machine.specs.State.{Program, Memory, Control, state_of}
use Rattle.jv_meaning_machine.specs.Throws.{Thrown, catches, handler_for, caught, replacement, passed_initialization, passed_method, unwound}
use Rattle.jv_meaning_machine.specs.Entering.{at_offset, resumed, leave_to}
use Rattle.jv_sound.specs.Values.{IsObject, Heap, Place, Item, HasStack, HasLocals, IsPaired, IsReady}
use Rattle.jv_sound.specs.Memory.{IsTypedMemory}
use Rattle.jv_sound.specs.Later.{IsLater}
use Rattle.jv_sound.specs.Sound.{IsChecked}
use Rattle.jv_sound.specs.Frames.{Holds, Holding, place_of, IsRunning, IsResumed, IsCatching, Promise, promise_of, IsResult, Resumes, IsBegun, IsTask, AreWaiting, AreFrames, AreVerified, HasMain, IsGood}
use Rattle.jv_sound.specs.Frames.Promise.{Gives, Builds, Again}
use Rattle.jv_sound.proofs.Logic.{clash, holds, then_holds, tested_holds, found_holds}
use Rattle.jv_sound.specs.Memory.{AreLoadable}
use Rattle.jv_sound.proofs.Types.{flows_fit, item_flows_fit}
use Rattle.jv_sound.proofs.Heaps.{same, later, weaker, locals_later, ready_later}
use Rattle.jv_sound.proofs.Leads.{Leads, follows, handled}

and_parts : (a b : Bool) → (a && b) ≡ true → (a ≡ true) × (b ≡ true)
and_parts true b e = (refl, e)
and_parts false b e = absurd (clash e)

-- ---- flow of a frame

pair_flows : (w : World) (s t : FrameType) (vs : List Value) → flows w s t ≡ true → IsPaired s vs → IsPaired t vs
pair_flows w types.Long types.Long vs e h = h
pair_flows w types.Top types.Long vs e h = absurd (clash e)
pair_flows w types.Int types.Long vs e h = absurd (clash e)
pair_flows w types.Null types.Long vs e h = absurd (clash e)
pair_flows w types.UninitializedThis types.Long vs e h = absurd (clash e)
pair_flows w (types.Class c) types.Long vs e h = absurd (clash e)
pair_flows w (types.Array c) types.Long vs e h = absurd (clash e)
pair_flows w (types.Uninitialized o) types.Long vs e h = absurd (clash e)
pair_flows w s _ vs e h = tt

module _ (p : Place) (rooted : IsRooted p.method.world) (loadable : AreLoadable p.method.world p.heap.objects) where
  locals_flow : (ss ts : List FrameType) (vs : List Value) → all_flow (flows p.method.world) ss ts ≡ true → HasLocals p ss vs
      → HasLocals p ts vs
  locals_flow [] [] vs e f = f
  locals_flow (s ∷ ss) (t ∷ ts) (v ∷ vs) e f =
      let k = and_parts (flows p.method.world s t) (all_flow (flows p.method.world) ss ts) e in
      (flows_fit p rooted loadable s t v k.0 f.0, pair_flows p.method.world s t vs k.0 f.1, locals_flow ss ts vs k.1 f.2)
  locals_flow [] (t ∷ ts) vs e f = absurd (clash e)
  locals_flow (s ∷ ss) [] vs e f = absurd (clash e)
  locals_flow (s ∷ ss) (t ∷ ts) [] e f = absurd f

  stack_flow : (ss ts : List FrameType) (vs : List Value) → all_flow (item_flows p.method.world) ss ts ≡ true → HasStack p ss vs
      → HasStack p ts vs
  stack_flow [] [] vs e f = f
  stack_flow (s ∷ ss) (t ∷ ts) (v ∷ vs) e f =
      let k = and_parts (item_flows p.method.world s t) (all_flow (item_flows p.method.world) ss ts) e in
      (item_flows_fit p rooted loadable s t v k.0 f.0, stack_flow ss ts vs k.1 f.1)
  stack_flow [] (t ∷ ts) vs e f = absurd (clash e)
  stack_flow (s ∷ ss) [] vs e f = absurd (clash e)
  stack_flow (s ∷ ss) (t ∷ ts) [] e f = absurd f

  ready_flows : (a b : Bool) → (not a || b) ≡ true → IsReady p a → IsReady p b
  ready_flows true true e r = λ c. ((r c).0, (r c).1, λ n. absurd (clash (sym n)))
  ready_flows true false e r = absurd (clash e)
  ready_flows false b e r = λ c. ((r c).0, (r c).1, λ n. (r c).2 refl)

  frame_goes : (g h : TypesOf) (values items : List Value) → (h ≡ g) ⊎ IsTrue (frame_flows p.method.world g h) → Holding p g values items
      → Holding p h values items
  frame_goes g h values items (inl e) k = subst (λ (x : TypesOf). Holding p x values items) (sym e) k
  frame_goes g h values items (inr e) k =
      let a = and_parts (all_flow (flows p.method.world) g.locals h.locals && all_flow (item_flows p.method.world) g.stack h.stack)
      (not g.flag_this_uninit || h.flag_this_uninit) e in
      let b = and_parts (all_flow (flows p.method.world) g.locals h.locals) (all_flow (item_flows p.method.world) g.stack h.stack) a.0 in
      record {
        locals = locals_flow g.locals h.locals values b.0 k.locals;
        stack = stack_flow g.stack h.stack items b.1 k.stack;
        ready =
            ready_flows g.flag_this_uninit h.flag_this_uninit a.1 k.ready;
      }

-- ---- all frames

module _ (program : Program) (rooted : IsRooted program.world) (next_starts : NextStarts) (stands_in_list : StandsInList) where
  -- what waits for nothing but the end of an initialization goes on
  pub again : (a : Heap) (fs : List Frame) → AreLoadable program.world a.objects → AreWaiting program a Again fs → AreFrames program a fs
  again a [] loadable c = tt
  again a (Runs f ∷ fs) loadable c = (c.1 a (same (suc (length fs)) a) loadable, c.2)
  again a (Initializes f ∷ fs) loadable c = c

  pub catching_later : {a b : Heap} (d : ℕ) → IsLater (suc d) a b → (f : MethodFrame) → IsCatching program a d f → IsCatching program b d f
  catching_later {a} {b} d g f c = record {
    checked = c.checked;
    insn = c.insn;
    stands = c.stands;
    made = c.made;
    locals = locals_later (place_of a d f c.made) b g _ f.locals c.locals;
    ready = ready_later (place_of a d f c.made) b g (c.checked.frames f.offset).flag_this_uninit c.ready;
  }

  resumes_later : {a b : Heap} (d : ℕ) → IsLater (suc d) a b → (f : MethodFrame) (p : Promise) → Resumes program a d f p
      → Resumes program b d f p
  resumes_later d g f Again r = λ c k n. r c (later g k) n
  resumes_later d g f (Gives result) r = λ c values k n x. r c values (later g k) n x
  resumes_later d g f (Builds type receiver) r = λ c id k n e x. r c id (later g k) n e x

  pub waiting_later : {a b : Heap} (fs : List Frame) → IsLater (length fs) a b → (p : Promise) → AreWaiting program a p fs
      → AreWaiting program b p fs
  waiting_later [] g p c = tt
  waiting_later (Runs f ∷ fs) g p c = (
    catching_later (length fs) g f c.0,
    resumes_later (length fs) g f p c.1,
    waiting_later fs (weaker (omega arith) g)
        (promise_of f) c.2,
  )
  waiting_later (Initializes f ∷ fs) g p c = (c.0, c.1, waiting_later fs (weaker (omega arith) g) Again c.2)

  world_loadable : (heap : Heap) (env : Environment) → env.world ≡ program.world → AreLoadable program.world heap.objects
      → AreLoadable env.world heap.objects
  world_loadable heap env e k = subst (λ (w : World). AreLoadable w heap.objects) (sym e) k

  -- where a frame leads, it runs
  pub arrives :
      (heap : Heap) (d : ℕ) (f : MethodFrame) (made : ℕ → ℕ) (checked : IsChecked program f.method) (g : TypesOf) (to : ℕ)
      (values items : List Value)
      → AreLoadable program.world heap.objects → Leads f.method checked.frames g to → Holding (place_of heap d f made) g values items
      → IsRunning program heap d (record f { offset = to; locals = values; stack = items })
  arrives heap d f made checked g to values items loadable leads k = record {
    checked = checked;
    insn = leads.insn;
    stands = leads.stands;
    made = made;
    holding = frame_goes (place_of heap d f made) (subst IsRooted (sym checked.world) rooted)
        (world_loadable heap f.method checked.world loadable) g (checked.frames to) values items leads.goes k;
  }

  -- ---- an instruction that goes on

  -- the words of values are those of their types
  item_words : (p : Place) (t : FrameType) (v : Value) → Item p t v → value_words v ≡ width t
  item_words p types.Long (Long n) h = refl
  item_words p types.Long _ h = absurd h.fits
  item_words p _ (Long n) h = absurd cc
  item_words p _ v h = refl

  pub stack_words : (p : Place) (ts : List FrameType) (vs : List Value) → HasStack p ts vs → words_of_values vs ≡ words ts
  stack_words p [] [] h = refl
  stack_words p (t ∷ ts) (v ∷ vs) h =
      let more : words_of_values vs ≡ words ts = stack_words p ts vs h.1 in
      let one : value_words v ≡ width t = item_words p t v h.0 in
      omega (arith, more, one, sum_by-cons value_words v vs, sum_by-cons width t ts)
  stack_words p _ _ h = absurd h

  -- where a rule gives a frame, its stack is within max_stack
  pub within : (env : Environment) (pc : ℕ) (insn : Instruction) (f g : TypesOf) → rule env pc insn f ≡ Some g
      → (effect env pc insn f ≡ Some g) × (nat_le (words g.stack) env.code.max_stack ≡ true)
  within env pc insn f g e = by_effect (effect env pc insn f) e
    where
      by_test : (h : TypesOf) (b : Bool) → nat_le (words h.stack) env.code.max_stack ≡ b → (if b then Some h else None) ≡ Some g
          → (Some h ≡ Some g) × (nat_le (words g.stack) env.code.max_stack ≡ true)
      by_test h true t k = let same : h ≡ g = cc in (k, subst (λ (x : TypesOf). nat_le (words x.stack) env.code.max_stack ≡ true) same t)
      by_test h false t k = absurd cc

      by_effect : (o : Option TypesOf) → Rattle.jv_format.specs.Format.◌>>=◌ o (within_stack env) ≡ Some g
          → (o ≡ Some g) × (nat_le (words g.stack) env.code.max_stack ≡ true)
      by_effect None k = absurd cc
      by_effect (Some h) k = by_test h (nat_le (words h.stack) env.code.max_stack) refl k

  -- the current frame goes on where its instruction leads
  pub at_offset_ok :
      (heap : Heap) (d : ℕ) (f : MethodFrame) (made : ℕ → ℕ) (checked : IsChecked program f.method) (insn : Instruction) (g : TypesOf)
      (to : ℕ) (values items : List Value)
      → AreLoadable program.world heap.objects → instruction_at f.method f.offset ≡ Some insn
      → rule f.method f.offset insn (checked.frames f.offset) ≡ Some g
      → IsSuccessor f.offset insn to → Holding (place_of heap d f made) g values items
      → Holds (IsResumed program heap d f) (at_offset f to values items)
  at_offset_ok heap d f made checked insn g to values items loadable stands rules succ k =
      let fits = within f.method f.offset insn (checked.frames f.offset) g rules in
      let room : nat_le (words_of_values items) f.method.code.max_stack ≡ true =
      ap (λ (n : ℕ). nat_le n f.method.code.max_stack) (stack_words (place_of heap d f made) g.stack items k.stack) ∙ fits.1 in
      then_holds (tested_holds {P = λ x. x ≡ f} StackFault _ f room refl) (λ x e.
      holds (subst (λ (x : MethodFrame). IsResumed program heap d f (record x { offset = to; locals = values; stack = items })) (sym e) (
        arrives heap d f made checked g to values items loadable
            (follows f.method checked.maps checked.frames checked.is checked.typing next_starts stands_in_list f.offset insn g to stands rules
            succ) k,
        refl,
      )))

  -- a caller goes on behind its call: this is what its promise comes to
  pub resumed_ok :
      (heap : Heap) (d : ℕ) (f : MethodFrame) (made : ℕ → ℕ) (checked : IsChecked program f.method) (insn : Instruction) (g : TypesOf)
      (result : List Value)
      → AreLoadable program.world heap.objects → instruction_at f.method f.offset ≡ Some insn
      → rule f.method f.offset insn (checked.frames f.offset) ≡ Some g
      → IsTrue (falls_through insn) → Holding (place_of heap d f made) g f.locals (result ++ f.stack)
      → Holds (IsResumed program heap d f) (resumed f result)
  resumed_ok heap d f made checked insn g result loadable stands rules falls k =
      then_holds (found_holds {P = λ x. x ≡ insn} OffsetFault (instruction_at f.method f.offset) insn stands refl) (λ x e.
      subst (λ (i : Instruction). Holds (IsResumed program heap d f) (at_offset f (offset_behind f.offset i) f.locals (result ++ f.stack)))
      (sym e)
      (at_offset_ok heap d f made checked insn g (offset_behind f.offset insn) f.locals (result ++ f.stack) loadable stands rules
      (inr (falls, refl)) k))

  -- ---- leaving

  abbrev pub IsGoodWith : Heap → Memory → Control → List Frame → Type 0
  IsGoodWith heap memory control fs = AreVerified program control.states × HasMain program control.main fs × IsTypedMemory program memory
      × (heap.objects ≡ memory.objects)

  pub good : (heap : Heap) (memory : Memory) (control : Control) (fs : List Frame) → IsGoodWith heap memory control fs
      → AreFrames program heap fs → IsGood program (state_of memory fs control)
  good heap memory control fs h frames = record { heap = heap; is = h.3; memory = h.2; frames = frames; verified = h.0; main = h.1 }

  -- a result is given to what waits for it
  pub leave_gives :
      (heap : Heap) (memory : Memory) (control : Control) (result : Option (FieldTypeOf (List ℕ))) (values : List Value) (fs : List Frame)
      → AreVerified program control.states → HasMain program control.main fs → IsTypedMemory program memory → heap.objects ≡ memory.objects
      → AreLoadable program.world heap.objects
      → AreWaiting program heap (Gives result) fs → IsResult program.world heap.objects result values
      → Holds (IsGood program) (leave_to memory fs control values)
  leave_gives heap memory control result values [] verified main typed is loadable waiting r =
      holds (record { heap = heap; is = is; memory = typed; frames = tt; verified = verified; main = tt })
  leave_gives heap memory control result values (Runs f ∷ fs) verified main typed is loadable waiting r =
      then_holds (waiting.1 heap values (same (suc (length fs)) heap) loadable r)
      (λ g run. holds (record {
        heap = heap;
        is = is;
        memory = typed;
        frames =
            (run.0, subst (λ (p : Promise). AreWaiting program heap p fs) (sym run.1) waiting.2);
        verified = verified;
        main = main;
      }))
  leave_gives heap memory control result values (Initializes f ∷ fs) verified main typed is loadable waiting r =
      holds (record { heap = heap; is = is; memory = typed; frames = waiting; verified = verified; main = main })

  -- so is a constructed receiver
  pub leave_builds :
      (heap : Heap) (memory : Memory) (control : Control) (type : FrameType) (receiver : Option ℕ) (fs : List Frame)
      → AreVerified program control.states → HasMain program control.main fs → IsTypedMemory program memory → heap.objects ≡ memory.objects
      → AreLoadable program.world heap.objects
      → AreWaiting program heap (Builds type receiver) fs → (id : ℕ) → receiver ≡ Some id → IsObject program.world heap.objects type id
      → Holds (IsGood program) (leave_to memory fs control [])
  leave_builds heap memory control type receiver [] verified main typed is loadable waiting id e o =
      holds (record { heap = heap; is = is; memory = typed; frames = tt; verified = verified; main = tt })
  leave_builds heap memory control type receiver (Runs f ∷ fs) verified main typed is loadable waiting id e o =
      then_holds (waiting.1 heap id (same (suc (length fs)) heap) loadable e o)
      (λ g run. holds (record {
        heap = heap;
        is = is;
        memory = typed;
        frames =
            (run.0, subst (λ (p : Promise). AreWaiting program heap p fs) (sym run.1) waiting.2);
        verified = verified;
        main = main;
      }))
  leave_builds heap memory control type receiver (Initializes f ∷ fs) verified main typed is loadable waiting id e o =
      holds (record { heap = heap; is = is; memory = typed; frames = waiting; verified = verified; main = main })

  -- ---- throws

  -- what is thrown, in a heap
  pub record IsThrownGood (heap : Heap) (t : Thrown) : Type 0 where
    pub is : heap.objects ≡ t.memory.objects
    pub memory : IsTypedMemory program t.memory
    pub object : IsObject program.world heap.objects (types.Class t.class) t.object
    pub throwable : IsObject program.world heap.objects throwable_type t.object
    pub loadable : IsTrue (passes (is_loadable program.world) (class_named program.world t.class))
    pub verified : AreVerified program t.control.states

  -- frames, the current one among them, in which what is thrown can be caught
  abbrev pub AreCatching : Heap → List Frame → Type 0
  AreCatching a [] = ⊤
  AreCatching a (Runs f ∷ fs) = IsCatching program a (length fs) f × AreWaiting program a (promise_of f) fs
  AreCatching a (Initializes f ∷ fs) = IsBegun program f.class × AllByRecursion (IsTask program) f.tasks × AreWaiting program a Again fs

  pub catching_of : (a : Heap) (p : Promise) (fs : List Frame) → AreWaiting program a p fs → AreCatching a fs
  catching_of a p [] c = tt
  catching_of a p (Runs f ∷ fs) c = (c.0, c.2)
  catching_of a p (Initializes f ∷ fs) c = c

  -- what is asked of other modules: a handler has room on the stack, what it catches is of its type, and an exception in place
  -- of another
  module _
      (handler_room : (f : MethodFrame) (checked : IsChecked program f.method) (insn : Instruction) (h : Handler)
      → instruction_at f.method f.offset ≡ Some insn
      → Contains f.method.code.exception_table h → covers h f.offset ≡ true → nat_le 1 f.method.code.max_stack ≡ true)
      (catch_fits : (heap : Heap) (t : Thrown) (f : MethodFrame) (checked : IsChecked program f.method) (h : Handler) (type : FrameType)
      → IsThrownGood heap t
      → Contains f.method.code.exception_table h → catches program.world (current_class f.method).constant_pool t.class h ≡ true
      → catch_type f.method h.catch_type ≡ Some type → (p : Place) → p.heap ≡ heap → p.method ≡ f.method
      → Item p type (Reference t.object))
      (replacement_ok : (heap : Heap) (t : Thrown) (below : List Frame) (d : ℕ) → IsThrownGood heap t
      → Holds (λ u. (b : Heap) × IsLater d heap b × IsThrownGood b u × (u.control.main ≡ t.control.main))
      (replacement program.world t below))
      (thrown_loadable : (heap : Heap) (t : Thrown) → IsThrownGood heap t → AreLoadable program.world heap.objects)
      (begun_is_verified : (l : Loaded) (t : Thrown) (heap : Heap) → Contains program.world l → IsThrownGood heap t
      → IsThrownGood heap (passed_initialization l t))
    where
      find_gave : {A : Type 0} (test : A → Bool) (xs : List A) (x : A) → find test xs ≡ Some x → Contains xs x × (test x ≡ true)
      find_gave test [] x e = absurd cc
      find_gave test (y ∷ xs) x e = by_test (test y) refl e (λ k. find_gave test xs x k)
        where
          by_test : (b : Bool) → test y ≡ b → (if b then Some y else find test xs) ≡ Some x
              → (find test xs ≡ Some x → Contains xs x × (test x ≡ true)) → Contains (y ∷ xs) x × (test x ≡ true)
          by_test true k e next = let s : y ≡ x = cc in subst (λ z. Contains (y ∷ xs) z × (test z ≡ true)) s (first y xs, k)
          by_test false k e next = let n = next e in (one_later_of y xs x n.0, n.1)

      caught_ok :
          (heap : Heap) (t : Thrown) (f : MethodFrame) (fs : List Frame) (h : Handler) → IsThrownGood heap t
          → HasMain program t.control.main (Runs f ∷ fs)
          → IsCatching program heap (length fs) f → AreWaiting program heap (promise_of f) fs → handler_for program.world t.class f ≡ Some h
          → AreLoadable program.world heap.objects
          → Holds (IsGood program) (caught t f fs h)
      caught_ok heap t f fs h ok main c waiting e loadable =
          let found = find_gave (λ (h : Handler). covers h f.offset && catches program.world
          (current_class f.method).constant_pool t.class h) f.method.code.exception_table h e in
          let tests = and_parts (covers h f.offset) (catches program.world (current_class f.method).constant_pool t.class h) found.1 in
          let go = handled f.method c.checked.maps c.checked.frames c.checked.is c.checked.typing f.offset c.insn h c.stands found.0 tests.0
          in
          let item = catch_fits heap t f c.checked h go.type ok found.0 tests.1 go.caught (place_of heap (length fs) f c.made) refl refl in
          then_holds (tested_holds {P = λ x. x ≡ f} StackFault _ f (handler_room f c.checked c.insn h c.stands found.0 tests.0) refl)
          (λ x same_frame.
          holds (record {
            heap = heap;
            is = ok.is;
            memory = ok.memory;
            frames = (
              subst (λ (x : MethodFrame). IsRunning program heap (length fs)
                  (record x { offset = h.handler_pc; stack = Reference t.object ∷ [] })) (sym same_frame)
                  (arrives heap (length fs) f c.made c.checked _ h.handler_pc f.locals (Reference t.object ∷ []) loadable go.leads
                  (record { locals = c.locals; stack = (item, tt); ready = c.ready })),
              subst (λ (x : MethodFrame). AreWaiting program heap (promise_of x) fs) (sym same_frame) waiting,
            );
            verified = ok.verified;
            main = main;
          }))

      pub unwound_ok :
          (heap : Heap) (t : Thrown) (fs : List Frame) → IsThrownGood heap t → HasMain program t.control.main fs → AreCatching heap fs
          → AreLoadable program.world heap.objects
          → Holds (IsGood program) (unwound program.world t fs)
      unwound_ok heap t [] ok main c loadable =
          holds (record { heap = heap; is = ok.is; memory = ok.memory; frames = tt; verified = ok.verified; main = tt })
      unwound_ok heap t (Runs f ∷ fs) ok main c loadable =
          by_handler (handler_for program.world t.class f) refl
          (unwound_ok heap (passed_method f t) fs (record {
            is = ok.is;
            memory = ok.memory;
            object = ok.object;
            throwable = ok.throwable;
            loadable = ok.loadable;
            verified = ok.verified;
          }) (main_below f fs main)
          (catching_of heap (promise_of f) fs c.1) loadable)
        where
          main_below : (f : MethodFrame) (fs : List Frame) → HasMain program t.control.main (Runs f ∷ fs) → HasMain program t.control.main fs
          main_below f [] m = tt
          main_below f (x ∷ fs) m = m

          by_handler : (o : Option Handler) → handler_for program.world t.class f ≡ o
              → Holds (IsGood program) (unwound program.world (passed_method f t) fs)
              → Holds (IsGood program) (elim o [ None ↦ unwound program.world (passed_method f t) fs | Some h ↦ caught t f fs h ])
          by_handler None e next = next
          by_handler (Some h) e next = caught_ok heap t f fs h ok main c.0 c.1 e loadable
      unwound_ok heap t (Initializes f ∷ fs) ok main c loadable =
          then_holds (replacement_ok heap (passed_initialization f.class t) fs (length fs) (begun_is_verified f.class t heap c.0.here ok))
          (λ u k.
          unwound_ok k.0 u fs k.2 (main_below u.control.main k.3 fs main) (catching_of k.0 Again fs (waiting_later fs k.1 Again c.2))
          (thrown_loadable k.0 u k.2))
        where
          main_below : (name : List ℕ) → name ≡ t.control.main → (fs : List Frame) → HasMain program t.control.main (Initializes f ∷ fs)
              → HasMain program name fs
          main_below name e [] m = tt
          main_below name e (x ∷ fs) m = subst (λ (n : List ℕ). HasMain program n (x ∷ fs)) (sym e) m
