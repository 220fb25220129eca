-- Loads, stores and iinc.
use Rattle.std.proofs.Common.{◌≡◌, inr, ℕ, zero, suc, Bool, true, false, ◌&&◌, List, [], ◌∷◌, Option, Some, None, Ok, Err, refl, sym, subst}
use Rattle.std.specs.Prelude.{IsTrue, slice_get}
use Rattle.jv_stackmap.specs.declared.verification.VerificationTypeOf.TheVariants as types
use Rattle.jv_stackmap.specs.Types.{FrameType}
use Rattle.jv_stackmap.specs.Frames.{Frame as TypesOf, type_by_words}
use Rattle.jv_code.specs.declared.insn.Insn.TheVariants as insns
use Rattle.jv_code.specs.declared.kinds.LocalForm.{LocalForm}
use Rattle.jv_code.specs.declared.kinds.ValueKind.{ValueKind}
use Rattle.jv_code.specs.declared.kinds.ValueKind.TheVariants as kinds
use Rattle.jv_code.specs.declared.kinds.WordKind.{WordKind}
use Rattle.jv_code.specs.Insns.{Instruction}
use Rattle.jv_meaning_world.specs.Laws.Order.{IsRooted}
use Rattle.jv_meaning_typing.specs.Environment.{offset_behind}
use Rattle.jv_meaning_typing.specs.FrameChanges as rules
use Rattle.jv_meaning_typing.specs.FrameChanges.{with_stack, with_locals, is_of_kind}
use Rattle.jv_meaning_typing.specs.Named.{when}
use Rattle.jv_meaning_typing.specs.ValueRules.{pushed, has_room, value_kind}
use Rattle.jv_meaning_machine.specs.Faults.{OrFault, found, tested, ◌>>=◌}
use Rattle.jv_meaning_machine.specs.Faults.Fault.{LocalFault, TagFault}
use Rattle.jv_meaning_machine.specs.Values.{Value, has_kind}
use Rattle.jv_meaning_machine.specs.Values.Value.{Int, Long, Null, Reference, Half}
use Rattle.jv_meaning_machine.specs.Frames.{MethodFrame, local_words, local_value, local_at}
use Rattle.jv_meaning_machine.specs.Frames as machine
use Rattle.jv_meaning_machine.specs.State.{Program, Memory, ClassStates}
use Rattle.jv_meaning_machine.specs.Effects.Effect.{Goes}
use Rattle.jv_meaning_machine.specs.Instructions.{goes_on_in}
use Rattle.jv_meaning_machine.specs.Operands.{popped}
use Rattle.jv_sound.specs.Values.{Heap, Place, FitsIn, IsPaired, Item, HasLocals}
use Rattle.jv_sound.specs.Memory.{IsTypedMemory}
use Rattle.jv_sound.specs.Frames.{Holding, place_of}
use Rattle.jv_sound.specs.Effects.{AreEffects}
use Rattle.jv_sound.proofs.Logic.{clash, regrouped, Agrees, Alike, then2, both, nothing, or_fault}
use Rattle.jv_sound.specs.Memory.{AreLoadable}
use Rattle.jv_sound.proofs.Types.{kind_fits}
use Rattle.jv_sound.proofs.Heaps.{same}
use Rattle.jv_sound.proofs.Locals.{stored_fits, one_base, long_base}
use Rattle.jv_sound.proofs.Taking.{kind_taken}
use Rattle.jv_sound.proofs.Pure.{program_in, memory_in, context_in}

-- ---- items by kinds

module _ (p : Place) where
  -- what a local of a kind holds is an item
  kind_item : (kind : ValueKind) (t : FrameType) (v : Value) → is_of_kind kind t ≡ true → FitsIn p t v → Item p t v × (local_value v ≡ Ok v)
  kind_item kinds.Int types.Int (Int n) e f = (record { fits = tt; width = refl }, refl)
  kind_item kinds.Long types.Long (Long n) e f = (record { fits = tt; width = refl }, refl)
  kind_item kinds.Reference types.Null Null e f = (record { fits = f; width = refl }, refl)
  kind_item kinds.Reference types.Null _ e f = absurd cc
  kind_item kinds.Reference (types.Class c) Null e f = (record { fits = f; width = refl }, refl)
  kind_item kinds.Reference (types.Class c) (Reference id) e f = (record { fits = f; width = refl }, refl)
  kind_item kinds.Reference (types.Array c) Null e f = (record { fits = f; width = refl }, refl)
  kind_item kinds.Reference (types.Array c) (Reference id) e f = (record { fits = f; width = refl }, refl)
  kind_item kinds.Reference (types.Uninitialized o) (Reference id) e f = (record { fits = f; width = refl }, refl)
  kind_item kinds.Reference types.UninitializedThis (Reference id) e f = (record { fits = f; width = refl }, refl)
  kind_item kinds.Reference (types.Uninitialized o) v e f = absurd (let k : v ≡ Reference (p.made o) = f.is in cc)
  kind_item kinds.Reference types.UninitializedThis v e f = absurd (let k : v ≡ Reference f.number = f.is in cc)
  kind_item kinds.Int types.Int _ e f = absurd f
  kind_item kinds.Long types.Long _ e f = absurd f
  kind_item kinds.Reference (types.Class c) _ e f = absurd f
  kind_item kinds.Reference (types.Array c) _ e f = absurd f
  kind_item _ _ v e f = absurd (clash e)

  -- a local variable by its index
  got : (index : ℕ) (ts : List FrameType) (vs : List Value) → HasLocals p ts vs → Alike (FitsIn p) (slice_get ts index) (slice_get vs index)
  got index [] [] f = record { by = tt }
  got zero (t ∷ ts) (v ∷ vs) f = record { by = f.0 }
  got (suc i) (t ∷ ts) (v ∷ vs) f = got i ts vs f.2
  got _ _ _ f = absurd f

  loaded : (kind : ValueKind) (room : Bool) (index : ℕ) (ts : List FrameType) (vs : List Value) (g : FrameType → TypesOf)
      → HasLocals p ts vs
      → Agrees (λ after v. (t : FrameType) × (after ≡ g t) × (is_of_kind kind t ≡ true) × Item p t v)
      (Rattle.jv_format.specs.Format.◌>>=◌ (slice_get ts index) (λ t. when (is_of_kind kind t && room) (g t)))
      (local_at kind index vs)
  loaded kind room index ts vs g f = go (slice_get ts index) (slice_get vs index) (got index ts vs f)
    where
      tested_ok : (t : FrameType) (v : Value) (b : Bool) → FitsIn p t v → (b ≡ true → is_of_kind kind t ≡ true)
          → Agrees (λ after v. (t : FrameType) × (after ≡ g t) × (is_of_kind kind t ≡ true)
          × Item p t v) (when b (g t)) (local_value v >>= λ value. tested TagFault (has_kind kind value) value)
      tested_ok t v false h k = nothing
      tested_ok t v true h k =
          let item = kind_item kind t v (k refl) h in
          rw (item.1, kind_fits p kind t v (k refl) h) (both (t, refl, k refl, item.0))

      go : (o : Option FrameType) (m : Option Value) → Alike (FitsIn p) o m
          → Agrees (λ after v. (t : FrameType) × (after ≡ g t) × (is_of_kind kind t ≡ true) × Item p t v)
          (Rattle.jv_format.specs.Format.◌>>=◌ o (λ t. when (is_of_kind kind t && room) (g t)))
          (found LocalFault m >>= local_value >>= λ value. tested TagFault (has_kind kind value) value)
      go None m a = nothing
      go (Some t) None a = absurd a.by
      go (Some t) (Some v) a = tested_ok t v (is_of_kind kind t && room) a.by (λ e. left (is_of_kind kind t) room e)
        where
          left : (a b : Bool) → (a && b) ≡ true → a ≡ true
          left true b e = refl
          left false b e = absurd (clash e)

module _ (base : Program) (states : ClassStates) (rest : Memory) (heap : Heap) (depth : ℕ) (frame : MethodFrame) (made : ℕ
    → ℕ) (t : TypesOf)
    (rooted : IsRooted frame.method.world) (loadable : AreLoadable frame.method.world heap.objects)
    (typed : IsTypedMemory (program_in base frame) (memory_in rest heap))
    (holding : Holding (place_of heap depth frame made) t frame.locals frame.stack) where
  abbrev here : Place
  here = place_of heap depth frame made

  abbrev Sound : Instruction → Type 0
  Sound insn =
      Agrees (AreEffects (program_in base frame) here frame insn t)
      (Rattle.jv_meaning_typing.specs.Rule.effect frame.method frame.offset insn t)
      (Rattle.jv_meaning_machine.specs.Instructions.execute (context_in base states rest heap frame insn) insn)

  -- the memory stays, and the next instruction follows
  next_ok : (insn : Instruction) (g : TypesOf) (values items : List Value)
      → IsTrue (Rattle.jv_code.specs.Successors.falls_through insn) → Holding here g values items
      → AreEffects (program_in base frame) here frame insn t g (memory_in rest heap, Goes (offset_behind frame.offset insn) values items)
  next_ok insn g values items falls h = record {
    heap = heap;
    is = refl;
    made = made;
    grows = same depth heap;
    memory = typed;
    effect =
        (inr (falls, refl), h);
  }

  pub load_ok : (kind : ValueKind) (index : ℕ) (form : LocalForm) → Sound (insns.Load kind index form)
  load_ok kind index form =
      go _ (local_at kind index frame.locals) (loaded here kind (has_room kind index t.locals) index t.locals frame.locals
      (pushed t) holding.locals)
    where
      go : (r : Option TypesOf) (m : OrFault Value) → Agrees (λ after v. (u : FrameType) × (after ≡ pushed t u) × (is_of_kind kind u ≡ true)
          × Item here u v) r m
          → Agrees (AreEffects (program_in base frame) here frame (insns.Load kind index form) t) r
          (m >>= λ value. Ok (
            memory_in rest heap,
            Goes (offset_behind frame.offset (insns.Load kind index form)) frame.locals
                (value ∷ frame.stack),
          ))
      go None m a = nothing
      go (Some g) (Err fault) a = absurd a.by
      go (Some g) (Ok v) a =
          both (next_ok (insns.Load kind index form) g frame.locals (v ∷ frame.stack) refl
          (subst (λ (x : TypesOf). Holding here x frame.locals (v ∷ frame.stack)) (sym a.by.1)
          (record { locals = holding.locals; stack = (a.by.3, holding.stack); ready = holding.ready })))

  no_long : (u : FrameType) → is_of_kind kinds.Long u ≡ false → (vs : List Value) → IsPaired u vs
  no_long types.Long e vs = absurd (clash (sym e))
  no_long _ e vs = tt

  -- what is stored, of one word or of two
  words_ok : (kind : ValueKind) (u : FrameType) (v : Value) (index : ℕ) → is_of_kind kind u ≡ true → FitsIn here u v
      → Alike (HasLocals here) (rules.stored (type_by_words u) index t.locals) (machine.stored (local_words v) index frame.locals)
  words_ok kinds.Int types.Int (Int n) index e f = stored_fits here (types.Int ∷ []) (Int n ∷ [])
      (one_base here types.Int (Int n) tt (λ vs. tt)) index t.locals frame.locals holding.locals
  words_ok kinds.Long types.Long (Long n) index e f = stored_fits here (types.Long ∷ types.Top ∷ []) (Long n ∷ Half ∷ [])
      (long_base here (Long n) tt) index t.locals frame.locals holding.locals
  words_ok kinds.Reference types.Null Null index e f = stored_fits here (types.Null ∷ []) (Null ∷ [])
      (one_base here types.Null Null f (λ vs. tt)) index t.locals frame.locals holding.locals
  words_ok kinds.Reference types.Null _ index e f = absurd cc
  words_ok kinds.Reference (types.Class c) Null index e f = stored_fits here (types.Class c ∷ []) (Null ∷ [])
      (one_base here (types.Class c) Null f (λ vs. tt)) index t.locals frame.locals holding.locals
  words_ok kinds.Reference (types.Class c) (Reference id) index e f = stored_fits here (types.Class c ∷ []) (Reference id ∷ [])
      (one_base here (types.Class c) (Reference id) f (λ vs. tt)) index t.locals frame.locals holding.locals
  words_ok kinds.Reference (types.Array c) Null index e f = stored_fits here (types.Array c ∷ []) (Null ∷ [])
      (one_base here (types.Array c) Null f (λ vs. tt)) index t.locals frame.locals holding.locals
  words_ok kinds.Reference (types.Array c) (Reference id) index e f = stored_fits here (types.Array c ∷ []) (Reference id ∷ [])
      (one_base here (types.Array c) (Reference id) f (λ vs. tt)) index t.locals frame.locals holding.locals
  words_ok kinds.Reference (types.Uninitialized o) (Reference id) index e f = stored_fits here (types.Uninitialized o ∷ [])
      (Reference id ∷ []) (one_base here (types.Uninitialized o) (Reference id) f (λ vs. tt)) index t.locals frame.locals holding.locals
  words_ok kinds.Reference types.UninitializedThis (Reference id) index e f = stored_fits here (types.UninitializedThis ∷ [])
      (Reference id ∷ []) (one_base here types.UninitializedThis (Reference id) f (λ vs. tt)) index t.locals frame.locals holding.locals
  words_ok kinds.Reference (types.Uninitialized o) v index e f = absurd (let k : v ≡ Reference (made o) = f.is in cc)
  words_ok kinds.Reference types.UninitializedThis v index e f = absurd (let k : v ≡ Reference f.number = f.is in cc)
  words_ok kinds.Int types.Int _ index e f = absurd f
  words_ok kinds.Long types.Long _ index e f = absurd f
  words_ok kinds.Reference (types.Class c) _ index e f = absurd f
  words_ok kinds.Reference (types.Array c) _ index e f = absurd f
  words_ok _ _ v index e f = absurd (clash e)

  store_ok : (insn : Instruction) (kind : ValueKind) (index : ℕ)
      → IsTrue (Rattle.jv_code.specs.Successors.falls_through insn)
      → Agrees (AreEffects (program_in base frame) here frame insn t)
      (Rattle.jv_meaning_typing.specs.ValueRules.store kind index t)
      (Rattle.jv_meaning_machine.specs.Instructions.store (context_in base states rest heap frame insn) kind index)
  store_ok insn kind index falls =
      regrouped (popped frame.stack) (λ top. tested TagFault (has_kind kind top.0) top)
      (λ top. found LocalFault (machine.stored (local_words top.0) index frame.locals) >>= goes_on_in
      (context_in base states rest heap frame insn) top.1)
      (then2 (kind_taken here rooted loadable kind t.stack frame.stack holding.stack) (λ u top h.
      then2 (or_fault LocalFault (words_ok kind u.0 top.0 index h.0 h.1.fits)) (λ ls values k.
      both (next_ok insn (with_locals (with_stack t u.1) ls) values top.1 falls
      (record { locals = k; stack = h.2; ready = holding.ready })))))

  pub store_word_ok : (kind : WordKind) (index : ℕ) (form : LocalForm) → Sound (insns.Store kind index form)
  store_word_ok kind index form = store_ok (insns.Store kind index form) (value_kind kind) index refl

  pub store_long_ok : (index : ℕ) (form : LocalForm) → Sound (insns.StoreLong index form)
  store_long_ok index form = store_ok (insns.StoreLong index form) kinds.Long index refl
