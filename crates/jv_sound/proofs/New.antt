-- `new`: an object that is not constructed, and the copies of an earlier one that cannot be used any more.
use Rattle.std.proofs.Common.{◌≡◌, ◌≢◌, ◌⊎◌, inl, inr, ℕ, zero, suc, ◌==◌, Bool, true, false, List, [], ◌∷◌, ◌++◌, length, Option, Some, None, Ok, refl, sym, ap, subst, ◌∙◌, arith}
use Rattle.std.specs.Prelude.{IsTrue, slice_get, nat_eq, if◌then◌else◌}
use Rattle.std.specs.List.{Contains, list_any}
use Rattle.std.proofs.lemmas.Bool.Decides.{eqb_tells}
use Rattle.std.proofs.lemmas.Option.{slice_get_within}
use Rattle.jv_stackmap.specs.declared.verification.VerificationTypeOf.TheVariants as types
use Rattle.jv_stackmap.specs.Types.{FrameType}
use Rattle.jv_stackmap.specs.Frames.{Frame as TypesOf}
use Rattle.jv_code.specs.declared.insn.Insn.TheVariants as insns
use Rattle.jv_meaning_world.specs.World.{Loaded}
use Rattle.jv_meaning_typing.specs.Layout.{object_cells}
use Rattle.jv_meaning_typing.specs.Environment.{instruction_at}
use Rattle.jv_meaning_typing.specs.FrameChanges.{is_same_object, replaced, with_locals}
use Rattle.jv_meaning_typing.specs.MemberRules.{class_of_new}
use Rattle.jv_meaning_typing.specs.Named.{throwable_type}
use Rattle.jv_meaning_typing.specs.ValueRules.{pushed}
use Rattle.jv_meaning_machine.specs.Values.{Value}
use Rattle.jv_meaning_machine.specs.Values.Value.{Reference}
use Rattle.jv_meaning_machine.specs.Objects.{Object, new_object, new_instance}
use Rattle.jv_meaning_machine.specs.Frames.{MethodFrame}
use Rattle.jv_meaning_machine.specs.State.{Program, Memory, ClassStates, class_state, is_ready}
use Rattle.jv_meaning_machine.specs.Costs.{paid}
use Rattle.jv_meaning_machine.specs.Effects.{out_of_memory, once_initialized}
use Rattle.jv_meaning_machine.specs.Effects.Effect.{Begins}
use Rattle.jv_meaning_machine.specs.Initialization.{is_verified}
use Rattle.jv_meaning_machine.specs.Instructions.{push_object}
use Rattle.jv_sound.specs.Values.{IsObject, Heap, Place, IsFresh, FitsIn}
use Rattle.jv_sound.specs.Memory.{IsTypedMemory, IsTypedObject}
use Rattle.jv_sound.specs.Later.{IsLater}
use Rattle.jv_sound.specs.Frames.{Holds, Holding, place_of, AreVerified}
use Rattle.jv_sound.specs.Effects.{AreEffects, after}
use Rattle.jv_sound.proofs.Copies.{replaced_locals, lacking_stack}
use Rattle.jv_sound.proofs.Logic.{holds}
use Rattle.jv_sound.proofs.Heaps.{same, upd, upd_same, upd_other, get_append, get_behind, in_later}
use Rattle.jv_sound.proofs.Memories.{IsMakeable, new_typed, more_typed, paid_is}
use Rattle.jv_sound.proofs.Pure.{program_in, memory_in, context_in}
use Rattle.jv_sound.proofs.Heaps.{ready_any}

-- ---- a new object in a frame

abbrev pub with_new : Heap → Object → ℕ → ℕ → Heap
with_new a q d pc = record {
  objects = a.objects ++ q ∷ [];
  owner = upd a.owner (length a.objects) d;
  born = upd a.born
      (length a.objects) pc;
}

pub new_later : (e : ℕ) (a : Heap) (q : Object) (d pc : ℕ) → IsLater e a (with_new a q d pc)
new_later e a q d pc = record {
  still = λ id o x.
      let n : id ≡ length a.objects → ⊥ = λ y. absurd (omega (arith, y, slice_get_within a.objects id o x)) in
      record {
        now = o;
        there = get_append a.objects (q ∷ []) id o x;
        type = refl;
        constructed = λ z. z;
        kept = λ _.
            (refl, refl, upd_other a.owner (length a.objects) d id n, upd_other a.born (length a.objects) pc id n);
      };
}

module _ (p : Place) (l : Loaded) (pc : ℕ) (names : class_of_new p.method (instruction_at p.method pc) ≡ Some l.class.name) where
  abbrev pub new_heap : Heap
  new_heap = with_new p.heap (new_object p.method.world l) p.depth pc

  abbrev pub new_place : Place
  new_place = after p new_heap (upd p.made pc (length p.heap.objects))

  pub new_fresh : IsFresh new_place pc (Reference (length p.heap.objects))
  new_fresh =
      let k = length p.heap.objects in
      let e : upd p.made pc k pc ≡ k = upd_same p.made pc k in
      record {
        is = ap Reference (sym e);
        instance = new_instance p.method.world false l;
        there = ap (slice_get (p.heap.objects ++ new_object p.method.world l ∷ [])) e ∙ get_behind p.heap.objects
            (new_object p.method.world l ∷ []);
        raw = refl;
        none = refl;
        new = names;
        owner = ap (upd p.heap.owner k p.depth) e ∙ upd_same p.heap.owner k p.depth;
        born = ap (upd p.heap.born k pc) e ∙ upd_same p.heap.born k pc;
      }

  new_one : (t : FrameType) (v : Value) → FitsIn p t v → FitsIn new_place
      (if is_same_object (types.Uninitialized pc) t then types.Top else t) v
  new_one t v f = go t (in_later p new_heap (new_later (suc p.depth) p.heap (new_object p.method.world l) p.depth pc) t v f)
    where
      go : (t : FrameType) → FitsIn (record p { heap = new_heap }) t v
          → FitsIn new_place (if is_same_object (types.Uninitialized pc) t then types.Top else t) v
      go types.Top k = tt
      go types.Int k = k
      go types.Long k = k
      go types.Null k = k
      go (types.Class c) k = k
      go (types.Array c) k = k
      go types.UninitializedThis k = record {
        number = k.number;
        is = k.is;
        receiver = k.receiver;
        instance = k.instance;
        there = k.there;
        raw = k.raw;
        constructor = k.constructor;
        entered = k.entered;
        below = k.below;
        owner = k.owner;
      }
      go (types.Uninitialized o) k = which (eqb_tells pc o)
        where
          which : ((nat_eq pc o ≡ true) × (pc ≡ o)) ⊎ ((nat_eq pc o ≡ false) × (pc ≢ o))
              → FitsIn new_place (if pc == o then types.Top else types.Uninitialized o) v
          which (inl e) = rw e.0 tt
          which (inr n) =
              let e : upd p.made pc (length p.heap.objects) o ≡ p.made o = upd_other p.made pc (length p.heap.objects) o
              (λ q. n.1 (sym q)) in
              rw n.0 (record {
                is = k.is ∙ ap Reference (sym e);
                instance = k.instance;
                there = ap (slice_get new_heap.objects) e ∙ k.there;
                raw = k.raw;
                none = k.none;
                new = k.new;
                owner = ap new_heap.owner e ∙ k.owner;
                born = ap new_heap.born e ∙ k.born;
              })

  -- what the rule gives holds
  pub new_holding : (t : TypesOf) (values items : List Value) → list_any (is_same_object (types.Uninitialized pc)) t.stack ≡ false
      → Holding p t values items
      → Holding new_place (pushed (with_locals t (replaced (types.Uninitialized pc) types.Top t.locals)) (types.Uninitialized pc)) values
      (Reference (length p.heap.objects) ∷ items)
  new_holding t values items lacks h = record {
    locals = replaced_locals p new_place (types.Uninitialized pc) types.Top refl new_one t.locals values h.locals;
    stack = (
      record { fits = new_fresh; width = refl },
      lacking_stack p new_place
          (types.Uninitialized pc) types.Top refl new_one t.stack items lacks h.stack,
    );
    ready = ready_any p new_heap (upd p.made pc (length p.heap.objects))
        (new_later 0 p.heap (new_object p.method.world l) p.depth pc) t.flag_this_uninit h.ready;
  }

-- ---- the instruction, once its class is resolved

module _ (base : Program) (states : ClassStates) (rest : Memory) (heap : Heap) (depth : ℕ) (frame : MethodFrame) (made : ℕ
    → ℕ) (t : TypesOf) (index : ℕ)
    (typed : IsTypedMemory (program_in base frame) (memory_in rest heap))
    (verified : AreVerified (program_in base frame) states)
    (holding : Holding (place_of heap depth frame made) t frame.locals frame.stack)
    (out_of_memory_is_thrown : IsObject frame.method.world heap.objects throwable_type out_of_memory)
    (l : Loaded) (there : Contains frame.method.world l) (makeable : IsTrue (is_verified (program_in base frame) l)
    → IsMakeable (program_in base frame) l)
    (names : class_of_new frame.method (instruction_at frame.method frame.offset) ≡ Some l.class.name)
    (lacks : list_any (is_same_object (types.Uninitialized frame.offset)) t.stack ≡ false) where
  abbrev here : Place
  here = place_of heap depth frame made

  abbrev g : TypesOf
  g = pushed (with_locals t (replaced (types.Uninitialized frame.offset) types.Top t.locals)) (types.Uninitialized frame.offset)

  pushed_ok : IsTrue (is_verified (program_in base frame) l) → (o : Option Memory)
      → paid (object_cells frame.method.world l) (memory_in rest heap) ≡ o
      → Holds (AreEffects (program_in base frame) here frame (insns.New index) t g)
      (push_object (context_in base states rest heap frame (insns.New index)) l o)
  pushed_ok v None e = holds (record {
    heap = heap;
    is = refl;
    made = made;
    grows = same depth heap;
    memory = typed;
    effect =
        (out_of_memory_is_thrown, holding.locals);
  })
  pushed_ok v (Some memory) e =
      subst (λ (m : Memory). Holds (AreEffects (program_in base frame) here frame (insns.New index) t g)
      (push_object (context_in base states rest heap frame (insns.New index)) l (Some m)))
      (sym (paid_is (program_in base frame) (object_cells frame.method.world l) (memory_in rest heap) memory e))
      (holds (record {
        heap = new_heap here l frame.offset names;
        is = refl;
        made = upd made frame.offset (length heap.objects);
        grows = new_later depth heap (new_object frame.method.world l) depth frame.offset;
        memory = more_typed (program_in base frame) heap (memory_in rest heap) (new_object frame.method.world l ∷ []) _ refl typed
            (λ k o x. only k o x);
        effect = (inr (refl, refl), new_holding here l frame.offset names t frame.locals frame.stack lacks holding);
      }))
    where
      only : (k : ℕ) (o : Object) → slice_get (new_object frame.method.world l ∷ []) k ≡ Some o
          → IsTypedObject (program_in base frame) (heap.objects ++ new_object frame.method.world l ∷ []) o
      only zero o x = let s : new_object frame.method.world l ≡ o = cc in subst
          (λ (y : Object). IsTypedObject (program_in base frame) (heap.objects ++ new_object frame.method.world l ∷ []) y) s
          (new_typed (program_in base frame) (heap.objects ++ new_object frame.method.world l ∷ []) false l (makeable v))
      only (suc k) o x = absurd cc

  pub created_ok : Holds (AreEffects (program_in base frame) here frame (insns.New index) t g)
      (once_initialized (context_in base states rest heap frame (insns.New index)) l
      (push_object (context_in base states rest heap frame (insns.New index)) l
      (paid (object_cells frame.method.world l) (memory_in rest heap))))
  created_ok = by_state (is_ready (class_state states l)) refl
    where
      begins : Holds (AreEffects (program_in base frame) here frame (insns.New index) t g) (Ok (memory_in rest heap, Begins l))
      begins = holds (record {
        heap = heap;
        is = refl;
        made = made;
        grows = same depth heap;
        memory = typed;
        effect =
            (there, refl, refl, holding.locals);
      })

      by_state : (ready : Bool) → is_ready (class_state states l) ≡ ready
          → Holds (AreEffects (program_in base frame) here frame (insns.New index) t g)
          (if ready then push_object (context_in base states rest heap frame (insns.New index)) l
          (paid (object_cells frame.method.world l) (memory_in rest heap)) else Ok (memory_in rest heap, Begins l))
      by_state false e = begins
      by_state true e = pushed_ok (verified l there e) (paid (object_cells frame.method.world l) (memory_in rest heap)) refl
