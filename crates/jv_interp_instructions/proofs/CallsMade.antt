-- Calls, as instructions.
use Rattle.std.proofs.Common.{◌≡◌, ◌⊎◌, inl, inr, ℕ, ℤ, List, refl, sym, ap, subst, ◌∙◌}
use Rattle.jv_code.specs.Insns.{Instruction}
use Rattle.jv_code.specs.declared.insn.Insn.TheVariants as insns
use Rattle.jv_code.specs.declared.kinds.Invocation.TheVariants as invocations
use Rattle.jv_link.specs.declared.site.Use.{Use}
use Rattle.jv_link.specs.declared.site.Use.TheVariants as uses
use Rattle.jv_link.specs.Seen.{seen_use}
use Rattle.jv_meaning_machine.specs.Values.{Value}
use Rattle.jv_meaning_machine.specs.Calls.{array_like, call, class_name}
use Rattle.jv_meaning_machine.specs.Laws.Steps.{ExecutionKeeps}
use Rattle.jv_meaning_machine.specs.State.{Memory}
use Rattle.jv_meaning_machine.specs.Effects.{Effect as EffectOfNames, Context, Outcome}
use Rattle.jv_meaning_machine.specs.Instructions.{execute}
use Rattle.jv_interp_words.specs.declared.registers.Registers.{Registers}
use Rattle.jv_interp_heap.specs.ObjectsInBlocks.{Blocks}
use Rattle.jv_interp_held.specs.declared.class_state.ClassState.{ClassState}
use Rattle.jv_interp_held.specs.ClassStates.{AreClassStates}
use Rattle.jv_interp_held.specs.declared.held.Held.{Held}
use Rattle.jv_interp_held.specs.declared.effect.Effect.{Effect}
use Rattle.jv_link.specs.declared.site.Site.{Site}
use Rattle.jv_link_cache.specs.declared.linked.Linked.{Linked}
use Rattle.jv_link_cache.specs.Linked.{IsLinked}
use Rattle.jv_interp_members.specs.Known.{Known, known}
use Rattle.jv_meaning_world.specs.World.{World}
use Rattle.jv_interp_members.specs.declared.calls.StaticCall.{StaticCall}
use Rattle.jv_interp_members.specs.declared.calls.StaticCall.TheVariants as calls
use Rattle.jv_interp_members.specs.Calling.{Calling, CanCall, Calls, CallingStatic, CanCallStatic, CallsStatic, IsUnmovedBy, RunsOnTwo}
use Rattle.jv_interp_objects.specs.HostObjects.{CanRunOnTwo, MakesLike, NamesClass}
use Rattle.jv_interp_held.specs.Executing.{Place, place}
use Rattle.jv_interp_instructions.specs.InGuest.{ExecutesIn, CanExecute, Executed, CanExecuteAt, ExecutedAt}
use Rattle.jv_interp_instructions.proofs.Grown.{did_same}

-- an instruction that calls so
abbrev pub CallsBy : Instruction → Use → ℕ → Type 0
CallsBy insn how index = (c : Context) → execute c insn ≡ call c (seen_use how) index

module _ (kept : ExecutionKeeps) (insn : Instruction) (how : Use) (index : ℕ) (by : CallsBy insn how index) (next : ℕ) (k : Known) (texts : List (List ℕ)) (at : Registers)
    (words : List ℕ) (held : Held) (blocks : Blocks) where
  calls_here :
      (c : Context) (addresses : List ℕ) (done : Memory × EffectOfNames) (below : List ℕ)
      → ExecutesIn insn next k texts (place at words held blocks) c addresses done below
      → Calling how index next k (place at words held blocks) texts c addresses done below
  calls_here c addresses done below h = record {
    executes = record {
      does = sym (by c) ∙ h.executes.does;
      frame = h.executes.frame;
      memory = h.executes.memory;
      base_is = h.executes.base_is;
      pc_is = h.executes.pc_is;
      next_is = h.executes.next_is;
      top_within = h.executes.top_within;
    };
    known = h.known;
    loadable = h.loadable;
  }

  pub can_call : CanExecute insn next k texts at words held blocks → CanCall how index k at words held blocks
  can_call h = record {
    next = next;
    texts = texts;
    c = h.c;
    addresses = h.addresses;
    done = h.done;
    below = h.below;
    calls = calls_here h.c h.addresses h.done h.below h.executes;
  }

  pub called :
      (effect : Effect) → Calls how index k at words held blocks effect
      → Executed insn next k texts (place at words held blocks) (place at words held blocks) effect
  called effect m c addresses done below h =
      did_same kept insn next k texts (place at words held blocks) c addresses done below h at words held effect refl
      (m next texts c addresses done below (calls_here c addresses done below h))

module _ (kept : ExecutionKeeps) (states : List ClassState) (index next : ℕ) (k : Known) (texts : List (List ℕ)) (at : Registers) (words : List ℕ) (held : Held) (blocks : Blocks) where
  abbrev static_call : Instruction
  static_call = insns.Invoke invocations.Static index

  pub can_call_static : CanExecuteAt states static_call next k texts at words held blocks → CanCallStatic index next k states at words held
  can_call_static h = record {
    blocks = blocks;
    texts = texts;
    c = h.can.c;
    addresses = h.can.addresses;
    done = h.can.done;
    below = h.can.below;
    calls = record {
      calls = calls_here kept static_call uses.Invokestatic index (λ c. refl) next k texts at words held blocks h.can.c h.can.addresses h.can.done h.can.below h.can.executes;
      states_are = h.states_are;
    };
    room = h.can.room;
  }

  static_here :
      (c : Context) (addresses : List ℕ) (done : Memory × EffectOfNames) (below : List ℕ)
      → ExecutesIn static_call next k texts (place at words held blocks) c addresses done below → AreClassStates k.world c.states states
      → CallingStatic index next k states (place at words held blocks) texts c addresses done below
  static_here c addresses done below h states_are = record {
    calls = calls_here kept static_call uses.Invokestatic index (λ c. refl) next k texts at words held blocks c addresses done below h;
    states_are = states_are;
  }

  pub called_static :
      (after : Registers) (words_after : List ℕ) (held_after : Held) (effect : Effect) → held_after.cells ≡ held.cells
      → CallsStatic index next k states at words held after words_after held_after (calls.Has effect)
      → ExecutedAt states static_call next k texts (place at words held blocks) (place after words_after held_after blocks) effect
  called_static after words_after held_after effect same m c addresses done below h states_are =
      did_same kept static_call next k texts (place at words held blocks) c addresses done below h after words_after held_after effect same
      (m blocks texts c addresses done below (static_here c addresses done below h states_are))

  -- ---- host/Io's methods that are given objects

  can_run :
      (part : Context → ℤ → List Value → Value → Outcome)
      → ((blocks : Blocks) (texts : List (List ℕ)) (c : Context) (addresses : List ℕ) (done : Memory × EffectOfNames) (below : List ℕ)
      → CallingStatic index next k states (place at words held blocks) texts c addresses done below
      → RunsOnTwo part next texts (place at words held blocks) c addresses done below)
      → CanExecuteAt states static_call next k texts at words held blocks → CanRunOnTwo part k.world next at words held blocks
  can_run part runs h =
      let r = runs blocks texts h.can.c h.can.addresses h.can.done h.can.below (static_here h.can.c h.can.addresses h.can.done h.can.below h.can.executes h.states_are) in
      record {
        texts = texts;
        c = h.can.c;
        number = r.number;
        value = r.value;
        rest = r.rest;
        addresses = h.can.addresses;
        done = h.can.done;
        below = h.can.below;
        runs = r.running;
        world_is = h.can.executes.known.world;
      }

  pub can_name :
      CallsStatic index next k states at words held at words held calls.ClassName → CanExecuteAt states static_call next k texts at words held blocks
      → CanRunOnTwo class_name k.world next at words held blocks
  can_name m h = can_run class_name m h

  pub can_like :
      CallsStatic index next k states at words held at words held calls.ArrayLike → CanExecuteAt states static_call next k texts at words held blocks
      → CanRunOnTwo array_like k.world next at words held blocks
  can_like m h = can_run array_like m h

  pub named :
      CallsStatic index next k states at words held at words held calls.ClassName
      → (after : Registers) (words_after : List ℕ) (effect : Effect) → NamesClass k.world next at words held blocks after words_after effect
      → ExecutedAt states static_call next k texts (place at words held blocks) (place after words_after held blocks) effect
  named m after words_after effect n c addresses done below h states_are =
      let r = m blocks texts c addresses done below (static_here c addresses done below h states_are) in
      did_same kept static_call next k texts (place at words held blocks) c addresses done below h after words_after held effect refl
      (n texts c r.number r.value r.rest addresses done below r.running h.known.world)

  pub like :
      CallsStatic index next k states at words held at words held calls.ArrayLike
      → (after : Registers) (words_after : List ℕ) (held_after : Held) (blocks_after : Blocks) (effect : Effect)
      → MakesLike next at words held blocks after words_after held_after blocks_after effect
      → ExecutedAt states static_call next k texts (place at words held blocks) (place after words_after held_after blocks_after) effect
  like m after words_after held_after blocks_after effect n c addresses done below h states_are =
      let r = m blocks texts c addresses done below (static_here c addresses done below h states_are) in
      n texts c r.number r.value r.rest addresses done below r.running

-- ---- places

pub parts_same :
    (a b : Registers) (words words_after : List ℕ) (held held_after : Held) (blocks : Blocks)
    → place a words held blocks ≡ place b words_after held_after blocks → (a ≡ b) × (words ≡ words_after) × (held ≡ held_after)
parts_same a b words words_after held held_after blocks e =
    (ap (λ (p : Place). p.at) e, ap (λ (p : Place). p.words) e, ap (λ (p : Place). p.held) e)

-- a method of host/Io that is still to be run has changed nothing
pub not_moved :
    (call : StaticCall) → (call ≡ calls.ClassName) ⊎ (call ≡ calls.ArrayLike) → (before after : Place) → IsUnmovedBy call before after → after ≡ before
not_moved call (inl e) before after u = subst (λ (x : StaticCall). IsUnmovedBy x before after) e u
not_moved call (inr e) before after u = subst (λ (x : StaticCall). IsUnmovedBy x before after) e u

-- ---- what linking has found more changes nothing

module _ (states : List ClassState) (insn : Instruction) (next : ℕ) (world : World) (before after : Linked) (site : Site) (texts : List (List ℕ)) (linked : IsLinked world after) where
  relinked :
      (here : Place) (c : Context) (addresses : List ℕ) (done : Memory × EffectOfNames) (below : List ℕ)
      → ExecutesIn insn next (known world before site) texts here c addresses done below
      → ExecutesIn insn next (known world after site) texts here c addresses done below
  relinked here c addresses done below h = record {
    executes = h.executes;
    known = record { world = h.known.world; guests = h.known.guests; few = h.known.few; linked = linked; site = h.known.site };
    loadable = h.loadable;
    units = h.units;
  }

  pub can_relinked :
      (at : Registers) (words : List ℕ) (held : Held) (blocks : Blocks)
      → CanExecuteAt states insn next (known world before site) texts at words held blocks
      → CanExecuteAt states insn next (known world after site) texts at words held blocks
  can_relinked at words held blocks h = record {
    can = record {
      c = h.can.c;
      addresses = h.can.addresses;
      done = h.can.done;
      below = h.can.below;
      executes = relinked (place at words held blocks) h.can.c h.can.addresses h.can.done h.can.below h.can.executes;
      room = h.can.room;
    };
    states_are = h.states_are;
  }

  pub executed_relinked :
      (here there : Place) (effect : Effect) → ExecutedAt states insn next (known world after site) texts here there effect
      → ExecutedAt states insn next (known world before site) texts here there effect
  executed_relinked here there effect m c addresses done below h states_are = m c addresses done below (relinked here c addresses done below h) states_are
