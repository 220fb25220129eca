-- A step of a method that runs: an instruction is found, executed, and its effect is done to the frames (JVMS 2.11).
use Rattle.std.proofs.Common.{◌≡◌, ℕ, ◌+◌, ◌≤◌, nat_le, Bool, true, false, List, ◌∷◌, ◌++◌, Some, Ok, length, reverse, sym, ap, subst, ◌∙◌, arith, append_assoc}
use Rattle.std.proofs.lemmas.List.Sums.{sum_by-cons}
use Rattle.jv_code.specs.Insns.{Instruction}
use Rattle.jv_link.specs.declared.site.Site.{Site}
use Rattle.jv_link.specs.Seen.{seen_site}
use Rattle.jv_link_cache.specs.declared.linked.Linked.{Linked}
use Rattle.jv_link_cache.specs.Linked.{IsLinked}
use Rattle.jv_meaning_world.specs.World.{World}
use Rattle.jv_meaning_typing.specs.Environment.{instruction_at}
use Rattle.jv_meaning_machine.specs.Faults.{found, tested, ◌>>=◌}
use Rattle.jv_meaning_machine.specs.Faults.Fault.{OffsetFault, StackFault}
use Rattle.jv_meaning_machine.specs.Values.{words_of_values}
use Rattle.jv_meaning_machine.specs.Frames.{MethodFrame, Frame}
use Rattle.jv_meaning_machine.specs.Frames.Frame.{Runs}
use Rattle.jv_meaning_machine.specs.State.{Program, Memory, State, state_of}
use Rattle.jv_meaning_machine.specs.Effects.{Effect as EffectOfNames, Context}
use Rattle.jv_meaning_machine.specs.Effects.Effect.{Goes, Enters, Constructs, Leaves, Throws, Raises, Begins}
use Rattle.jv_meaning_machine.specs.Instructions.{execute}
use Rattle.jv_meaning_machine.specs.Entering.{at_offset}
use Rattle.jv_meaning_machine.specs.Step.{act, context, instruction_step, step_in}
use Rattle.jv_meaning_machine.specs.Laws.Shapes.{frame_words, used_words}
use Rattle.jv_meaning_machine.specs.Laws.Steps.{ExecutionKeeps}
use Rattle.jv_interp_words.specs.declared.registers.Registers.{Registers}
use Rattle.jv_interp_words.specs.FramesInWords.{in_use, AreFrames}
use Rattle.jv_interp_words.proofs.Gave.{bound_gave, found_gave, tested_gave}
use Rattle.jv_interp_words.proofs.Grown.{frames_grown}
use Rattle.jv_interp_heap.specs.ObjectsInBlocks.{Blocks, AreLoadable}
use Rattle.jv_interp_held.specs.declared.class_state.ClassState.{ClassState}
use Rattle.jv_interp_held.specs.ClassStates.{AreClassStates}
use Rattle.jv_interp_held.specs.declared.held.Held.{Held}
use Rattle.jv_interp_held.specs.declared.effect.Effect.{Effect}
use Rattle.jv_interp_held.specs.Executing.{HasRoom, place}
use Rattle.jv_interp_held.specs.Growing.{Grows, DidIn}
use Rattle.jv_interp_held.proofs.Growths.{then_grows}
use Rattle.jv_interp_heap.specs.SystemNumbers.{IsGuestsWorld}
use Rattle.jv_interp_words.specs.Going.{StaysIn}
use Rattle.jv_interp_members.specs.declared.methods.Methods.{Methods}
use Rattle.jv_interp_members.specs.Methods.{AreMethods}
use Rattle.jv_interp_members.specs.Known.{known, IsKnown}
use Rattle.jv_interp_instructions.specs.InGuest.{ExecutesIn, CanExecuteAt, ExecutedAt}
use Rattle.jv_interp_control.specs.declared.frames.Frames.{Frames}
use Rattle.jv_interp_control.specs.declared.control.Control.{Control}
use Rattle.jv_interp_control.specs.Inside.Nexts.{Nexts}
use Rattle.jv_interp_control.specs.Standing.{Kept, kept, StateStands}
use Rattle.jv_interp_control.proofs.Counted.{frames_bound}
use Rattle.jv_interp_control.proofs.Unwound.{fits}
use Rattle.jv_interp_control.specs.Running.{HaveRoom, StateRuns}
use Rattle.jv_interp_control.specs.Acting.{RunsIn, Acting, ActedTo}
use Rattle.jv_interp_steps.specs.Stepping.{StepsIn, SteppedTo}
use Rattle.jv_interp_steps.specs.Inside.Decoding.{record_at, CanDecode, IsDecoded, StandsNext}
use Rattle.jv_interp_steps.proofs.Fewer.{cells_fall}

module _ (world : World) (verified : List Bool) (at : Registers) (program : Program) (texts : List (List ℕ)) (s t : State) (addresses : List ℕ)
    (frames : Frames) (control : Control) (held : Held) (blocks : Blocks)
    (h : StepsIn world verified at program texts s t addresses (kept frames control held blocks)) where
  abbrev pub frame : MethodFrame
  frame = h.runs.running.frame

  abbrev pub others : List Frame
  others = h.runs.running.others

  abbrev pub below : List ℕ
  below = h.runs.running.below

  abbrev pub ws : List ℕ
  ws = frames.words.items

  does : instruction_step program s.memory frame others s.control ≡ Ok t
  does = subst (λ (fs : List Frame). step_in program s.memory fs s.control ≡ Ok t) h.runs.running.frames_are h.takes.does

  -- ---- what the machine did

  pub record Taken : Type 0 where
    pub insn : Instruction
    pub there : instruction_at frame.method frame.offset ≡ Some insn
    pub done : Memory × EffectOfNames
    pub executed : execute (context program s.memory s.control frame insn) insn ≡ Ok done
    pub acted : act program frame others s.control done ≡ Ok t

  pub taken : Taken
  taken =
      let first =
      bound_gave (found OffsetFault (instruction_at frame.method frame.offset))
      (λ (insn : Instruction). execute (context program s.memory s.control frame insn) insn >>= act program frame others s.control) t does in
      let second = bound_gave (execute (context program s.memory s.control frame first.0) first.0) (act program frame others s.control) t first.2 in
      record {
        insn = first.0;
        there = found_gave OffsetFault (instruction_at frame.method frame.offset) first.0 first.1;
        done = second.0;
        executed = second.1;
        acted = second.2;
      }

  pub nexts :
      (methods : Methods) → AreMethods world methods
      → Nexts methods (record_at at.method at.pc at.base) program addresses frame (in_use ws at.top) below taken.insn
  nexts methods are = record {
    are = subst (λ (w : World). AreMethods w methods) (sym h.guest.world_is) are;
    finds = h.guest.finds;
    stands = h.runs.running.current;
    at = taken.there;
  }

  pub nexts_at :
      (methods : Methods) → AreMethods world methods → (there : Instruction) → instruction_at frame.method frame.offset ≡ Some there
      → Nexts methods (record_at at.method at.pc at.base) program addresses frame (in_use ws at.top) below there
  nexts_at methods are there at_hand = record {
    are = subst (λ (w : World). AreMethods w methods) (sym h.guest.world_is) are;
    finds = h.guest.finds;
    stands = h.runs.running.current;
    at = at_hand;
  }

  pub decoded_in :
      (site : Site) (insn : Instruction) (next : ℕ) → StandsNext world verified texts at (kept frames control held blocks) site insn next
      → IsDecoded site insn next program frame taken.insn
  decoded_in site insn next d = d program s t addresses h taken.insn taken.there

  pub can_decode : (methods : Methods) → AreMethods world methods → CanDecode methods at.method at.pc
  can_decode methods are = (
    at.base,
    record { program = program; addresses = addresses; frame = frame; used = in_use ws at.top; below = below; insn = taken.insn; nexts = nexts methods are },
  )

  -- ---- it is executed

  abbrev pub c : Context
  c = context program s.memory s.control frame taken.insn

  room_for : (memory : Memory) (e : EffectOfNames) → act program frame others s.control (memory, e) ≡ Ok t → HasRoom c below (length ws) (memory, e)
  room_for memory (Goes offset locals stack) e =
      let next = bound_gave (at_offset frame offset locals stack) (λ (f : MethodFrame). Ok (state_of memory (Runs f ∷ others) s.control)) t e in
      let test =
      bound_gave (tested StackFault (nat_le (words_of_values stack) frame.method.code.max_stack) frame)
      (λ (f : MethodFrame). Ok (record f { offset = offset; locals = locals; stack = stack })) next.0 next.1 in
      let passes = tested_gave StackFault (nat_le (words_of_values stack) frame.method.code.max_stack) frame test.0 test.1 in
      let fit = fits (words_of_values stack) frame.method.code.max_stack passes.0 in
      let under = frames_bound program addresses others (reverse frames.records.items) below h.runs.running.others_stand in
      let count = h.runs.running.current.locals_count in
      let room = h.runs.running.room in
      let all : used_words s.frames ≡ frame_words (Runs frame) + used_words others = ap used_words h.runs.running.frames_are ∙ sum_by-cons frame_words (Runs frame) others in
      omega (arith, fit, under, count, room, all)
  room_for memory (Enters d receiver arguments stack) e = tt
  room_for memory (Constructs d object instance arguments stack) e = tt
  room_for memory (Leaves result) e = tt
  room_for memory (Throws object) e = tt
  room_for memory (Raises class) e = tt
  room_for memory (Begins l) e = tt

  module _ (linked : Linked) (is_linked : IsLinked world linked) (site : Site) (insn : Instruction) (next : ℕ) (d : IsDecoded site insn next program frame taken.insn) where
    pub is_known : IsKnown (known world linked site) c
    is_known = record {
      world = h.guest.world_is;
      guests = subst (λ (w : World). IsGuestsWorld w) h.guest.world_is h.guest.guests;
      few = h.guest.few;
      linked = is_linked;
      site = subst (λ (w : World). seen_site w site ≡ Some frame.method.site) h.guest.world_is d.site_is;
    }

    there_executes : ExecutesIn taken.insn next (known world linked site) texts (place at ws held blocks) c addresses taken.done below
    there_executes = record {
      executes = record {
        does = taken.executed;
        frame = h.runs.running.current.words;
        memory = h.runs.memory;
        base_is = h.runs.running.current.base_is;
        pc_is = h.runs.running.current.pc_is;
        next_is = d.next_is;
        top_within = h.runs.running.top_within;
      };
      known = is_known;
      loadable = subst (λ (w : World). AreLoadable w s.memory.objects) h.guest.world_is h.takes.objects;
      units = h.guest.units;
    }

    pub executes_in : ExecutesIn insn next (known world linked site) texts (place at ws held blocks) c addresses taken.done below
    executes_in =
        subst (λ (i : Instruction). ExecutesIn i next (known world linked site) texts (place at ws held blocks) c addresses taken.done below) (sym d.is)
        there_executes

    pub states_are : AreClassStates world c.states control.states.items
    states_are = subst (λ (w : World). AreClassStates w s.control.states control.states.items) h.guest.world_is h.runs.control.states

    pub can_execute :
        (states : List ClassState) (words : List ℕ) → states ≡ control.states.items → words ≡ ws
        → CanExecuteAt states insn next (known world linked site) texts at words held blocks
    can_execute states words states_is words_is =
        subst (λ (ss : List ClassState). CanExecuteAt ss insn next (known world linked site) texts at words held blocks) (sym states_is)
        (subst (λ (v : List ℕ). CanExecuteAt control.states.items insn next (known world linked site) texts at v held blocks) (sym words_is)
        (record {
          can = record {
            c = c;
            addresses = addresses;
            done = taken.done;
            below = below;
            executes = executes_in;
            room = room_for taken.done.0 taken.done.1 taken.acted;
          };
          states_are = states_are;
        }))

    -- so what was done to each such frame was done to this one
    pub did :
        (states : List ClassState) (words : List ℕ) (at_after : Registers) (words_after : List ℕ) (held_after : Held) (after_blocks : Blocks) (effect : Effect)
        → states ≡ control.states.items → words ≡ ws
        → ExecutedAt states insn next (known world linked site) texts (place at words held blocks) (place at_after words_after held_after after_blocks) effect
        → DidIn blocks texts (place at_after words_after held_after after_blocks) effect c addresses taken.done below
    did states words at_after words_after held_after after_blocks effect states_is words_is executed =
        executed c addresses taken.done below
        (subst (λ (v : List ℕ). ExecutesIn insn next (known world linked site) texts (place at v held blocks) c addresses taken.done below) (sym words_is) executes_in)
        (subst (λ (ss : List ClassState). AreClassStates world c.states ss) (sym states_is) states_are)

  -- ---- what it did stands, and its effect is done to the frames

  module _ (at_after : Registers) (between : Frames) (words_after : List ℕ) (held_after : Held) (after_blocks : Blocks) (effect : Effect)
      (words_are : between.words.items ≡ words_after) (stays_there : StaysIn at at_after words_after) (records_are : between.records ≡ frames.records)
      (left_is : between.left ≡ frames.left) (same_size : length words_after ≡ length frames.words.items)
      (did_there : DidIn blocks texts (place at_after words_after held_after after_blocks) effect c addresses taken.done below) where
    size : length between.words.items ≡ length frames.words.items
    size = ap (λ (v : List ℕ). length v) words_are ∙ same_size

    pub stays : StaysIn at at_after between.words.items
    stays = subst (λ (v : List ℕ). StaysIn at at_after v) (sym words_are) stays_there

    pub did_now : DidIn blocks texts (place at_after between.words.items held_after after_blocks) effect c addresses taken.done below
    did_now =
        subst (λ (v : List ℕ). DidIn blocks texts (place at_after v held_after after_blocks) effect c addresses taken.done below) (sym words_are) did_there

    abbrev pub more : List ℕ
    more = did_now.did.more

    runs_in : RunsIn program frame at_after below
    runs_in =
        let m = h.runs.running.current in
        subst (λ (r : Registers). RunsIn program frame r below) (sym stays.same)
        (record {
          declared = m.declared;
          has_number = m.has_number;
          entered = m.entered;
          base_is = m.base_is;
          locals_count = m.locals_count;
          stack_fits = m.stack_fits;
          code_is = h.runs.running.code_is;
        })

    have_room : HaveRoom s.frames s.control.words between
    have_room =
        let room = h.runs.rooms.room in
        let few = h.runs.rooms.few in
        let fit = h.runs.rooms.records_fit in
        let capacity = ap Rattle.std.specs.Prelude.vec_capacity records_are in
        record {
          left_is = h.runs.rooms.left_is ∙ sym left_is;
          room = omega (arith, room, size);
          few = omega (arith, few, size);
          records_fit = omega (arith, fit, size, capacity);
        }

    pub acting : Acting world at_after effect program texts s t (addresses ++ more) (kept between control held_after after_blocks)
    acting = record {
      world_is = h.guest.world_is;
      guests = h.guest.guests;
      finds = h.guest.finds;
      frame = frame;
      others = others;
      frames_are = h.runs.running.frames_are;
      done = taken.done;
      does = taken.acted;
      below = below;
      runs = runs_in;
      effect_stands = did_now.did.effect_stands;
      others_stand =
          subst (λ rs. AreFrames program (addresses ++ more) others (reverse rs.items) below) (sym records_are)
          (frames_grown addresses more program others (reverse frames.records.items) below h.runs.running.others_stand);
      top_within = stays.top_within;
      rooms = have_room;
      control = h.runs.control;
      memory = did_now.did.memory;
    }

    -- cells only fall
    pub cells_after : ExecutionKeeps → held_after.cells ≤ held.cells
    cells_after keeps =
        let less = cells_fall program.world s.memory taken.done.0 (keeps c taken.insn taken.done.0 taken.done.1 taken.executed) in
        let first = h.runs.memory.cells in
        let last = did_now.did.memory.cells in
        omega (arith, less, first, last)

    pub stepped :
        (goes_on : Bool) (after : Kept) → ActedTo goes_on program texts t (addresses ++ more) at_after (kept between control held_after after_blocks) after
        → SteppedTo goes_on program texts t addresses at_after (kept frames control held blocks) after
    stepped true after a = record {
      more = more;
      runs = subst (λ (k : Kept). StateRuns program texts t (addresses ++ more) at_after k) (sym a.0) a.1;
      grows = subst (λ (k : Kept). Grows addresses more blocks k.blocks) (sym a.0) did_now.grows;
    }
    stepped false after a = record {
      more = more ++ a.more;
      stands = subst (λ (l : List ℕ). StateStands program texts t l after) (append_assoc addresses more a.more) a.stands;
      grows = then_grows addresses more a.more blocks after_blocks after.blocks did_now.grows a.grows;
    }
