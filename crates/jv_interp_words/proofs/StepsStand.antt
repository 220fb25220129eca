-- A step at an instruction that goes on, and what then stands.
use Rattle.std.proofs.Common.{◌≡◌, ℕ, ◌+◌, ◌≤◌, true, nat_le, List, [], ◌∷◌, Some, Ok, length, reverse, slice_get, refl, sym, ap, subst, ◌∙◌, arith}
use Rattle.std.specs.Prelude.{sum_by}
use Rattle.std.proofs.lemmas.List.Sums.{sum_by-cons}
use Rattle.std.proofs.lemmas.Grind.{common_steps}
use Rattle.jv_code.specs.Insns.{Instruction}
use Rattle.jv_code.specs.Places.{IsAt}
use Rattle.jv_code.proofs.StartLaws.{OneAtOffset-holds}
use Rattle.jv_meaning_typing.specs.Environment.{instruction_at, offset_behind}
use Rattle.jv_meaning_machine.specs.Faults.{OrFault, found, tested, ◌>>=◌}
use Rattle.jv_meaning_machine.specs.Faults.Fault.{OffsetFault, StackFault}
use Rattle.jv_meaning_machine.specs.Values.{Value, words_of_values}
use Rattle.jv_meaning_machine.specs.Frames.{MethodFrame, Frame}
use Rattle.jv_meaning_machine.specs.Frames.Frame.{Runs, Initializes}
use Rattle.jv_meaning_machine.specs.State.{Program, Memory, Control, State, state_of}
use Rattle.jv_meaning_machine.specs.Effects.{Effect, Context}
use Rattle.jv_meaning_machine.specs.Effects.Effect.{Goes, Enters, Constructs, Leaves, Throws, Raises, Begins}
use Rattle.jv_meaning_machine.specs.Instructions.{execute}
use Rattle.jv_meaning_machine.specs.Laws.Shapes.{frame_words, used_words}
use Rattle.jv_meaning_machine.specs.Entering.{at_offset}
use Rattle.jv_meaning_machine.specs.Step.{context, act, step, step_in, instruction_step}
use Rattle.jv_interp_words.specs.declared.records.FrameRecord.{FrameRecord}
use Rattle.jv_interp_words.specs.declared.records.FrameRecord.TheVariants as records
use Rattle.jv_interp_words.specs.declared.registers.Registers.{Registers}
use Rattle.jv_interp_words.specs.FramesInWords.{in_use, methods_of, MethodStands, AreFrames}
use Rattle.jv_interp_words.specs.StatesInWords.{record_of}
use Rattle.jv_interp_words.proofs.Gave.{bound_gave, found_gave, tested_gave}
use Rattle.jv_interp_words.specs.Going.{Works, HasRoom, CanWork, GoesOn, StaysIn}
use Rattle.jv_interp_words.proofs.FramesStand.{frame_length}
use Rattle.jv_interp_words.specs.Stepping.{StepsFrom, CanStep, Stepped, StepsTo}
use Rattle.jv_interp_words.proofs.AtPlace.{is_at_place, entered_code}

-- ---- the machine's step in parts

pub record Acts (program : Program) (s t : State) (frame : MethodFrame) (below : List Frame) (insn : Instruction) : Type 0 where
  pub stands : instruction_at frame.method frame.offset ≡ Some insn
  pub done : Memory × Effect
  pub does : execute (context program s.memory s.control frame insn) insn ≡ Ok done
  pub acts : act program frame below s.control done ≡ Ok t

pub step_acts :
    (program : Program) (s t : State) (frame : MethodFrame) (below : List Frame) → s.frames ≡ Runs frame ∷ below → step program s ≡ Ok t
    → (insn : Instruction) × Acts program s t frame below insn
step_acts program s t frame below is e =
    let here : instruction_step program s.memory frame below s.control ≡ Ok t =
    sym (ap (λ (fs : List Frame). step_in program s.memory fs s.control) is) ∙ e in
    let read =
    bound_gave (found OffsetFault (instruction_at frame.method frame.offset))
    (λ (insn : Instruction). execute (context program s.memory s.control frame insn) insn >>= act program frame below s.control) t here in
    let parts = bound_gave (execute (context program s.memory s.control frame read.0) read.0) (act program frame below s.control) t read.2 in (
      read.0,
      record {
        stands = found_gave OffsetFault (instruction_at frame.method frame.offset) read.0 read.1;
        done = parts.0;
        does = parts.1;
        acts = parts.2;
      },
    )

-- ---- the instruction at hand

pub record AtHand (program : Program) (s t : State) (at : Registers) (frame : MethodFrame) (below : List Frame) : Type 0 where
  pub insn : Instruction
  pub is_at : IsAt at.code.now at.pc insn
  pub acts : Acts program s t frame below insn

pub at_hand :
    (program : Program) (s t : State) (addresses : List ℕ) (waiting : List FrameRecord) (at : Registers) (words : List ℕ)
    → (h : StepsFrom program s t addresses waiting at words) → AtHand program s t at h.running.frame h.running.others
at_hand program s t addresses waiting at words h =
    let frame = h.running.frame in
    let current = h.running.current in
    let acts = step_acts program s t frame h.running.others h.running.frames_are h.goes in
    let code = entered_code program current.declared frame.method h.finds current.entered in
    let there = is_at_place frame.method.code.code frame.method frame.offset acts.0 code acts.1.stands in
    record {
      insn = acts.0;
      is_at =
          subst (λ (bytes : List ℕ). IsAt bytes at.pc acts.0) (sym h.running.code_is)
          (subst (λ (n : ℕ). IsAt frame.method.code.code n acts.0) (sym current.pc_is) there);
      acts = acts.1;
    }

-- and it is the one that is known to stand there
pub known_at_hand :
    (insn : Instruction) (program : Program) (s t : State) (addresses : List ℕ) (waiting : List FrameRecord) (at : Registers) (words : List ℕ)
    → (h : StepsFrom program s t addresses waiting at words) → IsAt at.code.now at.pc insn
    → Acts program s t h.running.frame h.running.others insn
known_at_hand insn program s t addresses waiting at words h is =
    let found = at_hand program s t addresses waiting at words h in
    subst (λ (i : Instruction). Acts program s t h.running.frame h.running.others i)
    (OneAtOffset-holds at.code.now at.pc found.insn insn found.is_at is) found.acts

-- ---- words

-- frames have no more words than they were given
frames_bound :
    (program : Program) (addresses : List ℕ) (frames : List Frame) (kept : List FrameRecord) (used : List ℕ)
    → AreFrames program addresses frames kept used → length used ≤ used_words frames
frames_bound program addresses [] [] used h = let e : length used ≡ 0 = ap length h in omega arith
frames_bound program addresses [] (k ∷ kept) used h = absurd h
frames_bound program addresses (Runs frame ∷ frames) [] used h = absurd h
frames_bound program addresses (Runs frame ∷ frames) (records.Runs k ∷ kept) used h =
    omega (
      arith,
      frame_length addresses frame.locals frame.stack used h.0 h.1.words,
      h.1.locals_count,
      h.1.stack_fits,
      frames_bound program addresses frames kept h.0 h.2,
      sum_by-cons frame_words (Runs frame) frames,
    )
frames_bound program addresses (Runs frame ∷ frames) (records.Initializes k ∷ kept) used h = absurd h
frames_bound program addresses (Initializes frame ∷ frames) [] used h = absurd h
frames_bound program addresses (Initializes frame ∷ frames) (records.Runs k ∷ kept) used h = absurd h
frames_bound program addresses (Initializes frame ∷ frames) (records.Initializes k ∷ kept) used h =
    omega (arith, frames_bound program addresses frames kept used h.1, sum_by-cons frame_words (Initializes frame) frames)

fits : (a b : ℕ) → nat_le a b ≡ true → a ≤ b
fits a b e = grind (arith, common_steps)

-- what an effect leaves on the stack has room
effect_fits :
    (c : Context) (program : Program) (frame : MethodFrame) (below : List Frame) (control : Control) (t : State) (under : List ℕ) (size : ℕ)
    (done : Memory × Effect) → act program frame below control done ≡ Ok t
    → length under + length c.frame.locals + frame.method.code.max_stack ≤ size → HasRoom c under size done
effect_fits c program frame below control t under size (memory, Goes offset locals stack) e room =
    let parts = bound_gave (at_offset frame offset locals stack) (λ (f : MethodFrame). Ok (state_of memory (Runs f ∷ below) control)) t e in
    let test =
    bound_gave (tested StackFault (nat_le (words_of_values stack) frame.method.code.max_stack) frame)
    (λ (f : MethodFrame). Ok (record f { offset = offset; locals = locals; stack = stack })) parts.0 parts.1 in
    let passed = tested_gave StackFault (nat_le (words_of_values stack) frame.method.code.max_stack) frame test.0 test.1 in
    omega (arith, room, fits (words_of_values stack) frame.method.code.max_stack passed.0)
effect_fits c program frame below control t under size (memory, Enters d receiver arguments stack) e room = tt
effect_fits c program frame below control t under size (memory, Constructs d object instance arguments stack) e room = tt
effect_fits c program frame below control t under size (memory, Leaves result) e room = tt
effect_fits c program frame below control t under size (memory, Throws object) e room = tt
effect_fits c program frame below control t under size (memory, Raises class) e room = tt
effect_fits c program frame below control t under size (memory, Begins l) e room = tt

-- ---- from a state to its current frame

pub record WorksFrom (insn : Instruction) (next : ℕ) (program : Program) (s t : State) (addresses : List ℕ) (at : Registers) (words : List ℕ)
    (frame : MethodFrame) (others : List Frame) (below : List ℕ) : Type 0 where
  pub acts : Acts program s t frame others insn
  pub works : Works insn next at words (context program s.memory s.control frame insn) addresses acts.done below
  pub room : HasRoom (context program s.memory s.control frame insn) below (length words) acts.done

pub steps_work :
    (insn : Instruction) (next : ℕ) (program : Program) (s t : State) (addresses : List ℕ) (waiting : List FrameRecord) (at : Registers)
    (words : List ℕ) → (h : StepsFrom program s t addresses waiting at words) → IsAt at.code.now at.pc insn → next ≡ offset_behind at.pc insn
    → WorksFrom insn next program s t addresses at words h.running.frame h.running.others h.running.below
steps_work insn next program s t addresses waiting at words h is next_is =
    let r = h.running in
    let acts = known_at_hand insn program s t addresses waiting at words h is in
    let others = frames_bound program addresses r.others (reverse waiting) r.below r.others_stand in
    let all : used_words s.frames ≡ frame_words (Runs r.frame) + used_words r.others =
    ap (λ (fs : List Frame). sum_by frame_words fs) r.frames_are ∙ sum_by-cons frame_words (Runs r.frame) r.others in
    record {
      acts = acts;
      works = record {
        does = acts.does;
        frame = r.current.words;
        apart = h.apart;
        base_is = r.current.base_is;
        pc_is = r.current.pc_is;
        next_is = next_is ∙ ap (λ (n : ℕ). offset_behind n insn) r.current.pc_is;
        top_within = r.top_within;
      };
      room =
          effect_fits (context program s.memory s.control r.frame insn) program r.frame r.others s.control t r.below (length words) acts.done
          acts.acts (omega (arith, others, all, r.room, r.current.locals_count));
    }

pub can_work :
    (insn : Instruction) (next : ℕ) (at : Registers) (words : List ℕ) → CanStep at words → IsAt at.code.now at.pc insn
    → next ≡ offset_behind at.pc insn → CanWork insn next at words
can_work insn next at words h is next_is =
    let w = steps_work insn next h.program h.s h.t h.addresses h.waiting at words h.from is next_is in
    record {
      c = context h.program h.s.memory h.s.control h.from.running.frame insn;
      addresses = h.addresses;
      done = w.acts.done;
      below = h.from.running.below;
      works = w.works;
      room = w.room;
    }

-- ---- and back

goes_to :
    (program : Program) (frame : MethodFrame) (below : List Frame) (control : Control) (memory : Memory) (offset : ℕ) (locals stack : List Value)
    (t : State) → act program frame below control (memory, Goes offset locals stack) ≡ Ok t
    → (words_of_values stack ≤ frame.method.code.max_stack)
    × (state_of memory (Runs (record frame { offset = offset; locals = locals; stack = stack }) ∷ below) control ≡ t)
goes_to program frame below control memory offset locals stack t e =
    let parts = bound_gave (at_offset frame offset locals stack) (λ (f : MethodFrame). Ok (state_of memory (Runs f ∷ below) control)) t e in
    let test =
    bound_gave (tested StackFault (nat_le (words_of_values stack) frame.method.code.max_stack) frame)
    (λ (f : MethodFrame). Ok (record f { offset = offset; locals = locals; stack = stack })) parts.0 parts.1 in
    let passed = tested_gave StackFault (nat_le (words_of_values stack) frame.method.code.max_stack) frame test.0 test.1 in (
      fits (words_of_values stack) frame.method.code.max_stack passed.0,
      ap (λ (f : MethodFrame). state_of memory (Runs (record f { offset = offset; locals = locals; stack = stack }) ∷ below) control) passed.1
          ∙ ap (λ (f : MethodFrame). state_of memory (Runs f ∷ below) control)
          (same_frame (record test.0 { offset = offset; locals = locals; stack = stack }) parts.0
          (Ok (record test.0 { offset = offset; locals = locals; stack = stack })) refl test.2)
          ∙ same_state (state_of memory (Runs parts.0 ∷ below) control) t (Ok (state_of memory (Runs parts.0 ∷ below) control)) refl parts.2,
    )
  where
    same_frame : (a b : MethodFrame) (o : OrFault MethodFrame) → o ≡ Ok a → o ≡ Ok b → a ≡ b
    same_frame a b o e f = cc

    same_state : (a b : State) (o : OrFault State) → o ≡ Ok a → o ≡ Ok b → a ≡ b
    same_state a b o e f = cc

pub went_to :
    (insn : Instruction) (next : ℕ) (at after : Registers) (words words_after : List ℕ) → IsAt at.code.now at.pc insn
    → next ≡ offset_behind at.pc insn → GoesOn insn next at words after words_after → StaysIn at after words_after
    → length words_after ≡ length words → StepsTo at words after words_after
went_to insn next at after words words_after is next_is goes stays size = λ program s t addresses waiting h.
    let r = h.running in
    let w = steps_work insn next program s t addresses waiting at words h is next_is in
    let on =
    goes (context program s.memory s.control r.frame insn) addresses w.acts.done r.below w.works in
    let to =
    goes_to program r.frame r.others s.control s.memory after.pc on.locals on.stack t
    (subst (λ (d : Memory × Effect). act program r.frame r.others s.control d ≡ Ok t) on.is w.acts.acts) in
    let frame : MethodFrame = record r.frame { offset = after.pc; locals = on.locals; stack = on.stack } in
    let before : used_words s.frames ≡ frame_words (Runs r.frame) + used_words r.others =
    ap (λ (fs : List Frame). sum_by frame_words fs) r.frames_are ∙ sum_by-cons frame_words (Runs r.frame) r.others in
    let behind : used_words (Runs frame ∷ r.others) ≡ frame_words (Runs r.frame) + used_words r.others =
    sum_by-cons frame_words (Runs frame) r.others in
    let method : after.method ≡ at.method = ap (λ (a : Registers). a.method) stays.same in
    let base : after.base ≡ at.base = ap (λ (a : Registers). a.base) stays.same in
    let code : after.code.now ≡ at.code.now = ap (λ (a : Registers). a.code.now) stays.same in
    let current : MethodStands program addresses frame (record_of after) (in_use words_after after.top) r.below =
    record {
      declared = r.current.declared;
      has_number = ap (λ (n : ℕ). slice_get (methods_of program.world) n) method ∙ r.current.has_number;
      entered = r.current.entered;
      words = on.stand;
      base_is = base ∙ r.current.base_is;
      pc_is = refl;
      locals_count = on.count ∙ r.current.locals_count;
      stack_fits = to.0;
    } in
    subst (λ (t : State). Stepped program s t addresses waiting at after words_after) to.1
    (record {
      running = record {
        frame = frame;
        others = r.others;
        frames_are = refl;
        below = r.below;
        current = current;
        others_stand = r.others_stand;
        code_is = code ∙ r.code_is;
        top_within = stays.top_within;
        room = omega (arith, before, behind, r.room, size);
      };
      same_memory = refl;
      same_control = refl;
      stays = stays;
    })
