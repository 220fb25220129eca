-- A method is left, and what is below goes on (JVMS 2.6.4).
use Rattle.std.proofs.Common.{◌≡◌, ℕ, ◌+◌, ◌≤◌, nat_le, List, [], ◌∷◌, ◌++◌, Ok, length, reverse, take, refl, sym, ap, subst, ◌∙◌, arith, length-append}
use Rattle.std.proofs.Math.Seq.{take-append_seam}
use Rattle.std.proofs.lemmas.List.Sums.{sum_by-cons}
use Rattle.std.specs.Prelude.{vec_capacity}
use Rattle.jv_code.specs.Insns.{Instruction}
use Rattle.jv_meaning_typing.specs.Environment.{instruction_at, offset_behind}
use Rattle.jv_meaning_machine.specs.Faults.{OrFault, found, tested}
use Rattle.jv_meaning_machine.specs.Faults.Fault.{OffsetFault, StackFault}
use Rattle.jv_meaning_machine.specs.Values.{Value, words_of_values}
use Rattle.jv_meaning_machine.specs.Frames.{MethodFrame, Frame}
use Rattle.jv_meaning_machine.specs.Frames.Frame.{Runs, Initializes}
use Rattle.jv_meaning_machine.specs.State.{Program, Memory, Control as ControlOfNames, State, state_of}
use Rattle.jv_meaning_machine.specs.State.End.{Returned}
use Rattle.jv_meaning_machine.specs.Costs.{method_words, with_words_back}
use Rattle.jv_meaning_machine.specs.Entering.{at_offset, resumed, leave_to}
use Rattle.jv_meaning_machine.specs.Laws.Shapes.{frame_words, used_words}
use Rattle.jv_interp_words.specs.declared.records.MethodRecord.{MethodRecord}
use Rattle.jv_interp_words.specs.declared.records.InitializationRecord.{InitializationRecord}
use Rattle.jv_interp_words.specs.declared.records.FrameRecord.{FrameRecord}
use Rattle.jv_interp_words.specs.declared.records.FrameRecord.TheVariants as records
use Rattle.jv_interp_words.specs.ValuesInWords.{AreOnTop}
use Rattle.jv_interp_words.specs.FramesInWords.{in_use, FrameStands, MethodStands, AreFrames}
use Rattle.jv_interp_words.proofs.Gave.{bound_gave, found_gave, tested_gave}
use Rattle.jv_interp_words.proofs.InUse.{length-in_use}
use Rattle.jv_interp_words.proofs.Stacks.{stack_above, stack_joined}
use Rattle.jv_interp_words.proofs.FramesStand.{stack_length}
use Rattle.jv_interp_members.specs.declared.methods.Methods.{Methods}
use Rattle.jv_interp_control.specs.declared.frames.Frames.{Frames}
use Rattle.jv_interp_control.specs.declared.control.Control.{Control}
use Rattle.jv_interp_control.specs.declared.control.End.TheVariants as ends
use Rattle.jv_interp_control.specs.Leaving.{Leaving, Left}
use Rattle.jv_interp_control.specs.Inside.Nexts.{Nexts}
use Rattle.jv_interp_control.proofs.Counted.{reversed_push}
use Rattle.jv_interp_control.proofs.EntersStand.{control_words}
use Rattle.jv_interp_control.proofs.FramesPassed.{newest_runs, newest_initializes}
use Rattle.jv_interp_control.proofs.Unwound.{same_state, fits}

-- there is a frame where there is a record
some_frame :
    (program : Program) (addresses : List ℕ) (all : List Frame) (r : FrameRecord) (more : List FrameRecord) (used : List ℕ)
    → AreFrames program addresses all (r ∷ more) used → (f : Frame) × (fs : List Frame) × (all ≡ f ∷ fs)
some_frame program addresses [] r more used h = absurd h
some_frame program addresses (f ∷ fs) r more used h = (f, fs, refl)

no_frame : (program : Program) (addresses : List ℕ) (all : List Frame) (used : List ℕ) → AreFrames program addresses all [] used → all ≡ []
no_frame program addresses [] used h = refl
no_frame program addresses (Runs f ∷ fs) used h = absurd h
no_frame program addresses (Initializes f ∷ fs) used h = absurd h

module _ (methods : Methods) (given top count : ℕ) (frames : Frames) (kept : Control) (program : Program) (addresses : List ℕ) (memory : Memory) (frame : MethodFrame)
    (below : List Frame) (control : ControlOfNames) (result : List Value) (t : State)
    (h : Leaving methods given top count frames kept program addresses memory frame below control result t) where
  abbrev ws : List ℕ
  ws = frames.words.items

  pub low : count + frames.top ≤ top
  low =
      let s = h.stand.top_within in
      omega (
        arith,
        stack_length addresses result (in_use ws top) (h.above ++ in_use ws frames.top) h.on_top,
        length-append h.above (in_use ws frames.top),
        length-in_use ws frames.top s,
        length-in_use ws top h.within,
        h.count_is,
      )

  -- the words of the result
  pub record Upper : Type 0 where
    pub front : List ℕ
    pub is : take count (in_use ws top) ≡ front
    pub moves : (others : List ℕ) → AreOnTop addresses result (front ++ others) others

  pub upper : Upper
  upper =
      let a = stack_above addresses result (in_use ws top) (h.above ++ in_use ws frames.top) h.on_top in
      let alone = stack_length addresses result (a.front ++ []) [] (a.moves []) in
      let size : length a.front ≡ count = omega (arith, alone, length-append {A = ℕ} a.front [], h.count_is) in
      record {
        front = a.front;
        is =
            ap (λ (l : List ℕ). take count l) a.place ∙ ap (λ (n : ℕ). take n (a.front ++ (h.above ++ in_use ws frames.top))) (sym size)
            ∙ take-append_seam a.front (h.above ++ in_use ws frames.top);
        moves = a.moves;
      }

  abbrev back : ControlOfNames
  back = with_words_back (method_words frame) control

  turned : (rest : List FrameRecord) (r : FrameRecord) → frames.records.items ≡ rest ++ r ∷ [] → AreFrames program addresses below (r ∷ reverse rest) (in_use ws frames.top)
  turned rest r e =
      subst (λ (l : List FrameRecord). AreFrames program addresses below l (in_use ws frames.top)) (ap (λ (l : List FrameRecord). reverse l) e ∙ reversed_push rest r) h.stand.stand

  -- ---- a method

  pub record Resumes (rest : List FrameRecord) (own : MethodRecord) : Type 0 where
    pub caller : MethodFrame
    pub others : List Frame
    pub is : below ≡ Runs caller ∷ others
    pub under : List ℕ
    pub stands : MethodStands program addresses caller own (in_use ws frames.top) under
    pub rest_stand : AreFrames program addresses others (reverse rest) under
    pub insn : Instruction
    pub nexts : Nexts methods own program addresses caller (in_use ws frames.top) under insn
    pub stack_fits : words_of_values (result ++ caller.stack) ≤ caller.method.code.max_stack
    pub goes :
        state_of memory (Runs (record caller { offset = offset_behind caller.offset insn; locals = caller.locals; stack = result ++ caller.stack }) ∷ others) back ≡ t

  pub resumes : (rest : List FrameRecord) (own : MethodRecord) → frames.records.items ≡ rest ++ records.Runs own ∷ [] → Resumes rest own
  resumes rest own e =
      let all = turned rest (records.Runs own) e in
      let some = some_frame program addresses below (records.Runs own) (reverse rest) (in_use ws frames.top) all in
      let n =
      newest_runs program addresses some.0 some.1 own (reverse rest) (in_use ws frames.top)
      (subst (λ (fs : List Frame). AreFrames program addresses fs (records.Runs own ∷ reverse rest) (in_use ws frames.top)) some.2 all) in
      let caller = n.method in
      let is : below ≡ Runs caller ∷ some.1 = some.2 ∙ ap (λ (f : Frame). f ∷ some.1) n.is in
      let goes : leave_to memory (Runs caller ∷ some.1) back result ≡ Ok t = sym (ap (λ (fs : List Frame). leave_to memory fs back result) is) ∙ h.does in
      let on = bound_gave (resumed caller result) (λ (c : MethodFrame). Ok (state_of memory (Runs c ∷ some.1) back)) t goes in
      let insn =
      bound_gave (found OffsetFault (instruction_at caller.method caller.offset))
      (λ (i : Instruction). at_offset caller (offset_behind caller.offset i) caller.locals (result ++ caller.stack)) on.0 on.1 in
      let at = found_gave OffsetFault (instruction_at caller.method caller.offset) insn.0 insn.1 in
      let test =
      bound_gave (tested StackFault (nat_le (words_of_values (result ++ caller.stack)) caller.method.code.max_stack) caller)
      (λ (f : MethodFrame). Ok (record f { offset = offset_behind caller.offset insn.0; locals = caller.locals; stack = result ++ caller.stack })) on.0 insn.2 in
      let passes = tested_gave StackFault (nat_le (words_of_values (result ++ caller.stack)) caller.method.code.max_stack) caller test.0 test.1 in
      let new = same_frame (record test.0 { offset = offset_behind caller.offset insn.0; locals = caller.locals; stack = result ++ caller.stack }) on.0 test.2 in
      record {
        caller = caller;
        others = some.1;
        is = is;
        under = n.under;
        stands = n.stands;
        rest_stand = n.others;
        insn = insn.0;
        nexts = record { are = h.are; finds = h.finds; stands = n.stands; at = at };
        stack_fits = fits (words_of_values (result ++ caller.stack)) caller.method.code.max_stack passes.0;
        goes =
            ap (λ (f : MethodFrame). state_of memory (Runs (record f { offset = offset_behind caller.offset insn.0; locals = caller.locals; stack = result ++ caller.stack }) ∷ some.1) back) passes.1
            ∙ ap (λ (f : MethodFrame). state_of memory (Runs f ∷ some.1) back) new
            ∙ same_state (state_of memory (Runs on.0 ∷ some.1) back) t on.2;
      }
    where
      same_frame : (a b : MethodFrame) → ◌≡◌ {A = OrFault MethodFrame} (Ok a) (Ok b) → a ≡ b
      same_frame a b e = cc

  pub left_to_method :
      (rest : List FrameRecord) (own : MethodRecord) (r : Resumes rest own) (after : Frames) (pc : ℕ) → pc ≡ offset_behind r.caller.offset r.insn
      → in_use after.words.items after.top ≡ take count (in_use ws top) ++ in_use ws frames.top → length after.words.items ≡ length ws
      → after.records.items ≡ rest ++ records.Runs (record { method = own.method; pc = pc; base = own.base }) ∷ []
      → vec_capacity after.records ≡ vec_capacity frames.records → after.top ≡ frames.top + count → after.left ≡ frames.left + given
      → Left program addresses memory t after kept
  left_to_method rest own r after pc pc_is words_are size records_are capacity top_is left_is =
      let s = r.stands in
      let u = upper in
      let used : in_use after.words.items after.top ≡ u.front ++ in_use ws frames.top = words_are ∙ ap (λ (l : List ℕ). l ++ in_use ws frames.top) u.is in
      let frame_now : MethodFrame = record r.caller { offset = offset_behind r.caller.offset r.insn; locals = r.caller.locals; stack = result ++ r.caller.stack } in
      let own_now : MethodRecord = record { method = own.method; pc = pc; base = own.base } in
      let words : FrameStands addresses r.caller.locals (result ++ r.caller.stack) (in_use after.words.items after.top) r.under =
      record {
        words = s.words.words;
        stack_stands =
            stack_joined addresses result r.caller.stack (in_use after.words.items after.top) (in_use ws frames.top) (reverse s.words.words ++ r.under)
            (subst (λ (l : List ℕ). AreOnTop addresses result l (in_use ws frames.top)) (sym used) (u.moves (in_use ws frames.top))) s.words.stack_stands;
        locals_stand = s.words.locals_stand;
      } in
      let method : MethodStands program addresses frame_now own_now (in_use after.words.items after.top) r.under =
      record {
        declared = s.declared;
        has_number = s.has_number;
        entered = s.entered;
        words = words;
        base_is = s.base_is;
        pc_is = pc_is;
        locals_count = s.locals_count;
        stack_fits = r.stack_fits;
      } in
      let turned_now : reverse after.records.items ≡ records.Runs own_now ∷ reverse rest =
      ap (λ (l : List FrameRecord). reverse l) records_are ∙ reversed_push rest (records.Runs own_now) in
      let count_now : used_words (Runs frame_now ∷ r.others) ≡ used_words below =
      sum_by-cons frame_words (Runs frame_now) r.others ∙ sym (ap used_words r.is ∙ sum_by-cons frame_words (Runs r.caller) r.others) in
      subst (λ (t : State). Left program addresses memory t after kept) r.goes
      (record {
        stand = record {
          stand =
              subst (λ (l : List FrameRecord). AreFrames program addresses (Runs frame_now ∷ r.others) l (in_use after.words.items after.top)) (sym turned_now)
              (r.under, method, r.rest_stand);
          top_within = let a = low in let b = h.within in omega (arith, a, b, top_is, size);
          left_is = let a = h.stand.left_is in let b = h.given_is in omega (arith, a, b, left_is);
          room = let a = h.room in let b = h.given_is in omega (arith, a, b, count_now, size);
          few = let a = h.stand.few in omega (arith, a, size);
          records_fit = let a = h.stand.records_fit in omega (arith, a, size, capacity);
        };
        control_stands = control_words program.world control kept (control.words + method_words frame) h.control_stands;
        same_memory = refl;
      })

  -- ---- an initialization, or none

  pub left_to_initialization :
      (rest : List FrameRecord) (own : InitializationRecord) (after : Frames) → frames.records.items ≡ rest ++ records.Initializes own ∷ []
      → after.words ≡ frames.words → after.records.items ≡ rest ++ records.Initializes own ∷ [] → vec_capacity after.records ≡ vec_capacity frames.records
      → after.top ≡ frames.top → after.left ≡ frames.left + given → Left program addresses memory t after kept
  left_to_initialization rest own after e words_are records_are capacity top_is left_is =
      let all = turned rest (records.Initializes own) e in
      let some = some_frame program addresses below (records.Initializes own) (reverse rest) (in_use ws frames.top) all in
      let n =
      newest_initializes program addresses some.0 some.1 own (reverse rest) (in_use ws frames.top)
      (subst (λ (fs : List Frame). AreFrames program addresses fs (records.Initializes own ∷ reverse rest) (in_use ws frames.top)) some.2 all) in
      let is : below ≡ Initializes n.initialization ∷ some.1 = some.2 ∙ ap (λ (f : Frame). f ∷ some.1) n.is in
      let goes : state_of memory (Initializes n.initialization ∷ some.1) back ≡ t =
      same_state (state_of memory (Initializes n.initialization ∷ some.1) back) t (sym (ap (λ (fs : List Frame). leave_to memory fs back result) is) ∙ h.does) in
      let size = ap (λ v. length v.items) words_are in
      subst (λ (t : State). Left program addresses memory t after kept) goes
      (subst (λ (fs : List Frame). Left program addresses memory (state_of memory fs back) after kept) is
      (record {
        stand = record {
          stand =
              subst (λ v. AreFrames program addresses below (reverse after.records.items) (in_use v.items after.top)) (sym words_are)
              (subst (λ (n : ℕ). AreFrames program addresses below (reverse after.records.items) (in_use ws n)) (sym top_is)
              (subst (λ (l : List FrameRecord). AreFrames program addresses below (reverse l) (in_use ws frames.top)) (e ∙ sym records_are) h.stand.stand));
          top_within = let a = h.stand.top_within in omega (arith, a, top_is, size);
          left_is = let a = h.stand.left_is in let b = h.given_is in omega (arith, a, b, left_is);
          room = let a = h.room in let b = h.given_is in omega (arith, a, b, size);
          few = let a = h.stand.few in omega (arith, a, size);
          records_fit = let a = h.stand.records_fit in omega (arith, a, size, capacity);
        };
        control_stands = control_words program.world control kept (control.words + method_words frame) h.control_stands;
        same_memory = refl;
      }))

  pub returned :
      (after : Frames) → frames.records.items ≡ [] → after.words ≡ frames.words → after.records.items ≡ [] → vec_capacity after.records ≡ vec_capacity frames.records
      → after.top ≡ frames.top → after.left ≡ frames.left + given → Left program addresses memory t after (record kept { end = ends.Returned })
  returned after e words_are records_are capacity top_is left_is =
      let none = subst (λ (l : List FrameRecord). AreFrames program addresses below (reverse l) (in_use ws frames.top)) e h.stand.stand in
      let is = no_frame program addresses below (in_use ws frames.top) none in
      let goes : state_of memory [] (record back { end = Returned }) ≡ t =
      same_state (state_of memory [] (record back { end = Returned })) t (sym (ap (λ (fs : List Frame). leave_to memory fs back result) is) ∙ h.does) in
      let size = ap (λ v. length v.items) words_are in
      let c = h.control_stands in
      let used_is : used_words below ≡ 0 = ap used_words is in
      subst (λ (t : State). Left program addresses memory t after (record kept { end = ends.Returned })) goes
      (record {
        stand = record {
          stand =
              subst (λ (fs : List Frame). AreFrames program addresses fs (reverse after.records.items) (in_use after.words.items after.top)) is
              (subst (λ v. AreFrames program addresses below (reverse after.records.items) (in_use v.items after.top)) (sym words_are)
              (subst (λ (n : ℕ). AreFrames program addresses below (reverse after.records.items) (in_use ws n)) (sym top_is)
              (subst (λ (l : List FrameRecord). AreFrames program addresses below (reverse l) (in_use ws frames.top)) (e ∙ sym records_are) h.stand.stand)));
          top_within = let a = h.stand.top_within in omega (arith, a, top_is, size);
          left_is = let a = h.stand.left_is in let b = h.given_is in omega (arith, a, b, left_is);
          room = let a = h.room in let b = h.given_is in omega (arith, a, b, size, used_is);
          few = let a = h.stand.few in omega (arith, a, size);
          records_fit = let a = h.stand.records_fit in omega (arith, a, size, capacity);
        };
        control_stands = record { states = c.states; throws = c.throws; last = c.last; place = c.place; main = c.main; end = tt };
        same_memory = refl;
      })
