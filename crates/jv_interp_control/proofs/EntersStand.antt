-- A method is entered, or its words are not left (JVMS 2.5.2, 2.6).
use Rattle.std.proofs.Common.{◌≡◌, ℕ, ◌+◌, ◌-◌, ◌<◌, ◌≤◌, nat_le, Bool, true, false, List, [], ◌∷◌, ◌++◌, Some, None, Ok, codes, sym, ap, subst, ◌∙◌, arith, append-nil, if◌then◌else◌}
use Rattle.std.specs.Prelude.{vec_len, vec_capacity}
use Rattle.jv_class_structure.specs.Parts.{CodeSeen}
use Rattle.jv_meaning_world.specs.World.{World}
use Rattle.jv_meaning_machine.specs.Faults.{OrFault, found}
use Rattle.jv_meaning_machine.specs.Faults.Fault.{OffsetFault}
use Rattle.jv_meaning_machine.specs.Frames.{MethodFrame}
use Rattle.jv_meaning_machine.specs.Frames.Frame.{Runs}
use Rattle.jv_meaning_machine.specs.State.{Program, Control as ControlOfNames, State, state_of}
use Rattle.jv_meaning_machine.specs.Costs.{code_words}
use Rattle.jv_meaning_machine.specs.Throws.{raise}
use Rattle.jv_meaning_machine.specs.Entering.{passed_values, method_frame, entered_above, within_words}
use Rattle.jv_interp_words.specs.declared.records.FrameRecord.TheVariants as records
use Rattle.jv_interp_words.proofs.Gave.{bound_gave, found_gave}
use Rattle.jv_interp_heap.specs.ObjectsInBlocks.{Blocks}
use Rattle.jv_interp_held.specs.declared.held.Held.{Held}
use Rattle.jv_interp_held.proofs.Growths.{grows_not}
use Rattle.jv_interp_heap.specs.SystemNumbers.{SystemHasNumbers}
use Rattle.jv_interp_members.specs.declared.methods.Methods.{Methods}
use Rattle.jv_interp_members.specs.Methods.{AreMethods}
use Rattle.jv_interp_control.specs.declared.frames.Frames.{Frames}
use Rattle.jv_interp_control.specs.declared.control.Control.{Control}
use Rattle.jv_interp_control.specs.FramesStand.{FramesStand}
use Rattle.jv_interp_control.specs.ControlStands.{ControlStands}
use Rattle.jv_interp_control.specs.Standing.{kept, StateStands, Moves, Reaches}
use Rattle.jv_interp_control.specs.Moves.{Raising, Entering}
use Rattle.jv_interp_control.specs.Inside.Codes.{IsCodeOf}
use Rattle.jv_interp_control.proofs.Counted.{has_room}
use Rattle.jv_interp_control.proofs.Entered.{frame_entered, is_entered, method_entered}
use Rattle.jv_interp_control.proofs.Replacements.{numbers_in}
use Rattle.jv_interp_control.proofs.Unwound.{same_state}

-- ---- words that are given, or not (2.5.2)

lacks_test : (a b : ℕ) → b < a → nat_le a b ≡ false
lacks_test a b h = grind arith

fits_test : (a b : ℕ) → a ≤ b → nat_le a b ≡ true
fits_test a b h = grind arith

module _ (world : World) (s : State) (words : ℕ) (next : ControlOfNames → OrFault State) where
  by_test : Bool → OrFault State
  by_test b = elim (if b then Some (record s.control { words = s.control.words - words }) else None) [
    | None ↦ raise world s.memory s.frames s.control (codes "java/lang/StackOverflowError")
    | Some given ↦ next given
  ]

  pub words_lack : s.control.words < words → within_words world s.memory s.frames s.control words next ≡ raise world s.memory s.frames s.control (codes "java/lang/StackOverflowError")
  unfolding by_test
  words_lack h = ap by_test (lacks_test words s.control.words h)

  pub words_given : words ≤ s.control.words → within_words world s.memory s.frames s.control words next ≡ next (record s.control { words = s.control.words - words })
  unfolding by_test
  words_given h = ap by_test (fits_test words s.control.words h)

-- words that are given or given back change no more of the control
pub control_words :
    (world : World) (control : ControlOfNames) (control_kept : Control) (words : ℕ) → ControlStands world control control_kept
    → ControlStands world (record control { words = words }) control_kept
control_words world control control_kept words h =
    record { states = h.states; throws = h.throws; last = h.last; place = h.place; main = h.main; end = h.end }

-- ---- a method is entered

module _ (world : World) (method : ℕ) (program : Program) (texts : List (List ℕ)) (s t : State) (addresses : List ℕ) (frames : Frames) (control : Control) (held : Held) (blocks : Blocks)
    (h : Moves world (Entering method frames) program texts s t addresses (kept frames control held blocks)) where
  pub record HasCode : Type 0 where
    pub code : CodeSeen
    pub has_code : h.does.d.method.code ≡ Some code
    pub goes :
        within_words program.world s.memory s.frames s.control (code_words code) (entered_above program s.frames h.does.d h.does.receiver h.does.arguments h.does.memory)
        ≡ Ok t

  pub code_now : HasCode
  code_now =
      let parts =
      bound_gave (found OffsetFault h.does.d.method.code)
      (λ (code : CodeSeen). within_words program.world s.memory s.frames s.control (code_words code) (entered_above program s.frames h.does.d h.does.receiver h.does.arguments h.does.memory))
      t h.does.does in
      record { code = parts.0; has_code = found_gave OffsetFault h.does.d.method.code parts.0 parts.1; goes = parts.2 }

  pub code_is : (methods : Methods) → AreMethods world methods → IsCodeOf methods method program h.does.d code_now.code
  code_is methods are = record {
    are = subst (λ (w : World). AreMethods w methods) (sym h.world_is) are;
    at = h.does.has_number;
    has_code = code_now.has_code;
  }

  pub raises :
      SystemHasNumbers → s.control.words < code_words code_now.code
      → Moves world (Raising 21) program texts s t addresses (kept frames control held blocks)
  raises system lack = record {
    world_is = h.world_is;
    guests = h.guests;
    stands = h.stands;
    does = record {
      name = codes "java/lang/StackOverflowError";
      has_number = (numbers_in program.world h.guests system).stack_overflow;
      does =
          sym (words_lack program.world s (code_words code_now.code) (entered_above program s.frames h.does.d h.does.receiver h.does.arguments h.does.memory) lack)
          ∙ code_now.goes;
    };
  }

  pub room_for_record : code_words code_now.code ≤ s.control.words → vec_len frames.records < vec_capacity frames.records
  room_for_record fit = has_room program addresses s.frames frames s.control.words h.stands.frames (code_words code_now.code) (omega arith) fit

  pub enters :
      (after : Frames) → code_words code_now.code ≤ s.control.words → after.words ≡ frames.words
      → after.records.items ≡ frames.records.items ++ records.Runs (record { method = method; pc = 0; base = frames.top }) ∷ []
      → vec_capacity after.records ≡ vec_capacity frames.records → after.top ≡ frames.top + code_now.code.max_locals
      → after.left + code_words code_now.code ≡ frames.left
      → Reaches program texts t addresses (kept frames control held blocks) (kept after control held blocks)
  enters after fit words_are records_are capacity top_is left_is =
      let e = h.does in
      let given : ControlOfNames = record s.control { words = s.control.words - code_words code_now.code } in
      let goes : entered_above program s.frames e.d e.receiver e.arguments e.memory given ≡ Ok t =
      sym (words_given program.world s (code_words code_now.code) (entered_above program s.frames e.d e.receiver e.arguments e.memory) fit) ∙ code_now.goes in
      let parts =
      bound_gave (method_frame program e.d e.receiver e.arguments) (λ (f : MethodFrame). Ok (state_of e.memory (Runs f ∷ s.frames) given)) t goes in
      let frame = parts.0 in
      let is = same_state (state_of e.memory (Runs frame ∷ s.frames) given) t parts.2 in
      let entered = frame_entered program e.d e.receiver e.arguments frame parts.1 in
      let same : code_now.code ≡ frame.method.code =
      same_some code_now.code frame.method.code (sym code_now.has_code ∙ (is_entered program e.d frame.method entered.entered).has_code) in
      let stand =
      method_entered program addresses s.frames frames s.control.words h.stands.frames e.d (passed_values e.receiver e.arguments) frame method e.count after e.has_number entered
      e.on_top e.count_is e.within (subst (λ (c : CodeSeen). code_words c ≤ s.control.words) same fit) words_are records_are capacity
      (top_is ∙ ap (λ (c : CodeSeen). frames.top + c.max_locals) same) (ap (λ (c : CodeSeen). after.left + code_words c) (sym same) ∙ left_is) in
      subst (λ (t : State). Reaches program texts t addresses (kept frames control held blocks) (kept after control held blocks)) is
      (record {
        more = [];
        stands =
            subst (λ (l : List ℕ). StateStands program texts (state_of e.memory (Runs frame ∷ s.frames) given) l (kept after control held blocks)) (sym (append-nil addresses))
            (record {
              frames = subst (λ (c : CodeSeen). FramesStand program addresses (Runs frame ∷ s.frames) after (s.control.words - code_words c)) (sym same) stand;
              control = control_words program.world s.control control (s.control.words - code_words code_now.code) h.stands.control;
              memory = e.same_words texts held blocks h.stands.memory;
            });
        grows = grows_not addresses blocks;
      })
    where
      same_some : {A : Type 0} (x y : A) → Some x ≡ Some y → x ≡ y
      same_some x y e = cc
