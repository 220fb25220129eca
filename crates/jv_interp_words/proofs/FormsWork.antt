-- The forms of the stack (JVMS 6.5, pop to swap).
use Rattle.std.proofs.Common.{◌≡◌, ℕ, ◌+◌, ◌≤◌, true, nat_le, List, ◌++◌, Some, Ok, length, reverse, ap, subst, ◌∙◌, arith}
use Rattle.std.proofs.lemmas.Grind.{common_steps}
use Rattle.jv_code.specs.declared.kinds.StackForm.{StackForm}
use Rattle.jv_code.specs.declared.insn.Insn.TheVariants as insns
use Rattle.jv_meaning_typing.specs.StackForms.{taken_words, passed_words, arranged, rearranged}
use Rattle.jv_meaning_machine.specs.Faults.{found, tested, ◌>>=◌}
use Rattle.jv_meaning_machine.specs.Faults.Fault.{StackFault, TagFault}
use Rattle.jv_meaning_machine.specs.Values.{Value, value_width, words_of_values}
use Rattle.jv_meaning_machine.specs.State.{Memory}
use Rattle.jv_meaning_machine.specs.Effects.{Effect, Context, goes_on}
use Rattle.jv_meaning_machine.specs.Effects.Effect.{Goes}
use Rattle.jv_meaning_machine.specs.Instructions.{has_words, move_words}
use Rattle.jv_interp_words.specs.declared.registers.Registers.{Registers}
use Rattle.jv_interp_words.specs.FramesInWords.{in_use, FrameStands}
use Rattle.jv_interp_words.specs.Inside.Forms.{Rearranges, added_words}
use Rattle.jv_interp_words.proofs.Gave.{bound_gave, found_gave, tested_gave}
use Rattle.jv_interp_words.proofs.InUse.{length-in_use}
use Rattle.jv_interp_words.proofs.Moved.{stack_moves, stack_moved, form_fits}
use Rattle.jv_interp_words.specs.Going.{CanWork, HasRoom, GoesOn}
use Rattle.jv_interp_words.proofs.FramesStand.{stack_length, frame_length}
use Rattle.jv_interp_words.proofs.Jumped.{went}
use Rattle.jv_interp_words.proofs.PushedOn.{goes_next, goes_at}

fits : (a b : ℕ) → nat_le a b ≡ true → a ≤ b
fits a b e = grind (arith, common_steps)

pub record FormOf (c : Context) (form : StackForm) (next : ℕ) (done : Memory × Effect) : Type 0 where
  pub after : List Value
  pub some : taken_words form + passed_words form ≤ words_of_values c.frame.stack
  pub moves : rearranged value_width form c.frame.stack ≡ Some after
  pub is : done ≡ (c.memory, Goes next c.frame.locals after)

form_does :
    (c : Context) (form : StackForm) (next : ℕ) (done : Memory × Effect) → move_words c form ≡ Ok done → next ≡ c.next
    → FormOf c form next done
form_does c form next done e at =
    let stack =
    bound_gave (tested StackFault (has_words form c.frame.stack) c.frame.stack)
    (λ (stack : List Value). found TagFault (rearranged value_width form stack) >>= goes_on c) done e in
    let test = tested_gave StackFault (has_words form c.frame.stack) c.frame.stack stack.0 stack.1 in
    let gave = bound_gave (found TagFault (rearranged value_width form stack.0)) (goes_on c) done stack.2 in
    record {
      after = gave.0;
      some = fits (taken_words form + passed_words form) (words_of_values c.frame.stack) test.0;
      moves =
          ap (λ (s : List Value). rearranged value_width form s) test.1
          ∙ found_gave TagFault (rearranged value_width form stack.0) gave.0 gave.1;
      is = goes_next c gave.0 done next gave.2 at;
    }

pub form_some :
    (form : StackForm) (next : ℕ) (at : Registers) (words : List ℕ) → CanWork (insns.Stack form) next at words
    → taken_words form + passed_words form ≤ at.top
form_some form next at words h =
    let f = form_does h.c form next h.done h.works.does h.works.next_is in
    let size =
    stack_length h.addresses h.c.frame.stack (in_use words at.top) (reverse h.works.frame.words ++ h.below) h.works.frame.stack_stands in
    omega (arith, f.some, size, length-in_use words at.top h.works.top_within)

pub form_room :
    (form : StackForm) (next : ℕ) (at : Registers) (words : List ℕ) → CanWork (insns.Stack form) next at words
    → at.top + added_words form ≤ length words
form_room form next at words h =
    let f = form_does h.c form next h.done h.works.does h.works.next_is in
    let frame = h.works.frame in
    let m =
    stack_moves h.addresses form h.c.frame.stack f.after (in_use words at.top) (reverse frame.words ++ h.below) frame.stack_stands f.moves in
    let after : FrameStands h.addresses h.c.frame.locals f.after (arranged form m.taken m.passed ++ m.under) h.below =
    record { words = frame.words; stack_stands = m.stand; locals_stand = frame.locals_stand } in
    let room : length h.below + length h.c.frame.locals + words_of_values f.after ≤ length words =
    subst (λ (d : Memory × Effect). HasRoom h.c h.below (length words) d) f.is h.room in
    let behind : length (arranged form m.taken m.passed ++ m.under) ≤ length words =
    omega (arith, room, frame_length h.addresses h.c.frame.locals f.after (arranged form m.taken m.passed ++ m.under) h.below after) in
    let size = length-in_use words at.top h.works.top_within in
    let before : length (m.taken ++ (m.passed ++ m.under)) ≤ length words = omega (arith, ap length m.place, size, h.works.top_within) in
    let all = form_fits form m.taken m.passed m.under (length words) m.taken_count m.passed_count before behind in
    omega (arith, all, ap length m.place, size)

pub form_goes :
    (form : StackForm) (next : ℕ) (at after : Registers) (words words_after : List ℕ) → after.pc ≡ next
    → Rearranges form (in_use words at.top) (in_use words_after after.top) → GoesOn (insns.Stack form) next at words after words_after
form_goes form next at after words words_after pc moved = λ c addresses done below w.
    let f = form_does c form next done w.does w.next_is in
    went c addresses done below after words_after f.after
    (goes_at c f.after done next after.pc f.is pc)
    (record {
      words = w.frame.words;
      stack_stands =
          stack_moved addresses form c.frame.stack f.after (in_use words at.top) (in_use words_after after.top)
          (reverse w.frame.words ++ below) w.frame.stack_stands f.moves moved;
      locals_stand = w.frame.locals_stand;
    })
