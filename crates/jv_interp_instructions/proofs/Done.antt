-- What was done on words is what the machine did.
use Rattle.std.proofs.Common.{◌≡◌, ℕ, ℤ, true, ◌+◌, List, [], ◌∷◌, ◌++◌, Option, Some, None, Ok, reverse, refl, sym, ap, subst, ◌∙◌, append-nil, append_assoc, arith}
use Rattle.jv_text.specs.declared.descriptor.FieldTypeOf.{FieldTypeOf}
use Rattle.jv_stackmap.specs.Types.{FrameType, value_type}
use Rattle.jv_code.specs.Insns.{Instruction}
use Rattle.jv_code.specs.declared.insn.Insn.TheVariants as insns
use Rattle.jv_code.specs.declared.kinds.IncrementForm.{IncrementForm}
use Rattle.jv_code.specs.declared.kinds.Test.{Test}
use Rattle.jv_code.specs.declared.kinds.ValueKind.{ValueKind}
use Rattle.jv_code.specs.declared.kinds.ValueKind.TheVariants as kinds
use Rattle.jv_meaning_typing.specs.FrameChanges.{is_of_kind}
use Rattle.jv_meaning_machine.specs.Faults.{OrFault, tested, ◌>>=◌}
use Rattle.jv_meaning_machine.specs.Faults.Fault.{ReturnFault}
use Rattle.jv_meaning_machine.specs.Values.{Value, value_words, words_of_values, has_type}
use Rattle.jv_meaning_machine.specs.State.{Memory}
use Rattle.jv_meaning_machine.specs.Operands.{taken_as}
use Rattle.jv_meaning_machine.specs.Effects.{Effect, Context, division_by_zero}
use Rattle.jv_meaning_machine.specs.Effects.Effect.{Goes, Leaves, Raises}
use Rattle.jv_meaning_machine.specs.Instructions.{return_value, return_nothing}
use Rattle.jv_interp_words.specs.declared.registers.Registers.{Registers}
use Rattle.jv_interp_words.specs.ValuesInWords.{AreOnTop}
use Rattle.jv_interp_words.specs.FramesInWords.{in_use}
use Rattle.jv_interp_words.proofs.Gave.{bound_gave, tested_gave}
use Rattle.jv_interp_words.proofs.Stacks.{stack_above}
use Rattle.jv_interp_words.proofs.Taken.{taken_gave}
use Rattle.jv_interp_heap.specs.ObjectsInBlocks.{Blocks, HasNumber}
use Rattle.jv_interp_held.specs.declared.held.Held.{Held}
use Rattle.jv_interp_held.specs.declared.effect.Effect.TheVariants as effects
use Rattle.jv_interp_heap.specs.declared.numbers.TheConstants.{ARITHMETIC}
use Rattle.jv_interp_held.specs.EffectsInWords.{EffectStands}
use Rattle.jv_interp_held.specs.HeldInWords.{MemoryStands}
use Rattle.jv_interp_heap.specs.SystemNumbers.{SystemHasNumbers}
use Rattle.jv_interp_held.specs.Executing.{place, Did}
use Rattle.jv_interp_held.proofs.Raised.{raised}
use Rattle.jv_interp_members.proofs.Putting.{taken_kind}
use Rattle.jv_interp_heap.proofs.Widths.{typed_words}
use Rattle.std.proofs.lemmas.List.Sums.{sum_by-cons}
use Rattle.jv_stackmap.specs.declared.verification.VerificationTypeOf.TheVariants as types
use Rattle.jv_interp_words.specs.Going.{Works, GoesOn, Throws as ThrowsOnWords}
use Rattle.jv_interp_instructions.specs.OnWords.{part_of, ExecutesInsn, DoneOnWords}

works_of :
    (insn : Instruction) (texts : List (List ℕ)) (next : ℕ) (at : Registers) (words : List ℕ) (held : Held) (blocks : Blocks) (c : Context)
    (addresses : List ℕ) (done : Memory × Effect) (below : List ℕ) → ExecutesInsn insn texts next (place at words held blocks) c addresses done below
    → Works insn next at words c addresses done below
works_of insn texts next at words held blocks c addresses done below h = record {
  does = h.executes.does;
  frame = h.executes.frame;
  apart = h.executes.memory.objects.are;
  base_is = h.executes.base_is;
  pc_is = h.executes.pc_is;
  next_is = h.executes.next_is;
  top_within = h.executes.top_within;
}

-- an instruction that goes on
pub went_done :
    (insn : Instruction) (next : ℕ) (at : Registers) (words : List ℕ) (after : Registers) (words_after : List ℕ)
    → GoesOn insn next at words after words_after → DoneOnWords insn next at words after words_after effects.Goes
went_done insn next at words after words_after goes texts held blocks c addresses done below h =
    let w = goes c addresses done below (works_of insn texts next at words held blocks c addresses done below h) in
    subst (λ (x : Memory × Effect). Did texts (place after words_after held blocks) effects.Goes c addresses x below) (sym w.is)
    (record {
      more = [];
      effect_stands =
          subst (λ (l : List ℕ). EffectStands c.program.world l c.frame (Goes after.pc w.locals w.stack) effects.Goes after (in_use words_after after.top) below)
          (sym (append-nil addresses)) (record { pc_is = refl; count = w.count; stand = w.stand });
      memory =
          subst (λ (l : List ℕ). MemoryStands c.program.world texts c.memory l held blocks) (sym (append-nil addresses)) h.executes.memory;
    })

-- one that throws an exception of the system's
pub arithmetic_done :
    (insn : Instruction) (next : ℕ) (at : Registers) (words : List ℕ) → ThrowsOnWords insn next at words division_by_zero
    → SystemHasNumbers → DoneOnWords insn next at words at words (effects.Raises ARITHMETIC)
arithmetic_done insn next at words throws numbers texts held blocks c addresses done below h =
    raised (part_of insn) texts next (place at words held blocks) c addresses done below h.executes division_by_zero ARITHMETIC
    (throws c addresses done below (works_of insn texts next at words held blocks c addresses done below h))
    (subst (λ world. HasNumber world division_by_zero ARITHMETIC) (sym h.guests.world_is) (numbers h.guests.given h.guests.contents).arithmetic)

-- ---- returns

module _ (insn : Instruction) (texts : List (List ℕ)) (next : ℕ) (at : Registers) (words : List ℕ) (held : Held) (blocks : Blocks) (c : Context)
    (addresses : List ℕ) (done : Memory × Effect) (below : List ℕ)
    (h : ExecutesInsn insn texts next (place at words held blocks) c addresses done below) where
  left :
      (result : List Value) (count : ℕ) (above : List ℕ) → done ≡ (c.memory, Leaves result) → count ≡ words_of_values result
      → AreOnTop addresses result (in_use words at.top) (above ++ below)
      → Did texts (place at words held blocks) (effects.Leaves count) c addresses done below
  left result count above is count_is on_top =
      subst (λ (x : Memory × Effect). Did texts (place at words held blocks) (effects.Leaves count) c addresses x below) (sym is)
      (record {
        more = [];
        effect_stands =
            subst (λ (l : List ℕ). EffectStands c.program.world l c.frame (Leaves result) (effects.Leaves count) at (in_use words at.top) below)
            (sym (append-nil addresses)) (record { words_are = count_is; above = above; on_top = on_top });
        memory =
            subst (λ (l : List ℕ). MemoryStands c.program.world texts c.memory l held blocks) (sym (append-nil addresses)) h.executes.memory;
      })

nothing_returned :
    (c : Context) (type : Option (FieldTypeOf (List ℕ))) (done : Memory × Effect) → return_nothing c type ≡ Ok done → done ≡ (c.memory, Leaves [])
nothing_returned c None done e = cc
nothing_returned c (Some type) done e = absurd cc

pub nothing_done : (next : ℕ) (at : Registers) (words : List ℕ) → DoneOnWords insns.Return next at words at words (effects.Leaves 0)
nothing_done next at words texts held blocks c addresses done below h =
    let f = h.executes.frame in
    let stack = stack_above addresses c.frame.stack (in_use words at.top) (reverse f.words ++ below) f.stack_stands in
    left insns.Return texts next at words held blocks c addresses done below h [] 0 (stack.front ++ reverse f.words)
    (nothing_returned c c.frame.method.descriptor.result done h.executes.does) refl
    (stack.place ∙ sym (append_assoc stack.front (reverse f.words) below))

abbrev pub words_of_kind : ValueKind → ℕ
words_of_kind kinds.Long = 2
words_of_kind _ = 1

kind_words : (kind : ValueKind) (t : FrameType) (v : Value) → is_of_kind kind t ≡ true → has_type t v ≡ true → value_words v ≡ words_of_kind kind
kind_words kinds.Int types.Int v e h = typed_words types.Int v h
kind_words kinds.Long types.Long v e h = typed_words types.Long v h
kind_words kinds.Reference types.Null v e h = typed_words types.Null v h
kind_words kinds.Reference (types.Class name) v e h = typed_words (types.Class name) v h
kind_words kinds.Reference (types.Array components) v e h = typed_words (types.Array components) v h
kind_words kind t v e h = absurd cc

record Returned (c : Context) (kind : ValueKind) (done : Memory × Effect) : Type 0 where
  value : Value
  rest : List Value
  stood : c.frame.stack ≡ value ∷ rest
  words : value_words value ≡ words_of_kind kind
  is : done ≡ (c.memory, Leaves (value ∷ []))

done_same : (a b : Memory × Effect) → ◌≡◌ {A = OrFault (Memory × Effect)} (Ok a) (Ok b) → b ≡ a
done_same a b e = cc

returned : (c : Context) (kind : ValueKind) (type : Option (FieldTypeOf (List ℕ))) (done : Memory × Effect) → return_value c kind type ≡ Ok done → Returned c kind done
returned c kind None done e = absurd cc
returned c kind (Some type) done e =
    let t =
    bound_gave (tested ReturnFault (is_of_kind kind (value_type type)) type)
    (λ (t : FieldTypeOf (List ℕ)). taken_as c.memory.objects (value_type t) c.frame.stack >>= λ top. Ok (c.memory, Leaves (top.0 ∷ []))) done e in
    let of_kind = tested_gave ReturnFault (is_of_kind kind (value_type type)) type t.0 t.1 in
    let top =
    bound_gave (taken_as c.memory.objects (value_type t.0) c.frame.stack) (λ (p : Value × List Value). Ok (c.memory, Leaves (p.0 ∷ []))) done t.2 in
    let kind_is : is_of_kind kind (value_type t.0) ≡ true = subst (λ (x : FieldTypeOf (List ℕ)). is_of_kind kind (value_type x) ≡ true) of_kind.1 of_kind.0 in
    record {
      value = top.0.0;
      rest = top.0.1;
      stood = taken_gave c.memory.objects (value_type t.0) c.frame.stack top.0 top.1;
      words = kind_words kind (value_type t.0) top.0.0 kind_is (taken_kind c.memory.objects (value_type t.0) c.frame.stack top.0 top.1);
      is = done_same (c.memory, Leaves (top.0.0 ∷ [])) done top.2;
    }

pub value_done :
    (kind : ValueKind) (next : ℕ) (at : Registers) (words : List ℕ) (count : ℕ) → count ≡ words_of_kind kind
    → DoneOnWords (insns.ReturnValue kind) next at words at words (effects.Leaves count)
value_done kind next at words count count_is texts held blocks c addresses done below h =
    let f = h.executes.frame in
    let r = returned c kind c.frame.method.descriptor.result done h.executes.does in
    let s = subst (λ (vs : List Value). AreOnTop addresses vs (in_use words at.top) (reverse f.words ++ below)) r.stood f.stack_stands in
    let rest = stack_above addresses r.rest s.0 (reverse f.words ++ below) s.2 in
    let sum : value_words r.value ≡ words_of_values (r.value ∷ []) = sym (sum_by-cons value_words r.value [] ∙ omega arith) in
    left (insns.ReturnValue kind) texts next at words held blocks c addresses done below h (r.value ∷ []) count (rest.front ++ reverse f.words) r.is
    (count_is ∙ sym r.words ∙ sum)
    (s.0, s.1, rest.place ∙ sym (append_assoc rest.front (reverse f.words) below))

-- ---- a number that was handed on is the same number

module _ (next : ℕ) (at : Registers) (words : List ℕ) (after : Registers) (words_after : List ℕ) where
  pub branch_again :
      (test : Test) (distance again : ℤ) → again ≡ distance → GoesOn (insns.Branch test again) next at words after words_after
      → DoneOnWords (insns.Branch test distance) next at words after words_after effects.Goes
  branch_again test distance again same goes =
      subst (λ (d : ℤ). DoneOnWords (insns.Branch test d) next at words after words_after effects.Goes) same
      (went_done (insns.Branch test again) next at words after words_after goes)

  pub branch_done_again :
      (test : Test) (distance again : ℤ) → again ≡ distance → DoneOnWords (insns.Branch test again) next at words after words_after effects.Goes
      → DoneOnWords (insns.Branch test distance) next at words after words_after effects.Goes
  branch_done_again test distance again same done =
      subst (λ (d : ℤ). DoneOnWords (insns.Branch test d) next at words after words_after effects.Goes) same done

  pub increment_again :
      (index : ℕ) (by again : ℤ) (form : IncrementForm) → again ≡ by → GoesOn (insns.Increment index again form) next at words after words_after
      → DoneOnWords (insns.Increment index by form) next at words after words_after effects.Goes
  increment_again index by again form same goes =
      subst (λ (d : ℤ). DoneOnWords (insns.Increment index d form) next at words after words_after effects.Goes) same
      (went_done (insns.Increment index again form) next at words after words_after goes)

  pub insn_again :
      (insn again : Instruction) → again ≡ insn → GoesOn again next at words after words_after
      → DoneOnWords insn next at words after words_after effects.Goes
  insn_again insn again same goes =
      subst (λ (i : Instruction). DoneOnWords i next at words after words_after effects.Goes) same (went_done again next at words after words_after goes)

pub table_again :
    (padding distances : List ℕ) (default low high a b c : ℤ) → a ≡ default → b ≡ low → c ≡ high
    → ◌≡◌ {A = Instruction} (insns.TableSwitch padding a b c distances) (insns.TableSwitch padding default low high distances)
table_again padding distances default low high a b c e f g =
    ap (λ (d : ℤ). insns.TableSwitch padding d b c distances) e ∙ ap (λ (l : ℤ). insns.TableSwitch padding default l c distances) f
    ∙ ap (λ (h : ℤ). insns.TableSwitch padding default low h distances) g
