-- Loads, stores and iinc (JVMS 6.5).
use Rattle.std.proofs.Common.{◌≡◌, ℕ, ℤ, true, List, [], ◌∷◌, ◌++◌, Some, Ok, length, reverse, refl, sym, ap, subst, ◌∙◌}
use Rattle.std.specs.Int.{w32, int_wrapping_add}
use Rattle.jv_code.specs.Insns.{Instruction}
use Rattle.jv_code.specs.declared.kinds.ValueKind.{ValueKind}
use Rattle.jv_code.specs.declared.kinds.ValueKind.TheVariants as kinds
use Rattle.jv_code.specs.declared.kinds.LocalForm.{LocalForm}
use Rattle.jv_code.specs.declared.kinds.IncrementForm.{IncrementForm}
use Rattle.jv_code.specs.declared.insn.Insn.TheVariants as insns
use Rattle.jv_meaning_machine.specs.Faults.{found, tested, ◌>>=◌}
use Rattle.jv_meaning_machine.specs.Faults.Fault.{LocalFault, TagFault}
use Rattle.jv_meaning_machine.specs.Values.{Value, has_kind}
use Rattle.jv_meaning_machine.specs.Values.Value.{Int}
use Rattle.jv_meaning_machine.specs.Frames.{local_at, local_words, stored}
use Rattle.jv_meaning_machine.specs.State.{Memory}
use Rattle.jv_meaning_machine.specs.Operands.{popped}
use Rattle.jv_meaning_machine.specs.Effects.{Effect, Context, goes_on}
use Rattle.jv_meaning_machine.specs.Effects.Effect.{Goes}
use Rattle.jv_meaning_machine.specs.Arithmetic.{as_int}
use Rattle.jv_meaning_machine.specs.Instructions.{load, store, increment, goes_on_in}
use Rattle.jv_interp_words.specs.declared.registers.Registers.{Registers}
use Rattle.jv_interp_words.specs.ValuesInWords.{IsOnTop, AreOnTop}
use Rattle.jv_interp_words.specs.FramesInWords.{in_use, FrameStands}
use Rattle.jv_interp_words.specs.Inside.Locals.{HasLocals, Loads, CanLoad, Stores, CanStore, Increments, CanIncrement}
use Rattle.jv_interp_words.proofs.Gave.{bound_gave, found_gave, tested_gave, int_gave}
use Rattle.jv_interp_words.proofs.Stacks.{stack_above}
use Rattle.jv_interp_words.proofs.Stored.{stored_count}
use Rattle.jv_interp_words.proofs.Taken.{popped_gave}
use Rattle.jv_interp_words.specs.Going.{Works, CanWork, GoesOn}
use Rattle.jv_interp_words.proofs.FramesStand.{same_done, pushed, room_for}
use Rattle.jv_interp_words.proofs.Jumped.{went}
use Rattle.jv_interp_words.proofs.PushedOn.{goes_next, goes_at}

-- ---- local variables below a stack

pub record Locals (addresses : List ℕ) (locals stack : List Value) (used below : List ℕ) : Type 0 where
  pub above : List ℕ
  pub has : HasLocals addresses locals above used below
  pub moves : (others : List ℕ) → AreOnTop addresses stack (above ++ others) others

pub has_locals :
    (addresses : List ℕ) (locals stack : List Value) (used below : List ℕ) → FrameStands addresses locals stack used below
    → Locals addresses locals stack used below
has_locals addresses locals stack used below h =
    let above = stack_above addresses stack used (reverse h.words ++ below) h.stack_stands in
    record {
      above = above.front;
      has = record { words = h.words; place = above.place; stand = h.locals_stand };
      moves = above.moves;
    }

-- the stack stands on other local variables as well
pub on_locals :
    (addresses : List ℕ) (locals stack : List Value) (above used below : List ℕ) → HasLocals addresses locals above used below
    → ((others : List ℕ) → AreOnTop addresses stack (above ++ others) others) → FrameStands addresses locals stack used below
on_locals addresses locals stack above used below has moves = record {
  words = has.words;
  stack_stands =
      subst (λ (l : List ℕ). AreOnTop addresses stack l (reverse has.words ++ below)) (sym has.place) (moves (reverse has.words ++ below));
  locals_stand = has.stand;
}

-- ---- loads

pub record LoadOf (c : Context) (kind : ValueKind) (index next : ℕ) (done : Memory × Effect) : Type 0 where
  pub value : Value
  pub holds : local_at kind index c.frame.locals ≡ Ok value
  pub is : done ≡ (c.memory, Goes next c.frame.locals (value ∷ c.frame.stack))

load_does :
    (c : Context) (kind : ValueKind) (index next : ℕ) (done : Memory × Effect) → load c kind index ≡ Ok done → next ≡ c.next
    → LoadOf c kind index next done
load_does c kind index next done e at =
    let gave = bound_gave (local_at kind index c.frame.locals) (λ (value : Value). goes_on c (value ∷ c.frame.stack)) done e in
    record { value = gave.0; holds = gave.1; is = goes_next c (gave.0 ∷ c.frame.stack) done next gave.2 at }

loads_from :
    (kind : ValueKind) (index next : ℕ) (at : Registers) (c : Context) (addresses : List ℕ) (done : Memory × Effect) (used below : List ℕ)
    → FrameStands addresses c.frame.locals c.frame.stack used below → at.base ≡ length below → (l : LoadOf c kind index next done)
    → Loads kind at.base index used addresses l.value
loads_from kind index next at c addresses done used below frame base l =
    let has = has_locals addresses c.frame.locals c.frame.stack used below frame in
    record {
      locals = c.frame.locals;
      above = has.above;
      below = below;
      has = has.has;
      base_is = base;
      holds = l.holds;
    }

pub can_load :
    (kind : ValueKind) (index : ℕ) (form : LocalForm) (next : ℕ) (at : Registers) (words : List ℕ)
    → CanWork (insns.Load kind index form) next at words → CanLoad kind at.base index (in_use words at.top) (length words)
can_load kind index form next at words h =
    let l = load_does h.c kind index next h.done h.works.does h.works.next_is in
    record {
      addresses = h.addresses;
      value = l.value;
      loads = loads_from kind index next at h.c h.addresses h.done (in_use words at.top) h.below h.works.frame h.works.base_is l;
      room =
          room_for h.c h.addresses h.c.frame.stack l.value (in_use words at.top) h.below (length words) h.c.memory next h.done h.works.frame l.is
          h.room;
    }

pub load_goes :
    (kind : ValueKind) (index : ℕ) (form : LocalForm) (next : ℕ) (at after : Registers) (words words_after : List ℕ) → after.pc ≡ next
    → ((addresses : List ℕ) (value : Value) → Loads kind at.base index (in_use words at.top) addresses value
    → IsOnTop addresses value (in_use words_after after.top) (in_use words at.top))
    → GoesOn (insns.Load kind index form) next at words after words_after
load_goes kind index form next at after words words_after pc loaded = λ c addresses done below w.
    let l = load_does c kind index next done w.does w.next_is in
    went c addresses done below after words_after (l.value ∷ c.frame.stack)
    (goes_at c (l.value ∷ c.frame.stack) done next after.pc l.is pc)
    (pushed addresses c.frame.locals c.frame.stack l.value (in_use words_after after.top) (in_use words at.top) below w.frame
    (loaded addresses l.value (loads_from kind index next at c addresses done (in_use words at.top) below w.frame w.base_is l)))

-- ---- stores

pub record StoreOf (c : Context) (kind : ValueKind) (index next : ℕ) (done : Memory × Effect) : Type 0 where
  pub value : Value
  pub rest : List Value
  pub after : List Value
  pub stood : c.frame.stack ≡ value ∷ rest
  pub kind_is : has_kind kind value ≡ true
  pub stores : stored (local_words value) index c.frame.locals ≡ Some after
  pub is : done ≡ (c.memory, Goes next after rest)

goes_in :
    (c : Context) (locals stack : List Value) (done : Memory × Effect) (next : ℕ) → goes_on_in c stack locals ≡ Ok done → next ≡ c.next
    → done ≡ (c.memory, Goes next locals stack)
goes_in c locals stack done next e at =
    same_done (c.memory, Goes c.next locals stack) done (goes_on_in c stack locals) refl e
    ∙ ap (λ (n : ℕ). (c.memory, Goes n locals stack)) (sym at)

store_does :
    (c : Context) (kind : ValueKind) (index next : ℕ) (done : Memory × Effect) → store c kind index ≡ Ok done → next ≡ c.next
    → StoreOf c kind index next done
store_does c kind index next done e at =
    let top =
    bound_gave (popped c.frame.stack)
    (λ (top : Value × List Value). tested TagFault (has_kind kind top.0) top >>= λ top.
    found LocalFault (stored (local_words top.0) index c.frame.locals) >>= goes_on_in c top.1) done e in
    let same =
    bound_gave (tested TagFault (has_kind kind top.0.0) top.0)
    (λ (top : Value × List Value). found LocalFault (stored (local_words top.0) index c.frame.locals) >>= goes_on_in c top.1) done top.2 in
    let test = tested_gave TagFault (has_kind kind top.0.0) top.0 same.0 same.1 in
    let gave =
    bound_gave (found LocalFault (stored (local_words same.0.0) index c.frame.locals)) (goes_on_in c same.0.1) done same.2 in
    record {
      value = same.0.0;
      rest = same.0.1;
      after = gave.0;
      stood = popped_gave c.frame.stack top.0 top.1 ∙ ap (λ (p : Value × List Value). p.0 ∷ p.1) test.1;
      kind_is = ap (λ (p : Value × List Value). has_kind kind p.0) (sym test.1) ∙ test.0;
      stores = found_gave LocalFault (stored (local_words same.0.0) index c.frame.locals) gave.0 gave.1;
      is = goes_in c gave.0 same.0.1 done next gave.2 at;
    }

-- a store's value is on top, and the rest of the stack stands above the local variables
pub record StoreStands (c : Context) (kind : ValueKind) (base index next : ℕ) (used addresses below : List ℕ) (done : Memory × Effect) : Type 0 where
  pub store : StoreOf c kind index next done
  pub above : List ℕ
  pub stores : Stores kind base index used addresses store.after above below
  pub moves : (others : List ℕ) → AreOnTop addresses store.rest (above ++ others) others

store_stands :
    (c : Context) (kind : ValueKind) (base index next : ℕ) (used addresses below : List ℕ) (done : Memory × Effect)
    → StoreOf c kind index next done → FrameStands addresses c.frame.locals c.frame.stack used below → base ≡ length below
    → StoreStands c kind base index next used addresses below done
store_stands c kind base index next used addresses below done store frame base_is =
    let s = subst (λ (s : List Value). AreOnTop addresses s used (reverse frame.words ++ below)) store.stood frame.stack_stands in
    let has =
    has_locals addresses c.frame.locals store.rest s.0 below
    (record { words = frame.words; stack_stands = s.2; locals_stand = frame.locals_stand }) in
    record {
      store = store;
      above = has.above;
      stores = record {
        value = store.value;
        kind_is = store.kind_is;
        under = s.0;
        on_top = s.1;
        locals = c.frame.locals;
        has = has.has;
        base_is = base_is;
        stores = store.stores;
      };
      moves = has.moves;
    }

-- for each instruction that the machine executes as a store
pub can_store :
    (insn : Instruction) (kind : ValueKind) (index next : ℕ) (at : Registers) (words : List ℕ)
    → ((c : Context) (done : Memory × Effect) (below addresses : List ℕ) → Works insn next at words c addresses done below
    → store c kind index ≡ Ok done)
    → CanWork insn next at words → CanStore kind at.base index (in_use words at.top)
can_store insn kind index next at words is h =
    let s =
    store_stands h.c kind at.base index next (in_use words at.top) h.addresses h.below h.done
    (store_does h.c kind index next h.done (is h.c h.done h.below h.addresses h.works) h.works.next_is) h.works.frame h.works.base_is in
    record { addresses = h.addresses; after = s.store.after; above = s.above; below = h.below; stores = s.stores }

pub store_goes :
    (insn : Instruction) (kind : ValueKind) (index next : ℕ) (at after : Registers) (words words_after : List ℕ)
    → ((c : Context) (done : Memory × Effect) (below addresses : List ℕ) → Works insn next at words c addresses done below
    → store c kind index ≡ Ok done)
    → after.pc ≡ next
    → ((addresses : List ℕ) (locals : List Value) (above below : List ℕ)
    → Stores kind at.base index (in_use words at.top) addresses locals above below
    → HasLocals addresses locals above (in_use words_after after.top) below)
    → GoesOn insn next at words after words_after
store_goes insn kind index next at after words words_after is pc stored = λ c addresses done below w.
    let s =
    store_stands c kind at.base index next (in_use words at.top) addresses below done
    (store_does c kind index next done (is c done below addresses w) w.next_is) w.frame w.base_is in
    record {
      locals = s.store.after;
      stack = s.store.rest;
      is = s.store.is ∙ ap (λ (n : ℕ). (c.memory, Goes n s.store.after s.store.rest)) (sym pc);
      count = stored_count (local_words s.store.value) index c.frame.locals s.store.after s.store.stores;
      stand =
          on_locals addresses s.store.after s.store.rest s.above (in_use words_after after.top) below
          (stored addresses s.store.after s.above below s.stores) s.moves;
    }

-- ---- iinc

pub record IncrementOf (c : Context) (by : ℤ) (index next : ℕ) (done : Memory × Effect) : Type 0 where
  pub number : ℤ
  pub after : List Value
  pub holds : local_at kinds.Int index c.frame.locals ≡ Ok (Int number)
  pub stores : stored (Int (int_wrapping_add w32 number by) ∷ []) index c.frame.locals ≡ Some after
  pub is : done ≡ (c.memory, Goes next after c.frame.stack)

increment_does :
    (c : Context) (by : ℤ) (index next : ℕ) (done : Memory × Effect) → increment c index by ≡ Ok done → next ≡ c.next
    → IncrementOf c by index next done
increment_does c by index next done e at =
    let number =
    bound_gave (local_at kinds.Int index c.frame.locals >>= as_int)
    (λ (n : ℤ). found LocalFault (stored (Int (int_wrapping_add w32 n by) ∷ []) index c.frame.locals) >>= goes_on_in c c.frame.stack) done e in
    let value = bound_gave (local_at kinds.Int index c.frame.locals) as_int number.0 number.1 in
    let gave =
    bound_gave (found LocalFault (stored (Int (int_wrapping_add w32 number.0 by) ∷ []) index c.frame.locals)) (goes_on_in c c.frame.stack) done
    number.2 in
    record {
      number = number.0;
      after = gave.0;
      holds = value.1 ∙ ap (λ (v : Value). Ok v) (int_gave value.0 number.0 value.2);
      stores = found_gave LocalFault (stored (Int (int_wrapping_add w32 number.0 by) ∷ []) index c.frame.locals) gave.0 gave.1;
      is = goes_in c gave.0 c.frame.stack done next gave.2 at;
    }

pub record IncrementStands (c : Context) (by : ℤ) (base index next : ℕ) (used addresses below : List ℕ) (done : Memory × Effect) : Type 0 where
  pub increment : IncrementOf c by index next done
  pub above : List ℕ
  pub increments : Increments by base index used addresses increment.after above below
  pub moves : (others : List ℕ) → AreOnTop addresses c.frame.stack (above ++ others) others

increment_stands :
    (by : ℤ) (index : ℕ) (form : IncrementForm) (next : ℕ) (at : Registers) (words : List ℕ) (c : Context) (addresses : List ℕ)
    (done : Memory × Effect) (below : List ℕ) → Works (insns.Increment index by form) next at words c addresses done below
    → IncrementStands c by at.base index next (in_use words at.top) addresses below done
increment_stands by index form next at words c addresses done below w =
    let i = increment_does c by index next done w.does w.next_is in
    let has = has_locals addresses c.frame.locals c.frame.stack (in_use words at.top) below w.frame in
    record {
      increment = i;
      above = has.above;
      increments = record {
        number = i.number;
        locals = c.frame.locals;
        has = has.has;
        base_is = w.base_is;
        holds = i.holds;
        stores = i.stores;
      };
      moves = has.moves;
    }

pub can_increment :
    (by : ℤ) (index : ℕ) (form : IncrementForm) (next : ℕ) (at : Registers) (words : List ℕ)
    → CanWork (insns.Increment index by form) next at words → CanIncrement by at.base index (in_use words at.top)
can_increment by index form next at words h =
    let s = increment_stands by index form next at words h.c h.addresses h.done h.below h.works in
    record { addresses = h.addresses; after = s.increment.after; above = s.above; below = h.below; increments = s.increments }

pub increment_goes :
    (by : ℤ) (index : ℕ) (form : IncrementForm) (next : ℕ) (at after : Registers) (words words_after : List ℕ) → after.pc ≡ next
    → ((addresses : List ℕ) (locals : List Value) (above below : List ℕ)
    → Increments by at.base index (in_use words at.top) addresses locals above below
    → HasLocals addresses locals above (in_use words_after after.top) below)
    → GoesOn (insns.Increment index by form) next at words after words_after
increment_goes by index form next at after words words_after pc incremented = λ c addresses done below w.
    let s = increment_stands by index form next at words c addresses done below w in
    record {
      locals = s.increment.after;
      stack = c.frame.stack;
      is = s.increment.is ∙ ap (λ (n : ℕ). (c.memory, Goes n s.increment.after c.frame.stack)) (sym pc);
      count =
          stored_count (Int (int_wrapping_add w32 s.increment.number by) ∷ []) index c.frame.locals s.increment.after s.increment.stores;
      stand =
          on_locals addresses s.increment.after c.frame.stack s.above (in_use words_after after.top) below
          (incremented addresses s.increment.after s.above below s.increments) s.moves;
    }
