-- athrow on words: what the machine does stands afterwards.
use Rattle.std.proofs.Common.{◌≡◌, ℕ, ◌-◌, Bool, true, List, [], ◌∷◌, ◌++◌, Ok, get_or, reverse, refl, sym, ap, subst, ◌∙◌}
use Rattle.std.specs.Prelude.{codes}
use Rattle.jv_code.specs.declared.insn.Insn.TheVariants as insns
use Rattle.jv_meaning_world.specs.World.{World}
use Rattle.jv_meaning_typing.specs.Named.{class_components, throwable_type}
use Rattle.jv_meaning_machine.specs.Faults.{tested, ◌>>=◌}
use Rattle.jv_meaning_machine.specs.Faults.Fault.{ReferenceFault}
use Rattle.jv_meaning_machine.specs.Values.{Value, is_reference_value}
use Rattle.jv_meaning_machine.specs.Values.Value.{Int, Long, Null, Reference, Half, Unset}
use Rattle.jv_meaning_machine.specs.Objects.{Object, is_instance_of}
use Rattle.jv_meaning_machine.specs.State.{Memory}
use Rattle.jv_meaning_machine.specs.Operands.{object_at, taken}
use Rattle.jv_meaning_machine.specs.Effects.{Effect, Context, Outcome, world_at, null_pointer}
use Rattle.jv_meaning_machine.specs.Effects.Effect.{Throws, Raises}
use Rattle.jv_meaning_machine.specs.Arithmetic.{one}
use Rattle.jv_meaning_machine.specs.Instructions.{throw_value, execute}
use Rattle.jv_interp_words.proofs.Gave.{bound_gave, one_gave}
use Rattle.jv_interp_words.proofs.Taken.{all_taken}
use Rattle.jv_interp_heap.specs.ObjectsInBlocks.{HasNumber}
use Rattle.jv_interp_held.specs.declared.effect.Effect.TheVariants as effects
use Rattle.jv_interp_held.specs.Executing.{Place, Did}
use Rattle.jv_interp_heap.proofs.Numbered.{system_numbers}
use Rattle.jv_interp_held.proofs.Raised.{raised}
use Rattle.jv_interp_held.proofs.Entered.{done_same}
use Rattle.jv_interp_held.proofs.Entered.{thrown}
use Rattle.jv_interp_objects.specs.Throwing.{Throwing}
use Rattle.jv_interp_objects.proofs.TopReference.{OnTop, reference_on_top}

-- ---- what the machine does

pub record TakesThrown (c : Context) (done : Memory × Effect) : Type 0 where
  pub value : Value
  pub rest : List Value
  pub stood : c.frame.stack ≡ value ∷ rest
  pub does : throw_value c value ≡ Ok done

takes_thrown : (c : Context) (done : Memory × Effect) → execute c insns.Throw ≡ Ok done → TakesThrown c done
takes_thrown c done e =
    let operands =
    bound_gave (taken c.memory.objects (throwable_type ∷ []) c.frame.stack)
    (λ (o : List Value × List Value). one o.0 >>= throw_value c) done e in
    let value = bound_gave (one operands.0.0) (throw_value c) done operands.2 in
    record {
      value = value.0;
      rest = operands.0.1;
      stood =
          all_taken c.memory.objects (throwable_type ∷ []) c.frame.stack operands.0 operands.1
          ∙ ap (λ (l : List Value). reverse l ++ operands.0.1) (one_gave operands.0.0 value.0 value.1);
      does = value.2;
    }

throws_reference : (c : Context) (done : Memory × Effect) (v : Value) → throw_value c v ≡ Ok done → is_reference_value v ≡ true
throws_reference c done Null e = refl
throws_reference c done (Reference id) e = refl
throws_reference c done (Int n) e = absurd cc
throws_reference c done (Long n) e = absurd cc
throws_reference c done Half e = absurd cc
throws_reference c done Unset e = absurd cc

throws_object : (c : Context) (done : Memory × Effect) (id : ℕ) → throw_value c (Reference id) ≡ Ok done → done ≡ (c.memory, Throws id)
throws_object c done id e =
    let passes : Object → Bool = λ o. is_instance_of (world_at c) o (class_components (codes "java/lang/Throwable")) in
    let object =
    bound_gave (object_at c.memory.objects id)
    (λ (o : Object). tested ReferenceFault (passes o) o >>= λ p. Ok (c.memory, Throws id)) done e in
    let kept =
    bound_gave (tested ReferenceFault (passes object.0) object.0) (λ (p : Object). Ok (c.memory, Throws id)) done object.2 in
    done_same (c.memory, Throws id) done kept.2

-- ---- in words

module _ (next : ℕ) (here : Place) (texts : List (List ℕ)) (c : Context) (addresses : List ℕ) (done : Memory × Effect) (below : List ℕ)
    (h : Throwing next here texts c addresses done below) where
  abbrev part : Context → Outcome
  part = λ c. execute c insns.Throw

  pub it : TakesThrown c done
  it = takes_thrown c done h.executes.does

  pub top : OnTop addresses c.frame.locals it.value it.rest here.words here.at.top below
  top =
      reference_on_top addresses c.frame.locals c.frame.stack it.value it.rest here.words here.at.top below h.executes.memory.objects.are
      h.executes.frame it.stood (throws_reference c done it.value it.does) h.executes.top_within

  pub null_raises : get_or here.words (here.at.top - 1) 0 ≡ 0 → Did texts here (effects.Raises 15) c addresses done below
  null_raises zero_is =
      raised part texts next here c addresses done below h.executes null_pointer 15
      (done_same (c.memory, Raises null_pointer) done
      (subst (λ (v : Value). throw_value c v ≡ Ok done) (top.null zero_is) it.does))
      (subst (λ (w : World). HasNumber w null_pointer 15) (sym h.guests.world_is) (system_numbers h.guests.given h.guests.contents).null_pointer)

  pub object_thrown :
      (get_or here.words (here.at.top - 1) 0 ≡ 0 → ⊥)
      → Did texts here (effects.Throws (get_or here.words (here.at.top - 1) 0)) c addresses done below
  object_thrown other =
      let r = top.refers other in
      thrown part texts next here c addresses done below h.executes r.id (get_or here.words (here.at.top - 1) 0)
      (throws_object c done r.id (subst (λ (v : Value). throw_value c v ≡ Ok done) r.is it.does)) r.at
