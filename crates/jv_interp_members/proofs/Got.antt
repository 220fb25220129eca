-- What getfield does in the machine, and where the value stands that it gets.
use Rattle.std.proofs.Common.{◌≡◌, ℕ, List, ◌∷◌, Some, Ok, ap, ◌∙◌, slice_get}
use Rattle.jv_meaning_world.specs.LookUps.{DeclaredField}
use Rattle.jv_meaning_machine.specs.Faults.{OrFault, found, ◌>>=◌}
use Rattle.jv_meaning_machine.specs.Faults.Fault.{ReferenceFault}
use Rattle.jv_meaning_machine.specs.Values.{Value}
use Rattle.jv_meaning_machine.specs.Values.Value.{Reference}
use Rattle.jv_meaning_machine.specs.Objects.{key_of, value_at, Object, Instance}
use Rattle.jv_meaning_machine.specs.Objects.Object.{InstanceOf, ArrayWith}
use Rattle.jv_meaning_machine.specs.State.{Memory}
use Rattle.jv_meaning_machine.specs.Operands.{object_at, taken_reference}
use Rattle.jv_meaning_machine.specs.Effects.{Effect, Context, goes_on}
use Rattle.jv_meaning_machine.specs.Effects.Effect.{Goes}
use Rattle.jv_meaning_machine.specs.Fields.{instance_in, get_field_of, get_field}
use Rattle.jv_meaning_typing.specs.Named.{object_class_type}
use Rattle.jv_interp_words.proofs.Gave.{bound_gave, found_gave}
use Rattle.jv_interp_words.proofs.Taken.{taken_gave}

pub some_same : {A : Type 0} (x y : A) → Some x ≡ Some y → x ≡ y
some_same x y e = cc

pub done_same : (a b : Memory × Effect) → ◌≡◌ {A = OrFault (Memory × Effect)} (Ok a) (Ok b) → b ≡ a
done_same a b e = cc

-- ---- an object by its number

pub instance_gave : (object : Object) (instance : Instance) → instance_in object ≡ Ok instance → object ≡ InstanceOf instance
instance_gave (InstanceOf known) instance e = cc
instance_gave (ArrayWith components values) instance e = absurd cc

pub record HasInstance (objects : List Object) (id : ℕ) (instance : Instance) : Type 0 where
  pub there : slice_get objects id ≡ Some (InstanceOf instance)

pub instance_there : (objects : List Object) (id : ℕ) (instance : Instance) → (object_at objects id >>= instance_in) ≡ Ok instance → HasInstance objects id instance
instance_there objects id instance e =
    let object = bound_gave (object_at objects id) instance_in instance e in
    record { there = found_gave ReferenceFault (slice_get objects id) object.0 object.1 ∙ ap Some (instance_gave object.0 instance object.2) }

-- ---- what getfield does

-- of an object
pub record GotOf (c : Context) (d : DeclaredField) (id : ℕ) (below : List Value) (done : Memory × Effect) : Type 0 where
  pub instance : Instance
  pub there : slice_get c.memory.objects id ≡ Some (InstanceOf instance)
  pub value : Value
  pub holds : value_at (key_of d) instance.fields ≡ Some value
  pub is : done ≡ (c.memory, Goes c.next c.frame.locals (value ∷ below))

pub got_of : (c : Context) (d : DeclaredField) (id : ℕ) (below : List Value) (done : Memory × Effect) → get_field_of c d (Reference id) below ≡ Ok done → GotOf c d id below done
got_of c d id below done e =
    let instance =
    bound_gave (object_at c.memory.objects id >>= instance_in)
    (λ (i : Instance). found ReferenceFault (value_at (key_of d) i.fields) >>= λ value. goes_on c (value ∷ below)) done e in
    let value = bound_gave (found ReferenceFault (value_at (key_of d) instance.0.fields)) (λ (v : Value). goes_on c (v ∷ below)) done instance.2 in
    record {
      instance = instance.0;
      there = (instance_there c.memory.objects id instance.0 instance.1).there;
      value = value.0;
      holds = found_gave ReferenceFault (value_at (key_of d) instance.0.fields) value.0 value.1;
      is = done_same (c.memory, Goes c.next c.frame.locals (value.0 ∷ below)) done value.2;
    }

-- what is on top, and what is done with it
pub record TakesTop (c : Context) (d : DeclaredField) (done : Memory × Effect) : Type 0 where
  pub reference : Value
  pub rest : List Value
  pub stood : c.frame.stack ≡ reference ∷ rest
  pub does : get_field_of c d reference rest ≡ Ok done

pub takes_top : (c : Context) (d : DeclaredField) (done : Memory × Effect) → get_field c d ≡ Ok done → TakesTop c d done
takes_top c d done e =
    let top =
    bound_gave (taken_reference c.memory.objects c.frame.stack) (λ (t : Value × List Value). get_field_of c d t.0 t.1) done e in
    record {
      reference = top.0.0;
      rest = top.0.1;
      stood = taken_gave c.memory.objects object_class_type c.frame.stack top.0 top.1;
      does = top.2;
    }
