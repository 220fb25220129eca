-- What loads from arrays do in the machine, inverted.
use Rattle.std.proofs.Common.{◌≡◌, ℕ, ℤ, pos, negsuc, ◌<◌, ◌≤◌, Bool, true, List, ◌∷◌, Some, None, Ok, length, refl, ap, ◌∙◌, arith, slice_get}
use Rattle.std.specs.Int.{w32, cast_signed}
use Rattle.std.proofs.lemmas.Int.{to_z_pos}
use Rattle.std.proofs.lemmas.Option.{slice_get_past}
use Rattle.jv_text.specs.declared.descriptor.FieldTypeOf.{FieldTypeOf}
use Rattle.jv_stackmap.specs.declared.verification.VerificationTypeOf.TheVariants as types
use Rattle.jv_meaning_typing.specs.Named.{object_class_type}
use Rattle.jv_meaning_machine.specs.Faults.{OrFault, tested, ◌>>=◌}
use Rattle.jv_meaning_machine.specs.Faults.Fault.{ReferenceFault}
use Rattle.jv_meaning_machine.specs.Values.{Value}
use Rattle.jv_meaning_machine.specs.Values.Value.{Int, Reference}
use Rattle.jv_meaning_machine.specs.Objects.{Object}
use Rattle.jv_meaning_machine.specs.Objects.Object.{InstanceOf, ArrayWith}
use Rattle.jv_meaning_machine.specs.State.{Memory}
use Rattle.jv_meaning_machine.specs.Operands.{object_at, taken_as, taken_reference}
use Rattle.jv_meaning_machine.specs.Effects.{Effect, Context}
use Rattle.jv_meaning_machine.specs.Arithmetic.{as_int}
use Rattle.jv_meaning_machine.specs.Arrays.{Components, array_in, at_place, load_at, load_from, load_component}
use Rattle.jv_interp_words.proofs.Gave.{bound_gave, found_gave, tested_gave, int_gave}
use Rattle.jv_interp_words.proofs.Taken.{taken_gave}

pub done_same : (a b : Memory × Effect) → ◌≡◌ {A = OrFault (Memory × Effect)} (Ok a) (Ok b) → b ≡ a
done_same a b e = cc

pub array_gave : (object : Object) (array : Components) → array_in object ≡ Ok array → object ≡ ArrayWith array.0 array.1
array_gave (ArrayWith components values) array e = cc
array_gave (InstanceOf instance) array e = absurd cc

pub record HasArray (objects : List Object) (id : ℕ) (array : Components) : Type 0 where
  pub there : slice_get objects id ≡ Some (ArrayWith array.0 array.1)

pub array_there : (objects : List Object) (id : ℕ) (array : Components) → (object_at objects id >>= array_in) ≡ Ok array → HasArray objects id array
array_there objects id array e =
    let object = bound_gave (object_at objects id) array_in array e in
    record { there = found_gave ReferenceFault (slice_get objects id) object.0 object.1 ∙ ap Some (array_gave object.0 array object.2) }

-- ---- loads

pub record TakesBoth (c : Context) (test : FieldTypeOf (List ℕ) → Bool) (done : Memory × Effect) : Type 0 where
  pub index : ℤ
  pub array : Value
  pub rest : List Value
  pub stood : c.frame.stack ≡ Int index ∷ array ∷ rest
  pub does : load_from c test index array rest ≡ Ok done

pub takes_both : (c : Context) (test : FieldTypeOf (List ℕ) → Bool) (done : Memory × Effect) → load_component c test ≡ Ok done → TakesBoth c test done
takes_both c test done e =
    let top =
    bound_gave (taken_as c.memory.objects types.Int c.frame.stack)
    (λ (t : Value × List Value). as_int t.0 >>= λ index. taken_reference c.memory.objects t.1 >>= λ under. load_from c test index under.0 under.1) done e in
    let index =
    bound_gave (as_int top.0.0) (λ (n : ℤ). taken_reference c.memory.objects top.0.1 >>= λ under. load_from c test n under.0 under.1) done top.2 in
    let under =
    bound_gave (taken_reference c.memory.objects top.0.1) (λ (u : Value × List Value). load_from c test index.0 u.0 u.1) done index.2 in
    record {
      index = index.0;
      array = under.0.0;
      rest = under.0.1;
      stood =
          taken_gave c.memory.objects types.Int c.frame.stack top.0 top.1
          ∙ ap (λ (v : Value). v ∷ top.0.1) (int_gave top.0.0 index.0 index.1)
          ∙ ap (λ (l : List Value). Int index.0 ∷ l) (taken_gave c.memory.objects object_class_type top.0.1 under.0 under.1);
      does = under.2;
    }

pub record LoadOf (c : Context) (test : FieldTypeOf (List ℕ) → Bool) (index : ℤ) (id : ℕ) (rest : List Value) (done : Memory × Effect) : Type 0 where
  pub components : FieldTypeOf (List ℕ)
  pub values : List Value
  pub there : slice_get c.memory.objects id ≡ Some (ArrayWith components values)
  pub passes : test components ≡ true
  pub does : load_at c rest (at_place index values) ≡ Ok done

pub load_of :
    (c : Context) (test : FieldTypeOf (List ℕ) → Bool) (index : ℤ) (id : ℕ) (rest : List Value) (done : Memory × Effect)
    → load_from c test index (Reference id) rest ≡ Ok done → LoadOf c test index id rest done
load_of c test index id rest done e =
    let array =
    bound_gave (object_at c.memory.objects id >>= array_in)
    (λ (a : Components). tested ReferenceFault (test a.0) a >>= λ a. load_at c rest (at_place index a.1)) done e in
    let passed =
    bound_gave (tested ReferenceFault (test array.0.0) array.0) (λ (a : Components). load_at c rest (at_place index a.1)) done array.2 in
    let kept = tested_gave ReferenceFault (test array.0.0) array.0 passed.0 passed.1 in
    record {
      components = array.0.0;
      values = array.0.1;
      there = (array_there c.memory.objects id array.0 array.1).there;
      passes = kept.0;
      does = ap (λ (a : Components). load_at c rest (at_place index a.1)) kept.1 ∙ passed.2;
    }

-- ---- an index by its word

pub index_within : (word : ℕ) (values : List Value) (index : ℤ) → index ≡ cast_signed w32 word → length values < 2147483648 → word < length values → at_place index values ≡ slice_get values word
index_within word values index is few within =
    let small : cast_signed w32 word ≡ pos word = to_z_pos w32 word (omega (arith, few, within)) in
    ap (λ (n : ℤ). at_place n values) (is ∙ small)

pub index_outside : (word : ℕ) (values : List Value) (index : ℤ) → index ≡ cast_signed w32 word → length values ≤ word → at_place index values ≡ None
index_outside word values index is outside = by_sign index is
  where
    by_sign : (n : ℤ) → n ≡ cast_signed w32 word → at_place n values ≡ None
    by_sign (negsuc n) e = refl
    by_sign (pos n) e = slice_get_past values n (let same : n ≡ word = positive n e in omega (arith, outside, same))
      where
        positive : (n : ℕ) → pos n ≡ cast_signed w32 word → n ≡ word
        positive n e = grind (arith, e)
