-- What was taken from the stack stood on its top.
use Rattle.std.proofs.Common.{◌≡◌, ◌+◌, ℤ, List, [], ◌∷◌, length, reverse, Ok, refl, ap, ◌∙◌, arith}
use Rattle.std.proofs.lemmas.List.{length-reverse}
use Rattle.jv_stackmap.specs.Types.{FrameType}
use Rattle.jv_meaning_machine.specs.Faults.{OrFault, tested, ◌>>=◌}
use Rattle.jv_meaning_machine.specs.Faults.Fault.{TagFault, ConstructionFault}
use Rattle.jv_meaning_machine.specs.Values.{Value, has_type}
use Rattle.jv_meaning_machine.specs.Values.Value.{Int, Long, Null, Reference, Half, Unset}
use Rattle.jv_meaning_machine.specs.Objects.{Object, is_constructed}
use Rattle.jv_meaning_machine.specs.Operands.{object_at, usable_value, popped, popped_as, taken_as, taken_before, taken}
use Rattle.jv_meaning_machine.specs.Arithmetic.{as_int}
use Rattle.jv_meaning_machine.proofs.Leading.{Leads, leaf, bound, bound_gave, tested_gave}

same_items : (a b : Value × List Value) (o : OrFault (Value × List Value)) → o ≡ Ok a → o ≡ Ok b → a.0 ∷ a.1 ≡ b.0 ∷ b.1
same_items a b o e f =
    let known : a ≡ b = cc in
    ap (λ (p : Value × List Value). p.0 ∷ p.1) known

popped_gave : (stack : List Value) (top : Value × List Value) → popped stack ≡ Ok top → stack ≡ top.0 ∷ top.1
popped_gave [] top e = absurd cc
popped_gave (value ∷ below) top e = same_items (value, below) top (Ok (value, below)) refl e

pub popped_as_gave :
    (type : FrameType) (stack : List Value) (top : Value × List Value) → popped_as type stack ≡ Ok top → stack ≡ top.0 ∷ top.1
popped_as_gave type stack top e =
    let parts = bound_gave (popped stack) (λ (p : Value × List Value). tested TagFault (has_type type p.0) p) top e in
    popped_gave stack parts.0 parts.1
    ∙ ap (λ (p : Value × List Value). p.0 ∷ p.1) (tested_gave TagFault (has_type type parts.0.0) parts.0 top parts.2).1

usable_gave : (objects : List Object) (value same : Value) → usable_value objects value ≡ Ok same → value ≡ same
usable_gave objects (Int number) same e = cc
usable_gave objects (Long number) same e = cc
usable_gave objects Null same e = cc
usable_gave objects (Reference id) same e =
    let parts =
    bound_gave (object_at objects id) (λ (object : Object). tested ConstructionFault (is_constructed object) (Reference id)) same e in
    (tested_gave ConstructionFault (is_constructed parts.0) (Reference id) same parts.2).1
usable_gave objects Half same e = cc
usable_gave objects Unset same e = cc

pub taken_gave :
    (objects : List Object) (type : FrameType) (stack : List Value) (top : Value × List Value) → taken_as objects type stack ≡ Ok top
    → stack ≡ top.0 ∷ top.1
taken_gave objects type stack top e =
    let parts =
    bound_gave (popped_as type stack) (λ (p : Value × List Value). usable_value objects p.0 >>= λ value. Ok (value, p.1)) top e in
    let inner = bound_gave (usable_value objects parts.0.0) (λ (value : Value). Ok (value, parts.0.1)) top parts.2 in
    popped_as_gave type stack parts.0 parts.1
    ∙ ap (λ (v : Value). v ∷ parts.0.1) (usable_gave objects parts.0.0 inner.0 inner.1)
    ∙ same_items (inner.0, parts.0.1) top (Ok (inner.0, parts.0.1)) refl inner.2

pub int_gave : (value : Value) (number : ℤ) → as_int value ≡ Ok number → value ≡ Int number
int_gave (Int known) number e = cc
int_gave (Long known) number e = absurd cc
int_gave Null number e = absurd cc
int_gave (Reference id) number e = absurd cc
int_gave Half number e = absurd cc
int_gave Unset number e = absurd cc

-- ---- one item, or as many as there are types

pub record IsOne (stack : List Value) (operands : List Value × List Value) : Type 0 where
  pub first : Value
  pub is : operands.0 ≡ first ∷ []
  pub stood : stack ≡ first ∷ operands.1

pub one_taken :
    (objects : List Object) (type : FrameType) (stack : List Value)
    → Leads (List Value × List Value) (IsOne stack) (taken objects (type ∷ []) stack)
one_taken objects type stack =
    bound (taken_as objects type stack) (λ top. Ok (top.0 ∷ [], top.1))
    (λ top e. leaf (IsOne stack) (top.0 ∷ [], top.1) (record { first = top.0; is = refl; stood = taken_gave objects type stack top e }))

counted : (a b : List Value × List Value) (o : OrFault (List Value × List Value)) → o ≡ Ok a → o ≡ Ok b → length b.0 ≡ length a.0
counted a b o e f = let same : b ≡ a = cc in ap (λ (p : List Value × List Value). length p.0) same

count_before :
    (objects : List Object) (values : List Value) (types : List FrameType) (stack : List Value) (operands : List Value × List Value)
    → taken_before objects values types stack ≡ Ok operands → length operands.0 ≡ length values + length types
count_before objects values [] stack operands e =
    let same : length operands.0 ≡ length values = counted (values, stack) operands (Ok (values, stack)) refl e in
    omega arith
count_before objects values (type ∷ more) stack operands e =
    let parts =
    bound_gave (taken_as objects type stack) (λ (top : Value × List Value). taken_before objects (top.0 ∷ values) more top.1) operands e in
    let rest : length operands.0 ≡ length (parts.0.0 ∷ values) + length more =
    count_before objects (parts.0.0 ∷ values) more parts.0.1 operands parts.2 in
    omega (arith, rest)

pub taken_count :
    (objects : List Object) (types : List FrameType) (stack : List Value) (operands : List Value × List Value)
    → taken objects types stack ≡ Ok operands
    → length operands.0 ≡ length types
taken_count objects types stack operands e =
    let known : length operands.0 ≡ length {A = Value} [] + length (reverse types) =
    count_before objects [] (reverse types) stack operands e in
    omega (arith, known, length-reverse {A = FrameType})
