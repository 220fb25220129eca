-- What was taken from a stack stood on its top.
use Rattle.std.proofs.Common.{◌≡◌, List, [], ◌∷◌, ◌++◌, reverse, Ok, refl, sym, ap, ◌∙◌, append_assoc}
use Rattle.std.proofs.lemmas.List.{reverse-append}
use Rattle.jv_stackmap.specs.Types.{FrameType}
use Rattle.jv_meaning_machine.specs.Faults.{OrFault, tested, ◌>>=◌}
use Rattle.jv_meaning_machine.specs.Faults.Fault.{TagFault, ConstructionFault}
use Rattle.jv_meaning_machine.specs.Values.{Value, has_type}
use Rattle.jv_meaning_machine.specs.Values.Value.{Int, Long, Null, Reference, Half, Unset}
use Rattle.jv_meaning_machine.specs.Objects.{Object, is_constructed}
use Rattle.jv_meaning_machine.specs.Operands.{object_at, usable_value, popped, popped_as, taken_as, taken_before, taken}
use Rattle.jv_interp_words.proofs.Gave.{bound_gave, tested_gave}

same_items : (a b : Value × List Value) (o : OrFault (Value × List Value)) → o ≡ Ok a → o ≡ Ok b → a.0 ∷ a.1 ≡ b.0 ∷ b.1
same_items a b o e f =
    let known : a ≡ b = cc in
    ap (λ (p : Value × List Value). p.0 ∷ p.1) known

pub popped_gave : (stack : List Value) (top : Value × List Value) → popped stack ≡ Ok top → stack ≡ top.0 ∷ top.1
popped_gave [] top e = absurd cc
popped_gave (value ∷ below) top e = same_items (value, below) top (Ok (value, below)) refl e

pub popped_as_gave : (type : FrameType) (stack : List Value) (top : Value × List Value) → popped_as type stack ≡ Ok top → stack ≡ top.0 ∷ top.1
popped_as_gave type stack top e =
    let parts = bound_gave (popped stack) (λ (p : Value × List Value). tested TagFault (has_type type p.0) p) top e in
    popped_gave stack parts.0 parts.1 ∙ ap (λ (p : Value × List Value). p.0 ∷ p.1) (tested_gave TagFault (has_type type parts.0.0) parts.0 top parts.2).1

usable_gave : (objects : List Object) (value same : Value) → usable_value objects value ≡ Ok same → value ≡ same
usable_gave objects (Int number) same e = cc
usable_gave objects (Long number) same e = cc
usable_gave objects Null same e = cc
usable_gave objects (Reference id) same e =
    let parts = bound_gave (object_at objects id) (λ (object : Object). tested ConstructionFault (is_constructed object) (Reference id)) same e in
    (tested_gave ConstructionFault (is_constructed parts.0) (Reference id) same parts.2).1
usable_gave objects Half same e = cc
usable_gave objects Unset same e = cc

pub taken_gave :
    (objects : List Object) (type : FrameType) (stack : List Value) (top : Value × List Value) → taken_as objects type stack ≡ Ok top
    → stack ≡ top.0 ∷ top.1
taken_gave objects type stack top e =
    let parts =
    bound_gave (popped_as type stack) (λ (p : Value × List Value). usable_value objects p.0 >>= λ value. Ok (value, p.1)) top e in
    let inner = bound_gave (usable_value objects parts.0.0) (λ (value : Value). Ok (value, parts.0.1)) top parts.2 in
    popped_as_gave type stack parts.0 parts.1
    ∙ ap (λ (v : Value). v ∷ parts.0.1) (usable_gave objects parts.0.0 inner.0 inner.1)
    ∙ same_items (inner.0, parts.0.1) top (Ok (inner.0, parts.0.1)) refl inner.2

joined : (a b : List Value × List Value) (o : OrFault (List Value × List Value)) → o ≡ Ok a → o ≡ Ok b → reverse a.0 ++ a.1 ≡ reverse b.0 ++ b.1
joined a b o e f =
    let same : a ≡ b = cc in
    ap (λ (p : List Value × List Value). reverse p.0 ++ p.1) same

put_before : (values : List Value) (value : Value) (below : List Value) → reverse values ++ (value ∷ below) ≡ reverse (value ∷ values) ++ below
put_before values value below =
    sym (append_assoc (reverse values) (value ∷ []) below)
    ∙ ap (λ (l : List Value). l ++ below) (sym (reverse-append (value ∷ []) values))

before_gave :
    (objects : List Object) (values : List Value) (types : List FrameType) (stack : List Value) (operands : List Value × List Value)
    → taken_before objects values types stack ≡ Ok operands → reverse values ++ stack ≡ reverse operands.0 ++ operands.1
before_gave objects values [] stack operands e = joined (values, stack) operands (Ok (values, stack)) refl e
before_gave objects values (type ∷ more) stack operands e =
    let parts =
    bound_gave (taken_as objects type stack) (λ (top : Value × List Value). taken_before objects (top.0 ∷ values) more top.1) operands e in
    ap (λ (l : List Value). reverse values ++ l) (taken_gave objects type stack parts.0 parts.1)
    ∙ put_before values parts.0.0 parts.0.1
    ∙ before_gave objects (parts.0.0 ∷ values) more parts.0.1 operands parts.2

-- the values, the last one on top, and what is below them
pub all_taken :
    (objects : List Object) (types : List FrameType) (stack : List Value) (operands : List Value × List Value)
    → taken objects types stack ≡ Ok operands → stack ≡ reverse operands.0 ++ operands.1
all_taken objects types stack operands e = before_gave objects [] (reverse types) stack operands e
