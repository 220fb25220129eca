-- What a call wants, by the method that its constant names.
use Rattle.std.proofs.Common.{◌≡◌, Bool, true, false, List, [], ◌∷◌, ◌++◌, ℕ, Option, Some, None, refl, sym, ap, subst, ◌∙◌}
use Rattle.std.specs.Prelude.{map, not}
use Rattle.std.specs.Borrow.{Bor}
use Rattle.std.specs.Option.{option_map, option_or}
use Rattle.std.proofs.lemmas.List.{map-append}
use Rattle.jv_format.specs.Format.{◌>>=◌}
use Rattle.jv_text.specs.Descriptor.{MethodDescriptor}
use Rattle.jv_text.specs.Name.{is_array_name}
use Rattle.jv_text.specs.Types.{method_type_of}
use Rattle.jv_pool.specs.Constants.{Entry, MemberReference, interface_method_reference_at, method_reference_at}
use Rattle.jv_stackmap.specs.Types.{FrameType, reference_type}
use Rattle.jv_stackmap.specs.Seen.{seen_type}
use Rattle.jv_code.specs.declared.kinds.Invocation.{Invocation}
use Rattle.jv_code.specs.declared.kinds.Invocation.TheVariants as invocations
use Rattle.jv_meaning_typing.specs.Environment.{Environment, current_class}
use Rattle.jv_meaning_typing.specs.Named.{MethodUse, can_be_of, method_named_by, method_use, when}
use Rattle.jv_meaning_typing.specs.Operands.{MethodConstant, MethodReference, through}
use Rattle.jv_meaning_typing.specs.Operands.MethodConstant.{Methodref, InterfaceMethodref}
use Rattle.jv_operands.specs.declared.named.MethodNamed.{MethodNamed}
use Rattle.jv_operands.specs.declared.want.Want.{Want}
use Rattle.jv_operands.specs.Seen.{seen_want}
use Rattle.jv_operands.specs.Wants.{FrameWant, interface_wants, invoke_wants, of_type, of_types, receiver_of}
use Rattle.jv_operands.specs.Inside.Listed.{as_list, receiver_by}
use Rattle.jv_operands.specs.Inside.Named.{FindsMethod, MethodShown, method_in, method_named_in, shown}

abbrev show : MethodUse → MethodShown
show m = record { name = m.reference.name; owner = m.owner; arguments = m.arguments }

both : (r : MemberReference) (c : MethodConstant) (o : Option FrameType) (d : Option MethodDescriptor)
    → option_map show (o >>= λ owner. d >>= λ descriptor. Some (method_use (through c r) owner descriptor)) ≡ (o >>= λ owner. d >>= λ of. Some (shown r.name owner of.parameters))
both r c None d = refl
both r c (Some owner) None = refl
both r c (Some owner) (Some d) = refl

-- the use of a reference
abbrev used : MethodReference → Option MethodUse
used m =
    when (can_be_of m.constant m.member.class) m >>= λ m. reference_type m.member.class >>= λ owner. method_type_of m.member.descriptor >>= λ descriptor.
    Some (method_use m owner descriptor)

by_references : (a b : Option MemberReference)
    → option_map show (option_or (option_map (through Methodref) a) (option_map (through InterfaceMethodref) b) >>= used)
    ≡ (option_or a (b >>= λ r. when (not (is_array_name r.class)) r) >>= method_in)
by_references (Some r) b = both r Methodref (reference_type r.class) (method_type_of r.descriptor)
by_references None None = refl
by_references None (Some r) = by (not (is_array_name r.class))
  where
    by : (plain : Bool)
        → option_map show (when plain (through InterfaceMethodref r) >>= λ m. reference_type m.member.class >>= λ owner.
        method_type_of m.member.descriptor >>= λ descriptor. Some (method_use m owner descriptor))
        ≡ (when plain r >>= method_in)
    by true = both r InterfaceMethodref (reference_type r.class) (method_type_of r.descriptor)
    by false = refl

pub named_by : (env : Environment) (pool : List Entry) → (current_class env).constant_pool ≡ pool → (index : ℕ)
    → method_named_in pool index ≡ option_map show (method_named_by env index)
named_by env pool same index =
    subst (λ (p : List Entry). method_named_in p index ≡ option_map show (method_named_by env index)) same
    (sym (by_references (method_reference_at (current_class env).constant_pool index) (interface_method_reference_at (current_class env).constant_pool index)))

same_receiver : (env : Environment) (how : Invocation) (m : MethodUse) → receiver_by env how m.reference.name m.owner ≡ receiver_of env how m
same_receiver env invocations.Virtual m = refl
same_receiver env invocations.Special m = refl
same_receiver env invocations.Static m = refl

joined : (list wanted : List (Want (Bor (List ℕ)))) (receiver : Option (Want (Bor (List ℕ)))) (arguments below : List FrameWant) → list ≡ wanted ++ as_list receiver
    → map seen_want wanted ≡ arguments → map seen_want (as_list receiver) ≡ below → map seen_want list ≡ arguments ++ below
joined list wanted receiver arguments below e one other =
    ap (map seen_want) e ∙ (map-append seen_want wanted (as_list receiver)
    ∙ (ap (λ (l : List FrameWant). l ++ map seen_want (as_list receiver)) one ∙ ap (λ (l : List FrameWant). arguments ++ l) other))

pub called : (env : Environment) (pool : List Entry) → (current_class env).constant_pool ≡ pool → (how : Invocation) (index : ℕ) (named : MethodNamed)
    → FindsMethod (method_named_in pool index) (Some named) → (list : List (Want (Bor (List ℕ)))) (receiver : Option (Want (Bor (List ℕ))))
    → list ≡ named.wants.items ++ as_list receiver → map seen_want (as_list receiver) ≡ receiver_by env how named.name.now (seen_type named.owner)
    → map seen_want list ≡ invoke_wants env how (method_named_by env index)
called env pool same how index named finds list receiver e on =
    by (method_named_by env index) (subst (λ (o : Option MethodShown). FindsMethod o (Some named)) (named_by env pool same index) finds)
  where
    by : (o : Option MethodUse) → FindsMethod (option_map show o) (Some named) → map seen_want list ≡ invoke_wants env how o
    by None h = absurd h
    by (Some m) h =
        joined list named.wants.items receiver (of_types m.arguments) (receiver_of env how m) e h.wants
        (on ∙ (ap (λ (n : List ℕ). receiver_by env how n (seen_type named.owner)) h.name
        ∙ (ap (λ (t : FrameType). receiver_by env how m.reference.name t) h.owner ∙ same_receiver env how m)))

pub called_above : (env : Environment) (pool : List Entry) → (current_class env).constant_pool ≡ pool → (index : ℕ) (named : MethodNamed)
    → FindsMethod (method_named_in pool index) (Some named) → (list : List (Want (Bor (List ℕ)))) (receiver : Want (Bor (List ℕ)))
    → list ≡ named.wants.items ++ as_list (Some receiver) → seen_want receiver ≡ of_type (seen_type named.owner) → map seen_want list ≡ interface_wants (method_named_by env index)
called_above env pool same index named finds list receiver e on =
    by (method_named_by env index) (subst (λ (o : Option MethodShown). FindsMethod o (Some named)) (named_by env pool same index) finds)
  where
    by : (o : Option MethodUse) → FindsMethod (option_map show o) (Some named) → map seen_want list ≡ interface_wants o
    by None h = absurd h
    by (Some m) h =
        joined list named.wants.items (Some receiver) (of_types m.arguments) (of_type m.owner ∷ []) e h.wants
        (ap (λ (w : FrameWant). w ∷ []) (on ∙ ap of_type h.owner))
