-- Which methods have a receiver (JVMS 6.5).
use Rattle.std.proofs.Common.{◌≡◌, ℕ, ◌+◌, Bool, true, false, not, refl, sym, ap, ◌∙◌}
use Rattle.std.specs.Prelude.{IsTrue, ◌==◌, bit_and}
use Rattle.std.proofs.lemmas.Bool.Decides.{Decides-eqb}
use Rattle.std.proofs.lemmas.Nat.{and_assoc}
use Rattle.jv_class_structure.specs.Flags.{acc_private, acc_static}
use Rattle.jv_class.specs.Class.{Method}
use Rattle.jv_meaning_typing.specs.Uses.Use.{Invokevirtual, Invokespecial, Invokeinterface}
use Rattle.jv_meaning_typing.specs.Kind.{is_static_method, has_method_kind}

zero_test : (n : ℕ) → IsTrue (not (not (n == 0))) → n ≡ 0
zero_test n h = by_test (n == 0) refl h
  where
    by_test : (b : Bool) → (n == 0) ≡ b → IsTrue (not (not b)) → n ≡ 0
    by_test true e h = (Decides-eqb n 0).0 e
    by_test false e h = absurd cc

no_flag : (flags : ℕ) → bit_and flags (acc_static + acc_private) ≡ 0 → bit_and flags acc_static ≡ 0
no_flag flags e = sym (and_assoc acc_static flags (acc_static + acc_private)) ∙ ap (λ n. bit_and n acc_static) e

not_true : (b : Bool) → IsTrue (not b) → b ≡ false
not_true true h = absurd cc
not_true false h = refl

pub virtual_on : (m : Method) → IsTrue (has_method_kind Invokevirtual m) → is_static_method m ≡ false
virtual_on m h = not_true (is_static_method m) h

pub special_on : (m : Method) → IsTrue (has_method_kind Invokespecial m) → is_static_method m ≡ false
special_on m h = not_true (is_static_method m) h

pub interface_on : (m : Method) → IsTrue (has_method_kind Invokeinterface m) → is_static_method m ≡ false
interface_on m h = ap (λ n. not (n == 0)) (no_flag m.access_flags (zero_test (bit_and m.access_flags (acc_static + acc_private)) h))
