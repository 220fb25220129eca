-- A step of resolution, and what goes on with its answer.
use Rattle.std.proofs.Common.{◌≡◌, refl, Option, Some, None, Ok, Err, sym, ap, ◌∙◌}
use Rattle.std.specs.Option.{option_map}
use Rattle.jv_meaning_typing.specs.LinkErrors.{LinkError as ErrorOfNames, OrError}
use Rattle.jv_link.specs.Seen.{answer}

same_some : {A : Type 0} → {x y : A} → Some x ≡ Some y → x ≡ y
same_some e = cc

-- what was found, and that it is the answer
pub answered : {B : Type 0} → (o : Option B) (a : OrError B) → option_map answer o ≡ Some a → (b : B) × (o ≡ Some b) × (a ≡ Ok b)
answered None a e = absurd cc
answered (Some b) a e = (b, refl, sym (same_some e))

-- it goes on with what was found
pub goes_on : {B C : Type 0} → (o : Option B) (a : OrError B) (next : OrError B → OrError C) (r : Option (OrError C)) → option_map answer o ≡ Some a →
    ((b : B) → o ≡ Some b → r ≡ Some (next (Ok b))) → r ≡ Some (next a)
goes_on o a next r e more =
    let found = answered o a e in
    more found.0 found.1 ∙ ap (λ x. Some (next x)) (sym found.2)

-- an error ends it
pub ends : {B C : Type 0} → (error : ErrorOfNames) (a : OrError B) (next : OrError B → OrError C) (r : Option (OrError C)) → Some (Err error) ≡ Some a → r ≡ Some (next (Err error)) → r ≡ Some (next a)
ends error a next r e last = last ∙ ap (λ x. Some (next x)) (same_some e)
