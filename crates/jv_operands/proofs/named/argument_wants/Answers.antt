use Rattle.std.proofs.Common.{◌≡◌, List, [], ◌∷◌, ◌++◌, ℕ, refl, sym, ap, ◌∙◌}
use Rattle.std.specs.Prelude.{map, reverse}
use Rattle.std.specs.Borrow.{Bor}
use Rattle.std.proofs.lemmas.List.{map-append, reverse-append}
use Rattle.std.proofs.lemmas.Result.{IfOk-weaker}
use Rattle.jv_text.specs.declared.descriptor.FieldTypeOf.{FieldTypeOf}
use Rattle.jv_text.specs.Seen.{seen_field_type}
use Rattle.jv_stackmap.specs.Types.{value_type}
use Rattle.jv_operands.specs.Wants.{of_type, of_types}
use Rattle.jv_operands.specs.Inside.Named.{types_of, wanted_as}
use Rattle.jv_operands.proofs.named.argument_wants.Goals as goal

-- a list turned, and each of a list turned
turned : {A B : Type 0} (f : A → B) (xs : List A) → map f (reverse xs) ≡ reverse (map f xs)
turned f [] = refl
turned f (x ∷ xs) =
    ap (map f) (reverse-append (x ∷ []) xs) ∙ (map-append f (reverse xs) (x ∷ []) ∙ (ap (λ l. l ++ f x ∷ []) (turned f xs) ∙ sym (reverse-append (f x ∷ []) (map f xs))))

each : {A B C : Type 0} (f : A → B) (g : B → C) (xs : List A) → map (λ x. g (f x)) xs ≡ map g (map f xs)
each f g [] = refl
each f g (x ∷ xs) = ap (λ l. g (f x) ∷ l) (each f g xs)

wanted : (parameters : List (FieldTypeOf (Bor (List ℕ)))) → map wanted_as (reverse parameters) ≡ of_types (types_of (map seen_field_type parameters))
wanted parameters =
    each (λ type. value_type (seen_field_type type)) of_type (reverse parameters)
    ∙ (ap (map of_type) (turned (λ type. value_type (seen_field_type type)) parameters)
    ∙ ap (λ l. map of_type (reverse l)) (each seen_field_type value_type parameters))

pub returns : goal.returns
returns c =
    IfOk-weaker c.typed_wants.result _ _
    (λ wants e. e ∙ (ap (map wanted_as) (c.deref.ensures.value ∙ c.in_ok-turned.ensures) ∙ wanted c.args.parameters.now))
    c.typed_wants.ensures
