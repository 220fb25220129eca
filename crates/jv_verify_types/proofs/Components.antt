-- Arrays of as many dimensions.
use Rattle.std.proofs.Common.{◌≡◌, ℕ, Bool, List, sym, ap, ◌∙◌}
use Rattle.jv_text.specs.declared.descriptor.Element.{Element}
use Rattle.jv_text.specs.declared.descriptor.Element.TheVariants as elements
use Rattle.jv_text.specs.declared.descriptor.Base.{Base}
use Rattle.jv_meaning_world.specs.World.{World}
use Rattle.jv_meaning_world.specs.Flow.{class_flows, component_flows, same_base}
use Rattle.jv_assign.proofs.Components.{as_many}
use Rattle.jv_verify_types.specs.Typed.{name_at, typed_element}

pub by_classes : (world : World) (names : List (List ℕ)) (m n : ℕ) (e f : Element ℕ) (x y : ℕ) (b : Bool)
    → e ≡ elements.Class x → f ≡ elements.Class y → m ≡ n → b ≡ class_flows world (name_at names x) (name_at names y)
    → b ≡ component_flows world m (typed_element names e) n (typed_element names f)
by_classes world names m n e f x y b is_x is_y same is =
    is ∙ (ap (λ g. component_flows world 0 (typed_element names g) 0 (elements.Class (name_at names y))) (sym is_x)
    ∙ (ap (λ g. component_flows world 0 (typed_element names e) 0 (typed_element names g)) (sym is_y)
    ∙ sym (as_many world m n (typed_element names e) (typed_element names f) same)))

pub by_bases : (world : World) (names : List (List ℕ)) (m n : ℕ) (e f : Element ℕ) (x y : Base) (b : Bool)
    → e ≡ elements.Base x → f ≡ elements.Base y → m ≡ n → b ≡ same_base x y
    → b ≡ component_flows world m (typed_element names e) n (typed_element names f)
by_bases world names m n e f x y b is_x is_y same is =
    is ∙ (ap (λ g. component_flows world 0 (typed_element names g) 0 (elements.Base y)) (sym is_x)
    ∙ (ap (λ g. component_flows world 0 (typed_element names e) 0 (typed_element names g)) (sym is_y)
    ∙ sym (as_many world m n (typed_element names e) (typed_element names f) same)))
