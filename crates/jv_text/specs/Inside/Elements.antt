-- Texts of types that are no arrays.
use Rattle.std.specs.Prelude.{◌≡◌, ℕ, List, IsTrue}
use Rattle.jv_text.specs.declared.descriptor.Element.{Element}
use Rattle.jv_text.specs.Descriptor.{element_text, is_element}

-- the text of an element
pub record IsElementText (text : List ℕ) : Type 0 where
  pub element : Element (List ℕ)
  pub fits : IsTrue (is_element element)
  pub spelled : text ≡ element_text element
