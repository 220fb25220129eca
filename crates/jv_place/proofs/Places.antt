-- The instruction at a place of a class, and that which its file shows.
use Rattle.std.proofs.Common.{◌≡◌, ℕ, List, Option, Some, None, refl, sym, ap, subst, ◌∙◌}
use Rattle.std.specs.Prelude.{IsSomeAnd}
use Rattle.std.specs.Option.{option_map}
use Rattle.jv_pool.specs.Constants.{Entry}
use Rattle.jv_class.specs.Class.{Class, class_of}
use Rattle.jv_class_structure.specs.Structure.{ClassStructure}
use Rattle.jv_meaning_world.specs.FileContent.{IsContent, OneContent}
use Rattle.jv_meaning_world.specs.declared.content.Content.{Content}
use Rattle.jv_meaning_world.specs.declared.content.Content.TheVariants.{OtherVersion, NoClassFile, MoreThanProfile, Holds}
use Rattle.jv_meaning_machine.specs.State.{ThrowPlace}
use Rattle.jv_loader.specs.Inside.Reading.{content_of}
use Rattle.jv_shown.specs.Instructions.{instruction_text}
use Rattle.jv_place.specs.declared.method.Wanted.{Wanted}
use Rattle.jv_place.specs.Inside.Found.{IsInClass, StandsInClass}
use Rattle.jv_place.specs.Instruction.{IsInstructionIn, StandsAt}
use Rattle.jv_place.proofs.Methods.{method_of_shown, parts, shown_of_method}

-- what is wanted of the class with a name
abbrev pub place_of : (class : List ℕ) → Wanted → ThrowPlace
place_of name wanted = record {
  class = name;
  method = wanted.name.now;
  descriptor = wanted.descriptor.now;
  offset = wanted.offset;
}

module _ (file : ClassStructure) (class : Class) (of : class_of file ≡ Some class) (name : List ℕ) (wanted : Wanted) (text : List ℕ) where
  pub of_file : StandsInClass file name wanted text → StandsAt class (place_of name wanted) text
  of_file (is_named, (k, (shown, at, stands))) =
      let its = parts file class of in
      let (m, there, as_shown) = method_of_shown file class of k shown at in
      let names : Some class.name ≡ Some name = sym its.name ∙ is_named in
      let own : Some m.name ≡ Some wanted.name.now = sym as_shown.name ∙ stands.name in
      let described : Some m.descriptor ≡ Some wanted.descriptor.now = sym as_shown.descriptor ∙ stands.descriptor in
      record {
        class_name = cc;
        number = k;
        method = m;
        found = there;
        name = cc;
        descriptor = cc;
        body = stands.body;
        has_code = as_shown.code ∙ stands.has_code;
        insn = stands.insn;
        at = stands.at;
        told = stands.told ∙ ap (λ (p : List Entry). instruction_text p wanted.offset stands.insn) (sym its.pool);
      }

  pub of_class : StandsAt class (place_of name wanted) text → StandsInClass file name wanted text
  of_class stands =
      let its = parts file class of in
      let (shown, at, as_shown) = shown_of_method file class of stands.number stands.method stands.found in (
        its.name ∙ ap (λ (n : List ℕ). Some n) stands.class_name,
        (
          stands.number,
          (
            shown,
            at,
            record {
              name = as_shown.name ∙ ap (λ (n : List ℕ). Some n) stands.name;
              descriptor = as_shown.descriptor ∙ ap (λ (n : List ℕ). Some n) stands.descriptor;
              body = stands.body;
              has_code = sym as_shown.code ∙ stands.has_code;
              insn = stands.insn;
              at = stands.at;
              told = stands.told ∙ ap (λ (p : List Entry). instruction_text p wanted.offset stands.insn) its.pool;
            },
          ),
        ),
      )

-- ---- of the file with some bytes

module _ (law : OneContent) (bytes name : List ℕ) (wanted : Wanted) where
  pub held : (file : ClassStructure) (text : Option (List ℕ)) → IsSomeAnd (content_of (Holds file)) (IsContent bytes) → IsInClass file name wanted text
      → IsInstructionIn bytes (place_of name wanted) text
  held file text read is = by_class (class_of file) refl read
    where
      by_text : (class : Class) → class_of file ≡ Some class → IsContent bytes (Holds class) → (t : Option (List ℕ)) → IsInClass file name wanted t
          → IsInstructionIn bytes (place_of name wanted) t
      by_text class of holds (Some t) is = (class, holds, of_file file class of name wanted t is)
      by_text class of holds None is = λ other t content stands.
          let same : Holds class ≡ Holds other = law bytes (Holds class) (Holds other) holds content in
          let one : other ≡ class = cc in
          is t (of_class file class of name wanted t (subst (λ (c : Class). StandsAt c (place_of name wanted) t) one stands))

      by_class : (o : Option Class) → class_of file ≡ o → IsSomeAnd (option_map Holds o) (IsContent bytes) → IsInstructionIn bytes (place_of name wanted) text
      by_class None e h = absurd h
      by_class (Some class) e h = by_text class e h text is

  pub not_held : (found : Content ClassStructure) → ((file : ClassStructure) → found ≡ Holds file → ⊥) → IsSomeAnd (content_of found) (IsContent bytes)
      → IsInstructionIn bytes (place_of name wanted) None
  not_held OtherVersion not h = λ class text holds stands. other class (law bytes OtherVersion (Holds class) h holds)
    where
      other : (class : Class) → OtherVersion ≡ Holds class → ⊥
      other class e = cc
  not_held NoClassFile not h = λ class text holds stands. other class (law bytes NoClassFile (Holds class) h holds)
    where
      other : (class : Class) → NoClassFile ≡ Holds class → ⊥
      other class e = cc
  not_held MoreThanProfile not h = λ class text holds stands. other class (law bytes MoreThanProfile (Holds class) h holds)
    where
      other : (class : Class) → MoreThanProfile ≡ Holds class → ⊥
      other class e = cc
  not_held (Holds file) not h = absurd (not file refl)
