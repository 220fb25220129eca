-- What is said of a refused file by what it holds.
use Rattle.std.proofs.Common.{◌≡◌, ℕ, List, [], Option, Some, None, refl, sym, ap, subst, ◌∙◌}
use Rattle.std.specs.Prelude.{IsSomeAnd}
use Rattle.std.specs.Option.{option_map}
use Rattle.jv_class_structure.specs.Structure.{ClassStructure}
use Rattle.jv_class.specs.Class.{Class, class_of}
use Rattle.jv_class.specs.ClassFile.{class_name}
use Rattle.jv_meaning_world.specs.FileContent.{FileContent, IsContent, OneContent}
use Rattle.jv_meaning_world.specs.declared.content.Content.{Content}
use Rattle.jv_meaning_world.specs.declared.content.Content.TheVariants.{OtherVersion, NoClassFile, MoreThanProfile, Holds}
use Rattle.jv_meaning_world.specs.World.{World}
use Rattle.jv_meaning_world.specs.declared.verdict.LoadVerdict.{LoadVerdict}
use Rattle.jv_loader.specs.Inside.Reading.{content_of}
use Rattle.jv_explain.specs.Supers.{IsRefusalTold, refusal_text}
use Rattle.jv_explain.proofs.Blaming.{name_of_class}

module _ (law : OneContent) (world : World) (bytes : List ℕ) (why : LoadVerdict) (content : FileContent) (is : IsContent bytes content) where
  pub held : (file : ClassStructure) (name text : List ℕ) → IsSomeAnd (content_of (Holds file)) (IsContent bytes) → class_name file ≡ Some name
      → text ≡ refusal_text world name why → IsRefusalTold world content why text
  held file name text read named told = by_class (class_of file) refl read
    where
      same : (class : Class) → Some name ≡ Some class.name → name ≡ class.name
      same class e = cc

      by_class : (o : Option Class) → class_of file ≡ o → IsSomeAnd (option_map Holds o) (IsContent bytes) → IsRefusalTold world content why text
      by_class None e h = absurd h
      by_class (Some class) e h =
          subst (λ (c : FileContent). IsRefusalTold world c why text) (law bytes (Holds class) content h is)
          (told ∙ ap (λ (n : List ℕ). refusal_text world n why) (same class (sym named ∙ name_of_class file class e)))

  pub not_held : (found : Content ClassStructure) → ((file : ClassStructure) → found ≡ Holds file → ⊥) → IsSomeAnd (content_of found) (IsContent bytes)
      → (text : List ℕ) → text ≡ [] → IsRefusalTold world content why text
  not_held OtherVersion not h text none = subst (λ (c : FileContent). IsRefusalTold world c why text) (law bytes OtherVersion content h is) none
  not_held NoClassFile not h text none = subst (λ (c : FileContent). IsRefusalTold world c why text) (law bytes NoClassFile content h is) none
  not_held MoreThanProfile not h text none = subst (λ (c : FileContent). IsRefusalTold world c why text) (law bytes MoreThanProfile content h is) none
  not_held (Holds file) not h text none = absurd (not file refl)
