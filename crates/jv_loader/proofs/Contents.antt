-- What a file that was read holds.
use Rattle.std.proofs.Common.{◌≡◌, ℕ, List, Option, Some, None, refl, sym, ap, ◌∙◌, subst}
use Rattle.std.specs.Prelude.{IsSomeAnd}
use Rattle.std.specs.Option.{option_map}
use Rattle.jv_class_structure.specs.Structure.{ClassStructure}
use Rattle.jv_class.specs.Class.{Class, class_of}
use Rattle.jv_meaning_world.specs.declared.content.Content.{Content}
use Rattle.jv_meaning_world.specs.declared.content.Content.TheVariants.{OtherVersion, NoClassFile, MoreThanProfile, Holds}
use Rattle.jv_meaning_world.specs.FileContent.{FileContent, IsContent, OneContent}
use Rattle.jv_loader.specs.Inside.Reading.{content_of}

module _ (P : FileContent → Type 0) where
  pub has_more : (found : Content ClassStructure) → IsSomeAnd (content_of found) P → found ≡ MoreThanProfile → P MoreThanProfile
  has_more found h e = subst (λ f. IsSomeAnd (content_of f) P) e h

  pub has_class : (found : Content ClassStructure) (c : ClassStructure) (class : Class) → IsSomeAnd (content_of found) P → found ≡ Holds c → class_of c ≡ Some class → P (Holds class)
  has_class found c class h e f = subst (λ o. IsSomeAnd (option_map Holds o) P) f (subst (λ g. IsSomeAnd (content_of g) P) e h)

-- what a file holds is known
pub known : OneContent → (bytes : List ℕ) (found : Content ClassStructure) (class : Class) → IsSomeAnd (content_of found) (IsContent bytes) →
    IsContent bytes (Holds class) → content_of found ≡ Some (Holds class)
known law bytes found class h k = by_content (content_of found) h
  where
    by_content : (o : Option FileContent) → IsSomeAnd o (IsContent bytes) → o ≡ Some (Holds class)
    by_content None h = absurd h
    by_content (Some f) h = ap (λ x. Some x) (law bytes f (Holds class) h k)

pub must_hold : (found : Content ClassStructure) (class : Class) → content_of found ≡ Some (Holds class) → ((x : ClassStructure) → found ≡ Holds x → ⊥) → ⊥
must_hold OtherVersion class e no_class = absurd (unlike e)
  where
    unlike : Some OtherVersion ≡ Some (Holds class) → ⊥
    unlike f = cc
must_hold NoClassFile class e no_class = absurd (unlike e)
  where
    unlike : Some NoClassFile ≡ Some (Holds class) → ⊥
    unlike f = cc
must_hold MoreThanProfile class e no_class = absurd (unlike e)
  where
    unlike : Some MoreThanProfile ≡ Some (Holds class) → ⊥
    unlike f = cc
must_hold (Holds c) class e no_class = no_class c refl

pub same_class : (found : Content ClassStructure) (c : ClassStructure) (read class : Class) → content_of found ≡ Some (Holds class) → found ≡ Holds c → class_of c ≡ Some read → read ≡ class
same_class found c read class e f g = same (ap (option_map Holds) (sym g) ∙ (sym (ap content_of f) ∙ e))
  where
    same : Some (Holds read) ≡ Some (Holds class) → read ≡ class
    same h = cc
