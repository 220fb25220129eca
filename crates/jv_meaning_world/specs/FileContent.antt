-- What stands in a file: the first of four that applies (own order).
use Rattle.std.specs.Prelude.{◌≡◌, ⊤, ℕ, List, [], ◌∷◌, Option, Some, IfSome}
use Rattle.std.specs.List.{All}
use Rattle.jv_code.specs.Unsupported.{IsUnsupported}
use Rattle.jv_class_structure.specs.Parts.{CodeSeen}
use Rattle.jv_class_structure.specs.Structure.{ClassStructure}
use Rattle.jv_class.specs.Class.{Class, class_of}
use Rattle.jv_class.specs.ClassFile.{IsClassFile, IsOtherVersion}
use Rattle.jv_class.specs.Supported.{IsSupported}
use Rattle.jv_meaning_world.specs.declared.content.Content.{Content}
use Rattle.jv_meaning_world.specs.declared.content.Content.TheVariants.{OtherVersion, NoClassFile, MoreThanProfile, Holds}

-- bytes that begin like a class file of another version; no class file; one with more than this host's profile has; or a
-- class, by its names
abbrev pub FileContent : Type 0
FileContent = Content Class

-- there is no code, or it does not begin with instructions of the profile and then one that the profile leaves out; it may
-- be ill formed all the same
abbrev pub HasNoUnsupportedCode : Option CodeSeen → Type 0
HasNoUnsupportedCode code = IfSome code (λ c. ¬ IsUnsupported c.code)

-- the structure is one that the profile supports, its code included, and this is the class that it is
pub record IsProfileClass (c : ClassStructure) (class : Class) : Type 0 where
  pub named : class_of c ≡ Some class
  pub supported : IsSupported c
  pub code : All (λ m. HasNoUnsupportedCode m.code) class.methods

abbrev pub IsContent : List ℕ → FileContent → Type 0
IsContent bytes OtherVersion = IsOtherVersion bytes
IsContent bytes NoClassFile = (¬ IsOtherVersion bytes) × ((c : ClassStructure) → IsClassFile bytes c → ⊥)
IsContent bytes MoreThanProfile = (c : ClassStructure) × IsClassFile bytes c × ((class : Class) → IsProfileClass c class → ⊥)
IsContent bytes (Holds class) = (c : ClassStructure) × IsClassFile bytes c × IsProfileClass c class

-- what files hold, one by one
abbrev pub AreContents : List (List ℕ) → List FileContent → Type 0
AreContents [] [] = ⊤
AreContents (bytes ∷ more) (file ∷ files) = IsContent bytes file × AreContents more files
AreContents _ _ = ⊥

-- A law: a file holds one thing.
abbrev pub OneContent : Type 0
OneContent = (bytes : List ℕ) (one other : FileContent) → IsContent bytes one → IsContent bytes other → one ≡ other
