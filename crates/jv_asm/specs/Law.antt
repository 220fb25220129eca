-- The law of the class writer: what it writes of a well-formed structure is a class file, and reads back.
use Rattle.std.specs.Prelude.{◌≡◌, IsTrue}
use Rattle.jv_class_structure.specs.Structure.{ClassStructure, class_bytes}
use Rattle.jv_class_structure.specs.Version.{is_supported_version}
use Rattle.jv_class.specs.ClassFile.{IsWellFormed, IsClassFile, OneStructure}
use Rattle.jv_asm.specs.Fits.{IsFit}

-- the structures that a file of a supported version can have
pub record CanBeRead (c : ClassStructure) : Type 0 where
  pub version : IsTrue (is_supported_version c.minor_version c.major_version)
  pub well_formed : IsWellFormed c

-- A structure that can be read fits, so that its bytes are written; they are the class file with that structure; and where
-- bytes have one structure at most (`jv_class::one_structure`), nothing else is read there.
pub record WrittenReadsBack : Type 0 where
  pub fits : (c : ClassStructure) → CanBeRead c → IsFit c
  pub reads : (c : ClassStructure) → CanBeRead c → IsClassFile (class_bytes c) c
  pub alone : OneStructure → (c d : ClassStructure) → CanBeRead c → IsClassFile (class_bytes c) d → d ≡ c
