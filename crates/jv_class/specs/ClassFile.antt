-- Which bytes are a class file (JVMS 4.1), and which are one of another version.
use Rattle.std.specs.Prelude.{◌≡◌, ℕ, ◌<◌, ◌==◌, List, ◌++◌, Option, Some, None, IsTrue, if◌then◌else◌}
use Rattle.jv_format.specs.Format.{half}
use Rattle.jv_pool.specs.Constants.{class_name_at, pool_bytes}
use Rattle.jv_pool.specs.Rules.{IsPool}
use Rattle.jv_class_structure.specs.Structure.{ClassStructure, magic, class_bytes, body_fits}
use Rattle.jv_class_structure.specs.Attributes.{attributes_keep_rules}
use Rattle.jv_class_structure.specs.Version.{is_supported_version}
use Rattle.jv_class.specs.Rules.{KeepsClassRules}
use Rattle.jv_class.specs.Supported.{IsSupported}

-- the bytes begin like a class file, with a version that is not supported
pub record IsOtherVersion (bytes : List ℕ) : Type 0 where
  pub minor : ℕ
  pub major : ℕ
  pub rest : List ℕ
  pub minor_fits : minor < 65536
  pub major_fits : major < 65536
  pub begins : bytes ≡ magic ++ half.spelling minor ++ half.spelling major ++ rest
  pub other : ¬ IsTrue (is_supported_version minor major)

-- What makes a structure well formed: its constants are a pool, its numbers fit their fields, its attributes are those that
-- may stand where they stand, and names, types and flags keep their rules.
pub record IsWellFormed (c : ClassStructure) : Type 0 where
  pub pool : IsPool (pool_bytes c.constant_pool) c.constant_pool
  pub fits : IsTrue (body_fits c)
  pub attributes : IsTrue (attributes_keep_rules c)
  pub rules : KeepsClassRules c

-- the bytes are the class file with this structure
pub record IsClassFile (bytes : List ℕ) (c : ClassStructure) : Type 0 where
  pub spelled : bytes ≡ class_bytes c
  pub version : IsTrue (is_supported_version c.minor_version c.major_version)
  pub well_formed : IsWellFormed c

-- the bytes are a class file with more than the profile supports, its code aside
abbrev pub IsUnsupportedFile : List ℕ → Type 0
IsUnsupportedFile bytes = (c : ClassStructure) × IsClassFile bytes c × (¬ IsSupported c)

-- the name of a class, where its constant stands
abbrev pub class_name : ClassStructure → Option (List ℕ)
class_name c = class_name_at c.constant_pool c.this_class

-- the index of its superclass; 0 is none (4.1)
abbrev pub super_index : ClassStructure → Option ℕ
super_index c = if c.super_class == 0 then None else Some c.super_class

-- A law: the bytes have one structure at most, and none where they begin with another version.
pub record OneStructure : Type 0 where
  pub same : (bytes : List ℕ) (c d : ClassStructure) → IsClassFile bytes c → IsClassFile bytes d → c ≡ d
  pub other : (bytes : List ℕ) (c : ClassStructure) → IsClassFile bytes c → IsOtherVersion bytes → ⊥
