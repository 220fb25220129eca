-- Worked rows of closed libraries: of a java/util/Tool that names java/util/Other, which the library lacks, in each way; and what becomes
-- of the verdict on one that isn't closed.
use Rattle.std.specs.Prelude.{◌≡◌, ℕ, true, false, List, [], ◌∷◌, Option, Some, None, codes}
use Rattle.jv_pool.specs.declared.constant.Constant.TheVariants.{Utf8, Class as ClassConstant, String, NameAndType}
use Rattle.jv_pool.specs.Constants.{Entry}
use Rattle.jv_class.specs.Class.{Class, Field}
use Rattle.jv_meaning_world.specs.declared.content.Content.TheVariants.{Holds}
use Rattle.jv_meaning_world.specs.declared.verdict.LoadVerdict.{LoadVerdict}
use Rattle.jv_meaning_world.specs.declared.verdict.LoadVerdict.TheVariants.{NoSuper}
use Rattle.jv_meaning_world.specs.System.Members.{method_without_code}
use Rattle.jv_meaning_world.specs.Rows.Files.{public_class}
use Rattle.jv_meaning_world.specs.Rows.Library.{tool, string_with_header}
use Rattle.jv_meaning_world.specs.Verdicts.{verdict_of_class}
use Rattle.jv_meaning_world.specs.World.{loaded}
use Rattle.jv_meaning_library.specs.Closed.{world_alone, is_closed}
use Rattle.jv_meaning_library.specs.Law.{world_with}

abbrev pub other : List ℕ
other = codes "java/util/Other"

-- a library of java/util/Tool with these constants
abbrev pub with_constants : List Entry → List Class
with_constants pool = record tool { constant_pool = pool } ∷ []

-- one text, and a constant with index 2 that names it
abbrev pub with_class : List ℕ → List Class
with_class text = with_constants (Utf8 text ∷ ClassConstant 1 ∷ [])

abbrev pub with_descriptor : List ℕ → List Class
with_descriptor text = with_constants (Utf8 (codes "m") ∷ Utf8 text ∷ NameAndType 1 2 ∷ [])

abbrev pub field : List ℕ → Field
field descriptor = record { access_flags = 1; name = codes "x"; descriptor = descriptor; initial = None }

-- below a class that a guest's files may hold
abbrev pub below : Class
below = public_class (codes "tools/Hammer") (codes "tools/Base")

abbrev pub verdict_beside : List Class → Option LoadVerdict
verdict_beside [] = verdict_of_class (world_alone (below ∷ [])) (loaded false below)
verdict_beside (c ∷ more) = verdict_of_class (world_with (below ∷ []) (Holds c ∷ [])) (loaded false below)

pub record WorkedClosedRows : Type 0 where
  pub none : is_closed [] ≡ true
  pub one : is_closed (tool ∷ []) ≡ true
  pub lent : is_closed (string_with_header ∷ tool ∷ []) ≡ true
  -- by a Class constant, also of an array
  pub class : is_closed (with_class other) ≡ false
  pub array : is_closed (with_class (codes "[[Ljava/util/Other;")) ≡ false
  pub own_array : is_closed (with_class (codes "[[Ljava/util/Tool;")) ≡ true
  pub numbers : is_closed (with_class (codes "[[I")) ≡ true
  -- by the descriptor of a member that is named
  pub parameter : is_closed (with_descriptor (codes "(I[Ljava/util/Other;)V")) ≡ false
  pub result : is_closed (with_descriptor (codes "()Ljava/util/Other;")) ≡ false
  pub type : is_closed (with_descriptor (codes "Ljava/util/Other;")) ≡ false
  pub known_types : is_closed (with_descriptor (codes "(Ljava/util/Tool;J)Ljava/lang/String;")) ≡ true
  -- by a member of its own
  pub own_field : is_closed (record tool { fields = field (codes "Ljava/util/Other;") ∷ [] } ∷ []) ≡ false
  pub own_method : is_closed (record tool { methods = method_without_code 1 (codes "m") (codes "(Ljava/util/Other;)V") ∷ [] } ∷ []) ≡ false
  -- by a super
  pub super : is_closed (public_class (codes "java/util/Tool") other ∷ []) ≡ false
  pub interface : is_closed (record tool { interfaces = other ∷ [] } ∷ []) ≡ false
  -- a text that no constant calls a name of a class names none
  pub text : is_closed (with_constants (Utf8 other ∷ String 1 ∷ [])) ≡ true
  -- a library that isn't closed may be refused alone and not beside a guest's files
  pub refused_alone : verdict_beside [] ≡ Some NoSuper
  pub loads_beside : verdict_beside (public_class (codes "tools/Base") (codes "java/lang/Object") ∷ []) ≡ None
