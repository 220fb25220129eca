-- Which class the bytes behind a version are, and which the whole bytes.
use Rattle.std.proofs.Common.{◌≡◌, ⊎_elim, ℕ, Bool, true, false, List, ◌++◌, Some, inl, inr, refl, sym, ap, subst, ◌∙◌}
use Rattle.std.specs.Prelude.{◌⊎◌, ◌||◌, ◌==◌, IsTrue}
use Rattle.std.proofs.lemmas.Bool.{and_parts, and_from, ltb-true, lt-ltb, eqb-true}
use Rattle.std.proofs.lemmas.List.{append_assoc}
use Rattle.jv_format.specs.Format.{IsBytes, half, quad}
use Rattle.jv_format.specs.Readers.{both}
use Rattle.jv_format.proofs.Laws.{is_some, IsFormat, half_is, quad_is, both_is, such_is}
use Rattle.jv_pool.specs.Constants.{pool_bytes}
use Rattle.jv_class_structure.specs.Structure.{ClassStructure, magic, body_bytes, class_bytes}
use Rattle.jv_class_structure.specs.Version.{is_supported_version}
use Rattle.jv_class_structure.specs.Parts.{OneBehindVersion}
use Rattle.jv_class.specs.ClassFile.{IsOtherVersion, IsClassFile, OneStructure}
use Rattle.jv_class.specs.Inside.Reading.{Three, magic_number, header, IsWholeBehind}

header_is : IsFormat header
header_is = both_is magic_number (both half half) (such_is _ quad quad_is) (both_is half half half_is half_is)

class_parts : (n a b p r : List ℕ) → ((((n ++ a) ++ b) ++ p) ++ r) ≡ (n ++ (a ++ b)) ++ (p ++ r)
class_parts n a b p r = simp append_assoc

class-spelling : (c : ClassStructure) → class_bytes c ≡ header.spelling (3405691582, (c.minor_version, c.major_version)) ++ (pool_bytes c.constant_pool ++ body_bytes c)
class-spelling c = class_parts magic (half.spelling c.minor_version) (half.spelling c.major_version) (pool_bytes c.constant_pool) (body_bytes c)

-- ---- supported versions

either : (x y : Bool) → IsTrue (x || y) → IsTrue x ⊎ IsTrue y
either true y h = inl refl
either false y h = inr h

equals_fit : (major k : ℕ) → IsTrue (half.fits k) → IsTrue (major == k) → IsTrue (half.fits major)
equals_fit major k fits e = subst (λ n. IsTrue (half.fits n)) (sym (eqb-true major k e)) fits

major_fits : (major : ℕ) → IsTrue (major == 50 || major == 51 || major == 52) → IsTrue (half.fits major)
major_fits major h =
    ⊎_elim (λ (lower : IsTrue (major == 50 || major == 51)).
    ⊎_elim (λ (e : IsTrue (major == 50)). equals_fit major 50 refl e) (λ (e : IsTrue (major == 51)). equals_fit major 51 refl e)
    (either (major == 50) (major == 51) lower))
    (λ (e : IsTrue (major == 52)). equals_fit major 52 refl e) (either (major == 50 || major == 51) (major == 52) h)

minor_is_0 : (minor major : ℕ) → IsTrue (is_supported_version minor major) → minor ≡ 0
minor_is_0 minor major h = eqb-true minor 0 (and_parts (minor == 0) (major == 50 || major == 51 || major == 52) h).0

version_fits : (minor major : ℕ) → IsTrue (is_supported_version minor major) → IsTrue (half.fits minor) × IsTrue (half.fits major)
version_fits minor major h = (
  ap half.fits (minor_is_0 minor major h),
  major_fits major (and_parts (minor == 0) (major == 50 || major == 51 || major == 52) h).1,
)

-- ---- the magic number and the version

abbrev numbers : ℕ → ℕ → Three
numbers minor major = (3405691582, (minor, major))

header_fits : (minor major : ℕ) → IsTrue (half.fits minor) → IsTrue (half.fits major) → IsTrue (header.fits (numbers minor major))
header_fits minor major one two = and_from (half.fits minor) (half.fits major) one two

class_header : (bytes : List ℕ) (c : ClassStructure) → IsClassFile bytes c → header.read bytes ≡ Some (numbers c.minor_version c.major_version, pool_bytes c.constant_pool ++ body_bytes c)
class_header bytes c h =
    let fits = version_fits c.minor_version c.major_version h.version in
    ap header.read (h.spelled ∙ class-spelling c) ∙ header_is.again (numbers c.minor_version c.major_version) (pool_bytes c.constant_pool ++ body_bytes c) (header_fits _ _ fits.0 fits.1)

other_header : (bytes : List ℕ) (o : IsOtherVersion bytes) → header.read bytes ≡ Some (numbers o.minor o.major, o.rest)
other_header bytes o = ap header.read o.begins ∙ header_is.again (numbers o.minor o.major) o.rest (header_fits o.minor o.major (lt-ltb o.minor 65536 o.minor_fits) (lt-ltb o.major 65536 o.major_fits))

same_versions : (bytes rest after : List ℕ) (minor major other also : ℕ) → header.read bytes ≡ Some (numbers minor major, rest) → header.read bytes ≡
    Some (numbers other also, after) → (minor ≡ other) × (major ≡ also) × (rest ≡ after)
same_versions bytes rest after minor major other also one two =
    let same : (numbers minor major, rest) ≡ (numbers other also, after) = is_some (numbers minor major, rest) (numbers other also, after) (sym one ∙ two) in
    (ap (λ (x : Three × List ℕ). x.0.1.0) same, ap (λ (x : Three × List ℕ). x.0.1.1) same, ap (λ (x : Three × List ℕ). x.1) same)

pub other_version : (bytes rest : List ℕ) (minor major : ℕ) → IsBytes bytes → header.read bytes ≡ Some (numbers minor major, rest) →
    (IsTrue (is_supported_version minor major) → ⊥) → IsOtherVersion bytes
other_version bytes rest minor major small found other =
    let one = header_is.takes bytes rest (numbers minor major) small found in
    let two = and_parts (half.fits minor) (half.fits major) one.1 in
    record { minor = minor; major = major; rest = rest; minor_fits = ltb-true minor 65536 two.0; major_fits = ltb-true major 65536 two.1; begins = one.0; other = other }

pub no_other_version : (bytes rest : List ℕ) (minor major : ℕ) → header.read bytes ≡ Some (numbers minor major, rest) → IsTrue (is_supported_version minor major) → IsOtherVersion bytes → ⊥
no_other_version bytes rest minor major found v o =
    let same = same_versions bytes rest o.rest minor major o.minor o.major found (other_header bytes o) in
    o.other (ap (λ n. is_supported_version n o.major) (sym same.0) ∙ ap (λ n. is_supported_version minor n) (sym same.1) ∙ v)

-- the class of the bytes behind the version is that of all
pub class_from_behind : (bytes rest : List ℕ) (minor major : ℕ) → IsBytes bytes → header.read bytes ≡ Some (numbers minor major, rest) →
    IsTrue (is_supported_version minor major) → (c : ClassStructure) → IsWholeBehind major rest c → IsClassFile bytes c
class_from_behind bytes rest minor major small found v c w =
    let one = header_is.takes bytes rest (numbers minor major) small found in
    let b = w.behind in
    let minors : minor ≡ c.minor_version = minor_is_0 minor major v ∙ sym b.version.0 in
    let same : numbers minor major ≡ numbers c.minor_version c.major_version = rw (minors, b.version.1) refl in
    record {
      spelled = one.0 ∙ ap (λ (n : Three). header.spelling n ++ rest) same ∙ ap (λ (x : List ℕ). header.spelling (numbers c.minor_version c.major_version) ++ x) b.spelled ∙ sym (class-spelling c);
      version = ap (λ n. is_supported_version n c.major_version) (sym minors) ∙ ap (is_supported_version minor) b.version.1 ∙ v;
      well_formed = record { pool = b.pool; fits = b.fits; attributes = b.attributes; rules = w.rules };
    }

pub behind_class : (bytes rest : List ℕ) (minor major : ℕ) → header.read bytes ≡ Some (numbers minor major, rest) → (c : ClassStructure) → IsClassFile bytes c → IsWholeBehind major rest c
behind_class bytes rest minor major found c h =
    let same = same_versions bytes rest (pool_bytes c.constant_pool ++ body_bytes c) minor major c.minor_version c.major_version found (class_header bytes c h) in
    let w = h.well_formed in
    let version : (c.minor_version ≡ 0) × (c.major_version ≡ major) = (minor_is_0 c.minor_version c.major_version h.version, sym same.1) in
    record { behind = record { spelled = same.2; version = version; pool = w.pool; fits = w.fits; attributes = w.attributes }; rules = w.rules }

-- ---- the law

one_class : OneBehindVersion → (bytes : List ℕ) (c d : ClassStructure) → IsClassFile bytes c → IsClassFile bytes d → c ≡ d
one_class law bytes c d one two =
    let e = class_header bytes c one in
    let rest : List ℕ = pool_bytes c.constant_pool ++ body_bytes c in
    law c.major_version rest c d (behind_class bytes rest c.minor_version c.major_version e c one).behind (behind_class bytes rest c.minor_version c.major_version e d two).behind

pub structure_law : OneBehindVersion → OneStructure
structure_law law = record {
  same = one_class law;
  other = λ bytes c one o. no_other_version bytes (pool_bytes c.constant_pool ++ body_bytes c) c.minor_version c.major_version (class_header bytes c one) one.version o;
}

-- ---- for the answers

pub not_supported : (minor major : ℕ) (answer : Bool) → answer ≡ is_supported_version minor major → answer ≡ false → IsTrue (is_supported_version minor major) → ⊥
not_supported minor major answer is off supported = cc
