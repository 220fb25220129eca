-- Bytes that begin like a class file, and what is at fault behind that.
use Rattle.std.proofs.Common.{◌≡◌, ℕ, Bool, true, false, List, Option, Some, None, sym, ap, ◌∙◌, refl}
use Rattle.std.proofs.lemmas.Bool.{and_parts, and_from, ltb-true, lt-ltb}
use Rattle.jv_format.specs.Format.{IsBytes, half, quad}
use Rattle.jv_format.specs.Readers.{both}
use Rattle.jv_format.proofs.Laws.{IsFormat, half_is, quad_is, both_is, such_is}
use Rattle.jv_class_structure.specs.Version.{is_supported_version}
use Rattle.jv_class.specs.Inside.Reading.{Three, magic_number, header}
use Rattle.jv_class.specs.ClassFile.{IsOtherVersion}
use Rattle.jv_class.proofs.Whole.{other_version, not_supported, class_from_behind}
use Rattle.jv_meaning_world.specs.FileContent.{IsContent}
use Rattle.jv_meaning_world.specs.declared.content.Content.TheVariants.{NoClassFile}
use Rattle.jv_malformed.specs.Part.{BeginsBefore, IsFaultyPart}
use Rattle.jv_malformed.specs.Inside.Behind.{NoClassBehind, IsFaultyUnlessClass}
use Rattle.jv_malformed.specs.Text.{TellsVersion, version_text}
use Rattle.jv_malformed.specs.declared.part.FaultyPart.{FaultyPart}
use Rattle.jv_malformed.specs.declared.part.FaultyPart.TheVariants.{Start, Constants, Structure, Rules}

header_is : IsFormat header
header_is = both_is magic_number (both half half) (such_is _ quad quad_is) (both_is half half half_is half_is)

abbrev numbers : ℕ → ℕ → Three
numbers minor major = (3405691582, (minor, major))

abbrev begins_before : (bytes rest : List ℕ) (minor major : ℕ) → IsBytes bytes → header.read bytes ≡ Some (numbers minor major, rest) → BeginsBefore rest bytes
begins_before bytes rest minor major small found =
    let one = header_is.takes bytes rest (numbers minor major) small found in
    let two = and_parts (half.fits minor) (half.fits major) one.1 in
    record {
      minor = minor;
      major = major;
      minor_fits = ltb-true minor 65536 two.0;
      major_fits = ltb-true major 65536 two.1;
      begins = one.0;
    }

differ : {A : Type 0} (o : Option A) (x : A) → o ≡ None → o ≡ Some x → ⊥
differ o x none some = cc

-- where no header is read, there is none
pub no_start : (bytes : List ℕ) → header.read bytes ≡ None → (rest : List ℕ) → BeginsBefore rest bytes → ⊥
no_start bytes none rest b =
    let fits = and_from (half.fits b.minor) (half.fits b.major) (lt-ltb b.minor 65536 b.minor_fits) (lt-ltb b.major 65536 b.major_fits) in
    let some = ap header.read b.begins ∙ header_is.again (numbers b.minor b.major) rest fits in
    differ (header.read bytes) (numbers b.minor b.major, rest) none some

-- a structure that stands behind the version of no class file breaks a rule
breaks : (bytes rest : List ℕ) (minor major : ℕ) → IsBytes bytes → header.read bytes ≡ Some (numbers minor major, rest)
    → IsContent bytes NoClassFile → NoClassBehind major rest
breaks bytes rest minor major small found none c behind rules = by_version (is_supported_version minor major) refl
  where
    by_version : (v : Bool) → is_supported_version minor major ≡ v → ⊥
    by_version true on = none.1 c (class_from_behind bytes rest minor major small found on c (record { behind = behind; rules = rules }))
    by_version false off = none.0 (other_version bytes rest minor major small found (not_supported minor major false (sym off) refl))

pub faulty : (bytes rest : List ℕ) (minor major : ℕ) → IsBytes bytes → header.read bytes ≡ Some (numbers minor major, rest)
    → (part : FaultyPart) → IsFaultyUnlessClass major rest part → IsContent bytes NoClassFile → IsFaultyPart bytes part
faulty bytes rest minor major small found Start h none = absurd (h (breaks bytes rest minor major small found none))
faulty bytes rest minor major small found (Constants fault) h none =
    (rest, begins_before bytes rest minor major small found, h (breaks bytes rest minor major small found none))
faulty bytes rest minor major small found (Structure fault) h none =
    (rest, begins_before bytes rest minor major small found, h (breaks bytes rest minor major small found none))
faulty bytes rest minor major small found (Rules fault) h none =
    (rest, begins_before bytes rest minor major small found, h (breaks bytes rest minor major small found none))

one_found : {A : Type 0} (x y : A) → Some x ≡ Some y → x ≡ y
one_found x y both = cc

-- the version that is read is the one of the bytes
pub version_told : (bytes rest : List ℕ) (minor major : ℕ) → header.read bytes ≡ Some (numbers minor major, rest)
    → (text : List ℕ) → text ≡ version_text minor major → IsOtherVersion bytes → TellsVersion bytes text
version_told bytes rest minor major found text told o =
    let fits = and_from (half.fits o.minor) (half.fits o.major) (lt-ltb o.minor 65536 o.minor_fits) (lt-ltb o.major 65536 o.major_fits) in
    let some = ap header.read o.begins ∙ header_is.again (numbers o.minor o.major) o.rest fits in
    let same : (numbers minor major, rest) ≡ (numbers o.minor o.major, o.rest) = one_found _ _ (sym found ∙ some) in
    record { other = o; told = told ∙ ap (λ (x : Three × List ℕ). version_text x.0.1.0 x.0.1.1) same }
