-- What the profile leaves out of a class file is one of the parts: each fact on what it supports holds where it isn't refuted.
use Rattle.std.proofs.Common.{◌≡◌, ℕ, suc, Bool, true, false, List, [], ◌∷◌, length, Option, Some, None, refl, subst}
use Rattle.std.specs.Prelude.{IsSome, IsSomeAnd, IsTrue, slice_get}
use Rattle.std.specs.List.{All, flat_map}
use Rattle.std.specs.Option.{option_map}
use Rattle.std.proofs.lemmas.List.Elements.{All-cons, All-nil}
use Rattle.jv_pool.specs.Constants.{Entry, utf8_at}
use Rattle.jv_pool.specs.declared.constant.Constant.TheVariants.{Utf8, Integer, Float, Long, Double, Class, String, Fieldref, Methodref, InterfaceMethodref, NameAndType, MethodHandle, MethodType, InvokeDynamic}
use Rattle.jv_class_structure.specs.Parts.{CodeSeen, FieldSeen, IsBehindVersion, MethodSeen, OneBehindVersion, fields_of, methods_of}
use Rattle.jv_class_structure.specs.Structure.{ClassStructure}
use Rattle.jv_class.specs.Class as classes
use Rattle.jv_class.specs.ClassFile.{IsClassFile}
use Rattle.jv_class.specs.Supported.{AreSupportedFlags, HasNoFloating, IsNoFloatingArray, IsSupported, IsSupportedConstant, IsSupportedType, is_supported_method}
use Rattle.jv_class.specs.Inside.Reading.{header}
use Rattle.jv_class.proofs.Kept.{all_from_table}
use Rattle.jv_class.proofs.ShownOf.{supported_all}
use Rattle.jv_class.proofs.Whole.{behind_class}
use Rattle.jv_code.specs.Insns.{insn_bytes}
use Rattle.jv_code.specs.Unsupported.{IsUnsupported}
use Rattle.jv_meaning_world.specs.FileContent.{HasNoUnsupportedCode, IsContent, OneContent}
use Rattle.jv_meaning_world.specs.declared.content.Content.TheVariants.{MoreThanProfile, Holds}
use Rattle.jv_meaning_world.proofs.Contents.{holds}
use Rattle.jv_beyond.specs.Beyond.{FailsAt, IsBeyond, SomeIsBeyond}
use Rattle.jv_beyond.specs.Inside.Found.{IsFound}
use Rattle.jv_beyond.specs.Inside.Told.{IsFoundTold, IsTold}
use Rattle.jv_beyond.specs.Text.{TellsBeyond}
use Rattle.jv_beyond.specs.declared.beyond.Beyond.{Beyond}
use Rattle.jv_beyond.specs.declared.beyond.Beyond.TheVariants as parts

-- ---- facts that hold where they aren't refuted

abbrev NotRefuted : Type 0 → Type 0
NotRefuted P = ¬ (¬ P)

true_holds : (b : Bool) → NotRefuted (IsTrue b) → IsTrue b
true_holds true h = refl
true_holds false h = absurd (h (λ e. no e))
  where
    no : IsTrue false → ⊥
    no e = cc

some_holds : {X : Type 0} (P : X → Type 0) → ((x : X) → NotRefuted (P x) → P x) → (o : Option X) → NotRefuted (IsSomeAnd o P) → IsSomeAnd o P
some_holds P holds None h = h (λ p. p)
some_holds P holds (Some x) h = holds x h

floating_holds : (text : List ℕ) → NotRefuted (HasNoFloating text) → HasNoFloating text
floating_holds text h = record {
  field = λ type is. true_holds _ (λ no. h (λ n. no (n.field type is)));
  method = λ type is. true_holds _ (λ no. h (λ n. no (n.method type is)));
}

array_holds : (text : List ℕ) → NotRefuted (IsNoFloatingArray text) → IsNoFloatingArray text
array_holds text h = record { array = λ is. floating_holds text (λ no. h (λ n. no (n.array is))) }

type_holds : (pool : List Entry) (index : ℕ) → NotRefuted (IsSupportedType pool index) → IsSupportedType pool index
type_holds pool index = some_holds HasNoFloating floating_holds (utf8_at pool index)

flags_hold : (pool : List Entry) (name flags : ℕ) → NotRefuted (AreSupportedFlags pool name flags) → AreSupportedFlags pool name flags
flags_hold pool name flags =
    some_holds (λ text. IsTrue (is_supported_method text flags)) (λ text. true_holds (is_supported_method text flags)) (utf8_at pool name)

constant_holds : (pool : List Entry) (e : Entry) → NotRefuted (IsSupportedConstant pool e) → IsSupportedConstant pool e
constant_holds pool (Utf8 text) h = tt
constant_holds pool (Integer bits) h = tt
constant_holds pool (Float bits) h = h (λ p. p)
constant_holds pool (Long high low) h = tt
constant_holds pool (Double high low) h = h (λ p. p)
constant_holds pool (Class name) h = some_holds IsNoFloatingArray array_holds (utf8_at pool name) h
constant_holds pool (String text) h = tt
constant_holds pool (Fieldref class name_and_type) h = tt
constant_holds pool (Methodref class name_and_type) h = tt
constant_holds pool (InterfaceMethodref class name_and_type) h = tt
constant_holds pool (NameAndType name descriptor) h = type_holds pool descriptor h
constant_holds pool (MethodHandle kind index) h = h (λ p. p)
constant_holds pool (MethodType descriptor) h = h (λ p. p)
constant_holds pool (InvokeDynamic bootstrap name_and_type) h = h (λ p. p)

-- ---- items one by one

all_from : {X : Type 0} (P : X → Type 0) (xs : List X) → ((k : ℕ) (x : X) → slice_get xs k ≡ Some x → P x) → All P xs
all_from P [] h = All-nil P
all_from P (x ∷ xs) h = All-cons P x xs (h 0 x refl) (all_from P xs (λ k y at. h (suc k) y at))

none_fails : {X : Type 0} (P : X → Type 0) (xs : List X) → ((x : X) → NotRefuted (P x) → P x) → ((k : ℕ) → FailsAt P xs k → ⊥) → All P xs
none_fails P xs holds none = all_from P xs (λ k x at. holds x (λ no. none k (x, at, no)))

module _ (c : ClassStructure) (never : (part : Beyond) → IsBeyond c part → ⊥) where
  constants_fit : All (IsSupportedConstant c.constant_pool) c.constant_pool
  constants_fit =
      all_from_table (IsSupportedConstant c.constant_pool) c.constant_pool
      (λ n entry less at. constant_holds c.constant_pool entry (λ no. never (parts.Constant (suc n)) (entry, at, no)))

  fields_fit : All (λ (f : FieldSeen). IsSupportedType c.constant_pool f.descriptor_index) (fields_of c)
  fields_fit = none_fails _ (fields_of c) (λ f. type_holds c.constant_pool f.descriptor_index) (λ k is. never (parts.Field k) is)

  abbrev MethodFits : MethodSeen → Type 0
  MethodFits m = IsSupportedType c.constant_pool m.descriptor_index × AreSupportedFlags c.constant_pool m.name_index m.access_flags

  methods_fit : All MethodFits (methods_of c)
  methods_fit = all_from MethodFits (methods_of c) each
    where
      each : (k : ℕ) (m : MethodSeen) → slice_get (methods_of c) k ≡ Some m → MethodFits m
      each k m at = (
        type_holds c.constant_pool m.descriptor_index (λ no. never (parts.MethodType k) (m, at, no)),
        flags_hold c.constant_pool m.name_index m.access_flags (λ no. never (parts.MethodFlags k) (m, at, no)),
      )

  supported : IsSupported c
  supported = supported_all c (record { constants = constants_fit; fields = fields_fit; methods = methods_fit })

  code_fits : All (λ (m : MethodSeen). HasNoUnsupportedCode m.code) (methods_of c)
  code_fits = all_from _ (methods_of c) each
    where
      each : (k : ℕ) (m : MethodSeen) → slice_get (methods_of c) k ≡ Some m → HasNoUnsupportedCode m.code
      each k m at = by_code m.code refl
        where
          by_code : (o : Option CodeSeen) → m.code ≡ o → HasNoUnsupportedCode o
          by_code None e = tt
          by_code (Some body) e = λ (is : IsUnsupported body.code).
              never (parts.Instruction k (length (flat_map insn_bytes is.before)))
              (m, at, record { body = body; has_code = e; at = record { is = is; place = refl } })

  pub beyond_none : (bytes : List ℕ) → IsClassFile bytes c → IsSome (classes.class_of c) → OneContent → IsContent bytes MoreThanProfile → ⊥
  beyond_none bytes file some law more = by_class (classes.class_of c) (holds bytes c file supported some code_fits)
    where
      by_class : (o : Option classes.Class) → IsSomeAnd (option_map Holds o) (IsContent bytes) → ⊥
      by_class None h = h
      by_class (Some class) h = other (law bytes MoreThanProfile (Holds class) more h)
        where
          other : MoreThanProfile ≡ Holds class → ⊥
          other e = cc

-- ---- of a file

pub told_beyond : OneBehindVersion → SomeIsBeyond → (bytes rest : List ℕ) (minor major : ℕ) → header.read bytes ≡ Some ((3405691582, (minor, major)), rest)
    → (own : ClassStructure) → IsBehindVersion major rest own → (text : List ℕ) → IsFoundTold own text → IsContent bytes MoreThanProfile → TellsBeyond bytes text
told_beyond one law bytes rest minor major read own behind text (found, is, told) (c, file, never) =
    let same : own ≡ c = one major rest own c behind (behind_class bytes rest minor major read c file).behind in
    by_found found (subst (λ (s : ClassStructure). IsFound s found) same is) (subst (λ (s : ClassStructure). IsTold s found text) same told)
  where
    by_found : (o : Option Beyond) → IsFound c o → IsTold c o text → TellsBeyond bytes text
    by_found None none t = absurd (law bytes c file (c, file, never) none)
    by_found (Some part) first (line, tells) = record { structure = c; file = file; part = part; first = first; line = line; told = tells }
