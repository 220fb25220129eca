-- What is wrong with files that are no library.
use Rattle.std.proofs.Common.{◌≡◌, ℕ, zero, suc, ◌<◌, Bool, true, false, true≢false, ◌||◌, List, [], ◌∷◌, length, map, take, get_or, Option, None, Some, refl, sym, ap, ◌∙◌, subst, inl, inr, arith}
use Rattle.std.specs.Prelude.{◌≢◌, IsNone, IsSome, IsTrue, is_some, not, slice_get}
use Rattle.std.specs.List.{All}
use Rattle.std.specs.Option.{option_map}
use Rattle.std.specs.Str.{bytes_eq}
use Rattle.std.proofs.lemmas.List.{length-map}
use Rattle.std.proofs.lemmas.Map.Keys.{any_passes_from_place, apart_from_distinct}
use Rattle.std.proofs.lemmas.Option.{get_or_from_slice_get, slice_get-map, slice_get_within}
use Rattle.std.proofs.lemmas.Slice.Eq.{bytes_eq-Decides}
use Rattle.jv_class.specs.Class.{Class}
use Rattle.jv_classes.proofs.Numbers.{number_at}
use Rattle.jv_meaning_world.specs.FileContent.{AreContents, FileContent, IsContent, OneContent}
use Rattle.jv_meaning_world.specs.Library.{HasString, IsLibrary, Lends, borrowers_more, char_sequence, comparable, comparable_string, with_methods_of}
use Rattle.jv_meaning_world.specs.Numbers.{number_named}
use Rattle.jv_meaning_world.specs.World.{Loaded, World, has_class}
use Rattle.jv_meaning_world.specs.declared.content.Content.TheVariants.{OtherVersion, NoClassFile, MoreThanProfile, Holds}
use Rattle.jv_meaning_world.proofs.Up.{same_name}
use Rattle.jv_loader.specs.LibraryFault.{FaultsRefuse, HasContentAt, HoldsAt, IsAboveArrays, IsLibraryFault, IsMissing, IsNamedAs}
use Rattle.jv_loader.specs.declared.library_fault.LibraryFault.{LibraryFault}
use Rattle.jv_loader.specs.declared.library_fault.LibraryFault.TheVariants.{Version, Format, Unsupported, Reserved, Duplicate, Main, Header, Initializer, AboveArrays, NoString, NoComparable, NoCharSequence, OutOfMemory}
use Rattle.jv_loader.specs.Inside.Given.{AreGiven, IsFaultOfFile, IsLacking, all_borrowers, is_of_host, main_of}
use Rattle.jv_loader.specs.Inside.Headers.{HeaderSeen, IsBeside, header_of, initializer_of, is_above_arrays}
use Rattle.jv_loader.specs.Inside.Tables.{IsFaultTogether}
use Rattle.jv_loader.proofs.Borrowing.{all_at, mapped_at, stands_at}
use Rattle.jv_loader.proofs.Comparing.{has_given}
use Rattle.jv_loader.proofs.Giving.{file_with, named_at, of_world, rows}
use Rattle.jv_loader.proofs.Hosting.{held_as_many, held_at}
use Rattle.jv_loader.proofs.Straightness.{found_has}

-- ---- a file by itself and beside those before it

taken : {X : Type 0} → (xs : List X) (k q : ℕ) (x : X) → slice_get (take k xs) q ≡ Some x → (slice_get xs q ≡ Some x) × (q < k)
taken xs zero zero x e = absurd cc
taken xs zero (suc q) x e = absurd cc
taken [] (suc k) zero x e = absurd cc
taken [] (suc k) (suc q) x e = absurd cc
taken (y ∷ xs) (suc k) zero x e = (e, omega arith)
taken (y ∷ xs) (suc k) (suc q) x e = let rest = taken xs k q x e in (rest.0, omega (arith, rest.1))

module _ (files : List (List ℕ)) (world : World) (k : ℕ) (bytes : List ℕ) (are : AreGiven (take k files) world) (there : slice_get files k ≡ Some bytes) where
  at : (content : FileContent) → IsContent bytes content → HasContentAt files k content
  at content h = record { bytes = bytes; there = there; has = h }

  earlier : (name : List ℕ) → IsSome (number_named world name) → (q : ℕ) × (q < k) × HoldsAt files q (λ c. c.name ≡ name)
  earlier name h = by_number (number_named world name) refl h
    where
      by_number : (o : Option ℕ) → number_named world name ≡ o → IsSome o → (q : ℕ) × (q < k) × HoldsAt files q (λ c. c.name ≡ name)
      by_number None e h = absurd cc
      by_number (Some q) e h =
          let found = named_at (take k files) world are name q e in
          let file = file_with (take k files) are.given q found.0 are.held found.1 in
          let where_is = taken files k q file.bytes file.there in
          (q, where_is.1, (found.0, record { bytes = file.bytes; there = where_is.0; has = file.has }, found.2))

  pub fault_of_file : (fault : LibraryFault) → IsFaultOfFile world bytes k fault → IsLibraryFault files fault
  fault_of_file (Version p) h = subst (λ n. HasContentAt files n OtherVersion) (sym h.0) (at OtherVersion h.1)
  fault_of_file (Format p) h = subst (λ n. HasContentAt files n NoClassFile) (sym h.0) (at NoClassFile h.1)
  fault_of_file (Unsupported p) h = subst (λ n. HasContentAt files n MoreThanProfile) (sym h.0) (at MoreThanProfile h.1)
  fault_of_file (Reserved p) h = subst (λ n. HoldsAt files n (λ c. IsTrue (is_of_host c.name))) (sym h.2.0) (h.0, at (Holds h.0) h.1, h.2.1)
  fault_of_file (Duplicate p) h =
      subst (λ n. HoldsAt files n (λ c. (q : ℕ) × (q < n) × HoldsAt files q (λ e. e.name ≡ c.name))) (sym h.2.0)
      (h.0, at (Holds h.0) h.1, earlier h.0.name h.2.1)
  fault_of_file (Main p) h = subst (λ n. HoldsAt files n (λ c. IsSome (main_of c))) (sym h.2.0) (h.0, at (Holds h.0) h.1, h.2.1)
  fault_of_file (Header p) h = absurd h.2
  fault_of_file (Initializer p) h = absurd h.2
  fault_of_file (AboveArrays p) h = absurd h.2
  fault_of_file NoString h = absurd h.2
  fault_of_file NoComparable h = absurd h.2
  fault_of_file NoCharSequence h = absurd h.2
  fault_of_file OutOfMemory h = tt

-- ---- what a file holds is the class at its place

given_at : OneContent → (files : List (List ℕ)) (given : List Class) (k : ℕ) (c : Class) → AreContents files (map Holds given) → HasContentAt files k (Holds c)
    → slice_get given k ≡ Some c
given_at law files given k c held at =
    let this = held_at files given k at.bytes held at.there in
    let both : Holds this.0 ≡ Holds c = law at.bytes (Holds this.0) (Holds c) this.2 at.has in
    let same : this.0 ≡ c = cc in
    this.1 ∙ ap (λ x. Some x) same

itself : (name : List ℕ) → bytes_eq name name ≡ true
itself name = (bytes_eq-Decides name name).1 refl

has_at : (given : List Class) (k : ℕ) (c : Class) (name : List ℕ) → slice_get given k ≡ Some c → c.name ≡ name → has_class given name ≡ true
has_at given k c name e same =
    any_passes_from_place (λ (x : Class). bytes_eq x.name name) given k c e (ap (λ n. bytes_eq n name) same ∙ itself name)

-- ---- all of them together

module _ (law : OneContent) (files : List (List ℕ)) (world : World) (are : AreGiven files world) (some : 0 < length files) where
  missing_is : (class : Class) → number_named world class.name ≡ None → IsMissing files class
  missing_is class e = record {
    some = some;
    none = λ k c at same.
        let here = has_at are.given k c class.name (given_at law files are.given k c are.held at) same in
        let absent : has_class are.given class.name ≡ false = sym (has_given are.given class.name) ∙ ap is_some (ap (λ w. number_named w class.name) (sym are.world_is) ∙ e) in
        true≢false (sym here ∙ absent);
  }

  fault_of_lack : (fault : LibraryFault) → IsLacking world fault → IsLibraryFault files fault
  fault_of_lack (Version p) h = absurd h
  fault_of_lack (Format p) h = absurd h
  fault_of_lack (Unsupported p) h = absurd h
  fault_of_lack (Reserved p) h = absurd h
  fault_of_lack (Duplicate p) h = absurd h
  fault_of_lack (Main p) h = absurd h
  fault_of_lack (Header p) h = absurd h
  fault_of_lack (Initializer p) h = absurd h
  fault_of_lack (AboveArrays p) h = absurd h
  fault_of_lack NoString h = missing_is comparable_string h
  fault_of_lack NoComparable h = missing_is comparable h
  fault_of_lack NoCharSequence h = missing_is char_sequence h
  fault_of_lack OutOfMemory h = absurd h

  module _ (k p : ℕ) (h : HeaderSeen) (by : Loaded) (row : slice_get rows k ≡ Some h) (named : number_named world h.name ≡ Some p) (there : slice_get world p ≡ Some by) where
    lent : (class : Class) × (slice_get all_borrowers k ≡ Some class) × (header_of class ≡ h)
    lent = mapped_at header_of all_borrowers k h row

    file : HasContentAt files p (Holds by.class)
    file = file_with files are.given p by.class are.held (of_world files world are p by there).0

    same : by.class.name ≡ lent.0.name
    same =
        found_has (λ (x : Loaded). x.class.name) world h.name by (number_at world h.name p named ∙ there)
        ∙ sym (ap (λ (x : HeaderSeen). x.name) lent.2)

    is_named : IsNamedAs lent.0 by.class
    is_named = record { borrows = stands_at all_borrowers k lent.0 lent.1; same = same }

    fault_of_one : (fault : LibraryFault) → IsBeside p h by.class fault → IsLibraryFault files fault
    fault_of_one (Version q) b = absurd b
    fault_of_one (Format q) b = absurd b
    fault_of_one (Unsupported q) b = absurd b
    fault_of_one (Reserved q) b = absurd b
    fault_of_one (Duplicate q) b = absurd b
    fault_of_one (Main q) b = absurd b
    fault_of_one (Header q) b =
        subst (λ n. HoldsAt files n (λ x. (class : Class) × IsNamedAs class x × (x ≢ with_methods_of x class))) (sym b.0)
        (by.class, file, (lent.0, is_named, λ e. b.1 (ap header_of e ∙ lent.2)))
    fault_of_one (Initializer q) b =
        subst (λ n. HoldsAt files n (λ x. (class : Class) × IsNamedAs class x × IsSome (initializer_of x))) (sym b.0)
        (by.class, file, (lent.0, is_named, b.1))
    fault_of_one (AboveArrays q) b =
        subst (λ n. HoldsAt files n (λ x. (class : Class) × IsNamedAs class x × IsAboveArrays class × (x.methods ≢ []))) (sym b.0)
        (by.class, file, (lent.0, is_named, subst (λ n. IsTrue (is_above_arrays n)) same b.1, b.2))
    fault_of_one NoString b = absurd b
    fault_of_one NoComparable b = absurd b
    fault_of_one NoCharSequence b = absurd b
    fault_of_one OutOfMemory b = absurd b

  pub fault_together : (fault : LibraryFault) → IsFaultTogether world rows fault → IsLibraryFault files fault
  fault_together fault (inl lack) = fault_of_lack fault lack
  fault_together fault (inr one) = fault_of_one one.at one.wrong.place one.h one.wrong.by one.row one.wrong.named one.wrong.there fault one.wrong.beside

-- ---- files with a fault are no library

some_at : (given : List Class) (name : List ℕ) → has_class given name ≡ true → (k : ℕ) × (c : Class) × (slice_get given k ≡ Some c) × (c.name ≡ name)
some_at [] name h = absurd cc
some_at (x ∷ given) name h = by_test (bytes_eq x.name name) refl h (λ k. some_at given name k)
  where
    by_test : (b : Bool) → bytes_eq x.name name ≡ b → (b || has_class given name) ≡ true
        → (has_class given name ≡ true → (k : ℕ) × (c : Class) × (slice_get given k ≡ Some c) × (c.name ≡ name))
        → (k : ℕ) × (c : Class) × (slice_get (x ∷ given) k ≡ Some c) × (c.name ≡ name)
    by_test true e h again = (zero, x, refl, same_name x.name name e)
    by_test false e h again = let rest = again h in (suc rest.0, rest.1, rest.2, rest.3)

module _ (law : OneContent) (files : List (List ℕ)) (given : List Class) (is : IsLibrary files given) where
  -- what is said of the file at a place is said of a class
  other : (k : ℕ) (content : FileContent) → HasContentAt files k content → (c : Class) × (Holds c ≡ content)
  other k content at =
      let this = held_at files given k at.bytes is.held at.there in
      (this.0, law at.bytes (Holds this.0) content this.2 at.has)

  here : (k : ℕ) (c : Class) → HasContentAt files k (Holds c) → slice_get given k ≡ Some c
  here k c at = given_at law files given k c is.held at

  lends : (k : ℕ) (class by : Class) → HasContentAt files k (Holds by) → IsNamedAs class by → Lends class by
  lends k class by at named = is.lends class by named.borrows (stands_at given k by (here k by at)) named.same

  clash : (b : Bool) → IsTrue (not b) → IsTrue b → ⊥
  clash true h k = absurd cc
  clash false h k = absurd cc

  both : {X : Type 0} (o : Option X) → IsNone o → IsSome o → ⊥
  both None h k = absurd cc
  both (Some x) h k = absurd cc

  has_each : (g : List Class) → HasString g → 0 < length g → All (λ c. has_class g c.name ≡ true) (comparable_string ∷ borrowers_more)
  has_each [] h less = absurd (omega (arith, less))
  has_each (x ∷ g) h less = h

  there_is : (k : ℕ) (class : Class) → slice_get (comparable_string ∷ borrowers_more) k ≡ Some class → IsMissing files class → ⊥
  there_is k class e gone =
      let many : 0 < length given = subst (λ n. 0 < n) (sym (held_as_many files given is.held)) gone.some in
      let found = some_at given class.name (all_at (λ (c : Class). has_class given c.name ≡ true) (comparable_string ∷ borrowers_more) k class (has_each given is.string many) e) in
      gone.none found.0 found.1 (file_with files given found.0 found.1 is.held found.2) found.3

  twice : (i j : ℕ) (c e : Class) → i < j → slice_get given i ≡ Some e → slice_get given j ≡ Some c → e.name ≡ c.name → ⊥
  twice i j c e less at_i at_j same =
      let names = map (λ (x : Class). x.name) given in
      let name_of : Class → List ℕ = λ x. x.name in
      let first : get_or names i [] ≡ e.name = get_or_from_slice_get names i e.name [] (slice_get-map name_of given i ∙ ap (option_map name_of) at_i) in
      let last : get_or names j [] ≡ c.name = get_or_from_slice_get names j c.name [] (slice_get-map name_of given j ∙ ap (option_map name_of) at_j) in
      let within : j < length names = subst (λ n. j < n) (sym (length-map given name_of)) (slice_get_within given j c at_j) in
      let apart = apart_from_distinct bytes_eq names i j [] is.differ less within in
      true≢false (sym (itself c.name) ∙ (ap (λ n. bytes_eq n c.name) (sym same) ∙ (ap (λ n. bytes_eq n c.name) (sym first)
      ∙ (ap (bytes_eq (get_or names i [])) (sym last) ∙ apart))))

  pub none_is : (fault : LibraryFault) → IsLibraryFault files fault → (fault ≡ OutOfMemory → ⊥) → ⊥
  none_is (Version p) h not_memory = let o = other p OtherVersion h in unlike o.0 o.1
    where
      unlike : (c : Class) → Holds c ≡ OtherVersion → ⊥
      unlike c e = cc
  none_is (Format p) h not_memory = let o = other p NoClassFile h in unlike o.0 o.1
    where
      unlike : (c : Class) → Holds c ≡ NoClassFile → ⊥
      unlike c e = cc
  none_is (Unsupported p) h not_memory = let o = other p MoreThanProfile h in unlike o.0 o.1
    where
      unlike : (c : Class) → Holds c ≡ MoreThanProfile → ⊥
      unlike c e = cc
  none_is (Reserved p) h not_memory =
      clash (is_of_host h.0.name) (all_at (λ (c : Class). IsTrue (not (is_of_host c.name))) given p h.0 is.none_of_host (here p h.0 h.1)) h.2
  none_is (Duplicate p) h not_memory =
      let before = h.2 in
      twice before.0 p h.0 before.2.0 before.1 (here before.0 before.2.0 before.2.1) (here p h.0 h.1) before.2.2
  none_is (Main p) h not_memory = both (main_of h.0) (all_at (λ (c : Class). IsNone (main_of c)) given p h.0 is.none_is_main (here p h.0 h.1)) h.2
  none_is (Header p) h not_memory = h.2.2 (lends p h.2.0 h.0 h.1 h.2.1).same
  none_is (Initializer p) h not_memory = both (initializer_of h.0) (lends p h.2.0 h.0 h.1 h.2.1).initialized h.2.2
  none_is (AboveArrays p) h not_memory = h.2.3 ((lends p h.2.0 h.0 h.1 h.2.1).above_arrays h.2.2)
  none_is NoString h not_memory = there_is 0 comparable_string refl h
  none_is NoComparable h not_memory = there_is 1 comparable refl h
  none_is NoCharSequence h not_memory = there_is 2 char_sequence refl h
  none_is OutOfMemory h not_memory = not_memory refl

pub faults_refuse : OneContent → FaultsRefuse
faults_refuse law files fault h not_memory given is = none_is law files given is fault h not_memory
