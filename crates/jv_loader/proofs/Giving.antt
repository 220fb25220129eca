-- A list of classes is a library: what its tables say, and what is wrong where it is none.
use Rattle.std.proofs.Common.{◌≡◌, ℕ, zero, suc, ◌+◌, ◌<◌, Bool, true, false, true≢false, cond, ◌||◌, List, [], ◌∷◌, ◌++◌, length, map, get_or, Option, None, Some, refl, sym, ap, ◌∙◌, subst, inl, inr, add-zero, zero-add, append-nil, append_assoc, arith}
use Rattle.std.specs.Prelude.{◌⊎◌, IsSome, IsTrue, not, slice_get}
use Rattle.std.specs.List.{All, AllByRecursion, Contains, filter, find, list_all, position}
use Rattle.std.specs.Option.{option_map}
use Rattle.std.specs.Str.{bytes_eq}
use Rattle.std.proofs.lemmas.List.{map-append}
use Rattle.std.proofs.lemmas.List.Elements.{All-cons, All-nil}
use Rattle.std.proofs.lemmas.List.Folds.{list_any-append}
use Rattle.std.proofs.lemmas.Map.Keys.{IsDistinct-head, IsDistinct-tail}
use Rattle.std.proofs.lemmas.Option.{get_or_from_slice_get, slice_get-get_or, slice_get-map, slice_get_within}
use Rattle.jv_class.specs.Class.{Class}
use Rattle.jv_classes.proofs.Numbers.{number_at, position_found, position_within}
use Rattle.jv_meaning_world.specs.FileContent.{AreContents, IsContent}
use Rattle.jv_meaning_world.specs.Library.{HasString, IsLibrary, Lends, NamesDiffer, borrowers, borrowers_more, char_sequence, comparable, comparable_string, front_of, lent, system_with, with_class_more, with_library}
use Rattle.jv_meaning_world.specs.Numbers.{IsNumbered, number_named}
use Rattle.jv_meaning_world.specs.System.Classes.{classes_with_files, system_bytes, system_contents}
use Rattle.jv_meaning_world.specs.System.Io.{io}
use Rattle.jv_meaning_world.specs.System.Throwables.{throwable_class, throwable_rows}
use Rattle.jv_meaning_world.specs.World.{Loaded, World, class_named, has_class, loaded}
use Rattle.jv_meaning_world.specs.declared.content.Content.TheVariants.{Holds}
use Rattle.jv_meaning_world.proofs.Up.{same_name}
use Rattle.jv_loader.specs.LibraryFault.{HasContentAt}
use Rattle.jv_loader.specs.Inside.Given.{AreGiven, HasThree, MayBeGiven, all_borrowers, is_of_host}
use Rattle.jv_loader.specs.Inside.Headers.{AllLend, HeaderSeen, header_of, is_above_arrays, is_lent}
use Rattle.jv_loader.specs.Inside.Library.{IsHost, file_of, files_at, files_from, lent_classes}
use Rattle.jv_loader.specs.Inside.Tables.{AreTables, in_front}
use Rattle.jv_loader.proofs.Borrowing.{all_at, all_plain, all_pass_at, held_unset, is_plain, lent_by, mapped_at, not_lent, place_of, same_header}
use Rattle.jv_loader.proofs.Comparing.{has_given, map_twice}
use Rattle.jv_loader.proofs.Hosting.{held_as_many}
use Rattle.jv_loader.proofs.Straightness.{found_has}

-- the headers of all that are lent methods
abbrev pub rows : List HeaderSeen
rows = map header_of all_borrowers

-- ---- a file and its class, by place

pub file_with : (files : List (List ℕ)) (given : List Class) (k : ℕ) (c : Class) → AreContents files (map Holds given) → slice_get given k ≡ Some c
    → HasContentAt files k (Holds c)
file_with [] [] zero c h e = absurd cc
file_with [] [] (suc k) c h e = absurd cc
file_with [] (x ∷ given) k c h e = absurd h
file_with (b ∷ files) [] k c h e = absurd h
file_with (b ∷ files) (x ∷ given) zero c h e = record { bytes = b; there = refl; has = subst (λ y. IsContent b (Holds y)) (same e) h.0 }
  where
    same : Some x ≡ Some c → x ≡ c
    same e = cc
file_with (b ∷ files) (x ∷ given) (suc k) c h e =
    let rest = file_with files given k c h.1 e in
    record { bytes = rest.bytes; there = rest.there; has = rest.has }

-- ---- which place a class of the system's has

-- it is the one with a file there, or one of those that a library has to have
in_tail : (cs ds : List Class) (k : ℕ) (c : Class) → slice_get (cs ++ ds) k ≡ Some c → (slice_get cs k ≡ Some c) ⊎ Contains ds c
in_tail [] ds k c e = inr (k, slice_get_within ds k c e, get_or_from_slice_get ds k c c e)
in_tail (x ∷ cs) ds zero c e = inl e
in_tail (x ∷ cs) ds (suc k) c e = in_tail cs ds k c e

of_more : (c : Class) → Contains borrowers_more c → (c ≡ comparable) ⊎ (c ≡ char_sequence)
of_more c (zero, less, e) = inl (sym e)
of_more c (suc zero, less, e) = inr (sym e)
of_more c (suc (suc k), less, e) = absurd (omega (arith, less))

pub data IsOneOfThree (c : Class) : Type 0 where
  Str : c ≡ comparable_string → IsOneOfThree c
  Cmp : c ≡ comparable → IsOneOfThree c
  Seq : c ≡ char_sequence → IsOneOfThree c

one_of_more : (c : Class) → (c ≡ comparable) ⊎ (c ≡ char_sequence) → IsOneOfThree c
one_of_more c (inl e) = Cmp e
one_of_more c (inr e) = Seq e

in_place : (k : ℕ) (c : Class) → slice_get all_borrowers k ≡ Some c → (slice_get classes_with_files k ≡ Some c) ⊎ IsOneOfThree c
in_place zero c e = inl e
in_place (suc zero) c e = inl e
in_place (suc (suc zero)) c e = inl e
in_place (suc (suc (suc zero))) c e = inr (Str cc)
in_place (suc (suc (suc (suc zero)))) c e = inl e
in_place (suc (suc (suc (suc (suc k))))) c e = by_part (in_tail (map throwable_class throwable_rows) borrowers_more k c e)
  where
    by_part : (slice_get (map throwable_class throwable_rows) k ≡ Some c) ⊎ Contains borrowers_more c
        → (slice_get (map throwable_class throwable_rows) k ≡ Some c) ⊎ IsOneOfThree c
    by_part (inl f) = inl f
    by_part (inr h) = inr (one_of_more c (of_more c h))

-- ---- the files of classes that are lent methods, place by place

contents_from : (own library : List (List ℕ)) (lender : Class → Option ℕ) (made : Class → Class) (k : ℕ) (cs : List Class)
    → ((j : ℕ) (c : Class) → slice_get cs j ≡ Some c → IsContent (file_of own library (k + j) (lender c)) (Holds (made c)))
    → AreContents (files_from own library k (map lender cs)) (map Holds (map made cs))
contents_from own library lender made k [] all = tt
contents_from own library lender made k (c ∷ cs) all = (
  subst (λ n. IsContent (file_of own library n (lender c)) (Holds (made c))) (add-zero k) (all zero c refl),
  contents_from own library lender made (k + 1) cs (λ j x e.
      let same : k + suc j ≡ (k + 1) + j = omega arith in
      subst (λ n. IsContent (file_of own library n (lender x)) (Holds (made x))) same (all (suc j) x e)),
)

-- ---- those in front

at_places : (files : List (List ℕ)) (given : List Class) (places : List ℕ) (cs : List Class) → AreContents files (map Holds given)
    → map (slice_get given) places ≡ map Some cs → AreContents (files_at files places) (map Holds cs)
at_places files given [] [] held e = tt
at_places files given [] (c ∷ cs) held e = absurd cc
at_places files given (p ∷ places) [] held e = absurd cc
at_places files given (p ∷ places) (c ∷ cs) held e =
    let here : slice_get given p ≡ Some c = cc in
    let rest : map (slice_get given) places ≡ map Some cs = cc in
    let file = file_with files given p c held here in
    (subst (λ b. IsContent b (Holds c)) (sym (get_or_from_slice_get files p file.bytes [] file.there)) file.has, at_places files given places cs held rest)

in_given : (given : List Class) (places : List ℕ) (ls : World) → map (slice_get (map (loaded false) given)) places ≡ map Some ls
    → map (slice_get given) places ≡ map Some (map (λ (l : Loaded). l.class) ls)
in_given given [] [] e = refl
in_given given [] (l ∷ ls) e = absurd cc
in_given given (p ∷ places) [] e = absurd cc
in_given given (p ∷ places) (l ∷ ls) e =
    let here : slice_get (map (loaded false) given) p ≡ Some l = cc in
    let rest : map (slice_get (map (loaded false) given)) places ≡ map Some ls = cc in
    let at = mapped_at (loaded false) given p l here in
    ap (λ o. o ∷ map (slice_get given) places) (at.1 ∙ ap (λ x. Some x) (ap (λ (m : Loaded). m.class) at.2))
    ∙ ap (λ os. Some l.class ∷ os) (in_given given places ls rest)

unfoldable pub stand : Class → Bool
stand c = not (is_lent rows c.name)

stand_in : (given : List Class) → map (λ (l : Loaded). l.class) (in_front rows (map (loaded false) given)) ≡ filter stand given
unfolding stand
stand_in [] = refl
stand_in (c ∷ given) = by_test (not (is_lent rows c.name)) (stand_in given)
  where
    by_test : (b : Bool) → map (λ (l : Loaded). l.class) (in_front rows (map (loaded false) given)) ≡ filter stand given
        → map (λ (l : Loaded). l.class) (cond b (loaded false c ∷ in_front rows (map (loaded false) given)) (in_front rows (map (loaded false) given)))
        ≡ cond b (c ∷ filter stand given) (filter stand given)
    by_test true again = ap (λ cs. c ∷ cs) again
    by_test false again = again

lent_named : (library cs : List Class) (name : List ℕ) → has_class (map (lent library) cs) name ≡ is_lent (map header_of cs) name
lent_named library [] name = refl
lent_named library (c ∷ cs) name = ap (λ b. bytes_eq c.name name || b) (lent_named library cs name)

-- a name in a package of the host's is that of no class that may be given
io_is_of_host : is_of_host io.name ≡ true
io_is_of_host = refl

not_io : (name : List ℕ) → is_of_host name ≡ false → bytes_eq io.name name ≡ false
not_io name free = by_test (bytes_eq io.name name) refl
  where
    by_test : (b : Bool) → bytes_eq io.name name ≡ b → b ≡ false
    by_test false e = refl
    by_test true e = absurd (true≢false (sym io_is_of_host ∙ (ap is_of_host (same_name io.name name e) ∙ free)))

system_named : (first : Class) (more : List Class) (name : List ℕ) → is_of_host name ≡ false
    → has_class (system_with (first ∷ more)) name ≡ is_lent rows name
system_named first more name free =
    let library = first ∷ more in
    list_any-append (λ (c : Class). bytes_eq c.name name) (map (lent library) borrowers) (io ∷ map (lent library) borrowers_more)
    ∙ (ap (λ b. has_class (map (lent library) borrowers) name || (b || has_class (map (lent library) borrowers_more) name)) (not_io name free)
    ∙ (ap (λ b. b || has_class (map (lent library) borrowers_more) name) (lent_named library borrowers name)
    ∙ (ap (λ b. is_lent (map header_of borrowers) name || b) (lent_named library borrowers_more name)
    ∙ sym (ap (λ hs. is_lent hs name) (map-append header_of borrowers borrowers_more)
    ∙ list_any-append (λ (h : HeaderSeen). bytes_eq h.name name) (map header_of borrowers) (map header_of borrowers_more)))))

-- no class has the name of one in front so far
abbrev AreNew : List Class → List Class → Type 0
AreNew front classes = AllByRecursion (λ (c : Class). has_class front c.name ≡ false) classes

still_new : (front : List Class) (c : Class) (cs : List Class) → AreNew front cs → AllByRecursion (λ n. bytes_eq c.name n ≡ false) (map (λ (x : Class). x.name) cs)
    → AreNew (front ++ c ∷ []) cs
still_new front c [] new unlike = tt
still_new front c (x ∷ cs) new unlike = (
  list_any-append (λ (y : Class). bytes_eq y.name x.name) front (c ∷ []) ∙ both (has_class front x.name) (bytes_eq c.name x.name) new.0 unlike.0,
  still_new front c cs new.1 unlike.1,
)
  where
    both : (a b : Bool) → a ≡ false → b ≡ false → (a || (b || false)) ≡ false
    both true b e f = absurd (true≢false e)
    both false true e f = absurd (true≢false f)
    both false false e f = refl

none_new : (cs : List Class) → AreNew [] cs
none_new [] = tt
none_new (c ∷ cs) = (refl, none_new cs)

module _ (first : Class) (more : List Class) where
  abbrev library : List Class
  library = first ∷ more

  -- one class more, and then the others
  one_front : (front : List Class) (c : Class) (cs : List Class) → is_of_host c.name ≡ false → has_class front c.name ≡ false
      → AllByRecursion (λ n. bytes_eq c.name n ≡ false) (map (λ (x : Class). x.name) cs) → AreNew front cs
      → ((f : List Class) → AreNew f cs → front_of library f cs ≡ f ++ filter stand cs)
      → front_of library (with_class_more library front c) cs ≡ front ++ filter stand (c ∷ cs)
  unfolding stand
  one_front front c cs free new unlike others again = by_test (is_lent rows c.name) refl
    where
      by_case : (b : Bool) → cond (b || false) front (front ++ c ∷ []) ≡ cond b front (front ++ c ∷ [])
      by_case true = refl
      by_case false = refl

      joins : (b : Bool) → is_lent rows c.name ≡ b → with_class_more library front c ≡ cond b front (front ++ c ∷ [])
      joins b e =
          ap (λ t. cond (t || has_class front c.name) front (front ++ c ∷ [])) (system_named first more c.name free ∙ e)
          ∙ (ap (λ t. cond (b || t) front (front ++ c ∷ [])) new ∙ by_case b)

      by_test : (b : Bool) → is_lent rows c.name ≡ b
          → front_of library (with_class_more library front c) cs ≡ front ++ cond (not (is_lent rows c.name)) (c ∷ filter stand cs) (filter stand cs)
      by_test true e =
          ap (λ f. front_of library f cs) (joins true e) ∙ (again front others
          ∙ ap (λ t. front ++ cond (not t) (c ∷ filter stand cs) (filter stand cs)) (sym e))
      by_test false e =
          ap (λ f. front_of library f cs) (joins false e) ∙ (again (front ++ c ∷ []) (still_new front c cs others unlike)
          ∙ (append_assoc front (c ∷ []) (filter stand cs) ∙ ap (λ t. front ++ cond (not t) (c ∷ filter stand cs) (filter stand cs)) (sym e)))

  front_is : (front cs : List Class) → AllByRecursion (λ (c : Class). is_of_host c.name ≡ false) cs → NamesDiffer cs → AreNew front cs
      → front_of library front cs ≡ front ++ filter stand cs
  front_is front [] free differ new = sym (append-nil front)
  front_is front (c ∷ cs) free differ new =
      let apart = IsDistinct-tail bytes_eq c.name (map (λ (x : Class). x.name) cs) differ in
      one_front front c cs free.0 new.0 (IsDistinct-head bytes_eq c.name (map (λ (x : Class). x.name) cs) differ) new.1
      (λ f k. front_is f cs free.1 apart k)

untrue : (b : Bool) → IsTrue (not b) → b ≡ false
untrue true h = absurd cc
untrue false h = refl

free_each : (cs : List Class) → All MayBeGiven cs → AllByRecursion (λ (c : Class). is_of_host c.name ≡ false) cs
free_each [] all = tt
free_each (c ∷ cs) all = (
  untrue (is_of_host c.name) (all_at MayBeGiven (c ∷ cs) 0 c all refl).not_of_host,
  free_each cs (λ k d less. all (suc k) d (omega (arith, less))),
)

pub in_front_are : (given : List Class) → 0 < length given → All MayBeGiven given → NamesDiffer given → (with_library given).front ≡ filter stand given
in_front_are [] some may differ = absurd (omega (arith, some))
in_front_are (first ∷ more) some may differ = front_is first more [] (first ∷ more) (free_each (first ∷ more) may) differ (none_new (first ∷ more))

-- ---- what the tests of a list say

unfound : {X : Type 0} → (test : X → Bool) (xs : List X) → position test xs ≡ None → find test xs ≡ None
unfound {X = X} test xs e = by_found (find test xs) refl
  where
    by_found : (o : Option X) → find test xs ≡ o → find test xs ≡ None
    by_found None f = f
    by_found (Some x) f = absurd (clash (sym (position_found test xs x f) ∙ e))
      where
        clash : {k : ℕ} → Some k ≡ None → ⊥
        clash g = cc

missing : {X : Type 0} → (o : Option X) → IsSome o → o ≡ None → ⊥
missing None h e = absurd cc
missing (Some x) h e = absurd cc

lent_all : (given : List Class) → 0 < length given → lent_classes given ≡ map (lent given) all_borrowers
lent_all [] some = absurd (omega (arith, some))
lent_all (first ∷ more) some = refl

has_string : (given : List Class) → HasThree (map (loaded false) given) → HasString given
has_string [] all = tt
has_string (first ∷ more) all =
    let P : Class → Type 0 = λ c. IsTrue (has_class (first ∷ more) c.name) in
    All-cons P comparable_string borrowers_more (sym (has_given (first ∷ more) comparable_string.name) ∙ all.string)
    (All-cons P comparable (char_sequence ∷ []) (sym (has_given (first ∷ more) comparable.name) ∙ all.comparable)
    (All-cons P char_sequence [] (sym (has_given (first ∷ more) char_sequence.name) ∙ all.char_sequence) (All-nil P)))

module _ (files : List (List ℕ)) (world : World) (are : AreGiven files world) where
  pub in_world : (k : ℕ) (c : Class) → slice_get are.given k ≡ Some c → slice_get world k ≡ Some (loaded false c)
  in_world k c e = ap (λ w. slice_get w k) are.world_is ∙ (slice_get-map (loaded false) are.given k ∙ ap (option_map (loaded false)) e)

  pub of_world : (k : ℕ) (l : Loaded) → slice_get world k ≡ Some l → (slice_get are.given k ≡ Some l.class) × (loaded false l.class ≡ l)
  of_world k l e =
      let at = mapped_at (loaded false) are.given k l (sym (ap (λ w. slice_get w k) are.world_is) ∙ e) in
      let same : at.0 ≡ l.class = ap (λ (m : Loaded). m.class) at.2 in
      (at.1 ∙ ap (λ x. Some x) same, ap (loaded false) (sym same) ∙ at.2)

  pub named_at : (name : List ℕ) (k : ℕ) → number_named world name ≡ Some k
      → (c : Class) × (slice_get are.given k ≡ Some c) × (c.name ≡ name) × (class_named world name ≡ Some (loaded false c))
  named_at name k e = by_found (slice_get world k) refl
    where
      here : class_named world name ≡ slice_get world k
      here = number_at world name k e

      clash : {l : Loaded} → Some l ≡ None → ⊥
      clash f = cc

      by_found : (o : Option Loaded) → slice_get world k ≡ o
          → (c : Class) × (slice_get are.given k ≡ Some c) × (c.name ≡ name) × (class_named world name ≡ Some (loaded false c))
      by_found None f = absurd (clash (sym (slice_get-get_or world k (loaded false io) (position_within (λ (l : Loaded). bytes_eq l.class.name name) world k e)) ∙ f))
      by_found (Some l) f =
          let at = of_world k l f in
          (l.class, at.0, found_has (λ (x : Loaded). x.class.name) world name l (here ∙ f), here ∙ (f ∙ ap (λ x. Some x) (sym at.1)))

  module _ (numbered : IsNumbered world) (lend : AllLend world rows) (three : HasThree world) where
    lends_to : (k : ℕ) (class by : Class) (p : ℕ) → slice_get all_borrowers k ≡ Some class → number_named world class.name ≡ Some p
        → slice_get are.given p ≡ Some by → Lends class by
    lends_to k class by p row named there =
        let to = lend k (header_of class) (slice_get-map header_of all_borrowers k ∙ ap (option_map header_of) row) p named (loaded false by) (in_world p by there) in
        let file = file_with files are.given p by are.held there in
        let name : by.name ≡ class.name = ap (λ (h : HeaderSeen). h.name) to.header in
        record {
          same = same_header by class to.header (held_unset file.bytes by file.has) (all_pass_at (λ (c : Class). list_all is_plain c.fields) all_borrowers k class all_plain row);
          initialized = to.initializer;
          above_arrays = λ h. to.above_arrays (subst (λ n. IsTrue (is_above_arrays n)) (sym name) h);
        }

    lacks_none : (class : Class) → number_named world class.name ≡ None → IsOneOfThree class → ⊥
    lacks_none class e (Str same) = missing (number_named world comparable_string.name) three.string (ap (λ (c : Class). number_named world c.name) (sym same) ∙ e)
    lacks_none class e (Cmp same) = missing (number_named world comparable.name) three.comparable (ap (λ (c : Class). number_named world c.name) (sym same) ∙ e)
    lacks_none class e (Seq same) = missing (number_named world char_sequence.name) three.char_sequence (ap (λ (c : Class). number_named world c.name) (sym same) ∙ e)

    held_file : AreContents system_bytes system_contents → (k : ℕ) (class : Class) → slice_get all_borrowers k ≡ Some class
        → IsContent (file_of system_bytes files k (number_named world class.name)) (Holds (lent are.given class))
    held_file holds k class row = by_lender (number_named world class.name) refl
      where
        by_place : number_named world class.name ≡ None → (slice_get classes_with_files k ≡ Some class) ⊎ IsOneOfThree class
            → IsContent (get_or system_bytes k []) (Holds (lent are.given class))
        by_place named (inl own) =
            let file = file_with system_bytes classes_with_files k class holds own in
            let none : class_named (map (loaded false) are.given) class.name ≡ None =
            ap (λ w. class_named w class.name) (sym are.world_is) ∙ unfound (λ (l : Loaded). bytes_eq l.class.name class.name) world named in
            subst (λ b. IsContent b (Holds (lent are.given class))) (sym (get_or_from_slice_get system_bytes k file.bytes [] file.there))
            (subst (λ c. IsContent file.bytes (Holds c)) (sym (not_lent are.given class none)) file.has)
        by_place named (inr one) = absurd (lacks_none class named one)

        by_lender : (o : Option ℕ) → number_named world class.name ≡ o → IsContent (file_of system_bytes files k o) (Holds (lent are.given class))
        by_lender (Some p) named =
            let at = named_at class.name p named in
            let lends = lends_to k class at.0 p row named at.1 in
            let file = file_with files are.given p at.0 are.held at.1 in
            let lent_is : lent are.given class ≡ at.0 = lent_by are.given class at.0 lends (ap (λ w. class_named w class.name) (sym are.world_is) ∙ at.3) in
            subst (λ b. IsContent b (Holds (lent are.given class))) (sym (get_or_from_slice_get files p file.bytes [] file.there))
            (subst (λ c. IsContent file.bytes (Holds c)) (sym lent_is) file.has)
        by_lender None named = by_place named (in_place k class row)

    pub is_library : IsLibrary files are.given
    is_library = record {
      held = are.held;
      differ = are.differ;
      none_of_host = λ k d less. (are.may k d less).not_of_host;
      none_is_main = λ k d less. (are.may k d less).no_main;
      lends = λ class by borrows there same.
          let row = place_of all_borrowers class borrows in
          let at = place_of are.given by there in
          let named : number_named world by.name ≡ Some at.0 = numbered at.0 (loaded false by) (in_world at.0 by at.1) in
          lends_to row.0 class by at.0 row.1 (ap (number_named world) (sym same) ∙ named) at.1;
      string = has_string are.given (subst HasThree are.world_is three);
    }

    pub is_host : (lenders : List (Option ℕ)) (front : List ℕ) → AreTables world rows lenders front → AreContents system_bytes system_contents → 0 < length files
        → IsHost system_bytes files lenders front
    is_host lenders front tables holds some = record {
      own_is = refl;
      given = are.given;
      gives = is_library;
      files = record { system = system; others = others };
    }
      where
        given_some : 0 < length are.given
        given_some = subst (λ n. 0 < n) (sym (held_as_many files are.given are.held)) some

        system : AreContents (files_from system_bytes files 0 lenders) (map Holds (lent_classes are.given))
        system =
            subst (λ cs. AreContents (files_from system_bytes files 0 lenders) (map Holds cs)) (sym (lent_all are.given given_some))
            (subst (λ ls. AreContents (files_from system_bytes files 0 ls) (map Holds (map (lent are.given) all_borrowers)))
            (sym (tables.lend ∙ map_twice (λ (h : HeaderSeen). number_named world h.name) header_of all_borrowers))
            (contents_from system_bytes files (λ (c : Class). number_named world c.name) (lent are.given) 0 all_borrowers
            (λ j c e. subst (λ n. IsContent (file_of system_bytes files n (number_named world c.name)) (Holds (lent are.given c))) (sym (zero-add j)) (held_file holds j c e))))

        others : AreContents (files_at files front) (map Holds (with_library are.given).front)
        others =
            at_places files are.given front (with_library are.given).front are.held
            (in_given are.given front (in_front rows (map (loaded false) are.given))
            (subst (λ w. map (slice_get w) front ≡ map Some (in_front rows w)) are.world_is tables.stand)
            ∙ ap (map (λ x. Some x)) (stand_in are.given ∙ sym (in_front_are are.given given_some are.may are.differ)))
