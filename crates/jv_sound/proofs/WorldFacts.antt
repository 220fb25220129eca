-- What holds of each class in the world of a judged guest: its file's rules, or the same by computation for a class of the system.
use Rattle.std.proofs.Common.{◌≡◌, ◌⊎◌, inl, inr, ℕ, Bool, true, false, ◌&&◌, ◌||◌, List, [], ◌∷◌, ◌++◌, map, Option, Some, None, refl, ap, subst}
use Rattle.std.specs.Prelude.{◌==◌, is_none, if◌then◌else◌, unwrap_or}
use Rattle.std.specs.List.{Contains, find, list_all, All}
use Rattle.std.specs.Str.{bytes_eq}
use Rattle.std.proofs.lemmas.Bool.{eqb-true}
use Rattle.std.proofs.lemmas.List.Elements.{Contains-append_cases, Contains-append_left, Contains-append_right, All-nil, All-cons}
use Rattle.jv_text.specs.Types.{TypesAgree}
use Rattle.jv_pool.specs.declared.constant.Constant.TheVariants.{String}
use Rattle.jv_pool.specs.Constants.{Entry}
use Rattle.jv_class.specs.Class.{Class, Field, Method}
use Rattle.jv_meaning_world.specs.FileContent.{FileContent, IsContent, AreContents}
use Rattle.jv_meaning_world.specs.declared.content.Content.TheVariants.{OtherVersion, NoClassFile, MoreThanProfile, Holds}
use Rattle.jv_meaning_world.specs.World.{HostClasses, Loaded, World, loaded, is_reserved, has_class, with_class_of, joined_all, classes_in}
use Rattle.jv_meaning_world.proofs.Up.{none, single, first, later}
use Rattle.jv_meaning_world.specs.Library.{borrowers, borrowers_more, can_lend, lent, system_with, with_library, with_methods_of}
use Rattle.jv_meaning_world.specs.System.Classes.{classes_with_files}
use Rattle.jv_meaning_world.specs.System.Io.{io}
use Rattle.jv_meaning_world.proofs.OrderWorlds.{in_library, to_held}
use Rattle.jv_meaning_world.proofs.OrderChains.{all_at}
use Rattle.jv_meaning_machine.specs.Alone.{Judged, IsJudged}
use Rattle.jv_sound.proofs.Logic.{clash}
use Rattle.jv_sound.proofs.Taking.{and_parts}
use Rattle.jv_sound.proofs.Formed.{class_name_test, super_name_test, field_test, method_test, code_test, constant_test, HasText, IsInitialText, IsFormed, IsCoded, class_is_formed, at_indices}
use Rattle.jv_sound.proofs.Judged.{in_mapped}

-- ---- the system's classes, computed

abbrev no_string : Entry → Bool
no_string (String text) = false
no_string _ = true

abbrev class_passes : Class → Bool
class_passes c =
    list_all (λ (f : Field). field_test c.access_flags f && is_none f.initial) c.fields
    && (list_all (λ (m : Method). method_test c.access_flags m) c.methods && list_all
    (λ (e : Entry). constant_test c.constant_pool e && no_string e) c.constant_pool)

abbrev names_pass : Class → Bool
names_pass c = class_name_test c.name && super_name_test c.super_class

-- the system's classes that have files, before anything is lent to them
abbrev own_with_files : List Class → List Class
own_with_files [] = classes_with_files
own_with_files (first ∷ more) = borrowers

abbrev later_interfaces : List Class → List Class
later_interfaces [] = []
later_interfaces (first ∷ more) = borrowers_more

own_passes : (library : List Class) → list_all class_passes (own_with_files library ++ later_interfaces library) ≡ true
own_passes [] = refl
own_passes (first ∷ more) = refl

own_names_pass : (library : List Class) → list_all names_pass (own_with_files library ++ later_interfaces library) ≡ true
own_names_pass [] = refl
own_names_pass (first ∷ more) = refl

own_coded : (library : List Class) → list_all (λ (c : Class). list_all code_test c.methods) (own_with_files library ++ later_interfaces library) ≡ true
own_coded [] = refl
own_coded (first ∷ more) = refl

io_passes : (class_passes io && names_pass io) ≡ true
io_passes = refl

no_initial_text : (f : Field) → is_none f.initial ≡ true → IsInitialText f.initial
no_initial_text f e = by_value f.initial e
  where
    by_value : (o : Option Rattle.jv_class.specs.Class.InitialValue) → is_none o ≡ true → IsInitialText o
    by_value None k = tt
    by_value (Some v) k = absurd (clash k)

no_text : (pool : List Entry) (e : Entry) → no_string e ≡ true → HasText pool e
no_text pool (String text) k = absurd (clash k)
no_text pool _ k = tt

all_by_test : {A : Type 0} (test : A → Bool) (xs : List A) → list_all test xs ≡ true → All (λ x. test x ≡ true) xs
all_by_test test [] h = All-nil (λ x. test x ≡ true)
all_by_test test (x ∷ xs) h = let parts = and_parts (test x) (list_all test xs) h in All-cons (λ x. test x ≡ true) x xs parts.0
    (all_by_test test xs parts.1)

passes_formed : (c : Class) → class_passes c ≡ true → names_pass c ≡ true → IsFormed c
passes_formed c h n =
    let fields = and_parts (list_all (λ (f : Field). field_test c.access_flags f && is_none f.initial) c.fields) _ h in
    let rest = and_parts (list_all (λ (m : Method). method_test c.access_flags m) c.methods)
    (list_all (λ (e : Entry). constant_test c.constant_pool e && no_string e) c.constant_pool) fields.1 in
    record {
      named = (and_parts (class_name_test c.name) (super_name_test c.super_class) n).0;
      superclass = (and_parts (class_name_test c.name) (super_name_test c.super_class) n).1;
      fields = λ f k. (and_parts (field_test c.access_flags f) (is_none f.initial)
          (all_at (λ (f : Field). field_test c.access_flags f && is_none f.initial) c.fields f fields.0 k)).0;
      initials = λ f k. no_initial_text f (and_parts (field_test c.access_flags f) (is_none f.initial)
          (all_at (λ (f : Field). field_test c.access_flags f && is_none f.initial) c.fields f fields.0 k)).1;
      methods = λ m k. all_at (λ (m : Method). method_test c.access_flags m) c.methods m rest.0 k;
      constants = λ index entry at.
          let both = and_parts (constant_test c.constant_pool entry) (no_string entry)
          (at_indices (λ (e : Entry). (constant_test c.constant_pool e && no_string e) ≡ true) c.constant_pool
          (all_by_test (λ (e : Entry). constant_test c.constant_pool e && no_string e) c.constant_pool rest.1) index entry at) in
          (both.0, no_text c.constant_pool entry both.1);
    }

-- ---- the classes of a guest are held by its files

one_from : (classes : List Class) (file : FileContent) (files : List FileContent) (class : Class)
    → Contains (with_class_of classes file) class → Contains classes class ⊎ Contains (file ∷ files) (Holds class)
one_from classes OtherVersion files class k = inl k
one_from classes NoClassFile files class k = inl k
one_from classes MoreThanProfile files class k = inl k
one_from classes (Holds c) files class k = by_test (is_reserved c.name || has_class classes c.name) k
  where
    by_end : Contains classes class ⊎ Contains (c ∷ []) class → Contains classes class ⊎ Contains (Holds c ∷ files) (Holds class)
    by_end (inl j) = inl j
    by_end (inr j) = inr (subst (λ (x : Class). Contains (Holds c ∷ files) (Holds x)) (single c class j) (first (Holds c) files))

    by_test : (b : Bool) → Contains (if b then classes else classes ++ c ∷ []) class
        → Contains classes class ⊎ Contains (Holds c ∷ files) (Holds class)
    by_test true j = inl j
    by_test false j = by_end (Contains-append_cases classes (c ∷ []) class j)

joined_from : (classes : List Class) (files : List FileContent) (class : Class) → Contains (joined_all classes files) class
    → Contains classes class ⊎ Contains files (Holds class)
joined_from classes [] class h = inl h
joined_from classes (file ∷ files) class h = by_part (joined_from (with_class_of classes file) files class h)
  where
    by_part : Contains (with_class_of classes file) class ⊎ Contains files (Holds class)
        → Contains classes class ⊎ Contains (file ∷ files) (Holds class)
    by_part (inl k) = one_from classes file files class k
    by_part (inr k) = inr (later file files (Holds class) k)

abbrev Both : Class → Type 0
Both class = IsFormed class × IsCoded class

held_formed : TypesAgree → (files : List (List ℕ)) (contents : List FileContent) → AreContents files contents → (class : Class)
    → Contains contents (Holds class) → Both class
held_formed agree [] [] are class k = absurd (none (Holds class) k)
held_formed agree [] (file ∷ contents) are class k = absurd are
held_formed agree (bytes ∷ files) [] are class k = absurd are
held_formed agree (bytes ∷ files) (file ∷ contents) are class k = by_part (λ j. held_formed agree files contents are.1 class j)
    (Contains-append_cases (file ∷ []) contents (Holds class) k)
  where
    content : IsContent bytes (Holds class) → Both class
    content h = class_is_formed agree h.0 class h.1.well_formed h.2.supported h.2.named

    by_part : (Contains contents (Holds class) → Both class) → Contains (file ∷ []) (Holds class) ⊎ Contains contents (Holds class)
        → Both class
    by_part again (inl here) = content (subst (IsContent bytes) (single file (Holds class) here) are.0)
    by_part again (inr there) = again there

-- ---- the system's classes with what a library lends them

same_flags : (c by : Class) → can_lend c by ≡ true → by.access_flags ≡ c.access_flags
same_flags c by e = eqb-true by.access_flags c.access_flags (and_parts (bytes_eq by.name c.name) (by.access_flags == c.access_flags) e).1

lent_formed : (c by : Class) → Both c → Both by → by.access_flags ≡ c.access_flags → Both (with_methods_of by c)
lent_formed c by own other same = (
  record {
    named = own.0.named;
    superclass = own.0.superclass;
    fields = own.0.fields;
    initials = own.0.initials;
    methods = λ m k. subst (λ (flags : ℕ). method_test flags m ≡ true) same (other.0.methods m k);
    constants = other.0.constants;
  },
  record { coded = other.1.coded },
)

found_can : (c : Class) (library : List Class) (by : Class) → find (can_lend c) library ≡ Some by → (can_lend c by ≡ true) × Contains library by
found_can c [] by e = absurd cc
found_can c (x ∷ library) by e = by_test (can_lend c x) refl e (λ k. found_can c library by k)
  where
    by_test : (b : Bool) → can_lend c x ≡ b → (if b then Some x else find (can_lend c) library) ≡ Some by
        → (find (can_lend c) library ≡ Some by → (can_lend c by ≡ true) × Contains library by) → (can_lend c by ≡ true) × Contains (x ∷ library) by
    by_test true t k again =
        let same : x ≡ by = cc in
        (subst (λ (y : Class). can_lend c y ≡ true) same t, subst (λ (y : Class). Contains (x ∷ library) y) same (first x library))
    by_test false t k again = let found = again k in (found.0, later x library by found.1)

lender_formed : (library : List Class) (c : Class) → Both c → ((by : Class) → Contains library by → Both by) → Both (lent library c)
lender_formed library c own each = by_found (find (can_lend c) library) refl
  where
    by_found : (o : Option Class) → find (can_lend c) library ≡ o → Both (with_methods_of (unwrap_or o c) c)
    by_found None e = own
    by_found (Some by) e = let can = found_can c library by e in lent_formed c by own (each by can.1) (same_flags c by can.0)

each_lent : (library : List Class) (own : List Class) → ((c : Class) → Contains own c → Both c) → ((by : Class) → Contains library by → Both by)
    → (c : Class) → Contains (map (lent library) own) c → Both c
each_lent library [] all each c h = absurd (none c h)
each_lent library (x ∷ own) all each c h =
    by_part (λ k. each_lent library own (λ y j. all y (later x own y j)) each c k) (Contains-append_cases (lent library x ∷ []) (map (lent library) own) c h)
  where
    by_part : (Contains (map (lent library) own) c → Both c) → Contains (lent library x ∷ []) c ⊎ Contains (map (lent library) own) c → Both c
    by_part again (inl k) = subst Both (single (lent library x) c k) (lender_formed library x (all x (first x own)) each)
    by_part again (inr k) = again k

module _ (library : List Class) (each : (by : Class) → Contains library by → Both by) where
  own_all : (c : Class) → Contains (own_with_files library ++ later_interfaces library) c → Both c
  own_all c h =
      let all = own_with_files library ++ later_interfaces library in (
        passes_formed c (all_at class_passes all c (own_passes library) h) (all_at names_pass all c (own_names_pass library) h),
        record { coded = λ m k. all_at code_test c.methods m (all_at (λ (c : Class). list_all code_test c.methods) all c (own_coded library) h) k },
      )

system_formed : (library : List Class) → ((by : Class) → Contains library by → Both by) → (c : Class) → Contains (system_with library) c
    → IsFormed c × (IsCoded c ⊎ (c ≡ io))
system_formed [] each c h = by_part (Contains-append_cases classes_with_files (io ∷ []) c h)
  where
    by_part : Contains classes_with_files c ⊎ Contains (io ∷ []) c → IsFormed c × (IsCoded c ⊎ (c ≡ io))
    by_part (inl k) = let both = own_all [] each c (Contains-append_left classes_with_files [] c k) in (both.0, inl both.1)
    by_part (inr k) =
        let is = single io c k in
        subst (λ (x : Class). IsFormed x × (IsCoded x ⊎ (x ≡ io))) is
        (passes_formed io (and_parts (class_passes io) (names_pass io) io_passes).0 (and_parts (class_passes io) (names_pass io) io_passes).1, inr refl)
system_formed (first_one ∷ more) each c h = by_part (Contains-append_cases (map (lent library) own) (io ∷ map (lent library) last) c h)
  where
    library : List Class
    library = first_one ∷ more

    own : List Class
    own = own_with_files (first_one ∷ more)

    last : List Class
    last = later_interfaces (first_one ∷ more)

    by_last : Contains (io ∷ []) c ⊎ Contains (map (lent library) last) c → IsFormed c × (IsCoded c ⊎ (c ≡ io))
    by_last (inl k) =
        let is = single io c k in
        subst (λ (x : Class). IsFormed x × (IsCoded x ⊎ (x ≡ io))) is
        (passes_formed io (and_parts (class_passes io) (names_pass io) io_passes).0 (and_parts (class_passes io) (names_pass io) io_passes).1, inr refl)
    by_last (inr k) =
        let both = each_lent library last (λ y j. own_all library each y (Contains-append_right own last y j)) each c k in (both.0, inl both.1)

    by_part : Contains (map (lent library) own) c ⊎ Contains (io ∷ map (lent library) last) c → IsFormed c × (IsCoded c ⊎ (c ≡ io))
    by_part (inl k) =
        let both = each_lent library own (λ y j. own_all library each y (Contains-append_left own last y j)) each c k in (both.0, inl both.1)
    by_part (inr k) = by_last (Contains-append_cases (io ∷ []) (map (lent library) last) c k)

-- each class of the world is formed; and it is coded, or it is host/Io
pub world_is_formed : TypesAgree → (library files : List (List ℕ)) (judged : Judged) → IsJudged library files judged → (l : Loaded)
    → Contains judged.program.world l → IsFormed l.class × (IsCoded l.class ⊎ (l ≡ loaded true io))
world_is_formed agree library files judged right l here = by_loader (Contains-append_cases (map (loaded true) host.system)
    (map (loaded false) (classes_in host right.contents)) l (subst (λ (w : World). Contains w l) right.world here))
  where
    host : HostClasses
    host = with_library right.given

    each : (by : Class) → Contains right.given by → Both by
    each by h = held_formed agree library (map Holds right.given) right.gives.held by (to_held right.given by h)

    of_guest : (c : Class) → Contains host.front c ⊎ Contains right.contents (Holds c) → Both c
    of_guest c (inl k) = each c (in_library right.given c k)
    of_guest c (inr k) = held_formed agree files right.contents right.held c k

    by_loader : Contains (map (loaded true) host.system) l ⊎ Contains (map (loaded false) (classes_in host right.contents)) l
        → IsFormed l.class × (IsCoded l.class ⊎ (l ≡ loaded true io))
    by_loader (inl k) =
        let c = in_mapped true host.system l k in
        let formed = system_formed right.given each c.0 c.1 in
        subst (λ (x : Loaded). IsFormed x.class × (IsCoded x.class ⊎ (x ≡ loaded true io))) c.2
        (formed.0, elim formed.1 [ inl coded ↦ inl coded | inr is ↦ inr (ap (loaded true) is) ])
    by_loader (inr k) =
        let c = in_mapped false (classes_in host right.contents) l k in
        let both = of_guest c.0 (joined_from host.front right.contents c.0 c.1) in
        subst (λ (x : Loaded). IsFormed x.class × (IsCoded x.class ⊎ (x ≡ loaded true io))) c.2 (both.0, inl both.1)
