-- The classes of the system and of a library have no main method, so a main method is one of the guest's own classes.
use Rattle.std.proofs.Common.{◌≡◌, ℕ, Bool, true, false, not, cond, ◌&&◌, List, [], ◌∷◌, map, Option, Some, None, refl, sym, ap, subst, ◌∙◌, true≢false, inl, inr, codes}
use Rattle.std.specs.Prelude.{◌⊎◌, is_none, is_some}
use Rattle.std.specs.List.{Contains, find, list_all}
use Rattle.std.specs.Option.{option_and_then, option_map}
use Rattle.std.specs.Str.{bytes_eq}
use Rattle.std.proofs.lemmas.List.Elements.{All-contains, Contains-append_cases}
use Rattle.jv_meaning_world.specs.Library.{IsLibrary, borrowers, borrowers_more, lender, lent, system_with, with_library, with_methods_of}
use Rattle.jv_meaning_world.specs.System.Classes.{system_classes}
use Rattle.jv_meaning_world.specs.System.Io.{io}
use Rattle.jv_class.specs.Class.{Class, Method, method_named}
use Rattle.jv_meaning_world.specs.FileContent.{FileContent}
use Rattle.jv_meaning_world.specs.World.{Loaded, World, loaded, class_named, classes_in, has_class, world_of}
use Rattle.jv_meaning_world.specs.Overriding.{Declared}
use Rattle.jv_meaning_world.specs.LookUps.{method_in, method_if}
use Rattle.jv_meaning_world.specs.Verdicts.{is_loadable, declared_by}
use Rattle.jv_meaning_world.proofs.Up.{none, single, named_stands}
use Rattle.jv_meaning_world.proofs.OrderChains.{all_at}
use Rattle.jv_meaning_world.proofs.OrderWorlds.{in_library, in_mapped}
use Rattle.jv_meaning_world.proofs.Libraries.{IsFree, joined_free, lender_stands, not_of_library}
use Rattle.jv_meaning_machine.specs.Initialization.{is_main, main_in}
use Rattle.jv_meaning_machine.specs.Laws.Mains.{NoMainWithoutFiles, MainIsItsOwn}

-- nothing is found where each element has nothing
module _ {A B : Type 0} (look : A → Option B) (test : A → Bool) where
  -- of two steps of a search, the first of which would find nothing
  by_test :
      (a : A) (b : Bool) (rest : Option A) → look a ≡ None → option_and_then look rest ≡ None
      → option_and_then look (cond b (Some a) rest) ≡ None
  by_test a true rest e h = e
  by_test a false rest e h = h

  by_look :
      (a : A) (o : Option B) (others : Bool) → look a ≡ o → (is_none o && others) ≡ true
      → (look a ≡ None) × (others ≡ true)
  by_look a None others e h = (e, h)
  by_look a (Some b) others e h = absurd (true≢false (sym h))

  none_found : (all : List A) → list_all (λ a. is_none (look a)) all ≡ true → option_and_then look (find test all) ≡ None
  none_found [] h = refl
  none_found (a ∷ more) h =
      let parts : (look a ≡ None) × (list_all (λ a. is_none (look a)) more ≡ true) =
      by_look a (look a) (list_all (λ a. is_none (look a)) more) refl h in
      by_test a (test a) (find test more) parts.0 (none_found more parts.1)

pub no_main_without_files : NoMainWithoutFiles
no_main_without_files name =
    none_found (main_in (world_of (with_library []) [])) (λ l. bytes_eq l.class.name name) (world_of (with_library []) []) refl

-- ---- no class of the system's has a method that could be main, whatever a library lends it

abbrev has_main : Class → Bool
has_main c = is_some (method_named c (codes "main") (codes "([Ljava/lang/String;)V"))

abbrev has_none : Class → Bool
has_none c = not (has_main c)

denied : (b : Bool) → not b ≡ true → b ≡ false
denied true h = absurd (true≢false (sym h))
denied false h = refl

module _ (library : List Class) (mainless : (c : Class) → Contains library c → has_main c ≡ false) where
  lent_none : (c : Class) → has_main c ≡ false → has_main (lent library c) ≡ false
  lent_none c own = by_lender (lender_stands library c)
    where
      by_lender : (lender library c ≡ c) ⊎ Contains library (lender library c) → has_main (lent library c) ≡ false
      by_lender (inl e) = subst (λ (x : Class). has_main (with_methods_of x c) ≡ false) (sym e) own
      by_lender (inr k) = mainless (lender library c) k

  all_lent : (own : List Class) → list_all has_none own ≡ true → (c : Class) → Contains (map (lent library) own) c → has_main c ≡ false
  all_lent [] all c h = absurd (none c h)
  all_lent (x ∷ own) all c h =
      by_part (λ k. all_lent own (both_true (has_none x) (list_all has_none own) all).1 c k)
      (Contains-append_cases (lent library x ∷ []) (map (lent library) own) c h)
    where
      both_true : (a b : Bool) → (a && b) ≡ true → (a ≡ true) × (b ≡ true)
      both_true true b f = (refl, f)
      both_true false b f = absurd (true≢false (sym f))

      by_part : (Contains (map (lent library) own) c → has_main c ≡ false) → Contains (lent library x ∷ []) c ⊎ Contains (map (lent library) own) c
          → has_main c ≡ false
      by_part again (inl k) =
          subst (λ (y : Class). has_main y ≡ false) (single (lent library x) c k)
          (lent_none x (denied (has_main x) (both_true (has_none x) (list_all has_none own) all).0))
      by_part again (inr k) = again k

alone_none : list_all has_none system_classes ≡ true
alone_none = refl

borrowers_none : list_all has_none borrowers ≡ true
borrowers_none = refl

more_none : list_all has_none borrowers_more ≡ true
more_none = refl

io_none : has_main io ≡ false
io_none = refl

system_none : (library : List Class) → ((c : Class) → Contains library c → has_main c ≡ false) → (c : Class) → Contains (system_with library) c → has_main c ≡ false
system_none [] mainless c h = denied (has_main c) (all_at has_none system_classes c alone_none h)
system_none (one ∷ more) mainless c h = by_part (Contains-append_cases (map (lent (one ∷ more)) borrowers) (io ∷ map (lent (one ∷ more)) borrowers_more) c h)
  where
    by_rest : Contains (io ∷ []) c ⊎ Contains (map (lent (one ∷ more)) borrowers_more) c → has_main c ≡ false
    by_rest (inl k) = subst (λ (y : Class). has_main y ≡ false) (single io c k) io_none
    by_rest (inr k) = all_lent (one ∷ more) mainless borrowers_more more_none c k

    by_part : Contains (map (lent (one ∷ more)) borrowers) c ⊎ Contains (io ∷ map (lent (one ∷ more)) borrowers_more) c → has_main c ≡ false
    by_part (inl k) = all_lent (one ∷ more) mainless borrowers borrowers_none c k
    by_part (inr k) = by_rest (Contains-append_cases (io ∷ []) (map (lent (one ∷ more)) borrowers_more) c k)

-- ---- a class with one is a guest's

abbrev IsOwn : List Class → Loaded → Type 0
IsOwn library l = (l.by_system ≡ false) × (has_class library l.class.name ≡ false)

clashing : {P : Type 0} (b : Bool) → b ≡ true → b ≡ false → P
clashing b h k = absurd (true≢false (sym h ∙ k))

with_main : (files : List (List ℕ)) (library : List Class) (contents : List FileContent) → IsLibrary files library → (l : Loaded)
    → Contains (world_of (with_library library) contents) l → has_main l.class ≡ true → IsOwn library l
with_main files library contents is l there main =
    by_loader (Contains-append_cases (map (loaded true) (system_with library)) (map (loaded false) (classes_in (with_library library) contents)) l there)
  where
    mainless : (c : Class) → Contains library c → has_main c ≡ false
    mainless c k = All-contains (λ (x : Class). has_main x ≡ false) library c is.none_is_main k

    of_guest : (c : Class) → has_main c ≡ true → Contains (with_library library).front c ⊎ IsFree (with_library library).front c → IsOwn library (loaded false c)
    of_guest c m (inl k) = clashing (has_main c) m (mainless c (in_library library c k))
    of_guest c m (inr free) = (refl, not_of_library library c free)

    by_loader : Contains (map (loaded true) (system_with library)) l ⊎ Contains (map (loaded false) (classes_in (with_library library) contents)) l → IsOwn library l
    by_loader (inl k) =
        let known = in_mapped true (system_with library) l k in
        clashing (has_main l.class) main
        (subst (λ (x : Loaded). has_main x.class ≡ false) known.2 (system_none library mainless known.0 known.1))
    by_loader (inr k) =
        let known = in_mapped false (classes_in (with_library library) contents) l k in
        subst (λ (x : Loaded). IsOwn library x) known.2
        (of_guest known.0 (subst (λ (x : Loaded). has_main x.class ≡ true) (sym known.2) main)
        (joined_free (with_library library).front contents known.0 known.1))

-- a main method in a class is its own, and the class has one
main_of : (world : World) (l : Loaded) (d : Declared) → main_in world l ≡ Some d → (l ≡ d.by) × (has_main l.class ≡ true)
main_of world l d e = by_loadable (is_loadable world l) e
  where
    by_test : (m : Method) (b : Bool) → cond b (Some (declared_by l m)) None ≡ Some d → l ≡ d.by
    by_test m true f = let same : declared_by l m ≡ d = cc in ap (λ (x : Declared). x.by) same
    by_test m false f = absurd cc

    by_method : (o : Option Method) → method_named l.class (codes "main") (codes "([Ljava/lang/String;)V") ≡ o
        → method_if is_main (option_map (declared_by l) o) ≡ Some d → (l ≡ d.by) × (has_main l.class ≡ true)
    by_method None k f = absurd cc
    by_method (Some m) k f = (by_test m (is_main (declared_by l m)) f, ap (λ (o : Option Method). is_some o) k)

    by_loadable : (b : Bool) → (elim b [ false ↦ None | true ↦ method_if is_main (method_in (codes "main") (codes "([Ljava/lang/String;)V") l) ]) ≡ Some d
        → (l ≡ d.by) × (has_main l.class ≡ true)
    by_loadable true f = by_method (method_named l.class (codes "main") (codes "([Ljava/lang/String;)V")) refl f
    by_loadable false f = absurd cc

pub main_is_its_own : MainIsItsOwn
main_is_its_own files library contents name d is e = by_class (class_named (world_of (with_library library) contents) name) refl e
  where
    by_class : (o : Option Loaded) → class_named (world_of (with_library library) contents) name ≡ o
        → option_and_then (main_in (world_of (with_library library) contents)) o ≡ Some d → IsOwn library d.by
    by_class None f k = absurd cc
    by_class (Some l) f k =
        let main = main_of (world_of (with_library library) contents) l d k in
        subst (λ (x : Loaded). IsOwn library x) main.0
        (with_main files library contents is l (named_stands (world_of (with_library library) contents) name l f) main.1)
