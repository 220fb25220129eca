-- A closed library that stands beside one guest's files stands beside each one's.
use Rattle.std.proofs.Common.{◌≡◌, ℕ, ◌+◌, Bool, true, false, List, [], ◌∷◌, ◌++◌, length, map, take, Option, Some, None, refl, sym, ap, subst, ◌∙◌}
use Rattle.std.specs.Prelude.{IsTrue}
use Rattle.std.proofs.lemmas.List.{take-map, length-map}
use Rattle.std.proofs.Math.Seq.{take-append_seam, take-append-add}
use Rattle.jv_class.specs.Class.{Class}
use Rattle.jv_meaning_world.specs.FileContent.{FileContent, AreContents, OneContent}
use Rattle.jv_meaning_world.specs.declared.content.Content.TheVariants.{Holds}
use Rattle.jv_meaning_world.specs.Library.{IsLibrary, with_library}
use Rattle.jv_meaning_world.specs.World.{World, HostClasses, classes_in, loaded, world_of}
use Rattle.jv_meaning_machine.specs.Alone.{Stands}
use Rattle.jv_meaning_library.specs.Closed.{is_closed, is_closed_world, world_alone}
use Rattle.jv_meaning_library.specs.Law.{ClosedStandsOnce}
use Rattle.jv_verify.specs.Files.{Verified, AreFilesOf, AreVerified}
use Rattle.jv_verify.proofs.Numbered.{all_grow}
use Rattle.jv_library.specs.Inside.Known.{StandsBesideOne, StandsBesideAll}

-- ---- the classes of a library's files are known

one_list : OneContent → (files : List (List ℕ)) (contents others : List FileContent) → AreContents files contents → AreContents files others → contents ≡ others
one_list one [] [] [] h k = refl
one_list one [] [] (o ∷ others) h k = absurd k
one_list one [] (c ∷ contents) others h k = absurd h
one_list one (f ∷ files) [] others h k = absurd h
one_list one (f ∷ files) (c ∷ contents) [] h k = absurd k
one_list one (f ∷ files) (c ∷ contents) (o ∷ others) h k =
    ap (λ (x : FileContent). x ∷ contents) (one f c o h.0 k.0) ∙ ap (λ (xs : List FileContent). o ∷ xs) (one_list one files contents others h.1 k.1)

one_held : (a b : List Class) → map Holds a ≡ map Holds b → a ≡ b
one_held [] [] e = refl
one_held [] (d ∷ b) e = absurd cc
one_held (c ∷ a) [] e = absurd cc
one_held (c ∷ a) (d ∷ b) e =
    ap (λ (x : Class). x ∷ a) (ap (λ (l : List FileContent). held_is (first_of l) c) e) ∙ ap (λ (xs : List Class). d ∷ xs) (one_held a b (ap rest_of e))
  where
    held_is : Option FileContent → Class → Class
    held_is (Some (Holds c)) d = c
    held_is _ d = d

    first_of : List FileContent → Option FileContent
    first_of [] = None
    first_of (x ∷ a) = Some x

    rest_of : List FileContent → List FileContent
    rest_of [] = []
    rest_of (x ∷ a) = a

one_library : OneContent → (library : List (List ℕ)) (a b : List Class) → IsLibrary library a → IsLibrary library b → a ≡ b
one_library one library a b h k = one_held a b (one_list one library (map Holds a) (map Holds b) h.held k.held)

-- ---- the first classes of a guest's world are those that its host gives

module _ (given : List Class) (contents : List FileContent) (verified : Verified) (are : AreVerified given contents verified) where
  abbrev host : HostClasses
  host = with_library given

  abbrev of_system : World
  of_system = map (loaded true) host.system

  more : (rest : List Class) × (classes_in host contents ≡ host.front ++ rest)
  more = all_grow host.front contents

  in_front : take (length host.front) (map (loaded false) (host.front ++ more.0)) ≡ map (loaded false) host.front
  in_front =
      take-map (loaded false) (length host.front) (host.front ++ more.0)
      ∙ ap (map (loaded false)) (take-append_seam host.front more.0)

  pub first_are : take verified.host verified.world ≡ world_alone given
  first_are =
      ap (λ (n : ℕ). take n verified.world) (are.host ∙ ap (λ (n : ℕ). n + length host.front) (sym (length-map host.system (loaded true))))
      ∙ ap (take (length of_system + length host.front)) (are.world ∙ ap (λ (cs : List Class). of_system ++ map (loaded false) cs) more.1)
      ∙ take-append-add of_system (map (loaded false) (host.front ++ more.0)) (length host.front)
      ∙ ap (λ (w : World). of_system ++ w) in_front

-- ---- what is known

module _ (one : OneContent) (once : ClosedStandsOnce) (library files : List (List ℕ)) (verified : Verified) (are : AreFilesOf library files verified) where
  pub closed_here : (closed : Bool) → closed ≡ is_closed_world (take verified.host verified.world) → IsTrue closed → IsTrue (is_closed are.given)
  closed_here closed is so = sym (ap is_closed_world (first_are are.given are.contents verified are.found)) ∙ (sym is ∙ so)

  pub beside_all : IsTrue (is_closed are.given) → StandsBesideOne library → StandsBesideAll library
  beside_all closed stood others other beside =
      subst (λ (w : World). Stands w (with_library beside.given)) (sym beside.found.world)
      (subst (λ (cs : List Class). Stands (world_of (with_library cs) beside.contents) (with_library cs)) to
      ((once library first.given first.gives closed_first others beside.contents beside.read).0
      ((once library first.given first.gives closed_first stood.0 first.contents first.read).1
      (subst (λ (w : World). Stands w (with_library first.given)) first.found.world stood.3))))
    where
      first : AreFilesOf library stood.0 stood.1
      first = stood.2

      to : first.given ≡ beside.given
      to = one_library one library first.given beside.given first.gives beside.gives

      closed_first : IsTrue (is_closed first.given)
      closed_first = subst (λ (cs : List Class). IsTrue (is_closed cs)) (one_library one library are.given first.given are.gives first.gives) closed
