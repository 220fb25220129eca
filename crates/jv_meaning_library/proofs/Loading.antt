-- In two worlds that agree the same known classes are loadable (JVMS 5.3.5), and have the same verdict before their methods.
use Rattle.std.proofs.Common.{◌≡◌, ℕ, Bool, true, false, ◌&&◌, ◌||◌, not, List, [], ◌++◌, Option, Some, None, refl, ap, ◌∙◌, subst}
use Rattle.std.specs.Prelude.{IsTrue}
use Rattle.std.specs.List.{Contains, list_all}
use Rattle.std.proofs.lemmas.Bool.{and_parts}
use Rattle.jv_class_structure.specs.Flags.{has, acc_final}
use Rattle.jv_class.specs.Class.{Class}
use Rattle.jv_meaning_world.specs.World.{Loaded, World, class_named, can_name}
use Rattle.jv_meaning_world.specs.Above.{superclass_names, super_names, supers_in, is_circular, superclass_in, superclasses}
use Rattle.jv_meaning_world.specs.Verdicts.{passes, superclass_passes, each_super, is_interface, have_right_kind, can_name_supers, is_loadable, has_final_super, breaks_final, verdict_of_class}
use Rattle.jv_meaning_world.specs.Laws.Above.{stands_itself, SystemStandsAlone}
use Rattle.jv_meaning_world.specs.Laws.Order.{object_name, leads_to, has_right_supers, IsRooted}
use Rattle.jv_meaning_world.proofs.Up.{found_super, named_stands, above_by_ways, above_is_transitive}
use Rattle.jv_meaning_world.proofs.OrderChains.{all_at}
use Rattle.jv_meaning_world.proofs.Standing.{loadable_by_all}
use Rattle.jv_meaning_typing.proofs.Searched.{superclass_is_super}
use Rattle.jv_meaning_typing.proofs.Loading.{verdict_by}
use Rattle.jv_meaning_library.proofs.Worlds.{same_test, and_same, or_same, Agree, turned, IsKnown, known_too, own_supers, superclass_same, above_known, above_too, is_above_same, each_same, super_known}
use Rattle.jv_meaning_library.proofs.Chains.{superclasses_same}

-- ---- in one world

stand_alone : (world : World) → IsRooted world → SystemStandsAlone world
stand_alone world rooted l s there t h =
    let right = and_parts (leads_to world object_name l) (has_right_supers world l.class) (rooted.system l there t) in
    let supers = and_parts (each_super world (λ x. x.by_system) l.class) (have_right_kind world l.class) right.1 in
    let found = found_super world l.class s h in
    subst (λ o. IsTrue (passes (λ x. x.by_system) o)) found.2 (all_at (λ name. passes (λ x. x.by_system) (class_named world name)) (super_names l.class) found.0 supers.0 found.1)

-- each direct super of a loadable class is loadable
pub super_loadable : (world : World) → IsRooted world → (l s : Loaded) → Contains world l → Contains world s → IsTrue (is_loadable world l)
    → Contains (supers_in world l.class) s → IsTrue (is_loadable world s)
super_loadable world rooted l s there at t h =
    let alone = stand_alone world rooted in
    let all = (loadable_by_all world l alone there).0 t in
    let direct = (above_by_ways world l.class s).1 ([], h) in
    (loadable_by_all world s alone at).1 (all.1 s direct, λ to k. all.1 to (above_is_transitive world l.class s to direct k))

-- a test that each direct super passes is passed by the superclass
pub superclass_passed : (world : World) (test : Loaded → Bool) (class : Class) (s : Loaded) → IsTrue (each_super world test class)
    → superclass_in world class ≡ Some s → IsTrue (test s)
superclass_passed world test class s all e =
    let found = found_super world class s (superclass_is_super world class s e) in
    subst (λ o. IsTrue (passes test o)) found.2 (all_at (λ name. passes test (class_named world name)) (super_names class) found.0 all found.1)

-- ---- in two

module _ (known : List ℕ → Bool) (v w : World) (agree : Agree known v w) where
  kind_same : (l : Loaded) → IsKnown known v l → have_right_kind v l.class ≡ have_right_kind w l.class
  kind_same l k = by_super l.class.super_class l.class.interfaces (own_supers known v w agree l k)
    where
      by_super : (o : Option (List ℕ)) (interfaces : List (List ℕ)) → IsTrue (list_all known (superclass_names o ++ interfaces))
          → (superclass_passes v (λ l. not (is_interface l)) o && list_all (λ name. passes is_interface (class_named v name)) interfaces)
          ≡ (superclass_passes w (λ l. not (is_interface l)) o && list_all (λ name. passes is_interface (class_named w name)) interfaces)
      by_super None interfaces h = each_same known v w agree is_interface is_interface (λ s i. refl) interfaces h
      by_super (Some name) interfaces h =
          let parts = and_parts (known name) (list_all known interfaces) h in
          and_same (passes (λ l. not (is_interface l)) (class_named v name)) (passes (λ l. not (is_interface l)) (class_named w name))
          (list_all (λ name. passes is_interface (class_named v name)) interfaces) (list_all (λ name. passes is_interface (class_named w name)) interfaces)
          (ap (passes (λ l. not (is_interface l))) (agree.named name parts.0))
          (λ t. each_same known v w agree is_interface is_interface (λ s i. refl) interfaces parts.1)

  supers_pass : (one other : Loaded → Bool) → ((s : Loaded) → IsKnown known v s → one s ≡ other s) → (l : Loaded) → IsKnown known v l
      → each_super v one l.class ≡ each_super w other l.class
  supers_pass one other same l k = each_same known v w agree one other same (super_names l.class) (own_supers known v w agree l k)

  circular_same : (l : Loaded) → IsKnown known v l → is_circular v l.class ≡ is_circular w l.class
  circular_same l k = is_above_same known v w agree l.class.name l k

  four_same : (s a b c d t e f g h : Bool) → s ≡ t → a ≡ e → b ≡ f → c ≡ g → d ≡ h
      → (s || (((not a && b) && c) && d)) ≡ (t || (((not e && f) && g) && h))
  four_same s a b c d t e f g h p q r x y = cc

  itself_same : (l : Loaded) → IsKnown known v l → stands_itself v l ≡ stands_itself w l
  itself_same l k =
      four_same l.by_system (is_circular v l.class) (each_super v (λ s. true) l.class) (have_right_kind v l.class) (can_name_supers v l)
      l.by_system (is_circular w l.class) (each_super w (λ s. true) l.class) (have_right_kind w l.class) (can_name_supers w l)
      refl (circular_same l k) (supers_pass (λ s. true) (λ s. true) (λ s i. refl) l k) (kind_same l k)
      (supers_pass (can_name l) (can_name l) (λ s i. refl) l k)

pub loadable_too : (known : List ℕ → Bool) (v w : World) → Agree known v w → (l : Loaded) → IsKnown known v l
    → IsTrue (is_loadable v l) → IsTrue (is_loadable w l)
loadable_too known v w agree l k t =
    let all = (loadable_by_all v l (stand_alone v agree.first_rooted) (named_stands v l.class.name l k.found)).0 t in
    let too = known_too known v w agree l k in
    (loadable_by_all w l (stand_alone w agree.second_rooted) (named_stands w l.class.name l too.found)).1 (
      subst IsTrue (itself_same known v w agree l k) all.0,
      λ s h.
          let back = above_too known w v (turned known v w agree) l s too h in
          subst IsTrue (itself_same known v w agree s (above_known known v w agree l s k back)) (all.1 s back),
    )

pub loadable_same : (known : List ℕ → Bool) (v w : World) → Agree known v w → (l : Loaded) → IsKnown known v l → is_loadable v l ≡ is_loadable w l
loadable_same known v w agree l k =
    same_test (is_loadable v l) (is_loadable w l) (loadable_too known v w agree l k)
    (loadable_too known w v (turned known v w agree) l (known_too known v w agree l k))

-- ---- the superclasses

module _ (known : List ℕ → Bool) (v w : World) (agree : Agree known v w) where
  -- of a class whose superclass is loadable
  pub chain_same : (l : Loaded) → IsKnown known v l → ((s : Loaded) → superclass_in v l.class ≡ Some s → IsTrue (is_loadable v s))
      → superclasses v l.class ≡ superclasses w l.class
  chain_same l k loadable =
      superclasses_same known v w agree l k loadable
      (λ s e. let at = superclass_same known v w agree l k ∙ e in
      let named = super_known known v w agree l s k (superclass_is_super v l.class s at) in loadable_too known v w agree s named (loadable s at))

  pub loadable_chain_same : (l : Loaded) → IsKnown known v l → IsTrue (is_loadable v l) → superclasses v l.class ≡ superclasses w l.class
  loadable_chain_same l k t =
      chain_same l k (λ s e. let up = superclass_is_super v l.class s e in
      super_loadable v agree.first_rooted l s (named_stands v l.class.name l k.found)
      (named_stands v s.class.name s (super_known known v w agree l s k up).found) t up)

  -- ---- the verdict before methods

  final_super_same : (l : Loaded) → IsKnown known v l → has_final_super v l.class ≡ has_final_super w l.class
  final_super_same l k = ap (passes (λ s. has s.class.access_flags acc_final)) (superclass_same known v w agree l k)

  by_tests : (c d s t k l n m f g : Bool) → c ≡ d → s ≡ t → k ≡ l → n ≡ m → (s ≡ true → f ≡ g) → verdict_by c s k n f ≡ verdict_by d t l m g
  by_tests c d true t k l n m f g p q r x y = let z = y refl in cc
  by_tests c d false t k l n m f g p q r x y = first c ∙ cc
    where
      first : (b : Bool) → verdict_by b false k n f ≡ verdict_by b false k n g
      first true = refl
      first false = refl

  pub verdict_same : (l : Loaded) → IsKnown known v l → verdict_of_class v l ≡ verdict_of_class w l
  verdict_same l k =
      by_tests (is_circular v l.class) (is_circular w l.class) (each_super v (is_loadable v) l.class) (each_super w (is_loadable w) l.class)
      (have_right_kind v l.class) (have_right_kind w l.class) (can_name_supers v l) (can_name_supers w l)
      (has_final_super v l.class || breaks_final l [] (superclasses v l.class)) (has_final_super w l.class || breaks_final l [] (superclasses w l.class))
      (circular_same known v w agree l k)
      (supers_pass known v w agree (is_loadable v) (is_loadable w) (λ s i. loadable_same known v w agree s i) l k) (kind_same known v w agree l k)
      (supers_pass known v w agree (can_name l) (can_name l) (λ s i. refl) l k)
      (λ t. or_same (has_final_super v l.class) (has_final_super w l.class) (breaks_final l [] (superclasses v l.class)) (breaks_final l [] (superclasses w l.class))
      (final_super_same l k)
      (ap (breaks_final l []) (chain_same l k (λ s e. superclass_passed v (is_loadable v) l.class s t e))))
