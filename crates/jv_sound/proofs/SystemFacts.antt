-- Facts of the system's classes in the world of any guest: what the machine throws, and of which classes it makes objects.
use Rattle.std.proofs.Common.{◌≡◌, ◌⊎◌, inl, inr, ℕ, Bool, true, false, not, ◌&&◌, ◌||◌, List, [], ◌∷◌, ◌++◌, map, Option, Some, None, refl, sym, ap, subst, ◌∙◌}
use Rattle.std.specs.Prelude.{IsTrue, codes}
use Rattle.std.specs.List.{Contains, list_all, list_any}
use Rattle.std.specs.Str.{bytes_eq}
use Rattle.std.proofs.lemmas.Bool.{and_from, or_left}
use Rattle.std.proofs.lemmas.List.Elements.{Contains-append_cases}
use Rattle.jv_stackmap.specs.declared.verification.VerificationTypeOf.TheVariants as types
use Rattle.jv_class.specs.Class.{Class, Field, field_named}
use Rattle.jv_meaning_world.specs.World.{Loaded, World, loaded, class_named}
use Rattle.jv_meaning_world.specs.Above.{above}
use Rattle.jv_meaning_world.specs.Laws.Above.{IsWayUp}
use Rattle.jv_meaning_world.specs.Verdicts.{is_interface, is_loadable}
use Rattle.jv_meaning_world.proofs.Up.{named_stands, above_by_ways, super_is_named}
use Rattle.jv_meaning_typing.specs.LinkErrors.{LinkError, error_class}
use Rattle.jv_meaning_typing.specs.LinkErrors.LinkError.{NoClassDefFoundError, ClassCircularityError, IncompatibleClassChangeError, IllegalAccessError, VerifyError, NoSuchFieldError, NoSuchMethodError, AbstractMethodError, InstantiationError}
use Rattle.jv_meaning_world.proofs.OrderChains.{all_at, any_found}
use Rattle.jv_meaning_world.proofs.Order.{below_is_transitive}
use Rattle.jv_meaning_world.specs.Flow.{flows}
use Rattle.jv_meaning_world.specs.Laws.Order.{IsBelow, erased, names_interface, object_name}
use Rattle.jv_meaning_typing.specs.Named.{class_type, throwable_type}
use Rattle.jv_meaning_machine.specs.State.{Program, is_class_accepted}
use Rattle.jv_meaning_machine.specs.Initialization.{is_verified}
use Rattle.jv_meaning_machine.specs.Effects.{out_of_memory, null_pointer, array_index, array_store, negative_size, class_cast, division_by_zero}
use Rattle.jv_sound.specs.Values.{IsObject, object_type}
use Rattle.jv_sound.specs.Sound.{IsSound}
use Rattle.jv_meaning_world.specs.Library.{system_with}
use Rattle.jv_sound.specs.Effects.{stack_overflow, IsThrown}
use Rattle.jv_sound.proofs.Logic.{clash}
use Rattle.jv_sound.proofs.Taking.{and_parts}
use Rattle.jv_sound.proofs.Memories.{IsMakeable}
use Rattle.jv_sound.proofs.Judged.{in_mapped, system_loadable}

abbrev pub with_guests : List Class → World → World
with_guests library guests = map (loaded true) (system_with library) ++ guests

abbrev below_throwable : World → Loaded → Bool
below_throwable world l = flows world (erased world (types.Class l.class.name)) (erased world throwable_type)

abbrev thrown_in : World → Option Loaded → Bool
thrown_in world None = false
thrown_in world (Some l) = l.by_system && below_throwable world l

abbrev pub raised_names : List (List ℕ)
raised_names =
    null_pointer ∷ array_index ∷ array_store ∷ negative_size ∷ class_cast ∷ division_by_zero ∷ stack_overflow ∷ codes
    "java/lang/OutOfMemoryError"
    ∷ codes "java/lang/ExceptionInInitializerError" ∷ error_class NoClassDefFoundError ∷ error_class ClassCircularityError ∷ error_class
    IncompatibleClassChangeError ∷ error_class IllegalAccessError
    ∷ error_class VerifyError ∷ error_class NoSuchFieldError ∷ error_class NoSuchMethodError ∷ error_class AbstractMethodError ∷ error_class
    InstantiationError ∷ []

all_thrown : (library : List Class) (guests : World) → list_all (λ (name : List ℕ). thrown_in (with_guests library guests)
    (class_named (with_guests library guests) name)) raised_names ≡ true
all_thrown [] guests = refl
all_thrown (_ ∷ _) guests = refl

is_thrown : (world : World) (name : List ℕ) → thrown_in world (class_named world name) ≡ true → IsThrown world name
is_thrown world name h = by_loaded (class_named world name) refl h
  where
    by_loaded : (o : Option Loaded) → class_named world name ≡ o → thrown_in world o ≡ true → IsThrown world name
    by_loaded None e k = absurd (clash k)
    by_loaded (Some l) e k = let parts = and_parts l.by_system (below_throwable world l) k in record
        { l = l; named = e; by_system = parts.0; below = parts.1 }

raised_is_thrown : (library : List Class) (guests : World) (name : List ℕ) → IsTrue (list_any (bytes_eq name) raised_names) → IsThrown (with_guests library guests) name
raised_is_thrown library guests name h =
    let found = any_found (bytes_eq name) raised_names h in
    let same : name ≡ found.0 = Rattle.jv_meaning_world.proofs.Up.same_name name found.0 found.2 in
    subst (IsThrown (with_guests library guests)) (sym same)
    (is_thrown (with_guests library guests) found.0 (all_at (λ (name : List ℕ). thrown_in (with_guests library guests)
    (class_named (with_guests library guests) name)) raised_names found.0 (all_thrown library guests) found.1))

-- a class of the system below Throwable is no interface
system_plain : (library : List Class) (guests : World) → list_all (λ (c : Class). not (below_throwable (with_guests library guests) (loaded true c)) || not
    (is_interface (loaded true c))) (system_with library) ≡ true
system_plain [] guests = refl
system_plain (_ ∷ _) guests = refl

out_below : (library : List Class) (guests : World) → IsBelow (with_guests library guests) (class_type (codes "java/lang/OutOfMemoryError")) throwable_type
out_below [] guests = refl
out_below (_ ∷ _) guests = refl

no_throwable_interface : (library : List Class) (guests : World) → names_interface (with_guests library guests) (codes "java/lang/Throwable") ≡ false
no_throwable_interface [] guests = refl
no_throwable_interface (_ ∷ _) guests = refl

one_some : (l m : Loaded) → Some l ≡ Some m → l ≡ m
one_some l m e = cc

no_object_fields : (library : List Class) (guests : World) (l : Loaded) → class_named (with_guests library guests) object_name ≡ Some l → l.class.fields ≡ []
no_object_fields [] guests l e = ap (λ (x : Loaded). x.class.fields) (sym (one_some _ l e))
no_object_fields (_ ∷ _) guests l e = ap (λ (x : Loaded). x.class.fields) (sym (one_some _ l e))

all_made : {A : Type 0} (test : A → Bool) (xs : List A) → ((x : A) → Contains xs x → test x ≡ true) → list_all test xs ≡ true
all_made test [] h = refl
all_made test (x ∷ xs) h = and_from (test x) (list_all test xs) (h x (Rattle.jv_meaning_world.proofs.Up.first x xs))
    (all_made test xs (λ y k. h y (Rattle.jv_meaning_world.proofs.Up.later x xs y k)))

or_second : (a b : Bool) → (not a || not b) ≡ true → a ≡ true → b ≡ false
or_second true false h e = refl
or_second true true h e = absurd (clash h)
or_second false b h e = absurd (clash e)

module _ (program : Program) (sound : IsSound program) where
  guests : World
  guests = map (loaded false) sound.guests

  pub raised : (name : List ℕ) → IsTrue (list_any (bytes_eq name) raised_names) → IsThrown program.world name
  unfolding guests
  raised name h = subst (λ (w : World). IsThrown w name) (sym sound.world) (raised_is_thrown sound.library guests name h)

  pub link_error_is_thrown : (error : LinkError) → IsThrown program.world (error_class error)
  link_error_is_thrown NoClassDefFoundError = raised (error_class NoClassDefFoundError) refl
  link_error_is_thrown ClassCircularityError = raised (error_class ClassCircularityError) refl
  link_error_is_thrown IncompatibleClassChangeError = raised (error_class IncompatibleClassChangeError) refl
  link_error_is_thrown IllegalAccessError = raised (error_class IllegalAccessError) refl
  link_error_is_thrown VerifyError = raised (error_class VerifyError) refl
  link_error_is_thrown NoSuchFieldError = raised (error_class NoSuchFieldError) refl
  link_error_is_thrown NoSuchMethodError = raised (error_class NoSuchMethodError) refl
  link_error_is_thrown AbstractMethodError = raised (error_class AbstractMethodError) refl
  link_error_is_thrown InstantiationError = raised (error_class InstantiationError) refl

  pub throwable_is_plain : IsTrue (names_interface program.world (codes "java/lang/Throwable")) → ⊥
  unfolding guests
  throwable_is_plain h = clash (sym (ap (λ (w : World). names_interface w
      (codes "java/lang/Throwable")) sound.world ∙ no_throwable_interface sound.library guests) ∙ h)

  pub object_has_none : (l : Loaded) → class_named program.world object_name ≡ Some l → (name descriptor : List ℕ) (f : Field)
      → field_named l.class name descriptor ≡ Some f → ⊥
  unfolding guests
  object_has_none l e name descriptor f k =
      no_field (no_object_fields sound.library guests l (ap (λ (w : World). class_named w object_name) (sym sound.world) ∙ e)) k
    where
      no_field : l.class.fields ≡ [] → field_named l.class name descriptor ≡ Some f → ⊥
      no_field z k = not_some (sym (ap (Rattle.std.specs.List.find
          (λ (f : Field). bytes_eq f.name name && bytes_eq f.descriptor descriptor)) z) ∙ k)
        where
          not_some : None ≡ Some f → ⊥
          not_some j = cc

  pub out_of_memory_is_thrown : (objects : List Rattle.jv_meaning_machine.specs.Objects.Object)
      → IsObject program.world objects (class_type (codes "java/lang/OutOfMemoryError")) out_of_memory
      → IsObject program.world objects throwable_type out_of_memory
  unfolding guests
  out_of_memory_is_thrown objects h = record {
    object = h.object;
    there = h.there;
    constructed = h.constructed;
    below = below_is_transitive program.world sound.rooted (object_type h.object)
        (class_type (codes "java/lang/OutOfMemoryError")) throwable_type h.below
        (subst (λ (w : World). IsBelow w (class_type (codes "java/lang/OutOfMemoryError")) throwable_type) (sym sound.world)
        (out_below sound.library guests));
  }

  -- what is above a class of the system is the system's
  above_by_system : (l : Loaded) → Contains program.world l → l.by_system ≡ true → (s : Loaded) → Contains (above program.world l.class) s
      → s.by_system ≡ true
  above_by_system l here by s h = let w = (above_by_ways program.world l.class s).0 h in by_way w.0 l here by w.1
    where
      by_way : (between : List Loaded) (x : Loaded) → Contains program.world x → x.by_system ≡ true
          → IsWayUp program.world x.class between s → s.by_system ≡ true
      by_way [] x k b w = sound.alone x s k b w
      by_way (y ∷ more) x k b w = by_way more y (named_stands program.world y.class.name y (super_is_named program.world x.class y w.0))
          (sound.alone x y k b w.0) w.1

  pub system_verified : (l : Loaded) → Contains program.world l → l.by_system ≡ true → is_verified program l ≡ true
  system_verified l here by =
      and_from (is_class_accepted program l) (list_all (is_class_accepted program) (above program.world l.class)) (or_left l.by_system _ by)
      (all_made (is_class_accepted program) (above program.world l.class) (λ s h. or_left s.by_system _ (above_by_system l here by s h)))

  of_system : (l : Loaded) → Contains program.world l → l.by_system ≡ true → (c : Class) × Contains (system_with sound.library) c × (loaded true c ≡ l)
  of_system l here by = by_loader (Contains-append_cases (map (loaded true) (system_with sound.library)) (map (loaded false) sound.guests) l
      (subst (λ (w : World). Contains w l) sound.world here))
    where
      by_loader : Contains (map (loaded true) (system_with sound.library)) l ⊎ Contains (map (loaded false) sound.guests) l
          → (c : Class) × Contains (system_with sound.library) c × (loaded true c ≡ l)
      by_loader (inl k) = in_mapped true (system_with sound.library) l k
      by_loader (inr k) = let c = in_mapped false sound.guests l k in absurd (clash (ap (λ (x : Loaded). x.by_system) c.2 ∙ by))

  -- objects can be made of each class that is thrown
  pub makeable : (name : List ℕ) (h : IsThrown program.world name) → IsMakeable program h.l
  unfolding guests
  makeable name h =
      let here = named_stands program.world name h.l h.named in
      let c = of_system h.l here h.by_system in
      let below : below_throwable (with_guests sound.library guests) (loaded true c.0) ≡ true = subst
      (λ (w : World). below_throwable w (loaded true c.0) ≡ true) sound.world
      (subst (λ (x : Loaded). below_throwable program.world x ≡ true) (sym c.2) h.below) in
      record {
        named = sound.named h.l here;
        loadable = system_loadable program.world h.l h.by_system;
        verified = system_verified h.l here h.by_system;
        plain = ap is_interface (sym c.2)
            ∙ or_second (below_throwable (with_guests sound.library guests) (loaded true c.0)) (is_interface (loaded true c.0))
            (all_at (λ (c : Class). not (below_throwable (with_guests sound.library guests) (loaded true c)) || not
            (is_interface (loaded true c))) (system_with sound.library) c.0 (system_plain sound.library guests) c.1) below;
      }

pub throwable_is_not_object : codes "java/lang/Throwable" ≡ object_name → ⊥
throwable_is_not_object e = clash (ap (λ (n : List ℕ). bytes_eq n object_name) e)

-- what is thrown at the beginning of an initialization or where words are not left
pub system_name : (name : List ℕ) → IsTrue (bytes_eq name (codes "java/lang/VerifyError") ||
    (bytes_eq name (codes "java/lang/NoClassDefFoundError") || bytes_eq name (codes "java/lang/StackOverflowError")))
    → IsTrue (list_any (bytes_eq name) raised_names)
system_name name h = by_first (bytes_eq name (codes "java/lang/VerifyError")) refl h
  where
    named : (other : List ℕ) → bytes_eq name other ≡ true → list_any (bytes_eq other) raised_names ≡ true
        → list_any (bytes_eq name) raised_names ≡ true
    named other e k = subst (λ (n : List ℕ). list_any (bytes_eq n) raised_names ≡ true)
        (sym (Rattle.jv_meaning_world.proofs.Up.same_name name other e)) k

    by_second : (b : Bool) → bytes_eq name (codes "java/lang/NoClassDefFoundError") ≡ b
        → (b || bytes_eq name (codes "java/lang/StackOverflowError")) ≡ true → list_any (bytes_eq name) raised_names ≡ true
    by_second true e k = named (codes "java/lang/NoClassDefFoundError") e refl
    by_second false e k = named (codes "java/lang/StackOverflowError") k refl

    by_first : (b : Bool) → bytes_eq name (codes "java/lang/VerifyError") ≡ b
        → (b || (bytes_eq name (codes "java/lang/NoClassDefFoundError") || bytes_eq name (codes "java/lang/StackOverflowError"))) ≡ true
        → list_any (bytes_eq name) raised_names ≡ true
    by_first true e k = named (codes "java/lang/VerifyError") e refl
    by_first false e k = by_second (bytes_eq name (codes "java/lang/NoClassDefFoundError")) refl k

-- ---- java/lang/String: it can be made, and its one field holds an array of chars

record StringKnown (world : World) : Type 0 where
  l : Loaded
  named : class_named world (codes "java/lang/String") ≡ Some l
  by : l.by_system ≡ true
  plain : is_interface l ≡ false
  keys : map Rattle.jv_meaning_machine.specs.Objects.key_of (Rattle.jv_meaning_typing.specs.Layout.instance_fields world l) ≡
      Rattle.jv_meaning_machine.specs.Literals.string_value ∷ []

string_known : (library : List Class) (guests : World) → StringKnown (with_guests library guests)
string_known [] _ = record { l = _; named = refl; by = refl; plain = refl; keys = refl }
string_known (_ ∷ _) _ = record { l = _; named = refl; by = refl; plain = refl; keys = refl }

pub record IsStringClass (program : Program) (l : Loaded) : Type 0 where
  pub makeable : IsMakeable program l
  pub keys : map Rattle.jv_meaning_machine.specs.Objects.key_of
      (Rattle.jv_meaning_typing.specs.Layout.instance_fields program.world l) ≡
      Rattle.jv_meaning_machine.specs.Literals.string_value ∷ []

module _ (program : Program) (sound : IsSound program) where
  string_in : StringKnown program.world
  string_in = subst StringKnown (sym sound.world) (string_known sound.library (map (loaded false) sound.guests))

  pub string_class : (l : Loaded) → class_named program.world (codes "java/lang/String") ≡ Some l → IsStringClass program l
  string_class l e =
      let k = string_in in
      let same : k.l ≡ l = one_some k.l l (sym k.named ∙ e) in
      let here = named_stands program.world (codes "java/lang/String") l e in
      let by : l.by_system ≡ true = ap (λ (x : Loaded). x.by_system) (sym same) ∙ k.by in
      record {
        makeable = record {
          named = sound.named l here;
          loadable = system_loadable program.world l by;
          verified = system_verified program sound l here by;
          plain = ap is_interface (sym same) ∙ k.plain;
        };
        keys = subst (λ (x : Loaded). map Rattle.jv_meaning_machine.specs.Objects.key_of
            (Rattle.jv_meaning_typing.specs.Layout.instance_fields program.world x) ≡
            Rattle.jv_meaning_machine.specs.Literals.string_value ∷ []) same k.keys;
      }

-- ---- classes of the system that the machine means by their names

throwable_there : (library : List Class) (guests : World) → (l : Loaded) × (class_named (with_guests library guests) (codes "java/lang/Throwable") ≡ Some l)
    × (is_interface l ≡ false)
throwable_there [] _ = (_, refl, refl)
throwable_there (_ ∷ _) _ = (_, refl, refl)

root_there : (library : List Class) (guests : World) → (l : Loaded) × (class_named (with_guests library guests) object_name ≡ Some l) × (l.by_system ≡ true)
root_there [] _ = (_, refl, refl)
root_there (_ ∷ _) _ = (_, refl, refl)

module _ (program : Program) (sound : IsSound program) where
  pub string_there_in : (l : Loaded) × (class_named program.world (codes "java/lang/String") ≡ Some l) × IsMakeable program l
  string_there_in =
      let k = string_in program sound in (k.l, k.named, (string_class program sound k.l k.named).makeable)

  pub throwable_in : (l : Loaded) × (class_named program.world (codes "java/lang/Throwable") ≡ Some l) × (is_interface l ≡ false)
  throwable_in =
      let t = throwable_there sound.library (map (loaded false) sound.guests) in
      (t.0, ap (λ (w : World). class_named w (codes "java/lang/Throwable")) sound.world ∙ t.1, t.2)

  pub root_in : (l : Loaded) × (class_named program.world object_name ≡ Some l) × (is_verified program l ≡ true)
      × (is_loadable program.world l ≡ true)
  root_in =
      let t = root_there sound.library (map (loaded false) sound.guests) in
      let there : class_named program.world object_name ≡ Some t.0 = ap (λ (w : World). class_named w object_name) sound.world ∙ t.1 in (
        t.0,
        there,
        system_verified program sound t.0 (named_stands program.world object_name t.0 there) t.2,
        system_loadable program.world
            t.0 t.2,
      )
