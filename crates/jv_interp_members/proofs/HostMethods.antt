-- host/Io among the classes of a guest: it is the one with the number 32, and its methods stand in their order.
use Rattle.std.proofs.Common.{◌≡◌, ℕ, zero, suc, ◌+◌, ◌≤◌, Bool, true, false, not, ◌&&◌, List, [], ◌∷◌, ◌++◌, length, map, Some, refl, subst, arith, codes, slice_get, inl, inr}
use Rattle.std.specs.Prelude.{◌⊎◌}
use Rattle.std.specs.List.{list_all}
use Rattle.std.specs.Str.{bytes_eq}
use Rattle.std.proofs.lemmas.Bool.{and_parts}
use Rattle.jv_class.specs.Class.{Class, Method}
use Rattle.jv_meaning_world.specs.FileContent.{FileContent}
use Rattle.jv_meaning_world.specs.System.Classes.{classes_with_files}
use Rattle.jv_meaning_world.specs.System.Io.{io}
use Rattle.jv_meaning_world.specs.Library.{borrowers, borrowers_more, lent, system_with, with_library}
use Rattle.jv_meaning_world.specs.World.{Loaded, World, classes_in, loaded, world_of}
use Rattle.jv_meaning_machine.specs.Calls.{HostMethod, host_method}
use Rattle.jv_meaning_machine.specs.Calls.HostMethod.{Read, Write, ClassName, ArrayLike}
use Rattle.jv_interp_members.proofs.Sites.{some_same}

pub io_at : (library : List Class) (contents : List FileContent) → slice_get (world_of (with_library library) contents) 32 ≡ Some (loaded true io)
io_at [] contents = refl
io_at (c ∷ library) contents = refl

abbrev pub is_host : Loaded → Bool
is_host l = l.by_system && bytes_eq l.class.name (codes "host/Io")

-- ---- no other class is

abbrev plain : Class → Bool
plain class = not (bytes_eq class.name (codes "host/Io"))

not_true : (b : Bool) → not b ≡ true → b ≡ false
not_true true e = absurd cc
not_true false e = refl

in_front :
    (front : List Class) (behind : World) (n : ℕ) (l : Loaded) → list_all plain front ≡ true → slice_get (map (loaded true) front ++ behind) n ≡ Some l
    → (is_host l ≡ false) ⊎ ((m : ℕ) × (n ≡ length front + m) × (slice_get behind m ≡ Some l))
in_front [] behind n l all e = inr (n, omega arith, e)
in_front (class ∷ front) behind zero l all e =
    let parts = and_parts (plain class) (list_all plain front) all in
    inl (subst (λ (x : Loaded). is_host x ≡ false) (some_same (loaded true class) l e) (not_true (bytes_eq class.name (codes "host/Io")) parts.0))
in_front (class ∷ front) behind (suc n) l all e =
    let parts = and_parts (plain class) (list_all plain front) all in
    by_place (in_front front behind n l parts.1 e)
  where
    by_place :
        (is_host l ≡ false) ⊎ ((m : ℕ) × (n ≡ length front + m) × (slice_get behind m ≡ Some l))
        → (is_host l ≡ false) ⊎ ((m : ℕ) × (suc n ≡ length (class ∷ front) + m) × (slice_get behind m ≡ Some l))
    by_place (inl f) = inl f
    by_place (inr f) = let e = f.1 in inr (f.0, omega (arith, e), f.2)

in_guests : (classes : List Class) (n : ℕ) (l : Loaded) → slice_get (map (loaded false) classes) n ≡ Some l → is_host l ≡ false
in_guests [] zero l e = absurd cc
in_guests [] (suc n) l e = absurd cc
in_guests (class ∷ classes) zero l e = subst (λ (x : Loaded). is_host x ≡ false) (some_same (loaded false class) l e) refl
in_guests (class ∷ classes) (suc n) l e = in_guests classes n l e

-- those before host/Io, and those of the system behind it
abbrev first_classes : List Class → List Class
first_classes [] = classes_with_files
first_classes (c ∷ library) = map (lent (c ∷ library)) borrowers

abbrev last_classes : List Class → List Class
last_classes [] = []
last_classes (c ∷ library) = map (lent (c ∷ library)) borrowers_more

parts_are : (library : List Class) (guests : World)
    → map (loaded true) (system_with library) ++ guests
    ≡ map (loaded true) (first_classes library) ++ loaded true io ∷ (map (loaded true) (last_classes library) ++ guests)
parts_are [] guests = refl
parts_are (c ∷ library) guests = refl

first_plain : (library : List Class) → list_all plain (first_classes library) ≡ true
first_plain [] = refl
first_plain (c ∷ library) = refl

last_plain : (library : List Class) → list_all plain (last_classes library) ≡ true
last_plain [] = refl
last_plain (c ∷ library) = refl

first_size : (library : List Class) → length (first_classes library) ≡ 32
first_size [] = refl
first_size (c ∷ library) = refl

pub other_class :
    (library : List Class) (contents : List FileContent) (number : ℕ) (l : Loaded)
    → slice_get (world_of (with_library library) contents) number ≡ Some l → (number ≡ 32 → ⊥) → is_host l ≡ false
other_class library contents number l e other =
    by_place (in_front (first_classes library) (loaded true io ∷ more) number l (first_plain library)
    (subst (λ (w : World). slice_get w number ≡ Some l) (parts_are library guests) e))
  where
    guests : World
    guests = map (loaded false) (classes_in (with_library library) contents)

    more : World
    more = map (loaded true) (last_classes library) ++ guests

    by_last : (m : ℕ) → (is_host l ≡ false) ⊎ ((k : ℕ) × (m ≡ length (last_classes library) + k) × (slice_get guests k ≡ Some l)) → is_host l ≡ false
    by_last m (inl f) = f
    by_last m (inr f) = in_guests (classes_in (with_library library) contents) f.0 l f.2

    behind : (m : ℕ) → number ≡ 32 + m → slice_get (loaded true io ∷ more) m ≡ Some l → is_host l ≡ false
    behind zero is at = absurd (other (omega (arith, is)))
    behind (suc m) is at = by_last m (in_front (last_classes library) guests m l (last_plain library) at)

    by_place :
        (is_host l ≡ false) ⊎ ((m : ℕ) × (number ≡ length (first_classes library) + m) × (slice_get (loaded true io ∷ more) m ≡ Some l))
        → is_host l ≡ false
    by_place (inl f) = f
    by_place (inr f) =
        let is = f.1 in
        let size = first_size library in
        behind f.0 (omega (arith, is, size)) f.2

-- ---- its methods

none_there : (n : ℕ) (l : List Method) (m : Method) → length l ≤ n → slice_get l n ≡ Some m → ⊥
none_there n [] m h e = by_place n e
  where
    by_place : (n : ℕ) → slice_get [] n ≡ Some m → ⊥
    by_place zero e = absurd cc
    by_place (suc n) e = absurd cc
none_there zero (x ∷ l) m h e = absurd (omega (arith, h))
none_there (suc n) (x ∷ l) m h e = none_there n l m (omega (arith, h)) e

-- what stands at a place among them
abbrev pub method_there : ℕ → HostMethod
method_there (suc zero) = Write
method_there (suc (suc zero)) = ClassName
method_there (suc (suc (suc zero))) = ArrayLike
method_there _ = Read

pub there_is : (member : ℕ) (m : Method) → slice_get io.methods member ≡ Some m → host_method m.name ≡ method_there member
there_is zero m e = subst (λ (x : Method). host_method x.name ≡ Read) (some_same _ m e) refl
there_is (suc zero) m e = subst (λ (x : Method). host_method x.name ≡ Write) (some_same _ m e) refl
there_is (suc (suc zero)) m e = subst (λ (x : Method). host_method x.name ≡ ClassName) (some_same _ m e) refl
there_is (suc (suc (suc zero))) m e = subst (λ (x : Method). host_method x.name ≡ ArrayLike) (some_same _ m e) refl
there_is (suc (suc (suc (suc n)))) m e = absurd (none_there (suc (suc (suc (suc n)))) io.methods m (omega arith) e)

pub else_read : (member : ℕ) → (member ≡ 1 → ⊥) → (member ≡ 2 → ⊥) → (member ≡ 3 → ⊥) → method_there member ≡ Read
else_read zero one two three = refl
else_read (suc zero) one two three = absurd (one refl)
else_read (suc (suc zero)) one two three = absurd (two refl)
else_read (suc (suc (suc zero))) one two three = absurd (three refl)
else_read (suc (suc (suc (suc n)))) one two three = refl
