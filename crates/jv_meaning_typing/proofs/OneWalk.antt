-- Whether a method overrides one of those that were found depends on whether one of these is open, and on the first's package.
use Rattle.std.proofs.Common.{◌≡◌, ℕ, zero, suc, ◌≤◌, Bool, true, false, not, ◌&&◌, ◌||◌, List, [], ◌∷◌, ◌++◌, map, Option, Some, None, refl, sym, ap, ◌∙◌, arith}
use Rattle.std.specs.Prelude.{◌==◌, IsTrue, bit_and, if◌then◌else◌}
use Rattle.std.specs.List.{list_any}
use Rattle.std.specs.Str.{bytes_eq}
use Rattle.std.proofs.lemmas.Bool.{and_parts}
use Rattle.std.proofs.lemmas.Bool.Decides.{Decides-eqb}
use Rattle.std.proofs.lemmas.Nat.{and_le_r}
use Rattle.std.proofs.lemmas.List.{append_assoc, append-nil}
use Rattle.std.proofs.lemmas.List.Folds.{list_any-append}
use Rattle.jv_class_structure.specs.Flags.{has, acc_private}
use Rattle.jv_class.specs.Class.{Method}
use Rattle.jv_meaning_world.specs.World.{Loaded, package_of, same_loader, same_package}
use Rattle.jv_meaning_world.specs.Overriding.{Declared, is_package_private, overrides_itself, alike_in, with_declared, overriding}
use Rattle.jv_meaning_typing.specs.Inside.OneWalk.{is_open, joins, walked, OverridingInOneWalk}
use Rattle.jv_meaning_typing.proofs.Found.{same_text}
use Rattle.jv_meaning_typing.proofs.Unchanged.{narrowed}

-- ---- flags

not_zero : (n : ℕ) → suc n ≡ 0 → ⊥
not_zero n e = cc

nothing_left : (v : ℕ) → v ≤ 7 → bit_and v 2 ≡ 0 → bit_and v 5 ≡ 0 → v ≡ 0
nothing_left zero few a b = refl
nothing_left (suc zero) few a b = absurd (not_zero 0 b)
nothing_left (suc (suc zero)) few a b = absurd (not_zero 1 a)
nothing_left (suc (suc (suc zero))) few a b = absurd (not_zero 1 a)
nothing_left (suc (suc (suc (suc zero)))) few a b = absurd (not_zero 3 b)
nothing_left (suc (suc (suc (suc (suc zero))))) few a b = absurd (not_zero 4 b)
nothing_left (suc (suc (suc (suc (suc (suc zero)))))) few a b = absurd (not_zero 1 a)
nothing_left (suc (suc (suc (suc (suc (suc (suc zero))))))) few a b = absurd (not_zero 1 a)
nothing_left (suc (suc (suc (suc (suc (suc (suc (suc n)))))))) few a b = absurd (omega (arith, few))

pub no_bit : (n : ℕ) → not (n == 0) ≡ false → n ≡ 0
no_bit n h = by_test (n == 0) refl h
  where
    by_test : (b : Bool) → (n == 0) ≡ b → not b ≡ false → n ≡ 0
    by_test true e h = (Decides-eqb n 0).0 e
    by_test false e h = absurd (unlike h)
      where
        unlike : true ≡ false → ⊥
        unlike f = cc

-- neither private nor open
pub package_private : (d : Declared) → has d.method.access_flags acc_private ≡ false → is_open d ≡ false → is_package_private d.method ≡ true
package_private d private open_is =
    ap (λ n. not (not (n == 0)))
    (nothing_left (bit_and d.method.access_flags 7) (and_le_r d.method.access_flags 7)
    (sym (narrowed d.method.access_flags (bit_and d.method.access_flags 7) 2 refl) ∙ no_bit (bit_and d.method.access_flags 2) private)
    (sym (narrowed d.method.access_flags (bit_and d.method.access_flags 7) 5 refl) ∙ no_bit (bit_and d.method.access_flags 5) open_is))

-- ---- packages

pub package_goes_on : (x d e : Loaded) → same_package d e ≡ true → same_package x d ≡ same_package x e
package_goes_on x d e h =
    ap (λ b. same_loader x.by_system b && bytes_eq (package_of x.class.name) (package_of d.class.name)) (loader d.by_system e.by_system parts.0)
    ∙ ap (λ name. same_loader x.by_system e.by_system && bytes_eq (package_of x.class.name) name) (same_text (package_of d.class.name) (package_of e.class.name) parts.1)
  where
    parts : IsTrue (same_loader d.by_system e.by_system) × IsTrue (bytes_eq (package_of d.class.name) (package_of e.class.name))
    parts = and_parts (same_loader d.by_system e.by_system) (bytes_eq (package_of d.class.name) (package_of e.class.name)) h

    loader : (a b : Bool) → IsTrue (same_loader a b) → a ≡ b
    loader true true h = refl
    loader true false h = absurd cc
    loader false true h = absurd cc
    loader false false h = refl

-- ---- what a method adds

-- Whether a method can override at all (not private), and is in the first's package; and of the one that joins whether it is
-- open, is package-private, and is in that method's package: behind an open one, and behind none.
joined_behind : (able near other private_there there : Bool)
    → ((able && (true || near)) || ((able && (other || (private_there && there))) || false)) ≡ (able && ((true || other) || near))
joined_behind false near other private_there there = refl
joined_behind true near other private_there there = refl

joined_near : (able near other private_there there : Bool) → (other ≡ false → private_there ≡ true) → there ≡ near
    → ((able && (false || near)) || ((able && (other || (private_there && there))) || false)) ≡ (able && ((false || other) || near))
joined_near false near other private_there there pp same = refl
joined_near true true true private_there there pp same = refl
joined_near true false true private_there there pp same = refl
joined_near true near false private_there there pp same =
    ap (λ b. near || ((b && there) || false)) (pp refl) ∙ ap (λ b. near || (b || false)) same ∙ twice near
  where
    twice : (b : Bool) → (b || (b || false)) ≡ b
    twice true = refl
    twice false = refl

abbrev Known : Declared → List Declared → Bool → Type 0
Known e found open_before = (x : Declared) → list_any (overrides_itself x) found ≡ joins open_before e x

known_first : (e : Declared) → has e.method.access_flags acc_private ≡ false → Known e (e ∷ []) (is_open e)
known_first e private x = by_open (is_open e) refl
  where
    able : Bool
    able = not (has x.method.access_flags acc_private)

    near : Bool
    near = same_package x.by e.by

    drop_false : (b : Bool) → (b || false) ≡ b
    drop_false true = refl
    drop_false false = refl

    by_open : (b : Bool) → is_open e ≡ b → ((able && (b || (is_package_private e.method && near))) || false) ≡ (able && (b || near))
    by_open true h = drop_false (able && true)
    by_open false h = drop_false (able && (is_package_private e.method && near)) ∙ ap (λ b. able && (b && near)) (package_private e private h)

known_next : (e d : Declared) (found : List Declared) (open_before : Bool) → Known e found open_before → joins open_before e d ≡ true → Known e (found ++ d ∷ []) (open_before || is_open d)
known_next e d found open_before known joined x =
    list_any-append (overrides_itself x) found (d ∷ []) ∙ ap (λ b. b || (overrides_itself x d || false)) (known x) ∙ by_before open_before
    (and_parts (not (has d.method.access_flags acc_private)) (open_before || same_package d.by e.by) joined).1
  where
    able : Bool
    able = not (has x.method.access_flags acc_private)

    not_private : has d.method.access_flags acc_private ≡ false
    not_private = by_flag (has d.method.access_flags acc_private) (and_parts (not (has d.method.access_flags acc_private)) (open_before || same_package d.by e.by) joined).0
      where
        by_flag : (b : Bool) → IsTrue (not b) → b ≡ false
        by_flag true h = absurd cc
        by_flag false h = refl

    by_before : (before : Bool) → IsTrue (before || same_package d.by e.by)
        → ((able && (before || same_package x.by e.by)) || ((able && (is_open d || (is_package_private d.method && same_package x.by d.by))) ||
        false)) ≡ (able && ((before || is_open d) || same_package x.by e.by))
    by_before true h = joined_behind able (same_package x.by e.by) (is_open d) (is_package_private d.method) (same_package x.by d.by)
    by_before false h =
        joined_near able (same_package x.by e.by) (is_open d) (is_package_private d.method) (same_package x.by d.by) (package_private d not_private)
        (package_goes_on x.by d.by e.by h)

-- ---- the walk

walk : (e : Declared) (m : Method) (ls : List Loaded) (found : List Declared) (open_before : Bool) → Known e found open_before →
    overriding found m ls ≡ found ++ walked e open_before (map (λ l. alike_in l m) ls)
walk e m [] found open_before known = sym (append-nil found)
walk e m (l ∷ ls) found open_before known = by_declared (alike_in l m) (λ f o k. walk e m ls f o k)
  where
    rest : List (Option Declared)
    rest = map (λ x. alike_in x m) ls

    by_test : (d : Declared) (b : Bool) → joins open_before e d ≡ b → ((f : List Declared) (o : Bool) → Known e f o → overriding f m ls ≡ f ++ walked e o rest)
        → overriding (if b then found ++ d ∷ [] else found) m ls ≡ found ++ (if b then d ∷ walked e (open_before || is_open d) rest else walked e open_before rest)
    by_test d true j again = again (found ++ d ∷ []) (open_before || is_open d) (known_next e d found open_before known j) ∙ append_assoc found (d ∷ []) (walked e (open_before || is_open d) rest)
    by_test d false j again = again found open_before known

    by_declared : (o : Option Declared) → ((f : List Declared) (o : Bool) → Known e f o → overriding f m ls ≡ f ++ walked e o rest) →
        overriding (with_declared found o) m ls ≡ found ++ walked e open_before (o ∷ rest)
    by_declared None again = again found open_before known
    by_declared (Some d) again = ap (λ b. overriding (if b then found ++ d ∷ [] else found) m ls) (known d) ∙ by_test d (joins open_before e d) refl again

pub overriding_in_one_walk : OverridingInOneWalk
overriding_in_one_walk e m ls h = walk e m ls (e ∷ []) (is_open e) (known_first e (by_flag (has e.method.access_flags acc_private) h))
  where
    by_flag : (b : Bool) → IsTrue (not b) → b ≡ false
    by_flag true h = absurd cc
    by_flag false h = refl
