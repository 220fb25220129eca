-- Whether a method below a chain of classes overrides one above it, known from the chain's classes one by one.
use Rattle.std.proofs.Common.{◌≡◌, Bool, true, false, not, ◌&&◌, ◌||◌, List, [], ◌∷◌, ◌++◌, Option, Some, None, refl, sym, ap, ◌∙◌}
use Rattle.std.specs.Prelude.{◌==◌, IsTrue, bit_and, reverse, if◌then◌else◌}
use Rattle.std.specs.List.{list_any}
use Rattle.std.proofs.lemmas.Bool.{and_parts}
use Rattle.std.proofs.lemmas.List.{reverse-append}
use Rattle.std.proofs.lemmas.List.Folds.{list_any-append}
use Rattle.jv_class_structure.specs.Flags.{has}
use Rattle.jv_class.specs.Class.{Method}
use Rattle.jv_meaning_world.specs.World.{Loaded, same_package}
use Rattle.jv_meaning_world.specs.Overriding.{Declared, is_package_private, overrides_itself, alike_in, with_declared, overriding}
use Rattle.jv_meaning_typing.specs.Inside.OneWalk.{is_open}
use Rattle.jv_meaning_typing.specs.Inside.Upward.{is_private, is_near, opens, opened_by, opened_in, OverridingUpward}
use Rattle.jv_meaning_typing.proofs.Unchanged.{narrowed}
use Rattle.jv_meaning_typing.proofs.OneWalk.{no_bit, package_private, package_goes_on}
use Rattle.jv_meaning_typing.proofs.ByRule.{in_parts}

-- ---- flags

-- a private method is not package-private
private_is_other : (d : Declared) → is_private d ≡ true → is_package_private d.method ≡ false
private_is_other d private = by_bits (has d.method.access_flags 7) refl
  where
    clash : (b : Bool) → b ≡ true → b ≡ false → ⊥
    clash true h k = absurd cc
    clash false h k = absurd cc

    none_of : bit_and d.method.access_flags 7 ≡ 0 → has d.method.access_flags 2 ≡ false
    none_of e = ap (λ n. not (n == 0)) (narrowed d.method.access_flags (bit_and d.method.access_flags 7) 2 refl ∙ ap (λ n. bit_and n 2) e)

    by_bits : (b : Bool) → has d.method.access_flags 7 ≡ b → not b ≡ false
    by_bits true h = refl
    by_bits false h = absurd (clash (has d.method.access_flags 2) private (none_of (no_bit (bit_and d.method.access_flags 7) h)))

near_or_not : (d : Declared) → is_open d ≡ false → is_package_private d.method ≡ not (is_private d)
near_or_not d closed = by_private (is_private d) refl
  where
    by_private : (b : Bool) → is_private d ≡ b → is_package_private d.method ≡ not b
    by_private true h = private_is_other d h
    by_private false h = package_private d h closed

-- ---- what is known of those found

abbrev Known : Declared → List Declared → Bool → Type 0
Known e found open_before = (x : Declared) → list_any (overrides_itself x) found ≡ (not (is_private x) && (open_before || is_near e x))

or_false : (b : Bool) → (b || false) ≡ b
or_false true = refl
or_false false = refl

known_first : (e : Declared) → Known e (e ∷ []) (is_open e)
known_first e x = by_open (is_open e) refl
  where
    able : Bool
    able = not (is_private x)

    by_open : (b : Bool) → is_open e ≡ b → ((able && (b || (is_package_private e.method && same_package x.by e.by))) || false) ≡ (able && (b || is_near e x))
    by_open true h = or_false (able && true)
    by_open false h = or_false (able && (is_package_private e.method && same_package x.by e.by)) ∙ ap (λ b. able && (b && same_package x.by e.by)) (near_or_not e h)

-- one that overrides: whether another can, is near, and is in the package of this one; whether this one is open, package-private
-- and near
joined : (able near open_before other private_there there here : Bool) → IsTrue (open_before || here) → (other ≡ false → private_there ≡ true) → (here ≡ true → there ≡ near)
    → ((able && (open_before || near)) || ((able && (other || (private_there && there))) || false)) ≡ (able && ((open_before || (other && here)) || near))
joined false near open_before other private_there there here h p s = refl
joined true near true other private_there there here h p s = refl
joined true near false other private_there there false h p s = absurd cc
joined true true false other private_there there true h p s = by_other other
  where
    by_other : (b : Bool) → true ≡ ((b && true) || true)
    by_other true = refl
    by_other false = refl
joined true false false true private_there there true h p s = refl
joined true false false false private_there there true h p s = ap (λ b. (private_there && b) || false) (s refl) ∙ all_false private_there
  where
    all_false : (b : Bool) → ((b && false) || false) ≡ false
    all_false true = refl
    all_false false = refl

left_out : (able near open_before other here own : Bool) → (own && (open_before || here)) ≡ false → (able && (open_before || near)) ≡ (able && ((open_before || (own && (other && here))) || near))
left_out able near open_before other here false h = ap (λ b. able && (b || near)) (sym (or_false open_before))
left_out able near true other here true h = absurd cc
left_out able near false other true true h = absurd cc
left_out able near false true false true h = refl
left_out able near false false false true h = refl

known_next : (e d : Declared) (found : List Declared) (open_before : Bool) → Known e found open_before → Known e (with_declared found (Some d)) (open_before || opens e d)
known_next e d found open_before known x = by_test (list_any (overrides_itself d) found) refl
  where
    able : Bool
    able = not (is_private x)

    not_private : IsTrue (not (is_private d)) → is_private d ≡ false
    not_private h = by_flag (is_private d) h
      where
        by_flag : (b : Bool) → IsTrue (not b) → b ≡ false
        by_flag true h = absurd cc
        by_flag false h = refl

    same_near : is_near e d ≡ true → same_package x.by d.by ≡ is_near e x
    same_near h = by_flag (not (is_private e)) (and_parts (not (is_private e)) (same_package d.by e.by) h)
      where
        by_flag : (b : Bool) → IsTrue b × IsTrue (same_package d.by e.by) → same_package x.by d.by ≡ (b && same_package x.by e.by)
        by_flag true h = package_goes_on x.by d.by e.by h.1
        by_flag false h = absurd (unlike h.0)
          where
            unlike : IsTrue false → ⊥
            unlike f = cc

    by_test : (b : Bool) → list_any (overrides_itself d) found ≡ b
        → list_any (overrides_itself x) (if b then found ++ d ∷ [] else found) ≡ (able && ((open_before || opens e d) || is_near e x))
    by_test true t =
        let parts = and_parts (not (is_private d)) (open_before || is_near e d) (sym (known d) ∙ t) in
        list_any-append (overrides_itself x) found (d ∷ []) ∙ (ap (λ b. b || (overrides_itself x d || false)) (known x)
        ∙ (joined able (is_near e x) open_before (is_open d) (is_package_private d.method) (same_package x.by d.by) (is_near e d) parts.1 (package_private d (not_private parts.0)) same_near
        ∙ ap (λ b. able && ((open_before || (b && (is_open d && is_near e d))) || is_near e x)) (sym parts.0)))
    by_test false t = known x ∙ left_out able (is_near e x) open_before (is_open d) (is_near e d) (not (is_private d)) (sym (known d) ∙ t)

known_option : (e : Declared) (o : Option Declared) (found : List Declared) (open_before : Bool) → Known e found open_before → Known e (with_declared found o) (open_before || opened_by e o)
known_option e None found open_before known x = known x ∙ ap (λ b. not (is_private x) && (b || is_near e x)) (sym (or_false open_before))
known_option e (Some d) found open_before known x = known_next e d found open_before known x

known_all : (e : Declared) (m : Method) (ls : List Loaded) → Known e (overriding (e ∷ []) m (reverse ls)) (is_open e || list_any (opened_in e m) ls)
known_all e m [] x = known_first e x ∙ ap (λ b. not (is_private x) && (b || is_near e x)) (sym (or_false (is_open e)))
known_all e m (l ∷ ls) x =
    ap (λ cs. list_any (overrides_itself x) (overriding (e ∷ []) m cs)) (reverse-append (l ∷ []) ls)
    ∙ (ap (list_any (overrides_itself x)) (in_parts (e ∷ []) m (reverse ls) (l ∷ []))
    ∙ (known_option e (alike_in l m) (overriding (e ∷ []) m (reverse ls)) (is_open e || list_any (opened_in e m) ls) (known_all e m ls) x
    ∙ ap (λ b. not (is_private x) && (b || is_near e x)) (turned (is_open e) (list_any (opened_in e m) ls) (opened_in e m l))))
  where
    turned : (a b c : Bool) → ((a || b) || c) ≡ (a || (c || b))
    turned true b c = refl
    turned false true true = refl
    turned false true false = refl
    turned false false true = refl
    turned false false false = refl

pub overriding_upward : OverridingUpward
overriding_upward e m ls d = known_all e m ls d
