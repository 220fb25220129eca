-- Walking up from a class says of final methods what walking down to it says (JVMS 5.4.5).
use Rattle.std.proofs.Common.{◌≡◌, ℕ, ◌+◌, Bool, true, false, cond, ◌||◌, ◌&&◌, List, [], ◌∷◌, ◌++◌, Option, Some, None, refl, sym, ap, ◌∙◌, subst}
use Rattle.std.specs.Prelude.{not, slice_get}
use Rattle.std.specs.List.{list_any}
use Rattle.std.specs.Str.{bytes_eq}
use Rattle.std.proofs.lemmas.Bool.{and_parts, and_from}
use Rattle.std.proofs.lemmas.List.Folds.{list_any-append}
use Rattle.std.proofs.lemmas.Slice.Eq.{bytes_eq-Decides}
use Rattle.jv_class_structure.specs.Flags.{has, acc_public, acc_private, acc_protected, acc_final}
use Rattle.jv_class.specs.Class.{Class, Method, method_named, EachIsNamed}
use Rattle.jv_meaning_world.specs.World.{Loaded, same_package}
use Rattle.jv_meaning_world.specs.Overriding.{Declared, is_instance, is_package_private, overrides_itself, declared_if, alike_in, with_declared, overriding}
use Rattle.jv_meaning_world.specs.Verdicts.{overrides_in, is_final_instance, declared_by, breaks_final_of, breaks_final}
use Rattle.jv_lookups.specs.Finals.{have_other_names}
use Rattle.jv_lookups.specs.Inside.Fronts.{AreNamed}
use Rattle.jv_lookups.specs.Inside.Overridden.{can_override, have_package, is_overridden, with_overridden, overrides_final, overrides_final_above, breaks_final_by}
use Rattle.jv_lookups.proofs.Passing.{shared, or_none, and_none, and_all, both_ways, any_same, any_either, any_if, item_passes, passing_item, found_item}

-- the classes found on the way up past these superclasses, the last passed first
abbrev found_past : Loaded → Method → List Loaded → List Loaded
found_past l m [] = l ∷ []
found_past l m (s ∷ passed) = with_overridden (found_past l m passed) (alike_in s m)

-- ---- a class more is found exactly where it leads on

joined_package : (o p s h : Bool) → (o || (p && (s || h))) ≡ ((o || (p && h)) || (true && (true && (o || (p && s)))))
joined_package true p s h = refl
joined_package false false s h = refl
joined_package false true true true = refl
joined_package false true true false = refl
joined_package false true false true = refl
joined_package false true false false = refl

leads_on : (found : List Loaded) (c e : Declared) → is_overridden (with_overridden found (Some c)) e ≡ (is_overridden found e || (is_overridden found c && overrides_itself c e))
leads_on found c e = by_tests (is_overridden found c) (has c.method.access_flags acc_private)
  where
    by_tests : (t v : Bool) → is_overridden (cond (t && not v) (c.by ∷ found) found) e
        ≡ (is_overridden found e || (t && (not v && (has e.method.access_flags (acc_public + acc_protected) || (is_package_private e.method && same_package c.by e.by)))))
    by_tests true true = sym (or_none (is_overridden found e))
    by_tests true false = joined_package (has e.method.access_flags (acc_public + acc_protected)) (is_package_private e.method) (same_package c.by e.by) (have_package found e.by)
    by_tests false v = sym (or_none (is_overridden found e))

up_or_down : (found : List Loaded) (below : List Declared) (o : Option Declared) → list_any (is_overridden found) (with_declared below o) ≡ list_any (is_overridden (with_overridden found o)) below
up_or_down found below None = refl
up_or_down found below (Some c) = by_test (list_any (overrides_itself c) below) ∙ sym upward
  where
    upward : list_any (is_overridden (with_overridden found (Some c))) below ≡ (list_any (is_overridden found) below || (is_overridden found c && list_any (overrides_itself c) below))
    upward =
        any_same (is_overridden (with_overridden found (Some c))) (λ e. is_overridden found e || (is_overridden found c && overrides_itself c e)) (leads_on found c) below
        ∙ (any_either (is_overridden found) (λ e. is_overridden found c && overrides_itself c e) below
        ∙ ap (λ b. list_any (is_overridden found) below || b) (any_if (is_overridden found c) (overrides_itself c) below))

    by_test : (b : Bool) → list_any (is_overridden found) (cond b (below ++ c ∷ []) below) ≡ (list_any (is_overridden found) below || (is_overridden found c && b))
    by_test true =
        list_any-append (is_overridden found) below (c ∷ []) ∙ ap (λ b. list_any (is_overridden found) below || b) (or_none (is_overridden found c) ∙ sym (and_all (is_overridden found c)))
    by_test false = sym (ap (λ b. list_any (is_overridden found) below || b) (and_none (is_overridden found c)) ∙ or_none (list_any (is_overridden found) below))

-- what a method of the class overrides among those that override one further up, is what is overridden from the classes found
pub overridden_past : (l : Loaded) (d m : Method) (above : List Declared) (passed : List Loaded)
    → list_any (overrides_itself (declared_by l d)) (overriding above m passed) ≡ (not (has d.access_flags acc_private) && list_any (is_overridden (found_past l m passed)) above)
overridden_past l d m above [] =
    any_if (not (has d.access_flags acc_private)) (λ e. has e.method.access_flags (acc_public + acc_protected) || (is_package_private e.method && same_package l e.by)) above
    ∙ ap (λ b. not (has d.access_flags acc_private) && b) (any_same _ (is_overridden (l ∷ [])) alone above)
  where
    alone : (e : Declared) → (has e.method.access_flags (acc_public + acc_protected) || (is_package_private e.method && same_package l e.by)) ≡ is_overridden (l ∷ []) e
    alone e = ap (λ b. has e.method.access_flags (acc_public + acc_protected) || (is_package_private e.method && b)) (sym (or_none (same_package l e.by)))
overridden_past l d m above (s ∷ passed) =
    overridden_past l d m (with_declared above (alike_in s m)) passed
    ∙ ap (λ b. not (has d.access_flags acc_private) && b) (up_or_down (found_past l m passed) above (alike_in s m))

-- ---- methods alike

pub alike_same : (l : Loaded) (m n : Method) → m.name ≡ n.name → m.descriptor ≡ n.descriptor → alike_in l m ≡ alike_in l n
alike_same l m n same also =
    ap (λ name. declared_if l (method_named l.class name m.descriptor)) same ∙ ap (λ descriptor. declared_if l (method_named l.class n.name descriptor)) also

found_same : (l : Loaded) (m n : Method) → m.name ≡ n.name → m.descriptor ≡ n.descriptor → (passed : List Loaded) → found_past l m passed ≡ found_past l n passed
found_same l m n same also [] = refl
found_same l m n same also (s ∷ passed) =
    ap (λ found. with_overridden found (alike_in s m)) (found_same l m n same also passed) ∙ ap (λ o. with_overridden (found_past l n passed) o) (alike_same s m n same also)

-- ---- the class's own method among those that override

overriding-append : (above : List Declared) (m : Method) (xs ys : List Loaded) → overriding above m (xs ++ ys) ≡ overriding (overriding above m xs) m ys
overriding-append above m [] ys = refl
overriding-append above m (x ∷ xs) ys = overriding-append (with_declared above (alike_in x m)) m xs ys

abbrev is_by : Loaded → Declared → Bool
is_by l o = bytes_eq o.by.class.name l.class.name

-- the class that declares what stands in it
declares : (P : Loaded → Type 0) (l : Loaded) (m : Method) (d : Declared) → declared_if l (Some m) ≡ Some d → P l → P d.by
declares P l m d e h = by_test (is_instance m) e
  where
    by_test : (b : Bool) → cond b (Some (declared_by l m)) None ≡ Some d → P d.by
    by_test true e = let same : declared_by l m ≡ d = cc in subst (λ (o : Declared). P o.by) same h
    by_test false e = absurd cc

one_more_other : (l s : Loaded) (m : Method) (above : List Declared) → bytes_eq s.class.name l.class.name ≡ false → list_any (is_by l) above ≡ false →
    list_any (is_by l) (with_declared above (alike_in s m)) ≡ false
one_more_other l s m above other none = by_found (method_named s.class m.name m.descriptor)
  where
    by_declared : (o : Option Declared) → ((d : Declared) → o ≡ Some d → is_by l d ≡ false) → list_any (is_by l) (with_declared above o) ≡ false
    by_declared None h = none
    by_declared (Some d) h = by_test (list_any (overrides_itself d) above)
      where
        by_test : (b : Bool) → list_any (is_by l) (cond b (above ++ d ∷ []) above) ≡ false
        by_test true = list_any-append (is_by l) above (d ∷ []) ∙ (ap (λ b. b || (is_by l d || false)) none ∙ ap (λ b. b || false) (h d refl))
        by_test false = none

    by_found : (o : Option Method) → list_any (is_by l) (with_declared above (declared_if s o)) ≡ false
    by_found None = none
    by_found (Some n) = by_declared (declared_if s (Some n)) (λ d e. declares (λ c. bytes_eq c.class.name l.class.name ≡ false) s n d e other)

others_alone : (l : Loaded) (m : Method) (above : List Declared) (passed : List Loaded) → have_other_names l passed ≡ true →
    list_any (is_by l) above ≡ false → list_any (is_by l) (overriding above m passed) ≡ false
others_alone l m above [] others none = none
others_alone l m above (s ∷ passed) others none =
    let parts = and_parts (not (bytes_eq s.class.name l.class.name)) (have_other_names l passed) others in
    others_alone l m (with_declared above (alike_in s m)) passed parts.1 (one_more_other l s m above (is_not (bytes_eq s.class.name l.class.name) parts.0) none)
  where
    is_not : (b : Bool) → not b ≡ true → b ≡ false
    is_not true h = absurd cc
    is_not false h = refl

-- what stands in the class as that method overrides one of these itself
abbrev overrides_one : List Declared → Option Declared → Bool
overrides_one above None = false
overrides_one above (Some d) = list_any (overrides_itself d) above

itself_named : (l : Loaded) → bytes_eq l.class.name l.class.name ≡ true
itself_named l = (bytes_eq-Decides l.class.name l.class.name).1 refl

own_in : (l : Loaded) (passed : List Loaded) (e : Declared) → have_other_names l passed ≡ true → is_by l e ≡ false
    → overrides_in l passed e ≡ overrides_one (overriding (e ∷ []) e.method passed) (alike_in l e.method)
own_in l passed e others other =
    ap (list_any (is_by l)) (overriding-append (e ∷ []) e.method passed (l ∷ [])) ∙ by_found (method_named l.class e.method.name e.method.descriptor)
  where
    found : List Declared
    found = overriding (e ∷ []) e.method passed

    none : list_any (is_by l) found ≡ false
    none = others_alone l e.method (e ∷ []) passed others (ap (λ b. b || false) other)

    by_declared : (o : Option Declared) → ((d : Declared) → o ≡ Some d → is_by l d ≡ true) → list_any (is_by l) (with_declared found o) ≡ overrides_one found o
    by_declared None h = none
    by_declared (Some d) h = by_test (list_any (overrides_itself d) found)
      where
        by_test : (b : Bool) → list_any (is_by l) (cond b (found ++ d ∷ []) found) ≡ b
        by_test true = list_any-append (is_by l) found (d ∷ []) ∙ (ap (λ b. b || (is_by l d || false)) none ∙ ap (λ b. b || false) (h d refl))
        by_test false = none

    by_found : (o : Option Method) → list_any (is_by l) (with_declared found (declared_if l o)) ≡ overrides_one found (declared_if l o)
    by_found None = none
    by_found (Some n) = by_declared (declared_if l (Some n)) (λ d e. declares (λ c. bytes_eq c.class.name l.class.name ≡ true) l n d e (itself_named l))

-- ---- the methods of one superclass

-- what is found by a name and a descriptor has them
found_named : (class : Class) (name descriptor : List ℕ) (n : Method) → method_named class name descriptor ≡ Some n
    → (place : ℕ) × (slice_get class.methods place ≡ Some n) × (n.name ≡ name) × (n.descriptor ≡ descriptor)
found_named class name descriptor n e =
    let found = found_item (λ m. bytes_eq m.name name && bytes_eq m.descriptor descriptor) class.methods n e in
    let parts = and_parts (bytes_eq n.name name) (bytes_eq n.descriptor descriptor) found.2 in
    (found.0, found.1, (bytes_eq-Decides n.name name).0 parts.0, (bytes_eq-Decides n.descriptor descriptor).0 parts.1)

-- what a class declares stands in it as itself
alike_itself : (l : Loaded) (m : Method) (place : ℕ) → EachIsNamed l.class → slice_get l.class.methods place ≡ Some m → is_instance m ≡ true → alike_in l m ≡ Some (declared_by l m)
alike_itself l m place named there instance =
    ap (declared_if l) (named.method place m there) ∙ ap (λ b. cond b (Some (declared_by l m)) None) instance

alike_found : (l : Loaded) (m : Method) (d : Declared) → alike_in l m ≡ Some d
    → (n : Method) × (place : ℕ) × (d ≡ declared_by l n) × (slice_get l.class.methods place ≡ Some n) × (n.name ≡ m.name) × (n.descriptor ≡ m.descriptor) × (is_instance n ≡ true)
alike_found l m d e = by_found (method_named l.class m.name m.descriptor) refl e
  where
    by_found : (o : Option Method) → method_named l.class m.name m.descriptor ≡ o → declared_if l o ≡ Some d
        → (n : Method) × (place : ℕ) × (d ≡ declared_by l n) × (slice_get l.class.methods place ≡ Some n) × (n.name ≡ m.name) × (n.descriptor ≡ m.descriptor) × (is_instance n ≡ true)
    by_found None f e = absurd cc
    by_found (Some n) f e = by_test (is_instance n) refl e (found_named l.class m.name m.descriptor n f)
      where
        by_test : (b : Bool) → is_instance n ≡ b → cond b (Some (declared_by l n)) None ≡ Some d → (place : ℕ) ×
            (slice_get l.class.methods place ≡ Some n) × (n.name ≡ m.name) × (n.descriptor ≡ m.descriptor)
            → (n : Method) × (place : ℕ) × (d ≡ declared_by l n) × (slice_get l.class.methods place ≡ Some n) × (n.name ≡ m.name) × (n.descriptor ≡ m.descriptor) × (is_instance n ≡ true)
        by_test true t e found = let same : d ≡ declared_by l n = cc in (n, found.0, same, found.1, found.2, found.3, t)
        by_test false t e found = absurd cc

-- a method of the class overrides a final one of this superclass, behind those passed
abbrev breaks_at : Loaded → List Loaded → Loaded → Method → Bool
breaks_at l passed s m = can_override m && overrides_final (found_past l m passed) (alike_in s m)

breaks_final_of_same : (l : Loaded) (passed : List Loaded) (s : Loaded) → EachIsNamed l.class → EachIsNamed s.class → have_other_names l passed ≡ true → bytes_eq s.class.name l.class.name ≡ false
    → breaks_final_of l passed s ≡ list_any (breaks_at l passed s) l.class.methods
breaks_final_of_same l passed s own theirs others other = both_ways (breaks_final_of l passed s) (list_any (breaks_at l passed s) l.class.methods) up down
  where
    Down : Method → Bool
    Down m = is_final_instance m && overrides_in l passed (declared_by s m)

    up_from : (m n : Method) (place : ℕ) → is_instance n ≡ true → slice_get l.class.methods place ≡ Some n → n.name ≡ m.name → n.descriptor ≡ m.descriptor → has m.access_flags acc_final ≡ true
        → alike_in s m ≡ Some (declared_by s m) → list_any (overrides_itself (declared_by l n)) (overriding (declared_by s m ∷ []) m passed) ≡ true
        → list_any (breaks_at l passed s) l.class.methods ≡ true
    up_from m n place instance there same also final itself h =
        let parts = and_parts (not (has n.access_flags acc_private)) (is_overridden (found_past l m passed) (declared_by s m) || false)
        (sym (overridden_past l n m (declared_by s m ∷ []) passed) ∙ h) in
        let overridden : is_overridden (found_past l n passed) (declared_by s m) ≡ true =
        ap (λ found. is_overridden found (declared_by s m)) (found_same l n m same also passed) ∙ (sym (or_none (is_overridden (found_past l m passed) (declared_by s m))) ∙ parts.1)
        in
        let can : can_override n ≡ true = and_from (is_instance n) (not (has n.access_flags acc_private)) instance parts.0 in
        let broken : overrides_final (found_past l n passed) (alike_in s n) ≡ true =
        ap (overrides_final (found_past l n passed)) (alike_same s n m same also ∙ itself)
        ∙ and_from (has m.access_flags acc_final) (is_overridden (found_past l n passed) (declared_by s m)) final overridden
        in
        item_passes (breaks_at l passed s) l.class.methods place n there (and_from (can_override n) (overrides_final (found_past l n passed) (alike_in s n)) can broken)

    up : list_any Down s.class.methods ≡ true → list_any (breaks_at l passed s) l.class.methods ≡ true
    up h =
        let found = passing_item Down s.class.methods h in
        let m = found.1 in
        let parts = and_parts (is_final_instance m) (overrides_in l passed (declared_by s m)) found.3 in
        let flags = and_parts (has m.access_flags acc_final) (is_instance m) parts.0 in
        by_own m (alike_in l m) refl flags.0 (alike_itself s m found.0 theirs found.2 flags.1) (sym (own_in l passed (declared_by s m) others other) ∙ parts.1)
      where
        by_own : (m : Method) (o : Option Declared) → alike_in l m ≡ o → has m.access_flags acc_final ≡ true → alike_in s m ≡ Some (declared_by s m)
            → overrides_one (overriding (declared_by s m ∷ []) m passed) o ≡ true → list_any (breaks_at l passed s) l.class.methods ≡ true
        by_own m None e final itself h = absurd cc
        by_own m (Some d) e final itself h =
            let own_method = alike_found l m d e in
            up_from m own_method.0 own_method.1 own_method.6 own_method.3 own_method.4 own_method.5 final itself
            (subst (λ b. list_any (overrides_itself b) (overriding (declared_by s m ∷ []) m passed) ≡ true) own_method.2 h)

    down_from : (m n : Method) (place place' : ℕ) → slice_get s.class.methods place ≡ Some m → is_instance m ≡ true →
        slice_get l.class.methods place' ≡ Some n → m.name ≡ n.name → m.descriptor ≡ n.descriptor
        → can_override n ≡ true → overrides_final (found_past l n passed) (Some (declared_by s m)) ≡ true → list_any Down s.class.methods ≡ true
    down_from m n place place' there instance own_there same also can h =
        let flags = and_parts (is_instance n) (not (has n.access_flags acc_private)) can in
        let parts = and_parts (has m.access_flags acc_final) (is_overridden (found_past l n passed) (declared_by s m)) h in
        let overridden : (is_overridden (found_past l m passed) (declared_by s m) || false) ≡ true =
        or_none (is_overridden (found_past l m passed) (declared_by s m)) ∙ (ap (λ found. is_overridden found (declared_by s m)) (found_same l m n same also passed) ∙ parts.1)
        in
        let overrides : overrides_in l passed (declared_by s m) ≡ true =
        own_in l passed (declared_by s m) others other
        ∙ (ap (overrides_one (overriding (declared_by s m ∷ []) m passed)) (alike_same l m n same also ∙ alike_itself l n place' own own_there flags.0)
        ∙ (overridden_past l n m (declared_by s m ∷ []) passed ∙ and_from (not (has n.access_flags acc_private)) (is_overridden (found_past l m passed) (declared_by s m) || false) flags.1 overridden))
        in
        item_passes Down s.class.methods place m there
        (and_from (is_final_instance m) (overrides_in l passed (declared_by s m)) (and_from (has m.access_flags acc_final) (is_instance m) parts.0 instance) overrides)

    down : list_any (breaks_at l passed s) l.class.methods ≡ true → list_any Down s.class.methods ≡ true
    down h =
        let found = passing_item (breaks_at l passed s) l.class.methods h in
        let n = found.1 in
        let parts = and_parts (can_override n) (overrides_final (found_past l n passed) (alike_in s n)) found.3 in
        by_their (alike_in s n) n found.0 refl found.2 parts.0 parts.1
      where
        by_their : (o : Option Declared) (n : Method) (place : ℕ) → alike_in s n ≡ o → slice_get l.class.methods place ≡ Some n → can_override n ≡
            true → overrides_final (found_past l n passed) o ≡ true
            → list_any Down s.class.methods ≡ true
        by_their None n place e there can h = absurd cc
        by_their (Some d) n place e there can h =
            let their_method = alike_found s n d e in
            down_from their_method.0 n their_method.1 place their_method.3 their_method.6 there their_method.4 their_method.5 can
            (subst (λ b. overrides_final (found_past l n passed) (Some b) ≡ true) their_method.2 h)

-- ---- all superclasses

not_named : (b : Bool) → not b ≡ true → b ≡ false
not_named true h = absurd cc
not_named false h = refl

breaks_from : (l : Loaded) → EachIsNamed l.class → (passed chain : List Loaded) → AreNamed chain → have_other_names l passed ≡ true → have_other_names l chain ≡ true
    → breaks_final l passed chain ≡ list_any (λ m. can_override m && overrides_final_above m (found_past l m passed) chain) l.class.methods
breaks_from l own passed [] named before others =
    sym (any_same (λ m. can_override m && false) (λ m. false && false) (λ m. and_none (can_override m)) l.class.methods ∙ any_if false (λ m. false) l.class.methods)
breaks_from l own passed (s ∷ chain) named before others =
    let parts = and_parts (not (bytes_eq s.class.name l.class.name)) (have_other_names l chain) others in
    let here = breaks_final_of_same l passed s own named.0 before (not_named (bytes_eq s.class.name l.class.name) parts.0) in
    let there = breaks_from l own (s ∷ passed) chain named.1 (and_from (not (bytes_eq s.class.name l.class.name)) (have_other_names l passed) parts.0 before) parts.1 in
    ap (λ b. b || breaks_final l (s ∷ passed) chain) here
    ∙ (ap (λ b. list_any (breaks_at l passed s) l.class.methods || b) there
    ∙ (sym (any_either (breaks_at l passed s) (λ m. can_override m && overrides_final_above m (found_past l m (s ∷ passed)) chain) l.class.methods)
    ∙ any_same _ (λ m. can_override m && overrides_final_above m (found_past l m passed) (s ∷ chain))
    (λ m. shared (can_override m) (overrides_final (found_past l m passed) (alike_in s m)) (overrides_final_above m (found_past l m (s ∷ passed)) chain)) l.class.methods))

-- a class breaks a final method exactly where one of its methods overrides a final one on the way up
pub breaks_final_same : (l : Loaded) (chain : List Loaded) → EachIsNamed l.class → AreNamed chain → have_other_names l chain ≡ true →
    breaks_final l [] chain ≡ list_any (breaks_final_by l chain) l.class.methods
breaks_final_same l chain own named others = breaks_from l own [] chain named refl others
