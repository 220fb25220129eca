-- The two laws of a frame and of a table of frames (JVMS 4.7.4).
use Rattle.std.proofs.Common.{◌≡◌, ℕ, suc, ◌+◌, ◌-◌, ◌<◌, ◌≤◌, Bool, true, false, cond, eqb, ltb, List, [], ◌∷◌, ◌++◌, length, Option, Some, None, refl, sym, ap, subst, ◌∙◌, arith}
use Rattle.std.specs.Prelude.{IsTrue}
use Rattle.std.specs.List.{list_all}
use Rattle.std.proofs.lemmas.Bool.{and_parts, and_from, eqb-true, ltb-true, ltb-false, lt-ltb, le-ltb, le-leb, leb-true, eq-eqb}
use Rattle.std.proofs.lemmas.Bool.Decides.{nat_tests}
use Rattle.std.proofs.lemmas.Grind.{common_steps}
use Rattle.jv_format.specs.Format.{Format, byte, half, ◌>>=◌, IsBytes}
use Rattle.jv_format.specs.Readers.{both, found_as}
use Rattle.jv_format.proofs.Laws.{is_some, bind_some, IsFormat, Took, half_is, both_is, list_is, after_is, again_as}
use Rattle.jv_stackmap.specs.declared.item.Item.{Item}
use Rattle.jv_stackmap.specs.declared.form.Form.TheVariants.{Same, SameItem, SameItemExtended, Chop, SameExtended, Append, Full}
use Rattle.jv_stackmap.specs.Bytes.{MapForm, form_bytes, form_fits, item_bytes, item_fits, counted_fits, is_few}
use Rattle.jv_stackmap.specs.Inside.Reading.{same_item, same_item_extended, chop, same_extended, append, full, item, so_many_items, counted_items, short_contents, form_contents, form_read, form, forms_of, counted_forms}
use Rattle.jv_stackmap.proofs.Items.{item_is, items_are, counted_is}

-- a test went one way
by_test : {C P : Type 0} (b : Bool) (r s : Option C) (y : C) → cond b r s ≡ Some y → (b ≡ true → r ≡ Some y → P) → (b ≡ false → s ≡ Some y → P) → P
by_test true r s y e on off = on refl e
by_test false r s y e on off = off refl e

-- what was found behind a type, where each value that fits there has this type
took_as : {A : Type 0} (f : Format A) (to : A → MapForm) (first : ℕ) (bytes rest : List ℕ) (c : MapForm) → IsFormat f → IsBytes bytes
    → ((a : A) → IsTrue (f.fits a) → (form_bytes (to a) ≡ first ∷ f.spelling a) × IsTrue (form_fits (to a))) → (f.read bytes >>= found_as to) ≡ Some (c, rest)
    → Took form_bytes form_fits first bytes rest c
took_as {A = A} f to first bytes rest c F small own e =
    let a = bind_some (f.read bytes) (found_as to) (c, rest) e in
    let one = F.takes bytes a.0.1 a.0.0 small a.1 in
    let two = own a.0.0 one.1 in
    let made : MapForm × List ℕ = (to a.0.0, a.0.1) in
    subst (λ (y : MapForm × List ℕ). Took form_bytes form_fits first bytes y.1 y.0) (is_some made (c, rest) a.2)
    (ap (λ (r : List ℕ). first ∷ r) one.0 ∙ ap (λ (x : List ℕ). x ++ a.0.1) (sym two.0), two.1)

abbrev found : MapForm → List ℕ → Option (MapForm × List ℕ)
found f bytes = Some (f, bytes)

same_take : (tag : ℕ) (bytes rest : List ℕ) (c : MapForm) → ltb tag 64 ≡ true → found (Same tag) bytes ≡ Some (c, rest) → Took form_bytes form_fits tag bytes rest c
same_take tag bytes rest c lt e = subst (λ (y : MapForm × List ℕ). Took form_bytes form_fits tag bytes y.1 y.0) (is_some (Same tag, bytes) (c, rest) e) (refl, lt)

few : (n : ℕ) → 1 ≤ n → n ≤ 3 → IsTrue (is_few n)
few n one three = and_from _ _ (le-leb 1 n one) (le-leb n 3 three)

same_item_own : (tag : ℕ) → 64 ≤ tag → tag < 128 → (i : Item) → IsTrue (item_fits i) → (form_bytes (same_item (tag - 64) i) ≡ tag ∷ item_bytes i) × IsTrue (form_fits (same_item (tag - 64) i))
same_item_own tag le lt i h = (ap (λ (k : ℕ). k ∷ item_bytes i) (omega arith), and_from _ _ (lt-ltb (tag - 64) 64 (omega arith)) h)

chop_own : (tag : ℕ) → 248 ≤ tag → tag < 251 → (d : ℕ) → IsTrue (half.fits d) → (form_bytes (chop (251 - tag) d) ≡ tag ∷ half.spelling d) × IsTrue (form_fits (chop (251 - tag) d))
chop_own tag le lt d h = (ap (λ (k : ℕ). k ∷ half.spelling d) (omega arith), and_from _ _ (few (251 - tag) (omega arith) (omega arith)) h)

above : (tag : ℕ) → 247 ≤ tag → eqb tag 247 ≡ false → 248 ≤ tag
above tag le other = grind (arith, common_steps, nat_tests)

not_none : {P : Type 0} (c : MapForm) (rest : List ℕ) → None ≡ found c rest → P
not_none c rest e = absurd cc

short_take : (tag : ℕ) (bytes rest : List ℕ) (c : MapForm) → tag < 252 → IsBytes bytes → short_contents tag bytes ≡ Some (c, rest) → Took form_bytes form_fits tag bytes rest c
short_take tag bytes rest c lt small e =
    by_test _ _ _ _ e (λ t r. same_take tag bytes rest c t r) (λ f0 e.
    by_test _ _ _ _ e (λ t r. took_as item (same_item (tag - 64)) tag bytes rest c item_is small (same_item_own tag (ltb-false _ _ f0) (ltb-true _ _ t)) r) (λ f1 e.
    by_test _ _ _ _ e (λ t r. not_none c rest r) (λ f2 e.
    by_test _ _ _ _ e (λ t r. took_as (both half item) same_item_extended tag bytes rest c (both_is half item half_is item_is) small
    (λ p h. (ap (λ (k : ℕ). k ∷ (both half item).spelling p) (sym (eqb-true _ _ t)), h)) r) (λ f3 e.
    by_test _ _ _ _ e (λ t r. took_as half (chop (251 - tag)) tag bytes rest c half_is small (chop_own tag (above tag (ltb-false _ _ f2) f3) (ltb-true _ _ t)) r) (λ f4 e.
    took_as half same_extended tag bytes rest c half_is small (λ d h. (ap (λ (k : ℕ). k ∷ half.spelling d) (omega (arith, ltb-false _ _ f4)), h)) e)))))

append_own : (tag : ℕ) → 252 ≤ tag → tag < 255 → (p : ℕ × List Item) → IsTrue ((both half (so_many_items (tag - 251))).fits p) →
    (form_bytes (append p) ≡ tag ∷ (both half (so_many_items (tag - 251))).spelling p) × IsTrue (form_fits (append p))
append_own tag le lt p h =
    let one = and_parts _ _ h in
    let two = and_parts _ _ one.1 in
    let n : length p.1 ≡ tag - 251 = eqb-true _ _ two.0 in
    (ap (λ (k : ℕ). k ∷ (both half (so_many_items (tag - 251))).spelling p) (omega (arith, n)), and_from _ _ (few (length p.1) (omega (arith, n)) (omega (arith, n))) (and_from _ _ one.0 two.1))

counted_fits_from : (l : List Item) → IsTrue (counted_items.fits l) → IsTrue (counted_fits l)
counted_fits_from l h =
    let p = and_parts (half.fits (length l)) ((so_many_items (length l)).fits l) h in
    let q = and_parts (eqb (length l) (length l)) (list_all item_fits l) p.1 in
    and_from (half.fits (length l)) (list_all item_fits l) p.0 q.1

full_own : (tag : ℕ) → tag ≡ 255 → (p : ℕ × (List Item × List Item)) → IsTrue ((both half (both counted_items counted_items)).fits p) →
    (form_bytes (full p) ≡ tag ∷ (both half (both counted_items counted_items)).spelling p) × IsTrue (form_fits (full p))
full_own tag is p h =
    let one = and_parts _ _ h in
    let two = and_parts _ _ one.1 in
    (ap (λ (k : ℕ). k ∷ (both half (both counted_items counted_items)).spelling p) (sym is), and_from _ _ one.0 (and_from _ _ (counted_fits_from p.1.0 two.0) (counted_fits_from p.1.1 two.1)))

form_take : (tag : ℕ) (bytes rest : List ℕ) (c : MapForm) → tag < 256 → IsBytes bytes → form_contents tag bytes ≡ Some (c, rest) → Took form_bytes form_fits tag bytes rest c
form_take tag bytes rest c lt small e =
    by_test _ _ _ _ e (λ t r. short_take tag bytes rest c (ltb-true _ _ t) small r) (λ f0 e.
    by_test _ _ _ _ e (λ t r. took_as (both half (so_many_items (tag - 251))) append tag bytes rest c
    (both_is half (so_many_items (tag - 251)) half_is (items_are (tag - 251))) small (append_own tag (ltb-false _ _ f0) (ltb-true _ _ t)) r)
    (λ f1 e.
    took_as (both half (both counted_items counted_items)) full tag bytes rest c
    (both_is half (both counted_items counted_items) half_is (both_is counted_items counted_items counted_is counted_is)) small
    (full_own tag (omega (arith, ltb-false _ _ f1))) e))

form_takes : (bytes rest : List ℕ) (c : MapForm) → IsBytes bytes → form_read bytes ≡ Some (c, rest) → (bytes ≡ form_bytes c ++ rest) × IsTrue (form_fits c)
form_takes [] rest c small e = absurd cc
form_takes (tag ∷ bytes) rest c small e =
    let more : IsBytes bytes = λ k. small (suc k) in
    let lt : tag < 256 = small 0 in
    form_take tag bytes rest c lt more e

-- ---- what is spelled is read

skip : {A : Type 0} (b : Bool) (x y z : A) → b ≡ false → y ≡ z → cond b x y ≡ z
skip true x y z e h = absurd cc
skip false x y z e h = h

stop : {A : Type 0} (b : Bool) (x y z : A) → b ≡ true → x ≡ z → cond b x y ≡ z
stop true x y z e h = h
stop false x y z e h = absurd cc

unequal : (a b : ℕ) → b < a → eqb a b ≡ false
unequal a b lt = grind (arith, common_steps, nat_tests)

short_form : (tag : ℕ) (rest : List ℕ) (o : Option (MapForm × List ℕ)) → tag < 252 → short_contents tag rest ≡ o → form_contents tag rest ≡ o
short_form tag rest o lt h = stop _ _ _ o (lt-ltb tag 252 lt) h

same_again : (d : ℕ) (rest : List ℕ) → d < 64 → form_contents d rest ≡ found (Same d) rest
same_again d rest lt = short_form d rest _ (omega arith) (stop _ _ _ _ (lt-ltb d 64 lt) refl)

same_item_again : (d : ℕ) (i : Item) (rest : List ℕ) → d < 64 → IsTrue (item_fits i) → form_contents (64 + d) (item_bytes i ++ rest) ≡ found (SameItem d i) rest
same_item_again d i rest lt h =
    short_form (64 + d) (item_bytes i ++ rest) _ (omega arith) (
    skip _ _ _ _ (le-ltb (64 + d) 64 (omega arith)) (
    stop _ _ _ _ (lt-ltb (64 + d) 128 (omega arith))
    (ap (λ (k : ℕ). item.read (item_bytes i ++ rest) >>= found_as (same_item k)) (omega arith) ∙ again_as item (same_item d) i rest item_is h)))

chop_again : (n d : ℕ) (rest : List ℕ) → 1 ≤ n → n ≤ 3 → IsTrue (half.fits d) → form_contents (251 - n) (half.spelling d ++ rest) ≡ found (Chop n d) rest
chop_again n d rest one three h =
    short_form (251 - n) (half.spelling d ++ rest) _ (omega arith) (
    skip _ _ _ _ (le-ltb (251 - n) 64 (omega arith)) (
    skip _ _ _ _ (le-ltb (251 - n) 128 (omega arith)) (
    skip _ _ _ _ (le-ltb (251 - n) 247 (omega arith)) (
    skip _ _ _ _ (unequal (251 - n) 247 (omega arith)) (
    stop _ _ _ _ (lt-ltb (251 - n) 251 (omega arith))
    (ap (λ (k : ℕ). half.read (half.spelling d ++ rest) >>= found_as (chop k)) (omega arith) ∙ again_as half (chop n) d rest half_is h))))))

append_again : (d : ℕ) (l : List Item) (rest : List ℕ) → IsTrue (form_fits (Append d l)) → form_contents (251 + length l)
    ((half.spelling d ++ (so_many_items (length l)).spelling l) ++ rest) ≡ found (Append d l) rest
append_again d l rest h =
    let one = and_parts _ _ h in
    let few = and_parts _ _ one.0 in
    let two = and_parts _ _ one.1 in
    let low : 1 ≤ length l = leb-true _ _ few.0 in
    let high : length l ≤ 3 = leb-true _ _ few.1 in
    let bytes : List ℕ = (half.spelling d ++ (so_many_items (length l)).spelling l) ++ rest in
    skip _ _ _ _ (le-ltb (251 + length l) 252 (omega arith)) (
    stop _ _ _ _ (lt-ltb (251 + length l) 255 (omega arith))
    (ap (λ (k : ℕ). (both half (so_many_items k)).read bytes >>= found_as append) (omega arith)
    ∙ again_as (both half (so_many_items (length l))) append (d, l) rest (both_is half (so_many_items (length l)) half_is (items_are (length l)))
    (and_from _ _ two.0 (and_from _ _ (eq-eqb (length l) (length l) refl) two.1))))

counted_fits_as : (l : List Item) → IsTrue (counted_fits l) → IsTrue (counted_items.fits l)
counted_fits_as l h =
    let p = and_parts (half.fits (length l)) (list_all item_fits l) h in
    and_from (half.fits (length l)) ((so_many_items (length l)).fits l) p.0 (and_from _ _ (eq-eqb (length l) (length l) refl) p.1)

full_again : (d : ℕ) (l s : List Item) (rest : List ℕ) → IsTrue (form_fits (Full d l s)) → form_contents 255
    ((both half (both counted_items counted_items)).spelling (d, (l, s)) ++ rest) ≡ found (Full d l s) rest
full_again d l s rest h =
    let one = and_parts _ _ h in
    let two = and_parts _ _ one.1 in
    again_as (both half (both counted_items counted_items)) full (d, (l, s)) rest
    (both_is half (both counted_items counted_items) half_is (both_is counted_items counted_items counted_is counted_is))
    (and_from _ _ one.0 (and_from _ _ (counted_fits_as l two.0) (counted_fits_as s two.1)))

form_again : (c : MapForm) (rest : List ℕ) → IsTrue (form_fits c) → form_read (form_bytes c ++ rest) ≡ Some (c, rest)
form_again (Same d) rest h = same_again d rest (ltb-true _ _ h)
form_again (SameItem d i) rest h = let p = and_parts _ _ h in same_item_again d i rest (ltb-true _ _ p.0) p.1
form_again (SameItemExtended d i) rest h = again_as (both half item) same_item_extended (d, i) rest (both_is half item half_is item_is) h
form_again (Chop n d) rest h = let p = and_parts _ _ h in let q = and_parts _ _ p.0 in chop_again n d rest (leb-true _ _ q.0) (leb-true _ _ q.1) p.1
form_again (SameExtended d) rest h = again_as half same_extended d rest half_is h
form_again (Append d l) rest h = append_again d l rest h
form_again (Full d l s) rest h = full_again d l s rest h

pub form_is : IsFormat form
form_is = record { takes = form_takes; again = form_again }

forms_are : (n : ℕ) → IsFormat (forms_of n)
forms_are n = list_is n form form_is

pub counted_forms_is : IsFormat counted_forms
counted_forms_is = after_is half length forms_of half_is forms_are (λ n list h. eqb-true _ _ (and_parts _ _ h).0)

pub form_read_as : (bytes rest : List ℕ) (tag : ℕ) → byte.read bytes ≡ Some (tag, rest) → form_contents tag rest ≡ form_read bytes
form_read_as [] rest tag e = absurd cc
form_read_as (first ∷ bytes) rest tag e =
    ap (λ (p : ℕ × List ℕ). form_contents p.0 p.1) (sym (is_some (first, bytes) (tag, rest) e))
