-- What is read is spelled so, and what is spelled so is read, whatever follows.
use Rattle.std.proofs.Common.{◌≡◌, ℕ, zero, suc, ◌+◌, ◌<◌, ◌≤◌, ◌-◌, Bool, true, false, cond, eqb, ltb, ◌&&◌, List, [], ◌∷◌, ◌++◌, length, take, drop, eq-eqb, Option, Some, None, refl, sym, ap, subst, ◌∙◌, append_assoc, arith}
use Rattle.std.specs.Int.{Width, w8, w16, w32, w64, w128, cast_signed, cast_unsigned}
use mir.Val.{bits, hbits, SFits, sel}
use Rattle.std.proofs.lemmas.Int.{to_z-of_z, of_z-to_z}
use Rattle.std.specs.Prelude.{ℤ, pos, negsuc, ◌^◌, IsTrue}
use Rattle.std.specs.List.{flat_map, list_all}
use Rattle.std.proofs.lemmas.Bool.{and_parts, and_from, ltb-false, le-ltb, lt-ltb, ltb-true, eqb-true}
use Rattle.std.proofs.lemmas.Grind.{common_steps}
use Rattle.std.proofs.lemmas.List.{append-nil, take_at, drop_at, take-append-drop, length-append, length-take}
use Rattle.jv_format.specs.Format.{Format, ◌>>=◌, IsBytes, byte, half, text, front, quad}
use Rattle.jv_format.specs.Readers.{both, list_read, list_of, never, case_of, spelled_at, fits_at, found_as, after, then_read, such_that, passed, bytes_of, signed, signed_fits, signed_read, paired, joined, second_read, contents, at_the_end, whole, enclosed_read, enclosed}

abbrev pub just : {A : Type 0} → A → Option A
just x = Some x

pub is_some : {A : Type 0} (x y : A) → just x ≡ just y → x ≡ y
is_some x y e = cc

chosen : {A : Type 0} (b : Bool) (x y : A) → cond b None (Some x) ≡ just y → (b ≡ false) × (x ≡ y)
chosen true x y e = absurd cc
chosen false x y e = (refl, cc)

-- the two laws of a format
pub record IsFormat {A : Type 0} (f : Format A) : Type 0 where
  pub takes : (bytes rest : List ℕ) (x : A) → IsBytes bytes → f.read bytes ≡ Some (x, rest) → (bytes ≡ f.spelling x ++ rest) × IsTrue (f.fits x)
  pub again : (x : A) (rest : List ℕ) → IsTrue (f.fits x) → f.read (f.spelling x ++ rest) ≡ Some (x, rest)

-- the value of a step that found something
pub bind_some : {A B : Type 0} (o : Option A) (f : A → Option B) (y : B) → (o >>= f) ≡ Some y → (x : A) × (o ≡ Some x) × (f x ≡ Some y)
bind_some None f y e = absurd cc
bind_some (Some x) f y e = (x, refl, e)

pub IsBytes-rest : (front rest bytes : List ℕ) → bytes ≡ front ++ rest → IsBytes bytes → IsBytes rest
IsBytes-rest [] rest bytes e h = rw (← e) h
IsBytes-rest (x ∷ front) rest [] e h = absurd cc
IsBytes-rest (x ∷ front) rest (y ∷ bytes) e h =
    let more : IsBytes bytes = λ i. h (suc i) in
    let same : bytes ≡ front ++ rest = cc in
    IsBytes-rest front rest bytes same more

bytes_from : (x : ℕ) (bytes : List ℕ) → x < 256 → IsBytes bytes → IsBytes (x ∷ bytes)
bytes_from x bytes lt h zero = lt
bytes_from x bytes lt h (suc i) = h i

byte_takes : (bytes rest : List ℕ) (x : ℕ) → IsBytes bytes → byte.read bytes ≡ Some (x, rest) → (bytes ≡ byte.spelling x ++ rest) × IsTrue (byte.fits x)
byte_takes [] rest x fits e = absurd cc
byte_takes (a ∷ bytes) rest x fits e = let lt : a < 256 = fits 0 in grind (arith, common_steps)

pub byte_is : IsFormat byte
byte_is = record { takes = byte_takes; again = λ x rest h. refl }

half_takes : (bytes rest : List ℕ) (x : ℕ) → IsBytes bytes → half.read bytes ≡ Some (x, rest) → (bytes ≡ half.spelling x ++ rest) × IsTrue (half.fits x)
half_takes [] rest x fits e = absurd cc
half_takes (a ∷ []) rest x fits e = absurd cc
half_takes (a ∷ b ∷ bytes) rest x fits e =
    let la : a < 256 = fits 0 in
    let lb : b < 256 = fits 1 in
    grind (arith, common_steps)

half_again : (x : ℕ) (rest : List ℕ) → IsTrue (half.fits x) → half.read (half.spelling x ++ rest) ≡ Some (x, rest)
half_again x rest h = ap (λ (n : ℕ). Some (n, rest)) (omega arith)

pub half_is : IsFormat half
half_is = record { takes = half_takes; again = half_again }

pub both_is : {A B : Type 0} (f : Format A) (g : Format B) → IsFormat f → IsFormat g → IsFormat (both f g)
both_is {A = A} {B = B} f g F G = record {
  takes = λ bytes rest x fits e.
      let a = bind_some (f.read bytes) (λ a. g.read a.1 >>= λ b. Some ((a.0, b.0), b.1)) (x, rest) e in
      let b = bind_some (g.read a.0.1) (λ b. Some ((a.0.0, b.0), b.1)) (x, rest) a.2 in
      let one = F.takes bytes a.0.1 a.0.0 fits a.1 in
      let two = G.takes a.0.1 b.0.1 b.0.0 (IsBytes-rest (f.spelling a.0.0) a.0.1 bytes one.0 fits) b.1 in
      let made : (A × B) × List ℕ = ((a.0.0, b.0.0), b.0.1) in
      let same : made ≡ (x, rest) = is_some made (x, rest) b.2 in
      subst (λ (y : (A × B) × List ℕ). (bytes ≡ (f.spelling y.0.0 ++ g.spelling y.0.1) ++ y.1) × IsTrue (f.fits y.0.0 && g.fits y.0.1)) same
      (one.0 ∙ ap (λ (r : List ℕ). f.spelling a.0.0 ++ r) two.0 ∙ sym (append_assoc (f.spelling a.0.0) (g.spelling b.0.0) b.0.1), and_from _ _ one.1 two.1);
  again = λ x rest h.
      let parts = and_parts (f.fits x.0) (g.fits x.1) h in
      rw (append_assoc, F.again x.0 (g.spelling x.1 ++ rest) parts.0, G.again x.1 rest parts.1) refl;
}

-- the rest after a length and that many bytes
front_rest : (n : ℕ × List ℕ) (y : List ℕ × List ℕ) → front n ≡ Some y → (n.1 ≡ y.0 ++ y.1) × (length y.0 ≡ n.0)
front_rest n y e =
    let long = chosen (ltb (length n.1) n.0) (take n.0 n.1, drop n.0 n.1) y e in
    let le : n.0 ≤ length n.1 = ltb-false _ _ long.0 in
    (rw (← long.1) (sym (take-append-drop n.0 n.1)), rw (← long.1) (omega (arith, length-take n.0 n.1)))

front_again : (x rest : List ℕ) → front (length x, x ++ rest) ≡ Some (x, rest)
front_again x rest =
    let long : ltb (length (x ++ rest)) (length x) ≡ false = le-ltb _ _ (omega (arith, length-append x rest)) in
    rw (long, take_at x rest (length x) refl, drop_at x rest (length x) refl) refl

pub text_is : IsFormat text
text_is = record {
  takes = λ bytes rest x fits e.
      let n = bind_some (half.read bytes) front (x, rest) e in
      let one = half_takes bytes n.0.1 n.0.0 fits n.1 in
      let two = front_rest n.0 (x, rest) n.2 in
      (rw two.1 (one.0 ∙ ap (λ (r : List ℕ). half.spelling n.0.0 ++ r) two.0), rw two.1 one.1);
  again = λ x rest h. ap (λ o. o >>= front) (half_again (length x) (x ++ rest) h) ∙ front_again x rest;
}

case_again : {A C : Type 0} (to : A → C) (f : Format A) → IsFormat f → (x : C) (rest : List ℕ) (o : Option A) → ((a : A) → o ≡ Some a → to a ≡ x) → IsTrue (fits_at f o)
    → (f.read (spelled_at f o ++ rest) >>= found_as to) ≡ Some (x, rest)
case_again to f F x rest None back h = absurd cc
case_again {A = A} to f F x rest (Some a) back h =
    ap (λ (o : Option (A × List ℕ)). o >>= found_as to) (F.again a rest h) ∙ ap (λ c. Some (c, rest)) (back a refl)

pub case_is : {A C : Type 0} (to : A → C) (from : C → Option A) (f : Format A) → ((a : A) → IsTrue (f.fits a) → from (to a) ≡ Some a) →
    ((c : C) (a : A) → from c ≡ Some a → to a ≡ c) → IsFormat f → IsFormat (case_of to from f)
case_is {A = A} {C = C} to from f there back F = record {
  takes = λ bytes rest x fits e.
      let a = bind_some (f.read bytes) (found_as to) (x, rest) e in
      let one = F.takes bytes a.0.1 a.0.0 fits a.1 in
      let made : C × List ℕ = (to a.0.0, a.0.1) in
      let same : made ≡ (x, rest) = is_some made (x, rest) a.2 in
      subst (λ (y : C × List ℕ). (bytes ≡ spelled_at f (from y.0) ++ y.1) × IsTrue (fits_at f (from y.0))) same
      (one.0 ∙ ap (λ o. spelled_at f o ++ a.0.1) (sym (there a.0.0 one.1)), ap (fits_at f) (there a.0.0 one.1) ∙ one.1);
  again = λ x rest h. case_again to f F x rest (from x) (back x) h;
}

pub never_is : {A : Type 0} → IsFormat (never {A = A})
never_is = record { takes = λ bytes rest x fits e. absurd cc; again = λ x rest h. absurd cc }

list_takes : {A : Type 0} (f : Format A) → IsFormat f → (n : ℕ) (bytes rest : List ℕ) (xs : List A) → IsBytes bytes → list_read f n bytes ≡ Some (xs, rest)
    → (bytes ≡ flat_map f.spelling xs ++ rest) × (length xs ≡ n) × IsTrue (list_all f.fits xs)
list_takes {A = A} f F zero bytes rest xs fits e =
    let made : List A × List ℕ = ([], bytes) in
    subst (λ (y : List A × List ℕ). (bytes ≡ flat_map f.spelling y.0 ++ y.1) × (length y.0 ≡ 0) × IsTrue (list_all f.fits y.0)) (is_some made (xs, rest) e) (refl, refl, refl)
list_takes {A = A} f F (suc n) bytes rest xs fits e =
    let a = bind_some (f.read bytes) (λ x. list_read f n x.1 >>= λ xs. Some (x.0 ∷ xs.0, xs.1)) (xs, rest) e in
    let b = bind_some (list_read f n a.0.1) (λ xs. Some (a.0.0 ∷ xs.0, xs.1)) (xs, rest) a.2 in
    let one = F.takes bytes a.0.1 a.0.0 fits a.1 in
    let two = list_takes f F n a.0.1 b.0.1 b.0.0 (IsBytes-rest (f.spelling a.0.0) a.0.1 bytes one.0 fits) b.1 in
    let made : List A × List ℕ = (a.0.0 ∷ b.0.0, b.0.1) in
    subst (λ (y : List A × List ℕ). (bytes ≡ flat_map f.spelling y.0 ++ y.1) × (length y.0 ≡ suc n) × IsTrue (list_all f.fits y.0)) (is_some made (xs, rest) b.2)
    (one.0 ∙ ap (λ (r : List ℕ). f.spelling a.0.0 ++ r) two.0 ∙ sym (append_assoc (f.spelling a.0.0) (flat_map f.spelling b.0.0) b.0.1), ap suc two.1, and_from _ _ one.1 two.2)

list_again : {A : Type 0} (f : Format A) → IsFormat f → (xs : List A) (rest : List ℕ) → IsTrue (list_all f.fits xs) → list_read f (length xs) (flat_map f.spelling xs ++ rest) ≡ Some (xs, rest)
list_again f F [] rest h = refl
list_again {A = A} f F (x ∷ xs) rest h =
    let parts = and_parts (f.fits x) (list_all f.fits xs) h in
    rw (append_assoc, F.again x (flat_map f.spelling xs ++ rest) parts.0, list_again f F xs rest parts.1) refl

pub list_is : {A : Type 0} (n : ℕ) (f : Format A) → IsFormat f → IsFormat (list_of n f)
list_is n f F = record {
  takes = λ bytes rest xs fits e.
      let all = list_takes f F n bytes rest xs fits e in
      (all.0, and_from _ _ (eq-eqb (length xs) n all.1) all.2);
  again = λ xs rest h.
      let parts = and_parts _ _ h in
      ap (λ (k : ℕ). list_read f k (flat_map f.spelling xs ++ rest)) (sym (eqb-true _ _ parts.0)) ∙ list_again f F xs rest parts.1;
}

-- the format finds nothing exactly where no value of it is spelled there
pub none_spelled : {A : Type 0} (f : Format A) → IsFormat f → (bytes : List ℕ) → f.read bytes ≡ None → (x : A) (rest : List ℕ) → IsTrue (f.fits x) → bytes ≡ f.spelling x ++ rest → ⊥
none_spelled f F bytes e x rest h is = let found = F.again x rest h in let none : f.read (f.spelling x ++ rest) ≡ None = rw (← is) e in cc

pub choice_is : {A : Type 0} (b : Bool) (f g : Format A) → IsFormat f → IsFormat g → IsFormat (cond b f g)
choice_is true f g F G = F
choice_is false f g F G = G

-- ---- a value whose first byte tells which it is

-- a test of that byte went one way
pub by_test : {C P : Type 0} (b : Bool) (r s : Option C) (y : C) → cond b r s ≡ Some y → (b ≡ true → r ≡ Some y → P) → (s ≡ Some y → P) → P
by_test true r s y e on off = on refl e
by_test false r s y e on off = off e

-- what was found behind a byte: the byte and the bytes behind it spell a value that fits
abbrev pub Took : {C : Type 0} → (C → List ℕ) → (C → Bool) → ℕ → List ℕ → List ℕ → C → Type 0
Took spelling fits first bytes rest c = (first ∷ bytes ≡ spelling c ++ rest) × IsTrue (fits c)

pub took : {A C : Type 0} (spelling : C → List ℕ) (fits : C → Bool) (f : Format A) (to : A → C) (tag first : ℕ) (bytes rest : List ℕ) (c : C) → IsFormat f → IsBytes bytes
    → ((a : A) → spelling (to a) ≡ tag ∷ f.spelling a) → ((a : A) → fits (to a) ≡ f.fits a) → eqb first tag ≡ true → (f.read bytes >>= found_as to) ≡
    Some (c, rest) → Took spelling fits first bytes rest c
took {A = A} {C = C} spelling fits f to tag first bytes rest c F small spelled fit is e =
    let a = bind_some (f.read bytes) (found_as to) (c, rest) e in
    let one = F.takes bytes a.0.1 a.0.0 small a.1 in
    let made : C × List ℕ = (to a.0.0, a.0.1) in
    subst (λ (y : C × List ℕ). Took spelling fits first bytes y.1 y.0) (is_some made (c, rest) a.2)
    (ap (λ (k : ℕ). k ∷ bytes) (eqb-true first tag is) ∙ ap (λ (r : List ℕ). tag ∷ r) one.0 ∙ ap (λ (x : List ℕ). x ++ a.0.1) (sym (spelled a.0.0)), fit a.0.0 ∙ one.1)

pub again_as : {A C : Type 0} (f : Format A) (to : A → C) (a : A) (rest : List ℕ) → IsFormat f → IsTrue (f.fits a) → (f.read (f.spelling a ++ rest) >>= found_as to) ≡ Some (to a, rest)
again_as {A = A} f to a rest F h = ap (λ (o : Option (A × List ℕ)). o >>= found_as to) (F.again a rest h)

-- ---- a loop that reads a list

-- what was read before, and what is still read
abbrev pub with_front : {A : Type 0} → List A → Option (List A × List ℕ) → Option (List A × List ℕ)
with_front front None = None
with_front front (Some x) = Some (front ++ x.0, x.1)

regroup : {A : Type 0} (before : List A) (x : A) (read : Option (List A × List ℕ)) → with_front before (read >>= λ xs. just (x ∷ xs.0, xs.1)) ≡ with_front (before ++ x ∷ []) read
regroup before x None = refl
regroup {A = A} before x (Some y) = ap (λ (xs : List A). just (xs, y.1)) (sym (append_assoc before (x ∷ []) y.0))

-- a loop that reads one more
pub goes_on : {A : Type 0} (f : Format A) (before : List A) (count i : ℕ) (bytes : List ℕ) (x : A) (after : List ℕ) (total : Option (List A × List ℕ)) → i < count → f.read bytes ≡ Some (x, after)
    → with_front before (list_read f (count - i) bytes) ≡ total → with_front (before ++ x ∷ []) (list_read f (count - (i + 1)) after) ≡ total
goes_on f before count i bytes x after total lt h so_far =
    let k : count - i ≡ suc (count - (i + 1)) = omega arith in
    let one : with_front before (list_read f (count - i) bytes) ≡ with_front (before ++ x ∷ []) (list_read f (count - (i + 1)) after) =
    rw (k, h) (regroup before x (list_read f (count - (i + 1)) after)) in
    sym one ∙ so_far

-- a loop that finds nothing where one more is wanted
pub ends : {A : Type 0} (f : Format A) (before : List A) (count i : ℕ) (bytes : List ℕ) (total : Option (List A × List ℕ)) → i < count → f.read bytes ≡ None
    → with_front before (list_read f (count - i) bytes) ≡ total → total ≡ None
ends {A = A} f before count i bytes total lt h so_far =
    let k : count - i ≡ suc (count - (i + 1)) = omega arith in
    let none : with_front before (list_read f (count - i) bytes) ≡ None = rw (k, h) refl in
    sym so_far ∙ none

pub after_is : {A B : Type 0} (h : Format B) (key : A → B) (g : B → Format A) → IsFormat h → ((b : B) → IsFormat (g b)) →
    ((b : B) (a : A) → IsTrue ((g b).fits a) → key a ≡ b) → IsFormat (after h key g)
after_is {A = A} {B = B} h key g H each own = record {
  takes = λ bytes rest x fits e.
      let b = bind_some (h.read bytes) (then_read g) (x, rest) e in
      let one = H.takes bytes b.0.1 b.0.0 fits b.1 in
      let two = (each b.0.0).takes b.0.1 rest x (IsBytes-rest (h.spelling b.0.0) b.0.1 bytes one.0 fits) b.2 in
      subst (λ (k : B). (bytes ≡ (h.spelling k ++ (g k).spelling x) ++ rest) × IsTrue (h.fits k && (g k).fits x)) (sym (own b.0.0 x two.1))
      (one.0 ∙ ap (λ (r : List ℕ). h.spelling b.0.0 ++ r) two.0 ∙ sym (append_assoc (h.spelling b.0.0) ((g b.0.0).spelling x) rest), and_from _ _ one.1 two.1);
  again = λ x rest fits.
      let parts = and_parts _ _ fits in
      let k = key x in
      ap (λ bytes. h.read bytes >>= then_read g) (append_assoc (h.spelling k) ((g k).spelling x) rest)
      ∙ ap (λ (o : Option (B × List ℕ)). o >>= then_read g) (H.again k ((g k).spelling x ++ rest) parts.0) ∙ (each k).again x rest parts.1;
}

passed_is : {A : Type 0} (b : Bool) (x y : A) → cond b (just x) None ≡ just y → (b ≡ true) × (x ≡ y)
passed_is true x y e = (refl, cc)
passed_is false x y e = absurd cc

pub such_is : {A : Type 0} (test : A → Bool) (f : Format A) → IsFormat f → IsFormat (such_that test f)
such_is {A = A} test f F = record {
  takes = λ bytes rest x fits e.
      let a = bind_some (f.read bytes) (passed test) (x, rest) e in
      let b = passed_is (test a.0.0) a.0 (x, rest) a.2 in
      let one = F.takes bytes a.0.1 a.0.0 fits a.1 in
      subst (λ (y : A × List ℕ). (bytes ≡ f.spelling y.0 ++ y.1) × IsTrue (f.fits y.0 && test y.0)) b.1 (one.0, and_from _ _ one.1 b.0);
  again = λ x rest h.
      let parts = and_parts _ _ h in
      ap (λ (o : Option (A × List ℕ)). o >>= passed test) (F.again x rest parts.0) ∙ rw parts.1 refl;
}

pub bytes_is : (n : ℕ) → IsFormat (bytes_of n)
bytes_is n = record {
  takes = λ bytes rest x fits e. let two = front_rest (n, bytes) (x, rest) e in (two.0, eq-eqb (length x) n two.1);
  again = λ x rest h. ap (λ (k : ℕ). front (k, x ++ rest)) (sym (eqb-true (length x) n h)) ∙ front_again x rest;
}

quad_takes : (bytes rest : List ℕ) (x : ℕ) → IsBytes bytes → quad.read bytes ≡ Some (x, rest) → (bytes ≡ quad.spelling x ++ rest) × IsTrue (quad.fits x)
quad_takes [] rest x fits e = absurd cc
quad_takes (a ∷ []) rest x fits e = absurd cc
quad_takes (a ∷ b ∷ []) rest x fits e = absurd cc
quad_takes (a ∷ b ∷ c ∷ []) rest x fits e = absurd cc
quad_takes (a ∷ b ∷ c ∷ d ∷ bytes) rest x fits e =
    let la : a < 256 = fits 0 in
    let lb : b < 256 = fits 1 in
    let lc : c < 256 = fits 2 in
    let ld : d < 256 = fits 3 in
    grind (arith, common_steps)

quad_again : (x : ℕ) (rest : List ℕ) → IsTrue (quad.fits x) → quad.read (quad.spelling x ++ rest) ≡ Some (x, rest)
quad_again x rest h = ap (λ (n : ℕ). Some (n, rest)) (omega arith)

pub quad_is : IsFormat quad
quad_is = record { takes = quad_takes; again = quad_again }

signed_there : (w : Width) (z : ℤ) → IsTrue (signed_fits (hbits w) z) → SFits w z
signed_there w (pos k) h = record { sfits = ltb-true _ _ h }
signed_there w (negsuc k) h = record { sfits = ltb-true _ _ h }

halves : (w : Width) → 2 ^ bits w ≡ 2 ^ hbits w + 2 ^ hbits w
halves w8 = refl
halves w16 = refl
halves w32 = refl
halves w64 = refl
halves w128 = refl

cast_at : (w : Width) (k : ℕ) (b : Bool) → ltb k (2 ^ hbits w) ≡ b → k < 2 ^ bits w → IsTrue (signed_fits (hbits w) (sel b (pos k) (negsuc (2 ^ bits w - suc k))))
cast_at w k true e lt = e
cast_at w k false e lt =
    let le : 2 ^ hbits w ≤ k = ltb-false _ _ e in
    lt-ltb (2 ^ bits w - suc k) (2 ^ hbits w) (omega (arith, halves w))

cast_below : (w : Width) (z : ℤ) → IsTrue (signed_fits (hbits w) z) → cast_unsigned w z < 2 ^ bits w
cast_below w (pos k) h = omega (arith, halves w, ltb-true k (2 ^ hbits w) h)
cast_below w (negsuc k) h = omega (arith, halves w, ltb-true k (2 ^ hbits w) h)

pub signed_is : (w : Width) (f : Format ℕ) → IsFormat f → ((k : ℕ) → IsTrue (f.fits k) → k < 2 ^ bits w) → ((k : ℕ) → k < 2 ^ bits w → IsTrue (f.fits k)) → IsFormat (signed w (hbits w) f)
signed_is w f F below within = record {
  takes = λ bytes rest z fits e.
      let n = bind_some (f.read bytes) (signed_read w) (z, rest) e in
      let one = F.takes bytes n.0.1 n.0.0 fits n.1 in
      let k = n.0.0 in
      let made : ℤ × List ℕ = (cast_signed w k, n.0.1) in
      let back : cast_unsigned w (cast_signed w k) ≡ k = of_z-to_z w k (below k one.1) in
      subst (λ (y : ℤ × List ℕ). (bytes ≡ f.spelling (cast_unsigned w y.0) ++ y.1) × IsTrue (signed_fits (hbits w) y.0)) (is_some made (z, rest) n.2)
      (one.0 ∙ ap (λ (m : ℕ). f.spelling m ++ n.0.1) (sym back), cast_at w k (ltb k (2 ^ hbits w)) refl (below k one.1));
  again = λ z rest h.
      ap (λ (o : Option (ℕ × List ℕ)). o >>= signed_read w) (F.again (cast_unsigned w z) rest (within _ (cast_below w z h)))
      ∙ ap (λ (y : ℤ). Some (y, rest)) (to_z-of_z w z (signed_there w z h));
}

pub paired_is : {A B : Type 0} (h : Format B) (g : B → Format A) → IsFormat h → ((b : B) → IsFormat (g b)) → IsFormat (paired h g)
paired_is {A = A} {B = B} h g H each = record {
  takes = λ bytes rest x fits e.
      let b = bind_some (h.read bytes) (second_read g) (x, rest) e in
      let a = bind_some ((g b.0.0).read b.0.1) (joined b.0) (x, rest) b.2 in
      let one = H.takes bytes b.0.1 b.0.0 fits b.1 in
      let two = (each b.0.0).takes b.0.1 a.0.1 a.0.0 (IsBytes-rest (h.spelling b.0.0) b.0.1 bytes one.0 fits) a.1 in
      let made : (B × A) × List ℕ = ((b.0.0, a.0.0), a.0.1) in
      subst (λ (y : (B × A) × List ℕ). (bytes ≡ (h.spelling y.0.0 ++ (g y.0.0).spelling y.0.1) ++ y.1) × IsTrue (h.fits y.0.0 && (g y.0.0).fits y.0.1)) (is_some made (x, rest) a.2)
      (one.0 ∙ ap (λ (r : List ℕ). h.spelling b.0.0 ++ r) two.0 ∙ sym (append_assoc (h.spelling b.0.0) ((g b.0.0).spelling a.0.0) a.0.1), and_from _ _ one.1 two.1);
  again = λ x rest fits.
      let parts = and_parts _ _ fits in
      ap (λ bytes. h.read bytes >>= second_read g) (append_assoc (h.spelling x.0) ((g x.0).spelling x.1) rest)
      ∙ ap (λ (o : Option (B × List ℕ)). o >>= second_read g) (H.again x.0 ((g x.0).spelling x.1 ++ rest) parts.0)
      ∙ ap (λ (o : Option (A × List ℕ)). o >>= joined (x.0, (g x.0).spelling x.1 ++ rest)) ((each x.0).again x.1 rest parts.1);
}

IsBytes-front : (front rest bytes : List ℕ) → bytes ≡ front ++ rest → IsBytes bytes → IsBytes front
IsBytes-front [] rest bytes e h = λ i. omega arith
IsBytes-front (x ∷ front) rest [] e h = absurd cc
IsBytes-front (x ∷ front) rest (y ∷ bytes) e h =
    let more : IsBytes bytes = λ i. h (suc i) in
    let head : x ≡ y = cc in
    let same : bytes ≡ front ++ rest = cc in
    let tail = IsBytes-front front rest bytes same more in
    bytes_from x front (rw head (h 0)) tail

pub contents_is : IsFormat contents
contents_is = after_is quad length bytes_of quad_is bytes_is (λ n t h. eqb-true (length t) n h)

alone_is : {A : Type 0} (rest : List ℕ) (a : A) (more : List ℕ) (y : A × List ℕ) → at_the_end rest a more ≡ Some y → (more ≡ []) × ((a, rest) ≡ y)
alone_is rest a [] y e = (refl, cc)
alone_is rest a (x ∷ more) y e = absurd cc

pub enclosed_is : {A : Type 0} (f : Format A) → IsFormat f → IsFormat (enclosed f)
enclosed_is {A = A} f F = record {
  takes = λ bytes rest x small e.
      let t = bind_some (contents.read bytes) (enclosed_read f) (x, rest) e in
      let a = bind_some (f.read t.0.0) (whole t.0.1) (x, rest) t.2 in
      let one = contents_is.takes bytes t.0.1 t.0.0 small t.1 in
      let inside : IsBytes t.0.0 = IsBytes-front t.0.0 t.0.1 (t.0.0 ++ t.0.1) refl
      (IsBytes-rest (quad.spelling (length t.0.0)) (t.0.0 ++ t.0.1) bytes (one.0 ∙ append_assoc (quad.spelling (length t.0.0)) t.0.0 t.0.1) small) in
      let two = F.takes t.0.0 a.0.1 a.0.0 inside a.1 in
      let end = alone_is t.0.1 a.0.0 a.0.1 (x, rest) a.2 in
      let all : t.0.0 ≡ f.spelling a.0.0 = two.0 ∙ ap (λ (r : List ℕ). f.spelling a.0.0 ++ r) end.0 ∙ append-nil (f.spelling a.0.0) in
      subst (λ (y : A × List ℕ). (bytes ≡ contents.spelling (f.spelling y.0) ++ y.1) × IsTrue (quad.fits (length (f.spelling y.0)) && f.fits y.0)) end.1 (
        one.0 ∙ ap (λ (t' : List ℕ). contents.spelling t' ++ t.0.1) all,
        and_from _ _ (subst (λ (t' : List ℕ). IsTrue (quad.fits (length t'))) all (and_parts _ _ one.1).0) two.1,
      );
  again = λ x rest h.
      let parts = and_parts (quad.fits (length (f.spelling x))) (f.fits x) h in
      let fit : IsTrue (contents.fits (f.spelling x)) = and_from _ _ parts.0 (eq-eqb (length (f.spelling x)) (length (f.spelling x)) refl) in
      let inner : f.read (f.spelling x) ≡ Some (x, []) = ap f.read (sym (append-nil (f.spelling x))) ∙ F.again x [] parts.1 in
      ap (λ (o : Option (List ℕ × List ℕ)). o >>= enclosed_read f) (contents_is.again (f.spelling x) rest fit)
      ∙ ap (λ (o : Option (A × List ℕ)). o >>= whole rest) inner;
}

-- one spelling begins no other
pub one_form : {A : Type 0} (f : Format A) → IsFormat f → (x y : A) (r s : List ℕ) → IsTrue (f.fits x) → IsTrue (f.fits y) → f.spelling x ++ r ≡ f.spelling y ++ s → (x ≡ y) × (r ≡ s)
one_form {A = A} f F x y r s p q e =
    let same : (x, r) ≡ (y, s) = is_some (x, r) (y, s) (sym (F.again x r p) ∙ ap f.read e ∙ F.again y s q) in
    (ap (λ (z : A × List ℕ). z.0) same, ap (λ (z : A × List ℕ). z.1) same)
