-- No field descriptor begins another one, so types are read from the front.
use Rattle.std.proofs.Common.{◌≡◌, ℕ, zero, suc, ◌≤◌, List, [], ◌∷◌, ◌++◌, length, drop, get_or, refl, sym, ap, subst, ◌∙◌, append_assoc, arith, Option, Some, None}
use Rattle.std.specs.Prelude.{◌≢◌, IsTrue, true, nat_le, replicate, ◌==◌, if◌then◌else◌}
use Rattle.std.specs.List.{list_all}
use Rattle.std.proofs.lemmas.Bool.{and_parts, eqb-true}
use Rattle.std.proofs.lemmas.List.{append-nil, append_cancel_right}
use Rattle.std.proofs.lemmas.List.Folds.{list_all-append}
use Rattle.jv_text.specs.declared.descriptor.Base.{Base}
use Rattle.jv_text.specs.declared.descriptor.Base.TheVariants.{Byte, Char, Double, Float, Int, Long, Short, Boolean}
use Rattle.jv_text.specs.declared.descriptor.Element.{Element}
use Rattle.jv_text.specs.declared.descriptor.Element.TheVariants as elements
use Rattle.jv_text.specs.declared.descriptor.FieldTypeOf.{FieldTypeOf}
use Rattle.jv_text.specs.Name.{is_class_name, begins_with}
use Rattle.jv_text.specs.Descriptor.{base_letter, element_text, is_element, field_text, is_field_type, IsField, OneField}
use Rattle.jv_text.specs.Inside.Marks.{is_class_byte}
use Rattle.jv_text.proofs.Names.{class_inside, class_bytes, one_end}

-- the primitive type of a letter
base_at : ℕ → Option Base
base_at letter =
    if letter == 66 then Some Byte else if letter == 67 then Some Char else if letter == 68 then Some Double
    else if letter == 70 then Some Float else if letter == 73 then Some Int else if letter == 74 then Some Long
    else if letter == 83 then Some Short else if letter == 90 then Some Boolean else None

base_at-base_letter : (b : Base) → base_at (base_letter b) ≡ Some b
unfolding base_at
base_at-base_letter Byte = refl
base_at-base_letter Char = refl
base_at-base_letter Double = refl
base_at-base_letter Float = refl
base_at-base_letter Int = refl
base_at-base_letter Long = refl
base_at-base_letter Short = refl
base_at-base_letter Boolean = refl

one_base : (a b : Base) → base_letter a ≡ base_letter b → a ≡ b
one_base a b e =
    let same : Some a ≡ Some b = sym (base_at-base_letter a) ∙ ap base_at e ∙ base_at-base_letter b in
    cc

no_base : (b : Base) (letter : ℕ) → base_at letter ≡ None → base_letter b ≡ letter → ⊥
no_base b letter none e =
    let found : Some b ≡ None = sym (base_at-base_letter b) ∙ ap base_at e ∙ none in
    cc

class_letter : base_at 76 ≡ None
unfolding base_at
class_letter = refl

bracket_letter : base_at 91 ≡ None
unfolding base_at
bracket_letter = refl

close_letter : base_at 41 ≡ None
unfolding base_at
close_letter = refl

open_letter : base_at 40 ≡ None
unfolding base_at
open_letter = refl

void_letter : base_at 86 ≡ None
unfolding base_at
void_letter = refl

-- unlike elements are spelled unlike
one_element : (a b : Element (List ℕ)) (x y : List ℕ) → IsTrue (is_element a) → IsTrue (is_element b) → element_text a ++ x ≡ element_text b ++ y → (a ≡ b) × (x ≡ y)
one_element (elements.Base a) (elements.Base b) x y h k e = (ap (λ (c : Base). elements.Base c) (one_base a b (cc)), cc)
one_element (elements.Base a) (elements.Class name) x y h k e = absurd (no_base a 76 class_letter (cc))
one_element (elements.Class name) (elements.Base b) x y h k e = absurd (no_base b 76 class_letter (cc))
one_element (elements.Class name) (elements.Class other) x y h k e =
    let tails : (name ++ (59 ∷ [])) ++ x ≡ (other ++ (59 ∷ [])) ++ y = cc in
    let joined : name ++ (59 ∷ x) ≡ other ++ (59 ∷ y) = sym (append_assoc name (59 ∷ []) x) ∙ tails ∙ append_assoc other (59 ∷ []) y in
    let one = one_end name other x y (class_inside name h) (class_inside other k) joined in
    (ap (λ (c : List ℕ). elements.Class c) one.0, one.1)

-- no element begins with a letter that is neither a primitive type's nor `L`
no_letter : (e : Element (List ℕ)) (letter : ℕ) (x rest : List ℕ) → base_at letter ≡ None → letter ≢ 76 → element_text e ++ x ≡ letter ∷ rest → ⊥
no_letter (elements.Base b) letter x rest none other e = no_base b letter none (cc)
no_letter (elements.Class name) letter x rest none other e = other (cc)

no_bracket : (e : Element (List ℕ)) (x rest : List ℕ) → element_text e ++ x ≡ 91 ∷ rest → ⊥
no_bracket e x rest = no_letter e 91 x rest bracket_letter (λ same. omega (arith, same))

-- one number of brackets stands before an element
brackets : (n m : ℕ) (a b : Element (List ℕ)) (x y : List ℕ) → replicate n 91 ++ (element_text a ++ x) ≡ replicate m 91 ++ (element_text b ++ y) → (n ≡ m) × (element_text a ++ x ≡ element_text b ++ y)
brackets zero zero a b x y e = (refl, e)
brackets zero (suc m) a b x y e = absurd (no_bracket a x (replicate m 91 ++ (element_text b ++ y)) e)
brackets (suc n) zero a b x y e = absurd (no_bracket b y (replicate n 91 ++ (element_text a ++ x)) (sym e))
brackets (suc n) (suc m) a b x y e =
    let one = brackets n m a b x y (cc) in
    (ap suc one.0, one.1)

dimensions_fit : (t : FieldTypeOf (List ℕ)) → IsTrue (is_field_type t) → t.dimensions ≤ 255
dimensions_fit t h =
    let both = and_parts (nat_le t.dimensions 255) (is_element t.element) h in
    grind (arith, both.0)

-- unlike types are spelled unlike
pub one_front : (a b : FieldTypeOf (List ℕ)) (x y : List ℕ) → IsTrue (is_field_type a) → IsTrue (is_field_type b) → field_text a ++ x ≡ field_text b ++ y → (a ≡ b) × (x ≡ y)
one_front a b x y h k e =
    let joined = sym (append_assoc (replicate a.dimensions 91) (element_text a.element) x) ∙ e ∙ append_assoc (replicate b.dimensions 91) (element_text b.element) y in
    let one = brackets a.dimensions b.dimensions a.element b.element x y joined in
    let same = one_element a.element b.element x y (and_parts (nat_le a.dimensions 255) (is_element a.element) h).1 (and_parts (nat_le b.dimensions 255) (is_element b.element) k).1 one.1 in
    (joined_type a b one.0 same.0, same.1)
  where
    made : ℕ → Element (List ℕ) → FieldTypeOf (List ℕ)
    made n c = record { dimensions = n; element = c }

    joined_type : (a b : FieldTypeOf (List ℕ)) → a.dimensions ≡ b.dimensions → a.element ≡ b.element → a ≡ b
    joined_type a b d e =
        ap (λ (n : ℕ). made n a.element) d ∙ ap (λ (c : Element (List ℕ)). made b.dimensions c) e

-- the law: one type
pub one_field : OneField
one_field text a b h k =
    let ends = append-nil (field_text a) ∙ sym h.spelled ∙ k.spelled ∙ sym (append-nil (field_text b)) in
    (one_front a b [] [] h.fits k.fits ends).0

-- no type begins with such a letter
field_letter : (t : FieldTypeOf (List ℕ)) (letter : ℕ) (x rest : List ℕ) → base_at letter ≡ None → letter ≢ 76 → letter ≢ 91 → field_text t ++ x ≡ letter ∷ rest → ⊥
field_letter t letter x rest none class bracket e =
    at t.dimensions (sym (append_assoc (replicate t.dimensions 91) (element_text t.element) x) ∙ e)
  where
    at : (n : ℕ) → replicate n 91 ++ (element_text t.element ++ x) ≡ letter ∷ rest → ⊥
    at zero e = no_letter t.element letter x rest none class e
    at (suc n) e = bracket (cc)

pub no_close : (t : FieldTypeOf (List ℕ)) (x rest : List ℕ) → field_text t ++ x ≡ 41 ∷ rest → ⊥
no_close t x rest = field_letter t 41 x rest close_letter (λ same. omega (arith, same)) (λ same. omega (arith, same))

pub no_void : (t : FieldTypeOf (List ℕ)) (x rest : List ℕ) → field_text t ++ x ≡ 86 ∷ rest → ⊥
no_void t x rest = field_letter t 86 x rest void_letter (λ same. omega (arith, same)) (λ same. omega (arith, same))

-- no field descriptor begins with `(`
pub opened_field : (text : List ℕ) (t : FieldTypeOf (List ℕ)) → begins_with 40 text ≡ true → IsField text t → ⊥
opened_field [] t opened h = absurd cc
opened_field (byte ∷ rest) t opened h =
    field_letter t 40 [] rest open_letter (λ same. omega (arith, same)) (λ same. omega (arith, same))
    (append-nil (field_text t) ∙ sym h.spelled ∙ ap (λ b. b ∷ rest) (eqb-true byte 40 opened))

-- one that is a class name is a letter
pub class_field : (text : List ℕ) (t : FieldTypeOf (List ℕ)) → IsTrue (is_class_name text) → IsField text t → length text ≡ 1
class_field text t class h =
    ap length h.spelled ∙ letter t.dimensions t.element (subst (λ (xs : List ℕ). IsTrue (list_all is_class_byte xs)) h.spelled (class_bytes text class))
  where
    letter : (n : ℕ) (e : Element (List ℕ)) → IsTrue (list_all is_class_byte (replicate n 91 ++ element_text e)) → length (replicate n 91 ++ element_text e) ≡ 1
    letter zero (elements.Base b) all = refl
    letter zero (elements.Class name) all =
        let parts = and_parts (is_class_byte 76) (list_all is_class_byte (name ++ (59 ∷ []))) all in
        let ends = and_parts (list_all is_class_byte name) (list_all is_class_byte (59 ∷ [])) (sym (list_all-append is_class_byte name (59 ∷ [])) ∙ parts.1) in
        absurd cc
    letter (suc n) e all =
        let parts = and_parts (is_class_byte 91) (list_all is_class_byte (replicate n 91 ++ element_text e)) all in
        absurd cc

-- a type has at most 255 brackets
pub too_many : (text rest : List ℕ) → text ≡ replicate 255 91 ++ (91 ∷ rest) → (t : FieldTypeOf (List ℕ)) (x : List ℕ) → IsTrue (is_field_type t) → text ≡ field_text t ++ x → ⊥
too_many text rest found t x h e =
    more 255 t.dimensions (dimensions_fit t h) (sym (append_assoc (replicate t.dimensions 91) (element_text t.element) x) ∙ sym e ∙ found)
  where
    more : (n m : ℕ) → m ≤ n → replicate m 91 ++ (element_text t.element ++ x) ≡ replicate n 91 ++ (91 ∷ rest) → ⊥
    more zero zero le e = no_bracket t.element x rest e
    more zero (suc m) le e = omega arith
    more (suc n) zero le e = no_bracket t.element x (replicate n 91 ++ (91 ∷ rest)) e
    more (suc n) (suc m) le e = more n m (omega arith) (cc)

-- where no element follows the brackets, no type is at the front
pub no_element : (text rest : List ℕ) (n : ℕ) → text ≡ replicate n 91 ++ rest → ((more : List ℕ) → rest ≢ 91 ∷ more)
    → ((base : Base) (x : List ℕ) → rest ≢ base_letter base ∷ x) → ((name x : List ℕ) → IsTrue (is_class_name name) → rest ≢ 76 ∷ (name ++ (59 ∷ x)))
    → (t : FieldTypeOf (List ℕ)) (x : List ℕ) → IsTrue (is_field_type t) → text ≡ field_text t ++ x → ⊥
no_element text rest n found all no_base no_class t x h e =
    behind t.dimensions n (sym (append_assoc (replicate t.dimensions 91) (element_text t.element) x) ∙ sym e ∙ found)
  where
    missing : (a : Element (List ℕ)) → IsTrue (is_element a) → rest ≡ element_text a ++ x → ⊥
    missing (elements.Base b) fits e = no_base b x e
    missing (elements.Class name) fits e = no_class name x fits (e ∙ ap (λ (xs : List ℕ). 76 ∷ xs) (append_assoc name (59 ∷ []) x))

    behind : (m n : ℕ) → replicate m 91 ++ (element_text t.element ++ x) ≡ replicate n 91 ++ rest → ⊥
    behind zero zero e = missing t.element (and_parts (nat_le t.dimensions 255) (is_element t.element) h).1 (sym e)
    behind zero (suc n) e = no_bracket t.element x (replicate n 91 ++ rest) e
    behind (suc m) zero e = all (replicate m 91 ++ (element_text t.element ++ x)) (sym e)
    behind (suc m) (suc n) e = behind m n (cc)

pub headed : (rest : List ℕ) → 1 ≤ length rest → get_or rest 0 0 ≡ 91 → rest ≡ 91 ∷ drop 1 rest
headed [] lt first = absurd (omega arith)
headed (x ∷ xs) lt first = ap (λ (y : ℕ). y ∷ xs) first

-- where no type is at the front, the whole is none
pub not_whole : (text : List ℕ) → ((t : FieldTypeOf (List ℕ)) (x : List ℕ) → IsTrue (is_field_type t) → text ≢ field_text t ++ x) → (t : FieldTypeOf (List ℕ)) → IsField text t → ⊥
not_whole text none t h = none t [] h.fits (h.spelled ∙ sym (append-nil (field_text t)))

-- nor where a type at the front leaves bytes over
pub left_over : (text rest : List ℕ) (t : FieldTypeOf (List ℕ)) → IsTrue (is_field_type t) → text ≡ field_text t ++ rest → 1 ≤ length rest → (other : FieldTypeOf (List ℕ)) → IsField text other → ⊥
left_over text rest t fits found some other h =
    let one = one_front t other rest [] fits h.fits (sym found ∙ h.spelled ∙ sym (append-nil (field_text other))) in
    omega (arith, ap length one.1)

-- one element alone has a text
pub same_element : (a b : Element (List ℕ)) → element_text a ≡ element_text b → a ≡ b
same_element (elements.Base a) (elements.Base b) e = ap (λ (c : Base). elements.Base c) (one_base a b cc)
same_element (elements.Base a) (elements.Class name) e = absurd (no_base a 76 class_letter cc)
same_element (elements.Class name) (elements.Base b) e = absurd (no_base b 76 class_letter cc)
same_element (elements.Class name) (elements.Class other) e =
    let tails : name ++ (59 ∷ []) ≡ other ++ (59 ∷ []) = cc in
    ap (λ (c : List ℕ). elements.Class c) (append_cancel_right name other (59 ∷ []) tails)
