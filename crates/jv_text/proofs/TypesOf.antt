-- The functions of texts give the types whose descriptors these are.
use Rattle.std.proofs.Common.{◌≡◌, ◌≢◌, ℕ, zero, suc, ◌+◌, ◌<◌, ◌≤◌, Bool, true, false, cond, eqb, List, [], ◌∷◌, ◌++◌, length, drop, Option, Some, None, refl, sym, ap, subst, ◌∙◌, append_assoc, arith}
use Rattle.std.specs.Prelude.{IsSome, IsTrue, not, ◌&&◌, ◌==◌, nat_le, replicate}
use Rattle.std.specs.List.{list_all, flat_map}
use Rattle.std.specs.Option.{option_map, option_and_then}
use Rattle.std.specs.Str.{bytes_eq}
use Rattle.std.proofs.lemmas.Bool.{and_parts, eqb-true, le-leb, leb-true}
use Rattle.std.proofs.lemmas.List.{append-nil, length-append}
use Rattle.std.proofs.lemmas.Slice.Eq.{bytes_eq-Decides}
use Rattle.jv_text.specs.declared.descriptor.Base.{Base}
use Rattle.jv_text.specs.declared.descriptor.Base.TheVariants.{Byte, Char, Double, Float, Int, Long, Short, Boolean}
use Rattle.jv_text.specs.declared.descriptor.Element.{Element}
use Rattle.jv_text.specs.declared.descriptor.Element.TheVariants as elements
use Rattle.jv_text.specs.declared.descriptor.FieldTypeOf.{FieldTypeOf}
use Rattle.jv_text.specs.Descriptor.{base_letter, element_text, is_element, field_text, is_field_type, IsField, MethodDescriptor, result_text, is_result_type, method_text, slots, IsMethod}
use Rattle.jv_text.specs.Types.{base_of_letter, before, to_semicolon, class_behind, base_before, element_at, brackets, with_dimensions, type_at, type_alone, field_type_of, with_parameter, parameters_at, result_of, method_with, method_alone, method_behind, method_type_of, TypesAgree}
use Rattle.jv_text.proofs.Names.{is_inside, class_inside}
use Rattle.jv_text.proofs.Fields.{no_close, no_void, same_element}
use Rattle.jv_text.specs.Inside.Elements.{IsElementText}

mapped : {A B : Type 0} (f : A → B) (o : Option A) (y : B) → option_map f o ≡ Some y → (a : A) × (o ≡ Some a) × (f a ≡ y)
mapped f None y e = absurd cc
mapped f (Some a) y e = (a, refl, cc)

chained : {A B : Type 0} (f : A → Option B) (o : Option A) (y : B) → option_and_then f o ≡ Some y → (a : A) × (o ≡ Some a) × (f a ≡ Some y)
chained f None y e = absurd cc
chained f (Some a) y e = (a, refl, e)

chosen : {A : Type 0} (b : Bool) (x y : A) → cond b (Some x) None ≡ Some y → (b ≡ true) × (x ≡ y)
chosen true x y e = (refl, cc)
chosen false x y e = absurd cc

-- ---- from types to texts and back: an element

letter_back : (base : Base) (rest : List ℕ) → element_at (base_letter base ∷ rest) ≡ Some (elements.Base base, rest)
letter_back Byte rest = refl
letter_back Char rest = refl
letter_back Double rest = refl
letter_back Float rest = refl
letter_back Int rest = refl
letter_back Long rest = refl
letter_back Short rest = refl
letter_back Boolean rest = refl

inside_other : (byte : ℕ) → IsTrue (is_inside byte) → eqb byte 59 ≡ false
inside_other byte h = by_test (eqb byte 59) refl h
  where
    by_test : (b : Bool) → eqb byte 59 ≡ b → IsTrue (not b) → eqb byte 59 ≡ false
    by_test true e h = absurd cc
    by_test false e h = e

name_back : (name rest : List ℕ) → IsTrue (list_all is_inside name) → to_semicolon (name ++ (59 ∷ rest)) ≡ Some (name, rest)
name_back [] rest h = refl
name_back (x ∷ name) rest h =
    let parts = and_parts (is_inside x) (list_all is_inside name) h in
    let other : eqb x 59 ≡ false = inside_other x parts.0 in
    let more = name_back name rest parts.1 in
    rw (other, more) refl

element_back : (element : Element (List ℕ)) (rest : List ℕ) → IsTrue (is_element element) → element_at (element_text element ++ rest) ≡ Some (element, rest)
element_back (elements.Base base) rest h = letter_back base rest
element_back (elements.Class name) rest h =
    ap (λ bytes. option_map class_behind (to_semicolon bytes)) (append_assoc name (59 ∷ []) rest)
    ∙ ap (option_map class_behind) (name_back name rest (class_inside name h))

no_bracket_first : (element : Element (List ℕ)) (rest : List ℕ) → brackets (element_text element ++ rest) ≡ 0
no_bracket_first (elements.Base Byte) rest = refl
no_bracket_first (elements.Base Char) rest = refl
no_bracket_first (elements.Base Double) rest = refl
no_bracket_first (elements.Base Float) rest = refl
no_bracket_first (elements.Base Int) rest = refl
no_bracket_first (elements.Base Long) rest = refl
no_bracket_first (elements.Base Short) rest = refl
no_bracket_first (elements.Base Boolean) rest = refl
no_bracket_first (elements.Class name) rest = refl

brackets_back : (count : ℕ) (text : List ℕ) → brackets text ≡ 0 → brackets (replicate count 91 ++ text) ≡ count
brackets_back zero text e = e
brackets_back (suc count) text e = ap suc (brackets_back count text e)

drop_back : (count : ℕ) (text : List ℕ) → drop count (replicate count 91 ++ text) ≡ text
drop_back zero text = refl
drop_back (suc count) text = drop_back count text

pub type_back : (type : FieldTypeOf (List ℕ)) (rest : List ℕ) → IsTrue (is_field_type type) → type_at (field_text type ++ rest) ≡ Some (type, rest)
type_back type rest h =
    let parts = and_parts (nat_le type.dimensions 255) (is_element type.element) h in
    let tail : List ℕ = element_text type.element ++ rest in
    let joined : field_text type ++ rest ≡ replicate type.dimensions 91 ++ tail = append_assoc (replicate type.dimensions 91) (element_text type.element) rest in
    let count : brackets (replicate type.dimensions 91 ++ tail) ≡ type.dimensions = brackets_back type.dimensions tail (no_bracket_first type.element rest) in
    ap type_at joined
    ∙ ap (λ n. option_map (with_dimensions n) (element_at (drop n (replicate type.dimensions 91 ++ tail)))) count
    ∙ ap (λ text. option_map (with_dimensions type.dimensions) (element_at text)) (drop_back type.dimensions tail)
    ∙ ap (option_map (with_dimensions type.dimensions)) (element_back type.element rest parts.1)

-- ---- from texts to types and back

by_letter : (letter code : ℕ) (b : Bool) (this base : Base) (others : Option Base) → eqb letter code ≡ b → code ≡ base_letter this → cond b (Some this) others ≡ Some base
    → (others ≡ Some base → letter ≡ base_letter base) → letter ≡ base_letter base
by_letter letter code true this base others is code_is e later =
    let same : this ≡ base = cc in
    eqb-true letter code is ∙ code_is ∙ ap base_letter same
by_letter letter code false this base others is code_is e later = later e

letter_there : (letter : ℕ) (base : Base) → base_of_letter letter ≡ Some base → letter ≡ base_letter base
letter_there letter base e =
    by_letter letter 66 (eqb letter 66) Byte base _ refl refl e (λ e. by_letter letter 67 (eqb letter 67) Char base _ refl refl e
    (λ e. by_letter letter 68 (eqb letter 68) Double base _ refl refl e (λ e. by_letter letter 70 (eqb letter 70) Float base _ refl refl e
    (λ e. by_letter letter 73 (eqb letter 73) Int base _ refl refl e (λ e. by_letter letter 74 (eqb letter 74) Long base _ refl refl e
    (λ e. by_letter letter 83 (eqb letter 83) Short base _ refl refl e (λ e. by_letter letter 90 (eqb letter 90) Boolean base _ refl refl e (λ e. absurd cc))))))))

name_there : (text : List ℕ) (found : List ℕ × List ℕ) → to_semicolon text ≡ Some found → text ≡ found.0 ++ (59 ∷ found.1)
name_there [] found e = absurd cc
name_there (x ∷ text) found e = by_test (eqb x 59) refl e (λ f h. name_there text f h)
  where
    by_test : (b : Bool) → eqb x 59 ≡ b → cond b (Some ([], text)) (option_map (before x) (to_semicolon text)) ≡ Some found
        → ((f : List ℕ × List ℕ) → to_semicolon text ≡ Some f → text ≡ f.0 ++ (59 ∷ f.1)) → x ∷ text ≡ found.0 ++ (59 ∷ found.1)
    by_test true is e again =
        let made : List ℕ × List ℕ = ([], text) in
        let same : made ≡ found = cc in
        subst (λ (f : List ℕ × List ℕ). x ∷ text ≡ f.0 ++ (59 ∷ f.1)) same (ap (λ b. b ∷ text) (eqb-true x 59 is))
    by_test false is e again =
        let one = mapped (before x) (to_semicolon text) found e in
        subst (λ (f : List ℕ × List ℕ). x ∷ text ≡ f.0 ++ (59 ∷ f.1)) one.2 (ap (λ t. x ∷ t) (again one.0 one.1))

element_there : (text : List ℕ) (found : Element (List ℕ) × List ℕ) → element_at text ≡ Some found → text ≡ element_text found.0 ++ found.1
element_there [] found e = absurd cc
element_there (x ∷ text) found e = by_test (eqb x 76) refl e
  where
    by_test : (b : Bool) → eqb x 76 ≡ b → cond b (option_map class_behind (to_semicolon text)) (option_map (base_before text) (base_of_letter x)) ≡
        Some found → x ∷ text ≡ element_text found.0 ++ found.1
    by_test true is e =
        let one = mapped class_behind (to_semicolon text) found e in
        let there = name_there text one.0 one.1 in
        subst (λ (f : Element (List ℕ) × List ℕ). x ∷ text ≡ element_text f.0 ++ f.1) one.2
        (ap (λ b. b ∷ text) (eqb-true x 76 is) ∙ ap (λ t. 76 ∷ t) (there ∙ sym (append_assoc one.0.0 (59 ∷ []) one.0.1)))
    by_test false is e =
        let one = mapped (base_before text) (base_of_letter x) found e in
        subst (λ (f : Element (List ℕ) × List ℕ). x ∷ text ≡ element_text f.0 ++ f.1) one.2 (ap (λ b. b ∷ text) (letter_there x one.0 one.1))

brackets_there : (text : List ℕ) → text ≡ replicate (brackets text) 91 ++ drop (brackets text) text
brackets_there [] = refl
brackets_there (x ∷ text) = by_test (eqb x 91) refl (brackets_there text)
  where
    by_test : (b : Bool) → eqb x 91 ≡ b → text ≡ replicate (brackets text) 91 ++ drop (brackets text) text
        → x ∷ text ≡ replicate (cond b (suc (brackets text)) 0) 91 ++ drop (cond b (suc (brackets text)) 0) (x ∷ text)
    by_test true is again = ap (λ b. b ∷ text) (eqb-true x 91 is) ∙ ap (λ t. 91 ∷ t) again
    by_test false is again = refl

pub type_there : (text : List ℕ) (found : FieldTypeOf (List ℕ) × List ℕ) → type_at text ≡ Some found → text ≡ field_text found.0 ++ found.1
type_there text found e =
    let one = mapped (with_dimensions (brackets text)) (element_at (drop (brackets text) text)) found e in
    let there = element_there (drop (brackets text) text) one.0 one.1 in
    subst (λ (f : FieldTypeOf (List ℕ) × List ℕ). text ≡ field_text f.0 ++ f.1) one.2
    (brackets_there text ∙ ap (λ t. replicate (brackets text) 91 ++ t) there ∙ sym (append_assoc (replicate (brackets text) 91) (element_text one.0.0) one.0.1))

-- ---- fields

no_more : (xs : List ℕ) → eqb (length xs) 0 ≡ true → xs ≡ []
no_more [] e = refl
no_more (x ∷ xs) e = absurd (omega (arith, eqb-true (length (x ∷ xs)) 0 e))

pub field_to : (text : List ℕ) (type : FieldTypeOf (List ℕ)) → IsField text type → field_type_of text ≡ Some type
field_to text type h =
    let found : type_at text ≡ Some (type, []) = ap type_at (h.spelled ∙ sym (append-nil (field_text type))) ∙ type_back type [] h.fits in
    let fits : is_field_type type ≡ true = h.fits in
    ap (option_and_then type_alone) found ∙ rw fits refl

pub field_from : (text : List ℕ) (type : FieldTypeOf (List ℕ)) → field_type_of text ≡ Some type → IsField text type
field_from text type e =
    let one = chained type_alone (type_at text) type e in
    let two = chosen (length one.0.1 == 0 && is_field_type one.0.0) one.0.0 type one.2 in
    let parts = and_parts (length one.0.1 == 0) (is_field_type one.0.0) two.0 in
    let whole : text ≡ field_text one.0.0 = type_there text one.0 one.1 ∙ ap (λ rest. field_text one.0.0 ++ rest) (no_more one.0.1 parts.0) ∙ append-nil (field_text one.0.0) in
    subst (λ t. IsField text t) two.1 (record { fits = parts.1; spelled = whole })

-- ---- methods

unclosed : (type : FieldTypeOf (List ℕ)) (rest : List ℕ) (byte : ℕ) (more : List ℕ) → field_text type ++ rest ≡ byte ∷ more → eqb byte 41 ≡ false
unclosed type rest byte more e = by_test (eqb byte 41) refl
  where
    by_test : (b : Bool) → eqb byte 41 ≡ b → eqb byte 41 ≡ false
    by_test false is = is
    by_test true is = absurd (no_close type rest more (e ∙ ap (λ b. b ∷ more) (eqb-true byte 41 is)))

parameters_back : (n : ℕ) (types : List (FieldTypeOf (List ℕ))) (tail : List ℕ) → length types < n → IsTrue (list_all is_field_type types) →
    parameters_at n (flat_map field_text types ++ (41 ∷ tail)) ≡ Some (types, tail)
parameters_back zero types tail lt h = absurd (omega (arith, lt))
parameters_back (suc n) [] tail lt h = refl
parameters_back (suc n) (type ∷ types) tail lt h =
    let parts = and_parts (is_field_type type) (list_all is_field_type types) h in
    let rest : List ℕ = flat_map field_text types ++ (41 ∷ tail) in
    let joined : flat_map field_text (type ∷ types) ++ (41 ∷ tail) ≡ field_text type ++ rest = append_assoc (field_text type) (flat_map field_text types) (41 ∷ tail) in
    ap (parameters_at (suc n)) joined ∙ at (field_text type ++ rest) refl (parameters_back n types tail (omega (arith, lt)) parts.1) (type_back type rest parts.0)
  where
    at : (text : List ℕ) → field_text type ++ (flat_map field_text types ++ (41 ∷ tail)) ≡ text → parameters_at n (flat_map field_text types ++ (41 ∷ tail)) ≡ Some (types, tail)
        → type_at text ≡ Some (type, flat_map field_text types ++ (41 ∷ tail)) → parameters_at (suc n) text ≡ Some (type ∷ types, tail)
    at [] is again found = absurd cc
    at (byte ∷ more) is again found =
        let other : eqb byte 41 ≡ false = unclosed type (flat_map field_text types ++ (41 ∷ tail)) byte more is in
        rw (other, found, again) refl

abbrev parameters_behind : ℕ → FieldTypeOf (List ℕ) × List ℕ → Option (List (FieldTypeOf (List ℕ)) × List ℕ)
parameters_behind n found = option_map (with_parameter found.0) (parameters_at n found.1)

parameters_there : (n : ℕ) (text : List ℕ) (found : List (FieldTypeOf (List ℕ)) × List ℕ) → parameters_at n text ≡ Some found → text ≡ flat_map field_text found.0 ++ (41 ∷ found.1)
parameters_there zero text found e = absurd cc
parameters_there (suc n) [] found e = absurd cc
parameters_there (suc n) (byte ∷ rest) found e = by_test (eqb byte 41) refl e (λ text f h. parameters_there n text f h)
  where
    by_test : (b : Bool) → eqb byte 41 ≡ b → cond b (Some ([], rest)) (option_and_then (parameters_behind n) (type_at (byte ∷ rest))) ≡ Some found
        → ((text : List ℕ) (f : List (FieldTypeOf (List ℕ)) × List ℕ) → parameters_at n text ≡ Some f → text ≡ flat_map field_text f.0 ++
        (41 ∷ f.1)) → byte ∷ rest ≡ flat_map field_text found.0 ++ (41 ∷ found.1)
    by_test true is e again =
        let made : List (FieldTypeOf (List ℕ)) × List ℕ = ([], rest) in
        let same : made ≡ found = cc in
        subst (λ (f : List (FieldTypeOf (List ℕ)) × List ℕ). byte ∷ rest ≡ flat_map field_text f.0 ++ (41 ∷ f.1)) same (ap (λ b. b ∷ rest) (eqb-true byte 41 is))
    by_test false is e again =
        let one = chained (parameters_behind n) (type_at (byte ∷ rest)) found e in
        let two = mapped (with_parameter one.0.0) (parameters_at n one.0.1) found one.2 in
        subst (λ (f : List (FieldTypeOf (List ℕ)) × List ℕ). byte ∷ rest ≡ flat_map field_text f.0 ++ (41 ∷ f.1)) two.2
        (type_there (byte ∷ rest) one.0 one.1 ∙ ap (λ t. field_text one.0.0 ++ t) (again one.0.1 two.0 two.1) ∙ sym (append_assoc (field_text one.0.0) (flat_map field_text two.0.0) (41 ∷ two.0.1)))

result_back : (result : Option (FieldTypeOf (List ℕ))) → IsTrue (is_result_type result) → result_of (result_text result) ≡ Some result
result_back None h = refl
result_back (Some type) h =
    let other : bytes_eq (field_text type) (86 ∷ []) ≡ false = by_test (bytes_eq (field_text type) (86 ∷ [])) refl in
    let own = field_to (field_text type) type (record { fits = h; spelled = refl }) in
    rw (other, own) refl
  where
    by_test : (b : Bool) → bytes_eq (field_text type) (86 ∷ []) ≡ b → bytes_eq (field_text type) (86 ∷ []) ≡ false
    by_test false is = is
    by_test true is = absurd (no_void type [] [] (append-nil (field_text type) ∙ (bytes_eq-Decides (field_text type) (86 ∷ [])).0 is))

result_there : (text : List ℕ) (result : Option (FieldTypeOf (List ℕ))) → result_of text ≡ Some result → (text ≡ result_text result) × IsTrue (is_result_type result)
result_there text result e = by_test (bytes_eq text (86 ∷ [])) refl e
  where
    by_test : (b : Bool) → bytes_eq text (86 ∷ []) ≡ b → cond b (Some None) (option_map Some (field_type_of text)) ≡ Some result → (text ≡ result_text result) × IsTrue (is_result_type result)
    by_test true is e =
        let void : Option (FieldTypeOf (List ℕ)) = None in
        let same : void ≡ result = cc in
        subst (λ r. (text ≡ result_text r) × IsTrue (is_result_type r)) same ((bytes_eq-Decides text (86 ∷ [])).0 is, refl)
    by_test false is e =
        let one = mapped (λ (t : FieldTypeOf (List ℕ)). Some t) (field_type_of text) result e in
        let whole = field_from text one.0 one.1 in
        subst (λ r. (text ≡ result_text r) × IsTrue (is_result_type r)) one.2 (whole.spelled, whole.fits)

some_element : (element : Element (List ℕ)) → 1 ≤ length (element_text element)
some_element (elements.Base base) = omega arith
some_element (elements.Class name) = omega arith

some_bytes : (type : FieldTypeOf (List ℕ)) → 1 ≤ length (field_text type)
some_bytes type = omega (arith, some_element type.element, length-append (replicate type.dimensions 91) (element_text type.element))

parameters_shorter : (types : List (FieldTypeOf (List ℕ))) (tail : List ℕ) → length types < length (flat_map field_text types ++ (41 ∷ tail))
parameters_shorter [] tail = omega arith
parameters_shorter (type ∷ types) tail =
    let rest : List ℕ = flat_map field_text types ++ (41 ∷ tail) in
    let joined : flat_map field_text (type ∷ types) ++ (41 ∷ tail) ≡ field_text type ++ rest = append_assoc (field_text type) (flat_map field_text types) (41 ∷ tail) in
    let all : length (flat_map field_text (type ∷ types) ++ (41 ∷ tail)) ≡ length (field_text type) + length rest = ap length joined ∙ length-append (field_text type) rest in
    omega (arith, all, some_bytes type, parameters_shorter types tail)

pub method_to : (text : List ℕ) (type : MethodDescriptor) → IsMethod text type → method_type_of text ≡ Some type
method_to text type h =
    let rest : List ℕ = flat_map field_text type.parameters ++ (41 ∷ result_text type.result) in
    let found : parameters_at (length rest) rest ≡ Some (type.parameters, result_text type.result) =
    parameters_back (length rest) type.parameters (result_text type.result) (parameters_shorter type.parameters (result_text type.result)) h.parameters in
    let result = result_back type.result h.result in
    let fit : list_all is_field_type type.parameters ≡ true = h.parameters in
    let few : nat_le (slots type) 255 ≡ true = le-leb (slots type) 255 h.few in
    ap method_type_of h.spelled ∙ ap (option_and_then method_behind) found
    ∙ ap (λ r. option_and_then method_alone (option_map (method_with type.parameters) r)) result ∙ rw (fit, few) refl

pub method_from : (text : List ℕ) (type : MethodDescriptor) → method_type_of text ≡ Some type → IsMethod text type
method_from [] type e = absurd cc
method_from (byte ∷ rest) type e = by_test (eqb byte 40) refl e
  where
    by_test : (b : Bool) → eqb byte 40 ≡ b → cond b (option_and_then method_behind (parameters_at (length rest) rest)) None ≡ Some type → IsMethod (byte ∷ rest) type
    by_test false is e = absurd cc
    by_test true is e =
        let one = chained method_behind (parameters_at (length rest) rest) type e in
        let two = chained method_alone (option_map (method_with one.0.0) (result_of one.0.1)) type one.2 in
        let three = mapped (method_with one.0.0) (result_of one.0.1) two.0 two.1 in
        let four = chosen (list_all is_field_type two.0.parameters && nat_le (slots two.0) 255) two.0 type two.2 in
        let parts = and_parts (list_all is_field_type two.0.parameters) (nat_le (slots two.0) 255) four.0 in
        let result = result_there one.0.1 three.0 three.1 in
        let whole : byte ∷ rest ≡ method_text (method_with one.0.0 three.0) =
        ap (λ b. b ∷ rest) (eqb-true byte 40 is) ∙ ap (λ t. 40 ∷ t) (parameters_there (length rest) rest one.0 one.1 ∙ ap (λ t. flat_map field_text one.0.0 ++ (41 ∷ t)) result.0) in
        let made : IsMethod (byte ∷ rest) (method_with one.0.0 three.0) = record {
          parameters = subst (λ (m : MethodDescriptor). IsTrue (list_all is_field_type m.parameters)) (sym three.2) parts.0;
          result = result.1;
          few = subst (λ (m : MethodDescriptor). slots m ≤ 255) (sym three.2) (leb-true (slots two.0) 255 parts.1);
          spelled = whole;
        } in
        subst (λ m. IsMethod (byte ∷ rest) m) (three.2 ∙ four.1) made

pub agree : TypesAgree
agree = record {
  field = λ text type. (field_to text type, field_from text type);
  method = λ text type. (method_to text type, method_from text type);
}

-- ---- a text that is known to be a descriptor

unbracketed : (text : List ℕ) → ((more : List ℕ) → text ≢ 91 ∷ more) → brackets text ≡ 0
unbracketed [] h = refl
unbracketed (byte ∷ more) h = by_test (eqb byte 91) refl
  where
    by_test : (b : Bool) → eqb byte 91 ≡ b → cond b (suc (brackets more)) 0 ≡ 0
    by_test false e = refl
    by_test true e = absurd (h more (ap (λ b. b ∷ more) (eqb-true byte 91 e)))

pub record Split (type : FieldTypeOf (List ℕ)) (count : ℕ) (rest : List ℕ) : Type 0 where
  pub dimensions : count ≡ type.dimensions
  pub element : rest ≡ element_text type.element

-- brackets, and what no bracket begins
pub split_known : (text rest : List ℕ) (count : ℕ) (type : FieldTypeOf (List ℕ)) → field_type_of text ≡ Some type → text ≡ replicate count 91 ++
    rest → ((more : List ℕ) → rest ≢ 91 ∷ more) → Split type count rest
split_known text rest count type found is all =
    let whole = field_from text type found in
    let tail : List ℕ = element_text type.element in
    let mine : brackets text ≡ count = ap brackets is ∙ brackets_back count rest (unbracketed rest all) in
    let none : brackets tail ≡ 0 = ap brackets (sym (append-nil tail)) ∙ no_bracket_first type.element [] in
    let own : brackets text ≡ type.dimensions = ap brackets whole.spelled ∙ brackets_back type.dimensions tail none in
    let same : count ≡ type.dimensions = sym mine ∙ own in
    record {
      dimensions = same;
      element = sym (drop_back count rest) ∙ ap (drop count) (sym is ∙ whole.spelled) ∙ ap (λ n. drop n (field_text type)) same ∙ drop_back type.dimensions tail;
    }

pub split_element : (type : FieldTypeOf (List ℕ)) (text rest : List ℕ) (count : ℕ) → field_type_of text ≡ Some type → Split type count rest → IsElementText rest
split_element type text rest count found parts =
    record { element = type.element; fits = (and_parts (nat_le type.dimensions 255) (is_element type.element) (field_from text type found).fits).1; spelled = parts.element }

abbrev joined : ℕ → Element (List ℕ) → FieldTypeOf (List ℕ)
joined count element = record { dimensions = count; element = element }

pub split_joined : (type : FieldTypeOf (List ℕ)) (text rest : List ℕ) (count : ℕ) (element : Element (List ℕ)) → field_type_of text ≡ Some type →
    Split type count rest → rest ≡ element_text element → field_type_of text ≡ Some (joined count element)
split_joined type text rest count element found parts is =
    let same : element ≡ type.element = same_element element type.element (sym is ∙ parts.element) in
    found ∙ ap (λ t. Some t) (ap (λ n. joined n type.element) (sym parts.dimensions) ∙ ap (λ e. joined count e) (sym same))

pub some_type : (o : Option (FieldTypeOf (List ℕ))) → IsSome o → (type : FieldTypeOf (List ℕ)) × (o ≡ Some type)
some_type None h = absurd cc
some_type (Some type) h = (type, refl)
