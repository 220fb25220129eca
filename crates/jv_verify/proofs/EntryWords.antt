-- The words of initial local entries.
use Rattle.std.proofs.Common.{◌≡◌, ℕ, zero, suc, ◌+◌, ◌<◌, ◌≤◌, ◌==◌, Bool, true, false, not, ◌&&◌, List, [], ◌∷◌, length, take, take-suc, drop, map, get_or, refl, sym, ap, ◌∙◌, arith, if◌then◌else◌}
use Rattle.std.specs.Prelude.{sum_by, codes}
use Rattle.std.specs.Str.{bytes_eq}
use Rattle.std.proofs.lemmas.List.{map-append, take-append-drop}
use Rattle.std.proofs.lemmas.List.Sums.{sum_by-append, sum_by-cons}
use Rattle.jv_text.specs.declared.descriptor.Base.TheVariants as bases
use Rattle.jv_text.specs.declared.descriptor.Element.{Element}
use Rattle.jv_text.specs.declared.descriptor.Element.TheVariants as elements
use Rattle.jv_text.specs.declared.descriptor.FieldTypeOf.{FieldTypeOf}
use Rattle.jv_text.specs.Descriptor.{field_slots, is_wide}
use Rattle.jv_text.specs.Name.{is_init}
use Rattle.jv_stackmap.specs.declared.verification.VerificationTypeOf.TheVariants as types
use Rattle.jv_stackmap.specs.Types.{width, words, value_type, value_type_by}
use Rattle.jv_stackmap.specs.Initial.{receiver_entries}
use Rattle.jv_meaning_typing.specs.Environment.{Environment, current_class}
use Rattle.jv_meaning_typing.specs.Typing.{argument_words, entries_before, is_static}
use Rattle.jv_verify_types.specs.Typed.{typed, typed_all}
use Rattle.jv_verify_types.specs.Numbered.{Item}

-- ---- entries, one by one

pub words_with : (names : List (List ℕ)) (items : List Item) (k : ℕ) (d : Item) (n : ℕ) → k < length items → n ≡ width (typed names (get_or items k d))
    → words (typed_all names (take (k + 1) items)) ≡ words (typed_all names (take k items)) + n
words_with names items k d n lt is =
    let next : k + 1 ≡ suc k = omega arith in
    let item = get_or items k d in
    ap (λ (n : ℕ). words (typed_all names (take n items))) next
    ∙ (ap (λ (xs : List Item). words (typed_all names xs)) (take-suc items k d lt)
    ∙ (ap words (map-append (typed names) (take k items) (item ∷ []))
    ∙ omega (arith, is, sum_by-append width (typed_all names (take k items)) (typed names item ∷ []), sum_by-cons width (typed names item) [])))

pub words_front : (names : List (List ℕ)) (items : List Item) (n : ℕ) → words (typed_all names (take n items)) ≤ words (typed_all names items)
words_front names items n =
    let split : words (typed_all names items) ≡ words (typed_all names (take n items)) + words (typed_all names (drop n items)) =
    ap (λ (xs : List Item). words (typed_all names xs)) (sym (take-append-drop n items))
    ∙ (ap words (map-append (typed names) (take n items) (drop n items)) ∙ sum_by-append width (typed_all names (take n items)) (typed_all names (drop n items))) in
    omega (arith, split)

-- ---- arguments take no more words than their slots; a floating point type, which no supported class has, can take fewer

one_at_least : (wide : Bool) → 1 ≤ (if wide then 2 else 1)
one_at_least true = omega arith
one_at_least false = omega arith

value_words : (n : ℕ) (e : Element (List ℕ)) → width (value_type_by n e) ≤ (if n == 0 && is_wide e then 2 else 1)
value_words zero (elements.Base bases.Byte) = omega arith
value_words zero (elements.Base bases.Char) = omega arith
value_words zero (elements.Base bases.Double) = omega arith
value_words zero (elements.Base bases.Float) = omega arith
value_words zero (elements.Base bases.Int) = omega arith
value_words zero (elements.Base bases.Long) = omega arith
value_words zero (elements.Base bases.Short) = omega arith
value_words zero (elements.Base bases.Boolean) = omega arith
value_words zero (elements.Class name) = omega arith
value_words (suc n) e = one_at_least (suc n == 0 && is_wide e)

values_words : (parameters : List (FieldTypeOf (List ℕ))) → words (map value_type parameters) ≤ sum_by field_slots parameters
values_words [] = omega arith
values_words (p ∷ parameters) =
    omega (
      arith,
      sum_by-cons width (value_type p) (map value_type parameters),
      sum_by-cons field_slots p parameters,
      value_words p.dimensions p.element,
      values_words parameters,
    )

receiver_word : (name : List ℕ) (test : Bool) → words ((if test then types.UninitializedThis else types.Class name) ∷ []) ≡ 1
receiver_word name true = refl
receiver_word name false = refl

receiver_words : (name : List ℕ) (static test : Bool) → words (if static then [] else (if test then types.UninitializedThis else types.Class name) ∷ []) ≡ (if static then 0 else 1)
receiver_words name true test = refl
receiver_words name false test = receiver_word name test

pub words_few : (env : Environment) → words (entries_before env) ≤ argument_words env
words_few env =
    let name = (current_class env).name in
    let init = is_init env.site.method.name in
    omega (
      arith,
      sum_by-append width (receiver_entries name (is_static env) init) (map value_type env.descriptor.parameters),
      receiver_words name (is_static env) (init && not (bytes_eq name (codes "java/lang/Object"))),
      values_words env.descriptor.parameters,
    )
