-- The instruction at a place, from code to the methods of a class.
use Rattle.std.proofs.Common.{◌≡◌, ◌≢◌, ℕ, zero, suc, ◌+◌, ◌≤◌, ◌⊎◌, inl, inr, true, false, List, length, Option, Some, None, refl, sym, ap, subst, ◌∙◌, arith}
use Rattle.std.specs.Prelude.{String, is_some, slice_get}
use Rattle.std.proofs.lemmas.Option.{slice_get_within}
use Rattle.jv_pool.specs.Constants.{Entry, utf8_at}
use Rattle.jv_class.specs.ClassFile.{class_name}
use Rattle.jv_class_structure.specs.Parts.{CodeSeen, MethodSeen, methods_of}
use Rattle.jv_class_structure.specs.Structure.{ClassStructure}
use Rattle.jv_code.specs.Places.{IsAt}
use Rattle.jv_place.specs.declared.method.Wanted.{Wanted}
use Rattle.jv_place.specs.Inside.Found.{IsAtPlace, IsInClass, IsInCode, IsInMethods, IsOfMethod, NoneBefore, StandsAtPlace, StandsIn, text_in}

pub some_text : {A : Type 0} (text : Option (String A)) → is_some (text_in text) ≡ is_some text
some_text None = refl
some_text (Some t) = refl

-- ---- in a method

pub of_code : (pool : List Entry) (shown : MethodSeen) (body : CodeSeen) (wanted : Wanted) (text : Option (List ℕ)) → utf8_at pool shown.name_index ≡ Some wanted.name.now
    → utf8_at pool shown.descriptor_index ≡ Some wanted.descriptor.now → shown.code ≡ Some body → IsInCode pool body.code wanted.offset text → IsOfMethod pool shown wanted text
of_code pool shown body wanted (Some t) named described has (insn, at, told) =
    record { name = named; descriptor = described; body = body; has_code = has; insn = insn; at = at; told = told }
of_code pool shown body wanted None named described has none = λ text stands.
    let both : Some stands.body ≡ Some body = sym stands.has_code ∙ has in
    let same : stands.body ≡ body = cc in
    none stands.insn (subst (λ (b : CodeSeen). IsAt b.code wanted.offset stands.insn) same stands.at)

pub of_method : (file : ClassStructure) (pool : List Entry) (place : ℕ) (shown : MethodSeen) (wanted : Wanted) (text : Option (List ℕ)) → pool ≡ file.constant_pool
    → slice_get (methods_of file) place ≡ Some shown → IsOfMethod pool shown wanted text → IsAtPlace file place wanted text
of_method file pool place shown wanted (Some t) same at is = (shown, at, subst (λ (p : List Entry). StandsIn p shown wanted t) same is)
of_method file pool place shown wanted None same at none = λ text (other, there, stands).
    let both : Some other ≡ Some shown = sym there ∙ at in
    let one : other ≡ shown = cc in
    none text (subst (λ (p : List Entry). StandsIn p shown wanted text) (sym same) (subst (λ (s : MethodSeen). StandsIn file.constant_pool s wanted text) one stands))

-- ---- in one method after the other

same_or_other : (k n : ℕ) → (k ≡ n) ⊎ (k ≢ n)
same_or_other zero zero = inl refl
same_or_other zero (suc n) = inr (λ e. omega (arith, e))
same_or_other (suc k) zero = inr (λ e. omega (arith, e))
same_or_other (suc k) (suc n) =
    elim (same_or_other k n) [
      | inl same ↦ inl (ap suc same)
      | inr other ↦ inr (λ e. other (omega (arith, e)))
    ]

module _ (file : ClassStructure) (wanted : Wanted) where
  pub none_yet : NoneBefore file 0 wanted
  none_yet k text less stands = absurd (omega (arith, less))

  pub none_more : (place : ℕ) (text : Option (List ℕ)) → is_some text ≡ false → IsAtPlace file place wanted text → NoneBefore file place wanted → NoneBefore file (place + 1) wanted
  none_more place (Some t) e is before = absurd cc
  none_more place None e is before = λ k text less stands. elim (same_or_other k place) [
    | inl same ↦ is text (subst (λ (n : ℕ). StandsAtPlace file n wanted text) same stands)
    | inr other ↦ before k text (omega (arith, less, other)) stands
  ]

  pub found_there : (place : ℕ) (text : Option (List ℕ)) → is_some text ≡ true → IsAtPlace file place wanted text → IsInMethods file wanted text
  found_there place (Some t) some is = (place, is)
  found_there place None some is = absurd cc

  pub none_left : (count : ℕ) → length (methods_of file) ≤ count → NoneBefore file count wanted → IsInMethods file wanted None
  none_left count most before = λ place text (shown, at, stands).
      let within = slice_get_within (methods_of file) place shown at in
      before place text (omega (arith, within, most)) (shown, at, stands)

-- ---- in a class of a name

pub of_class : (file : ClassStructure) (name : List ℕ) (wanted : Wanted) (text : Option (List ℕ)) → class_name file ≡ Some name → IsInMethods file wanted text → IsInClass file name wanted text
of_class file name wanted (Some t) named is = (named, is)
of_class file name wanted None named none = λ text (same, (place, stands)). none place text stands
