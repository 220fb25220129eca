-- A string literal that is noted among those that were made.
use Rattle.std.proofs.Common.{◌≡◌, ℕ, Bool, true, false, nat_eq, List, ◌∷◌, ◌++◌, Option, Some, set, refl, sym, ap, subst, ◌∙◌, arith, slice_get, if◌then◌else◌}
use Rattle.std.specs.Str.{bytes_eq}
use Rattle.std.proofs.lemmas.List.{length-set}
use Rattle.std.proofs.lemmas.Slice.Eq.{bytes_eq-Decides}
use Rattle.jv_meaning_machine.specs.Literals.{literal_in}
use Rattle.jv_meaning_machine.proofs.KeptMemory.{set_there, set_elsewhere}
use Rattle.jv_interp_held.specs.HeldInWords.{IsLiteral, AreLiterals}
use Rattle.jv_interp_objects.proofs.More.{literals_grown}

pub same_text : (text : List ℕ) → bytes_eq text text ≡ true
same_text text = (bytes_eq-Decides text text).1 refl

one_some : {A : Type 0} (a b : A) → Some a ≡ Some b → a ≡ b
one_some a b e = cc

module _ (texts : List (List ℕ)) (addresses more : List ℕ) (literals : List (List ℕ × ℕ)) (kept : List ℕ) (number : ℕ) (text : List ℕ) (object old address : ℕ)
    (h : AreLiterals texts addresses literals kept) (number_is : slice_get texts number ≡ Some text) (there : slice_get kept number ≡ Some old)
    (at : slice_get (addresses ++ more) object ≡ Some address) where
  g : AreLiterals texts (addresses ++ more) literals kept
  g = literals_grown texts addresses more literals kept h

  each :
      (n : ℕ) (t : List ℕ) (a : ℕ) → slice_get texts n ≡ Some t → slice_get (set kept number address) n ≡ Some a
      → IsLiteral (addresses ++ more) (literal_in t ((text, object) ∷ literals)) a
  each n t a e f = by_number (nat_eq n number) refl
    where
      by_number : (b : Bool) → nat_eq n number ≡ b → IsLiteral (addresses ++ more) (literal_in t ((text, object) ∷ literals)) a
      by_number true s =
          let is : n ≡ number = grind (arith, s) in
          let text_is : text ≡ t = one_some text t (sym number_is ∙ subst (λ (k : ℕ). slice_get texts k ≡ Some t) is e) in
          let a_is : address ≡ a =
          one_some address a (sym (set_there kept number address old there) ∙ subst (λ (k : ℕ). slice_get (set kept number address) k ≡ Some a) is f) in
          let first : literal_in text ((text, object) ∷ literals) ≡ Some object =
          ap (λ (b : Bool). if b then Some object else literal_in text literals) (same_text text) in
          subst (λ (x : List ℕ). IsLiteral (addresses ++ more) (literal_in x ((text, object) ∷ literals)) a) text_is
          (subst (λ (o : Option ℕ). IsLiteral (addresses ++ more) o a) (sym first) (at ∙ ap Some a_is))
      by_number false s =
          let apart : n ≡ number → ⊥ = λ same. absurd (differ n number s same) in
          let other : bytes_eq t text ≡ false =
          by_text (bytes_eq t text) refl apart in
          subst (λ (b : Bool). IsLiteral (addresses ++ more) (if b then Some object else literal_in t literals) a) (sym other)
          (g.each n t a e (sym (set_elsewhere kept number n address apart) ∙ f))
        where
          differ : (x y : ℕ) → nat_eq x y ≡ false → x ≡ y → ⊥
          differ x y e same = absurd (grind (arith, e, same))

          by_text : (b : Bool) → bytes_eq t text ≡ b → (n ≡ number → ⊥) → b ≡ false
          by_text false s apart = refl
          by_text true s apart =
              let same : t ≡ text = (bytes_eq-Decides t text).0 s in
              absurd (apart (h.differ number n text number_is (e ∙ ap Some same)))

  among :
      (t : List ℕ) (o : ℕ) → literal_in t ((text, object) ∷ literals) ≡ Some o → (n : ℕ) × (slice_get texts n ≡ Some t)
  among t o e = by_text (bytes_eq t text) refl
    where
      by_text : (b : Bool) → bytes_eq t text ≡ b → (n : ℕ) × (slice_get texts n ≡ Some t)
      by_text true s = (number, number_is ∙ ap Some (sym ((bytes_eq-Decides t text).0 s)))
      by_text false s =
          h.among t o (sym (ap (λ (b : Bool). if b then Some object else literal_in t literals) s) ∙ e)

  pub noted : AreLiterals texts (addresses ++ more) ((text, object) ∷ literals) (set kept number address)
  noted = record {
    count = length-set kept number address ∙ h.count;
    each = each;
    differ = h.differ;
    among = among;
  }
