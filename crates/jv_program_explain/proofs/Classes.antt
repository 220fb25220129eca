-- The methods of a class, listed one after another.
use Rattle.std.proofs.Common.{◌≡◌, ℕ, zero, suc, ◌+◌, ◌<◌, List, [], ◌∷◌, ◌++◌, length, Option, Some, refl, sym, ap, subst, ◌∙◌, ◌⊎◌, inl, inr, append-nil, arith}
use Rattle.std.specs.Prelude.{IsTrue, slice_get}
use Rattle.std.specs.List.{flat_map}
use Rattle.std.proofs.lemmas.Grind.{flat_map-append}
use Rattle.std.proofs.lemmas.List.{length-append}
use Rattle.jv_class_structure.specs.Parts.{methods_of}
use Rattle.jv_class_structure.specs.Structure.{ClassStructure, body_fits}
use Rattle.jv_class.specs.Class.{Method, class_of}
use Rattle.jv_meaning_world.specs.World.{Loaded, World}
use Rattle.jv_meaning_world.specs.Verdicts.{declared_by}
use Rattle.jv_verify.specs.Inside.Shown.{method_in}
use Rattle.jv_verify.proofs.Shown.{as_many, few, of_file}
use Rattle.jv_program_explain.specs.Listing.{AreMethodsListed, IsCodeListed}
use Rattle.jv_program_explain.specs.Inside.Walked.{AreFirstListed}

pushed : {X : Type 0} (xs : List X) (x : X) (k : ℕ) (y : X) → slice_get (xs ++ x ∷ []) k ≡ Some y → (slice_get xs k ≡ Some y) ⊎ ((k ≡ length xs) × (x ≡ y))
pushed [] x zero y e = inr (refl, cc)
pushed [] x (suc zero) y e = absurd cc
pushed [] x (suc (suc k)) y e = absurd cc
pushed (z ∷ xs) x zero y e = inl e
pushed (z ∷ xs) x (suc k) y e = by_again (pushed xs x k y e)
  where
    by_again : (slice_get xs k ≡ Some y) ⊎ ((k ≡ length xs) × (x ≡ y)) → (slice_get (z ∷ xs) (suc k) ≡ Some y) ⊎ ((suc k ≡ length (z ∷ xs)) × (x ≡ y))
    by_again (inl f) = inl f
    by_again (inr (at, same)) = inr (ap suc at, same)

nothing : {X : Type 0} (k : ℕ) (x : X) → slice_get {X = X} [] k ≡ Some x → ⊥
nothing zero x e = cc
nothing (suc k) x e = cc

pub method_at : (xs : List Method) (k : ℕ) → k < length xs → (m : Method) × (slice_get xs k ≡ Some m)
method_at [] k less = absurd (omega (arith, less))
method_at (x ∷ xs) zero less = (x, refl)
method_at (x ∷ xs) (suc k) less = method_at xs k (omega (arith, less))

module _ (world : World) (l : Loaded) (lines : ℕ → ℕ → Option ℕ) where
  pub none_listed : (text : List ℕ) → text ≡ [] → AreFirstListed world l lines 0 text
  none_listed text e = record { listed = []; count_is = refl; each = λ k m one at is. absurd (nothing k one is); told = e }

  pub one_more : (k : ℕ) (m : Method) (text one more : List ℕ) → AreFirstListed world l lines k text → slice_get l.class.methods k ≡ Some m
      → IsCodeListed world (declared_by l m) (lines k) k m.code one → more ≡ text ++ one → AreFirstListed world l lines (k + 1) more
  one_more k m text one more first at is appended =
      let many = first.count_is in
      let joined = length-append first.listed (one ∷ []) in
      let lone : length (one ∷ []) ≡ 1 = refl in
      record {
        listed = first.listed ++ one ∷ [];
        count_is = omega (arith, many, joined, lone);
        each = λ n other t there got. by_place n other t there (pushed first.listed one n t got);
        told =
            appended
            ∙ (ap (λ (t : List ℕ). t ++ one) first.told
            ∙ (ap (λ (t : List ℕ). flat_map (λ o. o) first.listed ++ t) (sym (append-nil one)) ∙ sym (flat_map-append (λ (o : List ℕ). o) first.listed (one ∷ []))));
      }
    where
      by_place : (n : ℕ) (other : Method) (t : List ℕ) → slice_get l.class.methods n ≡ Some other → (slice_get first.listed n ≡ Some t) ⊎ ((n ≡ length first.listed) × (one ≡ t))
          → IsCodeListed world (declared_by l other) (lines n) n other.code t
      by_place n other t there (inl before) = first.each n other t there before
      by_place n other t there (inr (last, alike)) =
          let here : k ≡ n = sym (last ∙ first.count_is) in
          let both : Some m ≡ Some other = sym at ∙ (ap (slice_get l.class.methods) here ∙ there) in
          let same : m ≡ other = cc in
          subst (λ (i : ℕ). IsCodeListed world (declared_by l other) (lines i) i other.code t) here
          (subst (λ (x : Method). IsCodeListed world (declared_by l x) (lines k) k x.code t) same
          (subst (λ (x : List ℕ). IsCodeListed world (declared_by l m) (lines k) k m.code x) alike is))

  pub all_listed : (k : ℕ) (text : List ℕ) → AreFirstListed world l lines k text → k ≡ length l.class.methods → AreMethodsListed world l text
  all_listed k text first end = record { lines = lines; listed = first.listed; count = first.count_is ∙ end; each = first.each; told = first.told }

-- a class that a file holds has fewer than 65,536 methods
pub few_methods : (file : ClassStructure) (l : Loaded) → class_of file ≡ Some l.class → IsTrue (body_fits file) → length l.class.methods < 65536
few_methods file l of fits =
    let less = few file fits in
    let many : length l.class.methods ≡ length (methods_of file) = as_many (method_in l.class.constant_pool) (methods_of file) l.class.methods (of_file file l of) in
    omega (arith, less, many)
