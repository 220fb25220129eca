-- What is said of files one by one.
use Rattle.std.proofs.Common.{◌≡◌, ℕ, zero, suc, ◌+◌, ◌<◌, List, [], ◌∷◌, ◌++◌, length, take, min, Option, Some, refl, sym, ap, subst, ◌∙◌, ◌⊎◌, inl, inr, arith}
use Rattle.std.specs.Prelude.{IsTrue, slice_get}
use Rattle.std.proofs.lemmas.List.{length-append}
use Rattle.jv_class.specs.Class.{Class}
use Rattle.jv_meaning_world.specs.FileContent.{FileContent, AreContents, IsContent}
use Rattle.jv_meaning_world.specs.Library.{with_library}
use Rattle.jv_meaning_world.specs.World.{World, world_of}
use Rattle.jv_meaning_world.specs.Verdicts.{load_verdict}
use Rattle.jv_meaning_world.specs.declared.verdict.LoadVerdict.{LoadVerdict}
use Rattle.jv_meaning_typing.specs.declared.verdict.Verdict.{Verdict}
use Rattle.jv_meaning_typing.specs.Judgement.{IsVerdictOfContent}
use Rattle.jv_verify.specs.Files.{AreVerified, Verified}
use Rattle.jv_verify.specs.Inside.Numbered.{joins, next_number, number_behind}
use Rattle.jv_program_explain.specs.declared.settings.ExplainSettings.{ExplainSettings}
use Rattle.jv_program_explain.specs.Explain.{AreExplained, IsSaid}
use Rattle.jv_program_explain.specs.Inside.Below.{AreExplainedBelow}
use Rattle.jv_program_explain.specs.Inside.Numbered.{IsContentFor, IsJudgedAt, StandsAt, is_on_methods, why_of}
use Rattle.jv_program_explain.proofs.Numbering.{class_there, is_within, judged_there, next_is, of_file}
use Rattle.jv_program_explain.proofs.ByBytes.{content_for}

pushed : {X : Type 0} (xs : List X) (x : X) (k : ℕ) (y : X) → slice_get (xs ++ x ∷ []) k ≡ Some y → (slice_get xs k ≡ Some y) ⊎ ((k ≡ length xs) × (x ≡ y))
pushed [] x zero y e = inr (refl, cc)
pushed [] x (suc zero) y e = absurd cc
pushed [] x (suc (suc k)) y e = absurd cc
pushed (z ∷ xs) x zero y e = inl e
pushed (z ∷ xs) x (suc k) y e = by_again (pushed xs x k y e)
  where
    by_again : (slice_get xs k ≡ Some y) ⊎ ((k ≡ length xs) × (x ≡ y)) → (slice_get (z ∷ xs) (suc k) ≡ Some y) ⊎ ((suc k ≡ length (z ∷ xs)) × (x ≡ y))
    by_again (inl f) = inl f
    by_again (inr (at, same)) = inr (ap suc at, same)

content_at : (files : List (List ℕ)) (contents : List FileContent) → AreContents files contents → (k : ℕ) (bytes : List ℕ) (content : FileContent)
    → slice_get files k ≡ Some bytes → slice_get contents k ≡ Some content → IsContent bytes content
content_at [] [] h zero bytes content e f = absurd cc
content_at [] [] h (suc k) bytes content e f = absurd cc
content_at [] (c ∷ contents) h k bytes content e f = absurd h
content_at (b ∷ files) [] h k bytes content e f = absurd h
content_at (b ∷ files) (c ∷ contents) h zero bytes content e f =
    let same : b ≡ bytes = cc in
    let one : c ≡ content = cc in
    subst (λ (x : List ℕ). IsContent x content) same (subst (λ (y : FileContent). IsContent b y) one h.0)
content_at (b ∷ files) (c ∷ contents) h (suc k) bytes content e f = content_at files contents h.1 k bytes content e f

as_many : (files : List (List ℕ)) (contents : List FileContent) → AreContents files contents → length contents ≡ length files
as_many [] [] h = refl
as_many [] (c ∷ contents) h = absurd h
as_many (b ∷ files) [] h = absurd h
as_many (b ∷ files) (c ∷ contents) h = ap suc (as_many files contents h.1)

there : {X : Type 0} (xs : List X) (k : ℕ) → k < length xs → (x : X) × (slice_get xs k ≡ Some x)
there [] k h = absurd (omega (arith, h))
there (x ∷ xs) zero h = (x, refl)
there (x ∷ xs) (suc k) h = there xs k (omega (arith, h))

-- ---- one file after another

nothing : (xs : List (List ℕ)) → xs ≡ [] → (place : ℕ) (text : List ℕ) → slice_get xs place ≡ Some text → ⊥
nothing [] e zero text at = absurd cc
nothing [] e (suc k) text at = absurd cc
nothing (x ∷ xs) e place text at = absurd cc

pub none_yet : (s : ExplainSettings) (given : List Class) (files : List (List ℕ)) (contents : List FileContent) (verdicts : List Verdict) (number : ℕ)
    → number ≡ length (with_library given).system + length (with_library given).front → AreExplainedBelow s given files contents verdicts 0 number []
none_yet s given files contents verdicts number e = record {
  number_is = number_at contents;
  count = refl;
  each = λ place bytes content verdict text file at v t. absurd (nothing [] refl place text t);
}
  where
    number_at : (contents : List FileContent) → number ≡ number_behind (with_library given) (take 0 contents)
    number_at [] = e
    number_at (f ∷ more) = e

module _ (files : List (List ℕ)) (given : List Class) (contents : List FileContent) (are : AreContents files contents) (verified : Verified) (found : AreVerified given contents verified) where
  module _ (s : ExplainSettings) (k : ℕ) (less : k < length files) (v : Verdict) (judged : slice_get verified.verdicts k ≡ Some v) (number : ℕ)
      (number_is : number ≡ number_behind (with_library given) (take k contents)) (world : World) (same : world ≡ verified.world) where
    here : (f : FileContent) × (slice_get contents k ≡ Some f)
    here =
        let many = as_many files contents are in
        there contents k (omega (arith, less, many))

    is_world : world ≡ world_of (with_library given) contents
    is_world = same ∙ found.world

    pub judged_at : IsTrue (is_on_methods v) → IsJudgedAt world number v
    judged_at on =
        subst (λ (w : World). IsJudgedAt w number v) (sym is_world)
        (subst (λ (n : ℕ). IsJudgedAt (world_of (with_library given) contents) n v) (sym number_is)
        (judged_there given contents verified.verdicts found.verdicts k here.0 v here.1 judged on))

    pub within_at : IsTrue (joins (why_of v)) → number < length world
    within_at on =
        subst (λ (w : World). number < length w) (sym is_world)
        (subst (λ (n : ℕ). n < length (world_of (with_library given) contents)) (sym number_is)
        (is_within given contents verified.verdicts found.verdicts k here.0 v here.1 judged on))

    pub one_more : (said : List (List ℕ)) → AreExplainedBelow s given files contents verified.verdicts k number said → (bytes text : List ℕ) (next : ℕ) → slice_get files k ≡ Some bytes
        → next ≡ next_number number (why_of v)
        → ((why : Option LoadVerdict) (content : FileContent) → IsContent bytes content → IsVerdictOfContent world why (Some content) v
        → (IsTrue (is_on_methods v) → StandsAt world number content) → IsContentFor v content → IsSaid s world bytes content v text)
        → AreExplainedBelow s given files contents verified.verdicts (k + 1) next (said ++ text ∷ [])
    one_more said below bytes text next file next_on says = record {
      number_is =
          next_on
          ∙ (ap (λ (n : ℕ). next_number n (why_of v)) number_is
          ∙ (sym (next_is given contents verified.verdicts found.verdicts k here.0 v here.1 judged) ∙ ap (λ (n : ℕ). number_behind (with_library given) (take n contents)) (sym plus)));
      count = length-append said (text ∷ []) ∙ ap (λ (n : ℕ). n + 1) below.count;
      each = λ place b content w t b_at at w_at t_at. by_place place b content w t b_at at w_at (pushed said text place t t_at);
    }
      where
        plus : k + 1 ≡ suc k
        plus = omega arith

        said_here : IsSaid s (world_of (with_library given) contents) bytes here.0 v text
        said_here =
            subst (λ (w : World). IsSaid s w bytes here.0 v text) is_world
            (says (load_verdict (with_library given) contents k) here.0 (content_at files contents are k bytes here.0 file here.1)
            (subst (λ (w : World). IsVerdictOfContent w (load_verdict (with_library given) contents k) (Some here.0) v) (sym is_world)
            (of_file given contents verified.verdicts found.verdicts k here.0 v here.1 judged))
            (λ on. subst (λ (w : World). StandsAt w number here.0) (sym is_world)
            (subst (λ (n : ℕ). StandsAt (world_of (with_library given) contents) n here.0) (sym number_is)
            (class_there given contents verified.verdicts found.verdicts k here.0 v here.1 judged on)))
            (content_for given contents verified.verdicts found.verdicts k here.0 v here.1 judged))

        by_place : (place : ℕ) (b : List ℕ) (content : FileContent) (w : Verdict) (t : List ℕ) → slice_get files place ≡ Some b → slice_get contents place ≡ Some content
            → slice_get verified.verdicts place ≡ Some w → (slice_get said place ≡ Some t) ⊎ ((place ≡ length said) × (text ≡ t))
            → IsSaid s (world_of (with_library given) contents) b content w t
        by_place place b content w t b_at at w_at (inl before) = below.each place b content w t b_at at w_at before
        by_place place b content w t b_at at w_at (inr (last, alike)) =
            let now : place ≡ k = last ∙ below.count in
            let w_same : Some v ≡ Some w = sym judged ∙ (ap (slice_get verified.verdicts) (sym now) ∙ w_at) in
            let verdict_is : v ≡ w = cc in
            let c_same : Some here.0 ≡ Some content = sym here.1 ∙ (ap (slice_get contents) (sym now) ∙ at) in
            let content_is : here.0 ≡ content = cc in
            let b_same : Some bytes ≡ Some b = sym file ∙ (ap (slice_get files) (sym now) ∙ b_at) in
            let bytes_are : bytes ≡ b = cc in
            subst (λ (x : List ℕ). IsSaid s (world_of (with_library given) contents) b content w x) alike
            (subst (λ (x : Verdict). IsSaid s (world_of (with_library given) contents) b content x text) verdict_is
            (subst (λ (x : FileContent). IsSaid s (world_of (with_library given) contents) b x v text) content_is
            (subst (λ (x : List ℕ). IsSaid s (world_of (with_library given) contents) x here.0 v text) bytes_are said_here)))

  pub all_said : (s : ExplainSettings) (k number : ℕ) (said : List (List ℕ)) → AreExplainedBelow s given files contents verified.verdicts k number said
      → k ≡ min (length files) (length verified.verdicts) → AreExplained s given files contents verified.verdicts said
  all_said s k number said below e = record {
    count = below.count ∙ (e ∙ least (length files) (length verified.verdicts) (sym (as_many files contents are) ∙ sym found.verdicts.count));
    each = below.each;
  }
    where
      least : (a b : ℕ) → a ≡ b → min a b ≡ b
      least a b same = omega (arith, same)
