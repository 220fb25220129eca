-- The verdicts on files one by one.
use Rattle.std.proofs.Common.{◌≡◌, ℕ, zero, suc, ◌+◌, ◌<◌, false, List, [], ◌∷◌, ◌++◌, length, take, Option, Some, None, refl, sym, ap, subst, ◌∙◌, inl, inr, arith}
use Rattle.std.specs.Prelude.{IsTrue, IfNone, slice_get, ◌⊎◌}
use Rattle.std.proofs.lemmas.List.{length-append}
use Rattle.jv_class.specs.Class.{Class}
use Rattle.jv_loader.specs.Loading.{Loading, AreLoaded}
use Rattle.jv_meaning_world.specs.FileContent.{FileContent, AreContents}
use Rattle.jv_meaning_world.specs.declared.content.Content.TheVariants.{OtherVersion, NoClassFile, MoreThanProfile, Holds}
use Rattle.jv_meaning_world.specs.Library.{with_library}
use Rattle.jv_meaning_world.specs.declared.verdict.LoadVerdict.{LoadVerdict}
use Rattle.jv_meaning_world.specs.World.{World, loaded, world_of}
use Rattle.jv_meaning_world.specs.Verdicts.{load_verdict}
use Rattle.jv_meaning_typing.specs.declared.verdict.Verdict.{Verdict}
use Rattle.jv_meaning_typing.specs.declared.verdict.Verdict.TheVariants.{Accepted, Refused}
use Rattle.jv_meaning_typing.specs.Judgement.{AreTyped, IsVerdictOfMethods, IsVerdictOfContent, IsVerdictOfFile}
use Rattle.jv_verify.specs.Files.{Verified, AreVerdicts, AreVerified, AcceptedAreTyped}
use Rattle.jv_verify.specs.Inside.Numbered.{joins, next_number, number_behind, IsVerdictAt, AreVerdictsBelow}
use Rattle.jv_verify.proofs.Numbered.{next_behind, stands}

-- ---- lists

there : {X : Type 0} (xs : List X) (k : ℕ) → k < length xs → (x : X) × (slice_get xs k ≡ Some x)
there [] k h = absurd (omega (arith, h))
there (x ∷ xs) zero h = (x, refl)
there (x ∷ xs) (suc k) h = there xs k (omega (arith, h))

is_within : {X : Type 0} (xs : List X) (k : ℕ) (x : X) → slice_get xs k ≡ Some x → k < length xs
is_within [] zero x e = absurd cc
is_within [] (suc k) x e = absurd cc
is_within (y ∷ xs) zero x e = omega arith
is_within (y ∷ xs) (suc k) x e =
    let less = is_within xs k x e in
    omega (arith, less)

pushed : {X : Type 0} (xs : List X) (x : X) (k : ℕ) (y : X) → slice_get (xs ++ x ∷ []) k ≡ Some y → (slice_get xs k ≡ Some y) ⊎ ((k ≡ length xs) × (x ≡ y))
pushed [] x zero y e = inr (refl, cc)
pushed [] x (suc zero) y e = absurd cc
pushed [] x (suc (suc k)) y e = absurd cc
pushed (z ∷ xs) x zero y e = inl e
pushed (z ∷ xs) x (suc k) y e = by_again (pushed xs x k y e)
  where
    by_again : (slice_get xs k ≡ Some y) ⊎ ((k ≡ length xs) × (x ≡ y)) → (slice_get (z ∷ xs) (suc k) ≡ Some y) ⊎ ((suc k ≡ length (z ∷ xs)) × (x ≡ y))
    by_again (inl f) = inl f
    by_again (inr (at, same)) = inr (ap suc at, same)

as_many : (bytes : List (List ℕ)) (contents : List FileContent) → AreContents bytes contents → length contents ≡ length bytes
as_many [] [] h = refl
as_many [] (f ∷ contents) h = absurd h
as_many (b ∷ bytes) [] h = absurd h
as_many (b ∷ bytes) (f ∷ contents) h = ap suc (as_many bytes contents h.1)

-- ---- one file

pub if_none : (why : Option LoadVerdict) (P : Type 0) → (IsTrue (joins why) → P) → IfNone why P
if_none None P h = h refl
if_none (Some w) P h = tt

of_content : (world : World) (n : ℕ) (why : Option LoadVerdict) (f : FileContent) (v : Verdict) → IsVerdictAt world n why v
    → (IsTrue (joins why) → (class : Class) × (f ≡ Holds class) × (slice_get world n ≡ Some (loaded false class))) → IsVerdictOfContent world why (Some f) v
of_content world n (Some why) OtherVersion v h at = h
of_content world n (Some why) NoClassFile v h at = h
of_content world n (Some why) MoreThanProfile v h at = h
of_content world n (Some why) (Holds class) v h at = h
of_content world n None OtherVersion v h at = absurd (unlike (at refl).0 (at refl).1)
  where
    unlike : (c : Class) → OtherVersion ≡ Holds c → ⊥
    unlike c e = cc
of_content world n None NoClassFile v h at = absurd (unlike (at refl).0 (at refl).1)
  where
    unlike : (c : Class) → NoClassFile ≡ Holds c → ⊥
    unlike c e = cc
of_content world n None MoreThanProfile v h at = absurd (unlike (at refl).0 (at refl).1)
  where
    unlike : (c : Class) → MoreThanProfile ≡ Holds c → ⊥
    unlike c e = cc
of_content world n None (Holds class) v h at =
    let found = at refl in
    let same : found.0 ≡ class = one_class found.0 found.1 in
    subst (λ (c : Class). IsVerdictOfMethods world (loaded false c) v) same (h (loaded false found.0) found.2)
  where
    one_class : (c : Class) → Holds class ≡ Holds c → c ≡ class
    one_class c e = cc

module _ (library files : List (List ℕ)) (loading : Loading) (are : AreLoaded library files loading) where
  many : length are.contents ≡ length loading.verdicts
  many = as_many files are.contents are.read ∙ sym are.count

  why_is : (k : ℕ) (why : Option LoadVerdict) → slice_get loading.verdicts k ≡ Some why → k < length loading.verdicts → why ≡ load_verdict (with_library are.given) are.contents k
  why_is k why e less =
      let both : Some why ≡ Some (load_verdict (with_library are.given) are.contents k) = sym e ∙ are.verdict k (subst (λ n. k < n) are.count less) in
      cc

  module _ (k number : ℕ) (is : number ≡ number_behind (with_library are.given) (take k are.contents)) (why : Option LoadVerdict)
      (at : slice_get loading.verdicts k ≡ Some why) (less : k < length loading.verdicts) where
    content : (f : FileContent) × (slice_get are.contents k ≡ Some f)
    content = there are.contents k (subst (λ n. k < n) (sym many) less)

    found : IsTrue (joins why) → (class : Class) × (content.0 ≡ Holds class) × (slice_get loading.world number ≡ Some (loaded false class))
    found on =
        let there = stands (with_library are.given) are.contents k content.0 content.1 why (why_is k why at less) on in
        (there.0, there.1, ap (λ w. slice_get w number) are.world ∙ (ap (slice_get (world_of (with_library are.given) are.contents)) is ∙ there.2))

    pub stands_within : IsTrue (joins why) → number < length loading.world
    stands_within on =
        let at = found on in
        is_within loading.world number (loaded false at.0) at.2

    next_is_behind : next_number number why ≡ number_behind (with_library are.given) (take (suc k) are.contents)
    next_is_behind = ap (λ n. next_number n why) is ∙ sym (next_behind (with_library are.given) are.contents k content.0 content.1 why (why_is k why at less))

    module _ (verdicts : List Verdict) (below : AreVerdictsBelow are.given are.contents k number verdicts) where
      pub more_verdicts : (v : Verdict) → IsVerdictAt loading.world number why v → (more : List Verdict) → more ≡ verdicts ++ v ∷ [] → (next : ℕ) →
          next ≡ next_number number why → AreVerdictsBelow are.given are.contents (k + 1) next more
      more_verdicts v is_verdict more e next next_is = subst (λ n. AreVerdictsBelow are.given are.contents n next more) (sym plus) (record {
        number = next_is ∙ next_is_behind;
        count = ap length e ∙ (length-append verdicts (v ∷ []) ∙ (ap (λ n. n + 1) below.count ∙ plus));
        verdict = λ place w at_place. by_place place w (pushed verdicts v place w (ap (λ vs. slice_get vs place) (sym e) ∙ at_place));
      })
        where
          plus : k + 1 ≡ suc k
          plus = omega arith

          this : IsVerdictOfFile (with_library are.given) are.contents k v
          this =
              subst (λ o. IsVerdictOfContent (world_of (with_library are.given) are.contents) (load_verdict (with_library are.given) are.contents k) o v) (sym content.1)
              (subst (λ w. IsVerdictOfContent (world_of (with_library are.given) are.contents) w (Some content.0) v) (why_is k why at less)
              (subst (λ w. IsVerdictOfContent w why (Some content.0) v) are.world (of_content loading.world number why content.0 v is_verdict found)))

          by_place : (place : ℕ) (w : Verdict) → (slice_get verdicts place ≡ Some w) ⊎ ((place ≡ length verdicts) × (v ≡ w)) → IsVerdictOfFile (with_library are.given) are.contents place w
          by_place place w (inl before) = below.verdict place w before
          by_place place w (inr (last, same)) =
              subst (λ n. IsVerdictOfFile (with_library are.given) are.contents n w) (sym (last ∙ below.count)) (subst (IsVerdictOfFile (with_library are.given) are.contents k) same this)

  pub all_verdicts : (k number : ℕ) (verdicts : List Verdict) → AreVerdictsBelow are.given are.contents k number verdicts → k ≡ length loading.verdicts → AreVerdicts are.given are.contents verdicts
  all_verdicts k number verdicts below e = record { count = below.count ∙ (e ∙ sym many); verdict = below.verdict }

-- ---- what is accepted

typed_content : (world : World) (why : Option LoadVerdict) (class : Class) → IsVerdictOfContent world why (Some (Holds class)) Accepted → AreTyped world (loaded false class) class.methods
typed_content world None class h = h
typed_content world (Some why) class h = absurd (unlike h)
  where
    unlike : Accepted ≡ Refused why → ⊥
    unlike e = cc

pub accepted_are_typed : (given : List Class) (contents : List FileContent) (verified : Verified) → AreVerified given contents verified → AcceptedAreTyped contents verified
accepted_are_typed given contents verified are place class at accepted =
    let verdict = are.verdicts.verdict place Accepted accepted in
    subst (λ w. AreTyped w (loaded false class) class.methods) (sym are.world)
    (typed_content (world_of (with_library given) contents) (load_verdict (with_library given) contents place) class
    (subst (λ o. IsVerdictOfContent (world_of (with_library given) contents) (load_verdict (with_library given) contents place) o Accepted) at verdict))
