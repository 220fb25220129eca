-- The class of a file stands at its number.
use Rattle.std.proofs.Common.{◌≡◌, ℕ, suc, ◌<◌, false, List, length, take, Option, Some, None, refl, sym, ap, subst, ◌∙◌}
use Rattle.std.specs.Prelude.{IsTrue, slice_get}
use Rattle.std.proofs.lemmas.Option.{slice_get_within}
use Rattle.jv_class.specs.Class.{Class}
use Rattle.jv_meaning_world.specs.FileContent.{FileContent}
use Rattle.jv_meaning_world.specs.declared.content.Content.TheVariants.{OtherVersion, NoClassFile, MoreThanProfile, Holds}
use Rattle.jv_meaning_world.specs.declared.verdict.LoadVerdict.{LoadVerdict}
use Rattle.jv_meaning_world.specs.Library.{with_library}
use Rattle.jv_meaning_world.specs.World.{Loaded, World, loaded, world_of}
use Rattle.jv_meaning_world.specs.Verdicts.{load_verdict}
use Rattle.jv_meaning_typing.specs.declared.verdict.Verdict.{Verdict}
use Rattle.jv_meaning_typing.specs.declared.verdict.Verdict.TheVariants.{Accepted, Refused, Verify}
use Rattle.jv_meaning_typing.specs.Judgement.{IsVerdictBehind, IsVerdictOfContent, IsVerdictOfMethods}
use Rattle.jv_verify.specs.Files.{AreVerdicts}
use Rattle.jv_verify.specs.Inside.Numbered.{joins, next_number, number_behind}
use Rattle.jv_verify.proofs.Numbered.{next_behind, stands}
use Rattle.jv_program_explain.specs.Inside.Numbered.{IsJudgedAt, StandsAt, is_on_methods, why_of}

-- ---- what a verdict says of what was wrong before

behind : (world : World) (l : Loaded) (why : Option LoadVerdict) (v : Verdict) → IsVerdictBehind world l why v → why_of v ≡ why
behind world l (Some w) v h = ap why_of h
behind world l None (Refused w) h = absurd h
behind world l None (Verify f) h = refl
behind world l None Accepted h = refl

known_why : (world : World) (why : Option LoadVerdict) (f : FileContent) (v : Verdict) → IsVerdictOfContent world why (Some f) v → why_of v ≡ why
known_why world why (Holds class) v h = behind world (loaded false class) why v h
known_why world (Some w) OtherVersion v h = ap why_of h
known_why world (Some w) NoClassFile v h = ap why_of h
known_why world (Some w) MoreThanProfile v h = ap why_of h
known_why world None OtherVersion v h = absurd h
known_why world None NoClassFile v h = absurd h
known_why world None MoreThanProfile v h = absurd h

on_methods : (v : Verdict) → IsTrue (is_on_methods v) → why_of v ≡ None
on_methods Accepted on = refl
on_methods (Verify f) on = refl
on_methods (Refused w) on = absurd cc

holds_one : (one other : Class) → Holds one ≡ Holds other → one ≡ other
holds_one one other e = cc

-- ---- the file at a place

module _ (given : List Class) (contents : List FileContent) (verdicts : List Verdict) (right : AreVerdicts given contents verdicts) (k : ℕ) (f : FileContent) (v : Verdict)
    (at : slice_get contents k ≡ Some f) (judged : slice_get verdicts k ≡ Some v) where
  abbrev world : World
  world = world_of (with_library given) contents

  abbrev number : ℕ
  number = number_behind (with_library given) (take k contents)

  pub of_file : IsVerdictOfContent world (load_verdict (with_library given) contents k) (Some f) v
  of_file = subst (λ (o : Option FileContent). IsVerdictOfContent world (load_verdict (with_library given) contents k) o v) at (right.verdict k v judged)

  pub why_is : why_of v ≡ load_verdict (with_library given) contents k
  why_is = known_why world (load_verdict (with_library given) contents k) f v of_file

  stands_there : IsTrue (joins (why_of v)) → (class : Class) × (f ≡ Holds class) × (slice_get world number ≡ Some (loaded false class))
  stands_there on = stands (with_library given) contents k f at (why_of v) why_is on

  pub next_is : number_behind (with_library given) (take (suc k) contents) ≡ next_number number (why_of v)
  next_is = next_behind (with_library given) contents k f at (why_of v) why_is

  pub is_within : IsTrue (joins (why_of v)) → number < length world
  is_within on =
      let found = stands_there on in
      slice_get_within world number (loaded false found.0) found.2

  module _ (on : IsTrue (is_on_methods v)) where
    found : (class : Class) × (f ≡ Holds class) × (slice_get world number ≡ Some (loaded false class))
    found = stands_there (ap joins (on_methods v on))

    none_wrong : load_verdict (with_library given) contents k ≡ None
    none_wrong = sym why_is ∙ on_methods v on

    is_judged : IsVerdictOfMethods world (loaded false found.0) v
    is_judged =
        subst (λ (w : Option LoadVerdict). IsVerdictBehind world (loaded false found.0) w v) none_wrong
        (subst (λ (g : FileContent). IsVerdictOfContent world (load_verdict (with_library given) contents k) (Some g) v) found.1 of_file)

    pub judged_there : IsJudgedAt world number v
    judged_there = record {
      class = slice_get_within world number (loaded false found.0) found.2;
      guest = λ l here. by_class l here;
      judged = λ l here. subst (λ (x : Loaded). IsVerdictOfMethods world x v) (same l here) is_judged;
    }
      where
        same : (l : Loaded) → slice_get world number ≡ Some l → loaded false found.0 ≡ l
        same l here =
            let both : Some (loaded false found.0) ≡ Some l = sym found.2 ∙ here in
            cc

        by_class : (l : Loaded) → slice_get world number ≡ Some l → l.by_system ≡ false
        by_class l here = ap (λ (x : Loaded). x.by_system) (sym (same l here))

    pub class_there : StandsAt world number f
    class_there = λ class e.
        let one : found.0 ≡ class = holds_one found.0 class (sym found.1 ∙ e) in
        found.2 ∙ ap (λ (c : Class). Some (loaded false c)) one
