-- Where there is no library, nothing is given, and the system's classes stand.
use Rattle.std.proofs.Common.{◌≡◌, ℕ, Bool, true, false, List, [], ◌∷◌, ◌++◌, map, Some, slice_get, refl, sym, ap, subst, ◌∙◌, arith}
use Rattle.std.specs.List.{All, Contains}
use Rattle.std.proofs.lemmas.List.Elements.{All-cons, All-nil, Contains-append_left, Contains-append_right}
use Rattle.jv_class.specs.Class.{Class}
use Rattle.jv_meaning_world.specs.FileContent.{AreContents, FileContent}
use Rattle.jv_meaning_world.specs.declared.content.Content.TheVariants.{Holds}
use Rattle.jv_meaning_world.specs.Library.{with_library}
use Rattle.jv_meaning_world.specs.System.Classes.{system_classes}
use Rattle.jv_meaning_world.specs.World.{Loaded, World, loaded, classes_in, world_of}
use Rattle.jv_meaning_typing.specs.declared.verdict.Verdict.TheVariants.{Accepted}
use Rattle.jv_meaning_typing.specs.declared.verdict.Verdict.{Verdict}
use Rattle.jv_meaning_typing.specs.Judgement.{IsVerdictOfClass, IsVerdictOfFile}
use Rattle.jv_meaning_machine.specs.Alone.{IsJudged, Judged, Stands, accepted_names}
use Rattle.jv_sound_system.proofs.InAnyWorld.{system_is_accepted}
use Rattle.jv_sound.specs.Law.{NoLibraryStands}

none_given : (given : List Class) (library : List (List ℕ)) → library ≡ [] → AreContents library (map Holds given) → given ≡ []
none_given [] library e h = refl
none_given (c ∷ given) [] e h = absurd h
none_given (c ∷ given) (bytes ∷ library) e h = absurd cc

pub nothing_given : (judged : Judged) (library files : List (List ℕ)) → library ≡ [] → (right : IsJudged library files judged) → right.given ≡ []
nothing_given judged library files e right = none_given right.given library e right.gives.held

-- what is found of such a guest's files
pub world_without_library :
    (judged : Judged) (library files : List (List ℕ)) → library ≡ [] → (right : IsJudged library files judged)
    → judged.program.world ≡ world_of (with_library []) right.contents
world_without_library judged library files e right =
    right.world ∙ ap (λ (given : List Class). world_of (with_library given) right.contents) (nothing_given judged library files e right)

pub verdicts_without_library :
    (judged : Judged) (library files : List (List ℕ)) → library ≡ [] → (right : IsJudged library files judged) (place : ℕ) (verdict : Verdict)
    → slice_get judged.verdicts place ≡ Some verdict → IsVerdictOfFile (with_library []) right.contents place verdict
verdicts_without_library judged library files e right place verdict at =
    subst (λ (given : List Class). IsVerdictOfFile (with_library given) right.contents place verdict) (nothing_given judged library files e right)
    (right.verdict place verdict at)

pub accepted_without_library :
    (judged : Judged) (library files : List (List ℕ)) → library ≡ [] → (right : IsJudged library files judged)
    → judged.program.accepted ≡ accepted_names right.contents judged.verdicts
accepted_without_library judged library files e right =
    right.accepted
    ∙ ap (λ (given : List Class). map (λ c. c.name) (with_library given).front ++ accepted_names right.contents judged.verdicts)
    (nothing_given judged library files e right)

-- a class of a host without a library is accepted beside what files hold
abbrev IsAcceptedBeside : List FileContent → Bool → Class → Type 0
IsAcceptedBeside contents by_system c = IsVerdictOfClass (world_of (with_library []) contents) (loaded by_system c) Accepted

each_accepted :
    (contents : List FileContent) (classes : List Class)
    → ((l : Loaded) → Contains (map (loaded true) classes) l → Contains (world_of (with_library []) contents) l)
    → All (IsAcceptedBeside contents true) classes
each_accepted contents [] there = All-nil (IsAcceptedBeside contents true)
each_accepted contents (c ∷ classes) there =
    All-cons (IsAcceptedBeside contents true) c classes
    (system_is_accepted contents (loaded true c) (there (loaded true c) (0, omega arith, refl)) refl)
    (each_accepted contents classes (λ l h. there l (Contains-append_right (loaded true c ∷ []) (map (loaded true) classes) l h)))

pub no_library_stands : NoLibraryStands
no_library_stands judged library files e right =
    subst (λ (w : World). Stands w (with_library right.given)) (sym (world_without_library judged library files e right))
    (subst (λ (given : List Class). Stands (world_of (with_library []) right.contents) (with_library given)) (sym (nothing_given judged library files e right))
    (record {
      system = each_accepted right.contents system_classes
          (λ l h. Contains-append_left (map (loaded true) system_classes) (map (loaded false) (classes_in (with_library []) right.contents)) l h);
      front = All-nil (IsAcceptedBeside right.contents false);
    }))
