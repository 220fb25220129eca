-- The verdicts `Version`, `Format` and `Unsupported`, which are on bytes of another version, on bytes that are no class file and on files
-- with more than the profile, and what is said of other files.
use Rattle.std.proofs.Common.{◌≡◌, ◌∙◌, Bool, true, false, ℕ, List, Option, Some, None, refl, ap, sym, take}
use Rattle.std.specs.Prelude.{if◌then◌else◌, slice_get}
use Rattle.jv_class.specs.Class.{Class}
use Rattle.jv_meaning_world.specs.FileContent.{FileContent}
use Rattle.jv_meaning_world.specs.Library.{with_library}
use Rattle.jv_meaning_world.specs.Verdicts.{verdict_at, verdict_behind, verdict_of_class}
use Rattle.jv_meaning_world.specs.World.{HostClasses, Loaded, World, loaded, world_of}
use Rattle.jv_meaning_world.specs.declared.content.Content.TheVariants.{OtherVersion, NoClassFile, MoreThanProfile, Holds}
use Rattle.jv_meaning_world.specs.declared.verdict.LoadVerdict.{LoadVerdict}
use Rattle.jv_meaning_world.specs.declared.verdict.LoadVerdict.TheVariants as whys
use Rattle.jv_meaning_typing.specs.declared.verdict.Verdict.{Verdict}
use Rattle.jv_meaning_typing.specs.declared.verdict.Verdict.TheVariants.{Accepted, Refused, Verify}
use Rattle.jv_verify.specs.Files.{AreVerdicts}
use Rattle.jv_explain.specs.Supers.{IsRefusalTold}
use Rattle.jv_program_explain.specs.Explain.{IsRefusedTold}
use Rattle.jv_program_explain.specs.Inside.Numbered.{IsContentFor, why_of}
use Rattle.jv_program_explain.proofs.Numbering.{why_is}

-- ---- no class has one of these verdicts

abbrev is_other : Option LoadVerdict → Bool
is_other (Some whys.Version) = false
is_other (Some whys.Format) = false
is_other (Some whys.Unsupported) = false
is_other why = true

record IsOther (why : Option LoadVerdict) : Type 0 where
  other : is_other why ≡ true

either : (b : Bool) (one more : Option LoadVerdict) → IsOther one → IsOther more → IsOther (if b then one else more)
either true one more h k = h
either false one more h k = k

none : IsOther None
none = record { other = refl }

reserved : IsOther (Some whys.Reserved)
reserved = record { other = refl }

duplicate : IsOther (Some whys.Duplicate)
duplicate = record { other = refl }

circular : IsOther (Some whys.Circular)
circular = record { other = refl }

no_super : IsOther (Some whys.NoSuper)
no_super = record { other = refl }

wrong_kind : IsOther (Some whys.WrongKind)
wrong_kind = record { other = refl }

no_access : IsOther (Some whys.NoAccess)
no_access = record { other = refl }

final_broken : IsOther (Some whys.FinalBroken)
final_broken = record { other = refl }

of_class : (world : World) (l : Loaded) → IsOther (verdict_of_class world l)
of_class world l =
    either _ (Some whys.Circular) _ circular
    (either _ (Some whys.NoSuper) _ no_super
    (either _ (Some whys.WrongKind) _ wrong_kind (either _ (Some whys.NoAccess) _ no_access (either _ (Some whys.FinalBroken) None final_broken none))))

of_holder : (host : HostClasses) (earlier : List FileContent) (world : World) (class : Class) → IsOther (verdict_behind host earlier world (Holds class))
of_holder host earlier world class = either _ (Some whys.Reserved) _ reserved (either _ (Some whys.Duplicate) _ duplicate (of_class world (loaded false class)))

not_both : (b : Bool) → b ≡ true → b ≡ false → ⊥
not_both b on off = cc

no_version : (why : Option LoadVerdict) → IsOther why → why ≡ Some whys.Version → ⊥
no_version why h e = not_both (is_other why) h.other (ap is_other e)

no_format : (why : Option LoadVerdict) → IsOther why → why ≡ Some whys.Format → ⊥
no_format why h e = not_both (is_other why) h.other (ap is_other e)

no_unsupported : (why : Option LoadVerdict) → IsOther why → why ≡ Some whys.Unsupported → ⊥
no_unsupported why h e = not_both (is_other why) h.other (ap is_other e)

format_no_version : Some whys.Format ≡ Some whys.Version → ⊥
format_no_version e = cc

unsupported_no_version : Some whys.Unsupported ≡ Some whys.Version → ⊥
unsupported_no_version e = cc

version_no_format : Some whys.Version ≡ Some whys.Format → ⊥
version_no_format e = cc

unsupported_no_format : Some whys.Unsupported ≡ Some whys.Format → ⊥
unsupported_no_format e = cc

version_no_unsupported : Some whys.Version ≡ Some whys.Unsupported → ⊥
version_no_unsupported e = cc

format_no_unsupported : Some whys.Format ≡ Some whys.Unsupported → ⊥
format_no_unsupported e = cc

of_version : (host : HostClasses) (earlier : List FileContent) (world : World) (f : FileContent) → verdict_behind host earlier world f ≡ Some whys.Version → f ≡ OtherVersion
of_version host earlier world OtherVersion e = refl
of_version host earlier world NoClassFile e = absurd (format_no_version e)
of_version host earlier world MoreThanProfile e = absurd (unsupported_no_version e)
of_version host earlier world (Holds class) e = absurd (no_version _ (of_holder host earlier world class) e)

malformed : (host : HostClasses) (earlier : List FileContent) (world : World) (f : FileContent) → verdict_behind host earlier world f ≡ Some whys.Format → f ≡ NoClassFile
malformed host earlier world OtherVersion e = absurd (version_no_format e)
malformed host earlier world NoClassFile e = refl
malformed host earlier world MoreThanProfile e = absurd (unsupported_no_format e)
malformed host earlier world (Holds class) e = absurd (no_format _ (of_holder host earlier world class) e)

beyond : (host : HostClasses) (earlier : List FileContent) (world : World) (f : FileContent) → verdict_behind host earlier world f ≡ Some whys.Unsupported → f ≡ MoreThanProfile
beyond host earlier world OtherVersion e = absurd (version_no_unsupported e)
beyond host earlier world NoClassFile e = absurd (format_no_unsupported e)
beyond host earlier world MoreThanProfile e = refl
beyond host earlier world (Holds class) e = absurd (no_unsupported _ (of_holder host earlier world class) e)

for_verdict : (host : HostClasses) (earlier : List FileContent) (world : World) (f : FileContent) (v : Verdict) → verdict_behind host earlier world f ≡ why_of v → IsContentFor v f
for_verdict host earlier world f Accepted e = tt
for_verdict host earlier world f (Verify fault) e = tt
for_verdict host earlier world f (Refused whys.Format) e = malformed host earlier world f e
for_verdict host earlier world f (Refused whys.Unsupported) e = beyond host earlier world f e
for_verdict host earlier world f (Refused whys.Version) e = of_version host earlier world f e
for_verdict host earlier world f (Refused whys.Reserved) e = tt
for_verdict host earlier world f (Refused whys.Duplicate) e = tt
for_verdict host earlier world f (Refused whys.Circular) e = tt
for_verdict host earlier world f (Refused whys.NoSuper) e = tt
for_verdict host earlier world f (Refused whys.WrongKind) e = tt
for_verdict host earlier world f (Refused whys.NoAccess) e = tt
for_verdict host earlier world f (Refused whys.FinalBroken) e = tt

module _ (given : List Class) (contents : List FileContent) (verdicts : List Verdict) (right : AreVerdicts given contents verdicts) (k : ℕ) (f : FileContent) (v : Verdict)
    (at : slice_get contents k ≡ Some f) (judged : slice_get verdicts k ≡ Some v) where
  pub content_for : IsContentFor v f
  content_for =
      let host = with_library given in
      for_verdict host (take k contents) (world_of host contents) f v
      (sym (ap (verdict_at host contents k) at) ∙ sym (why_is given contents verdicts right k f v at judged))

-- ---- what is said of others

pub refused_otherwise : (world : World) (bytes : List ℕ) (content : FileContent) (why : LoadVerdict) (text : List ℕ) → (why ≡ whys.Version → ⊥)
    → (why ≡ whys.Format → ⊥) → (why ≡ whys.Unsupported → ⊥) → IsRefusalTold world content why text → IsRefusedTold world bytes content why text
refused_otherwise world bytes content whys.Version text version format more h = absurd (version refl)
refused_otherwise world bytes content whys.Format text version format more h = absurd (format refl)
refused_otherwise world bytes content whys.Unsupported text version format more h = absurd (more refl)
refused_otherwise world bytes content whys.Reserved text version format more h = h
refused_otherwise world bytes content whys.Duplicate text version format more h = h
refused_otherwise world bytes content whys.Circular text version format more h = h
refused_otherwise world bytes content whys.NoSuper text version format more h = h
refused_otherwise world bytes content whys.WrongKind text version format more h = h
refused_otherwise world bytes content whys.NoAccess text version format more h = h
refused_otherwise world bytes content whys.FinalBroken text version format more h = h
