-- A class has one verdict at most.
use Rattle.std.proofs.Common.{◌≡◌, ℕ, false, ◌<◌, List, length, take, Option, Some, None, IsSome, slice_get, refl, sym, ap, subst, ◌∙◌, ◌⊎◌, inl, inr, arith, get_or-take}
use Rattle.std.specs.List.{All}
use Rattle.std.proofs.lemmas.Bool.{cases_order}
use Rattle.std.proofs.lemmas.List.{length-take}
use Rattle.std.proofs.lemmas.List.Elements.{All-get_or}
use Rattle.std.proofs.lemmas.Option.{slice_get_within, get_or_from_slice_get}
use Rattle.jv_class.specs.Class.{Method}
use Rattle.jv_stackmap.specs.Frames.{OneMaps}
use Rattle.jv_code.specs.Places.{OneList}
use Rattle.jv_meaning_world.specs.FileContent.{FileContent}
use Rattle.jv_meaning_world.specs.declared.content.Content.TheVariants.{OtherVersion, NoClassFile, MoreThanProfile, Holds}
use Rattle.jv_meaning_world.specs.World.{Loaded, World, loaded, world_of}
use Rattle.jv_meaning_world.specs.declared.verdict.LoadVerdict.{LoadVerdict}
use Rattle.jv_meaning_world.specs.Verdicts.{verdict_of_class, load_verdict, declared_by}
use Rattle.jv_meaning_typing.specs.declared.verdict.VerifyRule.{VerifyRule}
use Rattle.jv_meaning_typing.specs.declared.verdict.VerifyFault.{VerifyFault}
use Rattle.jv_meaning_typing.specs.declared.verdict.Verdict.{Verdict}
use Rattle.jv_meaning_typing.specs.declared.verdict.Verdict.TheVariants as verdicts
use Rattle.jv_meaning_typing.specs.Typing.{HasTyping}
use Rattle.jv_meaning_typing.specs.Judgement.{AreTyped, BreaksRule, IsFirstFault, IsVerdictOfMethods, IsVerdictBehind, IsVerdictOfContent}
use Rattle.jv_meaning_typing.specs.Laws.{OneJudgement, OneJudgementOfFile}
use Rattle.jv_meaning_typing.proofs.OneFault.{one_broken_rule, typing_or_fault}

-- what holds of each item holds of the one at a place
at_place : (P : Method → Type 0) (ms : List Method) (i : ℕ) (m : Method) → slice_get ms i ≡ Some m → All P ms → P m
at_place P ms i m e all = subst P (get_or_from_slice_get ms i m m e) (All-get_or P ms i m (slice_get_within ms i m e) all)

in_front : (P : Method → Type 0) (ms : List Method) (i k : ℕ) (m : Method) → slice_get ms i ≡ Some m → i < k → All P (take k ms) → P m
in_front P ms i k m e lt all =
    let within : i < length ms = slice_get_within ms i m e in
    subst P (get_or-take k ms i m lt ∙ get_or_from_slice_get ms i m m e) (All-get_or P (take k ms) i m (omega (arith, length-take k ms)) all)

abbrev made : ℕ → ℕ → VerifyRule → VerifyFault
made method offset broken = record { method = method; offset = offset; rule = broken }

module _ (lists : OneList) (maps : OneMaps) (world : World) (l : Loaded) where
  abbrev Typed : Method → Type 0
  Typed m = IsSome m.code → HasTyping world (declared_by l m)

  -- a method that breaks a rule isn't among those that have typings
  faulty_not_typed : (f : VerifyFault) (h : IsFirstFault world l f) → Typed h.method → ⊥
  faulty_not_typed f h typed = typing_or_fault lists maps world (declared_by l h.method) f.offset f.rule (typed h.has_code) h.breaks

  same_fault : (f g : VerifyFault) → f.method ≡ g.method → (f.offset ≡ g.offset) × (f.rule ≡ g.rule) → f ≡ g
  same_fault f g e parts =
      ap (λ (n : ℕ). made n f.offset f.rule) e ∙ ap (λ (n : ℕ). made g.method n f.rule) parts.0 ∙ ap (λ (r : VerifyRule). made g.method g.offset r) parts.1

  one_fault : (f g : VerifyFault) → IsFirstFault world l f → IsFirstFault world l g → f ≡ g
  one_fault f g h k = by_order (cases_order f.method g.method)
    where
      unsome : (m n : Method) → Some m ≡ Some n → m ≡ n
      unsome m n e = cc

      same : f.method ≡ g.method → k.method ≡ h.method
      same e = unsome k.method h.method (sym k.at ∙ ap (λ (n : ℕ). slice_get l.class.methods n) (sym e) ∙ h.at)

      by_order : (f.method ≡ g.method) ⊎ ((f.method < g.method) ⊎ (g.method < f.method)) → f ≡ g
      by_order (inl e) =
          same_fault f g e
          (one_broken_rule lists maps world (declared_by l h.method) f.offset g.offset f.rule g.rule h.breaks
          (subst (λ (m : Method). BreaksRule world (declared_by l m) g.offset g.rule) (same e) k.breaks))
      by_order (inr (inl lt)) = absurd (faulty_not_typed f h (in_front Typed l.class.methods f.method g.method h.method h.at lt k.before))
      by_order (inr (inr lt)) = absurd (faulty_not_typed g k (in_front Typed l.class.methods g.method f.method k.method k.at lt h.before))

  not_accepted : (f : VerifyFault) → IsFirstFault world l f → AreTyped world l l.class.methods → ⊥
  not_accepted f h all = faulty_not_typed f h (at_place Typed l.class.methods f.method h.method h.at all)

  of_methods : (v w : Verdict) → IsVerdictOfMethods world l v → IsVerdictOfMethods world l w → v ≡ w
  of_methods (verdicts.Refused a) w h k = absurd h
  of_methods (verdicts.Verify f) (verdicts.Refused b) h k = absurd k
  of_methods (verdicts.Verify f) (verdicts.Verify g) h k = ap (λ (x : VerifyFault). verdicts.Verify x) (one_fault f g h k)
  of_methods (verdicts.Verify f) verdicts.Accepted h k = absurd (not_accepted f h k)
  of_methods verdicts.Accepted (verdicts.Refused b) h k = absurd k
  of_methods verdicts.Accepted (verdicts.Verify g) h k = absurd (not_accepted g k h)
  of_methods verdicts.Accepted verdicts.Accepted h k = refl

  behind : (why : Option LoadVerdict) (v w : Verdict) → IsVerdictBehind world l why v → IsVerdictBehind world l why w → v ≡ w
  behind (Some why) v w h k = h ∙ sym k
  behind None v w h k = of_methods v w h k

pub one_judgement : OneList → OneMaps → OneJudgement
one_judgement lists maps world l v w h k = behind lists maps world l (verdict_of_class world l) v w h k

-- ---- of a file

of_content : OneList → OneMaps → (world : World) (why : Option LoadVerdict) (content : Option FileContent) (v w : Verdict)
    → IsVerdictOfContent world why content v → IsVerdictOfContent world why content w → v ≡ w
of_content lists maps world why (Some (Holds class)) v w h k = behind lists maps world (loaded false class) why v w h k
of_content lists maps world (Some why) None v w h k = h ∙ sym k
of_content lists maps world (Some why) (Some OtherVersion) v w h k = h ∙ sym k
of_content lists maps world (Some why) (Some NoClassFile) v w h k = h ∙ sym k
of_content lists maps world (Some why) (Some MoreThanProfile) v w h k = h ∙ sym k
of_content lists maps world None None v w h k = absurd h
of_content lists maps world None (Some OtherVersion) v w h k = absurd h
of_content lists maps world None (Some NoClassFile) v w h k = absurd h
of_content lists maps world None (Some MoreThanProfile) v w h k = absurd h

pub one_judgement_of_file : OneList → OneMaps → OneJudgementOfFile
one_judgement_of_file lists maps host files place v w h k =
    of_content lists maps (world_of host files) (load_verdict host files place) (slice_get files place) v w h k
