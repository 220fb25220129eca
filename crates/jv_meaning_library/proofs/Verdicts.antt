-- A class that names known classes alone has the same verdicts in two worlds that agree.
use Rattle.std.proofs.Common.{◌≡◌, ℕ, zero, suc, Bool, true, false, ◌||◌, List, [], ◌∷◌, take, Option, Some, None, refl, sym, ap, ◌∙◌, subst, codes}
use Rattle.std.specs.Prelude.{◌↔◌, IfSome, IsSome, IsTrue, slice_get}
use Rattle.std.specs.List.{AllByRecursion, Contains}
use Rattle.std.proofs.lemmas.List.Elements.{All-nil, All-cons, All-head, All-tail}
use Rattle.jv_text.specs.Descriptor.{MethodDescriptor}
use Rattle.jv_text.specs.Types.{method_type_of}
use Rattle.jv_class.specs.Class.{Class, Method}
use Rattle.jv_stackmap.specs.Frames.{PlacedFrame}
use Rattle.jv_meaning_world.specs.World.{Loaded, World, class_named}
use Rattle.jv_meaning_world.specs.Above.{supers_in, superclasses, is_circular, super_names}
use Rattle.jv_meaning_world.specs.declared.verdict.LoadVerdict.{LoadVerdict}
use Rattle.jv_meaning_world.specs.Verdicts.{each_super, have_right_kind, can_name_supers, is_loadable, has_final_super, breaks_final, verdict_of_class, declared_by, passes}
use Rattle.jv_meaning_world.proofs.Up.{found_super}
use Rattle.jv_meaning_world.proofs.OrderChains.{all_at}
use Rattle.jv_meaning_typing.specs.Uses.{Site}
use Rattle.jv_meaning_typing.specs.declared.verdict.Verdict.{Verdict}
use Rattle.jv_meaning_typing.specs.declared.verdict.Verdict.TheVariants as verdicts
use Rattle.jv_meaning_typing.specs.declared.verdict.VerifyFault.{VerifyFault}
use Rattle.jv_meaning_typing.specs.declared.verdict.VerifyRule.{VerifyRule}
use Rattle.jv_meaning_typing.specs.declared.verdict.VerifyRule.TheVariants as rules
use Rattle.jv_meaning_typing.specs.Environment.{Environment, IsEnvironment}
use Rattle.jv_meaning_typing.specs.Typing.{HandlersKeepRules, AreFrames, HasTyping}
use Rattle.jv_meaning_typing.specs.Judgement.{BreaksFirst, GoesOnBehind, IsCodeOf, WithFrames, BreaksRule, AreTyped, IsFirstFault, IsVerdictOfMethods, IsVerdictBehind, IsVerdictOfClass}
use Rattle.jv_meaning_typing.proofs.Loading.{verdict_by}
use Rattle.jv_meaning_library.proofs.Worlds.{Agree, turned, IsKnown, known_too}
use Rattle.jv_meaning_library.proofs.Loading.{verdict_same}
use Rattle.jv_meaning_library.proofs.Answers.{Answers, turned_answers, answers}
use Rattle.jv_meaning_library.proofs.Operands.{KnownMethod, KnownDescriptor, NamesKnown}
use Rattle.jv_meaning_library.proofs.Rules.{in_world, KnownEnvironment}
use Rattle.jv_meaning_library.proofs.Typings.{environment_too, frames_too, handlers_too, frames_are_known, first_too, behind_too, typing_too}

-- what a class has to name, and the system's classes that rules name
pub record Names (known : List ℕ → Bool) (class : Class) : Type 0 where
  pub constants : NamesKnown known class
  pub methods : AllByRecursion (λ m. KnownDescriptor known m.descriptor) class.methods
  pub object : IsTrue (known (codes "java/lang/Object"))
  pub string : IsTrue (known (codes "java/lang/String"))
  pub throwable : IsTrue (known (codes "java/lang/Throwable"))

-- ---- one method

module _ (known : List ℕ → Bool) (v w : World) (l : Loaded) (same : Answers known v w l) (names : Names known l.class) (m : Method) (described : KnownDescriptor known m.descriptor) where
  abbrev site : Site
  site = declared_by l m

  in_it : (env : Environment) → env.world ≡ v → env.site ≡ site → Answers known env.world w env.site.by
  in_it env e f =
      subst (λ world. Answers known world w env.site.by) (sym e) (subst (λ (s : Site). Answers known v w s.by) (sym f) same)

  method_is : (o : Option MethodDescriptor) (d : MethodDescriptor) → o ≡ Some d → IfSome o (KnownMethod known) → KnownMethod known d
  method_is None d e h = absurd cc
  method_is (Some x) d e h = subst (KnownMethod known) (unsome e) h
    where
      unsome : Some x ≡ Some d → x ≡ d
      unsome g = cc

  named_by : (env : Environment) → env.site ≡ site → IsEnvironment env → KnownEnvironment known env
  named_by env f is = record {
    names = subst (λ (s : Site). NamesKnown known s.by.class) (sym f) names.constants;
    descriptor = method_is (method_type_of m.descriptor) env.descriptor (ap (λ (s : Site). method_type_of s.method.descriptor) (sym f) ∙ is.descriptor) described.method;
    object = names.object;
    string = names.string;
    throwable = names.throwable;
  }

  is_too : (world : World) (env : Environment) → IsEnvironment env → IsEnvironment (in_world world env)
  is_too world env is = record { descriptor = is.descriptor; code = is.code; instructions = is.instructions }

  code_too : (world : World) (env : Environment) → IsCodeOf env → IsCodeOf (in_world world env)
  code_too world env code = record { is = is_too world env code.is; arguments = code.arguments }

  pub typed_too : HasTyping v site → HasTyping w site
  typed_too h = record {
    env = in_world w h.env;
    of = (refl, h.of.1);
    is = is_too w h.env h.is;
    maps = h.maps;
    frames = h.frames;
    typing = typing_too known w h.env (in_it h.env h.of.0 h.of.1) (named_by h.env h.of.1 h.is) h.maps h.frames h.typing;
  }

  -- the handlers there keep their rules only where they do here
  handlers_back : (env : Environment) → env.world ≡ v → env.site ≡ site → IsEnvironment env → HandlersKeepRules (in_world w env) → HandlersKeepRules env
  handlers_back env e f is h =
      handlers_too known env.world (in_world w env) (turned_answers known env.world w env.site.by (in_it env e f)) (environment_too known w env (named_by env f is)) h

  frames_back : (env : Environment) (maps : List PlacedFrame) → AreFrames (in_world w env) maps → AreFrames env maps
  frames_back env maps h = frames_too env.world (in_world w env) maps h

  with_frames : (P : Environment → List PlacedFrame → Type 0)
      → ((env : Environment) (maps : List PlacedFrame) → Answers known env.world w env.site.by → KnownEnvironment known env → AreFrames env maps → P env maps → P (in_world w env) maps)
      → WithFrames v site P → WithFrames w site P
  with_frames P next h =
      let a = in_it h.env h.world_is h.site_is in
      let k = named_by h.env h.site_is h.code.is in
      record {
        env = in_world w h.env;
        world_is = refl;
        site_is = h.site_is;
        code = code_too w h.env h.code;
        handlers = handlers_too known w h.env a k h.handlers;
        maps = h.maps;
        frames = frames_too w h.env h.maps h.frames;
        holds = next h.env h.maps a k h.frames h.holds;
      }

  pub broken_too : (offset : ℕ) (broken : VerifyRule) → BreaksRule v site offset broken → BreaksRule w site offset broken
  broken_too offset rules.Code h = (h.0, λ env e f code. h.1 (in_world v env) refl f (code_too v env code))
  broken_too offset rules.HandlerTable h = (
    h.0,
    record {
      env = in_world w h.1.env;
      world_is = refl;
      site_is = h.1.site_is;
      code = code_too w h.1.env h.1.code;
      holds = λ keep. h.1.holds (handlers_back h.1.env h.1.world_is h.1.site_is h.1.code.is keep);
    },
  )
  broken_too offset rules.MapFrames h = (
    h.0,
    record {
      env = in_world w h.1.env;
      world_is = refl;
      site_is = h.1.site_is;
      code = code_too w h.1.env h.1.code;
      holds = (
        handlers_too known w h.1.env (in_it h.1.env h.1.world_is h.1.site_is) (named_by h.1.env h.1.site_is h.1.code.is) h.1.holds.0,
        λ maps are. h.1.holds.1 maps (frames_back h.1.env maps are),
      );
    },
  )
  broken_too offset rules.EndOfCode h =
      with_frames (λ env maps. GoesOnBehind env maps offset) (λ env maps a k are g. behind_too known w env a k maps (frames_are_known known w env a k maps are) offset g) h
  broken_too offset rules.Merge h =
      with_frames (λ env maps. BreaksFirst env maps offset rules.Merge) (λ env maps a k are b. first_too known w env a k maps (frames_are_known known w env a k maps are) offset rules.Merge b) h
  broken_too offset rules.CoveredHandler h =
      with_frames (λ env maps. BreaksFirst env maps offset rules.CoveredHandler)
      (λ env maps a k are b. first_too known w env a k maps (frames_are_known known w env a k maps are) offset rules.CoveredHandler b) h
  broken_too offset rules.Instruction h =
      with_frames (λ env maps. BreaksFirst env maps offset rules.Instruction)
      (λ env maps a k are b. first_too known w env a k maps (frames_are_known known w env a k maps are) offset rules.Instruction b) h
  broken_too offset rules.BranchTarget h =
      with_frames (λ env maps. BreaksFirst env maps offset rules.BranchTarget)
      (λ env maps a k are b. first_too known w env a k maps (frames_are_known known w env a k maps are) offset rules.BranchTarget b) h

-- ---- all methods

module _ (known : List ℕ → Bool) (v w : World) (l : Loaded) (same : Answers known v w l) (names : Names known l.class) where
  are_typed : (methods : List Method) → AllByRecursion (λ m. KnownDescriptor known m.descriptor) methods → AreTyped v l methods → AreTyped w l methods
  are_typed [] described h = All-nil (λ (m : Method). IsSome m.code → HasTyping w (declared_by l m))
  are_typed (m ∷ methods) described h =
      All-cons (λ (m : Method). IsSome m.code → HasTyping w (declared_by l m)) m methods
      (λ some. typed_too known v w l same names m described.0 (All-head (λ (m : Method). IsSome m.code → HasTyping v (declared_by l m)) m methods h some))
      (are_typed methods described.1 (All-tail (λ (m : Method). IsSome m.code → HasTyping v (declared_by l m)) m methods h))

  described_front : (n : ℕ) (methods : List Method) → AllByRecursion (λ m. KnownDescriptor known m.descriptor) methods
      → AllByRecursion (λ m. KnownDescriptor known m.descriptor) (take n methods)
  described_front zero methods h = tt
  described_front (suc n) [] h = tt
  described_front (suc n) (m ∷ methods) h = (h.0, described_front n methods h.1)

  described_at : (methods : List Method) (n : ℕ) (m : Method) → AllByRecursion (λ m. KnownDescriptor known m.descriptor) methods → slice_get methods n ≡ Some m
      → KnownDescriptor known m.descriptor
  described_at [] n m h e = absurd cc
  described_at (x ∷ methods) zero m h e = subst (λ (y : Method). KnownDescriptor known y.descriptor) (unsome e) h.0
    where
      unsome : Some x ≡ Some m → x ≡ m
      unsome g = cc
  described_at (x ∷ methods) (suc n) m h e = described_at methods n m h.1 e

  fault_too : (fault : VerifyFault) → IsFirstFault v l fault → IsFirstFault w l fault
  fault_too fault h = record {
    method = h.method;
    at = h.at;
    has_code = h.has_code;
    before = are_typed (take fault.method l.class.methods) (described_front fault.method l.class.methods names.methods) h.before;
    breaks = broken_too known v w l same names h.method (described_at l.class.methods fault.method h.method names.methods h.at) fault.offset fault.rule h.breaks;
  }

  pub methods_too : (verdict : Verdict) → IsVerdictOfMethods v l verdict → IsVerdictOfMethods w l verdict
  methods_too (verdicts.Refused why) h = h
  methods_too (verdicts.Verify fault) h = fault_too fault h
  methods_too verdicts.Accepted h = are_typed l.class.methods names.methods h

-- ---- a class

-- where its methods decide, its direct supers are loadable
supers_loadable : (v : World) (l : Loaded) → verdict_of_class v l ≡ None → (s : Loaded) → Contains (supers_in v l.class) s → IsTrue (is_loadable v s)
supers_loadable v l e s h =
    let found = found_super v l.class s h in
    subst (λ o. IsTrue (passes (is_loadable v) o)) found.2
    (all_at (λ name. passes (is_loadable v) (class_named v name))
    (super_names l.class) found.0
    (second (is_circular v l.class) (each_super v (is_loadable v) l.class) (have_right_kind v l.class) (can_name_supers v l)
    (has_final_super v l.class || breaks_final l [] (superclasses v l.class)) e) found.1)
  where
    second : (c s k n f : Bool) → verdict_by c s k n f ≡ None → IsTrue s
    second true s k n f g = absurd cc
    second false true k n f g = refl
    second false false k n f g = absurd cc

module _ (known : List ℕ → Bool) (v w : World) (agree : Agree known v w) (l : Loaded) (is : IsKnown known v l) (names : Names known l.class) where
  pub verdict_too : (verdict : Verdict) → IsVerdictOfClass v l verdict → IsVerdictOfClass w l verdict
  verdict_too verdict h =
      subst (λ why. IsVerdictBehind w l why verdict) (verdict_same known v w agree l is) (by_why (verdict_of_class v l) refl h)
    where
      by_why : (why : Option LoadVerdict) → verdict_of_class v l ≡ why → IsVerdictBehind v l why verdict → IsVerdictBehind w l why verdict
      by_why (Some why) e j = j
      by_why None e j =
          methods_too known v w l (answers known v w agree l (record { known_is = is; supers = supers_loadable v l e })) names verdict j

pub verdicts_same : (known : List ℕ → Bool) (v w : World) → Agree known v w → (l : Loaded) → IsKnown known v l → Names known l.class → (verdict : Verdict)
    → IsVerdictOfClass v l verdict ↔ IsVerdictOfClass w l verdict
verdicts_same known v w agree l is names verdict = (
  verdict_too known v w agree l is names verdict,
  verdict_too known w v (turned known v w agree) l (known_too known v w agree l is) names verdict,
)
