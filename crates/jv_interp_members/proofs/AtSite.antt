-- A call in words, as far as its method: the site and the constant are there, and what linking answers is what the machine finds.
use Rattle.std.proofs.Common.{◌≡◌, ℕ, ◌≤◌, List, Some, Ok, Err, sym, ap, subst, ◌∙◌}
use Rattle.std.specs.Prelude.{Result, IsSome, is_some}
use Rattle.jv_text.specs.Descriptor.{slots}
use Rattle.jv_text.specs.Types.{method_type_of}
use Rattle.jv_meaning_world.specs.World.{Loaded, World}
use Rattle.jv_meaning_world.specs.Numbers.{HoldsAtNumber}
use Rattle.jv_lookups.specs.Places.{method_at}
use Rattle.jv_meaning_typing.specs.LinkErrors.{error_class}
use Rattle.jv_meaning_typing.specs.Operands.{method_operand}
use Rattle.jv_meaning_typing.specs.MethodResolution.{MethodTarget, resolve_method}
use Rattle.jv_meaning_typing.specs.LinkingLaws.{IsCalled, MethodIsCalled}
use Rattle.jv_link.specs.declared.site.Use.{Use}
use Rattle.jv_link.specs.Seen.{place_of, seen_use, method_target_at, IsSite}
use Rattle.jv_link_cache.specs.declared.method_use.MethodUse.{MethodUse}
use Rattle.jv_link_cache.specs.Bodies.{argument_words}
use Rattle.jv_link_cache.specs.MethodUses.{IsMethodUse}
use Rattle.jv_meaning_machine.specs.State.{Memory}
use Rattle.jv_meaning_machine.specs.Effects.{Effect, Context}
use Rattle.jv_meaning_machine.specs.Calls.{call, call_target}
use Rattle.jv_interp_held.specs.declared.effect.Effect.TheVariants as effects
use Rattle.jv_interp_held.specs.Executing.{Place, Did}
use Rattle.jv_interp_held.proofs.Raised.{raised}
use Rattle.jv_interp_members.specs.Known.{Known}
use Rattle.jv_interp_members.specs.Resolved.{Resolves, IsResolved}
use Rattle.jv_interp_members.specs.Calling.{Calling}
use Rattle.jv_interp_members.proofs.Sites.{some_same, AtPlace, at_place, is_place, target_place}
use Rattle.jv_interp_members.proofs.Widths.{few_slots}
use Rattle.jv_interp_members.proofs.Called.{Called, called, unless_raised, unless_next}

module _ (how : Use) (index next : ℕ) (k : Known) (here : Place) (texts : List (List ℕ)) (c : Context) (addresses : List ℕ) (done : Memory × Effect) (below : List ℕ)
    (h : Calling how index next k here texts c addresses done below) where
  pub it : Called c (seen_use how) index done
  it = called c (seen_use how) index done h.executes.does

  here_site : AtPlace k.world (place_of k.site) c.frame.method.site
  here_site = at_place k.world (place_of k.site) c.frame.method.site h.known.site

  pub is_site : IsSite k.world k.site
  is_site = is_place k.world (place_of k.site) c.frame.method.site h.known.site

  pub has_operand : HoldsAtNumber k.world k.site.class (λ l. IsSome (method_operand l.class index))
  has_operand = λ l at.
      subst (λ (x : Loaded). IsSome (method_operand x.class index)) (some_same c.frame.method.site.by l (sym here_site.class ∙ at))
      (ap is_some it.operand)

  -- ---- an error

  pub resolves :
      (answer : Result MethodUse ℕ) → IsResolved k.world k.site how index answer
      → Resolves c.program.world (resolve_method c.program.world c.frame.method.site (seen_use how) it.reference) answer
  resolves answer clause =
      subst (λ (w : World). Resolves w (resolve_method w c.frame.method.site (seen_use how) it.reference) answer) (sym h.known.world)
      (clause c.frame.method.site it.reference h.known.site it.operand)

  pub failed : (number : ℕ) → IsResolved k.world k.site how index (Err number) → Did texts here (effects.Raises number) c addresses done below
  failed number clause =
      let e = resolves (Err number) clause in
      raised (λ c. call c (seen_use how) index) texts next here c addresses done below h.executes (error_class e.error) number
      (unless_raised c (resolve_method c.program.world c.frame.method.site (seen_use how) it.reference) (call_target c (seen_use how) it.descriptor)
      e.error done e.is it.does) e.numbered

  -- ---- a method

  pub record Found (using_it : MethodUse) : Type 0 where
    pub target : MethodTarget
    pub is : resolve_method c.program.world c.frame.method.site (seen_use how) it.reference ≡ Ok target
    pub at : method_at c.program.world using_it.target.declared ≡ Some target.declared
    pub target_at : method_target_at k.world using_it.target ≡ Some target
    pub at_known : method_at k.world using_it.target.declared ≡ Some target.declared
    pub called_so : IsCalled c.program.world c.frame.method.site (seen_use how) it.reference target
    pub count : using_it.argument_words ≡ argument_words target.declared.method it.descriptor
    pub does : call_target c (seen_use how) it.descriptor target ≡ Ok done

  pub found :
      MethodIsCalled → (using_it : MethodUse) → IsResolved k.world k.site how index (Ok using_it) → IsMethodUse k.world using_it → Found using_it
  found law using_it clause use_of =
      let t = resolves (Ok using_it) clause in
      let at = target_place c.program.world using_it.target t.target t.at in
      let at_known = subst (λ (w : World). method_at w using_it.target.declared ≡ Some t.target.declared) h.known.world at in
      let is_called = law c.program.world c.frame.method.site (seen_use how) it.reference t.target t.is in
      record {
        target = t.target;
        is = t.is;
        at = at;
        target_at = subst (λ (w : World). method_target_at w using_it.target ≡ Some t.target) h.known.world t.at;
        at_known = at_known;
        called_so = is_called;
        count = use_of.arguments t.target.declared at_known it.descriptor (ap method_type_of is_called.descriptor ∙ it.described);
        does =
            unless_next c (resolve_method c.program.world c.frame.method.site (seen_use how) it.reference)
            (call_target c (seen_use how) it.descriptor) t.target done t.is it.does;
      }

  -- an argument has 255 words at most, and a receiver one more
  pub few_words : slots it.descriptor ≤ 255
  few_words = few_slots it.reference.member.descriptor it.descriptor it.described
