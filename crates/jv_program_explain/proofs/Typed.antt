-- Methods whose instructions are type safe, up to an end.
use Rattle.std.proofs.Common.{◌≡◌, ℕ, zero, suc, List, [], ◌∷◌, length, get_or, Some, sym, ap, subst, ◌∙◌, inl, inr, arith}
use Rattle.std.specs.Prelude.{slice_get}
use Rattle.std.proofs.lemmas.Option.{slice_get_within}
use Rattle.jv_class_structure.specs.Parts.{CodeSeen}
use Rattle.jv_class.specs.Class.{Method}
use Rattle.jv_code.specs.Insns.{Instruction}
use Rattle.jv_code.specs.Places.{IsCode, StandsInList}
use Rattle.jv_links.proofs.Answered.{some_of}
use Rattle.jv_meaning_world.specs.World.{Loaded, World}
use Rattle.jv_meaning_world.specs.Verdicts.{declared_by}
use Rattle.jv_meaning_typing.specs.Uses.{Site}
use Rattle.jv_meaning_typing.specs.Environment.{instruction_at}
use Rattle.jv_meaning_typing.specs.Judgement.{AreTyped}
use Rattle.jv_meaning_typing.specs.Typing.{HasTyping}
use Rattle.jv_meaning_typing.proofs.Starts.{instruction_at_is}
use Rattle.jv_verify.specs.Frames.{IsTypedBelowIn, IsTypedIn}
use Rattle.jv_program_explain.specs.Inside.Walked.{IsTypedSite}

-- up to an instruction that starts
pub typed_below : StandsInList → (world : World) (l : Loaded) (number pc : ℕ) → IsTypedIn world l number pc → IsTypedBelowIn world l number pc
typed_below stands world l number pc typed =
    let h = typed.holds in
    let (insn, at) = some_of (instruction_at h.env pc) h.holds.starts in
    record {
      method = typed.method;
      at = typed.at;
      holds = record {
        env = h.env;
        world_is = h.world_is;
        site_is = h.site_is;
        code = h.code;
        handlers = h.handlers;
        maps = h.maps;
        frames = h.frames;
        holds = record { frames = h.holds.frames; below = h.holds.below; ends = inl (insn, (instruction_at_is stands h.env pc insn h.code.is).1 at) };
      };
    }

-- up to its end, where it has a typing
pub typed_whole : (world : World) (l : Loaded) (number : ℕ) (m : Method) (body : CodeSeen) → slice_get l.class.methods number ≡ Some m → m.code ≡ Some body
    → HasTyping world (declared_by l m) → (end : ℕ) → end ≡ length body.code → IsTypedBelowIn world l number end
typed_whole world l number m body at has t end is =
    let here : Some t.env.code ≡ Some body = sym t.is.code ∙ (ap (λ (s : Site). s.method.code) t.of.1 ∙ has) in
    let same : t.env.code ≡ body = cc in
    let many : end ≡ length t.env.code.code = is ∙ ap (λ (b : CodeSeen). length b.code) (sym same) in
    record {
      method = m;
      at = at;
      holds = record {
        env = t.env;
        world_is = t.of.0;
        site_is = t.of.1;
        code = record { is = t.is; arguments = t.typing.arguments };
        handlers = t.typing.handlers;
        maps = t.maps;
        frames = t.typing.stack_map;
        holds = record { frames = t.frames; below = λ pc insn e less. t.typing.below pc insn e (omega (arith, less, many)); ends = inr many };
      };
    }

-- its code is a list of instructions
pub code_typed : (world : World) (site : Site) (body : CodeSeen) → site.method.code ≡ Some body → HasTyping world site → (insns : List Instruction) × IsCode body.code insns
code_typed world site body has t =
    let here : Some t.env.code ≡ Some body = sym t.is.code ∙ (ap (λ (s : Site). s.method.code) t.of.1 ∙ has) in
    let same : t.env.code ≡ body = cc in
    (t.env.instructions, subst (λ (b : CodeSeen). IsCode b.code t.env.instructions) same t.is.instructions)

-- a method of a class whose methods are typed
pub typed_method : (world : World) (l : Loaded) (number : ℕ) (m : Method) → AreTyped world l l.class.methods → slice_get l.class.methods number ≡ Some m
    → IsTypedSite world (declared_by l m)
typed_method world l number m typed at =
    subst (λ (x : Method). IsTypedSite world (declared_by l x)) (got l.class.methods number m at) (typed number m (slice_get_within l.class.methods number m at))
  where
    got : (xs : List Method) (k : ℕ) (x : Method) → slice_get xs k ≡ Some x → get_or xs k x ≡ x
    got [] zero x e = absurd cc
    got [] (suc k) x e = absurd cc
    got (y ∷ ys) zero x e = cc
    got (y ∷ ys) (suc k) x e = got ys k x e
