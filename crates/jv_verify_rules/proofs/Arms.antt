-- What a call for one instruction found, as what the table of all of them says.
use Rattle.std.proofs.Common.{◌≡◌, ℕ, List, Option, sym, ap, subst, ◌∙◌}
use Rattle.std.specs.Borrow.{Bor}
use Rattle.jv_text.specs.declared.descriptor.FieldTypeOf.{FieldTypeOf}
use Rattle.jv_stackmap.specs.Frames.{Frame}
use Rattle.jv_code.specs.declared.insn.Insn.{Insn}
use Rattle.jv_code.specs.Insns.{instruction_of}
use Rattle.jv_meaning_world.specs.World.{Loaded, World}
use Rattle.jv_meaning_typing.specs.Environment.{Environment}
use Rattle.jv_meaning_typing.specs.Rule.{effect}
use Rattle.jv_verify_types.specs.Typed.{TypeWorld}
use Rattle.jv_verify_types.specs.Numbered.{NumberFrame}
use Rattle.jv_verify_types.specs.declared.outcome.Outcome.{Outcome}
use Rattle.jv_verify_types.specs.Outcomes.{IsOutcome}
use Rattle.jv_verify_types.specs.PoolTypes.{PoolTypes, typed_result}
use Rattle.jv_verify_types.specs.Current.{CurrentClass}
use Rattle.jv_verify_rules.specs.Method.{MethodContext, IsOfMethod}
use Rattle.jv_verify_rules.specs.Inside.Over.{IsMethodOver}

-- an environment of the method, over the constants of its class
pub over_class : (context : MethodContext) (class : CurrentClass) (constants : PoolTypes) → class ≡ context.class → constants.types ≡ class.types
    → constants.pool ≡ class.by.class.constant_pool → (env : Environment) → IsOfMethod context env → IsMethodOver context constants env
over_class context class constants same types pool env of = record {
  over = record {
    world = of.class.world ∙ ap (λ (t : TypeWorld). t.world) types_same;
    pool = ap (λ (l : Loaded). l.class.constant_pool) of.class.by ∙ sym (pool ∙ ap (λ (c : CurrentClass). c.by.class.constant_pool) same);
  };
  types = types_same;
  method = of;
}
  where
    types_same : context.class.types ≡ constants.types
    types_same = sym (types ∙ ap (λ (c : CurrentClass). c.types) same)

-- the instruction is known
pub at_insn : (names : List (List ℕ)) (env : Environment) (pc : ℕ) (before : Frame) (new : NumberFrame) (answer : Outcome) {insn known : Insn (Bor (List ℕ))} → insn ≡ known
    → IsOutcome names (effect env pc (instruction_of known) before) new answer → IsOutcome names (effect env pc (instruction_of insn) before) new answer
at_insn names env pc before new answer is h = subst (λ (i : Insn (Bor (List ℕ))). IsOutcome names (effect env pc (instruction_of i) before) new answer) (sym is) h

module _ (context : MethodContext) (constants : PoolTypes) (env : Environment) (of : IsMethodOver context constants env) (types : TypeWorld) (same : types ≡ constants.types) where
  -- the types are those of the class, and the world the method's
  pub in_class : (new : NumberFrame) (answer : Outcome) (found : World → List (List ℕ) → Option Frame) → IsOutcome types.names (found types.world types.names) new answer
      → IsOutcome constants.types.names (found env.world constants.types.names) new answer
  in_class new answer found h =
      subst (λ w. IsOutcome constants.types.names (found w constants.types.names) new answer) (sym of.over.world)
      (subst (λ (t : TypeWorld). IsOutcome t.names (found t.world t.names) new answer) same h)

  pub world_same : env.world ≡ types.world
  world_same = of.over.world ∙ ap (λ (t : TypeWorld). t.world) (sym same)

  pub result_same : (result : Option (FieldTypeOf ℕ)) → result ≡ context.result → env.descriptor.result ≡ typed_result types.names result
  result_same result is =
      of.method.result ∙ (ap (λ (t : TypeWorld). typed_result t.names context.result) (of.types ∙ sym same) ∙ ap (typed_result types.names) (sym is))
