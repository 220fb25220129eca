-- A method whose instructions are type safe below an offset.
use Rattle.std.specs.Prelude.{ℕ, List, Result, IfOk}
use Rattle.jv_stackmap.specs.Frames.{PlacedFrame}
use Rattle.jv_meaning_world.specs.World.{World}
use Rattle.jv_meaning_typing.specs.Environment.{Environment}
use Rattle.jv_meaning_typing.specs.Typing.{AreFrames, HandlersKeepRules}
use Rattle.jv_meaning_typing.specs.Judgement.{IsCodeOf, WithFrames}
use Rattle.jv_verify_pass.specs.Before.{AreBefore, AreFramed, IsTypedBelow, IsTypedTo}
use Rattle.jv_verify_pass.specs.declared.before.FramesBefore.{FramesBefore}
use Rattle.jv_verify_pass.specs.declared.sink.FramedInsn.{FramedInsn}

-- its code is one, its handlers and its stack map keep their rules, and this holds with its frames
pub record KeepsRulesWith (Holds : Environment → List PlacedFrame → Type 0) (env : Environment) : Type 0 where
  pub code : IsCodeOf env
  pub handlers : HandlersKeepRules env
  pub maps : List PlacedFrame
  pub frames : AreFrames env maps
  pub holds : Holds env maps

-- one of some kind is so
abbrev pub SomeKeepsRules : (Environment → Type 0) → (Environment → List PlacedFrame → Type 0) → Type 0
SomeKeepsRules Kind Holds = (env : Environment) × (Kind env × KeepsRulesWith Holds env)

-- its instructions below an offset are type safe, and one starts there
abbrev pub IsSomeTyped : (Environment → Type 0) → ℕ → Type 0
IsSomeTyped Kind pc = SomeKeepsRules Kind (λ env maps. IsTypedTo env maps pc)

-- or its code ends there
abbrev pub IsSomeTypedBelow : (Environment → Type 0) → ℕ → Type 0
IsSomeTypedBelow Kind end = SomeKeepsRules Kind (λ env maps. IsTypedBelow env maps end)

-- what stands before the instruction there, in each of that kind
abbrev pub StandInEach : {E : Type 0} → (Environment → Type 0) → World → ℕ → Result FramesBefore E → Type 0
StandInEach Kind world pc found =
    (env : Environment) → Kind env → KeepsRulesWith (λ env maps. IsTypedTo env maps pc) env
    → IfOk found (λ f. WithFrames world env.site (λ env maps. AreBefore env maps pc f))

-- its instructions from the first on up to an offset, each with the frames before it, in each of that kind
abbrev pub AreFramedInEach : (Environment → Type 0) → World → (end stop : ℕ) → List FramedInsn → Type 0
AreFramedInEach Kind world end stop all =
    (env : Environment) → Kind env → KeepsRulesWith (λ env maps. IsTypedBelow env maps end) env
    → WithFrames world env.site (λ env maps. AreFramed env maps 0 stop all)
