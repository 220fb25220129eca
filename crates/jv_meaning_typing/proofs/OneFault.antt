-- A method breaks one rule at most, at one place, and none where it has a typing.
use Rattle.std.proofs.Common.{◌≡◌, ℕ, ◌<◌, ◌≤◌, Bool, true, false, not, List, length, Option, Some, None, refl, sym, ap, subst, ◌∙◌, ◌⊎◌, inl, inr, arith}
use Rattle.std.specs.Prelude.{IsTrue}
use Rattle.std.proofs.lemmas.Bool.{cases_order}
use Rattle.jv_text.specs.Descriptor.{MethodDescriptor}
use Rattle.jv_text.specs.Types.{method_type_of}
use Rattle.jv_class_structure.specs.Parts.{CodeSeen}
use Rattle.jv_stackmap.specs.Frames.{PlacedFrame, OneMaps}
use Rattle.jv_code.specs.Insns.{Instruction, insn_bytes}
use Rattle.jv_code.specs.Places.{IsCode, OneList}
use Rattle.jv_meaning_world.specs.World.{World}
use Rattle.jv_meaning_typing.specs.Uses.{Site}
use Rattle.jv_meaning_typing.specs.declared.verdict.VerifyRule.{VerifyRule}
use Rattle.jv_meaning_typing.specs.declared.verdict.VerifyRule.TheVariants as rules
use Rattle.jv_meaning_typing.specs.Environment.{Environment, IsEnvironment, current_class, instruction_at}
use Rattle.jv_meaning_typing.specs.Typing.{HandlersKeepRules, HasFrames, AreFrames, limits_of, entries_before, Assignment, IsTypingBelow, ends_code, IsTyping, HasTyping}
use Rattle.jv_meaning_typing.specs.Judgement.{BreaksAt, BreaksFirst, GoesOnBehind, IsCodeOf, BreaksRule}
use Rattle.jv_meaning_typing.proofs.Starts.{start_within, last_there}
use Rattle.jv_meaning_typing.proofs.Agreement.{agree, safe_not_broken, one_break}

-- ---- the environment of a method is one

abbrev made : World → Site → MethodDescriptor → CodeSeen → List Instruction → Environment
made world site descriptor code instructions = record { world = world; site = site; descriptor = descriptor; code = code; instructions = instructions }

unsome : {A : Type 0} (x y : A) → Some x ≡ Some y → x ≡ y
unsome x y e = cc

pub one_environment : OneList → (e f : Environment) → e.world ≡ f.world → e.site ≡ f.site → IsEnvironment e → IsEnvironment f → e ≡ f
one_environment law e f w s p q =
    let code : e.code ≡ f.code = unsome e.code f.code (sym p.code ∙ ap (λ (x : Site). x.method.code) s ∙ q.code) in
    let type : e.descriptor ≡ f.descriptor = unsome e.descriptor f.descriptor (sym p.descriptor ∙ ap (λ (x : Site). method_type_of x.method.descriptor) s ∙ q.descriptor) in
    let list : e.instructions ≡ f.instructions = law e.code.code e.instructions f.instructions p.instructions (subst (λ (x : CodeSeen). IsCode x.code f.instructions) (sym code) q.instructions) in
    ap (λ (x : World). made x e.site e.descriptor e.code e.instructions) w
    ∙ ap (λ (x : Site). made f.world x e.descriptor e.code e.instructions) s
    ∙ ap (λ (x : MethodDescriptor). made f.world f.site x e.code e.instructions) type
    ∙ ap (λ (x : CodeSeen). made f.world f.site f.descriptor x e.instructions) code
    ∙ ap (λ (x : List Instruction). made f.world f.site f.descriptor f.code x) list

-- ---- and so are its frames

one_frames : OneMaps → (env : Environment) (maps others : List PlacedFrame) → AreFrames env maps → AreFrames env others → maps ≡ others
one_frames law env maps others p q = by_table env.code.stack_map_table p.spelled q.spelled
  where
    by_table : (o : Option (List ℕ)) → HasFrames env o maps → HasFrames env o others → maps ≡ others
    by_table None h k = h ∙ sym k
    by_table (Some bytes) h k = law (current_class env).constant_pool (limits_of env) (entries_before env) bytes maps others h k

-- ---- what a broken rule is found by, stage by stage

-- at an instruction, or behind the last
data FaultInFrames (env : Environment) (maps : List PlacedFrame) (offset : ℕ) (broken : VerifyRule) : Type 0 where
  at_instruction : BreaksFirst env maps offset broken → FaultInFrames env maps offset broken
  behind : broken ≡ rules.EndOfCode → GoesOnBehind env maps offset → FaultInFrames env maps offset broken

-- in the handlers, in the stack map, or with both
data FaultInCode (env : Environment) (offset : ℕ) (broken : VerifyRule) : Type 0 where
  in_handlers : offset ≡ 0 → broken ≡ rules.HandlerTable → (HandlersKeepRules env → ⊥) → FaultInCode env offset broken
  in_map : offset ≡ 0 → broken ≡ rules.MapFrames → HandlersKeepRules env → ((maps : List PlacedFrame) → AreFrames env maps → ⊥) → FaultInCode env offset broken
  in_frames : HandlersKeepRules env → (maps : List PlacedFrame) → AreFrames env maps → FaultInFrames env maps offset broken → FaultInCode env offset broken

data Fault (world : World) (site : Site) (offset : ℕ) (broken : VerifyRule) : Type 0 where
  no_code : offset ≡ 0 → broken ≡ rules.Code → ((env : Environment) → env.world ≡ world → env.site ≡ site → IsCodeOf env → ⊥) → Fault world site offset broken
  in_code : (env : Environment) → env.world ≡ world → env.site ≡ site → IsCodeOf env → FaultInCode env offset broken → Fault world site offset broken

fault_of : (world : World) (site : Site) (offset : ℕ) (broken : VerifyRule) → BreaksRule world site offset broken → Fault world site offset broken
fault_of world site offset rules.Code h = no_code h.0 refl h.1
fault_of world site offset rules.HandlerTable h = in_code h.1.env h.1.world_is h.1.site_is h.1.code (in_handlers h.0 refl h.1.holds)
fault_of world site offset rules.MapFrames h = in_code h.1.env h.1.world_is h.1.site_is h.1.code (in_map h.0 refl h.1.holds.0 h.1.holds.1)
fault_of world site offset rules.EndOfCode h = in_code h.env h.world_is h.site_is h.code (in_frames h.handlers h.maps h.frames (behind refl h.holds))
fault_of world site offset rules.Merge h = in_code h.env h.world_is h.site_is h.code (in_frames h.handlers h.maps h.frames (at_instruction h.holds))
fault_of world site offset rules.CoveredHandler h = in_code h.env h.world_is h.site_is h.code (in_frames h.handlers h.maps h.frames (at_instruction h.holds))
fault_of world site offset rules.Instruction h = in_code h.env h.world_is h.site_is h.code (in_frames h.handlers h.maps h.frames (at_instruction h.holds))
fault_of world site offset rules.BranchTarget h = in_code h.env h.world_is h.site_is h.code (in_frames h.handlers h.maps h.frames (at_instruction h.holds))

-- ---- two of these are one

abbrev Same : ℕ → VerifyRule → ℕ → VerifyRule → Type 0
Same o r p s = (o ≡ p) × (r ≡ s)

module _ (env : Environment) (is : IsEnvironment env) (maps : List PlacedFrame) where
  shorter : (f : Assignment) (end pc : ℕ) → pc ≤ end → IsTypingBelow env maps end f → IsTypingBelow env maps pc f
  shorter f end pc le p = λ (n : ℕ) (i : Instruction) (at : instruction_at env n ≡ Some i) (lt : n < pc). p n i at (omega (arith, lt, le))

  -- what is broken at an offset is not type safe in a typing that reaches further
  broken_is_last : (pc end : ℕ) (broken : VerifyRule) (g : Assignment) → BreaksFirst env maps pc broken → IsTypingBelow env maps end g → pc < end → ⊥
  broken_is_last pc end broken g b p lt =
      safe_not_broken env maps b.frames g pc b.insn broken (agree env maps b.frames g pc b.below (shorter g end pc (omega (arith, lt)) p)) (p pc b.insn b.starts lt) b.assigned b.breaks

  one_insn : (pc : ℕ) (i j : Instruction) → instruction_at env pc ≡ Some i → instruction_at env pc ≡ Some j → i ≡ j
  one_insn pc i j e f = unsome i j (sym e ∙ f)

  one_at : (o p : ℕ) (r s : VerifyRule) → BreaksFirst env maps o r → BreaksFirst env maps p s → Same o r p s
  one_at o p r s b c = by_order (cases_order o p)
    where
      at_one : (q : ℕ) → o ≡ q → BreaksFirst env maps q s → r ≡ s
      at_one q e d =
          let moved : BreaksFirst env maps o s = subst (λ (n : ℕ). BreaksFirst env maps n s) (sym e) d in
          let same : moved.insn ≡ b.insn = one_insn o moved.insn b.insn moved.starts b.starts in
          one_break env maps b.frames moved.frames o b.insn r s (agree env maps b.frames moved.frames o b.below moved.below) b.assigned moved.assigned b.breaks
          (subst (λ (i : Instruction). BreaksAt env maps moved.frames o i s) same moved.breaks)

      by_order : (o ≡ p) ⊎ ((o < p) ⊎ (p < o)) → Same o r p s
      by_order (inl e) = (e, at_one p e c)
      by_order (inr (inl lt)) = absurd (broken_is_last o p r c.frames b c.below lt)
      by_order (inr (inr lt)) = absurd (broken_is_last p o s b.frames c b.below lt)

  -- an instruction below the end
  within : (pc : ℕ) (insn : Instruction) → instruction_at env pc ≡ Some insn → pc < length env.code.code
  within pc insn at = start_within env pc insn is at

  not_behind : (o p : ℕ) (r : VerifyRule) → BreaksFirst env maps o r → GoesOnBehind env maps p → ⊥
  not_behind o p r b g = broken_is_last o (length env.code.code) r g.frames b g.below (within o b.insn b.starts)

  one_behind : (o p : ℕ) → GoesOnBehind env maps o → GoesOnBehind env maps p → o ≡ p
  one_behind o p g h =
      let one = last_there env o g.insn is g.starts g.last in
      let other = last_there env p h.insn is h.starts h.last in
      let same : g.insn ≡ h.insn = unsome g.insn h.insn (sym one ∙ other) in
      omega (arith, g.last, h.last, ap (λ (i : Instruction). length (insn_bytes i)) same)

  one_in_frames : (o p : ℕ) (r s : VerifyRule) → FaultInFrames env maps o r → FaultInFrames env maps p s → Same o r p s
  one_in_frames o p r s (at_instruction b) (at_instruction c) = one_at o p r s b c
  one_in_frames o p r s (at_instruction b) (behind e h) = absurd (not_behind o p r b h)
  one_in_frames o p r s (behind e g) (at_instruction c) = absurd (not_behind p o s c g)
  one_in_frames o p r s (behind e g) (behind f h) = (one_behind o p g h, e ∙ sym f)

  typed_is_whole : (o : ℕ) (r : VerifyRule) (f : Assignment) → IsTyping env maps f → FaultInFrames env maps o r → ⊥
  typed_is_whole o r f t (at_instruction b) = broken_is_last o (length env.code.code) r f b t.below (within o b.insn b.starts)
  typed_is_whole o r f t (behind e g) =
      let last = last_there env o g.insn is g.starts g.last in
      let ends : IsTrue (ends_code (Some g.insn)) = subst (λ (x : Option Instruction). IsTrue (ends_code x)) last t.end in
      unlike (ends_code (Some g.insn)) ends g.goes_on
    where
      unlike : (b : Bool) → IsTrue b → IsTrue (not b) → ⊥
      unlike true h n = absurd cc
      unlike false h n = absurd cc

one_in_code : OneMaps → (env : Environment) → IsEnvironment env → (o p : ℕ) (r s : VerifyRule) → FaultInCode env o r → FaultInCode env p s → Same o r p s
one_in_code law env is o p r s (in_handlers z e absent) (in_handlers y f never) = (z ∙ sym y, e ∙ sym f)
one_in_code law env is o p r s (in_handlers z e absent) (in_map y f right never) = absurd (absent right)
one_in_code law env is o p r s (in_handlers z e absent) (in_frames right maps are d) = absurd (absent right)
one_in_code law env is o p r s (in_map z e right absent) (in_handlers y f never) = absurd (never right)
one_in_code law env is o p r s (in_map z e right absent) (in_map y f too never) = (z ∙ sym y, e ∙ sym f)
one_in_code law env is o p r s (in_map z e right absent) (in_frames too maps are d) = absurd (absent maps are)
one_in_code law env is o p r s (in_frames right maps are b) (in_handlers y f never) = absurd (never right)
one_in_code law env is o p r s (in_frames right maps are b) (in_map y f too never) = absurd (never maps are)
one_in_code law env is o p r s (in_frames right maps are b) (in_frames too others also d) =
    one_in_frames env is maps o p r s b (subst (λ (m : List PlacedFrame). FaultInFrames env m p s) (one_frames law env others maps also are) d)

one_fault : OneList → OneMaps → (world : World) (site : Site) (o p : ℕ) (r s : VerifyRule) → Fault world site o r → Fault world site p s → Same o r p s
one_fault lists law world site o p r s (no_code z e absent) (no_code y f never) = (z ∙ sym y, e ∙ sym f)
one_fault lists law world site o p r s (no_code z e absent) (in_code env w t code d) = absurd (absent env w t code)
one_fault lists law world site o p r s (in_code env w t code b) (no_code y f never) = absurd (never env w t code)
one_fault lists law world site o p r s (in_code env w t code b) (in_code other v u also d) =
    let same : other ≡ env = one_environment lists other env (v ∙ sym w) (u ∙ sym t) also.is code.is in
    one_in_code law env code.is o p r s b (subst (λ (x : Environment). FaultInCode x p s) same d)

-- one rule of a method is the first that is broken, at one offset
pub one_broken_rule : OneList → OneMaps → (world : World) (site : Site) (o p : ℕ) (r s : VerifyRule) → BreaksRule world site o r → BreaksRule world site p s → (o ≡ p) × (r ≡ s)
one_broken_rule lists law world site o p r s b c = one_fault lists law world site o p r s (fault_of world site o r b) (fault_of world site p s c)

-- ---- a typing is no fault

typed_in_code : OneMaps → (env : Environment) → IsEnvironment env → (maps : List PlacedFrame) (f : Assignment) → IsTyping env maps f → (o : ℕ) (r : VerifyRule) → FaultInCode env o r → ⊥
typed_in_code law env is maps f t o r (in_handlers z e absent) = absent t.handlers
typed_in_code law env is maps f t o r (in_map z e right absent) = absent maps t.stack_map
typed_in_code law env is maps f t o r (in_frames right others are d) =
    typed_is_whole env is maps o r f t (subst (λ (m : List PlacedFrame). FaultInFrames env m o r) (one_frames law env others maps are t.stack_map) d)

typed_no_fault : OneList → OneMaps → (world : World) (site : Site) (o : ℕ) (r : VerifyRule) → HasTyping world site → Fault world site o r → ⊥
typed_no_fault lists law world site o r h (no_code z e absent) = absent h.env h.of.0 h.of.1 (record { is = h.is; arguments = h.typing.arguments })
typed_no_fault lists law world site o r h (in_code env w t code d) =
    let same : env ≡ h.env = one_environment lists env h.env (w ∙ sym h.of.0) (t ∙ sym h.of.1) code.is h.is in
    typed_in_code law h.env h.is h.maps h.frames h.typing o r (subst (λ (x : Environment). FaultInCode x o r) same d)

pub typing_or_fault : OneList → OneMaps → (world : World) (site : Site) (o : ℕ) (r : VerifyRule) → HasTyping world site → BreaksRule world site o r → ⊥
typing_or_fault lists law world site o r h b = typed_no_fault lists law world site o r h (fault_of world site o r b)
