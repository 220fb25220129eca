-- The instruction of a method that waits, in its code's bytes (JVMS 2.6.4, 4.9.1).
use Rattle.std.proofs.Common.{◌≡◌, ℕ, ◌+◌, List, Option, Some, None, length, refl, sym, ap, subst, ◌∙◌}
use Rattle.std.specs.Prelude.{IsSomeAnd}
use Rattle.jv_class_structure.specs.Parts.{CodeSeen}
use Rattle.jv_code.specs.Insns.{Instruction, insn_bytes}
use Rattle.jv_code.specs.Places.{IsCode, IsAt}
use Rattle.jv_code.specs.declared.code.Code.{Code}
use Rattle.jv_code.proofs.StartLaws.{OneAtOffset-holds}
use Rattle.jv_meaning_world.specs.Overriding.{Declared}
use Rattle.jv_meaning_typing.specs.Environment.{offset_behind}
use Rattle.jv_meaning_machine.specs.Frames.{MethodFrame}
use Rattle.jv_meaning_machine.specs.State.{Program}
use Rattle.jv_link_cache.specs.declared.bodies.Body.{Body}
use Rattle.jv_link_cache.specs.Bodies.{IsBody}
use Rattle.jv_interp_words.specs.declared.records.MethodRecord.{MethodRecord}
use Rattle.jv_interp_members.specs.declared.methods.Methods.{Methods}
use Rattle.jv_interp_members.specs.declared.methods.MethodRow.{MethodRow}
use Rattle.jv_interp_members.specs.Methods.{HasCode, IsRowOf}
use Rattle.jv_interp_words.proofs.AtPlace.{is_at_place, entered_code}
use Rattle.jv_interp_control.specs.Inside.Codes.{IsCodeOf}
use Rattle.jv_interp_control.specs.Inside.Nexts.{Nexts}
use Rattle.jv_interp_control.proofs.BodyStands.{no_body, body_code}
use Rattle.jv_interp_control.proofs.CodeThere.{code_there}

-- a row's bytes are the code's
pub row_bytes :
    (d : Declared) (code : CodeSeen) (all : List Instruction) (body : Option Body) (bytes : Option Code) → IsBody d.method body → d.method.code ≡ Some code
    → IsCode code.code all → HasCode body bytes → IsSomeAnd bytes (λ k. k.bytes.now ≡ code.code)
row_bytes d code all None bytes h is insns has = absurd (no_body d code None refl h is)
row_bytes d code all (Some body) bytes h is insns has =
    let same : body.code.code.now ≡ code.code = ap (λ (c : CodeSeen). c.code) (body_code d code (Some body) body refl h is) in
    move bytes same (has all (subst (λ (ws : List ℕ). IsCode ws all) (sym same) insns))
  where
    move : (o : Option Code) → body.code.code.now ≡ code.code → IsSomeAnd o (λ k. k.bytes.now ≡ body.code.code.now) → IsSomeAnd o (λ k. k.bytes.now ≡ code.code)
    move None e k = absurd k
    move (Some x) e k = k ∙ e

module _ (methods : Methods) (own : MethodRecord) (program : Program) (addresses : List ℕ) (frame : MethodFrame) (used below : List ℕ) (insn : Instruction)
    (h : Nexts methods own program addresses frame used below insn) where
  pub is_code : IsCodeOf methods own.method program h.stands.declared frame.method.code
  is_code = code_there program addresses frame own used below methods program.world refl h.are h.stands

  pub bytes_in : (row : MethodRow) → IsRowOf program.world h.stands.declared row → IsSomeAnd row.code (λ k. k.bytes.now ≡ frame.method.code.code)
  bytes_in row r =
      row_bytes h.stands.declared frame.method.code frame.method.instructions row.body row.code r.body is_code.has_code
      (entered_code program h.stands.declared frame.method h.finds h.stands.entered) r.code

  pub known_bytes : (row : MethodRow) (k : Code) → row.code ≡ Some k → IsRowOf program.world h.stands.declared row → k.bytes.now ≡ frame.method.code.code
  known_bytes row k e r = subst (λ (o : Option Code). IsSomeAnd o (λ k. k.bytes.now ≡ frame.method.code.code)) e (bytes_in row r)

  pub some_bytes : (row : MethodRow) → row.code ≡ None → IsRowOf program.world h.stands.declared row → ⊥
  some_bytes row e r = subst (λ (o : Option Code). IsSomeAnd o (λ k. k.bytes.now ≡ frame.method.code.code)) e (bytes_in row r)

  pub stands_there : (bytes : List ℕ) → bytes ≡ frame.method.code.code → IsAt bytes own.pc insn
  stands_there bytes e =
      subst (λ (ws : List ℕ). IsAt ws own.pc insn) (sym e)
      (subst (λ (n : ℕ). IsAt frame.method.code.code n insn) (sym h.stands.pc_is)
      (is_at_place frame.method.code.code frame.method frame.offset insn (entered_code program h.stands.declared frame.method h.finds h.stands.entered) h.at))

  pub next_is : (bytes : List ℕ) (i : Instruction) (next : ℕ) → bytes ≡ frame.method.code.code → IsAt bytes own.pc i → next ≡ own.pc + length (insn_bytes i) → next ≡ offset_behind frame.offset insn
  next_is bytes i next e at n =
      n ∙ ap (λ (x : Instruction). own.pc + length (insn_bytes x)) (OneAtOffset-holds bytes own.pc i insn at (stands_there bytes e))
      ∙ ap (λ (p : ℕ). p + length (insn_bytes insn)) h.stands.pc_is
