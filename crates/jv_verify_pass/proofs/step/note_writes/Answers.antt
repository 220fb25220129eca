use Rattle.std.proofs.Common.{inl, inr, ℕ, ◌+◌, false, ◌||◌, ◌==◌, Option, get_or, take, refl, sym, ap, ◌∙◌, arith}
use Rattle.std.proofs.lemmas.Bool.{cases_lt}
use Rattle.jv_code.specs.Insns.{instruction_of}
use Rattle.jv_verify_pass.specs.Inside.Changes.{changes_by, is_written, may_change_at}
use Rattle.jv_verify_pass.proofs.Noting.{fewer_noted, none_noted, one_noted, store_noted, written_more}
use Rattle.jv_verify_pass.proofs.step.note_writes.Goals as goal

pub returns-in-Some : goal.returns-in-Some
returns-in-Some c =
    let old = c.args.known.now in
    let insn = instruction_of c.args.insn.now in
    let index = c.in-Some.index in
    let before = c.saturating_sub.result in
    let behind = c.saturating_add.result in
    fewer_noted (may_change_at c.args.copies.now insn) (λ k. ((false || before == k) || index == k) || behind == k) old c.write-in-Some-2.new.self
    (λ k small none.
    ap (λ (o : Option ℕ). changes_by o (is_written c.args.copies.now) k) (sym c.stored_index.ensures ∙ c.in-Some.is)
    ∙ store_noted index before behind k (let is = c.saturating_sub.ensures in omega (arith, is))
    (elim (cases_lt index 65535) [
      | inl less ↦ inl (let is = c.saturating_add.ensures in omega (arith, is, less))
      | inr past ↦ inr past
    ]) small none)
    (one_noted (λ k. (false || before == k) || index == k) old c.write-in-Some.new.self c.write-in-Some-2.new.self behind
    (one_noted (λ k. false || before == k) old c.write.new.self c.write-in-Some.new.self index
    (one_noted (λ k. false) old old c.write.new.self before (none_noted old) c.write.ensures.same c.write.ensures.known) c.write-in-Some.ensures.same c.write-in-Some.ensures.known)
    c.write-in-Some-2.ensures.same c.write-in-Some-2.ensures.known)

pub loop-k-preserved : goal.loop-k-preserved
loop-k-preserved c =
    let copies = c.args.copies.now in
    let place = get_or copies c.loop-k.k 0 in
    let less = c.loop-k-test.true in
    let end = c.loop-k.auto.k-end in
    fewer_noted (is_written (take (c.loop-k.k + 1) copies)) (λ k. is_written (take c.loop-k.k copies) k || place == k) c.args.known.now c.write-in-loop-k.new.self
    (λ k small none. written_more copies c.loop-k.k k place 0 (omega (arith, less, end)) refl none)
    (one_noted (is_written (take c.loop-k.k copies)) c.args.known.now c.loop-k.known c.write-in-loop-k.new.self place c.loop-k.invariant c.write-in-loop-k.ensures.same
    c.write-in-loop-k.ensures.known)
