use Rattle.std.proofs.Common.{◌≡◌, ℕ, zero, suc, ◌<◌, Bool, false, ◌&&◌, List, ◌∷◌, take, sym, ap, ◌∙◌, arith}
use Rattle.std.specs.List.{list_all}
use Rattle.jv_stackmap.specs.declared.entry.FrameEntry.{FrameEntry}
use Rattle.jv_verify_pass.specs.Inside.Parts.{is_made_by_new}
use Rattle.jv_verify_pass.proofs.standing.last_are_made.Goals as goal

-- not all of some pass, where the first does not
first_fails : (p : FrameEntry → Bool) (left : ℕ) (e : FrameEntry) (rest : List FrameEntry) → 0 < left → false ≡ p e → false ≡ list_all p (take left (e ∷ rest))
first_fails p zero e rest some is = absurd (omega (arith, some))
first_fails p (suc left) e rest some is = ap (λ b. b && list_all p (take left rest)) is

pub returns-then-not-is_made_by_new : goal.returns-then-not-is_made_by_new
returns-then-not-is_made_by_new c = λ env has.
    let p = is_made_by_new env in
    first_fails p c.loop-left.left c.in-Some.entry c.next.new.self c.loop-left-test.true (sym c.if-not-is_made_by_new.true ∙ c.is_made_by_new.ensures env has)
    ∙ (ap (λ es. list_all p (take c.loop-left.left es)) (sym c.in-Some.ensures) ∙ sym (c.loop-left.invariant env has))
