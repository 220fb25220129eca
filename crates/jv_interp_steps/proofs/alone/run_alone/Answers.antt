use Rattle.std.proofs.Common.{◌≡◌, ℕ, List, ◌++◌, length, sym, refl, ap, subst, ◌∙◌}
use Rattle.std.specs.Prelude.{take, drop, ◌-◌}
use Rattle.std.specs.Vec.{with_items}
use Rattle.std.proofs.Math.Seq.{take-append_seam}
use Rattle.jv_interp_words.specs.Running.{CanRun, RunsTo}
use Rattle.jv_interp_steps.proofs.alone.run_alone.Goals as goal

pub run_in_words-left-requires : goal.run_in_words-left-requires
run_in_words-left-requires c = subst (λ (ws : List ℕ). CanRun c.args.at.now ws) (sym c.deref_mut.ensures.value) c.requires

pub returns-clause-ran : goal.returns-clause-ran
returns-clause-ran c =
    let frames = c.args.frames.now in
    let new = c.run_in_words-left.new.words in
    let same_size : frames.words.len ≡ length new = frames.words.ok.0 ∙ ap length (sym c.deref_mut.ensures.value) ∙ sym c.run_in_words-left.auto.words in
    let all : (with_items frames.words new).items ≡ new =
    ap (λ (n : ℕ). take n (new ++ drop (length new) frames.words.items)) same_size ∙ take-append_seam new (drop (length new) frames.words.items) in
    let steps = c.args.n - c.run_in_words-left.result in
    subst (λ (ws : List ℕ). RunsTo steps c.args.at.now frames.words.items c.run_in_words-left.new.at ws) (sym all)
    (subst (λ (ws : List ℕ). RunsTo steps c.args.at.now ws c.run_in_words-left.new.at new) c.deref_mut.ensures.value c.run_in_words-left.ensures.ran)

pub returns-clause-only : goal.returns-clause-only
returns-clause-only c =
    let frames = c.args.frames.now in
    let new = c.run_in_words-left.new.words in
    let same_size : frames.words.len ≡ length new = frames.words.ok.0 ∙ ap length (sym c.deref_mut.ensures.value) ∙ sym c.run_in_words-left.auto.words in
    let all : (with_items frames.words new).items ≡ new =
    ap (λ (n : ℕ). take n (new ++ drop (length new) frames.words.items)) same_size ∙ take-append_seam new (drop (length new) frames.words.items) in
    record {
      size = ap length all ∙ c.run_in_words-left.auto.words ∙ ap length c.deref_mut.ensures.value;
      records = refl;
      capacity = refl;
      left = refl;
    }
