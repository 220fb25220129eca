use Rattle.std.proofs.Common.{◌≡◌, ℕ, ◌+◌, List, [], ◌∷◌, ◌++◌, drop, length, take, refl, sym, ap, ◌∙◌, arith}
use Rattle.std.proofs.Math.Seq.{take-append_seam}
use Rattle.std.specs.Vec.{with_items}
use Rattle.jv_class_structure.specs.Parts.{CodeSeen}
use Rattle.jv_interp_words.specs.declared.records.FrameRecord.{FrameRecord}
use Rattle.jv_interp_words.specs.declared.records.FrameRecord.TheVariants as records
use Rattle.jv_interp_words.specs.FramesInWords.{in_use}
use Rattle.jv_interp_control.proofs.CodeThere.{code_there}
use Rattle.jv_interp_control.proofs.AllPassed.{here, locals_end, caught_here}
use Rattle.jv_interp_control.proofs.passing.catch_thrown.Goals as goal

pub push_word-frames-requires : goal.push_word-frames-requires
push_word-frames-requires c =
    let w = c.requires in
    let own = c.in-Some-Runs.own in
    let rest = c.pop.new.self.items in
    let kept = c.args.frames.now in
    let there : kept.records.items ≡ rest ++ records.Runs own ∷ [] =
    c.in-Some-Runs.ensures.items ∙ ap (λ (r : FrameRecord). rest ++ r ∷ []) c.in-Some-Runs.field-0-is in
    let n = here w.program w.addresses w.frame w.below kept w.left rest own w.catching.stand there in
    let end = locals_end w.program w.addresses w.frame w.below kept w.left rest own w.catching.stand there in
    let code = code_there w.program w.addresses w.frame own _ n.under c.args.methods.now w.program.world refl w.catching.are n.stands in
    let locals = c.from.ensures ∙ ap (λ (x : CodeSeen). x.max_locals) (c.code_of-code.ensures w.program n.stands.declared w.frame.method.code code) in
    let fits = end.1 in
    let size = ap length c.deref_mut.ensures.value in
    omega (arith, fits, locals, size)

pub returns : goal.returns
returns c = λ program addresses frame below left object h.
    let own = c.in-Some-Runs.own in
    let rest = c.pop.new.self.items in
    let kept = c.args.frames.now in
    let there : kept.records.items ≡ rest ++ records.Runs own ∷ [] =
    c.in-Some-Runs.ensures.items ∙ ap (λ (r : FrameRecord). rest ++ r ∷ []) c.in-Some-Runs.field-0-is in
    let n = here program addresses frame below kept left rest own h.stand there in
    let code = code_there program addresses frame own _ n.under c.args.methods.now program.world refl h.are n.stands in
    let locals = c.from.ensures ∙ ap (λ (x : CodeSeen). x.max_locals) (c.code_of-code.ensures program n.stands.declared frame.method.code code) in
    let new = c.push_word-frames.new.words in
    let same_size : kept.words.len ≡ length new = kept.words.ok.0 ∙ ap length (sym c.deref_mut.ensures.value) ∙ sym c.push_word-frames.auto.words in
    let all : (with_items kept.words new).items ≡ new =
    ap (λ (n : ℕ). take n (new ++ drop (length new) kept.words.items)) same_size ∙ take-append_seam new (drop (length new) kept.words.items) in
    let after = record kept { words = with_items kept.words new; records = c.push_record.new.records; top = c.push_word-frames.result } in
    let used : in_use after.words.items after.top ≡ c.args.address ∷ in_use kept.words.items (own.base + frame.method.code.max_locals) =
    ap (λ (ws : List ℕ). in_use ws c.push_word-frames.result) all ∙ c.push_word-frames.ensures.used
    ∙ ap (λ (ws : List ℕ). c.args.address ∷ in_use ws (own.base + c.from.result)) c.deref_mut.ensures.value
    ∙ ap (λ (k : ℕ). c.args.address ∷ in_use kept.words.items (own.base + k)) locals in
    let sizes : length after.words.items ≡ length kept.words.items = ap length all ∙ c.push_word-frames.auto.words ∙ ap length c.deref_mut.ensures.value in
    let top : after.top ≡ own.base + frame.method.code.max_locals + 1 = c.push_word-frames.ensures.top ∙ ap (λ (k : ℕ). own.base + k + 1) locals in
    let pc = c.from-2.ensures in
    caught_here program addresses frame below kept left rest own h.stand there c.args.pc object c.args.address after h.at h.has_stack used sizes
    (c.push_record.ensures.items ∙ ap (λ (p : ℕ). rest ++ records.Runs (record { method = own.method; pc = p; base = own.base }) ∷ []) pc)
    (c.push_record.ensures.capacity ∙ c.in-Some-Runs.ensures.capacity) top refl
