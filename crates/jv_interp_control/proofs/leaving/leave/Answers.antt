use Rattle.std.proofs.Common.{◌≡◌, ℕ, ◌+◌, ◌-◌, List, [], ◌∷◌, ◌++◌, drop, length, take, refl, sym, ap, ◌∙◌, arith}
use Rattle.std.proofs.Math.Seq.{take-append_seam}
use Rattle.std.specs.Vec.{with_items}
use Rattle.jv_interp_words.specs.declared.records.FrameRecord.{FrameRecord}
use Rattle.jv_interp_words.specs.declared.records.FrameRecord.TheVariants as records
use Rattle.jv_interp_words.specs.FramesInWords.{in_use}
use Rattle.jv_interp_control.proofs.LeavesStand.{low, resumes, left_to_method, left_to_initialization, returned}
use Rattle.jv_interp_control.proofs.leaving.leave.Goals as goal

pub overflow_sub-top : goal.overflow_sub-top
overflow_sub-top c =
    let w = c.requires.can in
    let lower = low c.args.methods.now c.args.given c.args.top c.args.count c.args.frames.now c.args.control.now w.program w.addresses w.memory w.frame w.below w.control w.result w.t w.leaving in
    omega (arith, lower)

pub move_down-requires-clause-lower : goal.move_down-requires-clause-lower
move_down-requires-clause-lower c =
    let w = c.requires.can in
    let lower = low c.args.methods.now c.args.given c.args.top c.args.count c.args.frames.now c.args.control.now w.program w.addresses w.memory w.frame w.below w.control w.result w.t w.leaving in
    omega (arith, lower)

pub next_of-pc-requires : goal.next_of-pc-requires
next_of-pc-requires c =
    let w = c.requires.can in
    let own = c.in-Some-Runs.own in
    let rest = c.pop.new.self.items in
    let there : c.args.frames.now.records.items ≡ rest ++ records.Runs own ∷ [] =
    c.in-Some-Runs.ensures.items ∙ ap (λ (r : FrameRecord). rest ++ r ∷ []) c.in-Some-Runs.field-0-is in
    let r = resumes c.args.methods.now c.args.given c.args.top c.args.count c.args.frames.now c.args.control.now w.program w.addresses w.memory
    w.frame w.below w.control w.result w.t w.leaving rest own there in
    record { program = w.program; addresses = w.addresses; frame = r.caller; used = _; below = r.under; insn = r.insn; nexts = r.nexts }

pub returns-in-Some-Runs : goal.returns-in-Some-Runs
returns-in-Some-Runs c = λ program addresses memory frame below control result t h.
    let own = c.in-Some-Runs.own in
    let rest = c.pop.new.self.items in
    let frames = c.args.frames.now in
    let there : frames.records.items ≡ rest ++ records.Runs own ∷ [] =
    c.in-Some-Runs.ensures.items ∙ ap (λ (r : FrameRecord). rest ++ r ∷ []) c.in-Some-Runs.field-0-is in
    let r = resumes c.args.methods.now c.args.given c.args.top c.args.count frames c.args.control.now program addresses memory frame below control result t h rest own there in
    let lower = low c.args.methods.now c.args.given c.args.top c.args.count frames c.args.control.now program addresses memory frame below control result t h in
    let new = c.move_down.new.words in
    let same_size : frames.words.len ≡ length new = frames.words.ok.0 ∙ ap length (sym c.deref_mut.ensures.value) ∙ sym c.move_down.auto.words in
    let all : (with_items frames.words new).items ≡ new =
    ap (λ (n : ℕ). take n (new ++ drop (length new) frames.words.items)) same_size ∙ take-append_seam new (drop (length new) frames.words.items) in
    let after = record frames { words = with_items frames.words new; records = c.push_record.new.records; top = frames.top + c.args.count; left = frames.left + c.args.given } in
    let sum : c.args.top - c.args.count + c.args.count ≡ c.args.top = omega (arith, lower) in
    let used : in_use after.words.items after.top ≡ take c.args.count (in_use frames.words.items c.args.top) ++ in_use frames.words.items frames.top =
    ap (λ (ws : List ℕ). in_use ws (frames.top + c.args.count)) all ∙ c.move_down.ensures
    ∙ ap (λ (ws : List ℕ). take c.args.count (in_use ws (c.args.top - c.args.count + c.args.count)) ++ in_use ws frames.top) c.deref_mut.ensures.value
    ∙ ap (λ (n : ℕ). take c.args.count (in_use frames.words.items n) ++ in_use frames.words.items frames.top) sum in
    let sizes : length after.words.items ≡ length frames.words.items = ap length all ∙ c.move_down.auto.words ∙ ap length c.deref_mut.ensures.value in
    left_to_method c.args.methods.now c.args.given c.args.top c.args.count frames c.args.control.now program addresses memory frame below control result t h rest own r after c.next_of-pc.result
    (c.next_of-pc.ensures program addresses r.caller _ r.under r.insn r.nexts) used sizes c.push_record.ensures.items
    (c.push_record.ensures.capacity ∙ c.in-Some-Runs.ensures.capacity) refl refl

pub returns-in-Some-Initializes : goal.returns-in-Some-Initializes
returns-in-Some-Initializes c = λ program addresses memory frame below control result t h.
    let own = c.in-Some-Initializes.own in
    let rest = c.pop.new.self.items in
    let frames = c.args.frames.now in
    let there : frames.records.items ≡ rest ++ records.Initializes own ∷ [] =
    c.in-Some-Initializes.ensures.items ∙ ap (λ (r : FrameRecord). rest ++ r ∷ []) c.in-Some-Initializes.field-0-is in
    let after = record frames { records = c.push_record-in-Some-Initializes.new.records; left = frames.left + c.args.given } in
    left_to_initialization c.args.methods.now c.args.given c.args.top c.args.count frames c.args.control.now program addresses memory frame below control result t h rest own after there refl
    c.push_record-in-Some-Initializes.ensures.items (c.push_record-in-Some-Initializes.ensures.capacity ∙ c.in-Some-Initializes.ensures.capacity) refl refl

empty : (xs : List FrameRecord) → length xs ≡ 0 → xs ≡ []
empty [] e = refl
empty (x ∷ xs) e = absurd cc

pub returns-in-None : goal.returns-in-None
returns-in-None c = λ program addresses memory frame below control result t h.
    let frames = c.args.frames.now in
    let none = empty frames.records.items (sym frames.records.ok.0 ∙ c.in-None.ensures.cases.0) in
    let still = empty c.pop.new.self.items (sym c.pop.new.self.ok.0 ∙ c.in-None.ensures.cases.1) in
    let after = record frames { records = c.pop.new.self; left = frames.left + c.args.given } in
    returned c.args.methods.now c.args.given c.args.top c.args.count frames c.args.control.now program addresses memory frame below control result t h after none refl still
    c.in-None.ensures.capacity refl refl
