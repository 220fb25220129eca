use Rattle.std.proofs.Common.{◌≡◌, ℕ, ◌+◌, ◌-◌, [], refl, subst, arith}
use Rattle.jv_interp_words.specs.FramesInWords.{in_use, FrameStands}
use Rattle.jv_interp_words.proofs.InUse.{length-in_use}
use Rattle.jv_interp_words.proofs.Tops.{rises}
use Rattle.jv_interp_words.proofs.Passed.{passed_count, entered_stands}
use Rattle.jv_interp_words.proofs.calls.entered_base.Goals as goal

pub overflow_sub-result : goal.overflow_sub-result
overflow_sub-result c =
    let w = c.requires.can in
    let counts = passed_count c.args.max_locals c.args.count (in_use c.args.words.now c.args.top) w.addresses w.locals w.under w.passes in
    omega (arith, counts.1, length-in_use c.args.words.now c.args.top c.requires.within)

pub returns-clause-stands : goal.returns-clause-stands
returns-clause-stands c = λ addresses locals under h.
    let used = in_use c.args.words.now c.args.top in
    let counts = passed_count c.args.max_locals c.args.count used addresses locals under h in
    let size = length-in_use c.args.words.now c.args.top c.requires.within in
    let risen = rises c.args.words.now used c.args.top (c.args.max_locals - c.args.count) c.requires.room refl in
    let sums : c.args.top + (c.args.max_locals - c.args.count) ≡ c.args.top - c.args.count + c.args.max_locals =
    omega (arith, counts.0, counts.1, size) in (
      subst (λ (n : ℕ). FrameStands addresses locals [] (in_use c.args.words.now n) under) sums
          (entered_stands c.args.max_locals c.args.count used addresses locals under risen.front
          (in_use c.args.words.now (c.args.top + (c.args.max_locals - c.args.count))) h risen.place risen.size),
      omega (arith, counts.1, size),
    )

pub returns-clause-within : goal.returns-clause-within
returns-clause-within c =
    let w = c.requires.can in
    let counts = passed_count c.args.max_locals c.args.count (in_use c.args.words.now c.args.top) w.addresses w.locals w.under w.passes in
    omega (arith, counts.0, counts.1, c.requires.room, length-in_use c.args.words.now c.args.top c.requires.within)
