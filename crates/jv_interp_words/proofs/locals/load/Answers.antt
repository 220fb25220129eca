use Rattle.std.proofs.Common.{ℕ, ◌+◌, ◌<◌, ◌∷◌, reverse, get_or, ap, subst, ◌∙◌, arith}
use Rattle.jv_code.specs.declared.kinds.ValueKind.{ValueKind}
use Rattle.jv_interp_words.specs.FramesInWords.{in_use}
use Rattle.jv_interp_words.specs.Inside.Locals.{Loads}
use Rattle.jv_interp_words.proofs.InUse.{length-in_use}
use Rattle.jv_interp_words.proofs.Loaded.{load_within, long_loads, long_loaded, word_loaded}
use Rattle.jv_interp_words.proofs.locals.load.Goals as goal

pub word_at-low-requires : goal.word_at-low-requires
word_at-low-requires c =
    let used = in_use c.args.words.now c.args.top in
    let h = load_within c.args.kind c.args.base c.args.index used _ _ c.requires.can.loads in
    omega (arith, h, length-in_use c.args.words.now c.args.top c.requires.within, c.requires.within)

pub word_at-high-requires : goal.word_at-high-requires
word_at-high-requires c =
    let used = in_use c.args.words.now c.args.top in
    let w = c.requires.can in
    let long =
    long_loads c.args.base c.args.index used w.addresses w.value
    (subst (λ (k : ValueKind). Loads k c.args.base c.args.index used w.addresses w.value) c.in-Long.is w.loads) in
    omega (arith, long.within, length-in_use c.args.words.now c.args.top c.requires.within, c.requires.within)

pub returns-in-Long-clause-loaded : goal.returns-in-Long-clause-loaded
returns-in-Long-clause-loaded c = λ addresses value h.
    let used = in_use c.args.words.now c.args.top in
    let at = c.args.base + c.args.index in
    let here = subst (λ (k : ValueKind). Loads k c.args.base c.args.index used addresses value) c.in-Long.is h in
    let long = long_loads c.args.base c.args.index used addresses value here in
    let size = length-in_use c.args.words.now c.args.top c.requires.within in
    let first : at < c.args.top = omega (arith, long.within, size) in
    let second : at + 1 < c.args.top = omega (arith, long.within, size) in
    long_loaded c.args.base c.args.index used addresses value (in_use c.push_two.new.words c.push_two.result) here
    (c.push_two.ensures.used
    ∙ ap (λ (n : ℕ). n ∷ c.word_at-low.result ∷ used) (c.word_at-high.ensures c.args.top second)
    ∙ ap (λ (n : ℕ). get_or (reverse used) (at + 1) 0 ∷ n ∷ used) (c.word_at-low.ensures c.args.top first))

pub word_at-word-requires : goal.word_at-word-requires
word_at-word-requires c =
    let used = in_use c.args.words.now c.args.top in
    let h = load_within c.args.kind c.args.base c.args.index used _ _ c.requires.can.loads in
    omega (arith, h, length-in_use c.args.words.now c.args.top c.requires.within, c.requires.within)

pub returns-clause-loaded : goal.returns-clause-loaded
returns-clause-loaded c = λ addresses value h.
    let used = in_use c.args.words.now c.args.top in
    let within = load_within c.args.kind c.args.base c.args.index used addresses value h in
    let first : c.args.base + c.args.index < c.args.top = omega (arith, within, length-in_use c.args.words.now c.args.top c.requires.within) in
    word_loaded c.args.kind c.args.base c.args.index used addresses value (in_use c.push_word.new.words c.push_word.result) c.in_default.not-Long h
    (c.push_word.ensures.used ∙ ap (λ (n : ℕ). n ∷ used) (c.word_at-word.ensures c.args.top first))
