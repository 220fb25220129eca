use Rattle.std.proofs.Common.{◌<◌, length, refl, arith}
use Rattle.std.proofs.lemmas.List.{length-set}
use Rattle.jv_interp_held.specs.Executing.{place}
use Rattle.jv_interp_held.proofs.HostWork.{reads_byte, reads_end, has_room, reads}
use Rattle.jv_interp_held.proofs.host.read.Goals as goal

pub bounds-words-at : goal.bounds-words-at
bounds-words-at c =
    let w = c.requires in
    let here = place c.args.at.now c.args.words.now c.args.held.now w.blocks in
    let less : c.args.held.now.read < length c.args.held.now.input.items = omega (arith, c.if-held-len.true, c.len.ensures, c.args.held.now.input.ok.0) in
    has_room c.args.next here w.texts w.c w.addresses w.done w.below w.reads _ _
    (reads_byte c.args.next here w.texts w.c w.addresses w.done w.below w.reads less c.index-byte.result.now c.index-byte.ensures (omega arith)) w.room

pub returns-then-held-len-clause-reads : goal.returns-then-held-len-clause-reads
returns-then-held-len-clause-reads c = λ blocks texts x addresses done below h.
    let w = c.requires in
    let there = place c.args.at.now c.args.words.now c.args.held.now w.blocks in
    let here = place c.args.at.now c.args.words.now c.args.held.now blocks in
    let less : c.args.held.now.read < length c.args.held.now.input.items = omega (arith, c.if-held-len.true, c.len.ensures, c.args.held.now.input.ok.0) in
    let room =
    has_room c.args.next there w.texts w.c w.addresses w.done w.below w.reads _ _
    (reads_byte c.args.next there w.texts w.c w.addresses w.done w.below w.reads less c.index-byte.result.now c.index-byte.ensures (omega arith)) w.room in
    reads c.args.next here texts x addresses done below h _ _
    (reads_byte c.args.next here texts x addresses done below h less c.index-byte.result.now c.index-byte.ensures (omega arith)) _ _ room refl refl refl

pub returns-then-held-len-clause-stays : goal.returns-then-held-len-clause-stays
returns-then-held-len-clause-stays c =
    let w = c.requires in
    let here = place c.args.at.now c.args.words.now c.args.held.now w.blocks in
    let less : c.args.held.now.read < length c.args.held.now.input.items = omega (arith, c.if-held-len.true, c.len.ensures, c.args.held.now.input.ok.0) in
    let room =
    has_room c.args.next here w.texts w.c w.addresses w.done w.below w.reads _ _
    (reads_byte c.args.next here w.texts w.c w.addresses w.done w.below w.reads less c.index-byte.result.now c.index-byte.ensures (omega arith)) w.room in
    record { same = refl; top_within = omega (arith, room, length-set c.args.words.now c.args.at.now.top c.index-byte.result.now) }

pub bounds-words-at-2 : goal.bounds-words-at-2
bounds-words-at-2 c =
    let w = c.requires in
    let here = place c.args.at.now c.args.words.now c.args.held.now w.blocks in
    has_room c.args.next here w.texts w.c w.addresses w.done w.below w.reads _ _
    (reads_end c.args.next here w.texts w.c w.addresses w.done w.below w.reads
    (λ less. omega (arith, less, c.if-held-len.false, c.len.ensures, c.args.held.now.input.ok.0))) w.room

pub returns-clause-reads : goal.returns-clause-reads
returns-clause-reads c = λ blocks texts x addresses done below h.
    let w = c.requires in
    let there = place c.args.at.now c.args.words.now c.args.held.now w.blocks in
    let here = place c.args.at.now c.args.words.now c.args.held.now blocks in
    let over : c.args.held.now.read < length c.args.held.now.input.items → ⊥ =
    λ less. omega (arith, less, c.if-held-len.false, c.len.ensures, c.args.held.now.input.ok.0) in
    let room =
    has_room c.args.next there w.texts w.c w.addresses w.done w.below w.reads _ _
    (reads_end c.args.next there w.texts w.c w.addresses w.done w.below w.reads over) w.room in
    reads c.args.next here texts x addresses done below h _ _ (reads_end c.args.next here texts x addresses done below h over) _ _ room refl refl refl

pub returns-clause-stays : goal.returns-clause-stays
returns-clause-stays c =
    let w = c.requires in
    let here = place c.args.at.now c.args.words.now c.args.held.now w.blocks in
    let room =
    has_room c.args.next here w.texts w.c w.addresses w.done w.below w.reads _ _
    (reads_end c.args.next here w.texts w.c w.addresses w.done w.below w.reads
    (λ less. omega (arith, less, c.if-held-len.false, c.len.ensures, c.args.held.now.input.ok.0))) w.room in
    record { same = refl; top_within = omega (arith, room, length-set c.args.words.now c.args.at.now.top 4294967295) }
