use Rattle.std.proofs.Common.{rules, ◌≡◌, ◌<◌, ◌++◌, ◌∷◌, [], length}
use Rattle.jv_verify.proofs.Placed.{if_none, stands_within, more_verdicts, all_verdicts}
use Rattle.jv_verify.proofs.files.verdicts_of.Goals as goal

pub verdict_of-requires : goal.verdict_of-requires
verdict_of-requires c =
    let library = c.requires.0 in
    let files = c.requires.1 in
    let are = c.requires.2 in
    let less : c.loop-file.file < length c.args.classes.now.verdicts = search rules in
    if_none c.load_verdict-why.result _
    (stands_within library files c.args.classes.now are c.loop-file.file c.loop-file.number (c.loop-file.invariant library files are).number c.load_verdict-why.result c.load_verdict-why.ensures less)

pub next_number-number-requires : goal.next_number-number-requires
next_number-number-requires c =
    let library = c.requires.0 in
    let files = c.requires.1 in
    let are = c.requires.2 in
    let less : c.loop-file.file < length c.args.classes.now.verdicts = search rules in
    stands_within library files c.args.classes.now are c.loop-file.file c.loop-file.number (c.loop-file.invariant library files are).number c.load_verdict-why.result c.load_verdict-why.ensures less

pub loop-file-preserved : goal.loop-file-preserved
loop-file-preserved c = λ library files are.
    let less : c.loop-file.file < length c.args.classes.now.verdicts = search rules in
    let pushed : c.push.new.self.items ≡ c.loop-file.verdicts.items ++ c.in_ok-verdict_of.field-0 ∷ [] = search rules in
    more_verdicts library files c.args.classes.now are c.loop-file.file c.loop-file.number (c.loop-file.invariant library files are).number c.load_verdict-why.result c.load_verdict-why.ensures less
    c.loop-file.verdicts.items (c.loop-file.invariant library files are)
    c.in_ok-verdict_of.field-0 c.in_ok-verdict_of.ensures c.push.new.self.items pushed c.next_number-number.result c.next_number-number.ensures

pub returns : goal.returns
returns c = λ library files are.
    let end : c.loop-file.file ≡ length c.args.classes.now.verdicts = search rules in
    all_verdicts library files c.args.classes.now are c.loop-file.file c.loop-file.number c.loop-file.verdicts.items (c.loop-file.invariant library files are) end
