use Rattle.std.proofs.Common.{rules, ◌≡◌, ◌∙◌, ◌<◌, ◌≤◌, true, false, length, map, min}
use Rattle.std.specs.Prelude.{is_some, option_map, string_bytes}
use Rattle.std.proofs.lemmas.List.{length-map}
use Rattle.jv_host.specs.Showing.{seen_place}
use Rattle.jv_limits.specs.Bytes.{bytes_of}
use Rattle.jv_program_base.proofs.Places.{found_in_map, in_place}
use Rattle.jv_program_run.proofs.Shown.{first_shown, in_both, none_at_all, none_more, past_one, some_text}
use Rattle.jv_program_run.proofs.in_file.instruction_among.Goals as goal

pub returns-then-is_some : goal.returns-then-is_some
returns-then-is_some c =
    let files = c.args.files.now in
    let verdicts = c.args.verdicts.now in
    let k = c.loop-number.number in
    let least : c.min-number-end.result ≡ min (length files) (length verdicts) = search rules in
    let less : k < c.min-number-end.result = search rules in
    let within = in_both c.min-number-end.result (length files) (length verdicts) k least less in
    let some : is_some c.in_ok-text.text ≡ true = search rules in
    first_shown (map bytes_of files) verdicts (seen_place c.args.place) k _ _ (option_map string_bytes c.in_ok-text.text)
    (found_in_map bytes_of files k _ (in_place files k _ within.0)) (in_place verdicts k _ within.1) (some_text c.in_ok-text.text ∙ some)
    c.in_ok-text.ensures c.loop-number.invariant

pub loop-number-preserved : goal.loop-number-preserved
loop-number-preserved c =
    let files = c.args.files.now in
    let verdicts = c.args.verdicts.now in
    let k = c.loop-number.number in
    let least : c.min-number-end.result ≡ min (length files) (length verdicts) = search rules in
    let less : k < c.min-number-end.result = search rules in
    let within = in_both c.min-number-end.result (length files) (length verdicts) k least less in
    let none : is_some c.in_ok-text.text ≡ false = search rules in
    none_more (map bytes_of files) verdicts (seen_place c.args.place) k _ _ (option_map string_bytes c.in_ok-text.text)
    (found_in_map bytes_of files k _ (in_place files k _ within.0)) (in_place verdicts k _ within.1) (some_text c.in_ok-text.text ∙ none)
    c.in_ok-text.ensures c.loop-number.invariant

pub returns : goal.returns
returns c =
    let files = c.args.files.now in
    let verdicts = c.args.verdicts.now in
    let k = c.loop-number.number in
    let least : c.min-number-end.result ≡ min (length files) (length verdicts) = search rules in
    let end : c.min-number-end.result ≤ k = search rules in
    none_at_all (map bytes_of files) verdicts (seen_place c.args.place) k
    (past_one c.min-number-end.result (length files) (length verdicts) (length (map bytes_of files)) k least end (length-map files bytes_of))
    c.loop-number.invariant
