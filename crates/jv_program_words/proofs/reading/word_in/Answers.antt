use Rattle.std.proofs.Common.{rules, ◌≡◌, ◌∙◌, Some, None, ap, map, sym}
use Rattle.std.specs.Prelude.{option_and_then, option_map, slice_get}
use Rattle.std.proofs.lemmas.Option.{slice_get-map}
use Rattle.clap.specs.Words.{found_of, matched_of, raw_values}
use Rattle.jv_program_words.proofs.Texts.{all_in_rows}
use Rattle.jv_program_words.proofs.reading.word_in.Goals as goal

pub returns-in-Some : goal.returns-in-Some
returns-in-Some c =
    let found : Some (map (λ word. word.now) c.in-Some.words.now) ≡ option_map raw_values (matched_of (found_of c.args.found.now) c.args.name.now) = search rules in
    ap (option_map (λ word. word.now)) (c.copied.ensures ∙ c.first.ensures.value) ∙ sym (slice_get-map (λ word. word.now) c.in-Some.words.now 0)
    ∙ ap (option_and_then (λ words. slice_get words 0)) (found ∙ all_in_rows c.args.found.now c.args.name.now)

pub returns-in-None : goal.returns-in-None
returns-in-None c =
    let found : None ≡ option_map raw_values (matched_of (found_of c.args.found.now) c.args.name.now) = search rules in
    ap (option_and_then (λ words. slice_get words 0)) (found ∙ all_in_rows c.args.found.now c.args.name.now)
