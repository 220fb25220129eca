use Rattle.std.proofs.Common.{rules, ◌≡◌, ◌∙◌, Some, None, ap}
use Rattle.std.specs.Prelude.{map, option_map}
use Rattle.clap.specs.Words.{found_of, matched_of, raw_values}
use Rattle.jv_program_words.proofs.Texts.{all_in_rows}
use Rattle.jv_program_words.proofs.reading.names_in.Goals as goal

pub returns-in_ok-from_slice-in-Some : goal.returns-in_ok-from_slice-in-Some
returns-in_ok-from_slice-in-Some c =
    let found : Some (map (λ name. name.now) c.in-Some.names.now) ≡ option_map raw_values (matched_of (found_of c.args.found.now) c.args.name.now) = search rules in
    let items : c.in_ok-from_slice-in-Some.field-0.items ≡ c.in-Some.names.now = search rules in
    ap (λ l. Some (map (λ name. name.now) l)) items ∙ (found ∙ all_in_rows c.args.found.now c.args.name.now)

pub returns-in-None : goal.returns-in-None
returns-in-None c =
    let found : None ≡ option_map raw_values (matched_of (found_of c.args.found.now) c.args.name.now) = search rules in
    found ∙ all_in_rows c.args.found.now c.args.name.now
