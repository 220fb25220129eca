use Rattle.std.proofs.Common.{◌≡◌, ◌∙◌, ℕ, [], true, List, Some, ap, inl, inr, map, refl, string_bytes, subst, sym}
use Rattle.std.specs.Prelude.{option_and_then, option_map}
use Rattle.clap.specs.Words.{App, HasKind, HasMatchesOf, fault_of, found_of, is_simple, is_simple_and_free, rows_of}
use Rattle.clap.specs.Simple.{subcommand_rows_of}
use Rattle.clap.specs.Walk.{Row}
use Rattle.clap.specs.declared.parser.matches.ArgMatches.{ArgMatches}
use Rattle.clap.proofs.OnLiterals.{clap_on_literals}
use Rattle.jv_program_words.specs.CommandLine.{command_line}
use Rattle.jv_program_words.specs.Settings.{AreRefused, asked_by, asked_in, asked_of}
use Rattle.jv_program_words.proofs.Texts.{both_found, passed_on}
use Rattle.jv_program_words.proofs.reading.settings.Goals as goal

is_free : is_simple_and_free command_line ≡ true
unfolding clap_on_literals
is_free = refl

is_plain : is_simple command_line ≡ true
unfolding clap_on_literals
is_plain = refl

pub returns-in_err-matches-clause-err : goal.returns-in_err-matches-clause-err
returns-in_err-matches-clause-err c =
    let words = map string_bytes c.args.words.now in
    let error = c.in_err-matches.field-0.0 in
    let had : HasKind (fault_of command_line words) error =
    subst (λ (line : App). HasKind (fault_of line words) error) c.in_ok-line.ensures
    (c.in_err-matches.ensures.kinds (ap is_simple_and_free c.in_ok-line.ensures ∙ is_free)) in
    passed_on c.from_residual-in_err-matches.result error (AreRefused words) c.from_residual-in_err-matches.ensures.1 (inl had)

-- what the words ask for is what their command does
found_in : (words : List (List ℕ)) (m : ArgMatches) (command : List ℕ) (rows : List Row) → HasMatchesOf command_line words m
    → subcommand_rows_of m ≡ Some (command, rows) → asked_in words ≡ asked_by (command, rows)
found_in words m command rows has there = ap (option_and_then asked_by) (sym (has is_plain).1 ∙ there)

pub returns-in_default-2-clause-err : goal.returns-in_default-2-clause-err
returns-in_default-2-clause-err c =
    let words = map string_bytes c.args.words.now in
    let m = c.in_ok-matches.matches in
    let command = c.in-Some.command.now in
    let rows = rows_of (found_of c.in-Some.found.now) in
    let has : HasMatchesOf command_line words m = subst (λ (line : App). HasMatchesOf line words m) c.in_ok-line.ensures c.in_ok-matches.ensures.matches in
    let there : subcommand_rows_of m ≡ Some (command, rows) = both_found _ _ _ command rows c.in-Some.ensures.name c.in-Some.ensures.rows in
    let asked = found_in words m command rows has there in
    let by = c.in_ok-settings.ensures {u = tt} in
    let taken : fault_of command_line words ≡ [] =
    subst (λ (line : App). fault_of line words ≡ []) c.in_ok-line.ensures (c.in_ok-matches.ensures.kinds (ap is_simple_and_free c.in_ok-line.ensures ∙ is_free)) in
    inr (taken, asked ∙ sym by ∙ ap (option_map asked_of) c.in_default-2.is, c.in_ok-nothing_asked-2.ensures {u = tt})

pub returns-clause-ok : goal.returns-clause-ok
returns-clause-ok c =
    let words = map string_bytes c.args.words.now in
    let m = c.in_ok-matches.matches in
    let command = c.in-Some.command.now in
    let rows = rows_of (found_of c.in-Some.found.now) in
    let has : HasMatchesOf command_line words m = subst (λ (line : App). HasMatchesOf line words m) c.in_ok-line.ensures c.in_ok-matches.ensures.matches in
    let there : subcommand_rows_of m ≡ Some (command, rows) = both_found _ _ _ command rows c.in-Some.ensures.name c.in-Some.ensures.rows in
    let asked = found_in words m command rows has there in
    let by = c.in_ok-settings.ensures {u = tt} in
    let taken : fault_of command_line words ≡ [] =
    subst (λ (line : App). fault_of line words ≡ []) c.in_ok-line.ensures (c.in_ok-matches.ensures.kinds (ap is_simple_and_free c.in_ok-line.ensures ∙ is_free)) in
    (taken, asked ∙ sym by ∙ ap (option_map asked_of) c.in-Some-2.is)
