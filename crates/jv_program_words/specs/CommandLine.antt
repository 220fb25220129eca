-- The command line (own), as a simple command of the library `clap`, which reads it:
--     jvhost run [--library FOLDER] [--cells N] [--words N] [--output N] [--quantum N] [--rounds N] [--stdin K] [--raw K] [--json]
--         [--where] [--progress] [--time] FOLDER...
--     jvhost check [--library FOLDER] [--json] FILE...
--     jvhost explain [--library FOLDER] [--json] [--links] [--frames] FILE...
use Rattle.std.specs.Prelude.{ℕ, true, List, Some, codes, pos}
use Rattle.clap.specs.Lexer.{usize_max}
use Rattle.clap.specs.Walk.{Rule}
use Rattle.clap.specs.Simple.{App, new_app, new_rule, on_top, with_rule, with_subcommand}
use Rattle.clap.specs.declared.builder.action.ArgAction.TheVariants.{SetTrue}
use Rattle.clap.specs.declared.builder.value_parser.ValueParser.TheVariants as parsers

-- the largest number of 32 bits
abbrev pub most_of_32_bits : ℕ
most_of_32_bits = 4294967295

-- the option `--NAME N`, with a number from `least` to `most`
abbrev pub number_option : (name : List ℕ) → (least most : ℕ) → Rule
number_option name least most = record (new_rule name) {
  long = Some name;
  value_names = 1;
  parser = Some (parsers.Signed (pos least) (pos most));
}

-- the option `--NAME WORD`
abbrev pub word_option : (name : List ℕ) → Rule
word_option name = record (new_rule name) { long = Some name; value_names = 1 }

-- the option `--NAME`, which takes nothing: it is there, or it isn't
abbrev pub flag : (name : List ℕ) → Rule
flag name = record (new_rule name) { long = Some name; action = Some SetTrue }

-- one word or more, which have to be there
abbrev pub one_or_more : (name : List ℕ) → Rule
one_or_more name = record (new_rule name) {
  range = Some (record { start_inclusive = 1; end_inclusive = usize_max });
  value_names = 1;
  required = true;
}

-- an option with a number of 32 bits, which is at least so much
abbrev pub with_number : List ℕ → (least : ℕ) → App → App
with_number name least line = with_rule line (number_option name least most_of_32_bits)

-- with names, one or more, and with the folder of a library
abbrev pub with_names : List ℕ → App → App
with_names name line = with_rule (with_rule line (one_or_more name)) (word_option (codes "library"))

-- with the budget of each guest
abbrev pub with_budget : App → App
with_budget line = with_number (codes "output") 0 (with_number (codes "words") 0 (with_number (codes "cells") 0 line))

-- with how many steps each guest gets
abbrev pub with_steps : App → App
with_steps line = with_number (codes "rounds") 1 (with_number (codes "quantum") 1 line)

-- an option with the number of a guest
abbrev pub with_guest : List ℕ → App → App
with_guest name line = with_rule line (number_option name 1 64)

-- with whether the report is JSON
abbrev pub with_form : App → App
with_form line = with_rule line (flag (codes "json"))

-- with whether references that don't resolve are told
abbrev pub with_links : App → App
with_links line = with_rule line (flag (codes "links"))

-- with whether methods are listed with their frames
abbrev pub with_frames : App → App
with_frames line = with_rule line (flag (codes "frames"))

-- with which guest is fed, and which one's output is written as it is
abbrev pub with_streams : App → App
with_streams line = with_guest (codes "raw") (with_guest (codes "stdin") line)

-- with whether the report has the places of last throws
abbrev pub with_places : App → App
with_places line = with_rule line (flag (codes "where"))

-- with whether it is told how far the run is, and how long the processor took
abbrev pub with_company : App → App
with_company line = with_rule (with_rule line (flag (codes "progress"))) (flag (codes "time"))

abbrev pub run_line : App
run_line =
    with_company
    (with_places (with_form (with_streams (with_steps (with_budget (with_names (codes "folder") (new_app (codes "run"))))))))

abbrev pub check_line : App
check_line = with_form (with_names (codes "file") (new_app (codes "check")))

abbrev pub explain_line : App
explain_line = with_frames (with_links (with_form (with_names (codes "file") (new_app (codes "explain")))))

-- one of the three commands has to be there; `--help` and `--version` are answered
abbrev pub command_line : App
command_line =
    with_subcommand
    (with_subcommand
    (with_subcommand
    (on_top (λ top. record top { has_version = true; subcommand_required = true }) (new_app (codes "jvhost")))
    run_line.top)
    check_line.top)
    explain_line.top
