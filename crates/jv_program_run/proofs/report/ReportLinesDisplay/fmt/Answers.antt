use Rattle.std.proofs.Common.{◌≡◌, ◌∙◌, ℕ, List, Option, None, ◌++◌, if◌then◌else◌, codes, map, refl, ap, append_assoc}
use Rattle.std.specs.Fmt.{HasWritten, decimal}
use Rattle.std.specs.Option.{option_map}
use Rattle.jv_meaning_machine.specs.State.{ThrowPlace}
use Rattle.std.proofs.Output.{has_written_of_eq}
use Rattle.jv_host.specs.Showing.{bytes_seen, seen_end, seen_place}
use Rattle.jv_program_run.specs.declared.report.ReportLines.{ReportLines}
use Rattle.jv_limits.specs.Bytes.{bytes_of}
use Rattle.jv_program_run.specs.Report.{ending_text, heading_text, labelled_line, output_text, throws_text, told_text, verdict_lines}
use Rattle.jv_program_run.specs.Inside.Play.{in_file_of, told_of}
use Rattle.jv_program_run.proofs.report.ReportLinesDisplay.fmt.Goals as goal

-- the lines on the guest, of the report's own fields, with a place
abbrev lines_on : ReportLines → Option ThrowPlace → List ℕ
lines_on lines place =
    let report = lines.report.now in
    labelled_line (codes "guest ") (heading_text report.number report.word.now)
    ++ verdict_lines (map bytes_of report.names.now) report.seen.verdicts.now
    ++ labelled_line (codes "  steps ") (decimal report.seen.steps)
    ++ labelled_line (codes "  throws ") (throws_text report.seen.throws (option_map bytes_seen report.seen.last) place (in_file_of report.in_file))
    ++ labelled_line (codes "  output ") (output_text report.seen.output.now)
    ++ labelled_line (codes "  end ") (ending_text (seen_end report.seen.end))

lines_are :
    (lines : ReportLines)
    → lines_on lines (if lines.places then option_map seen_place lines.report.now.seen.place else None)
    ≡ told_text lines.places (told_of lines.report.now)
unfolding told_text
lines_are lines = refl

pub returns-clause-writes : goal.returns-clause-writes
returns-clause-writes g c = λ plain ok.
    let so : HasWritten g.W.Write.write_str_gives c.args.f.now (lines_on c.args.self.now (option_map seen_place c.place_told.result)) c.write.new.self =
    has_written_of_eq _ _ _ _ _ (simp append_assoc) (c.write.ensures.writes plain ok) in
    has_written_of_eq _ _ _ _ _ (ap (lines_on c.args.self.now) c.place_told.ensures ∙ lines_are c.args.self.now) so
