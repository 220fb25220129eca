use Rattle.std.proofs.Common.{◌≡◌, ◌∙◌, ℕ, Bool, false, ap, length, map, subst, sym}
use Rattle.std.proofs.lemmas.List.{length-map}
use Rattle.jv_program_run.specs.Feeding.{is_no_guest}
use Rattle.jv_program_run.specs.Inside.Brought.{named_guest_of}
use Rattle.jv_program_run.specs.Inside.Play.{AreReportsOn, told_of}
use Rattle.jv_program_run.proofs.Alone.{all_there, said}
use Rattle.jv_program_run.proofs.running.said_of.Goals as goal

pub returns : goal.returns
returns c =
    said c.shows_one_thing.ensures c.args.settings c.args.guests.now c.args.host.now (map told_of c.in_ok-reports.reports.items) c.requires.allowed
    (subst (λ (places : Bool). AreReportsOn places (map named_guest_of c.args.guests.now) c.args.host.now (length c.args.guests.now)
    (map told_of c.in_ok-reports.reports.items)) c.tells_places.ensures c.in_ok-reports.ensures)
    (ap (map told_of) c.as_slice.ensures.value) c.outcome_of.result c.outcome_of.ensures.report c.outcome_of.ensures.raw c.outcome_of.ensures.status

pub outcome_of-requires : goal.outcome_of-requires
outcome_of-requires c =
    let many : length c.in_ok-reports.reports.items ≡ length c.args.guests.now =
    sym (length-map c.in_ok-reports.reports.items told_of) ∙ (c.in_ok-reports.ensures {u = tt}).many in
    subst (λ (n : ℕ). is_no_guest c.args.settings.raw n ≡ false) (sym (ap length c.as_slice.ensures.value ∙ many)) c.requires.raw

pub reports_on-requires-clause-there : goal.reports_on-requires-clause-there
reports_on-requires-clause-there c =
    all_there c.args.settings c.args.guests.now c.requires.run.0 c.requires.run.1 c.args.host.now c.requires.run.2
