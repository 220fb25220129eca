use Rattle.std.proofs.Common.{map, length}
use Rattle.std.proofs.lemmas.List.{length-map}
use Rattle.jv_host.specs.Started.{budget_of}
use Rattle.jv_program_run.specs.Inside.Brought.{named_guest_of}
use Rattle.jv_program_run.specs.Inside.Play.{IsFeedingFailure}
use Rattle.jv_program_base.proofs.Places.{passed_on}
use Rattle.jv_program_run.proofs.Played.{all_at_start, fed_run, fed_there, one_of, unfed_run}
use Rattle.jv_program_run.proofs.Overfed.{feeding_failed}
use Rattle.jv_program_run.proofs.play.run_all.Goals as goal

pub run_fed-requires-clause-start : goal.run_fed-requires-clause-start
run_fed-requires-clause-start g c = all_at_start (budget_of c.args.settings.budget) (map named_guest_of c.args.guests.now) c.args.host.now c.requires.start

pub run_fed-requires-clause-there : goal.run_fed-requires-clause-there
run_fed-requires-clause-there g c =
    let brought = c.args.guests.now in
    fed_there (budget_of c.args.settings.budget) (map named_guest_of brought) c.args.host.now c.requires.start c.args.settings.stdin c.in-Some.number (length brought)
    (length-map brought named_guest_of) c.in-Some.is c.requires.fed

pub run_unfed-rounds-requires : goal.run_unfed-rounds-requires
run_unfed-rounds-requires g c = record {
  start = all_at_start (budget_of c.args.settings.budget) (map named_guest_of c.args.guests.now) c.args.host.now c.requires.start;
}

pub returns-in_err-_rounds-clause-err : goal.returns-in_err-_rounds-clause-err
returns-in_err-_rounds-clause-err g c =
    let s = c.args.settings in
    let guests = map named_guest_of c.args.guests.now in
    let b0 = g.I.Read.remaining c.args.input.now in
    let b1 = g.I.Read.remaining c.run_fed.new.input in
    let failure = c.in_err-_rounds.field-0.0 in
    let number = c.in-Some.number in
    passed_on c.from_residual.result failure (IsFeedingFailure s guests b0 b1) c.from_residual.ensures.1
    (feeding_failed c.shows_one_thing.ensures s guests c.args.host.now c.requires.start number c.in-Some.is
    (one_of s.stdin number (length c.args.guests.now) c.in-Some.is c.requires.fed).0 b0 b1 failure (c.in_err-_rounds.ensures {u = tt}).err)

pub returns-clause-ok : goal.returns-clause-ok
returns-clause-ok g c =
    let s = c.args.settings in
    let number = c.in-Some.number in
    fed_run s (map named_guest_of c.args.guests.now) c.args.host.now c.run_fed.new.host (g.I.Read.remaining c.args.input.now) (g.I.Read.remaining c.run_fed.new.input)
    c.in_ok-_rounds._rounds number c.in-Some.is (one_of s.stdin number (length c.args.guests.now) c.in-Some.is c.requires.fed).0 c.requires.start
    (c.in_ok-_rounds.ensures {u = tt}).ok

pub returns-in_default-clause-ok : goal.returns-in_default-clause-ok
returns-in_default-clause-ok g c =
    let done = c.run_unfed-rounds.ensures in
    unfed_run c.args.settings (map named_guest_of c.args.guests.now) c.args.host.now c.run_unfed-rounds.new.host (g.I.Read.remaining c.args.input.now)
    c.run_unfed-rounds.result c.in_default.is c.requires.start done.few done.played done.none done.full done.needed
