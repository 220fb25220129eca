use Rattle.std.proofs.Common.{◌<◌, ◌^◌, rules}
use Rattle.jv_program_run.proofs.AllTurns.{none_fed_since, rounds_all}
use Rattle.jv_program_run.proofs.Needed.{rounds_went}
use Rattle.jv_program_run.proofs.Turns.{few_steps}
use Rattle.jv_program_run.proofs.play.run_unfed.Goals as goal

pub returns-clause-played : goal.returns-clause-played
returns-clause-played g c =
    let s = c.args.settings in
    let m = c.run_rounds.result in
    let run = c.run_rounds.ensures in
    let quantum : s.quantum < 2 ^ 32 = search rules in
    let rounds : s.rounds < 2 ^ 32 = search rules in
    rounds_all s.quantum c.args.host.now c.shows_one_thing.ensures m c.run_rounds.new.host c.requires.start run.went
    (few_steps s.quantum s.rounds m quantum rounds run.most)

pub returns-clause-none : goal.returns-clause-none
returns-clause-none g c =
    let s = c.args.settings in
    none_fed_since s.quantum c.run_rounds.result c.args.host.now c.run_rounds.new.host c.requires.start c.run_rounds.ensures.went

pub returns-clause-needed : goal.returns-clause-needed
returns-clause-needed g c = λ some.
    let s = c.args.settings in
    let m = c.run_rounds.result in
    let run = c.run_rounds.ensures in
    let quantum : s.quantum < 2 ^ 32 = search rules in
    let rounds : s.rounds < 2 ^ 32 = search rules in
    rounds_went c.shows_one_thing.ensures s.quantum some m c.args.host.now c.run_rounds.new.host c.requires.start run.went
    (few_steps s.quantum s.rounds m quantum rounds run.most)
