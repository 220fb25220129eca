use Rattle.std.proofs.Common.{◌∙◌, ◌-◌, Some, ap, get_or, length, sym}
use Rattle.jv_program_base.proofs.Places.{item_at}
use Rattle.jv_program_run.proofs.ReadBehind.{ready_where, within}
use Rattle.jv_program_run.proofs.input.read_input.Goals as goal

pub returns-clause-ok : goal.returns-clause-ok
returns-clause-ok g c library =
    let folders = c.args.folders.now in
    let number = c.in-Some.number in
    let found = c.index-folders-number.result in
    let wanted = sym c.reads_all.ensures ∙ c.in-Some.is in
    let at = item_at folders (number - 1) found (within c.args.settings number (length folders) wanted c.requires) c.index-folders-number.is
    ∙ ap (λ x. Some x) c.index-folders-number.is in
    ready_where library c.args.settings number folders (get_or folders (number - 1) found) c.read_behind.new.folder c.read_behind.result
    (g.I.Read.remaining c.args.input.now) (g.I.Read.remaining c.read_behind.new.input) wanted at (c.read_behind.ensures.ok library)
