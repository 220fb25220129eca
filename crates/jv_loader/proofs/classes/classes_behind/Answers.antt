use Rattle.std.proofs.Common.{◌∙◌, map, sym, ap, subst}
use Rattle.std.specs.List.{All}
use Rattle.jv_loader.specs.Loading.{AreLoaded}
use Rattle.jv_classes.specs.Inside.KeptNames.{texts_of}
use Rattle.jv_loader.specs.Inside.Files.{IsOfFiles, IsPlace, verdict_of_entry}
use Rattle.jv_loader.proofs.Whole.{alone, of_files, places, loaded_all}
use Rattle.jv_loader.proofs.classes.classes_behind.Goals as goal

pub of-requires : goal.of-requires
of-requires c =
    let host = c.requires.1 in
    alone c.requires.0 host.given host.gives (texts_of c.args.files.now) c.args.list c.put_files.new.list c.in_ok-entries.entries.items host.list_is
    c.in_ok-entries.ensures

pub verdicts_of-requires : goal.verdicts_of-requires
verdicts_of-requires c =
    let host = c.requires.1 in
    let all =
    places c.requires.0 host.given host.gives (texts_of c.args.files.now) c.args.list c.put_files.new.list c.in_ok-entries.entries.items
    host.list_is c.in_ok-entries.ensures in
    subst (λ es. All (IsPlace c.in_ok-table.table) es) (sym c.deref.ensures.value) (subst (λ w. All (IsPlace w) c.in_ok-entries.entries.items) (sym c.in_ok-table.ensures) all)

pub returns : goal.returns
returns c = λ library host.
    let told = c.in_ok-verdicts.ensures ∙ (ap (λ w. map (verdict_of_entry w) c.deref.result.now) c.in_ok-table.ensures ∙ ap (map (verdict_of_entry c.put_files.new.list)) c.deref.ensures.value) in
    let all =
    loaded_all library host.given host.gives (texts_of c.args.files.now) c.args.list c.put_files.new.list c.in_ok-entries.entries.items
    host.list_is c.in_ok-entries.ensures c.count-host.result c.in_ok-verdicts.verdicts.items c.count-host.ensures told in
    subst (λ w. AreLoaded library (texts_of c.args.files.now) (record { world = w; host = c.count-host.result; verdicts = c.in_ok-verdicts.verdicts.items }))
    (sym c.in_ok-table.ensures) all

pub are_straight-requires : goal.are_straight-requires
are_straight-requires c =
    let host = c.requires.1 in
    let all =
    of_files c.requires.0 host.given host.gives (texts_of c.args.files.now) c.args.list c.put_files.new.list c.in_ok-entries.entries.items
    host.list_is c.in_ok-entries.ensures in
    subst IsOfFiles (sym c.in_ok-table.ensures) all
