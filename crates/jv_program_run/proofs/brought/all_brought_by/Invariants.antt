use Rattle.std.proofs.Common.{◌≡◌, map, take}
use Rattle.jv_program_run.specs.Guests.{named_guest}
use Rattle.jv_program_run.specs.Inside.Brought.{named_guest_of}
use Rattle.jv_program_run.proofs.brought.all_brought_by.Given as goal

abbrev pub invariant-loop-folder : goal.invariant-loop-folder
invariant-loop-folder l = map named_guest_of l.found.items ≡ map (named_guest l.system) (take l.folder-index l.folders)
