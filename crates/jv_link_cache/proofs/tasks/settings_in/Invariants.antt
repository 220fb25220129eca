use Rattle.std.proofs.Common.{◌≡◌, ◌++◌, drop}
use Rattle.jv_link_cache.specs.Tasks.{settings_from, settings_of}
use Rattle.jv_link_cache.proofs.tasks.settings_in.Given as goal

abbrev pub invariant-loop-member : goal.invariant-loop-member
invariant-loop-member l = l.settings.items ++ settings_from l.member (drop l.member l.class.class.fields) ≡ settings_of l.class
