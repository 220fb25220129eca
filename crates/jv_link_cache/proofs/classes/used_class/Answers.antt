use Rattle.std.proofs.Common.{rules}
use Rattle.jv_link_cache.proofs.classes.used_class.Goals as goal

pub returns-in-Some-New : goal.returns-in-Some-New
returns-in-Some-New c = search rules
