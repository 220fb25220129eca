use Rattle.jv_host.proofs.Worlds.{two_worlds}
use Rattle.jv_host.proofs.laws.two_worlds.Goals as goal

pub returns : goal.returns
returns c = two_worlds c.same_bytes_show_the_same.ensures c.shows_one_thing.ensures
