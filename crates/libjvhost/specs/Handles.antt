-- What a handle stands for.
use Rattle.std.specs.Prelude.{ℕ, List, Option}
use Rattle.libjvhost.specs.Calls.{Hosted, library_in}
use Rattle.libjvhost.specs.declared.handle.JvHost.{JvHost}
use Rattle.libjvhost.specs.Inside.Held.{held_of}

-- its host, if it holds one
abbrev pub host_of : JvHost → Option Hosted
host_of host = held_of host.owner.value

-- the files of its host's library
abbrev pub library_of : JvHost → List (List ℕ)
library_of host = library_in (host_of host)
