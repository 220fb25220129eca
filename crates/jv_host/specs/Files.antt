-- What a guest brings, without where it lies in memory.
use Rattle.std.specs.Prelude.{map}
use Rattle.jv_meaning_machine.specs.Alone.{GuestFiles as FilesOfGuest}
use Rattle.jv_host.specs.declared.files.GuestFiles.{GuestFiles}
use Rattle.jv_limits.specs.Bytes.{bytes_of}

-- the files of its library, its class files, the name of its main class and its input
abbrev pub guest_of : GuestFiles → FilesOfGuest
guest_of g = record { library = g.system.now; files = map bytes_of g.files.now; main = g.main.now; input = g.input.now }
