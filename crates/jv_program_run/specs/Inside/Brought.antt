-- The guests of folders, as the code has them.
use Rattle.std.specs.Prelude.{map}
use Rattle.jv_program_run.specs.declared.brought.Brought.{Brought}
use Rattle.jv_limits.specs.Bytes.{bytes_of}
use Rattle.jv_program_run.specs.Guests.{NamedGuest}

abbrev pub named_guest_of : Brought → NamedGuest
named_guest_of brought = record {
  word = brought.word.now;
  names = map bytes_of brought.names.items;
  guest = record {
    library = brought.system.now;
    files = map bytes_of brought.files.items;
    main = brought.main.now;
    input = brought.input.now;
  };
}
