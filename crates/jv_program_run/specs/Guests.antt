-- The guest of a folder, with its names.
use Rattle.std.specs.Prelude.{ℕ, List, map}
use Rattle.jv_meaning_machine.specs.Alone.{GuestFiles}
use Rattle.jv_program_base.specs.declared.folder.Folder.{Folder}
use Rattle.jv_program_base.specs.Folder.{file_name, file_bytes}
use Rattle.jv_program_base.specs.MainName.{main_name_of}

-- what is run, with a library of these files: the bytes of its class files, the name in its file `main`, and its input
abbrev pub guest_in : (library : List (List ℕ)) → Folder → GuestFiles
guest_in library folder = record {
  library = library;
  files = map file_bytes folder.class_files.items;
  main = main_name_of folder.main.items;
  input = folder.input.items;
}

-- the guest of a folder, with the folder's word and the names of its class files
pub record NamedGuest : Type 0 where
  pub word : List ℕ
  pub names : List (List ℕ)
  pub guest : GuestFiles

abbrev pub named_guest : (library : List (List ℕ)) → Folder → NamedGuest
named_guest library folder = record {
  word = folder.word.now;
  names = map file_name folder.class_files.items;
  guest = guest_in library folder;
}
