-- Laws of libraries (own).
use Rattle.std.specs.Prelude.{[]}
use Rattle.jv_meaning_world.specs.Library.{IsLibrary}

-- No files are a library, of no classes.
abbrev pub NoLibraryIsOne : Type 0
NoLibraryIsOne = IsLibrary [] []
