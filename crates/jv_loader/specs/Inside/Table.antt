-- The rows of the code's table.
use Rattle.jv_loader.specs.declared.throwables.ThrowableClass.{ThrowableClass}
use Rattle.jv_meaning_world.specs.System.Throwables.{ThrowableRow}

abbrev pub row_of : ThrowableClass → ThrowableRow
row_of class = record { access_flags = class.access_flags; name = class.name.now; super_name = class.super_name.now }
