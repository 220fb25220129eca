-- The files of the table's classes have bytes.
use Rattle.std.specs.Prelude.{Bool, ◌&&◌, IsTrue, List}
use Rattle.std.specs.List.{All, list_all}
use Rattle.std.proofs.lemmas.Bool.{and_parts}
use Rattle.jv_pool.specs.Constants.{pool_fits}
use Rattle.jv_class_structure.specs.Structure.{ClassStructure, body_fits}
use Rattle.jv_asm.specs.Fits.{IsFit}
use Rattle.jv_loader.specs.declared.throwables.ThrowableClass.{ThrowableClass}
use Rattle.jv_meaning_world.specs.System.Throwables.{throwable_class_file}
use Rattle.jv_loader.specs.Inside.Table.{row_of}
use Rattle.jv_loader.proofs.Decided.{each}

abbrev pub is_fit : ClassStructure → Bool
is_fit c = pool_fits c.constant_pool && body_fits c

fits : (c : ClassStructure) → IsTrue (is_fit c) → IsFit c
fits c h = let parts = and_parts _ _ h in record { pool = parts.0; body = parts.1 }

abbrev pub class_fits : ThrowableClass → Bool
class_fits class = is_fit (throwable_class_file (row_of class))

pub all_fit : (classes : List ThrowableClass) → IsTrue (list_all class_fits classes) → All (λ class. IsFit (throwable_class_file (row_of class))) classes
all_fit classes h = each class_fits _ (λ class t. fits (throwable_class_file (row_of class)) t) classes h
