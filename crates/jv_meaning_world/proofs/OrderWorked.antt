-- The worked rows of the order.
use Rattle.std.proofs.Common.{refl}
use Rattle.jv_meaning_world.specs.Rows.Order.{WorkedOrderRows}

pub worked_order_rows : WorkedOrderRows
worked_order_rows = record {
  interface_erased = refl;
  interfaces_erased = refl;
  arrays_of_interface_erased = refl;
  class_kept = refl;
  object_kept = refl;
  arrays_of_class_kept = refl;
  ints_kept = refl;
  arrays_of_ints_kept = refl;
  int_kept = refl;
  broken_kept = refl;
  missing_kept = refl;
  class_below_superclass = refl;
  superclass_below_class = refl;
  class_below_interface = refl;
  interface_below_class = refl;
  ints_to_interface = refl;
  ints_below_interface = refl;
  interfaces_below_objects = refl;
  objects_below_classes = refl;
  missing_to_interface = refl;
  missing_below_interface = refl;
  interface_to_superclass = refl;
  interface_below_superclass = refl;
  rootless_to_object = refl;
  rootless_to_interface = refl;
  rootless_below_interface = refl;
  ints_below_cloneable = refl;
  cloneable_below_copier = refl;
  ints_below_copier = refl;
  rooted = λ guests. refl;
}
