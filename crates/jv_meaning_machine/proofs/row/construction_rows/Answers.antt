use Rattle.std.proofs.Common.{refl}
use Rattle.jv_meaning_machine.proofs.row.construction_rows.Goals as goal

pub returns : goal.returns
returns c = record {
  stores = refl;
  reads = refl;
  stores_other = refl;
  stores_super = refl;
  stores_elsewhere = refl;
  skips_superclass = refl;
  twice = refl;
  of_superclass = refl;
  string = refl;
}
