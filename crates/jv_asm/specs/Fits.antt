-- Which structures have bytes: those whose counts and lengths fit their fields.
use Rattle.std.specs.Prelude.{IsTrue}
use Rattle.jv_pool.specs.Constants.{pool_fits}
use Rattle.jv_class_structure.specs.Structure.{ClassStructure, body_fits}

pub record IsFit (c : ClassStructure) : Type 0 where
  pub pool : IsTrue (pool_fits c.constant_pool)
  pub body : IsTrue (body_fits c)
