-- What holds of every pool.
use Rattle.std.specs.Prelude.{ℕ, List}
use Rattle.std.specs.List.{All}
use Rattle.jv_pool.specs.Constants.{Entry}
use Rattle.jv_pool.specs.Rules.{KeepsRules}
use Rattle.jv_pool.specs.Inside.Alike.{IsInOrder}

pub record IsInside (pool : List Entry) (firsts : List ℕ) : Type 0 where
  pub rules : All (KeepsRules pool) pool
  pub alike : IsInOrder pool firsts
