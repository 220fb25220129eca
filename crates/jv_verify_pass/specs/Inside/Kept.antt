-- What fits together in a pass over a method's code.
use Rattle.std.specs.Prelude.{◌≡◌, ℕ, ◌≤◌, List}
use Rattle.std.specs.List.{All}
use Rattle.jv_stackmap.specs.Types.{words}
use Rattle.jv_verify_types.specs.Typed.{typed_all}
use Rattle.jv_verify_types.specs.Numbered.{Item}
use Rattle.jv_verify_pass.specs.Pass.{Pass, HasRoom}

-- the same class in the context and in the types of entries, and the types of the initial local entries, with their words
pub record IsPass (pass : Pass) (entries : List Item) (count : ℕ) : Type 0 where
  pub types : pass.types.constants.types ≡ pass.context.class.types
  pub pool : pass.types.constants.pool ≡ pass.context.class.by.class.constant_pool
  pub initial : pass.types.initial ≡ entries
  pub words : (names : List (List ℕ)) → count ≡ words (typed_all names entries)
  pub room : count ≤ pass.max_locals
  pub frames : All (HasRoom pass.types pass.max_locals) pass.frames
