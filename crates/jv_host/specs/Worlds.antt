-- Two worlds (own): what a host shows of a guest is decided by what that guest itself brought, may use, was fed and had of steps. Who else
-- was admitted, in which order turns came and what the store is made of shows nowhere.
use Rattle.std.specs.Prelude.{◌≡◌, ℕ, ◌<◌, List, Some, slice_get}
use Rattle.jv_meaning_machine.specs.Alone.{came_at}
use Rattle.jv_meaning_machine.specs.Observation.{Observed}
use Rattle.jv_host.specs.Host.{Admission}
use Rattle.jv_host.specs.Calls.{IsShown}

-- Two guests brought the same files, main class name and input, have the same budget and took equally many steps; and at each of their own
-- steps before the last of these the same bytes came to them, in whatever feeds.
pub record AreAlike (a b : Admission) : Type 0 where
  pub guest : a.guest ≡ b.guest
  pub budget : a.budget ≡ b.budget
  pub steps : a.steps ≡ b.steps
  pub fed : (k : ℕ) → k < a.steps → came_at k a.feeds ≡ came_at k b.feeds

-- Two hosts show the same of two such guests, whatever their numbers are there, and whoever else is.
abbrev pub TwoWorlds : Type 0
TwoWorlds =
    (one other : List Admission) (id place : ℕ) (a b : Admission) (o p : Observed) → slice_get one id ≡ Some a
    → slice_get other place ≡ Some b → AreAlike a b → IsShown one id o → IsShown other place p → o ≡ p
