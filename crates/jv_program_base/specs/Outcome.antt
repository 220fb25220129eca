-- What there is to write (own).
use Rattle.std.specs.Prelude.{ℕ, List, Option, option_map}
use Rattle.jv_program_base.specs.declared.outcome.Outcome.{Outcome}

-- what a guest wrote, where that goes to standard output in the report's place
abbrev pub raw_bytes : Outcome → Option (List ℕ)
raw_bytes outcome = option_map (λ bytes. bytes.items) outcome.raw
