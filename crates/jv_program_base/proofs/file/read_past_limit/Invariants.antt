use Rattle.std.proofs.Common.{◌+◌, ◌≤◌, vec_len}
use Rattle.std.specs.Io.KnownBytes.{Consumes}
use Rattle.jv_program_base.proofs.file.read_past_limit.Given as goal

abbrev pub invariant-loop : goal.invariant-loop
invariant-loop g l =
    (vec_len l.bytes ≤ l.limit + 1) × Consumes (g.F.Read.remaining l.fn.file) (g.F.Read.remaining l.file) l.bytes.items
