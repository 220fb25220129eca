use Rattle.std.proofs.lemmas.Grind.{common_steps}
use Rattle.std.proofs.Common.{rules, ◌≡◌, ◌<◌, false, sym, arith}
use Rattle.std.proofs.lemmas.Fmt.{hex_byte}
use Rattle.jv_program_base.specs.Escape.{is_plain}
use Rattle.jv_program_base.proofs.escape.EscapedByteDisplay.fmt.Goals as goal

-- the two digits that `{:02x}` writes are those of the definition
pub returns-else-is_shown_plain-clause-writes : goal.returns-else-is_shown_plain-clause-writes
returns-else-is_shown_plain-clause-writes g c =
    let byte = c.args.self.now.0 in
    let fits : byte < 256 = search rules in
    let digits = hex_byte false byte fits in
    let plain : is_plain byte ≡ false = sym c.if-is_shown_plain.ensures in
    rw plain (rw (c.laid_out.ensures, c.in_radix.ensures, digits) at c.write-else-is_shown_plain.ensures.writes)

pub returns-then-is_shown_plain-clause-writes : goal.returns-then-is_shown_plain-clause-writes
returns-then-is_shown_plain-clause-writes g c = grind (arith, common_steps)
