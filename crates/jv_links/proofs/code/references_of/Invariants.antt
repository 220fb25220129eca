use Rattle.std.proofs.Common.{◌≡◌, ◌-◌, List, Some}
use Rattle.std.specs.Prelude.{string_bytes}
use Rattle.jv_code.specs.Insns.{Instruction}
use Rattle.jv_code.specs.Places.{IsCode, IsStartOrEnd}
use Rattle.jv_meaning_typing.specs.Uses.{Site}
use Rattle.jv_link.specs.Seen.{seen_site}
use Rattle.jv_lines.specs.Lines.{line_at}
use Rattle.jv_links.specs.Inside.Walked.{AreToldBelow}
use Rattle.jv_links.proofs.code.references_of.Given as goal

abbrev pub invariant-loop-offset : goal.invariant-loop-offset
invariant-loop-offset l =
    IsStartOrEnd l.code.bytes.now l.offset
    × ((s : Site) → seen_site l.classes.world l.site ≡ Some s → (insns : List Instruction) → IsCode l.code.bytes.now insns
    → AreToldBelow l.classes.world l.pool (line_at l.lines l.site.method) s insns l.offset (string_bytes l.text))

abbrev pub decreases-loop-offset : goal.decreases-loop-offset
decreases-loop-offset l = l.size - l.offset
