use Rattle.std.specs.Option.{option_map}
use Rattle.std.proofs.Output.{has_written_of_eq}
use Rattle.jv_stackmap.specs.Seen.{seen_type}
use Rattle.jv_verify.specs.Before.{seen_frame}
use Rattle.jv_program_explain.proofs.Wanted.{item_text, local_text}
use Rattle.jv_program_explain.proofs.unmet.ShownDifferenceDisplay.fmt.Goals as goal

pub returns-in-Local-clause-writes : goal.returns-in-Local-clause-writes
returns-in-Local-clause-writes g c = λ plain ok.
    has_written_of_eq _ _ _ _ _ (local_text (seen_frame c.args.self.now.frame.now) (seen_frame c.args.self.now.map.now) c.args.self.now.difference c.in-Local.index c.from-place.result
    (option_map seen_type c.local_at-from.result) (option_map seen_type c.local_at-to.result) c.in-Local.is c.from-place.ensures c.local_at-from.ensures c.local_at-to.ensures)
    (c.write.ensures.writes plain ok)

pub returns-in-Item-clause-writes : goal.returns-in-Item-clause-writes
returns-in-Item-clause-writes g c = λ plain ok.
    has_written_of_eq _ _ _ _ _ (item_text (seen_frame c.args.self.now.frame.now) (seen_frame c.args.self.now.map.now) c.args.self.now.difference c.in-Item.depth
    (option_map seen_type c.item_at-from.result) (option_map seen_type c.item_at-to.result) c.in-Item.is c.item_at-from.ensures c.item_at-to.ensures)
    (c.write-in-Item.ensures.writes plain ok)
