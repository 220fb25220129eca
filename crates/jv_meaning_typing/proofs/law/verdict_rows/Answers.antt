use Rattle.jv_meaning_typing.proofs.MapVerdicts.{map_verdict_rows, super_verdict_rows}
use Rattle.jv_meaning_typing.proofs.Verdicts.{plain_verdict_rows}
use Rattle.jv_meaning_typing.proofs.law.verdict_rows.Goals as goal

pub returns : goal.returns
returns c = record {
  plain = plain_verdict_rows c.one_list.ensures c.stands_in_list.ensures c.starts_apart.ensures;
  mapped = map_verdict_rows c.stands_in_list.ensures c.starts_apart.ensures;
  super = super_verdict_rows c.stands_in_list.ensures c.starts_apart.ensures;
}
