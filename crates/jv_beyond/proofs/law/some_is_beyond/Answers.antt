use Rattle.jv_beyond.proofs.SomeBeyond.{beyond_none}
use Rattle.jv_beyond.proofs.law.some_is_beyond.Goals as goal

pub returns : goal.returns
returns c = λ bytes structure file more never.
    beyond_none structure never bytes file (c.is_some_class.ensures structure file.well_formed) c.one_content.ensures more
