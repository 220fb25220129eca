use Rattle.std.proofs.Common.{◌∙◌, ap}
use Rattle.clap.specs.Words.{found_of, one_text}
use Rattle.clap.proofs.WalkLemmas.{one_text-rows}
use Rattle.jv_program_words.specs.Settings.{is_set}
use Rattle.jv_program_words.proofs.Texts.{set_as_read}
use Rattle.jv_program_words.proofs.reading.is_set.Goals as goal

pub returns : goal.returns
returns c =
    let found = found_of c.args.found.now in
    let id = c.args.name.now in
    c.unwrap_or.ensures ∙ set_as_read _ (one_text found id) c.get_one.result c.get_one.ensures.none c.get_one.ensures.value ∙ ap is_set (one_text-rows found id)
