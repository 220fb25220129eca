use Rattle.std.proofs.Common.{◌∙◌}
use Rattle.std.specs.Str.{bytes_eq}
use Rattle.jv_program_base.proofs.ClassFileNames.{list_any-map}
use Rattle.jv_program_base.proofs.names.is_listed_name.Goals as goal

pub returns : goal.returns
returns c = c.any_is.ensures ∙ list_any-map (λ name. bytes_eq name c.args.wanted.now) c.args.names.now
