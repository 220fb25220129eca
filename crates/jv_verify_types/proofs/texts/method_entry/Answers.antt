use Rattle.std.proofs.Common.{rules, ◌≡◌, length, map, subst}
use Rattle.jv_text.specs.Seen.{seen_field_type}
use Rattle.jv_stackmap.specs.Types.{value_type}
use Rattle.jv_verify_types.specs.Inside.KeptTexts.{AreArguments}
use Rattle.jv_verify_types.proofs.Arguments.{joined_range}
use Rattle.jv_verify_types.proofs.texts.method_entry.Goals as goal

pub returns-clause-entry : goal.returns-clause-entry
returns-clause-entry c =
    let from : c.in_ok-start.start ≡ length c.args.arguments.now.items = search rules in
    let to : c.in_ok-end.end ≡ length c.push_arguments.new.arguments.items = search rules in
    record {
      parameters = subst (λ l. AreArguments c.result_by_number.new.names.names c.push_arguments.new.arguments.items c.in_ok-start.start
          c.in_ok-end.end (map value_type (map seen_field_type l))) c.deref.ensures.value
          (joined_range c.in_ok-start.start c.in_ok-end.end c.in_ok-push_arguments.ensures.joins c.in_ok-result.ensures.goes_on from to);
      result = c.in_ok-result.ensures.number;
    }
