use Rattle.std.proofs.Common.{◌≡◌, false, Some, subst}
use Rattle.std.specs.Str.{bytes_eq}
use Rattle.jv_meaning_typing.specs.MemberRules.{is_that_name}
use Rattle.jv_verify_types.specs.Current.{CurrentClass}
use Rattle.jv_verify_types.proofs.KeepingClass.{no_array_is}
use Rattle.jv_verify_types.proofs.current_class.CurrentClass.has_no_array_name.Goals as goal

pub returns-clause-itself : goal.returns-clause-itself
returns-clause-itself c = λ text array.
    subst (λ (v : CurrentClass). bytes_eq text v.by.class.name ≡ false) c.self.view_is (no_array_is text (Some c.self.inside.class.now.class.name) c.self.invariant.no_array array)

pub returns-clause-superclass : goal.returns-clause-superclass
returns-clause-superclass c = λ text array.
    subst (λ (v : CurrentClass). is_that_name text v.by.class.super_class ≡ false) c.self.view_is
    (no_array_is text c.self.inside.class.now.class.super_class c.self.invariant.no_array_above array)
