use Rattle.jv_link.specs.declared.error.LinkError.TheVariants as errors
use Rattle.jv_interp_members.proofs.Linked.{numbered}
use Rattle.jv_interp_members.proofs.errors.number_of_error.Goals as goal

pub returns-in-NoClassDefFoundError : goal.returns-in-NoClassDefFoundError
returns-in-NoClassDefFoundError c =
    numbered c.system_has_numbers.ensures c.args.error errors.NoClassDefFoundError c.in-NoClassDefFoundError.is 25 (λ w n. n.no_class)

pub returns-in-ClassCircularityError : goal.returns-in-ClassCircularityError
returns-in-ClassCircularityError c =
    numbered c.system_has_numbers.ensures c.args.error errors.ClassCircularityError c.in-ClassCircularityError.is 22 (λ w n. n.circularity)

pub returns-in-IncompatibleClassChangeError : goal.returns-in-IncompatibleClassChangeError
returns-in-IncompatibleClassChangeError c =
    numbered c.system_has_numbers.ensures c.args.error errors.IncompatibleClassChangeError c.in-IncompatibleClassChangeError.is 24 (λ w n. n.class_change)

pub returns-in-IllegalAccessError : goal.returns-in-IllegalAccessError
returns-in-IllegalAccessError c =
    numbered c.system_has_numbers.ensures c.args.error errors.IllegalAccessError c.in-IllegalAccessError.is 28 (λ w n. n.illegal_access)

pub returns-in-VerifyError : goal.returns-in-VerifyError
returns-in-VerifyError c =
    numbered c.system_has_numbers.ensures c.args.error errors.VerifyError c.in-VerifyError.is 26 (λ w n. n.verify)

pub returns-in-NoSuchFieldError : goal.returns-in-NoSuchFieldError
returns-in-NoSuchFieldError c =
    numbered c.system_has_numbers.ensures c.args.error errors.NoSuchFieldError c.in-NoSuchFieldError.is 30 (λ w n. n.no_field)

pub returns-in-NoSuchMethodError : goal.returns-in-NoSuchMethodError
returns-in-NoSuchMethodError c =
    numbered c.system_has_numbers.ensures c.args.error errors.NoSuchMethodError c.in-NoSuchMethodError.is 31 (λ w n. n.no_method)

pub returns-in-AbstractMethodError : goal.returns-in-AbstractMethodError
returns-in-AbstractMethodError c =
    numbered c.system_has_numbers.ensures c.args.error errors.AbstractMethodError c.in-AbstractMethodError.is 27 (λ w n. n.abstract_method)

pub returns-in-InstantiationError : goal.returns-in-InstantiationError
returns-in-InstantiationError c =
    numbered c.system_has_numbers.ensures c.args.error errors.InstantiationError c.in-InstantiationError.is 29 (λ w n. n.instantiation)
