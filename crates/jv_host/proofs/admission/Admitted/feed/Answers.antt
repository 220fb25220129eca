use Rattle.std.proofs.Common.{length, refl, ap, arith}
use Rattle.jv_host.specs.Inside.Holding.{admission_of}
use Rattle.jv_host.proofs.Feeding.{too_long, not_too_long}
use Rattle.jv_host.proofs.admission.Admitted.feed.Goals as goal

pub overflow_sub-self : goal.overflow_sub-self
overflow_sub-self c = let few = c.requires.1.1.few in omega (arith, few)

pub returns-then-bytes-self-clause-refused : goal.returns-then-bytes-self-clause-refused
returns-then-bytes-self-clause-refused c = λ other.
    let more = c.if-bytes-self.true in
    too_long (admission_of c.args.self.now) (length c.args.bytes.now) c.args.self.now.came c.requires.1.1.came (omega (arith, more))

pub returns-then-bytes-self-clause-memory : goal.returns-then-bytes-self-clause-memory
returns-then-bytes-self-clause-memory c = λ e. absurd cc

pub returns-then-bytes-self-clause-nothing : goal.returns-then-bytes-self-clause-nothing
returns-then-bytes-self-clause-nothing c = λ empty.
    let more = c.if-bytes-self.true in
    let none = ap (λ bytes. length bytes) empty in
    absurd (omega (arith, more, none))

pub returns-then-is_empty-clause-allowed : goal.returns-then-is_empty-clause-allowed
returns-then-is_empty-clause-allowed c =
    let few = c.if-bytes-self.false in
    let most = c.requires.1.1.few in
    not_too_long (admission_of c.args.self.now) (length c.args.bytes.now) c.args.self.now.came c.requires.1.1.came (omega (arith, few, most))

pub join-requires-clause-few : goal.join-requires-clause-few
join-requires-clause-few c = let few = c.if-bytes-self.false in let most = c.requires.1.1.few in omega (arith, few, most)

pub returns-in-Ok-clause-allowed : goal.returns-in-Ok-clause-allowed
returns-in-Ok-clause-allowed c =
    let few = c.if-bytes-self.false in
    let most = c.requires.1.1.few in
    not_too_long (admission_of c.args.self.now) (length c.args.bytes.now) c.args.self.now.came c.requires.1.1.came (omega (arith, few, most))

pub returns-in-Err-clause-memory : goal.returns-in-Err-clause-memory
returns-in-Err-clause-memory c = λ e.
    let few = c.if-bytes-self.false in
    let most = c.requires.1.1.few in
    not_too_long (admission_of c.args.self.now) (length c.args.bytes.now) c.args.self.now.came c.requires.1.1.came (omega (arith, few, most))

pub returns-in-Err-clause-refused : goal.returns-in-Err-clause-refused
returns-in-Err-clause-refused c = λ other. absurd (other refl)
