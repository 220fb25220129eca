use Rattle.std.proofs.Common.{refl}
use Rattle.jv_interp.proofs.Shown.{told_running, told_over}
use Rattle.jv_interp.proofs.guest.Guest.is_running.Goals as goal

pub returns-in-Running : goal.returns-in-Running
returns-in-Running c = λ g b feeds n addresses blocks h.
    (λ told. told_running h.judged.program.world h.state.control.end c.args.self.now.control.end c.in-Running.is h.stands.control.end, λ running. refl)

pub returns-in_default : goal.returns-in_default
returns-in_default c = λ g b feeds n addresses blocks h.
    (λ told. absurd cc, λ running. absurd (told_over h.judged.program.world h.state.control.end c.args.self.now.control.end c.in_default.not-Running h.stands.control.end running))
