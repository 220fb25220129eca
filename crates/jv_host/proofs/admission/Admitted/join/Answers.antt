use Rattle.std.proofs.Common.{◌≡◌, ◌+◌, ◌++◌, ◌∷◌, [], List, ℕ, length, refl, sym, ap, subst, ◌∙◌, arith}
use Rattle.jv_interp.specs.Standing.{IsFed}
use Rattle.jv_host.specs.declared.admission.Fed.{Fed}
use Rattle.jv_host.specs.Host.{fed_now}
use Rattle.jv_host.specs.Inside.Holding.{admission_of}
use Rattle.jv_host.proofs.Places.{on_any_err}
use Rattle.jv_host.proofs.Feeding.{same_held, same_admission, fed_held, fed_admission}
use Rattle.jv_host.proofs.admission.Admitted.join.Goals as goal

pub returns-in_err-reserve-clause-held : goal.returns-in_err-reserve-clause-held
returns-in_err-reserve-clause-held c =
    same_held c.args.self.now (record c.args.self.now { feeds = c.reserve.new.self }) c.reserve.ensures.items refl
    (λ g b feeds n addresses blocks h. h)

pub returns-in_err-feed-clause-held : goal.returns-in_err-feed-clause-held
returns-in_err-feed-clause-held c =
    same_held c.args.self.now (record c.args.self.now { feeds = c.reserve.new.self; guest = c.feed.new.self }) c.reserve.ensures.items refl
    c.in_err-feed.ensures.refused

pub returns-in_err-feed-clause-same : goal.returns-in_err-feed-clause-same
returns-in_err-feed-clause-same c =
    on_any_err c.from_residual-in_err-feed.result _
    (same_admission c.args.self.now (record c.args.self.now { feeds = c.reserve.new.self; guest = c.feed.new.self }) c.reserve.ensures.items
    c.in_err-feed.ensures.refused c.requires.held.1.0 c.requires.held.0 c.requires.held.1.1)

pub returns-clause-held : goal.returns-clause-held
returns-clause-held c =
    let fed : Fed = record { own_step = c.steps-own_step.result; bytes = c.in_ok-copy.copy } in
    let copied : c.in_ok-copy.copy.items ≡ c.args.bytes.now = c.in_ok-copy.ensures in
    let count = ap (λ (l : List ℕ). length l) copied in
    let few = c.requires.few in
    fed_held c.args.self.now
    (record c.args.self.now { feeds = c.push_reserved.new.self; came = c.args.self.now.came + length c.args.bytes.now; guest = c.feed.new.self })
    fed
    (subst (λ (bytes : List ℕ). IsFed bytes c.args.self.now.guest c.feed.new.self) (sym copied) c.in_ok-feed.ensures.fed)
    (c.push_reserved.ensures.items ∙ ap (λ (l : List Fed). l ++ fed ∷ []) c.reserve.ensures.items) c.steps-own_step.ensures
    (omega (arith, count)) few

pub returns-clause-fed : goal.returns-clause-fed
returns-clause-fed c =
    let fed : Fed = record { own_step = c.steps-own_step.result; bytes = c.in_ok-copy.copy } in
    let copied : c.in_ok-copy.copy.items ≡ c.args.bytes.now = c.in_ok-copy.ensures in
    let count = ap (λ (l : List ℕ). length l) copied in
    let some = c.requires.some in
    fed_admission c.args.self.now
    (record c.args.self.now { feeds = c.push_reserved.new.self; came = c.args.self.now.came + length c.args.bytes.now; guest = c.feed.new.self })
    fed
    (subst (λ (bytes : List ℕ). IsFed bytes c.args.self.now.guest c.feed.new.self) (sym copied) c.in_ok-feed.ensures.fed)
    (c.push_reserved.ensures.items ∙ ap (λ (l : List Fed). l ++ fed ∷ []) c.reserve.ensures.items) c.steps-own_step.ensures
    c.requires.held.1.0 c.requires.held.0 c.requires.held.1.1 (omega (arith, count, some))
    ∙ ap (λ (bytes : List ℕ). fed_now bytes (admission_of c.args.self.now)) copied
