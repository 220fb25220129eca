use Rattle.std.proofs.Common.{◌≡◌, ℕ, List, [], ◌∷◌, ◌++◌, length, map, sym, ap, subst, ◌∙◌, arith}
use Rattle.jv_interp.specs.Started.{budget_of}
use Rattle.jv_host.specs.declared.admission.Admitted.{Admitted}
use Rattle.jv_host.specs.Files.{guest_of}
use Rattle.jv_host.specs.Host.{Admission}
use Rattle.jv_host.specs.Limits.{first_refusal}
use Rattle.jv_host.specs.Calls.{admission}
use Rattle.jv_host.specs.Inside.Holding.{admission_of, AreHeld}
use Rattle.jv_host.proofs.Broken.{not_broken, standing}
use Rattle.jv_host.proofs.Places.{count_of_map, map_of_more}
use Rattle.jv_host.proofs.MayBegin.{few_guests, few_in_library, most_cells}
use Rattle.jv_host.proofs.Holdings.{has_place, one_more}
use Rattle.jv_host.proofs.host.Host.admit.Goals as goal

pub begin-requires-clause-library : goal.begin-requires-clause-library
begin-requires-clause-library g c =
    few_in_library (guest_of c.args.files) (budget_of c.args.budget) c.len-count.result (sym c.first_refusal.ensures ∙ c.in_default.is)

pub begin-requires-clause-total : goal.begin-requires-clause-total
begin-requires-clause-total g c =
    let none = sym c.first_refusal.ensures ∙ c.in_default.is in
    let few = few_guests (guest_of c.args.files) (budget_of c.args.budget) c.len-count.result none in
    let count = c.len-count.ensures in
    let size = c.self.inside.guests.ok.0 in
    has_place c.self.inside.guests.items _ _ c.self.invariant c.cells_are_budgeted.ensures (omega (arith, few, count, size)) c.args.budget.cells
    (most_cells (guest_of c.args.files) (budget_of c.args.budget) c.len-count.result none)

pub invariant_of-self-2 : goal.invariant_of-self-2
invariant_of-self-2 g c =
    let items = c.self.inside.guests.items in
    let none = sym c.first_refusal.ensures ∙ c.in_default.is in
    let few = few_guests (guest_of c.args.files) (budget_of c.args.budget) c.len-count.result none in
    let count = c.len-count.ensures in
    let size = c.self.inside.guests.ok.0 in
    subst (λ (l : List Admitted). AreHeld l (g.S.Store.room_left c.begin.new.store) (g.S.Store.content c.begin.new.store))
    (ap (λ (l : List Admitted). l ++ c.in_ok-admitted.admitted ∷ []) (sym {A = List Admitted} c.reserve.ensures.items)
    ∙ sym {A = List Admitted} c.push_reserved.ensures.items)
    (one_more items _ _ c.self.invariant _ c.in_ok-admitted.admitted _ _ (c.in_ok-admitted.ensures {u = tt}).begun (omega (arith, few, count, size))
    (c.in_ok-admitted.ensures {u = tt}).room)

pub returns-clause-number : goal.returns-clause-number
returns-clause-number g c =
    let count = c.len-count.ensures in
    let size = c.self.inside.guests.ok.0 in
    let same = count_of_map admission_of c.self.inside.guests.items in
    let view = ap (λ (l : List Admission). length l) c.self.view_is in
    omega (arith, count, size, same, view)

pub returns-clause-allowed : goal.returns-clause-allowed
returns-clause-allowed g c =
    let count = c.len-count.ensures in
    let size = c.self.inside.guests.ok.0 in
    let same = count_of_map admission_of c.self.inside.guests.items in
    let view = ap (λ (l : List Admission). length l) c.self.view_is in
    let number : c.len-count.result ≡ length c.args.self.now = omega (arith, count, size, same, view) in
    ap (λ (n : ℕ). first_refusal (guest_of c.args.files) (budget_of c.args.budget) n) (sym number) ∙ sym c.first_refusal.ensures ∙ c.in_default.is

pub returns-clause-stands : goal.returns-clause-stands
returns-clause-stands g c =
    standing (admission (guest_of c.args.files) (budget_of c.args.budget)) c.in_ok-admitted.admitted _ _ (c.in_ok-admitted.ensures {u = tt}).begun

pub returns-clause-admitted : goal.returns-clause-admitted
returns-clause-admitted g c =
    ap (λ (l : List Admitted). map admission_of l)
    (c.push_reserved.ensures.items ∙ ap (λ (l : List Admitted). l ++ c.in_ok-admitted.admitted ∷ []) c.reserve.ensures.items)
    ∙ map_of_more admission_of c.self.inside.guests.items c.in_ok-admitted.admitted
    ∙ ap (λ (l : List Admission). l ++ admission_of c.in_ok-admitted.admitted ∷ []) c.self.view_is
    ∙ ap (λ (a : Admission). c.args.self.now ++ a ∷ []) (c.in_ok-admitted.ensures {u = tt}).begun.admission_is

pub returns-in_err-admitted-clause-whole : goal.returns-in_err-admitted-clause-whole
returns-in_err-admitted-clause-whole g c =
    not_broken c.no_library_stands.ensures (guest_of c.args.files) c.from_residual.result c.in_err-admitted.field-0.0 c.from_residual.ensures.1
    (c.in_err-admitted.ensures {u = tt}).why
