use Rattle.std.proofs.Common.{ℕ, Some, sym, subst, ◌∙◌, arith}
use Rattle.jv_interp_objects.specs.Literals.{LiteralGiven}
use Rattle.jv_interp_objects.proofs.LiteralMade.{kept_length, kept_is, known, is_text, lacking, given}
use Rattle.jv_interp_objects.proofs.literals.literal.Goals as goal

pub returns-then-known-ne0-clause-finds : goal.returns-then-known-ne0-clause-finds
returns-then-known-ne0-clause-finds g c = λ texts program memory addresses made h.
    let held = c.args.held.now in
    let before = g.S.Store.content c.args.store.now in
    let is = kept_is c.args.number c.args.text.now held before texts program memory addresses made h c.index-known.result.now c.index-known.ensures in
    subst (λ (n : ℕ). LiteralGiven program.world texts addresses held before made held before (Some n)) (sym is)
    (known c.args.number c.args.text.now held before texts program memory addresses made h (λ e. c.if-known-ne0.true (is ∙ e)))

pub pay_text-requires-clause-text : goal.pay_text-requires-clause-text
pay_text-requires-clause-text g c =
    let held = c.args.held.now in
    let before = g.S.Store.content c.args.store.now in
    let q = c.requires.can in
    let is = kept_is c.args.number c.args.text.now held before q.texts q.program q.memory q.addresses q.made q.finds c.index-known.result.now c.index-known.ensures in
    is_text c.args.number c.args.text.now held before q.texts q.program q.memory q.addresses q.made q.finds (sym is ∙ c.if-known-ne0.false)

pub keep_literal-requires : goal.keep_literal-requires
keep_literal-requires g c =
    let q = c.requires.can in
    kept_length c.args.number c.args.text.now c.args.held.now (g.S.Store.content c.args.store.now) q.texts q.program q.memory q.addresses q.made q.finds

pub returns-in-Some-clause-finds : goal.returns-in-Some-clause-finds
returns-in-Some-clause-finds g c = λ texts program memory addresses made h.
    let held = c.args.held.now in
    let before = g.S.Store.content c.args.store.now in
    let is = kept_is c.args.number c.args.text.now held before texts program memory addresses made h c.index-known.result.now c.index-known.ensures in
    let paid = rw c.in-Some.is at c.in_ok-made.ensures.paid in
    given c.args.number c.args.text.now held before texts program memory addresses made h (sym is ∙ c.if-known-ne0.false)
    c.pay_text.new.cells (g.S.Store.content c.pay_text.new.store) c.in-Some.string paid c.keep_literal.new.held c.requires.few
    c.keep_literal.ensures.own c.keep_literal.ensures.literals

pub returns-in-None-clause-finds : goal.returns-in-None-clause-finds
returns-in-None-clause-finds g c = λ texts program memory addresses made h.
    let held = c.args.held.now in
    let before = g.S.Store.content c.args.store.now in
    let is = kept_is c.args.number c.args.text.now held before texts program memory addresses made h c.index-known.result.now c.index-known.ensures in
    let paid = rw c.in-None.is at c.in_ok-made.ensures.paid in
    lacking c.args.number c.args.text.now held before texts program memory addresses made h
    c.pay_text.new.cells (g.S.Store.content c.pay_text.new.store) (sym is ∙ c.if-known-ne0.false) paid

pub returns-in-None-clause-room : goal.returns-in-None-clause-room
returns-in-None-clause-room g c =
    let held = c.args.held.now in
    let before = g.S.Store.content c.args.store.now in
    let q = c.requires.can in
    let is = kept_is c.args.number c.args.text.now held before q.texts q.program q.memory q.addresses q.made q.finds c.index-known.result.now c.index-known.ensures in
    let spelled = is_text c.args.number c.args.text.now held before q.texts q.program q.memory q.addresses q.made q.finds (sym is ∙ c.if-known-ne0.false) in
    let paid = rw c.in-None.is at c.in_ok-made.ensures.paid in
    let same = (paid spelled.0 spelled.1).same_cells in
    let left = c.in_ok-made.ensures.room in
    omega (arith, same, left)
