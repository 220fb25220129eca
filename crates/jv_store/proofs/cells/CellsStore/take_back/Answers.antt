use Rattle.std.proofs.Common.{◌≡◌, ◌-◌, ap, sym, arith, ◌∙◌, vec_len}
use Rattle.jv_store.specs.Inside.Layouts.{fill, cut}
use Rattle.jv_store.proofs.Fills.{ends}
use Rattle.jv_store.proofs.cells.CellsStore.take_back.Goals as goal

pub invariant_of-self-clause-filled : goal.invariant_of-self-clause-filled
invariant_of-self-clause-filled c =
    let whole = ap (fill c.args.self.now.starts.items) (sym c.args.self.now.words.ok.0) ∙ c.args.self.now.filled in
    let at = ends c.args.self.now.starts.items c.pop-newest.new.self.items c.args.self.now.words.items c.pop-newest.result c.args.address 0
    c.pop-newest.ensures.items (λ h. c.pop-newest.ensures.variant.1 (omega (arith, h, c.args.self.now.starts.ok.0))) whole c.requires.newest
    (omega (arith, c.requires.some, c.requires.length)) in
    let cut_off : vec_len c.truncate.new.self ≡ c.args.address - 1 = omega (arith, c.truncate.ensures.len, at.inside, c.args.self.now.words.ok.0) in
    ap (fill c.pop-newest.new.self.items) cut_off ∙ at.filled

pub invariant_of-self-clause-few : goal.invariant_of-self-clause-few
invariant_of-self-clause-few c =
    let whole = ap (fill c.args.self.now.starts.items) (sym c.args.self.now.words.ok.0) ∙ c.args.self.now.filled in
    let at = ends c.args.self.now.starts.items c.pop-newest.new.self.items c.args.self.now.words.items c.pop-newest.result c.args.address 0
    c.pop-newest.ensures.items (λ h. c.pop-newest.ensures.variant.1 (omega (arith, h, c.args.self.now.starts.ok.0))) whole c.requires.newest
    (omega (arith, c.requires.some, c.requires.length)) in
    omega (arith, c.truncate.ensures.len, at.inside, at.size, c.requires.length, c.args.self.now.words.ok.0, c.args.self.now.few)

pub invariant_of-self-clause-words_fit : goal.invariant_of-self-clause-words_fit
invariant_of-self-clause-words_fit c =
    let whole = ap (fill c.args.self.now.starts.items) (sym c.args.self.now.words.ok.0) ∙ c.args.self.now.filled in
    let at = ends c.args.self.now.starts.items c.pop-newest.new.self.items c.args.self.now.words.items c.pop-newest.result c.args.address 0
    c.pop-newest.ensures.items (λ h. c.pop-newest.ensures.variant.1 (omega (arith, h, c.args.self.now.starts.ok.0))) whole c.requires.newest
    (omega (arith, c.requires.some, c.requires.length)) in
    omega (arith, c.truncate.ensures.len, c.truncate.ensures.capacity, at.inside, at.size, c.requires.length, c.args.self.now.words.ok.0, c.args.self.now.words_fit)

pub invariant_of-self-clause-starts_fit : goal.invariant_of-self-clause-starts_fit
invariant_of-self-clause-starts_fit c =
    let whole = ap (fill c.args.self.now.starts.items) (sym c.args.self.now.words.ok.0) ∙ c.args.self.now.filled in
    let at = ends c.args.self.now.starts.items c.pop-newest.new.self.items c.args.self.now.words.items c.pop-newest.result c.args.address 0
    c.pop-newest.ensures.items (λ h. c.pop-newest.ensures.variant.1 (omega (arith, h, c.args.self.now.starts.ok.0))) whole c.requires.newest
    (omega (arith, c.requires.some, c.requires.length)) in
    omega (arith, c.truncate.ensures.len, c.pop-newest.ensures.capacity, at.inside, at.size, c.requires.length, c.args.self.now.words.ok.0, c.args.self.now.starts_fit)

pub returns-clause-content : goal.returns-clause-content
returns-clause-content c =
    let whole = ap (fill c.args.self.now.starts.items) (sym c.args.self.now.words.ok.0) ∙ c.args.self.now.filled in
    let at = ends c.args.self.now.starts.items c.pop-newest.new.self.items c.args.self.now.words.items c.pop-newest.result c.args.address 0
    c.pop-newest.ensures.items (λ h. c.pop-newest.ensures.variant.1 (omega (arith, h, c.args.self.now.starts.ok.0))) whole c.requires.newest
    (omega (arith, c.requires.some, c.requires.length)) in
    ap (cut c.pop-newest.new.self.items) c.truncate.ensures.items ∙ sym at.newest.rest
