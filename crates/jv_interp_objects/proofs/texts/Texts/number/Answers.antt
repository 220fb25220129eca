use Rattle.std.proofs.Common.{◌≡◌, ◌<◌, ◌∙◌, ℕ, Some, length, sym, subst, ap, refl, arith, slice_get}
use Rattle.std.proofs.lemmas.Option.{slice_get_read, slice_get_within}
use Rattle.jv_interp_objects.specs.declared.texts.ClassTexts.{ClassTexts}
use Rattle.jv_interp_objects.specs.Texts.{HasText}
use Rattle.jv_interp_objects.proofs.InTexts.{text_at, some_same}
use Rattle.jv_interp_objects.proofs.texts.Texts.number.Goals as goal

pub returns-then-index-len : goal.returns-then-index-len
returns-then-index-len c world l text h at string =
    let t = text_at world c.args.self.now c.args.class c.args.index l text h at string in
    let classes = c.args.self.now.classes in
    let less : c.args.class < length classes.items = omega (arith, c.if-class-len.true, c.len.ensures, classes.ok.0) in
    let row = slice_get_read classes.items (length classes.items) c.args.class c.index.result.now refl less c.index.ensures in
    let same : t.0 ≡ c.index.result.now = some_same (sym t.1 ∙ row) in
    let numbers = c.index.result.now.numbers in
    let within : c.from-index.result < length numbers.items = omega (arith, c.if-index-len.true, c.len-then-class-len.ensures, numbers.ok.0) in
    let read = slice_get_read numbers.items (length numbers.items) c.from-index.result c.index-then-index-len.result.now refl within c.index-then-index-len.ensures in
    let there : slice_get numbers.items c.from-index.result ≡ Some t.2 =
    ap (slice_get numbers.items) c.from-index.ensures ∙ ap (λ (r : ClassTexts). slice_get r.numbers.items c.args.index) (sym same) ∙ t.3 in
    subst (λ (n : ℕ). HasText c.args.self.now.names text n) (some_same (sym there ∙ read)) t.4

pub returns-else-index-len : goal.returns-else-index-len
returns-else-index-len c world l text h at string =
    let t = text_at world c.args.self.now c.args.class c.args.index l text h at string in
    let classes = c.args.self.now.classes in
    let less : c.args.class < length classes.items = omega (arith, c.if-class-len.true, c.len.ensures, classes.ok.0) in
    let row = slice_get_read classes.items (length classes.items) c.args.class c.index.result.now refl less c.index.ensures in
    let same : t.0 ≡ c.index.result.now = some_same (sym t.1 ∙ row) in
    let numbers = c.index.result.now.numbers in
    let there : slice_get numbers.items c.args.index ≡ Some t.2 = ap (λ (r : ClassTexts). slice_get r.numbers.items c.args.index) (sym same) ∙ t.3 in
    let within = slice_get_within numbers.items c.args.index t.2 there in
    absurd (omega (arith, within, c.if-index-len.false, c.len-then-class-len.ensures, c.from-index.ensures, numbers.ok.0))

pub returns-else-class-len : goal.returns-else-class-len
returns-else-class-len c world l text h at string =
    let t = text_at world c.args.self.now c.args.class c.args.index l text h at string in
    let classes = c.args.self.now.classes in
    let less = slice_get_within classes.items c.args.class t.0 t.1 in
    absurd (omega (arith, less, c.if-class-len.false, c.len.ensures, classes.ok.0))
