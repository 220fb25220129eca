use Rattle.std.proofs.Common.{◌≡◌, ◌<◌, ◌∙◌, length, set, List, ℕ, sym, ap, subst, arith}
use Rattle.std.proofs.lemmas.List.{length-map}
use Rattle.jv_classes.specs.Marks.{MarkedKeys, AreKept, is_marked, row_of}
use Rattle.jv_classes.specs.Inside.Marked.{AreWide, cells_in, cells_of}
use Rattle.jv_classes.proofs.KeyRows.{wide_row, wide_more, is_set, are_kept, row_written}
use Rattle.jv_classes.proofs.key_marks.KeyMarks.mark.Goals as goal

pub put_print-requires : goal.put_print-requires
put_print-requires c =
    let rows = c.self.inside.rows.items in
    let width = ap (λ (m : MarkedKeys). m.width) c.self.view_is in
    let there : c.row_of-slot.result < length rows = omega (arith, c.row_of-slot.ensures.within, c.len.ensures, c.self.inside.rows.ok.0) in
    let long = wide_row c.self.inside.width rows c.row_of-slot.result c.index_mut.result.now c.self.invariant there c.index_mut.ensures.value in
    omega (arith, long, width, c.requires)

pub invariant_of-self : goal.invariant_of-self
invariant_of-self c =
    let rows = c.self.inside.rows.items in
    let width = ap (λ (m : MarkedKeys). m.width) c.self.view_is in
    let there : c.row_of-slot.result < length rows = omega (arith, c.row_of-slot.ensures.within, c.len.ensures, c.self.inside.rows.ok.0) in
    let there' : c.row_of-slot.result < length (cells_of rows) = omega (arith, there, length-map rows cells_in) in
    let within : c.args.class < c.self.inside.width = omega (arith, width, c.requires) in
    let wrote = row_written rows c.row_of-slot.result c.index_mut.result.now c.put_print.new.row c.args.class c.print_of.result there c.index_mut.ensures.value c.put_print.ensures in
    subst (AreWide c.self.inside.width) (sym wrote) (wide_more c.self.inside.width (cells_of rows) c.row_of-slot.result c.args.class c.print_of.result c.self.invariant there' within)

pub returns-clause-marked : goal.returns-clause-marked
returns-clause-marked c =
    let rows = c.self.inside.rows.items in
    let width = ap (λ (m : MarkedKeys). m.width) c.self.view_is in
    let there : c.row_of-slot.result < length rows = omega (arith, c.row_of-slot.ensures.within, c.len.ensures, c.self.inside.rows.ok.0) in
    let many = length-map rows cells_in in
    let there' : c.row_of-slot.result < length (cells_of rows) = omega (arith, there, many) in
    let within : c.args.class < c.self.inside.width = omega (arith, width, c.requires) in
    let size : c.len.result ≡ length (cells_of rows) = omega (arith, many, c.len.ensures, c.self.inside.rows.ok.0) in
    let wrote = row_written rows c.row_of-slot.result c.index_mut.result.now c.put_print.new.row c.args.class c.print_of.result there c.index_mut.ensures.value c.put_print.ensures in
    ap (λ (r : List (List ℕ)). is_marked (record { width = c.self.inside.width; rows = r }) c.args.key c.args.class) wrote
    ∙ is_set c.self.inside.width (cells_of rows) c.row_of-slot.result c.args.class c.print_of.result c.self.invariant there' within c.args.key
    (c.row_of-slot.ensures.row ∙ ap (λ n. row_of n c.args.key) size) c.print_of.ensures

pub returns-clause-kept : goal.returns-clause-kept
returns-clause-kept c =
    let rows = c.self.inside.rows.items in
    let width = ap (λ (m : MarkedKeys). m.width) c.self.view_is in
    let there : c.row_of-slot.result < length rows = omega (arith, c.row_of-slot.ensures.within, c.len.ensures, c.self.inside.rows.ok.0) in
    let there' : c.row_of-slot.result < length (cells_of rows) = omega (arith, there, length-map rows cells_in) in
    let within : c.args.class < c.self.inside.width = omega (arith, width, c.requires) in
    let wrote = row_written rows c.row_of-slot.result c.index_mut.result.now c.put_print.new.row c.args.class c.print_of.result there c.index_mut.ensures.value c.put_print.ensures in
    subst (λ (old : MarkedKeys). AreKept old (record { width = c.self.inside.width; rows = cells_of (set rows c.row_of-slot.result c.put_print.new.row) })) c.self.view_is
    (subst (λ (r : List (List ℕ)). AreKept (record { width = c.self.inside.width; rows = cells_of rows }) (record { width = c.self.inside.width; rows = r })) (sym wrote)
    (are_kept c.self.inside.width (cells_of rows) c.row_of-slot.result c.args.class c.print_of.result c.self.invariant there' within))
