use Rattle.std.proofs.Common.{◌≡◌, ◌<◌, ◌∙◌, false, length, get_or, map, ap, sym, ℕ, List, arith}
use Rattle.std.proofs.lemmas.List.{length-map}
use Rattle.jv_classes.specs.Marks.{MarkedKeys, cell_of, has_print, is_marked, print_of, row_of}
use Rattle.jv_classes.specs.Inside.Marked.{cells_in, cells_of}
use Rattle.jv_classes.proofs.KeyRows.{wide_row, row_there, mark_in}
use Rattle.jv_classes.proofs.key_marks.KeyMarks.row.Goals as goal

pub returns-clause-width : goal.returns-clause-width
returns-clause-width c =
    let rows = c.self.inside.rows.items in
    let width = ap (λ (m : MarkedKeys). m.width) c.self.view_is in
    let there : c.row_of-slot.result < length rows = omega (arith, c.row_of-slot.ensures.within, c.len.ensures, c.self.inside.rows.ok.0) in
    ap length c.of.ensures ∙ (length-map c.deref.result.now (has_print c.print_of.result)
    ∙ (ap length c.deref.ensures.value ∙ (wide_row c.self.inside.width rows c.row_of-slot.result c.index.result.now c.self.invariant there c.index.ensures ∙ width)))

pub returns-clause-marks : goal.returns-clause-marks
returns-clause-marks c = λ class.
    let rows = c.self.inside.rows.items in
    let there : c.row_of-slot.result < length rows = omega (arith, c.row_of-slot.ensures.within, c.len.ensures, c.self.inside.rows.ok.0) in
    let size : c.len.result ≡ length (cells_of rows) = omega (arith, length-map rows cells_in, c.len.ensures, c.self.inside.rows.ok.0) in
    let cells = c.deref.ensures.value ∙ sym (row_there rows c.row_of-slot.result c.index.result.now there c.index.ensures) in
    ap (λ (marks : List _). get_or marks class false) c.of.ensures
    ∙ (ap (λ p. get_or (map (has_print p) c.deref.result.now) class false) c.print_of.ensures
    ∙ (mark_in _ c.deref.result.now class
    ∙ (ap (λ (row : List ℕ). has_print (print_of c.args.key) (get_or row class 0)) cells
    ∙ (ap (λ s. has_print (print_of c.args.key) (cell_of (cells_of rows) s class)) (c.row_of-slot.ensures.row ∙ ap (λ n. row_of n c.args.key) size)
    ∙ ap (λ m. is_marked m c.args.key class) c.self.view_is))))
