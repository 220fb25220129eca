use Rattle.std.proofs.Common.{◌≡◌, ◌≤◌, ℕ, List, ◌++◌, length, sym, ap, subst, ◌∙◌}
use Rattle.std.specs.Prelude.{string_bytes}
use Rattle.std.specs.List.{flat_map}
use Rattle.jv_lines.specs.Lines.{line_at}
use Rattle.jv_meaning_world.specs.Verdicts.{declared_by}
use Rattle.jv_verify.proofs.Shown.{of_structure}
use Rattle.jv_program_explain.specs.Listing.{IsListedTo, Stops}
use Rattle.jv_program_explain.specs.Inside.Walked.{framed_text}
use Rattle.jv_program_explain.proofs.Listed.{all_taken, is_long, list_whole}
use Rattle.jv_program_explain.proofs.walk.list_to.Goals as goal

pub stop_told-requires-clause-long : goal.stop_told-requires-clause-long
stop_told-requires-clause-long c = λ less.
    subst (λ (t : List ℕ). 1048576 ≤ length t) (sym (c.deref.ensures ∙ ap string_bytes c.into_text-text.ensures)) (is_long _ (c.in_ok-stop.ensures.full less))

pub returns : goal.returns
returns c = λ m body at has.
    let class = c.args.class.now in
    let pool = c.pool.result.now in
    let line = line_at c.args.lines.now c.from.result in
    let (all, folds, framed) = c.in_ok-stop.ensures.took in
    let text = string_bytes c.into_text-text.result in
    let behind = string_bytes c.in_ok-behind.behind in
    let (same, taken) = all_taken _ c.tell_frames.new.sink all folds in
    let listing : text ≡ flat_map (framed_text pool line) all =
    ap string_bytes c.into_text-text.ensures ∙ (taken ∙ ap (λ (t : List ℕ). t ++ flat_map (framed_text pool line) all) c.new.ensures.bytes) in
    let pool_is = c.pool.ensures ∙ (of_structure c.args.file.now class.by.class c.requires.file).0 in
    let stops = subst (λ (t : List ℕ). Stops t c.in_ok-stop.stop c.args.end behind) c.deref.ensures c.in_ok-behind.ensures in
    let appended : string_bytes c.append.new.text ≡ text ++ behind = c.in_ok-append.ensures ∙ ap (λ t. text ++ t) c.deref-2.ensures in
    subst (λ (n : ℕ). IsListedTo class.types.world (declared_by class.by m) (line_at c.args.lines.now n) body.code c.args.end (string_bytes c.append.new.text)) c.from.ensures
    (list_whole c.stands_in_list.ensures c.one_at_offset.ensures class.types.world class.by c.args.method c.in_ok-stop.stop c.args.end all framed m body at has line pool pool_is text behind
    (string_bytes c.append.new.text) listing stops appended)
