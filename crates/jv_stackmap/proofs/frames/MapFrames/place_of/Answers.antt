use Rattle.std.proofs.Common.{◌≡◌, ◌≢◌, Some, rules, subst, List}
use Rattle.std.specs.Prelude.{slice_get, IfSome, IfNone}
use Rattle.std.specs.List.{All}
use Rattle.std.specs.Option.{option_map}
use Rattle.std.proofs.lemmas.List.Sorted.{answers_always}
use Rattle.jv_stackmap.specs.Entries.{ReadFrame, offset_of}
use Rattle.jv_stackmap.proofs.Searching.{searched}
use Rattle.jv_stackmap.proofs.frames.MapFrames.place_of.Goals as goal

pub returns-clause-found : goal.returns-clause-found
returns-clause-found c =
    let facts = c.binary_search_by_key.ensures in
    let by_key = facts.position (λ frame. frame.offset) (answers_always _ _ _ (λ f a r g called. search rules)) in
    let all = searched c.self.inside.nodes c.self.invariant.0 c.self.inside.frames.items c.args.offset c.self.invariant.1
    c.binary_search_by_key.result c.ok.result c.ok.ensures.value (rw c.deref.ensures.value at facts.bound) (rw c.deref.ensures.value at by_key) in
    subst (λ (frames : List ReadFrame). IfSome c.ok.result (λ place. option_map offset_of (slice_get frames place) ≡ Some c.args.offset)) c.self.view_is all.found

pub returns-clause-none : goal.returns-clause-none
returns-clause-none c =
    let facts = c.binary_search_by_key.ensures in
    let by_key = facts.position (λ frame. frame.offset) (answers_always _ _ _ (λ f a r g called. search rules)) in
    let all = searched c.self.inside.nodes c.self.invariant.0 c.self.inside.frames.items c.args.offset c.self.invariant.1
    c.binary_search_by_key.result c.ok.result c.ok.ensures.value (rw c.deref.ensures.value at facts.bound) (rw c.deref.ensures.value at by_key) in
    subst (λ (frames : List ReadFrame). IfNone c.ok.result (All (λ f. f.offset ≢ c.args.offset) frames)) c.self.view_is all.none
