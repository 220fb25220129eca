use Rattle.std.proofs.Common.{◌≡◌, ◌++◌, false, ap, sym, subst, ◌∙◌}
use Rattle.std.specs.Prelude.{string_bytes}
use Rattle.jv_meaning_world.specs.FileContent.{FileContent}
use Rattle.jv_meaning_world.specs.World.{loaded}
use Rattle.jv_program_explain.specs.Explain.{IsAcceptedTold}
use Rattle.jv_program_explain.proofs.Faults.{class_of_accepted}
use Rattle.jv_program_explain.proofs.said.accepted_told.Goals as goal

pub returns : goal.returns
returns c = λ why content is stands.
    let world = c.args.classes.now.world in
    let (class, holds) = class_of_accepted world why content is in
    let at = stands class holds in
    let l = loaded false class in
    let text : string_bytes c.push_str.new.self ≡ string_bytes c.in_ok-text.text ++ string_bytes c.in_ok-links.links =
    c.in_ok-push_str.ensures.bytes ∙ ap (λ t. string_bytes c.in_ok-text.text ++ t) c.deref.ensures in
    subst (λ (f : FileContent). IsAcceptedTold c.args.settings world f (string_bytes c.push_str.new.self)) (sym holds)
    (record {
      listing = string_bytes c.in_ok-text.text;
      frames = c.in_ok-text.ensures l at;
      references = string_bytes c.in_ok-links.links;
      links = c.in_ok-links.ensures l at;
      told = text;
    })
