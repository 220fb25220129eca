use Rattle.std.proofs.Common.{◌<◌, ap, sym, ◌∙◌, subst, map, [], ◌∷◌, ◌++◌, replicate, arith}
use Rattle.std.proofs.lemmas.List.{map-append}
use Rattle.jv_store.specs.Content.{greatest}
use Rattle.jv_host_tests.specs.Plain.{mounting}
use Rattle.jv_host_tests.proofs.Plain.{mounting-append}
use Rattle.jv_host_tests.proofs.twin.Twin.alloc.Goals as goal

pub invariant_of-self-2 : goal.invariant_of-self-2
invariant_of-self-2 g c =
    let before = c.args.self.now.blocks.items in
    let longer = ap (map (λ b. (b.address, b.words.items)))
    (c.push_reserved.ensures.items ∙ ap (λ l. l ++ record { address = c.in_ok-address.address; words = c.in_ok-words.words } ∷ [])
    (c.in_ok-reserve.ensures {u = tt}).items)
    ∙ map-append (λ b. (b.address, b.words.items)) before (record { address = c.in_ok-address.address; words = c.in_ok-words.words } ∷ []) in
    let above = subst (λ l. greatest l < c.in_ok-address.address) c.args.self.now.same_content (c.in_ok-address.ensures {u = tt}).above in
    let content = (c.in_ok-address.ensures {u = tt}).content ∙
    (ap (λ l. l ++ (c.in_ok-address.address, replicate c.args.len 0) ∷ []) c.args.self.now.same_content ∙
    ap (λ l. map (λ b. (b.address, b.words.items)) before ++ (c.in_ok-address.address, l) ∷ []) (sym (c.in_ok-words.ensures {u = tt}))) in
    let first : 0 < c.in_ok-address.address = omega (arith, above) in
    record {
      same_content = content ∙ sym longer;
      same_room = omega (arith, (c.in_ok-address.ensures {u = tt}).room, c.args.self.now.same_room);
      rising = ap (mounting 0) longer ∙ mounting-append 0 (map (λ b. (b.address, b.words.items)) before) c.in_ok-address.address c.in_ok-words.words.items c.args.self.now.rising first above;
    }
