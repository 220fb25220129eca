use Rattle.std.proofs.Common.{◌≡◌, ◌∙◌, ◌<◌, ◌+◌, ◌++◌, ◌∷◌, [], ℕ, List, length, get_or, set, sym, ap, subst}
use Rattle.std.specs.Borrow.{Bor}
use Rattle.jv_classes.specs.Inside.NameLinks.{AreNamesLinked, slot_of_text}
use Rattle.jv_classes.specs.Marks.{slot_of}
use Rattle.jv_classes.proofs.LinkedNames.{one_more_name}
use Rattle.jv_classes.proofs.names.join.Goals as goal

pub returns-clause-linked : goal.returns-clause-linked
returns-clause-linked c =
    let seed = c.args.seed in
    let names = c.args.names.now.items in
    let before = c.make_room.new.before.items in
    let ends = c.make_room.new.ends.items in
    let slot = c.slot_of-slot.result in
    let kept : AreNamesLinked seed names before ends = subst (λ (ns : List (Bor (List ℕ))). AreNamesLinked seed ns before ends) c.deref.ensures.value c.make_room.ensures.linked in
    let room : length names < length ends = subst (λ (ns : List (Bor (List ℕ))). length ns < length ends) c.deref.ensures.value c.in_ok-make_room.ensures.room in
    let size : c.len.result ≡ length ends = c.len.ensures ∙ c.make_room.new.ends.ok.0 in
    let own : slot ≡ slot_of_text seed (length ends) c.args.name.now =
    c.slot_of-slot.ensures.slot ∙ (ap (λ n. slot_of n c.args.hash) size ∙ ap (slot_of (length ends)) c.requires.hash) in
    let within : slot < length ends = subst (λ n. slot < n) size c.slot_of-slot.ensures.within in
    let place : c.len-place.result ≡ length names = c.len-place.ensures ∙ c.args.names.now.ok.0 in
    let grown = one_more_name seed names before ends kept room c.args.name c.requires.absent slot own within in
    let named : c.push_reserved.new.self.items ≡ names ++ c.args.name ∷ [] =
    c.push_reserved.ensures.items ∙ ap (λ (ns : List (Bor (List ℕ))). ns ++ c.args.name ∷ []) c.reserve.ensures.items in
    let links : c.push_reserved-2.new.self.items ≡ before ++ 0 ∷ [] = c.push_reserved-2.ensures.items ∙ ap (λ (bs : List ℕ). bs ++ 0 ∷ []) c.reserve-2.ensures.items in
    let linked : c.link.new.before.items ≡ set (before ++ 0 ∷ []) (length names) (get_or ends slot 0) =
    c.link.ensures.before
    ∙ (ap (λ (bs : List ℕ). set bs c.len-place.result (get_or ends slot 0)) links ∙ ap (λ n. set (before ++ 0 ∷ []) n (get_or ends slot 0)) place) in
    let ended : c.link.new.ends.items ≡ set ends slot (length names + 1) = c.link.ensures.ends ∙ ap (λ n. set ends slot (n + 1)) place in
    subst (λ (ns : List (Bor (List ℕ))). AreNamesLinked seed ns c.link.new.before.items c.link.new.ends.items) (sym named)
    (subst (λ (bs : List ℕ). AreNamesLinked seed (names ++ c.args.name ∷ []) bs c.link.new.ends.items) (sym linked)
    (subst (λ (es : List ℕ). AreNamesLinked seed (names ++ c.args.name ∷ []) (set (before ++ 0 ∷ []) (length names) (get_or ends slot 0)) es) (sym ended) grown))
