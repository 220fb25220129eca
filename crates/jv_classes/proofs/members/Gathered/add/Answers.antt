use Rattle.std.proofs.Common.{◌≡◌, ◌∙◌, ◌<◌, ◌++◌, ◌∷◌, [], ℕ, List, suc, length, map, get_or, set, ap, sym, subst, arith}
use Rattle.std.proofs.lemmas.List.{length-map}
use Rattle.jv_classes.specs.declared.members.KeptMember.{KeptMember}
use Rattle.jv_classes.specs.declared.members.KeptText.{KeptText}
use Rattle.jv_classes.specs.Inside.Seen.{kept_key, kept_text, text_at}
use Rattle.jv_classes.specs.Texts.{key_of}
use Rattle.jv_classes.specs.Inside.Linked.{AreKept}
use Rattle.jv_classes.specs.Marks.{slot_of}
use Rattle.jv_classes.proofs.Linked.{one_more_member}
use Rattle.jv_classes.proofs.members.Gathered.add.Goals as goal

pub invariant_of-self-2 : goal.invariant_of-self-2
invariant_of-self-2 c =
    let seed = c.self.inside.seed in
    let texts = c.self.inside.texts.items in
    let members = c.self.inside.members.items in
    let table = c.self.inside.ends.items in
    let m : KeptMember = record { access_flags = c.args.access_flags; name = c.args.name; descriptor = c.args.descriptor; end_before = c.put_end-end_before.result } in
    let many : length c.args.self.now.texts ≡ length texts = ap (λ g. length g.texts) (sym c.self.view_is) ∙ length-map texts kept_text in
    let name : c.args.name < length texts = subst (λ n. c.args.name < n) many c.requires.name in
    let descriptor : c.args.descriptor < length texts = subst (λ n. c.args.descriptor < n) many c.requires.descriptor in
    let same_key : c.key_at-key.result ≡ kept_key seed (map kept_text texts) m =
    c.key_at-key.ensures ∙ ap (λ (ts : List KeptText). key_of seed (text_at (map kept_text ts) c.args.name) (text_at (map kept_text ts) c.args.descriptor)) c.deref.ensures.value in
    let own : slot_of (length table) c.key_at-key.result ≡ slot_of (length table) (kept_key seed (map kept_text texts) m) = ap (slot_of (length table)) same_key in
    let count : c.len.result ≡ length members = c.len.ensures ∙ c.self.inside.members.ok.0 in
    let ended : c.in_ok-end.end ≡ suc (length members) = omega (arith, c.in_ok-end.ensures, count) in
    let before : m.end_before ≡ get_or table (slot_of (length table) (kept_key seed (map kept_text texts) m)) 0 =
    c.put_end-end_before.ensures.before ∙ ap (λ s. get_or table s 0) own in
    let put : c.put_end-end_before.new.ends.items ≡ set table (slot_of (length table) (kept_key seed (map kept_text texts) m)) (suc (length members)) =
    c.put_end-end_before.ensures.put ∙ (ap (λ s. set table s c.in_ok-end.end) own ∙ ap (set table _) ended) in
    let items : c.push_reserved.new.self.items ≡ members ++ m ∷ [] =
    c.push_reserved.ensures.items ∙ ap (λ (ms : List KeptMember). ms ++ m ∷ []) c.reserve.ensures.items in
    subst (λ (ms : List KeptMember). AreKept seed texts ms c.put_end-end_before.new.ends.items) (sym items)
    (subst (λ (es : List ℕ). AreKept seed texts (members ++ m ∷ []) es) (sym put)
    (one_more_member seed texts members table c.self.invariant m (name, descriptor) before))
