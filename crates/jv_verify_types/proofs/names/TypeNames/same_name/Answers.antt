use Rattle.std.proofs.Common.{◌≡◌, ◌∙◌, ◌<◌, ap, sym, subst, codes, length, get_or}
use Rattle.std.specs.Str.{bytes_eq}
use Rattle.jv_verify_types.specs.Typed.{TypeWorld, name_at}
use Rattle.jv_verify_types.proofs.Numbered.{same_number}
use Rattle.jv_verify_types.proofs.names.TypeNames.same_name.Goals as goal

pub returns : goal.returns
returns c =
    let names = c.self.inside.names in
    let is : names ≡ c.args.self.now.names = ap (λ (w : TypeWorld). w.names) c.self.view_is in
    let m : c.place.result < length names = subst (λ ns. c.place.result < length ns) (sym is) c.place.ensures.within in
    let n : c.place-2.result < length names = subst (λ ns. c.place-2.result < length ns) (sym is) c.place-2.ensures.within in
    same_number names (codes "java/lang/Object") c.self.invariant.distinct c.place.result c.place-2.result m n
    ∙ (ap (λ ns. bytes_eq (get_or ns c.place.result (codes "java/lang/Object")) (get_or ns c.place-2.result (codes "java/lang/Object"))) is
    ∙ (ap (λ t. bytes_eq t (get_or c.args.self.now.names c.place-2.result (codes "java/lang/Object"))) c.place.ensures.same
    ∙ ap (bytes_eq (name_at c.args.self.now.names c.args.one)) c.place-2.ensures.same))
