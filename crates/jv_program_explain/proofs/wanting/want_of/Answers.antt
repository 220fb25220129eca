use Rattle.std.proofs.Common.{◌≡◌, List, Some, sym, ap, ◌∙◌}
use Rattle.std.specs.Prelude.{map}
use Rattle.jv_pool.specs.Constants.{Entry, utf8_at}
use Rattle.jv_stackmap.specs.Seen.{seen_type}
use Rattle.jv_text.specs.Types.{method_type_of}
use Rattle.jv_verify.specs.Before.{seen_frame}
use Rattle.jv_program_explain.proofs.wanting.want_of.Goals as goal

pub returns : goal.returns
returns c = λ env world of.
    let file = c.args.file.now in
    let names : Some c.utf8-2.result.now ≡ Some env.site.method.name =
    sym c.utf8-2.ensures ∙ (ap (λ (p : List Entry). utf8_at p c.args.method.now.name.0) c.pool-pool.ensures ∙ of.name) in
    let descriptors : Some c.utf8-2-2.result.now ≡ Some env.site.method.descriptor =
    sym c.utf8-2-2.ensures ∙ (ap (λ (p : List Entry). utf8_at p c.args.method.now.descriptor.0) c.pool-pool.ensures ∙ of.descriptor) in
    let named : c.utf8-2.result.now ≡ env.site.method.name = cc in
    let described : c.utf8-2-2.result.now ≡ env.site.method.descriptor = cc in
    c.first_unmet.ensures env (seen_frame c.args.frame.now) world
    (record {
      pool = of.pool ∙ sym c.pool-pool.ensures;
      class = of.class_is;
      name = sym named;
      result = sym (c.result_of.ensures env.descriptor (ap method_type_of described ∙ of.is.descriptor));
    })
    (record {
      locals = ap (map seen_type) (sym c.as_slice.ensures.value);
      stack = ap (map seen_type) (sym c.as_slice-2.ensures.value);
    })
