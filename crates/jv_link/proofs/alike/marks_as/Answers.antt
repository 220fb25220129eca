use Rattle.std.proofs.Common.{ℕ, List, ◌∙◌, ap, sym}
use Rattle.jv_class.specs.Class.{method_named}
use Rattle.jv_link.proofs.alike.marks_as.Goals as goal

pub returns : goal.returns
returns c = record {
  size = c.marks_of_method.ensures.size;
  none = λ number free l at e at_e.
      ap (λ (n : List ℕ). method_named l.class n e.method.descriptor) (sym (c.name_of_method-name.ensures e at_e))
      ∙ ap (λ (d : List ℕ). method_named l.class c.name_of_method-name.result d) (sym (c.descriptor_of_method-descriptor.ensures e at_e))
      ∙ c.marks_of_method.ensures.none number l at free;
}
