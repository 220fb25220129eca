-- What is said of an instruction that names a constant which the profile leaves out.
use Rattle.std.proofs.Common.{◌≡◌, ℕ, List, ◌++◌, Option, Some, sym, ap, subst, ◌∙◌}
use Rattle.std.specs.Prelude.{slice_get}
use Rattle.jv_pool.specs.Constants.{Entry}
use Rattle.jv_class_structure.specs.Parts.{CodeSeen, MethodSeen, methods_of}
use Rattle.jv_class_structure.specs.Structure.{ClassStructure}
use Rattle.jv_beyond.specs.Inside.Told.{IsPartTold, IsUseTold}
use Rattle.jv_beyond.specs.Text.{TellsUse, constant_text, method_text, use_line}
use Rattle.jv_beyond.specs.Uses.{IsUse, IsUseIn}
use Rattle.jv_beyond.specs.declared.beyond.Beyond.TheVariants.{Use}

module _ (c : ClassStructure) (place : ℕ) (m : MethodSeen) (at : slice_get (methods_of c) place ≡ Some m) (body : CodeSeen) (has : m.code ≡ Some body)
    (pool : List Entry) (same : pool ≡ c.constant_pool) where
  -- it stands in the method's code
  pub stands_in : (offset : ℕ) → (shown : MethodSeen) → slice_get (methods_of c) place ≡ Some shown → IsUse c.constant_pool shown offset → IsUseIn pool body.code offset
  stands_in offset shown there is =
      let both : Some shown ≡ Some m = sym there ∙ at in
      let one : shown ≡ m = cc in
      let codes_both : Some is.body ≡ Some body = sym is.has_code ∙ (ap (λ (x : MethodSeen). x.code) one ∙ has) in
      let bodies : is.body ≡ body = cc in
      subst (λ (p : List Entry). IsUseIn p body.code offset) (sym same) (subst (λ (b : CodeSeen). IsUseIn c.constant_pool b.code offset) bodies is.is)

  pub told_use : (offset : ℕ) (line : Option ℕ) (head : List ℕ) → head ≡ method_text pool place m → (text : List ℕ) → IsUseTold pool head body.code offset line text
      → IsPartTold c (Use place offset) text
  told_use offset line head heads text (insn, stands, (index, names, (entry, there, told))) = (
    line,
    (
      m,
      at,
      subst (λ (p : List Entry). TellsUse p place m offset line text) same
          (record {
            body = body;
            has_code = has;
            insn = insn;
            at = stands;
            index = index;
            names = names;
            entry = entry;
            there = there;
            told = told ∙ ap (λ (h : List ℕ). h ++ use_line pool offset line insn ++ constant_text pool index entry) heads;
          }),
    ),
  )
