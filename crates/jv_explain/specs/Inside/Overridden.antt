-- A final method that is overridden, as the code finds it.
use Rattle.std.specs.Prelude.{ℕ, List, [], Option, Some, None}
use Rattle.jv_explain.specs.Finals.{final_line}
use Rattle.jv_explain.specs.declared.finals.Overridden.{Overridden}

abbrev pub overridden_line : Overridden → List ℕ
overridden_line shown = final_line shown.method.name.now shown.method.descriptor.now shown.class.now

abbrev pub overridden_text : Option Overridden → List ℕ
overridden_text None = []
overridden_text (Some shown) = overridden_line shown
