-- Worked rows of linking.
use Rattle.jv_meaning_typing.specs.Rows.Resolution.{ClassRows, FieldRows, MethodRows}
use Rattle.jv_meaning_typing.specs.Rows.Selection.{VirtualRows, DefaultRows, InterfaceRows, SpecialRows}
use Rattle.jv_meaning_typing.specs.Rows.Objects.{InitializationRows, LayoutRows, OperandRows}

pub record WorkedRows : Type 0 where
  pub classes : ClassRows
  pub fields : FieldRows
  pub methods : MethodRows
  pub virtual : VirtualRows
  pub defaults : DefaultRows
  pub interfaces : InterfaceRows
  pub special : SpecialRows
  pub initialization : InitializationRows
  pub layouts : LayoutRows
  pub operands : OperandRows
