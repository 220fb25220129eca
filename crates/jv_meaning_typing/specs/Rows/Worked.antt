-- Worked rows of type checking.
use Rattle.jv_meaning_typing.specs.Rows.Stack.{OneWordRows, CopyRows, TwoWordRows, FourWordRows, NumberRows, ConversionRows, ConstantRows, BranchRows}
use Rattle.jv_meaning_typing.specs.Rows.Locals.{LoadRows, StoreRows, StoredKindRows, NumberArrayRows, ReferenceArrayRows, NewArrayRows, LengthRows, ReturnRows}
use Rattle.jv_meaning_typing.specs.Rows.Members.{NewRows, CastRows, InitRows, InitThisRows, FieldRows, PutFieldRows, VirtualRows, StaticRows, InterfaceRows, SpecialRows, OlderRows, HandlerRows}
use Rattle.jv_meaning_typing.specs.Rows.Methods.{IntAsObjectRows, ConstructionRows, HalfRows}
use Rattle.jv_meaning_typing.specs.Rows.Judgement.{StartRows, ArgumentRows, CatchRows, CoverRows, OverSuperRows, TargetRows, EndRows}

pub record WorkedRows : Type 0 where
  pub one_word : OneWordRows
  pub copies : CopyRows
  pub two_words : TwoWordRows
  pub four_words : FourWordRows
  pub numbers : NumberRows
  pub conversions : ConversionRows
  pub constants : ConstantRows
  pub branches : BranchRows
  pub loads : LoadRows
  pub stores : StoreRows
  pub stored_kinds : StoredKindRows
  pub number_arrays : NumberArrayRows
  pub reference_arrays : ReferenceArrayRows
  pub new_arrays : NewArrayRows
  pub lengths : LengthRows
  pub returns : ReturnRows
  pub new : NewRows
  pub casts : CastRows
  pub init : InitRows
  pub init_this : InitThisRows
  pub fields : FieldRows
  pub put_fields : PutFieldRows
  pub virtual : VirtualRows
  pub static : StaticRows
  pub interface : InterfaceRows
  pub special : SpecialRows
  pub older : OlderRows
  pub handlers : HandlerRows
  pub int_as_object : IntAsObjectRows
  pub construction : ConstructionRows
  pub half : HalfRows
  pub starts : StartRows
  pub arguments : ArgumentRows
  pub catches : CatchRows
  pub covers : CoverRows
  pub over_super : OverSuperRows
  pub targets : TargetRows
  pub ends : EndRows
