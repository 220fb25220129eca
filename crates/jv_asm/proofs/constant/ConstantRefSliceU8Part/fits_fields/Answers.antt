use Rattle.std.proofs.Common.{rules}
use Rattle.jv_asm.proofs.constant.ConstantRefSliceU8Part.fits_fields.Goals as goal

pub returns-in-Utf8 : goal.returns-in-Utf8
returns-in-Utf8 c = search rules
