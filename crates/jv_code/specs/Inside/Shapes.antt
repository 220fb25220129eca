-- What an opcode tells, as the code's table has it.
use Rattle.std.specs.Prelude.{ℕ, Bool, not, ◌&&◌, Option, None, get_or, is_some, nat_le, ◌==◌}
use Rattle.jv_code.specs.declared.shapes.OpcodeShape.{OpcodeShape}
use Rattle.jv_code.specs.declared.shapes.TheConstants.{SHAPES}

abbrev pub shape_at : ℕ → Option OpcodeShape
shape_at opcode = get_or SHAPES opcode None

-- neither ill formed, nor jsr (168) nor ret (169), nor of the profile
abbrev pub is_outside : ℕ → Bool
is_outside opcode =
    nat_le 11 opcode && (nat_le opcode 195 && (not (opcode == 168) && (not (opcode == 169) && not (is_some (shape_at opcode)))))
