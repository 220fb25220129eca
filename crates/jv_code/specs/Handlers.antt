-- Where handlers stand in code (JVMS 4.7.3, 4.10.1.6).
use Rattle.std.specs.Prelude.{ℕ, ◌<◌, List}
use Rattle.std.specs.List.{All}
use Rattle.jv_format.specs.declared.handlers.Handler.{Handler}
use Rattle.jv_code.specs.Places.{IsStart, IsStartOrEnd}

-- it covers something, from an instruction to the start of another or the end of the code, and starts at an instruction
pub record HandlerFits (bytes : List ℕ) (handler : Handler) : Type 0 where
  pub covers : handler.start_pc < handler.end_pc
  pub start : IsStart bytes handler.start_pc
  pub end : IsStartOrEnd bytes handler.end_pc
  pub target : IsStart bytes handler.handler_pc

abbrev pub HandlersFit : List ℕ → List Handler → Type 0
HandlersFit bytes handlers = All (HandlerFits bytes) handlers
