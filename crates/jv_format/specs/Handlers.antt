-- Exception tables (JVMS 4.7.3): the bytes of a handler, and the handlers that bytes are.
use Rattle.std.specs.Prelude.{◌≡◌, ℕ, ◌+◌, ◌*◌, Bool, ◌&&◌, List, [], ◌∷◌, ◌++◌, IsTrue}
use Rattle.std.specs.List.{flat_map, list_all}
use Rattle.jv_format.specs.Numbers.{u2_bytes, u2_fits}
use Rattle.jv_format.specs.declared.handlers.Handler.{Handler}
use Rattle.jv_format.specs.declared.handlers.ExceptionTable.{ExceptionTable}

-- an entry of an exception table: four numbers of two bytes
abbrev pub handler_bytes : Handler → List ℕ
handler_bytes h = u2_bytes h.start_pc ++ u2_bytes h.end_pc ++ u2_bytes h.handler_pc ++ u2_bytes h.catch_type

abbrev pub handler_fits : Handler → Bool
handler_fits h = u2_fits h.start_pc && u2_fits h.end_pc && u2_fits h.handler_pc && u2_fits h.catch_type

abbrev pub handler : ℕ → ℕ → ℕ → ℕ → Handler
handler start_pc end_pc handler_pc catch_type =
    record { start_pc = start_pc; end_pc = end_pc; handler_pc = handler_pc; catch_type = catch_type }

-- the handlers that bytes are, eight bytes each; fewer at the end are none
abbrev pub handlers_in : List ℕ → List Handler
handlers_in (a ∷ b ∷ c ∷ d ∷ e ∷ f ∷ g ∷ h ∷ rest) =
    handler (a * 256 + b) (c * 256 + d) (e * 256 + f) (g * 256 + h) ∷ handlers_in rest
handlers_in _ = []

-- the handlers of a table, in the order of the file
abbrev pub handlers_of : ExceptionTable → List Handler
handlers_of table = handlers_in table.bytes.now

-- A law: handlers stand in their own bytes.
abbrev pub HandlersStand : Type 0
HandlersStand =
    (handlers : List Handler) → IsTrue (list_all handler_fits handlers) → handlers_in (flat_map handler_bytes handlers) ≡ handlers
