-- The handlers that bytes are, eight bytes each.
use Rattle.std.proofs.Common.{◌≡◌, ℕ, zero, suc, ◌+◌, ◌*◌, ◌/◌, ◌%◌, List, [], ◌∷◌, length, drop, Option, refl, arith}
use Rattle.std.specs.Prelude.{slice_get}
use Rattle.std.specs.List.{list_all}
use Rattle.std.proofs.lemmas.Bool.{and_parts}
use Rattle.jv_format.specs.declared.handlers.Handler.{Handler}
use Rattle.jv_format.specs.Handlers.{handler_fits, handlers_in, HandlersStand}

pub handlers_count : (bytes : List ℕ) → length (handlers_in bytes) ≡ length bytes / 8
handlers_count (a ∷ b ∷ c ∷ d ∷ e ∷ f ∷ g ∷ h ∷ rest) = let more = handlers_count rest in omega (arith, more)
handlers_count [] = refl
handlers_count (a ∷ []) = refl
handlers_count (a ∷ b ∷ []) = refl
handlers_count (a ∷ b ∷ c ∷ []) = refl
handlers_count (a ∷ b ∷ c ∷ d ∷ []) = refl
handlers_count (a ∷ b ∷ c ∷ d ∷ e ∷ []) = refl
handlers_count (a ∷ b ∷ c ∷ d ∷ e ∷ f ∷ []) = refl
handlers_count (a ∷ b ∷ c ∷ d ∷ e ∷ f ∷ g ∷ []) = refl

-- the first handler behind that many others
abbrev pub first_behind : List ℕ → ℕ → Option Handler
first_behind bytes place = slice_get (handlers_in (drop (8 * place) bytes)) 0

eight : (place : ℕ) → 8 * suc place ≡ suc (suc (suc (suc (suc (suc (suc (suc (8 * place))))))))
eight place = omega arith

pub handler_there : (bytes : List ℕ) (place : ℕ) → first_behind bytes place ≡ slice_get (handlers_in bytes) place
handler_there bytes zero = refl
handler_there (a ∷ b ∷ c ∷ d ∷ e ∷ f ∷ g ∷ h ∷ rest) (suc place) =
    rw (eight place) (handler_there rest place)
handler_there [] (suc place) = rw (eight place) refl
handler_there (a ∷ []) (suc place) = rw (eight place) refl
handler_there (a ∷ b ∷ []) (suc place) = rw (eight place) refl
handler_there (a ∷ b ∷ c ∷ []) (suc place) = rw (eight place) refl
handler_there (a ∷ b ∷ c ∷ d ∷ []) (suc place) = rw (eight place) refl
handler_there (a ∷ b ∷ c ∷ d ∷ e ∷ []) (suc place) = rw (eight place) refl
handler_there (a ∷ b ∷ c ∷ d ∷ e ∷ f ∷ []) (suc place) = rw (eight place) refl
handler_there (a ∷ b ∷ c ∷ d ∷ e ∷ f ∷ g ∷ []) (suc place) = rw (eight place) refl

two_there : (n : ℕ) → n / 256 * 256 + n % 256 ≡ n
two_there n = omega arith

pub stand : HandlersStand
stand [] h = refl
stand (x ∷ xs) h =
    let parts = and_parts (handler_fits x) (list_all handler_fits xs) h in
    let more = stand xs parts.1 in
    rw (two_there x.start_pc, two_there x.end_pc, two_there x.handler_pc, two_there x.catch_type, more) refl
