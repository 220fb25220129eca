-- The host is lent what it borrows for a lifetime whose token the handle has; once it ends, what they borrow comes back.
use Rattle.std.specs.Prelude.{ℕ, [], ◌∷◌, Option, Some, None}
use base.Fraction.{full_share}
use base.Fml.{Fml, ffalse, ftrue, fsep, fex, feq, flft, flent}
use mir.Syntax.{Ty, static}
use mir.Raw.{raw}
use types.SemTy.{Body}
use denote.Memory.{lone, mem}
use denote.RattleType.{RattleType}
use denote.RawPtr.{Ptr, block_ptr, null_ptr}
use Rattle.std.specs.contracts.impls.GlobalAllocator.TheImpl.{ghosts}
use Rattle.std_alloc.specs.Box.Ownership.{box_owns}
use Rattle.libjvhost.specs.declared.kept.Kept.{Kept}
use Rattle.libjvhost.specs.contracts.kept.Kept as kept
use Rattle.libjvhost.specs.contracts.kept.Owned as owned
use Rattle.libjvhost.specs.Inside.Held.{Held, held_in}

-- the right to free a block of the C library's heap
abbrev pub chunk : Ty → Ptr → Fml
chunk = ghosts.dealloc_token (record { memory = record { seal = tt } })

abbrev pub lent_row : ℕ → RattleType
lent_row α = kept.the_row (record { mir = static; lft = α ∷ [] })

abbrev pub holds_kept : ℕ → Ptr → Held → Fml
holds_kept α t v = fex Kept (λ x. fsep (feq Held (held_in x) v) (box_owns chunk (lent_row α) t x))

-- what comes back once the lifetime ends, and the right to free its block
abbrev pub back : ℕ → Ptr → Fml
back α (block_ptr b o) =
    fex ℕ (λ γ. fsep (flent (α ∷ []) (Body (mem owned.the_row) b o γ)) (chunk (raw (lone owned.the_row.mir)) (block_ptr b o)))
back α null_ptr = ffalse

abbrev pub owns_both : Ptr → Ptr → Held → Fml
owns_both t o v = fex ℕ (λ α. fsep (flft (α ∷ []) full_share) (fsep (holds_kept α t v) (back α o)))

-- a handle may hold nothing
abbrev pub owns_held : Ptr → Ptr → Option Held → Fml
owns_held t o None = ftrue
owns_held t o (Some v) = owns_both t o v
