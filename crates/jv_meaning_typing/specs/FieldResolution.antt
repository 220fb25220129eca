-- Resolution of fields (JVMS 5.4.3.2).
use Rattle.std.specs.Option.{ok_or}
use Rattle.jv_pool.specs.Constants.{MemberReference}
use Rattle.jv_meaning_world.specs.World.{Loaded, World}
use Rattle.jv_meaning_world.specs.LookUps.{DeclaredField, lookup_field}
use Rattle.jv_meaning_typing.specs.Uses.{Use, Site}
use Rattle.jv_meaning_typing.specs.LinkErrors.{OrError, ◌>>=◌, provided}
use Rattle.jv_meaning_typing.specs.LinkErrors.LinkError.{IncompatibleClassChangeError, IllegalAccessError, NoSuchFieldError}
use Rattle.jv_meaning_typing.specs.ClassResolution.{resolve_text, member_class}
use Rattle.jv_meaning_typing.specs.Access.{can_access}
use Rattle.jv_meaning_typing.specs.Kind.{has_field_kind, can_use_final}

-- the field that is looked up from the class that the reference names
abbrev pub found_field : World → Loaded → MemberReference → OrError DeclaredField
found_field world named reference = ok_or (lookup_field world named reference.name reference.descriptor) NoSuchFieldError

-- that field, where the current class can access it (5.4.4)
abbrev pub field_from : World → Loaded → MemberReference → Loaded → OrError DeclaredField
field_from world current reference named =
    found_field world named reference
    >>= (λ d. provided (can_access world current named d.by d.field.access_flags) IllegalAccessError d)

-- the field that a reference resolves to: errors of its class come first
abbrev pub resolved_field : World → Loaded → MemberReference → OrError DeclaredField
resolved_field world current reference =
    resolve_text world current reference.class
    >>= (λ c. ok_or (member_class world c) NoSuchFieldError)
    >>= field_from world current reference

-- the field that an instruction uses: resolved, of the instruction's kind, and not final where it may not be written (6.5)
abbrev pub resolve_field : World → Site → Use → MemberReference → OrError DeclaredField
resolve_field world site how reference =
    resolved_field world site.by reference
    >>= (λ d. provided (has_field_kind how d.field) IncompatibleClassChangeError d)
    >>= (λ d. provided (can_use_final how site d) IllegalAccessError d)
