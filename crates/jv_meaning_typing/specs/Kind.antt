-- Which fields and methods an instruction can use (JVMS 6.5): static or instance ones, and final fields.
use Rattle.std.specs.Prelude.{Bool, true, not, ◌+◌, ◌&&◌, ◌||◌}
use Rattle.jv_text.specs.Name.{is_init}
use Rattle.jv_class_structure.specs.Flags.{has, acc_private, acc_static, acc_final}
use Rattle.jv_class.specs.Class.{Field, Method}
use Rattle.jv_class.specs.Rules.{is_clinit}
use Rattle.jv_meaning_world.specs.LookUps.{DeclaredField}
use Rattle.jv_meaning_typing.specs.Uses.{Use, Site}
use Rattle.jv_meaning_typing.specs.Uses.Use.{Getstatic, Putstatic, Getfield, Putfield, Invokevirtual, Invokespecial, Invokestatic, Invokeinterface}
use Rattle.jv_meaning_typing.specs.Access.{same_class}

-- ---- fields

abbrev pub is_static_field : Field → Bool
is_static_field f = has f.access_flags acc_static

-- getstatic and putstatic use static fields, getfield and putfield instance fields
abbrev pub has_field_kind : Use → Field → Bool
has_field_kind Getstatic f = is_static_field f
has_field_kind Putstatic f = is_static_field f
has_field_kind Getfield f = not (is_static_field f)
has_field_kind Putfield f = not (is_static_field f)
has_field_kind _ f = true

-- a final field is written by its own class alone: an instance field by putfield in `<init>`, a static one by putstatic in
-- `<clinit>`
abbrev pub can_set_final : Use → Site → DeclaredField → Bool
can_set_final Putfield site d = is_init site.method.name && same_class site.by d.by
can_set_final Putstatic site d = is_clinit site.method.name && same_class site.by d.by
can_set_final _ site d = true

abbrev pub can_use_final : Use → Site → DeclaredField → Bool
can_use_final how site d = not (has d.field.access_flags acc_final) || can_set_final how site d

-- ---- methods

abbrev pub is_static_method : Method → Bool
is_static_method m = has m.access_flags acc_static

-- invokestatic calls static methods, the others instance methods, and invokeinterface none that is private
abbrev pub has_method_kind : Use → Method → Bool
has_method_kind Invokestatic m = is_static_method m
has_method_kind Invokevirtual m = not (is_static_method m)
has_method_kind Invokespecial m = not (is_static_method m)
has_method_kind Invokeinterface m = not (has m.access_flags (acc_static + acc_private))
has_method_kind _ m = true
