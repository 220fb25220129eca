-- The handler that is found in a method's table is the one of its frame (JVMS 2.10).
use Rattle.std.proofs.Common.{◌≡◌, ℕ, Bool, true, cond, ◌==◌, ◌&&◌, ◌||◌, List, [], ◌∷◌, Option, Some, None, refl, sym, ap, ◌∙◌}
use Rattle.std.specs.Prelude.{if◌then◌else◌}
use Rattle.std.specs.List.{find}
use Rattle.std.specs.Str.{bytes_eq}
use Rattle.jv_format.specs.declared.handlers.Handler.{Handler}
use Rattle.jv_pool.specs.Constants.{Entry, class_name_at}
use Rattle.jv_class_structure.specs.Parts.{CodeSeen}
use Rattle.jv_meaning_world.specs.World.{Loaded, World, class_named}
use Rattle.jv_meaning_world.specs.Above.{is_above}
use Rattle.jv_meaning_world.specs.Overriding.{Declared}
use Rattle.jv_meaning_typing.specs.Typing.{covers}
use Rattle.jv_link_cache.specs.Handlers.{is_of, is_of_type, takes, handlers_of_code}
use Rattle.jv_meaning_machine.specs.Frames.{MethodFrame}
use Rattle.jv_meaning_machine.specs.Objects.{is_below, is_at_or_below}
use Rattle.jv_meaning_machine.specs.State.{Program}
use Rattle.jv_meaning_machine.specs.Throws.{is_caught_as, catches, handler_for}
use Rattle.jv_interp_words.specs.declared.records.MethodRecord.{MethodRecord}
use Rattle.jv_interp_control.specs.Inside.Handling.{Handling}
use Rattle.jv_meaning_world.proofs.Up.{found_is_named}
use Rattle.jv_interp_control.proofs.Entered.{is_entered}

same_found : {X : Type 0} (p q : X → Bool) → ((x : X) → p x ≡ q x) → (xs : List X) → find p xs ≡ find q xs
same_found p q same [] = refl
same_found {X = X} p q same (x ∷ xs) =
    ap (λ (b : Bool). cond b (Some x) (find p xs)) (same x) ∙ ap (λ (o : Option X). cond (q x) (Some x) o) (same_found p q same xs)

-- ---- what is thrown is of a class by its number, and by its name

module _ (world : World) (name : List ℕ) (l : Loaded) (named : class_named world name ≡ Some l) where
  same_class : (other : List ℕ) → is_of world l other ≡ is_at_or_below world name other
  same_class other =
      ap (λ (text : List ℕ). bytes_eq text other || is_above world other l.class) (found_is_named world name l named)
      ∙ sym (ap (λ (o : Option Loaded). bytes_eq name other || is_below world o other) named)

  same_type : (type : Option (List ℕ)) → is_of_type world l type ≡ is_caught_as world name type
  same_type None = refl
  same_type (Some other) = same_class other

  pub same_taken : (pool : List Entry) (pc : ℕ) (handler : Handler) → takes world pool l pc handler ≡ (covers handler pc && catches world pool name handler)
  same_taken pool pc handler =
      ap (λ (b : Bool). covers handler pc && (if handler.catch_type == 0 then true else b)) (same_type (class_name_at pool handler.catch_type))

pub same_handler :
    (world : World) (own : MethodRecord) (class : ℕ) (program : Program) (addresses : List ℕ) (frame : MethodFrame) (used below name : List ℕ)
    → (h : Handling world own class program addresses frame used below name)
    → h.stands.declared.method.code ≡ Some frame.method.code
    → find (takes program.world h.stands.declared.by.class.constant_pool h.has_number.l own.pc) (handlers_of_code h.stands.declared.method.code)
    ≡ handler_for program.world name frame
same_handler world own class program addresses frame used below name h has_code =
    let site = (is_entered program h.stands.declared frame.method h.stands.entered).site_is in
    let n = h.has_number in
    ap (λ (code : Option CodeSeen). find (takes program.world h.stands.declared.by.class.constant_pool n.l own.pc) (handlers_of_code code)) has_code
    ∙ ap (λ (pc : ℕ). find (takes program.world h.stands.declared.by.class.constant_pool n.l pc) frame.method.code.exception_table) h.stands.pc_is
    ∙ ap (λ (d : Declared). find (takes program.world d.by.class.constant_pool n.l frame.offset) frame.method.code.exception_table) (sym site)
    ∙ same_found (takes program.world frame.method.site.by.class.constant_pool n.l frame.offset)
    (λ (x : Handler). covers x frame.offset && catches program.world frame.method.site.by.class.constant_pool name x)
    (same_taken program.world name n.l n.named frame.method.site.by.class.constant_pool frame.offset) frame.method.code.exception_table
