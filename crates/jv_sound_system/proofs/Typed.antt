-- A method that passes the test has a typing.
use Rattle.std.proofs.Common.{◌≡◌, ℕ, ◌≤◌, Bool, true, false, List, [], ◌∷◌, length, map, Option, Some, None, refl, sym, subst, arith}
use Rattle.std.specs.Prelude.{◌&&◌, IsTrue, IsSome, is_some, nat_le, nat_lt, if◌then◌else◌, reverse}
use Rattle.std.specs.List.{All, list_all, flat_map}
use Rattle.std.specs.Option.{option_map}
use Rattle.std.specs.Str.{bytes_eq}
use Rattle.std.proofs.lemmas.Bool.{and_parts, leb-true, ltb-true}
use Rattle.std.proofs.lemmas.List.Elements.{All-nil, All-cons}
use Rattle.std.proofs.lemmas.Slice.Eq.{bytes_eq-Decides}
use Rattle.jv_format.specs.declared.handlers.Handler.{Handler}
use Rattle.jv_text.specs.Descriptor.{MethodDescriptor}
use Rattle.jv_text.specs.Types.{method_type_of}
use Rattle.jv_class_structure.specs.Parts.{CodeSeen}
use Rattle.jv_class.specs.Class.{Method}
use Rattle.jv_stackmap.specs.Bytes.{MapForm, form_fits, stack_map_bytes}
use Rattle.jv_stackmap.specs.Frames.{PlacedFrame, MapFrame, Maps, type_of, is_within, frames_behind, placed_frame}
use Rattle.jv_stackmap.specs.Types.{FrameType}
use Rattle.jv_code.specs.Handlers.{HandlersFit, HandlerFits}
use Rattle.jv_code.specs.Insns.{Instruction, insn_bytes}
use Rattle.jv_code.specs.Places.{all_fit, IsCode}
use Rattle.jv_meaning_world.specs.World.{Loaded, World}
use Rattle.jv_meaning_world.specs.Verdicts.{declared_by}
use Rattle.jv_meaning_typing.specs.Environment.{Environment, current_class, instruction_at}
use Rattle.jv_meaning_typing.specs.Typing.{argument_words, catches_throwable, HandlersKeepRules, limits_of, entries_before, HasFrames, is_made_by_new, FrameStands, first_frame, ends_code, last_instruction, IsTyping, HasTyping}
use Rattle.jv_sound_system.specs.Walk.{walks, Shown, frames_of, spells_map, frame_stands, is_code, has_no_handlers, types_with, types_in, in_environment, types_code, types_method}
use Rattle.jv_sound_system.proofs.Walking.{frames_of_walk, walk_types}

-- ---- parts

code_is : (bytes : List ℕ) (insns : List Instruction) → IsTrue (is_code bytes insns) → IsCode bytes insns
code_is bytes insns h =
    let parts = and_parts (bytes_eq bytes (flat_map insn_bytes insns)) _ h in
    let fit = and_parts (all_fit 0 insns) _ parts.1 in
    let size = and_parts (nat_le 1 (length bytes)) (nat_le (length bytes) 65535) fit.1 in
    record {
      spelled = (bytes_eq-Decides bytes (flat_map insn_bytes insns)).0 parts.0;
      fit = fit.0;
      some = leb-true 1 (length bytes) size.0;
      few = leb-true (length bytes) 65535 size.1;
    }

empty : (handlers : List Handler) → length handlers ≤ 0 → handlers ≡ []
empty [] h = refl
empty (x ∷ more) h = absurd (omega (arith, h))

handlers_keep : (env : Environment) → IsTrue (has_no_handlers env.code) → HandlersKeepRules env
handlers_keep env h =
    let none : env.code.exception_table ≡ [] = empty env.code.exception_table (leb-true (length env.code.exception_table) 0 h) in
    record {
      fit = subst (λ (xs : List Handler). HandlersFit env.code.code xs) (sym none) (All-nil (HandlerFits env.code.code));
      catch = subst (λ (xs : List Handler). IsTrue (list_all (catches_throwable env) xs)) (sym none) refl;
    }

stand : (env : Environment) (maps : List PlacedFrame) → IsTrue (list_all (frame_stands env) maps) → All (FrameStands env) maps
stand env [] h = All-nil (FrameStands env)
stand env (f ∷ maps) h =
    let parts = and_parts (frame_stands env f) (list_all (frame_stands env) maps) h in
    let at = and_parts (is_some (instruction_at env f.offset)) _ parts.0 in
    let lists = and_parts (list_all (is_made_by_new env) f.frame.locals) (list_all (is_made_by_new env) f.frame.stack) at.1 in
    All-cons (FrameStands env) f maps (record { at = at.0; locals = lists.0; stack = lists.1 }) (stand env maps parts.1)

unsome : {A : Type 0} (x y : A) → Some x ≡ Some y → x ≡ y
unsome x y e = cc

-- the frames of a stack map, by its forms
has_frames : (env : Environment) (forms : List MapForm) (bytes : Option (List ℕ)) (maps : List PlacedFrame)
    → spells_map env forms bytes ≡ Some maps → HasFrames env bytes maps
has_frames env forms None maps e = sym (unsome [] maps e)
has_frames env forms (Some bytes) maps e = by_test (bytes_eq bytes (stack_map_bytes forms) &&
    (nat_lt (length forms) 65536 && list_all form_fits forms)) refl e
  where
    by_made : IsTrue (bytes_eq bytes (stack_map_bytes forms) && (nat_lt (length forms) 65536 && list_all form_fits forms))
        → (o : Option (List (MapFrame FrameType))) → frames_behind (type_of (current_class env).constant_pool) (is_within (limits_of env)) 0
        (reverse (entries_before env)) forms ≡ o
        → option_map (map (placed_frame env.code.max_locals)) o ≡ Some maps
        → Maps (current_class env).constant_pool (limits_of env) (entries_before env) bytes maps
    by_made t None m k = absurd cc
    by_made t (Some entries) m k =
        let parts = and_parts (bytes_eq bytes (stack_map_bytes forms)) (nat_lt (length forms) 65536 && list_all form_fits forms) t in
        let size = and_parts (nat_lt (length forms) 65536) (list_all form_fits forms) parts.1 in
        record {
          forms = forms;
          spelled = (bytes_eq-Decides bytes (stack_map_bytes forms)).0 parts.0;
          counted = ltb-true (length forms) 65536 size.0;
          fit = size.1;
          entries = entries;
          made = m;
          expand = sym (unsome (map (placed_frame env.code.max_locals) entries) maps k);
        }

    by_test : (b : Bool) → (bytes_eq bytes (stack_map_bytes forms) && (nat_lt (length forms) 65536 && list_all form_fits forms)) ≡ b
        → (if b then frames_of env forms else None) ≡ Some maps → Maps (current_class env).constant_pool (limits_of env)
        (entries_before env) bytes maps
    by_test false t k = absurd cc
    by_test true t k = by_made t (frames_behind (type_of (current_class env).constant_pool) (is_within (limits_of env)) 0
        (reverse (entries_before env)) forms) refl k

-- ---- a method's code

record IsTypedIn (env : Environment) : Type 0 where
  code : IsCode env.code.code env.instructions
  maps : List PlacedFrame
  typing : IsTyping env maps (frames_of_walk env maps)

typed_in : (env : Environment) (forms : List MapForm) → IsTrue (types_in env forms) → IsTypedIn env
typed_in env forms h = by_maps (spells_map env forms env.code.stack_map_table) refl end.1
  where
    code : IsTrue (is_code env.code.code env.instructions) × IsTrue
        (nat_le (argument_words env) env.code.max_locals && (has_no_handlers env.code &&
        (ends_code (last_instruction env) && types_with env (spells_map env forms env.code.stack_map_table))))
    code = and_parts _ _ h

    words : IsTrue (nat_le (argument_words env) env.code.max_locals)
        × IsTrue (has_no_handlers env.code && (ends_code (last_instruction env) && types_with env
        (spells_map env forms env.code.stack_map_table)))
    words = and_parts _ _ code.1

    handlers : IsTrue (has_no_handlers env.code) × IsTrue (ends_code (last_instruction env) && types_with env
        (spells_map env forms env.code.stack_map_table))
    handlers = and_parts _ _ words.1

    end : IsTrue (ends_code (last_instruction env)) × IsTrue (types_with env (spells_map env forms env.code.stack_map_table))
    end = and_parts _ _ handlers.1

    by_maps : (o : Option (List PlacedFrame)) → spells_map env forms env.code.stack_map_table ≡ o → IsTrue (types_with env o)
        → IsTypedIn env
    by_maps None e t = absurd cc
    by_maps (Some maps) e t =
        let parts = and_parts (list_all (frame_stands env) maps) (walks env maps 0 (Some (first_frame env)) env.instructions) t in
        record {
          code = code_is env.code.code env.instructions code.0;
          maps = maps;
          typing = record {
            arguments = leb-true (argument_words env) env.code.max_locals words.0;
            handlers = handlers_keep env handlers.0;
            stack_map = record { spelled = has_frames env forms env.code.stack_map_table maps e; stand = stand env maps parts.0 };
            below = walk_types env maps (length env.code.code) parts.1;
            end = end.0;
          };
        }

-- ---- a method

pub method_typed : (world : World) (l : Loaded) (shown : Shown) (m : Method) → IsTrue (types_method world l shown m) → IsSome m.code
    → HasTyping world (declared_by l m)
method_typed world l shown m h has = by_parts (method_type_of m.descriptor) refl m.code refl h has
  where
    by_parts : (d : Option MethodDescriptor) → method_type_of m.descriptor ≡ d → (c : Option CodeSeen) → m.code ≡ c
        → IsTrue (types_code world (declared_by l m) shown d c) → IsSome c → HasTyping world (declared_by l m)
    by_parts d e None k t some = absurd cc
    by_parts None e (Some code) k t some = absurd cc
    by_parts (Some descriptor) e (Some code) k t some =
        let typed = typed_in (in_environment world (declared_by l m) descriptor code shown.instructions) shown.forms t in
        record {
          env = in_environment world (declared_by l m) descriptor code shown.instructions;
          of = (refl, refl);
          is = record { descriptor = e; code = k; instructions = typed.code };
          maps = typed.maps;
          frames = frames_of_walk (in_environment world (declared_by l m) descriptor code shown.instructions) typed.maps;
          typing = typed.typing;
        }
