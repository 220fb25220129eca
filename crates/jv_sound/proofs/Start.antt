-- The start: its memory is of its types, and its state is good.
use Rattle.std.proofs.Common.{◌≡◌, ℕ, zero, suc, Bool, true, false, not, ◌||◌, List, [], ◌∷◌, ◌++◌, map, filter, Option, Some, None, refl, sym, ap, subst, ◌∙◌}
use Rattle.std.specs.Prelude.{IsTrue, slice_get, codes, if◌then◌else◌}
use Rattle.std.specs.List.{AllByRecursion, Contains, flat_map}
use Rattle.std.specs.Option.{option_and_then}
use Rattle.jv_text.specs.Name.{is_init}
use Rattle.jv_text.specs.Types.{field_type_of, method_type_of}
use Rattle.jv_code.specs.Places.{StandsInList, NextStarts}
use Rattle.jv_stackmap.specs.declared.verification.VerificationTypeOf.TheVariants as types
use Rattle.jv_meaning_world.specs.System.Io.{io}
use Rattle.jv_class.specs.Class.{Class, Field, method_named}
use Rattle.jv_class.specs.Rules.{is_clinit}
use Rattle.jv_class_structure.specs.Flags.{has, acc_public, acc_static, acc_abstract}
use Rattle.jv_meaning_world.specs.World.{Loaded, World, loaded, class_named}
use Rattle.jv_meaning_world.specs.Overriding.{Declared}
use Rattle.jv_meaning_world.specs.LookUps.{field_by, method_in, method_if}
use Rattle.jv_meaning_world.specs.Verdicts.{is_loadable}
use Rattle.jv_meaning_world.proofs.Up.{named_stands}
use Rattle.jv_meaning_world.proofs.Up.{has_name}
use Rattle.jv_meaning_world.proofs.Order.{below_is_reflexive}
use Rattle.jv_meaning_typing.specs.Kind.{is_static_field}
use Rattle.jv_meaning_typing.proofs.Found.{passed, method_is_named}
use Rattle.jv_meaning_typing.proofs.Resolved.{method_in_is}
use Rattle.jv_meaning_world.specs.Laws.Order.{IsBelow, has_loadable_element}
use Rattle.jv_meaning_typing.specs.Named.{array_with, class_components, class_type}
use Rattle.jv_meaning_machine.specs.Faults.Fault.{ReferenceFault}
use Rattle.jv_meaning_machine.specs.Objects.{Object, Content, default_entry, made_object, new_array}
use Rattle.jv_meaning_machine.specs.Frames.{Frame}
use Rattle.jv_meaning_machine.specs.State.{Program, Control, state_of, is_ready}
use Rattle.jv_meaning_machine.specs.State.ClassState.{Untouched, Initialized}
use Rattle.jv_meaning_machine.specs.State.End.{Running, NoMain}
use Rattle.jv_meaning_machine.specs.Literals.{string_name}
use Rattle.jv_meaning_machine.proofs.Began.{begun_if, begun_in}
use Rattle.jv_meaning_machine.specs.Initialization.{main_method, main_in, is_main, begin, is_verified}
use Rattle.jv_meaning_machine.specs.Start.{Budget, static_entries, start_memory, start_control, start_with, start}
use Rattle.jv_sound.specs.Values.{FitsEntry}
use Rattle.jv_sound.specs.Memory.{IsTypedObject, IsTypedMemory}
use Rattle.jv_sound.specs.Sound.{IsSound}
use Rattle.jv_sound.specs.Frames.{Holds, AreVerified, HasMain, IsGood, IsRunnable, string_array}
use Rattle.jv_sound.specs.Effects.{IsThrown}
use Rattle.jv_sound.proofs.EnteringAbove.{Raises, Begins}
use Rattle.jv_sound.proofs.Logic.{clash, holds, then_holds, found_holds}
use Rattle.jv_sound.proofs.Taking.{and_parts}
use Rattle.jv_sound.proofs.Memories.{described_fits, new_typed, IsMakeable}
use Rattle.jv_sound.proofs.SystemFacts.{with_guests, raised, makeable, system_verified}
use Rattle.jv_sound.proofs.Asked.{AreFormed, method_stands, needs_have_code}

string_loadable : (library : List Class) (guests : World) → has_loadable_element (with_guests library guests) (class_components string_name).element ≡ true
string_loadable [] guests = refl
string_loadable (first ∷ more) guests = refl

entries_join : (world : World) (objects : List Object) (xs ys : Content) → AllByRecursion (FitsEntry world objects) xs
    → AllByRecursion (FitsEntry world objects) ys → AllByRecursion (FitsEntry world objects) (xs ++ ys)
entries_join world objects [] ys h k = k
entries_join world objects (x ∷ xs) ys h k = (h.0, entries_join world objects xs ys h.1 k)

fields_fit : (world : World) (objects : List Object) (l : Loaded) (fs : List Field)
    → AllByRecursion (FitsEntry world objects) (map (λ f. default_entry (field_by l f)) fs)
fields_fit world objects l [] = tt
fields_fit world objects l (f ∷ fs) = (described_fits world objects (field_type_of f.descriptor), fields_fit world objects l fs)

statics_fit : (world : World) (objects : List Object) (ls : World) → AllByRecursion (FitsEntry world objects) (flat_map static_entries ls)
statics_fit world objects [] = tt
statics_fit world objects (l ∷ ls) = entries_join world objects (static_entries l) (flat_map static_entries ls)
    (fields_fit world objects l (filter is_static_field l.class.fields)) (statics_fit world objects ls)

module _ (program : Program) (sound : IsSound program) (formed : AreFormed program)
    (units : Rattle.jv_meaning_machine.specs.Alone.AreUnits program.units) where
  abbrev error_name : List ℕ
  error_name = codes "java/lang/OutOfMemoryError"

  error_is_thrown : IsThrown program.world error_name
  error_is_thrown = raised program sound error_name refl

  start_typed : (input : List ℕ) (b : Budget) (l : Loaded) → class_named program.world error_name ≡ Some l → IsMakeable program l
      → IsTypedMemory program (start_memory program.world input b l)
  start_typed input b l e makeable = record {
    objects = record { each = each };
    statics = statics_fit program.world (start_memory program.world input b l).objects program.world;
    statics_there = refl;
    literals = λ text id k. absurd (no_literal id k);
    no_memory = record {
      object = made_object program.world l;
      there = refl;
      constructed = refl;
      below = subst (λ (n : List ℕ). IsBelow program.world (types.Class n) (class_type error_name))
          (sym (has_name program.world error_name l e)) (below_is_reflexive program.world (class_type error_name));
    };
    arguments = record {
      object = new_array (class_components string_name) 0;
      there = refl;
      constructed = refl;
      below = below_is_reflexive
          program.world (array_with (class_components string_name));
    };
  }
    where
      no_literal : (id : ℕ) → None ≡ Some id → ⊥
      no_literal id k = cc

      each : (id : ℕ) (o : Object) → slice_get (start_memory program.world input b l).objects id ≡ Some o
          → IsTypedObject program (start_memory program.world input b l).objects o
      each zero o k =
          let same : made_object program.world l ≡ o = cc in
          subst (λ (x : Object). IsTypedObject program (start_memory program.world input b l).objects x) same
          (new_typed program (start_memory program.world input b l).objects true l makeable)
      each (suc zero) o k =
          let same : new_array (class_components string_name) 0 ≡ o = cc in
          subst (λ (x : Object). IsTypedObject program (start_memory program.world input b l).objects x) same
          (record {
            loadable = subst (λ (w : World). has_loadable_element w (class_components string_name).element ≡ true) (sym sound.world)
                (string_loadable sound.library (map (loaded false) sound.guests));
            fit = tt;
          })
      each (suc (suc id)) o k = absurd cc

  none_begun : AreVerified program []
  none_begun l here e = by_system l.by_system refl e
    where
      by_system : (s : Bool) → l.by_system ≡ s → is_ready (if s then Initialized else Untouched) ≡ true → IsTrue (is_verified program l)
      by_system true s k = system_verified program sound l here s
      by_system false s k = absurd (clash k)

  -- main can be run once its class is verified
  pub main_ok : (main : List ℕ) (d : Declared) → main_method program.world main ≡ Some d
      → Contains program.world d.by × (IsTrue (is_verified program d.by) → IsRunnable program d (string_array ∷ []))
  main_ok main d e = by_class (class_named program.world main) refl e
    where
      runnable : (l : Loaded) → Contains program.world l → (d.by ≡ l)
          × (method_named l.class (codes "main") (codes "([Ljava/lang/String;)V") ≡ Some d.method) → is_main d ≡ true
          → IsTrue (is_verified program d.by) → IsRunnable program d (string_array ∷ [])
      runnable l here is test verified =
          let texts = method_is_named l.class (codes "main") (codes "([Ljava/lang/String;)V") d.method is.1 in
          let there = method_stands l.class (codes "main") (codes "([Ljava/lang/String;)V") d.method is.1 in
          let static = (and_parts (has d.method.access_flags acc_public) (has d.method.access_flags acc_static) test).1 in
          record {
            enterable = record {
              here = subst (λ (x : Loaded). class_named program.world x.class.name ≡ Some x) (sym is.0) (sound.named l here);
              declared = subst (λ (x : Loaded). method_named x.class d.method.name d.method.descriptor ≡ Some d.method) (sym is.0)
                  (ap (λ (n : List ℕ). method_named l.class n d.method.descriptor) texts.0 ∙
                  (ap (method_named l.class (codes "main")) texts.1 ∙ is.1));
              verified = verified;
              code = needs_have_code program formed sound.named units l here
                  (λ io_is. no_method (subst (λ (x : Loaded). method_named x.class (codes "main")
                  (codes "([Ljava/lang/String;)V") ≡ Some d.method) io_is is.1)) d.method there
                  (or_third (is_clinit d.method.name) (is_init d.method.name) (has d.method.access_flags acc_static)
                  (not (has d.method.access_flags acc_abstract)) static);
            };
            static = static;
            plain = ap is_init texts.0;
            descriptor = record { parameters = string_array ∷ []; result = None };
            described = ap method_type_of texts.1;
            takes = refl;
          }
        where
          no_method : method_named io (codes "main") (codes "([Ljava/lang/String;)V") ≡ Some d.method → ⊥
          no_method k = absurd cc

          or_third : (a b c d : Bool) → c ≡ true → ((a || b) || (c || d)) ≡ true
          or_third true b c d h = refl
          or_third false true c d h = refl
          or_third false false true d h = refl
          or_third false false false d h = absurd (clash h)

      by_method : (l : Loaded) → Contains program.world l → method_if is_main
          (method_in (codes "main") (codes "([Ljava/lang/String;)V") l) ≡ Some d
          → Contains program.world d.by × (IsTrue (is_verified program d.by) → IsRunnable program d (string_array ∷ []))
      by_method l here k =
          let both = passed is_main (method_in (codes "main") (codes "([Ljava/lang/String;)V") l) d k in
          let is = method_in_is (codes "main") (codes "([Ljava/lang/String;)V") l d both.0 in
          (subst (Contains program.world) (sym is.0) here, λ v. runnable l here is both.1 v)

      by_loadable : (l : Loaded) → Contains program.world l → (b : Bool)
          → elim b [ false ↦ None | true ↦ method_if is_main (method_in (codes "main") (codes "([Ljava/lang/String;)V") l) ] ≡ Some d
          → Contains program.world d.by × (IsTrue (is_verified program d.by) → IsRunnable program d (string_array ∷ []))
      by_loadable l here false k = absurd cc
      by_loadable l here true k = by_method l here k

      by_class : (o : Option Loaded) → class_named program.world main ≡ o → option_and_then (main_in program.world) o ≡ Some d
          → Contains program.world d.by × (IsTrue (is_verified program d.by) → IsRunnable program d (string_array ∷ []))
      by_class None k f = absurd cc
      by_class (Some l) k f = by_loadable l (named_stands program.world main l k) (is_loadable program.world l) f

  module _ (next_starts : NextStarts) (stands_in_list : StandsInList)
      (raise_ok : Raises program sound.rooted next_starts stands_in_list)
      (begin_ok : Begins program) where
    pub start_ok : (main input : List ℕ) (b : Budget) → Holds (IsGood program) (start program main input b)
    start_ok main input b =
        then_holds (found_holds {P = λ l. l ≡ error_is_thrown.l} ReferenceFault
        (class_named program.world error_name) error_is_thrown.l error_is_thrown.named refl) (λ l e.
        subst (λ (x : Loaded). Holds (IsGood program) (start_with program main b (start_memory program.world input b x)
        (main_method program.world main))) (sym e)
        (by_main (main_method program.world main) refl))
      where
        typed : IsTypedMemory program (start_memory program.world input b error_is_thrown.l)
        typed = start_typed input b error_is_thrown.l error_is_thrown.named (makeable program sound error_name error_is_thrown)

        ended : (control : Control) → control.states ≡ [] → IsGood program
            (state_of (start_memory program.world input b error_is_thrown.l) [] control)
        ended control s = record {
          heap = record { objects = (start_memory program.world input b error_is_thrown.l).objects; owner = λ n. 0; born = λ n. 0 };
          is = refl;
          memory = typed;
          frames = tt;
          verified = subst (AreVerified program) (sym s) none_begun;
          main = tt;
        }

        all_main : (d : Declared) → main_method program.world main ≡ Some d → IsRunnable program d (string_array ∷ []) → (fs : List Frame)
            → HasMain program main fs
        all_main d e r [] = tt
        all_main d e r (f ∷ fs) = (d, e, r)

        by_verified : (d : Declared) → main_method program.world main ≡ Some d → (v : Bool) → is_verified program d.by ≡ v
            → Holds (IsGood program) (begin program (start_memory program.world input b error_is_thrown.l) []
            (start_control main b Running) d.by)
        by_verified d e true v =
            let m = main_ok main d e in
            begin_ok (record { objects = (start_memory program.world input b error_is_thrown.l).objects; owner = λ n. 0; born = λ n. 0 })
            (start_memory program.world input b error_is_thrown.l) [] (start_control main b Running) d.by refl typed none_begun
            (all_main d e (m.1 v)) m.0 tt
        by_verified d e false v = by_system d.by.by_system refl
          where
            by_system : (s : Bool) → d.by.by_system ≡ s → Holds (IsGood program)
                (begun_in program (start_memory program.world input b error_is_thrown.l) [] (start_control main b Running) d.by
                (if s then Initialized else Untouched))
            by_system true s = holds (ended (start_control main b Running) refl)
            by_system false s =
                subst (λ (t : Bool). Holds (IsGood program) (begun_if program (start_memory program.world input b error_is_thrown.l) []
                (start_control main b Running) d.by t)) (sym v)
                (raise_ok (record {
                  objects = (start_memory program.world input b error_is_thrown.l).objects;
                  owner = λ n. 0;
                  born =
                      λ n. 0;
                }) (start_memory program.world input b error_is_thrown.l) [] (start_control main b Running)
                (codes "java/lang/VerifyError") refl typed none_begun tt tt
                (raised program sound (codes "java/lang/VerifyError") refl))

        by_main : (o : Option Declared) → main_method program.world main ≡ o
            → Holds (IsGood program) (start_with program main b (start_memory program.world input b error_is_thrown.l) o)
        by_main None e = holds (ended (start_control main b NoMain) refl)
        by_main (Some d) e = by_verified d e (is_verified program d.by) refl
