-- String literals (JVMS 5.1): each text has one object, a String whose chars are an array that was made with it.
use Rattle.std.proofs.Common.{◌≡◌, ℕ, zero, suc, ◌+◌, ◌-◌, Bool, true, false, List, [], ◌∷◌, ◌++◌, length, map, Option, Some, None, Ok, refl, sym, ap, subst, ◌∙◌, arith}
use Rattle.std.specs.Prelude.{⊤, slice_get, if◌then◌else◌}
use Rattle.std.specs.List.{AllByRecursion}
use Rattle.std.specs.Str.{bytes_eq}
use Rattle.jv_text.specs.declared.descriptor.Base.TheVariants as bases
use Rattle.jv_stackmap.specs.declared.verification.VerificationTypeOf.TheVariants as types
use Rattle.jv_meaning_world.specs.World.{Loaded, class_named}
use Rattle.jv_meaning_world.proofs.Up.{has_name}
use Rattle.jv_meaning_world.proofs.Order.{below_is_reflexive}
use Rattle.jv_meaning_typing.specs.Named.{string_type, class_type}
use Rattle.jv_meaning_machine.specs.Faults.Fault.{OffsetFault, ReferenceFault}
use Rattle.jv_meaning_machine.specs.Values.Value.{Reference}
use Rattle.jv_meaning_machine.specs.Objects.{Object, new_instance}
use Rattle.jv_meaning_machine.specs.State.{Program, Memory}
use Rattle.jv_meaning_machine.specs.Costs.{paid}
use Rattle.jv_meaning_machine.specs.Arrays.{base_components}
use Rattle.jv_meaning_machine.specs.Literals.{string_name, string_value, char_of, chars_of, string_with, literal_in, literal_made, literal_cells, literal_or_new, literal}
use Rattle.jv_sound.specs.Values.{Fits, Heap, IsObject}
use Rattle.jv_sound.specs.Memory.{IsTypedObject, IsTypedMemory}
use Rattle.jv_sound.specs.Later.{IsLater}
use Rattle.jv_sound.specs.Frames.{Holds}
use Rattle.jv_sound.proofs.Logic.{holds, then_holds, found_holds}
use Rattle.jv_sound.proofs.Heaps.{same, more_later, with_more, get_behind}
use Rattle.jv_sound.proofs.Memories.{IsMakeable, new_typed, more_typed, paid_is}
use Rattle.jv_sound.proofs.Storing.{with_value_fits, with_value_keys}

module _ (program : Program) (string : Loaded) (there : class_named program.world string_name ≡ Some string)
    (makeable : IsMakeable program string) where
  chars_fit : (units : List ℕ) (objects : List Object) → AllByRecursion (Fits program.world objects types.Int) (map char_of units)
  chars_fit [] objects = tt
  chars_fit (u ∷ units) objects = (tt, chars_fit units objects)

  chars_typed : (units : List ℕ) (objects : List Object) → IsTypedObject program objects (chars_of units)
  chars_typed units objects = record { loadable = refl; fit = chars_fit units objects }

  string_typed : (objects : List Object) (n : ℕ) (units : List ℕ) → slice_get objects n ≡ Some (chars_of units)
      → IsTypedObject program objects (string_with program string n)
  string_typed objects n units e =
      let h = new_typed program objects true string makeable in
      record {
        l = h.l;
        named = h.named;
        loadable = h.loadable;
        verified = h.verified;
        plain = h.plain;
        keys = with_value_keys string_value (Reference n) (new_instance program.world true string).fields ∙ h.keys;
        values = with_value_fits program.world objects string_value (Reference n) (new_instance program.world true string).fields
            (record {
              object = chars_of units;
              there = e;
              constructed = refl;
              below = below_is_reflexive program.world
                  (types.Array (base_components bases.Char));
            }) h.values;
      }

  -- the object of a text, and the memory with it
  pub record IsLiteral (a : Heap) (made : Memory × ℕ) : Type 0 where
    pub heap : Heap
    pub grows : (d : ℕ) → IsLater d a heap
    pub is : heap.objects ≡ made.0.objects
    pub typed : IsTypedMemory program made.0
    pub object : IsObject program.world heap.objects string_type made.1

  abbrev pub IsLiteralIf : Heap → Option (Memory × ℕ) → Type 0
  IsLiteralIf a None = ⊤
  IsLiteralIf a (Some made) = IsLiteral a made

  made_typed : (text : List ℕ) (memory : Memory) (n : ℕ) → IsTypedMemory program memory
      → IsObject program.world memory.objects string_type n
      → IsTypedMemory program (record memory { literals = (text, n) ∷ memory.literals })
  made_typed text memory n typed f = record {
    objects = typed.objects;
    statics = typed.statics;
    statics_there = typed.statics_there;
    literals = by_text;
    no_memory = typed.no_memory;
    arguments = typed.arguments;
  }
    where
      by_text : (other : List ℕ) (id : ℕ) → literal_in other ((text, n) ∷ memory.literals) ≡ Some id
          → IsObject program.world memory.objects string_type id
      by_text other id e = by_test (bytes_eq other text) e
        where
          by_test : (b : Bool) → (if b then Some n else literal_in other memory.literals) ≡ Some id
              → IsObject program.world memory.objects string_type id
          by_test true k = let s : n ≡ id = cc in subst (λ (m : ℕ). IsObject program.world memory.objects string_type m) s f
          by_test false k = typed.literals other id k

  get_second : (h : List Object) (x y : Object) → slice_get (h ++ x ∷ y ∷ []) (length h + 1) ≡ Some y
  get_second [] x y = refl
  get_second (z ∷ h) x y = subst (λ (n : ℕ). slice_get ((z ∷ h) ++ x ∷ y ∷ []) n ≡ Some y) (sym (plus_one (length h))) (get_second h x y)
    where
      plus_one : (n : ℕ) → suc n + 1 ≡ suc (n + 1)
      plus_one n = omega arith

  made_ok : (a : Heap) (memory : Memory) (text units : List ℕ) (cells : ℕ) → a.objects ≡ memory.objects → IsTypedMemory program memory
      → IsLiteralIf a (literal_made program string text units (Some (record memory { cells = cells })))
  made_ok a memory text units cells is typed =
      let n = length memory.objects in
      let s = string_with program string (n + 1) in
      let more = s ∷ chars_of units ∷ [] in
      let b = with_more a more in
      let second : slice_get b.objects (n + 1) ≡ Some (chars_of units) = subst
      (λ (os : List Object). slice_get (os ++ more) (n + 1) ≡ Some (chars_of units)) (sym is)
      (get_second memory.objects s (chars_of units)) in
      let first : slice_get b.objects n ≡ Some s = subst (λ (os : List Object). slice_get (os ++ more) n ≡ Some s) (sym is)
      (get_behind memory.objects more) in
      let object : IsObject program.world b.objects string_type n = record
      { object = s; there = first; constructed = refl; below = is_string } in
      record {
        heap = b;
        grows = λ d. more_later d a more;
        is = ap (λ (os : List Object). os ++ more) is;
        typed = subst (λ (os : List Object). IsTypedMemory program
            (record memory { objects = os ++ more; cells = cells; literals = (text, n) ∷ memory.literals })) is
            (made_typed text (record memory { objects = b.objects; cells = cells }) n
            (more_typed program a memory more cells is typed (λ k o e. each second k o e)) object);
        object = object;
      }
    where
      is_string : Rattle.jv_meaning_world.specs.Laws.Order.IsBelow program.world
          (class_type string.class.name) string_type
      is_string = subst (λ (name : List ℕ). Rattle.jv_meaning_world.specs.Laws.Order.IsBelow program.world
          (class_type name) string_type) (sym (has_name program.world string_name string there))
          (below_is_reflexive program.world string_type)

      each : slice_get (a.objects ++ string_with program string (length memory.objects + 1) ∷ chars_of units ∷ [])
          (length memory.objects + 1) ≡ Some (chars_of units)
          → (k : ℕ) (o : Object) → slice_get (string_with program string (length memory.objects + 1) ∷ chars_of units ∷ []) k ≡ Some o
          → IsTypedObject program (a.objects ++ string_with program string (length memory.objects + 1) ∷ chars_of units ∷ []) o
      each second zero o e =
          let same_object : string_with program string (length memory.objects + 1) ≡ o = cc in
          subst (λ (p : Object). IsTypedObject program (a.objects ++ string_with program string
          (length memory.objects + 1) ∷ chars_of units ∷ []) p) same_object (string_typed _ (length memory.objects + 1) units second)
      each second (suc zero) o e =
          let same_object : chars_of units ≡ o = cc in
          subst (λ (p : Object). IsTypedObject program (a.objects ++ string_with program string
          (length memory.objects + 1) ∷ chars_of units ∷ []) p) same_object (chars_typed units _)
      each second (suc (suc k)) o e = absurd cc

  pub literal_ok : (a : Heap) (memory : Memory) (text units : List ℕ) → a.objects ≡ memory.objects → IsTypedMemory program memory
      → program.units text ≡ Some units
      → Holds (IsLiteralIf a) (literal program text memory)
  literal_ok a memory text units is typed spelled = by_known (literal_in text memory.literals) refl
    where
      by_cells : (o : Option Memory) → paid (literal_cells program string units) memory ≡ o
          → IsLiteralIf a (literal_made program string text units o)
      by_cells None e = tt
      by_cells (Some after) e =
          subst (λ (m : Memory). IsLiteralIf a (literal_made program string text units (Some m)))
          (sym (paid_is program (literal_cells program string units) memory after e))
          (made_ok a memory text units (memory.cells - literal_cells program string units) is typed)

      by_known : (o : Option ℕ) → literal_in text memory.literals ≡ o → Holds (IsLiteralIf a) (literal_or_new program text memory o)
      by_known (Some id) e = holds (record {
        heap = a;
        grows = λ d. same d a;
        is = is;
        typed = typed;
        object = subst
            (λ (os : List Object). IsObject program.world os string_type id) (sym is) (typed.literals text id e);
      })
      by_known None e =
          then_holds (found_holds {P = λ l. l ≡ string} ReferenceFault (class_named program.world string_name) string there refl)
          (λ l same_class.
          then_holds (found_holds {P = λ us. us ≡ units} OffsetFault (program.units text) units spelled refl) (λ us same_units.
          subst (λ (x : Loaded). Holds (IsLiteralIf a) (Ok (literal_made program x text us (paid (literal_cells program x us) memory))))
          (sym same_class)
          (subst (λ (ys : List ℕ). Holds (IsLiteralIf a) (Ok (literal_made program string text ys
          (paid (literal_cells program string ys) memory)))) (sym same_units)
          (holds (by_cells (paid (literal_cells program string units) memory) refl)))))
