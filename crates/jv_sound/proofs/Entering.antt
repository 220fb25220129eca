-- Entering a method: its frame begins as the method's typing has it.
use Rattle.std.proofs.Common.{◌≡◌, ℕ, zero, suc, ◌-◌, ◌≤◌, Bool, true, false, List, [], ◌∷◌, ◌++◌, length, replicate, Option, Some, None, Ok, refl, sym, ap, subst, ◌∙◌, arith}
use Rattle.std.specs.Prelude.{IsSome, if◌then◌else◌}
use Rattle.std.specs.List.{Contains, flat_map, find}
use Rattle.std.proofs.lemmas.Bool.{le-leb}
use Rattle.std.proofs.lemmas.List.Elements.{All-contains}
use Rattle.std.proofs.lemmas.List.Sums.{sum_by-cons}
use Rattle.std.proofs.Common.{length-append}
use Rattle.jv_text.specs.Descriptor.{MethodDescriptor}
use Rattle.jv_text.specs.Types.{method_type_of}
use Rattle.jv_stackmap.specs.declared.verification.VerificationTypeOf.TheVariants as types
use Rattle.jv_stackmap.specs.Types.{FrameType, width, words}
use Rattle.jv_stackmap.specs.Frames.{type_by_words, expanded}
use Rattle.jv_code.specs.Insns.{Instruction}
use Rattle.jv_code.specs.Places.{OneList}
use Rattle.jv_class.specs.Class.{Method}
use Rattle.jv_class_structure.specs.Parts.{CodeSeen}
use Rattle.jv_meaning_world.specs.World.{World}
use Rattle.jv_meaning_world.specs.Overriding.{Declared}
use Rattle.jv_meaning_world.specs.Verdicts.{declared_by}
use Rattle.jv_meaning_world.proofs.Up.{named_stands}
use Rattle.jv_meaning_typing.specs.Uses.{Site}
use Rattle.jv_meaning_typing.specs.Environment.{Environment, IsEnvironment}
use Rattle.jv_meaning_typing.specs.Typing.{IsTyping, HasTyping}
use Rattle.jv_meaning_machine.specs.Faults.{found, ◌>>=◌}
use Rattle.jv_meaning_machine.specs.Faults.Fault.{OffsetFault, LocalFault, UnverifiedFault}
use Rattle.jv_meaning_machine.specs.Values.{Value}
use Rattle.jv_meaning_machine.specs.Values.Value.{Long, Half, Unset}
use Rattle.jv_meaning_machine.specs.Frames.{local_words, filled}
use Rattle.jv_meaning_machine.specs.State.{Program, is_class_accepted, entered_method}
use Rattle.jv_sound.specs.Values.{Zip, Place, FitsIn, Item, IsPaired, HasLocals}
use Rattle.jv_sound.specs.Sound.{IsEnterable, IsChecked, IsSound}
use Rattle.jv_sound.specs.Frames.{Holds}
use Rattle.jv_sound.proofs.Logic.{clash, holds, then_holds, tested_holds, found_holds}
use Rattle.jv_sound.proofs.Taking.{and_parts}

-- ---- the local variables

module _ (p : Place) where
  -- an item's words, each of its type
  pair_append : (t : FrameType) (vs more : List Value) → IsPaired t vs → IsPaired t (vs ++ more)
  pair_append types.Long (Half ∷ vs) more h = tt
  pair_append types.Long _ more h = absurd h
  pair_append _ vs more h = tt

  locals_append : (ts us : List FrameType) (vs ws : List Value) → HasLocals p ts vs → HasLocals p us ws → HasLocals p (ts ++ us) (vs ++ ws)
  locals_append [] us [] ws f g = g
  locals_append (t ∷ ts) us (v ∷ vs) ws f g = (f.0, pair_append t vs ws f.1, locals_append ts us vs ws f.2 g)
  locals_append _ us _ ws f g = absurd f

  not_long : (t : FrameType) (v : Value) → (t ≡ types.Long → ⊥) → FitsIn p t v → HasLocals p (t ∷ []) (v ∷ [])
  not_long types.Long v n f = absurd (n refl)
  not_long types.Top v n f = (f, tt, tt)
  not_long types.Int v n f = (f, tt, tt)
  not_long types.Null v n f = (f, tt, tt)
  not_long types.UninitializedThis v n f = (f, tt, tt)
  not_long (types.Class c) v n f = (f, tt, tt)
  not_long (types.Array c) v n f = (f, tt, tt)
  not_long (types.Uninitialized o) v n f = (f, tt, tt)

  item_locals : (t : FrameType) (v : Value) → Item p t v → HasLocals p (type_by_words t) (local_words v)
  item_locals types.Long (Long n) h = (tt, tt, (tt, tt, tt))
  item_locals types.Long _ h = absurd h.fits
  item_locals _ (Long n) h = absurd cc
  item_locals types.Top v h = (tt, tt, tt)
  item_locals types.Int v h = (h.fits, tt, tt)
  item_locals types.Null v h = (h.fits, tt, tt)
  item_locals types.UninitializedThis v h = (h.fits, tt, tt)
  item_locals (types.Class c) v h = (h.fits, tt, tt)
  item_locals (types.Array c) v h = (h.fits, tt, tt)
  item_locals (types.Uninitialized o) v h = (h.fits, tt, tt)

  spread : (es : List FrameType) (vs : List Value) → Zip (Item p) es vs → HasLocals p (flat_map type_by_words es) (flat_map local_words vs)
  spread [] [] h = tt
  spread (t ∷ es) (v ∷ vs) h = locals_append (type_by_words t) (flat_map type_by_words es) (local_words v) (flat_map local_words vs)
      (item_locals t v h.0) (spread es vs h.1)
  spread _ _ h = absurd h

  item_length : (t : FrameType) (v : Value) → Item p t v → length (local_words v) ≡ width t
  item_length types.Long (Long n) h = refl
  item_length types.Long _ h = absurd h.fits
  item_length _ (Long n) h = absurd cc
  item_length _ v h = refl

  spread_length : (es : List FrameType) (vs : List Value) → Zip (Item p) es vs → length (flat_map local_words vs) ≡ words es
  spread_length [] [] h = refl
  spread_length (t ∷ es) (v ∷ vs) h =
      let more : length (flat_map local_words vs) ≡ words es = spread_length es vs h.1 in
      let one : length (local_words v) ≡ width t = item_length t v h.0 in
      omega (arith, more, one, length-append (local_words v) (flat_map local_words vs), sum_by-cons width t es)
  spread_length _ _ h = absurd h

  unset : (n : ℕ) → HasLocals p (replicate n types.Top) (replicate n Unset)
  unset zero = tt
  unset (suc n) = (tt, tt, unset n)

  pub filled_ok : (max : ℕ) (es : List FrameType) (vs : List Value) → Zip (Item p) es vs → words es ≤ max
      → Holds (HasLocals p (expanded max es)) (filled max (flat_map local_words vs))
  filled_ok max es vs h room =
      let size : length (flat_map local_words vs) ≡ words es = spread_length es vs h in
      tested_holds LocalFault _ _ (le-leb (length (flat_map local_words vs)) max (omega (arith, size, room)))
      (subst (λ (n : ℕ). HasLocals p (expanded max es) (flat_map local_words vs ++ replicate (max - n) Unset)) (sym size)
      (locals_append (flat_map type_by_words es) (replicate (max - words es) types.Top) (flat_map local_words vs)
      (replicate (max - words es) Unset) (spread es vs h) (unset (max - words es))))

-- ---- the method

abbrev made : World → Site → MethodDescriptor → CodeSeen → List Instruction → Environment
made world site descriptor code instructions = record {
  world = world;
  site = site;
  descriptor = descriptor;
  code = code;
  instructions =
      instructions;
}

same_environment : (env other : Environment) → env.world ≡ other.world → env.site ≡ other.site → env.descriptor ≡ other.descriptor
    → env.code ≡ other.code → env.instructions ≡ other.instructions → env ≡ other
same_environment env other a b c d e =
    ap (λ (x : World). made x env.site env.descriptor env.code env.instructions) a
    ∙ ap (λ (x : Site). made other.world x env.descriptor env.code env.instructions) b
    ∙ ap (λ (x : MethodDescriptor). made other.world other.site x env.code env.instructions) c
    ∙ ap (λ (x : CodeSeen). made other.world other.site other.descriptor x env.instructions) d
    ∙ ap (λ (x : List Instruction). made other.world other.site other.descriptor other.code x) e

-- a method that its class finds is one of the class's
named_is_one : (ms : List Method) (test : Method → Bool) (m : Method) → find test ms ≡ Some m → Contains ms m
named_is_one [] test m e = absurd cc
named_is_one (x ∷ ms) test m e = by_test (test x) e (λ k. named_is_one ms test m k)
  where
    by_test : (b : Bool) → (if b then Some x else find test ms) ≡ Some m → (find test ms ≡ Some m → Contains ms m) → Contains (x ∷ ms) m
    by_test true e next = let s : x ≡ m = cc in subst (λ (y : Method). Contains (x ∷ ms) y) s
        (Rattle.jv_meaning_world.proofs.Up.first x ms)
    by_test false e next = Rattle.jv_meaning_world.proofs.Up.later x ms m (next e)

module _ (program : Program) (sound : IsSound program) (one_list : OneList) where
  typing_of : (d : Declared) → IsEnterable program d → HasTyping program.world d
  typing_of d e =
      All-contains (λ (m : Method). IsSome m.code → HasTyping program.world (declared_by d.by m)) d.by.class.methods d.method
      (sound.typed d.by (named_stands program.world d.by.class.name d.by e.here)
      (and_parts (is_class_accepted program d.by) _ e.verified).0)
      (named_is_one d.by.class.methods _ d.method e.declared) e.code

  some_code : (o : Option CodeSeen) → IsSome o → (c : CodeSeen) × (o ≡ Some c)
  some_code None h = absurd (clash h)
  some_code (Some c) h = (c, refl)

  -- entering finds the environment for which there is a typing
  pub entered_ok : (d : Declared) → IsEnterable program d → Holds (λ env. IsChecked program env × (env.site ≡ d)) (entered_method program d)
  entered_ok d e =
      let h = typing_of d e in
      let world : h.env.world ≡ program.world = h.of.0 in
      let site : h.env.site ≡ d = h.of.1 in
      let code : d.method.code ≡ Some h.env.code = subst (λ (s : Site). s.method.code ≡ Some h.env.code) site h.is.code in
      let described : method_type_of d.method.descriptor ≡ Some h.env.descriptor = subst
      (λ (s : Site). method_type_of s.method.descriptor ≡ Some h.env.descriptor) site h.is.descriptor in
      let spelled : program.instructions h.env.code.code ≡ Some h.env.instructions =
      (sound.instructions h.env.code.code h.env.instructions).1 h.is.instructions in
      then_holds (tested_holds {P = λ x. x ≡ d} UnverifiedFault (is_class_accepted program d.by) d
      (and_parts (is_class_accepted program d.by) _ e.verified).0 refl) (λ x same_d.
      subst (λ (x : Declared). Holds (λ env. IsChecked program env × (env.site ≡ d))
      (found OffsetFault x.method.code >>= λ code. found OffsetFault (method_type_of x.method.descriptor) >>= λ descriptor.
      found OffsetFault (program.instructions code.code) >>= λ instructions. Ok
      (record { world = program.world; site = x; descriptor = descriptor; code = code; instructions = instructions }))) (sym same_d)
      (then_holds (found_holds {P = λ c. c ≡ h.env.code} OffsetFault d.method.code h.env.code code refl) (λ c same_c.
      then_holds (found_holds {P = λ t. t ≡ h.env.descriptor} OffsetFault
      (method_type_of d.method.descriptor) h.env.descriptor described refl) (λ t same_t.
      then_holds (found_holds {P = λ i. i ≡ h.env.instructions} OffsetFault (program.instructions c.code) h.env.instructions
      (ap (λ (x : CodeSeen). program.instructions x.code) same_c ∙ spelled) refl) (λ i same_i.
      holds (checked d e h world site c t i same_c same_t same_i))))))
    where
      checked :
          (d : Declared) → IsEnterable program d → (h : HasTyping program.world d) → h.env.world ≡ program.world → h.env.site ≡ d
          → (c : CodeSeen) (t : MethodDescriptor) (i : List Instruction)
          → c ≡ h.env.code → t ≡ h.env.descriptor → i ≡ h.env.instructions
          → IsChecked program (record { world = program.world; site = d; descriptor = t; code = c; instructions = i }) × (d ≡ d)
      checked d e h world site c t i same_c same_t same_i =
          let env : Environment = record { world = program.world; site = d; descriptor = t; code = c; instructions = i } in
          let same_env : h.env ≡ env = same_environment h.env env world site (sym same_t) (sym same_c) (sym same_i) in (
            record {
              world = refl;
              is = subst IsEnvironment same_env h.is;
              maps = h.maps;
              frames = h.frames;
              typing = subst (λ (x : Environment). IsTyping x h.maps h.frames) same_env h.typing;
              enterable = e;
              loadable = sound.loadable d.by (named_stands program.world d.by.class.name d.by e.here)
                  (and_parts (is_class_accepted program d.by) _ e.verified).0;
            },
            refl,
          )
