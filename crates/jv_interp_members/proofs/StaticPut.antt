-- putstatic on words: what the machine does stands afterwards.
use Rattle.std.proofs.Common.{◌≡◌, ℕ, true, ◌+◌, ◌-◌, ◌≤◌, List, [], ◌∷◌, ◌++◌, Some, Ok, length, set, refl, sym, ap, subst, ◌∙◌, get_or, drop, arith, length-append, append-nil, append_assoc}
use Rattle.std.specs.Prelude.{vec_capacity}
use Rattle.std.proofs.Math.Seq.{set-append_seam}
use Rattle.jv_text.specs.declared.descriptor.FieldTypeOf.{FieldTypeOf}
use Rattle.jv_text.specs.Types.{field_type_of}
use Rattle.jv_stackmap.specs.Types.{value_type}
use Rattle.jv_meaning_world.specs.LookUps.{DeclaredField}
use Rattle.jv_meaning_machine.specs.Faults.{found, ◌>>=◌}
use Rattle.jv_meaning_machine.specs.Faults.Fault.{OffsetFault}
use Rattle.jv_meaning_machine.specs.Values.{Value, value_words, has_type, narrowed}
use Rattle.jv_meaning_machine.specs.Objects.{key_of, value_at, with_value}
use Rattle.jv_meaning_machine.specs.State.{Memory}
use Rattle.jv_meaning_machine.specs.Operands.{taken_as}
use Rattle.jv_meaning_machine.specs.Effects.{Effect, Context, goes_on_with}
use Rattle.jv_meaning_machine.specs.Effects.Effect.{Goes}
use Rattle.jv_meaning_machine.specs.Fields.{described, with_static}
use Rattle.jv_interp_words.specs.declared.registers.Registers.{Registers}
use Rattle.jv_interp_words.specs.FramesInWords.{in_use, FrameStands}
use Rattle.jv_interp_words.proofs.Gave.{bound_gave, found_gave}
use Rattle.jv_interp_words.proofs.Taken.{taken_gave}
use Rattle.jv_interp_words.proofs.InUse.{in_use_top, length-in_use}
use Rattle.jv_interp_heap.specs.declared.narrowing.Narrowing.{Narrowing}
use Rattle.jv_interp_heap.specs.Narrowing.{Narrows}
use Rattle.jv_interp_heap.specs.ObjectsInBlocks.{IsIn, AreFields}
use Rattle.jv_interp_heap.proofs.Widths.{typed_words, described_words}
use Rattle.jv_interp_heap.proofs.Carried.{word_taken, long_taken, one_own, two_own}
use Rattle.jv_interp_heap.proofs.Fields.{StandsIn, field_stands, own_length}
use Rattle.jv_interp_held.specs.declared.held.Held.{Held}
use Rattle.jv_interp_held.specs.declared.effect.Effect.TheVariants as effects
use Rattle.jv_interp_held.specs.EffectsInWords.{EffectStands}
use Rattle.jv_interp_held.specs.Executing.{Place, place, Did}
use Rattle.jv_interp_held.specs.HeldInWords.{static_fields, MemoryStands}
use Rattle.jv_interp_held.proofs.Popped.{Popped, frame_popped, some_used}
use Rattle.jv_interp_members.specs.Statics.{PuttingStatic}
use Rattle.jv_interp_members.proofs.Got.{done_same}
use Rattle.jv_interp_members.proofs.Putting.{taken_kind}
use Rattle.jv_interp_members.proofs.PutStands.{long_stays}
use Rattle.jv_interp_members.proofs.FieldStands.{value_width}

-- what putstatic does
pub record Puts (c : Context) (d : DeclaredField) (done : Memory × Effect) : Type 0 where
  pub type : FieldTypeOf (List ℕ)
  pub type_is : field_type_of d.field.descriptor ≡ Some type
  pub value : Value
  pub kind : has_type (value_type type) value ≡ true
  pub rest : List Value
  pub stood : c.frame.stack ≡ value ∷ rest
  pub old : Value
  pub holds : value_at (key_of d) c.memory.statics ≡ Some old
  pub is : done ≡ (with_static (key_of d) (narrowed type value) c.memory, Goes c.next c.frame.locals rest)

puts : (c : Context) (d : DeclaredField) (done : Memory × Effect) → Rattle.jv_meaning_machine.specs.Fields.put_static c d ≡ Ok done → Puts c d done
puts c d done e =
    let type =
    bound_gave (described d.field.descriptor)
    (λ (t : FieldTypeOf (List ℕ)). taken_as c.memory.objects (value_type t) c.frame.stack >>= λ top. found OffsetFault (value_at (key_of d) c.memory.statics) >>= λ old.
    goes_on_with c (with_static (key_of d) (narrowed t top.0) c.memory) top.1)
    done e in
    let top =
    bound_gave (taken_as c.memory.objects (value_type type.0) c.frame.stack)
    (λ (t : Value × List Value). found OffsetFault (value_at (key_of d) c.memory.statics) >>= λ old. goes_on_with c (with_static (key_of d) (narrowed type.0 t.0) c.memory) t.1)
    done type.2 in
    let old =
    bound_gave (found OffsetFault (value_at (key_of d) c.memory.statics))
    (λ (o : Value). goes_on_with c (with_static (key_of d) (narrowed type.0 top.0.0) c.memory) top.0.1) done top.2 in
    record {
      type = type.0;
      type_is = found_gave OffsetFault (field_type_of d.field.descriptor) type.0 type.1;
      value = top.0.0;
      kind = taken_kind c.memory.objects (value_type type.0) c.frame.stack top.0 top.1;
      rest = top.0.1;
      stood = taken_gave c.memory.objects (value_type type.0) c.frame.stack top.0 top.1;
      old = old.0;
      holds = found_gave OffsetFault (value_at (key_of d) c.memory.statics) old.0 old.1;
      is = done_same (with_static (key_of d) (narrowed type.0 top.0.0) c.memory, Goes c.next c.frame.locals top.0.1) done old.2;
    }

module _ (word width : ℕ) (how : Narrowing) (next : ℕ) (here : Place) (texts : List (List ℕ)) (c : Context) (d : DeclaredField) (addresses : List ℕ) (done : Memory × Effect) (below : List ℕ)
    (h : PuttingStatic word width how next here texts c d addresses done below) where
  pub p : Puts c d done
  p = puts c d done h.executes.does

  abbrev statics : List ℕ
  statics = here.held.statics.items

  pub there : StandsIn addresses (static_fields c.program.world) c.memory.statics (key_of d) p.old word statics
  there = field_stands addresses (key_of d) p.old (static_fields c.program.world) c.memory.statics statics word h.executes.memory.statics h.stands.begins p.holds

  pub old_width : value_words p.old ≡ width
  old_width = value_width addresses (key_of d) p.old (static_fields c.program.world) c.memory.statics statics h.executes.memory.statics p.holds ∙ h.stands.width_is

  pub new_width : value_words p.value ≡ width
  new_width = typed_words (value_type p.type) p.value p.kind ∙ sym (described_words d.field.descriptor p.type p.type_is) ∙ h.stands.width_is

  pub statics_length : word + width ≤ length statics
  statics_length =
      let at = there.at in
      let own = own_length addresses p.old at.own at.stands in
      let size = ap length at.words_are in
      let e = old_width in
      omega (arith, own, size, e, at.place_is, length-append at.before (at.own ++ at.behind), length-append at.own at.behind)

  pub top : Popped addresses c.frame.locals p.value p.rest (in_use here.words here.at.top) below
  top = frame_popped addresses c.frame.locals c.frame.stack p.value p.rest (in_use here.words here.at.top) below h.executes.frame p.stood

  pub has_top : 1 ≤ here.at.top
  has_top = some_used addresses p.value here.words here.at.top top.under h.executes.top_within top.on_top

  top_used : in_use here.words here.at.top ≡ get_or here.words (here.at.top - 1) 0 ∷ in_use here.words (here.at.top - 1)
  top_used = in_use_top here.words here.at.top has_top h.executes.top_within

  -- the frame goes on, over what is held now
  went :
      (at : Registers) (held : Held) (own : List ℕ) → at.pc ≡ next → top.under ≡ in_use here.words at.top
      → IsIn addresses (narrowed p.type p.value) own → value_words (narrowed p.type p.value) ≡ value_words p.old
      → held ≡ record here.held { statics = held.statics } → held.statics.items ≡ there.at.before ++ (own ++ there.at.behind)
      → Did texts (place at here.words held here.blocks) effects.Goes c addresses done below
  went at held own pc_is under_is stands width same statics_are =
      let m = h.executes.memory in
      subst (λ (x : Memory × Effect). Did texts (place at here.words held here.blocks) effects.Goes c addresses x below) (sym p.is)
      (record {
        more = [];
        effect_stands =
            subst (λ (l : List ℕ). EffectStands c.program.world l c.frame (Goes c.next c.frame.locals p.rest) effects.Goes at (in_use here.words at.top) below)
            (sym (append-nil addresses))
            (record {
              pc_is = pc_is ∙ h.executes.next_is;
              count = refl;
              stand = subst (λ (u : List ℕ). FrameStands addresses c.frame.locals p.rest u below) under_is top.lower;
            });
        memory =
            subst (λ (l : List ℕ). MemoryStands c.program.world texts (with_static (key_of d) (narrowed p.type p.value) c.memory) l held here.blocks) (sym (append-nil addresses))
            (record {
              objects = m.objects;
              statics =
                  subst (λ (ws : List ℕ). AreFields addresses (static_fields c.program.world) (with_value (key_of d) (narrowed p.type p.value) c.memory.statics) ws)
                  (sym statics_are) (there.stored (narrowed p.type p.value) own stands width);
              literals = subst (λ (g : Held). Rattle.jv_interp_held.specs.HeldInWords.AreLiterals texts addresses c.memory.literals g.literals.items) (sym same) m.literals;
              error_stands = m.error_stands ∙ ap Some (sym (ap (λ (g : Held). g.out_of_memory) same));
              arguments_stand = m.arguments_stand ∙ ap Some (sym (ap (λ (g : Held). g.arguments) same));
              cells = m.cells ∙ sym (ap (λ (g : Held). g.cells) same);
              output_left = m.output_left ∙ sym (ap (λ (g : Held). g.output_left) same);
              output = m.output ∙ sym (ap (λ (g : Held). g.output.items) same);
              output_room = subst (λ (g : Held). length g.output.items + g.output_left ≤ vec_capacity g.output) (sym same) m.output_room;
              read_within = subst (λ (g : Held). g.read ≤ length g.input.items) (sym same) m.read_within;
              input = m.input ∙ sym (ap (λ (g : Held). drop g.read g.input.items) same);
            });
      })

  -- ---- one word

  pub put_word :
      (at : Registers) (held : Held) (stored : ℕ) → width ≡ 1 → Narrows how (get_or here.words (here.at.top - 1) 0) stored → at.pc ≡ next
      → at.top ≡ here.at.top - 1 → held ≡ record here.held { statics = held.statics } → held.statics.items ≡ set statics word stored
      → Did texts (place at here.words held here.blocks) effects.Goes c addresses done below
  put_word at held stored one narrows pc_is top_is same statics_are =
      let t = word_taken addresses p.value (in_use here.words here.at.top) top.under top.on_top (new_width ∙ one) in
      let both = sym t.used_is ∙ top_used in
      let under : top.under ≡ in_use here.words at.top = ap (λ (l : List ℕ). drop 1 l) both ∙ ap (in_use here.words) (sym top_is) in
      let is : t.word ≡ get_or here.words (here.at.top - 1) 0 = ap (λ (l : List ℕ). get_or l 0 0) both in
      let value_in = subst (λ (w : ℕ). IsIn addresses p.value (w ∷ [])) is t.stands in
      let new_in = narrows addresses p.type p.value (h.narrows p.type p.type_is) p.kind value_in in
      let size = sym (own_length addresses (narrowed p.type p.value) (stored ∷ []) new_in) in
      let own = one_own there.at.own (own_length addresses p.old there.at.own there.at.stands ∙ old_width ∙ one) in
      let now : set statics word stored ≡ there.at.before ++ stored ∷ there.at.behind =
      ap (λ (l : List ℕ). set l word stored) (there.at.words_are ∙ ap (λ (l : List ℕ). there.at.before ++ (l ++ there.at.behind)) own.1)
      ∙ ap (λ (n : ℕ). set (there.at.before ++ own.0 ∷ there.at.behind) n stored) (sym there.at.place_is)
      ∙ set-append_seam there.at.before own.0 there.at.behind stored in
      went at held (stored ∷ []) pc_is under new_in (size ∙ sym (old_width ∙ one)) same (statics_are ∙ now)

  -- ---- a long, which nothing narrows

  pub two_used : width ≡ 2 → 2 ≤ here.at.top
  two_used two =
      let t = long_taken addresses p.value (in_use here.words here.at.top) top.under top.on_top (new_width ∙ two) in
      let length_is = ap length t.used_is in
      let size = length-in_use here.words here.at.top h.executes.top_within in
      omega (arith, length_is, size)

  pub put_long :
      (at : Registers) (held : Held) → width ≡ 2 → at.pc ≡ next → at.top ≡ here.at.top - 2 → held ≡ record here.held { statics = held.statics }
      → held.statics.items ≡ set (set statics word (get_or here.words (here.at.top - 2) 0)) (word + 1) (get_or here.words (here.at.top - 1) 0)
      → Did texts (place at here.words held here.blocks) effects.Goes c addresses done below
  put_long at held two pc_is top_is same statics_are =
      let t = long_taken addresses p.value (in_use here.words here.at.top) top.under top.on_top (new_width ∙ two) in
      let enough = two_used two in
      let lower : here.at.top - 1 ≤ length here.words = let a = h.executes.top_within in omega (arith, a) in
      let next_used = in_use_top here.words (here.at.top - 1) (omega (arith, enough)) lower in
      let minus : here.at.top - 1 - 1 ≡ here.at.top - 2 = omega arith in
      let second_used : in_use here.words (here.at.top - 1) ≡ get_or here.words (here.at.top - 2) 0 ∷ in_use here.words (here.at.top - 2) =
      subst (λ (n : ℕ). in_use here.words (here.at.top - 1) ≡ get_or here.words n 0 ∷ in_use here.words n) minus next_used in
      let both = sym t.used_is ∙ top_used ∙ ap (λ (l : List ℕ). get_or here.words (here.at.top - 1) 0 ∷ l) second_used in
      let under : top.under ≡ in_use here.words at.top = ap (λ (l : List ℕ). drop 2 l) both ∙ ap (in_use here.words) (sym top_is) in
      let high : t.high ≡ get_or here.words (here.at.top - 1) 0 = ap (λ (l : List ℕ). get_or l 0 0) both in
      let low : t.low ≡ get_or here.words (here.at.top - 2) 0 = ap (λ (l : List ℕ). get_or l 1 0) both in
      let a = get_or here.words (here.at.top - 2) 0 in
      let b = get_or here.words (here.at.top - 1) 0 in
      let value_in = subst (λ (w : ℕ). IsIn addresses p.value (w ∷ b ∷ [])) low (subst (λ (w : ℕ). IsIn addresses p.value (t.low ∷ w ∷ [])) high t.stands) in
      let new_in = subst (λ (v : Value). IsIn addresses v (a ∷ b ∷ [])) (sym (long_stays p.type p.value (new_width ∙ two))) value_in in
      let size = sym (own_length addresses (narrowed p.type p.value) (a ∷ b ∷ []) new_in) in
      let own = two_own there.at.own (own_length addresses p.old there.at.own there.at.stands ∙ old_width ∙ two) in
      let first : set statics word a ≡ there.at.before ++ a ∷ own.1 ∷ there.at.behind =
      ap (λ (l : List ℕ). set l word a) (there.at.words_are ∙ ap (λ (l : List ℕ). there.at.before ++ (l ++ there.at.behind)) own.2)
      ∙ ap (λ (n : ℕ). set (there.at.before ++ own.0 ∷ own.1 ∷ there.at.behind) n a) (sym there.at.place_is)
      ∙ set-append_seam there.at.before own.0 (own.1 ∷ there.at.behind) a in
      let longer : length (there.at.before ++ a ∷ []) ≡ word + 1 =
      let e = there.at.place_is in omega (arith, e, length-append there.at.before (a ∷ [])) in
      let second : set (there.at.before ++ a ∷ own.1 ∷ there.at.behind) (word + 1) b ≡ there.at.before ++ a ∷ b ∷ there.at.behind =
      ap (λ (l : List ℕ). set l (word + 1) b) (sym (append_assoc there.at.before (a ∷ []) (own.1 ∷ there.at.behind)))
      ∙ ap (λ (n : ℕ). set ((there.at.before ++ a ∷ []) ++ own.1 ∷ there.at.behind) n b) (sym longer)
      ∙ set-append_seam (there.at.before ++ a ∷ []) own.1 there.at.behind b
      ∙ append_assoc there.at.before (a ∷ []) (b ∷ there.at.behind) in
      went at held (a ∷ b ∷ []) pc_is under new_in (size ∙ sym (old_width ∙ two)) same
      (statics_are ∙ ap (λ (l : List ℕ). set l (word + 1) b) first ∙ second)
