-- getstatic on words: what the machine does stands afterwards.
use Rattle.std.proofs.Common.{◌≡◌, ℕ, ◌+◌, ◌<◌, ◌≤◌, List, [], ◌∷◌, ◌++◌, length, set, refl, sym, ap, subst, ◌∙◌, get_or, arith, length-append, append-nil, append_assoc}
use Rattle.std.proofs.Math.Seq.{get_or-append_seam}
use Rattle.std.proofs.lemmas.List.Sums.{sum_by-cons}
use Rattle.jv_meaning_world.specs.LookUps.{DeclaredField}
use Rattle.jv_meaning_machine.specs.Faults.{found}
use Rattle.jv_meaning_machine.specs.Faults.Fault.{OffsetFault}
use Rattle.jv_meaning_machine.specs.Values.{Value, value_words}
use Rattle.jv_meaning_machine.specs.Objects.{key_of, value_at}
use Rattle.jv_meaning_machine.specs.State.{Memory}
use Rattle.jv_meaning_machine.specs.Effects.{Effect, Context, goes_on}
use Rattle.jv_meaning_machine.specs.Effects.Effect.{Goes}
use Rattle.jv_interp_words.specs.declared.registers.Registers.{Registers}
use Rattle.jv_interp_words.specs.ValuesInWords.{IsOnTop}
use Rattle.jv_interp_words.specs.FramesInWords.{in_use}
use Rattle.jv_interp_words.proofs.Gave.{bound_gave, found_gave}
use Rattle.jv_interp_words.proofs.InUse.{in_use_pushed, in_use_two, length-in_use}
use Rattle.jv_interp_words.proofs.FramesStand.{frame_length}
use Rattle.jv_interp_heap.specs.ObjectsInBlocks.{IsIn}
use Rattle.jv_interp_heap.proofs.Carried.{word_pushed, long_pushed, one_own, two_own}
use Rattle.jv_interp_heap.proofs.Fields.{StandsIn, field_stands, own_length}
use Rattle.jv_interp_held.specs.declared.effect.Effect.TheVariants as effects
use Rattle.jv_interp_held.specs.EffectsInWords.{EffectStands}
use Rattle.jv_interp_held.specs.Executing.{Place, place, HasRoom, Did}
use Rattle.jv_interp_held.specs.HeldInWords.{static_fields, MemoryStands}
use Rattle.jv_interp_held.proofs.Popped.{frame_pushed}
use Rattle.jv_interp_members.specs.Statics.{GettingStatic}
use Rattle.jv_interp_members.proofs.Got.{done_same}
use Rattle.jv_interp_members.proofs.FieldStands.{value_width}

module _ (word width next : ℕ) (here : Place) (texts : List (List ℕ)) (c : Context) (d : DeclaredField) (addresses : List ℕ) (done : Memory × Effect) (below : List ℕ)
    (h : GettingStatic word width next here texts c d addresses done below) where
  pub record Gets : Type 0 where
    pub value : Value
    pub there : StandsIn addresses (static_fields c.program.world) c.memory.statics (key_of d) value word here.held.statics.items
    pub width_is : value_words value ≡ width
    pub is : done ≡ (c.memory, Goes c.next c.frame.locals (value ∷ c.frame.stack))

  pub gets : Gets
  gets =
      let value = bound_gave (found OffsetFault (value_at (key_of d) c.memory.statics)) (λ (v : Value). goes_on c (v ∷ c.frame.stack)) done h.executes.does in
      let holds = found_gave OffsetFault (value_at (key_of d) c.memory.statics) value.0 value.1 in
      let fields = static_fields c.program.world in
      record {
        value = value.0;
        there = field_stands addresses (key_of d) value.0 fields c.memory.statics here.held.statics.items word h.executes.memory.statics h.stands.begins holds;
        width_is = value_width addresses (key_of d) value.0 fields c.memory.statics here.held.statics.items h.executes.memory.statics holds ∙ h.stands.width_is;
        is = done_same (c.memory, Goes c.next c.frame.locals (value.0 ∷ c.frame.stack)) done value.2;
      }

  abbrev statics : List ℕ
  statics = here.held.statics.items

  pub statics_length : word + width ≤ length statics
  statics_length =
      let at = gets.there.at in
      let own = own_length addresses gets.value at.own at.stands in
      let size = ap length at.words_are in
      let e = gets.width_is in
      omega (arith, own, size, e, at.place_is, length-append at.before (at.own ++ at.behind), length-append at.own at.behind)

  pub has_room : HasRoom c below (length here.words) done → here.at.top + width ≤ length here.words
  has_room room =
      let fits = subst (λ (x : Memory × Effect). HasRoom c below (length here.words) x) gets.is room in
      let size = frame_length addresses c.frame.locals c.frame.stack (in_use here.words here.at.top) below h.executes.frame in
      let used = length-in_use here.words here.at.top h.executes.top_within in
      let sum = sum_by-cons value_words gets.value c.frame.stack in
      let wide = gets.width_is in
      omega (arith, fits, size, used, sum, wide)

  went :
      (at : Registers) (words : List ℕ) → at.pc ≡ next → IsOnTop addresses gets.value (in_use words at.top) (in_use here.words here.at.top)
      → Did texts (place at words here.held here.blocks) effects.Goes c addresses done below
  went at words pc_is stands =
      subst (λ (x : Memory × Effect). Did texts (place at words here.held here.blocks) effects.Goes c addresses x below) (sym gets.is)
      (record {
        more = [];
        effect_stands =
            subst (λ (l : List ℕ). EffectStands c.program.world l c.frame (Goes c.next c.frame.locals (gets.value ∷ c.frame.stack)) effects.Goes at (in_use words at.top) below)
            (sym (append-nil addresses))
            (record {
              pc_is = pc_is ∙ h.executes.next_is;
              count = refl;
              stand =
                  frame_pushed addresses c.frame.locals gets.value c.frame.stack (in_use words at.top) (in_use here.words here.at.top) below
                  h.executes.frame stands;
            });
        memory =
            subst (λ (l : List ℕ). MemoryStands c.program.world texts c.memory l here.held here.blocks) (sym (append-nil addresses)) h.executes.memory;
      })

  -- ---- one word

  pub got_word :
      (at : Registers) (x : ℕ) → x ≡ get_or statics word x → width ≡ 1 → at.pc ≡ next → at.top ≡ here.at.top + 1
      → here.at.top < length here.words
      → Did texts (place at (set here.words here.at.top x) here.held here.blocks) effects.Goes c addresses done below
  got_word at x is one pc_is top_is room =
      let t = gets.there.at in
      let own = one_own t.own (own_length addresses gets.value t.own t.stands ∙ gets.width_is ∙ one) in
      let seam : x ≡ own.0 =
      is ∙ ap (λ (l : List ℕ). get_or l word x) (t.words_are ∙ ap (λ (l : List ℕ). t.before ++ (l ++ t.behind)) own.1)
      ∙ ap (λ (n : ℕ). get_or (t.before ++ own.0 ∷ t.behind) n x) (sym t.place_is) ∙ get_or-append_seam t.before own.0 t.behind x in
      let used =
      subst (λ (n : ℕ). in_use (set here.words here.at.top own.0) n ≡ own.0 ∷ in_use here.words here.at.top) (sym top_is)
      (in_use_pushed here.words here.at.top own.0 room) in
      subst (λ (n : ℕ). Did texts (place at (set here.words here.at.top n) here.held here.blocks) effects.Goes c addresses done below) (sym seam)
      (went at (set here.words here.at.top own.0) pc_is
      (subst (λ (u : List ℕ). IsOnTop addresses gets.value u (in_use here.words here.at.top)) (sym used)
      (word_pushed addresses gets.value own.0 (in_use here.words here.at.top) (subst (λ (l : List ℕ). IsIn addresses gets.value l) own.1 t.stands))))

  -- ---- a long

  pub got_long :
      (at : Registers) (x y : ℕ) → x ≡ get_or statics word x → y ≡ get_or statics (word + 1) y → width ≡ 2 → at.pc ≡ next
      → at.top ≡ here.at.top + 2 → here.at.top + 1 < length here.words
      → Did texts (place at (set (set here.words here.at.top x) (here.at.top + 1) y) here.held here.blocks) effects.Goes c addresses done below
  got_long at x y x_is y_is two pc_is top_is room =
      let t = gets.there.at in
      let own = two_own t.own (own_length addresses gets.value t.own t.stands ∙ gets.width_is ∙ two) in
      let first = own.0 in
      let second = own.1 in
      let all : statics ≡ t.before ++ first ∷ second ∷ t.behind = t.words_are ∙ ap (λ (l : List ℕ). t.before ++ (l ++ t.behind)) own.2 in
      let first_is : x ≡ first =
      x_is ∙ ap (λ (l : List ℕ). get_or l word x) all ∙ ap (λ (n : ℕ). get_or (t.before ++ first ∷ second ∷ t.behind) n x) (sym t.place_is)
      ∙ get_or-append_seam t.before first (second ∷ t.behind) x in
      let longer : length (t.before ++ first ∷ []) ≡ word + 1 = let e = t.place_is in omega (arith, e, length-append t.before (first ∷ [])) in
      let second_is : y ≡ second =
      y_is ∙ ap (λ (l : List ℕ). get_or l (word + 1) y) (all ∙ sym (append_assoc t.before (first ∷ []) (second ∷ t.behind)))
      ∙ ap (λ (n : ℕ). get_or ((t.before ++ first ∷ []) ++ second ∷ t.behind) n y) (sym longer)
      ∙ get_or-append_seam (t.before ++ first ∷ []) second t.behind y in
      let used =
      subst (λ (n : ℕ). in_use (set (set here.words here.at.top first) (here.at.top + 1) second) n ≡ second ∷ first ∷ in_use here.words here.at.top)
      (sym top_is) (in_use_two here.words here.at.top first second room) in
      subst (λ (n : ℕ). Did texts (place at (set (set here.words here.at.top n) (here.at.top + 1) y) here.held here.blocks) effects.Goes c addresses done below) (sym first_is)
      (subst (λ (n : ℕ). Did texts (place at (set (set here.words here.at.top first) (here.at.top + 1) n) here.held here.blocks) effects.Goes c addresses done below) (sym second_is)
      (went at (set (set here.words here.at.top first) (here.at.top + 1) second) pc_is
      (subst (λ (u : List ℕ). IsOnTop addresses gets.value u (in_use here.words here.at.top)) (sym used)
      (long_pushed addresses gets.value first second (in_use here.words here.at.top) (subst (λ (l : List ℕ). IsIn addresses gets.value l) own.2 t.stands)))))
