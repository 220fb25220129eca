-- getfield on words: what the machine does stands afterwards.
use Rattle.std.proofs.Common.{◌≡◌, ℕ, suc, ◌+◌, ◌-◌, ◌<◌, ◌≤◌, List, [], ◌∷◌, ◌++◌, Ok, length, set, refl, sym, ap, subst, ◌∙◌, get_or, arith, length-append, append-nil, append_assoc}
use Rattle.std.proofs.Math.Seq.{get_or-append_seam}
use Rattle.std.proofs.lemmas.List.Sums.{sum_by-cons}
use Rattle.jv_interp_words.proofs.FramesStand.{frame_length}
use Rattle.jv_store.specs.Content.{words_at}
use Rattle.jv_meaning_world.specs.World.{World}
use Rattle.jv_meaning_world.specs.LookUps.{DeclaredField}
use Rattle.jv_meaning_machine.specs.Values.{Value, value_words}
use Rattle.jv_meaning_machine.specs.Values.Value.{Int, Long, Null, Reference, Half, Unset}
use Rattle.jv_meaning_machine.specs.Objects.{Instance}
use Rattle.jv_meaning_machine.specs.Objects.Object.{InstanceOf}
use Rattle.jv_meaning_machine.specs.State.{Memory}
use Rattle.jv_meaning_machine.specs.Effects.{Effect, Context, null_pointer}
use Rattle.jv_meaning_machine.specs.Effects.Effect.{Goes, Raises}
use Rattle.jv_meaning_machine.specs.Fields.{get_field_of}
use Rattle.jv_interp_words.specs.declared.registers.Registers.{Registers}
use Rattle.jv_interp_words.specs.ValuesInWords.{IsOnTop}
use Rattle.jv_interp_words.specs.FramesInWords.{in_use}
use Rattle.jv_interp_words.proofs.InUse.{in_use_top, in_use_pushed, in_use_two, length-in_use}
use Rattle.jv_interp_heap.specs.ObjectsInBlocks.{IsIn, HasNumber}
use Rattle.jv_interp_heap.proofs.Carried.{word_pushed, long_pushed, one_own, two_own}
use Rattle.jv_interp_heap.proofs.Fields.{own_length}
use Rattle.jv_interp_held.specs.declared.effect.Effect.TheVariants as effects
use Rattle.jv_interp_held.specs.Executing.{Place, place, HasRoom, Did}
use Rattle.jv_interp_held.specs.HeldInWords.{MemoryStands}
use Rattle.jv_interp_held.specs.EffectsInWords.{EffectStands}
use Rattle.jv_interp_heap.proofs.Numbered.{system_numbers}
use Rattle.jv_interp_held.proofs.Popped.{Popped, frame_popped, frame_pushed, some_used, null_word, reference_word, not_zero}
use Rattle.jv_interp_members.specs.Fields.{GettingField}
use Rattle.jv_interp_members.proofs.Got.{done_same, got_of, TakesTop, takes_top}
use Rattle.jv_interp_members.proofs.FieldStands.{FieldIn, field_in}

module _ (word width next : ℕ) (here : Place) (texts : List (List ℕ)) (c : Context) (d : DeclaredField) (addresses : List ℕ) (done : Memory × Effect) (below : List ℕ)
    (h : GettingField word width next here texts c d addresses done below) where
  pub taken : TakesTop c d done
  taken = takes_top c d done h.executes.does

  pub top : Popped addresses c.frame.locals taken.reference taken.rest (in_use here.words here.at.top) below
  top = frame_popped addresses c.frame.locals c.frame.stack taken.reference taken.rest (in_use here.words here.at.top) below h.executes.frame taken.stood

  pub has_top : 1 ≤ here.at.top
  has_top = some_used addresses taken.reference here.words here.at.top top.under h.executes.top_within top.on_top

  abbrev top_word : ℕ
  top_word = get_or here.words (here.at.top - 1) 0

  used_is : in_use here.words here.at.top ≡ top_word ∷ in_use here.words (here.at.top - 1)
  used_is = in_use_top here.words here.at.top has_top h.executes.top_within

  on_top : IsOnTop addresses taken.reference (top_word ∷ in_use here.words (here.at.top - 1)) top.under
  on_top = subst (λ (ws : List ℕ). IsOnTop addresses taken.reference ws top.under) used_is top.on_top

  -- ---- null

  pub raises : top_word ≡ 0 → Did texts here (effects.Raises 15) c addresses done below
  raises zero_is = by_reference taken.reference taken.stood taken.does on_top
    where
      by_reference :
          (v : Value) → c.frame.stack ≡ v ∷ taken.rest → get_field_of c d v taken.rest ≡ Ok done
          → IsOnTop addresses v (top_word ∷ in_use here.words (here.at.top - 1)) top.under → Did texts here (effects.Raises 15) c addresses done below
      by_reference Null stood does t =
          let is : done ≡ (c.memory, Raises null_pointer) = done_same (c.memory, Raises null_pointer) done does in
          subst (λ (x : Memory × Effect). Did texts here (effects.Raises 15) c addresses x below) (sym is)
          (record {
            more = [];
            effect_stands =
                subst (λ (l : List ℕ). EffectStands c.program.world l c.frame (Raises null_pointer) (effects.Raises 15) here.at (in_use here.words here.at.top) below)
                (sym (append-nil addresses)) (
                  subst (λ (w : World). HasNumber w null_pointer 15) (sym h.guests.world_is) (system_numbers h.guests.given h.guests.contents).null_pointer,
                  record { pc_is = h.executes.pc_is; stand = h.executes.frame },
                );
            memory =
                subst (λ (l : List ℕ). MemoryStands c.program.world texts c.memory l here.held here.blocks) (sym (append-nil addresses)) h.executes.memory;
          })
      by_reference (Reference id) stood does t =
          let r = reference_word addresses id top_word _ top.under t in
          absurd (not_zero addresses id top_word h.executes.memory.objects.are r.0 zero_is)
      by_reference (Int n) stood does t = absurd cc
      by_reference (Long n) stood does t = absurd cc
      by_reference Half stood does t = absurd cc
      by_reference Unset stood does t = absurd cc

  -- ---- an object

  pub record Gets : Type 0 where
    pub value : Value
    pub instance : Instance
    pub field : FieldIn c.program.world addresses instance d value word (words_at here.blocks top_word)
    pub is : done ≡ (c.memory, Goes c.next c.frame.locals (value ∷ taken.rest))
    pub under_is : in_use here.words (here.at.top - 1) ≡ top.under

  pub gets : (top_word ≡ 0 → ⊥) → Gets
  gets some = by_reference taken.reference taken.does on_top
    where
      by_reference :
          (v : Value) → get_field_of c d v taken.rest ≡ Ok done
          → IsOnTop addresses v (top_word ∷ in_use here.words (here.at.top - 1)) top.under → Gets
      by_reference Null does t = absurd (some (null_word addresses top_word _ top.under t).0)
      by_reference (Reference id) does t =
          let r = reference_word addresses id top_word _ top.under t in
          let got = got_of c d id taken.rest done does in
          record {
            value = got.value;
            instance = got.instance;
            field =
                field_in c.program.world addresses got.instance (words_at here.blocks top_word) d got.value word
                (λ l named. h.loadable id got.instance l got.there named)
                (h.executes.memory.objects.each id top_word (InstanceOf got.instance) r.0 got.there) h.begins got.holds;
            is = got.is;
            under_is = r.1;
          }
      by_reference (Int n) does t = absurd cc
      by_reference (Long n) does t = absurd cc
      by_reference Half does t = absurd cc
      by_reference Unset does t = absurd cc

  -- the block has the field's words
  pub block_length : (g : Gets) → length (words_at here.blocks top_word) ≡ suc word + (value_words g.value + length g.field.behind)
  block_length g =
      let own = own_length addresses g.value g.field.own g.field.stands in
      ap length g.field.block_is
      ∙ omega (arith, own, g.field.place_is, length-append g.field.before (g.field.own ++ g.field.behind), length-append g.field.own g.field.behind)

  -- the frame goes on with the value on top
  went :
      (g : Gets) (at : Registers) (words : List ℕ) → at.pc ≡ next → IsOnTop addresses g.value (in_use words at.top) (in_use here.words (here.at.top - 1))
      → Did texts (place at words here.held here.blocks) effects.Goes c addresses done below
  went g at words pc_is stands =
      subst (λ (x : Memory × Effect). Did texts (place at words here.held here.blocks) effects.Goes c addresses x below) (sym g.is)
      (record {
        more = [];
        effect_stands =
            subst (λ (l : List ℕ). EffectStands c.program.world l c.frame (Goes c.next c.frame.locals (g.value ∷ taken.rest)) effects.Goes at (in_use words at.top) below)
            (sym (append-nil addresses))
            (record {
              pc_is = pc_is ∙ h.executes.next_is;
              count = refl;
              stand =
                  frame_pushed addresses c.frame.locals g.value taken.rest (in_use words at.top) top.under below top.lower
                  (subst (λ (u : List ℕ). IsOnTop addresses g.value (in_use words at.top) u) g.under_is stands);
            });
        memory =
            subst (λ (l : List ℕ). MemoryStands c.program.world texts c.memory l here.held here.blocks) (sym (append-nil addresses)) h.executes.memory;
      })

  -- ---- one word

  pub got_word :
      (g : Gets) (at : Registers) → width ≡ 1 → at.pc ≡ next → at.top ≡ here.at.top
      → Did texts (place at (set here.words (here.at.top - 1) (get_or (words_at here.blocks top_word) (word + 1) 0)) here.held here.blocks) effects.Goes c addresses done below
  got_word g at one pc_is top_is =
      let own = one_own g.field.own (own_length addresses g.value g.field.own g.field.stands ∙ g.field.width ∙ h.width_is ∙ one) in
      let seam : get_or (words_at here.blocks top_word) (word + 1) 0 ≡ own.0 =
      ap (λ (l : List ℕ). get_or l (word + 1) 0)
      (g.field.block_is ∙ ap (λ (l : List ℕ). g.field.before ++ (l ++ g.field.behind)) own.1)
      ∙ ap (λ (n : ℕ). get_or (g.field.before ++ own.0 ∷ g.field.behind) n 0) (sym (g.field.place_is ∙ one_more word))
      ∙ get_or-append_seam g.field.before own.0 g.field.behind 0 in
      let word_in : IsIn addresses g.value (own.0 ∷ []) = subst (λ (l : List ℕ). IsIn addresses g.value l) own.1 g.field.stands in
      let within : here.at.top - 1 < length here.words = let a = h.executes.top_within in let b = has_top in omega (arith, a, b) in
      let up : here.at.top - 1 + 1 ≡ at.top = let b = has_top in omega (arith, b, top_is) in
      let used =
      subst (λ (n : ℕ). in_use (set here.words (here.at.top - 1) own.0) n ≡ own.0 ∷ in_use here.words (here.at.top - 1)) up
      (in_use_pushed here.words (here.at.top - 1) own.0 within) in
      subst (λ (x : ℕ). Did texts (place at (set here.words (here.at.top - 1) x) here.held here.blocks) effects.Goes c addresses done below) (sym seam)
      (went g at (set here.words (here.at.top - 1) own.0) pc_is
      (subst (λ (u : List ℕ). IsOnTop addresses g.value u (in_use here.words (here.at.top - 1))) (sym used)
      (word_pushed addresses g.value own.0 (in_use here.words (here.at.top - 1)) word_in)))
    where
      one_more : (n : ℕ) → suc n ≡ n + 1
      one_more n = omega arith

  -- ---- a long

  pub got_long :
      (g : Gets) (at : Registers) → width ≡ 2 → at.pc ≡ next → at.top ≡ here.at.top + 1 → here.at.top < length here.words
      → Did texts (place at (set (set here.words (here.at.top - 1) (get_or (words_at here.blocks top_word) (word + 1) 0)) here.at.top
      (get_or (words_at here.blocks top_word) (word + 2) 0)) here.held here.blocks) effects.Goes c addresses done below
  got_long g at two pc_is top_is room =
      let own = two_own g.field.own (own_length addresses g.value g.field.own g.field.stands ∙ g.field.width ∙ h.width_is ∙ two) in
      let first = own.0 in
      let second = own.1 in
      let block : words_at here.blocks top_word ≡ g.field.before ++ first ∷ second ∷ g.field.behind =
      g.field.block_is ∙ ap (λ (l : List ℕ). g.field.before ++ (l ++ g.field.behind)) own.2 in
      let first_is : get_or (words_at here.blocks top_word) (word + 1) 0 ≡ first =
      ap (λ (l : List ℕ). get_or l (word + 1) 0) block
      ∙ ap (λ (n : ℕ). get_or (g.field.before ++ first ∷ second ∷ g.field.behind) n 0) (sym (g.field.place_is ∙ one_more word))
      ∙ get_or-append_seam g.field.before first (second ∷ g.field.behind) 0 in
      let longer : length (g.field.before ++ first ∷ []) ≡ word + 2 =
      let e = g.field.place_is in omega (arith, e, length-append g.field.before (first ∷ [])) in
      let second_is : get_or (words_at here.blocks top_word) (word + 2) 0 ≡ second =
      ap (λ (l : List ℕ). get_or l (word + 2) 0) (block ∙ sym (append_assoc g.field.before (first ∷ []) (second ∷ g.field.behind)))
      ∙ ap (λ (n : ℕ). get_or ((g.field.before ++ first ∷ []) ++ second ∷ g.field.behind) n 0) (sym longer)
      ∙ get_or-append_seam (g.field.before ++ first ∷ []) second g.field.behind 0 in
      let word_in : IsIn addresses g.value (first ∷ second ∷ []) = subst (λ (l : List ℕ). IsIn addresses g.value l) own.2 g.field.stands in
      let within : here.at.top - 1 + 1 < length here.words = let b = has_top in omega (arith, room, b) in
      let up : here.at.top - 1 + 1 ≡ here.at.top = let b = has_top in omega (arith, b) in
      let up_two : here.at.top - 1 + 2 ≡ at.top = let b = has_top in omega (arith, b, top_is) in
      let used_two = in_use_two here.words (here.at.top - 1) first second within in
      let used =
      subst (λ (n : ℕ). in_use (set (set here.words (here.at.top - 1) first) n second) at.top ≡ second ∷ first ∷ in_use here.words (here.at.top - 1)) up
      (subst (λ (n : ℕ). in_use (set (set here.words (here.at.top - 1) first) (here.at.top - 1 + 1) second) n ≡ second ∷ first ∷ in_use here.words (here.at.top - 1)) up_two used_two) in
      subst (λ (x : ℕ). Did texts
      (place at (set (set here.words (here.at.top - 1) x) here.at.top (get_or (words_at here.blocks top_word) (word + 2) 0)) here.held
      here.blocks) effects.Goes c addresses done below) (sym first_is)
      (subst (λ (x : ℕ). Did texts (place at (set (set here.words (here.at.top - 1) first) here.at.top x) here.held here.blocks) effects.Goes c addresses done below) (sym second_is)
      (went g at (set (set here.words (here.at.top - 1) first) here.at.top second) pc_is
      (subst (λ (u : List ℕ). IsOnTop addresses g.value u (in_use here.words (here.at.top - 1))) (sym used)
      (long_pushed addresses g.value first second (in_use here.words (here.at.top - 1)) word_in))))
    where
      one_more : (n : ℕ) → suc n ≡ n + 1
      one_more n = omega arith

  -- there is room for its second word
  pub has_room : (g : Gets) → width ≡ 2 → HasRoom c below (length here.words) done → here.at.top < length here.words
  has_room g two room =
      let fits = subst (λ (x : Memory × Effect). HasRoom c below (length here.words) x) g.is room in
      let size = frame_length addresses c.frame.locals taken.rest top.under below top.lower in
      let sum = sum_by-cons value_words g.value taken.rest in
      let wide = g.field.width ∙ h.width_is ∙ two in
      let under = ap length g.under_is in
      let used = length-in_use here.words (here.at.top - 1) (let a = h.executes.top_within in omega (arith, a)) in
      let some = has_top in
      omega (arith, fits, size, sum, wide, under, used, some)
