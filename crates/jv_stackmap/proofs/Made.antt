-- What reading does to a table makes the frames of its forms (JVMS 4.7.4).
use Rattle.std.proofs.Common.{◌≡◌, ℕ, zero, suc, ◌+◌, Bool, true, false, List, [], ◌∷◌, ◌++◌, length, Option, Some, None, refl, sym, ap, ◌∙◌, append_assoc, arith}
use Rattle.std.specs.Prelude.{map, if◌then◌else◌}
use Rattle.std.specs.Option.{option_map}
use Rattle.std.proofs.lemmas.List.{append-nil, length-append}
use Rattle.jv_format.specs.Format.{◌>>=◌}
use Rattle.jv_format.proofs.Laws.{bind_some, is_some}
use Rattle.jv_pool.specs.Constants.{Entry}
use Rattle.jv_stackmap.specs.declared.item.Item.{Item}
use Rattle.jv_stackmap.specs.declared.form.Form.TheVariants.{Same, SameItem, SameItemExtended, Chop, SameExtended, Append, Full}
use Rattle.jv_stackmap.specs.declared.entry.FrameEntry.{FrameEntry}
use Rattle.jv_stackmap.specs.declared.limits.Limits.{Limits}
use Rattle.jv_stackmap.specs.declared.width.Width.{Width}
use Rattle.jv_stackmap.specs.Bytes.{MapForm}
use Rattle.jv_stackmap.specs.Frames.{MapFrame, map_frame, laid, chopped, locals_behind, stack_in, delta_of, frame_behind, frame_if, frames_behind}
use Rattle.jv_stackmap.specs.Entries.{ReadFrame, words_in}
use Rattle.jv_stackmap.specs.Inside.Steps.{Built, entry_of, with_pile, with_locals, resumed, settled, settled_in, laid_entry, laid_item, laid_items, stack_laid, chopped_in, finished, form_laid, form_done, all_steps}
use Rattle.jv_stackmap.proofs.Typed.{fits_in}

-- a table with these parts
abbrev pub table_of : List Width → List ReadFrame → ℕ → List FrameEntry → List FrameEntry → Built
table_of widths frames base locals pile = record { widths = widths; frames = frames; base = base; locals = locals; pile = pile }

abbrev piled : Built → List FrameEntry → Built
piled b pile = with_pile pile b

-- ---- items

item_first : (pool : List Entry) (b : Built) (more : List Item) (o : Option FrameEntry)
    → ((e : FrameEntry) → laid_items pool (with_pile (e ∷ b.pile) b) more ≡ option_map (piled b) (laid (entry_of pool) (e ∷ b.pile) more))
    → (o >>= laid_entry b >>= λ t. laid_items pool t more) ≡ option_map (piled b) (o >>= λ e. laid (entry_of pool) (e ∷ b.pile) more)
item_first pool b more None h = refl
item_first pool b more (Some e) h = h e

items_as : (pool : List Entry) (b : Built) (list : List Item) → laid_items pool b list ≡ option_map (piled b) (laid (entry_of pool) b.pile list)
items_as pool b [] = refl
items_as pool b (i ∷ more) = item_first pool b more (entry_of pool i) (λ e. items_as pool (with_pile (e ∷ b.pile) b) more)

chop_as : (n : ℕ) (b : Built) (list : List FrameEntry) → chopped_in n (with_locals list b) ≡ option_map (λ l. with_locals l b) (chopped n list)
chop_as zero b list = refl
chop_as (suc n) b [] = refl
chop_as (suc n) b (e ∷ list) = chop_as n b list

-- ---- a form

-- the parts of the next frame
abbrev both_in : Built → List FrameEntry → List FrameEntry → Built
both_in b locals stack = with_pile stack (with_locals locals b)

one_item : (b : Built) (locals : List FrameEntry) (o : Option FrameEntry)
    → (o >>= laid_entry (with_pile [] (with_locals locals b))) ≡ (o >>= (λ e. Some (e ∷ [])) >>= λ stack. Some (both_in b locals stack))
one_item b locals None = refl
one_item b locals (Some e) = refl

of_locals : (b : Built) (o : Option (List FrameEntry)) → option_map (λ l. with_locals l b) o ≡ (o >>= λ locals. Some (with_locals locals b))
of_locals b None = refl
of_locals b (Some l) = refl

of_append : (b : Built) (o : Option (List FrameEntry)) → (option_map (piled b) o >>= settled_in) ≡ (o >>= λ locals. Some (both_in b locals []))
of_append b None = refl
of_append b (Some l) = refl

of_stack : (b : Built) (o : Option (List FrameEntry)) → option_map (piled b) o ≡ (o >>= λ stack. Some (with_pile stack b))
of_stack b None = refl
of_stack b (Some l) = refl

of_full : (pool : List Entry) (b : Built) (stack : List Item) (o : Option (List FrameEntry))
    → (option_map (piled b) o >>= stack_laid pool stack) ≡ (o >>= λ locals. laid (entry_of pool) [] stack >>= λ stack. Some (both_in b locals stack))
of_full pool b stack None = refl
of_full pool b stack (Some l) = let laid_stack = items_as pool (both_in b l []) stack in laid_stack ∙ of_stack (both_in b l []) (laid (entry_of pool) [] stack)

-- the parts that a form gives
abbrev parts_of : List Entry → Built → MapForm → Option Built
parts_of pool b form = locals_behind (entry_of pool) b.locals form >>= λ locals. stack_in (entry_of pool) form >>= λ stack. Some (both_in b locals stack)

laid_as : (pool : List Entry) (widths : List Width) (frames : List ReadFrame) (base : ℕ) (locals : List FrameEntry) (form : MapForm)
    → form_laid pool (table_of widths frames base locals []) form ≡ parts_of pool (table_of widths frames base locals []) form
laid_as pool widths frames base locals (Same delta) = refl
laid_as pool widths frames base locals (SameItem delta item) = one_item (table_of widths frames base locals []) locals (entry_of pool item)
laid_as pool widths frames base locals (SameItemExtended delta item) = one_item (table_of widths frames base locals []) locals (entry_of pool item)
laid_as pool widths frames base locals (Chop count delta) =
    let b : Built = table_of widths frames base locals [] in
    chop_as count b locals ∙ of_locals b (chopped count locals)
laid_as pool widths frames base locals (SameExtended delta) = refl
laid_as pool widths frames base locals (Append delta list) =
    let b : Built = table_of widths frames base locals [] in
    ap (λ (o : Option Built). o >>= settled_in) (items_as pool (resumed b) list) ∙ of_append (resumed b) (laid (entry_of pool) locals list)
laid_as pool widths frames base locals (Full delta list stack) =
    let b : Built = table_of widths frames base locals [] in
    ap (λ (o : Option Built). o >>= stack_laid pool stack) (items_as pool b list) ∙ of_full pool b stack (laid (entry_of pool) [] list)

-- a frame as it is read
abbrev pub read_of : List Width → MapFrame FrameEntry → ReadFrame
read_of widths f = record { offset = f.offset; locals = f.locals; local_words = words_in widths f.locals; stack = f.stack }

-- the table with one frame more
abbrev pub grown : List Width → List ReadFrame → MapFrame FrameEntry → Built
grown widths frames f = table_of widths (frames ++ read_of widths f ∷ []) (f.offset + 1) f.locals []

done_by : (limits : Limits) (delta : ℕ) (widths : List Width) (frames : List ReadFrame) (base : ℕ) (locals stack : List FrameEntry) (b : Bool) →
    fits_in limits widths (map_frame (base + delta) locals stack) ≡ b
    → finished limits delta (table_of widths frames base locals stack) ≡ option_map (grown widths frames) (frame_if (fits_in limits widths) (map_frame (base + delta) locals stack))
done_by limits delta widths frames base locals stack true e = rw e refl
done_by limits delta widths frames base locals stack false e = rw e refl

of_parts : (limits : Limits) (delta : ℕ) (widths : List Width) (frames : List ReadFrame) (base : ℕ) (before locals : List FrameEntry) (o : Option (List FrameEntry))
    → (o >>= (λ stack. Some (table_of widths frames base locals stack)) >>= finished limits delta)
    ≡ option_map (grown widths frames) (o >>= (λ stack. Some (map_frame (base + delta) locals stack)) >>= frame_if (fits_in limits widths))
of_parts limits delta widths frames base before locals None = refl
of_parts limits delta widths frames base before locals (Some stack) = done_by limits delta widths frames base locals stack (fits_in limits widths (map_frame (base + delta) locals stack)) refl

of_both : (limits : Limits) (delta : ℕ) (widths : List Width) (frames : List ReadFrame) (base : ℕ) (o p : Option (List FrameEntry))
    → (o >>= (λ locals. p >>= λ stack. Some (table_of widths frames base locals stack)) >>= finished limits delta)
    ≡ option_map (grown widths frames) (o >>= (λ locals. p >>= λ stack. Some (map_frame (base + delta) locals stack)) >>= frame_if (fits_in limits widths))
of_both limits delta widths frames base None p = refl
of_both limits delta widths frames base (Some locals) p = of_parts limits delta widths frames base locals locals p

done_as : (pool : List Entry) (limits : Limits) (widths : List Width) (frames : List ReadFrame) (base : ℕ) (locals : List FrameEntry) (form : MapForm)
    → form_done pool limits (table_of widths frames base locals []) form ≡ option_map (grown widths frames) (frame_behind (entry_of pool) base locals form >>= frame_if (fits_in limits widths))
done_as pool limits widths frames base locals form =
    ap (λ (o : Option Built). o >>= finished limits (delta_of form)) (laid_as pool widths frames base locals form)
    ∙ of_both limits (delta_of form) widths frames base (locals_behind (entry_of pool) locals form) (stack_in (entry_of pool) form)

-- ---- all forms

abbrev pub frames_in : Built → List ReadFrame
frames_in b = b.frames

-- the frames so far, and those that join
abbrev pub joined_to : List Width → List ReadFrame → List (MapFrame FrameEntry) → List ReadFrame
joined_to widths frames fs = frames ++ map (read_of widths) fs

of_rest : (widths : List Width) (frames : List ReadFrame) (f : MapFrame FrameEntry) (o : Option (List (MapFrame FrameEntry)))
    → option_map (joined_to widths (frames ++ read_of widths f ∷ [])) o ≡ option_map (joined_to widths frames) (o >>= λ fs. Some (f ∷ fs))
of_rest widths frames f None = refl
of_rest widths frames f (Some fs) = ap (λ (l : List ReadFrame). Some l) (append_assoc frames (read_of widths f ∷ []) (map (read_of widths) fs))

of_first : (pool : List Entry) (limits : Limits) (widths : List Width) (frames : List ReadFrame) (more : List MapForm) (o : Option (MapFrame FrameEntry))
    → ((f : MapFrame FrameEntry) → option_map frames_in (all_steps (form_done pool limits) (grown widths frames f) more)
    ≡ option_map (joined_to widths (frames ++ read_of widths f ∷ [])) (frames_behind (entry_of pool) (fits_in limits widths) (f.offset + 1) f.locals more))
    → option_map frames_in (option_map (grown widths frames) o >>= λ t. all_steps (form_done pool limits) t more)
    ≡ option_map (joined_to widths frames) (o >>= λ f. frames_behind (entry_of pool) (fits_in limits widths) (f.offset + 1) f.locals more >>= λ fs. Some (f ∷ fs))
of_first pool limits widths frames more None h = refl
of_first pool limits widths frames more (Some f) h = h f ∙ of_rest widths frames f (frames_behind (entry_of pool) (fits_in limits widths) (f.offset + 1) f.locals more)

pub all_as : (pool : List Entry) (limits : Limits) (widths : List Width) (frames : List ReadFrame) (base : ℕ) (locals : List FrameEntry) (forms : List MapForm)
    → option_map frames_in (all_steps (form_done pool limits) (table_of widths frames base locals []) forms)
    ≡ option_map (joined_to widths frames) (frames_behind (entry_of pool) (fits_in limits widths) base locals forms)
all_as pool limits widths frames base locals [] = ap (λ (l : List ReadFrame). Some l) (sym (append-nil frames))
all_as pool limits widths frames base locals (form ∷ more) =
    ap (λ (o : Option Built). option_map frames_in (o >>= λ t. all_steps (form_done pool limits) t more)) (done_as pool limits widths frames base locals form)
    ∙ of_first pool limits widths frames more (frame_behind (entry_of pool) base locals form >>= frame_if (fits_in limits widths))
    (λ f. all_as pool limits widths (frames ++ read_of widths f ∷ []) (f.offset + 1) f.locals more)

-- ---- how many frames

-- the frames are as they were
abbrev pub KeepsFrames : Built → Option Built → Type 0
KeepsFrames b o = (t : Built) → o ≡ Some t → t.frames ≡ b.frames

keeps : (b t s : Built) → s.frames ≡ b.frames → t ≡ s → t.frames ≡ b.frames
keeps b t s e is = ap frames_in is ∙ e

item_keeps : (b : Built) (o : Option FrameEntry) → KeepsFrames b (o >>= laid_entry b)
item_keeps b None t is = absurd cc
item_keeps b (Some e) t is = keeps b t (with_pile (e ∷ b.pile) b) refl (sym (is_some (with_pile (e ∷ b.pile) b) t is))

items_keep : (pool : List Entry) (b : Built) (list : List Item) → KeepsFrames b (laid_items pool b list)
items_keep pool b [] t is = sym (ap frames_in (is_some b t is))
items_keep pool b (i ∷ more) t is =
    let a = bind_some (laid_item pool b i) (λ s. laid_items pool s more) t is in
    items_keep pool a.0 more t a.2 ∙ item_keeps b (entry_of pool i) a.0 a.1

chop_keeps : (n : ℕ) (b : Built) (list : List FrameEntry) → KeepsFrames b (chopped_in n (with_locals list b))
chop_keeps zero b list t is = sym (ap frames_in (is_some (with_locals list b) t is))
chop_keeps (suc n) b [] t is = absurd cc
chop_keeps (suc n) b (e ∷ list) t is = chop_keeps n b list t is

pub form_keeps : (pool : List Entry) (b : Built) (form : MapForm) → KeepsFrames b (form_laid pool b form)
form_keeps pool b (Same delta) t is = sym (ap frames_in (is_some b t is))
form_keeps pool b (SameItem delta item) t is = item_keeps b (entry_of pool item) t is
form_keeps pool b (SameItemExtended delta item) t is = item_keeps b (entry_of pool item) t is
form_keeps pool b (Chop count delta) t is = chop_keeps count b b.locals t is
form_keeps pool b (SameExtended delta) t is = sym (ap frames_in (is_some b t is))
form_keeps pool b (Append delta list) t is =
    let a = bind_some (laid_items pool (resumed b) list) settled_in t is in
    sym (ap frames_in (is_some (settled a.0) t a.2)) ∙ items_keep pool (resumed b) list a.0 a.1
form_keeps pool b (Full delta list stack) t is =
    let a = bind_some (laid_items pool b list) (stack_laid pool stack) t is in
    items_keep pool (settled a.0) stack t a.2 ∙ items_keep pool b list a.0 a.1

finish_by : (limits : Limits) (delta : ℕ) (b t : Built) (c : Bool) →
    (if c then Some (record {
      widths = b.widths;
      frames = b.frames ++ record {
        offset = b.base + delta;
        locals = b.locals;
        local_words =
            words_in b.widths b.locals;
        stack = b.pile;
      } ∷ [];
      base = b.base + delta + 1;
      locals = b.locals;
      pile = [];
    }) else None) ≡ Some t
    → length t.frames ≡ length b.frames + 1
finish_by limits delta b t true is = ap (λ (t : Built). length t.frames) (sym (is_some _ t is)) ∙
    omega (
      arith,
      length-append b.frames
          (record { offset = b.base + delta; locals = b.locals; local_words = words_in b.widths b.locals; stack = b.pile } ∷ []),
    )
finish_by limits delta b t false is = absurd cc

pub done_counts : (pool : List Entry) (limits : Limits) (b t : Built) (form : MapForm) → form_done pool limits b form ≡ Some t → length t.frames ≡ length b.frames + 1
done_counts pool limits b t form is =
    let a = bind_some (form_laid pool b form) (finished limits (delta_of form)) t is in
    let kept : a.0.frames ≡ b.frames = form_keeps pool b form a.0 a.1 in
    finish_by limits (delta_of form) a.0 t _ a.2 ∙ ap (λ (l : List ReadFrame). length l + 1) kept
