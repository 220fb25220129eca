-- The frames of a table that was read are those that its bytes have (JVMS 4.7.4).
use Rattle.std.proofs.Common.{◌≡◌, ℕ, List, [], ◌∷◌, length, Option, Some, None, refl, sym, ap, ◌∙◌, arith}
use Rattle.std.specs.Prelude.{map, reverse}
use Rattle.std.specs.List.{All}
use Rattle.std.specs.Option.{option_map}
use Rattle.std.proofs.lemmas.List.Elements.{All-map}
use Rattle.jv_format.specs.Format.{◌>>=◌, IsBytes}
use Rattle.jv_format.proofs.Laws.{bind_some, is_some}
use Rattle.jv_text.specs.Types.{TypesAgree}
use Rattle.jv_pool.specs.Constants.{Entry}
use Rattle.jv_stackmap.specs.declared.entry.FrameEntry.{FrameEntry}
use Rattle.jv_stackmap.specs.declared.limits.Limits.{Limits}
use Rattle.jv_stackmap.specs.declared.width.Width.{Width}
use Rattle.jv_stackmap.specs.Types.{FrameType}
use Rattle.jv_stackmap.specs.Bytes.{MapForm}
use Rattle.jv_stackmap.specs.Frames.{MapFrame, PlacedFrame, placed_frame, type_of, is_within, frames_behind, Maps, OneMaps}
use Rattle.jv_stackmap.specs.Entries.{ReadFrame, entry_type, frame_placed, frames_placed, HaveWidths, HoldsKnown, HasItsWords}
use Rattle.jv_stackmap.specs.Inside.Reading.{counted_forms, all_of, whole, whole_table}
use Rattle.jv_stackmap.specs.Inside.Steps.{Built, entry_of, initial_down, started, all_steps, all_stepped, beside, form_done, ended, table_read}
use Rattle.jv_stackmap.proofs.Tables.{IsWholeTable, table_taken, table_again}
use Rattle.jv_stackmap.proofs.Naming.{mapped, frames_named}
use Rattle.jv_stackmap.proofs.Typed.{NameClasses, item_named, fits_in, fits_typed, initial_typed}
use Rattle.jv_stackmap.proofs.Known.{initial_known, frames_known}
use Rattle.jv_stackmap.proofs.Made.{read_of, frames_in, joined_to, all_as}

-- ---- one frame list

the_table : (pool : List Entry) (limits : Limits) (initial : List FrameType) (bytes : List ℕ) (frames : List PlacedFrame) →
    (h : Maps pool limits initial bytes frames) → whole_table bytes ≡ Some h.forms
the_table pool limits initial bytes frames h = table_again bytes h.forms (record { spelled = h.spelled; counted = h.counted; fit = h.fit })

pub OneMaps-holds : OneMaps
OneMaps-holds pool limits initial bytes one other p q =
    let same : p.forms ≡ q.forms = is_some p.forms q.forms (sym (the_table pool limits initial bytes one p) ∙ the_table pool limits initial bytes other q) in
    let entries : p.entries ≡ q.entries =
    is_some p.entries q.entries (sym p.made ∙ ap (frames_behind (type_of pool) (is_within limits) 0 (reverse initial)) same ∙ q.made) in
    p.expand ∙ ap (λ (fs : List (MapFrame FrameType)). map (placed_frame limits.max_locals) fs) entries ∙ sym q.expand

-- ---- a table that was read

ended_alone : (o : Option Built) → (o >>= beside [] >>= ended) ≡ o
ended_alone None = refl
ended_alone (Some b) = refl

ended_more : (o : Option Built) (byte : ℕ) (more : List ℕ) → (o >>= beside (byte ∷ more) >>= ended) ≡ None
ended_more None byte more = refl
ended_more (Some b) byte more = refl

whole_by : (step : Built → MapForm → Option Built) (b : Built) (forms : List MapForm) (rest : List ℕ) → (all_steps step b forms >>= beside rest >>= ended) ≡ (all_of forms rest >>= all_steps step b)
whole_by step b forms [] = ended_alone (all_steps step b forms)
whole_by step b forms (byte ∷ more) = ended_more (all_steps step b forms) byte more

whole_as : (step : Built → MapForm → Option Built) (b : Built) (o : Option (List MapForm × List ℕ)) → (o >>= all_stepped step b >>= ended) ≡ (o >>= whole >>= all_steps step b)
whole_as step b None = refl
whole_as step b (Some p) = whole_by step b p.0 p.1

read_as : (pool : List Entry) (limits : Limits) (b : Built) (bytes : List ℕ) → table_read pool limits b bytes ≡ (whole_table bytes >>= all_steps (form_done pool limits) b)
read_as pool limits b bytes = whole_as (form_done pool limits) b (counted_forms.read bytes)

-- the frames of entries that forms have behind initial entries
abbrev entry_frames : List Entry → Limits → List Width → List MapForm → Option (List (MapFrame FrameEntry))
entry_frames pool limits widths forms = frames_behind (entry_of pool) (fits_in limits widths) 0 (initial_down (length widths)) forms

some_of : (widths : List Width) (frames : List ReadFrame) (o : Option (List (MapFrame FrameEntry))) → Some frames ≡ option_map (joined_to widths []) o
    → (fs : List (MapFrame FrameEntry)) × (o ≡ Some fs) × (frames ≡ map (read_of widths) fs)
some_of widths frames None e = absurd cc
some_of widths frames (Some fs) e = (fs, refl, is_some frames (map (read_of widths) fs) e)

-- what a table that was read has
record Read (pool : List Entry) (limits : Limits) (widths : List Width) (bytes : List ℕ) (frames : List ReadFrame) : Type 0 where
  forms : List MapForm
  table : IsWholeTable bytes forms
  entries : List (MapFrame FrameEntry)
  made : entry_frames pool limits widths forms ≡ Some entries
  kept : frames ≡ map (read_of widths) entries

has_read : (pool : List Entry) (limits : Limits) (widths : List Width) (bytes : List ℕ) (b : Built) → IsBytes bytes → table_read pool limits
    (started widths) bytes ≡ Some b → Read pool limits widths bytes b.frames
has_read pool limits widths bytes b small e =
    let a = bind_some (whole_table bytes) (all_steps (form_done pool limits) (started widths)) b (sym (read_as pool limits (started widths) bytes) ∙ e) in
    let all = all_as pool limits widths [] 0 (initial_down (length widths)) a.0 in
    let f = some_of widths b.frames (entry_frames pool limits widths a.0) (ap (option_map frames_in) (sym a.2) ∙ all) in
    record { forms = a.0; table = table_taken bytes a.0 small a.1; entries = f.0; made = f.1; kept = f.2 }

typed_frames : (pool : List Entry) (limits : Limits) (widths : List Width) (types : List FrameType) → TypesAgree → NameClasses pool → HaveWidths types widths → (forms : List MapForm)
    → frames_behind (type_of pool) (is_within limits) 0 (reverse types) forms ≡ option_map (map (mapped (entry_type pool types))) (entry_frames pool limits widths forms)
typed_frames pool limits widths types law names h forms =
    ap (λ (l : List FrameType). frames_behind (type_of pool) (is_within limits) 0 l forms) (sym (initial_typed pool types widths h))
    ∙ frames_named (entry_type pool types) (entry_of pool) (type_of pool) (item_named pool types law names) (fits_in limits widths) (is_within limits) (fits_typed pool limits types widths h)
    0 (initial_down (length widths)) forms

placed_frames : (pool : List Entry) (types : List FrameType) (max_locals : ℕ) (widths : List Width) (fs : List (MapFrame FrameEntry))
    → map (frame_placed pool types max_locals) (map (read_of widths) fs) ≡ map (placed_frame max_locals) (map (mapped (entry_type pool types)) fs)
placed_frames pool types max_locals widths [] = refl
placed_frames pool types max_locals widths (f ∷ fs) = ap (λ (l : List PlacedFrame). placed_frame max_locals (mapped (entry_type pool types) f) ∷ l) (placed_frames pool types max_locals widths fs)

pub maps_read : (pool : List Entry) (limits : Limits) (widths : List Width) (types : List FrameType) (bytes : List ℕ) (b : Built) → TypesAgree →
    NameClasses pool → IsBytes bytes → HaveWidths types widths
    → table_read pool limits (started widths) bytes ≡ Some b → Maps pool limits types bytes (frames_placed pool types limits.max_locals b.frames)
maps_read pool limits widths types bytes b law names small h e =
    let r = has_read pool limits widths bytes b small e in
    record {
      forms = r.forms;
      spelled = r.table.spelled;
      counted = r.table.counted;
      fit = r.table.fit;
      entries = map (mapped (entry_type pool types)) r.entries;
      made = typed_frames pool limits widths types law names h r.forms ∙ ap (option_map (map (mapped (entry_type pool types)))) r.made;
      expand = ap (frames_placed pool types limits.max_locals) r.kept ∙ placed_frames pool types limits.max_locals widths r.entries;
    }

pub words_read : (pool : List Entry) (limits : Limits) (widths : List Width) (bytes : List ℕ) (b : Built) → IsBytes bytes → table_read pool limits
    (started widths) bytes ≡ Some b → All (HasItsWords widths) b.frames
words_read pool limits widths bytes b small e =
    let r = has_read pool limits widths bytes b small e in
    let all : All (HasItsWords widths) (map (read_of widths) r.entries) = All-map (HasItsWords widths) (read_of widths) r.entries (λ k d lt. refl) in
    rw r.kept all

pub known_read : (pool : List Entry) (limits : Limits) (widths : List Width) (bytes : List ℕ) (b : Built) → IsBytes bytes → table_read pool limits
    (started widths) bytes ≡ Some b → All (HoldsKnown pool widths) b.frames
known_read pool limits widths bytes b small e =
    let r = has_read pool limits widths bytes b small e in
    let known = frames_known pool widths (fits_in limits widths) 0 (initial_down (length widths)) r.forms r.entries (initial_known pool widths (length widths) (omega arith)) r.made in
    let all : All (HoldsKnown pool widths) (map (read_of widths) r.entries) =
    All-map (HoldsKnown pool widths) (read_of widths) r.entries (λ k d lt. record { locals = (known k d lt).locals; stack = (known k d lt).stack }) in
    rw r.kept all

no_steps : (o : Option (List (MapFrame FrameEntry))) (widths : List Width) → None ≡ option_map (joined_to widths []) o → o ≡ None
no_steps None widths e = refl
no_steps (Some fs) widths e = absurd cc

pub no_maps : (pool : List Entry) (limits : Limits) (widths : List Width) (types : List FrameType) (bytes : List ℕ) → TypesAgree → NameClasses pool → HaveWidths types widths
    → table_read pool limits (started widths) bytes ≡ None → (frames : List PlacedFrame) → Maps pool limits types bytes frames → ⊥
no_maps pool limits widths types bytes law names h e frames maps =
    let forms = the_table pool limits types bytes frames maps in
    let none : all_steps (form_done pool limits) (started widths) maps.forms ≡ None =
    ap (λ (o : Option (List MapForm)). o >>= all_steps (form_done pool limits) (started widths)) (sym forms) ∙ sym (read_as pool limits (started widths) bytes) ∙ e in
    let all = all_as pool limits widths [] 0 (initial_down (length widths)) maps.forms in
    let gone : entry_frames pool limits widths maps.forms ≡ None = no_steps (entry_frames pool limits widths maps.forms) widths (ap (option_map frames_in) (sym none) ∙ all) in
    let lost : frames_behind (type_of pool) (is_within limits) 0 (reverse types) maps.forms ≡ None =
    typed_frames pool limits widths types law names h maps.forms ∙ ap (option_map (map (mapped (entry_type pool types)))) gone in
    let made : frames_behind (type_of pool) (is_within limits) 0 (reverse types) maps.forms ≡ Some maps.entries = maps.made in
    absurd cc
