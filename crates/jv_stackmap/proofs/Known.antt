-- The entries of frames that were read name classes and initial local entries.
use Rattle.std.proofs.Common.{◌≡◌, ℕ, zero, suc, ◌+◌, ◌<◌, ◌≤◌, Bool, true, false, List, [], ◌∷◌, length, Option, Some, None, refl, ap, subst, ◌∙◌, arith}
use Rattle.std.specs.Prelude.{IsSome, if◌then◌else◌}
use Rattle.std.specs.List.{All}
use Rattle.jv_format.specs.Format.{◌>>=◌}
use Rattle.jv_format.proofs.Laws.{bind_some, is_some}
use Rattle.jv_pool.specs.Constants.{Entry, class_name_at}
use Rattle.jv_stackmap.specs.declared.item.Item.{Item}
use Rattle.jv_stackmap.specs.declared.item.Item.TheVariants as items
use Rattle.jv_stackmap.specs.declared.form.Form.TheVariants.{Same, SameItem, SameItemExtended, Chop, SameExtended, Append, Full}
use Rattle.jv_stackmap.specs.declared.entry.FrameEntry.{FrameEntry}
use Rattle.jv_stackmap.specs.declared.entry.FrameEntry.TheVariants as entries
use Rattle.jv_stackmap.specs.declared.width.Width.{Width}
use Rattle.jv_stackmap.specs.Bytes.{MapForm}
use Rattle.jv_stackmap.specs.Frames.{MapFrame, map_frame, laid, chopped, locals_behind, stack_in, delta_of, frame_behind, frame_if, frames_behind}
use Rattle.jv_stackmap.specs.Entries.{IsKnown}
use Rattle.jv_stackmap.specs.Inside.Steps.{object_in, entry_of, initial_down}

all_cons : {X : Type 0} (P : X → Type 0) (x : X) (xs : List X) → P x → All P xs → All P (x ∷ xs)
all_cons P x xs one more zero d lt = one
all_cons P x xs one more (suc k) d lt = more k d (omega arith)

all_tail : {X : Type 0} (P : X → Type 0) (x : X) (xs : List X) → All P (x ∷ xs) → All P xs
all_tail P x xs h k d lt = h (suc k) d (omega arith)

all_none : {X : Type 0} (P : X → Type 0) → All P []
all_none P k d lt = absurd (omega arith)

-- ---- entries

by_some : (pool : List Entry) (widths : List Width) (e f : FrameEntry) → IsKnown pool widths e → Some e ≡ Some f → IsKnown pool widths f
by_some pool widths e f h is = subst (λ (e : FrameEntry). IsKnown pool widths e) (is_some e f is) h

there : (o : Option (List ℕ)) (text : List ℕ) → o ≡ Some text → IsSome o
there o text e = rw e refl

entry_known : (pool : List Entry) (widths : List Width) (i : Item) (e : FrameEntry) → entry_of pool i ≡ Some e → IsKnown pool widths e
entry_known pool widths items.Top e is = by_some pool widths entries.Top e tt is
entry_known pool widths items.Integer e is = by_some pool widths entries.Int e tt is
entry_known pool widths items.Long e is = by_some pool widths entries.Long e tt is
entry_known pool widths items.Null e is = by_some pool widths entries.Null e tt is
entry_known pool widths items.UninitializedThis e is = by_some pool widths entries.UninitializedThis e tt is
entry_known pool widths (items.Object class) e is =
    let text = bind_some (class_name_at pool class) (object_in class) e is in
    by_some pool widths (entries.Object class) e (there (class_name_at pool class) text.0 text.1) text.2
entry_known pool widths (items.Uninitialized offset) e is = by_some pool widths (entries.Uninitialized offset) e tt is

-- all entries of a list
abbrev AreKnown : List Entry → List Width → List FrameEntry → Type 0
AreKnown pool widths es = All (IsKnown pool widths) es

pub initial_known : (pool : List Entry) (widths : List Width) (n : ℕ) → n ≤ length widths → All (IsKnown pool widths) (initial_down n)
initial_known pool widths zero le = all_none (IsKnown pool widths)
initial_known pool widths (suc n) le =
    let lt : n < length widths = omega arith in
    all_cons (IsKnown pool widths) (entries.Initial n) (initial_down n) lt (initial_known pool widths n (omega arith))

laid_known : (pool : List Entry) (widths : List Width) (below : List FrameEntry) (list : List Item) (out : List FrameEntry) →
    AreKnown pool widths below → laid (entry_of pool) below list ≡ Some out → AreKnown pool widths out
laid_known pool widths below [] out h is = subst (λ (l : List FrameEntry). All (IsKnown pool widths) l) (is_some below out is) h
laid_known pool widths below (i ∷ more) out h is =
    let e = bind_some (entry_of pool i) (λ e. laid (entry_of pool) (e ∷ below) more) out is in
    laid_known pool widths (e.0 ∷ below) more out (all_cons (IsKnown pool widths) e.0 below (entry_known pool widths i e.0 e.1) h) e.2

chopped_known : (pool : List Entry) (widths : List Width) (n : ℕ) (list out : List FrameEntry) → AreKnown pool widths list → chopped n list ≡ Some out → AreKnown pool widths out
chopped_known pool widths zero list out h is = subst (λ (l : List FrameEntry). All (IsKnown pool widths) l) (is_some list out is) h
chopped_known pool widths (suc n) [] out h is = absurd cc
chopped_known pool widths (suc n) (e ∷ list) out h is = chopped_known pool widths n list out (all_tail (IsKnown pool widths) e list h) is

same_known : (pool : List Entry) (widths : List Width) (list out : List FrameEntry) → AreKnown pool widths list → Some list ≡ Some out → AreKnown pool widths out
same_known pool widths list out h is = subst (λ (l : List FrameEntry). All (IsKnown pool widths) l) (is_some list out is) h

locals_known : (pool : List Entry) (widths : List Width) (before : List FrameEntry) (form : MapForm) (out : List FrameEntry) →
    AreKnown pool widths before → locals_behind (entry_of pool) before form ≡ Some out → AreKnown pool widths out
locals_known pool widths before (Same delta) out h is = same_known pool widths before out h is
locals_known pool widths before (SameItem delta item) out h is = same_known pool widths before out h is
locals_known pool widths before (SameItemExtended delta item) out h is = same_known pool widths before out h is
locals_known pool widths before (Chop count delta) out h is = chopped_known pool widths count before out h is
locals_known pool widths before (SameExtended delta) out h is = same_known pool widths before out h is
locals_known pool widths before (Append delta list) out h is = laid_known pool widths before list out h is
locals_known pool widths before (Full delta list stack) out h is = laid_known pool widths [] list out (all_none (IsKnown pool widths)) is

stack_known : (pool : List Entry) (widths : List Width) (form : MapForm) (out : List FrameEntry) → stack_in (entry_of pool) form ≡ Some out → AreKnown pool widths out
stack_known pool widths (Same delta) out is = same_known pool widths [] out (all_none (IsKnown pool widths)) is
stack_known pool widths (SameItem delta item) out is = laid_known pool widths [] (item ∷ []) out (all_none (IsKnown pool widths)) is
stack_known pool widths (SameItemExtended delta item) out is = laid_known pool widths [] (item ∷ []) out (all_none (IsKnown pool widths)) is
stack_known pool widths (Chop count delta) out is = same_known pool widths [] out (all_none (IsKnown pool widths)) is
stack_known pool widths (SameExtended delta) out is = same_known pool widths [] out (all_none (IsKnown pool widths)) is
stack_known pool widths (Append delta list) out is = same_known pool widths [] out (all_none (IsKnown pool widths)) is
stack_known pool widths (Full delta list stack) out is = laid_known pool widths [] stack out (all_none (IsKnown pool widths)) is

-- ---- frames

pub record FrameKnown (pool : List Entry) (widths : List Width) (f : MapFrame FrameEntry) : Type 0 where
  pub locals : All (IsKnown pool widths) f.locals
  pub stack : All (IsKnown pool widths) f.stack

behind_known : (pool : List Entry) (widths : List Width) (base : ℕ) (before : List FrameEntry) (form : MapForm) (f : MapFrame FrameEntry) → AreKnown pool widths before
    → frame_behind (entry_of pool) base before form ≡ Some f → FrameKnown pool widths f
behind_known pool widths base before form f h is =
    let locals = bind_some (locals_behind (entry_of pool) before form) (λ locals. stack_in (entry_of pool) form >>= λ stack. Some (map_frame (base + delta_of form) locals stack)) f is in
    let stack = bind_some (stack_in (entry_of pool) form) (λ stack. Some (map_frame (base + delta_of form) locals.0 stack)) f locals.2 in
    subst (λ (f : MapFrame FrameEntry). FrameKnown pool widths f) (is_some (map_frame (base + delta_of form) locals.0 stack.0) f stack.2)
    (record { locals = locals_known pool widths before form locals.0 h locals.1; stack = stack_known pool widths form stack.0 stack.1 })

passed_by : (b : Bool) (g f : MapFrame FrameEntry) → (if b then Some g else None) ≡ Some f → g ≡ f
passed_by true g f e = is_some g f e
passed_by false g f e = absurd cc

pub frames_known : (pool : List Entry) (widths : List Width) (test : MapFrame FrameEntry → Bool) (base : ℕ) (before : List FrameEntry) (forms : List MapForm) (fs : List (MapFrame FrameEntry))
    → AreKnown pool widths before → frames_behind (entry_of pool) test base before forms ≡ Some fs → All (FrameKnown pool widths) fs
frames_known pool widths test base before [] fs h is =
    subst (λ (fs : List (MapFrame FrameEntry)). All (FrameKnown pool widths) fs) (is_some [] fs is) (all_none (FrameKnown pool widths))
frames_known pool widths test base before (form ∷ more) fs h is =
    let f = bind_some (frame_behind (entry_of pool) base before form >>= frame_if test) (λ f. frames_behind (entry_of pool) test (f.offset + 1) f.locals more >>= λ fs. Some (f ∷ fs)) fs is in
    let rest = bind_some (frames_behind (entry_of pool) test (f.0.offset + 1) f.0.locals more) (λ fs. Some (f.0 ∷ fs)) fs f.2 in
    let g = bind_some (frame_behind (entry_of pool) base before form) (frame_if test) f.0 f.1 in
    let same : g.0 ≡ f.0 = passed_by (test g.0) g.0 f.0 g.2 in
    let one : FrameKnown pool widths f.0 = behind_known pool widths base before form f.0 h (g.1 ∙ ap (λ (f : MapFrame FrameEntry). Some f) same) in
    subst (λ (fs : List (MapFrame FrameEntry)). All (FrameKnown pool widths) fs) (is_some (f.0 ∷ rest.0) fs rest.2)
    (all_cons (FrameKnown pool widths) f.0 rest.0 one (frames_known pool widths test (f.0.offset + 1) f.0.locals more rest.0 one.locals rest.1))
