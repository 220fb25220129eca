-- Notes of where objects that are not initialized stand.
use Rattle.std.proofs.Common.{◌≡◌, ◌⊎◌, inl, inr, ℕ, zero, suc, ◌+◌, ◌<◌, ◌≤◌, ◌==◌, ◌||◌, Bool, true, false, List, [], ◌∷◌, ◌++◌, length, map, take, set, get_or, Option, Some, None, refl, sym, ap, subst, ◌∙◌, arith, if◌then◌else◌, slice_get}
use Rattle.std.specs.Prelude.{IsTrue, nat_lt, unwrap_or}
use Rattle.std.specs.List.{list_any}
use Rattle.std.specs.Option.{option_map}
use Rattle.std.proofs.lemmas.Bool.{eqb-true, eqb-false, eq-eqb, ltb-true, ltb-false}
use Rattle.std.proofs.lemmas.List.{get_or-set_same, get_or-set_other, length-map, length-set, take_more}
use Rattle.std.proofs.lemmas.List.Folds.{list_any-append}
use Rattle.std.proofs.lemmas.Option.{slice_get-map}
use Rattle.jv_stackmap.specs.declared.verification.VerificationTypeOf.TheVariants as types
use Rattle.jv_stackmap.specs.Types.{FrameType}
use Rattle.jv_meaning_typing.specs.FrameChanges.{is_same_object}
use Rattle.jv_verify_types.specs.Typed.{typed, typed_all}
use Rattle.jv_verify_frame.specs.declared.notes.Note.{Note}
use Rattle.jv_verify_types.specs.Numbered.{Item}
use Rattle.jv_verify_frame.specs.Inside.Tops.{AreTops}
use Rattle.jv_verify_frame.specs.Inside.Swapped.{same_object, swapped}
use Rattle.jv_verify_frame.proofs.Replacing.{written}
use Rattle.jv_verify_frame.proofs.Replacing.{same_typed}
use Rattle.jv_verify_frame.specs.Inside.Noted.{Noted, IsPlain, key_of, is_same_in, is_in_local, has_at, is_among, Holds, IsWay, InChain, end_of, AreNoted, AreNotedWhere, Joins, Adds, LeavesOut, KeepsObjects, BringsNone}

-- ---- numbers and tests

both : (a b : Bool) → (a ≡ true → b ≡ true) → (b ≡ true → a ≡ true) → a ≡ b
both true b f g = sym (f refl)
both false false f g = refl
both false true f g = g refl

not_both : {P : Type 0} (b : Bool) → b ≡ false → b ≡ true → P
not_both true e f = absurd cc
not_both false e f = absurd cc

decide : {P : Type 0} (b : Bool) → (b ≡ true → P) → (b ≡ false → P) → P
decide true f g = f refl
decide false f g = g refl

some : {X : Type 0} {a b : X} → Some a ≡ Some b → a ≡ b
some e = cc

-- ---- lists by place

pub same_lists : {X : Type 0} (xs ys : List X) → ((k : ℕ) → slice_get xs k ≡ slice_get ys k) → xs ≡ ys
same_lists [] [] h = refl
same_lists [] (y ∷ ys) h = let e : None ≡ Some y = h 0 in absurd cc
same_lists (x ∷ xs) [] h = let e : Some x ≡ None = h 0 in absurd cc
same_lists (x ∷ xs) (y ∷ ys) h = ap (λ z. z ∷ xs) (some (h 0)) ∙ ap (λ zs. y ∷ zs) (same_lists xs ys (λ k. h (suc k)))

at_front : {X : Type 0} (xs ys : List X) (k : ℕ) (x : X) → slice_get xs k ≡ Some x → slice_get (xs ++ ys) k ≡ Some x
at_front [] ys zero x e = absurd cc
at_front [] ys (suc k) x e = absurd cc
at_front (y ∷ xs) ys zero x e = e
at_front (y ∷ xs) ys (suc k) x e = at_front xs ys k x e

at_seam : {X : Type 0} (xs : List X) (x : X) → slice_get (xs ++ x ∷ []) (length xs) ≡ Some x
at_seam [] x = refl
at_seam (y ∷ xs) x = at_seam xs x

at_either : {X : Type 0} (xs : List X) (y : X) (k : ℕ) (x : X) → slice_get (xs ++ y ∷ []) k ≡ Some x → (slice_get xs k ≡ Some x) ⊎ ((k ≡ length xs) × (y ≡ x))
at_either [] y zero x e = inr (refl, some e)
at_either [] y (suc zero) x e = absurd cc
at_either [] y (suc (suc k)) x e = absurd cc
at_either (z ∷ xs) y zero x e = inl e
at_either (z ∷ xs) y (suc k) x e = by_case (at_either xs y k x e)
  where
    by_case : (slice_get xs k ≡ Some x) ⊎ ((k ≡ length xs) × (y ≡ x)) → (slice_get xs k ≡ Some x) ⊎ ((suc k ≡ suc (length xs)) × (y ≡ x))
    by_case (inl h) = inl h
    by_case (inr h) = inr (ap suc h.0, h.1)

-- ---- objects by place

pub set_object : (object : Item) (items : List Item) (i : ℕ) (y : Item) (k : ℕ) → has_at object (set items i y) k ≡ true
    → (has_at object items k ≡ true) ⊎ ((k ≡ i) × (same_object object y ≡ true))
set_object object [] zero y k e = inl e
set_object object [] (suc i) y k e = inl e
set_object object (x ∷ items) zero y zero e = inr (refl, e)
set_object object (x ∷ items) zero y (suc k) e = inl e
set_object object (x ∷ items) (suc i) y zero e = inl e
set_object object (x ∷ items) (suc i) y (suc k) e = by_case (set_object object items i y k e)
  where
    by_case : (has_at object items k ≡ true) ⊎ ((k ≡ i) × (same_object object y ≡ true)) → (has_at object items k ≡ true) ⊎ ((suc k ≡ suc i) × (same_object object y ≡ true))
    by_case (inl h) = inl h
    by_case (inr h) = inr (ap suc h.0, h.1)

-- what is no object is set
pub plain_set : (y : Item) (items : List Item) (i : ℕ) → IsPlain y → BringsNone items (set items i y)
plain_set y items i plain k object e = by_case (set_object object items i y k e)
  where
    by_case : (has_at object items k ≡ true) ⊎ ((k ≡ i) × (same_object object y ≡ true)) → has_at object items k ≡ true
    by_case (inl h) = h
    by_case (inr h) = not_both (same_object object y) (plain object) h.1

no_top : (object : Item) → same_object object types.Top ≡ false
no_top types.Top = refl
no_top types.Int = refl
no_top types.Long = refl
no_top types.Null = refl
no_top types.UninitializedThis = refl
no_top (types.Class n) = refl
no_top (types.Array c) = refl
no_top (types.Uninitialized o) = refl

no_long : (object : Item) → same_object object types.Long ≡ false
no_long types.Top = refl
no_long types.Int = refl
no_long types.Long = refl
no_long types.Null = refl
no_long types.UninitializedThis = refl
no_long (types.Class n) = refl
no_long (types.Array c) = refl
no_long (types.Uninitialized o) = refl

pub no_key : (item : Item) → key_of item ≡ None → IsPlain item
no_key item e object = by_object object item e
  where
    by_object : (object item : Item) → key_of item ≡ None → same_object object item ≡ false
    by_object types.Top item e = refl
    by_object types.Int item e = refl
    by_object types.Long item e = refl
    by_object types.Null item e = refl
    by_object (types.Class n) item e = refl
    by_object (types.Array c) item e = refl
    by_object types.UninitializedThis types.Top e = refl
    by_object types.UninitializedThis types.Int e = refl
    by_object types.UninitializedThis types.Long e = refl
    by_object types.UninitializedThis types.Null e = refl
    by_object types.UninitializedThis types.UninitializedThis e = absurd cc
    by_object types.UninitializedThis (types.Class n) e = refl
    by_object types.UninitializedThis (types.Array c) e = refl
    by_object types.UninitializedThis (types.Uninitialized p) e = refl
    by_object (types.Uninitialized o) types.Top e = refl
    by_object (types.Uninitialized o) types.Int e = refl
    by_object (types.Uninitialized o) types.Long e = refl
    by_object (types.Uninitialized o) types.Null e = refl
    by_object (types.Uninitialized o) types.UninitializedThis e = refl
    by_object (types.Uninitialized o) (types.Class n) e = refl
    by_object (types.Uninitialized o) (types.Array c) e = refl
    by_object (types.Uninitialized o) (types.Uninitialized p) e = absurd cc

-- one object has one number
same_key : (object item : Item) → same_object object item ≡ true → key_of object ≡ key_of item
same_key types.Top item e = absurd cc
same_key types.Int item e = absurd cc
same_key types.Long item e = absurd cc
same_key types.Null item e = absurd cc
same_key (types.Class n) item e = absurd cc
same_key (types.Array c) item e = absurd cc
same_key types.UninitializedThis types.Top e = absurd cc
same_key types.UninitializedThis types.Int e = absurd cc
same_key types.UninitializedThis types.Long e = absurd cc
same_key types.UninitializedThis types.Null e = absurd cc
same_key types.UninitializedThis types.UninitializedThis e = refl
same_key types.UninitializedThis (types.Class n) e = absurd cc
same_key types.UninitializedThis (types.Array c) e = absurd cc
same_key types.UninitializedThis (types.Uninitialized p) e = absurd cc
same_key (types.Uninitialized o) types.Top e = absurd cc
same_key (types.Uninitialized o) types.Int e = absurd cc
same_key (types.Uninitialized o) types.Long e = absurd cc
same_key (types.Uninitialized o) types.Null e = absurd cc
same_key (types.Uninitialized o) types.UninitializedThis e = absurd cc
same_key (types.Uninitialized o) (types.Class n) e = absurd cc
same_key (types.Uninitialized o) (types.Array c) e = absurd cc
same_key (types.Uninitialized o) (types.Uninitialized p) e = ap (λ n. Some (n + 1)) (eqb-true o p e)

pub top_set : (items : List Item) (i : ℕ) → BringsNone items (set items i types.Top)
top_set items i = plain_set types.Top items i no_top

pub long_set : (items : List Item) (i : ℕ) → BringsNone items (set items i types.Long)
long_set items i = plain_set types.Long items i no_long

pub brought : (one two three : List Item) → BringsNone one two → BringsNone two three → BringsNone one three
brought one two three f g k object e = f k object (g k object e)

pub brings_none : (at : ℕ) (item : Item) (old new : List Item) → BringsNone old new → KeepsObjects at item old new
brings_none at item old new h k object e = inl (h k object e)

pub keeps_all : (at : ℕ) (item : Item) (items : List Item) → KeepsObjects at item items items
keeps_all at item items k object e = inl e

pub item_set : (one two : List Item) (i : ℕ) (item : Item) → BringsNone one two → KeepsObjects i item one (set two i item)
item_set one two i item h k object e = by_case (set_object object two i item k e)
  where
    by_case : (has_at object two k ≡ true) ⊎ ((k ≡ i) × (same_object object item ≡ true))
        → (has_at object one k ≡ true) ⊎ ((k ≡ i) × (same_object object item ≡ true))
    by_case (inl g) = inl (h k object g)
    by_case (inr g) = inr g

pub item_pushed : (item : Item) (items : List Item) → KeepsObjects (length items) item items (items ++ item ∷ [])
item_pushed item [] zero object e = inr (refl, e)
item_pushed item [] (suc zero) object e = inl e
item_pushed item [] (suc (suc k)) object e = inl e
item_pushed item (x ∷ items) zero object e = inl e
item_pushed item (x ∷ items) (suc k) object e = by_case (item_pushed item items k object e)
  where
    by_case : (has_at object items k ≡ true) ⊎ ((k ≡ length items) × (same_object object item ≡ true))
        → (has_at object items k ≡ true) ⊎ ((suc k ≡ suc (length items)) × (same_object object item ≡ true))
    by_case (inl h) = inl h
    by_case (inr h) = inr (ap suc h.0, h.1)

has_in_front : (object : Item) (xs ys : List Item) (k : ℕ) → has_at object xs k ≡ true → has_at object (xs ++ ys) k ≡ true
has_in_front object [] ys zero e = absurd cc
has_in_front object [] ys (suc k) e = absurd cc
has_in_front object (x ∷ xs) ys zero e = e
has_in_front object (x ∷ xs) ys (suc k) e = has_in_front object xs ys k e

pub item_popped : (item : Item) (old new : List Item) → old ≡ new ++ item ∷ [] → BringsNone old new
item_popped item old new is k object e =
    subst (λ (xs : List Item). has_at object xs k ≡ true) (sym is) (has_in_front object new (item ∷ []) k e)

pub items_replaced : (object by : Item) (items : List Item) → IsPlain by → BringsNone items (map (swapped object by) items)
items_replaced object by [] plain zero other e = e
items_replaced object by [] plain (suc k) other e = e
items_replaced object by (x ∷ items) plain (suc k) other e = items_replaced object by items plain k other e
items_replaced object by (x ∷ items) plain zero other e = by_test (same_object object x) e
  where
    by_test : (b : Bool) → same_object other (if b then by else x) ≡ true → same_object other x ≡ true
    by_test true f = not_both (same_object other by) (plain other) f
    by_test false f = f

-- none is where nothing is
none_past : (used : ℕ) (items : List Item) (k : ℕ) (object : Item) → same_object object types.Top ≡ false → AreTops used items → used ≤ k → has_at object items k ≡ false
none_past used [] zero object plain h le = refl
none_past used [] (suc k) object plain h le = refl
none_past zero (x ∷ items) zero object plain h le = ap (same_object object) h.0 ∙ plain
none_past zero (x ∷ items) (suc k) object plain h le = none_past zero items k object plain h.1 (omega arith)
none_past (suc used) (x ∷ items) zero object plain h le = absurd (omega (arith, le))
none_past (suc used) (x ∷ items) (suc k) object plain h le = none_past used items k object plain h (omega (arith, le))

pub none_from : (used : ℕ) (items : List Item) (k : ℕ) (object : Item) → AreTops used items → has_at object items k ≡ true → k < used
none_from used items k object h e =
    decide (nat_lt k used) (λ t. ltb-true k used t) (λ f. not_both (has_at object items k) (none_past used items k object (no_top object) h (omega (arith, ltb-false k used f))) e)

-- ---- notes

way_on : (notes more : List Note) (k : ℕ) (way : List Note) (end : ℕ) → IsWay notes k way end → IsWay (notes ++ more) k way end
way_on notes more k [] end w = w
way_on notes more k (n ∷ way) end w = (w.0, w.1, at_front notes more w.0 n w.2, by_case (way_on notes more k way n.before) w.3)
  where
    by_case : (IsWay notes k way n.before → IsWay (notes ++ more) k way n.before) → (n.place ≡ k) ⊎ IsWay notes k way n.before
        → (n.place ≡ k) ⊎ IsWay (notes ++ more) k way n.before
    by_case on (inl e) = inl e
    by_case on (inr v) = inr (on v)

chain_on : (notes more : List Note) (k end : ℕ) → InChain notes k end → InChain (notes ++ more) k end
chain_on notes more k end c = (c.0, way_on notes more k c.0 end c.1)

-- the chain that a note ends which has joined
joined_chain : (notes : List Note) (note : Note) (k : ℕ) → (note.place ≡ k) ⊎ InChain notes k note.before → InChain (notes ++ note ∷ []) k (length notes + 1)
joined_chain notes note k (inl e) = (note ∷ [], (length notes, refl, at_seam notes note, inl e))
joined_chain notes note k (inr c) = (note ∷ c.0, (length notes, refl, at_seam notes note, inr (way_on notes (note ∷ []) k c.0 note.before c.1)))

pub adds_joined : (at key : ℕ) (item : Item) (old new : Noted) → key_of item ≡ Some key → Joins at key old new → Adds at item old new
adds_joined at key item old new is j = record {
  kept = λ kept. sym j.kept ∙ kept;
  still = λ kept k p c. decide (p == key) (λ t. still_here k p (eqb-true p key t) c) (λ f. still_there k p (eqb-false p key f) c);
  added = λ kept object p e same. added_here p (some (sym e ∙ (same_key object item same ∙ is)));
}
  where
    here : (k : ℕ) → (j.note.place ≡ k) ⊎ InChain old.notes k j.note.before → InChain new.notes k (end_of new key)
    here k c = subst (λ (notes : List Note). InChain notes k (end_of new key)) (sym j.joined) (subst (InChain (old.notes ++ j.note ∷ []) k) (sym j.last) (joined_chain old.notes j.note k c))

    still_here : (k p : ℕ) → p ≡ key → InChain old.notes k (end_of old p) → InChain new.notes k (end_of new p)
    still_here k p e c =
        subst (λ n. InChain new.notes k (end_of new n)) (sym e)
        (here k (inr (subst (InChain old.notes k) (sym j.before) (subst (λ n. InChain old.notes k (end_of old n)) e c))))

    still_there : (k p : ℕ) → (p ≡ key → ⊥) → InChain old.notes k (end_of old p) → InChain new.notes k (end_of new p)
    still_there k p other c =
        subst (λ (notes : List Note). InChain notes k (end_of new p)) (sym j.joined)
        (subst (InChain (old.notes ++ j.note ∷ []) k) (sym (j.others p other)) (chain_on old.notes (j.note ∷ []) k (end_of old p) c))

    added_here : (p : ℕ) → p ≡ key → InChain new.notes at (end_of new p)
    added_here p e = subst (λ n. InChain new.notes at (end_of new n)) (sym e) (here at (inl j.at_place))

-- what a note is when it has joined, where what a Vec holds was written
pub has_joined : (at key end : ℕ) (kept : Bool) (old new : Noted) (note : Note) (reached read after rest : List ℕ) (n : ℕ) → new.kept ≡ old.kept → new.notes ≡ old.notes ++ note ∷ []
    → note.place ≡ at → note.before ≡ get_or reached key 0 → end ≡ length old.notes + 1 → ((k : ℕ) → get_or reached k 0 ≡ get_or old.ends k 0) → key < length reached
    → after ≡ set read key end → read ≡ reached → n ≡ length reached → new.ends ≡ take n (after ++ rest) → Joins at key old new
has_joined at key end kept old new note reached read after rest n kept_is joined place before end_is same within set_is read_is many ends_are =
    let after_is : after ≡ set reached key end = set_is ∙ ap (λ (es : List ℕ). set es key end) read_is in
    let ends : new.ends ≡ set reached key end =
    ends_are ∙ (written after rest n (many ∙ (sym (length-set reached key end) ∙ ap length (sym after_is))) ∙ after_is) in record {
      note = note;
      kept = kept_is;
      joined = joined;
      at_place = place;
      before = before ∙ same key;
      last = ap (λ (es : List ℕ). get_or es key 0) ends ∙ (get_or-set_same reached key end 0 within ∙ end_is);
      others = λ k other. ap (λ (es : List ℕ). get_or es k 0) ends ∙ (get_or-set_other reached key k end 0 other ∙ same k);
    }

-- a chain is left out, where what a Vec holds was written
pub left_out : (object : Item) (key : ℕ) (old new : Noted) (ends read after rest : List ℕ) (n : ℕ) → key_of object ≡ Some key → new.kept ≡ old.kept → new.notes ≡ old.notes
    → ends ≡ old.ends → after ≡ set read key 0 → read ≡ ends → n ≡ length ends → new.ends ≡ take n (after ++ rest) → LeavesOut object old new
left_out object key old new ends read after rest n is kept notes old_is set_is read_is many ends_are =
    let after_is : after ≡ set ends key 0 = set_is ∙ ap (λ (es : List ℕ). set es key 0) read_is in
    let all : new.ends ≡ set ends key 0 = ends_are ∙ (written after rest n (many ∙ (sym (length-set ends key 0) ∙ ap length (sym after_is))) ∙ after_is) in record {
      kept = kept;
      notes = notes;
      others = λ k other. ap (λ (es : List ℕ). get_or es k 0) all ∙ (get_or-set_other ends key k 0 0 (λ e. other (is ∙ ap Some (sym e))) ∙ ap (λ (es : List ℕ). get_or es k 0) old_is);
    }

pub none_left_out : (object : Item) (old : Noted) → LeavesOut object old old
none_left_out object old = record { kept = refl; notes = refl; others = λ key other. refl }

pub adds_none : (at : ℕ) (item : Item) (old new : Noted) → new.kept ≡ false → Adds at item old new
adds_none at item old new none = record {
  kept = λ kept. not_both new.kept none kept;
  still = λ kept k key c. not_both new.kept none kept;
  added = λ kept object key e same. not_both new.kept none kept;
}

pub adds_plain : (at : ℕ) (item : Item) (old : Noted) → IsPlain item → Adds at item old old
adds_plain at item old plain = record {
  kept = λ kept. kept;
  still = λ kept k key c. c;
  added = λ kept object key e same. not_both (same_object object item) (plain object) same;
}

-- ---- what is noted

pub still_noted : (at : ℕ) (item : Item) (old new : Noted) (before behind : List Item) → Adds at item old new → KeepsObjects at item before behind → AreNoted old before → AreNoted new behind
still_noted at item old new before behind adds keeps noted kept k object key is e = by_case (keeps k object e)
  where
    by_case : (has_at object before k ≡ true) ⊎ ((k ≡ at) × (same_object object item ≡ true)) → InChain new.notes k (end_of new key)
    by_case (inl h) = adds.still kept k key (noted (adds.kept kept) k object key is h)
    by_case (inr h) = subst (λ n. InChain new.notes n (end_of new key)) (sym h.0) (adds.added kept object key is h.1)

-- the same of what a Vec holds when its items were written
pub noted_written : (at : ℕ) (item : Item) (old new : Noted) (before read behind rest : List Item) (n : ℕ) → read ≡ before → n ≡ length behind → Adds at item old new
    → KeepsObjects at item read behind → AreNoted old before → AreNoted new (take n (behind ++ rest))
noted_written at item old new before read behind rest n is many adds keeps h =
    subst (AreNoted new) (sym (written behind rest n many)) (still_noted at item old new read behind adds keeps (subst (AreNoted old) (sym is) h))

pub none_noted : (noted : Noted) (items : List Item) → noted.kept ≡ false → AreNoted noted items
none_noted noted items none kept k object key is e = not_both noted.kept none kept

pub fewer_noted : (noted : Noted) (before behind : List Item) → BringsNone before behind → AreNoted noted before → AreNoted noted behind
fewer_noted noted before behind brings h kept k object key is e = h kept k object key is (brings k object e)

-- one number is one object
one_object : (object item : Item) (key : ℕ) → key_of object ≡ Some key → key_of item ≡ Some key → same_object object item ≡ true
one_object types.Top item key e f = absurd cc
one_object types.Int item key e f = absurd cc
one_object types.Long item key e f = absurd cc
one_object types.Null item key e f = absurd cc
one_object (types.Class n) item key e f = absurd cc
one_object (types.Array c) item key e f = absurd cc
one_object types.UninitializedThis types.Top key e f = absurd cc
one_object types.UninitializedThis types.Int key e f = absurd cc
one_object types.UninitializedThis types.Long key e f = absurd cc
one_object types.UninitializedThis types.Null key e f = absurd cc
one_object types.UninitializedThis types.UninitializedThis key e f = refl
one_object types.UninitializedThis (types.Class n) key e f = absurd cc
one_object types.UninitializedThis (types.Array c) key e f = absurd cc
one_object types.UninitializedThis (types.Uninitialized p) key e f = absurd (omega (arith, some e, some f))
one_object (types.Uninitialized o) types.Top key e f = absurd cc
one_object (types.Uninitialized o) types.Int key e f = absurd cc
one_object (types.Uninitialized o) types.Long key e f = absurd cc
one_object (types.Uninitialized o) types.Null key e f = absurd cc
one_object (types.Uninitialized o) types.UninitializedThis key e f = absurd (omega (arith, some e, some f))
one_object (types.Uninitialized o) (types.Class n) key e f = absurd cc
one_object (types.Uninitialized o) (types.Array c) key e f = absurd cc
one_object (types.Uninitialized o) (types.Uninitialized p) key e f = eq-eqb o p (omega (arith, some e, some f))

one_type : (object item : Item) → same_object object item ≡ true → item ≡ object
one_type types.Top item e = absurd cc
one_type types.Int item e = absurd cc
one_type types.Long item e = absurd cc
one_type types.Null item e = absurd cc
one_type (types.Class n) item e = absurd cc
one_type (types.Array c) item e = absurd cc
one_type types.UninitializedThis types.Top e = absurd cc
one_type types.UninitializedThis types.Int e = absurd cc
one_type types.UninitializedThis types.Long e = absurd cc
one_type types.UninitializedThis types.Null e = absurd cc
one_type types.UninitializedThis types.UninitializedThis e = refl
one_type types.UninitializedThis (types.Class n) e = absurd cc
one_type types.UninitializedThis (types.Array c) e = absurd cc
one_type types.UninitializedThis (types.Uninitialized p) e = absurd cc
one_type (types.Uninitialized o) types.Top e = absurd cc
one_type (types.Uninitialized o) types.Int e = absurd cc
one_type (types.Uninitialized o) types.Long e = absurd cc
one_type (types.Uninitialized o) types.Null e = absurd cc
one_type (types.Uninitialized o) types.UninitializedThis e = absurd cc
one_type (types.Uninitialized o) (types.Class n) e = absurd cc
one_type (types.Uninitialized o) (types.Array c) e = absurd cc
one_type (types.Uninitialized o) (types.Uninitialized p) e = ap types.Uninitialized (sym (eqb-true o p e))

-- an object in whose place another type was put stands nowhere
pub stands_nowhere : (object by : Item) (items : List Item) → IsPlain by → (k : ℕ) → has_at object (map (swapped object by) items) k ≡ false
stands_nowhere object by [] plain zero = refl
stands_nowhere object by [] plain (suc k) = refl
stands_nowhere object by (x ∷ items) plain (suc k) = stands_nowhere object by items plain k
stands_nowhere object by (x ∷ items) plain zero = by_test (same_object object x) refl
  where
    by_test : (b : Bool) → same_object object x ≡ b → same_object object (if b then by else x) ≡ false
    by_test true e = plain object
    by_test false e = e

-- what is noted once a type may be put in the place of an object
pub replaced_noted : (object by : Item) (old mid new : Noted) (items : List Item) → (IsTrue mid.kept → mid ≡ old) → (IsTrue mid.kept → IsPlain by) → LeavesOut object mid new
    → AreNoted old items → AreNoted new (map (swapped object by) items)
replaced_noted object by old mid new items same plain leaves h kept k other key key_is e =
    let kept_mid : IsTrue mid.kept = sym leaves.kept ∙ kept in
    let is = same kept_mid in
    let before = items_replaced object by items (plain kept_mid) k other e in
    let old_chain : InChain old.notes k (end_of old key) = h (ap (λ (n : Noted). n.kept) (sym is) ∙ kept_mid) k other key key_is before in
    let mid_chain : InChain mid.notes k (end_of mid key) = subst (λ (n : Noted). InChain n.notes k (end_of n key)) (sym is) old_chain in
    decide (same_object object other)
    (λ t. not_both (has_at object (map (swapped object by) items) k) (stands_nowhere object by items (plain kept_mid) k)
    (subst (λ (x : Item). has_at x (map (swapped object by) items) k ≡ true) (one_type object other t) e))
    (λ f. subst (λ (notes : List Note). InChain notes k (end_of new key)) (sym leaves.notes)
    (subst (InChain mid.notes k) (sym (leaves.others key (λ g. not_both (same_object object other) f (one_object object other key g key_is)))) mid_chain))

-- the same of what a Vec holds when its items were written
pub replaced_written : (object by : Item) (old mid new : Noted) (before after rest : List Item) (n : ℕ) → n ≡ length before → after ≡ map (swapped object by) before
    → (IsTrue mid.kept → mid ≡ old) → (IsTrue mid.kept → IsPlain by) → LeavesOut object mid new → AreNoted old before → AreNoted new (take n (after ++ rest))
replaced_written object by old mid new before after rest n many is same plain leaves h =
    subst (AreNoted new) (sym (written after rest n (many ∙ (sym (length-map before (swapped object by)) ∙ ap length (sym is))) ∙ is))
    (replaced_noted object by old mid new before same plain leaves h)

-- notes are made of one type after the other
pub one_noted : (at : ℕ) (item : Item) (old new : Noted) (items : List Item) → slice_get items at ≡ Some item → Adds at item old new
    → AreNotedWhere (λ k. k < at) old items → AreNotedWhere (λ k. k < at + 1) new items
one_noted at item old new items is adds noted kept k object key key_is lt e =
    decide (k == at)
    (λ t. let here = eqb-true k at t in
    subst (λ n. InChain new.notes n (end_of new key)) (sym here)
    (adds.added kept object key key_is (ap (is_same_in object) (sym is) ∙ (ap (has_at object items) (sym here) ∙ e))))
    (λ f. adds.still kept k key (noted (adds.kept kept) k object key key_is (below k at lt (eqb-false k at f)) e))
  where
    below : (k at : ℕ) → k < at + 1 → (k ≡ at → ⊥) → k < at
    below k at lt other = decide (nat_lt k at) (λ t. ltb-true k at t) (λ f. absurd (other (omega (arith, lt, ltb-false k at f))))

pub all_noted : (end used : ℕ) (noted : Noted) (items : List Item) → AreTops used items → used ≤ end → AreNotedWhere (λ k. k < end) noted items → AreNoted noted items
all_noted end used noted items tops le h kept k object key is e = h kept k object key is (omega (arith, le, none_from used items k object tops e)) e

-- ---- a walk from note to note

module _ (notes : List Note) (items : List Item) (object : Item) where
  -- each place of the object is among these, or in the chain of one of so many notes
  abbrev pub Walked : List ℕ → ℕ → Type 0
  Walked places left = (k : ℕ) → has_at object items k ≡ true → (is_among places k ≡ true) ⊎ InChain notes k left

  pub walk_first : (noted : Noted) (key left : ℕ) → key_of object ≡ Some key → noted.notes ≡ notes → IsTrue noted.kept → AreNoted noted items → left ≡ end_of noted key → Walked [] left
  walk_first noted key left key_is is kept h end k e =
      inr (subst (λ (ns : List Note). InChain ns k left) is (subst (InChain noted.notes k) (sym end) (h kept k object key key_is e)))

  pub walk_next : (places more : List ℕ) (note : Note) (at left rest : ℕ) (stands : Bool) → left ≡ at + 1 → slice_get notes at ≡ Some note → stands ≡ has_at object items note.place
      → ((k : ℕ) → is_among places k ≡ true → is_among more k ≡ true) → (IsTrue stands → is_among more note.place ≡ true) → rest ≡ note.before → Walked places left → Walked more rest
  walk_next places more note at left rest stands here is stood same joined before h k e = by_case (h k e)
    where
      by_note : (n : Note) (way : List Note) → n ≡ note → (n.place ≡ k) ⊎ IsWay notes k way n.before → (is_among more k ≡ true) ⊎ InChain notes k rest
      by_note n way one (inl p) =
          let place : note.place ≡ k = ap (λ (m : Note). m.place) (sym one) ∙ p in
          inl (subst (λ p. is_among more p ≡ true) place (joined (stood ∙ (ap (has_at object items) place ∙ e))))
      by_note n way one (inr w) = inr (way, subst (IsWay notes k way) (ap (λ (m : Note). m.before) one ∙ sym before) w)

      by_way : (way : List Note) → IsWay notes k way left → (is_among more k ≡ true) ⊎ InChain notes k rest
      by_way [] w = absurd w
      by_way (n ∷ way) w =
          let number : w.0 ≡ at = omega (arith, w.1, here) in
          by_note n way (some (sym w.2 ∙ (ap (slice_get notes) number ∙ is))) w.3

      by_case : (is_among places k ≡ true) ⊎ InChain notes k left → (is_among more k ≡ true) ⊎ InChain notes k rest
      by_case (inl a) = inl (same k a)
      by_case (inr c) = by_way c.0 c.1

  pub walk_end : (places : List ℕ) (left : ℕ) → left ≡ 0 → Walked places left → Holds places object items
  walk_end places left none h k e = by_case (h k e)
    where
      by_way : (way : List Note) → IsWay notes k way left → is_among places k ≡ true
      by_way [] w = absurd w
      by_way (n ∷ way) w = absurd (omega (arith, w.1, none))

      by_case : (is_among places k ≡ true) ⊎ InChain notes k left → is_among places k ≡ true
      by_case (inl a) = a
      by_case (inr c) = by_way c.0 c.1

-- ---- places

pub among_more : (places : List ℕ) (place k : ℕ) → is_among places k ≡ true → is_among (places ++ place ∷ []) k ≡ true
among_more places place k e = list_any-append (λ p. p == k) places (place ∷ []) ∙ ap (λ b. b || is_among (place ∷ []) k) e

pub among_last : (places : List ℕ) (place : ℕ) → is_among (places ++ place ∷ []) place ≡ true
among_last places place =
    list_any-append (λ p. p == place) places (place ∷ [])
    ∙ (ap (λ b. is_among places place || (b || false)) (eq-eqb place place refl) ∙ or_true (is_among places place))
  where
    or_true : (b : Bool) → (b || true) ≡ true
    or_true true = refl
    or_true false = refl

-- one place after the other
pub next_among : (object : Item) (items : List Item) (places more : List ℕ) (at : ℕ) (stands : Bool) → stands ≡ has_at object items at
    → ((k : ℕ) → is_among places k ≡ true → is_among more k ≡ true) → (IsTrue stands → is_among more at ≡ true)
    → ((k : ℕ) → k < at → has_at object items k ≡ true → is_among places k ≡ true) → (k : ℕ) → k < at + 1 → has_at object items k ≡ true → is_among more k ≡ true
next_among object items places more at stands stood same joined h k lt e =
    decide (k == at)
    (λ t. let here = eqb-true k at t in subst (λ p. is_among more p ≡ true) (sym here) (joined (stood ∙ (ap (has_at object items) (sym here) ∙ e))))
    (λ f. same k (h k (below k at lt (eqb-false k at f)) e))
  where
    below : (k at : ℕ) → k < at + 1 → (k ≡ at → ⊥) → k < at
    below k at lt other = decide (nat_lt k at) (λ t. ltb-true k at t) (λ f. absurd (other (omega (arith, lt, ltb-false k at f))))

has_any : (object : Item) (items : List Item) (k : ℕ) → has_at object items k ≡ true → list_any (same_object object) items ≡ true
has_any object [] zero e = absurd cc
has_any object [] (suc k) e = absurd cc
has_any object (x ∷ items) zero e = ap (λ b. b || list_any (same_object object) items) e
has_any object (x ∷ items) (suc k) e = ap (λ b. same_object object x || b) (has_any object items k e) ∙ or_true (same_object object x)
  where
    or_true : (b : Bool) → (b || true) ≡ true
    or_true true = refl
    or_true false = refl

pub none_held : (items : List Item) (object : Item) (places : List ℕ) → false ≡ list_any (same_object object) items → Holds places object items
none_held items object places none k e = not_both (list_any (same_object object) items) (sym none) (has_any object items k e)

any_has : (object : Item) (items : List Item) → list_any (same_object object) items ≡ true → (k : ℕ) × (has_at object items k ≡ true)
any_has object [] e = absurd cc
any_has object (x ∷ items) e =
    decide (same_object object x)
    (λ t. (0, t))
    (λ f. let h = any_has object items (ap (λ b. b || list_any (same_object object) items) (sym f) ∙ e) in (suc h.0, h.1))

among_any : (test : ℕ → Bool) (places : List ℕ) (k : ℕ) → is_among places k ≡ true → test k ≡ true → list_any test places ≡ true
among_any test [] k e t = absurd cc
among_any test (p ∷ places) k e t =
    decide (p == k)
    (λ s. ap (λ b. b || list_any test places) (ap test (eqb-true p k s) ∙ t))
    (λ f. ap (λ b. test p || b) (among_any test places k (ap (λ b. b || is_among places k) (sym f) ∙ e) t) ∙ or_true (test p))
  where
    or_true : (b : Bool) → (b || true) ≡ true
    or_true true = refl
    or_true false = refl

any_test : (test : ℕ → Bool) (places : List ℕ) → list_any test places ≡ true → (k : ℕ) × (test k ≡ true)
any_test test [] e = absurd cc
any_test test (p ∷ places) e =
    decide (test p)
    (λ t. (p, t))
    (λ f. any_test test places (ap (λ b. b || list_any test places) (sym f) ∙ e))

pub any_at : (object : Item) (items : List Item) (places : List ℕ) → Holds places object items → list_any (has_at object items) places ≡ list_any (same_object object) items
any_at object items places holds =
    both (list_any (has_at object items) places) (list_any (same_object object) items)
    (λ e. let h = any_test (has_at object items) places e in has_any object items h.0 h.1)
    (λ e. let h = any_has object items e in among_any (has_at object items) places h.0 (holds h.0 h.1) h.1)

-- ---- a type in the place of an object, at one place after the other

abbrev pub changed_if : (Item → Item) → Bool → Option Item → Option Item
changed_if f true o = option_map f o
changed_if f false o = o

swapped_by : (object by : Item) → swapped object by by ≡ by
swapped_by object by = by_test (same_object object by)
  where
    by_test : (b : Bool) → (if b then by else by) ≡ by
    by_test true = refl
    by_test false = refl

swapped_again : (object by item : Item) → swapped object by (swapped object by item) ≡ swapped object by item
swapped_again object by item = by_test (same_object object item) refl
  where
    by_test : (b : Bool) → same_object object item ≡ b → swapped object by (if b then by else item) ≡ (if b then by else item)
    by_test true e = swapped_by object by
    by_test false e = ap (λ (b : Bool). if b then by else item) e

pub replaced_next : (object by : Item) (before now next : List Item) (places : List ℕ) (i d place : ℕ) → i < length places → get_or places i d ≡ place
    → slice_get next place ≡ option_map (swapped object by) (slice_get now place) → ((k : ℕ) → (place == k) ≡ false → slice_get next k ≡ slice_get now k)
    → ((k : ℕ) → slice_get now k ≡ changed_if (swapped object by) (is_among (take i places) k) (slice_get before k))
    → (k : ℕ) → slice_get next k ≡ changed_if (swapped object by) (is_among (take (i + 1) places) k) (slice_get before k)
replaced_next object by before now next places i d place lt is here others h k =
    decide (place == k)
    (λ t. let e = eqb-true place k t in
    subst (λ p. slice_get next p ≡ changed_if (swapped object by) (is_among (take (i + 1) places) p) (slice_get before p)) e
    (here ∙ (ap (option_map (swapped object by)) (h place) ∙ (once (is_among (take i places) place) (slice_get before place)
    ∙ ap (λ b. changed_if (swapped object by) b (slice_get before place))
    (sym (more place ∙ (ap (λ b. is_among (take i places) place || (b || false)) (eq-eqb place place refl) ∙
    or_true (is_among (take i places) place))))))))
    (λ f. others k f ∙ (h k ∙ ap (λ b. changed_if (swapped object by) b (slice_get before k))
    (sym (more k ∙ (ap (λ b. is_among (take i places) k || (b || false)) f ∙ or_false (is_among (take i places) k))))))
  where
    or_true : (b : Bool) → (b || (true || false)) ≡ true
    or_true true = refl
    or_true false = refl

    or_false : (b : Bool) → (b || (false || false)) ≡ b
    or_false true = refl
    or_false false = refl

    more : (k : ℕ) → is_among (take (i + 1) places) k ≡ (is_among (take i places) k || is_among (place ∷ []) k)
    more k = ap (λ ps. is_among ps k) (take_more places i d lt ∙ ap (λ p. take i places ++ p ∷ []) is) ∙ list_any-append (λ p. p == k) (take i places) (place ∷ [])

    once : (b : Bool) (o : Option Item) → option_map (swapped object by) (changed_if (swapped object by) b o) ≡ option_map (swapped object by) o
    once true None = refl
    once true (Some x) = ap Some (swapped_again object by x)
    once false o = refl

pub whole : {X : Type 0} (xs : List X) (k : ℕ) → length xs ≤ k → take k xs ≡ xs
whole [] zero le = refl
whole [] (suc k) le = refl
whole (x ∷ xs) zero le = absurd (omega (arith, le))
whole (x ∷ xs) (suc k) le = ap (λ ys. x ∷ ys) (whole xs k (omega (arith, le)))

pub set_other : (items : List Item) (i : ℕ) (y : Item) (k : ℕ) → (i ≡ k → ⊥) → slice_get (set items i y) k ≡ slice_get items k
set_other [] zero y k other = refl
set_other [] (suc i) y k other = refl
set_other (x ∷ items) zero y zero other = absurd (other refl)
set_other (x ∷ items) zero y (suc k) other = refl
set_other (x ∷ items) (suc i) y zero other = refl
set_other (x ∷ items) (suc i) y (suc k) other = set_other items i y k (λ e. other (ap suc e))

pub all_replaced : (object by : Item) (before now : List Item) (places taken : List ℕ) → taken ≡ places → Holds places object before
    → ((k : ℕ) → slice_get now k ≡ changed_if (swapped object by) (is_among taken k) (slice_get before k)) → now ≡ map (swapped object by) before
all_replaced object by before now places taken is holds h =
    same_lists now (map (swapped object by) before) (λ k. h k ∙ (ap (λ ps. changed_if (swapped object by) (is_among ps k) (slice_get before k)) is
    ∙ (by_place k (is_among places k) refl (slice_get before k) refl ∙ sym (slice_get-map (swapped object by) before k))))
  where
    by_place : (k : ℕ) (b : Bool) → is_among places k ≡ b → (o : Option Item) → slice_get before k ≡ o → changed_if (swapped object by) b o ≡ option_map (swapped object by) o
    by_place k true a o e = refl
    by_place k false a None e = refl
    by_place k false a (Some x) e =
        decide (same_object object x)
        (λ t. not_both (is_among places k) a (holds k (ap (is_same_in object) e ∙ t)))
        (λ f. ap (λ (b : Bool). Some (if b then by else x)) (sym f))

-- ---- by names

in_local : (names : List (List ℕ)) (object : Item) (items : List Item) (k : ℕ) → is_in_local (typed names object) (typed_all names items) k ≡ has_at object items k
in_local names object items k =
    ap (λ (o : Option FrameType). unwrap_or (option_map (is_same_object (typed names object)) o) false) (slice_get-map (typed names) items k) ∙ by_item (slice_get items k)
  where
    by_item : (o : Option Item) → unwrap_or (option_map (is_same_object (typed names object)) (option_map (typed names) o)) false ≡ is_same_in object o
    by_item None = refl
    by_item (Some x) = same_typed names object x

pub not_in_local : (names : List (List ℕ)) (object : Item) (items : List Item) (places : List ℕ) → Holds places object items → (k : ℕ) → is_among places k ≡ false
    → is_in_local (typed names object) (typed_all names items) k ≡ false
not_in_local names object items places holds k none = in_local names object items k ∙ by_test (has_at object items k) refl
  where
    by_test : (b : Bool) → has_at object items k ≡ b → b ≡ false
    by_test true e = not_both (is_among places k) none (holds k e)
    by_test false e = refl
