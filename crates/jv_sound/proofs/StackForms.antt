-- The forms of the stack: dup and its kin.
use Rattle.std.proofs.Common.{◌≡◌, ◌⊎◌, inl, inr, ℕ, zero, suc, ◌+◌, true, List, [], ◌∷◌, ◌++◌, Option, Some, None, refl, sym, ap, subst, arith}
use Rattle.std.specs.Option.{option_map}
use Rattle.std.proofs.lemmas.Bool.{le-leb}
use Rattle.jv_format.specs.Format as rules
use Rattle.jv_stackmap.specs.declared.verification.VerificationTypeOf.TheVariants as types
use Rattle.jv_stackmap.specs.declared.width.Width.{Width}
use Rattle.jv_stackmap.specs.Types.{FrameType}
use Rattle.jv_code.specs.declared.insn.Insn.TheVariants as insns
use Rattle.jv_code.specs.declared.kinds.StackForm.{StackForm}
use Rattle.jv_code.specs.declared.kinds.StackForm.TheVariants as forms
use Rattle.jv_meaning_typing.specs.FrameChanges.{with_stack, item_width}
use Rattle.jv_meaning_typing.specs.StackForms.{words_behind, item_before, top_words, taken_words, passed_words, arranged, rearranged}
use Rattle.jv_meaning_machine.specs.Faults.{found, tested, ◌>>=◌}
use Rattle.jv_meaning_machine.specs.Faults.Fault.{StackFault, TagFault}
use Rattle.jv_meaning_machine.specs.Values.{Value, value_width, value_words, words_of_values}
use Rattle.jv_meaning_machine.specs.Values.Value.{Int, Long, Null, Reference, Half, Unset}
use Rattle.jv_meaning_machine.specs.Effects.{goes_on}
use Rattle.jv_meaning_machine.specs.Instructions.{has_words}
use Rattle.jv_sound.specs.Values.{Place, Item, HasStack}
use Rattle.jv_sound.proofs.Logic.{Alike}
use Rattle.jv_sound.proofs.Pure.{agrees_from}
use Rattle.jv_sound.proofs.Ways.{Setting, IsSet, here, context_of, By, Sound, goes_ok}

-- ---- items and types, moved alike

then_alike :
    {A B C D : Type 0} {Q : A → B → Type 0} {R : C → D → Type 0} {r : Option A} {m : Option B} {f : A → Option C} {g : B → Option D}
    → Alike Q r m → ((a : A) (b : B) → Q a b → Alike R (f a) (g b)) → Alike R (rules.◌>>=◌ r f) (rules.◌>>=◌ m g)
then_alike {r = None} h k = record { by = tt }
then_alike {r = Some a} {m = Some b} h k = k a b h.by
then_alike {r = Some a} {m = None} h k = absurd h.by

pub joined : (p : Place) (S T : List FrameType) (s t : List Value) → HasStack p S s → HasStack p T t → HasStack p (S ++ T) (s ++ t)
joined p [] T [] t h k = k
joined p (u ∷ S) T (v ∷ s) t h k = (h.0, joined p S T s t h.1 k)
joined p _ T _ t h k = absurd h

module _ (p : Place) where
  abbrev Parted : List FrameType × List FrameType → List Value × List Value → Type 0
  Parted a b = HasStack p a.0 b.0 × HasStack p a.1 b.1

  -- the width that a form asks for
  widths : (t : FrameType) (v : Value) → Item p t v → (item_width t ≡ None) ⊎ (value_width v ≡ item_width t)
  widths types.Top v h = inl refl
  widths types.Long v h = inr h.width
  widths types.Int v h = inr h.width
  widths types.Null v h = inr h.width
  widths types.UninitializedThis v h = inr h.width
  widths (types.Class c) v h = inr h.width
  widths (types.Array c) v h = inr h.width
  widths (types.Uninitialized o) v h = inr h.width

  behind_alike : (n : ℕ) (t : FrameType) (v : Value) → Item p t v
      → Alike (λ a b. a ≡ b) (words_behind n (item_width t)) (words_behind n (value_width v))
  behind_alike n t v h = by_width (widths t v h)
    where
      itself : (o : Option ℕ) → Alike (λ a b. a ≡ b) o o
      itself None = record { by = tt }
      itself (Some k) = record { by = refl }

      no_width : (n : ℕ) (m : Option ℕ) → Alike (λ a b. a ≡ b) (words_behind n None) m
      no_width zero m = record { by = tt }
      no_width (suc zero) m = record { by = tt }
      no_width (suc (suc n)) m = record { by = tt }

      by_width : (item_width t ≡ None) ⊎ (value_width v ≡ item_width t)
          → Alike (λ a b. a ≡ b) (words_behind n (item_width t)) (words_behind n (value_width v))
      by_width (inl e) = subst (λ (o : Option Width). Alike (λ a b. a ≡ b) (words_behind n o) (words_behind n (value_width v))) (sym e)
          (no_width n (words_behind n (value_width v)))
      by_width (inr e) = subst (λ (o : Option Width). Alike (λ a b. a ≡ b) (words_behind n (item_width t)) (words_behind n o)) (sym e)
          (itself (words_behind n (item_width t)))

  top_alike : (n : ℕ) (S : List FrameType) (s : List Value) → HasStack p S s
      → Alike Parted (top_words item_width n S) (top_words value_width n s)
  top_alike zero S s h = record { by = (tt, h) }
  top_alike (suc n) [] [] h = record { by = tt }
  top_alike (suc n) (t ∷ S) (v ∷ s) h =
      then_alike (behind_alike (suc n) t v h.0) (λ a b e.
      then_alike {Q = Parted} (subst (λ (k : ℕ). Alike Parted (top_words item_width a S) (top_words value_width k s)) e
      (top_alike a S s h.1)) (λ c d k.
      record { by = ((h.0, k.0), k.1) }))
  top_alike (suc n) _ _ h = absurd h

  arranged_alike : (form : StackForm) (A B : List FrameType) (a b : List Value) → HasStack p A a → HasStack p B b
      → HasStack p (arranged form A B) (arranged form a b)
  arranged_alike forms.Pop A B a b h k = k
  arranged_alike forms.Pop2 A B a b h k = k
  arranged_alike forms.Swap A B a b h k = joined p B A b a k h
  arranged_alike forms.Dup A B a b h k = joined p A (B ++ A) a (b ++ a) h (joined p B A b a k h)
  arranged_alike forms.DupX1 A B a b h k = joined p A (B ++ A) a (b ++ a) h (joined p B A b a k h)
  arranged_alike forms.DupX2 A B a b h k = joined p A (B ++ A) a (b ++ a) h (joined p B A b a k h)
  arranged_alike forms.Dup2 A B a b h k = joined p A (B ++ A) a (b ++ a) h (joined p B A b a k h)
  arranged_alike forms.Dup2X1 A B a b h k = joined p A (B ++ A) a (b ++ a) h (joined p B A b a k h)
  arranged_alike forms.Dup2X2 A B a b h k = joined p A (B ++ A) a (b ++ a) h (joined p B A b a k h)

  rearranged_alike : (form : StackForm) (S : List FrameType) (s : List Value) → HasStack p S s
      → Alike (HasStack p) (rearranged item_width form S) (rearranged value_width form s)
  rearranged_alike form S s h =
      then_alike (top_alike (taken_words form) S s h) (λ A a k.
      then_alike (top_alike (passed_words form) A.1 a.1 k.1) (λ B b j.
      record { by = joined p (arranged form A.0 B.0) B.1 (arranged form a.0 b.0) b.1 (arranged_alike form A.0 B.0 a.0 b.0 k.0 j.0) j.1 }))

-- ---- the words are there

words_cons : (v : Value) (s : List Value) → words_of_values (v ∷ s) ≡ value_words v + words_of_values s
words_cons v s = Rattle.std.proofs.lemmas.List.Sums.sum_by-cons value_words v s

left_words : (n left : ℕ) (v : Value) → words_behind n (value_width v) ≡ Some left → n ≡ value_words v + left
left_words zero left v e = absurd cc
left_words (suc n) left (Int i) e = let k : n ≡ left = cc in omega (arith, k)
left_words (suc n) left Null e = let k : n ≡ left = cc in omega (arith, k)
left_words (suc n) left (Reference i) e = let k : n ≡ left = cc in omega (arith, k)
left_words (suc zero) left (Long i) e = absurd cc
left_words (suc (suc n)) left (Long i) e = let k : n ≡ left = cc in omega (arith, k)
left_words (suc zero) left Half e = absurd cc
left_words (suc (suc n)) left Half e = absurd cc
left_words (suc zero) left Unset e = absurd cc
left_words (suc (suc n)) left Unset e = absurd cc

top_counted : (n : ℕ) (s : List Value) (parts : List Value × List Value) → top_words value_width n s ≡ Some parts
    → words_of_values s ≡ n + words_of_values parts.1
top_counted zero s parts e =
    let k : ([], s) ≡ parts = cc in
    let j : words_of_values s ≡ words_of_values parts.1 = ap (λ (q : List Value × List Value). words_of_values q.1) k in
    omega (arith, j)
top_counted (suc n) [] parts e = absurd cc
top_counted (suc n) (v ∷ s) parts e = by_left (words_behind (suc n) (value_width v)) refl e (λ left q k. top_counted left s q k)
  where
    by_parts : (left : ℕ) → words_behind (suc n) (value_width v) ≡ Some left → (o : Option (List Value × List Value))
        → top_words value_width left s ≡ o
        → rules.◌>>=◌ o (λ parts. Some (item_before v parts)) ≡ Some parts
        → ((q : List Value × List Value) → top_words value_width left s ≡ Some q → words_of_values s ≡ left + words_of_values q.1)
        → words_of_values (v ∷ s) ≡ suc n + words_of_values parts.1
    by_parts left w None k j again = absurd cc
    by_parts left w (Some q) k j again =
        let same : item_before v q ≡ parts = cc in
        let below : words_of_values q.1 ≡ words_of_values parts.1 = ap (λ (z : List Value × List Value). words_of_values z.1) same in
        let inner : words_of_values s ≡ left + words_of_values q.1 = again q k in
        let outer : suc n ≡ value_words v + left = left_words (suc n) left v w in
        let cons : words_of_values (v ∷ s) ≡ value_words v + words_of_values s = words_cons v s in
        omega (arith, below, inner, outer, cons)

    by_left : (o : Option ℕ) → words_behind (suc n) (value_width v) ≡ o
        → rules.◌>>=◌ o (λ left. rules.◌>>=◌ (top_words value_width left s) (λ parts. Some (item_before v parts))) ≡ Some parts
        → ((left : ℕ) (q : List Value × List Value) → top_words value_width left s ≡ Some q
        → words_of_values s ≡ left + words_of_values q.1) → words_of_values (v ∷ s) ≡ suc n + words_of_values parts.1
    by_left None w j again = absurd cc
    by_left (Some left) w j again = by_parts left w (top_words value_width left s) refl j (again left)

words_there : (form : StackForm) (s out : List Value) → rearranged value_width form s ≡ Some out → has_words form s ≡ true
words_there form s out e = by_taken (top_words value_width (taken_words form) s) refl e
  where
    by_passed : (a : List Value × List Value) → top_words value_width (taken_words form) s ≡ Some a → (o : Option (List Value × List Value))
        → top_words value_width (passed_words form) a.1 ≡ o
        → rules.◌>>=◌ o (λ b. Some (arranged form a.0 b.0 ++ b.1)) ≡ Some out → has_words form s ≡ true
    by_passed a k None j e = absurd cc
    by_passed a k (Some b) j e =
        let first : words_of_values s ≡ taken_words form + words_of_values a.1 = top_counted (taken_words form) s a k in
        let second : words_of_values a.1 ≡ passed_words form + words_of_values b.1 = top_counted (passed_words form) a.1 b j in
        le-leb (taken_words form + passed_words form) (words_of_values s) (omega (arith, first, second))

    by_taken : (o : Option (List Value × List Value)) → top_words value_width (taken_words form) s ≡ o
        → rules.◌>>=◌ o (λ a. rules.◌>>=◌ (top_words value_width (passed_words form) a.1)
        (λ b. Some (arranged form a.0 b.0 ++ b.1))) ≡ Some out → has_words form s ≡ true
    by_taken None k e = absurd cc
    by_taken (Some a) k e = by_passed a k (top_words value_width (passed_words form) a.1) refl e

-- ---- the instruction

module _ (x : Setting) (h : IsSet x) where
  pub stack_ok : (form : StackForm) → Sound x (insns.Stack form)
  stack_ok form = go (rearranged item_width form x.given.stack) (rearranged value_width form x.frame.stack) refl
      (rearranged_alike (here x) form x.given.stack x.frame.stack h.holding.stack)
    where
      go : (r : Option (List FrameType)) (m : Option (List Value)) → rearranged value_width form x.frame.stack ≡ m
          → Alike (HasStack (here x)) r m
          → By x (insns.Stack form) (option_map (with_stack x.given) r)
          (tested StackFault (has_words form x.frame.stack) x.frame.stack >>= λ stack. found TagFault
          (rearranged value_width form stack) >>= goes_on (context_of x (insns.Stack form)))
      go None m e a = record { by = tt }
      go (Some S) None e a = absurd a.by
      go (Some S) (Some s) e a = rw (words_there form x.frame.stack s e, e) (agrees_from (goes_ok x h (insns.Stack form) S s refl a.by))
