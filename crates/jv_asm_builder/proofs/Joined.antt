-- What joins a pool in several steps: that nothing else changes, that it is one thing, and that it fits.
use Rattle.std.proofs.Common.{◌≡◌, ℕ, Bool, true, false, inl, inr, Some, Ok, Err, codes, List, [], ◌∷◌, ◌++◌, refl, sym, ap, subst, ◌∙◌, append_assoc, arith}
use Rattle.std.specs.Prelude.{◌⊎◌, IsTrue, nat_lt, Result, IfOk, OnErr, IsErrAnd}
use Rattle.std.proofs.lemmas.List.{append-nil}
use Rattle.std.specs.List.{list_all}
use Rattle.std.proofs.lemmas.List.Folds.{list_all-append}
use Rattle.std.proofs.lemmas.Bool.{and_parts, and_from, ltb-true, lt-ltb}
use Rattle.jv_pool.specs.declared.constant.Constant.TheVariants.{Utf8, Class, NameAndType}
use Rattle.jv_pool.specs.Constants.{Entry, pool_count, at_index, constant_fits, pool_fits}
use Rattle.jv_class_structure.specs.Structure.{ClassStructure}
use Rattle.jv_asm.specs.declared.fault.AsmFault.{AsmFault}
use Rattle.jv_asm.specs.declared.fault.AsmFault.TheVariants.{TooLarge}
use Rattle.jv_asm_builder.specs.Added.{IsIndexOf, IsNew, IsAdded, IsNamedAdded, AreClassesAdded, AreTextsAdded, IsNameAndTypeAdded, IsMemberNamed, IsMemberAdded, HasRoom, HasRoomForTwo, IsGrownPool}
use Rattle.jv_asm_builder.specs.Built.{with_pool, IsGrown, HasStackMapRoom}
use Rattle.jv_asm_builder.proofs.Pooled.{count_more}

-- ---- growth

pub grown_pool : (old : List Entry) (c : Entry) (new : List Entry) (index : ℕ) → IsAdded old c new index → IsGrownPool old new
grown_pool old c new index h = by_pool h.pool
  where
    by_pool : (new ≡ old) ⊎ (IsNew old c × (new ≡ old ++ c ∷ [])) → IsGrownPool old new
    by_pool (inl same) = ([], same ∙ sym (append-nil old))
    by_pool (inr (_, more)) = (c ∷ [], more)

pub grown : (old : ClassStructure) (c : Entry) (pool : List Entry) (index : ℕ) → IsAdded old.constant_pool c pool index → IsGrown old (with_pool old pool)
grown old c pool index h = record { rest = refl; pool = grown_pool old.constant_pool c pool index h }

pub grown_both : (a b c : ClassStructure) → IsGrown a b → IsGrown b c → IsGrown a c
grown_both a b c g h = record {
  rest = h.rest ∙ ap (λ x. with_pool x c.constant_pool) g.rest;
  pool = (g.pool.0 ++ h.pool.0, h.pool.1 ∙ ap (λ x. x ++ h.pool.0) g.pool.1 ∙ append_assoc a.constant_pool g.pool.0 h.pool.0);
}

-- ---- one constant joins in one way

once_index : (pool : List Entry) (c : Entry) (i j : ℕ) → IsIndexOf pool c i → IsIndexOf pool c j → i ≡ j
once_index pool c i j g h = by_order (nat_lt i j) (nat_lt j i) refl refl
  where
    by_order : (a b : Bool) → nat_lt i j ≡ a → nat_lt j i ≡ b → i ≡ j
    by_order true b s t = absurd (h.first i (ltb-true i j s) g.here)
    by_order false true s t = absurd (g.first j (ltb-true j i t) h.here)
    by_order false false s t = grind (arith, lt-ltb i j, lt-ltb j i)

pub added_once : (old : List Entry) (c : Entry) (m n : List Entry) (i j : ℕ) → IsAdded old c m i → IsAdded old c n j → (m ≡ n) × (i ≡ j)
added_once old c m n i j g h =
    let pools = by_pool g.pool h.pool in
    (pools, once_index n c i j (subst (λ p. IsIndexOf p c i) pools g.here) h.here)
  where
    by_pool : (m ≡ old) ⊎ (IsNew old c × (m ≡ old ++ c ∷ [])) → (n ≡ old) ⊎ (IsNew old c × (n ≡ old ++ c ∷ [])) → m ≡ n
    by_pool (inl s) (inl t) = s ∙ sym t
    by_pool (inl s) (inr (new, t)) = absurd (new i (ap (λ p. at_index p i) (sym s) ∙ g.here.here))
    by_pool (inr (new, s)) (inl t) = absurd (new j (ap (λ p. at_index p j) (sym t) ∙ h.here.here))
    by_pool (inr (_, s)) (inr (_, t)) = s ∙ sym t

pub added_fits : (old : List Entry) (c : Entry) (new : List Entry) (index : ℕ) → IsAdded old c new index → IsTrue (pool_fits new) → IsTrue (pool_fits old)
added_fits old c new index h fits = by_pool h.pool
  where
    by_pool : (new ≡ old) ⊎ (IsNew old c × (new ≡ old ++ c ∷ [])) → IsTrue (pool_fits old)
    by_pool (inl same) = subst (λ p. IsTrue (pool_fits p)) same fits
    by_pool (inr (_, more)) =
        let whole : IsTrue (pool_fits (old ++ c ∷ [])) = subst (λ p. IsTrue (pool_fits p)) more fits in
        let parts = and_parts (nat_lt (pool_count (old ++ c ∷ [])) 65536) (list_all constant_fits (old ++ c ∷ [])) whole in
        let few = ltb-true (pool_count (old ++ c ∷ [])) 65536 parts.0 in
        let count = count_more old c in
        let all = and_parts (list_all constant_fits old) (list_all constant_fits (c ∷ [])) (sym (list_all-append constant_fits old (c ∷ [])) ∙ parts.1) in
        and_from _ _ (lt-ltb (pool_count old) 65536 (omega arith)) all.0

-- ---- and so do several

-- a constant that names one text
pub named_once : (k : ℕ → Entry) (old : List Entry) (t : List ℕ) (m n : List Entry) (i j : ℕ) → IsNamedAdded k old t m i → IsNamedAdded k old t n j → (m ≡ n) × (i ≡ j)
named_once k old t m n i j g h =
    let first = added_once old (Utf8 t) g.between h.between g.name_index h.name_index g.name_added h.name_added in
    added_once h.between (k h.name_index) m n i j (subst (λ x. IsAdded h.between (k x) m i) first.1 (subst (λ p. IsAdded p (k g.name_index) m i) first.0 g.added)) h.added

-- two texts
pub texts_once : (old : List Entry) (s t : List ℕ) (m n : List Entry) (i j i' j' : ℕ) → AreTextsAdded old s t m i j → AreTextsAdded old s t n i' j' → (m ≡ n) × (i ≡ i') × (j ≡ j')
texts_once old s t m n i j i' j' g h =
    let first = added_once old (Utf8 s) g.between h.between i i' g.first_added h.first_added in
    let second = added_once h.between (Utf8 t) m n j j' (subst (λ p. IsAdded p (Utf8 t) m j) first.0 g.second_added) h.second_added in
    (second.0, first.1, second.1)

-- a name and a descriptor
pub name_and_type_once : (old : List Entry) (s t : List ℕ) (m n : List Entry) (i j : ℕ) → IsNameAndTypeAdded old s t m i → IsNameAndTypeAdded old s t n j → (m ≡ n) × (i ≡ j)
name_and_type_once old s t m n i j g h =
    let first = texts_once old s t g.between h.between g.name_index g.descriptor_index h.name_index h.descriptor_index g.texts_added h.texts_added in
    added_once h.between (NameAndType h.name_index h.descriptor_index) m n i j
    (subst (λ x. IsAdded h.between (NameAndType h.name_index x) m i) first.2 (subst (λ x. IsAdded h.between (NameAndType x g.descriptor_index) m i) first.1
    (subst (λ p. IsAdded p (NameAndType g.name_index g.descriptor_index) m i) first.0 g.added))) h.added

-- a class, and the name and descriptor of its member
pub member_once : (old : List Entry) (c s t : List ℕ) (m n : List Entry) (i j i' j' : ℕ) → IsMemberNamed old c s t m i j → IsMemberNamed old c s t n i' j' → (m ≡ n) × (i ≡ i') × (j ≡ j')
member_once old c s t m n i j i' j' g h =
    let first = named_once Class old c g.between h.between i i' g.class_added h.class_added in
    let second = name_and_type_once h.between s t m n j j' (subst (λ p. IsNameAndTypeAdded p s t m j) first.0 g.member_added) h.member_added in
    (second.0, first.1, second.1)

-- ---- where there is no room for the first of them, or for the last, there is none for all

pub member_none_last : (k : ℕ → ℕ → Entry) (old : List Entry) (c s t : List ℕ) (mid : List Entry) (i j : ℕ) → IsMemberNamed old c s t mid i j
    → (HasRoom (IsAdded mid (k i j)) → ⊥) → HasRoom (IsMemberAdded k old c s t) → ⊥
member_none_last k old c s t mid i j named none (new, index, h, fits) =
    let same = member_once old c s t h.between mid h.class_index h.member_index i j h.named named in
    none (
      new,
      index,
      subst (λ x. IsAdded mid (k i x) new index) same.2 (subst (λ x. IsAdded mid (k x h.member_index) new index) same.1
          (subst (λ p. IsAdded p (k h.class_index h.member_index) new index) same.0 h.added)),
      fits,
    )

pub types_none_last : (old : List Entry) (s t : List ℕ) (mid : List Entry) (i j : ℕ) → AreTextsAdded old s t mid i j
    → (HasRoom (IsAdded mid (NameAndType i j)) → ⊥) → HasRoom (IsNameAndTypeAdded old s t) → ⊥
types_none_last old s t mid i j named none (new, index, h, fits) =
    let same = texts_once old s t h.between mid h.name_index h.descriptor_index i j h.texts_added named in
    none (
      new,
      index,
      subst (λ x. IsAdded mid (NameAndType i x) new index) same.2 (subst (λ x. IsAdded mid (NameAndType x h.descriptor_index) new index) same.1
          (subst (λ p. IsAdded p (NameAndType h.name_index h.descriptor_index) new index) same.0 h.added)),
      fits,
    )

pub named_none_last : (k : ℕ → Entry) (old : List Entry) (t : List ℕ) (mid : List Entry) (i : ℕ) → IsAdded old (Utf8 t) mid i
    → (HasRoom (IsAdded mid (k i)) → ⊥) → HasRoom (IsNamedAdded k old t) → ⊥
named_none_last k old t mid i named none (new, index, h, fits) =
    let same = added_once old (Utf8 t) h.between mid h.name_index i h.name_added named in
    none (new, index, subst (λ x. IsAdded mid (k x) new index) same.1 (subst (λ p. IsAdded p (k h.name_index) new index) same.0 h.added), fits)

pub named_none_first : (k : ℕ → Entry) (old : List Entry) (t : List ℕ) → (HasRoom (IsAdded old (Utf8 t)) → ⊥) → HasRoom (IsNamedAdded k old t) → ⊥
named_none_first k old t none (new, index, h, fits) = none (h.between, h.name_index, h.name_added, added_fits h.between (k h.name_index) new index h.added fits)

pub texts_none_first : (old : List Entry) (s t : List ℕ) → (HasRoom (IsAdded old (Utf8 s)) → ⊥) → HasRoomForTwo (AreTextsAdded old s t) → ⊥
texts_none_first old s t none (new, i, j, h, fits) = none (h.between, i, h.first_added, added_fits h.between (Utf8 t) new j h.second_added fits)

-- ---- what a call answers

pub named_ok : {E : Type 0} (result : Result ℕ E) (k : ℕ → Entry) (old : List Entry) (t : List ℕ) (mid new : List Entry) (i : ℕ) → IsAdded old (Utf8 t) mid i
    → IfOk result (λ index. IsAdded mid (k i) new index) → IfOk result (λ index. IsNamedAdded k old t new index)
named_ok (Ok index) k old t mid new i named h = record { between = mid; name_index = i; name_added = named; added = h }
named_ok (Err e) k old t mid new i named h = tt

pub pool_grows : {E : Type 0} (result : Result ℕ E) (old : List Entry) (c : Entry) (new : List Entry) → IfOk result (λ index. IsAdded old c new index)
    → OnErr result (new ≡ old) → IsGrownPool old new
pool_grows (Ok index) old c new h e = grown_pool old c new index h
pool_grows (Err f) old c new h e = ([], e ∙ sym (append-nil old))

abbrev refused : {S : Type 0} → AsmFault → Result S AsmFault
refused fault = Err fault

-- a call whose fault was passed on found the same too large
pub too_large_before : {S T : Type 0} (result : Result T AsmFault) (fault : AsmFault) → IsErrAnd result (λ e. e ≡ fault) → result ≡ Err TooLarge → refused {S = S} fault ≡ Err TooLarge
too_large_before (Ok t) fault h e = absurd h
too_large_before (Err f) fault h e = ap refused (sym h ∙ cc)

pub classes_none_last : (old : List Entry) (s t : List ℕ) (mid : List Entry) (i : ℕ) → IsNamedAdded Class old s mid i
    → (HasRoom (IsNamedAdded Class mid t) → ⊥) → HasRoomForTwo (AreClassesAdded old s t) → ⊥
classes_none_last old s t mid i named none (new, i', j, h, fits) =
    let same = named_once Class old s h.between mid i' i h.first_added named in
    none (new, j, subst (λ p. IsNamedAdded Class p t new j) same.0 h.second_added, fits)

-- a name and a descriptor fit with more behind them
name_and_type_fits : (old : List Entry) (s t : List ℕ) (new : List Entry) (index : ℕ) → IsNameAndTypeAdded old s t new index → IsTrue (pool_fits new) → IsTrue (pool_fits old)
name_and_type_fits old s t new index h fits =
    let texts = h.texts_added in
    added_fits old (Utf8 s) texts.between h.name_index texts.first_added
    (added_fits texts.between (Utf8 t) h.between h.descriptor_index texts.second_added
    (added_fits h.between (NameAndType h.name_index h.descriptor_index) new index h.added fits))

pub member_none_class : (old : List Entry) (c s t : List ℕ) → (HasRoom (IsNamedAdded Class old c) → ⊥) → HasRoomForTwo (IsMemberNamed old c s t) → ⊥
member_none_class old c s t none (new, i, j, h, fits) = none (h.between, i, h.class_added, name_and_type_fits h.between s t new j h.member_added fits)

pub member_none_type : (old : List Entry) (c s t : List ℕ) (mid : List Entry) (i : ℕ) → IsNamedAdded Class old c mid i
    → (HasRoom (IsNameAndTypeAdded mid s t) → ⊥) → HasRoomForTwo (IsMemberNamed old c s t) → ⊥
member_none_type old c s t mid i named none (new, i', j, h, fits) =
    let same = named_once Class old c h.between mid i' i h.class_added named in
    none (new, j, subst (λ p. IsNameAndTypeAdded p s t new j) same.0 h.member_added, fits)

-- where there is no room for the names of a member, there is none for the member
pub member_none_first : (k : ℕ → ℕ → Entry) (old : List Entry) (c s t : List ℕ) → (HasRoomForTwo (IsMemberNamed old c s t) → ⊥) → HasRoom (IsMemberAdded k old c s t) → ⊥
member_none_first k old c s t none (new, index, h, fits) =
    none (h.between, h.class_index, h.member_index, h.named, added_fits h.between (k h.class_index h.member_index) new index h.added fits)

pub member_ok : {E : Type 0} (result : Result ℕ E) (k : ℕ → ℕ → Entry) (old : List Entry) (c s t : List ℕ) (mid new : List Entry) (i j : ℕ) → IsMemberNamed old c s t mid i j
    → IfOk result (λ index. IsAdded mid (k i j) new index) → IfOk result (λ index. IsMemberAdded k old c s t new index)
member_ok (Ok index) k old c s t mid new i j named h = record { between = mid; class_index = i; member_index = j; named = named; added = h }
member_ok (Err e) k old c s t mid new i j named h = tt

-- the same of a name and a descriptor
pub types_none_first : (old : List Entry) (s t : List ℕ) → (HasRoomForTwo (AreTextsAdded old s t) → ⊥) → HasRoom (IsNameAndTypeAdded old s t) → ⊥
types_none_first old s t none (new, index, h, fits) =
    none (h.between, h.name_index, h.descriptor_index, h.texts_added, added_fits h.between (NameAndType h.name_index h.descriptor_index) new index h.added fits)

-- no room for a StackMapTable where there is none for its name
pub stack_map_none : (old : List Entry) (contents : List ℕ) → (HasRoom (IsAdded old (Utf8 (codes "StackMapTable"))) → ⊥) → HasStackMapRoom old (Some contents) → ⊥
stack_map_none old contents none room = none (room.0, room.2.0, room.2.1, room.3)

pub types_ok : {E : Type 0} (result : Result ℕ E) (old : List Entry) (s t : List ℕ) (mid new : List Entry) (i j : ℕ) → AreTextsAdded old s t mid i j
    → IfOk result (λ index. IsAdded mid (NameAndType i j) new index) → IfOk result (λ index. IsNameAndTypeAdded old s t new index)
types_ok (Ok index) old s t mid new i j named added = record { between = mid; name_index = i; descriptor_index = j; texts_added = named; added = added }
types_ok (Err fault) old s t mid new i j named added = tt
