-- Ways along a relation: how closing it number by number finds them, and that short ones do.
use Rattle.std.proofs.Common.{◌≡◌, ℕ, ◌+◌, ◌<◌, Bool, true, false, List, [], ◌∷◌, ◌++◌, ◌||◌, ◌&&◌, length, get_or, nat_eq, nat_lt, refl, sym, ap, ◌∙◌, subst, inl, inr, arith}
use Rattle.std.specs.Prelude.{◌⊎◌, ◌↔◌, ⊤, IsTrue}
use Rattle.std.specs.List.{AllByRecursion, IsDistinct, list_any}
use Rattle.std.proofs.lemmas.List.{get_or_past}
use Rattle.std.proofs.lemmas.Map.Keys.{IsDistinct-cons}
use Rattle.std.proofs.lemmas.Map.Steps.{length-le_from_distinct_below}
use Rattle.std.proofs.lemmas.Bool.{ltb-false, ltb-true, eqb-true, eqb-false}
use Rattle.jv_classes.specs.Ways.{Rows, IsSquare, related, IsWay, Reaches, ShortWays}

-- ---- tests

either : (a b c : Bool) → IsTrue (a || (b && c)) → IsTrue a ⊎ (IsTrue b × IsTrue c)
either true b c h = inl refl
either false true true h = inr (refl, refl)
either false true false h = absurd cc
either false false c h = absurd cc

first : (a b c : Bool) → IsTrue a → IsTrue (a || (b && c))
first true b c h = refl
first false b c h = absurd cc

second : (a b c : Bool) → IsTrue b → IsTrue c → IsTrue (a || (b && c))
second true b c h k = refl
second false true true h k = refl
second false true false h k = absurd cc
second false false c h k = absurd cc

-- ---- numbers that are related are below

not_past : (xs : List Bool) (n : ℕ) → IsTrue (get_or xs n false) → n < length xs
not_past xs n h = elim (nat_lt n (length xs)) as (λ t. nat_lt n (length xs) ≡ t → n < length xs) [
  | true ↦ λ e. ltb-true n (length xs) e
  | false ↦ λ e. absurd (clash (sym (get_or_past xs n false (ltb-false n (length xs) e)) ∙ h))
] refl
  where
    clash : false ≡ true → ⊥
    clash e = cc

pub to_below : (rows : Rows) (from to : ℕ) → IsSquare rows → IsTrue (related rows from to) → to < length rows
to_below rows from to square h = elim (nat_lt from (length rows)) as (λ t. nat_lt from (length rows) ≡ t → to < length rows) [
  | true ↦ λ e.
      let size = square from [] (ltb-true from (length rows) e) in
      let within = not_past (get_or rows from []) to h in
      omega (arith, size, within)
  | false ↦ λ e. absurd (none (get_or rows from []) (get_or_past rows from [] (ltb-false from (length rows) e)) h)
] refl
  where
    none : (xs : List Bool) → xs ≡ [] → IsTrue (get_or xs to false) → ⊥
    none xs e h = beyond (subst (λ ys. IsTrue (get_or ys to false)) e h) to
      where
        beyond : IsTrue (get_or [] to false) → (n : ℕ) → ⊥
        beyond h n = absurd cc

-- ---- ways one behind the other

joined_ways : (rows : Rows) (from by to : ℕ) (xs ys : List ℕ) → IsWay rows from xs by → IsWay rows by ys to → IsWay rows from (xs ++ by ∷ ys) to
joined_ways rows from by to [] ys h k = (h, k)
joined_ways rows from by to (x ∷ xs) ys h k = (h.0, joined_ways rows x by to xs ys h.1 k)

reaches_on : (rows : Rows) (from by to : ℕ) → Reaches rows from by → Reaches rows by to → Reaches rows from to
reaches_on rows from by to h k = (h.0 ++ by ∷ k.0, joined_ways rows from by to h.0 k.0 h.1 k.1)

-- ---- closing a relation

-- how far the relation is closed: it lies between what it was and what that reaches, and steps by way of the numbers
-- below are steps of its own
pub record Closing (old now : Rows) (below : ℕ) : Type 0 where
  pub sound : (from to : ℕ) → IsTrue (related now from to) → Reaches old from to
  pub grown : (from to : ℕ) → IsTrue (related old from to) → IsTrue (related now from to)
  pub closed : (from by to : ℕ) → by < below → IsTrue (related now from by) → IsTrue (related now by to) → IsTrue (related now from to)

pub closing_start : (old : Rows) → Closing old old 0
closing_start old = record {
  sound = λ from to h. ([], h);
  grown = λ from to h. h;
  closed = λ from by to less. absurd (omega (arith, less));
}

pub closing_step : (old now new : Rows) (k : ℕ) (other : List Bool) → Closing old now k
    → ((to : ℕ) → get_or other to false ≡ related now k to)
    → ((from to : ℕ) → related new from to ≡ (related now from to || (related now from k && get_or other to false)))
    → Closing old new (k + 1)
closing_step old now new k other h same made = record {
  sound = λ from to t. from_parts from to (parts from to t);
  grown = λ from to t. kept from to (h.grown from to t);
  closed = closed;
}
  where
    parts : (from to : ℕ) → IsTrue (related new from to) → IsTrue (related now from to) ⊎ (IsTrue (related now from k) × IsTrue (related now k to))
    parts from to t = either (related now from to) (related now from k) (related now k to)
        (subst IsTrue (made from to ∙ ap (λ b. related now from to || (related now from k && b)) (same to)) t)

    made_now : (from to : ℕ) → related new from to ≡ (related now from to || (related now from k && related now k to))
    made_now from to = made from to ∙ ap (λ b. related now from to || (related now from k && b)) (same to)

    kept : (from to : ℕ) → IsTrue (related now from to) → IsTrue (related new from to)
    kept from to t = subst IsTrue (sym (made_now from to)) (first (related now from to) (related now from k) (related now k to) t)

    by_k : (from to : ℕ) → IsTrue (related now from k) → IsTrue (related now k to) → IsTrue (related new from to)
    by_k from to t u = subst IsTrue (sym (made_now from to)) (second (related now from to) (related now from k) (related now k to) t u)

    from_parts : (from to : ℕ) → IsTrue (related now from to) ⊎ (IsTrue (related now from k) × IsTrue (related now k to)) → Reaches old from to
    from_parts from to (inl t) = h.sound from to t
    from_parts from to (inr t) = reaches_on old from k to (h.sound from k t.0) (h.sound k to t.1)

    through : (from by to : ℕ) → by < k + 1 → IsTrue (related now from by) → IsTrue (related now by to) → IsTrue (related now from to) ⊎ (IsTrue (related now from k) × IsTrue (related now k to))
    through from by to less t u = elim (nat_eq by k) as (λ b. nat_eq by k ≡ b → IsTrue (related now from to) ⊎ (IsTrue (related now from k) × IsTrue (related now k to))) [
      | true ↦ λ e. let is : by ≡ k = eqb-true by k e in inr (subst (λ n. IsTrue (related now from n)) is t, subst (λ n. IsTrue (related now n to)) is u)
      | false ↦ λ e. let apart : by ≡ k → ⊥ = eqb-false by k e in let below : by < k = omega (arith, less, apart) in inl (h.closed from by to below t u)
    ] refl

    closed : (from by to : ℕ) → by < k + 1 → IsTrue (related new from by) → IsTrue (related new by to) → IsTrue (related new from to)
    closed from by to less t u = cases (parts from by t) (parts by to u)
      where
        by_way : (from to : ℕ) → IsTrue (related now from to) ⊎ (IsTrue (related now from k) × IsTrue (related now k to)) → IsTrue (related new from to)
        by_way from to (inl t) = kept from to t
        by_way from to (inr t) = by_k from to t.0 t.1

        to_k : (from : ℕ) → IsTrue (related now from k) ⊎ (IsTrue (related now from k) × IsTrue (related now k k)) → IsTrue (related now from k)
        to_k from (inl t) = t
        to_k from (inr t) = t.0

        from_k : (to : ℕ) → IsTrue (related now k to) ⊎ (IsTrue (related now k k) × IsTrue (related now k to)) → IsTrue (related now k to)
        from_k to (inl t) = t
        from_k to (inr t) = t.1

        cases : IsTrue (related now from by) ⊎ (IsTrue (related now from k) × IsTrue (related now k by)) → IsTrue (related now by to) ⊎
            (IsTrue (related now by k) × IsTrue (related now k to)) → IsTrue (related new from to)
        cases (inl t) (inl u) = by_way from to (through from by to less t u)
        cases (inl t) (inr u) = by_k from to (to_k from (through from by k less t u.0)) u.1
        cases (inr t) (inl u) = by_k from to t.0 (from_k to (through k by to less t.1 u))
        cases (inr t) (inr u) = by_k from to t.0 u.1

pub closing_end : (old now : Rows) → IsSquare old → Closing old now (length old) → (from to : ℕ) → IsTrue (related now from to) ↔ Reaches old from to
closing_end old now square h from to = (h.sound from to, λ way. found from way.0 way.1)
  where
    found : (from : ℕ) (between : List ℕ) → IsWay old from between to → IsTrue (related now from to)
    found from [] t = h.grown from to t
    found from (by ∷ more) t = h.closed from by to (to_below old from by square t.0) (h.grown from by t.0) (found by more t.1)

-- ---- short ways

abbrev IsFresh : ℕ → List ℕ → Type 0
IsFresh n xs = AllByRecursion (λ x. nat_eq n x ≡ false) xs

-- none comes twice
abbrev NoTwo : List ℕ → Type 0
NoTwo [] = ⊤
NoTwo (x ∷ xs) = IsFresh x xs × NoTwo xs

distinct : (xs : List ℕ) → NoTwo xs → IsDistinct nat_eq xs
unfolding IsDistinct
distinct [] h = search
distinct (x ∷ xs) h = IsDistinct-cons nat_eq x xs h.0 (distinct xs h.1)

record Short (rows : Rows) (from to : ℕ) : Type 0 where
  between : List ℕ
  way : IsWay rows from between to
  once : NoTwo (to ∷ between)

record ShortFresh (rows : Rows) (from to : ℕ) : Type 0 where
  between : List ℕ
  way : IsWay rows from between to
  once : NoTwo (to ∷ between)
  fresh : IsFresh from between

-- a number is not on a way, or a way goes on from it
on_way : (rows : Rows) (n from to : ℕ) (xs : List ℕ) → IsWay rows from xs to → NoTwo (to ∷ xs) → IsFresh n xs ⊎ ShortFresh rows n to
on_way rows n from to [] way once = inl search
on_way rows n from to (x ∷ xs) way once =
    elim (nat_eq n x) as (λ t. nat_eq n x ≡ t → IsFresh n (x ∷ xs) ⊎ ShortFresh rows n to) [
      | true ↦ λ e.
          let is : n ≡ x = eqb-true n x e in
          inr (record { between = xs; way = subst (λ m. IsWay rows m xs to) (sym is) way.1; once = (once.0.1, once.1.1); fresh = subst (λ m. IsFresh m xs) (sym is) once.1.0 })
      | false ↦ λ e. later e (on_way rows n x to xs way.1 (once.0.1, once.1.1))
    ] refl
  where
    later : nat_eq n x ≡ false → IsFresh n xs ⊎ ShortFresh rows n to → IsFresh n (x ∷ xs) ⊎ ShortFresh rows n to
    later e (inl fresh) = inl (e, fresh)
    later e (inr short) = inr short

cut : (rows : Rows) (from x to : ℕ) → IsTrue (related rows from x) → Short rows x to → Short rows from to
cut rows from x to step short = elim (nat_eq to x) as (λ t. nat_eq to x ≡ t → Short rows from to) [
  | true ↦ λ e. record { between = []; way = subst (λ m. IsTrue (related rows from m)) (sym (eqb-true to x e)) step; once = (search, search) }
  | false ↦ λ e. by_way e (on_way rows x x to short.between short.way short.once)
] refl
  where
    by_way : nat_eq to x ≡ false → IsFresh x short.between ⊎ ShortFresh rows x to → Short rows from to
    by_way e (inl fresh) = record { between = x ∷ short.between; way = (step, short.way); once = ((e, short.once.0), (fresh, short.once.1)) }
    by_way e (inr on) = record { between = x ∷ on.between; way = (step, on.way); once = ((e, on.once.0), (on.fresh, on.once.1)) }

shortened : (rows : Rows) (from to : ℕ) (xs : List ℕ) → IsWay rows from xs to → Short rows from to
shortened rows from to [] way = record { between = []; way = way; once = (search, search) }
shortened rows from to (x ∷ xs) way = cut rows from x to way.0 (shortened rows x to xs way.1)

end_below : (rows : Rows) (from to : ℕ) (xs : List ℕ) → IsSquare rows → IsWay rows from xs to → to < length rows
end_below rows from to [] square way = to_below rows from to square way
end_below rows from to (x ∷ xs) square way = end_below rows x to xs square way.1

all_below : (rows : Rows) (from to : ℕ) (xs : List ℕ) → IsSquare rows → IsWay rows from xs to → (q : ℕ) → list_any (nat_eq q) xs ≡ true → q < length rows
all_below rows from to [] square way q h = absurd cc
all_below rows from to (x ∷ xs) square way q h =
    elim (nat_eq q x) as (λ t. nat_eq q x ≡ t → (t || list_any (nat_eq q) xs) ≡ true → q < length rows) [
      | true ↦ λ e _. subst (λ n. n < length rows) (sym (eqb-true q x e)) (to_below rows from x square way.0)
      | false ↦ λ e g. all_below rows x to xs square way.1 q g
    ] refl h

pub short_ways : ShortWays
short_ways rows from to square way =
    let short = shortened rows from to way.0 way.1 in
    let few = length-le_from_distinct_below (to ∷ short.between) (length rows) (distinct (to ∷ short.between) short.once) below in
    (short.between, short.way, omega (arith, few))
  where
    below : (q : ℕ) → list_any (nat_eq q) (to ∷ (shortened rows from to way.0 way.1).between) ≡ true → q < length rows
    below q h =
        let short = shortened rows from to way.0 way.1 in
        elim (nat_eq q to) as (λ t. nat_eq q to ≡ t → (t || list_any (nat_eq q) short.between) ≡ true → q < length rows) [
          | true ↦ λ e _. subst (λ n. n < length rows) (sym (eqb-true q to e)) (end_below rows from to short.between square short.way)
          | false ↦ λ e g. all_below rows from to short.between square short.way q g
        ] refl h
