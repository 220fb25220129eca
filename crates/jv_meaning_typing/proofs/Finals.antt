-- A final method is overridden by itself alone, where no class breaks one.
use Rattle.std.proofs.Common.{◌≡◌, ℕ, zero, suc, Bool, true, false, cond, ◌&&◌, ◌||◌, List, [], ◌∷◌, ◌++◌, reverse, length, Option, Some, None, refl, sym, ap, ◌∙◌, subst, inl, inr}
use Rattle.std.specs.Prelude.{◌⊎◌, IsTrue, IsFalse, filter}
use Rattle.std.specs.List.{Contains, find, list_any}
use Rattle.std.specs.Str.{bytes_eq}
use Rattle.std.specs.Cmp.Lexicographic.{nat_list_eq_equiv}
use Rattle.std.proofs.lemmas.List.{append_assoc, append-nil, reverse-append}
use Rattle.jv_class_structure.specs.Flags.{has, acc_final}
use Rattle.jv_meaning_world.specs.World.{Loaded, World}
use Rattle.jv_meaning_world.specs.Above.{above, is_above, is_circular, superclass_in, chain_within, superclasses}
use Rattle.jv_meaning_world.specs.Overriding.{Declared, is_instance, overriding}
use Rattle.jv_meaning_world.specs.Verdicts.{is_final_instance, declared_by, overrides_in, breaks_final_of, breaks_final}
use Rattle.jv_meaning_world.specs.Laws.Above.{AboveByWays, AboveIsTransitive}
use Rattle.jv_meaning_typing.specs.Access.{same_class}
use Rattle.jv_meaning_typing.specs.Selection.{upward, classes_below}
use Rattle.jv_meaning_typing.specs.LinkingLaws.{NoneBreaksFinal, FinalIsRun}
use Rattle.jv_meaning_world.proofs.Up.{none, first, later}
use Rattle.jv_meaning_typing.proofs.Found.{split, same_text}
use Rattle.jv_meaning_typing.proofs.Searched.{AllOf, superclass_is_above}
use Rattle.jv_meaning_typing.proofs.Chain.{in_any, chain_is_above}
use Rattle.jv_meaning_typing.proofs.Unchanged.{OnlyItself, class_has, only_is_run}

clash : {b : Bool} → IsTrue b → IsFalse b → ⊥
clash h k = unlike (sym h ∙ k)
  where
    unlike : true ≡ false → ⊥
    unlike e = cc

-- ---- lists

module _ {X : Type 0} where
  -- what stands before and behind an element
  parted : (xs : List X) (x : X) → Contains xs x → (pre : List X) × (post : List X) × (xs ≡ pre ++ x ∷ post)
  parted [] x h = absurd (none x h)
  parted (y ∷ xs) x h = by_part (split y xs x h) (λ k. parted xs x k)
    where
      by_part : (y ≡ x) ⊎ Contains xs x → (Contains xs x → (pre : List X) × (post : List X) × (xs ≡ pre ++ x ∷ post)) → (pre : List X) × (post : List X) × (y ∷ xs ≡ pre ++ x ∷ post)
      by_part (inl e) again = ([], xs, ap (λ z. z ∷ xs) e)
      by_part (inr k) again = let found = again k in (y ∷ found.0, found.1, ap (λ zs. y ∷ zs) found.2)

  filter_none : (test : X → Bool) (xs : List X) → ((x : X) → Contains xs x → IsFalse (test x)) → filter test xs ≡ []
  filter_none test [] each = refl
  filter_none test (x ∷ xs) each = ap (λ b. cond b (x ∷ filter test xs) (filter test xs)) (each x (first x xs)) ∙ filter_none test xs (λ y h. each y (later x xs y h))

  filter_front : (test : X → Bool) (xs ys : List X) → ((x : X) → Contains xs x → IsTrue (test x)) → ((y : X) → Contains ys y → IsFalse (test y)) → filter test (xs ++ ys) ≡ xs
  filter_front test [] ys each never = filter_none test ys never
  filter_front test (x ∷ xs) ys each never =
      ap (λ b. cond b (x ∷ filter test (xs ++ ys)) (filter test (xs ++ ys))) (each x (first x xs)) ∙ ap (λ zs. x ∷ zs) (filter_front test xs ys (λ y h. each y (later x xs y h)) never)

  never_any : (test : X → Bool) (xs : List X) (x : X) → Contains xs x → IsFalse (list_any test xs) → IsFalse (test x)
  never_any test xs x h no_one = by_test (test x) refl
    where
      by_test : (b : Bool) → test x ≡ b → test x ≡ false
      by_test false e = e
      by_test true e = absurd (clash (in_any test xs x h e) no_one)

  pub found_stands : (test : X → Bool) (xs : List X) (x : X) → find test xs ≡ Some x → Contains xs x
  found_stands test [] x e = absurd cc
  found_stands test (y ∷ xs) x e = by_test (test y) (λ k. found_stands test xs x k) e
    where
      same : Some y ≡ Some x → y ≡ x
      same e = cc

      by_test : (b : Bool) → (find test xs ≡ Some x → Contains xs x) → cond b (Some y) (find test xs) ≡ Some x → Contains (y ∷ xs) x
      by_test true again e = subst (Contains (y ∷ xs)) (same e) (first y xs)
      by_test false again e = later y xs x (again e)

or_parts : (a b : Bool) → IsFalse (a || b) → IsFalse a × IsFalse b
or_parts true b h = absurd (clash refl h)
or_parts false b h = (refl, h)

-- ---- the chain of superclasses

module _ (ways : AboveByWays) (above_above : AboveIsTransitive) (world : World) where
  -- a superclass stands above all before it, and below all behind it
  all_below : (k : ℕ) (o : Option Loaded) (pre : List Loaded) (s : Loaded) (post : List Loaded) → chain_within world k o ≡ pre ++ s ∷ post → AllOf (λ x. Contains (above world x.class) s) pre
  all_below zero o [] s post e = λ x h. absurd (none x h)
  all_below zero o (p ∷ pre) s post e = absurd cc
  all_below (suc k) None [] s post e = λ x h. absurd (none x h)
  all_below (suc k) None (p ∷ pre) s post e = absurd cc
  all_below (suc k) (Some l) [] s post e = λ x h. absurd (none x h)
  all_below (suc k) (Some l) (p ∷ pre) s post e = λ x h. by_part x (λ j. all_below k (superclass_in world l.class) pre s post rest x j) (split p pre x h)
    where
      same : l ≡ p
      same = cc

      rest : chain_within world k (superclass_in world l.class) ≡ pre ++ s ∷ post
      rest = cc

      stands : (xs ys : List Loaded) → Contains (xs ++ s ∷ ys) s
      stands [] ys = first s ys
      stands (x ∷ xs) ys = later x (xs ++ s ∷ ys) s (stands xs ys)

      here : Contains (above world l.class) s
      here = chain_is_above ways above_above world k l.class s (subst (λ ls. Contains ls s) (sym rest) (stands pre post))

      by_part : (x : Loaded) → (Contains pre x → Contains (above world x.class) s) → (p ≡ x) ⊎ Contains pre x → Contains (above world x.class) s
      by_part x again (inl f) = subst (λ (z : Loaded). Contains (above world z.class) s) (same ∙ f) here
      by_part x again (inr j) = again j

  all_above : (k : ℕ) (o : Option Loaded) (pre : List Loaded) (s : Loaded) (post : List Loaded) → chain_within world k o ≡ pre ++ s ∷ post → AllOf (λ y. Contains (above world s.class) y) post
  all_above zero o [] s post e = absurd cc
  all_above zero o (p ∷ pre) s post e = absurd cc
  all_above (suc k) None [] s post e = absurd cc
  all_above (suc k) None (p ∷ pre) s post e = absurd cc
  all_above (suc k) (Some l) [] s post e = λ y h. subst (λ (c : Loaded). Contains (above world c.class) y) same
      (chain_is_above ways above_above world k l.class y (subst (λ ls. Contains ls y) (sym rest) h))
    where
      same : l ≡ s
      same = cc

      rest : chain_within world k (superclass_in world l.class) ≡ post
      rest = cc
  all_above (suc k) (Some l) (p ∷ pre) s post e = all_above k (superclass_in world l.class) pre s post rest
    where
      rest : chain_within world k (superclass_in world l.class) ≡ pre ++ s ∷ post
      rest = cc

  -- two of a chain: they are one, or one stands in the chain of the other
  abbrev InLine : ℕ → Loaded → Loaded → Type 0
  InLine k c x = (c ≡ x) ⊎ (Contains (chain_within world k (superclass_in world c.class)) x ⊎ Contains (chain_within world k (superclass_in world x.class)) c)

  longer : (k : ℕ) (o : Option Loaded) (x : Loaded) → Contains (chain_within world k o) x → Contains (chain_within world (suc k) o) x
  longer zero o x h = absurd (none x h)
  longer (suc k) None x h = absurd (none x h)
  longer (suc k) (Some l) x h = by_part (split l (chain_within world k (superclass_in world l.class)) x h) (λ j. longer k (superclass_in world l.class) x j)
    where
      by_part : (l ≡ x) ⊎ Contains (chain_within world k (superclass_in world l.class)) x →
          (Contains (chain_within world k (superclass_in world l.class)) x → Contains (chain_within world (suc k) (superclass_in world l.class)) x) →
          Contains (l ∷ chain_within world (suc k) (superclass_in world l.class)) x
      by_part (inl e) again = subst (Contains (l ∷ chain_within world (suc k) (superclass_in world l.class))) e (first l (chain_within world (suc k) (superclass_in world l.class)))
      by_part (inr j) again = later l (chain_within world (suc k) (superclass_in world l.class)) x (again j)

  longer_line : (k : ℕ) (c x : Loaded) → InLine k c x → InLine (suc k) c x
  longer_line k c x (inl e) = inl e
  longer_line k c x (inr (inl h)) = inr (inl (longer k (superclass_in world c.class) x h))
  longer_line k c x (inr (inr h)) = inr (inr (longer k (superclass_in world x.class) c h))

  -- of a class and its chain
  from_first : (k : ℕ) (l c x : Loaded) → ((d y : Loaded) → Contains (chain_within world k (superclass_in world l.class)) d →
      Contains (chain_within world k (superclass_in world l.class)) y → InLine k d y)
      → (l ≡ c) ⊎ Contains (chain_within world k (superclass_in world l.class)) c → (l ≡ x) ⊎ Contains (chain_within world k (superclass_in world l.class)) x → InLine k c x
  from_first k l c x rest (inl e) (inl f) = inl (sym e ∙ f)
  from_first k l c x rest (inl e) (inr j) = inr (inl (subst (λ (d : Loaded). Contains (chain_within world k (superclass_in world d.class)) x) e j))
  from_first k l c x rest (inr h) (inl f) = inr (inr (subst (λ (d : Loaded). Contains (chain_within world k (superclass_in world d.class)) c) f h))
  from_first k l c x rest (inr h) (inr j) = rest c x h j

  in_line : (k : ℕ) (o : Option Loaded) (c x : Loaded) → Contains (chain_within world k o) c → Contains (chain_within world k o) x → InLine k c x
  in_line zero o c x h j = absurd (none c h)
  in_line (suc k) None c x h j = absurd (none c h)
  in_line (suc k) (Some l) c x h j =
      longer_line k c x (from_first k l c x (λ d y i m. in_line k (superclass_in world l.class) d y i m)
      (split l (chain_within world k (superclass_in world l.class)) c h) (split l (chain_within world k (superclass_in world l.class)) x j))

  two_upward : (l c x : Loaded) → Contains (upward world l) c → Contains (upward world l) x → InLine (length world) c x
  two_upward l c x h j =
      from_first (length world) l c x (λ d y i m. in_line (length world) (superclass_in world l.class) d y i m)
      (split l (superclasses world l.class) c h) (split l (superclasses world l.class) x j)

  -- ---- a class below that of a final method, and one above it

  abbrev Straight : Loaded → Type 0
  Straight e = IsFalse (is_circular world e.class)

  -- nothing above a class with no circle is below it
  not_below : (e y : Loaded) → Straight e → Contains (above world e.class) y → IsFalse (is_above world e.class.name y.class)
  not_below e y straight h = by_test (is_above world e.class.name y.class) refl
    where
      named : (ls : List Loaded) → IsTrue (list_any (λ s. bytes_eq s.class.name e.class.name) ls) → (z : Loaded) × Contains ls z × IsTrue (bytes_eq z.class.name e.class.name)
      named [] t = absurd cc
      named (l ∷ ls) t = by_first (bytes_eq l.class.name e.class.name) refl t (λ k. named ls k)
        where
          by_first : (b : Bool) → bytes_eq l.class.name e.class.name ≡ b → IsTrue (b || list_any (λ s. bytes_eq s.class.name e.class.name) ls) →
              (IsTrue (list_any (λ s. bytes_eq s.class.name e.class.name) ls) → (z : Loaded) × Contains ls z ×
              IsTrue (bytes_eq z.class.name e.class.name)) → (z : Loaded) × Contains (l ∷ ls) z × IsTrue (bytes_eq z.class.name e.class.name)
          by_first true f t again = (l, first l ls, f)
          by_first false f t again = let found = again t in (found.0, later l ls found.0 found.1, found.2)

      by_test : (b : Bool) → is_above world e.class.name y.class ≡ b → is_above world e.class.name y.class ≡ false
      by_test false t = t
      by_test true t =
          let found = named (above world y.class) t in
          absurd (clash (in_any (λ s. bytes_eq s.class.name e.class.name) (above world e.class) found.0 (above_above world e.class y found.0 h found.1) found.2) straight)

  below_itself : (e : Loaded) → Straight e → IsFalse (is_above world e.class.name e.class)
  below_itself e straight = straight

  is_below_it : (e x : Loaded) → Contains (above world x.class) e → IsTrue (is_above world e.class.name x.class)
  is_below_it e x h = in_any (λ s. bytes_eq s.class.name e.class.name) (above world x.class) e h (nat_list_eq_equiv.refl e.class.name)

  -- the classes below it, of a class above it, and of one below it
  none_below : (e c : Loaded) → Straight e → Contains (above world e.class) c → classes_below world c e ≡ []
  none_below e c straight h =
      ap reverse (filter_none (λ x. is_above world e.class.name x.class) (upward world c)
      (λ x j. not_below e x straight (by_part x (split c (superclasses world c.class) x j))))
    where
      by_part : (x : Loaded) → (c ≡ x) ⊎ Contains (superclasses world c.class) x → Contains (above world e.class) x
      by_part x (inl f) = subst (Contains (above world e.class)) f h
      by_part x (inr j) = above_above world e.class c x h (superclass_is_above ways above_above world c.class x j)

  some_below : (e c : Loaded) (pre post : List Loaded) → Straight e → superclasses world c.class ≡ pre ++ e ∷ post → classes_below world c e ≡ reverse pre ++ c ∷ []
  some_below e c pre post straight f =
      ap (λ ls. reverse (filter (λ x. is_above world e.class.name x.class) (c ∷ ls))) f
      ∙ ap reverse (filter_front (λ x. is_above world e.class.name x.class) (c ∷ pre) (e ∷ post) (λ x h. is_below_it e x (front x (split c pre x h))) (λ y h. back y (split e post y h)))
      ∙ reverse-append (c ∷ []) pre
    where
      stands : (xs : List Loaded) → Contains (xs ++ e ∷ post) e
      stands [] = first e post
      stands (x ∷ xs) = later x (xs ++ e ∷ post) e (stands xs)

      front : (x : Loaded) → (c ≡ x) ⊎ Contains pre x → Contains (above world x.class) e
      front x (inl g) = subst (λ (y : Loaded). Contains (above world y.class) e) g (superclass_is_above ways above_above world c.class e (subst (λ ls. Contains ls e) (sym f) (stands pre)))
      front x (inr j) = all_below (length world) (superclass_in world c.class) pre e post f x j

      back : (y : Loaded) → (e ≡ y) ⊎ Contains post y → IsFalse (is_above world e.class.name y.class)
      back y (inl g) = subst (λ (x : Loaded). IsFalse (is_above world e.class.name x.class)) g (below_itself e straight)
      back y (inr j) = not_below e y straight (all_above (length world) (superclass_in world c.class) pre e post f y j)

  -- a class that breaks no final method breaks none of a superclass, behind those between
  not_broken : (c : Loaded) (passed pre : List Loaded) (s : Loaded) (post : List Loaded) → IsFalse (breaks_final c passed (pre ++ s ∷ post)) → IsFalse (breaks_final_of c (reverse pre ++ passed) s)
  not_broken c passed [] s post h = (or_parts (breaks_final_of c passed s) (breaks_final c (s ∷ passed) post) h).0
  not_broken c passed (p ∷ pre) s post h =
      subst (λ ls. IsFalse (breaks_final_of c ls s)) (sym (ap (λ ls. ls ++ passed) (reverse-append (p ∷ []) pre) ∙ append_assoc (reverse pre) (p ∷ []) passed))
      (not_broken c (p ∷ passed) pre s post (or_parts (breaks_final_of c passed p) (breaks_final c (p ∷ passed) (pre ++ s ∷ post)) h).1)

  -- ---- a final method

  module _ (e : Declared) (is_final : IsTrue (is_final_instance e.method)) (straight : Straight e.by) (stands : Contains e.by.class.methods e.method) where
    -- no class below overrides it
    not_overridden : (c : Loaded) → IsFalse (breaks_final c [] (superclasses world c.class)) → Contains (superclasses world c.class) e.by →
        IsFalse (list_any (λ o. bytes_eq o.by.class.name c.class.name) (overriding (e ∷ []) e.method (classes_below world c e.by)))
    not_overridden c keeps h =
        subst (λ ls. IsFalse (list_any (λ o. bytes_eq o.by.class.name c.class.name) (overriding (e ∷ []) e.method ls))) (sym (some_below e.by c parts.0 parts.1 straight parts.2))
        (by_final (is_final_instance e.method) is_final (never_any (λ m. is_final_instance m && overrides_in c (reverse parts.0) (declared_by e.by m)) e.by.class.methods e.method stands of_class))
      where
        parts : (pre : List Loaded) × (post : List Loaded) × (superclasses world c.class ≡ pre ++ e.by ∷ post)
        parts = parted (superclasses world c.class) e.by h

        of_class : IsFalse (breaks_final_of c (reverse parts.0) e.by)
        of_class =
            subst (λ ls. IsFalse (breaks_final_of c ls e.by)) (append-nil (reverse parts.0))
            (not_broken c [] parts.0 e.by parts.1 (subst (λ ls. IsFalse (breaks_final c [] ls)) parts.2 keeps))

        by_final : (b : Bool) → IsTrue b → IsFalse (b && overrides_in c (reverse parts.0) e) → IsFalse (overrides_in c (reverse parts.0) e)
        by_final true t n = n
        by_final false t n = absurd (clash t refl)

    single : (l : Loaded) → Contains (upward world l) e.by → NoneBreaksFinal world (upward world l) → OnlyItself world l e
    single l place keeps d h o = by_line (two_upward l d.by e.by h place)
      where
        or_false : (b : Bool) → IsTrue (b || false) → IsTrue b
        or_false true h = refl
        or_false false h = h

        by_line : InLine (length world) d.by e.by → d.by.class.name ≡ e.by.class.name
        by_line (inl f) = ap (λ (x : Loaded). x.class.name) f
        by_line (inr (inl j)) = absurd (clash (class_has world d e o) (not_overridden d.by (keeps d.by h) j))
        by_line (inr (inr j)) =
            sym (same_text e.by.class.name d.by.class.name (or_false (same_class e.by d.by)
            (subst (λ ls. IsTrue (list_any (λ x. same_class x.by d.by) (overriding (e ∷ []) e.method ls)))
            (none_below e.by d.by straight (superclass_is_above ways above_above world e.by.class d.by j)) (class_has world d e o))))

pub final_is_run : AboveByWays → AboveIsTransitive → FinalIsRun
final_is_run ways above_above world site t l is final straight keeps =
    only_is_run world site t l is (single ways above_above world t.declared both straight stands l is.place keeps)
  where
    both : IsTrue (is_final_instance t.declared.method)
    both = by_final (has t.declared.method.access_flags acc_final) final
      where
        by_final : (b : Bool) → IsTrue b → IsTrue (b && is_instance t.declared.method)
        by_final true f = is.instance
        by_final false f = absurd (clash f refl)

    stands : Contains t.declared.by.class.methods t.declared.method
    stands = found_stands (λ m. bytes_eq m.name t.declared.method.name && bytes_eq m.descriptor t.declared.method.descriptor) t.declared.by.class.methods t.declared.method is.declared
