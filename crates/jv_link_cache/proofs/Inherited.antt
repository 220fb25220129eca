-- An object of a class below the one that declares a field keeps it at the same word.
use Rattle.std.proofs.Common.{◌≡◌, ℕ, zero, suc, [], ◌∷◌, Option, Some, None, refl, sym, subst, inl, inr, arith, length}
use Rattle.std.specs.Prelude.{◌⊎◌, IsFalse, if◌then◌else◌}
use Rattle.std.specs.List.{Contains}
use Rattle.std.proofs.lemmas.List.Elements.{Contains-append_left}
use Rattle.jv_meaning_world.specs.World.{Loaded, World}
use Rattle.jv_meaning_world.specs.Above.{above, is_circular, superclass_in, chain_within}
use Rattle.jv_meaning_world.specs.Laws.Above.{AboveByWays, AboveIsTransitive}
use Rattle.jv_meaning_typing.specs.Layout.{Placed, laid_at, layout}
use Rattle.jv_meaning_typing.specs.LinkingLaws.{LayoutExtends}
use Rattle.jv_meaning_typing.proofs.Found.{split}
use Rattle.jv_meaning_typing.proofs.Searched.{superclass_is_super, direct}
use Rattle.jv_link_cache.specs.Places.{static_layout}
use Rattle.jv_link_cache.specs.Laws.{WordsAreInherited}

module _ (ways : AboveByWays) (transitive : AboveIsTransitive) (extends : LayoutExtends) (world : World) where
  abbrev HasStraight : Loaded → Type 0
  HasStraight l = (c : Loaded) → Contains (above world l.class) c → IsFalse (is_circular world c.class)

  straight_above : (l s : Loaded) → HasStraight l → superclass_in world l.class ≡ Some s → HasStraight s
  straight_above l s straight e = λ c h. straight c (transitive world l.class s c (direct ways transitive world l.class s (superclass_is_super world l.class s e)) h)

  kept_below : (l s : Loaded) (p : Placed) → HasStraight l → superclass_in world l.class ≡ Some s → Contains (layout world s) p → Contains (layout world l) p
  kept_below l s p straight e h =
      let more = extends world l s straight e in
      subst (λ ps. Contains ps p) (sym more.1) (Contains-append_left (layout world s) more.0 p h)

  none_in : (c : Loaded) → Contains [] c → ⊥
  none_in c h = absurd (omega (arith, h.1))

  by_super : (n : ℕ) (l c : Loaded) (p : Placed) → HasStraight l → Contains (layout world c) p
      → ((s : Loaded) → HasStraight s → Contains (s ∷ chain_within world n (superclass_in world s.class)) c → Contains (layout world s) p)
      → (o : Option Loaded) → superclass_in world l.class ≡ o → Contains (chain_within world (suc n) o) c → Contains (layout world l) p
  by_super n l c p straight here more None e h = absurd (none_in c h)
  by_super n l c p straight here more (Some s) e h = kept_below l s p straight e (more s (straight_above l s straight e) h)

  inherits : (n : ℕ) (l c : Loaded) (p : Placed) → HasStraight l → Contains (l ∷ chain_within world n (superclass_in world l.class)) c → Contains (layout world c) p → Contains (layout world l) p
  inherits zero l c p straight h here = by_part (split l [] c h)
    where
      by_part : (l ≡ c) ⊎ Contains [] c → Contains (layout world l) p
      by_part (inl e) = subst (λ m. Contains (layout world m) p) (sym e) here
      by_part (inr k) = absurd (none_in c k)
  inherits (suc n) l c p straight h here =
      by_part (λ o e k. by_super n l c p straight here (λ s t j. inherits n s c p t j here) o e k) (split l (chain_within world (suc n) (superclass_in world l.class)) c h)
    where
      by_part : ((o : Option Loaded) → superclass_in world l.class ≡ o → Contains (chain_within world (suc n) o) c → Contains (layout world l) p)
          → (l ≡ c) ⊎ Contains (chain_within world (suc n) (superclass_in world l.class)) c → Contains (layout world l) p
      by_part up (inl e) = subst (λ m. Contains (layout world m) p) (sym e) here
      by_part up (inr k) = up (superclass_in world l.class) refl k

pub words_are_inherited : AboveByWays → AboveIsTransitive → LayoutExtends → WordsAreInherited
words_are_inherited ways transitive extends world l d word straight up instance is =
    inherits ways transitive extends world (length world) l d.by (laid_at d word) straight up
    (subst (λ b. Contains (if b then static_layout world else layout world d.by) (laid_at d word)) instance is)
