-- The machine values of an owner. Assumes `Logic`.
use Rattle.std.proofs.Common.{◌≡◌, List, [], ◌∷◌, ◌++◌, refl, ◌∙◌}
use mathlib.Core.Bool.{true, ◌&&◌}
use lib.Dec.{T}
use seplogic.Ra.Ura.{Ura}
use mir.Syntax.{ty_ptr}
use mir.Val.{Val, vstruct, vcons, vnil, of_list, has_ty, WT}
use types.Logic.{Logic}
use types.Kit.{Item, Goal, Seq, Step, step, ‵, ◌$◌, drop, move, fsplit, fjoin, fjoin3, fpick, fpack, feq_i, feq_l}
use denote.RattleType.{Valss}
use denote.Builtin.{RawPtr}
use denote.RawPtr.{Ptr, ptr_val}
use denote.Steps.{nothing}
use denote.Struct.Struct.{within}
use denote.Struct.Owning.{shape}
use denote.Struct.Declared.{shape as plain_shape}
use Rattle.core.proofs.atomic.Steps.{Ptr-Good}
use Rattle.std.specs.Prelude.{Option, None, Some, IsSome}
use Rattle.std.proofs.lemmas.Bool.{false≢true}
use Rattle.libjvhost.specs.Inside.Held.{Held}
use Rattle.libjvhost.specs.Inside.Owning.{owns_both, owns_held}
use Rattle.libjvhost.specs.declared.done.Done.{Done}
use Rattle.libjvhost.specs.contracts.done.Done as done_row
use Rattle.libjvhost.specs.contracts.handle.Stepped as stepped
use Rattle.libjvhost.specs.contracts.handle.Owner as owner

abbrev pub both : Val → Val → Val
both v w = vstruct (vcons v (vcons w vnil))

pub both_tt : (x y : mathlib.Core.Bool.Bool) → T x → T y → T (x && (y && true))
both_tt true true s t = tt
both_tt true mathlib.Core.Bool.false s t = absurd t
both_tt mathlib.Core.Bool.false y s t = absurd s

pub owner_good : (p q : Ptr) → T (has_ty ty_ptr (ptr_val p) && (has_ty ty_ptr (ptr_val q) && true)) × WT (both (ptr_val p) (ptr_val q))
owner_good p q = (both_tt (has_ty ty_ptr (ptr_val p)) (has_ty ty_ptr (ptr_val q)) (Ptr-Good p).0 (Ptr-Good q).0, ((Ptr-Good p).1, ((Ptr-Good q).1, tt)))

module _ {M : Type 1} {𝓤 : Ura M} {𝓛 : Logic 𝓤} {K : Type 0} {Γ : List (Item 𝓤)} {G : Goal 𝓤 𝓛.H} where
  pub owner_in : K → (p q : Ptr) (x : Option (Held))
      → Step K 𝓛 (‵ (owner.the_row.own_val (record { kept = p; owned = q; value = x }) (both (ptr_val p) (ptr_val q) ∷ [])) ∷ Γ) G (‵ (owns_held p q x) ∷ Γ) G
  owner_in t p q x = step (λ s. let v : Val = both (ptr_val p) (ptr_val q) in
      nothing t $ feq_i t (List Val) (ptr_val q ∷ []) (ptr_val q ∷ []) refl $ fjoin t $ feq_i t (List Val) (ptr_val p ∷ []) (ptr_val p ∷ []) refl $ fjoin t $
      feq_i t (List Val) (v ∷ []) (v ∷ []) refl $ fjoin t $
      fpack t (Valss (RawPtr ∷ RawPtr ∷ [])) (within (shape owner.the_type) (p, (q, tt)) (v ∷ [])) (ptr_val p ∷ [], (ptr_val q ∷ [], tt)) $ fjoin t $ s)

  pub owner_out : K → (d : owner.the_row.Denot) (vs : List Val)
      → (vs ≡ both (ptr_val d.kept) (ptr_val d.owned) ∷ [] → Seq K 𝓛 (‵ (owns_held d.kept d.owned d.value) ∷ Γ) G)
      → Seq K 𝓛 (‵ (owner.the_row.own_val d vs) ∷ Γ) G
  owner_out t d vs k =
      fsplit t $ fpick t (λ vss. fsplit t $ feq_l t (λ ev. fsplit t $ feq_l t (λ ep. fsplit t $ feq_l t (λ eq. drop t $ k
      (ev ∙ (λ i. vstruct (of_list (ep i ++ (eq i ++ []))) ∷ []))))))

  pub full_out : K → (p q : Ptr) (x : Option (Held)) → IsSome x
      → ((v : Held) → x ≡ Some v → Seq K 𝓛 (‵ (owns_both p q v) ∷ Γ) G) → Seq K 𝓛 (‵ (owns_held p q x) ∷ Γ) G
  full_out t p q None full k = absurd (false≢true full)
  full_out t p q (Some v) full k = k v refl

  pub stepped_in : K → (h : owner.the_row.Denot) (d : Done) (v w : Val)
      → Step K 𝓛 (‵ (stepped.the_row.own_val (record { host = h; done = d }) (both v w ∷ [])) ∷ Γ) G (‵ (owner.the_row.own_val h (v ∷ [])) ∷ ‵ (done_row.the_row.own_val d (w ∷ [])) ∷ Γ) G
  stepped_in t h d v w = step (λ s. nothing t $ move t (1 ∷ 2 ∷ 0 ∷ []) $ fjoin3 t $ feq_i t (List Val) (both v w ∷ []) (both v w ∷ []) refl $ fjoin t $
      fpack t (Valss (owner.the_row ∷ done_row.the_row ∷ [])) (within (plain_shape stepped.the_type) (
        h,
        (
          (
            d.code,
            (
              d.number,
              (
                (
                  d.seen.size,
                  (
                    d.seen.steps,
                    (
                      d.seen.throws,
                      (d.seen.output, (d.seen.verdicts, (d.seen.end, tt))),
                    ),
                  ),
                ),
                (
                  (d.verdict.kind, (d.verdict.method, (d.verdict.offset, (d.verdict.rule, tt)))),
                  (
                    (d.place.size, (d.place.class, (d.place.method, (d.place.descriptor, (d.place.offset, tt))))),
                    (d.bytes, (d.verdicts, tt)),
                  ),
                ),
              ),
            ),
          ),
          tt,
        ),
      )
      (both v w ∷ [])) (v ∷ [], (w ∷ [], tt)) $ s)
