-- `end` drops the host, ends the lifetime of what it borrows, and has that back.
use Rattle.std.proofs.Common.{◌≡◌, List, [], ◌∷◌, ◌++◌, refl, ap, ◌∙◌}
use base.Fraction.{full_share}
use base.Share
use base.Share.{halves}
use mir.Raw.{raw as bare}
use mir.Val.{Val, vptr}
use base.Logic.{SProp, never, id⊢, fst∗}
use base.Fml.{ftrue, flft}
use prog.Wp.{WpFn}
use types.Logic.{sem}
use types.Kit.{‵, raw, ◌⊛◌, some, later, prop, ◌$◌, ◌∵◌, !, qed, by, move, keep, drop, split, join, fsplit, fsplit3, fjoin, fpick, feq_l, pick, await, regoal, rewrite, use1, use2}
use types.Run.{stop, fld, of_opd, and_then, no_more, returns, enter}
use types.ByLocal.{alloc_all, pass_all, free_all, look_at, get, get_in, sets, lands_as}
use types.Part.{agg, sub, whole}
use types.Tokens.{lft_end, lent_back}
use contract.Monad.{fact}
use contract.Running.{tables}
use denote.Builtin.{unit}
use denote.Exit.{yes}
use denote.Memory.{lone}
use denote.RattleType.{RattleType, owns}
use denote.RawPtr.{block_ptr, null_ptr, ptr_val, in_a_block}
use denote.Signature.{types_at, plain}
use denote.Steps.{nothing, only, heard}
use denote.Param.{layout}
use denote.Triple.Call.{calls_at}
use denote.Triple.Clauses.{ensured}
use denote.Triple.Entry.{alive}
use denote.Triple.Spec.{triple_of}
use denote.Triple.Table.{framed}
use denote.Triple.Walked.{Stays, stay_dropped, walk_of, Goes-dropped}
use Rattle.core.proofs.cell.Inside.{one}
use Rattle.std_alloc.specs.Box.Ownership.{box_owns}
use Rattle.std.specs.contracts.alloc.Global as heap
use Rattle.std.proofs.alloc.Global.TheLaws as heap_laws
use Rattle.std.specs.contracts.impls.GlobalAllocator.TheImpl.{ghosts}
use Rattle.std.proofs.raw_atomic.Walks.{proved_at, leaves}
use Rattle.libjvhost.proofs.Values.{both as pair, Loose, loose_good, loose_in}
use Rattle.std.specs.Prelude.{IsSome}
use Rattle.libjvhost.specs.Inside.Owning.{chunk, lent_row, back}
use Rattle.libjvhost.specs.contracts.kept.Owned as owned
use Rattle.libjvhost.specs.contracts.handle.Owner as owner
use Rattle.libjvhost.proofs.Owners.{both, owner_good, owner_out, full_out}
use Rattle.libjvhost.specs.contracts.handle.finish as finish
use Rattle.libjvhost.proofs.handle.finish.Met as finish_thm
use Rattle.libjvhost.specs.contracts.handle.Owner.end.{ended, clauses}
use Rattle.libjvhost.specs.contracts.handle.Owner.end.Key.{name as #self}
use Rattle.libjvhost.proofs.handle.Owner.end.Statement.{statement}
use Rattle.libjvhost.proofs.handle.Owner.end.Code as code

pub end_spec : {M : Type 1} → statement M
end_spec 𝓤 𝓛 𝓜 𝓡 wired =
    let H = 𝓛.H in let 𝓣 = tables 𝓤 H 𝓜 𝓡 𝓡.env in let c = clauses 𝓛 𝓜.mem 𝓡.returns in let fn = code.function in
    let O : RattleType = owner.the_row in let Z : RattleType = heap.the_row in let LZ = heap_laws.the_row_laws in let W : RattleType = owned.the_row in
    let hs : Stays ended.signature.params ended.kept = (stay_dropped (plain (λ _. O)) yes, (stay_dropped (plain (λ _. Z)) yes, (stay_dropped (plain (λ _. Z)) yes, tt))) in
    proved_at 𝓛 ended hs c 𝓜 𝓡 (
      Goes-dropped 𝓛 0 (plain (λ _. O)) yes (λ κs x f. refl),
      (
        Goes-dropped 𝓛 0 (plain (λ _. Z)) yes (λ κs x f. refl),
        (
          Goes-dropped 𝓛 0 (plain
              (λ _. Z)) yes (λ κs x f. refl),
          tt,
        ),
      ),
    )
    #self fn (code.unfolded 𝓤 H 𝓜 𝓡 wired) (λ z are.
    let Post : Val → SProp 𝓤 = (walk_of 𝓛 ended hs c).post z in let v = z.0.3.0 in let a₁ = z.0.3.1.0 in let a₂ = z.0.3.1.1.0 in
    let h₁ = one (layout Z) z.0.4.1.0 ((LZ.lawful 𝓛).typed a₁ z.0.4.1.0 are.1.0) in let h₂ = one (layout Z) z.0.4.1.1.0 ((LZ.lawful 𝓛).typed a₂ z.0.4.1.1.0 are.1.1.0) in
    qed 𝓛 ((raw (alive 𝓛 ended.signature z.0.0 z.0.1) ⊛ ‵ (owns (types_at ended.signature.params z.0.0) z.0.3 z.0.4)) ∷ raw (fact 𝓤 (IsSome v.value)) ∷ []) ∵
    move ! (1 ∷ []) $ heard ! (IsSome v.value) (λ full. split ! $ move ! (1 ∷ []) $ fsplit ! $ owner_out ! v z.0.4.0 (λ ws. full_out ! v.kept v.owned v.value full (λ gs held.
    fpick ! (λ α. fsplit3 ! $ move ! (1 ∷ []) $ fpick ! (λ x. fsplit ! $ feq_l ! (λ is.
    in_a_block ! v.kept (λ p. box_owns chunk (lent_row α) p x) (fst∗ 𝓤 (never 𝓤) (sem 𝓛 (chunk (bare (lone (lent_row α).mir)) null_ptr))) (λ b o e.
    move ! (2 ∷ []) $ in_a_block ! v.owned (λ p. back α p) (id⊢ 𝓤 _) (λ b' o' e'. fpick ! (λ γ. fsplit ! $
    -- [the lender's part; the right to free what is owned; the host; α's token; the allocators; ..]
    move ! (4 ∷ []) $ fsplit ! $ move ! (1 ∷ []) $ fsplit ! $ rewrite ! 0 (λ (us : List Val). ‵ (Z.own_val a₂ us)) h₂.1 refl $ move ! (2 ∷ []) $
    rewrite ! 0 (λ (us : List Val). ‵ (Z.own_val a₁ us)) h₁.1 refl $
    let word : z.0.4.0 ≡ both (vptr b o) (vptr b' o') ∷ [] = ws ∙ (λ i. both (ptr_val (e i)) (ptr_val (e' i)) ∷ []) in
    regoal ! (λ (us : List Val). prop (WpFn 𝓤 H 𝓣.C 𝓣.Λ fn us Post)) (λ i. word i ++ (h₁.1 i ++ (h₂.1 i ++ []))) refl $
    enter ! 𝓣.C 𝓣.Λ fn (both (vptr b o) (vptr b' o') ∷ h₁.0 ∷ h₂.0 ∷ []) Post $ alloc_all ! (λ l. pass_all ! refl (owner_good (block_ptr b o) (block_ptr b' o'), (h₁.2, (h₂.2, tt))) $
    sets ! (of_opd ! (get_in ! (fld ! refl (stop !)) (sub ! 0 refl (whole !)))) refl (tt, tt) $
    sets ! (of_opd ! (get_in ! (fld ! refl (stop !)) (sub ! 1 refl (whole !)))) refl (tt, tt) $
    sets ! (of_opd ! (get ! refl)) refl (tt, tt) $
    sets ! (agg ! (and_then ! (get ! refl) (and_then ! (get ! refl) (no_more !)))) refl (loose_good (lent_row α) Z LZ ghosts b o h₁.0 h₁.2) $
    -- [the two allocators; nothing; the lender's part; the right to free what is owned; the host; α's token; ..]
    let L = Share.left full_share in let R = Share.right full_share in
    move ! (6 ∷ []) $ use1 𝓛 (‵ (flft (α ∷ []) L) ⊛ ‵ (flft (α ∷ []) R)) (𝓛.lfts.lft_cut (α ∷ []) full_share L R (halves full_share)) $ split ! $
    move ! (7 ∷ 2 ∷ []) $ loose_in (lent_row α) Z LZ ghosts ! b o h₁.0 a₁ x $
    let G = triple_of 𝓛 finish.signature (finish.spec 𝓛 𝓜.mem 𝓡.returns) in
    let d : (Loose (lent_row α) Z LZ ghosts).Denot = record { at = block_ptr b o; alloc = a₁; value = x } in
    let y : G.Ghost = (((α ∷ [], tt), (L, tt), tt, (d, tt), (pair (vptr b o) h₁.0 ∷ [], tt)), tt) in
    nothing ! $ move ! (1 ∷ 0 ∷ []) $ join ! $ nothing ! $ move ! (2 ∷ 0 ∷ []) $ join ! $ join ! $ nothing ! $ move ! (1 ∷ 0 ∷ []) $ use2 𝓛 (raw (G.pre y)) (id⊢ 𝓤 _) $
    calls_at ! (framed 𝓤 𝓛.H 𝓜 (tables 𝓤 𝓛.H 𝓜 𝓡 𝓡.env)) G (finish_thm.met 𝓤 𝓛 𝓜 𝓡 (code.calls-libjvhost::handle::finish 𝓡.env wired)) y (and_then ! (get ! refl) (no_more !)) (λ u.
    use1 𝓛 (later (some (λ (r : Unit {0}). ((‵ (flft (α ∷ []) L) ⊛ ‵ ftrue) ⊛ ‵ (unit.own_val r (u ∷ []))) ⊛
    raw (ensured 𝓛 finish.ended (finish.clauses 𝓛 𝓜.mem 𝓡.returns) (α ∷ [], tt) (d, tt) tt r)))) (id⊢ 𝓤 _) $
    await ! tt $ pick ! (λ r. split ! $ move ! (1 ∷ []) $ drop ! $ split ! $ split ! $ move ! (2 ∷ []) $ feq_l ! (λ is_unit. lands_as ! (ap only is_unit) refl (tt, tt) $
    move ! (0 ∷ 2 ∷ []) $ use2 𝓛 (‵ (flft (α ∷ []) full_share)) (𝓛.lfts.lft_glue (α ∷ []) full_share L R (halves full_share)) $ lft_end ! tt $
    move ! (0 ∷ 4 ∷ []) $ lent_back ! tt $ fpick ! (λ w. fsplit ! $
    -- [what is owned; its name's half; nothing; an allocator; nothing; the right to free; ..]
    sets ! (of_opd ! (get ! refl)) refl (tt, tt) $
    sets ! (agg ! (and_then ! (get ! refl) (and_then ! (get ! refl) (no_more !)))) refl (loose_good W Z LZ ghosts b' o' h₂.0 h₂.2) $
    returns ! (look_at ! 0 refl) $ free_all ! refl $
    move ! (0 ∷ 5 ∷ []) $ fjoin ! $ move ! (0 ∷ 3 ∷ []) $ loose_in W Z LZ ghosts ! b' o' h₂.0 a₂ w $
    nothing ! $ nothing ! $ nothing ! $ fjoin ! $ nothing ! $ fjoin ! $ nothing ! $ fjoin ! $
    keep ! (6 ∷ 0 ∷ 2 ∷ 1 ∷ []) $
    by ! (leaves 𝓛 ended hs c z (pair (vptr b' o') h₂.0) (record { at = block_ptr b' o'; alloc = a₂; value = w }) (tt, (tt, (tt, tt))) (tt, (tt, (tt, tt)))))))))))))))))))
