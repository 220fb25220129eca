-- `step` lends the host for a lifetime within that of what it borrows.
use Rattle.std.proofs.Common.{◌≡◌, ℕ, List, [], ◌∷◌, ◌++◌, refl, sym, ap, ◌∙◌, subst}
use base.Fraction.{full_share}
use base.Share
use base.Share.{halves}
use base.FractionLaws.{common}
use mir.Syntax.{named}
use mir.Raw.{raw as bare}
use mir.Val.{Val, vptr, has_ty}
use base.Logic.{SProp, sep, emp, never, id⊢, fst∗, wand, apply∗}
use base.Fml.{ftrue, feq, fsep, flft, fdead, flent}
use prog.Wp.{WpFn}
use types.Logic.{sem}
use types.Kit.{‵, raw, ◌⊛◌, some, later, prop, at_ret, ◌$◌, ◌∵◌, !, qed, by, move, keep, split, join, fsplit, fsplit3, fjoin, fjoin3, fpick, fpack, feq_i, feq_l, pick, await, regoal, rewrite, use0, use1, use2, use3}
use types.Run.{stop, fld, addr, of_opd, and_then, no_more, first, blocks, exec, returns, enter}
use types.ByLocal.{alloc_all, pass_all, free_all, look_at, get, get_in, through, sets, sets_last, lands_as, env}
use types.Part.{agg, sub, whole}
use types.Tokens.{lft_new, lft_end, lft-common}
use types.SemTy.{Body}
use contract.Monad.{fact, fact_i}
use contract.BorrowLft.{meet_⊑_right, meet_⊑_left}
use contract.Running.{tables}
use denote.Exit.{yes, left, Last, rest}
use denote.Param.Mute.{blank}
use lib.Dec.{T}
use Rattle.libjvhost.specs.declared.jobs.Job.TheVariants as jobs
use denote.Lend.{lends_ref, ref_back}
use denote.Memory.{part_at, lone, mem}
use denote.RattleType.{RattleType, owns}
use denote.RawPtr.{Ptr, block_ptr, null_ptr, ptr_val, in_a_block}
use denote.Ref.{MutRef, NamedLft}
use denote.Signature.{types_at, plain, named_lft}
use denote.Steps.{nothing, heard, peeks}
use denote.Laws.{Is, shows}
use denote.Param.{layout}
use Rattle.core.proofs.cell.Inside.{one}
use denote.Triple.Call.{calls_at}
use denote.Triple.Clauses.{Lasts, lasts}
use denote.Triple.Spec.{triple_of}
use denote.Triple.Table.{framed}
use denote.Triple.Walked.{Stays, stay_dropped, walk_of, Goes-dropped}
use Rattle.core.proofs.alloc.Calls.{Goes-blank}
use Rattle.core.proofs.atomic.Steps.{Ptr-Good}
use Rattle.std_alloc.specs.Box.Ownership.{box_owns}
use Rattle.std.proofs.raw_atomic.Walks.{proved_at, leaves}
use Rattle.libjvhost.specs.declared.kept.Kept.{Kept}
use Rattle.std.specs.Prelude.{Some, IsSome}
use Rattle.libjvhost.specs.Inside.Held.{Held, held_in, held_of, DoesOver}
use Rattle.libjvhost.specs.Inside.Owning.{chunk, lent_row, holds_kept, back}
use Rattle.libjvhost.specs.contracts.handle.Owner as owner
use Rattle.libjvhost.proofs.Owners.{both, owner_good, owner_in, owner_out, full_out, stepped_in, both_tt}
use Rattle.libjvhost.specs.declared.done.Done.{Done}
use Rattle.libjvhost.specs.contracts.jobs.Job as job
use Rattle.libjvhost.proofs.jobs.Job.TheLaws as job_laws
use Rattle.libjvhost.specs.contracts.done.Done as done_row
use Rattle.libjvhost.proofs.done.Done.TheLaws as done_laws
use Rattle.libjvhost.specs.contracts.kept.work as work
use Rattle.libjvhost.proofs.kept.work.Met as work_thm
use Rattle.libjvhost.specs.contracts.handle.Owner.step.{ended, clauses}
use Rattle.libjvhost.specs.contracts.handle.Owner.step.Key.{name as #self}
use Rattle.libjvhost.proofs.handle.Owner.step.Statement.{statement}
use Rattle.libjvhost.proofs.handle.Owner.step.Code as code

-- a job leaves nothing behind
no_trace : (κ : NamedLft) (x : (job.the_row κ).Denot) (f : Last ((job.the_row κ).exit yes) x) → T (blank (left ((job.the_row κ).exit yes) x f))
no_trace κ (jobs.Admit guest) f = tt
no_trace κ (jobs.Turn id n) f = tt
no_trace κ (jobs.Run n rounds) f = tt
no_trace κ (jobs.Feed id bytes) f = tt
no_trace κ (jobs.Observe id) f = tt
no_trace κ (jobs.Output id from most) f = tt
no_trace κ (jobs.Last id) f = tt
no_trace κ (jobs.EndClass id) f = tt
no_trace κ (jobs.Verdict id file) f = tt
no_trace κ (jobs.Place id) f = tt
no_trace κ (jobs.Check files room) f = tt
no_trace κ (jobs.Judge guest n room) f = tt

pub step_spec : {M : Type 1} → statement M
step_spec 𝓤 𝓛 𝓜 𝓡 wired =
    let H = 𝓛.H in let 𝓣 = tables 𝓤 H 𝓜 𝓡 𝓡.env in let c = clauses 𝓛 𝓜.mem 𝓡.returns in let fn = code.function in
    let O : RattleType = owner.the_row in let D : RattleType = done_row.the_row in
    let hs : Stays ended.signature.params ended.kept = (stay_dropped (plain (λ _. O)) yes, (stay_dropped (plain (λ κs. job.the_row (named_lft 1 0 tt κs))) yes, tt)) in
    let blanks = Goes-blank 𝓛 1 (plain (λ κs. job.the_row (named_lft 1 0 tt κs))) yes (λ κs x f. no_trace (named_lft 1 0 tt κs) x f) in
    proved_at 𝓛 ended hs c 𝓜 𝓡 (Goes-dropped 𝓛 1 (plain (λ _. O)) yes (λ κs x f. refl), (blanks, tt)) #self fn (code.unfolded 𝓤 H 𝓜 𝓡 wired) (λ z are.
    let Post : Val → SProp 𝓤 = (walk_of 𝓛 ended hs c).post z in let v = z.0.3.0 in let j = z.0.3.1.0 in
    let ρ = named_lft 1 0 tt z.0.0 in let J : RattleType = job.the_row ρ in let toks = ‵ (flft ρ.lft z.0.1.0) ⊛ ‵ ftrue in
    let hj = one (layout J) z.0.4.1.0 (((job_laws.the_row_laws ρ).lawful 𝓛).typed j z.0.4.1.0 are.1.0) in
    qed 𝓛 ((toks ⊛ ‵ (owns (types_at ended.signature.params z.0.0) z.0.3 z.0.4)) ∷ raw (fact 𝓤 (IsSome v.value)) ∷ []) ∵
    move ! (1 ∷ []) $ heard ! (IsSome v.value) (λ full. split ! $ move ! (1 ∷ []) $ fsplit ! $ move ! (1 ∷ []) $ fsplit ! $
    rewrite ! 0 (λ (us : List Val). ‵ (J.own_val j us)) hj.1 refl $ move ! (2 ∷ []) $
    -- [self; the job; nothing; ..]
    owner_out ! v z.0.4.0 (λ ws. full_out ! v.kept v.owned v.value full (λ gs held.
    fpick ! (λ α. fsplit3 ! $ move ! (1 ∷ []) $ fpick ! (λ x. fsplit ! $ feq_l ! (λ is.
    in_a_block ! v.kept (λ p. box_owns chunk (lent_row α) p x) (fst∗ 𝓤 (never 𝓤) (sem 𝓛 (chunk (bare (lone (lent_row α).mir)) null_ptr))) (λ b o e. fsplit ! $
    let word : z.0.4.0 ≡ both (vptr b o) (ptr_val v.owned) ∷ [] = ws ∙ ap (λ (p : Ptr). both (ptr_val p) (ptr_val v.owned) ∷ []) e in
    regoal ! (λ (us : List Val). prop (WpFn 𝓤 H 𝓣.C 𝓣.Λ fn us Post)) (λ i. word i ++ (hj.1 i ++ [])) refl $
    enter ! 𝓣.C 𝓣.Λ fn (both (vptr b o) (ptr_val v.owned) ∷ hj.0 ∷ []) Post $ alloc_all ! (λ l. pass_all ! refl (owner_good (block_ptr b o) v.owned, (hj.2, tt)) $ let Ev = env fn.locals l in
    sets ! (of_opd ! (get_in ! (fld ! refl (stop !)) (sub ! 0 refl (whole !)))) refl (tt, tt) $
    sets ! (of_opd ! (get_in ! (fld ! refl (stop !)) (sub ! 1 refl (whole !)))) refl (Ptr-Good v.owned) $
    first ! $ blocks ! $ sets ! (of_opd ! (get ! refl)) refl (tt, tt) $ sets ! (of_opd ! (get ! refl)) refl (tt, tt) $
    sets_last ! (addr ! (through ! refl (stop !))) refl (tt, tt) $
    exec ! 𝓣.C 𝓣.Λ Ev code.Mir.t-4 (at_ret Ev Post) $ sets ! (of_opd ! (get ! refl)) refl (tt, tt) $
    -- [the host; the right to free its block; the token of α; the lender's part; the job; ..]
    lft_new ! tt (λ β. let κ = β ∷ α ∷ [] in
    move ! (1 ∷ []) $ use1 𝓛 (later (some (λ (γ : ℕ). ‵ ((MutRef (named 0) κ (lent_row α)).own_val (record { ref_ptr = (b, o); ghost_name = γ; now = x }) (vptr b o ∷ [])) ⊛
    ‵ (flent κ (Body (mem (lent_row α)) b o γ)))))
    (lends_ref 𝓛 (lent_row α) (named 0) κ x b o) $ await ! tt $ pick ! (λ γ. split ! $
    -- [the loan; its lender's part; the token of β; the right to free; the token of α; what the owned box's lender has; the job; ..]
    let L = Share.left full_share in let R = Share.right full_share in let q = (common full_share R).0 in
    let Both = sep 𝓤 (𝓛.A.lft (β ∷ []) full_share) (𝓛.A.lft (α ∷ []) R) in
    move ! (4 ∷ []) $ use1 𝓛 (‵ (flft (α ∷ []) L) ⊛ ‵ (flft (α ∷ []) R)) (𝓛.lfts.lft_cut (α ∷ []) full_share L R (halves full_share)) $ split ! $
    move ! (4 ∷ 1 ∷ []) $ use2 𝓛 (‵ (flft κ q) ⊛ raw (wand 𝓤 (𝓛.A.lft κ q) Both)) (lft-common 𝓛 (β ∷ []) (α ∷ []) full_share R) $ split ! $
    sets ! (of_opd ! (get ! refl)) refl hj.2 $
    let G = triple_of 𝓛 work.signature (work.spec 𝓛 𝓜.mem 𝓡.returns) in
    let y : G.Ghost = (
      (
        (κ, (α ∷ [], (ρ.lft, tt))),
        (q, (L, (z.0.1.0, tt))),
        (meet_⊑_right (β ∷ []) (α ∷ []), tt),
        (record { ref_ptr = (b, o); ghost_name = γ; now = x }, (j, tt)),
        (
          vptr b o ∷ [],
          (hj.0 ∷ [], tt),
        ),
      ),
      tt,
    ) in
    nothing ! $ move ! (8 ∷ 0 ∷ []) $ join ! $ move ! (4 ∷ 0 ∷ []) $ join ! $ move ! (3 ∷ 8 ∷ []) $ join ! $ move ! (2 ∷ 0 ∷ []) $ join ! $ join ! $
    nothing ! $ move ! (1 ∷ 0 ∷ []) $ use2 𝓛 (raw (G.pre y)) (id⊢ 𝓤 _) $
    calls_at ! (framed 𝓤 𝓛.H 𝓜 (tables 𝓤 𝓛.H 𝓜 𝓡 𝓡.env)) G (work_thm.met 𝓤 𝓛 𝓜 𝓡 (code.calls-libjvhost::kept::work 𝓡.env wired)) y (and_then ! (get ! refl) (and_then ! (get ! refl) (no_more !))) (λ u.
    use1 𝓛 (later (some (λ (r : Done). ((‵ (flft κ q) ⊛ (‵ (flft (α ∷ []) L) ⊛ toks)) ⊛ ‵ (D.own_val r (u ∷ []))) ⊛
    some (λ (ls : Lasts work.ended y.0.0 y.0.3). ‵ (lasts work.ended y.0.0 y.0.3 ls) ⊛ raw (fact 𝓤 (DoesOver j (held_in x) (held_in ls.0) r)))))) (id⊢ 𝓤 _) $ await ! tt $
    pick ! (λ r. split ! $ split ! $ split ! $ move ! (1 ∷ []) $ split ! $
    move ! (3 ∷ []) $ peeks ! D (Is D) (shows 𝓛 D) r (u ∷ []) (λ isd. let good = (done_laws.the_row_laws.lawful 𝓛).typed r (u ∷ []) isd in lands_as ! refl refl good.0 $
    -- [what came of it; half of α's token; that of the job's; κ's token; the host's last value; the way back; ..]
    move ! (4 ∷ []) $ pick ! (λ ls. split ! $ move ! (1 ∷ []) $ heard ! (DoesOver j (held_in x) (held_in ls.0) r) (λ did. fsplit ! $ fsplit ! $
    move ! (6 ∷ 7 ∷ []) $ use2 𝓛 (‵ (flft (β ∷ []) full_share) ⊛ ‵ (flft (α ∷ []) R)) (apply∗ 𝓤 (𝓛.A.lft κ q) Both) $ split ! $ lft_end ! tt $
    move ! (6 ∷ 1 ∷ []) $ use2 𝓛 (‵ (flft (α ∷ []) full_share)) (𝓛.lfts.lft_glue (α ∷ []) full_share L R (halves full_share)) $
    move ! (1 ∷ []) $ use1 𝓛 (‵ (fdead κ)) (𝓛.lfts.dead-incl κ (β ∷ []) (meet_⊑_left (β ∷ []) (α ∷ []))) $
    move ! (0 ∷ 7 ∷ 2 ∷ []) $ use3 𝓛 (later (‵ (part_at (lent_row α) full_share ls.0 b o))) (ref_back 𝓛 (lent_row α) κ γ ls.0 b o) $ await ! tt $
    -- [the host; α's token; the borrow; the rest of the last values; what came of it; the token of the job's; the right to free; what the owned box's lender has; ..]
    let p : Ptr = block_ptr b o in let og = owner_good p v.owned in let hv : Val = both (vptr b o) (ptr_val v.owned) in
    sets ! (of_opd ! (get ! refl)) refl (tt, tt) $ sets ! (of_opd ! (get ! refl)) refl (Ptr-Good v.owned) $
    sets ! (agg ! (and_then ! (get ! refl) (and_then ! (get ! refl) (no_more !)))) refl og $
    sets ! (of_opd ! (get ! refl)) refl og $ sets ! (of_opd ! (get ! refl)) refl good.0 $
    sets ! (agg ! (and_then ! (get ! refl) (and_then ! (get ! refl) (no_more !)))) refl (both_tt (has_ty (layout O) hv) (has_ty (layout D) u) og.0 good.0.0, (og.1, (good.0.1, tt))) $
    returns ! (look_at ! 0 refl) $ free_all ! refl $
    let End : Held = held_in ls.0 in
    move ! (0 ∷ 6 ∷ []) $ fjoin ! $ feq_i ! (Held) (held_in ls.0) End refl $ fjoin ! $
    fpack ! Kept (λ (w : Kept). fsep (feq (Held) (held_in w) End) (box_owns chunk (lent_row α) p w)) ls.0 $
    move ! (1 ∷ 0 ∷ 6 ∷ []) $ fjoin3 ! $
    fpack ! ℕ (λ (a : ℕ). fsep (flft (a ∷ []) full_share) (fsep (holds_kept a p End) (back a v.owned))) α $
    owner_in ! p v.owned (Some End) $ move ! (0 ∷ 3 ∷ []) $ let h : O.Denot = record { kept = p; owned = v.owned; value = Some End } in stepped_in ! h r hv u $
    let Said : Type 0 = DoesOver j (held_of v.value) End r in
    let Live : Type 0 = IsSome (Some End) in use0 𝓛 (raw (fact 𝓤 Live)) (fact_i 𝓤 Live (emp 𝓤) refl) $
    use0 𝓛 (raw (fact 𝓤 Said)) (fact_i 𝓤 Said (emp 𝓤) (subst (λ (os : Held). DoesOver j os End r) (is ∙ ap held_of (sym held)) did)) $ join ! $ nothing ! $ nothing ! $ fjoin ! $
    nothing ! $ fjoin ! $
    keep ! (5 ∷ 0 ∷ 2 ∷ 1 ∷ []) $ by ! (leaves 𝓛 ended hs c z (both hv u) (record { host = h; done = r }) (tt, (rest (J.exit yes) j, tt)) (tt, (tt, tt)))))))))))))))))))
