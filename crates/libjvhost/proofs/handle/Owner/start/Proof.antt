-- `start` makes a lifetime, lends what is owned for it, and puts what borrows it behind the other pointer.
use Rattle.std.proofs.Common.{◌≡◌, ℕ, List, [], ◌∷◌, ◌++◌, refl}
use base.Fraction.{full_share}
use base.Share
use base.Share.{halves}
use mir.Raw.{raw as bare}
use mir.Val.{Val, vptr}
use base.Logic.{SProp, emp, id⊢}
use base.Fml.{ftrue, feq, fsep, fat, flft, flent}
use prog.Wp.{WpFn}
use types.Kit.{‵, raw, ◌⊛◌, some, later, prop, at_ret, ◌$◌, ◌∵◌, !, qed, by, move, keep, drop, split, join, fsplit, fjoin, fjoin3, fpack, feq_i, pick, await, regoal, use0, use1, use2}
use types.Run.{stop, fld, addr, store, of_opd, assigns_last, first, blocks, exec, and_then, no_more, returns, enter}
use types.ByLocal.{alloc_all, pass_all, free_all, look_at, get, get_in, through, sets, sets_last, lands_as, env}
use types.Part.{agg, sub, whole}
use types.Tokens.{lft_new}
use contract.Monad.{fact, fact_i}
use contract.Running.{tables}
use denote.Exit.{yes, no}
use denote.Laws.{Is, shows}
use denote.Lend.{lends_ref}
use denote.Memory.{lone, mem, part_at}
use denote.Ref.{MutRef}
use types.SemTy.{Body}
use mir.Syntax.{named, static, erased}
use borrow.Table.OneValue.{part_out_at, part_in_at}
use denote.RattleType.{RattleType, owns}
use denote.RawPtr.{Ptr, block_ptr}
use denote.Signature.{types_at, plain, static_lft}
use denote.Steps.{nothing, heard, peeks}
use denote.Triple.Call.{calls_at}
use denote.Triple.Clauses.{Lasts, lasts}
use denote.Triple.Entry.{alive}
use denote.Triple.Spec.{triple_of}
use denote.Triple.Table.{framed}
use denote.Triple.Walked.{Stays, stay_dropped, walk_of, Goes-dropped}
use Rattle.core.proofs.alloc.Calls.{Goes-blank}
use Rattle.std_alloc.specs.Box.Ownership.{box_owns}
use Rattle.std.specs.contracts.alloc.Global as heap
use Rattle.std.proofs.alloc.Global.TheLaws as heap_laws
use Rattle.std.specs.contracts.impls.GlobalAllocator.TheImpl.{ghosts}
use Rattle.std.proofs.raw_atomic.Walks.{proved_at, leaves}
use Rattle.libjvhost.proofs.Values.{both as pair, Loose, loose_good, loose_out}
use Rattle.libjvhost.specs.declared.kept.Kept.{Kept}
use Rattle.std.specs.Prelude.{Option, Some}
use Rattle.libjvhost.specs.Calls.{new_host}
use Rattle.libjvhost.specs.Inside.Held.{Held, held_in}
use Rattle.libjvhost.specs.Inside.Owning.{chunk, lent_row, holds_kept, back}
use Rattle.libjvhost.specs.contracts.kept.Owned as owned
use Rattle.libjvhost.proofs.Owners.{both, owner_good, owner_in}
use Rattle.libjvhost.specs.contracts.kept.begin as begin
use Rattle.libjvhost.proofs.kept.begin.Met as begin_thm
use Rattle.libjvhost.specs.contracts.kept.Kept as kept
use Rattle.libjvhost.proofs.kept.Kept.TheLaws as kept_laws
use Rattle.libjvhost.specs.contracts.handle.Owner.start.{ended, clauses}
use Rattle.libjvhost.specs.contracts.handle.Owner.start.Key.{name as #self}
use Rattle.libjvhost.proofs.handle.Owner.start.Statement.{statement}
use Rattle.libjvhost.proofs.handle.Owner.start.Code as code

pub start_spec : {M : Type 1} → statement M
start_spec 𝓤 𝓛 𝓜 𝓡 wired =
    let H = 𝓛.H in let 𝓣 = tables 𝓤 H 𝓜 𝓡 𝓡.env in let c = clauses 𝓛 𝓜.mem 𝓡.returns in let fn = code.function in
    let Z : RattleType = heap.the_row in let LZ = heap_laws.the_row_laws in let W : RattleType = owned.the_row in let S : RattleType = kept.the_row static_lft in
    let δ = lone (kept.the_row (record { mir = erased; lft = [] })).mir in
    let hs : Stays ended.signature.params ended.kept = (stay_dropped (plain (λ _. Loose W Z LZ ghosts)) yes, (stay_dropped (plain (λ _. Loose S Z LZ ghosts)) no, tt)) in
    proved_at 𝓛 ended hs c 𝓜 𝓡 (Goes-dropped 𝓛 0 (plain (λ _. Loose W Z LZ ghosts)) yes (λ κs x f. refl), (Goes-blank 𝓛 0 (plain (λ _. Loose S Z LZ ghosts)) no (λ κs x f. tt), tt))
    #self fn (code.unfolded 𝓤 H 𝓜 𝓡 wired) (λ z are.
    let Post : Val → SProp 𝓤 = (walk_of 𝓛 ended hs c).post z in let v₁ = z.0.3.0 in let v₂ = z.0.3.1.0 in
    let Fresh : Held = Some (new_host v₁.value.system) in
    qed 𝓛 ((raw (alive 𝓛 ended.signature z.0.0 z.0.1) ⊛ ‵ (owns (types_at ended.signature.params z.0.0) z.0.3 z.0.4)) ∷ ‵ ftrue ∷ []) ∵
    split ! $ move ! (1 ∷ []) $ fsplit ! $ loose_out W Z LZ ghosts ! v₁ z.0.4.0 (λ b o h e ws fits.
    move ! (2 ∷ []) $ fsplit ! $ loose_out S Z LZ ghosts ! v₂ z.0.4.1.0 (λ b' o' h' e' ws' fits'. fsplit ! $
    use1 𝓛 (some (λ (w : Val). ‵ (fat full_share δ b' o' w) ⊛ ‵ (S.own_val v₂.value (w ∷ [])))) (part_out_at 𝓛 S refl full_share v₂.value b' o' δ refl) $ pick ! (λ w. split ! $
    move ! (1 ∷ []) $ drop ! $
    -- [the room; the right to free it; an allocator; nothing; what is owned; an allocator; ..]
    move ! (4 ∷ []) $ fsplit ! $
    regoal ! (λ (us : List Val). prop (WpFn 𝓤 H 𝓣.C 𝓣.Λ fn us Post)) (λ i. ws i ++ (ws' i ++ [])) refl $
    enter ! 𝓣.C 𝓣.Λ fn (pair (vptr b o) h ∷ pair (vptr b' o') h' ∷ []) Post $
    alloc_all ! (λ l. pass_all ! refl (loose_good W Z LZ ghosts b o h fits, (loose_good S Z LZ ghosts b' o' h' fits', tt)) $ let Ev = env fn.locals l in
    sets ! (of_opd ! (get_in ! (fld ! refl (stop !)) (sub ! 0 refl (whole !)))) refl (tt, tt) $
    sets ! (of_opd ! (get_in ! (fld ! refl (stop !)) (sub ! 0 refl (whole !)))) refl (tt, tt) $
    first ! $ blocks ! $ sets_last ! (addr ! (through ! refl (stop !))) refl (tt, tt) $ exec ! 𝓣.C 𝓣.Λ Ev code.Mir.t-4 (at_ret Ev Post) $ sets ! (of_opd ! (get ! refl)) refl (tt, tt) $
    lft_new ! tt (λ α. let T : RattleType = lent_row α in
    move ! (1 ∷ []) $ use1 𝓛 (later (some (λ (γ : ℕ). ‵ ((MutRef (named 0) (α ∷ []) W).own_val (record { ref_ptr = (b, o); ghost_name = γ; now = v₁.value }) (vptr b o ∷ [])) ⊛
    ‵ (flent (α ∷ []) (Body (mem W) b o γ)))))
    (lends_ref 𝓛 W (named 0) (α ∷ []) v₁.value b o) $ await ! tt $ pick ! (λ γ. split ! $
    -- [the loan; its lender's part; α's token; the right to free what is owned; the room; the right to free it; ..]
    let L = Share.left full_share in let R = Share.right full_share in
    move ! (2 ∷ []) $ use1 𝓛 (‵ (flft (α ∷ []) L) ⊛ ‵ (flft (α ∷ []) R)) (𝓛.lfts.lft_cut (α ∷ []) full_share L R (halves full_share)) $ split ! $
    let G = triple_of 𝓛 begin.signature (begin.spec 𝓛 𝓜.mem 𝓡.returns) in
    let y : G.Ghost = (((α ∷ [], tt), (L, tt), tt, (record { ref_ptr = (b, o); ghost_name = γ; now = v₁.value }, tt), (vptr b o ∷ [], tt)), tt) in
    nothing ! $ move ! (3 ∷ 0 ∷ []) $ join ! $ nothing ! $ move ! (2 ∷ 0 ∷ []) $ join ! $ join ! $ nothing ! $ move ! (1 ∷ 0 ∷ []) $ use2 𝓛 (raw (G.pre y)) (id⊢ 𝓤 _) $
    calls_at ! (framed 𝓤 𝓛.H 𝓜 (tables 𝓤 𝓛.H 𝓜 𝓡 𝓡.env)) G (begin_thm.met 𝓤 𝓛 𝓜 𝓡 (code.calls-libjvhost::kept::begin 𝓡.env wired)) y (and_then ! (get ! refl) (no_more !)) (λ u.
    use1 𝓛 (later (some (λ (r : Kept). ((‵ (flft (α ∷ []) L) ⊛ ‵ ftrue) ⊛ ‵ (T.own_val r (u ∷ []))) ⊛
    some (λ (ls : Lasts begin.ended (α ∷ [], tt) y.0.3). ‵ (lasts begin.ended (α ∷ [], tt) y.0.3 ls) ⊛ raw (fact 𝓤 (held_in r ≡ Fresh)))))) (id⊢ 𝓤 _) $
    await ! tt $ pick ! (λ r. split ! $ move ! (1 ∷ []) $ pick ! (λ ls. split ! $ drop ! $ heard ! (held_in r ≡ Fresh) (λ none. split ! $ split ! $
    move ! (0 ∷ 3 ∷ []) $ use2 𝓛 (‵ (flft (α ∷ []) full_share)) (𝓛.lfts.lft_glue (α ∷ []) full_share L R (halves full_share)) $ move ! (2 ∷ []) $
    -- [the host by value; α's token; nothing; the lender's part; the right to free what is owned; the room; the right to free it; ..]
    peeks ! T (Is T) (shows 𝓛 T) r (u ∷ []) (λ is. let good = ((kept_laws.the_row_laws (record { mir = static; lft = α ∷ [] })).lawful 𝓛).typed r (u ∷ []) is in
    lands_as ! refl refl good.0 $
    first ! $ blocks ! $ sets ! (of_opd ! (get ! refl)) refl (tt, tt) $ sets ! (of_opd ! (get ! refl)) refl good.0 $
    assigns_last ! (of_opd ! (get ! refl)) (through ! refl (stop !)) (store ! 5 refl good.0) $ exec ! 𝓣.C 𝓣.Λ Ev code.Mir.t-7 (at_ret Ev Post) $
    sets ! (of_opd ! (get ! refl)) refl (tt, tt) $ sets ! (of_opd ! (get ! refl)) refl (tt, tt) $
    sets ! (of_opd ! (get ! refl)) refl (tt, tt) $ sets ! (of_opd ! (get ! refl)) refl (tt, tt) $
    let p : Ptr = block_ptr b' o' in let q : Ptr = block_ptr b o in
    sets ! (agg ! (and_then ! (get ! refl) (and_then ! (get ! refl) (no_more !)))) refl (owner_good p q) $
    returns ! (look_at ! 0 refl) $ free_all ! refl $
    let End : Held = Fresh in let held : Option (Held) = Some End in let Said : Type 0 = held ≡ held in
    move ! (5 ∷ 0 ∷ []) $ use2 𝓛 (‵ (part_at T full_share r b' o')) (part_in_at 𝓛 T refl full_share r b' o' δ refl u) $
    move ! (0 ∷ 5 ∷ []) $ fjoin ! $ feq_i ! (Held) (held_in r) End none $ fjoin ! $
    fpack ! Kept (λ (w : Kept). fsep (feq (Held) (held_in w) End) (box_owns chunk T p w)) r $
    move ! (3 ∷ 4 ∷ []) $ fjoin ! $ fpack ! ℕ (λ (g : ℕ). fsep (flent (α ∷ []) (Body (mem W) b o g)) (chunk (bare (lone W.mir)) q)) γ $
    move ! (2 ∷ 1 ∷ 0 ∷ []) $ fjoin3 ! $ fpack ! ℕ (λ (a : ℕ). fsep (flft (a ∷ []) full_share) (fsep (holds_kept a p End) (back a q))) α $
    owner_in ! p q held $ use0 𝓛 (raw (fact 𝓤 Said)) (fact_i 𝓤 Said (emp 𝓤) refl) $ nothing ! $ nothing ! $ fjoin ! $ nothing ! $ fjoin ! $
    keep ! (7 ∷ 0 ∷ 2 ∷ 1 ∷ []) $ by ! (leaves 𝓛 ended hs c z (both (vptr b' o') (vptr b o)) (record { kept = p; owned = q; value = held }) (tt, (tt, tt)) (tt, (tt, tt)))))))))))))))
