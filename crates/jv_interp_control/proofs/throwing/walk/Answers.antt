use Rattle.std.proofs.Common.{◌≡◌, ℕ, ◌+◌, Bool, true, false, None, length, refl, sym, ap, subst, ◌∙◌, arith}
use Rattle.jv_interp_words.specs.declared.records.FrameRecord.TheVariants as records
use Rattle.jv_interp_held.specs.declared.held.Held.{Held}
use Rattle.jv_interp_control.specs.declared.throwing.Thrown.{Thrown}
use Rattle.jv_interp_control.specs.Inside.Walking.{OnTheWay, Landed}
use Rattle.jv_interp_control.proofs.Walks.{turned_at, begun, handling, passes_method, behind_it, passes_initialization, lands_here, lands_nowhere}
use Rattle.jv_interp_control.proofs.throwing.walk.Goals as goal
use Rattle.jv_interp_control.proofs.throwing.walk.Goals.{in-Runs+in_default, in-Initializes+in_ok-now-in-Initializes}

pub loop-passed-init : goal.loop-passed-init
loop-passed-init g c =
    record {
      walked = λ program texts frames used t goes_to addresses h.
          begun c.args.classes.now.world c.args.records.now program texts frames used t goes_to addresses c.args.thrown c.args.held.now (g.S.Store.content c.args.store.now) h;
      known = λ made. absurd (clash (sym c.requires.not_made ∙ made));
      held_stays = λ same. refl;
      blocks_stay = λ same. refl;
      held_is = refl;
      fewer = omega arith;
      room_is = refl;
    }
  where
    clash : false ≡ true → ⊥
    clash e = cc

pub offset_bounds-records-records : goal.offset_bounds-records-records
offset_bounds-records-records g c = let a = c.requires.count in record { fits = omega (arith, a) }

pub handler_of-requires-clause-can : goal.handler_of-requires-clause-can
handler_of-requires-clause-can g c =
    let w = c.requires.can in
    let walked = c.loop-passed.invariant.walked w.program w.texts w.frames w.used w.t w.goes_to w.addresses w.walking in
    let low = c.loop-passed-test.true in
    let at = turned_at c.args.records.now c.loop-passed.passed (records.Runs c.in-Runs.own) _ low c.in-Runs.is in
    record {
      program = w.program;
      addresses = w.addresses;
      frame = _;
      used = _;
      below = _;
      name = _;
      handling =
          handling c.args.classes.now.world c.args.records.now w.program w.texts w.frames w.used w.t w.goes_to w.addresses c.args.thrown c.args.held.now
          (g.S.Store.content c.args.store.now) w.walking c.loop-passed.passed c.loop-passed.now c.loop-passed.held (g.S.Store.content c.loop-passed.store) walked c.in-Runs.own at;
    }

pub returns-in-Some-clause-lands : goal.returns-in-Some-clause-lands
returns-in-Some-clause-lands g c = λ program texts frames used t goes_to addresses h.
    let walked = c.loop-passed.invariant.walked program texts frames used t goes_to addresses h in
    let low = c.loop-passed-test.true in
    let at = turned_at c.args.records.now c.loop-passed.passed (records.Runs c.in-Runs.own) _ low c.in-Runs.is in
    let here =
    handling c.args.classes.now.world c.args.records.now program texts frames used t goes_to addresses c.args.thrown c.args.held.now
    (g.S.Store.content c.args.store.now) h c.loop-passed.passed c.loop-passed.now c.loop-passed.held (g.S.Store.content c.loop-passed.store) walked c.in-Runs.own at in
    lands_here c.args.classes.now.world c.args.records.now program texts frames used t goes_to addresses c.args.thrown c.args.held.now
    (g.S.Store.content c.args.store.now) h c.loop-passed.passed c.loop-passed.now c.loop-passed.held (g.S.Store.content c.loop-passed.store) walked c.in-Runs.own at c.in-Some.pc
    (sym c.in-Some.is ∙ c.handler_of.ensures program addresses _ _ _ walked.now.class here)

pub replaced-requires-clause-can : goal.replaced-requires-clause-can
replaced-requires-clause-can g c =
    let w = c.requires.can in
    let walked = c.loop-passed.invariant.walked w.program w.texts w.frames w.used w.t w.goes_to w.addresses w.walking in
    let low = c.loop-passed-test.true in
    let at = turned_at c.args.records.now c.loop-passed.passed (records.Initializes c.in-Initializes._own) _ low c.in-Initializes.is in
    let b =
    behind_it c.args.classes.now.world c.args.records.now w.program w.texts w.frames w.used w.t w.goes_to w.addresses c.args.thrown c.args.held.now
    (g.S.Store.content c.args.store.now) w.walking c.loop-passed.passed c.loop-passed.now c.loop-passed.held (g.S.Store.content c.loop-passed.store) walked c.in-Initializes._own at in
    record { program = w.program; texts = w.texts; t = _; below = _; behind = b.behind; addresses = _; replacing = b.replacing }

pub returns-clause-lands : goal.returns-clause-lands
returns-clause-lands g c = λ program texts frames used t goes_to addresses h.
    let walked = c.loop-passed.invariant.walked program texts frames used t goes_to addresses h in
    let end : c.loop-passed.passed ≡ length c.args.records.now = let a = c.loop-passed-test.false in let b = c.loop-passed.auto.passed-end in omega (arith, a, b) in
    subst (λ (n : ℕ). Landed program texts frames t goes_to addresses (g.S.Store.content c.args.store.now)
    (record { passed = n; handler = None; thrown = c.loop-passed.now }) c.loop-passed.held (g.S.Store.content c.loop-passed.store)) end
    (lands_nowhere c.args.classes.now.world c.args.records.now program texts frames used t goes_to addresses c.args.thrown c.args.held.now
    (g.S.Store.content c.args.store.now) h c.loop-passed.passed c.loop-passed.now c.loop-passed.held (g.S.Store.content c.loop-passed.store) walked end)

unmade : (a b : Bool) → (a ≡ true → b ≡ true) → b ≡ false → a ≡ false
unmade true b h e = sym (h refl) ∙ e
unmade false b h e = refl

pub loop-passed-preserved : goal.loop-passed-preserved
loop-passed-preserved g c =
    let world = c.args.classes.now.world in
    let all = c.args.records.now in
    let blocks = g.S.Store.content c.args.store.now in
    let room = g.S.Store.room_left c.args.store.now in
    let k = c.loop-passed.passed in
    let inv = c.loop-passed.invariant in
    let low = c.loop-passed-test.true in
    elim c.match-records-passed.branch [
      | in-Runs+in_default w ↦
          subst (λ (now : Thrown). OnTheWay world all c.args.thrown c.args.held.now blocks room (k + 1) now c.match-records-passed.held
          (g.S.Store.content c.match-records-passed.store) (g.S.Store.room_left c.match-records-passed.store)) (sym w.now-is)
          (subst (λ (held : Held). OnTheWay world all c.args.thrown c.args.held.now blocks room (k + 1) c.loop-passed.now held
          (g.S.Store.content c.match-records-passed.store) (g.S.Store.room_left c.match-records-passed.store)) (sym w.held-is)
          (subst (λ store. OnTheWay world all c.args.thrown c.args.held.now blocks room (k + 1) c.loop-passed.now c.loop-passed.held
          (g.S.Store.content store) (g.S.Store.room_left store)) (sym w.store-is)
          (record {
            walked =
                λ program texts frames used t goes_to addresses h.
                let walked = inv.walked program texts frames used t goes_to addresses h in
                let at = turned_at all k (records.Runs w.in-Runs.own) _ low w.in-Runs.is in
                let here = handling world all program texts frames used t goes_to addresses c.args.thrown c.args.held.now blocks h k c.loop-passed.now
                c.loop-passed.held (g.S.Store.content c.loop-passed.store) walked w.in-Runs.own at in
                passes_method world all program texts frames used t goes_to addresses c.args.thrown c.args.held.now blocks h k c.loop-passed.now
                c.loop-passed.held (g.S.Store.content c.loop-passed.store) walked w.in-Runs.own at
                (sym w.in_default.is ∙ w.handler_of.ensures program addresses _ _ _ walked.now.class here);
            known = inv.known;
            held_stays = inv.held_stays;
            blocks_stay = inv.blocks_stay;
            held_is = inv.held_is;
            fewer = inv.fewer;
            room_is = inv.room_is;
          })))
      | in-Initializes+in_ok-now-in-Initializes w ↦
          let next = w.in_ok-now-in-Initializes.now in
          let e = w.in_ok-now-in-Initializes.ensures {u = tt} in
          subst (λ (now : Thrown). OnTheWay world all c.args.thrown c.args.held.now blocks room (k + 1) now c.match-records-passed.held
          (g.S.Store.content c.match-records-passed.store) (g.S.Store.room_left c.match-records-passed.store)) (sym w.now-is)
          (subst (λ (held : Held). OnTheWay world all c.args.thrown c.args.held.now blocks room (k + 1) next held
          (g.S.Store.content c.match-records-passed.store) (g.S.Store.room_left c.match-records-passed.store)) (sym w.held-is)
          (subst (λ store. OnTheWay world all c.args.thrown c.args.held.now blocks room (k + 1) next w.replaced.new.held (g.S.Store.content store) (g.S.Store.room_left store)) (sym w.store-is)
          (record {
            walked =
                λ program texts frames used t goes_to addresses h.
                let walked = inv.walked program texts frames used t goes_to addresses h in
                let at = turned_at all k (records.Initializes w.in-Initializes._own) _ low w.in-Initializes.is in
                let b = behind_it world all program texts frames used t goes_to addresses c.args.thrown c.args.held.now blocks h k c.loop-passed.now
                c.loop-passed.held (g.S.Store.content c.loop-passed.store) walked w.in-Initializes._own at in
                passes_initialization world all program texts frames used t goes_to addresses c.args.thrown c.args.held.now blocks h k
                c.loop-passed.now c.loop-passed.held (g.S.Store.content c.loop-passed.store) walked w.in-Initializes._own at
                next w.replaced.new.held (g.S.Store.content w.replaced.new.store) (e.replaced program texts _ _ b.behind _ b.replacing);
            known = e.known;
            held_stays =
                λ un. let before = unmade c.loop-passed.now.made next.made e.stays.made_stays un in e.stays.held_stays (un ∙ sym before) ∙ inv.held_stays before;
            blocks_stay =
                λ un. let before = unmade c.loop-passed.now.made next.made e.stays.made_stays un in e.stays.blocks_stay (un ∙ sym before) ∙ inv.blocks_stay before;
            held_is = e.held ∙ ap (λ (h : Held). record h { cells = w.replaced.new.held.cells }) inv.held_is;
            fewer = let a = e.fewer in let b = inv.fewer in omega (arith, a, b);
            room_is = let a = e.room in let b = inv.room_is in omega (arith, a, b);
          })))
    ]
