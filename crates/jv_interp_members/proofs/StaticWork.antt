-- Calls of a class's methods in words: what the machine does stands afterwards.
use Rattle.std.proofs.Common.{◌≡◌, ℕ, ◌+◌, ◌<◌, ◌≤◌, ℤ, Bool, true, false, ◌&&◌, List, ◌∷◌, ◌++◌, Some, None, Ok, length, map, reverse, sym, ap, subst, ◌∙◌, arith, slice_get}
use Rattle.std.specs.Prelude.{if◌then◌else◌}
use Rattle.std.specs.List.{flat_map}
use Rattle.jv_text.specs.Descriptor.{MethodDescriptor, slots}
use Rattle.jv_stackmap.specs.Types.{value_type}
use Rattle.jv_meaning_world.specs.World.{Loaded, World, loaded}
use Rattle.jv_meaning_world.specs.System.Io.{io}
use Rattle.jv_meaning_world.specs.Overriding.{Declared}
use Rattle.jv_lookups.specs.Places.{method_at}
use Rattle.jv_meaning_typing.specs.Uses.Use.{Invokestatic}
use Rattle.jv_meaning_typing.specs.MethodResolution.{target}
use Rattle.jv_meaning_typing.specs.Selection.{select}
use Rattle.jv_meaning_typing.specs.LinkingLaws.{MethodIsCalled}
use Rattle.jv_link.specs.declared.site.Use.TheVariants as uses
use Rattle.jv_link_cache.specs.declared.method_use.MethodUse.{MethodUse}
use Rattle.jv_link_cache.specs.MethodUses.{IsMethodUse}
use Rattle.jv_link_cache.proofs.Eachwise.{within_list}
use Rattle.jv_meaning_machine.specs.Faults.{◌>>=◌}
use Rattle.jv_meaning_machine.specs.Values.{Value}
use Rattle.jv_meaning_machine.specs.Frames.{local_words}
use Rattle.jv_meaning_machine.specs.State.{Memory, class_state, is_ready}
use Rattle.jv_meaning_machine.specs.Operands.{taken}
use Rattle.jv_meaning_machine.specs.Arithmetic.{one, two, none, as_int}
use Rattle.jv_meaning_machine.specs.Effects.{Effect, Context, Outcome, world_at, site_at, unless_error}
use Rattle.jv_meaning_machine.specs.Effects.Effect.{Enters, Begins}
use Rattle.jv_meaning_machine.specs.Calls.{HostMethod, call, call_static, run_static, run_built_in, is_built_in, write, read, class_name, array_like}
use Rattle.jv_meaning_machine.specs.Calls.HostMethod.{Read, Write, ClassName, ArrayLike}
use Rattle.jv_interp_words.specs.FramesInWords.{in_use, methods_of}
use Rattle.jv_interp_words.proofs.Gave.{bound_gave, one_gave, two_gave, int_gave, none_gave}
use Rattle.jv_interp_held.specs.declared.effect.Effect.TheVariants as effects
use Rattle.jv_interp_held.specs.Executing.{Place, Executes, Did}
use Rattle.jv_interp_members.specs.Known.{Known}
use Rattle.jv_interp_members.specs.Resolved.{IsResolved}
use Rattle.jv_interp_members.specs.Calling.{Calling, RunsOnTwo}
use Rattle.jv_interp_heap.specs.SystemNumbers.{IsGuestsWorld}
use Rattle.jv_interp_held.specs.Host.{Writing, Reading}
use Rattle.jv_interp_members.proofs.Sites.{some_same, AtPlace, at_place}
use Rattle.jv_interp_held.proofs.Entered.{done_same}
use Rattle.jv_interp_members.proofs.Called.{Passed, passed}
use Rattle.jv_interp_members.proofs.Arguments.{OnFrame, on_frame}
use Rattle.jv_interp_held.proofs.Entered.{left_within, entered, begun}
use Rattle.jv_interp_members.proofs.HostMethods.{io_at, other_class, method_there, there_is, else_read}
use Rattle.jv_interp_members.proofs.AtSite.{it, Found, found, few_words}

module _ (index next : ℕ) (k : Known) (here : Place) (texts : List (List ℕ)) (c : Context) (addresses : List ℕ) (done : Memory × Effect) (below : List ℕ)
    (h : Calling uses.Invokestatic index next k here texts c addresses done below) (law : MethodIsCalled) (using_it : MethodUse)
    (resolved : IsResolved k.world k.site uses.Invokestatic index (Ok using_it)) (use_of : IsMethodUse k.world using_it) where
  abbrev part : Context → Outcome
  part = λ c. call c Invokestatic index

  pub f : Found uses.Invokestatic index next k here texts c addresses done below h using_it
  f = found uses.Invokestatic index next k here texts c addresses done below h law using_it resolved use_of

  abbrev descriptor : MethodDescriptor
  descriptor = (it uses.Invokestatic index next k here texts c addresses done below h).descriptor

  pub at : AtPlace k.world using_it.target.declared f.target.declared
  at = at_place k.world using_it.target.declared f.target.declared f.at_known

  pub few_classes : using_it.target.declared.class < 2147483648
  few_classes = let a = within_list k.world using_it.target.declared.class f.target.declared.by at.class in let b = h.known.few in omega (arith, a, b)

  -- ---- its class is to be initialized

  pub begins : is_ready (class_state c.states f.target.declared.by) ≡ false → Did texts here (effects.Begins using_it.target.declared.class) c addresses done below
  begins other =
      begun part texts next here c addresses done below h.executes f.target.declared.by using_it.target.declared.class
      (done_same (c.memory, Begins f.target.declared.by) done
      (subst (λ (b : Bool). (if b then call_static c descriptor f.target else Ok (c.memory, Begins f.target.declared.by)) ≡ Ok done) other f.does))
      (subst (λ (w : World). slice_get w using_it.target.declared.class ≡ Some f.target.declared.by) (sym h.known.world) at.class)

  -- ---- it is ready

  module _ (ready : is_ready (class_state c.states f.target.declared.by) ≡ true) where
    pub record Runs : Type 0 where
      pub arguments : List Value
      pub rest : List Value
      pub passed : Passed c descriptor arguments rest
      pub runs : run_static c arguments rest f.target (is_built_in f.target.declared) ≡ Ok done

    pub runs : Runs
    runs =
        let does : call_static c descriptor f.target ≡ Ok done =
        subst (λ (b : Bool). (if b then call_static c descriptor f.target else Ok (c.memory, Begins f.target.declared.by)) ≡ Ok done) ready f.does in
        let arguments =
        bound_gave (taken c.memory.objects (map value_type descriptor.parameters) c.frame.stack)
        (λ (a : List Value × List Value).
        unless_error c (select (world_at c) (site_at c) Invokestatic f.target None) (λ t. run_static c a.0 a.1 t (is_built_in t.declared))) done does in
        record { arguments = arguments.0.0; rest = arguments.0.1; passed = passed c descriptor arguments.0 arguments.1; runs = arguments.2 }

    pub words : OnFrame addresses c.frame.locals runs.arguments runs.rest (in_use here.words here.at.top) below
    words = on_frame addresses c.frame.locals c.frame.stack runs.arguments runs.rest (in_use here.words here.at.top) below h.executes.frame runs.passed.stood

    pub count_is : using_it.argument_words ≡ length (flat_map local_words runs.arguments)
    count_is =
        let own = f.count in
        let static = ap (λ (b : Bool). (if b then 0 else 1) + slots descriptor) f.called_so.kind in
        let width = runs.passed.width in
        omega (arith, own, static, width)

    pub few : using_it.argument_words ≤ 255
    few =
        let n = count_is in
        let w = runs.passed.width in
        let most = few_words uses.Invokestatic index next k here texts c addresses done below h in
        omega (arith, n, w, most)

    -- ---- a method with code

    plain : (using_it.target.declared.class ≡ 32 → ⊥) → is_built_in f.target.declared ≡ false
    plain other =
        other_class h.known.guests.given h.known.guests.contents using_it.target.declared.class f.target.declared.by
        (subst (λ (w : World). slice_get w using_it.target.declared.class ≡ Some f.target.declared.by) h.known.guests.world_is at.class) other

    pub enters :
        (using_it.target.declared.class ≡ 32 → ⊥) → (number : ℕ)
        → ((d : Declared) → method_at k.world using_it.target.declared ≡ Some d → slice_get (methods_of k.world) number ≡ Some d)
        → Did texts here (effects.Enters number using_it.argument_words) c addresses done below
    enters other number numbers =
        entered part texts next here c addresses done below h.executes f.target.declared None runs.arguments runs.rest number using_it.argument_words
        (done_same (c.memory, Enters f.target.declared None runs.arguments runs.rest) done
        (subst (λ (b : Bool). run_static c runs.arguments runs.rest f.target b ≡ Ok done) (plain other) runs.runs))
        (record {
          has_number =
              subst (λ (w : World). slice_get (methods_of w) number ≡ Some f.target.declared) (sym h.known.world)
              (numbers f.target.declared f.at_known);
          words_are = count_is;
          under = words.under;
          on_top = words.on_top;
          left = words.left;
          no_more = left_within (reverse runs.arguments) runs.rest c.frame.stack runs.passed.stood;
        })

    -- ---- host/Io's

    module _ (class_is : using_it.target.declared.class ≡ 32) where
      by_is : f.target.declared.by ≡ loaded true io
      by_is =
          sym (some_same (loaded true io) f.target.declared.by
          (sym (io_at h.known.guests.given h.known.guests.contents)
          ∙ subst (λ (w : World). slice_get w 32 ≡ Some f.target.declared.by) h.known.guests.world_is
          (subst (λ (n : ℕ). slice_get k.world n ≡ Some f.target.declared.by) class_is at.class)))

      member_is : slice_get io.methods using_it.target.declared.member ≡ Some f.target.declared.method
      member_is = subst (λ (l : Loaded). slice_get l.class.methods using_it.target.declared.member ≡ Some f.target.declared.method) by_is at.member

      built_in : (method : HostMethod) → method_there using_it.target.declared.member ≡ method → run_built_in c method runs.arguments runs.rest ≡ Ok done
      built_in method is =
          subst (λ (m : HostMethod). run_built_in c m runs.arguments runs.rest ≡ Ok done)
          (there_is using_it.target.declared.member f.target.declared.method member_is ∙ is)
          (subst (λ (b : Bool). run_static c runs.arguments runs.rest f.target b ≡ Ok done)
          (ap (λ (l : Loaded). l.by_system && Rattle.std.specs.Str.bytes_eq l.class.name (Rattle.std.specs.Prelude.codes "host/Io")) by_is) runs.runs)

      executed : (q : Context → Outcome) → q c ≡ Ok done → Executes q texts next here c addresses done below
      executed q does =
          record {
            does = does;
            frame = h.executes.frame;
            memory = h.executes.memory;
            base_is = h.executes.base_is;
            pc_is = h.executes.pc_is;
            next_is = h.executes.next_is;
            top_within = h.executes.top_within;
          }

      pub record Writes : Type 0 where
        pub number : ℤ
        pub rest : List Value
        pub writing : Writing next here texts c number rest addresses done below

      pub writes : using_it.target.declared.member ≡ 1 → Writes
      writes is =
          let number = bound_gave (one runs.arguments >>= as_int) (λ (n : ℤ). write c n runs.rest) done (built_in Write (ap method_there is)) in
          let value = bound_gave (one runs.arguments) as_int number.0 number.1 in
          record {
            number = number.0;
            rest = runs.rest;
            writing =
                record {
                  executes = executed (λ c. write c number.0 runs.rest) number.2;
                  stack =
                      runs.passed.stood
                      ∙ ap (λ (l : List Value). reverse l ++ runs.rest) (one_gave runs.arguments value.0 value.1)
                      ∙ ap (λ (v : Value). v ∷ runs.rest) (int_gave value.0 number.0 value.2);
                };
          }

      pub reads :
          (using_it.target.declared.member ≡ 1 → ⊥) → (using_it.target.declared.member ≡ 2 → ⊥) → (using_it.target.declared.member ≡ 3 → ⊥)
          → Reading next here texts c addresses done below
      reads write name like =
          let does = built_in Read (else_read using_it.target.declared.member write name like) in
          let rest = bound_gave (none runs.rest runs.arguments) (λ (b : List Value). read c b c.memory.input) done does in
          let nothing = none_gave runs.rest rest.0 runs.arguments rest.1 in
          let stack : c.frame.stack ≡ rest.0 =
          runs.passed.stood ∙ ap (λ (l : List Value). reverse l ++ runs.rest) nothing.0 ∙ nothing.1 in
          record {
            executes =
                executed (λ c. read c c.frame.stack c.memory.input)
                (subst (λ (l : List Value). read c l c.memory.input ≡ Ok done) (sym stack) rest.2);
          }

      -- one of two arguments, by what it does with them
      on_two :
          (part : Context → ℤ → List Value → Value → Outcome)
          → (two runs.arguments >>= λ both. as_int both.1 >>= λ number. part c number runs.rest both.0) ≡ Ok done
          → RunsOnTwo part next texts here c addresses done below
      on_two part does =
          let both =
          bound_gave (two runs.arguments) (λ (b : Value × Value). as_int b.1 >>= λ number. part c number runs.rest b.0) done does in
          let number = bound_gave (as_int both.0.1) (λ (n : ℤ). part c n runs.rest both.0.0) done both.2 in
          record {
            number = number.0;
            value = both.0.0;
            rest = runs.rest;
            running =
                record {
                  executes = executed (λ c. part c number.0 runs.rest both.0.0) number.2;
                  stack =
                      runs.passed.stood
                      ∙ ap (λ (l : List Value). reverse l ++ runs.rest) (two_gave runs.arguments both.0 both.1)
                      ∙ ap (λ (v : Value). v ∷ both.0.0 ∷ runs.rest) (int_gave both.0.1 number.0 number.1);
                  guests = subst (λ (w : World). IsGuestsWorld w) (sym h.known.world) h.known.guests;
                };
          }

      pub names : using_it.target.declared.member ≡ 2 → RunsOnTwo class_name next texts here c addresses done below
      names is = on_two class_name (built_in ClassName (ap method_there is))

      pub likes : using_it.target.declared.member ≡ 3 → RunsOnTwo array_like next texts here c addresses done below
      likes is = on_two array_like (built_in ArrayLike (ap method_there is))
