-- The instructions of a method, listed one after another.
use Rattle.std.proofs.Common.{◌≡◌, ◌≤◌, ℕ, true, List, Option, Some, [], ◌∷◌, ◌++◌, length, map, refl, sym, ap, subst, ◌∙◌, append_assoc, append-nil, arith}
use Rattle.std.specs.Prelude.{nat_le, slice_get, string_bytes}
use Rattle.std.specs.List.{FoldsTo, flat_map}
use Rattle.std.specs.Option.{option_map}
use Rattle.std.proofs.lemmas.Bool.{leb-true}
use Rattle.std.proofs.lemmas.Fn.{chained_keeps}
use Rattle.std.proofs.lemmas.Grind.{flat_map-append}
use Rattle.std.proofs.lemmas.List.Concat.{flat_map-cons}
use Rattle.jv_pool.specs.Constants.{Entry}
use Rattle.jv_class.specs.Class.{Method}
use Rattle.jv_class_structure.specs.Parts.{CodeSeen}
use Rattle.jv_code.specs.Insns.{Instruction, insn_bytes, instruction_of}
use Rattle.jv_code.specs.Places.{IsAt, IsCode, OneAtOffset, StandsInList}
use Rattle.jv_code.proofs.Sizes.{size, size-cons, size-append}
use Rattle.jv_explain.specs.Text.{place_text}
use Rattle.jv_lines.specs.Lines.{line_at}
use Rattle.jv_stackmap.specs.Frames.{PlacedFrame}
use Rattle.jv_meaning_world.specs.World.{Loaded, World}
use Rattle.jv_meaning_world.specs.Verdicts.{declared_by}
use Rattle.jv_meaning_typing.specs.Uses.{Site}
use Rattle.jv_meaning_typing.specs.Environment.{Environment, IsEnvironment, offset_behind}
use Rattle.jv_meaning_typing.specs.Judgement.{WithFrames}
use Rattle.jv_meaning_typing.proofs.Starts.{instruction_at_is, start_within}
use Rattle.jv_verify.specs.Before.{AreFramed, FramesStand, seen_frame}
use Rattle.jv_verify.specs.Frames.{AreFramedIn}
use Rattle.jv_verify.specs.sink.FramedInsn.{FramedInsn}
use Rattle.jv_program_explain.specs.Listing.{AreListed, IsListedTo, Stops, before_text}
use Rattle.jv_program_explain.specs.declared.walk.Listing.{Listing}
use Rattle.jv_program_explain.specs.Inside.Walked.{TakesFramed, framed_text}

-- ---- what a list has

abbrev text_in : Listing → FramedInsn → List ℕ
text_in l f = framed_text l.pool.now (line_at l.lines.now l.method) f

-- all that it took stands at its end
abbrev HasTaken : Listing → List FramedInsn → Listing → Type 0
HasTaken old all new = (new ≡ record old { text = new.text }) × (string_bytes new.text ≡ string_bytes old.text ++ flat_map (text_in old) all)

pub all_taken : (old new : Listing) (all : List FramedInsn) → FoldsTo TakesFramed old all new → HasTaken old all new
all_taken old new all folds = chained_keeps TakesFramed (HasTaken old) one_more all old new (refl, sym (append-nil (string_bytes old.text))) folds
  where
    one_more : (xs : List FramedInsn) (q : Listing) (x : FramedInsn) (v : Listing) → HasTaken old xs q → TakesFramed q x v → HasTaken old (xs ++ x ∷ []) v
    one_more xs q x v (same, text) (changed, appended) = (
      changed ∙ ap (λ (l : Listing). record l { text = v.text }) same,
      appended
          ∙ (ap (λ (l : Listing). string_bytes q.text ++ text_in l x) same
          ∙ (ap (λ (t : List ℕ). t ++ text_in old x) text
          ∙ (append_assoc (string_bytes old.text) (flat_map (text_in old) xs) (text_in old x)
          ∙ ap (λ (t : List ℕ). string_bytes old.text ++ t)
          (ap (λ (t : List ℕ). flat_map (text_in old) xs ++ t) (sym (append-nil (text_in old x))) ∙ sym (flat_map-append (text_in old) xs (x ∷ [])))))),
    )

-- ---- the instructions that it took

abbrev insn_of : FramedInsn → Instruction
insn_of f = instruction_of f.insn

module _ (world : World) (site : Site) (line : ℕ → Option ℕ) (P : Environment → List PlacedFrame → Type 0) (w : WithFrames world site P) where
  with_these : (Q : Environment → List PlacedFrame → Type 0) → Q w.env w.maps → WithFrames world site Q
  with_these Q holds = record {
    env = w.env;
    world_is = w.world_is;
    site_is = w.site_is;
    code = w.code;
    handlers = w.handlers;
    maps = w.maps;
    frames = w.frames;
    holds = holds;
  }

  listed_from : (pool : List Entry) → pool ≡ site.by.class.constant_pool → (pc stop : ℕ) (all : List FramedInsn) → AreFramed w.env w.maps pc stop all
      → AreListed world site line pc (map insn_of all) (flat_map (framed_text pool line) all)
  listed_from pool e pc stop [] h = refl
  listed_from pool e pc stop (f ∷ all) (at, starts, stand, more) =
      let falling = option_map seen_frame f.falling in
      let there = option_map seen_frame f.map in (
        framed_text pool line f,
        flat_map (framed_text pool line) all,
        record {
          falling = falling;
          map = there;
          before = with_these (λ env maps. FramesStand env maps pc falling there) stand;
          told =
              ap (λ (p : List Entry). place_text p f.offset (line f.offset) (insn_of f) ++ before_text falling there) e
              ∙ ap (λ (n : ℕ). place_text site.by.class.constant_pool n (line n) (insn_of f) ++ before_text falling there) at;
        },
        listed_from pool e (offset_behind pc (insn_of f)) stop all more,
        flat_map-cons (framed_text pool line) f all,
      )

-- behind some instructions of the code are these
record Follow (pre rest : List Instruction) (stop : ℕ) (all : List FramedInsn) : Type 0 where
  after : List Instruction
  rest_is : rest ≡ map insn_of all ++ after
  stop_is : stop ≡ size (pre ++ map insn_of all)

module _ (stands : StandsInList) (one : OneAtOffset) (env : Environment) (is : IsEnvironment env) (maps : List PlacedFrame) where
  follow : (pre rest : List Instruction) → IsCode env.code.code (pre ++ rest) → (pc stop : ℕ) (all : List FramedInsn) → pc ≡ size pre → AreFramed env maps pc stop all
      → Follow pre rest stop all
  follow pre rest code pc stop [] place h = record { after = rest; rest_is = refl; stop_is = sym h ∙ (place ∙ ap size (sym (append-nil pre))) }
  follow pre [] code pc stop (f ∷ all) place (at, starts, stand, more) =
      let within = start_within env pc (insn_of f) is starts in
      let whole : length env.code.code ≡ size pre = ap length code.spelled ∙ ap size (append-nil pre) in
      absurd (omega (arith, within, whole, place))
  follow pre (i ∷ rest) code pc stop (f ∷ all) place (at, starts, stand, more) =
      let there : IsAt env.code.code pc (insn_of f) = (instruction_at_is stands env pc (insn_of f) is).1 starts in
      let mine : IsAt env.code.code pc i = record { before = pre; after = rest; code = code; place = place } in
      let same : i ≡ insn_of f = one env.code.code pc i (insn_of f) mine there in
      let sizes = size-append pre (i ∷ []) in
      let last = size-cons i [] in
      let none : size [] ≡ 0 = refl in
      let bytes = ap (λ (x : Instruction). length (insn_bytes x)) same in
      let next : offset_behind pc (insn_of f) ≡ size (pre ++ i ∷ []) = omega (arith, place, sizes, last, none, bytes) in
      let joined = subst (λ (l : List Instruction). IsCode env.code.code l) (sym (append_assoc pre (i ∷ []) rest)) code in
      let again = follow (pre ++ i ∷ []) rest joined (offset_behind pc (insn_of f)) stop all next more in
      record {
        after = again.after;
        rest_is = ap (λ (l : List Instruction). i ∷ l) again.rest_is ∙ ap (λ (x : Instruction). x ∷ (map insn_of all ++ again.after)) same;
        stop_is = again.stop_is ∙ ap size (append_assoc pre (i ∷ []) (map insn_of all) ∙ ap (λ (x : Instruction). pre ++ x ∷ map insn_of all) same);
      }

pub list_whole : StandsInList → OneAtOffset → (world : World) (l : Loaded) (number stop end : ℕ) (all : List FramedInsn) → AreFramedIn world l number stop all → (m : Method) (body : CodeSeen)
    → slice_get l.class.methods number ≡ Some m → m.code ≡ Some body → (line : ℕ → Option ℕ) (pool : List Entry) → pool ≡ l.class.constant_pool → (listing behind text : List ℕ)
    → listing ≡ flat_map (framed_text pool line) all → Stops listing stop end behind → text ≡ listing ++ behind → IsListedTo world (declared_by l m) line body.code end text
list_whole stands one world l number stop end all framed m body at has line pool pool_is listing behind text e stops told =
    let both : Some framed.method ≡ Some m = sym framed.at ∙ at in
    let same : framed.method ≡ m = cc in
    let Framed : Environment → List PlacedFrame → Type 0 = λ env maps. AreFramed env maps 0 stop all in
    let w : WithFrames world (declared_by l m) Framed = subst (λ (x : Method). WithFrames world (declared_by l x) Framed) same framed.holds in
    let here : Some w.env.code ≡ Some body = sym w.code.is.code ∙ (ap (λ (s : Site). s.method.code) w.site_is ∙ has) in
    let code_is : w.env.code ≡ body = cc in
    let bytes : w.env.code.code ≡ body.code = ap (λ (b : CodeSeen). b.code) code_is in
    let rest = follow stands one w.env w.code.is w.maps [] w.env.instructions w.code.is.instructions 0 stop all refl w.holds in
    record {
      before = map insn_of all;
      after = rest.after;
      is =
          subst (λ (b : List ℕ). IsCode b (map insn_of all ++ rest.after)) bytes
          (subst (λ (l : List Instruction). IsCode w.env.code.code l) rest.rest_is w.code.is.instructions);
      listing = listing;
      listed =
          subst (λ (t : List ℕ). AreListed world (declared_by l m) line 0 (map insn_of all) t) (sym e)
          (listed_from world (declared_by l m) line Framed w pool pool_is 0 stop all w.holds);
      behind = behind;
      stops = subst (λ (n : ℕ). Stops listing n end behind) rest.stop_is stops;
      told = told;
    }

pub is_long : (n : ℕ) → nat_le 1048576 n ≡ true → 1048576 ≤ n
is_long n e = leb-true 1048576 n e
