use Rattle.std.proofs.Common.{ℕ, ◌≡◌, ◌<◌, ◌≤◌, ◌-◌, get_or, length, refl, sym, subst}
use Rattle.std.specs.Int.{w32, cast_signed}
use Rattle.jv_meaning_world.specs.World.{World}
use Rattle.jv_meaning_world.specs.Numbers.{HoldsAtNumber}
use Rattle.jv_meaning_machine.specs.Calls.{byte_in}
use Rattle.jv_interp_held.specs.Executing.{place}
use Rattle.jv_interp_objects.proofs.HostObjects.{raises, named, block_length, goes_by, first_within}
use Rattle.jv_interp_objects.proofs.host_objects.class_name.Goals as goal

pub returns-then-object-eq0-clause-names : goal.returns-then-object-eq0-clause-names
returns-then-object-eq0-clause-names g c = λ texts x number value rest addresses done below h world_is.
    let here = place c.args.at.now c.args.words.now c.args.held.now (g.S.Store.content c.args.store.now) in
    raises c.args.next here texts x number value rest addresses done below h c.if-object-eq0.true

pub get-word-requires : goal.get-word-requires
get-word-requires g c =
    let here = place c.args.at.now c.args.words.now c.args.held.now (g.S.Store.content c.args.store.now) in
    let q = c.requires in
    block_length c.args.next here q.texts q.c q.number q.value q.rest q.addresses q.done q.below q.runs
    (named c.args.next here q.texts q.c q.number q.value q.rest q.addresses q.done q.below q.runs c.if-object-eq0.false)

pub name_byte-requires : goal.name_byte-requires
name_byte-requires g c =
    let here = place c.args.at.now c.args.words.now c.args.held.now (g.S.Store.content c.args.store.now) in
    let q = c.requires in
    let m = named c.args.next here q.texts q.c q.number q.value q.rest q.addresses q.done q.below q.runs c.if-object-eq0.false in
    record {
      there =
          subst (λ (w : World). c.get-word.result < 2147483648 → c.get-word.result < length w) q.world_is
          (subst (λ (n : ℕ). n < 2147483648 → n < length q.c.program.world) (sym c.get-word.ensures)
          (first_within c.args.next here q.texts q.c q.number q.value q.rest q.addresses q.done q.below q.runs m));
    }

pub returns-clause-names : goal.returns-clause-names
returns-clause-names g c = λ texts x number value rest addresses done below h world_is.
    let here = place c.args.at.now c.args.words.now c.args.held.now (g.S.Store.content c.args.store.now) in
    let m = named c.args.next here texts x number value rest addresses done below h c.if-object-eq0.false in
    let place_word = get_or c.args.words.now (c.args.at.now.top - 1) 0 in
    goes_by c.args.next here texts x number value rest addresses done below h m c.name_byte.result
    (subst (λ (n : ℕ). n < 2147483648 → HoldsAtNumber x.program.world n
    (λ l. cast_signed w32 c.name_byte.result ≡ byte_in l.class.name (cast_signed w32 place_word))) c.get-word.ensures
    (subst (λ (w : World). c.get-word.result < 2147483648 → HoldsAtNumber w c.get-word.result
    (λ l. cast_signed w32 c.name_byte.result ≡ byte_in l.class.name (cast_signed w32 place_word))) (sym world_is) c.name_byte.ensures.named))
    (subst (λ (n : ℕ). 2147483648 ≤ n → c.name_byte.result ≡ 4294967295) c.get-word.ensures c.name_byte.ensures.nameless) _ refl refl
