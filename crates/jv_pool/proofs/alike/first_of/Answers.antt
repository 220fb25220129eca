use Rattle.std.proofs.Common.{◌≡◌, ◌∙◌, Some, None, sym}
use Rattle.std.proofs.lemmas.Map.Text.{btree_map_updates_str}
use Rattle.jv_pool.specs.Constants.{utf8_at}
use Rattle.jv_pool.specs.Inside.Alike.{first_in}
use Rattle.jv_pool.proofs.Firsts.{alike_from, firsts_back, firsts_new}
use Rattle.jv_pool.proofs.alike.first_of.Goals as goal

pub returns-in_default-2-clause-alike : goal.returns-in_default-2-clause-alike
returns-in_default-2-clause-alike c =
    let here : utf8_at c.args.table.now c.args.index ≡ Some c.in-Some.text.now = sym c.in-Some.ensures in
    let none : first_in c.args.firsts.now c.in-Some.text.now ≡ None = sym c.in_ok-first.ensures.old ∙ c.in_default-2.is in
    alike_from c.args.table.now c.args.index c.in-Some.text.now c.args.index here
    (firsts_new c.args.table.now c.args.index c.args.firsts.now c.insert.new.self c.in-Some.text.now here none
    (btree_map_updates_str c.in-Some.text.now c.args.firsts.now c.insert.new.self (Some c.args.index) c.in_ok-first.ensures.updates) c.requires).0

pub returns-in_default-2-clause-firsts : goal.returns-in_default-2-clause-firsts
returns-in_default-2-clause-firsts c =
    let here : utf8_at c.args.table.now c.args.index ≡ Some c.in-Some.text.now = sym c.in-Some.ensures in
    let none : first_in c.args.firsts.now c.in-Some.text.now ≡ None = sym c.in_ok-first.ensures.old ∙ c.in_default-2.is in
    (firsts_new c.args.table.now c.args.index c.args.firsts.now c.insert.new.self c.in-Some.text.now here none
    (btree_map_updates_str c.in-Some.text.now c.args.firsts.now c.insert.new.self (Some c.args.index) c.in_ok-first.ensures.updates) c.requires).1

pub returns-clause-alike : goal.returns-clause-alike
returns-clause-alike c =
    let here : utf8_at c.args.table.now c.args.index ≡ Some c.in-Some.text.now = sym c.in-Some.ensures in
    let found : first_in c.args.firsts.now c.in-Some.text.now ≡ Some c.in-Some-2.first = sym c.in_ok-first.ensures.old ∙ c.in-Some-2.is in
    alike_from c.args.table.now c.args.index c.in-Some.text.now c.in-Some-2.first here
    (firsts_back c.args.table.now c.args.index c.args.firsts.now c.insert.new.self c.insert-2.new.self c.in-Some.text.now c.in-Some-2.first here found
    (btree_map_updates_str c.in-Some.text.now c.args.firsts.now c.insert.new.self (Some c.args.index) c.in_ok-first.ensures.updates)
    (btree_map_updates_str c.in-Some.text.now c.insert.new.self c.insert-2.new.self (Some c.in-Some-2.first) c.in_ok-insert.ensures.updates) c.requires).0

pub returns-clause-firsts : goal.returns-clause-firsts
returns-clause-firsts c =
    let here : utf8_at c.args.table.now c.args.index ≡ Some c.in-Some.text.now = sym c.in-Some.ensures in
    let found : first_in c.args.firsts.now c.in-Some.text.now ≡ Some c.in-Some-2.first = sym c.in_ok-first.ensures.old ∙ c.in-Some-2.is in
    (firsts_back c.args.table.now c.args.index c.args.firsts.now c.insert.new.self c.insert-2.new.self c.in-Some.text.now c.in-Some-2.first here found
    (btree_map_updates_str c.in-Some.text.now c.args.firsts.now c.insert.new.self (Some c.args.index) c.in_ok-first.ensures.updates)
    (btree_map_updates_str c.in-Some.text.now c.insert.new.self c.insert-2.new.self (Some c.in-Some-2.first) c.in_ok-insert.ensures.updates) c.requires).1
