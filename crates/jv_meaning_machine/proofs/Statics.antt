-- Each static field of each class is there from the start on.
use Rattle.std.proofs.Common.{◌≡◌, ℕ, zero, suc, Bool, true, false, true≢false, ◌&&◌, ◌||◌, List, [], ◌∷◌, map, filter, Some, refl, sym, ap, ◌∙◌, slice_get, is_some, bytes_eq, if◌then◌else◌}
use Rattle.std.specs.List.{flat_map, list_any}
use Rattle.std.proofs.lemmas.Bool.{and_from}
use Rattle.std.proofs.lemmas.List.{map-append}
use Rattle.std.proofs.lemmas.List.Folds.{list_any-append}
use Rattle.std.proofs.lemmas.Slice.Eq.{bytes_eq-Decides}
use Rattle.jv_class.specs.Class.{Field}
use Rattle.jv_meaning_world.specs.World.{Loaded, World}
use Rattle.jv_meaning_world.specs.LookUps.{field_by}
use Rattle.jv_meaning_typing.specs.Kind.{is_static_field}
use Rattle.jv_meaning_machine.specs.Values.{Value}
use Rattle.jv_meaning_machine.specs.Objects.{FieldKey, Content, key_of, same_key, value_at, default_entry}
use Rattle.jv_meaning_machine.specs.Start.{static_entries}
use Rattle.jv_meaning_machine.specs.Laws.Shapes.{key_in, keys_in}
use Rattle.jv_meaning_machine.specs.Laws.Runs.{StaticsAreThere}
use Rattle.jv_meaning_machine.proofs.KeptAlone.{IsFromStart, alone_leads}

-- whether a field holds something is told by the keys alone
held_by_keys : (key : FieldKey) (content : Content) → is_some (value_at key content) ≡ list_any (same_key key) (keys_in content)
held_by_keys key [] = refl
held_by_keys key (entry ∷ more) = by_test (same_key key entry.0) (held_by_keys key more)
  where
    by_test :
        (test : Bool) → is_some (value_at key more) ≡ list_any (same_key key) (keys_in more)
        → is_some (if test then Some entry.1 else value_at key more) ≡ (test || list_any (same_key key) (keys_in more))
    by_test true e = refl
    by_test false e = e

same_key_itself : (key : FieldKey) → same_key key key ≡ true
same_key_itself key =
    and_from (bytes_eq key.name key.name && bytes_eq key.class key.class) (bytes_eq key.descriptor key.descriptor)
    (and_from (bytes_eq key.name key.name) (bytes_eq key.class key.class) ((bytes_eq-Decides key.name key.name).1 refl)
    ((bytes_eq-Decides key.class key.class).1 refl))
    ((bytes_eq-Decides key.descriptor key.descriptor).1 refl)

abbrev entry_of : Loaded → Field → FieldKey × Value
entry_of l f = default_entry (field_by l f)

or_left : (a b : Bool) → a ≡ true → (a || b) ≡ true
or_left true b e = refl
or_left false b e = absurd (true≢false (sym e))

or_right : (a b : Bool) → b ≡ true → (a || b) ≡ true
or_right true b e = refl
or_right false b e = e

-- of one class
in_class :
    (l : Loaded) (fields : List Field) (place : ℕ) (f : Field) → slice_get fields place ≡ Some f → is_static_field f ≡ true
    → list_any (same_key (key_of (field_by l f))) (keys_in (map (entry_of l) (filter is_static_field fields))) ≡ true
in_class l [] place f e static = absurd cc
in_class l (x ∷ fields) zero f e static =
    let same : x ≡ f = cc in
    let its : is_static_field x ≡ true = ap is_static_field same ∙ static in
    by_test (is_static_field x) its
    (ap (λ (y : Field). same_key (key_of (field_by l f)) (key_of (field_by l y))) same ∙ same_key_itself (key_of (field_by l f)))
  where
    by_test :
        (test : Bool) → test ≡ true → same_key (key_of (field_by l f)) (key_of (field_by l x)) ≡ true
        → list_any (same_key (key_of (field_by l f)))
        (keys_in (map (entry_of l) (if test then x ∷ filter is_static_field fields else filter is_static_field fields)))
        ≡ true
    by_test true g h = or_left (same_key (key_of (field_by l f)) (key_of (field_by l x))) _ h
    by_test false g h = absurd (true≢false (sym g))
in_class l (x ∷ fields) (suc place) f e static = by_test (is_static_field x) (in_class l fields place f e static)
  where
    by_test :
        (test : Bool)
        → list_any (same_key (key_of (field_by l f))) (keys_in (map (entry_of l) (filter is_static_field fields))) ≡ true
        → list_any (same_key (key_of (field_by l f)))
        (keys_in (map (entry_of l) (if test then x ∷ filter is_static_field fields else filter is_static_field fields)))
        ≡ true
    by_test true h = or_right (same_key (key_of (field_by l f)) (key_of (field_by l x))) _ h
    by_test false h = h

-- of all
both :
    (test : FieldKey → Bool) (x : Loaded) (world : World)
    → list_any test (keys_in (flat_map static_entries (x ∷ world)))
    ≡ (list_any test (keys_in (static_entries x)) || list_any test (keys_in (flat_map static_entries world)))
both test x world =
    ap (list_any test) (map-append key_in (static_entries x) (flat_map static_entries world))
    ∙ list_any-append test (keys_in (static_entries x)) (keys_in (flat_map static_entries world))

in_world :
    (test : FieldKey → Bool) (world : World) (place : ℕ) (l : Loaded) → slice_get world place ≡ Some l
    → list_any test (keys_in (static_entries l)) ≡ true → list_any test (keys_in (flat_map static_entries world)) ≡ true
in_world test [] place l e h = absurd cc
in_world test (x ∷ world) zero l e h =
    let same : x ≡ l = cc in
    both test x world ∙ or_left _ _ (ap (λ (y : Loaded). list_any test (keys_in (static_entries y))) same ∙ h)
in_world test (x ∷ world) (suc place) l e h =
    both test x world
    ∙ or_right _ _ (in_world test world place l e h)

pub statics_are_there : StaticsAreThere
statics_are_there judged g b feeds n s e place l here field f there static =
    let known : IsFromStart judged.program g.input b s = (alone_leads judged g b feeds n).at s e in
    let same : keys_in s.memory.statics ≡ keys_in (flat_map static_entries judged.program.world) = known.from.memory_kept.statics in
    held_by_keys (key_of (field_by l f)) s.memory.statics
    ∙ ap (list_any (same_key (key_of (field_by l f)))) same
    ∙ in_world (same_key (key_of (field_by l f))) judged.program.world place l here (in_class l l.class.fields field f there static)
