-- The words that go on from field to field are those of the layouts.
use Rattle.std.proofs.Common.{◌≡◌, ℕ, zero, suc, ◌+◌, ◌<◌, ◌≤◌, Bool, true, false, not, cond, List, [], ◌∷◌, ◌++◌, length, map, filter, reverse, get_or, Option, Some, None, refl, sym, ap, ◌∙◌, subst, arith, append-nil}
use Rattle.std.specs.Prelude.{slice_get, sum_by, if◌then◌else◌}
use Rattle.std.specs.List.{Contains, flat_map}
use Rattle.std.specs.Option.{option_map}
use Rattle.std.proofs.lemmas.Grind.{flat_map-append}
use Rattle.std.proofs.lemmas.List.{length-map, reverse-append}
use Rattle.std.proofs.lemmas.Option.{slice_get-get_or}
use Rattle.std.proofs.lemmas.List.Elements.{Contains-append_left, Contains-append_right}
use Rattle.std.proofs.lemmas.List.Sums.{sum_by-cons, sum_by-append}
use Rattle.jv_format.specs.Format.{◌>>=◌}
use Rattle.jv_class.specs.Class.{Field}
use Rattle.jv_meaning_world.specs.World.{Loaded, World}
use Rattle.jv_meaning_world.specs.Above.{superclasses}
use Rattle.jv_meaning_world.specs.LookUps.{DeclaredField, field_by}
use Rattle.jv_lookups.specs.declared.place.Place.{Place}
use Rattle.jv_lookups.specs.Places.{field_in, field_at}
use Rattle.jv_meaning_typing.specs.Kind.{is_static_field}
use Rattle.jv_meaning_typing.specs.Layout.{own_fields, instance_fields, field_words, object_words, Placed, laid_at, placed_from, layout}
use Rattle.jv_meaning_typing.proofs.Places.{placed_go_on}
use Rattle.jv_link_cache.proofs.Eachwise.{within_list}
use Rattle.jv_link_cache.specs.declared.words.Ends.{Ends}
use Rattle.jv_link_cache.specs.declared.words.ClassWords.{ClassWords}
use Rattle.jv_link_cache.specs.Inside.Words.{width_of, behind, words_from, ends_from, no_words, own_words, inherited_words, first_ends, all_words, seen_words, AreWords, static_end as static_end_of}
use Rattle.jv_link_cache.specs.Places.{own_static_fields, static_layout, IsWordOf}

same_some : {A : Type 0} → {x y : A} → Some x ≡ Some y → x ≡ y
same_some e = cc

map_found : {X Y : Type 0} → (f : X → Y) (xs : List X) (k : ℕ) (x : X) → slice_get xs k ≡ Some x → slice_get (map f xs) k ≡ Some (f x)
map_found f [] zero x e = absurd cc
map_found f [] (suc k) x e = absurd cc
map_found f (y ∷ xs) zero x e = ap (λ z. Some (f z)) (same_some e)
map_found f (y ∷ xs) (suc k) x e = map_found f xs k x e

first_one : {X : Type 0} → (xs : List X) (x : X) → Contains (x ∷ xs) x
first_one xs x = (0, omega arith, refl)

later_one : {X : Type 0} → (xs : List X) (y x : X) → Contains xs x → Contains (y ∷ xs) x
later_one xs y x h = Contains-append_right (y ∷ []) xs x h

-- ---- the fields of one class

abbrev instance : Field → Bool
instance f = not (is_static_field f)

abbrev word_by : Bool → Ends → ℕ
word_by b ends = if b then ends.statics else ends.object

abbrev behind_by : Bool → Field → Ends → Ends
behind_by b f ends =
    if b then record { object = ends.object; statics = ends.statics + width_of f }
    else record { object = ends.object + width_of f; statics = ends.statics }

module _ (l : Loaded) where
  abbrev placed_instance : ℕ → List Field → List Placed
  placed_instance n fs = placed_from n (map (field_by l) (filter instance fs))

  abbrev placed_static : ℕ → List Field → List Placed
  placed_static n fs = placed_from n (map (field_by l) (filter is_static_field fs))

  instance_on : (g f : Field) (fs : List Field) (ends : Ends) (w : ℕ) (b : Bool) → is_static_field g ≡ b → is_static_field f ≡ false
      → ((e : Ends) (k : ℕ) → slice_get fs k ≡ Some f → slice_get (words_from e fs) k ≡ Some w → Contains (placed_instance e.object fs) (laid_at (field_by l f) w))
      → (k : ℕ) → slice_get (g ∷ fs) k ≡ Some f → slice_get (word_by b ends ∷ words_from (behind_by b g ends) fs) k ≡ Some w
      → Contains (placed_from ends.object (map (field_by l) (cond (not b) (g ∷ filter instance fs) (filter instance fs)))) (laid_at (field_by l f) w)
  instance_on g f fs ends w true is none more zero at word =
      absurd (clash (sym is ∙ (ap is_static_field (same_some at) ∙ none)))
    where
      clash : true ≡ false → ⊥
      clash e = cc
  instance_on g f fs ends w false is none more zero at word =
      subst (λ p. Contains (placed_from ends.object (map (field_by l) (g ∷ filter instance fs))) p)
      (ap (λ x. laid_at (field_by l x) ends.object) (same_some at) ∙ ap (laid_at (field_by l f)) (same_some word))
      (first_one (placed_from (ends.object + field_words (field_by l g)) (map (field_by l) (filter instance fs))) (laid_at (field_by l g) ends.object))
  instance_on g f fs ends w true is none more (suc k) at word = more (behind_by true g ends) k at word
  instance_on g f fs ends w false is none more (suc k) at word =
      later_one (placed_instance (ends.object + width_of g) fs) (laid_at (field_by l g) ends.object) (laid_at (field_by l f) w) (more (behind_by false g ends) k at word)

  pub instance_stands : (fs : List Field) (f : Field) (ends : Ends) (k w : ℕ) → is_static_field f ≡ false
      → slice_get fs k ≡ Some f → slice_get (words_from ends fs) k ≡ Some w → Contains (placed_instance ends.object fs) (laid_at (field_by l f) w)
  instance_stands [] f ends zero w none at word = absurd cc
  instance_stands [] f ends (suc k) w none at word = absurd cc
  instance_stands (g ∷ fs) f ends k w none at word =
      instance_on g f fs ends w (is_static_field g) refl none (λ e j a b. instance_stands fs f e j w none a b) k at word

  static_on : (g f : Field) (fs : List Field) (ends : Ends) (w : ℕ) (b : Bool) → is_static_field g ≡ b → is_static_field f ≡ true
      → ((e : Ends) (k : ℕ) → slice_get fs k ≡ Some f → slice_get (words_from e fs) k ≡ Some w → Contains (placed_static e.statics fs) (laid_at (field_by l f) w))
      → (k : ℕ) → slice_get (g ∷ fs) k ≡ Some f → slice_get (word_by b ends ∷ words_from (behind_by b g ends) fs) k ≡ Some w
      → Contains (placed_from ends.statics (map (field_by l) (cond b (g ∷ filter is_static_field fs) (filter is_static_field fs)))) (laid_at (field_by l f) w)
  static_on g f fs ends w false is static more zero at word =
      absurd (clash (sym is ∙ (ap is_static_field (same_some at) ∙ static)))
    where
      clash : false ≡ true → ⊥
      clash e = cc
  static_on g f fs ends w true is static more zero at word =
      subst (λ p. Contains (placed_from ends.statics (map (field_by l) (g ∷ filter is_static_field fs))) p)
      (ap (λ x. laid_at (field_by l x) ends.statics) (same_some at) ∙ ap (laid_at (field_by l f)) (same_some word))
      (first_one (placed_from (ends.statics + field_words (field_by l g)) (map (field_by l) (filter is_static_field fs))) (laid_at (field_by l g) ends.statics))
  static_on g f fs ends w false is static more (suc k) at word = more (behind_by false g ends) k at word
  static_on g f fs ends w true is static more (suc k) at word =
      later_one (placed_static (ends.statics + width_of g) fs) (laid_at (field_by l g) ends.statics) (laid_at (field_by l f) w) (more (behind_by true g ends) k at word)

  pub static_stands : (fs : List Field) (f : Field) (ends : Ends) (k w : ℕ) → is_static_field f ≡ true
      → slice_get fs k ≡ Some f → slice_get (words_from ends fs) k ≡ Some w → Contains (placed_static ends.statics fs) (laid_at (field_by l f) w)
  static_stands [] f ends zero w none at word = absurd cc
  static_stands [] f ends (suc k) w none at word = absurd cc
  static_stands (g ∷ fs) f ends k w static at word =
      static_on g f fs ends w (is_static_field g) refl static (λ e j a b. static_stands fs f e j w static a b) k at word

  -- ---- where they end

  object_on : (g : Field) (fs : List Field) (ends : Ends) (b : Bool)
      → ((e : Ends) → (ends_from e fs).object ≡ e.object + sum_by field_words (map (field_by l) (filter instance fs)))
      → (ends_from (behind_by b g ends) fs).object ≡ ends.object + sum_by field_words (map (field_by l) (cond (not b) (g ∷ filter instance fs) (filter instance fs)))
  object_on g fs ends true more = more (behind_by true g ends)
  object_on g fs ends false more =
      let rest = more (behind_by false g ends) in
      let all = sum_by-cons field_words (field_by l g) (map (field_by l) (filter instance fs)) in
      omega (arith, rest, all)

  pub object_end : (fs : List Field) (ends : Ends) → (ends_from ends fs).object ≡ ends.object + sum_by field_words (map (field_by l) (filter instance fs))
  object_end [] ends = omega arith
  object_end (g ∷ fs) ends = object_on g fs ends (is_static_field g) (λ e. object_end fs e)

  static_on_end : (g : Field) (fs : List Field) (ends : Ends) (b : Bool)
      → ((e : Ends) → (ends_from e fs).statics ≡ e.statics + sum_by field_words (map (field_by l) (filter is_static_field fs)))
      → (ends_from (behind_by b g ends) fs).statics ≡ ends.statics + sum_by field_words (map (field_by l) (cond b (g ∷ filter is_static_field fs) (filter is_static_field fs)))
  static_on_end g fs ends false more = more (behind_by false g ends)
  static_on_end g fs ends true more =
      let rest = more (behind_by true g ends) in
      let all = sum_by-cons field_words (field_by l g) (map (field_by l) (filter is_static_field fs)) in
      omega (arith, rest, all)

  pub static_end : (fs : List Field) (ends : Ends) → (ends_from ends fs).statics ≡ ends.statics + sum_by field_words (map (field_by l) (filter is_static_field fs))
  static_end [] ends = omega arith
  static_end (g ∷ fs) ends = static_on_end g fs ends (is_static_field g) (λ e. static_end fs e)

-- ---- what is inherited

up_to : (ls : List Loaded) → sum_by own_words ls ≡ sum_by field_words (flat_map own_fields (reverse ls))
up_to [] = refl
up_to (l ∷ ls) =
    let own = object_end l l.class.fields no_words in
    let first = sum_by-cons own_words l ls in
    let split = ap (λ ks. sum_by field_words (flat_map own_fields ks)) (reverse-append (l ∷ []) ls) ∙
    (ap (sum_by field_words) (flat_map-append own_fields (reverse ls) (l ∷ [])) ∙
    (sum_by-append field_words (flat_map own_fields (reverse ls)) (flat_map own_fields (l ∷ [])) ∙
    ap (λ ds. sum_by field_words (flat_map own_fields (reverse ls)) + sum_by field_words ds) (append-nil (own_fields l)))) in
    omega (arith, up_to ls, own, first, split)

module _ (world : World) where
  fields_split : (l : Loaded) → instance_fields world l ≡ flat_map own_fields (reverse (superclasses world l.class)) ++ own_fields l
  fields_split l =
      ap (flat_map own_fields) (reverse-append (l ∷ []) (superclasses world l.class))
      ∙ (flat_map-append own_fields (reverse (superclasses world l.class)) (l ∷ [])
      ∙ ap (λ ds. flat_map own_fields (reverse (superclasses world l.class)) ++ ds) (append-nil (own_fields l)))

  pub object_is : (l : Loaded) (statics : ℕ) → (ends_from (first_ends world statics l) l.class.fields).object ≡ object_words world l
  object_is l statics =
      let ends = object_end l l.class.fields (first_ends world statics l) in
      let above = up_to (superclasses world l.class) in
      let split = ap (sum_by field_words) (fields_split l) ∙ sum_by-append field_words (flat_map own_fields (reverse (superclasses world l.class))) (own_fields l) in
      omega (arith, ends, above, split)

  own_in_layout : (l : Loaded) (p : Placed) → Contains (placed_from (inherited_words world l) (own_fields l)) p → Contains (layout world l) p
  own_in_layout l p h =
      let above = flat_map own_fields (reverse (superclasses world l.class)) in
      let start : inherited_words world l ≡ 0 + sum_by field_words above = let e = up_to (superclasses world l.class) in omega (arith, e) in
      subst (λ ps. Contains ps p) (sym (ap (placed_from 0) (fields_split l) ∙ placed_go_on 0 above (own_fields l)))
      (Contains-append_right (placed_from 0 above) (placed_from (0 + sum_by field_words above) (own_fields l)) p (subst (λ n. Contains (placed_from n (own_fields l)) p) start h))

  -- ---- all classes

  pub record ClassStands (ls : List Loaded) (statics : ℕ) (l : Loaded) (words : ℕ × List ℕ) : Type 0 where
    pub first : ℕ
    pub object : words.0 ≡ (ends_from (first_ends world first l) l.class.fields).object
    pub fields : words.1 ≡ words_from (first_ends world first l) l.class.fields
    pub within : (p : Placed) → Contains (placed_from first (own_static_fields l)) p → Contains (placed_from statics (flat_map own_static_fields ls)) p

  pub class_stands : (ls : List Loaded) (statics k : ℕ) (l : Loaded) (words : ℕ × List ℕ) → slice_get ls k ≡ Some l →
      slice_get (all_words world statics ls) k ≡ Some words → ClassStands ls statics l words
  class_stands [] statics zero l words at here = absurd cc
  class_stands [] statics (suc k) l words at here = absurd cc
  class_stands (m ∷ ls) statics zero l words at here = subst (λ x. ClassStands (m ∷ ls) statics x words) (same_some at) (record {
    first = statics;
    object = ap (λ (w : ℕ × List ℕ). w.0) (sym (same_some here));
    fields = ap (λ (w : ℕ × List ℕ). w.1) (sym (same_some here));
    within = λ p h.
        subst (λ ps. Contains ps p) (sym (placed_go_on statics (own_static_fields m) (flat_map own_static_fields ls)))
        (Contains-append_left (placed_from statics (own_static_fields m)) (placed_from (statics + sum_by field_words (own_static_fields m)) (flat_map own_static_fields ls)) p h);
  })
  class_stands (m ∷ ls) statics (suc k) l words at here =
      let later = class_stands ls (ends_from (first_ends world statics m) m.class.fields).statics k l words at here in
      record {
        first = later.first;
        object = later.object;
        fields = later.fields;
        within = λ p h.
            subst (λ ps. Contains ps p) (sym (placed_go_on statics (own_static_fields m) (flat_map own_static_fields ls)))
            (Contains-append_right (placed_from statics (own_static_fields m)) (placed_from (statics + sum_by field_words (own_static_fields m)) (flat_map own_static_fields ls)) p
            (subst (λ n. Contains (placed_from n (flat_map own_static_fields ls)) p) (static_end m m.class.fields (first_ends world statics m)) (later.within p h)));
      }

  pub many_classes : (ls : List Loaded) (statics : ℕ) → length (all_words world statics ls) ≡ length ls
  many_classes [] statics = refl
  many_classes (l ∷ ls) statics = ap suc (many_classes ls (ends_from (first_ends world statics l) l.class.fields).statics)

  many_fields : (fs : List Field) (ends : Ends) → length (words_from ends fs) ≡ length fs
  many_fields [] ends = refl
  many_fields (f ∷ fs) ends = ap suc (many_fields fs (behind f ends))

  pub statics_end : (ls : List Loaded) (statics : ℕ) → static_end_of world statics ls ≡ statics + sum_by field_words (flat_map own_static_fields ls)
  statics_end [] statics = omega arith
  statics_end (l ∷ ls) statics =
      let later = statics_end ls (ends_from (first_ends world statics l) l.class.fields).statics in
      let own = static_end l l.class.fields (first_ends world statics l) in
      let split = sum_by-append field_words (own_static_fields l) (flat_map own_static_fields ls) in
      omega (arith, later, own, split)

  -- ---- one field

  record FieldParts (place : Place) (d : DeclaredField) : Type 0 where
    pub l : Loaded
    pub f : Field
    pub class : slice_get world place.class ≡ Some l
    pub field : slice_get l.class.fields place.member ≡ Some f
    pub is : d ≡ field_by l f

  parts : (place : Place) (d : DeclaredField) → field_at world place ≡ Some d → FieldParts place d
  parts place d e = by_class (slice_get world place.class) refl e
    where
      by_field : (l : Loaded) → slice_get world place.class ≡ Some l → (o : Option Field) → slice_get l.class.fields place.member ≡ o → option_map (field_by l) o ≡ Some d → FieldParts place d
      by_field l class None at e = absurd cc
      by_field l class (Some f) at e = record { l = l; f = f; class = class; field = at; is = sym (same_some e) }

      by_class : (o : Option Loaded) → slice_get world place.class ≡ o → (o >>= field_in place.member) ≡ Some d → FieldParts place d
      by_class None class e = absurd cc
      by_class (Some l) class e = by_field l class (slice_get l.class.fields place.member) refl e

  kind_stands : (l : Loaded) (f : Field) (words : ℕ × List ℕ) (k w : ℕ) → ClassStands world 0 l words → slice_get l.class.fields k ≡ Some f → slice_get words.1 k ≡ Some w
      → (b : Bool) → is_static_field f ≡ b → Contains (if b then static_layout world else layout world l) (laid_at (field_by l f) w)
  kind_stands l f words k w stands at word true is =
      stands.within (laid_at (field_by l f) w) (static_stands l l.class.fields f (first_ends world stands.first l) k w is at (ap (λ ws. slice_get ws k) (sym stands.fields) ∙ word))
  kind_stands l f words k w stands at word false is =
      own_in_layout l (laid_at (field_by l f) w) (instance_stands l l.class.fields f (first_ends world stands.first l) k w is at (ap (λ ws. slice_get ws k) (sym stands.fields) ∙ word))

  pub word_stands : (rows : List (ℕ × List ℕ)) (place : Place) (d : DeclaredField) (words : ℕ × List ℕ) (w : ℕ) → rows ≡ all_words world 0 world → field_at world place ≡ Some d
      → slice_get rows place.class ≡ Some words → slice_get words.1 place.member ≡ Some w → IsWordOf world d w
  word_stands rows place d words w is at row word =
      let p = parts place d at in
      let stands = class_stands world 0 place.class p.l words p.class (ap (λ rs. slice_get rs place.class) (sym is) ∙ row) in
      subst (λ x. IsWordOf world x w) (sym p.is) (kind_stands p.l p.f words place.member w stands p.field word (is_static_field p.f) refl)

  -- ---- what is found at a number

  pub object_found : (words : List ClassWords) (k : ℕ) (d : ClassWords) (l : Loaded) → AreWords world words → k < length words → slice_get world k ≡ Some l
      → (get_or words k d).object ≡ object_words world l
  object_found words k d l are h at =
      let row = map_found seen_words words k (get_or words k d) (slice_get-get_or words k d h) in
      let stands = class_stands world 0 k l (seen_words (get_or words k d)) at (ap (λ rs. slice_get rs k) (sym are.all_of) ∙ row) in
      stands.object ∙ object_is l stands.first

  many_words : (words : List ClassWords) → AreWords world words → length words ≡ length world
  many_words words are = sym (length-map words seen_words) ∙ (ap length are.all_of ∙ many_classes world 0)

  pub none_beyond : (words : List ClassWords) (k : ℕ) (l : Loaded) → AreWords world words → length words ≤ k → slice_get world k ≡ Some l → ⊥
  none_beyond words k l are h at =
      let less = within_list world k l at in
      let many = many_words words are in
      absurd (omega (arith, less, many, h))

  pub word_found : (words : List ClassWords) (place : Place) (d : DeclaredField) (row : ClassWords) (w : ℕ) → AreWords world words → field_at world place ≡ Some d
      → place.class < length words → ((word : ℕ) → slice_get (get_or words place.class row).fields.items place.member ≡ Some word → w ≡ word) → IsWordOf world d w
  word_found words place d row w are at h clause =
      let p = parts place d at in
      let shown = map_found seen_words words place.class (get_or words place.class row) (slice_get-get_or words place.class row h) in
      let stands = class_stands world 0 place.class p.l (seen_words (get_or words place.class row)) p.class (ap (λ rs. slice_get rs place.class) (sym are.all_of) ∙ shown) in
      let many = ap length stands.fields ∙ many_fields p.l.class.fields (first_ends world stands.first p.l) in
      let less = within_list p.l.class.fields place.member p.f p.field in
      let fits : place.member < length (get_or words place.class row).fields.items = omega (arith, many, less) in
      let word = slice_get-get_or (get_or words place.class row).fields.items place.member 0 fits in
      subst (λ v. IsWordOf world d v) (sym (clause (get_or (get_or words place.class row).fields.items place.member 0) word))
      (word_stands (map seen_words words) place d (seen_words (get_or words place.class row)) (get_or (get_or words place.class row).fields.items place.member 0) are.all_of at shown word)

  pub place_beyond : (words : List ClassWords) (place : Place) (d : DeclaredField) → AreWords world words → field_at world place ≡ Some d → length words ≤ place.class → ⊥
  place_beyond words place d are at h = let p = parts place d at in none_beyond words place.class p.l are h p.class
