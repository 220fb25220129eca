-- Arguments in a list of all arguments.
use Rattle.std.proofs.Common.{◌≡◌, ℕ, ◌+◌, ◌-◌, ◌<◌, ◌≤◌, List, [], ◌∷◌, ◌++◌, map, length, take, drop, get_or, sym, ap, ◌∙◌, subst, append_assoc, add-one, arith}
use Rattle.std.specs.Prelude.{slice_range}
use Rattle.std.proofs.lemmas.List.{append-nil, map-append, length-append, length-drop, take-append-le, drop-append-le, take_all}
use Rattle.std.proofs.Math.Seq.{take-suc, drop-append_seam}
use Rattle.std.specs.Borrow.{Bor}
use Rattle.jv_text.specs.declared.descriptor.FieldTypeOf.{FieldTypeOf}
use Rattle.jv_text.specs.Seen.{seen_field_type}
use Rattle.jv_stackmap.specs.Types.{FrameType, value_type}
use Rattle.jv_verify_types.specs.Typed.{GoesOn, typed, typed_all}
use Rattle.jv_verify_types.specs.Inside.Lasting.{Lasts, IsFront}
use Rattle.jv_verify_types.specs.Inside.KeptTexts.{Item, Joins, AreArguments}
use Rattle.jv_verify_types.proofs.Lasting.{lasts_on}

-- some have joined, and then more
pub joins_more : {names longer : List (List ℕ)} {before middle after : List Item} {types more : List FrameType}
    → Joins names before middle types → GoesOn names longer → Joins longer middle after more → Joins longer before after (types ++ more)
joins_more {before = before} {types = types} first goes_on second = record {
  items = first.items ++ second.items;
  joined = second.joined ∙ (ap (λ l. l ++ second.items) first.joined ∙ append_assoc before first.items second.items);
  lasts = record {
    kept = λ longest on.
        map-append (typed longest) first.items second.items
        ∙ (ap (λ l. l ++ typed_all longest second.items) ((lasts_on goes_on first.lasts).kept longest on)
        ∙ ap (λ l. types ++ l) (second.lasts.kept longest on));
  };
}

-- the values of one parameter more
pub one_more : (parameters : List (FieldTypeOf (Bor (List ℕ)))) (n : ℕ) (d : FieldTypeOf (Bor (List ℕ))) → n < length parameters
    → map value_type (map seen_field_type (take n parameters)) ++ value_type (seen_field_type (get_or parameters n d)) ∷ [] ≡ map value_type (map seen_field_type (take (n + 1) parameters))
one_more parameters n d within =
    sym (ap (λ k. map value_type (map seen_field_type (take k parameters))) (add-one n)
    ∙ (ap (λ l. map value_type (map seen_field_type l)) (take-suc parameters n d within)
    ∙ (ap (map value_type) (map-append seen_field_type (take n parameters) (get_or parameters n d ∷ []))
    ∙ map-append value_type (map seen_field_type (take n parameters)) (seen_field_type (get_or parameters n d) ∷ []))))

-- what has joined stands behind what was there
range_behind : (before items : List Item) → slice_range (before ++ items) (length before) (length (before ++ items)) ≡ items
range_behind before items =
    ap (take (length (before ++ items) - length before)) (drop-append_seam before items)
    ∙ take_all (length (before ++ items) - length before) items (omega (arith, length-append before items))

pub joined_range : {names longer : List (List ℕ)} {before after : List Item} {types : List FrameType} (start end : ℕ)
    → Joins names before after types → GoesOn names longer → start ≡ length before → end ≡ length after → AreArguments longer after start end types
joined_range {longer = longer} {before = before} {after = after} {types = types} start end joins goes_on from to =
    subst (λ s. AreArguments longer after s end types) (sym from)
    (subst (λ e. AreArguments longer after (length before) e types) (sym to)
    (subst (λ l. AreArguments longer l (length before) (length l) types) (sym joins.joined) here))
  where
    here : AreArguments longer (before ++ joins.items) (length before) (length (before ++ joins.items)) types
    here = record {
      rising = omega (arith, length-append before joins.items);
      within = omega arith;
      lasts = subst (λ l. Lasts typed_all longer l types) (sym (range_behind before joins.items)) (lasts_on goes_on joins.lasts);
    }

pub front_same : {A : Type 0} (l : List A) → IsFront l l
front_same l = record { more = []; joined = sym (append-nil l) }

-- a part of a list is there also when the list goes on
range_on : (l more : List Item) (start end : ℕ) → start ≤ end → end ≤ length l → slice_range (l ++ more) start end ≡ slice_range l start end
range_on l more start end rising within =
    ap (take (end - start)) (drop-append-le start l more (omega arith))
    ∙ take-append-le (end - start) (drop start l) more (omega (arith, length-drop start l))

pub arguments_on : {names longer : List (List ℕ)} {arguments all : List Item} {types : List FrameType} (start end : ℕ)
    → GoesOn names longer → IsFront arguments all → AreArguments names arguments start end types → AreArguments longer all start end types
arguments_on {longer = longer} {arguments = arguments} {types = types} start end goes_on front here =
    subst (λ l. AreArguments longer l start end types) (sym front.joined) (record {
      rising = here.rising;
      within = omega (arith, here.within, length-append arguments front.more);
      lasts = subst (λ l. Lasts typed_all longer l types) (sym (range_on arguments front.more start end here.rising here.within)) (lasts_on goes_on here.lasts);
    })
