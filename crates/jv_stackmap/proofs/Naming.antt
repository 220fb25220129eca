-- Frames of what stands for types are frames of the types.
use Rattle.std.proofs.Common.{◌≡◌, ℕ, zero, suc, ◌+◌, Bool, true, false, List, [], ◌∷◌, Option, Some, None, refl, ap, ◌∙◌}
use Rattle.std.specs.Prelude.{if◌then◌else◌}
use Rattle.std.specs.Prelude.{map}
use Rattle.std.specs.Option.{option_map}
use Rattle.jv_format.specs.Format.{◌>>=◌}
use Rattle.jv_stackmap.specs.declared.item.Item.{Item}
use Rattle.jv_stackmap.specs.declared.form.Form.TheVariants.{Same, SameItem, SameItemExtended, Chop, SameExtended, Append, Full}
use Rattle.jv_stackmap.specs.Bytes.{MapForm}
use Rattle.jv_stackmap.specs.Frames.{MapFrame, map_frame, laid, chopped, locals_behind, stack_in, delta_of, frame_behind, frame_if, frames_behind}

-- a step from what stands for a value
pub named_bind : {A B C D : Type 0} (f : A → B) (g : C → D) (o : Option A) (F : B → Option D) (G : A → Option C) →
    ((a : A) → F (f a) ≡ option_map g (G a)) → (option_map f o >>= F) ≡ option_map g (o >>= G)
named_bind f g None F G h = refl
named_bind f g (Some a) F G h = h a

-- what stands for a frame
abbrev pub mapped : {E T : Type 0} → (E → T) → MapFrame E → MapFrame T
mapped name f = map_frame f.offset (map name f.locals) (map name f.stack)

laid_named : {E T : Type 0} (name : E → T) (entry_of : Item → Option E) (type_of : Item → Option T) → ((i : Item) → type_of i ≡ option_map name (entry_of i))
    → (below : List E) (list : List Item) → laid type_of (map name below) list ≡ option_map (map name) (laid entry_of below list)
laid_named name entry_of type_of law below [] = refl
laid_named {E = E} {T = T} name entry_of type_of law below (i ∷ more) =
    ap (λ (o : Option T). o >>= λ t. laid type_of (t ∷ map name below) more) (law i)
    ∙ named_bind name (map name) (entry_of i) (λ t. laid type_of (t ∷ map name below) more) (λ e. laid entry_of (e ∷ below) more)
    (λ e. laid_named name entry_of type_of law (e ∷ below) more)

chopped_named : {E T : Type 0} (name : E → T) (n : ℕ) (list : List E) → chopped n (map name list) ≡ option_map (map name) (chopped n list)
chopped_named name zero list = refl
chopped_named name (suc n) [] = refl
chopped_named name (suc n) (e ∷ more) = chopped_named name n more

locals_named : {E T : Type 0} (name : E → T) (entry_of : Item → Option E) (type_of : Item → Option T) → ((i : Item) → type_of i ≡ option_map name (entry_of i))
    → (before : List E) (form : MapForm) → locals_behind type_of (map name before) form ≡ option_map (map name) (locals_behind entry_of before form)
locals_named name entry_of type_of law before (Same delta) = refl
locals_named name entry_of type_of law before (SameItem delta item) = refl
locals_named name entry_of type_of law before (SameItemExtended delta item) = refl
locals_named name entry_of type_of law before (Chop count delta) = chopped_named name count before
locals_named name entry_of type_of law before (SameExtended delta) = refl
locals_named name entry_of type_of law before (Append delta locals) = laid_named name entry_of type_of law before locals
locals_named name entry_of type_of law before (Full delta locals stack) = laid_named name entry_of type_of law [] locals

stack_named : {E T : Type 0} (name : E → T) (entry_of : Item → Option E) (type_of : Item → Option T) → ((i : Item) → type_of i ≡ option_map name (entry_of i))
    → (form : MapForm) → stack_in type_of form ≡ option_map (map name) (stack_in entry_of form)
stack_named name entry_of type_of law (Same delta) = refl
stack_named name entry_of type_of law (SameItem delta item) = laid_named name entry_of type_of law [] (item ∷ [])
stack_named name entry_of type_of law (SameItemExtended delta item) = laid_named name entry_of type_of law [] (item ∷ [])
stack_named name entry_of type_of law (Chop count delta) = refl
stack_named name entry_of type_of law (SameExtended delta) = refl
stack_named name entry_of type_of law (Append delta locals) = refl
stack_named name entry_of type_of law (Full delta locals stack) = laid_named name entry_of type_of law [] stack

behind_named : {E T : Type 0} (name : E → T) (entry_of : Item → Option E) (type_of : Item → Option T) → ((i : Item) → type_of i ≡ option_map name (entry_of i))
    → (base : ℕ) (before : List E) (form : MapForm) → frame_behind type_of base (map name before) form ≡ option_map (mapped name) (frame_behind entry_of base before form)
behind_named {E = E} {T = T} name entry_of type_of law base before form =
    let whole : List T → Option (MapFrame T) = λ ls. stack_in type_of form >>= λ ss. Some (map_frame (base + delta_of form) ls ss) in
    let part : List E → Option (MapFrame E) = λ ls. stack_in entry_of form >>= λ ss. Some (map_frame (base + delta_of form) ls ss) in
    ap (λ (o : Option (List T)). o >>= whole) (locals_named name entry_of type_of law before form)
    ∙ named_bind (map name) (mapped name) (locals_behind entry_of before form) whole part (λ ls.
    ap (λ (o : Option (List T)). o >>= λ ss. Some (map_frame (base + delta_of form) (map name ls) ss)) (stack_named name entry_of type_of law form)
    ∙ named_bind (map name) (mapped name) (stack_in entry_of form) (λ ss. Some (map_frame (base + delta_of form) (map name ls) ss)) (λ ss. Some (map_frame (base + delta_of form) ls ss)) (λ ss. refl))

passing_by : {E T : Type 0} (name : E → T) (test : MapFrame T → Bool) (f : MapFrame E) (b : Bool) → test (mapped name f) ≡ b
    → frame_if test (mapped name f) ≡ option_map (mapped name) (if b then Some f else None)
passing_by name test f true e = rw e refl
passing_by name test f false e = rw e refl

pub frames_named : {E T : Type 0} (name : E → T) (entry_of : Item → Option E) (type_of : Item → Option T) → ((i : Item) → type_of i ≡ option_map name (entry_of i))
    → (test : MapFrame E → Bool) (type_test : MapFrame T → Bool) → ((f : MapFrame E) → type_test (mapped name f) ≡ test f) → (base : ℕ) (before : List E) (forms : List MapForm)
    → frames_behind type_of type_test base (map name before) forms ≡ option_map (map (mapped name)) (frames_behind entry_of test base before forms)
frames_named name entry_of type_of law test type_test same base before [] = refl
frames_named {E = E} {T = T} name entry_of type_of law test type_test same base before (form ∷ more) =
    let whole : MapFrame T → Option (List (MapFrame T)) = λ f. frames_behind type_of type_test (f.offset + 1) f.locals more >>= λ fs. Some (f ∷ fs) in
    let part : MapFrame E → Option (List (MapFrame E)) = λ f. frames_behind entry_of test (f.offset + 1) f.locals more >>= λ fs. Some (f ∷ fs) in
    let first : (frame_behind type_of base (map name before) form >>= frame_if type_test) ≡ option_map (mapped name) (frame_behind entry_of base before form >>= frame_if test) =
    ap (λ (o : Option (MapFrame T)). o >>= frame_if type_test) (behind_named name entry_of type_of law base before form)
    ∙ named_bind (mapped name) (mapped name) (frame_behind entry_of base before form) (frame_if type_test) (frame_if test) (λ f. passing_by name type_test f (test f) (same f)) in
    ap (λ (o : Option (MapFrame T)). o >>= whole) first
    ∙ named_bind (mapped name) (map (mapped name)) (frame_behind entry_of base before form >>= frame_if test) whole part (λ f.
    ap (λ (o : Option (List (MapFrame T))). o >>= λ fs. Some (mapped name f ∷ fs)) (frames_named name entry_of type_of law test type_test same (f.offset + 1) f.locals more)
    ∙ named_bind (map (mapped name)) (map (mapped name)) (frames_behind entry_of test (f.offset + 1) f.locals more) (λ fs. Some (mapped name f ∷ fs)) (λ fs. Some (f ∷ fs)) (λ fs. refl))
