-- A frame that is read: what its beginning keeps, what its end comes to, and that there is then one more.
use Rattle.std.proofs.Common.{◌≡◌, ℕ, ◌+◌, List, length, Option, Some, sym, ap, ◌∙◌}
use Rattle.jv_format.specs.Format.{byte, ◌>>=◌}
use Rattle.jv_format.proofs.Laws.{bind_some, is_some}
use Rattle.jv_pool.specs.Constants.{Entry}
use Rattle.jv_stackmap.specs.declared.limits.Limits.{Limits}
use Rattle.jv_stackmap.specs.Bytes.{MapForm}
use Rattle.jv_stackmap.specs.Frames.{delta_of}
use Rattle.jv_stackmap.specs.Inside.Reading.{form, form_contents}
use Rattle.jv_stackmap.specs.Inside.Steps.{Built, form_laid, with_delta, beside, begun, form_begun, finished, form_done, stepped, frame_read}
use Rattle.jv_stackmap.proofs.Forms.{form_read_as}
use Rattle.jv_stackmap.proofs.Made.{form_keeps, done_counts}

-- a form that was begun
record Begun (pool : List Entry) (tag delta : ℕ) (b t : Built) (bytes after : List ℕ) : Type 0 where
  form : MapForm
  read : form_contents tag bytes ≡ Some (form, after)
  laid : form_laid pool b form ≡ Some t
  delta_is : delta_of form ≡ delta

begun_by : (pool : List Entry) (tag delta : ℕ) (b t : Built) (bytes after : List ℕ) → form_begun pool tag b bytes ≡ Some ((delta, t), after) → Begun pool tag delta b t bytes after
begun_by pool tag delta b t bytes after e =
    let x = bind_some (form_contents tag bytes) (begun pool b) ((delta, t), after) e in
    let y = bind_some (form_laid pool b x.0.0 >>= with_delta (delta_of x.0.0)) (beside x.0.1) ((delta, t), after) x.2 in
    let z = bind_some (form_laid pool b x.0.0) (with_delta (delta_of x.0.0)) y.0 y.1 in
    let made : (ℕ × Built) × List ℕ = (y.0, x.0.1) in
    let same : made ≡ ((delta, t), after) = is_some made ((delta, t), after) y.2 in
    let pair : ℕ × Built = (delta_of x.0.0, z.0) in
    let parts : pair ≡ (delta, t) = is_some pair y.0 z.2 ∙ ap (λ (p : (ℕ × Built) × List ℕ). p.0) same in
    let rest : x.0.1 ≡ after = ap (λ (p : (ℕ × Built) × List ℕ). p.1) same in
    record {
      form = x.0.0;
      read = x.1 ∙ ap (λ (r : List ℕ). Some (x.0.0, r)) rest;
      laid = z.1 ∙ ap (λ (p : ℕ × Built). Some p.1) parts;
      delta_is = ap (λ (p : ℕ × Built). p.0) parts;
    }

pub begun_keeps : (pool : List Entry) (tag delta : ℕ) (b t : Built) (bytes after : List ℕ) → form_begun pool tag b bytes ≡ Some ((delta, t), after) → t.frames ≡ b.frames
begun_keeps pool tag delta b t bytes after e = let x = begun_by pool tag delta b t bytes after e in form_keeps pool b x.form t x.laid

pub read_done : (pool : List Entry) (limits : Limits) (tag delta : ℕ) (b t : Built) (bytes rest after : List ℕ) (o : Option Built) → byte.read bytes ≡ Some (tag, rest)
    → form_begun pool tag b rest ≡ Some ((delta, t), after) → finished limits delta t ≡ o → frame_read pool limits b bytes ≡ (o >>= beside after)
read_done pool limits tag delta b t bytes rest after o first e end =
    let x = begun_by pool tag delta b t rest after e in
    let read : form.read bytes ≡ Some (x.form, after) = sym (form_read_as bytes rest tag first) ∙ x.read in
    ap (λ (o : Option (MapForm × List ℕ)). o >>= stepped (form_done pool limits) b) read
    ∙ ap (λ (o : Option Built). o >>= finished limits (delta_of x.form) >>= beside after) x.laid
    ∙ ap (λ (d : ℕ). finished limits d t >>= beside after) x.delta_is
    ∙ ap (λ (o : Option Built). o >>= beside after) end

pub read_counts : (pool : List Entry) (limits : Limits) (b t : Built) (bytes after : List ℕ) → frame_read pool limits b bytes ≡ Some (t, after) → length t.frames ≡ length b.frames + 1
read_counts pool limits b t bytes after e =
    let x = bind_some (form.read bytes) (stepped (form_done pool limits) b) (t, after) e in
    let y = bind_some (form_done pool limits b x.0.0) (beside x.0.1) (t, after) x.2 in
    let made : Built × List ℕ = (y.0, x.0.1) in
    let same : y.0 ≡ t = ap (λ (p : Built × List ℕ). p.0) (is_some made (t, after) y.2) in
    done_counts pool limits b t x.0.0 (y.1 ∙ ap (λ (t : Built). Some t) same)
