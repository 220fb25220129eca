-- Exits with a fault.
use Rattle.std.proofs.Common.{◌≡◌, Option, None, Result, Err, sym, subst}
use Rattle.jv_stackmap.specs.declared.fault.FrameFault.{FrameFault}
use Rattle.jv_stackmap.specs.declared.fault.FrameFault.TheVariants.{BadFrames, OutOfMemory}
use Rattle.jv_stackmap.specs.Inside.Reading.{Fails, IsGiven}

-- a fault says of a whole what it says of its part
pub fails_on : {A B : Type 0} (e : FrameFault) (part : Option A) (total : Option B) → (part ≡ None → total ≡ None) → Fails e part → Fails e total
fails_on BadFrames part total none h = none h
fails_on OutOfMemory part total none h = tt

-- a result that is that fault
pub gives_fault : {A X : Type 0} (e : FrameFault) (total : Option A) (view : X → A) (result : Result X FrameFault) → result ≡ Err e → Fails e total → IsGiven total view result
gives_fault e total view result is h = subst (λ (r : Result _ FrameFault). IsGiven total view r) (sym is) h

pub fails_bad : {A : Type 0} (read : Option A) (e : FrameFault) → e ≡ BadFrames → Fails e read → read ≡ None
fails_bad read BadFrames is g = g
fails_bad read OutOfMemory is g = absurd cc
