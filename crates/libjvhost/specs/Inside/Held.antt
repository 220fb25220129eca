-- What stands behind a handle's pointers: a host, or, before one has begun there, none.
use Rattle.std.specs.Prelude.{◌≡◌, List, Option, Some, None, option_map}
use Rattle.jv_host.specs.Host.{Admission}
use Rattle.libjvhost.specs.Calls.{Hosted}
use Rattle.libjvhost.specs.declared.kept.Begun.{Begun}
use Rattle.libjvhost.specs.declared.kept.Kept.{Kept}
use Rattle.libjvhost.specs.declared.jobs.Job.{Job}
use Rattle.libjvhost.specs.declared.done.Done.{Done}
use Rattle.libjvhost.specs.Inside.Jobs.{Does}

abbrev pub Held : Type 0
Held = Option Hosted

abbrev pub hosted_in : Begun → Hosted
hosted_in begun = record { library = begun.system.now; guests = begun.host }

abbrev pub held_in : Kept → Held
held_in kept = option_map hosted_in kept.begun

abbrev pub held_of : Option Held → Held
held_of None = None
held_of (Some held) = held

-- a job over it
abbrev pub DoesOver : Job → (old new : Held) → Done → Type 0
DoesOver job None new done = new ≡ None
DoesOver job (Some old) new done =
    (after : List Admission) × (new ≡ Some (record old { guests = after })) × Does job old.library old.guests after done
