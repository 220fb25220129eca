use Rattle.std.proofs.Common.{◌≡◌, ◌∷◌, [], ◌++◌, ◌∙◌, List, ℕ, ap, append_assoc, subst, sym}
use Rattle.std.specs.Global.{Vec}
use Rattle.jv_program_base.specs.declared.failure.Failure.TheVariants.{Unreadable}
use Rattle.std.specs.Prelude.{codes}
use Rattle.jv_program_base.specs.Escape.{escaped_text}
use Rattle.jv_program_base.specs.Failure.{failure_line}
use Rattle.jv_program.specs.Written.{IsWritten}
use Rattle.jv_program.proofs.telling.tell_failure.Goals as goal

pub returns-in-StandardInput-clause-written : goal.returns-in-StandardInput-clause-written
returns-in-StandardInput-clause-written g c =
    subst (λ f. IsWritten c.tell_reason.result (g.E.Sink.contents c.args.err.now) (g.E.Sink.contents c.tell_reason.new.err) (failure_line f))
    (sym c.in-StandardInput.is)
    c.tell_reason.ensures.written

pub returns-in-TooManyFolders-clause-written : goal.returns-in-TooManyFolders-clause-written
returns-in-TooManyFolders-clause-written g c =
    subst (λ f. IsWritten c.tell_reason-in-TooManyFolders.result (g.E.Sink.contents c.args.err.now) (g.E.Sink.contents c.tell_reason-in-TooManyFolders.new.err) (failure_line f))
    (sym c.in-TooManyFolders.is)
    c.tell_reason-in-TooManyFolders.ensures.written

pub returns-in-NoGuest-clause-written : goal.returns-in-NoGuest-clause-written
returns-in-NoGuest-clause-written g c =
    subst (λ f. IsWritten c.tell_reason-in-NoGuest.result (g.E.Sink.contents c.args.err.now) (g.E.Sink.contents c.tell_reason-in-NoGuest.new.err) (failure_line f))
    (sym c.in-NoGuest.is)
    c.tell_reason-in-NoGuest.ensures.written

pub returns-in-HostMemory-clause-written : goal.returns-in-HostMemory-clause-written
returns-in-HostMemory-clause-written g c =
    subst (λ f. IsWritten c.tell_reason-in-HostMemory.result (g.E.Sink.contents c.args.err.now) (g.E.Sink.contents c.tell_reason-in-HostMemory.new.err) (failure_line f))
    (sym c.in-HostMemory.is)
    c.tell_reason-in-HostMemory.ensures.written

pub returns-in-OutOfMemory-clause-written : goal.returns-in-OutOfMemory-clause-written
returns-in-OutOfMemory-clause-written g c =
    subst (λ f. IsWritten c.tell_reason-in-OutOfMemory.result (g.E.Sink.contents c.args.err.now) (g.E.Sink.contents c.tell_reason-in-OutOfMemory.new.err) (failure_line f))
    (sym c.in-OutOfMemory.is)
    c.tell_reason-in-OutOfMemory.ensures.written

line_of : (name : Vec ℕ) → codes "jvhost: " ++ (escaped_text name.items ++ codes ": " ++ codes "cannot be read") ++ 10 ∷ [] ≡ failure_line (Unreadable name)
line_of name = simp append_assoc

pub returns-in-Unreadable-clause-written : goal.returns-in-Unreadable-clause-written
returns-in-Unreadable-clause-written g c =
    let e0 = g.E.Sink.contents c.args.err.now in
    let e1 = g.E.Sink.contents c.tell_name.new.err in
    let line : codes "jvhost: " ++ (escaped_text c.as_slice.result.now ++ codes ": " ++ codes "cannot be read") ++ 10 ∷ [] ≡ failure_line c.args.failure.now =
    ap (λ (name : List ℕ). codes "jvhost: " ++ (escaped_text name ++ codes ": " ++ codes "cannot be read") ++ 10 ∷ []) c.as_slice.ensures.value
    ∙ line_of c.in-Unreadable.name ∙ ap failure_line (sym c.in-Unreadable.is) in
    subst (λ (l : List ℕ). IsWritten c.tell_name.result e0 e1 l) line c.tell_name.ensures.written
