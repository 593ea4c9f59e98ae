-- What the end of a run leaves, seen from before the inputs were read.
use Rattle.std.proofs.Common.{◌≡◌, inl, inr, ℕ, ◌+◌, ◌<◌, List, [], ◌∷◌, ◌++◌, Option, refl, sym, ap, subst, ◌∙◌}
use Rattle.lvs_outside.specs.Store.{Store, SameFiles, appended}
use Rattle.lvs_outside.specs.Files.{File, IsWritten, AreWritten, ArePartWritten, WroteWhole}
use Rattle.lvs_outside.specs.Summary.{SinkState}
use Rattle.lvs_run.specs.declared.status.Refusal.{Refusal}
use Rattle.lvs_run.specs.declared.status.Refusal.TheVariants.{Words}
use Rattle.lvs_run.specs.declared.output.Output.{Output}
use Rattle.lvs_run.specs.declared.output.Verdict.{Verdict}
use Rattle.lvs_run.specs.declared.output.Verdict.TheVariants as verdict
use Rattle.lvs_run.specs.Words.{Paths, file_at, inputs}
use Rattle.lvs_run.specs.Answers.{Done, Answer, Outside, NoMemory, IsVerdict, nothing, refused, verdict_of}
use Rattle.lvs_run.specs.Lines.{line_of}
use Rattle.lvs_run.specs.Runs.{WritesAll, HasCauseIn, ShowsFaults, depot_faults, sink_faults}
use Rattle.lvs_run.specs.Inputs.{DepotFaults, Quiet, Stops, IsReady, ComesOf, stopped}
use Rattle.lvs_run.specs.Outcomes.{IsOutcome}
use Rattle.lvs_run.specs.declared.input.Stop.{Stop}
use Rattle.lvs_run.specs.declared.input.Stop.TheVariants as stop
use Rattle.lvs_run.specs.Ends.{Took, TookPart, Delivered, Refused, RefusedOnly, ComesOut, FailsAt, AtInput, AtRefusal, AtFile, AtLine}
use Rattle.lvs_run.proofs.Ready.{absent_so}

written_at : (files : List File) (old mid new : Store) (path : List ℕ) → mid.file path ≡ old.file path → IsWritten files mid new path → IsWritten files old new path
written_at [] old mid new path same h = h ∙ same
written_at (f ∷ fs) old mid new path same (inl h) = inl h
written_at (f ∷ fs) old mid new path same (inr h) = inr (h.0, written_at fs old mid new path same h.1)

-- files were written since the middle, and none before it
pub written_since : (old mid new : Store) (files : List File) → SameFiles old mid → AreWritten mid new files → AreWritten old new files
written_since old mid new files same h = record { each = λ p. written_at files old mid new p (same p) (h.each p) }

-- the depot's faults, where its calls and its empty takes stood
same_faults : (old new : Store) → new.faults ≡ old.faults → new.empty_takes ≡ old.empty_takes → depot_faults new ≡ depot_faults old
same_faults old new e f = ap (λ (n : ℕ). n + new.empty_takes) e ∙ ap (λ (n : ℕ). old.faults + n) f

whole_since : (old mid new : Store) (files : List File) → Quiet old mid → mid.absent ≡ old.absent → mid.faults ≡ old.faults → WroteWhole mid new files → WroteWhole old new files
whole_since old mid new files quiet absent faults h = record {
  written = written_since old mid new files quiet.starts.files h.written;
  closed = h.closed;
  absent = h.absent ∙ absent;
  left_open = h.left_open ∙ quiet.starts.left_open;
  faults = h.faults ∙ same_faults old mid faults quiet.empty_takes;
}

part_since : (old mid new : Store) (files : List File) → SameFiles old mid → ArePartWritten mid new files → ArePartWritten old new files
part_since old mid new files same h = record {
  whole = h.whole;
  broken = h.broken;
  later = h.later;
  order = h.order;
  written = elim h.written [
    | inl all ↦ inl (written_since old mid new h.whole same all)
    | inr part ↦ inr (record {
      front = part.front;
      behind = part.behind;
      whole = part.whole;
      holds = written_since old mid new (h.whole ++ file_at h.broken.path part.front ∷ []) same part.holds;
    })
  ];
}

went_outside : (said : Option Paths) (old new : Store) (before after : SinkState) → FailsAt said old new before after → ComesOut said old new before after Outside
went_outside said old new before after fails = record { done = nothing; comes = tt; leaves = tt; says = tt; fails = fails }

-- the outcome of a run that wrote its files
verdict_out : (stated : Option Paths) (old new : Store) (before after : SinkState) (v : Verdict) (done : Done) → IsOutcome stated (inputs stated old.file) (verdict_of v) done → WritesAll old new done.files
    → after.told ≡ appended before.told (line_of (verdict_of v) done) → ComesOut stated old new before after (verdict_of v)
verdict_out stated old new before after verdict.Good done comes wrote told = record { done = done; comes = comes; leaves = wrote; says = told; fails = tt }
verdict_out stated old new before after verdict.Bad done comes wrote told = record { done = done; comes = comes; leaves = wrote; says = told; fails = tt }
verdict_out stated old new before after verdict.Undecided done comes wrote told = record { done = done; comes = comes; leaves = wrote; says = told; fails = tt }

is_verdict : (v : Verdict) → IsVerdict (verdict_of v)
is_verdict verdict.Good = tt
is_verdict verdict.Bad = tt
is_verdict verdict.Undecided = tt

pub delivered : (stated : Option Paths) (old mid new : Store) (before after : SinkState) (o : Output) (a : Answer)
    → Quiet old mid → IsReady stated old mid o → Delivered o mid new before after a → ComesOut stated old new before after a
delivered stated old mid new before after o a quiet ready (inl h) =
    let files = written_since old mid new ready.done.files quiet.starts.files (subst (AreWritten mid new) ready.files h.1.written) in
    subst (ComesOut stated old new before after) (sym h.0)
    (verdict_out stated old new before after o.verdict ready.done ready.comes (record { written = files; left_open = h.1.left_open ∙ quiet.starts.left_open })
    (h.2.told ∙ ap (appended before.told) ready.line))
delivered stated old mid new before after o a quiet ready (inr (inl h)) =
    let absent = absent_so stated old mid o.verdict ready.cause in
    let files = whole_since old mid new ready.done.files quiet absent ready.faults (subst (WroteWhole mid new) ready.files h.1) in
    subst (ComesOut stated old new before after) (sym h.0)
    (went_outside stated old new before after (AtLine (verdict_of o.verdict) ready.done (is_verdict o.verdict) ready.comes files (subst (TookPart before after) ready.line h.2)))
delivered stated old mid new before after o a quiet ready (inr (inr h)) =
    let files = part_since old mid new ready.done.files quiet.starts.files (subst (ArePartWritten mid new) ready.files h.1.written) in
    subst (ComesOut stated old new before after) (sym h.0)
    (went_outside stated old new before after (AtFile (verdict_of o.verdict) ready.done (is_verdict o.verdict) ready.comes files h.2))

-- the counts of faults after files were written
stood : (v : Verdict) (old new : Store) (before after : SinkState) → depot_faults new ≡ depot_faults old → sink_faults after ≡ sink_faults before → ShowsFaults (verdict_of v) old new before after
stood verdict.Good old new before after e f = record { depot = e; sink = f }
stood verdict.Bad old new before after e f = record { depot = e; sink = f }
stood verdict.Undecided old new before after e f = record { depot = e; sink = f }

pub faults_delivered : (old mid new : Store) (before after : SinkState) (o : Output) (a : Answer) → Quiet old mid → mid.faults ≡ old.faults → Delivered o mid new before after a → ShowsFaults a old new before after
faults_delivered old mid new before after o a quiet same (inl h) =
    let kept = same_faults old mid same quiet.empty_takes in
    subst (λ (b : Answer). ShowsFaults b old new before after) (sym h.0) (stood o.verdict old new before after (h.1.faults ∙ kept) h.2.faults)
faults_delivered old mid new before after o a quiet same (inr (inl h)) = subst (λ (b : Answer). ShowsFaults b old new before after) (sym h.0) (inr h.2.faults)
faults_delivered old mid new before after o a quiet same (inr (inr h)) =
    let kept = same_faults old mid same quiet.empty_takes in
    subst (λ (b : Answer). ShowsFaults b old new before after) (sym h.0) (inl (subst (λ (n : ℕ). n < depot_faults new) kept h.1.faults))

-- the cause behind the answer, which stood before the files were written
caused : (v : Verdict) (stated : Option Paths) (old mid new : Store) → new.absent ≡ mid.absent → HasCauseIn stated old mid (verdict_of v) → HasCauseIn stated old new (verdict_of v)
caused verdict.Good stated old mid new e h = (h.0, e ∙ h.1)
caused verdict.Bad stated old mid new e h = (h.0, e ∙ h.1)
caused verdict.Undecided stated old mid new e h = (h.0, e ∙ h.1)

pub cause_delivered : (stated : Option Paths) (old mid new : Store) (before after : SinkState) (o : Output) (a : Answer) → HasCauseIn stated old mid (verdict_of o.verdict) → Delivered o mid new before after a
    → HasCauseIn stated old new a
cause_delivered stated old mid new before after o a cause (inl h) = subst (λ (b : Answer). HasCauseIn stated old new b) (sym h.0) (caused o.verdict stated old mid new h.1.absent cause)
cause_delivered stated old mid new before after o a cause (inr (inl h)) = subst (λ (b : Answer). HasCauseIn stated old new b) (sym h.0) tt
cause_delivered stated old mid new before after o a cause (inr (inr h)) = subst (λ (b : Answer). HasCauseIn stated old new b) (sym h.0) tt

-- a refusal's line was sent whole
sent : (stated : Option Paths) (old new : Store) (before after : SinkState) (why : Refusal)
    → Quiet old new → Stops stated old new (refused why) → Took before after (line_of (refused why) nothing) → ComesOut stated old new before after (refused why)
sent stated old new before after Words quiet stops took = record { done = nothing; comes = stops.comes nothing; leaves = quiet.starts; says = took.told; fails = tt }
sent stated old new before after why quiet stops took = record { done = nothing; comes = stops.comes nothing; leaves = quiet.starts; says = took.told; fails = tt }

-- the outcome of a refusal
refusal_comes : (stated : Option Paths) (old : Store) (why : Refusal) → ComesOf stated (inputs stated old.file) (refused why) → IsOutcome stated (inputs stated old.file) (refused why) nothing
refusal_comes stated old Words comes = comes nothing
refusal_comes stated old why comes = comes nothing

no_fault : (old new : Store) (why : Refusal) → DepotFaults (refused why) old new → new.faults ≡ old.faults
no_fault old new Words h = h
no_fault old new why h = h

-- a run that was refused went no further
refused_only : (stated : Option Paths) (old new : Store) (why : Refusal) → Quiet old new → Stops stated old new (refused why) → RefusedOnly stated old new (refused why)
refused_only stated old new why quiet stops = record {
  starts = quiet.starts;
  cause = stops.cause;
  faults = same_faults old new (no_fault old new why stops.faults) quiet.empty_takes;
}

refused_out : (stated : Option Paths) (old new : Store) (before after : SinkState) (why : Refusal) (a : Answer)
    → Quiet old new → Stops stated old new (refused why) → Refused (refused why) before after a → ComesOut stated old new before after a
refused_out stated old new before after why a quiet stops (inl h) = subst (ComesOut stated old new before after) (sym h.0) (sent stated old new before after why quiet stops h.1)
refused_out stated old new before after why a quiet stops (inr (inl h)) =
    subst (ComesOut stated old new before after) (sym h.0) (went_outside stated old new before after (AtRefusal (refused why) (refusal_comes stated old why stops.comes) (refused_only stated old new why quiet stops) h.1))
refused_out stated old new before after why a quiet stops (inr (inr h)) =
    subst (ComesOut stated old new before after) (sym h.0) (record { done = nothing; comes = tt; leaves = quiet.starts; says = (h.1.told, h.1.write_calls); fails = tt })

-- the same, from the stop that is the refusal
pub stop_out : (stated : Option Paths) (old new : Store) (before after : SinkState) (s : Stop) (why : Refusal) (a : Answer)
    → s ≡ stop.Refused why → Quiet old new → Stops stated old new (stopped s) → Refused (refused why) before after a → ComesOut stated old new before after a
stop_out stated old new before after s why a e quiet stops h = refused_out stated old new before after why a quiet (subst (λ (t : Stop). Stops stated old new (stopped t)) e stops) h

pub stopped_outside : (stated : Option Paths) (old new : Store) (sink : SinkState) → Quiet old new → ComesOut stated old new sink sink Outside
stopped_outside stated old new sink quiet = went_outside stated old new sink sink (AtInput quiet.starts (record { told = refl; write_calls = refl; faults = refl }))

pub stopped_memory : (stated : Option Paths) (old new : Store) (sink : SinkState) → Quiet old new → ComesOut stated old new sink sink NoMemory
stopped_memory stated old new sink quiet = record { done = nothing; comes = tt; leaves = quiet.starts; says = (refl, refl); fails = tt }
