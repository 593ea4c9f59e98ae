-- What a run comes to, and that the counts of faults show it.
use Rattle.std.proofs.Common.{◌≡◌, ◌≢◌, inl, inr, ℕ, ◌+◌, ◌-◌, ◌^◌, ◌<◌, List, ◌∷◌, Option, Some, None, IfSome, refl, sym, ap, subst, ◌∙◌, arith}
use Rattle.lvs_outside.specs.Files.{AreApart, File}
use Rattle.lvs_outside.specs.Store.{HasRoom, Store}
use Rattle.lvs_outside.specs.Summary.{SinkState}
use Rattle.lvs_run.specs.Answers.{Answer, Outside, RefusedMergedLayout, RefusedMergedSchematic, RefusedSame, RefusedWords, refused}
use Rattle.lvs_run.specs.Answers as run
use Rattle.lvs_run.specs.Inputs.{DepotFaults, Quiet}
use Rattle.lvs_run.specs.Runs.{depot_faults, sink_faults}
use Rattle.lvs_run.specs.Words.{file_at}
use Rattle.lvs_run.specs.declared.status.Refusal.{Refusal}
use Rattle.lvs_run.specs.declared.status.Refusal.TheVariants.{Words}
use Rattle.lvs_run.proofs.Stopping.{quiet_self}
use Rattle.lvs_run.proofs.Widths.{IsOfMerge, only_these}
use Rattle.gds_layout.specs.declared.layout.Layout.{Layout}
use Rattle.pair_jobs.specs.declared.verdict.Verdict.{Verdict}
use Rattle.pair_jobs.specs.declared.verdict.Verdict.TheVariants as verdict
use Rattle.plain_netlist.specs.Netlist.{Netlist}
use Rattle.report_file.specs.Combined.{wide_name}
use Rattle.rule_text.specs.Rules.{Rules}
use Rattle.view_run.specs.Stated.{Asked}
use Rattle.view_run.specs.Ends.{AsRun, End, ShowsTheFaults, TooFar, refused_for, stopped, verdict_end}
use Rattle.view_run.specs.Runs.{BadLayout, BadRules, BadSchematic, Comes, Delivers, IsPageApart, IsReady, IsSilent, NoMemory, NothingMade, Refused, SamePath, Sends, Stopped, Stops, WrongWords, Wrote, page_files}
use Rattle.view_run.specs.Far.{Far, Memory, NotMade, Wide}
use Rattle.view_run.specs.declared.status.Stop.{Stop}
use Rattle.view_run.specs.declared.status.Stop.TheVariants as stop
use Rattle.view_run.specs.declared.status.Why.{Why}
use Rattle.view_run.specs.declared.status.Why.TheVariants as why

-- the depot's faults rose exactly with the answer Outside
abbrev pub EndFaults : End → Store → Store → Type 0
EndFaults (AsRun a) old new = DepotFaults a old new
EndFaults TooFar old new = new.faults ≡ old.faults

faults_since : (old mid new : Store) (a : Answer) → mid.faults ≡ old.faults → DepotFaults a mid new → DepotFaults a old new
faults_since old mid new Outside e h = subst (λ (n : ℕ). n < new.faults) e h
faults_since old mid new a e h = h ∙ e

of_merge : (old new : Store) (a : Answer) → IsOfMerge a → new.faults ≡ old.faults → DepotFaults a old new
of_merge old new (RefusedMergedLayout name) h e = e
of_merge old new (RefusedMergedSchematic name) h e = e
of_merge old new a h e = absurd h

as_end : (old new : Store) (e f : End) → e ≡ f → EndFaults f old new → EndFaults e old new
as_end old new e f same h = subst (λ (x : End). EndFaults x old new) (sym same) h

not_made : (l : Layout) (r : Rules) (nl : Netlist) (old new : Store) (e : End) → NotMade l r nl e → new.faults ≡ old.faults → EndFaults e old new
not_made l r nl old new e (Wide a w same) h = as_end old new e (AsRun a) same (of_merge old new a (only_these (wide_name r w.netlist) (wide_name r nl) a w.refused) h)
not_made l r nl old new e (Far far same) h = as_end old new e TooFar same h
not_made l r nl old new e (Memory same) h = as_end old new e (AsRun run.NoMemory) same h

pub stop_faults : (words : Option Asked) (old new : Store) (e : End) → Stops words old new e → EndFaults e old new
stop_faults words old new e (WrongWords none same is) = as_end old new e (AsRun RefusedWords) same (ap (λ (s : Store). s.faults) is)
stop_faults words old new e (SamePath q path stated shared same is) = as_end old new e (AsRun (RefusedSame path)) same (ap (λ (s : Store). s.faults) is)
stop_faults words old new e (BadRules q a asks h same) = as_end old new e (AsRun a) same h.faults
stop_faults words old new e (BadLayout q r mid a reads stood h same) = as_end old new e (AsRun a) same (faults_since old mid new a stood h.faults)
stop_faults words old new e (BadSchematic q r l mid a reads stood h same) = as_end old new e (AsRun a) same (faults_since old mid new a stood h.faults)
stop_faults words old new e (NothingMade q r l nl reads h stood) = not_made l r nl old new e h stood
stop_faults words old new e (NoMemory same stood) = as_end old new e (AsRun run.NoMemory) same stood

-- the depot's faults, where its calls and its empty takes stood
same_faults : (old new : Store) → new.faults ≡ old.faults → new.empty_takes ≡ old.empty_takes → depot_faults new ≡ depot_faults old
same_faults old new e f = ap (λ (n : ℕ). n + new.empty_takes) e ∙ ap (λ (n : ℕ). old.faults + n) f

no_fault : (old new : Store) (r : Refusal) → DepotFaults (refused r) old new → new.faults ≡ old.faults
no_fault old new Words h = h
no_fault old new r h = h

why_stood : (old new : Store) (w : Why) → EndFaults (refused_for w) old new → new.faults ≡ old.faults
why_stood old new (why.Run r) h = no_fault old new r h
why_stood old new why.View h = h

refusal_shows : (old new : Store) (before after : SinkState) (r : Refusal) → depot_faults new ≡ depot_faults old → sink_faults after ≡ sink_faults before → ShowsTheFaults (AsRun (refused r)) old new before after
refusal_shows old new before after Words d s = record { depot = d; sink = s }
refusal_shows old new before after r d s = record { depot = d; sink = s }

why_shows : (old new : Store) (before after : SinkState) (w : Why) → depot_faults new ≡ depot_faults old → sink_faults after ≡ sink_faults before → ShowsTheFaults (refused_for w) old new before after
why_shows old new before after (why.Run r) d s = refusal_shows old new before after r d s
why_shows old new before after why.View d s = record { depot = d; sink = s }

verdict_shows : (old new : Store) (before after : SinkState) (v : Verdict) → depot_faults new ≡ depot_faults old → sink_faults after ≡ sink_faults before → ShowsTheFaults (verdict_end v) old new before after
verdict_shows old new before after verdict.Match d s = record { depot = d; sink = s }
verdict_shows old new before after verdict.Mismatch d s = record { depot = d; sink = s }
verdict_shows old new before after verdict.Undecided d s = record { depot = d; sink = s }

as_shown : (old new : Store) (before after : SinkState) (e f : End) → e ≡ f → ShowsTheFaults f old new before after → ShowsTheFaults e old new before after
as_shown old new before after e f same h = subst (λ (x : End). ShowsTheFaults x old new before after) (sym same) h

sends_shows : (old new : Store) (before after : SinkState) (w : Why) (e : End) → depot_faults new ≡ depot_faults old → Sends (refused_for w) before after e → ShowsTheFaults e old new before after
sends_shows old new before after w e d (inl h) = as_shown old new before after e (refused_for w) h.0 (why_shows old new before after w d h.1.faults)
sends_shows old new before after w e d (inr (inl h)) = as_shown old new before after e (AsRun Outside) h.0 (inr h.1.faults)
sends_shows old new before after w e d (inr (inr h)) = as_shown old new before after e (AsRun run.NoMemory) h.0 (record { depot = d; sink = h.1.faults })

delivers_shows : (old mid new : Store) (before after : SinkState) (v : Verdict) (files : List File) (line : List ℕ) (e : End) → depot_faults mid ≡ depot_faults old → Delivers files line (verdict_end v) mid new before after e
    → ShowsTheFaults e old new before after
delivers_shows old mid new before after v files line e d (inl h) = as_shown old new before after e (verdict_end v) h.0 (verdict_shows old new before after v (h.1.faults ∙ d) h.2.faults)
delivers_shows old mid new before after v files line e d (inr (inl h)) = as_shown old new before after e (AsRun Outside) h.0 (inr h.2.faults)
delivers_shows old mid new before after v files line e d (inr (inr h)) = as_shown old new before after e (AsRun Outside) h.0 (inl (subst (λ (n : ℕ). n < depot_faults new) d h.1.faults))

risen : (old new : Store) → old.faults < new.faults → new.empty_takes ≡ old.empty_takes → depot_faults old < depot_faults new
risen old new lt e = omega (arith, lt, e)

silent_shows : (old new : Store) (before after : SinkState) (e : End) → Quiet old new → EndFaults e old new → IsSilent e → after ≡ before → ShowsTheFaults e old new before after
silent_shows old new before after e quiet h (inl same) s =
    as_shown old new before after e (AsRun Outside) same (inl (risen old new (subst (λ (x : End). EndFaults x old new) same h) quiet.empty_takes))
silent_shows old new before after e quiet h (inr same) s =
    as_shown old new before after e (AsRun run.NoMemory) same (record { depot = same_faults old new (subst (λ (x : End). EndFaults x old new) same h) quiet.empty_takes; sink = ap sink_faults s })

pub comes_shows : (words : Option Asked) (old new : Store) (before after : SinkState) (e : End) → Comes words old new before after e → ShowsTheFaults e old new before after
comes_shows words old new before after e (Refused w quiet stops sends) =
    sends_shows old new before after w e (same_faults old new (why_stood old new w (stop_faults words old new (refused_for w) stops)) quiet.empty_takes) sends
comes_shows words old new before after e (Stopped quiet stops silent same) = silent_shows old new before after e quiet (stop_faults words old new e stops) silent same
comes_shows words old new before after e (Wrote mid v files line quiet ready delivers) =
    delivers_shows old mid new before after v files line e (same_faults old mid ready.faults quiet.empty_takes) delivers

-- ---- the ends of a run that read its words

pub refused_run : (words : Option Asked) (old new : Store) (before after : SinkState) (s : Stop) (w : Why) (e : End) → s ≡ stop.Refused w → Quiet old new → Stops words old new (stopped s) → Sends (refused_for w) before after e
    → Comes words old new before after e
refused_run words old new before after s w e same quiet stops sends = Refused w quiet (subst (λ (t : Stop). Stops words old new (stopped t)) same stops) sends

pub outside_run : (words : Option Asked) (old new : Store) (sink : SinkState) → Quiet old new → Stops words old new (AsRun Outside) → Comes words old new sink sink (AsRun Outside)
outside_run words old new sink quiet stops = Stopped quiet stops (inl refl) refl

-- the same, from the stop
pub outside_stop : (words : Option Asked) (old new : Store) (sink : SinkState) (s : Stop) → s ≡ stop.Outside → Quiet old new → Stops words old new (stopped s) → Comes words old new sink sink (AsRun Outside)
outside_stop words old new sink s same quiet stops = outside_run words old new sink quiet (subst (λ (t : Stop). Stops words old new (stopped t)) same stops)

pub memory_run : (words : Option Asked) (old new : Store) (sink : SinkState) → Quiet old new → Stops words old new (AsRun run.NoMemory) → Comes words old new sink sink (AsRun run.NoMemory)
memory_run words old new sink quiet stops = Stopped quiet stops (inr refl) refl

pub wrote_run : (words : Option Asked) (old mid new : Store) (before after : SinkState) (v : Verdict) (files : List File) (line : List ℕ) (e : End) → Quiet old mid → IsReady words old mid v files line
    → Delivers files line (verdict_end v) mid new before after e → Comes words old new before after e
wrote_run words old mid new before after v files line e quiet ready delivers = Wrote mid v files line quiet ready delivers

-- refused for its words, or want of memory for them
pub words_run : (words : Option Asked) (s : Store) (before after : SinkState) (e : End) → words ≡ None → Sends (AsRun RefusedWords) before after e → Comes words s s before after e
words_run words s before after e none sends = Refused (why.Run Words) (quiet_self s) (WrongWords none refl refl) sends

-- refused for a path that stands twice
pub same_run : (words : Option Asked) (q : Asked) (r : Refusal) (path : List ℕ) (s : Store) (before after : SinkState) (e : End) → words ≡ Some q → q.shared ≡ Some path → refused r ≡ RefusedSame path
    → Sends (AsRun (RefusedSame path)) before after e → Comes words s s before after e
same_run words q r path s before after e stated shared same sends =
    Refused (why.Run r) (quiet_self s) (SamePath q path stated shared (ap (λ (a : Answer). AsRun a) same) refl) (subst (λ (a : Answer). Sends (AsRun a) before after e) (sym same) sends)

pub no_words_run : (words : Option Asked) (s : Store) (sink : SinkState) → Comes words s s sink sink (AsRun run.NoMemory)
no_words_run words s sink = Stopped (quiet_self s) (NoMemory refl refl) (inr refl) refl

at_paths : (path text : List ℕ) (o page : Option (List ℕ)) → IfSome o (λ p. path ≢ p) → AreApart (file_at path text ∷ page_files o page)
at_paths path text None page h = (tt, tt)
at_paths path text (Some p) None h = (tt, tt)
at_paths path text (Some p) (Some t) h = ((h, tt), (tt, tt))

-- files with the page at another path are apart
pair_apart : (q : Asked) (text : List ℕ) (page : Option (List ℕ)) → IsPageApart q → AreApart (file_at q.database text ∷ page_files q.page page)
pair_apart q text page h = at_paths q.database text q.page page h

pub ready_apart : (q : Asked) (old new : Store) (v : Verdict) (files : List File) (line : List ℕ) → IsPageApart q → IsReady (Some q) old new v files line → AreApart files
ready_apart q old new v files line apart h =
    let same : q ≡ h.asked = (let e : Some q ≡ Some h.asked = h.reads.layout.rules.asks.stated in cc) in
    subst AreApart (sym h.files_are) (pair_apart h.asked h.text h.page (subst IsPageApart same apart))

room : (a b c x y z n : ℕ) → x + y + z < n → a ≡ x → b ≡ y → c ≡ z → a + b + c < n
room a b c x y z n h p q r = rw (p, q, r) h

-- the inputs' reading leaves room for calls
pub ready_room : (words : Option Asked) (old new : Store) (v : Verdict) (files : List File) (line : List ℕ) → HasRoom old → Quiet old new → IsReady words old new v files line → HasRoom new
ready_room words old new v files line h quiet ready =
    let all = ready.reads in
    let absent = all.schematic.got.absent ∙ (all.layout.layout.got.absent ∙ all.layout.rules.rules.got.absent) in
    room new.faults new.absent new.empty_takes old.faults old.absent old.empty_takes (2 ^ 64 - 1) h ready.faults absent quiet.empty_takes
