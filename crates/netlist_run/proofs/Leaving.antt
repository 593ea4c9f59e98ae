-- What a run leaves, by its answer.
use Rattle.std.proofs.Common.{◌≡◌, ◌≢◌, ◌⊎◌, ◌<◌, ◌+◌, ap, inl, inr, Bool, true, false, List, ℕ, Option, Some, None, Result, Ok, Err, IfErr, IfOk, length, refl, sym, subst, ◌∙◌}
use Rattle.std.specs.Prelude.{codes}
use Rattle.lvs_outside.specs.Loops.{HoldsNow, IsFile}
use Rattle.lvs_outside.specs.Store.{Store, Told, counted}
use Rattle.lvs_outside.specs.Summary.{SinkState, counted_sink}
use Rattle.netlist_join.specs.declared.files.File.{File}
use Rattle.netlist_join.specs.declared.join.Joined.{Joined}
use Rattle.netlist_join.specs.Joining.{joined as joined_files}
use Rattle.netlist_join.specs.Seen.{seen as joined_seen}
use Rattle.netlist_join.specs.Failing.{OnlyReads}
use Rattle.netlist_join.specs.Named.{AreAsked}
use Rattle.netlist_join.specs.Loaded.{AreFiles, StartsWith, paths_of}
use Rattle.netlist_turn.specs.Made.{Made}
use Rattle.netlist_turn.specs.Turning.{turned}
use Rattle.netlist_turn.specs.declared.settings.Settings.{Settings}
use Rattle.netlist_run.specs.Sums.{told_text}
use Rattle.netlist_run.specs.Marks.{IsPlan}
use Rattle.netlist_run.specs.declared.plan.Choices.{Choices}
use Rattle.netlist_run.specs.Ends.{AtFile, AtInput, AtLines, AtRefusal, Delivers, Ends, IsReady, IsRefused, Same, Sends, SendsStop, ShowsStop, Stopped, Words, Wrote, WrotePart}
use Rattle.netlist_run.specs.Accepted.{IsAccepted, IsOutput, IsPrepared, IsJoined, AreLoaded, Stops, Lacks, NotRead, NotMade, Reads, NotJoined, Makes}
use Rattle.netlist_run.specs.Words.{Asked, is_same}
use Rattle.netlist_run.specs.declared.run.Output.{Output}
use Rattle.netlist_run.specs.declared.status.Status.{Status}
use Rattle.netlist_run.specs.declared.status.Status.TheVariants.{NoMemory, Refused}
use Rattle.netlist_run.specs.declared.status.Stop.{Stop}
use Rattle.netlist_run.specs.declared.status.Stop.TheVariants as stop

pub output_is : {E : Type 0} (r : Result Output E) (files : List File) (joined : Joined) (a : Asked) (settings : Settings) (made : Made)
    → IsPlan joined.text.items a.top a.choices settings true → turned settings joined.text.items ≡ Ok made → IfOk r (λ o. o.text.items ≡ made.text)
    → IfOk r (λ o. o.lines.items ≡ told_text a.has_title files joined.origins.items joined.comments settings.scale made.told (length made.lines)) → IfOk r (λ o. IsAccepted made.text)
    → IfOk r (λ o. IsOutput files joined a o.text.items o.lines.items)
output_is (Ok o) files joined a settings made plan e text lines accepted = record {
  settings = settings;
  made = made;
  plan = plan;
  turned = e;
  text_is = text;
  lines_are = lines;
  accepted = subst (λ (t : List ℕ). IsAccepted t) (sym text) accepted;
}
output_is (Err x) files joined a settings made plan e text lines accepted = accepted

nothing_read : (s : Store) → OnlyReads s s
nothing_read s = record { none = record { files = λ p. refl; left_open = refl }; write_calls = refl }

-- nothing is to be written
pub stop_ends : (a : Asked) (old new : Store) (before after : SinkState) (s : Stop) (t : Status) → OnlyReads old new → ShowsStop {A = Output} old new (Err s) → Stops old new a s → SendsStop s before after t
    → Ends (Some a) old new before after t
stop_ends a old new before after (stop.Refused text) t reads quiet h (inl e) =
    subst (λ (x : Status). Ends (Some a) old new before after x) (sym e.0) (record {
      leaves = record { line = text.items; why = Stopped a text refl h refl; reads = reads; sent = e.1 };
      faults = record { store = quiet; sink = e.2 };
    })
stop_ends a old new before after (stop.Refused text) t reads quiet h (inr e) =
    subst (λ (x : Status). Ends (Some a) old new before after x) (sym e.0) (record { leaves = AtRefusal text.items (Stopped a text refl h refl) reads e.1; faults = inr e.2 })
stop_ends a old new before after stop.Outside t reads quiet h e = subst (λ (x : Status). Ends (Some a) old new before after x) (sym e.0) (record { leaves = AtInput reads e.1; faults = inl quiet })
stop_ends a old new before after stop.NoMemory t reads quiet h e =
    subst (λ (x : Status). Ends (Some a) old new before after x) (sym e.0)
    (record { leaves = (reads, e.1); faults = record { store = quiet; sink = ap (λ (k : SinkState). (counted_sink k).faults) e.1 } })

-- a file is written after others were read
holds_from : (old mid new : Store) (path text : List ℕ) → OnlyReads old mid → HoldsNow (counted mid) (counted new) path text → HoldsNow (counted old) (counted new) path text
holds_from old mid new path text reads h = record { each = λ q. at q (h.each q) }
  where
    at : (q : List ℕ) → ((q ≡ path) × IsFile text (new.file q)) ⊎ ((q ≢ path) × (new.file q ≡ mid.file q)) → ((q ≡ path) × IsFile text (new.file q)) ⊎ ((q ≢ path) × (new.file q ≡ old.file q))
    at q (inl x) = inl x
    at q (inr x) = inr (x.0, x.1 ∙ reads.none.files q)

wrote_from : (old mid new : Store) (path text : List ℕ) → OnlyReads old mid → Wrote mid new path text → Wrote old new path text
wrote_from old mid new path text reads h = record { file = holds_from old mid new path text reads h.file; opened = h.opened; left_open = h.left_open ∙ reads.none.left_open }

part_from : (old mid new : Store) (path text : List ℕ) → OnlyReads old mid → WrotePart mid new path text → WrotePart old new path text
part_from old mid new path text reads (inl h) = inl (record { files = λ p. h.files p ∙ reads.none.files p; left_open = h.left_open ∙ reads.none.left_open })
part_from old mid new path text reads (inr h) = inr (record {
  file = record { front = h.file.front; behind = h.file.behind; whole = h.file.whole; holds = holds_from old mid new path h.file.front reads h.file.holds };
  left_open = h.left_open ∙ ap (λ (n : ℕ). n + 1) reads.none.left_open;
})

-- something was to be written
pub made_ends : (a : Asked) (path text lines : List ℕ) (old mid new : Store) (before after : SinkState) (t : Status) → a.out ≡ Some path → is_same a path ≡ false → OnlyReads old mid
    → mid.absent ≡ old.absent → (counted mid).faults ≡ (counted old).faults → IsPrepared old.file a text lines → Delivers path text lines mid new before after t → Ends (Some a) old new before after t
made_ends a path text lines old mid new before after t out apart reads stood quiet p h = ended h
  where
    ready : IsReady (Some a) old.file path text lines
    ready = record { ask = a; asks = refl; out = out; apart = apart; prepared = p }

    ended : Delivers path text lines mid new before after t → Ends (Some a) old new before after t
    ended (inl (w, same, none, (inl e))) =
        subst (λ (x : Status). Ends (Some a) old new before after x) (sym e.0) (record {
          leaves = record { path = path; text = text; lines = lines; ready = ready; written = wrote_from old mid new path text reads w; absent = none ∙ stood; sent = e.1 };
          faults = record { store = same ∙ quiet; sink = e.2 };
        })
    ended (inl (w, same, none, (inr e))) =
        subst (λ (x : Status). Ends (Some a) old new before after x) (sym e.0) (record { leaves = AtLines path text lines ready (wrote_from old mid new path text reads w) e.1; faults = inr e.2 })
    ended (inr e) =
        subst (λ (x : Status). Ends (Some a) old new before after x) (sym e.0)
        (record { leaves = AtFile path text lines ready (part_from old mid new path text reads e.1) e.3; faults = inl (subst (λ (n : ℕ). n < (counted new).faults) quiet e.2) })

-- nothing was read, and a line was sent
line_ends : (o : Option Asked) (line : List ℕ) (old : Store) (before after : SinkState) (t : Status) → IsRefused o old old line → Sends line before after Refused t → Ends o old old before after t
line_ends o line old before after t why (inl e) =
    subst (λ (x : Status). Ends o old old before after x) (sym e.0)
    (record { leaves = record { line = line; why = why; reads = nothing_read old; sent = e.1 }; faults = record { store = refl; sink = e.2 } })
line_ends o line old before after t why (inr e) = subst (λ (x : Status). Ends o old old before after x) (sym e.0) (record { leaves = AtRefusal line why (nothing_read old) e.1; faults = inr e.2 })

pub words_end : (o : Option Asked) (old : Store) (before after : SinkState) (t : Status) → o ≡ None → Sends (codes "refused words\n") before after Refused t → Ends o old old before after t
words_end o old before after t none h = line_ends o (codes "refused words\n") old before after t (Words none refl refl) h

pub same_ends : (a : Asked) (path : List ℕ) (old : Store) (before after : SinkState) (t : Status) → a.out ≡ Some path → is_same a path ≡ true
    → Sends (codes "refused same\n") before after Refused t → Ends (Some a) old old before after t
same_ends a path old before after t out same h = line_ends (Some a) (codes "refused same\n") old before after t (Same a path refl out same refl refl) h

-- there was no memory for the words
pub memory_ends : (o : Option Asked) (old : Store) (before : SinkState) → Ends o old old before before NoMemory
memory_ends o old before = record { leaves = (nothing_read old, refl); faults = record { store = refl; sink = refl } }

-- the words' answer
pub asked_ends : (o : Option Asked) (a : Asked) (old new : Store) (before after : SinkState) (t : Status) → Some a ≡ o → Ends (Some a) old new before after t → Ends o old new before after t
asked_ends o a old new before after t e h = subst (λ (x : Option Asked). Ends x old new before after t) e h

-- the reader's refusal is one of what was made
pub reads_of : (r : Result Output Stop) (files : List File) (joined : Joined) (a : Asked) (settings : Settings) (made : Made) → IsPlan joined.text.items a.top a.choices settings true
    → turned settings joined.text.items ≡ Ok made → IfErr r (NotRead files joined.origins.items made) → IfErr r (NotMade files joined a)
reads_of (Ok o) files joined a settings made plan e h = tt
reads_of (Err s) files joined a settings made plan e h = Reads settings made plan e h

pub makes_of : (r : Result Output Stop) (files : List File) (joined : Joined) (a : Asked) → joined_files files (length a.inputs) a.has_title ≡ Ok (joined_seen joined)
    → IfErr r (NotMade files joined a) → IfErr r (NotJoined files a)
makes_of (Ok o) files joined a e h = tt
makes_of (Err s) files joined a e h = Makes joined e h

pub joined_of : (r : Result Output Stop) (files : List File) (joined : Joined) (a : Asked) → joined_files files (length a.inputs) a.has_title ≡ Ok (joined_seen joined)
    → IfOk r (λ o. IsOutput files joined a o.text.items o.lines.items) → IfOk r (λ o. IsJoined files a o.text.items o.lines.items)
joined_of (Ok o) files joined a e h = record { joined = joined; joins = e; output = h }
joined_of (Err s) files joined a e h = tt

pub lacks_of : (r : Result Output Stop) (old new : Store) (files : List File) (a : Asked) → AreLoaded old.file a files → new.absent ≡ old.absent → IfErr r (NotJoined files a)
    → IfErr r (Stops old new a)
lacks_of (Ok o) old new files a l stood h = tt
lacks_of (Err s) old new files a l stood h = Lacks files l stood h

pub lacks_then : (r : Result Output Stop) (old new : Store) (files : List File) (a : Asked) → IfErr r (NotJoined files a) → new.absent ≡ old.absent → AreLoaded old.file a files
    → IfErr r (Stops old new a)
lacks_then r old new files a h stood l = lacks_of r old new files a l stood h

pub prepared_of : (r : Result Output Stop) (file : List ℕ → Told) (files : List File) (a : Asked) → AreLoaded file a files → IfOk r (λ o. IsJoined files a o.text.items o.lines.items)
    → IfOk r (λ o. IsPrepared file a o.text.items o.lines.items)
prepared_of (Ok o) file files a l h = record { files = files; loaded = l; joined = h }
prepared_of (Err s) file files a l h = tt

pub loaded : (file : List ℕ → Told) (a : Asked) (files : List File) → AreFiles file files → StartsWith (paths_of files) a.inputs → AreAsked a.inputs files → AreLoaded file a files
loaded file a files told inputs asked = record { told = told; inputs = inputs; asked = asked }

pub plan_for : (bytes text : List ℕ) (o top : Option (List ℕ)) (l : Choices) (s : Settings) (f g : Bool) → IsPlan bytes o l s f → bytes ≡ text → o ≡ top → f ≡ g → IsPlan text top l s g
plan_for bytes text o top l s f g h e1 e2 e3 =
    subst (λ (b : Bool). IsPlan text top l s b) e3 (subst (λ (x : Option (List ℕ)). IsPlan text x l s f) e2 (subst (λ (t : List ℕ). IsPlan t o l s f) e1 h))
