-- The written texts against the told files.
use Rattle.std.proofs.Common.{◌≡◌, inl, inr, ℕ, List, [], ◌∷◌, length, Option, refl, sym, subst, ◌∙◌}
use Rattle.std.proofs.lemmas.List.{nil_from_length}
use Rattle.lvs_outside.specs.Store.{Store, Told, Holds}
use Rattle.lvs_outside.specs.Summary.{SinkState}
use Rattle.lvs_outside.specs.Files.{File, IsWritten, AreWritten, IsApart, AreApart, files_of}
use Rattle.gds_layout.specs.declared.layout.Layout.{Layout as ReadLayout}
use Rattle.run_layout.specs.RunLayout.{IsRunLayout}
use Rattle.shapes_file.specs.Flat.{CoversFlat}
use Rattle.shapes_file.specs.File.{IsShapesFile}
use Rattle.rule_text.specs.Rules as rule_sets
use Rattle.rule_text.specs.Reading.{Means}
use Rattle.lvs_run.specs.declared.status.Refusal.{Refusal}
use Rattle.lvs_run.specs.declared.status.Refusal.TheVariants.{Words}
use Rattle.lvs_run.specs.declared.output.Output.{Output}
use Rattle.lvs_run.specs.Words.{Outputs, ToShapes, ToNetlist, ToReport, ToChip, ForNetlist, ForShapes, Paths}
use Rattle.lvs_run.specs.Answers.{Done, Answer, Good, Bad, Undecided, IsVerdict, comparison_answer, refused, verdict_of}
use Rattle.lvs_run.specs.Outcomes.{IsDone, IsDoneBeside, gates_answer}
use Rattle.lvs_run.specs.Inputs.{Quiet, IsInput, ReadAs, IsReady}
use Rattle.lvs_run.specs.Ends.{Delivered, Refused}
use Rattle.deep_tables.specs.declared.gates.BadGate.{BadGate}
use Rattle.netlist_file.specs.File.{IsNetlistFile}
use Rattle.netlist_file.specs.Flat.{ShowsFlat}
use Rattle.cell_graph.specs.Linked.{Linked}
use Rattle.match_laws.specs.Answer.{Answer as PairAnswer}
use Rattle.pair_jobs.specs.Verdict.{IsRunVerdict}
use Rattle.pair_jobs.specs.declared.verdict.Verdict.{Verdict as Comparison}
use Rattle.pair_jobs.specs.declared.verdict.Verdict.TheVariants as comparison
use Rattle.report_file.specs.File.{IsReportFile, all_answers}
use Rattle.plain_netlist.specs.Netlist.{Netlist}
use Rattle.lvs_run.specs.Flat.{HoldsAs, IsFlatNetlist, IsFlatText, IsNetlistOf, ListsAs, OfInputs, OfStated, TellsGates, WhereTold, WritesFlat, WritesNetlist}
use Rattle.lvs_run.proofs.Gates.{of_gates}

-- ---- what a listed file holds

-- a path that no file of the list has isn't listed
not_listed : (files : List File) (path : List ℕ) (P : List ℕ → Type 0) → IsApart path files → ListsAs files path P → ⊥
not_listed [] path P apart h = h
not_listed (f ∷ fs) path P apart (inl h) = apart.0 (sym h.0)
not_listed (f ∷ fs) path P apart (inr h) = not_listed fs path P apart.1 h

holds_written : (files : List File) (old new : Store) (path : List ℕ) (P : List ℕ → Type 0) → AreApart files → ListsAs files path P → IsWritten files old new path → HoldsAs (new.file path) P
holds_written [] old new path P apart h w = absurd h
holds_written (f ∷ fs) old new path P apart (inl h) (inl w) = record { text = f.text; held = w.1; is = h.1 }
holds_written (f ∷ fs) old new path P apart (inl h) (inr w) = absurd (w.0 (sym h.0))
holds_written (f ∷ fs) old new path P apart (inr h) (inl w) = absurd (not_listed fs path P (subst (λ (p : List ℕ). IsApart p fs) (sym w.0) apart.0) h)
holds_written (f ∷ fs) old new path P apart (inr h) (inr w) = holds_written fs old new path P apart.1 h w.1

-- after files were written, what they hold
pub held_delivered : (old new : Store) (before after : SinkState) (o : Output) (a : Answer) (done : Done) (path : List ℕ) (P : List ℕ → Type 0)
    → files_of o.files.items ≡ done.files → AreApart done.files → ListsAs done.files path P → Delivered o old new before after a → IsVerdict a → HoldsAs (new.file path) P
held_delivered old new before after o a done path P same apart lists (inl h) v = let w = subst (AreWritten old new) same h.1.written in holds_written done.files old new path P apart lists (w.each path)
held_delivered old new before after o a done path P same apart lists (inr (inl h)) v = absurd (subst IsVerdict h.0 v)
held_delivered old new before after o a done path P same apart lists (inr (inr h)) v = absurd (subst IsVerdict h.0 v)

-- a refusal writes no files
no_verdict : (why : Refusal) → IsVerdict (refused why) → ⊥
no_verdict Words v = v
no_verdict why v = v

pub none_written : (before after : SinkState) (why : Refusal) (a : Answer) → Refused (refused why) before after a → IsVerdict a → ⊥
none_written before after why a (inl h) v = no_verdict why (subst IsVerdict h.0 v)
none_written before after why a (inr (inl h)) v = subst IsVerdict h.0 v
none_written before after why a (inr (inr h)) v = subst IsVerdict h.0 v

-- ---- a fact of the told inputs

pub where_told : (rules layout : Told) (r : rule_sets.Rules) (v : ReadLayout) (top : Option (List ℕ)) (P : ReadLayout → rule_sets.Rules → Type 0) (rule_bytes bytes : List ℕ)
    → IsInput rule_bytes rules → IsInput bytes layout → Means rule_bytes r → IsRunLayout bytes top r v → P v r → WhereTold rules layout top P
where_told (Holds rules) (Holds layout) r v top P rule_bytes bytes a b means read h =
    record { rule_set = r; meant = subst (λ (xs : List ℕ). Means xs r) a.0 means; layout = v; read = subst (λ (xs : List ℕ). IsRunLayout xs top r v) b.0 read; is = h }
where_told rules layout r v top P rule_bytes bytes a b means read h = tt

-- what was read is told so
pub of_inputs : (p : Paths) (old mid new : Store) (r : rule_sets.Rules) (v : ReadLayout) (P : ReadLayout → rule_sets.Rules → Type 0) → Quiet old mid → ReadAs old mid p.rules (λ bytes. Means bytes r)
    → ReadAs mid new p.layout (λ bytes. IsRunLayout bytes p.top r v) → P v r → OfInputs old.file p P
of_inputs p old mid new r v P quiet rules layout h =
    let told : IsInput layout.bytes (old.file p.layout) = subst (IsInput layout.bytes) (quiet.starts.files p.layout) layout.got.told in
    where_told (old.file p.rules) (old.file p.layout) r v p.top P rules.bytes layout.bytes rules.got.told told rules.is layout.is h

-- ---- the shapes file

-- each command lists its shapes file
lists_shapes : (o : Outputs) (l : ReadLayout) (r : rule_sets.Rules) (a : Answer) (done : Done) (P : List ℕ → Type 0)
    → ((text : List ℕ) (cells rectangles : ℕ) → IsShapesFile l r text cells rectangles → P text) → IsDone o l r a done → ForShapes o (λ (path : List ℕ). ListsAs done.files path P)
lists_shapes (ToShapes shapes) l r a done P f h = let made = h.1 in rw made.whole (inl (refl, f made.text made.cells made.rectangles made.file))
lists_shapes (ToNetlist shapes netlist) l r a done P f h = rw h.whole (inl (refl, f h.text h.cells h.rectangles h.file))
lists_shapes (ToReport schematic shapes netlist report) l r a done P f h = absurd h
lists_shapes (ToChip n seed prefix) l r a done P f h = absurd h

-- and of a comparison
lists_beside : (o : Outputs) (l : ReadLayout) (r : rule_sets.Rules) (nl : Netlist) (a : Answer) (done : Done) (P : List ℕ → Type 0)
    → ((text : List ℕ) (cells rectangles : ℕ) → IsShapesFile l r text cells rectangles → P text) → IsDoneBeside o l r nl a done → ForShapes o (λ (path : List ℕ). ListsAs done.files path P)
lists_beside (ToReport schematic shapes netlist report) l r nl a done P f h = rw h.whole (inl (refl, f h.text h.cells h.rectangles h.file))
lists_beside (ToShapes shapes) l r nl a done P f h = absurd h
lists_beside (ToNetlist shapes netlist) l r nl a done P f h = absurd h
lists_beside (ToChip n seed prefix) l r nl a done P f h = tt

pub flat_listed : (p : Paths) (old mid new : Store) (r : rule_sets.Rules) (v : ReadLayout) (a : Answer) (done : Done) → Quiet old mid → ReadAs old mid p.rules (λ bytes. Means bytes r)
    → ReadAs mid new p.layout (λ bytes. IsRunLayout bytes p.top r v) → ((text : List ℕ) (cells rectangles : ℕ) → IsShapesFile v r text cells rectangles → CoversFlat v r text) → IsDone p.outputs v r a done
    → ForShapes p.outputs (λ (path : List ℕ). ListsAs done.files path (IsFlatText old.file p))
flat_listed p old mid new r v a done quiet rules layout covers made =
    lists_shapes p.outputs v r a done (IsFlatText old.file p)
    (λ text cells rectangles file. of_inputs p old mid new r v (λ (l : ReadLayout) (q : rule_sets.Rules). CoversFlat l q text) quiet rules layout (covers text cells rectangles file)) made

-- where the command writes one, its file holds it
shapes_held : (out : Outputs) (old new : Store) (before after : SinkState) (o : Output) (a : Answer) (done : Done) (P : List ℕ → Type 0)
    → files_of o.files.items ≡ done.files → AreApart done.files → ForShapes out (λ (path : List ℕ). ListsAs done.files path P) → Delivered o old new before after a → IsVerdict a
    → ForShapes out (λ (path : List ℕ). HoldsAs (new.file path) P)
shapes_held (ToShapes shapes) old new before after o a done P same apart lists h v = held_delivered old new before after o a done shapes P same apart lists h v
shapes_held (ToNetlist shapes netlist) old new before after o a done P same apart lists h v = held_delivered old new before after o a done shapes P same apart lists h v
shapes_held (ToReport schematic shapes netlist report) old new before after o a done P same apart lists h v = held_delivered old new before after o a done shapes P same apart lists h v
shapes_held (ToChip n seed prefix) old new before after o a done P same apart lists h v = tt

pub flat_delivered : (stated : Option Paths) (old mid new : Store) (before after : SinkState) (o : Output) (a : Answer)
    → IsReady stated old mid o → Delivered o mid new before after a → WritesFlat stated old new a
flat_delivered stated old mid new before after o a ready h v =
    let p = ready.paths in
    subst (λ (s : Option Paths). OfStated s (λ (q : Paths). ForShapes q.outputs (λ (path : List ℕ). HoldsAs (new.file path) (IsFlatText old.file q)))) (sym ready.stated)
    (shapes_held p.outputs mid new before after o a ready.done (IsFlatText old.file p) ready.files ready.apart ready.flat h v)

-- ---- the netlist's file

-- what the answer of a command says of the gates that were told
abbrev Tells : Outputs → List BadGate → Answer → Type 0
Tells (ToNetlist shapes netlist) bad a = a ≡ gates_answer bad
Tells o bad a = a ≡ Good → bad ≡ []

tells_gates : (o : Outputs) (l : ReadLayout) (r : rule_sets.Rules) (a : Answer) (nl : Netlist) (top : ℕ) (bad : List BadGate) (text : List ℕ) → Tells o bad a → ShowsFlat l r text nl top bad → TellsGates o l r a
tells_gates (ToNetlist shapes netlist) l r a nl top bad text e shows = of_gates l r text nl top bad a e shows
tells_gates (ToShapes shapes) l r a nl top bad text e shows = λ g. shows.no_bad.0 (e g)
tells_gates (ToReport schematic shapes netlist report) l r a nl top bad text e shows = λ g. shows.no_bad.0 (e g)
tells_gates (ToChip n seed prefix) l r a nl top bad text e shows = λ g. shows.no_bad.0 (e g)

netlist_of : (o : Outputs) (l : ReadLayout) (r : rule_sets.Rules) (a : Answer) (nl : Netlist) (top : ℕ) (bad : List BadGate) (text : List ℕ) → Tells o bad a → ShowsFlat l r text nl top bad → IsNetlistOf o l r a text
netlist_of o l r a nl top bad text e shows = record { netlist = nl; circuit = top; bad = bad; shows = shows; gates = tells_gates o l r a nl top bad text e shows }

-- after a match there is no bad gate
match_has_none : (bad : List BadGate) (v : Comparison) (a : Answer) (answers : Option (List PairAnswer)) → a ≡ comparison_answer v → IsRunVerdict (length bad) answers v → a ≡ Good → bad ≡ []
match_has_none bad comparison.Match a answers e h g = nil_from_length bad h.0
match_has_none bad comparison.Mismatch a answers e h g = let no : Bad ≡ Good = sym e ∙ g in cc
match_has_none bad comparison.Undecided a answers e h g = let no : Undecided ≡ Good = sym e ∙ g in cc

match_none : {d : Linked} {r : rule_sets.Rules} {nl : Netlist} {top : ℕ} {sch : Netlist} {text : List ℕ} {pairs : ℕ} → (bad : List BadGate) (v : Comparison) (a : Answer) → a ≡ comparison_answer v → IsReportFile d r nl top bad sch text pairs v
    → a ≡ Good → bad ≡ []
match_none bad v a e h g = match_has_none bad v a (all_answers h.compared) e h.outcome g

-- each command that writes a netlist lists its file
lists_netlist : (o : Outputs) (l : ReadLayout) (r : rule_sets.Rules) (a : Answer) (done : Done) (P : List ℕ → Type 0)
    → ((nl : Netlist) (top : ℕ) (bad : List BadGate) (text : List ℕ) → Tells o bad a → IsNetlistFile l r nl top bad text → P text) → IsDone o l r a done
    → ForNetlist o (λ (path : List ℕ). ListsAs done.files path P)
lists_netlist (ToShapes shapes) l r a done P f h = tt
lists_netlist (ToNetlist shapes netlist) l r a done P f h = rw h.whole (inr (inl (refl, f h.netlist h.top h.bad h.spelled h.answer h.netlist_file)))
lists_netlist (ToReport schematic shapes netlist report) l r a done P f h = absurd h
lists_netlist (ToChip n seed prefix) l r a done P f h = absurd h

lists_netlist_beside : (o : Outputs) (l : ReadLayout) (r : rule_sets.Rules) (sch : Netlist) (a : Answer) (done : Done) (P : List ℕ → Type 0)
    → ((nl : Netlist) (top : ℕ) (bad : List BadGate) (text : List ℕ) → Tells o bad a → IsNetlistFile l r nl top bad text → P text) → IsDoneBeside o l r sch a done
    → ForNetlist o (λ (path : List ℕ). ListsAs done.files path P)
lists_netlist_beside (ToReport schematic shapes netlist report) l r sch a done P f h =
    let g = h.reported in rw h.whole (inr (inl (refl, f g.netlist g.top g.bad h.spelled (match_none g.bad g.verdict a g.answer g.report_file) g.netlist_file)))
lists_netlist_beside (ToShapes shapes) l r sch a done P f h = absurd h
lists_netlist_beside (ToNetlist shapes netlist) l r sch a done P f h = absurd h
lists_netlist_beside (ToChip n seed prefix) l r sch a done P f h = tt

pub netlist_listed : (p : Paths) (old mid new : Store) (r : rule_sets.Rules) (v : ReadLayout) (a : Answer) (done : Done) → Quiet old mid → ReadAs old mid p.rules (λ bytes. Means bytes r)
    → ReadAs mid new p.layout (λ bytes. IsRunLayout bytes p.top r v)
    → ((nl : Netlist) (top : ℕ) (bad : List BadGate) (text : List ℕ) → IsNetlistFile v r nl top bad text → ShowsFlat v r text nl top bad) → IsDone p.outputs v r a done
    → ForNetlist p.outputs (λ (path : List ℕ). ListsAs done.files path (IsFlatNetlist old.file p a))
netlist_listed p old mid new r v a done quiet rules layout shows made =
    lists_netlist p.outputs v r a done (IsFlatNetlist old.file p a)
    (λ nl top bad text answer file. of_inputs p old mid new r v (λ (l : ReadLayout) (q : rule_sets.Rules). IsNetlistOf p.outputs l q a text) quiet rules layout
    (netlist_of p.outputs v r a nl top bad text answer (shows nl top bad text file))) made

-- where the command writes one, its file holds it
netlist_held : (out : Outputs) (old new : Store) (before after : SinkState) (o : Output) (a : Answer) (done : Done) (P : List ℕ → Type 0)
    → files_of o.files.items ≡ done.files → AreApart done.files → ForNetlist out (λ (path : List ℕ). ListsAs done.files path P) → Delivered o old new before after a → IsVerdict a
    → ForNetlist out (λ (path : List ℕ). HoldsAs (new.file path) P)
netlist_held (ToShapes shapes) old new before after o a done P same apart lists h v = tt
netlist_held (ToNetlist shapes netlist) old new before after o a done P same apart lists h v = held_delivered old new before after o a done netlist P same apart lists h v
netlist_held (ToReport schematic shapes netlist report) old new before after o a done P same apart lists h v = held_delivered old new before after o a done netlist P same apart lists h v
netlist_held (ToChip n seed prefix) old new before after o a done P same apart lists h v = tt

-- the answer of a run that wrote its files
pub verdict_is : (o : Output) (old new : Store) (before after : SinkState) (a : Answer) → Delivered o old new before after a → IsVerdict a → verdict_of o.verdict ≡ a
verdict_is o old new before after a (inl h) v = sym h.0
verdict_is o old new before after a (inr (inl h)) v = absurd (subst IsVerdict h.0 v)
verdict_is o old new before after a (inr (inr h)) v = absurd (subst IsVerdict h.0 v)

pub netlist_delivered : (stated : Option Paths) (old mid new : Store) (before after : SinkState) (o : Output) (a : Answer)
    → IsReady stated old mid o → Delivered o mid new before after a → WritesNetlist stated old new a
netlist_delivered stated old mid new before after o a ready h v =
    let p = ready.paths in
    let lists = subst (λ (b : Answer). ForNetlist p.outputs (λ (path : List ℕ). ListsAs ready.done.files path (IsFlatNetlist old.file p b))) (verdict_is o mid new before after a h v) ready.netlist in
    subst (λ (s : Option Paths). OfStated s (λ (q : Paths). ForNetlist q.outputs (λ (path : List ℕ). HoldsAs (new.file path) (IsFlatNetlist old.file q a)))) (sym ready.stated)
    (netlist_held p.outputs mid new before after o a ready.done (IsFlatNetlist old.file p a) ready.files ready.apart lists h v)

-- ---- what is written of a comparison

pub flat_listed_beside : (p : Paths) (old mid new : Store) (r : rule_sets.Rules) (v : ReadLayout) (nl : Netlist) (a : Answer) (done : Done) → Quiet old mid → ReadAs old mid p.rules (λ bytes. Means bytes r)
    → ReadAs mid new p.layout (λ bytes. IsRunLayout bytes p.top r v) → ((text : List ℕ) (cells rectangles : ℕ) → IsShapesFile v r text cells rectangles → CoversFlat v r text) → IsDoneBeside p.outputs v r nl a done
    → ForShapes p.outputs (λ (path : List ℕ). ListsAs done.files path (IsFlatText old.file p))
flat_listed_beside p old mid new r v nl a done quiet rules layout covers made =
    lists_beside p.outputs v r nl a done (IsFlatText old.file p)
    (λ text cells rectangles file. of_inputs p old mid new r v (λ (l : ReadLayout) (q : rule_sets.Rules). CoversFlat l q text) quiet rules layout (covers text cells rectangles file)) made

pub netlist_listed_beside : (p : Paths) (old mid new : Store) (r : rule_sets.Rules) (v : ReadLayout) (sch : Netlist) (a : Answer) (done : Done) → Quiet old mid → ReadAs old mid p.rules (λ bytes. Means bytes r)
    → ReadAs mid new p.layout (λ bytes. IsRunLayout bytes p.top r v)
    → ((nl : Netlist) (top : ℕ) (bad : List BadGate) (text : List ℕ) → IsNetlistFile v r nl top bad text → ShowsFlat v r text nl top bad) → IsDoneBeside p.outputs v r sch a done
    → ForNetlist p.outputs (λ (path : List ℕ). ListsAs done.files path (IsFlatNetlist old.file p a))
netlist_listed_beside p old mid new r v sch a done quiet rules layout shows made =
    lists_netlist_beside p.outputs v r sch a done (IsFlatNetlist old.file p a)
    (λ nl top bad text none file. of_inputs p old mid new r v (λ (l : ReadLayout) (q : rule_sets.Rules). IsNetlistOf p.outputs l q a text) quiet rules layout
    (netlist_of p.outputs v r a nl top bad text none (shows nl top bad text file))) made
