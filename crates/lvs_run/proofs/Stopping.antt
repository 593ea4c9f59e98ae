-- What the inputs, read one after the other, come to.
use Rattle.std.proofs.Common.{◌≡◌, ◌⊎◌, inl, inr, ◌+◌, ◌<◌, ℕ, List, [], ◌∷◌, Option, Some, None, refl, sym, ap, subst, ◌∙◌, length}
use Rattle.lvs_outside.specs.Store.{Store, Told, Untold, NoFile, Holds, IsAbsent, Open, Reading}
use Rattle.gds_layout.specs.declared.layout.Layout.{Layout}
use Rattle.run_layout.specs.RunLayout.{IsRunFault, IsRunLayout}
use Rattle.gds_layout.specs.declared.layout.LayoutFault.{LayoutFault}
use Rattle.gds_layout.specs.declared.layout.LayoutFault.TheVariants as layout
use Rattle.rule_text.specs.declared.fault.RuleFault.{RuleFault}
use Rattle.rule_text.specs.declared.fault.RuleFault.TheVariants as rule
use Rattle.rule_text.specs.Rules.{Rules}
use Rattle.rule_text.specs.Reading.{Means, Answers}
use Rattle.deep_tables.specs.declared.gates.BadGate.{BadGate}
use Rattle.pair_jobs.specs.declared.verdict.Verdict.{Verdict as Comparison}
use Rattle.pair_jobs.specs.declared.verdict.Verdict.TheVariants as comparison
use Rattle.plain_netlist.specs.Netlist.{Netlist}
use Rattle.spice_rows.specs.Sizes.{read_limit}
use Rattle.spice_rows.specs.declared.fault.SpiceFault.{SpiceFault}
use Rattle.spice_rows.specs.declared.fault.SpiceFault.TheVariants as spice
use Rattle.spice_text.specs.Means.{Means as SpiceMeans, SaysFirst}
use Rattle.shapes_file.specs.File.{IsNarrow}
use Rattle.lvs_run.specs.declared.output.Verdict.{Verdict}
use Rattle.lvs_run.specs.declared.output.Verdict.TheVariants as verdict
use Rattle.lvs_run.specs.Words.{Outputs, ToShapes, ToNetlist, ToReport, ToChip, Paths, inputs_of, schematic_path}
use Rattle.lvs_run.specs.Answers.{Done, Answer, Good, Bad, RefusedSame, RefusedAbsent, RefusedLong, RefusedRules, RefusedLayout, RefusedSchematic, RefusedWide, RefusedMergedLayout, RefusedMergedSchematic, Outside, NoMemory, refused_rules, refused_schematic, verdict_of, IsVerdict, comparison_answer, refused_layout}
use Rattle.lvs_run.specs.Runs.{HasLength, IsLastRead, IsLong, IsReadWhole, IsReadTooFar, OfInput, HasCauseIn, MayEnd}
use Rattle.lvs_run.specs.Outcomes.{IsOutcome, IsDone, IsDoneBeside, IsTooFar, IsTooWide, RefusesAlone, RefusesBeside, SamePath, gates_answer}
use Rattle.lvs_run.proofs.Steps.{OfBeside, OfCards, FaultyCards, WideCards, SoundCards, OfSchematic, made_alone, refused_alone, OfStream, FaultyStream, SoundStream, OfLayout, OfRuleText, FaultyRules, SoundRules, OfRules, of_rules}
use Rattle.lvs_run.specs.Inputs.{Quiet, DepotFaults, IsInput, Got, ReadAs, NoRules, NoLayout, NoSchematic, NoComparison, RefusesComparison, RefusesRules, RefusesLayout, NotWide, ComesOf, Stops}
use Rattle.lvs_run.proofs.Widths.{only_wide}

-- a fault of the rules that isn't want of memory is the first
pub rules_refused : (old new : Store) (path bytes : List ℕ) (fault : RuleFault) → Got old new path bytes → Answers bytes fault → NoRules old new path (refused_rules fault)
rules_refused old new path bytes rule.NoMemory got h = tt
rules_refused old new path bytes fault got h = record { bytes = bytes; got = got; is = h }

pub rules_faults : (old new : Store) (fault : RuleFault) → new.faults ≡ old.faults → DepotFaults (refused_rules fault) old new
rules_faults old new rule.NoMemory h = h
rules_faults old new fault h = h

-- so of the layout
pub layout_refused : (old new : Store) (path bytes : List ℕ) (top : Option (List ℕ)) (r : Rules) (fault : LayoutFault) → Got old new path bytes → IsRunFault bytes top r fault → NoLayout old new path top r (refused_layout fault)
layout_refused old new path bytes top r layout.NoMemory got h = tt
layout_refused old new path bytes top r fault got h = record { bytes = bytes; got = got; is = h }

pub layout_faults : (old new : Store) (fault : LayoutFault) → new.faults ≡ old.faults → DepotFaults (refused_layout fault) old new
layout_faults old new layout.NoMemory h = h
layout_faults old new fault h = h

-- so of the schematic
pub schematic_refused : (old new : Store) (path bytes : List ℕ) (fault : SpiceFault) → Got old new path bytes → SaysFirst read_limit bytes fault → NoSchematic old new path (refused_schematic fault)
schematic_refused old new path bytes spice.NoMemory got h = tt
schematic_refused old new path bytes fault got h = record { bytes = bytes; got = got; is = h }

pub schematic_faults : (old new : Store) (fault : SpiceFault) → new.faults ≡ old.faults → DepotFaults (refused_schematic fault) old new
schematic_faults old new spice.NoMemory h = h
schematic_faults old new fault h = h

has_length : (t : Told) (bytes : List ℕ) → IsInput bytes t → HasLength t (length bytes)
has_length Untold bytes h = tt
has_length NoFile bytes h = h
has_length (Holds all) bytes h = ap (λ (xs : List ℕ). length xs) (sym h.0)

-- a file that was read whole stands open at its end
read_whole : (s new : Store) (path bytes : List ℕ) (o : Open) → o ≡ Reading path (length bytes) → IsInput bytes (s.file path) → IsReadWhole o s path
read_whole s new path bytes o e h = subst (λ (q : Open). IsReadWhole q s path) (sym e) (refl, has_length (s.file path) bytes h)

-- the layout's file, read
pub layout_read : (t : Told) (file : List ℕ → Told) (r : Rules) (p : Paths) (a : Answer) (done : Done) (bytes : List ℕ) → IsInput bytes t → OfStream bytes file p r a done → OfLayout t file r p a done
layout_read Untold file r p a done bytes h s = tt
layout_read NoFile file r p a done bytes h s = absurd h
layout_read (Holds all) file r p a done bytes h s = inr (h.1, subst (λ (xs : List ℕ). OfStream xs file p r a done) h.0 s)

-- the rules' file, read
pub rules_read : (t l : Told) (file : List ℕ → Told) (p : Paths) (a : Answer) (done : Done) (bytes : List ℕ) → IsInput bytes t → OfRuleText bytes l file p a done → OfRules t l file p a done
rules_read Untold l file p a done bytes h s = tt
rules_read NoFile l file p a done bytes h s = absurd h
rules_read (Holds all) l file p a done bytes h s = inr (h.1, subst (λ (xs : List ℕ). OfRuleText xs l file p a done) h.0 s)

absent_rules : (t l : Told) (file : List ℕ → Told) (p : Paths) (a : Answer) (done : Done) → IsAbsent t → a ≡ RefusedAbsent p.rules → OfRules t l file p a done
absent_rules Untold l file p a done h e = tt
absent_rules NoFile l file p a done h e = e
absent_rules (Holds all) l file p a done h e = absurd h

pub long_rules : (t l : Told) (file : List ℕ → Told) (p : Paths) (a : Answer) (done : Done) → IsLong t → a ≡ RefusedLong p.rules → OfRules t l file p a done
long_rules Untold l file p a done h e = tt
long_rules NoFile l file p a done h e = absurd h
long_rules (Holds all) l file p a done h e = inl (h, e)

absent_layout : (t : Told) (file : List ℕ → Told) (r : Rules) (p : Paths) (a : Answer) (done : Done) → IsAbsent t → a ≡ RefusedAbsent p.layout → OfLayout t file r p a done
absent_layout Untold file r p a done h e = tt
absent_layout NoFile file r p a done h e = e
absent_layout (Holds all) file r p a done h e = absurd h

pub long_layout : (t : Told) (file : List ℕ → Told) (r : Rules) (p : Paths) (a : Answer) (done : Done) → IsLong t → a ≡ RefusedLong p.layout → OfLayout t file r p a done
long_layout Untold file r p a done h e = tt
long_layout NoFile file r p a done h e = absurd h
long_layout (Holds all) file r p a done h e = inl (h, e)

-- the schematic's file, read
pub schematic_read : (t : Told) (path : List ℕ) (o : Outputs) (l : Layout) (r : Rules) (a : Answer) (done : Done) (bytes : List ℕ) → IsInput bytes t → OfCards bytes o l r a done → OfSchematic t path o l r a done
schematic_read Untold path o l r a done bytes h s = tt
schematic_read NoFile path o l r a done bytes h s = absurd h
schematic_read (Holds all) path o l r a done bytes h s = inr (h.1, subst (λ (xs : List ℕ). OfCards xs o l r a done) h.0 s)

absent_schematic : (t : Told) (path : List ℕ) (o : Outputs) (l : Layout) (r : Rules) (a : Answer) (done : Done) → IsAbsent t → a ≡ RefusedAbsent path → OfSchematic t path o l r a done
absent_schematic Untold path o l r a done h e = tt
absent_schematic NoFile path o l r a done h e = e
absent_schematic (Holds all) path o l r a done h e = absurd h

pub long_schematic : (t : Told) (path : List ℕ) (o : Outputs) (l : Layout) (r : Rules) (a : Answer) (done : Done) → IsLong t → a ≡ RefusedLong path → OfSchematic t path o l r a done
long_schematic Untold path o l r a done h e = tt
long_schematic NoFile path o l r a done h e = absurd h
long_schematic (Holds all) path o l r a done h e = inl (h, e)

-- the command reads its inputs
abbrev pub ReadsFiles : Outputs → Type 0
ReadsFiles (ToShapes shapes) = Unit {0}
ReadsFiles (ToNetlist shapes netlist) = Unit {0}
ReadsFiles (ToReport schematic shapes netlist report) = Unit {0}
ReadsFiles (ToChip n seed prefix) = ⊥

of_files : (o : Outputs) (P : Type 0) (C : ℕ → ℕ → List ℕ → Type 0) → ReadsFiles o → P → OfInput o P C
of_files (ToShapes shapes) P C reads h = h
of_files (ToNetlist shapes netlist) P C reads h = h
of_files (ToReport schematic shapes netlist report) P C reads h = h
of_files (ToChip n seed prefix) P C reads h = absurd reads

-- and they are told as the store tells them
pub told_files : (o : Outputs) (file : List ℕ → Told) → ReadsFiles o → inputs_of o file ≡ file
told_files (ToShapes shapes) file reads = refl
told_files (ToNetlist shapes netlist) file reads = refl
told_files (ToReport schematic shapes netlist report) file reads = refl
told_files (ToChip n seed prefix) file reads = absurd reads

comes_so : (p : Paths) (file : List ℕ → Told) (a : Answer) → ReadsFiles p.outputs → ComesOf (Some p) file a → ComesOf (Some p) (inputs_of p.outputs file) a
comes_so p file a reads h = subst (λ (f : List ℕ → Told). ComesOf (Some p) f a) (sym (told_files p.outputs file reads)) h

-- a file that is to be written is named twice
pub same_stop : (p : Paths) (s : Store) (path : List ℕ) → p.shared ≡ Some path → Stops (Some p) s s (RefusedSame path)
same_stop p s path h = record { cause = (h, refl); faults = refl; comes = λ done. SamePath p path refl h refl }

-- the rules are refused
module _ (p : Paths) (old new : Store) (apart : p.shared ≡ None) (reads : ReadsFiles p.outputs) where
  rules_cause : (a : Answer) → NoRules old new p.rules a → HasCauseIn (Some p) old new a
  rules_cause (RefusedAbsent path) h = ((apart, inl h.0), record { one = h.2.one; last = h.2.last ∙ sym h.0; closed = h.2.closed })
  rules_cause (RefusedLong path) h = ((apart, inl h.0), of_files p.outputs _ _ reads (subst (IsReadTooFar new.opened) (sym h.0) h.2), h.3)
  rules_cause (RefusedRules fault) h = ((apart, of_files p.outputs _ _ reads (read_whole old new p.rules h.bytes new.opened h.got.opened h.got.told)), h.got.absent)
  rules_cause Outside h = tt
  rules_cause NoMemory h = tt
  rules_cause a h = absurd h

  rules_comes : (a : Answer) → NoRules old new p.rules a → ComesOf (Some p) old.file a
  rules_comes (RefusedAbsent path) h = λ done. of_rules p old.file (RefusedAbsent path) done apart (absent_rules (old.file p.rules) (old.file p.layout) old.file p (RefusedAbsent path) done h.1 (ap RefusedAbsent h.0))
  rules_comes (RefusedLong path) h = λ done. of_rules p old.file (RefusedLong path) done apart (long_rules (old.file p.rules) (old.file p.layout) old.file p (RefusedLong path) done h.1 (ap RefusedLong h.0))
  rules_comes (RefusedRules fault) h = λ done. of_rules p old.file (RefusedRules fault) done apart (rules_read (old.file p.rules) (old.file p.layout) old.file p (RefusedRules fault) done h.bytes h.got.told (FaultyRules fault h.is refl))
  rules_comes Outside h = tt
  rules_comes NoMemory h = tt
  rules_comes a h = absurd h

pub rules_stop : (p : Paths) (old new : Store) (a : Answer) → p.shared ≡ None → ReadsFiles p.outputs → RefusesRules old new p.rules a → Stops (Some p) old new a
rules_stop p old new a apart reads h = record {
  cause = rules_cause p old new apart reads a h.why;
  faults = h.faults;
  comes = comes_so p old.file a reads (rules_comes p old new apart reads a h.why);
}

pub quiet_self : (s : Store) → Quiet s s
quiet_self s = record { starts = record { write_calls = refl; left_open = refl; files = λ p. refl }; empty_takes = refl }

pub quiet_on : (a b c : Store) → Quiet a b → Quiet b c → Quiet a c
quiet_on a b c h k = record {
  starts = record {
    write_calls = k.starts.write_calls ∙ h.starts.write_calls;
    left_open = k.starts.left_open ∙ h.starts.left_open;
    files = λ p. k.starts.files p ∙ h.starts.files p;
  };
  empty_takes = k.empty_takes ∙ h.empty_takes;
}

faults_since : (old mid new : Store) (a : Answer) → mid.faults ≡ old.faults → DepotFaults a mid new → DepotFaults a old new
faults_since old mid new Outside e h = subst (λ (n : ℕ). n < new.faults) e h
faults_since old mid new a e h = h ∙ e

-- the rules were read, and the layout comes next
module _ (p : Paths) (old mid new : Store) (r : Rules) (apart : p.shared ≡ None) (reads : ReadsFiles p.outputs) (quiet : Quiet old mid) (rules : ReadAs old mid p.rules (λ bytes. Means bytes r)) where
  same_file : mid.file p.layout ≡ old.file p.layout
  same_file = quiet.starts.files p.layout

  -- what the layout's file comes to is the outcome
  on_layout : (a : Answer) (done : Done) → OfLayout (mid.file p.layout) old.file r p a done → IsOutcome (Some p) old.file a done
  on_layout a done h =
      of_rules p old.file a done apart
      (rules_read (old.file p.rules) (old.file p.layout) old.file p a done rules.bytes rules.got.told
      (SoundRules r rules.is (subst (λ (t : Told). OfLayout t old.file r p a done) same_file h)))

  layout_cause : (a : Answer) → NoLayout mid new p.layout p.top r a → HasCauseIn (Some p) old new a
  layout_cause (RefusedAbsent path) h = ((apart, inr (inl h.0)), record { one = h.2.one ∙ ap (λ (n : ℕ). n + 1) rules.got.absent; last = h.2.last ∙ sym h.0; closed = h.2.closed })
  layout_cause (RefusedLong path) h = ((apart, inr (inl h.0)), of_files p.outputs _ _ reads (subst (IsReadTooFar new.opened) (sym h.0) h.2), h.3 ∙ rules.got.absent)
  layout_cause (RefusedLayout fault) h = ((apart, of_files p.outputs _ _ reads (read_whole old new p.layout h.bytes new.opened h.got.opened (subst (IsInput h.bytes) same_file h.got.told))), h.got.absent ∙ rules.got.absent)
  layout_cause Outside h = tt
  layout_cause NoMemory h = tt
  layout_cause a h = absurd h

  layout_comes : (a : Answer) → NoLayout mid new p.layout p.top r a → ComesOf (Some p) old.file a
  layout_comes (RefusedAbsent path) h = λ done. on_layout (RefusedAbsent path) done (absent_layout (mid.file p.layout) old.file r p (RefusedAbsent path) done h.1 (ap RefusedAbsent h.0))
  layout_comes (RefusedLong path) h = λ done. on_layout (RefusedLong path) done (long_layout (mid.file p.layout) old.file r p (RefusedLong path) done h.1 (ap RefusedLong h.0))
  layout_comes (RefusedLayout fault) h = λ done. on_layout (RefusedLayout fault) done (layout_read (mid.file p.layout) old.file r p (RefusedLayout fault) done h.bytes h.got.told (FaultyStream fault h.is refl))
  layout_comes Outside h = tt
  layout_comes NoMemory h = tt
  layout_comes a h = absurd h

pub layout_stop : (p : Paths) (old mid new : Store) (r : Rules) (a : Answer) → p.shared ≡ None → ReadsFiles p.outputs → Quiet old mid → ReadAs old mid p.rules (λ bytes. Means bytes r)
    → RefusesLayout mid new p.layout p.top r a → Stops (Some p) old new a
layout_stop p old mid new r a apart reads quiet rules h = record {
  cause = layout_cause p old mid new r apart reads quiet rules a h.why;
  faults = faults_since old mid new a rules.got.faults h.faults;
  comes = comes_so p old.file a reads (layout_comes p old mid new r apart reads quiet rules a h.why);
}

-- no memory for what there is to write, after both inputs were read
memory_stop : (p : Paths) (old mid new : Store) (rules layout : List ℕ) → Got old mid p.rules rules → Got mid new p.layout layout → Stops (Some p) old new NoMemory
memory_stop p old mid new rules layout a b = record { cause = tt; faults = b.faults ∙ a.faults; comes = tt }

-- the rules and the layout were read, and what comes of them is the outcome
comes_beside : (p : Paths) (old mid new : Store) (r : Rules) (l : Layout) (a : Answer) (done : Done) → p.shared ≡ None → ReadsFiles p.outputs → Quiet old mid → ReadAs old mid p.rules (λ bytes. Means bytes r)
    → ReadAs mid new p.layout (λ bytes. IsRunLayout bytes p.top r l) → OfBeside (schematic_path p.outputs) old.file p.outputs l r a done → IsOutcome (Some p) old.file a done
comes_beside p old mid new r l a done apart reads quiet rules layout beside =
    on_layout p old mid new r apart reads quiet rules a done (layout_read (mid.file p.layout) old.file r p a done layout.bytes layout.got.told (SoundStream l layout.is beside))

-- what is written is the outcome
-- and seen from what the command reads
outcome_so : (p : Paths) (file : List ℕ → Told) (a : Answer) (done : Done) → ReadsFiles p.outputs → IsOutcome (Some p) file a done → IsOutcome (Some p) (inputs_of p.outputs file) a done
outcome_so p file a done reads h = subst (λ (f : List ℕ → Told). IsOutcome (Some p) f a done) (sym (told_files p.outputs file reads)) h

pub outcome_made : (p : Paths) (old mid new : Store) (r : Rules) (l : Layout) (a : Answer) (done : Done) → p.shared ≡ None → ReadsFiles p.outputs → Quiet old mid → ReadAs old mid p.rules (λ bytes. Means bytes r)
    → ReadAs mid new p.layout (λ bytes. IsRunLayout bytes p.top r l) → IsDone p.outputs l r a done → IsOutcome (Some p) (inputs_of p.outputs old.file) a done
outcome_made p old mid new r l a done apart reads quiet rules layout made =
    outcome_so p old.file a done reads (comes_beside p old mid new r l a done apart reads quiet rules layout (made_alone p.outputs old.file l r a done made))

-- the answer that a command comes to where it writes its files is one of its own
gates_end : (bad : List BadGate) (a : Answer) → a ≡ gates_answer bad → (a ≡ Good) ⊎ (a ≡ Bad)
gates_end [] a e = inl e
gates_end (b ∷ bs) a e = inr e

may_end : (o : Outputs) (l : Layout) (r : Rules) (a : Answer) (done : Done) → IsDone o l r a done → MayEnd o a
may_end (ToShapes shapes) l r a done h = h.0
may_end (ToNetlist shapes netlist) l r a done h = gates_end h.bad a h.answer
may_end (ToReport schematic shapes netlist report) l r a done h = absurd h
may_end (ToChip n seed prefix) l r a done h = absurd h

-- the cause behind an answer of a run that writes its files
caused : (p : Paths) (old new : Store) (v : Verdict) → p.shared ≡ None → new.absent ≡ old.absent → MayEnd p.outputs (verdict_of v) → HasCauseIn (Some p) old new (verdict_of v)
caused p old new verdict.Good apart absent h = ((apart, h), absent)
caused p old new verdict.Bad apart absent h = ((apart, h), absent)
caused p old new verdict.Undecided apart absent h = ((apart, h), absent)

pub verdict_cause : (p : Paths) (old new : Store) (l : Layout) (r : Rules) (v : Verdict) (done : Done) → p.shared ≡ None → new.absent ≡ old.absent → IsDone p.outputs l r (verdict_of v) done
    → HasCauseIn (Some p) old new (verdict_of v)
verdict_cause p old new l r v done apart absent h = caused p old new v apart absent (may_end p.outputs l r (verdict_of v) done h)

-- a shapes file is to be written, and the layout's file was read last
last_alone : (o : Outputs) (layout : List ℕ) (old new : Store) → ReadsFiles o → schematic_path o ≡ None → IsReadWhole new.opened old layout → IsLastRead o layout old new
last_alone (ToShapes shapes) layout old new reads e h = h
last_alone (ToNetlist shapes netlist) layout old new reads e h = h
last_alone (ToReport schematic shapes netlist report) layout old new reads e h = absurd cc
last_alone (ToChip n seed prefix) layout old new reads e h = absurd reads

refuses_alone : (o : Outputs) (l : Layout) (r : Rules) (a : Answer) → ReadsFiles o → schematic_path o ≡ None → IsTooFar l r a → RefusesAlone o l r a
refuses_alone (ToShapes shapes) l r a reads e h = h
refuses_alone (ToNetlist shapes netlist) l r a reads e h = h
refuses_alone (ToReport schematic shapes netlist report) l r a reads e h = absurd cc
refuses_alone (ToChip n seed prefix) l r a reads e h = absurd reads

-- the same of one that reads a schematic
last_beside : (o : Outputs) (layout path : List ℕ) (old new : Store) → ReadsFiles o → schematic_path o ≡ Some path → IsReadWhole new.opened old path → IsLastRead o layout old new
last_beside (ToShapes shapes) layout path old new reads e h = absurd cc
last_beside (ToNetlist shapes netlist) layout path old new reads e h = absurd cc
last_beside (ToReport schematic shapes netlist report) layout path old new reads e h =
    let there : Some schematic ≡ Some path = e in
    let same : path ≡ schematic = cc in
    subst (λ (q : List ℕ). IsReadWhole new.opened old q) same h
last_beside (ToChip n seed prefix) layout path old new reads e h = absurd reads

refuses_run : (o : Outputs) (l : Layout) (r : Rules) (nl : Netlist) (path : List ℕ) (a : Answer) → ReadsFiles o → schematic_path o ≡ Some path → IsTooFar l r a ⊎ (IsNarrow l r × IsTooWide l r nl a) → RefusesBeside o l r nl a
refuses_run (ToShapes shapes) l r nl path a reads e h = absurd cc
refuses_run (ToNetlist shapes netlist) l r nl path a reads e h = absurd cc
refuses_run (ToReport schematic shapes netlist report) l r nl path a reads e h = h
refuses_run (ToChip n seed prefix) l r nl path a reads e h = absurd reads

-- no shapes file of what was read has room for it
module _ (p : Paths) (old mid new : Store) (r : Rules) (l : Layout) (apart : p.shared ≡ None) (reads : ReadsFiles p.outputs) (alone : schematic_path p.outputs ≡ None)
    (quiet : Quiet old mid) (rules : ReadAs old mid p.rules (λ bytes. Means bytes r)) (layout : ReadAs mid new p.layout (λ bytes. IsRunLayout bytes p.top r l)) where
  far_stop : (name : List ℕ) → IsTooFar l r (RefusedWide name) → Stops (Some p) old new (RefusedWide name)
  far_stop name h = record {
    cause = ((apart, last_alone p.outputs p.layout old new reads alone (read_whole old new p.layout layout.bytes new.opened layout.got.opened (subst (IsInput layout.bytes) (quiet.starts.files p.layout) layout.got.told))), layout.got.absent ∙ rules.got.absent);
    faults = layout.got.faults ∙ rules.got.faults;
    comes = comes_so p old.file (RefusedWide name) reads
        (λ done. comes_beside p old mid new r l (RefusedWide name) done apart reads quiet rules layout (refused_alone p.outputs old.file l r (RefusedWide name) done (refuses_alone p.outputs l r (RefusedWide name) reads alone h)));
  }

  pub alone_stop : (a : Answer) → NotWide l r a → Stops (Some p) old new a
  alone_stop NoMemory h = memory_stop p old mid new rules.bytes layout.bytes rules.got layout.got
  alone_stop (RefusedWide name) h = far_stop name h
  alone_stop a h = absurd (only_wide l r a h)

-- the rules and the layout were read, and the schematic comes next
module _ (p : Paths) (old mid late new : Store) (r : Rules) (l : Layout) (path : List ℕ) (apart : p.shared ≡ None) (reads : ReadsFiles p.outputs) (beside : schematic_path p.outputs ≡ Some path)
    (quiet : Quiet old mid) (later : Quiet mid late) (rules : ReadAs old mid p.rules (λ bytes. Means bytes r)) (layout : ReadAs mid late p.layout (λ bytes. IsRunLayout bytes p.top r l)) where
  told_so : late.file path ≡ old.file path
  told_so = later.starts.files path ∙ quiet.starts.files path

  absent_so : late.absent ≡ old.absent
  absent_so = layout.got.absent ∙ rules.got.absent

  on_schematic : (a : Answer) (done : Done) → OfSchematic (late.file path) path p.outputs l r a done → IsOutcome (Some p) old.file a done
  on_schematic a done h =
      comes_beside p old mid late r l a done apart reads quiet rules layout
      (subst (λ (o : Option (List ℕ)). OfBeside o old.file p.outputs l r a done) (sym beside) (subst (λ (t : Told). OfSchematic t path p.outputs l r a done) told_so h))

  schematic_cause : (a : Answer) → NoComparison l r late new path a → HasCauseIn (Some p) old new a
  schematic_cause (RefusedAbsent q) h = ((apart, inr (inr (beside ∙ ap (λ (x : List ℕ). Some x) (sym h.0)))), record { one = h.2.one ∙ ap (λ (n : ℕ). n + 1) absent_so; last = h.2.last ∙ sym h.0; closed = h.2.closed })
  schematic_cause (RefusedLong q) h = ((apart, inr (inr (beside ∙ ap (λ (x : List ℕ). Some x) (sym h.0)))), of_files p.outputs _ _ reads (subst (IsReadTooFar new.opened) (sym h.0) h.2), h.3 ∙ absent_so)
  schematic_cause (RefusedSchematic fault) h = ((apart, (path, beside, of_files p.outputs _ _ reads (read_whole old new path h.bytes new.opened h.got.opened (subst (IsInput h.bytes) told_so h.got.told)))), h.got.absent ∙ absent_so)
  schematic_cause (RefusedWide name) h = ((apart, last_beside p.outputs p.layout path old new reads beside (read_whole old new path h.bytes new.opened h.got.opened (subst (IsInput h.bytes) told_so h.got.told))), h.got.absent ∙ absent_so)
  schematic_cause (RefusedMergedLayout name) h = ((apart, (path, beside, of_files p.outputs _ _ reads (read_whole old new path h.bytes new.opened h.got.opened (subst (IsInput h.bytes) told_so h.got.told)))), h.got.absent ∙ absent_so)
  schematic_cause (RefusedMergedSchematic name) h = ((apart, (path, beside, of_files p.outputs _ _ reads (read_whole old new path h.bytes new.opened h.got.opened (subst (IsInput h.bytes) told_so h.got.told)))), h.got.absent ∙ absent_so)
  schematic_cause Outside h = tt
  schematic_cause NoMemory h = tt
  schematic_cause a h = absurd h

  schematic_comes : (a : Answer) → NoComparison l r late new path a → ComesOf (Some p) old.file a
  schematic_comes (RefusedAbsent q) h = λ done. on_schematic (RefusedAbsent q) done (absent_schematic (late.file path) path p.outputs l r (RefusedAbsent q) done h.1 (ap RefusedAbsent h.0))
  schematic_comes (RefusedLong q) h = λ done. on_schematic (RefusedLong q) done (long_schematic (late.file path) path p.outputs l r (RefusedLong q) done h.1 (ap RefusedLong h.0))
  schematic_comes (RefusedSchematic fault) h = λ done. on_schematic (RefusedSchematic fault) done (schematic_read (late.file path) path p.outputs l r (RefusedSchematic fault) done h.bytes h.got.told (FaultyCards fault h.is refl))
  schematic_comes (RefusedWide name) h = λ done. on_schematic (RefusedWide name) done (schematic_read (late.file path) path p.outputs l r (RefusedWide name) done h.bytes h.got.told (WideCards h.is.0 h.is.1 (refuses_run p.outputs l r h.is.0 path (RefusedWide name) reads beside h.is.2)))
  schematic_comes (RefusedMergedLayout name) h = λ done. on_schematic (RefusedMergedLayout name) done (schematic_read (late.file path) path p.outputs l r (RefusedMergedLayout name) done h.bytes h.got.told (WideCards h.is.0 h.is.1 (refuses_run p.outputs l r h.is.0 path (RefusedMergedLayout name) reads beside h.is.2)))
  schematic_comes (RefusedMergedSchematic name) h = λ done. on_schematic (RefusedMergedSchematic name) done (schematic_read (late.file path) path p.outputs l r (RefusedMergedSchematic name) done h.bytes h.got.told (WideCards h.is.0 h.is.1 (refuses_run p.outputs l r h.is.0 path (RefusedMergedSchematic name) reads beside h.is.2)))
  schematic_comes Outside h = tt
  schematic_comes NoMemory h = tt
  schematic_comes a h = absurd h

pub schematic_stop : (p : Paths) (old mid late new : Store) (r : Rules) (l : Layout) (path : List ℕ) (a : Answer) → p.shared ≡ None → ReadsFiles p.outputs → schematic_path p.outputs ≡ Some path → Quiet old mid → Quiet mid late
    → ReadAs old mid p.rules (λ bytes. Means bytes r) → ReadAs mid late p.layout (λ bytes. IsRunLayout bytes p.top r l) → RefusesComparison l r late new path a → Stops (Some p) old new a
schematic_stop p old mid late new r l path a apart reads beside quiet later rules layout h = record {
  cause = schematic_cause p old mid late new r l path apart reads beside quiet later rules layout a h.why;
  faults = faults_since old late new a (layout.got.faults ∙ rules.got.faults) h.faults;
  comes = comes_so p old.file a reads (schematic_comes p old mid late new r l path apart reads beside quiet later rules layout a h.why);
}

-- what is written of the comparison is the outcome
pub outcome_beside : (p : Paths) (old mid late new : Store) (r : Rules) (l : Layout) (nl : Netlist) (path : List ℕ) (a : Answer) (done : Done) → p.shared ≡ None → ReadsFiles p.outputs → schematic_path p.outputs ≡ Some path
    → Quiet old mid → Quiet mid late → ReadAs old mid p.rules (λ bytes. Means bytes r) → ReadAs mid late p.layout (λ bytes. IsRunLayout bytes p.top r l)
    → ReadAs late new path (λ bytes. SpiceMeans read_limit bytes nl) → IsDoneBeside p.outputs l r nl a done → IsOutcome (Some p) (inputs_of p.outputs old.file) a done
outcome_beside p old mid late new r l nl path a done apart reads beside quiet later rules layout schematic made =
    outcome_so p old.file a done reads
    (on_schematic p old mid late new r l path apart reads beside quiet later rules layout a done
    (schematic_read (late.file path) path p.outputs l r a done schematic.bytes schematic.got.told (SoundCards nl schematic.is made)))

comparison_end : (v : Comparison) → IsVerdict (comparison_answer v)
comparison_end comparison.Match = tt
comparison_end comparison.Mismatch = tt
comparison_end comparison.Undecided = tt

may_end_beside : (o : Outputs) (l : Layout) (r : Rules) (nl : Netlist) (a : Answer) (done : Done) → IsDoneBeside o l r nl a done → MayEnd o a
may_end_beside (ToReport schematic shapes netlist report) l r nl a done h = let ran = h.reported in subst IsVerdict (sym ran.answer) (comparison_end ran.verdict)
may_end_beside (ToChip n seed prefix) l r nl a done h = let ran = h.reported in subst IsVerdict (sym ran.answer) (comparison_end ran.verdict)
may_end_beside (ToShapes shapes) l r nl a done h = absurd h
may_end_beside (ToNetlist shapes netlist) l r nl a done h = absurd h

pub verdict_cause_beside : (p : Paths) (old new : Store) (l : Layout) (r : Rules) (nl : Netlist) (v : Verdict) (done : Done) → p.shared ≡ None → new.absent ≡ old.absent
    → IsDoneBeside p.outputs l r nl (verdict_of v) done → HasCauseIn (Some p) old new (verdict_of v)
verdict_cause_beside p old new l r nl v done apart absent h = caused p old new v apart absent (may_end_beside p.outputs l r nl (verdict_of v) done h)
