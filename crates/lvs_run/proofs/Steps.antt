-- The outcome as the run decides it, one step after the other.
use Rattle.std.proofs.Common.{◌≡◌, ◌⊎◌, inl, inr, ℕ, ◌<◌, ◌≤◌, List, length, Option, Some, None, refl, sym, subst}
use Rattle.lvs_outside.specs.Store.{Told, Untold, NoFile, Holds}
use Rattle.lvs_outside.specs.Loops.{limit}
use Rattle.gds_layout.specs.declared.layout.Layout.{Layout}
use Rattle.gds_layout.specs.declared.layout.LayoutFault.{LayoutFault}
use Rattle.run_layout.specs.RunLayout.{IsRunLayout}
use Rattle.rule_text.specs.declared.fault.RuleFault.{RuleFault}
use Rattle.rule_text.specs.Rules.{Rules}
use Rattle.rule_text.specs.Reading.{Means, IsFirstFault}
use Rattle.plain_netlist.specs.Netlist.{Netlist}
use Rattle.spice_rows.specs.Sizes.{read_limit}
use Rattle.spice_rows.specs.declared.fault.SpiceFault.{SpiceFault}
use Rattle.spice_text.specs.Means.{Means as SpiceMeans}
use Rattle.lvs_run.specs.Words.{Outputs, ToShapes, ToNetlist, ToReport, ToChip, Paths, schematic_path}
use Rattle.lvs_run.specs.Answers.{Done, Answer, RefusedWords, RefusedSame, RefusedAbsent, RefusedLong, RefusedRules, RefusedLayout, RefusedSchematic}
use Rattle.lvs_run.specs.Outcomes.{Runs, HasFile, ReadsRules, ReadsLayout, Compares, IsFirstLayoutFault, IsFirstSchematicFault, IsDone, IsDoneBeside, IsOutcome, RefusesAlone, RefusesBeside, NoSchematic, LongSchematic, BadSchematic, TooWide, MadeBeside, UntoldSchematic, WrongWords, SamePath, NoRules, LongRules, BadRules, NoLayout, LongLayout, BadLayout, Made, TooFar, UntoldRules, UntoldLayout}

-- a file's bytes, which are too many or not
abbrev pub OfLength : List ℕ → Type 0 → Type 0 → Type 0
OfLength bytes long short = ((limit < length bytes) × long) ⊎ ((length bytes ≤ limit) × short)

-- the schematic's bytes: their first fault, or what they mean, and the refusal of the comparison with it, or the comparison
pub data OfCards (bytes : List ℕ) (o : Outputs) (l : Layout) (r : Rules) (a : Answer) (done : Done) : Type 0 where
  FaultyCards : (fault : SpiceFault) → IsFirstSchematicFault bytes fault → a ≡ RefusedSchematic fault → OfCards bytes o l r a done
  WideCards : (nl : Netlist) → SpiceMeans read_limit bytes nl → RefusesBeside o l r nl a → OfCards bytes o l r a done
  SoundCards : (nl : Netlist) → SpiceMeans read_limit bytes nl → IsDoneBeside o l r nl a done → OfCards bytes o l r a done

-- the schematic's file; nothing is said of one that isn't told
abbrev pub OfSchematic : Told → List ℕ → Outputs → Layout → Rules → Answer → Done → Type 0
OfSchematic Untold path o l r a done = Unit {0}
OfSchematic NoFile path o l r a done = a ≡ RefusedAbsent path
OfSchematic (Holds bytes) path o l r a done = OfLength bytes (a ≡ RefusedLong path) (OfCards bytes o l r a done)

-- what comes of a layout and rules: by a command that reads a schematic, what comes of that too
abbrev pub OfBeside : Option (List ℕ) → (List ℕ → Told) → Outputs → Layout → Rules → Answer → Done → Type 0
OfBeside None file o l r a done = IsDone o l r a done ⊎ RefusesAlone o l r a
OfBeside (Some path) file o l r a done = OfSchematic (file path) path o l r a done

-- the layout's bytes: their first fault, or their layout, and what the rules make of it
pub data OfStream (bytes : List ℕ) (file : List ℕ → Told) (p : Paths) (r : Rules) (a : Answer) (done : Done) : Type 0 where
  FaultyStream : (fault : LayoutFault) → IsFirstLayoutFault bytes p.top r fault → a ≡ RefusedLayout fault → OfStream bytes file p r a done
  SoundStream : (l : Layout) → IsRunLayout bytes p.top r l → OfBeside (schematic_path p.outputs) file p.outputs l r a done → OfStream bytes file p r a done

-- the layout's file; nothing is said of one that isn't told
abbrev pub OfLayout : Told → (List ℕ → Told) → Rules → Paths → Answer → Done → Type 0
OfLayout Untold file r p a done = Unit {0}
OfLayout NoFile file r p a done = a ≡ RefusedAbsent p.layout
OfLayout (Holds bytes) file r p a done = OfLength bytes (a ≡ RefusedLong p.layout) (OfStream bytes file p r a done)

-- the rules' bytes: their first fault, or what they mean
pub data OfRuleText (bytes : List ℕ) (layout : Told) (file : List ℕ → Told) (p : Paths) (a : Answer) (done : Done) : Type 0 where
  FaultyRules : (fault : RuleFault) → IsFirstFault bytes fault → a ≡ RefusedRules fault → OfRuleText bytes layout file p a done
  SoundRules : (r : Rules) → Means bytes r → OfLayout layout file r p a done → OfRuleText bytes layout file p a done

-- the rules' file
abbrev pub OfRules : Told → Told → (List ℕ → Told) → Paths → Answer → Done → Type 0
OfRules Untold layout file p a done = Unit {0}
OfRules NoFile layout file p a done = a ≡ RefusedAbsent p.rules
OfRules (Holds bytes) layout file p a done = OfLength bytes (a ≡ RefusedLong p.rules) (OfRuleText bytes layout file p a done)

-- the paths: one that is to be written may not be named twice
abbrev pub OfPaths : Option (List ℕ) → (List ℕ → Told) → Paths → Answer → Done → Type 0
OfPaths (Some path) file p a done = a ≡ RefusedSame path
OfPaths None file p a done = OfRules (file p.rules) (file p.layout) file p a done

-- the words, then the paths, the rules, the layout, the schematic: the first of them that is refused gives the answer, else the files are written
abbrev pub InTurn : Option Paths → (List ℕ → Told) → Answer → Done → Type 0
InTurn None file a done = a ≡ RefusedWords
InTurn (Some p) file a done = OfPaths (p.shared) file p a done

-- ---- from the outcome to the steps

-- a command that comes to this reads no schematic
pub made_alone : (o : Outputs) (file : List ℕ → Told) (l : Layout) (r : Rules) (a : Answer) (done : Done) → IsDone o l r a done → OfBeside (schematic_path o) file o l r a done
made_alone (ToShapes shapes) file l r a done h = inl h
made_alone (ToNetlist shapes netlist) file l r a done h = inl h
made_alone (ToReport schematic shapes netlist report) file l r a done h = absurd h
made_alone (ToChip n seed prefix) file l r a done h = absurd h

pub refused_alone : (o : Outputs) (file : List ℕ → Told) (l : Layout) (r : Rules) (a : Answer) (done : Done) → RefusesAlone o l r a → OfBeside (schematic_path o) file o l r a done
refused_alone (ToShapes shapes) file l r a done h = inr h
refused_alone (ToNetlist shapes netlist) file l r a done h = inr h
refused_alone (ToReport schematic shapes netlist report) file l r a done h = absurd h
refused_alone (ToChip n seed prefix) file l r a done h = absurd h

module _ (said : Option Paths) (file : List ℕ → Told) (a : Answer) (done : Done) where
  at_rules : (p : Paths) → Runs said p → OfRules (file p.rules) (file p.layout) file p a done → InTurn said file a done
  at_rules p runs h = subst (λ (s : Option Paths). InTurn s file a done) (sym runs.stated) (subst (λ (o : Option (List ℕ)). OfPaths o file p a done) (sym runs.apart) h)

  of_rule_file : (p : Paths) (t : Told) → Runs said p → file p.rules ≡ t → OfRules t (file p.layout) file p a done → InTurn said file a done
  of_rule_file p t runs told h = at_rules p runs (subst (λ (u : Told). OfRules u (file p.layout) file p a done) (sym told) h)

  at_layout : (p : Paths) (r : Rules) → ReadsRules said file p r → OfLayout (file p.layout) file r p a done → InTurn said file a done
  at_layout p r reads h = of_rule_file p (Holds reads.bytes) reads.runs reads.held.told (inr (reads.held.short, SoundRules r reads.means h))

  of_layout_file : (p : Paths) (r : Rules) (t : Told) → ReadsRules said file p r → file p.layout ≡ t → OfLayout t file r p a done → InTurn said file a done
  of_layout_file p r t reads told h = at_layout p r reads (subst (λ (u : Told). OfLayout u file r p a done) (sym told) h)

  of_schematic_file : (p : Paths) (r : Rules) (l : Layout) (path : List ℕ) (t : Told) → Compares said file p r l path → file path ≡ t → OfSchematic t path p.outputs l r a done → InTurn said file a done
  of_schematic_file p r l path t c told h =
      let beside = subst (λ (o : Option (List ℕ)). OfBeside o file p.outputs l r a done) (sym c.beside) (subst (λ (u : Told). OfSchematic u path p.outputs l r a done) (sym told) h) in
      let reads = c.reads in
      of_layout_file p r (Holds reads.bytes) reads.rules reads.held.told (inr (reads.held.short, SoundStream l reads.read beside))

  pub in_turn : IsOutcome said file a done → InTurn said file a done
  in_turn (WrongWords e f) = subst (λ (s : Option Paths). InTurn s file a done) (sym e) f
  in_turn (SamePath p path e f g) = subst (λ (s : Option Paths). InTurn s file a done) (sym e) (subst (λ (o : Option (List ℕ)). OfPaths o file p a done) (sym f) g)
  in_turn (NoRules p runs told e) = of_rule_file p NoFile runs told e
  in_turn (LongRules p bytes runs told long e) = of_rule_file p (Holds bytes) runs told (inl (long, e))
  in_turn (BadRules p bytes fault runs held first e) = of_rule_file p (Holds bytes) runs held.told (inr (held.short, FaultyRules fault first e))
  in_turn (NoLayout p r reads told e) = of_layout_file p r NoFile reads told e
  in_turn (LongLayout p r bytes reads told long e) = of_layout_file p r (Holds bytes) reads told (inl (long, e))
  in_turn (BadLayout p r bytes fault reads held first e) = of_layout_file p r (Holds bytes) reads held.told (inr (held.short, FaultyStream fault first e))
  in_turn (Made p r l reads made) = of_layout_file p r (Holds reads.bytes) reads.rules reads.held.told (inr (reads.held.short, SoundStream l reads.read (made_alone p.outputs file l r a done made)))
  in_turn (TooFar p r l reads far) = of_layout_file p r (Holds reads.bytes) reads.rules reads.held.told (inr (reads.held.short, SoundStream l reads.read (refused_alone p.outputs file l r a done far)))
  in_turn (NoSchematic p r l path c told e) = of_schematic_file p r l path NoFile c told e
  in_turn (LongSchematic p r l path bytes c told long e) = of_schematic_file p r l path (Holds bytes) c told (inl (long, e))
  in_turn (BadSchematic p r l path bytes fault c held first e) = of_schematic_file p r l path (Holds bytes) c held.told (inr (held.short, FaultyCards fault first e))
  in_turn (TooWide p r l path bytes nl c held means wide) = of_schematic_file p r l path (Holds bytes) c held.told (inr (held.short, WideCards nl means wide))
  in_turn (MadeBeside p r l path bytes nl c held means made) = of_schematic_file p r l path (Holds bytes) c held.told (inr (held.short, SoundCards nl means made))
  in_turn (UntoldSchematic p r l path c told) = of_schematic_file p r l path Untold c told tt
  in_turn (UntoldRules p runs told) = of_rule_file p Untold runs told tt
  in_turn (UntoldLayout p r reads told) = of_layout_file p r Untold reads told tt

  -- ---- and back

  by_cards : (p : Paths) (r : Rules) (l : Layout) (path bytes : List ℕ) → Compares said file p r l path → HasFile file path bytes → OfCards bytes p.outputs l r a done → IsOutcome said file a done
  by_cards p r l path bytes c held (FaultyCards fault first e) = BadSchematic p r l path bytes fault c held first e
  by_cards p r l path bytes c held (WideCards nl means wide) = TooWide p r l path bytes nl c held means wide
  by_cards p r l path bytes c held (SoundCards nl means made) = MadeBeside p r l path bytes nl c held means made

  by_schematic : (p : Paths) (r : Rules) (l : Layout) (path : List ℕ) (t : Told) → Compares said file p r l path → file path ≡ t → OfSchematic t path p.outputs l r a done → IsOutcome said file a done
  by_schematic p r l path Untold c told h = UntoldSchematic p r l path c told
  by_schematic p r l path NoFile c told h = NoSchematic p r l path c told h
  by_schematic p r l path (Holds bytes) c told (inl h) = LongSchematic p r l path bytes c told h.0 h.1
  by_schematic p r l path (Holds bytes) c told (inr h) = by_cards p r l path bytes c (record { told = told; short = h.0 }) h.1

  by_beside : (p : Paths) (r : Rules) (l : Layout) (o : Option (List ℕ)) → ReadsLayout said file p r l → schematic_path p.outputs ≡ o → OfBeside o file p.outputs l r a done → IsOutcome said file a done
  by_beside p r l None reads e (inl h) = Made p r l reads h
  by_beside p r l None reads e (inr h) = TooFar p r l reads h
  by_beside p r l (Some path) reads e h = by_schematic p r l path (file path) (record { reads = reads; beside = e }) refl h

  by_stream : (p : Paths) (r : Rules) (bytes : List ℕ) → ReadsRules said file p r → HasFile file p.layout bytes → OfStream bytes file p r a done → IsOutcome said file a done
  by_stream p r bytes reads held (FaultyStream fault first e) = BadLayout p r bytes fault reads held first e
  by_stream p r bytes reads held (SoundStream l read h) = by_beside p r l (schematic_path p.outputs) (record { rules = reads; bytes = bytes; held = held; read = read }) refl h

  by_layout : (p : Paths) (r : Rules) (t : Told) → ReadsRules said file p r → file p.layout ≡ t → OfLayout t file r p a done → IsOutcome said file a done
  by_layout p r Untold reads told h = UntoldLayout p r reads told
  by_layout p r NoFile reads told h = NoLayout p r reads told h
  by_layout p r (Holds bytes) reads told (inl h) = LongLayout p r bytes reads told h.0 h.1
  by_layout p r (Holds bytes) reads told (inr h) = by_stream p r bytes reads (record { told = told; short = h.0 }) h.1

  by_text : (p : Paths) (bytes : List ℕ) → Runs said p → HasFile file p.rules bytes → OfRuleText bytes (file p.layout) file p a done → IsOutcome said file a done
  by_text p bytes runs held (FaultyRules fault first e) = BadRules p bytes fault runs held first e
  by_text p bytes runs held (SoundRules r means h) = by_layout p r (file p.layout) (record { runs = runs; bytes = bytes; held = held; means = means }) refl h

  by_rules : (p : Paths) (t : Told) → Runs said p → file p.rules ≡ t → OfRules t (file p.layout) file p a done → IsOutcome said file a done
  by_rules p Untold runs told h = UntoldRules p runs told
  by_rules p NoFile runs told h = NoRules p runs told h
  by_rules p (Holds bytes) runs told (inl h) = LongRules p bytes runs told h.0 h.1
  by_rules p (Holds bytes) runs told (inr h) = by_text p bytes runs (record { told = told; short = h.0 }) h.1

-- paths without a clash lead to the rules
pub of_rules : (p : Paths) (file : List ℕ → Told) (a : Answer) (done : Done) → p.shared ≡ None → OfRules (file p.rules) (file p.layout) file p a done → IsOutcome (Some p) file a done
of_rules p file a done apart h = by_rules (Some p) file a done p (file p.rules) (record { stated = refl; apart = apart }) refl h
