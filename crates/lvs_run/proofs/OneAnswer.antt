-- One outcome for words and told files.
use Rattle.std.proofs.Common.{◌≡◌, ◌≢◌, inl, inr, ℕ, List, length, Option, Some, None, IfSome, Ok, Err, sym, ap, subst, ◌∙◌, arith}
use Rattle.lvs_outside.specs.Store.{Told, Untold, NoFile, Holds}
use Rattle.gds_layout.specs.declared.layout.LayoutFault.{LayoutFault}
use Rattle.gds_layout.specs.declared.layout.LayoutFault.TheVariants as layout
use Rattle.gds_layout.specs.Once.{IsAlike}
use Rattle.run_layout.specs.RunLayout.{IsRunFault, NoRunFaultLaw, OneRunFaultLaw, OneRunLayoutLaw}
use Rattle.report_file.proofs.Combined.{compared_alignable, compared_order}
use Rattle.report_file.specs.Combined.{CombinedAlignableLaw, compared_of, wide_name}
use Rattle.report_file.specs.One.{OneReportLaw}
use Rattle.spice_rows.specs.Sizes.{read_limit}
use Rattle.spice_rows.specs.declared.fault.SpiceFault.{SpiceFault}
use Rattle.spice_rows.specs.declared.fault.SpiceFault.TheVariants as spice
use Rattle.spice_text.specs.Laws.{OneMeaningLaw, NoFaultLaw as SpiceNoFaultLaw}
use Rattle.spice_text.specs.Means.{SaysFirst, IsFirstFault as IsFirstSpiceFault}
use Rattle.lvs_run.proofs.SchematicFaults.{one_fault}
use Rattle.lvs_run.proofs.SameReports.{same_report_file}
use Rattle.rule_text.specs.declared.fault.RuleFault.{RuleFault}
use Rattle.rule_text.specs.Rules.{Rules}
use Rattle.rule_text.specs.Reading.{Means, IsFirstFault, MeaningLaw, FaultLaw}
use Rattle.shapes_file.specs.One.{IsSameFile, NoFileLaw, OneFileLaw, OneWideLaw}
use Rattle.shapes_file.specs.File.{IsNarrow, IsShapesFile}
use Rattle.layout_shapes.specs.Written.{name_of}
use Rattle.cell_graph.specs.Linked.{cell_at}
use Rattle.deep_tables.specs.declared.gates.BadGate.{BadGate}
use Rattle.netlist_file.specs.One.{IsSameNetlist, OneNetlistLaw, OneOrderLaw}
use Rattle.plain_netlist.specs.Netlist.{Netlist}
use Rattle.lvs_run.specs.Words.{Outputs, Paths, ToShapes, ToNetlist, ToReport, ToChip, schematic_path}
use Rattle.gds_layout.specs.declared.layout.Layout.{Layout}
use Rattle.lvs_run.proofs.Ways.{alike_back}
use Rattle.lvs_run.specs.Answers.{Counts, Done, Extracted, Compared, drawn, extracted, compared, made, comparison_answer, Answer, IsVerdict, RefusedWords, RefusedSame, RefusedAbsent, RefusedLong, RefusedRules, RefusedLayout, RefusedSchematic, RefusedWide}
use Rattle.lvs_run.specs.Outcomes.{IsDone, IsDoneBeside, IsDrawn, IsExtracted, IsCompared, IsFirstLayoutFault, IsFirstSchematicFault, IsReported, IsTooFar, IsTooWide, RefusesAlone, RefusesBeside, gates_answer, merge_refusal}
use Rattle.lvs_run.proofs.Steps.{InTurn, in_turn, OfBeside, OfSchematic, OfCards, FaultyCards, WideCards, SoundCards, OfStream, FaultyStream, SoundStream, OfLength, OfLayout, OfRuleText, FaultyRules, SoundRules, OfRules, OfPaths}
use Rattle.lvs_run.proofs.Widths.{never_written}
use Rattle.lvs_run.specs.Once.{IsTold, AreInputsTold, IsSameOutcome, OneOutcomeLaw}

-- a first fault is a fault, and no want of memory
fault_of : (bytes : List ℕ) (top : Option (List ℕ)) (r : Rules) (f : LayoutFault) → IsFirstLayoutFault bytes top r f → IsRunFault bytes top r f × (f ≢ layout.NoMemory)
fault_of bytes top r layout.NoMemory h = absurd h
fault_of bytes top r f h = (h, λ e. cc)

same_drawn : (path : List ℕ) (l m : Layout) (r : Rules) (x y : Done) → (h : IsDrawn l r path x) → (k : IsDrawn m r path y)
    → IsSameFile h.text k.text h.cells k.cells h.rectangles k.rectangles → x ≡ y
same_drawn path l m r x y h k s =
    h.whole ∙ (ap (λ (t : List ℕ). drawn path t h.cells h.rectangles) s.text
    ∙ (ap (λ (n : ℕ). drawn path k.text n h.rectangles) s.cell_count
    ∙ (ap (λ (n : ℕ). drawn path k.text k.cells n) s.rectangle_count ∙ sym k.whole)))

same_extracted : (path netlist : List ℕ) (l m : Layout) (r : Rules) (a b : Answer) (x y : Done) → (h : IsExtracted l r path netlist a x) → (k : IsExtracted m r path netlist b y)
    → IsSameFile h.text k.text h.cells k.cells h.rectangles k.rectangles → IsSameNetlist h.netlist k.netlist h.top k.top h.bad k.bad h.spelled k.spelled → x ≡ y
same_extracted path netlist l m r a b x y h k s t =
    let counts : Extracted h.cells (length h.netlist.circuits) (length h.bad) ≡ Extracted k.cells (length k.netlist.circuits) (length k.bad) =
    ap (λ (n : ℕ). Extracted n (length h.netlist.circuits) (length h.bad)) s.cell_count
    ∙ (ap (λ (nl : Netlist). Extracted k.cells (length nl.circuits) (length h.bad)) t.netlist
    ∙ ap (λ (bs : List BadGate). Extracted k.cells (length k.netlist.circuits) (length bs)) t.bad) in
    h.whole ∙ (ap (λ (w : List ℕ). extracted path w netlist h.spelled (Extracted h.cells (length h.netlist.circuits) (length h.bad))) s.text
    ∙ (ap (λ (w : List ℕ). extracted path k.text netlist w (Extracted h.cells (length h.netlist.circuits) (length h.bad))) t.text
    ∙ (ap (λ (c : Counts). extracted path k.text netlist k.spelled c) counts ∙ sym k.whole)))

same_compared : (path netlist report : List ℕ) (l m : Layout) (r : Rules) (nl : Netlist) (a b : Answer) (x y : Done) → (h : IsCompared l r nl path netlist report a x) → (k : IsCompared m r nl path netlist report b y)
    → h.text ≡ k.text → h.spelled ≡ k.spelled → h.report ≡ k.report → h.counts ≡ k.counts → x ≡ y
same_compared path netlist report l m r nl a b x y h k s t u counts =
    h.whole ∙ (ap (λ (w : List ℕ). compared path w netlist h.spelled report h.report h.counts) s
    ∙ (ap (λ (w : List ℕ). compared path k.text netlist w report h.report h.counts) t
    ∙ (ap (λ (w : List ℕ). compared path k.text netlist k.spelled report w h.counts) u
    ∙ (ap (λ (d : Counts). compared path k.text netlist k.spelled report k.report d) counts ∙ sym k.whole))))

-- reports on one comparison
record IsSameRun (spelled its_spelled told its_told : List ℕ) (one other : Counts) (a b : Answer) : Type 0 where
  pub text : spelled ≡ its_spelled
  pub report : told ≡ its_told
  pub counts : one ≡ other
  pub answer : a ≡ b

same_counts : (n m : ℕ) (one other : Netlist) (pairs others : ℕ) (bad its_bad : List BadGate) → n ≡ m → one ≡ other → pairs ≡ others → bad ≡ its_bad
    → Compared n (length one.circuits) pairs (length bad) ≡ Compared m (length other.circuits) others (length its_bad)
same_counts n m one other pairs others bad its_bad e f g h =
    ap (λ (k : ℕ). Compared k (length one.circuits) pairs (length bad)) e
    ∙ (ap (λ (nl : Netlist). Compared m (length nl.circuits) pairs (length bad)) f
    ∙ (ap (λ (k : ℕ). Compared m (length other.circuits) k (length bad)) g
    ∙ ap (λ (bs : List BadGate). Compared m (length other.circuits) others (length bs)) h))

-- by the laws of the readers, of shapes files, of netlist files and of reports
module _ (meanings : MeaningLaw) (faults : FaultLaw) (no_faults : NoRunFaultLaw) (one_faults : OneRunFaultLaw) (files : OneFileLaw) (wides : OneWideLaw) (no_file : NoFileLaw) (netlists : OneNetlistLaw) (orders : OneOrderLaw)
    (layouts : OneRunLayoutLaw) (schematics : OneMeaningLaw) (no_cards : SpiceNoFaultLaw) (reports : OneReportLaw) (alignable : CombinedAlignableLaw) where
  -- two runs with one refusal
  refused_once : (w a b : Answer) (x y : Done) → (IsVerdict w → ⊥) → a ≡ w → b ≡ w → IsSameOutcome a b x y
  refused_once w a b x y never e f = record { answer = e ∙ sym f; done = λ v. absurd (never (subst IsVerdict e v)) }

  -- ---- the decisions, the last first

  -- two runs with the same outputs, of one layout
  same_done : (o : Outputs) (l m : Layout) (r : Rules) (a b : Answer) (x y : Done) → IsAlike l m
      → IsDone o l r a x → IsDone o m r b y → IsSameOutcome a b x y
  same_done (ToShapes path) l m r a b x y alike h k =
      let one = h.1 in
      let two = k.1 in
      record {
        answer = h.0 ∙ sym k.0;
        done = λ v. same_drawn path l m r x y one two (files l m r one.text two.text one.cells two.cells one.rectangles two.rectangles alike one.file two.file);
      }
  same_done (ToNetlist path netlist) l m r a b x y alike h k =
      let s = files l m r h.text k.text h.cells k.cells h.rectangles k.rectangles alike h.file k.file in
      let t = netlists l m r h.netlist k.netlist h.top k.top h.bad k.bad h.spelled k.spelled alike h.netlist_file k.netlist_file in
      record {
        answer = h.answer ∙ (ap gates_answer t.bad ∙ sym k.answer);
        done = λ v. same_extracted path netlist l m r a b x y h k s t;
      }
  same_done (ToReport schematic path netlist report) l m r a b x y alike h k = absurd h
  same_done (ToChip n seed prefix) l m r a b x y alike h k = absurd h

  -- too long twice, or not twice
  on_length : (bytes : List ℕ) (A B C D R : Type 0) → (A → C → R) → (B → D → R) → OfLength bytes A B → OfLength bytes C D → R
  on_length bytes A B C D R long short (inl x) (inl y) = long x.1 y.1
  on_length bytes A B C D R long short (inl x) (inr y) = absurd (omega (arith, x.0, y.0))
  on_length bytes A B C D R long short (inr x) (inl y) = absurd (omega (arith, x.0, y.0))
  on_length bytes A B C D R long short (inr x) (inr y) = short x.1 y.1

  -- two reports on one comparison
  same_run : (l m : Layout) (r : Rules) (nl : Netlist) (n k : ℕ) (spelled its_spelled report its_report : List ℕ) (counts others : Counts) (a b : Answer) → IsAlike l m
      → n ≡ k → IsReported l r nl n spelled report counts a → IsReported m r nl k its_spelled its_report others b → IsSameRun spelled its_spelled report its_report counts others a b
  same_run l m r nl n k spelled its_spelled report its_report counts others a b alike e h g =
      let t = netlists l m r h.netlist g.netlist h.top g.top h.bad g.bad spelled its_spelled alike h.netlist_file g.netlist_file in
      let same = alike.same in
      let other = same_report_file l m r (compared_of r h.netlist) (compared_of r g.netlist) h.top g.top h.bad g.bad (compared_of r nl) its_report g.pairs g.verdict same.cells (ap (λ (n : Netlist). compared_of r n) t.netlist) t.top t.bad g.report_file in
      let can = h.comparable in
      let u = reports l.design r (compared_of r h.netlist) h.top h.bad (compared_of r nl) report its_report h.pairs g.pairs h.verdict g.verdict can.rules (compared_alignable r h.netlist alignable can.layout) (compared_order r h.netlist can.order)
      (compared_alignable r nl alignable can.schematic) h.report_file other in
      record {
        text = t.text;
        report = u.text;
        counts = h.counted ∙ (same_counts n k h.netlist g.netlist h.pairs g.pairs h.bad g.bad e t.netlist u.pair_count t.bad ∙ sym g.counted);
        answer = h.answer ∙ (ap comparison_answer u.verdict ∙ sym g.answer);
      }

  -- two runs of one comparison
  same_beside : (o : Outputs) (l m : Layout) (r : Rules) (nl : Netlist) (a b : Answer) (x y : Done) → IsAlike l m
      → IsDoneBeside o l r nl a x → IsDoneBeside o m r nl b y → IsSameOutcome a b x y
  same_beside (ToShapes path) l m r nl a b x y alike h k = absurd h
  same_beside (ToNetlist path netlist) l m r nl a b x y alike h k = absurd h
  same_beside (ToReport schematic path netlist report) l m r nl a b x y alike h k =
      let s = files l m r h.text k.text h.cells k.cells h.rectangles k.rectangles alike h.file k.file in
      let u = same_run l m r nl h.cells k.cells h.spelled k.spelled h.report k.report h.counts k.counts a b alike s.cell_count h.reported k.reported in
      record { answer = u.answer; done = λ v. same_compared path netlist report l m r nl a b x y h k s.text u.text u.report u.counts }
  same_beside (ToChip n seed prefix) l m r nl a b x y alike h k =
      let one = h.reported in let two = k.reported in
      let order = orders l m r one.netlist two.netlist one.top two.top one.bad two.bad h.spelled k.spelled alike one.netlist_file two.netlist_file in
      let u = same_run l m r nl (length l.design.order) (length m.design.order) h.spelled k.spelled h.report k.report h.counts k.counts a b alike (ap (λ (cs : List ℕ). length cs) order) one two in
      record { answer = u.answer; done = λ v. h.whole ∙ (ap (λ (c : Counts). made n seed prefix c) u.counts ∙ sym k.whole) }

  -- a layout for which there is no shapes file, twice
  same_far : (l m : Layout) (r : Rules) (a b : Answer) (x y : Done) → IsAlike l m → IsTooFar l r a → IsTooFar m r b → IsSameOutcome a b x y
  same_far l m r a b x y alike h k =
      let same = wides l m r h.cell k.cell alike h.wide k.wide in
      refused_once (RefusedWide (name_of (cell_at l.design h.cell))) a b x y (λ v. v) h.answer (k.answer ∙ ap (λ (n : List ℕ). RefusedWide n) (sym same.name))

  far_or_file : (l m : Layout) (r : Rules) (a : Answer) (text : List ℕ) (cells rectangles : ℕ) → IsAlike l m → IsTooFar l r a → IsShapesFile m r text cells rectangles → ⊥
  far_or_file l m r a text cells rectangles alike h file = no_file m l r h.cell (alike_back l m alike) (record { table = file.table; layers = file.layers; narrow = file.narrow }) h.wide

  -- two refusals of one comparison
  same_width : (l m : Layout) (r : Rules) (nl : Netlist) (a b : Answer) (x y : Done) → IsAlike l m → IsTooWide l r nl a → IsTooWide m r nl b → IsSameOutcome a b x y
  same_width l m r nl a b x y alike h k =
      let t = netlists l m r h.netlist k.netlist h.top k.top h.bad k.bad h.spelled k.spelled alike h.netlist_file k.netlist_file in
      let e : Some a ≡ Some b = sym h.refused ∙ (ap (λ (n : Netlist). merge_refusal (wide_name r n) (wide_name r nl)) t.netlist ∙ k.refused) in
      record { answer = (let s : a ≡ b = cc in s); done = λ v. absurd (never_written (wide_name r h.netlist) (wide_name r nl) a h.refused v) }

  far_or_narrow : (l m : Layout) (r : Rules) (a : Answer) → IsAlike l m → IsTooFar l r a → IsNarrow m r → ⊥
  far_or_narrow l m r a alike h k = no_file m l r h.cell (alike_back l m alike) k h.wide

  -- two refusals with the same outputs
  same_refusal : (o : Outputs) (l m : Layout) (r : Rules) (nl : Netlist) (a b : Answer) (x y : Done) → IsAlike l m
      → RefusesBeside o l r nl a → RefusesBeside o m r nl b → IsSameOutcome a b x y
  same_refusal (ToShapes path) l m r nl a b x y alike h k = absurd h
  same_refusal (ToNetlist path netlist) l m r nl a b x y alike h k = absurd h
  same_refusal (ToReport schematic path netlist report) l m r nl a b x y alike (inl h) (inl k) = same_far l m r a b x y alike h k
  same_refusal (ToReport schematic path netlist report) l m r nl a b x y alike (inl h) (inr k) = absurd (far_or_narrow l m r a alike h k.0)
  same_refusal (ToReport schematic path netlist report) l m r nl a b x y alike (inr h) (inl k) = absurd (far_or_narrow m l r b (alike_back l m alike) k h.0)
  same_refusal (ToReport schematic path netlist report) l m r nl a b x y alike (inr h) (inr k) = same_width l m r nl a b x y alike h.1 k.1
  same_refusal (ToChip n seed prefix) l m r nl a b x y alike h k = same_width l m r nl a b x y alike h k

  -- what is refused isn't compared
  refused_or_compared : (l m : Layout) (r : Rules) (nl : Netlist) (n : ℕ) (spelled report : List ℕ) (counts : Counts) (a b : Answer) → IsAlike l m
      → IsTooWide l r nl a → IsReported m r nl n spelled report counts b → ⊥
  refused_or_compared l m r nl n spelled report counts a b alike h k =
      let t = netlists l m r h.netlist k.netlist h.top k.top h.bad k.bad h.spelled spelled alike h.netlist_file k.netlist_file in
      let e : Some a ≡ None = sym h.refused ∙ (ap (λ (n : Netlist). merge_refusal (wide_name r n) (wide_name r nl)) t.netlist ∙ k.narrow) in cc

  refused_or_made : (o : Outputs) (l m : Layout) (r : Rules) (nl : Netlist) (a b : Answer) (y : Done) → IsAlike l m → RefusesBeside o l r nl a → IsDoneBeside o m r nl b y → ⊥
  refused_or_made (ToShapes path) l m r nl a b y alike h k = k
  refused_or_made (ToNetlist path netlist) l m r nl a b y alike h k = k
  refused_or_made (ToReport schematic path netlist report) l m r nl a b y alike (inl h) k = far_or_file l m r a k.text k.cells k.rectangles alike h k.file
  refused_or_made (ToReport schematic path netlist report) l m r nl a b y alike (inr h) k = refused_or_compared l m r nl k.cells k.spelled k.report k.counts a b alike h.1 k.reported
  refused_or_made (ToChip n seed prefix) l m r nl a b y alike h k = refused_or_compared l m r nl (length m.design.order) k.spelled k.report k.counts a b alike h k.reported

  -- a command that reads no schematic
  refused_or_done : (o : Outputs) (l m : Layout) (r : Rules) (a b : Answer) (y : Done) → IsAlike l m → RefusesAlone o l r a → IsDone o m r b y → ⊥
  refused_or_done (ToShapes path) l m r a b y alike h k = let made = k.1 in far_or_file l m r a made.text made.cells made.rectangles alike h made.file
  refused_or_done (ToNetlist path netlist) l m r a b y alike h k = far_or_file l m r a k.text k.cells k.rectangles alike h k.file
  refused_or_done (ToReport schematic path netlist report) l m r a b y alike h k = h
  refused_or_done (ToChip n seed prefix) l m r a b y alike h k = h

  same_alone : (o : Outputs) (l m : Layout) (r : Rules) (a b : Answer) (x y : Done) → IsAlike l m → RefusesAlone o l r a → RefusesAlone o m r b → IsSameOutcome a b x y
  same_alone (ToShapes path) l m r a b x y alike h k = same_far l m r a b x y alike h k
  same_alone (ToNetlist path netlist) l m r a b x y alike h k = same_far l m r a b x y alike h k
  same_alone (ToReport schematic path netlist report) l m r a b x y alike h k = absurd h
  same_alone (ToChip n seed prefix) l m r a b x y alike h k = absurd h

  -- no want of memory
  a_fault : (bytes : List ℕ) (f : SpiceFault) → IsFirstSchematicFault bytes f → f ≢ spice.NoMemory
  a_fault bytes spice.NoMemory h = absurd h
  a_fault bytes f h = λ e. cc

  first_of : (bytes : List ℕ) (f : SpiceFault) → IsFirstSchematicFault bytes f → IsFirstSpiceFault read_limit bytes f × SaysFirst read_limit bytes f
  first_of bytes spice.NoMemory h = absurd h
  first_of bytes f h = (h, h)

  on_cards : (bytes : List ℕ) (o : Outputs) (l m : Layout) (r : Rules) (a b : Answer) (x y : Done) → IsAlike l m
      → OfCards bytes o l r a x → OfCards bytes o m r b y → IsSameOutcome a b x y
  on_cards bytes o l m r a b x y alike (FaultyCards f h e) (FaultyCards g k d) =
      let one = first_of bytes f h in
      let two = first_of bytes g k in
      refused_once (RefusedSchematic f) a b x y (λ v. v) e (d ∙ ap (λ (z : SpiceFault). RefusedSchematic z) (one_fault read_limit bytes g f (a_fault bytes g k) (a_fault bytes f h) two.0 one.0))
  on_cards bytes o l m r a b x y alike (FaultyCards f h e) (SoundCards nl means made) = let one = first_of bytes f h in absurd (a_fault bytes f h (no_cards read_limit bytes nl f means one.1))
  on_cards bytes o l m r a b x y alike (SoundCards nl means made) (FaultyCards f h e) = let one = first_of bytes f h in absurd (a_fault bytes f h (no_cards read_limit bytes nl f means one.1))
  on_cards bytes o l m r a b x y alike (FaultyCards f h e) (WideCards nl means wide) = let one = first_of bytes f h in absurd (a_fault bytes f h (no_cards read_limit bytes nl f means one.1))
  on_cards bytes o l m r a b x y alike (WideCards nl means wide) (FaultyCards f h e) = let one = first_of bytes f h in absurd (a_fault bytes f h (no_cards read_limit bytes nl f means one.1))
  on_cards bytes o l m r a b x y alike (WideCards nl means wide) (WideCards n also other) =
      let same : n ≡ nl = schematics read_limit bytes n nl also means in
      same_refusal o l m r nl a b x y alike wide (subst (λ (z : Netlist). RefusesBeside o m r z b) same other)
  on_cards bytes o l m r a b x y alike (WideCards nl means wide) (SoundCards n also done) =
      let same : n ≡ nl = schematics read_limit bytes n nl also means in
      absurd (refused_or_made o l m r nl a b y alike wide (subst (λ (z : Netlist). IsDoneBeside o m r z b y) same done))
  on_cards bytes o l m r a b x y alike (SoundCards nl means made) (WideCards n also wide) =
      let same : n ≡ nl = schematics read_limit bytes n nl also means in
      absurd (refused_or_made o m l r nl b a x (alike_back l m alike) (subst (λ (z : Netlist). RefusesBeside o m r z b) same wide) made)
  on_cards bytes o l m r a b x y alike (SoundCards nl means made) (SoundCards n also done) =
      let same : n ≡ nl = schematics read_limit bytes n nl also means in
      same_beside o l m r nl a b x y alike made (subst (λ (z : Netlist). IsDoneBeside o m r z b y) same done)

  on_schematic : (t : Told) (path : List ℕ) (o : Outputs) (l m : Layout) (r : Rules) (a b : Answer) (x y : Done) → IsTold t → IsAlike l m
      → OfSchematic t path o l r a x → OfSchematic t path o m r b y → IsSameOutcome a b x y
  on_schematic Untold path o l m r a b x y told alike h k = absurd told
  on_schematic NoFile path o l m r a b x y told alike h k = refused_once (RefusedAbsent path) a b x y (λ v. v) h k
  on_schematic (Holds bytes) path o l m r a b x y told alike h k =
      on_length bytes (a ≡ RefusedLong path) (OfCards bytes o l r a x) (b ≡ RefusedLong path) (OfCards bytes o m r b y) (IsSameOutcome a b x y)
      (λ e f. refused_once (RefusedLong path) a b x y (λ v. v) e f) (λ s t. on_cards bytes o l m r a b x y alike s t) h k

  on_beside : (s : Option (List ℕ)) (file : List ℕ → Told) (o : Outputs) (l m : Layout) (r : Rules) (a b : Answer) (x y : Done) → IfSome s (λ path. IsTold (file path))
      → IsAlike l m → OfBeside s file o l r a x → OfBeside s file o m r b y → IsSameOutcome a b x y
  on_beside None file o l m r a b x y told alike (inl h) (inl k) = same_done o l m r a b x y alike h k
  on_beside None file o l m r a b x y told alike (inl h) (inr k) = absurd (refused_or_done o m l r b a x (alike_back l m alike) k h)
  on_beside None file o l m r a b x y told alike (inr h) (inl k) = absurd (refused_or_done o l m r a b y alike h k)
  on_beside None file o l m r a b x y told alike (inr h) (inr k) = same_alone o l m r a b x y alike h k
  on_beside (Some path) file o l m r a b x y told alike h k = on_schematic (file path) path o l m r a b x y told alike h k

  on_stream : (bytes : List ℕ) (file : List ℕ → Told) (p : Paths) (r : Rules) (a b : Answer) (x y : Done) → IfSome (schematic_path p.outputs) (λ path. IsTold (file path)) → OfStream bytes file p r a x → OfStream bytes file p r b y → IsSameOutcome a b x y
  on_stream bytes file p r a b x y told (FaultyStream f h e) (FaultyStream g k d) =
      let one = fault_of bytes p.top r f h in
      let two = fault_of bytes p.top r g k in
      refused_once (RefusedLayout f) a b x y (λ v. v) e (d ∙ ap (λ (z : LayoutFault). RefusedLayout z) (one_faults bytes p.top r g f two.0 one.0 two.1 one.1))
  on_stream bytes file p r a b x y told (FaultyStream f h e) (SoundStream l read made) = let one = fault_of bytes p.top r f h in absurd (one.1 (no_faults bytes p.top r l f read one.0))
  on_stream bytes file p r a b x y told (SoundStream l read made) (FaultyStream f h e) = let one = fault_of bytes p.top r f h in absurd (one.1 (no_faults bytes p.top r l f read one.0))
  on_stream bytes file p r a b x y told (SoundStream l read made) (SoundStream m found done) = on_beside (schematic_path p.outputs) file p.outputs l m r a b x y told (layouts bytes p.top r l m read found) made done

  on_layout : (t : Told) (file : List ℕ → Told) (r : Rules) (p : Paths) (a b : Answer) (x y : Done) → IsTold t → IfSome (schematic_path p.outputs) (λ path. IsTold (file path)) → OfLayout t file r p a x → OfLayout t file r p b y → IsSameOutcome a b x y
  on_layout Untold file r p a b x y told last h k = absurd told
  on_layout NoFile file r p a b x y told last h k = refused_once (RefusedAbsent p.layout) a b x y (λ v. v) h k
  on_layout (Holds bytes) file r p a b x y told last h k =
      on_length bytes (a ≡ RefusedLong p.layout) (OfStream bytes file p r a x) (b ≡ RefusedLong p.layout) (OfStream bytes file p r b y) (IsSameOutcome a b x y)
      (λ e f. refused_once (RefusedLong p.layout) a b x y (λ v. v) e f) (λ s t. on_stream bytes file p r a b x y last s t) h k

  means_or_faulty : (bytes : List ℕ) (r : Rules) (fault : RuleFault) → Means bytes r → IsFirstFault bytes fault → ⊥
  means_or_faulty bytes r fault m f = let e : Ok r ≡ Err fault = sym ((meanings bytes r).1 m) ∙ (faults bytes fault).1 f in cc

  on_rule_text : (bytes : List ℕ) (t : Told) (file : List ℕ → Told) (p : Paths) (a b : Answer) (x y : Done) → IsTold t → IfSome (schematic_path p.outputs) (λ path. IsTold (file path)) → OfRuleText bytes t file p a x → OfRuleText bytes t file p b y → IsSameOutcome a b x y
  on_rule_text bytes t file p a b x y told last (FaultyRules f h e) (FaultyRules g k d) =
      let same : g ≡ f = let h : Err g ≡ Err f = sym ((faults bytes g).1 k) ∙ (faults bytes f).1 h in cc in
      refused_once (RefusedRules f) a b x y (λ v. v) e (d ∙ ap RefusedRules same)
  on_rule_text bytes t file p a b x y told last (FaultyRules f h e) (SoundRules r m k) = absurd (means_or_faulty bytes r f m h)
  on_rule_text bytes t file p a b x y told last (SoundRules r m h) (FaultyRules f k e) = absurd (means_or_faulty bytes r f m k)
  on_rule_text bytes t file p a b x y told last (SoundRules r m h) (SoundRules q n k) =
      let same : q ≡ r = let e : Ok q ≡ Ok r = sym ((meanings bytes q).1 n) ∙ (meanings bytes r).1 m in cc in
      on_layout t file r p a b x y told last h (subst (λ (u : Rules). OfLayout t file u p b y) same k)

  on_rules : (t u : Told) (file : List ℕ → Told) (p : Paths) (a b : Answer) (x y : Done) → IsTold t → IsTold u → IfSome (schematic_path p.outputs) (λ path. IsTold (file path)) → OfRules t u file p a x → OfRules t u file p b y → IsSameOutcome a b x y
  on_rules Untold u file p a b x y told there last h k = absurd told
  on_rules NoFile u file p a b x y told there last h k = refused_once (RefusedAbsent p.rules) a b x y (λ v. v) h k
  on_rules (Holds bytes) u file p a b x y told there last h k =
      on_length bytes (a ≡ RefusedLong p.rules) (OfRuleText bytes u file p a x) (b ≡ RefusedLong p.rules) (OfRuleText bytes u file p b y) (IsSameOutcome a b x y)
      (λ e f. refused_once (RefusedLong p.rules) a b x y (λ v. v) e f) (λ s t. on_rule_text bytes u file p a b x y there last s t) h k

  on_paths : (same : Option (List ℕ)) (file : List ℕ → Told) (p : Paths) (a b : Answer) (x y : Done) → IsTold (file p.rules) → IsTold (file p.layout)
      → IfSome (schematic_path p.outputs) (λ path. IsTold (file path)) → OfPaths same file p a x → OfPaths same file p b y → IsSameOutcome a b x y
  on_paths (Some path) file p a b x y told there last h k = refused_once (RefusedSame path) a b x y (λ v. v) h k
  on_paths None file p a b x y told there last h k = on_rules (file p.rules) (file p.layout) file p a b x y told there last h k

  on_turn : (said : Option Paths) (file : List ℕ → Told) (a b : Answer) (x y : Done) → AreInputsTold said file → InTurn said file a x → InTurn said file b y → IsSameOutcome a b x y
  on_turn None file a b x y told h k = refused_once RefusedWords a b x y (λ v. v) h k
  on_turn (Some p) file a b x y told h k = let more = told.1 in on_paths (p.shared) file p a b x y told.0 more.0 more.1 h k

  pub one_answer : OneOutcomeLaw
  one_answer said file a b x y told h k = on_turn said file a b x y told (in_turn said file a x h) (in_turn said file b y k)
