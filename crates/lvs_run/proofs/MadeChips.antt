-- What the texts of a chip come to.
use Rattle.std.proofs.Common.{◌≡◌, ◌≢◌, ◌↔◌, inl, inr, ◌<◌, ◌≤◌, ◌++◌, ℕ, Bool, true, false, List, [], ◌∷◌, length, Option, Some, None, IsNone, IfSome, Result, Ok, Err, IfOk, codes, if◌then◌else◌, refl, sym, ap, subst, ◌∙◌, arith}
use Rattle.std.specs.Str.{bytes_eq}
use Rattle.std.proofs.lemmas.List.{append_cancel_left}
use Rattle.std.proofs.lemmas.Slice.Eq.{bytes_eq-Decides}
use Rattle.lvs_outside.specs.Store.{Store, Told, NoFile, Holds}
use Rattle.lvs_outside.specs.Loops.{limit}
use Rattle.lvs_outside.specs.Files.{File, AreApart}
use Rattle.gds_layout.specs.declared.layout.Layout.{Layout as ReadLayout}
use Rattle.run_layout.specs.RunLayout.{IsRunFault, IsRunLayout}
use Rattle.gds_layout.specs.declared.layout.LayoutFault.{LayoutFault}
use Rattle.gds_layout.specs.declared.layout.LayoutFault.TheVariants as layout
use Rattle.plain_netlist.specs.Netlist.{Netlist}
use Rattle.rule_text.specs.declared.fault.RuleFault.{RuleFault}
use Rattle.rule_text.specs.declared.fault.RuleFault.TheVariants as rule
use Rattle.rule_text.specs.Rules as rule_sets
use Rattle.rule_text.specs.Reading.{Means, Answers}
use Rattle.spice_rows.specs.Sizes.{read_limit}
use Rattle.spice_rows.specs.declared.fault.SpiceFault.{SpiceFault}
use Rattle.spice_rows.specs.declared.fault.SpiceFault.TheVariants as spice
use Rattle.spice_text.specs.Means.{Means as SpiceMeans, SaysFirst}
use Rattle.lvs_run.specs.declared.output.Output.{Output}
use Rattle.lvs_run.specs.Chips.{chip_files, layout_at, layout_text, rules_at, rules_text, schematic_at, schematic_text, with_files}
use Rattle.lvs_run.specs.Words.{Paths, ToChip, chip_paths}
use Rattle.lvs_run.proofs.Widths.{only_these}
use Rattle.report_file.specs.Combined.{wide_name}
use Rattle.lvs_run.specs.Answers.{Done, Answer, NoMemory, RefusedLong, RefusedRules, RefusedLayout, RefusedSchematic, RefusedMergedLayout, RefusedMergedSchematic, refused_layout, refused_rules, refused_schematic, verdict_of}
use Rattle.lvs_run.specs.Outcomes.{IsOutcome, IsTooWide}
use Rattle.lvs_run.specs.Runs.{IsLong, IsWideChip}
use Rattle.lvs_run.specs.Inputs.{IsInput, IsOutputBeside, IsReady, NotMerged, Stops}
use Rattle.lvs_run.specs.Once.{ChipToldLaw, IsTold}
use Rattle.lvs_run.specs.Flat.{OfInputs}
use Rattle.lvs_run.specs.Texts.{NoLayoutIn, NoRulesIn, NoSchematicIn}
use Rattle.lvs_run.specs.Verdicts.{HasVerdicts, IsMatchOf, ListsReport, MatchLaw, TextsFact, VerdictsLaw}
use Rattle.lvs_run.proofs.Flattened.{where_told}
use Rattle.lvs_run.proofs.Reported.{where_meant}
use Rattle.lvs_run.proofs.Steps.{FaultyCards, WideCards, SoundCards, OfSchematic, FaultyStream, SoundStream, OfLayout, FaultyRules, SoundRules, OfRules, of_rules}
use Rattle.lvs_run.proofs.Stopping.{layout_read, long_layout, long_rules, long_schematic, rules_read, schematic_read, verdict_cause_beside}

-- ---- the paths differ

-- the byte behind the dot
abbrev second : List ℕ → ℕ
second [] = 0
second (x ∷ []) = 0
second (x ∷ y ∷ ys) = y

rules_not_layout : codes ".lvs" ≢ codes ".gds"
rules_not_layout e = let h : 108 ≡ 103 = ap second e in omega (arith, h)

schematic_not_layout : codes ".cir" ≢ codes ".gds"
schematic_not_layout e = let h : 99 ≡ 103 = ap second e in omega (arith, h)

schematic_not_rules : codes ".cir" ≢ codes ".lvs"
schematic_not_rules e = let h : 99 ≡ 108 = ap second e in omega (arith, h)

behind_differ : (prefix xs ys : List ℕ) → xs ≢ ys → prefix ++ xs ≢ prefix ++ ys
behind_differ prefix xs ys not e = not (append_cancel_left prefix xs ys e)

pub chip_apart : (n seed : ℕ) (prefix : List ℕ) → AreApart (chip_files n seed prefix)
chip_apart n seed prefix = (
  (
    (λ e. behind_differ prefix (codes ".lvs") (codes ".gds") rules_not_layout (sym e)),
    ((λ e. behind_differ prefix (codes ".cir") (codes ".gds") schematic_not_layout (sym e)), tt),
  ),
  (((λ e. behind_differ prefix (codes ".cir") (codes ".lvs") schematic_not_rules (sym e)), tt), (tt, tt)),
)

-- ---- what is told of them

then_first : (b : Bool) (x y : Told) → b ≡ true → (if b then x else y) ≡ x
then_first true x y e = refl
then_first false x y e = cc

then_next : (b : Bool) (x y : Told) → (b ≡ true → ⊥) → (if b then x else y) ≡ y
then_next true x y not = absurd (not refl)
then_next false x y not = refl

here : (f : File) (fs : List File) (file : List ℕ → Told) → with_files (f ∷ fs) file f.path ≡ Holds f.text
here f fs file = then_first (bytes_eq f.path f.path) (Holds f.text) (with_files fs file f.path) ((bytes_eq-Decides f.path f.path).1 refl)

further : (f : File) (fs : List File) (file : List ℕ → Told) (path : List ℕ) → path ≢ f.path → with_files (f ∷ fs) file path ≡ with_files fs file path
further f fs file path not = then_next (bytes_eq path f.path) (Holds f.text) (with_files fs file path) (λ e. not ((bytes_eq-Decides path f.path).0 e))

abbrev one : ℕ → ℕ → List ℕ → File
one n seed prefix = record { path = layout_at prefix; text = layout_text n seed }

abbrev two : List ℕ → File
two prefix = record { path = rules_at prefix; text = rules_text }

abbrev three : ℕ → ℕ → List ℕ → File
three n seed prefix = record { path = schematic_at prefix; text = schematic_text n seed }

module _ (n seed : ℕ) (prefix : List ℕ) (file : List ℕ → Told) where
  told_layout : with_files (chip_files n seed prefix) file (layout_at prefix) ≡ Holds (layout_text n seed)
  told_layout = here (one n seed prefix) (two prefix ∷ three n seed prefix ∷ []) file

  told_rules : with_files (chip_files n seed prefix) file (rules_at prefix) ≡ Holds rules_text
  told_rules =
      further (one n seed prefix) (two prefix ∷ three n seed prefix ∷ []) file (rules_at prefix) (behind_differ prefix (codes ".lvs") (codes ".gds") rules_not_layout)
      ∙ here (two prefix) (three n seed prefix ∷ []) file

  told_schematic : with_files (chip_files n seed prefix) file (schematic_at prefix) ≡ Holds (schematic_text n seed)
  told_schematic =
      further (one n seed prefix) (two prefix ∷ three n seed prefix ∷ []) file (schematic_at prefix) (behind_differ prefix (codes ".cir") (codes ".gds") schematic_not_layout)
      ∙ (further (two prefix) (three n seed prefix ∷ []) file (schematic_at prefix) (behind_differ prefix (codes ".cir") (codes ".lvs") schematic_not_rules)
      ∙ here (three n seed prefix) [] file)

is_told : (t : Told) (text : List ℕ) → t ≡ Holds text → IsTold t
is_told t text e = subst IsTold (sym e) tt

pub chip_told : ChipToldLaw
chip_told n seed prefix file = (
  is_told _ rules_text (told_rules n seed prefix file),
  (is_told _ (layout_text n seed) (told_layout n seed prefix file), is_told _ (schematic_text n seed) (told_schematic n seed prefix file)),
)

input_of : (t : Told) (text : List ℕ) → t ≡ Holds text → length text ≤ limit → IsInput text t
input_of t text e short = subst (IsInput text) (sym e) (refl, short)

long_of : (t : Told) (text : List ℕ) → t ≡ Holds text → limit < length text → IsLong t
long_of t text e long = subst IsLong (sym e) long

-- ---- faults of a text

pub rules_fault : (path text : List ℕ) (fault : RuleFault) → length text ≤ limit → Answers text fault → NoRulesIn path text (refused_rules fault)
rules_fault path text rule.NoMemory short h = tt
rules_fault path text fault short h = (short, h)

pub layout_fault : (path text : List ℕ) (top : Option (List ℕ)) (r : rule_sets.Rules) (fault : LayoutFault) → length text ≤ limit → IsRunFault text top r fault → NoLayoutIn path text top r (refused_layout fault)
layout_fault path text top r layout.NoMemory short h = tt
layout_fault path text top r fault short h = (short, h)

pub schematic_fault : (path text : List ℕ) (fault : SpiceFault) → length text ≤ limit → SaysFirst read_limit text fault → NoSchematicIn path text (refused_schematic fault)
schematic_fault path text spice.NoMemory short h = tt
schematic_fault path text fault short h = (short, h)

-- ---- the texts in turn

pub no_memory : (said : Option Paths) (s : Store) → Stops said s s NoMemory
no_memory said s = record { cause = tt; faults = refl; comes = tt }

-- what the store tells where the chip's files stand
abbrev told_of : ℕ → ℕ → List ℕ → Store → List ℕ → Told
told_of n seed prefix s = with_files (chip_files n seed prefix) s.file

-- these are the chip's rules, layout and schematic
pub record IsChip (n seed : ℕ) (r : rule_sets.Rules) (l : ReadLayout) (nl : Netlist) : Type 0 where
  pub short_rules : length rules_text ≤ limit
  pub rules : Means rules_text r
  pub short_layout : length (layout_text n seed) ≤ limit
  pub layout : IsRunLayout (layout_text n seed) (Some (codes "TOP")) r l
  pub short_schematic : length (schematic_text n seed) ≤ limit
  pub schematic : SpiceMeans read_limit (schematic_text n seed) nl

module _ (n seed : ℕ) (prefix : List ℕ) (s : Store) where
  rules_in : length rules_text ≤ limit → IsInput rules_text (told_of n seed prefix s (rules_at prefix))
  rules_in short = input_of _ rules_text (told_rules n seed prefix s.file) short

  layout_in : length (layout_text n seed) ≤ limit → IsInput (layout_text n seed) (told_of n seed prefix s (layout_at prefix))
  layout_in short = input_of _ (layout_text n seed) (told_layout n seed prefix s.file) short

  schematic_in : length (schematic_text n seed) ≤ limit → IsInput (schematic_text n seed) (told_of n seed prefix s (schematic_at prefix))
  schematic_in short = input_of _ (schematic_text n seed) (told_schematic n seed prefix s.file) short

  on_rules : (a : Answer) (done : Done) → OfRules (told_of n seed prefix s (rules_at prefix)) (told_of n seed prefix s (layout_at prefix)) (told_of n seed prefix s) (chip_paths n seed prefix) a done
      → IsOutcome (Some (chip_paths n seed prefix)) (told_of n seed prefix s) a done
  on_rules a done h = of_rules (chip_paths n seed prefix) (told_of n seed prefix s) a done refl h

  pub no_rules : (a : Answer) → NoRulesIn (rules_at prefix) rules_text a → Stops (Some (chip_paths n seed prefix)) s s a
  no_rules (RefusedLong q) h = record {
    cause = (
      (refl, inl h.0),
      subst (λ (x : List ℕ). IsLong (with_files (chip_files n seed prefix) (λ y. NoFile) x)) (sym h.0) (long_of _ rules_text (told_rules n seed prefix (λ y. NoFile)) h.1),
      refl,
    );
    faults = refl;
    comes = λ done. on_rules (RefusedLong q) done (long_rules _ _ (told_of n seed prefix s) (chip_paths n seed prefix) (RefusedLong q) done (long_of _ rules_text (told_rules n seed prefix s.file) h.1) (ap RefusedLong h.0));
  }
  no_rules (RefusedRules fault) h = record {
    cause = ((refl, h.1), refl);
    faults = refl;
    comes = λ done. on_rules (RefusedRules fault) done (rules_read _ _ (told_of n seed prefix s) (chip_paths n seed prefix) (RefusedRules fault) done rules_text (rules_in h.0) (FaultyRules fault h.1 refl));
  }
  no_rules NoMemory h = no_memory _ s
  no_rules a h = absurd h

  module _ (r : rule_sets.Rules) (short_rules : length rules_text ≤ limit) (rules : Means rules_text r) where
    on_layout : (a : Answer) (done : Done) → OfLayout (told_of n seed prefix s (layout_at prefix)) (told_of n seed prefix s) r (chip_paths n seed prefix) a done
        → IsOutcome (Some (chip_paths n seed prefix)) (told_of n seed prefix s) a done
    on_layout a done h = on_rules a done (rules_read _ _ (told_of n seed prefix s) (chip_paths n seed prefix) a done rules_text (rules_in short_rules) (SoundRules r rules h))

    pub no_layout : (a : Answer) → NoLayoutIn (layout_at prefix) (layout_text n seed) (Some (codes "TOP")) r a → Stops (Some (chip_paths n seed prefix)) s s a
    no_layout (RefusedLong q) h = record {
      cause = (
        (refl, inr (inl h.0)),
        subst (λ (x : List ℕ). IsLong (with_files (chip_files n seed prefix) (λ y. NoFile) x)) (sym h.0) (long_of _ (layout_text n seed) (told_layout n seed prefix (λ y. NoFile)) h.1),
        refl,
      );
      faults = refl;
      comes = λ done. on_layout (RefusedLong q) done (long_layout _ (told_of n seed prefix s) r (chip_paths n seed prefix) (RefusedLong q) done (long_of _ (layout_text n seed) (told_layout n seed prefix s.file) h.1) (ap RefusedLong h.0));
    }
    no_layout (RefusedLayout fault) h = record {
      cause = ((refl, (r, rules, h.1)), refl);
      faults = refl;
      comes = λ done. on_layout (RefusedLayout fault) done (layout_read _ (told_of n seed prefix s) r (chip_paths n seed prefix) (RefusedLayout fault) done (layout_text n seed) (layout_in h.0) (FaultyStream fault h.1 refl));
    }
    no_layout NoMemory h = no_memory _ s
    no_layout a h = absurd h

    module _ (l : ReadLayout) (short_layout : length (layout_text n seed) ≤ limit) (layout : IsRunLayout (layout_text n seed) (Some (codes "TOP")) r l) where
      on_schematic : (a : Answer) (done : Done) → OfSchematic (told_of n seed prefix s (schematic_at prefix)) (schematic_at prefix) (ToChip n seed prefix) l r a done
          → IsOutcome (Some (chip_paths n seed prefix)) (told_of n seed prefix s) a done
      on_schematic a done h = on_layout a done (layout_read _ (told_of n seed prefix s) r (chip_paths n seed prefix) a done (layout_text n seed) (layout_in short_layout) (SoundStream l layout h))

      pub no_schematic : (a : Answer) → NoSchematicIn (schematic_at prefix) (schematic_text n seed) a → Stops (Some (chip_paths n seed prefix)) s s a
      no_schematic (RefusedLong q) h = record {
        cause = (
          (refl, inr (inr (ap (λ (x : List ℕ). Some x) (sym h.0)))),
          subst (λ (x : List ℕ). IsLong (with_files (chip_files n seed prefix) (λ y. NoFile) x)) (sym h.0) (long_of _ (schematic_text n seed) (told_schematic n seed prefix (λ y. NoFile)) h.1),
          refl,
        );
        faults = refl;
        comes = λ done. on_schematic (RefusedLong q) done (long_schematic _ (schematic_at prefix) (ToChip n seed prefix) l r (RefusedLong q) done (long_of _ (schematic_text n seed) (told_schematic n seed prefix s.file) h.1) (ap RefusedLong h.0));
      }
      no_schematic (RefusedSchematic fault) h = record {
        cause = ((refl, (schematic_at prefix, refl, h.1)), refl);
        faults = refl;
        comes = λ done. on_schematic (RefusedSchematic fault) done (schematic_read _ (schematic_at prefix) (ToChip n seed prefix) l r (RefusedSchematic fault) done (schematic_text n seed) (schematic_in h.0) (FaultyCards fault h.1 refl));
      }
      no_schematic NoMemory h = no_memory _ s
      no_schematic a h = absurd h

-- ---- what can't be merged

wide_chip : (n seed : ℕ) (r : rule_sets.Rules) (l : ReadLayout) (nl : Netlist) (a : Answer) → IsChip n seed r l nl → IsTooWide l r nl a → IsWideChip n seed (Some (codes "TOP")) a
wide_chip n seed r l nl a chip h = record { rules = r; means = chip.rules; layout = l; read = chip.layout; schematic = nl; meant = chip.schematic; wide = h }

module _ (n seed : ℕ) (prefix : List ℕ) (s : Store) (r : rule_sets.Rules) (l : ReadLayout) (nl : Netlist) (chip : IsChip n seed r l nl) where
  wide_comes : (a : Answer) (done : Done) → IsTooWide l r nl a → IsOutcome (Some (chip_paths n seed prefix)) (told_of n seed prefix s) a done
  wide_comes a done h =
      on_schematic n seed prefix s r chip.short_rules chip.rules l chip.short_layout chip.layout a done
      (schematic_read _ (schematic_at prefix) (ToChip n seed prefix) l r a done (schematic_text n seed) (schematic_in n seed prefix s chip.short_schematic) (WideCards nl chip.schematic h))

  pub not_merged : (a : Answer) → NotMerged l r nl a → Stops (Some (chip_paths n seed prefix)) s s a
  not_merged (RefusedMergedLayout name) h = record {
    cause = ((refl, (schematic_at prefix, refl, wide_chip n seed r l nl (RefusedMergedLayout name) chip h)), refl);
    faults = refl;
    comes = λ done. wide_comes (RefusedMergedLayout name) done h;
  }
  not_merged (RefusedMergedSchematic name) h = record {
    cause = ((refl, (schematic_at prefix, refl, wide_chip n seed r l nl (RefusedMergedSchematic name) chip h)), refl);
    faults = refl;
    comes = λ done. wide_comes (RefusedMergedSchematic name) done h;
  }
  not_merged NoMemory h = no_memory _ s
  not_merged a h = absurd (only_these (wide_name r h.netlist) (wide_name r nl) a h.refused)

-- ---- what there is to write

-- a fact of a report that isn't written
report_of : (n seed : ℕ) (prefix : List ℕ) (s : Store) (r : rule_sets.Rules) (l : ReadLayout) (nl : Netlist) (P : TextsFact) (files : List File) (text told : List ℕ)
    → IsChip n seed r l nl → P l r nl text told → ListsReport (told_of n seed prefix s) (chip_paths n seed prefix) files P
report_of n seed prefix s r l nl P files text told chip fact = (
  text,
  told,
  where_meant _ (schematic_text n seed) nl (λ (m : Netlist). OfInputs (told_of n seed prefix s) (chip_paths n seed prefix) (λ (v : ReadLayout) (q : rule_sets.Rules). P v q m text told)) (schematic_in n seed prefix s chip.short_schematic) chip.schematic
      (where_told _ _ r l (Some (codes "TOP")) (λ (v : ReadLayout) (q : rule_sets.Rules). P v q nl text told) rules_text (layout_text n seed) (rules_in n seed prefix s chip.short_rules)
      (layout_in n seed prefix s chip.short_layout) chip.rules chip.layout fact),
)

pub chip_ready : (n seed : ℕ) (prefix : List ℕ) (s : Store) (r : rule_sets.Rules) (l : ReadLayout) (nl : Netlist) (o : Output) → IsChip n seed r l nl → VerdictsLaw → MatchLaw
    → IsOutputBeside (ToChip n seed prefix) l r nl o → IsReady (Some (chip_paths n seed prefix)) s s o
chip_ready n seed prefix s r l nl o chip verdicts matches made =
    let a = verdict_of o.verdict in
    let ran = made.is in
    record {
      paths = chip_paths n seed prefix;
      stated = refl;
      done = made.done;
      files = made.files;
      apart = made.apart;
      cause = verdict_cause_beside (chip_paths n seed prefix) s s l r nl o.verdict made.done refl refl made.is;
      faults = refl;
      line = made.line;
      comes = on_schematic n seed prefix s r chip.short_rules chip.rules l chip.short_layout chip.layout a made.done
          (schematic_read _ (schematic_at prefix) (ToChip n seed prefix) l r a made.done (schematic_text n seed) (schematic_in n seed prefix s chip.short_schematic) (SoundCards nl chip.schematic made.is));
      flat = tt;
      netlist = tt;
      verdicts = report_of n seed prefix s r l nl (HasVerdicts a) made.done.files ran.spelled ran.report chip (verdicts l r nl (length l.design.order) ran.spelled ran.report ran.counts a ran.reported);
      matched = λ good. report_of n seed prefix s r l nl IsMatchOf made.done.files ran.spelled ran.report chip (matches l r nl (length l.design.order) ran.spelled ran.report ran.counts a ran.reported good);
    }

-- the top's name is one
pub named_top : {E : Type 0} (r : Result (Option (List ℕ)) E) → IfOk r (λ f. IsNone f ↔ (codes "TOP" ≡ [])) → IfOk r (λ f. IfSome f (λ n. n ≡ codes "TOP")) → IfOk r (λ f. f ≡ Some (codes "TOP"))
named_top (Ok None) none some = let no : codes "TOP" ≡ [] = none.0 refl in cc
named_top (Ok (Some n)) none some = ap (λ (w : List ℕ). Some w) some
named_top (Err f) none some = tt

-- ---- the same of what was made

pub no_rules_of : (n seed : ℕ) (prefix : List ℕ) (s : Store) (text : List ℕ) (a : Answer) → text ≡ rules_text → NoRulesIn (rules_at prefix) text a → Stops (Some (chip_paths n seed prefix)) s s a
no_rules_of n seed prefix s text a e h = no_rules n seed prefix s a (subst (λ (xs : List ℕ). NoRulesIn (rules_at prefix) xs a) e h)

pub no_layout_of : (n seed : ℕ) (prefix : List ℕ) (s : Store) (one two : List ℕ) (top : Option (List ℕ)) (r : rule_sets.Rules) (a : Answer) → one ≡ rules_text → two ≡ layout_text n seed → top ≡ Some (codes "TOP")
    → length one ≤ limit → Means one r → NoLayoutIn (layout_at prefix) two top r a → Stops (Some (chip_paths n seed prefix)) s s a
no_layout_of n seed prefix s one two top r a e f t short means h =
    no_layout n seed prefix s r (subst (λ (xs : List ℕ). length xs ≤ limit) e short) (subst (λ (xs : List ℕ). Means xs r) e means) a
    (subst (λ (o : Option (List ℕ)). NoLayoutIn (layout_at prefix) (layout_text n seed) o r a) t (subst (λ (xs : List ℕ). NoLayoutIn (layout_at prefix) xs top r a) f h))

top_so : (r : rule_sets.Rules) (n seed : ℕ) (two : List ℕ) (top : Option (List ℕ)) (l : ReadLayout) → two ≡ layout_text n seed → top ≡ Some (codes "TOP") → IsRunLayout two top r l → IsRunLayout (layout_text n seed) (Some (codes "TOP")) r l
top_so r n seed two top l f t read = subst (λ (o : Option (List ℕ)). IsRunLayout (layout_text n seed) o r l) t (subst (λ (xs : List ℕ). IsRunLayout xs top r l) f read)

pub no_schematic_of : (n seed : ℕ) (prefix : List ℕ) (s : Store) (one two three : List ℕ) (top : Option (List ℕ)) (r : rule_sets.Rules) (l : ReadLayout) (a : Answer)
    → one ≡ rules_text → two ≡ layout_text n seed → three ≡ schematic_text n seed → top ≡ Some (codes "TOP") → length one ≤ limit → Means one r → length two ≤ limit → IsRunLayout two top r l
    → NoSchematicIn (schematic_at prefix) three a → Stops (Some (chip_paths n seed prefix)) s s a
no_schematic_of n seed prefix s one two three top r l a e f g t short means size read h =
    no_schematic n seed prefix s r (subst (λ (xs : List ℕ). length xs ≤ limit) e short) (subst (λ (xs : List ℕ). Means xs r) e means) l (subst (λ (xs : List ℕ). length xs ≤ limit) f size)
    (top_so r n seed two top l f t read) a (subst (λ (xs : List ℕ). NoSchematicIn (schematic_at prefix) xs a) g h)

pub chip_of : (n seed : ℕ) (one two three : List ℕ) (top : Option (List ℕ)) (r : rule_sets.Rules) (l : ReadLayout) (nl : Netlist)
    → one ≡ rules_text → two ≡ layout_text n seed → three ≡ schematic_text n seed → top ≡ Some (codes "TOP") → length one ≤ limit → Means one r → length two ≤ limit → IsRunLayout two top r l
    → length three ≤ limit → SpiceMeans read_limit three nl → IsChip n seed r l nl
chip_of n seed one two three top r l nl e f g t short means size read fits says = record {
  short_rules = subst (λ (xs : List ℕ). length xs ≤ limit) e short;
  rules = subst (λ (xs : List ℕ). Means xs r) e means;
  short_layout = subst (λ (xs : List ℕ). length xs ≤ limit) f size;
  layout = top_so r n seed two top l f t read;
  short_schematic = subst (λ (xs : List ℕ). length xs ≤ limit) g fits;
  schematic = subst (λ (xs : List ℕ). SpiceMeans read_limit xs nl) g says;
}

-- the files of a chip's texts
abbrev pub files_with : List ℕ → List ℕ → List ℕ → List ℕ → List File
files_with prefix layout rules schematic =
    record { path = layout_at prefix; text = layout } ∷ record { path = rules_at prefix; text = rules } ∷ record { path = schematic_at prefix; text = schematic } ∷ []

pub files_so : (n seed : ℕ) (prefix one two three : List ℕ) → one ≡ rules_text → two ≡ layout_text n seed → three ≡ schematic_text n seed → files_with prefix two one three ≡ chip_files n seed prefix
files_so n seed prefix one two three e f g =
    ap (λ (xs : List ℕ). files_with prefix xs one three) f
    ∙ (ap (λ (xs : List ℕ). files_with prefix (layout_text n seed) xs three) e ∙ ap (λ (xs : List ℕ). files_with prefix (layout_text n seed) rules_text xs) g)
