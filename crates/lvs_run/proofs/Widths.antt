-- Which answers refuse what is to be compared.
use Rattle.std.proofs.Common.{◌≡◌, ◌⊎◌, inl, inr, ◌+◌, ◌<◌, ◌≤◌, ℕ, suc, true, false, Bool, cond, if◌then◌else◌, List, [], ◌∷◌, length, slice_get, Option, Some, None, refl, sym, subst, ap, ap₂, ◌∙◌, arith}
use Rattle.base_laws.proofs.Items.{item_at}
use Rattle.std.specs.Option.{option_map}
use Rattle.cell_graph.specs.Linked.{Linked, IsSound, cell_at}
use Rattle.cell_graph.specs.declared.cells.CellPart.{CellPart}
use Rattle.layout_shapes.specs.Written.{name_of as cell_name}
use Rattle.layout_shapes.proofs.Reaching.{within}
use Rattle.deep_tables.specs.declared.gates.BadGate.{BadGate}
use Rattle.gds_layout.specs.declared.layout.Layout.{Layout}
use Rattle.lvs_outside.specs.Store.{Store}
use Rattle.match_report.specs.Pairs.{name_of}
use Rattle.merge_laws.specs.Grouped.{is_too_wide}
use Rattle.net_model.specs.Tests.{first_from, first_of}
use Rattle.netlist_file.specs.File.{IsNetlistFile}
use Rattle.pair_jobs.specs.declared.verdict.Verdict.{Verdict}
use Rattle.plain_netlist.specs.Netlist.{Circuit, Netlist}
use Rattle.report_file.specs.Combined.{compared_of, first_wide, wide_name}
use Rattle.report_file.specs.File.{IsReportFile}
use Rattle.rule_text.specs.Rules.{Rules}
use Rattle.spice_rows.specs.Sizes.{read_limit}
use Rattle.spice_text.specs.Means.{Means as SpiceMeans}
use Rattle.shapes_file.specs.File.{IsNarrow, IsShapesFile, IsWide}
use Rattle.lvs_run.specs.Answers.{Answer, IsVerdict, NoMemory, Outside, RefusedWide, RefusedMergedLayout, RefusedMergedSchematic}
use Rattle.lvs_run.specs.Inputs.{DepotFaults, IsStopFor, NoComparison, NoSchematic, NotForRun, NotMerged, NotWide, ReadAs, RefusesComparison, RefusesSchematic}
use Rattle.lvs_run.specs.Merging.{NotNarrow}
use Rattle.lvs_run.specs.Outcomes.{IsTooFar, IsTooWide, merge_refusal}

abbrev pub IsOfMerge : Answer → Type 0
IsOfMerge (RefusedMergedLayout name) = Unit {0}
IsOfMerge (RefusedMergedSchematic name) = Unit {0}
IsOfMerge a = ⊥

pub only_these : (one other : Option (List ℕ)) (a : Answer) → merge_refusal one other ≡ Some a → IsOfMerge a
only_these (Some name) other a e = let s : RefusedMergedLayout name ≡ a = cc in subst IsOfMerge s tt
only_these None (Some name) a e = let s : RefusedMergedSchematic name ≡ a = cc in subst IsOfMerge s tt
only_these None None a e = absurd cc

not_written : (a : Answer) → IsOfMerge a → IsVerdict a → ⊥
not_written (RefusedMergedLayout name) h v = v
not_written (RefusedMergedSchematic name) h v = v
not_written a h v = h

pub never_written : (one other : Option (List ℕ)) (a : Answer) → merge_refusal one other ≡ Some a → IsVerdict a → ⊥
never_written one other a e v = not_written a (only_these one other a e) v

-- ---- the refusal of a comparison with a schematic that was read

pub refuses_more : (l : Layout) (r : Rules) (old new : Store) (path : List ℕ) (a : Answer) → RefusesSchematic old new path a → RefusesComparison l r old new path a
refuses_more l r old new path a h = record { why = more a h.why; faults = h.faults }
  where
    more : (a : Answer) → NoSchematic old new path a → NoComparison l r old new path a
    more (RefusedWide name) h = absurd h
    more (RefusedMergedLayout name) h = absurd h
    more (RefusedMergedSchematic name) h = absurd h
    more a h = h

-- which answers refuse a comparison whose shapes file is written
abbrev IsOfRun : Answer → Type 0
IsOfRun (RefusedWide name) = Unit {0}
IsOfRun (RefusedMergedLayout name) = Unit {0}
IsOfRun (RefusedMergedSchematic name) = Unit {0}
IsOfRun a = ⊥

of_merge : (a : Answer) → IsOfMerge a → IsOfRun a
of_merge (RefusedMergedLayout name) h = tt
of_merge (RefusedMergedSchematic name) h = tt
of_merge a h = absurd h

only_far : (l : Layout) (r : Rules) (nl : Netlist) (a : Answer) → IsTooFar l r a ⊎ (IsNarrow l r × IsTooWide l r nl a) → IsOfRun a
only_far l r nl a (inl h) = subst IsOfRun (sym h.answer) tt
only_far l r nl a (inr (narrow, h)) = of_merge a (only_these (wide_name r h.netlist) (wide_name r nl) a h.refused)

-- a layout that is refused for its shapes file is refused by the cell's name
abbrev pub IsOfShapes : Answer → Type 0
IsOfShapes (RefusedWide name) = Unit {0}
IsOfShapes a = ⊥

pub only_wide : (l : Layout) (r : Rules) (a : Answer) → IsTooFar l r a → IsOfShapes a
only_wide l r a h = subst IsOfShapes (sym h.answer) tt

pub refuses_wide : (l : Layout) (r : Rules) (old new : Store) (path : List ℕ) (nl : Netlist) (a : Answer) → ReadAs old new path (λ bytes. SpiceMeans read_limit bytes nl) → NotForRun l r nl a → RefusesComparison l r old new path a
refuses_wide l r old new path nl a read h = record { why = why a h; faults = faults a h }
  where
    why : (a : Answer) → NotForRun l r nl a → NoComparison l r old new path a
    why (RefusedWide name) h = record { bytes = read.bytes; got = read.got; is = (nl, read.is, h) }
    why (RefusedMergedLayout name) h = record { bytes = read.bytes; got = read.got; is = (nl, read.is, h) }
    why (RefusedMergedSchematic name) h = record { bytes = read.bytes; got = read.got; is = (nl, read.is, h) }
    why NoMemory h = tt
    why a h = absurd (only_far l r nl a h)

    faults : (a : Answer) → NotForRun l r nl a → DepotFaults a old new
    faults Outside h = absurd (only_far l r nl Outside h)
    faults a h = read.got.faults

-- a cell that is too wide is one
pub wide_inside : (l : Layout) (r : Rules) (cell : ℕ) → IsSound l.design → IsWide l r cell → cell < length l.design.cells
wide_inside l r cell sound h = within l.design cell sound.order h.first.0

-- and its name refuses the layout
pub stops_far : (l : Layout) (r : Rules) (cell : ℕ) (a : Answer) → IsSound l.design → IsWide l r cell → ((c : CellPart) → cell_at l.design cell ≡ Some c → IsStopFor c.name a) → NotWide l r a
stops_far l r cell a sound h f = by_part (item_at l.design.cells cell (wide_inside l r cell sound h)) a f
  where
    far : (p : (c : CellPart) × (cell_at l.design cell ≡ Some c)) (a : Answer) → a ≡ RefusedWide p.0.name → IsTooFar l r a
    far p a e = record { cell = cell; wide = h; answer = e ∙ ap (λ (n : List ℕ). RefusedWide n) (sym (ap cell_name p.1)) }

    by_part : (p : (c : CellPart) × (cell_at l.design cell ≡ Some c)) (a : Answer) → ((c : CellPart) → cell_at l.design cell ≡ Some c → IsStopFor c.name a) → NotWide l r a
    by_part p NoMemory f = tt
    by_part p a f = far p a (f p.0 p.1)

pub run_far : (l : Layout) (r : Rules) (nl : Netlist) (a : Answer) → NotWide l r a → NotForRun l r nl a
run_far l r nl NoMemory h = tt
run_far l r nl a h = inl h

pub run_merged : (l : Layout) (r : Rules) (nl : Netlist) (a : Answer) → IsNarrow l r → NotMerged l r nl a → NotForRun l r nl a
run_merged l r nl NoMemory narrow h = tt
run_merged l r nl a narrow h = inr (narrow, h)

pub narrow_file : (l : Layout) (r : Rules) (text : List ℕ) (cells rectangles : ℕ) → IsShapesFile l r text cells rectangles → IsNarrow l r
narrow_file l r text cells rectangles h = record { table = h.table; layers = h.layers; narrow = h.narrow }

-- ---- by rules that combine devices

pub wide_so : (r : Rules) (nl : Netlist) → r.combine ≡ true → wide_name r nl ≡ first_wide nl
wide_so r nl e = ap (λ (b : Bool). cond b (first_wide nl) None) e

pub none_wide : (r : Rules) (nl : Netlist) → r.combine ≡ false → wide_name r nl ≡ None
none_wide r nl e = ap (λ (b : Bool). cond b (first_wide nl) None) e

pub both_narrow : (one other : Option (List ℕ)) → one ≡ None → other ≡ None → merge_refusal one other ≡ None
both_narrow one other e f = rw (e, f) refl

pub layout_wide : (one other : Option (List ℕ)) (name : List ℕ) → one ≡ Some name → merge_refusal one other ≡ Some (RefusedMergedLayout name)
layout_wide one other name e = rw e refl

pub schematic_wide : (one other : Option (List ℕ)) (name : List ℕ) → one ≡ None → other ≡ Some name → merge_refusal one other ≡ Some (RefusedMergedSchematic name)
schematic_wide one other name e f = rw (e, f) refl

pub narrow_none : (nl : Netlist) → first_of is_too_wide nl.circuits ≡ None → first_wide nl ≡ None
narrow_none nl e = ap (λ (o : Option ℕ). option_map (λ (k : ℕ). name_of (slice_get nl.circuits k)) o) e

pub first_named : (nl : Netlist) (k : ℕ) → first_of is_too_wide nl.circuits ≡ Some k → first_wide nl ≡ Some (name_of (slice_get nl.circuits k))
first_named nl k e = ap (λ (o : Option ℕ). option_map (λ (j : ℕ). name_of (slice_get nl.circuits j)) o) e

within_from : (n : ℕ) (p : Circuit → Bool) (xs : List Circuit) (k : ℕ) → first_from n p xs ≡ Some k → (n ≤ k) × (k < n + length xs)
within_from n p [] k e = absurd cc
within_from n p (x ∷ xs) k e = step (within_from (n + 1) p xs k) (p x) refl
  where
    step : (first_from (n + 1) p xs ≡ Some k → (n + 1 ≤ k) × (k < n + 1 + length xs)) → (b : Bool) → p x ≡ b → (n ≤ k) × (k < n + suc (length xs))
    step later true is = let s : n ≡ k = (let t : Some n ≡ Some k = sym (ap (λ (b : Bool). if b then Some n else first_from (n + 1) p xs) is) ∙ e in cc) in (omega (arith, s), omega (arith, s))
    step later false is =
        let rest = later (sym (ap (λ (b : Bool). if b then Some n else first_from (n + 1) p xs) is) ∙ e) in
        let low = rest.0 in
        let high = rest.1 in (omega (arith, low), omega (arith, high))

-- the circuit that is too wide is one
pub first_within : (p : Circuit → Bool) (xs : List Circuit) (k : ℕ) → first_of p xs ≡ Some k → k < length xs
first_within p xs k e = let h = (within_from 0 p xs k e).1 in omega (arith, h)

-- a comparison of what the rules say is compared
pub report_as : (d : Linked) (r : Rules) (near far layout schematic : Netlist) (top : ℕ) (bad : List BadGate) (text : List ℕ) (pairs : ℕ) (v : Verdict) → compared_of r layout ≡ near → compared_of r schematic ≡ far
    → IsReportFile d r near top bad far text pairs v → IsReportFile d r (compared_of r layout) top bad (compared_of r schematic) text pairs v
report_as d r near far layout schematic top bad text pairs v e f h =
    subst (λ (n : Netlist). IsReportFile d r (compared_of r layout) top bad n text pairs v) (sym f) (subst (λ (n : Netlist). IsReportFile d r n top bad far text pairs v) (sym e) h)

pub not_merged_of : (l : Layout) (r : Rules) (schematic netlist : Netlist) (top : ℕ) (bad : List BadGate) (spelled : List ℕ) → IsNetlistFile l r netlist top bad spelled → r.combine ≡ true → (a : Answer) → NotNarrow netlist schematic a
    → NotMerged l r schematic a
not_merged_of l r schematic netlist top bad spelled file on NoMemory h = tt
not_merged_of l r schematic netlist top bad spelled file on a h = record {
  netlist = netlist;
  top = top;
  bad = bad;
  spelled = spelled;
  netlist_file = file;
  refused = ap₂ merge_refusal (wide_so r netlist on) (wide_so r schematic on) ∙ h;
}
