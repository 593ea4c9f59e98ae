use Rattle.std.proofs.Common.{◌≡◌, ◌<◌, ◌∙◌, ℕ, Err, List, [], Result, ap, length, refl, subst, sym}
use Rattle.std.proofs.lemmas.List.{length-map}
use Rattle.std.proofs.lemmas.Result.{err_from_is_err_and}
use Rattle.std.specs.List.{All}
use Rattle.std.specs.Option.{option_map}
use Rattle.deep_tables.specs.declared.gates.BadGate.{BadGate}
use Rattle.lvs_run.proofs.Told.{told_inside}
use Rattle.net_model.specs.Rows.{plain_circuit, plain_netlist}
use Rattle.pair_jobs.specs.Verdict.{IsRunVerdict}
use Rattle.plain_netlist.specs.Netlist.{Netlist}
use Rattle.plain_netlist.specs.Sound.{IsGood}
use Rattle.report_file.specs.File.{all_answers, pair_count}
use Rattle.rule_text.specs.Seen.{rules_seen}
use Rattle.view_file.specs.declared.layout.Picture.{Picture}
use Rattle.view_shapes.specs.declared.pieces.ShowFault.{ShowFault}
use Rattle.spice_text.specs.Needs.{first_seen}
use Rattle.view_drawing.specs.Devices.{areas_of}
use Rattle.view_labels.specs.Labels.{numbers_of}
use Rattle.view_picture.proofs.Listed.{regions_listed}
use Rattle.view_run.specs.Far.{Aligned, HasFarBy, Written}
use Rattle.view_run.specs.Sketched.{IsSketchOf}
use Rattle.view_picture.specs.declared.pictures.Sketched.{Sketched}
use Rattle.view_run.proofs.Pictured.{pictured}
use Rattle.view_run.specs.Views.{ArePictured, AreShown, names_of}
use Rattle.view_run.proofs.Again.{narrow_compared}
use Rattle.view_run.proofs.Assembled.{far_aligned, is_view, line_as, layout_alignable, layout_ordered, not_drawn, not_made, schematic_alignable, top_of_both, top_there}
use Rattle.view_run.proofs.Ordering.{shown_ordered}
use Rattle.view_run.proofs.Shown.{all_paired, left_good}
use Rattle.view_run.proofs.making.view_found.Goals as goal

pub as_compared-requires-clause-layout : goal.as_compared-requires-clause-layout
as_compared-requires-clause-layout g c =
    let can = c.extracted_alignable.ensures _ _ _ _ _ _ _ _ c.requires.found.of_cells.right c.requires.found.sound in
    can.0

pub compare_in_turns-requires-clause-layout : goal.compare_in_turns-requires-clause-layout
compare_in_turns-requires-clause-layout g c κs within =
    let can = c.extracted_alignable.ensures _ _ _ _ _ _ _ _ c.requires.found.of_cells.right c.requires.found.sound in
    layout_alignable c.in_ok-both.ensures.both c.combined_alignable.ensures.alignable can.0

pub compare_in_turns-requires-clause-schematic : goal.compare_in_turns-requires-clause-schematic
compare_in_turns-requires-clause-schematic g c κs within =
    schematic_alignable c.in_ok-both.ensures.both c.combined_alignable.ensures.alignable c.requires.schematic

pub compare_in_turns-requires-clause-order : goal.compare_in_turns-requires-clause-order
compare_in_turns-requires-clause-order g c κs within =
    let can = c.extracted_alignable.ensures _ _ _ _ _ _ _ _ c.requires.found.of_cells.right c.requires.found.sound in
    layout_ordered c.in_ok-both.ensures.both can.1

pub compare_in_turns-requires-clause-top : goal.compare_in_turns-requires-clause-top
compare_in_turns-requires-clause-top g c κs within =
    top_of_both c.in_ok-both.ensures.both c.args.found.top (top_there _ _ _ _ _ _ _ _ _ c.requires.found.of_cells)

pub joined-requires-clause-written : goal.joined-requires-clause-written
joined-requires-clause-written g c =
    let can = c.extracted_alignable.ensures _ _ _ _ _ _ _ _ c.requires.found.of_cells.right c.requires.found.sound in
    (c.origins_asked.ensures.written (plain_netlist c.in_ok-both.both.layout)
    (layout_alignable c.in_ok-both.ensures.both c.combined_alignable.ensures.alignable can.0) (layout_ordered c.in_ok-both.ensures.both can.1)).0

pub joined-requires-clause-apart : goal.joined-requires-clause-apart
joined-requires-clause-apart g c =
    let can = c.extracted_alignable.ensures _ _ _ _ _ _ _ _ c.requires.found.of_cells.right c.requires.found.sound in
    (c.origins_asked.ensures.written (plain_netlist c.in_ok-both.both.layout)
    (layout_alignable c.in_ok-both.ensures.both c.combined_alignable.ensures.alignable can.0) (layout_ordered c.in_ok-both.ensures.both can.1)).1

pub joined-requires-clause-shown : goal.joined-requires-clause-shown
joined-requires-clause-shown g c =
    let r = rules_seen c.args.rules.now in
    let can = c.extracted_alignable.ensures _ _ _ _ _ _ _ _ c.requires.found.of_cells.right c.requires.found.sound in
    let both = c.in_ok-both.both in
    let good = (c.origins_asked.ensures.written (plain_netlist both.layout)
    (layout_alignable c.in_ok-both.ensures.both c.combined_alignable.ensures.alignable can.0) (layout_ordered c.in_ok-both.ensures.both can.1)).0 in
    subst (λ (n : Netlist). IsGood n (λ k. k)) (sym c.shown_circuits-shown.ensures)
    (left_good r (plain_netlist both.layout) c.args.found.top (plain_netlist both.schematic) c.in_ok-turns.ensures.same
    c.in_ok-turns.turns.compared good c.in_ok-turns.ensures.comparison)

pub returns-in_err-both-clause-refused : goal.returns-in_err-both-clause-refused
returns-in_err-both-clause-refused g c =
    let r = rules_seen c.args.rules.now in
    let other = plain_netlist c.args.schematic in
    let e = err_from_is_err_and c.from_residual-in_err-both.result c.from_residual-in_err-both.ensures.1 in
    rw (e.1, e.2) (not_made c.args.layout.now r other c.args.found c.requires.found _ c.in_err-both.ensures.refused)

pub joined-requires-clause-inside : goal.joined-requires-clause-inside
joined-requires-clause-inside g c =
    let are = rw c.in-Ok.is at c.draw.ensures.sketched in
    are.inside

pub joined-requires-clause-small_regions : goal.joined-requires-clause-small_regions
joined-requires-clause-small_regions g c =
    let are = rw c.in-Ok.is at c.draw.ensures.sketched in
    are.small_regions

pub returns-in-Err-clause-refused : goal.returns-in-Err-clause-refused
returns-in-Err-clause-refused g c =
    let r = rules_seen c.args.rules.now in
    let f = c.args.found in
    let other = plain_netlist c.args.schematic in
    not_drawn c.args.layout.now r other c.in-Err.fault _ c.view_stop.ensures (λ is. Written (c.draw.ensures.far (c.in-Err.is ∙ ap (λ (f : ShowFault). let x : Result Sketched ShowFault = Err f in x) is)))

pub returns-in-Err-joined-clause-refused : goal.returns-in-Err-joined-clause-refused
returns-in-Err-joined-clause-refused g c =
    let l = c.args.layout.now in
    let r = rules_seen c.args.rules.now in
    let f = c.args.found in
    let other = plain_netlist c.args.schematic in
    let one = plain_netlist c.in_ok-both.both.layout in
    let v = c.in-Ok.drawn in
    let are = rw c.in-Ok.is at c.draw.ensures.sketched in
    let named = subst (λ (ns : List (List ℕ)). IsSketchOf l r are.source f.cells.cells.items ns one v.sketch) c.in_ok-names.ensures are.sketch in
    not_drawn l r other c.in-Err-joined.fault _ c.view_stop-in-Err-joined.ensures (λ is.
    let by0 = c.joined.ensures.far (c.in-Err-joined.is ∙ ap (λ (g : ShowFault). let x : Result Picture ShowFault = Err g in x) is) in
    let by = subst (λ (n : Netlist). HasFarBy one n v.sketch.drawings.items (areas_of v.sketch.regions.regions.items)) c.shown_circuits-shown.ensures by0 in
    Aligned (far_aligned l r other f c.requires.found c.in_ok-turns.turns are.source f.cells.cells.items v.sketch c.in_ok-both.both c.in_ok-both.ensures.both are.are are.layers are.nets are.gates are.pins
    (record { taken = c.in_ok-turns.ensures; sketched = named; by = by })))

pub joined-requires-clause-small : goal.joined-requires-clause-small
joined-requires-clause-small g c =
    let are = rw c.in-Ok.is at c.draw.ensures.sketched in
    are.small

pub joined-requires-clause-listed : goal.joined-requires-clause-listed
joined-requires-clause-listed g c =
    let are = rw c.in-Ok.is at c.draw.ensures.sketched in
    let written = (plain_netlist c.in_ok-both.both.layout).circuits in
    regions_listed are.source are.sketch.nets are.sketch.called c.args.found.cells.cells.items (first_seen [] c.in_ok-names.names.items)
    (numbers_of (first_seen [] c.in_ok-names.names.items) written) written (areas_of c.in-Ok.drawn.sketch.regions.regions.items) c.in-Ok.drawn.sketch.drawings.items are.sketch.drawn.by_cells

pub view_answered-requires-clause-narrow : goal.view_answered-requires-clause-narrow
view_answered-requires-clause-narrow g c =
    let r = rules_seen c.args.rules.now in
    narrow_compared r (plain_netlist c.in_ok-both.both.layout) c.args.found.top (plain_netlist c.in_ok-both.both.schematic)
    c.in_ok-turns.ensures.same c.in_ok-turns.turns.compared c.in_ok-both.ensures.narrow c.in_ok-turns.ensures.comparison

pub view_answered-requires-clause-paired : goal.view_answered-requires-clause-paired
view_answered-requires-clause-paired g c =
    let r = rules_seen c.args.rules.now in
    all_paired r (plain_netlist c.in_ok-both.both.layout) c.args.found.top (plain_netlist c.in_ok-both.both.schematic)
    c.in_ok-turns.ensures.same c.in_ok-turns.turns.compared c.in_ok-turns.ensures.comparison

pub view_answered-requires-clause-ordered : goal.view_answered-requires-clause-ordered
view_answered-requires-clause-ordered g c =
    let r = rules_seen c.args.rules.now in
    shown_ordered r (plain_netlist c.in_ok-both.both.layout) c.args.found.top (plain_netlist c.in_ok-both.both.schematic)
    c.in_ok-turns.ensures.same c.in_ok-turns.turns.compared
    (schematic_alignable c.in_ok-both.ensures.both c.combined_alignable.ensures.alignable c.requires.schematic).sound c.in_ok-turns.ensures.comparison

pub view_answered-requires-clause-cells : goal.view_answered-requires-clause-cells
view_answered-requires-clause-cells g c =
    let r = rules_seen c.args.rules.now in
    subst (λ (bs : List BadGate). All (λ x. x.cell < length c.args.layout.now.design.cells) bs) (sym c.deref.ensures.value)
    (told_inside c.args.layout.now.design r c.args.found.cells.tables.gated.gates c.args.found.bad.items c.sound.ensures c.requires.found.told)

pub view_answered-requires-clause-top : goal.view_answered-requires-clause-top
view_answered-requires-clause-top g c =
    top_of_both c.in_ok-both.ensures.both c.args.found.top (top_there _ _ _ _ _ _ _ _ _ c.requires.found.of_cells)

pub returns-clause-made : goal.returns-clause-made
returns-clause-made g c =
    let l = c.args.layout.now in
    let r = rules_seen c.args.rules.now in
    let f = c.args.found in
    let nl = plain_netlist f.netlist in
    let both = c.in_ok-both.both in
    let o = c.in_ok-turns.turns.compared in
    let p = c.in-Ok-joined.picture in
    let one = plain_netlist both.layout in
    let two = plain_netlist both.schematic in
    let shown = c.shown_circuits-shown in
    let v = c.in_ok-made.made in
    let text = v.text.items in
    let page = option_map (λ text. text.items) v.page in
    let are = rw c.in-Ok.is at c.draw.ensures.sketched in
    let by = rw c.in-Ok-joined.is at c.joined.ensures.picture in
    let whole = pictured l c.args.rules.now f.cells c.in_ok-names.names.items one (plain_netlist shown.result.now) c.in-Ok.drawn p are by in
    let named = subst (λ (ns : List (List ℕ)). ArePictured l r f.cells ns one (plain_netlist shown.result.now) p) c.in_ok-names.ensures whole in
    let drawn = subst (λ (n : Netlist). ArePictured l r f.cells (names_of nl) one n p) shown.ensures named in
    let bad = c.deref.ensures.value in
    let written = subst (λ (bs : List BadGate). AreShown l r p one two o f.top bs c.args.paged text page) bad c.in_ok-made.ensures.shown in
    let verdict = subst (λ (bs : List BadGate). IsRunVerdict (length bs) (all_answers o) v.verdict) bad c.in_ok-made.ensures.verdict in
    let circuits : c.len-circuits.result ≡ length nl.circuits = c.len-circuits.ensures ∙ (f.netlist.circuits.ok.0 ∙ sym (length-map f.netlist.circuits.items plain_circuit)) in
    let line_is = line_as v.line.items v.verdict _ _ _ (length nl.circuits) (pair_count o) (length f.bad.items) circuits refl (ap length bad) c.in_ok-made.ensures.line in
    is_view l r (plain_netlist c.args.schematic) f c.requires.found c.in_ok-turns.turns p c.args.paged text page both v.verdict v.line.items c.in_ok-both.ensures.both (record { taken = c.in_ok-turns.ensures; drawn = drawn; written = written }) verdict line_is
