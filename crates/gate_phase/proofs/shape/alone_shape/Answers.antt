use Rattle.std.proofs.Common.{◌≡◌, ◌∙◌, ◌<◌, ◌↔◌, ℕ, List, None, true, ap, sym, subst, get_or, length}
use Rattle.geo_base.specs.declared.shapes.Rect.{Rect}
use Rattle.flat_layout.specs.Gates.{geometry}
use Rattle.flat_layout.specs.Layers.{Empty, Formula, IsKept}
use Rattle.flat_laws.proofs.Formed.{read_layers}
use Rattle.cell_graph.specs.Linked.{plain}
use Rattle.flat_layout.specs.Regions.{formula, ground_of}
use Rattle.rule_text.specs.Seen.{rules_seen}
use Rattle.rule_layers.specs.Formulas.{formulas}
use Rattle.rule_layers.specs.Meaning.{wiring_of}
use Rattle.gate_search.specs.Gather.{AreMet}
use Rattle.gate_shapes.proofs.Looking.{look_alone}
use Rattle.gate_phase.specs.Kept.{HasLocals}
use Rattle.gate_phase.proofs.Locals.{locals_of}
use Rattle.gate_phase.proofs.Results.{if_ok}
use Rattle.gate_phase.proofs.Shaping.{exact_at}
use Rattle.gate_phase.proofs.shape.alone_shape.Goals as goal

pub kept_in-requires-clause-locals : goal.kept_in-requires-clause-locals
kept_in-requires-clause-locals c =
    let r = rules_seen c.args.site.now.rules.now in let x = c.args.device.now in (get_or (formulas r.names) x.ts Empty, locals_of (plain c.args.site.now.design.now) r c.args.site.now.layers.now x.ts c.requires.ready.layers c.requires.device.ts.known c.requires.ready.rules)

pub kept_in-requires-2-clause-locals : goal.kept_in-requires-2-clause-locals
kept_in-requires-2-clause-locals c =
    let r = rules_seen c.args.site.now.rules.now in let x = c.args.device.now in (get_or (formulas r.names) x.tb Empty, locals_of (plain c.args.site.now.design.now) r c.args.site.now.layers.now x.tb c.requires.ready.layers c.requires.device.tb.known c.requires.ready.rules)

pub returns : goal.returns
returns c =
    let d = plain c.args.site.now.design.now in let r = rules_seen c.args.site.now.rules.now in let x = c.args.device.now in let cell = c.args.site.now.cell in
    let w = wiring_of r in let layers = c.args.site.now.layers.now in let part = c.args.part.now in
    let f = formulas r.names in
    let is_met : (y : Formula) (name : ℕ) (set : List Rect) → y ≡ get_or f name Empty → name < length r.names → ((z : Formula) → HasLocals d layers name z → AreMet (IsKept d cell z) c.rects-windows.result.now set) → AreMet (IsKept d cell y) part set =
    λ y name set e lt h.
    subst (λ (v : Formula). AreMet (IsKept d cell v) part set) (sym e)
    (subst (λ (l : List Rect). AreMet (IsKept d cell (get_or f name Empty)) l set) c.rects-windows.ensures.list (h (get_or f name Empty) (locals_of d r layers name c.requires.ready.layers lt c.requires.ready.rules))) in
    if_ok _ _ c.area_shape.result
    (λ shape told u s is settled squares.
    let read = read_layers w u in
    let ts : formula w u.ts ≡ get_or f x.ts Empty = ap (λ n. formula w n) is.ts ∙ c.requires.device.ts.read in
    let tb : formula w u.tb ≡ get_or f x.tb Empty = ap (λ n. formula w n) is.tb ∙ c.requires.device.tb.read in
    look_alone d w u cell s part c.in_ok-on_ends.on_ends c.in_ok-on_bulk.on_bulk c.is_loose.result c.is_loose-2.result shape
    (record {
      part_is = squares;
      on_ends_are = exact_at d (geometry w u) cell s part c.in_ok-on_ends.on_ends (formula w u.ts) settled squares read.ts (is_met (formula w u.ts) x.ts c.in_ok-on_ends.on_ends ts c.requires.device.ts.known c.in_ok-on_ends.ensures);
      on_bulk_are = exact_at d (geometry w u) cell s part c.in_ok-on_bulk.on_bulk (formula w u.tb) settled squares read.tb (is_met (formula w u.tb) x.tb c.in_ok-on_bulk.on_bulk tb c.requires.device.tb.known c.in_ok-on_bulk.ensures);
      free_is = subst (λ n. (c.is_loose.result ≡ true) ↔ (ground_of n w.grounds ≡ None)) (sym is.ts) c.is_loose.ensures;
      loose_is = subst (λ n. (c.is_loose-2.result ≡ true) ↔ (ground_of n w.grounds ≡ None)) (sym is.tb) c.is_loose-2.ensures;
    })
    told)
    c.area_shape.ensures
