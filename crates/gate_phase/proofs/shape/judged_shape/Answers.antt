use Rattle.std.proofs.Common.{◌≡◌, ◌∙◌, ◌<◌, ◌↔◌, ℕ, List, Option, None, true, ap, sym, subst, get_or, length}
use Rattle.geo_base.specs.declared.shapes.Rect.{Rect}
use Rattle.flat_layout.specs.Gates.{geometry}
use Rattle.flat_layout.specs.Layers.{Empty, Formula, IsKept}
use Rattle.flat_laws.proofs.Formed.{read_layers}
use Rattle.cell_graph.specs.Linked.{plain}
use Rattle.flat_layout.specs.Regions.{formula, ground_of}
use Rattle.rule_text.specs.Seen.{rules_seen}
use Rattle.rule_layers.specs.Formulas.{formulas}
use Rattle.rule_layers.specs.Meaning.{wiring_of}
use Rattle.gate_search.specs.Gather.{AreMet}
use Rattle.gate_phase.specs.Devices.{layer_in}
use Rattle.gate_phase.specs.Kept.{HasLocals}
use Rattle.gate_phase.specs.Shape.{IsGateSheet}
use Rattle.gate_phase.proofs.Locals.{locals_of}
use Rattle.gate_phase.proofs.Results.{if_ok}
use Rattle.gate_phase.proofs.Shaping.{exact_near, gate_exact, look_where_loose}
use Rattle.gate_phase.proofs.shape.judged_shape.Goals as goal

pub bulk_in-requires-clause-locals : goal.bulk_in-requires-clause-locals
bulk_in-requires-clause-locals c =
    let r = rules_seen c.args.site.now.rules.now in let x = c.args.device.now in (get_or (formulas r.names) x.tb Empty, locals_of (plain c.args.site.now.design.now) r c.args.site.now.layers.now x.tb c.requires.ready.layers c.requires.device.tb.known c.requires.ready.rules)

pub returns : goal.returns
returns c =
    let d = plain c.args.site.now.design.now in let r = rules_seen c.args.site.now.rules.now in let x = c.args.device.now in let cell = c.args.site.now.cell in
    let w = wiring_of r in let layers = c.args.site.now.layers.now in let part = c.args.part.now in let close = c.args.close.now in
    let f = formulas r.names in let groups = c.args.groups.now.area.now in let on_ends = c.args.groups.now.on.now in let on_bulk = c.in_ok-on_bulk.on_bulk in
    let is_met : (name : ℕ) (set : List Rect) → name < length r.names → ((y : Formula) → HasLocals d layers name y → AreMet (IsKept d cell y) close set) → AreMet (IsKept d cell (get_or f name Empty)) close set =
    λ name set lt h. h (get_or f name Empty) (locals_of d r layers name c.requires.ready.layers lt c.requires.ready.rules) in
    let as_named : (y z : Formula) (set : List Rect) → y ≡ z → AreMet (IsKept d cell z) close set → AreMet (IsKept d cell y) close set = λ y z set e h. subst (λ (v : Formula). AreMet (IsKept d cell v) close set) (sym e) h in
    if_ok _ _ c.shape_of.result
    (λ shape told u s is has here.
    let read = read_layers w u in
    let sd : u.sd ≡ get_or f c.args.groups.now.name Empty = is.ends ∙ ap (λ (o : Option ℕ). layer_in f o) has in
    let ts : formula w u.ts ≡ get_or f x.ts Empty = ap (λ n. formula w n) is.ts ∙ c.requires.device.ts.read in
    let tg : formula w u.tg ≡ get_or f x.tg Empty = ap (λ n. formula w n) is.tg ∙ c.requires.device.tg.read in
    let tb : formula w u.tb ≡ get_or f x.tb Empty = ap (λ n. formula w n) is.tb ∙ c.requires.device.tb.read in
    let sheet = c.requires.sheet (get_or f x.tg Empty) (locals_of d r layers x.tg c.requires.ready.layers c.requires.device.tg.known c.requires.ready.rules) in
    let sheet_of = subst (λ k. IsGateSheet k (IsKept d cell (formula w u.tg)) close part c.args.on_gate.now) (sym is.kind) (subst (λ (v : Formula). IsGateSheet x.kind (IsKept d cell v) close part c.args.on_gate.now) (sym tg) sheet) in
    look_where_loose d w u cell s part groups on_ends c.args.on_gate.now on_bulk c.is_loose-loose.result shape here.squares
    (exact_near d (geometry w u) cell s part close groups u.sd here read.sd (as_named u.sd _ groups sd (is_met c.args.groups.now.name groups c.requires.ends c.requires.groups)))
    (exact_near d (geometry w u) cell s part close on_ends (formula w u.ts) here read.ts (as_named (formula w u.ts) _ on_ends ts (is_met x.ts on_ends c.requires.device.ts.known c.requires.on_ends)))
    (gate_exact u.kind d (geometry w u) cell s part close c.args.on_gate.now (formula w u.tg) here read.tg sheet_of)
    (λ loose. exact_near d (geometry w u) cell s part close on_bulk (formula w u.tb) here read.tb (as_named (formula w u.tb) _ on_bulk tb (is_met x.tb on_bulk c.requires.device.tb.known (λ y h. subst (λ (l : List Rect). AreMet (IsKept d cell y) l on_bulk) c.rects-windows.ensures.list (c.in_ok-on_bulk.ensures loose y h)))))
    (subst (λ n. (c.is_loose-loose.result ≡ true) ↔ (ground_of n w.grounds ≡ None)) (sym is.tb) c.is_loose-loose.ensures)
    told)
    c.shape_of.ensures
