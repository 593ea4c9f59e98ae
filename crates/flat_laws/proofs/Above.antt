-- The gates of all lists, seen from the top.
use Rattle.std.proofs.Common.{◌≡◌, inl, inr, ℕ, List, [], ◌∷◌, Some, slice_get, refl, sym, ◌∙◌, ap, subst, arith}
use Rattle.flat_laws.specs.FlatGates.{FlatGatesLaw, IsVerdictAbove, ShowsGate, TakesNode}
use Rattle.flat_laws.proofs.Count.{one_sizes}
use Rattle.flat_laws.proofs.Cover.{reached_below}
use Rattle.flat_laws.proofs.Formed.{good, terminal_down, terminal_up, read_layers}
use Rattle.flat_laws.proofs.Judged.{along_path, not_both, one_cause}
use Rattle.flat_laws.proofs.Kept.{gate_up}
use Rattle.flat_laws.proofs.Once.{each_once, gate_between, gate_on, gate_self, settled_along, top_settled}
use Rattle.flat_laws.proofs.Paths.{same_place}
use Rattle.flat_laws.proofs.Rows.{one_least, square_apart}
use Rattle.flat_laws.proofs.Zone.{leads_of}
use Rattle.flat_layout.specs.Gates.{Sides, Geometry, Rule, geometry, InGate, IsBadGate, IsGoodGate, IsLeast, IsListedGate, IsSettled, IsSoundGeometry, IsTerminalNode, IsFound, moved_sides}
use Rattle.flat_layout.specs.GateTables.{AreGates, Bad, GateEntry, GateRow, Good, IsGateBefore, IsGateEntry, IsVerdict, Verdict}
use Rattle.flat_layout.specs.Layers.{InFlat}
use Rattle.flat_layout.specs.Layout.{Design, IsHeight, IsPlaced, IsReached, Leads, Place, Takes}
use Rattle.flat_layout.specs.Nets.{Tables}
use Rattle.flat_layout.specs.Plane.{IsSquareBefore}
use Rattle.flat_layout.specs.Regions.{Wiring, Node, At, Ground, moved}
use Rattle.geo_base.specs.Motions.{moved_square}
use Rattle.geo_base.specs.declared.shapes.Square.{Square}
use Rattle.plain_netlist.specs.Lists.{AreRising, IsListed}
use Rattle.plain_netlist.specs.Devices.{Terminal}
use Rattle.flat_layout.specs.declared.cause.GateCause.{GateCause}

one_end : (d : Design) (path : List ℕ) (cell a b : ℕ) → Leads d cell path a → Leads d cell path b → a ≡ b
one_end d [] cell a b h g = sym h ∙ g
one_end d (k ∷ ks) cell a b (p, placed, h) (r, there, g) =
    let e = same_place d cell k r p there placed in
    one_end d ks p.cell a b h (subst (λ (v : Place). Leads d v.cell ks b) e g)

takes_up : (d : Design) (cell k : ℕ) (p : Place) (path : List ℕ) (end : ℕ) (n m : Node) → IsPlaced d cell k p → TakesNode d p.cell path end n m → TakesNode d cell (k ∷ path) end n (moved p.motion m)
takes_up d cell k p path end (At c s) (At e q) placed (same, takes) = (same, (p, placed, q, takes, refl))
takes_up d cell k p path end (At c s) (Ground h) placed takes = takes
takes_up d cell k p path end (Ground g) (At e q) placed takes = takes
takes_up d cell k p path end (Ground g) (Ground h) placed (leads, same) = ((p, placed, leads), same)

takes_here : (d : Design) (cell : ℕ) (n : Node) → TakesNode d cell [] cell n n
takes_here d cell (At c s) = (refl, (refl, refl))
takes_here d cell (Ground g) = (refl, refl)

-- a gate's squares, along a path
gate_along : (d : Design) (g : Geometry) (sound : IsSoundGeometry g) (path : List ℕ) (cell end : ℕ) (a b c : Square) → IsReached d cell → Takes d cell path end a b → IsSettled d g end a → InGate d g end a c
    → (e : Square) × Takes d cell path end c e × InGate d g cell b e
gate_along d g sound [] cell end a b c reached takes settled one = (c, (takes.0, refl), subst (λ x. InGate d g x b c) (sym takes.0) (subst (λ z. InGate d g end z c) takes.1 one))
gate_along d g sound (k ∷ ks) cell end a b c reached (p, placed, r, takes, here) settled one =
    let down = reached_below d cell k p reached placed in
    let f = gate_along d g sound ks p.cell end a r c down takes settled one in
    let still = settled_along d g sound ks p.cell end a r down takes settled in
    (moved_square p.motion f.0, (p, placed, f.0, f.1, refl), subst (λ z. InGate d g cell z (moved_square p.motion f.0)) here (gate_up d g sound cell k p r reached placed still f.0 f.2))

-- a good gate, seen from the start of a path
record GoodAlong (d : Design) (w : Wiring) (u : Rule) (path : List ℕ) (cell end : ℕ) (s : Square) (sides : Sides) (m n : ℕ) (q : Square) : Type 0 where
  far : Sides
  is_good : IsGoodGate d w u cell q far m n
  up : (terminal : Terminal) (x : Node) → IsTerminalNode d w u end s sides terminal x → (y : Node) × TakesNode d cell path end x y × IsTerminalNode d w u cell q far terminal y
  down : (terminal : Terminal) (y : Node) → IsTerminalNode d w u cell q far terminal y → (x : Node) × TakesNode d cell path end x y × IsTerminalNode d w u end s sides terminal x

good_along : (d : Design) (w : Wiring) (u : Rule) (path : List ℕ) (cell end : ℕ) (s : Square) (sides : Sides) (m n : ℕ) (q : Square) → IsReached d cell → Takes d cell path end s q → IsSettled d (geometry w u) end s → IsGoodGate d w u end s sides m n
    → GoodAlong d w u path cell end s sides m n q
good_along d w u [] cell end s sides m n q reached takes settled h =
    let here : GoodAlong d w u [] end end s sides m n s = record { far = sides; is_good = h; up = λ terminal x i. (x, takes_here d end x, i); down = λ terminal y i. (y, takes_here d end y, i) } in
    subst (λ c. GoodAlong d w u [] c end s sides m n q) (sym takes.0) (subst (λ z. GoodAlong d w u [] end end s sides m n z) takes.1 here)
good_along d w u (k ∷ ks) cell end s sides m n q reached (p, placed, r, takes, here) settled h =
    let low = reached_below d cell k p reached placed in
    let below = good_along d w u ks p.cell end s sides m n r low takes settled h in
    let still = settled_along d (geometry w u) (read_layers w u).gate ks p.cell end s r low takes settled in
    let step : GoodAlong d w u (k ∷ ks) cell end s sides m n (moved_square p.motion r) = record {
      far = moved_sides p.motion below.far;
      is_good = good d w u cell k p r reached placed still below.far m n below.is_good;
      up = λ terminal x i.
          let y = below.up terminal x i in
          (moved p.motion y.0, takes_up d cell k p ks end x y.0 placed y.1, terminal_up d w u cell k p r reached placed still below.far terminal y.0 y.2);
      down = λ terminal y i.
          let z = terminal_down d w u cell k p r reached placed still below.far terminal y i in
          let x = below.down terminal z.0 z.2 in
          (x.0, subst (λ v. TakesNode d cell (k ∷ ks) end x.0 v) z.1 (takes_up d cell k p ks end x.0 z.0 placed x.1), x.2);
    } in
    subst (λ z. GoodAlong d w u (k ∷ ks) cell end s sides m n z) here step

-- a rising list has one entry of a rule and square
before_self : (a b : GateEntry) → IsGateBefore a.at b.at → a.at.rule ≡ b.at.rule → a.at.square ≡ b.at.square → ⊥
before_self a b (inl lt) i j = omega arith
before_self a b (inr (same, before)) i j = let self : IsSquareBefore a.at.square a.at.square = subst (λ q. IsSquareBefore a.at.square q) (sym j) before in square_apart a.at.square a.at.square self self

one_entry : (v : List GateEntry) (x y : GateEntry) → AreRising (λ a b. IsGateBefore a.at b.at) v → IsListed x v → IsListed y v → x.at.rule ≡ y.at.rule → x.at.square ≡ y.at.square → x ≡ y
one_entry [] x y rising h g r s = absurd h
one_entry (z ∷ v) x y rising (inl e) (inl f) r s = e ∙ sym f
one_entry (z ∷ v) x y rising (inl e) (inr g) r s = absurd (before_self x y (subst (λ (a : GateEntry). IsGateBefore a.at y.at) (sym e) (rising.0 y g)) r s)
one_entry (z ∷ v) x y rising (inr h) (inl f) r s = absurd (before_self y x (subst (λ (a : GateEntry). IsGateBefore a.at x.at) (sym f) (rising.0 x h)) (sym r) (sym s))
one_entry (z ∷ v) x y rising (inr h) (inr g) r s = one_entry v x y rising.1 h g r s

-- a gate of the top is found once
abbrev FoundOnce : Design → Geometry → Square → Type 0
FoundOnce d geo q = (f : IsFound d geo d.top q) × ((h : IsFound d geo d.top q) → (h.path ≡ f.path) × InGate d geo f.end f.square h.square)

two_found : (d : Design) (geo : Geometry) (q : Square) (a b : IsFound d geo d.top q) → FoundOnce d geo q → (a.path ≡ b.path) × (b.end ≡ a.end) × InGate d geo a.end a.square b.square
two_found d geo q a b (f, all) =
    let x = all a in
    let y = all b in
    let ways : b.path ≡ a.path = y.0 ∙ sym x.0 in
    let ends : b.end ≡ a.end = one_end d a.path d.top b.end a.end (subst (λ v. Leads d d.top v b.end) ways (leads_of d d.top b.end b.path b.square b.place b.takes)) (leads_of d d.top a.end a.path a.square a.place a.takes) in
    let last : f.end ≡ a.end = one_end d a.path d.top f.end a.end (subst (λ v. Leads d d.top v f.end) (sym x.0) (leads_of d d.top f.end f.path f.square f.place f.takes)) (leads_of d d.top a.end a.path a.square a.place a.takes) in
    (sym ways, ends, subst (λ v. InGate d geo v a.square b.square) last (gate_between d geo f.end f.square a.square b.square x.1 y.1))

module _ (d : Design) (w : Wiring) (t : Tables) (rules : List Rule) (gates : ℕ → List GateEntry) (height : ℕ → ℕ) (lower : IsHeight d height) (right : (cell : ℕ) → IsReached d cell → AreGates d w t rules cell (gates cell)) where
  top : IsReached d d.top
  top = record { path = []; leads = refl }

  end_reached : (path : List ℕ) (end : ℕ) (x : GateEntry) (q : Square) → ShowsGate d gates path end x q → IsReached d end
  end_reached path end x q h = record { path = path; leads = leads_of d d.top end path x.at.square q h.takes }

  entry : (path : List ℕ) (end : ℕ) (x : GateEntry) (q : Square) → ShowsGate d gates path end x q → IsGateEntry d w t rules end x
  entry path end x q h = (right end (end_reached path end x q h)).each x h.listed

  verdict_above : (u : Rule) (path : List ℕ) (end : ℕ) (s : Square) (v : Verdict) (q : Square) → Takes d d.top path end s q → IsSettled d (geometry w u) end s → IsVerdict d w t u end s v → IsVerdictAbove d w t u path end s v q
  verdict_above u path end s (Good row) q takes settled h =
      let a = good_along d w u path d.top end s h.sides row.twice_w row.twice_l q top takes settled h.good in
      record { here = h; sides = a.far; good = a.is_good; up = a.up; down = a.down }
  verdict_above u path end s (Bad cause) q takes settled h = (h, along_path d w u path d.top end s q cause top takes settled h)

  each : (path : List ℕ) (end : ℕ) (x : GateEntry) (q : Square) → ShowsGate d gates path end x q → (u : Rule) × (slice_get rules x.at.rule ≡ Some u) × InFlat d d.top u.gate q × IsVerdictAbove d w t u path end x.at.square x.verdict q
  each path end x q h =
      let k = entry path end x q h in
      let geo = geometry w k.rule in
      (k.rule, k.is, (settled_along d geo (read_layers w k.rule).gate path d.top end x.at.square q top h.takes k.gate.settled).is, verdict_above k.rule path end x.at.square x.verdict q h.takes k.gate.settled k.verdict)

  found : (r : ℕ) (u : Rule) (s : Square) → slice_get rules r ≡ Some u → InFlat d d.top u.gate s
      → (path : List ℕ) × (end : ℕ) × (x : GateEntry) × (q : Square) × ShowsGate d gates path end x q × (x.at.rule ≡ r) × InGate d (geometry w u) d.top s q
  found r u s is flat =
      let geo = geometry w u in
      let sound = (read_layers w u).gate in
      let f = (each_once d geo height sound lower (λ cell q reached settled. (right cell reached).parted r u q is settled) d.top s top (top_settled d geo height lower s flat)).0 in
      let reached : IsReached d f.end = record { path = f.path; leads = leads_of d d.top f.end f.path f.square f.place f.takes } in
      let x = (right f.end reached).found r u f.square is f.gate in
      let a = gate_along d geo sound f.path d.top f.end f.square f.place x.0.at.square top f.takes f.gate.settled x.3 in
      (f.path, f.end, x.0, a.0, record { listed = x.1; takes = a.1 }, x.2, gate_on d geo d.top s f.place a.0 f.image a.2)

  once : (u : Rule) (path other : List ℕ) (end its_end : ℕ) (x y : GateEntry) (q p : Square) → ShowsGate d gates path end x q → ShowsGate d gates other its_end y p
      → x.at.rule ≡ y.at.rule → slice_get rules x.at.rule ≡ Some u → InGate d (geometry w u) d.top q p → (path ≡ other) × (x ≡ y)
  once u path other end its_end x y q p h g rule is one =
      let geo = geometry w u in
      let sound = (read_layers w u).gate in
      let there : slice_get rules y.at.rule ≡ Some u = subst (λ r. slice_get rules r ≡ Some u) rule is in
      let kx = entry path end x q h in
      let ky = entry other its_end y p g in
      let same_x : kx.rule ≡ u = (let a = kx.is in let b = is in cc) in
      let same_y : ky.rule ≡ u = (let a = ky.is in let b = there in cc) in
      let list_x : IsListedGate d geo end x.at.square = subst (λ (r : Rule). IsListedGate d (geometry w r) end x.at.square) same_x kx.gate in
      let list_y : IsListedGate d geo its_end y.at.square = subst (λ (r : Rule). IsListedGate d (geometry w r) its_end y.at.square) same_y ky.gate in
      let settled = settled_along d geo sound path d.top end x.at.square q top h.takes list_x.settled in
      let a : IsFound d geo d.top q = record { path = path; end = end; square = x.at.square; place = q; takes = h.takes; image = gate_self d geo d.top q settled.is; gate = list_x } in
      let b : IsFound d geo d.top q = record { path = other; end = its_end; square = y.at.square; place = p; takes = g.takes; image = one; gate = list_y } in
      let two = two_found d geo q a b (each_once d geo height sound lower (λ cell s reached settled. (right cell reached).parted x.at.rule u s is settled) d.top q top settled) in
      let ends : its_end ≡ end = two.1 in
      let least_x : IsLeast (InGate d geo end x.at.square) x.at.square = subst (λ (r : Rule). IsLeast (InGate d (geometry w r) end x.at.square) x.at.square) same_x kx.least in
      let least_y : IsLeast (InGate d geo end y.at.square) y.at.square =
      subst (λ v. IsLeast (InGate d geo v y.at.square) y.at.square) ends (subst (λ (r : Rule). IsLeast (InGate d (geometry w r) its_end y.at.square) y.at.square) same_y ky.least) in
      let squares = one_least d geo end x.at.square y.at.square least_x least_y two.2 in
      (two.0, one_entry (gates end) x y (right end (end_reached path end x q h)).rising h.listed (subst (λ v. IsListed y (gates v)) ends g.listed) rule squares)

  module _ (u : Rule) (path : List ℕ) (end : ℕ) (x : GateEntry) (q : Square) (h : ShowsGate d gates path end x q) (is : slice_get rules x.at.rule ≡ Some u) where
    above : (v : Verdict) → x.verdict ≡ v → IsVerdictAbove d w t u path end x.at.square v q
    above v e =
        let k = each path end x q h in
        let same : k.0 ≡ u = (let a = k.1 in let b = is in cc) in
        subst (λ z. IsVerdictAbove d w t u path end x.at.square z q) e (subst (λ (r : Rule). IsVerdictAbove d w t r path end x.at.square x.verdict q) same k.3)

    is_good : (sides : Sides) (m n : ℕ) → IsGoodGate d w u d.top q sides m n → (row : GateRow) × (x.verdict ≡ Good row) × (row.twice_w ≡ m) × (row.twice_l ≡ n)
    is_good sides m n good = by x.verdict refl
      where
        by : (v : Verdict) → x.verdict ≡ v → (row : GateRow) × (x.verdict ≡ Good row) × (row.twice_w ≡ m) × (row.twice_l ≡ n)
        by (Good row) this = let a = above (Good row) this in let same = one_sizes d w u d.top q a.sides sides row.twice_w row.twice_l m n a.good good in (row, this, same.0, same.1)
        by (Bad cause) this = absurd (not_both d w u d.top q sides m n cause good (above (Bad cause) this).1)

    is_bad : (c : GateCause) → IsBadGate d w u d.top q c → x.verdict ≡ Bad c
    is_bad c bad = by x.verdict refl
      where
        by : (v : Verdict) → x.verdict ≡ v → x.verdict ≡ Bad c
        by (Good row) this = let a = above (Good row) this in absurd (not_both d w u d.top q a.sides row.twice_w row.twice_l c a.good bad)
        by (Bad cause) this = this ∙ ap (λ (e : GateCause). Bad e) (one_cause d w u d.top q cause c (above (Bad cause) this).1 bad)

pub flat_gates : FlatGatesLaw
flat_gates d w t rules gates height lower right = record {
  each = each d w t rules gates height lower right;
  found = found d w t rules gates height lower right;
  once = once d w t rules gates height lower right;
  good = λ u path end x q sides m n h is good. is_good d w t rules gates height lower right u path end x q h is sides m n good;
  bad = λ u path end x q c h is bad. is_bad d w t rules gates height lower right u path end x q h is c bad;
}
