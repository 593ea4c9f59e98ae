-- Over right nets a cell has one list of gates, and it is the same over all right nets.
use Rattle.std.proofs.Common.{◌≡◌, ◌⊎◌, inl, inr, ℕ, ◌<◌, List, [], ◌∷◌, Some, slice_get, length, refl, sym, ◌∙◌, ap, subst, arith}
use Rattle.std.proofs.lemmas.Int.{ints}
use Rattle.std.proofs.lemmas.Option.{same_Some}
use Rattle.geo_base.specs.declared.shapes.Square.{Square}
use Rattle.flat_layout.specs.Gates.{Edge, Sides, TwoGroups, Region, Form, Beside, Alone, form_of, sheets, Rule, AreGroups, InGate, InSide, InOneGroup, IsLeast, IsSettled, IsSourceFirst, IsStep, IsTerminalNode, IsWide, geometry}
use Rattle.flat_layout.specs.Parts.{IsGoodForm}
use Rattle.flat_layout.specs.GateTables.{AreGates, Bad, GateEntry, GateRow, Good, IsGateBefore, IsGateRow, IsVerdict, Verdict, counted_device}
use Rattle.flat_layout.specs.Layout.{Design, IsReached}
use Rattle.flat_layout.specs.Nets.{AreTables, NetHolds, Tables}
use Rattle.flat_layout.specs.Plane.{IsSquareBefore}
use Rattle.flat_layout.specs.Regions.{Node, Wiring, ground_of}
use Rattle.plain_netlist.specs.Lists.{IsListed}
use Rattle.plain_netlist.specs.declared.kinds.DeviceKind.{DeviceKind}
use Rattle.plain_netlist.specs.Devices.{Ends, First, IsAt, IsRowOver, Other, Row, Second, Terminal}
use Rattle.plain_netlist.proofs.Links.{back, both}
use Rattle.plain_netlist.proofs.Listing.{one_rising}
use Rattle.plain_netlist.proofs.Rows.{by_terminals, carried_row, row_over_self}
use Rattle.flat_laws.proofs.Count.{one_sizes}
use Rattle.flat_laws.proofs.Judged.{not_both, one_cause}
use Rattle.flat_laws.proofs.Once.{gate_between}
use Rattle.flat_laws.proofs.OneNet.{regions}
use Rattle.flat_laws.proofs.Squares.{edge_back}
use Rattle.flat_laws.proofs.Terminals.{grounds, terminals}
use Rattle.cell_graph.specs.Linked.{plain, height_at}
use Rattle.cell_graph.proofs.Bridge.{heights}
use Rattle.rule_layers.specs.Meaning.{device_rules, wiring_of}
use Rattle.rule_layers.proofs.Wired.{known}
use Rattle.table_laws.proofs.Tabled as tabled
use Rattle.deep_tables.specs.OverAny.{GatesOverAnyLaw, OneGatesLaw}
use Rattle.deep_tables.proofs.Agreeing.{held_alike, one_tables}

-- of two squares at most one comes before the other
not_before : (p q : Square) → IsSquareBefore p q → IsSquareBefore q p → ⊥
not_before p q (inl a) (inl b) = omega (arith, ints)
not_before p q (inl a) (inr b) = let e = b.0 in omega (arith, ints)
not_before p q (inr a) (inl b) = let e = a.0 in omega (arith, ints)
not_before p q (inr a) (inr b) = let x = a.1 in let y = b.1 in omega (arith, ints)

not_itself : (p : Square) → IsSquareBefore p p → ⊥
not_itself p h = not_before p p h h

-- and of two gates
gate_not_before : (a b : GateEntry) → IsGateBefore a.at b.at → IsGateBefore b.at a.at → ⊥
gate_not_before a b (inl x) (inl y) = absurd (let z : ⊥ = omega arith in z)
gate_not_before a b (inl x) (inr y) = let e = y.0 in absurd (let z : ⊥ = omega arith in z)
gate_not_before a b (inr x) (inl y) = let e = x.0 in absurd (let z : ⊥ = omega arith in z)
gate_not_before a b (inr x) (inr y) = not_before a.at.square b.at.square x.1 y.1

module _ (d : Design) (w : Wiring) (u : Rule) (cell : ℕ) (s : Square) where
  abbrev R : Edge → Edge → Type 0
  R a b = InOneGroup d w u cell s a.outer b.outer

  side_back : (a b : Square) → IsStep (InSide d w u cell s) a b → IsStep (InSide d w u cell s) b a
  side_back a b h = record { from = h.to; to = h.from; edge = edge_back a b h.edge }

  turn : (a b : Edge) → R a b → R b a
  turn a b h = back (IsStep (InSide d w u cell s)) side_back a.outer b.outer h

  on : (a b c : Edge) → R a b → R b c → R a c
  on a b c h k = both (IsStep (InSide d w u cell s)) a.outer b.outer c.outer h k

  one_of : (e f : Edge) → AreGroups d w u cell s (e ∷ (f ∷ [])) → (a : Edge) → IsWide d w u cell s a → R a e ⊎ R a f
  one_of e f x a wide = let r = x.found a wide in elim r.1 [
    | inl i ↦ inl (subst (λ z. R a z) i r.2)
    | inr j ↦ elim j [ inl i ↦ inr (subst (λ z. R a z) i r.2) | inr k ↦ absurd k ]
  ]

  -- two edges of one list of groups aren't of one group
  two_groups : (a b c : Edge) → AreGroups d w u cell s (a ∷ (b ∷ [])) → R a c → R b c → ⊥
  two_groups a b c y h k = y.apart.0 (inl (y.one a b (inl refl) (inr (inl refl)) (on a c b h (turn b c k))))

  -- each the source that has the least square: the groups are the same
  same_ends : (e f a b : Edge) → AreGroups d w u cell s (e ∷ (f ∷ [])) → AreGroups d w u cell s (a ∷ (b ∷ [])) → IsSourceFirst d w u cell s (TwoGroups e f) → IsSourceFirst d w u cell s (TwoGroups a b) → R e a × R f b
  same_ends e f a b x y first other = elim (one_of e f x a (y.each a (inl refl))) [
    | inl ae ↦ elim (one_of e f x b (y.each b (inr (inl refl)))) [
      | inl be ↦ absurd (two_groups a b e y ae be)
      | inr bf ↦ (turn a e ae, turn b f bf)
    ]
    | inr af ↦ elim (one_of e f x b (y.each b (inr (inl refl)))) [
      | inr bf ↦ absurd (two_groups a b f y af bf)
      | inl be ↦
          let p = first.0 in
          let q = other.0 in
          let in_f : InOneGroup d w u cell s f.outer q = both (IsStep (InSide d w u cell s)) f.outer a.outer q (turn a f af) other.1 in
          let in_b : InOneGroup d w u cell s b.outer p = both (IsStep (InSide d w u cell s)) b.outer e.outer p be first.1 in
          absurd (not_before p q (first.2 q in_f) (other.2 p in_b))
    ]
  ]

  -- then a terminal's node is one by either pair of edges
  same_terminal : (e f a b : Edge) → R e a × R f b → (t : Terminal) (n : Node) → IsTerminalNode d w u cell s (TwoGroups a b) t n → IsTerminalNode d w u cell s (TwoGroups e f) t n
  same_terminal e f a b h First n (q, in_end, at) = (q, both (IsStep (InSide d w u cell s)) e.outer a.outer q h.0 in_end, at)
  same_terminal e f a b h Second n (q, in_end, at) = (q, both (IsStep (InSide d w u cell s)) f.outer b.outer q h.1 in_end, at)
  same_terminal e f a b h (Other place) n i = i

  same_terminals : (form : Form) (x y : Sides) (m n k l : ℕ) → IsGoodForm form (sheets d w u cell) (InGate d (geometry w u) cell s) x m n → IsGoodForm form (sheets d w u cell) (InGate d (geometry w u) cell s) y k l
      → IsSourceFirst d w u cell s x → IsSourceFirst d w u cell s y → (t : Terminal) (node : Node) → IsTerminalNode d w u cell s y t node → IsTerminalNode d w u cell s x t node
  same_terminals Beside (TwoGroups e f) (TwoGroups a b) m n k l h g first other t node i = same_terminal e f a b (same_ends e f a b h.groups g.groups first other) t node i
  same_terminals Beside (TwoGroups e f) Region m n k l h g first other t node i = absurd g
  same_terminals Beside Region y m n k l h g first other t node i = absurd h
  same_terminals Alone (TwoGroups e f) y m n k l h g first other t node i = absurd h
  same_terminals Alone Region (TwoGroups a b) m n k l h g first other t node i = absurd g
  same_terminals Alone Region Region m n k l h g first other t node i = i

abbrev row_with : DeviceKind → ℕ → ℕ → Ends ℕ → List ℕ → GateRow
row_with k w l ends others = record { kind = k; twice_w = w; twice_l = l; ends = ends; others = others }

-- rows with the same sizes that are one device of a rule are one
same_row : (u : Rule) (a b : GateRow) → a.twice_w ≡ b.twice_w → a.twice_l ≡ b.twice_l → IsRowOver (λ x y. x ≡ y) (counted_device u a) (counted_device u b) → a ≡ b
same_row u a b w l over =
    let one : counted_device u a ≡ counted_device u b = sym (row_over_self (counted_device u a)) ∙ carried_row (λ x. x) (counted_device u a) (counted_device u b) over in
    let ends : a.ends ≡ b.ends = ap (λ (r : Row ℕ). r.ends) one in
    let others : a.others ≡ b.others = ap (λ (r : Row ℕ). r.others) one in
    let kind : a.kind ≡ b.kind = over.kind in
    let e : row_with a.kind a.twice_w a.twice_l a.ends a.others ≡ row_with b.kind b.twice_w b.twice_l b.ends b.others = cc in
    e

-- a gate has one verdict
module _ (d : Design) (w : Wiring) (t : Tables) (height : ℕ → ℕ) (tables : AreTables d w t height) (u : Rule) (globals : (c g : ℕ) → ground_of c w.grounds ≡ Some g → g < length w.globals)
    (cell : ℕ) (reached : IsReached d cell) (s : Square) (settled : IsSettled d (geometry w u) cell s) where
  one_row : (a b : GateRow) → IsGateRow d w t u cell s a → IsGateRow d w t u cell s b → a ≡ b
  one_row a b h g =
      let sizes = one_sizes d w u cell s h.sides g.sides a.twice_w a.twice_l b.twice_w b.twice_l h.good g.good in
      same_row u a b sizes.0 sizes.1 (by_terminals (λ x y. x ≡ y) (counted_device u a) (counted_device u b) h.formed g.formed (h.kind ∙ sym g.kind) refl (let e = sizes.0 in let f = sizes.1 in cc) (λ place x y i j.
      let m = h.nets place x i in
      let n = g.nets place y j in
      let moved = same_terminals d w u cell s (form_of u.kind) h.sides g.sides a.twice_w a.twice_l b.twice_w b.twice_l h.good g.good h.first g.first place n.0 n.1 in
      let region = terminals d w u cell s h.sides a.twice_w a.twice_l place m.0 n.0 reached settled h.good (λ k e. let c = grounds d w u cell s h.sides place k (subst (λ y. IsTerminalNode d w u cell s h.sides place y) (sym e) m.1) in globals c.0 k c.1) m.1 moved in
      ((regions d w t height tables cell reached).joined x y m.0 n.0 m.2 n.2).1 region.1))

  pub one_verdict : (a b : Verdict) → IsVerdict d w t u cell s a → IsVerdict d w t u cell s b → a ≡ b
  one_verdict (Good a) (Good b) h g = ap Good (one_row a b h g)
  one_verdict (Good a) (Bad c) h g = absurd (not_both d w u cell s h.sides a.twice_w a.twice_l c h.good g)
  one_verdict (Bad c) (Good a) g h = absurd (not_both d w u cell s h.sides a.twice_w a.twice_l c h.good g)
  one_verdict (Bad a) (Bad b) h g = ap Bad (one_cause d w u cell s a b h g)

same_entry : (a b : GateEntry) → a.at.rule ≡ b.at.rule → a.at.square ≡ b.at.square → a.verdict ≡ b.verdict → a ≡ b
same_entry a b r s v =
    ap (λ x. let e : GateEntry = record { at = record { rule = x; square = a.at.square }; verdict = a.verdict } in e) r
    ∙ ap (λ x. let e : GateEntry = record { at = record { rule = b.at.rule; square = x }; verdict = a.verdict } in e) s
    ∙ ap (λ x. let e : GateEntry = record { at = b.at; verdict = x } in e) v

-- an entry of one right list stands in the other
module _ (d : Design) (w : Wiring) (t : Tables) (height : ℕ → ℕ) (tables : AreTables d w t height) (rules : List Rule) (globals : (c g : ℕ) → ground_of c w.grounds ≡ Some g → g < length w.globals)
    (cell : ℕ) (reached : IsReached d cell) where
  pub listed_too : (v z : List GateEntry) → AreGates d w t rules cell v → AreGates d w t rules cell z → (a : GateEntry) → IsListed a v → IsListed a z
  listed_too v z hv hz a i =
      let e = hv.each a i in
      let f = hz.found a.at.rule e.rule a.at.square e.is e.gate in
      let g = hz.each f.0 f.1 in
      let same_rule : e.rule ≡ g.rule = same_Some e.rule g.rule (sym e.is ∙ ap (slice_get rules) (sym f.2) ∙ g.is) in
      let least : IsLeast (InGate d (geometry w e.rule) cell f.0.at.square) f.0.at.square = subst (λ u. IsLeast (InGate d (geometry w u) cell f.0.at.square) f.0.at.square) (sym same_rule) g.least in
      let square : a.at.square ≡ f.0.at.square = elim (e.least.least f.0.at.square f.3) [
        | inl same ↦ same
        | inr before ↦ elim (least.least a.at.square (gate_between d (geometry w e.rule) cell a.at.square f.0.at.square a.at.square f.3 e.least.has)) [
          | inl same ↦ sym same
          | inr after ↦ absurd (not_before a.at.square f.0.at.square before after)
        ]
      ] in
      let verdict : IsVerdict d w t e.rule cell a.at.square f.0.verdict = subst (λ q. IsVerdict d w t e.rule cell q f.0.verdict) (sym square) (subst (λ u. IsVerdict d w t u cell f.0.at.square f.0.verdict) (sym same_rule) g.verdict) in
      let same = one_verdict d w t height tables e.rule globals cell reached a.at.square e.gate.settled a.verdict f.0.verdict e.verdict verdict in
      subst (λ x. IsListed x z) (sym (same_entry a f.0 (sym f.2) square same)) f.1

pub one_gates : OneGatesLaw
one_gates d r t cell v z sound right reached hv hz =
    let tables = (tabled.tables (plain d) (wiring_of r) t (height_at d) (heights d sound) right.own right.nets).0 in
    let globals = known r in
    one_rising (λ x y. IsGateBefore x.at y.at) gate_not_before v z hv.rising hz.rising
    (listed_too (plain d) (wiring_of r) t (height_at d) tables (device_rules r) globals cell reached v z hv hz)
    (listed_too (plain d) (wiring_of r) t (height_at d) tables (device_rules r) globals cell reached z v hz hv)

-- over other right nets the entries are right too
verdict_along : (d : Design) (w : Wiring) (s t : Tables) (u : Rule) (cell : ℕ) (q : Square) (v : Verdict) → ((x : ℕ) (n : Node) → NetHolds d s cell x n → NetHolds d t cell x n) → IsVerdict d w s u cell q v → IsVerdict d w t u cell q v
verdict_along d w s t u cell q (Good row) holds h = record {
  sides = h.sides;
  good = h.good;
  first = h.first;
  kind = h.kind;
  formed = h.formed;
  nets = λ place x i. let n = h.nets place x i in (n.0, n.1, holds x n.0 n.2);
}
verdict_along d w s t u cell q (Bad cause) holds h = h

pub gates_over_any : GatesOverAnyLaw
gates_over_any d r s cell v sound rs reached h t rt = record {
  each = λ x i.
      let e = h.each x i in
      record { rule = e.rule; is = e.is; gate = e.gate; least = e.least; verdict = verdict_along (plain d) (wiring_of r) s t e.rule cell x.at.square x.verdict holds e.verdict };
  found = h.found;
  rising = h.rising;
  parted = h.parted;
}
  where
    holds : (x : ℕ) (n : Node) → NetHolds (plain d) s cell x n → NetHolds (plain d) t cell x n
    holds x n = held_alike (plain d) (wiring_of r) s t (height_at d) cell x n (heights d sound) rs rt reached (one_tables d (wiring_of r) s t sound rs rt cell reached).nets
