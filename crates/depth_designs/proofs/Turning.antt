-- Depth after depth, in either way of keeping squares.
use Rattle.std.proofs.Common.{◌≡◌, ◌⊎◌, ◌↔◌, inl, inr, ℕ, zero, suc, ◌+◌, ◌<◌, ◌≤◌, true, List, [], ◌∷◌, ◌++◌, Some, map, cond, Bool, false, refl, sym, ap, ◌∙◌, subst, arith, length, get_or, slice_get, append-nil}
use Rattle.std.specs.Prelude.{◌==◌}
use Rattle.std.specs.List.{filter}
use Rattle.base_laws.proofs.Items.{item_at, map_from, one_list}
use Rattle.std.proofs.lemmas.List.{map-append, length-map}
use Rattle.std.proofs.lemmas.List.Elements.{All-nil}
use Rattle.std.proofs.lemmas.Option.{slice_get_within, same_Some}
use Rattle.plain_netlist.specs.Lists.{AreApart, IsListed}
use Rattle.plain_netlist.proofs.Members.{either_side, position}
use Rattle.cell_graph.specs.Layering.{HaveNames, cell_names}
use Rattle.cell_graph.specs.Linked.{IsSound, Linked, cell_at, keeping, layer_keys, plain}
use Rattle.cell_graph.specs.declared.cells.CellPart.{CellPart}
use Rattle.cell_graph.specs.declared.cells.OwnLayer.{OwnLayer}
use Rattle.cell_graph.specs.declared.drafts.LinkFault.{LinkFault}
use Rattle.cell_graph.specs.declared.drafts.LinkFault.TheVariants as fault
use Rattle.flat_layout.specs.Layout.{Design, IsReached}
use Rattle.flat_layout.specs.declared.way.Way.{Way}
use Rattle.flat_layout.specs.declared.way.Way.TheVariants.{Disturbed}
use Rattle.geo_base.specs.declared.layer.LayerKey.{LayerKey}
use Rattle.rule_stages.specs.Depths.{depths}
use Rattle.rule_stages.specs.Stages.{at_depth, from_depth, stage_of}
use Rattle.rule_text.specs.Rules.{Rules, select_key}
use Rattle.rule_text.specs.declared.rules.SelectRule.{SelectRule}
use Rattle.select_laws.proofs.Grouped.{group, group_parted}
use Rattle.select_laws.specs.Layered.{IsLayered, IsSameElse}
use Rattle.select_laws.specs.Staged.{AreInTurn, IsKeyOf, IsStaged, Stage}
use Rattle.staged_designs.specs.Depths.{stage_keys}
use Rattle.staged_layouts.specs.Staged.{IsStagedCell, IsStagedDesign, StagedOnLaw}
use Rattle.depth_designs.specs.Stages.{AreDrawn, AreUnused, IsDepthFault, IsFarBy, IsFarStage, IsStageFault, stages_by}

-- no selections

pub none_staged : (d : Linked) → IsSound d → IsStagedDesign [] d d
none_staged d sound = record {
  top = refl;
  way = refl;
  sound = sound;
  count = refl;
  cells = λ i c p at there.
      let same : c ≡ p = same_Some c p (sym at ∙ there) in
      subst (λ (x : CellPart). IsStagedCell [] c x) same (record { name = refl; texts = refl; places = refl; further = []; layers = sym (append-nil c.layers.items); keys = refl; canonical = All-nil _ });
  staged = refl;
  only = λ cell key q h own. absurd h;
}

-- one depth more

plus_zero : (n : ℕ) → n + 0 ≡ n
plus_zero n = omega arith

plus_suc : (n m : ℕ) → suc n + m ≡ n + suc m
plus_suc n m = omega arith

from_last : (r : Rules) (depth count : ℕ) → from_depth r depth (suc count) ≡ from_depth r depth count ++ at_depth r (depth + count)
from_last r depth zero = append-nil (at_depth r depth) ∙ ap (at_depth r) (sym (plus_zero depth))
from_last r depth (suc count) =
    ap (λ (l : List SelectRule). at_depth r depth ++ l) (from_last r (suc depth) count ∙ ap (λ n. from_depth r (suc depth) count ++ at_depth r n) (plus_suc depth count))
    ∙ sym (append-three (at_depth r depth) (from_depth r (suc depth) count) (at_depth r (depth + suc count)))
  where
    append-three : (xs ys zs : List SelectRule) → (xs ++ ys) ++ zs ≡ xs ++ (ys ++ zs)
    append-three [] ys zs = refl
    append-three (x ∷ xs) ys zs = ap (λ (l : List SelectRule). x ∷ l) (append-three xs ys zs)

pub next_depth : StagedOnLaw → (r : Rules) (d m e : Linked) (count : ℕ) (selected : List SelectRule) → selected ≡ at_depth r (count + 1) → IsStagedDesign (stages_by r (from_depth r 1 count)) d m
    → IsStagedDesign (stages_by r selected) m e → IsStagedDesign (stages_by r (from_depth r 1 (count + 1))) d e
next_depth law r d m e count selected is one other =
    let both = law (stages_by r (from_depth r 1 count)) (stages_by r selected) d m e one other in
    let on : count + 1 ≡ suc count = omega arith in
    let last : 1 + count ≡ count + 1 = omega arith in
    let lists : from_depth r 1 count ++ selected ≡ from_depth r 1 (count + 1) =
    ap (λ (l : List SelectRule). from_depth r 1 count ++ l) (is ∙ ap (at_depth r) (sym last)) ∙ sym (from_last r 1 count) ∙ ap (from_depth r 1) (sym on) in
    subst (λ (ss : List Stage). IsStagedDesign ss d e) (sym (map-append (stage_of r) (from_depth r 1 count) selected) ∙ ap (stages_by r) lists) both

-- layers of deeper selections aren't used yet

equal : (m n : ℕ) → (m == n) ≡ true → m ≡ n
equal m n e = grind (arith, e)

depth_by : (b : Bool) (r : Rules) (depth : ℕ) (x s : SelectRule) (ys : List SelectRule) → (get_or (depths r) x.name 0 == depth) ≡ b → (IsListed s ys → get_or (depths r) s.name 0 ≡ depth) → IsListed s (cond b (x ∷ ys) ys)
    → get_or (depths r) s.name 0 ≡ depth
depth_by true r depth x s ys e rest (inl same) = ap (λ (y : SelectRule). get_or (depths r) y.name 0) same ∙ equal (get_or (depths r) x.name 0) depth e
depth_by true r depth x s ys e rest (inr g) = rest g
depth_by false r depth x s ys e rest g = rest g

of_depth : (r : Rules) (depth : ℕ) (xs : List SelectRule) (s : SelectRule) → IsListed s (filter (λ x. get_or (depths r) x.name 0 == depth) xs) → get_or (depths r) s.name 0 ≡ depth
of_depth r depth [] s h = absurd h
of_depth r depth (x ∷ xs) s h = depth_by (get_or (depths r) x.name 0 == depth) r depth x s (filter (λ y. get_or (depths r) y.name 0 == depth) xs) refl (of_depth r depth xs s) h

below_last : (r : Rules) (depth count : ℕ) (s : SelectRule) → IsListed s (from_depth r depth count) → get_or (depths r) s.name 0 < depth + count
below_last r depth zero s h = absurd h
below_last r depth (suc count) s h = elim (either_side (at_depth r depth) (from_depth r (suc depth) count) s h) [
  | inl here ↦ let e = of_depth r depth r.selects s here in omega (arith, e)
  | inr on ↦ let lt = below_last r (suc depth) count s on in omega (arith, lt)
]

key_from : (r : Rules) (xs : List SelectRule) (key : LayerKey) → IsListed key (stage_keys (stages_by r xs)) → (s : SelectRule) × IsListed s xs × (key ≡ select_key s.name)
key_from r [] key h = absurd h
key_from r (x ∷ xs) key (inl e) = (x, inl refl, e)
key_from r (x ∷ xs) key (inr h) = let o = key_from r xs key h in (o.0, inr o.1, o.2)

key_in : (r : Rules) (xs : List SelectRule) (key : LayerKey) → IsKeyOf (stages_by r xs) key → (s : SelectRule) × IsListed s xs × (select_key s.name ≡ key)
key_in r [] key h = absurd h
key_in r (x ∷ xs) key (inl e) = (x, inl refl, e)
key_in r (x ∷ xs) key (inr h) = let o = key_in r xs key h in (o.0, inr o.1, o.2)

pub still_unused : (r : Rules) (d m : Linked) (count : ℕ) (selected : List SelectRule) → selected ≡ at_depth r (count + 1) → AreDrawn d → IsStagedDesign (stages_by r (from_depth r 1 count)) d m → AreUnused m (stages_by r selected)
still_unused r d m count selected is drawn staged i p key there is_key listed =
    let c = item_at d.cells i (let lt = slice_get_within m.cells i p there in let same = staged.count in omega (arith, lt, same)) in
    let cell = staged.cells i c.0 p c.1 there in
    let t = key_in r selected key is_key in
    let deep = of_depth r (count + 1) r.selects t.0 (subst (IsListed t.0) is t.1) in
    let keys : layer_keys p.layers.items ≡ layer_keys c.0.layers.items ++ stage_keys (stages_by r (from_depth r 1 count)) =
    ap layer_keys cell.layers ∙ map-append (λ (l : OwnLayer). l.key) c.0.layers.items cell.further ∙ ap (λ (l : List LayerKey). layer_keys c.0.layers.items ++ l) cell.keys in
    elim (either_side (layer_keys c.0.layers.items) (stage_keys (stages_by r (from_depth r 1 count))) key (subst (IsListed key) keys listed)) [
      | inl old ↦
          let stream = drawn i c.0 key c.1 old in
          let lt = stream.layer in let e : 65536 ≡ key.layer = ap (λ (k : LayerKey). k.layer) t.2 in
          absurd (let w : ⊥ = omega (arith, lt, e) in w)
      | inr done ↦
          let s = key_from r (from_depth r 1 count) key done in
          let lt = below_last r 1 count s.0 s.1 in
          let same : get_or (depths r) t.0.name 0 ≡ get_or (depths r) s.0.name 0 = ap (λ (k : LayerKey). get_or (depths r) k.datatype 0) (t.2 ∙ s.2) in
          absurd (let w : ⊥ = omega (arith, lt, deep, same) in w)
    ]

-- names stay

pub names_stay : (stages : List Stage) (d e : Linked) → IsStagedDesign stages d e → HaveNames d.cells → HaveNames e.cells
names_stay stages d e staged h = record {
  few = let n = h.few in let same = staged.count in omega (arith, n, same);
  apart = subst (λ (ws : List (List ℕ)). AreApart ws) same_names h.apart;
}
  where
    same_names : cell_names d.cells ≡ cell_names e.cells
    same_names = one_list (cell_names d.cells) (cell_names e.cells)
        (length-map d.cells (λ (c : CellPart). c.name) ∙ sym staged.count ∙ sym (length-map e.cells (λ (c : CellPart). c.name)))
        (λ k x y at there.
        let a = map_from (λ (c : CellPart). c.name) d.cells k x at in
        let b = map_from (λ (c : CellPart). c.name) e.cells k y there in
        sym a.2 ∙ sym (staged.cells k a.0 b.0 a.1 b.1).name ∙ b.2)

-- in either way

abbrev kept : Way → Design → Design
kept v d = record { cells = d.cells; top = d.top; way = v }

same_kept : (v : Way) (d : Design) (key : LayerKey) → IsSameElse d (kept v d) key
same_kept v d key = record {
  top = refl;
  places = λ cell k p. ((λ h. h), (λ h. h));
  texts = λ cell t. ((λ h. h), (λ h. h));
  own = λ cell other q not. ((λ h. h), (λ h. h));
}

kept_staged : (v : Way) (ss : List Stage) (d e : Design) → AreInTurn ss → IsStaged d ss e → IsStaged (kept v d) ss (kept v e)
kept_staged v [] d e turns st = ap (kept v) st
kept_staged v (s ∷ ss) d e turns st = (
  kept v st.0,
  record {
    same = record { top = st.1.same.top; places = st.1.same.places; texts = st.1.same.texts; own = st.1.same.own };
    new = λ cell q reached.
        let base = st.1.new cell q (record { path = reached.path; leads = reached.leads }) in
        let turn = group d (kept v d) s.key s.select (same_kept v d s.key) turns.0.own cell q in
        ((λ o. turn.1 (base.0 o)), (λ o. base.1 (turn.0 o)));
  },
  group_parted d (kept v d) s.key s.select (same_kept v d s.key) turns.0.own st.2,
  kept_staged v ss st.0 e turns.1 st.3,
)

pub turned_staged : (ss : List Stage) (d e : Linked) → AreInTurn ss → IsSound (keeping d.way e) → IsStagedDesign ss (keeping Disturbed d) e → IsStagedDesign ss d (keeping d.way e)
turned_staged ss d e turns sound h = record {
  top = h.top;
  way = refl;
  sound = sound;
  count = h.count;
  cells = h.cells;
  staged = kept_staged d.way ss (plain (keeping Disturbed d)) (plain e) turns h.staged;
  only = λ cell key q is own. let r = h.only cell key q is own in record { path = r.path; leads = r.leads };
}

-- faults

pub stage_fault : (r : Rules) (d m : Linked) (count : ℕ) (selected : List SelectRule) (f : LinkFault) → selected ≡ at_depth r (count + 1) → IsStagedDesign (stages_by r (from_depth r 1 count)) (keeping Disturbed d) m
    → IsDepthFault r m selected f → IsStageFault r d f
stage_fault r d m count selected (fault.CoordinateRange name) is staged h =
    let on : count + 1 ≡ suc count = omega arith in
    record {
      count = count;
      design = m;
      staged = staged;
      far = subst (λ (l : List SelectRule). IsFarBy r m l (fault.CoordinateRange name)) (is ∙ ap (at_depth r) on) h;
    }
stage_fault r d m count selected fault.TooManyCells is staged h = h
stage_fault r d m count selected (fault.DuplicateCell name) is staged h = h
stage_fault r d m count selected (fault.NoSuchCell name) is staged h = h
stage_fault r d m count selected (fault.Cycle name) is staged h = h
stage_fault r d m count selected (fault.TooDeep name) is staged h = h
stage_fault r d m count selected fault.NoTop is staged h = h
stage_fault r d m count selected (fault.TopUnclear a b) is staged h = h
stage_fault r d m count selected fault.NoMemory is staged h = h
