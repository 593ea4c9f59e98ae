-- The layers of the selections of a depth.
use Rattle.std.proofs.Common.{◌≡◌, ◌⊎◌, ◌↔◌, inl, inr, ℕ, zero, suc, ◌+◌, ◌<◌, ◌≤◌, true, List, [], ◌∷◌, Some, map, cond, Bool, false, refl, sym, ap, ◌∙◌, subst, arith, length, get_or, slice_get, slice_index}
use Rattle.std.specs.Prelude.{◌==◌}
use Rattle.std.specs.Global.{Vec}
use Rattle.std.specs.List.{All, filter}
use Rattle.base_laws.proofs.Items.{item_at, map_from}
use Rattle.std.proofs.Math.Decide.{ℕ_discrete}
use Rattle.std.proofs.lemmas.Bool.{cases_lt, false≢true}
use Rattle.std.proofs.lemmas.List.{get_or_past}
use Rattle.std.proofs.lemmas.List.Elements.{All-nil, All-cons}
use Rattle.std.proofs.lemmas.Option.{slice_get_within, same_Some}
use Rattle.plain_netlist.specs.Lists.{AreApart, AreRising, IsListed}
use Rattle.plain_netlist.proofs.Listing.{at_apart, rising_at}
use Rattle.plain_netlist.proofs.Members.{position}
use Rattle.cell_graph.specs.Layering.{AreFurther, IsLayerFault, IsLayeredDesign}
use Rattle.cell_graph.specs.Linked.{IsOrder, Linked, plain}
use Rattle.cell_graph.specs.Linked.{IsSound as IsSoundDesign}
use Rattle.cell_graph.specs.declared.drafts.LinkFault.{LinkFault}
use Rattle.cell_graph.specs.declared.drafts.LinkFault.TheVariants as fault
use Rattle.cell_graph.specs.declared.cells.OwnLayer.{OwnLayer}
use Rattle.flat_layout.specs.Layers.{Formula}
use Rattle.flat_layout.specs.Layout.{IsReached}
use Rattle.further_layers.specs.Further.{AreCellLayers, AreFurtherFound, AreSelected, FurtherLaw, set_at}
use Rattle.geo_base.specs.declared.layer.LayerKey.{LayerKey}
use Rattle.geo_base.specs.declared.shapes.Rect.{Rect}
use Rattle.geo_base.specs.declared.shapes.Square.{Square}
use Rattle.rect_sets.specs.Rects.{IsCanonical, covers}
use Rattle.rule_layers.specs.Formulas.{formulas}
use Rattle.rule_stages.specs.Depths.{depths}
use Rattle.rule_stages.specs.Selections.{select_of}
use Rattle.rule_stages.specs.Stages.{AreSelectsOf, FreeLaw, at_depth, stage_of}
use Rattle.rule_text.specs.Rules.{Rules, select_key}
use Rattle.rule_text.specs.Sound.{IsFormed, IsNamedBefore, IsSelectRule, IsSound}
use Rattle.rule_text.specs.declared.rules.SelectRule.{SelectRule}
use Rattle.select_laws.specs.Layered.{IsOwnSelected}
use Rattle.select_laws.specs.Selects.{sight}
use Rattle.select_laws.specs.Whole.{ArePartedRegions}
use Rattle.select_laws.specs.Staged.{Stage, Reads as StageReads}
use Rattle.staged_designs.specs.Depths.{AreFound, AreFree, stage_keys}
use Rattle.staged_layouts.specs.Staged.{AreFresh, IsStagedDesign, StagedDepthLaw}
use Rattle.depth_designs.specs.Chosen.{AreChosen, AreChosenTo}
use Rattle.depth_designs.specs.Stages.{AreUnused, IsDepthFault, stages_by}

-- reached or not

search_to : (order : List ℕ) (cell n : ℕ) → ((k : ℕ) × (k < n) × (slice_index order k ≡ cell)) ⊎ ((k : ℕ) → k < n → slice_index order k ≡ cell → ⊥)
search_to order cell zero = inr (λ k lt e. absurd (let w : ⊥ = omega (arith, lt) in w))
search_to order cell (suc n) = elim (ℕ_discrete (slice_index order n) cell) [
  | yes e ↦ inl (n, omega arith, e)
  | no not ↦ elim (search_to order cell n) [
    | inl h ↦ let lt = h.1 in inl (h.0, omega (arith, lt), h.2)
    | inr none ↦ inr (λ k lt e. elim (ℕ_discrete k n) [
      | yes same ↦ not (ap (slice_index order) (sym same) ∙ e)
      | no other ↦ none k (omega (arith, lt, other)) e
    ])
  ]
]

reached_or : (d : Linked) → IsOrder d → (cell : ℕ) → IsReached (plain d) cell ⊎ (IsReached (plain d) cell → ⊥)
reached_or d order cell = elim (search_to d.order cell (length d.order)) [
  | inl h ↦ inl (subst (IsReached (plain d)) h.2 (order.reached h.0 h.1))
  | inr none ↦ inr (λ reached. let o = order.all cell reached in none o.0 o.1 o.2)
]

-- the keys of selections of a depth differ

kept_by : (b : Bool) (x : SelectRule) (xs ys : List SelectRule) (y : SelectRule) → (IsListed y ys → IsListed y xs) → IsListed y (cond b (x ∷ ys) ys) → IsListed y (x ∷ xs)
kept_by true x xs ys y rest (inl e) = inl e
kept_by true x xs ys y rest (inr g) = inr (rest g)
kept_by false x xs ys y rest g = inr (rest g)

in_kept : (p : SelectRule → Bool) (xs : List SelectRule) (y : SelectRule) → IsListed y (filter p xs) → IsListed y xs
in_kept p [] y h = absurd h
in_kept p (x ∷ xs) y h = kept_by (p x) x xs (filter p xs) y (in_kept p xs y) h

rising_by : (b : Bool) (R : SelectRule → SelectRule → Type 0) (x : SelectRule) (ys : List SelectRule) → ((y : SelectRule) → IsListed y ys → R x y) → AreRising R ys → AreRising R (cond b (x ∷ ys) ys)
rising_by true R x ys first rest = (first, rest)
rising_by false R x ys first rest = rest

rising_kept : (R : SelectRule → SelectRule → Type 0) (p : SelectRule → Bool) (xs : List SelectRule) → AreRising R xs → AreRising R (filter p xs)
rising_kept R p [] h = tt
rising_kept R p (x ∷ xs) h = rising_by (p x) R x (filter p xs) (λ y g. h.0 y (in_kept p xs y g)) (rising_kept R p xs h.1)

same_place : (xs : List SelectRule) → AreRising IsNamedBefore xs → (i j : ℕ) (s t : SelectRule) → slice_get xs i ≡ Some s → slice_get xs j ≡ Some t → s.name ≡ t.name → i ≡ j
same_place xs up i j s t e f same = elim (ℕ_discrete i j) [
  | yes at ↦ at
  | no not ↦ elim (cases_lt i j) [
    | inl lt ↦ let less : s.name < t.name = rising_at IsNamedBefore xs i j s t up lt e f in absurd (let w : ⊥ = omega (arith, less, same) in w)
    | inr ge ↦ let less : t.name < s.name = rising_at IsNamedBefore xs j i t s up (omega (arith, ge, not)) f e in absurd (let w : ⊥ = omega (arith, less, same) in w)
  ]
]

pub apart_keys : (r : Rules) (depth : ℕ) → IsFormed r → AreApart (stage_keys (stages_by r (at_depth r depth)))
apart_keys r depth h = at_apart (stage_keys (stages_by r (at_depth r depth))) (λ i j key e f.
    let a = map_from (λ (s : Stage). s.key) (stages_by r (at_depth r depth)) i key e in
    let b = map_from (λ (s : Stage). s.key) (stages_by r (at_depth r depth)) j key f in
    let s = map_from (stage_of r) (at_depth r depth) i a.0 a.1 in
    let t = map_from (stage_of r) (at_depth r depth) j b.0 b.1 in
    let one : select_key s.0.name ≡ key = ap (λ (x : Stage). x.key) s.2 ∙ a.2 in
    let other : select_key t.0.name ≡ key = ap (λ (x : Stage). x.key) t.2 ∙ b.2 in
    same_place (at_depth r depth) (rising_kept IsNamedBefore (λ x. get_or (depths r) x.name 0 == depth) r.selects h.ascending) i j s.0 t.0 s.1 t.1 (ap (λ (k : LayerKey). k.datatype) (one ∙ sym other)))

-- what the sets hold

pub selected_sets : (d : Linked) (r : Rules) (selected : List SelectRule) (lists : List (List (List Rect))) → AreChosenTo (plain d) (formulas r.names) selected (length selected) lists → AreSelected d (stages_by r selected) lists
selected_sets d r selected lists h = record {
  each = λ k x at cell reached q.
      let s = map_from (stage_of r) selected k x at in
      let a = (h.each k s.0 (slice_get_within selected k s.0 s.1) s.1).each cell reached q in
      subst (λ (y : Stage). (covers (set_at lists k cell) q ≡ true) ↔ IsOwnSelected (plain d) y.select cell q) s.2 a;
  none = λ k cell not. elim (cases_lt k (length selected)) [
    | inl lt ↦ let s = at_all selected k lt in (h.each k s.0 lt s.1).none cell not
    | inr past ↦ let count = h.count in ap (λ (l : List (List Rect)). get_or l cell []) (get_or_past lists k [] (omega (arith, past, count)))
  ];
  parted = λ k x at.
      let s = map_from (stage_of r) selected k x at in
      subst (λ (y : Stage). ArePartedRegions (plain d) y.select.joint (sight y.select)) s.2 (h.each k s.0 (slice_get_within selected k s.0 s.1) s.1).parted;
}
  where
    at_all : (xs : List SelectRule) (k : ℕ) → k < length xs → (s : SelectRule) × (slice_get xs k ≡ Some s)
    at_all xs k lt = item_at xs k lt

all_from : (P : OwnLayer → Type 0) (xs : List OwnLayer) → ((k : ℕ) (x : OwnLayer) → slice_get xs k ≡ Some x → P x) → All P xs
all_from P [] h = All-nil P
all_from P (x ∷ xs) h = All-cons P x xs (h 0 x refl) (all_from P xs (λ k y e. h (suc k) y e))

no_square : (set : List Rect) (q : Square) → set ≡ [] → covers set q ≡ true → ⊥
no_square set q e h = let z : covers [] q ≡ true = subst (λ (s : List Rect). covers s q ≡ true) e h in false≢true z

pub fresh_layers : (d : Linked) (stages : List Stage) (lists : List (List (List Rect))) (further : List (Vec OwnLayer)) → IsOrder d → AreUnused d stages → AreSelected d stages lists
    → AreCellLayers (stage_keys stages) lists (length d.cells) further → AreFresh d stages further
fresh_layers d stages lists further order unused selected are = record {
  unused = unused;
  canonical = λ i layers at. all_from (λ (l : OwnLayer). IsCanonical l.set) layers.items (λ k l e. ((are.each i layers at).each k l e).2);
  reached = λ i layers l q at listed h.
      let p = position layers.items l listed in
      let set_is = ((are.each i layers at).each p.0 l p.1).1 in
      elim (reached_or d order i) [
        | inl yes_ ↦ yes_
        | inr not ↦ absurd (no_square l.set q (set_is ∙ selected.none p.0 i not) h)
      ];
}

-- none of a depth reads another

pub free_stages : FreeLaw → (r : Rules) (depth : ℕ) → IsSound r → AreFree (stages_by r (at_depth r depth))
free_stages law r depth sound i j x y e f reads =
    let s = map_from (stage_of r) (at_depth r depth) i x e in
    let t = map_from (stage_of r) (at_depth r depth) j y f in
    law r depth i j s.0 t.0 sound s.1 t.1
    (subst (λ (v : Stage). StageReads (stage_of r s.0) v.key) (sym t.2) (subst (λ (v : Stage). StageReads v y.key) (sym s.2) reads))

-- selections of the rules have keys

pub select_known : (r : Rules) (selected : List SelectRule) (k : ℕ) (s : SelectRule) → IsFormed r → AreSelectsOf r selected → slice_get selected k ≡ Some s → IsSelectRule r.names s
select_known r selected k s h of at = let o = of k s at in h.selects o.0 s o.1

-- all of one depth

pub found_all : FurtherLaw → (d : Linked) (r : Rules) (depth : ℕ) (selected : List SelectRule) (lists : List (List (List Rect))) (keys : List LayerKey) (cells : ℕ) (further : List (Vec OwnLayer)) → IsSound r → selected ≡ at_depth r depth
    → keys ≡ stage_keys (stages_by r selected) → cells ≡ length d.cells → AreChosenTo (plain d) (formulas r.names) selected (length selected) lists → AreCellLayers keys lists cells further → AreFurtherFound d (stages_by r selected) further
found_all law d r depth selected lists keys cells further sound is keys_are count chosen are =
    law d (stages_by r selected) lists further
    (subst (λ (l : List SelectRule). AreApart (stage_keys (stages_by r l))) (sym is) (apart_keys r depth sound.formed))
    (selected_sets d r selected lists chosen)
    (subst (λ n. AreCellLayers (stage_keys (stages_by r selected)) lists n further) count (subst (λ (ks : List LayerKey). AreCellLayers ks lists cells further) keys_are are))

pub fresh_all : (d : Linked) (r : Rules) (selected : List SelectRule) (lists : List (List (List Rect))) (keys : List LayerKey) (cells : ℕ) (further : List (Vec OwnLayer)) → IsOrder d → AreUnused d (stages_by r selected)
    → keys ≡ stage_keys (stages_by r selected) → cells ≡ length d.cells → AreChosenTo (plain d) (formulas r.names) selected (length selected) lists → AreCellLayers keys lists cells further → AreFresh d (stages_by r selected) further
fresh_all d r selected lists keys cells further order unused keys_are count chosen are =
    fresh_layers d (stages_by r selected) lists further order unused (selected_sets d r selected lists chosen)
    (subst (λ n. AreCellLayers (stage_keys (stages_by r selected)) lists n further) count (subst (λ (ks : List LayerKey). AreCellLayers ks lists cells further) keys_are are))

depth_by : StagedDepthLaw → (d e : Linked) (stages : List Stage) (further : List (Vec OwnLayer)) → (stages ≡ [] → ⊥) → AreFurther d.cells (stage_keys stages) further → IsLayeredDesign d (stage_keys stages) further e → AreFound d stages further
    → AreFree stages → AreFresh d stages further → IsSoundDesign e → IsStagedDesign stages d e
depth_by law d e [] further some_ = absurd (some_ refl)
depth_by law d e (s ∷ ss) further some_ = law d e s ss further

no_stages : (r : Rules) (selected : List SelectRule) → (selected ≡ [] → ⊥) → stages_by r selected ≡ [] → ⊥
no_stages r [] some_ e = some_ refl
no_stages r (s ∷ ss) some_ e = let w : ⊥ = cc in w

pub depth_staged : StagedDepthLaw → FreeLaw → (d e : Linked) (r : Rules) (depth : ℕ) (selected : List SelectRule) (keys : List LayerKey) (further : List (Vec OwnLayer)) → IsSound r → selected ≡ at_depth r depth → (selected ≡ [] → ⊥)
    → keys ≡ stage_keys (stages_by r selected) → AreFurther d.cells (stage_keys (stages_by r selected)) further → AreFound d (stages_by r selected) further → AreFresh d (stages_by r selected) further
    → IsLayeredDesign d keys further e → IsSoundDesign e → IsStagedDesign (stages_by r selected) d e
depth_staged law free d e r depth selected keys further sound is some_ keys_are are found fresh made sound_design =
    depth_by law d e (stages_by r selected) further (no_stages r selected some_) are (subst (λ (ks : List LayerKey). IsLayeredDesign d ks further e) keys_are made) found
    (subst (λ (l : List SelectRule). AreFree (stages_by r l)) (sym is) (free_stages free r depth sound)) fresh sound_design

pub depth_fault : (d : Linked) (r : Rules) (selected : List SelectRule) (keys : List LayerKey) (further : List (Vec OwnLayer)) (f : LinkFault) → keys ≡ stage_keys (stages_by r selected)
    → AreFurther d.cells (stage_keys (stages_by r selected)) further → AreFound d (stages_by r selected) further → AreFresh d (stages_by r selected) further → IsLayerFault d.cells keys further f → IsDepthFault r d selected f
depth_fault d r selected keys further (fault.CoordinateRange name) keys_are are found fresh far =
    record { further = further; layers = are; found = found; fresh = fresh; far = subst (λ (ks : List LayerKey). IsLayerFault d.cells ks further (fault.CoordinateRange name)) keys_are far }
depth_fault d r selected keys further fault.TooManyCells keys_are are found fresh far = far
depth_fault d r selected keys further (fault.DuplicateCell name) keys_are are found fresh far = far
depth_fault d r selected keys further (fault.NoSuchCell name) keys_are are found fresh far = far
depth_fault d r selected keys further (fault.Cycle name) keys_are are found fresh far = far
depth_fault d r selected keys further (fault.TooDeep name) keys_are are found fresh far = far
depth_fault d r selected keys further fault.NoTop keys_are are found fresh far = far
depth_fault d r selected keys further (fault.TopUnclear a b) keys_are are found fresh far = far
depth_fault d r selected keys further fault.NoMemory keys_are are found fresh far = far
