-- What the table of layers has of each conductor.
use Rattle.std.proofs.Common.{◌≡◌, ◌⊎◌, inl, inr, ℕ, ◌+◌, ◌<◌, ◌≤◌, Bool, true, false, List, [], ◌∷◌, ◌++◌, Option, Some, None, IsSome, if◌then◌else◌, slice_index, get_or, length, length-set, refl, sym, ◌∙◌, ap, subst, arith}
use Rattle.std.proofs.Math.Decide.{ℕ_discrete, dec_lt}
use Rattle.std.proofs.lemmas.List.{get_or_past, get_or-set_other, get_or-set_same, map-set, map_push}
use Rattle.std.proofs.lemmas.Option.{get_or_from_slice_get, slice_get-get_or, slice_get_cases, slice_get_past}
use Rattle.std.specs.Borrow.{Bor}
use Rattle.std.specs.Global.{Vec}
use Rattle.std.specs.Prelude.{set}
use Rattle.cell_graph.specs.Linked.{IsOrder, Linked, plain}
use Rattle.deep_tables.proofs.Nothing.{no_squares}
use Rattle.deep_tables.proofs.Reading.{layer_at, some_and}
use Rattle.deep_tables.specs.Entries.{entry}
use Rattle.deep_tables.specs.Layers.{AreCellLayers, AreLayers, layer_of, squares_on}
use Rattle.deep_tables.specs.Nets.{rects_in}
use Rattle.deep_tables.specs.declared.layers.CellLayers.{CellLayers}
use Rattle.flat_layout.specs.Layers.{Empty}
use Rattle.flat_layout.specs.Layout.{Design, IsReached}
use Rattle.flat_layout.specs.Regions.{formula}
use Rattle.flat_layout.specs.Values.{IsLocalLayer}
use Rattle.geo_base.specs.declared.shapes.Rect.{Rect}
use Rattle.rule_layers.proofs.Wired.{conductors}
use Rattle.rule_layers.specs.Meaning.{wiring_of}
use Rattle.rule_layers.specs.Formulas.{formulas}
use Rattle.rule_text.specs.Reading.{is_conductor}
use Rattle.rule_text.specs.Rules.{Rules}
use Rattle.net_phase.proofs.Listing.{get_push}
use Rattle.net_phase.proofs.Wiring.{names_long, trees_long}
use Rattle.net_phase.specs.Own.{AreOwnLists, rect_lists, own_at, rects_of}

named : (d : Design) (r : Rules) (layers : List (Option CellLayers)) (cell c : ℕ) → AreLayers d r layers → IsReached d cell → IsLocalLayer d (get_or (formulas r.names) c Empty) cell (rects_in (layer_of layers cell c))
named d r layers cell c right reached = elim (slice_get_cases (formulas r.names) c).1 [
  | inl h ↦
      let found = layer_at d r layers cell c h.0 right reached h.2 in
      subst (λ x. IsLocalLayer d x cell (rects_in (layer_of layers cell c))) (sym (get_or_from_slice_get (formulas r.names) c h.0 Empty h.2))
      (subst (λ o. IsLocalLayer d h.0 cell (rects_in o)) (sym found.1) found.2)
  | inr h ↦
      let v = some_and (AreCellLayers d r cell) (entry layers cell) (right cell reached) in
      let le = h.0 in let same = v.2.names in
      let none : layer_of layers cell c ≡ None = ap (λ o. squares_on o c) v.1 ∙ slice_get_past v.0.layers.items c (omega arith) in
      subst (λ x. IsLocalLayer d x cell (rects_in (layer_of layers cell c))) (sym (get_or_past (formulas r.names) c Empty le))
      (subst (λ o. IsLocalLayer d Empty cell (rects_in o)) (sym none) (no_squares d cell))
]

pub by_kind : (d : Design) (r : Rules) (layers : List (Option CellLayers)) (cell c : ℕ) → AreLayers d r layers → IsReached d cell → (b : Bool) → is_conductor c r ≡ b
    → IsLocalLayer d (formula (wiring_of r) c) cell (if b then rects_in (layer_of layers cell c) else [])
by_kind d r layers cell c right reached true e = subst (λ x. IsLocalLayer d x cell (rects_in (layer_of layers cell c))) (sym ((conductors r c).conductor e)) (named d r layers cell c right reached)
by_kind d r layers cell c right reached false e = subst (λ x. IsLocalLayer d x cell []) (sym ((conductors r c).none e)) (no_squares d cell)

some_is : {A : Type 0} (o : Option A) (x : A) → o ≡ Some x → IsSome o
some_is None x e = cc
some_is (Some y) x e = refl

pub layer_there : (d : Design) (r : Rules) (layers : List (Option CellLayers)) (cell c : ℕ) → AreLayers d r layers → IsReached d cell → c < length r.names → IsSome (layer_of layers cell c)
layer_there d r layers cell c right reached lt =
    let long = trees_long r in
    let at = slice_get-get_or (formulas r.names) c Empty (omega (arith, long, lt)) in
    let found = layer_at d r layers cell c (get_or (formulas r.names) c Empty) right reached at in
    some_is (layer_of layers cell c) found.0 found.1

-- past the names nothing is read
pub past_names : (d : Design) (r : Rules) (cell c : ℕ) → length r.names ≤ c → IsLocalLayer d (formula (wiring_of r) c) cell []
past_names d r cell c le =
    let long = names_long r in
    subst (λ x. IsLocalLayer d x cell []) (sym (get_or_past (wiring_of r).conductors c Empty (omega (arith, long, le)))) (no_squares d cell)

-- one more conductor of a cell
pub record AreOwnTo (d : Design) (r : Rules) (cell n : ℕ) (own : List (List Rect)) : Type 0 where
  pub long : length own ≡ n
  pub each : (c : ℕ) → c < n → IsLocalLayer d (formula (wiring_of r) c) cell (get_or own c [])

pub no_own : (d : Design) (r : Rules) (cell : ℕ) → AreOwnTo d r cell 0 []
no_own d r cell = record { long = refl; each = λ c lt. absurd (omega arith) }

pub own_more : (d : Design) (r : Rules) (cell n : ℕ) (own : List (Bor (List Rect))) (x : Bor (List Rect)) → AreOwnTo d r cell n (rects_of own) → IsLocalLayer d (formula (wiring_of r) n) cell x.now → AreOwnTo d r cell (n + 1) (rects_of (own ++ x ∷ []))
own_more d r cell n own x h here =
    let e = map_push (λ (v : Bor (List Rect)). v.now) own x in
    let long = h.long in
    subst (λ (l : List (List Rect)). AreOwnTo d r cell (n + 1) l) (sym e) (record {
      long = (let g = one_more (rects_of own) x.now in omega (arith, g, long));
      each = λ c lt. get_push (rects_of own) x.now [] c (λ k v. IsLocalLayer d (formula (wiring_of r) k) cell v) (λ k less. h.each k (omega (arith, long, less)))
          (subst (λ k. IsLocalLayer d (formula (wiring_of r) k) cell x.now) (sym long) here) (omega (arith, long, lt));
    })
  where
    one_more : (xs : List (List Rect)) (y : List Rect) → length (xs ++ y ∷ []) ≡ length xs + 1
    one_more [] y = refl
    one_more (z ∷ xs) y = let g = one_more xs y in omega (arith, g)

pub own_all : (d : Design) (r : Rules) (cell n : ℕ) (own : List (List Rect)) → n ≡ length r.names → AreOwnTo d r cell n own → (c : ℕ) → IsLocalLayer d (formula (wiring_of r) c) cell (get_or own c [])
own_all d r cell n own e h c = elim (dec_lt c n) [
  | yes lt ↦ h.each c lt
  | no m ↦
      let long = h.long in
      subst (λ l. IsLocalLayer d (formula (wiring_of r) c) cell l) (sym (get_or_past own c [] (omega (arith, long)))) (past_names d r cell c (omega (arith, e)))
]

-- of all cells

pub record AreOwnListsTo (d : Linked) (r : Rules) (n : ℕ) (all : List (List (List Rect))) : Type 0 where
  pub long : length all ≡ length d.cells
  pub done : (j : ℕ) → j < n → (c : ℕ) → IsLocalLayer (plain d) (formula (wiring_of r) c) (slice_index d.order j) (own_at all (slice_index d.order j) c)
  pub others : (cell c : ℕ) → IsReached (plain d) cell ⊎ (own_at all cell c ≡ [])

pub none_done : (d : Linked) (r : Rules) (all : List (List (List Rect))) → length all ≡ length d.cells → ((k : ℕ) → get_or all k [] ≡ []) → AreOwnListsTo d r 0 all
none_done d r all long none = record { long = long; done = λ j lt. absurd (omega arith); others = λ cell c. inr (ap (λ (l : List (List Rect)). get_or l c []) (none cell)) }

pub one_done : (d : Linked) (r : Rules) (n : ℕ) (all : List (List (List Rect))) (own : List (List Rect)) → IsOrder d → n < length d.order → AreOwnListsTo d r n all
    → ((c : ℕ) → IsLocalLayer (plain d) (formula (wiring_of r) c) (slice_index d.order n) (get_or own c [])) → AreOwnListsTo d r (n + 1) (set all (slice_index d.order n) own)
one_done d r n all own order lt h here =
    let cell = slice_index d.order n in
    let new = set all cell own in
    let long = h.long in
    let inside = order.inside n lt in
    let at : get_or new cell [] ≡ own = get_or-set_same all cell own [] (omega (arith, long, inside)) in
    record {
      long = set_long all cell own ∙ long;
      done = λ j less c. elim (ℕ_discrete (slice_index d.order j) cell) [
        | yes e ↦ subst (λ k. IsLocalLayer (plain d) (formula (wiring_of r) c) k (own_at new k c)) (sym e) (subst (λ (l : List (List Rect)). IsLocalLayer (plain d) (formula (wiring_of r) c) cell (get_or l c [])) (sym at) (here c))
        | no m ↦
            let other : get_or new (slice_index d.order j) [] ≡ get_or all (slice_index d.order j) [] = get_or-set_other all cell (slice_index d.order j) own [] m in
            subst (λ (l : List (List Rect)). IsLocalLayer (plain d) (formula (wiring_of r) c) (slice_index d.order j) (get_or l c [])) (sym other) (h.done j (not_last j less m) c)
      ];
      others = λ k c. elim (ℕ_discrete k cell) [
        | yes e ↦ inl (subst (λ v. IsReached (plain d) v) (sym e) (order.reached n lt))
        | no m ↦ elim (h.others k c) [ inl a ↦ inl a | inr b ↦ inr (ap (λ (l : List (List Rect)). get_or l c []) (get_or-set_other all cell k own [] m) ∙ b) ]
      ];
    }
  where
    not_last : (j : ℕ) → j < n + 1 → (slice_index d.order j ≡ slice_index d.order n → ⊥) → j < n
    not_last j less m = elim (ℕ_discrete j n) [ yes e ↦ absurd (m (ap (slice_index d.order) e)) | no k ↦ omega arith ]

    set_long : (xs : List (List (List Rect))) (k : ℕ) (x : List (List Rect)) → length (set xs k x) ≡ length xs
    set_long xs k x = length-set xs k x

pub lists_all : (d : Linked) (r : Rules) (n : ℕ) (all : List (List (List Rect))) → IsOrder d → n ≡ length d.order → AreOwnListsTo d r n all → AreOwnLists d r all
lists_all d r n all order e h = record {
  reached = λ cell c is.
      let at = order.all cell is in
      let lt = at.1 in
      subst (λ k. IsLocalLayer (plain d) (formula (wiring_of r) c) k (own_at all k c)) at.2 (h.done at.0 (omega (arith, e, lt)) c);
  others = h.others;
}

pub lists_set : (all : List (Vec (Bor (List Rect)))) (k : ℕ) (v : Vec (Bor (List Rect))) → rect_lists (set all k v) ≡ set (rect_lists all) k (rects_of v.items)
lists_set all k v = map-set (λ (u : Vec (Bor (List Rect))). rects_of u.items) all k v
