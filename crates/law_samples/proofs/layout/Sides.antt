-- Sides and gates of the design with transistors, and what each cell keeps and holds of them.
use Rattle.std.proofs.Common.{◌≡◌, ◌⊎◌, inl, inr, ℕ, zero, suc, ◌<◌, ◌≤◌, List, [], ◌∷◌, refl, sym, ◌∙◌, ap, subst, arith}
use Rattle.std.proofs.lemmas.Int.{ints}
use Rattle.geo_base.specs.Motions.{moved_square}
use Rattle.geo_base.specs.declared.layer.LayerKey.{LayerKey}
use Rattle.geo_base.specs.declared.shapes.Square.{Square}
use Rattle.flat_laws.proofs.Calm.{top_calm}
use Rattle.flat_laws.proofs.Leaving.{calm_unstirred, unstirred}
use Rattle.flat_layout.specs.Layers.{Input, InFlat, IsKept, IsKeptBelow, IsLocal, inputs, reach, IsCalmAt}
use Rattle.flat_layout.specs.Layout.{Place, Layer, Cell, Some_of, IsOwn, Takes, IsPrefix, IsDisturbed}
use Rattle.flat_layout.specs.Plane.{IsIn}
use Rattle.flat_layout.specs.Regions.{formula}
use Rattle.plain_netlist.specs.Lists.{IsListed}
use Rattle.flat_laws.proofs.Names.{still}
use Rattle.law_samples.proofs.layout.Columns.{one_place, lower_cell, placed_here, no_place, levels, moved_column, one_column, some_column, own_column, column_own, IsFlatColumn, flat_column, column_flat, column_above, poly_at, no_poly, child_poly, parent_poly, poly_above}
use Rattle.law_samples.proofs.layout.Right.{input_parted}
use Rattle.law_samples.specs.Sample.{sample_level}
use Rattle.law_samples.specs.Transistors.{key_of, at, columns, mirror_place, parent, gate_design, sides, crossings, gate_wiring, held}

-- the child's sides stand in columns 0, 2 and 3
child_sides : (q : Square) → InFlat gate_design 0 sides q → (q ≡ at 0) ⊎ ((q ≡ at 2) ⊎ (q ≡ at 3))
child_sides q (active, bare) = of_column (flat_column 0 0 q (omega arith) active)
  where
    of_column : (x : ℕ) × IsFlatColumn 0 0 x × (q ≡ at x) → (q ≡ at 0) ⊎ ((q ≡ at 2) ⊎ (q ≡ at 3))
    of_column (x, inl (inl f), e) = inl (e ∙ ap at f)
    of_column (x, inl (inr (inl f)), e) = absurd (bare (subst (InFlat gate_design 0 (Input (key_of 1))) (sym (e ∙ ap at f)) child_poly))
    of_column (x, inl (inr (inr (inl f))), e) = inr (inl (e ∙ ap at f))
    of_column (x, inl (inr (inr (inr (inl f)))), e) = inr (inr (e ∙ ap at f))
    of_column (x, inl (inr (inr (inr (inr n)))), e) = absurd n
    of_column (x, inr (one, z, sum, l), e) = absurd (omega arith)

-- the parent's in columns 0, 2 and 4
pub top_sides : (q : Square) → InFlat gate_design 1 sides q → (q ≡ at 0) ⊎ ((q ≡ at 2) ⊎ (q ≡ at 4))
top_sides q (active, bare) = of_column (flat_column 1 0 q (omega arith) active)
  where
    of_column : (x : ℕ) × IsFlatColumn 1 0 x × (q ≡ at x) → (q ≡ at 0) ⊎ ((q ≡ at 2) ⊎ (q ≡ at 4))
    of_column (x, inl (inl f), e) = inl (e ∙ ap at f)
    of_column (x, inl (inr n), e) = absurd n
    of_column (x, inr (one, z, sum, inl f), e) = let g : x ≡ 4 = omega arith in inr (inr (e ∙ ap at g))
    of_column (x, inr (one, z, sum, inr (inl f)), e) = let g : x ≡ 3 = omega arith in absurd (bare (subst (InFlat gate_design 1 (Input (key_of 1))) (sym (e ∙ ap at g)) poly_above))
    of_column (x, inr (one, z, sum, inr (inr (inl f))), e) = let g : x ≡ 2 = omega arith in inr (inl (e ∙ ap at g))
    of_column (x, inr (one, z, sum, inr (inr (inr (inl f)))), e) = let g : x ≡ 1 = omega arith in absurd (bare (subst (InFlat gate_design 1 (Input (key_of 1))) (sym (e ∙ ap at g)) parent_poly))
    of_column (x, inr (one, z, sum, inr (inr (inr (inr n)))), e) = absurd n

pub side_column : (cell : ℕ) (q : Square) → InFlat gate_design cell sides q → (x : ℕ) × (q ≡ at x)
side_column cell q h = let s = flat_column cell 0 q (omega arith) h.0 in (s.0, s.2)

-- gates stand in column 1 and, in the parent, in column 3
pub gates_odd : (cell : ℕ) (q : Square) → InFlat gate_design cell crossings q → (q ≡ at 1) ⊎ ((cell ≡ 1) × (q ≡ at 3))
gates_odd cell q h = poly_at cell q h.1

pub child_left : InFlat gate_design 0 sides (at 0)
child_left = (column_flat 0 0 0 (omega arith) (inl refl), no_poly 0 0 (λ e. absurd (omega arith)) (λ e. absurd (omega arith)))

pub child_gate : InFlat gate_design 0 crossings (at 1)
child_gate = (column_flat 0 0 1 (omega arith) (inr (inl refl)), child_poly)

pub child_right : InFlat gate_design 0 sides (at 2)
child_right = (column_flat 0 0 2 (omega arith) (inr (inr (inl refl))), no_poly 0 2 (λ e. absurd (omega arith)) (λ e. absurd (omega arith)))

pub across_left : InFlat gate_design 1 sides (at 0)
across_left = (column_flat 1 0 0 (omega arith) (inl refl), no_poly 1 0 (λ e. absurd (omega arith)) (λ e. absurd (omega arith)))

pub across_gate : InFlat gate_design 1 crossings (at 1)
across_gate = (column_above 0 3 1 (omega arith) refl (inr (inr (inr (inl refl)))), parent_poly)

pub across_right : InFlat gate_design 1 sides (at 2)
across_right = (column_above 0 2 2 (omega arith) refl (inr (inr (inl refl))), no_poly 1 2 (λ e. absurd (omega arith)) (λ e. absurd (omega arith)))

pub last_side : InFlat gate_design 1 sides (at 4)
last_side = (column_above 0 0 4 (omega arith) refl (inl refl), no_poly 1 4 (λ e. absurd (omega arith)) (λ e. absurd (omega arith)))

-- the parent's own squares stand in column 0 or 1
own_near : (key : LayerKey) (q : Square) → IsOwn gate_design 1 key q → (x : ℕ) × (x ≤ 1) × (q ≡ at x)
own_near key q (c, e, h) = let g : c ≡ parent = cc in of_layers (subst (λ (k : Cell). Some_of (λ (l : Layer). (l.key ≡ key) × Some_of (IsIn q) l.rects) k.layers) g h)
  where
    first : (x : ℕ) × IsListed x (columns 1 0) × (q ≡ at x) → (x : ℕ) × (x ≤ 1) × (q ≡ at x)
    first (x, inl e, f) = (x, omega arith, f)
    first (x, inr n, f) = absurd n

    second : (x : ℕ) × IsListed x (columns 1 1) × (q ≡ at x) → (x : ℕ) × (x ≤ 1) × (q ≡ at x)
    second (x, inl e, f) = (x, omega arith, f)
    second (x, inr n, f) = absurd n

    of_layers : Some_of (λ (l : Layer). (l.key ≡ key) × Some_of (IsIn q) l.rects) parent.layers → (x : ℕ) × (x ≤ 1) × (q ≡ at x)
    of_layers (inl (k, i)) = first (some_column q (columns 1 0) i)
    of_layers (inr (inl (k, i))) = second (some_column q (columns 1 1) i)
    of_layers (inr (inr n)) = absurd n

-- the one way from the top to the child
record IsDown (path : List ℕ) (q s : Square) : Type 0 where
  only : path ≡ 0 ∷ []
  same : moved_square mirror_place.motion q ≡ s

down : (path : List ℕ) (q s : Square) → Takes gate_design 1 path 0 q s → IsDown path q s
down [] q s h = let e = h.0 in absurd (omega arith)
down (k ∷ []) q s (p, placed, r, rest, e) =
    let one = one_place 1 k p placed in
    record { only = ap (λ (j : ℕ). j ∷ []) one.1; same = ap (λ (j : Place). moved_square j.motion q) (sym one.2) ∙ ap (moved_square p.motion) rest.1 ∙ e }
down (k ∷ (j ∷ js)) q s (p, placed, r, rest, e) = absurd (no_place p.cell j rest.0 (lower_cell 1 k p placed) rest.1)

-- what doesn't come through the placement is the parent's own
beside_own : (key : LayerKey) (path other : List ℕ) (end : ℕ) (s q : Square) → path ≡ 0 ∷ [] → (IsPrefix path other → ⊥) → Takes gate_design 1 other end s q → IsOwn gate_design end key s → IsOwn gate_design 1 key q
beside_own key path [] end s q only apart takes own = subst (λ k. IsOwn gate_design k key q) (sym takes.0) (subst (λ k. IsOwn gate_design end key k) takes.1 own)
beside_own key path (k ∷ ks) end s q only apart (p, placed, r, rest, e) own =
    let one = one_place 1 k p placed in
    absurd (apart (subst (λ (j : List ℕ). IsPrefix j (k ∷ ks)) (sym only) (ks, ap (λ (j : ℕ). j ∷ ks) (sym one.1))))

-- what is disturbed in the child comes to stand in column 0 or 1
pub disturbed_near : (keys : List LayerKey) (q : Square) → IsDisturbed gate_design keys 0 q → (x : ℕ) × (x ≤ 1) × (moved_square mirror_place.motion q ≡ at x)
disturbed_near keys q h =
    let way = down h.path q h.place h.takes in
    let own = beside_own h.key h.path h.other h.end h.square h.place way.only h.apart h.others h.own in
    let near = own_near h.key h.place own in
    (near.0, near.1, way.same ∙ near.2)

calm_column : (keys : List LayerKey) (x : ℕ) → x ≤ 2 → IsDisturbed gate_design keys 0 (at x) → ⊥
calm_column keys x small h =
    let near = disturbed_near keys (at x) h in
    let lt = near.1 in
    let e = ap (λ (k : Square). k.x) near.2 in
    absurd (omega (arith, ints))

calm_reach : (x : ℕ) → x ≤ 2 → IsCalmAt gate_design (inputs sides) (reach sides) 0 (at x)
calm_reach x small = calm_unstirred gate_design (inputs sides) (reach sides) 0 (at x) (λ h. calm_column (inputs sides) x small ((still gate_design (inputs sides) 0 (at x)).0 h))

-- the parent's poly lies over the child's column 3
crossed : IsDisturbed gate_design (inputs sides) 0 (at 3)
crossed = record {
  path = 0 ∷ [];
  other = [];
  end = 1;
  square = at 1;
  place = at 1;
  key = key_of 1;
  listed = inr (inl refl);
  takes = (mirror_place, placed_here, at 3, (refl, refl), moved_column mirror_place 3 1 refl refl);
  others = (refl, refl);
  own = column_own 1 1 1 (omega arith) (inl refl);
  apart = λ x. let e = x.1 in let z : ⊥ = cc in z;
}

-- the child keeps its sides in columns 0 and 2
child_kept : (q : Square) → IsKept gate_design 0 sides q → (q ≡ at 0) ⊎ (q ≡ at 2)
child_kept q h = elim (child_sides q h.0) [ inl e ↦ inl e | inr f ↦ elim f [ inl e ↦ inr e | inr e ↦ absurd (unstirred gate_design refl (inputs sides) (reach sides) 0 q h.1 ((still gate_design (inputs sides) 0 q).1 (subst (IsDisturbed gate_design (inputs sides) 0) (sym e) crossed))) ] ]

-- and not the one in column 3
pub lost : InFlat gate_design 0 sides (at 3) × (IsKept gate_design 0 sides (at 3) → ⊥)
lost =
    let bare : InFlat gate_design 0 (Input (key_of 1)) (at 3) → ⊥ = λ h. elim (poly_at 0 (at 3) h) [ inl e ↦ (let f = one_column 3 1 e in absurd (omega arith)) | inr e ↦ (let f = e.0 in absurd (omega arith)) ] in
    ((column_flat 0 0 3 (omega arith) (inr (inr (inr (inl refl)))), bare), λ h. unstirred gate_design refl (inputs sides) (reach sides) 0 (at 3) h.1 ((still gate_design (inputs sides) 0 (at 3)).1 crossed))

kept_left : IsKept gate_design 0 sides (at 0)
kept_left = (child_left, calm_reach 0 (omega arith))

kept_right : IsKept gate_design 0 sides (at 2)
kept_right = (child_right, calm_reach 2 (omega arith))

pub top_kept : (q : Square) → InFlat gate_design 1 sides q → IsKept gate_design 1 sides q
top_kept q h = (h, top_calm gate_design sample_level levels.lower (inputs sides) (reach sides) q)

none_below : (q : Square) → IsKeptBelow gate_design 0 sides q → ⊥
none_below q h = no_place 0 h.number h.place refl h.placed

-- of the parent's sides those in columns 2 and 4 come from the child
below_far : (q : Square) → IsKeptBelow gate_design 1 sides q → (q ≡ at 4) ⊎ (q ≡ at 2)
below_far q h =
    let low = lower_cell 1 h.number h.place h.placed in
    let is = (one_place 1 h.number h.place h.placed).2 in
    elim (child_kept h.square (subst (λ k. IsKept gate_design k sides h.square) low h.kept)) [
      | inl e ↦ inl (sym h.image ∙ ap (moved_square h.place.motion) e ∙ moved_column h.place 0 4 is refl)
      | inr e ↦ inr (sym h.image ∙ ap (moved_square h.place.motion) e ∙ moved_column h.place 2 2 is refl)
    ]

below_last : IsKeptBelow gate_design 1 sides (at 4)
below_last = record { number = 0; place = mirror_place; square = at 0; placed = placed_here; kept = kept_left; image = moved_column mirror_place 0 4 refl refl }

below_middle : IsKeptBelow gate_design 1 sides (at 2)
below_middle = record { number = 0; place = mirror_place; square = at 2; placed = placed_here; kept = kept_right; image = moved_column mirror_place 2 2 refl refl }

first_local : IsLocal gate_design 1 sides (at 0)
first_local = (top_kept (at 0) across_left, λ h. elim (below_far (at 0) h) [ inl e ↦ (let f = one_column 0 4 e in absurd (omega arith)) | inr e ↦ (let f = one_column 0 2 e in absurd (omega arith)) ])

pub sides_parted : (cell : ℕ) (q : Square) → cell < 2 → IsKept gate_design cell sides q → IsLocal gate_design cell sides q ⊎ IsKeptBelow gate_design cell sides q
sides_parted zero q lt h = inl (h, none_below q)
sides_parted (suc zero) q lt h =
    elim (top_sides q h.0) [
      | inl e ↦ inl (subst (IsLocal gate_design 1 sides) (sym e) first_local)
      | inr f ↦ inr (elim f [ inl e ↦ subst (IsKeptBelow gate_design 1 sides) (sym e) below_middle | inr e ↦ subst (IsKeptBelow gate_design 1 sides) (sym e) below_last ])
    ]
sides_parted (suc (suc n)) q lt h = absurd (omega arith)

abbrev Held : ℕ → ℕ → Square → Type 0
Held cell c q = (x : ℕ) × IsListed x (held cell c) × (q ≡ at x)

local_side : (cell : ℕ) (q : Square) → cell < 2 → IsLocal gate_design cell sides q → Held cell 0 q
local_side zero q lt h = elim (child_kept q h.0) [ inl e ↦ (0, inl refl, e) | inr e ↦ (2, inr (inl refl), e) ]
local_side (suc zero) q lt h =
    elim (top_sides q h.0.0) [
      | inl e ↦ (0, inl refl, e)
      | inr f ↦ absurd (h.1 (elim f [ inl e ↦ subst (IsKeptBelow gate_design 1 sides) (sym e) below_middle | inr e ↦ subst (IsKeptBelow gate_design 1 sides) (sym e) below_last ]))
    ]
local_side (suc (suc n)) q lt h = absurd (omega arith)

side_local : (cell x : ℕ) → IsListed x (held cell 0) → IsLocal gate_design cell sides (at x)
side_local zero x (inl e) = subst (λ k. IsLocal gate_design 0 sides (at k)) (sym e) (kept_left, none_below (at 0))
side_local zero x (inr (inl e)) = subst (λ k. IsLocal gate_design 0 sides (at k)) (sym e) (kept_right, none_below (at 2))
side_local zero x (inr (inr n)) = absurd n
side_local (suc zero) x (inl e) = subst (λ k. IsLocal gate_design 1 sides (at k)) (sym e) first_local
side_local (suc zero) x (inr n) = absurd n
side_local (suc (suc n)) x h = absurd h

own_poly : (cell : ℕ) (q : Square) → cell < 2 → IsOwn gate_design cell (key_of 1) q → Held cell 1 q
own_poly zero q lt h = own_column 0 1 q (omega arith) h
own_poly (suc zero) q lt h = own_column 1 1 q (omega arith) h
own_poly (suc (suc n)) q lt h = absurd (omega arith)

poly_own : (cell x : ℕ) → IsListed x (held cell 1) → IsOwn gate_design cell (key_of 1) (at x)
poly_own zero x h = column_own 0 1 x (omega arith) h
poly_own (suc zero) x h = column_own 1 1 x (omega arith) h
poly_own (suc (suc n)) x h = absurd h

nothing : (cell c x : ℕ) → IsListed x (held cell (suc (suc c))) → ⊥
nothing zero c x h = h
nothing (suc zero) c x h = h
nothing (suc (suc n)) c x h = h

-- what a cell itself holds of a conductor
pub local_held : (cell c : ℕ) (q : Square) → cell < 2 → IsLocal gate_design cell (formula gate_wiring c) q → Held cell c q
local_held cell zero q lt h = local_side cell q lt h
local_held cell (suc zero) q lt h = own_poly cell q lt h
local_held cell (suc (suc zero)) q lt h = absurd h
local_held cell (suc (suc (suc c))) q lt h = absurd h

pub held_local : (cell c x : ℕ) → IsListed x (held cell c) → IsLocal gate_design cell (formula gate_wiring c) (at x)
held_local cell zero x h = side_local cell x h
held_local cell (suc zero) x h = poly_own cell x h
held_local cell (suc (suc c)) x h = absurd (nothing cell c x h)

pub kept_parted : (cell c : ℕ) (q : Square) → cell < 2 → IsKept gate_design cell (formula gate_wiring c) q → IsLocal gate_design cell (formula gate_wiring c) q ⊎ IsKeptBelow gate_design cell (formula gate_wiring c) q
kept_parted cell zero q lt h = sides_parted cell q lt h
kept_parted cell (suc zero) q lt h = input_parted gate_design cell (key_of 1) q h.square h.path h.end h.takes h.own
kept_parted cell (suc (suc zero)) q lt h = absurd h
kept_parted cell (suc (suc (suc c))) q lt h = absurd h
