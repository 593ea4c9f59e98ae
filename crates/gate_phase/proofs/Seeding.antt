-- Seeds are among what was pushed.
use Rattle.std.proofs.Common.{◌≡◌, ◌⊎◌, ◌↔◌, inl, inr, ℕ, ◌<◌, ◌≤◌, ◌+◌, Bool, true, false, ◌&&◌, ◌||◌, ◌++◌, List, Option, Some, None, slice_get, get_or, length, refl, sym, ◌∙◌, ap, subst, arith}
use Rattle.std.specs.Prelude.{IsSome}
use Rattle.std.proofs.lemmas.Bool.{and_from, and_parts, cases_Bool, or_cases, or_left, or_right}
use Rattle.std.proofs.lemmas.Option.{slice_get_within}
use Rattle.geo_base.specs.Motions.{moved_square}
use Rattle.geo_base.specs.Rects.{has, moved_rect}
use Rattle.geo_base.specs.declared.layer.LayerKey.{LayerKey}
use Rattle.geo_base.specs.declared.shapes.Rect.{Rect}
use Rattle.geo_base.specs.declared.shapes.Square.{Square}
use Rattle.geo_base.proofs.Spans.{moved_rect-has}
use Rattle.rect_sets.specs.Rects.{covers}
use Rattle.flat_layout.specs.Arrays.{place_at}
use Rattle.flat_layout.specs.Gates.{Geometry, Rule, gate_inputs, gate_reach, geometry}
use Rattle.flat_layout.specs.Layers.{Empty, Formula, InFlat, IsLone, IsShut, IsShutBy, inputs, reach}
use Rattle.flat_layout.specs.Layout as flat
use Rattle.flat_layout.specs.Layout.{IsPlaced, IsReached, Some_of}
use Rattle.flat_layout.specs.declared.way.Way.{Way}
use Rattle.flat_layout.specs.declared.way.Way.TheVariants.{Disturbed, Covered}
use Rattle.flat_laws.specs.SeedLaws.{AreLeft, IsNearOpen, IsTabledSeed}
use Rattle.flat_layout.specs.Plane.{AreWithin, IsAround, IsReachedBy}
use Rattle.gate_shapes.specs.Sets.{in_set}
use Rattle.flat_layout.specs.Regions.{formula}
use Rattle.flat_layout.specs.Seeds.{IsInReach, IsNearSeed, IsOwnSeed, IsPlacedSeed, IsSeed}
use Rattle.flat_laws.proofs.Cover.{reached_below}
use Rattle.flat_laws.proofs.Moves.{within_back}
use Rattle.flat_laws.proofs.Names.{near_input}
use Rattle.cell_graph.specs.declared.cells.Place.{Place}
use Rattle.cell_graph.specs.Linked.{Linked, IsSound, IsStep, HullHas, HullIsSound, hull_of, cell_at, places_at, motion_at, plain, reference}
use Rattle.cell_graph.proofs.Growing.{grown_frame, wider_grown, within_grown}
use Rattle.cell_graph.proofs.Bridge.{own, hulls, hull_sound, inside_has, placed_of, reference_at, step_of}
use Rattle.cell_context.specs.Arrays.{IsCloseArray}
use Rattle.cell_context.proofs.Collecting.{close_array}
use Rattle.cell_context.proofs.Reaching.{element_within}
use Rattle.rule_text.specs.Rules.{Rules}
use Rattle.rule_text.specs.Sound as rules
use Rattle.rule_layers.specs.Formulas.{formulas, zone_margin}
use Rattle.rule_layers.proofs.Reaching.{near as names_near}
use Rattle.gate_phase.proofs.Reaching.{rule_margin}
use Rattle.rule_layers.specs.Meaning.{device_rules, wiring_of}
use Rattle.deep_tables.specs.declared.zones.CellZones.{CellZones}
use Rattle.deep_tables.specs.Frames.{IsFramedOpen, IsInGrown, grown}
use Rattle.deep_tables.specs.Entries.{entry}
use Rattle.deep_tables.specs.Zones.{AreCellZones, AreZones, lone_by, lone_entry, lone_of, zone_of}
use Rattle.deep_tables.specs.declared.zones.CoveredZones.{CoveredZones}
use Rattle.deep_tables.specs.declared.zones.ZoneKey.TheVariants as kind
use Rattle.deep_tables.proofs.Framing.{framed_open, in_hull}
use Rattle.deep_tables.proofs.Reading.{device_zone_at, some_and}
use Rattle.gate_search.specs.SearchLaws.{HoldSeeds}
use Rattle.gate_phase.specs.Close.{AreOpen, HasOpenBelow}
use Rattle.gate_phase.specs.Kept.{HoldsNear}
use Rattle.gate_phase.specs.Devices.{IsDevice, IsKnownDevice, layer_in, region_of}
use Rattle.gate_phase.specs.Reads.{AreRead, device_keys}
use Rattle.gate_phase.specs.Seeding.{BringsLone, BringsOpen, BringsOwn}
use Rattle.gate_phase.specs.declared.device.Device.{Device}

-- a device rule reads what its names do
pub keys_same : (r : Rules) (x : Device) (u : Rule) → IsKnownDevice r x → IsDevice (formulas r.names) x u → device_keys (formulas r.names) x ≡ gate_inputs (wiring_of r) u
keys_same r x u k d =
    let f = formulas r.names in let w = wiring_of r in
    let ts : formula w u.ts ≡ get_or f x.ts Empty = ap (λ c. formula w c) d.ts ∙ k.ts.read in
    let tg : formula w u.tg ≡ get_or f x.tg Empty = ap (λ c. formula w c) d.tg ∙ k.tg.read in
    let tb : formula w u.tb ≡ get_or f x.tb Empty = ap (λ c. formula w c) d.tb ∙ k.tb.read in
    let five = ap (λ y. inputs y ++ inputs (formula w u.tb)) tg ∙ ap (λ y. inputs (get_or f x.tg Empty) ++ inputs y) tb in
    let four = ap (λ y. inputs y ++ (inputs (formula w u.tg) ++ inputs (formula w u.tb))) ts ∙ ap (λ l. inputs (get_or f x.ts Empty) ++ l) five in
    let three = ap (λ y. inputs y ++ (inputs (formula w u.ts) ++ (inputs (formula w u.tg) ++ inputs (formula w u.tb)))) d.well ∙ ap (λ l. inputs (layer_in f x.well) ++ l) four in
    let two = ap (λ y. inputs y ++ (inputs u.well ++ (inputs (formula w u.ts) ++ (inputs (formula w u.tg) ++ inputs (formula w u.tb))))) d.region ∙ ap (λ l. inputs (region_of f x.region) ++ l) three in
    let one = ap (λ y. inputs y ++ (inputs u.gate ++ (inputs u.well ++ (inputs (formula w u.ts) ++ (inputs (formula w u.tg) ++ inputs (formula w u.tb)))))) d.ends ∙ ap (λ l. inputs (layer_in f x.ends) ++ l) two in
    sym one

-- around a square of a hull lies the grown hull
pub around_grown : (o : Option Rect) (a q : Square) → HullHas o a → IsAround a q → IsInGrown 1 o q
around_grown o a q h near = within_grown 1 o q a h (within_back 1 a q near)

-- what is in reach of a cell lies in its grown hull
pub reach_grown : (d : Linked) (keys : List LayerKey) (n cell : ℕ) (q : Square) → IsSound d → IsInReach (plain d) keys n cell q → IsInGrown n (hull_of (cell_at d cell)) q
reach_grown d keys n cell q sound h = within_grown n (hull_of (cell_at d cell)) q h.square (hulls d sound cell h.key h.square h.flat) (within_back n h.square q h.within)

-- a flat square of a name lies in the hull, grown by the name's reach
pub flat_grown : (d : Linked) (x : Formula) (cell : ℕ) (q : Square) → IsSound d → InFlat (plain d) cell x q → IsInGrown (reach x) (hull_of (cell_at d cell)) q
flat_grown d x cell q sound h =
    let u = near_input (plain d) cell x q h in
    within_grown (reach x) (hull_of (cell_at d cell)) q u.2 (hulls d sound cell u.0 u.2 u.4) (within_back (reach x) u.2 q u.3)

-- the entry of a reached cell
pub record IsOpenZone (margin : ℕ) (d : Linked) (keys : List LayerKey) (z : List (Option CellZones)) (cell device : ℕ) : Type 0 where
  pub zone : List Rect
  pub is : AreOpen z cell device zone
  pub framed : IsFramedOpen margin d keys cell zone

pub open_at : (d : Linked) (r : Rules) (z : List (Option CellZones)) (cell device : ℕ) (u : Rule) → IsSound d → AreZones (plain d) r z → IsReached (plain d) cell → slice_get (device_rules r) device ≡ Some u
    → IsOpenZone (zone_margin r.names) d (gate_inputs (wiring_of r) u) z cell device
open_at d r z cell device u sound right reached at =
    let h = device_zone_at (plain d) r z cell device u right reached at in
    let frame = (framed_open d (gate_inputs (wiring_of r) u) (zone_margin r.names) cell h.0 (sound.hulls.each cell) h.2.canonical).0 h.2 in
    record { zone = h.0; is = h.1; framed = frame }

pub reached_step : (d : Linked) (cell i row column : ℕ) (p : Place) → IsReached (plain d) cell → IsStep d cell i row column p → IsReached (plain d) p.cell
reached_step d cell i row column p reached step = reached_below (plain d) cell _ (place_at (reference p) row column) reached (placed_of d cell i row column p step)

-- an element takes a grown hull into the plane
moved_in : (n : ℕ) (o : Option Rect) (p : Place) (row column : ℕ) (s : Square) (plane : Rect) → n ≤ 20001 → HullIsSound o → HoldsNear plane → IsCloseArray p → row < p.rows → column < p.columns → IsInGrown n o s
    → has plane (moved_square (motion_at p row column) s) ≡ true
moved_in n None p row column s plane most sound all near a b h = absurd h
moved_in n (Some g) p row column s plane most sound all near a b h =
    let m = motion_at p row column in
    let frame = grown_frame n g most sound in
    inside_has (moved_rect m (grown n g)) plane (moved_square m s) (all (moved_rect m (grown n g)) (element_within p row column (grown n g) near a b frame.near))
    (moved_rect-has m (grown n g) s frame.some ∙ h)

-- in the hull, grown by so many
abbrev in_frame : ℕ → Option Rect → Square → Bool
in_frame n None q = false
in_frame n (Some h) q = has (grown n h) q

frame_from : (n : ℕ) (o : Option Rect) (q : Square) → in_frame n o q ≡ true → IsInGrown n o q
frame_from n None q e = let f : false ≡ true = e in let z : ⊥ = cc in z
frame_from n (Some h) q e = e

frame_has : (n : ℕ) (o : Option Rect) (q : Square) → IsInGrown n o q → in_frame n o q ≡ true
frame_has n None q h = absurd h
frame_has n (Some r) q h = h

-- a set that is there has the square
abbrev any_covers : Option (List Rect) → Square → Bool
any_covers None q = false
any_covers (Some set) q = covers set q

any_has : (o : Option (List Rect)) (q : Square) → any_covers o q ≡ true → (set : List Rect) × (o ≡ Some set) × (covers set q ≡ true)
any_has None q e = let f : false ≡ true = e in absurd (let z : ⊥ = cc in z)
any_has (Some set) q e = (set, refl, e)

any_from : (o : Option (List Rect)) (set : List Rect) (q : Square) → o ≡ Some set → covers set q ≡ true → any_covers o q ≡ true
any_from o set q is e = ap (λ x. any_covers x q) is ∙ e

-- each way is one of the two
pub way_is : (v : Way) → (v ≡ Disturbed) ⊎ (v ≡ Covered)
way_is Disturbed = inl refl
way_is Covered = inr refl

-- what others may make, where the cell keeps what it covers
pub record IsLoneSet (d : Linked) (r : Rules) (u : Rule) (z : List (Option CellZones)) (cell device : ℕ) : Type 0 where
  pub set : List Rect
  pub is : lone_of z cell device ≡ Some set
  pub each : (q : Square) → IsInGrown (gate_reach (wiring_of r) u + 1) (hull_of (cell_at d cell)) q → (covers set q ≡ true) ↔ IsLone (plain d) cell u.gate q

pub lone_at : (d : Linked) (r : Rules) (z : List (Option CellZones)) (cell device : ℕ) (u : Rule) → IsSound d → AreZones (plain d) r z → IsReached (plain d) cell → slice_get (device_rules r) device ≡ Some u → (plain d).way ≡ Covered
    → IsLoneSet d r u z cell device
lone_at d r z cell device u sound right reached at covered =
    let v = some_and (AreCellZones (plain d) r cell) (entry z cell) (right cell reached) in
    let l = v.2.lone device u at covered in
    record {
      set = l.0;
      is = ap (λ o. lone_entry o device) v.1 ∙ l.1;
      each = λ q inside. l.2.each q ((in_hull (plain d) (gate_reach (wiring_of r) u + 1) cell (hull_of (cell_at d cell)) q (sound.hulls.each cell)).1 inside);
    }

-- where that is told the cell keeps what it covers
lone_some : (o : Option CoveredZones) (rule : ℕ) (set : List Rect) → lone_by o rule ≡ Some set → IsSome o
lone_some None rule set e = let z : ⊥ = cc in absurd z
lone_some (Some c) rule set e = refl

pub lone_way : (d : Linked) (r : Rules) (z : List (Option CellZones)) (cell device : ℕ) → AreZones (plain d) r z → IsReached (plain d) cell → (set : List Rect) → lone_of z cell device ≡ Some set → (plain d).way ≡ Covered
lone_way d r z cell device right reached set is =
    let v = some_and (AreCellZones (plain d) r cell) (entry z cell) (right cell reached) in
    v.2.covered.0 (lone_some v.0.covered device set (sym (ap (λ o. lone_entry o device) v.1) ∙ is))

module _ (d : Linked) (r : Rules) (z : List (Option CellZones)) (cell device : ℕ) (x : Device) (u : Rule) (sound : IsSound d) (ruled : rules.IsSound r) (known : IsKnownDevice r x) (of : IsDevice (formulas r.names) x u) (right : AreZones (plain d) r z) (reached : IsReached (plain d) cell) (at : slice_get (device_rules r) device ≡ Some u)
    (plane : Rect) (all : HoldsNear plane) (marks : List Bool) (read : AreRead r.names x marks) (old out : List Rect)
    (n : ℕ) (is : gate_reach (wiring_of r) u ≡ n)
    (brings : (i : ℕ) (p : Place) → slice_get (places_at (cell_at d cell)) i ≡ Some p → BringsOpen ((n + 1) + n) d z device p plane old × BringsLone ((n + 1) + n) d z device p plane old)
    (grows : (q : Square) → covers old q ≡ true → covers out q ≡ true)
    (mine : BringsOwn d cell r.names marks (length r.names) out) where
  abbrev g : Geometry
  g = geometry (wiring_of r) u

  abbrev K : List LayerKey
  K = gate_inputs (wiring_of r) u

  abbrev N : ℕ
  N = gate_reach (wiring_of r) u

  own_there : (q : Square) → IsOwnSeed (plain d) K cell q → covers out q ≡ true
  own_there q h =
      let i = read h.key (subst (λ ks. Some_of (λ k. k ≡ h.key) ks) (sym (keys_same r x u known of)) h.listed) in
      mine i.0 h.key (slice_get_within r.names i.0 i.1.0 i.1.1) i.1 q ((own d sound cell h.key q).0 h.own)

  -- the image of what a placed cell leaves, or others may make there, near its shapes
  brought : (k : ℕ) (p : flat.Place) (s q : Square) → IsPlaced (plain d) cell k p → IsInGrown ((N + 1) + N) (hull_of (cell_at d p.cell)) s
      → (any_covers (zone_of z p.cell (kind.Device device)) s ≡ true) ⊎ (any_covers (lone_of z p.cell device) s ≡ true) → moved_square p.motion s ≡ q → covers out q ≡ true
  brought k p s q placed wide has image =
      let t = step_of d cell k p placed in
      let here : IsInGrown ((N + 1) + N) (hull_of (cell_at d t.from.cell)) s = subst (λ (y : flat.Place). IsInGrown ((N + 1) + N) (hull_of (cell_at d y.cell)) s) t.is wide in
      let inside : IsInGrown ((n + 1) + n) (hull_of (cell_at d t.from.cell)) s = subst (λ m. IsInGrown ((m + 1) + m) (hull_of (cell_at d t.from.cell)) s) is here in
      let margin = rule_margin r device u at in let limit = names_near r ruled in
      let met = moved_in ((N + 1) + N) (hull_of (cell_at d t.from.cell)) t.from t.row t.column s plane (omega (arith, margin, limit)) (hull_sound d t.from.cell sound) all (close_array d cell t.index t.from sound t.step.there) t.step.row_in t.step.column_in here in
      let there : covers old (moved_square (motion_at t.from t.row t.column) s) ≡ true = elim has [
        | inl e ↦
            let zone = any_has (zone_of z t.from.cell (kind.Device device)) s (subst (λ (y : flat.Place). any_covers (zone_of z y.cell (kind.Device device)) s ≡ true) t.is e) in
            (brings t.index t.from t.step.there).0 zone.0 t.row t.column s zone.1 t.step.row_in t.step.column_in inside zone.2 met
        | inr e ↦
            let set = any_has (lone_of z t.from.cell device) s (subst (λ (y : flat.Place). any_covers (lone_of z y.cell device) s ≡ true) t.is e) in
            (brings t.index t.from t.step.there).1 set.0 t.row t.column s set.1 t.step.row_in t.step.column_in inside set.2 met
      ] in
      let back : moved_square (motion_at t.from t.row t.column) s ≡ q = ap (λ (y : flat.Place). moved_square y.motion s) (sym t.is) ∙ image in
      grows q (subst (λ y. covers old y ≡ true) back there)

  entry_below : (k : ℕ) (p : flat.Place) → IsPlaced (plain d) cell k p → IsOpenZone (zone_margin r.names) d K z p.cell device
  entry_below k p placed = open_at d r z p.cell device u sound right (reached_below (plain d) cell k p reached placed) at

  -- near the shapes of a placed cell its entry tells what is shut
  left_or_shut : (k : ℕ) (p : flat.Place) (s : Square) → IsPlaced (plain d) cell k p → IsInGrown ((N + 1) + N) (hull_of (cell_at d p.cell)) s
      → (any_covers (zone_of z p.cell (kind.Device device)) s ≡ true) ⊎ IsShut (plain d) K p.cell s
  left_or_shut k p s placed wide =
      let e = entry_below k p placed in
      elim (cases_Bool (covers e.zone s)) [
        | inl on ↦ inl (any_from (zone_of z p.cell (kind.Device device)) e.zone s e.is on)
        | inr off ↦ inr (e.framed.shut s (wider_grown ((N + 1) + N) (zone_margin r.names) (hull_of (cell_at d p.cell)) s (rule_margin r device u at) wide) off)
      ]

  -- where each square is left that something lies over: near each square near which there is a seed
  -- there is one of these
  placed_there : (plain d).way ≡ Disturbed → (q : Square) → IsPlacedSeed (plain d) g cell q → covers out q ≡ true
  placed_there way q h =
      let wide = reach_grown d K ((N + 1) + N) h.place.cell h.square sound h.reach in
      elim (left_or_shut h.number h.place h.square h.placed wide) [
        | inl e ↦ brought h.number h.place h.square q h.placed wide (inl e) h.image
        | inr shut ↦ absurd (subst (λ v. IsShutBy v (plain d) K h.place.cell h.square) way shut h.disturbed)
      ]

  seed_there : (plain d).way ≡ Disturbed → (q : Square) → IsSeed (plain d) g cell q → covers out q ≡ true
  seed_there way q (inl h) = own_there q h
  seed_there way q (inr h) = placed_there way q h

  near_there : (plain d).way ≡ Disturbed → (q : Square) → IsNearSeed (plain d) g cell q → IsReachedBy n (in_set out) q
  near_there way q h = record { square = h.square; within = subst (λ m. AreWithin m h.square q) is h.within; has = seed_there way h.square h.seed }

  -- where the cells keep what they cover: what the tables have near a placed cell's shapes
  abbrev left_by : ℕ → Square → Bool
  left_by c q = in_frame ((N + 1) + N) (hull_of (cell_at d c)) q && (any_covers (zone_of z c (kind.Device device)) q || any_covers (lone_of z c device) q)

  left_near : (c : ℕ) (q : Square) → IsInGrown ((N + 1) + N) (hull_of (cell_at d c)) q → (any_covers (zone_of z c (kind.Device device)) q ≡ true) ⊎ (any_covers (lone_of z c device) q ≡ true) → left_by c q ≡ true
  left_near c q wide (inl e) = and_from (in_frame ((N + 1) + N) (hull_of (cell_at d c)) q) _ (frame_has ((N + 1) + N) (hull_of (cell_at d c)) q wide) (or_left (any_covers (zone_of z c (kind.Device device)) q) (any_covers (lone_of z c device) q) e)
  left_near c q wide (inr e) = and_from (in_frame ((N + 1) + N) (hull_of (cell_at d c)) q) _ (frame_has ((N + 1) + N) (hull_of (cell_at d c)) q wide) (or_right (any_covers (zone_of z c (kind.Device device)) q) (any_covers (lone_of z c device) q) e)

  are_left : (plain d).way ≡ Covered → AreLeft (plain d) g cell left_by
  are_left way = record {
    shut = λ k p q placed near not.
        let wide = reach_grown d K ((N + 1) + N) p.cell q sound near in
        elim (left_or_shut k p q placed wide) [
          | inl e ↦ absurd (not (left_near p.cell q wide (inl e)))
          | inr shut ↦ shut
        ];
    lone = λ k p q placed near not made.
        let o = hull_of (cell_at d p.cell) in
        let set = lone_at d r z p.cell device u sound right (reached_below (plain d) cell k p reached placed) at way in
        let close = reach_grown d K N p.cell q sound near in
        let has = (set.each q (wider_grown N (N + 1) o q (omega arith) close)).1 made in
        not (left_near p.cell q (wider_grown N ((N + 1) + N) o q (omega arith) close) (inr (any_from (lone_of z p.cell device) set.set q set.is has)));
  }

  tabled_there : (q : Square) → IsTabledSeed (plain d) left_by cell q → covers out q ≡ true
  tabled_there q h =
      let c = h.place.cell in let s = h.square in
      let zone = any_covers (zone_of z c (kind.Device device)) s in let others = any_covers (lone_of z c device) s in
      let both = and_parts (in_frame ((N + 1) + N) (hull_of (cell_at d c)) s) (zone || others) h.has in
      brought h.number h.place s q h.placed (frame_from ((N + 1) + N) (hull_of (cell_at d c)) s both.0) (or_cases zone others both.1) h.image

  open_seed : (q : Square) → IsOwnSeed (plain d) K cell q ⊎ IsTabledSeed (plain d) left_by cell q → covers out q ≡ true
  open_seed q (inl h) = own_there q h
  open_seed q (inr h) = tabled_there q h

  open_there : (q : Square) → IsNearOpen (plain d) g left_by cell q → IsReachedBy n (in_set out) q
  open_there q h = record { square = h.square; within = subst (λ m. AreWithin m h.square q) is h.within; has = open_seed h.square h.seed }

  -- so what has all within reach of these holds the seeds
  pub seeds_held : (starts : List Rect) → ((q : Square) → IsReachedBy n (in_set out) q → in_set starts q) → HoldSeeds (plain d) g cell starts
  seeds_held starts has = elim (way_is (plain d).way) [
    | inl way ↦ inl (λ q h. has q (near_there way q h))
    | inr way ↦ inr (left_by, are_left way, λ q h. has q (open_there q h))
  ]

-- all placed cells have entries
pub open_below : (d : Linked) (r : Rules) (z : List (Option CellZones)) (cell device : ℕ) (u : Rule) → IsSound d → AreZones (plain d) r z → IsReached (plain d) cell → slice_get (device_rules r) device ≡ Some u → HasOpenBelow d z cell device
open_below d r z cell device u sound right reached at i p there =
    let ref = (reference_at d cell i p sound there).2 in
    let e = open_at d r z p.cell device u sound right (reached_step d cell i 0 0 p reached (record { there = there; row_in = ref.rows; column_in = ref.columns })) at in
    (e.zone, e.is)
