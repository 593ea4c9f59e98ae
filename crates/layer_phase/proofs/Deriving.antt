-- A derived layer of a cell, from what is looked at.
use Rattle.std.proofs.lemmas.Option.{get_or_from_slice_get}
use Rattle.std.proofs.lemmas.Bool.{cases_Bool, eqb-true, and_parts, and_from, or_right}
use Rattle.deep_tables.specs.Zones.{IsAsked}
use Rattle.std.proofs.Common.{◌≡◌, ◌⊎◌, ◌↔◌, inl, inr, ℕ, ◌+◌, ◌≤◌, arith, Bool, true, false, not, ◌&&◌, ◌||◌, ◌==◌, List, [], ◌∷◌, Option, Some, refl, sym, ◌∙◌, ap, subst, slice_get}
use Rattle.geo_base.specs.Motions.{moved_square}
use Rattle.geo_base.specs.declared.layer.LayerKey.{LayerKey}
use Rattle.geo_base.specs.declared.shapes.Rect.{Rect}
use Rattle.geo_base.specs.declared.shapes.Square.{Square}
use Rattle.rect_sets.specs.Rects.{covers, IsCanonical}
use Rattle.flat_layout.specs.Layers.{Formula, Input, Binary, Sized, Empty, inputs, reach, InFlat, IsShut}
use Rattle.flat_layout.specs.Layout as flat
use Rattle.flat_layout.specs.Plane.{IsHeldBy}
use Rattle.flat_layout.specs.Values.{IsLocalLayer}
use Rattle.flat_laws.proofs.Cover.{reached_below}
use Rattle.flat_laws.proofs.Moves.{within_back, within_same}
use Rattle.cell_graph.specs.Linked.{Linked, IsSound, cell_at, hull_of, motion_at, plain}
use Rattle.cell_graph.proofs.Bridge.{hulls, hull_sound, own, step_of}
use Rattle.cell_graph.proofs.Growing.{within_grown}
use Rattle.deep_laws.specs.Layers.{IsDerived, IsFromOpen, IsNearOwn}
use Rattle.flat_laws.proofs.Shut.{shut_both, shut_none}
use Rattle.rule_text.specs.Rules.{Rules}
use Rattle.rule_text.specs.declared.rules.LayerRule.{LayerRule}
use Rattle.rule_text.specs.declared.rules.MosRule.{MosRule}
use Rattle.rule_text.specs.declared.rules.MoreRule.{MoreRule}
use Rattle.rule_layers.specs.Formulas.{formulas, greatest_reach, zone_margin}
use Rattle.rule_layers.specs.Reads.{IsRead}
use Rattle.rule_layers.proofs.Reaching.{reach_in}
use Rattle.deep_tables.specs.declared.zones.CellZones.{CellZones}
use Rattle.deep_tables.specs.Frames.{IsFramedOpen, IsInGrown}
use Rattle.deep_tables.proofs.Framing.{framed_open}
use Rattle.deep_tables.proofs.Reading.{zone_at}
use Rattle.layer_phase.specs.Around.{around}
use Rattle.layer_phase.specs.Bridge.{TellsKept}
use Rattle.layer_phase.specs.Keeps.{IsKeptBy, IsZoneAt}
use Rattle.layer_phase.specs.Looks.{AreReadLooks, IsExposed, IsInput}
use Rattle.layer_phase.specs.Names.{IsFlatIn, IsReady}
use Rattle.layer_phase.specs.Parts.{AreParts}
use Rattle.layer_phase.proofs.Around.{around_none, covered_near, near_covered, rects_of}
use Rattle.layer_phase.proofs.Assembly.{layer}
use Rattle.layer_phase.proofs.Stirring.{calm_around, held_near}
use Rattle.layer_phase.proofs.Flattening.{known, named}
use Rattle.layer_phase.proofs.Telling.{kept}

one_zone : (o : Option (List Rect)) (v w : List Rect) → o ≡ Some v → o ≡ Some w → v ≡ w
one_zone o v w h g = let e : Some v ≡ Some w = sym h ∙ g in cc

-- what the table of disturbed squares tells of a name
tells : (d : Linked) (r : Rules) (z : List (Option CellZones)) (cell name : ℕ) (x : Formula) → IsSound d → IsReady d r z cell → slice_get (formulas r.names) name ≡ Some x → IsAsked r name x → reach x + reach x ≤ zone_margin r.names → TellsKept (zone_margin r.names) d z x cell name
tells d r z cell name x sound ready at asked twice = kept d r z x cell name sound ready.hulls ready.zones ready.reached at asked twice

asked_derived : (r : Rules) (name : ℕ) (x : Formula) → IsDerived x → IsAsked r name x
asked_derived r name (Input key) h = absurd h
asked_derived r name Empty h = absurd h
asked_derived r name (Binary op a b) h = tt
asked_derived r name (Sized by a) h = tt

-- with device rules it still is read
still_read : (names : List LayerRule) (devices : List MosRule) (further : List MoreRule) (k : ℕ) → IsRead names [] [] k → IsRead names devices further k
still_read names devices further k (inl h) = inl h
still_read names devices further k (inr (inl h)) = absurd (let lt = h.at_in in let z : ⊥ = omega arith in z)
still_read names devices further k (inr (inr h)) = absurd (let lt = h.at_in in let z : ⊥ = omega arith in z)

-- an entry of a derived name is the cell's disturbed squares
pub entry_frame : (d : Linked) (r : Rules) (z : List (Option CellZones)) (cell name : ℕ) (x : Formula) (zone : List Rect) → IsReady d r z cell → IsDerived x → slice_get (formulas r.names) name ≡ Some x → IsZoneAt z cell name zone
    → IsFramedOpen (zone_margin r.names) d (inputs x) cell zone
entry_frame d r z cell name x zone ready derived_name at entry =
    let h = zone_at (plain d) r z cell name x ready.zones ready.reached at (asked_derived r name x derived_name) in
    subst (IsFramedOpen (zone_margin r.names) d (inputs x) cell) (one_zone _ h.0 zone h.1 entry) ((framed_open d (inputs x) (zone_margin r.names) cell h.0 (ready.hulls cell ready.reached) h.2.canonical).0 h.2)

margin_twice : (r : Rules) (name : ℕ) (x : Formula) → slice_get (formulas r.names) name ≡ Some x → reach x + reach x ≤ zone_margin r.names
margin_twice r name x at =
    let far : reach x ≤ greatest_reach r.names = subst (λ (t : Formula). reach t ≤ greatest_reach r.names) (get_or_from_slice_get (formulas r.names) name x Empty at) (reach_in r.names name) in
    omega (arith, far)

-- flat squares among those looked at, from those found in the squares round them
pub seen_flats : (d : Linked) (cell : ℕ) (x : Formula) (looks wide flats squares : List Rect) → ((q : Square) → covers wide q ≡ covers (around (reach x) looks) q) → IsFlatIn d cell wide x flats
    → ((q : Square) → covers squares q ≡ (covers flats q && ((reach x == 0) || covers looks q))) → (q : Square) → (covers squares q ≡ true) ↔ ((covers looks q ≡ true) × InFlat (plain d) cell x q)
seen_flats d cell x looks wide flats squares is flat made q = (to, from)
  where
    held : covers looks q ≡ true → IsHeldBy (reach x) (λ (s : Square). covers wide s ≡ true) q
    held e z near = is z ∙ near_covered (reach x) looks z q e near

    inner : (b : Bool) → (reach x == 0) ≡ b → covers flats q ≡ true → (b || covers looks q) ≡ true → covers looks q ≡ true
    inner true none c e =
        let zero_reach : reach x ≡ 0 = eqb-true (reach x) 0 none in
        sym (around_none looks q) ∙ ap (λ (n : ℕ). covers (around n looks) q) (sym zero_reach) ∙ sym (is q) ∙ flat.inside zero_reach q c
    inner false none c e = e

    to : covers squares q ≡ true → (covers looks q ≡ true) × InFlat (plain d) cell x q
    to e =
        let both = sym (made q) ∙ e in
        let c = (and_parts (covers flats q) ((reach x == 0) || covers looks q) both).0 in
        let here = inner (reach x == 0) refl c ((and_parts (covers flats q) ((reach x == 0) || covers looks q) both).1) in
        (here, (flat.right q (held here)).0 c)

    from : (covers looks q ≡ true) × InFlat (plain d) cell x q → covers squares q ≡ true
    from h = made q ∙ and_from (covers flats q) ((reach x == 0) || covers looks q) ((flat.right q (held h.0)).1 h.1) (or_right (reach x == 0) (covers looks q) h.0)

-- what a cell's entry has for an input layer of the names
record InputEntry (d : Linked) (r : Rules) (z : List (Option CellZones)) (names : List LayerRule) (cell : ℕ) (key : LayerKey) : Type 0 where
  name : ℕ
  named : IsInput names name key
  zone : List Rect
  entry : IsZoneAt z cell name zone
  framed : IsFramedOpen (zone_margin r.names) d (key ∷ []) cell zone

module _ (d : Linked) (r : Rules) (z : List (Option CellZones)) (cell name : ℕ) (x : Formula) (looks squares zone calm : List Rect) (sound : IsSound d) (ready : IsReady d r z cell)
    (derived_name : IsDerived x) (at : slice_get (formulas r.names) name ≡ Some x) (seen : AreReadLooks (reach x) d z r.names name cell looks)
    (flat_in : (q : Square) → (covers squares q ≡ true) ↔ ((covers looks q ≡ true) × InFlat (plain d) cell x q))
    (entry : IsZoneAt z cell name zone) (keeps : (q : Square) → covers squares q ≡ true → covers (around (reach x) zone) q ≡ false → (covers calm q ≡ true) ↔ IsKeptBy (reach x) d z cell name q) where
  twice : reach x + reach x ≤ zone_margin r.names
  twice = margin_twice r name x at

  asked : IsAsked r name x
  asked = asked_derived r name x derived_name

  tree_seen : slice_get (formulas seen.seen) name ≡ Some x
  tree_seen = seen.tree x derived_name refl at

  own_seen : (q : Square) → IsNearOwn (plain d) cell x q → covers looks q ≡ true
  own_seen q h =
      let j = known seen.seen name x h.key tree_seen h.listed in
      seen.all.own j.0 h.key j.1 h.square q ((own d sound cell h.key h.square).0 h.own) h.within

  -- the entry of a placed cell for an input layer of the name
  input_entry : (k : ℕ) (p : flat.Place) → flat.IsPlaced (plain d) cell k p → (key : LayerKey) → flat.Some_of (λ j. j ≡ key) (inputs x) → InputEntry d r z seen.seen p.cell key
  input_entry k p placed key listed =
      let j = known seen.seen name x key tree_seen listed in
      let reached = reached_below (plain d) cell k p ready.reached placed in
      let input = seen.inputs j.0 key j.1 in
      let there = zone_at (plain d) r z p.cell j.0 (Input key) ready.zones reached (named r.names j.0 key input.0) (still_read r.names r.devices r.more j.0 input.1) in
      record {
        name = j.0;
        named = j.1;
        zone = there.0;
        entry = there.1;
        framed = (framed_open d (key ∷ []) (zone_margin r.names) p.cell there.0 (ready.hulls p.cell reached) there.2.canonical).0 there.2;
      }

  -- what isn't shut for all of them lies in the entry of one
  one_open : (k : ℕ) (p : flat.Place) (placed : flat.IsPlaced (plain d) cell k p) (s : Square) → IsInGrown (zone_margin r.names) (hull_of (cell_at d p.cell)) s → (keys : List LayerKey)
      → ((key : LayerKey) → flat.Some_of (λ j. j ≡ key) keys → flat.Some_of (λ j. j ≡ key) (inputs x)) → (IsShut (plain d) keys p.cell s → ⊥)
      → (key : LayerKey) × (e : InputEntry d r z seen.seen p.cell key) × (covers e.zone s ≡ true)
  one_open k p placed s held [] grow left = absurd (left (shut_none (plain d).way (plain d) p.cell s))
  one_open k p placed s held (key ∷ keys) grow left =
      let e = input_entry k p placed key (grow key (inl refl)) in
      elim (cases_Bool (covers e.zone s)) [
        | inl c ↦ (key, e, c)
        | inr c ↦ one_open k p placed s held keys (λ j l. grow j (inr l)) (λ shut. left (shut_both (plain d).way (plain d) (key ∷ []) keys p.cell s (e.framed.shut s held c) shut))
      ]

  open_seen : (q : Square) → IsFromOpen (plain d) cell x q → (covers looks q ≡ true) ⊎ (covers (around (reach x) zone) q ≡ true)
  open_seen q h =
      let t = step_of d cell h.number h.place h.placed in
      let n = reach x in
      let e = (tells d r z cell name x sound ready at asked twice).zones h.number h.place h.placed in
      let inner = within_grown n (hull_of (cell_at d h.place.cell)) h.square h.shape (hulls d sound h.place.cell h.key h.shape h.flat) (within_back n h.shape h.square h.within) in
      let is = calm_around n (zone_margin r.names) d (inputs x) h.place.cell e.0 h.square twice e.1 (rects_of e.0 e.2) (hull_sound d h.place.cell sound) inner in
      elim (cases_Bool (covers (around n e.0) h.square)) [
        | inr off ↦ absurd (h.left (is.0 off))
        | inl on ↦
            let near = covered_near n e.0 h.square (rects_of e.0 e.2) on in
            let within = within_back n h.square near.0 near.2 in
            let held = held_near n (zone_margin r.names) d h.place.cell near.0 h.square twice (hull_sound d h.place.cell sound) inner within in
            let one = one_open h.number h.place h.placed near.0 held (inputs x) (λ j l. l) ((e.1.inside near.0 near.1).1) in
            let k = known seen.seen name x h.key tree_seen h.listed in
            let exposed : IsExposed n d z seen.seen h.place.cell h.square =
            record { name = one.1.name; key = one.0; named = one.1.named; zone = one.1.zone; entry = one.1.entry; near = near.0; disturbed = one.2; within = within; other = k.0; flat_key = h.key; flat_named = k.1; shape = h.shape; flat = h.flat; close = h.within } in
            let image : moved_square (motion_at t.from t.row t.column) h.square ≡ q = ap (λ (y : flat.Place). moved_square y.motion h.square) (sym t.is) ∙ h.image in
            let found = seen.all.below t.index t.from t.step.there t.row t.column h.square t.step.row_in t.step.column_in
            (subst (λ (y : flat.Place). IsExposed n d z seen.seen y.cell h.square) t.is exposed) in
            elim found [
              | inl c ↦ inl (subst (λ s. covers looks s ≡ true) image c)
              | inr c ↦
                  let there' : covers seen.all.stirred q ≡ true = subst (λ s. covers seen.all.stirred s ≡ true) image c in
                  let mark = seen.marked x derived_name refl at in
                  inr (near_covered n zone q q (seen.all.for_all name mark.0 mark.1 zone entry q there') (within_same n q))
            ]
      ]

  -- the entry of the table
  zone_here : IsFramedOpen (zone_margin r.names) d (inputs x) cell zone × IsCanonical zone
  zone_here =
      let h = zone_at (plain d) r z cell name x ready.zones ready.reached at asked in
      let frame = (framed_open d (inputs x) (zone_margin r.names) cell h.0 (ready.hulls cell ready.reached) h.2.canonical).0 h.2 in
      subst (λ (v : List Rect). IsFramedOpen (zone_margin r.names) d (inputs x) cell v × IsCanonical v) (one_zone _ h.0 zone h.1 entry) (frame, h.2.canonical)

  parts : AreParts d x cell looks squares (around (reach x) zone) calm
  parts = record {
    own = own_seen;
    stirred = open_seen;
    flats = flat_in;
    zones = λ q inner. calm_around (reach x) (zone_margin r.names) d (inputs x) cell zone q twice zone_here.0 (rects_of zone zone_here.1) (hull_sound d cell sound) inner;
    calms = λ q f e. let k = (tells d r z cell name x sound ready at asked twice).kept q in ((λ c. k.0 ((keeps q f e).0 c)), (λ h. (keeps q f e).1 (k.1 h)));
  }

  pub derived : (local : List Rect) → IsCanonical local → ((q : Square) → covers local q ≡ ((covers squares q && not (covers (around (reach x) zone) q)) && not (covers calm q))) → IsLocalLayer (plain d) x cell local
  derived local canonical made =
      layer (zone_margin r.names) d x cell looks squares (around (reach x) zone) calm local derived_name twice sound ready.reached (tells d r z cell name x sound ready at asked twice).zones parts canonical made
