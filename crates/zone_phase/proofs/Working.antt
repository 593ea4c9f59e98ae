-- A cell's entry, from what was found for its names and device rules.
use Rattle.std.proofs.Common.{◌≡◌, ◌⊎◌, inl, inr, ℕ, zero, suc, ◌+◌, ◌<◌, ◌-◌, ◌++◌, List, [], ◌∷◌, map, max, ◌≤◌, append_assoc, length-append, true, Some, ap, refl, sym, ◌∙◌, subst, arith, length, get_or, slice_get, slice_index, IsSome, IsSomeAnd, Option, None}
use Rattle.std.specs.List.{All}
use Rattle.std.proofs.Math.Nat.{le-max_left, le-max_right, le_trans}
use Rattle.std.proofs.lemmas.Bool.{false≢true}
use Rattle.std.proofs.lemmas.List.{append-nil, length-map}
use Rattle.plain_netlist.specs.Lists.{IsListed}
use Rattle.std.proofs.lemmas.Option.{slice_get_within, slice_get-get_or, get_or_from_slice_get}
use Rattle.geo_base.specs.declared.layer.LayerKey.{LayerKey}
use Rattle.geo_base.specs.declared.layer.Op.TheVariants.{And}
use Rattle.geo_base.specs.declared.shapes.Rect.{Rect}
use Rattle.rect_sets.specs.Rects.{IsCanonical}
use Rattle.flat_layout.specs.Gates.{Rule, gate_inputs, gate_reach}
use Rattle.flat_layout.specs.Hull.{IsHullOf}
use Rattle.flat_layout.specs.Layers.{Formula, Input, Empty, Binary, Sized, inputs, reach}
use Rattle.flat_layout.specs.Layout.{IsReached, Some_of}
use Rattle.flat_layout.specs.Values.{IsZone, IsOpenZone}
use Rattle.flat_layout.specs.declared.way.Way.TheVariants.{Disturbed, Covered}
use Rattle.flat_laws.proofs.Names.{more_left, more_right}
use Rattle.flat_laws.proofs.Shut.{shut_fewer}
use Rattle.flat_layout.specs.Regions.{formula}
use Rattle.cell_graph.specs.Linked.{Linked, IsSound, plain, cell_at, hull_of, places_at}
use Rattle.rule_text.specs.Rules.{Rules}
use Rattle.rule_text.specs.Sound as rules
use Rattle.rule_text.specs.declared.rules.LayerRule.{LayerRule}
use Rattle.rule_text.specs.declared.rules.MosRule.{MosRule}
use Rattle.rule_text.specs.declared.rules.MoreRule.{MoreRule}
use Rattle.rule_text.specs.declared.rules.MoreRule.TheVariants as more
use Rattle.rule_text.specs.Reading.{is_conductor}
use Rattle.rule_layers.specs.Meaning.{device_rule, device_rules, more_rule, wiring_of}
use Rattle.rule_layers.specs.Formulas.{formulas, zone_margin}
use Rattle.rule_layers.specs.Reads.{AreRead, IsRead, ReadsFurther, ReadsLayer}
use Rattle.rule_layers.proofs.Reaching.{gate_reaches, near, reach_in}
use Rattle.rule_layers.proofs.Unread.{derived_tree, read_tree, same_count, seen_reach, sized_tree}
use Rattle.rule_layers.proofs.Wired.{conductors, terminals}
use Rattle.deep_tables.specs.declared.zones.CellZones.{CellZones}
use Rattle.deep_tables.specs.Entries.{downward_cell}
use Rattle.deep_tables.specs.declared.zones.CoveredZones.{CoveredZones}
use Rattle.deep_tables.specs.Frames.{HasHulls, IsFramedOpen}
use Rattle.deep_tables.specs.Zones.{AreCellZones, HasInput, HasInputs, HasName, IsAsked, disturbed_by, disturbed_in, lone_by}
use Rattle.deep_tables.proofs.Framing.{framed, framed_open}
use Rattle.deep_laws.proofs.Opens.{open_zone}
use Rattle.zone_phase.specs.declared.uses.Use.{Use}
use Rattle.job_graph.specs.Graph.{Waits}
use Rattle.zone_phase.specs.Graph.{AreParentJobs}
use Rattle.zone_phase.specs.Jobs.{IsEntry}
use Rattle.zone_phase.specs.Lone.{device_regions, further_region, mos_region}
use Rattle.zone_phase.specs.Names.{AreDeviceOpens, AreInputOpens, AreInputZones, device_names, further_names, mos_names, names_inputs}
use Rattle.zone_phase.specs.Phase.{AreCoveredOf, AreLeft, HasSets}
use Rattle.zone_phase.proofs.Naming.{canonical_at, set_canonical}
use Rattle.zone_phase.specs.Uses.{AreUses, AreUsesOf, HasUse, uses_of}

-- the references to one cell come from all reached cells
pub uses_at : (d : Linked) (lists : List (List Use)) (cell : ℕ) → IsSound d → AreUses d lists → AreUsesOf d cell (uses_of lists cell)
uses_at d lists cell sound h = record {
  each = h.each cell;
  all = λ parent i p reached there here.
      let k = sound.order.all parent reached in
      let n = length d.order in
      let lt = k.1 in
      let back : n - 1 - (n - 1 - k.0) ≡ k.0 = omega arith in
      let at : downward_cell d (n - 1 - k.0) ≡ parent = ap (slice_index d.order) back ∙ k.2 in
      (n - 1 - k.0, at, subst (λ c. HasUse (uses_of lists c) (n - 1 - k.0) i) here (h.all (n - 1 - k.0) i p (omega arith) (subst (λ c. slice_get (places_at (cell_at d c)) i ≡ Some p) (sym at) there)));
}

-- what holds of the jobs that a job waits for holds of those of the references to its cell
pub waited : (d : Linked) (lists : List (List Use)) (graph : List (List ℕ)) (job : ℕ) (P : ℕ → Type 0) → AreUses d lists → AreParentJobs d graph → job < length graph → ((i : ℕ) → Waits graph job i → P i)
    → (k : ℕ) (u : Use) → slice_get (uses_of lists (downward_cell d job)) k ≡ Some u → P u.job
waited d lists graph job P uses jobs lt f k u at =
    let is = uses.each (downward_cell d job) k u at in
    let n = jobs.jobs in
    f u.job ((jobs.waits job u.job (omega arith)).1 (is.job_in, (u.index, is.place, is.there, is.here)))

-- a right entry has the squares of each input layer that is read
has_name : (n name : ℕ) (v : CellZones) → length v.layers.items ≡ n → HasInputs n v.covered → name < n → HasName name v
has_name n name v count all lt = (omega (arith, count, lt), by v.covered all)
  where
    by : (o : Option CoveredZones) → HasInputs n o → HasInput name o
    by None h = tt
    by (Some c) h = omega (arith, h, lt)

pub entry_of : (d : Linked) (r : Rules) (cell name : ℕ) (key : LayerKey) (v : CellZones) → HasHulls d → IsReached (plain d) cell → slice_get (formulas r.names) name ≡ Some (Input key) → IsRead r.names r.devices r.more name
    → AreCellZones (plain d) r cell v → IsEntry (zone_margin r.names) d key name cell v
entry_of d r cell name key v hulls reached at read h =
    let is = h.disturbed name key at read in (
      has_name (length (formulas r.names)) name v h.names h.inputs (slice_get_within (formulas r.names) name (Input key) at),
      (framed d (key ∷ []) (zone_margin r.names) cell (disturbed_in v name) (hulls cell reached) is.canonical).0 is,
    )

pub some_more : {A : Type 0} (P Q : A → Type 0) (o : Option A) → ((x : A) → P x → Q x) → IsSomeAnd o P → IsSomeAnd o Q
some_more P Q None f h = h
some_more P Q (Some x) f h = f x h

-- a name that is asked has one tree over the names, and over them as they are seen
asked_tree : (r : Rules) (read : List LayerRule) (i : ℕ) (x : Formula) → AreRead r.names r.devices r.more read → get_or (formulas r.names) i Empty ≡ x → IsAsked r i x → get_or (formulas r.names) i Empty ≡ get_or (formulas read) i Empty
asked_tree r read i (Input key) are e asked = read_tree r.names r.devices r.more read i are asked
asked_tree r read i Empty are e asked = read_tree r.names r.devices r.more read i are asked
asked_tree r read i (Binary op a b) are e asked = derived_tree r.names r.devices r.more read i op a b are e
asked_tree r read i (Sized by a) are e asked = sized_tree r.names r.devices r.more read i by a are e

-- ---- device rules by place

module _ {A B R N : Type 0} (f : A → R) (g : B → R) (p : A → N) (q : B → N) where
  one_some : {X : Type 0} (x y : X) → Some x ≡ Some y → x ≡ y
  one_some x y e = cc

  none_some : {X : Type 0} (x : X) → None ≡ Some x → ⊥
  none_some x e = cc

  of_second : (es : List B) (i : ℕ) (u : R) → slice_get (map g es) i ≡ Some u → (b : B) × (slice_get es i ≡ Some b) × (slice_get (map q es) i ≡ Some (q b)) × (g b ≡ u)
  of_second [] i u e = absurd (none_some u e)
  of_second (b ∷ es) zero u e = (b, refl, refl, one_some (g b) u e)
  of_second (b ∷ es) (suc i) u e = of_second es i u e

  -- an item of two lists one after the other, and what stands there in two like them
  of_both : (ds : List A) (es : List B) (i : ℕ) (u : R) → slice_get (map f ds ++ map g es) i ≡ Some u
      → ((a : A) × (slice_get ds i ≡ Some a) × (slice_get (map p ds ++ map q es) i ≡ Some (p a)) × (f a ≡ u))
      ⊎ ((k : ℕ) × (b : B) × (slice_get es k ≡ Some b) × (slice_get (map p ds ++ map q es) i ≡ Some (q b)) × (g b ≡ u))
  of_both [] es i u e = let s = of_second es i u e in inr (i, s.0, s.1, s.2, s.3)
  of_both (a ∷ ds) es zero u e = inl (a, refl, refl, one_some (f a) u e)
  of_both (a ∷ ds) es (suc i) u e = of_both ds es i u e

-- ---- what the layers of a rule read

abbrev Within : List LayerKey → List LayerKey → Type 0
Within xs ys = (key : LayerKey) → Some_of (λ k. k ≡ key) xs → Some_of (λ k. k ≡ key) ys

some_split : (P : LayerKey → Type 0) (xs ys : List LayerKey) → Some_of P (xs ++ ys) → Some_of P xs ⊎ Some_of P ys
some_split P [] ys h = inr h
some_split P (x ∷ xs) ys (inl h) = inl (inl h)
some_split P (x ∷ xs) ys (inr h) = elim (some_split P xs ys h) [ inl a ↦ inl (inr a) | inr b ↦ inr b ]

behind : (xs ys zs : List LayerKey) → Within ys zs → Within (xs ++ ys) (xs ++ zs)
behind xs ys zs h key i = elim (some_split (λ k. k ≡ key) xs ys i) [
  | inl a ↦ more_left (λ k. k ≡ key) xs zs a
  | inr b ↦ more_right (λ k. k ≡ key) xs zs (h key b)
]

twice : (xs : List LayerKey) → Within (xs ++ []) (xs ++ xs)
twice xs key i = elim (some_split (λ k. k ≡ key) xs [] i) [ inl a ↦ more_left (λ k. k ≡ key) xs xs a | inr b ↦ absurd b ]

once : (xs : List LayerKey) → Within (xs ++ xs) (xs ++ [])
once xs key i = elim (some_split (λ k. k ≡ key) xs xs i) [ inl a ↦ more_left (λ k. k ≡ key) xs [] a | inr b ↦ more_left (λ k. k ≡ key) xs [] b ]

plain_end : (xs : List LayerKey) → Within (xs ++ []) xs
plain_end xs key i = elim (some_split (λ k. k ≡ key) xs [] i) [ inl a ↦ a | inr b ↦ absurd b ]

same_keys : (margin : ℕ) (d : Linked) (xs ys : List LayerKey) (cell : ℕ) (zone : List Rect) → Within xs ys → Within ys xs → IsFramedOpen margin d xs cell zone → IsFramedOpen margin d ys cell zone
same_keys margin d xs ys cell zone up down is = record {
  inside = λ q e. let i = is.inside q e in (i.0, λ shut. i.1 (shut_fewer d.way (plain d) xs ys cell q up shut));
  shut = λ q inner off. shut_fewer d.way (plain d) ys xs cell q down (is.shut q inner off);
}

-- names that have one tree over two lists of trees read the same
same_inputs : (xs ys : List Formula) (names : List ℕ) → ((k : ℕ) → IsListed k names → get_or xs k Empty ≡ get_or ys k Empty) → names_inputs xs names ≡ names_inputs ys names
same_inputs xs ys [] h = refl
same_inputs xs ys (k ∷ ks) h =
    ap (λ x. inputs x ++ names_inputs xs ks) (h k (inl refl))
    ∙ ap (λ ks. inputs (get_or ys k Empty) ++ ks) (same_inputs xs ys ks (λ j i. h j (inr i)))

layer_read : (m : MosRule) (k : ℕ) → IsListed k (mos_names m) → ReadsLayer m k
layer_read m k (inl e) = inl (sym e)
layer_read m k (inr (inl e)) = inr (inl (sym e))
layer_read m k (inr (inr (inl e))) = inr (inr (inl (sym e)))
layer_read m k (inr (inr (inr (inl e)))) = inr (inr (inr (inl (sym e))))
layer_read m k (inr (inr (inr (inr (inl e))))) = inr (inr (inr (inr (inl (sym e)))))
layer_read m k (inr (inr (inr (inr (inr (inl e)))))) = inr (inr (inr (inr (inr (sym e)))))
layer_read m k (inr (inr (inr (inr (inr (inr z)))))) = absurd z

further_read : (m : MoreRule) (k : ℕ) → IsListed k (further_names m) → ReadsFurther m k
further_read (more.Resistor class n c w ta tw) k (inl e) = inr (inl (sym e))
further_read (more.Resistor class n c w ta tw) k (inr (inl e)) = inl (sym e)
further_read (more.Resistor class n c w ta tw) k (inr (inr (inl e))) = inr (inr (inl (sym e)))
further_read (more.Resistor class n c w ta tw) k (inr (inr (inr (inl e)))) = inr (inr (inr (inl (sym e))))
further_read (more.Resistor class n c w ta tw) k (inr (inr (inr (inr (inl e))))) = inr (inr (inr (inr (sym e))))
further_read (more.Resistor class n c w ta tw) k (inr (inr (inr (inr (inr z))))) = absurd z
further_read (more.Diode class p n ta tc) k (inl e) = inl (sym e)
further_read (more.Diode class p n ta tc) k (inr (inl e)) = inr (inl (sym e))
further_read (more.Diode class p n ta tc) k (inr (inr (inl e))) = inr (inr (inl (sym e)))
further_read (more.Diode class p n ta tc) k (inr (inr (inr (inl e)))) = inr (inr (inr (sym e)))
further_read (more.Diode class p n ta tc) k (inr (inr (inr (inr z)))) = absurd z

-- a rule's layers read what the rule says, and its terminals are read as names
module _ (margin : ℕ) (d : Linked) (r : Rules) (sound : rules.IsSound r) (cell : ℕ) (zone : List Rect) where
  tree_of : (k : ℕ) → is_conductor k r ≡ true → get_or (formulas r.names) k Empty ≡ formula (wiring_of r) k
  tree_of k e = sym ((conductors r k).conductor e)

  mos_zone : (n : ℕ) (m : MosRule) → slice_get (device_rules r) n ≡ Some (device_rule r m) → IsFramedOpen margin d (names_inputs (formulas r.names) (mos_names m)) cell zone
      → IsFramedOpen margin d (gate_inputs (wiring_of r) (device_rule r m)) cell zone
  mos_zone n m at is =
      let t = terminals r n (device_rule r m) sound at in
      let a = inputs (get_or (formulas r.names) m.sd Empty) in let b = inputs (get_or (formulas r.names) m.g Empty) in let w = inputs (get_or (formulas r.names) m.w Empty) in
      let x = formula (wiring_of r) m.ts in let y = formula (wiring_of r) m.tg in let z = formula (wiring_of r) m.tb in
      let known : IsFramedOpen margin d (a ++ (b ++ (w ++ (inputs x ++ (inputs y ++ (inputs z ++ [])))))) cell zone =
      subst (λ v. IsFramedOpen margin d (a ++ (b ++ (w ++ (inputs x ++ (inputs y ++ (inputs v ++ [])))))) cell zone) (tree_of m.tb t.tb)
      (subst (λ v. IsFramedOpen margin d (a ++ (b ++ (w ++ (inputs x ++ (inputs v ++ (inputs (get_or (formulas r.names) m.tb Empty) ++ [])))))) cell zone) (tree_of m.tg t.tg)
      (subst (λ v. IsFramedOpen margin d (a ++ (b ++ (w ++ (inputs v ++ (inputs (get_or (formulas r.names) m.tg Empty) ++ (inputs (get_or (formulas r.names) m.tb Empty) ++ [])))))) cell zone) (tree_of m.ts t.ts) is)) in
      subst (λ v. IsFramedOpen margin d (a ++ (b ++ (w ++ (inputs x ++ (inputs y ++ v))))) cell zone) (append-nil (inputs z)) known

  further_zone : (n : ℕ) (m : MoreRule) → slice_get (device_rules r) n ≡ Some (more_rule r m) → IsFramedOpen margin d (names_inputs (formulas r.names) (further_names m)) cell zone
      → IsFramedOpen margin d (gate_inputs (wiring_of r) (more_rule r m)) cell zone
  further_zone n (more.Resistor class g c w ta tw) at is =
      let t = terminals r n (more_rule r (more.Resistor class g c w ta tw)) sound at in
      let a = inputs (get_or (formulas r.names) c Empty) in let b = inputs (get_or (formulas r.names) g Empty) in let e = inputs (get_or (formulas r.names) w Empty) in
      let x = inputs (formula (wiring_of r) ta) in let y = inputs (formula (wiring_of r) tw) in
      let known : IsFramedOpen margin d (a ++ (b ++ (e ++ (x ++ (y ++ []))))) cell zone =
      subst (λ v. IsFramedOpen margin d (a ++ (b ++ (e ++ (x ++ (inputs v ++ []))))) cell zone) (tree_of tw t.tb)
      (subst (λ v. IsFramedOpen margin d (a ++ (b ++ (e ++ (inputs v ++ (inputs (get_or (formulas r.names) tw Empty) ++ []))))) cell zone) (tree_of ta t.ts) is) in
      same_keys margin d (a ++ (b ++ (e ++ (x ++ (y ++ []))))) (a ++ (b ++ (e ++ (x ++ (y ++ y))))) cell zone
      (behind a (b ++ (e ++ (x ++ (y ++ [])))) (b ++ (e ++ (x ++ (y ++ y)))) (behind b (e ++ (x ++ (y ++ []))) (e ++ (x ++ (y ++ y))) (behind e (x ++ (y ++ [])) (x ++ (y ++ y)) (behind x (y ++ []) (y ++ y) (twice y)))))
      (behind a (b ++ (e ++ (x ++ (y ++ y)))) (b ++ (e ++ (x ++ (y ++ [])))) (behind b (e ++ (x ++ (y ++ y))) (e ++ (x ++ (y ++ []))) (behind e (x ++ (y ++ y)) (x ++ (y ++ [])) (behind x (y ++ y) (y ++ []) (once y)))))
      known
  further_zone n (more.Diode class p m ta tc) at is =
      let t = terminals r n (more_rule r (more.Diode class p m ta tc)) sound at in
      let a = inputs (get_or (formulas r.names) p Empty) in let b = inputs (get_or (formulas r.names) m Empty) in
      let x = inputs (formula (wiring_of r) ta) in let y = inputs (formula (wiring_of r) tc) in
      let known : IsFramedOpen margin d (a ++ (b ++ (x ++ (y ++ [])))) cell zone =
      subst (λ v. IsFramedOpen margin d (a ++ (b ++ (x ++ (inputs v ++ [])))) cell zone) (tree_of tc t.tb)
      (subst (λ v. IsFramedOpen margin d (a ++ (b ++ (inputs v ++ (inputs (get_or (formulas r.names) tc Empty) ++ [])))) cell zone) (tree_of ta t.ts) is) in
      subst (λ v. IsFramedOpen margin d v cell zone) (sym (append_assoc a b (x ++ (y ++ y))))
      (same_keys margin d (a ++ (b ++ (x ++ (y ++ [])))) (a ++ (b ++ (x ++ (y ++ y)))) cell zone
      (behind a (b ++ (x ++ (y ++ []))) (b ++ (x ++ (y ++ y))) (behind b (x ++ (y ++ [])) (x ++ (y ++ y)) (behind x (y ++ []) (y ++ y) (twice y))))
      (behind a (b ++ (x ++ (y ++ y))) (b ++ (x ++ (y ++ []))) (behind b (x ++ (y ++ y)) (x ++ (y ++ [])) (behind x (y ++ y) (y ++ []) (once y))))
      known)

device_count : (r : Rules) → length (device_names r) ≡ length (device_rules r)
device_count r =
    length-append (map mos_names r.devices) (map further_names r.more)
    ∙ ap (λ (n : ℕ). n + length (map further_names r.more)) (length-map r.devices mos_names)
    ∙ ap (λ (n : ℕ). length r.devices + n) (length-map r.more further_names ∙ sym (length-map r.more (more_rule r)))
    ∙ ap (λ (n : ℕ). n + length (map (more_rule r) r.more)) (sym (length-map r.devices (device_rule r)))
    ∙ sym (length-append (map (device_rule r) r.devices) (map (more_rule r) r.more))

-- the set of each rule, by the names as they are seen
device_zone_at : (margin : ℕ) (d : Linked) (r : Rules) (read : List LayerRule) (cell : ℕ) (sets : List (List Rect)) → rules.IsSound r → AreRead r.names r.devices r.more read → AreDeviceOpens margin d cell (formulas read) (device_names r) sets
    → (i : ℕ) (u : Rule) (zone : List Rect) → slice_get (device_rules r) i ≡ Some u → slice_get sets i ≡ Some zone → IsFramedOpen margin d (gate_inputs (wiring_of r) u) cell zone
device_zone_at margin d r read cell sets sound are h i u zone at there = elim (of_both (device_rule r) (more_rule r) mos_names further_names r.devices r.more i u at) [
  | inl (m, is_m, names, same) ↦
      let by : names_inputs (formulas read) (mos_names m) ≡ names_inputs (formulas r.names) (mos_names m) =
      same_inputs (formulas read) (formulas r.names) (mos_names m) (λ k l. sym (read_tree r.names r.devices r.more read k are (inr (inl (record { at = i; rule = m; at_in = slice_get_within r.devices i m is_m; there = is_m; reads = layer_read m k l }))))) in
      subst (λ v. IsFramedOpen margin d (gate_inputs (wiring_of r) v) cell zone) same
      (mos_zone margin d r sound cell zone i m (at ∙ ap Some (sym same)) (subst (λ ks. IsFramedOpen margin d ks cell zone) by (h.opens i (mos_names m) zone names there)))
  | inr (k, m, is_m, names, same) ↦
      let by : names_inputs (formulas read) (further_names m) ≡ names_inputs (formulas r.names) (further_names m) =
      same_inputs (formulas read) (formulas r.names) (further_names m) (λ j l. sym (read_tree r.names r.devices r.more read j are (inr (inr (record { at = k; rule = m; at_in = slice_get_within r.more k m is_m; there = is_m; reads = further_read m j l }))))) in
      subst (λ v. IsFramedOpen margin d (gate_inputs (wiring_of r) v) cell zone) same
      (further_zone margin d r sound cell zone i m (at ∙ ap Some (sym same)) (subst (λ ks. IsFramedOpen margin d ks cell zone) by (h.opens i (further_names m) zone names there)))
]

-- ---- the entry of a cell, from the names as they are seen

-- where a cell leaves all that lies over it, that is what it leaves
pub opens_of : (n : ℕ) (d : Linked) (cell : ℕ) (trees : List Formula) (sets : List (List Rect)) → IsHullOf (plain d) cell (hull_of (cell_at d cell)) → d.way ≡ Disturbed → All IsCanonical sets → AreInputZones n d cell trees sets → AreInputOpens n d cell trees sets
opens_of n d cell trees sets hull way canonical h = record {
  count = h.count;
  each = λ k key at.
      let set = get_or sets k [] in
      let whole = set_canonical sets k (length trees) canonical h.count (slice_get_within trees k (Input key) at) in
      (framed_open d (key ∷ []) n cell set hull whole).0 (open_zone (plain d) (key ∷ []) n cell set way ((framed d (key ∷ []) n cell set hull whole).1 (h.each k key at)));
}

module _ (d : Linked) (r : Rules) (read : List LayerRule) (cell : ℕ) (hull : IsHullOf (plain d) cell (hull_of (cell_at d cell))) (sound : rules.IsSound r) (are : AreRead r.names r.devices r.more read) where
  abbrev margin : ℕ
  margin = zone_margin r.names

  name_open : (given : List (List Rect)) (v : CellZones) → AreLeft margin d cell r read given v → HasSets v
      → (i : ℕ) (x : Formula) (zone : List Rect) → slice_get (formulas r.names) i ≡ Some x → slice_get v.layers.items i ≡ Some zone → IsAsked r i x → IsOpenZone (plain d) (inputs x) margin cell zone
  name_open given v left sets i x zone at there asked =
      let tree : get_or (formulas r.names) i Empty ≡ x = get_or_from_slice_get (formulas r.names) i x Empty at in
      let seen : get_or (formulas read) i Empty ≡ x = sym (asked_tree r read i x are tree asked) ∙ tree in
      let is : IsFramedOpen margin d (inputs x) cell zone =
      subst (λ t. IsFramedOpen margin d (inputs t) cell zone) seen (subst (IsFramedOpen margin d (inputs (get_or (formulas read) i Empty)) cell) (get_or_from_slice_get v.layers.items i zone [] there) (left.names i)) in
      (framed_open d (inputs x) margin cell zone hull (canonical_at v.layers.items i zone sets.layers there)).1 is

  device_open : (given : List (List Rect)) (v : CellZones) → AreLeft margin d cell r read given v → HasSets v
      → (i : ℕ) (u : Rule) (zone : List Rect) → slice_get (device_rules r) i ≡ Some u → slice_get v.devices.items i ≡ Some zone → IsOpenZone (plain d) (gate_inputs (wiring_of r) u) margin cell zone
  device_open given v left sets i u zone at there =
      (framed_open d (gate_inputs (wiring_of r) u) margin cell zone hull (canonical_at v.devices.items i zone sets.devices there)).1
      (device_zone_at margin d r read cell v.devices.items sound are left.devices i u zone at there)

  -- what lies over the cell on an input layer that is read
  input_zone : (zones : List (List Rect)) → All IsCanonical zones → AreInputZones margin d cell (formulas read) zones → (i : ℕ) (key : LayerKey) → slice_get (formulas r.names) i ≡ Some (Input key) → IsRead r.names r.devices r.more i
      → (slice_get (formulas read) i ≡ Some (Input key)) × IsZone (plain d) (key ∷ []) margin cell (get_or zones i [])
  input_zone zones canonical h i key at asked =
      let long = same_count r.names r.devices r.more read are in
      let lt = slice_get_within (formulas r.names) i (Input key) at in
      let tree : get_or (formulas read) i Empty ≡ Input key = sym (read_tree r.names r.devices r.more read i are asked) ∙ get_or_from_slice_get (formulas r.names) i (Input key) Empty at in
      let here : slice_get (formulas read) i ≡ Some (Input key) = slice_get-get_or (formulas read) i Empty (omega (arith, lt, long)) ∙ ap Some tree in
      let set = get_or zones i [] in
      (here, (framed d (key ∷ []) margin cell set hull (set_canonical zones i (length (formulas read)) canonical h.count (omega (arith, lt, long)))).1 (h.each i key here))

  pub disturbed_zones : (zones : List (List Rect)) (v : CellZones) → d.way ≡ Disturbed → All IsCanonical zones → AreInputZones margin d cell (formulas read) zones → AreLeft margin d cell r read zones v → HasSets v → v.covered ≡ None → AreCellZones (plain d) r cell v
  disturbed_zones zones v way canonical over left sets none = record {
    names = left.count ∙ sym (same_count r.names r.devices r.more read are);
    layers = name_open zones v left sets;
    inputs = subst (HasInputs (length (formulas r.names))) (sym none) tt;
    disturbed = λ i key at asked.
        let is = input_zone zones canonical over i key at asked in
        subst (λ o. IsZone (plain d) (key ∷ []) margin cell (disturbed_by o v.layers.items i)) (sym none)
        (subst (IsZone (plain d) (key ∷ []) margin cell) (sym (left.kept i key is.0)) is.1);
    rules = left.devices.count ∙ device_count r;
    devices = device_open zones v left sets;
    covered = ((λ some. absurd (false≢true (subst IsSome none some))), (λ e. absurd (other way e)));
    lone = λ i u at e. absurd (other way e);
  }
    where
      other : d.way ≡ Disturbed → d.way ≡ Covered → ⊥
      other way e = let z : Disturbed ≡ Covered = sym way ∙ e in let w : ⊥ = cc in w

  -- the layer of a rule's regions, over the names as they are seen
  region_at : (i : ℕ) (u : Rule) → slice_get (device_rules r) i ≡ Some u → slice_get (device_regions (formulas read) r) i ≡ Some u.gate
  region_at i u at = elim (of_both (device_rule r) (more_rule r) (mos_region (formulas read)) (further_region (formulas read)) r.devices r.more i u at) [
    | inl (m, is, there, same) ↦
        there ∙ ap Some (sym (read_tree r.names r.devices r.more read m.g are (inr (inl (record { at = i; rule = m; at_in = slice_get_within r.devices i m is; there = is; reads = inr (inl refl) })))) ∙ ap (λ (w : Rule). w.gate) same)
    | inr (k, m, is, there, same) ↦
        there ∙ ap Some (further m (λ j reads. sym (read_tree r.names r.devices r.more read j are (inr (inr (record { at = k; rule = m; at_in = slice_get_within r.more k m is; there = is; reads = reads }))))) ∙ ap (λ (w : Rule). w.gate) same)
  ]
    where
      further : (m : MoreRule) → ((j : ℕ) → ReadsFurther m j → get_or (formulas read) j Empty ≡ get_or (formulas r.names) j Empty) → further_region (formulas read) m ≡ (more_rule r m).gate
      further (more.Resistor class n c w ta tw) h = h n (inl refl)
      further (more.Diode class p n ta tc) h =
          ap (λ (x : Formula). Binary And x (get_or (formulas read) n Empty)) (h p (inl refl))
          ∙ ap (λ (x : Formula). Binary And (get_or (formulas r.names) p Empty) x) (h n (inr (inl refl)))

  region_count : length (device_regions (formulas read) r) ≡ length (device_rules r)
  region_count =
      length-append (map (mos_region (formulas read)) r.devices) (map (further_region (formulas read)) r.more)
      ∙ ap (λ (n : ℕ). n + length (map (further_region (formulas read)) r.more)) (length-map r.devices (mos_region (formulas read)) ∙ sym (length-map r.devices (device_rule r)))
      ∙ ap (λ (n : ℕ). length (map (device_rule r) r.devices) + n) (length-map r.more (further_region (formulas read)) ∙ sym (length-map r.more (more_rule r)))
      ∙ sym (length-append (map (device_rule r) r.devices) (map (more_rule r) r.more))

  -- a rule reaches as far as the layer of its regions at least
  region_reach : (i : ℕ) (u : Rule) → slice_get (device_rules r) i ≡ Some u → (gate_reach (wiring_of r) u + 1) + reach u.gate ≤ margin
  region_reach i u at =
      let most = gate_reaches r i u at in
      let inner = le-max_left (reach u.gate) (max (reach u.well) (max (reach (formula (wiring_of r) u.ts)) (max (reach (formula (wiring_of r) u.tg)) (reach (formula (wiring_of r) u.tb))))) in
      let outer = le-max_right (reach u.sd) (max (reach u.gate) (max (reach u.well) (max (reach (formula (wiring_of r) u.ts)) (max (reach (formula (wiring_of r) u.tg)) (reach (formula (wiring_of r) u.tb)))))) in
      let le : reach u.gate ≤ gate_reach (wiring_of r) u = le_trans inner outer in
      omega (arith, le, most)

  pub covered_entry : (zones : List (List Rect)) (v : CellZones) → d.way ≡ Covered → All IsCanonical zones → AreInputZones margin d cell (formulas read) zones → AreCoveredOf margin d cell r read zones v → AreCellZones (plain d) r cell v
  covered_entry zones v way canonical over h = record {
    names = h.left.count ∙ sym (same_count r.names r.devices r.more read are);
    layers = name_open h.bare v h.left h.sets;
    inputs = subst (HasInputs (length (formulas r.names))) (sym h.is) (ap length h.inputs ∙ over.count ∙ sym (same_count r.names r.devices r.more read are));
    disturbed = λ i key at asked.
        let is = input_zone zones canonical over i key at asked in
        subst (λ o. IsZone (plain d) (key ∷ []) margin cell (disturbed_by o v.layers.items i)) (sym h.is)
        (subst (λ (l : List (List Rect)). IsZone (plain d) (key ∷ []) margin cell (get_or l i [])) (sym h.inputs) is.1);
    rules = h.left.devices.count ∙ device_count r;
    devices = device_open h.bare v h.left h.sets;
    covered = ((λ some. way), (λ e. subst IsSome (sym h.is) refl));
    lone = λ i u at e.
        let count = h.lone.count in let regions = region_count in
        let lt = slice_get_within (device_rules r) i u at in
        let set = get_or h.covered.lone.items i [] in
        let there : slice_get h.covered.lone.items i ≡ Some set = slice_get-get_or h.covered.lone.items i [] (omega (arith, count, regions, lt)) in (
          set,
          subst (λ o. lone_by o i ≡ Some set) (sym h.is) there,
          (h.lone.lone i u.gate set (region_at i u at) there).right (gate_reach (wiring_of r) u + 1) (region_reach i u at),
        );
  }

-- no name as it is seen reaches further than names may
pub read_near : (r : Rules) (read : List LayerRule) (k : ℕ) → rules.IsSound r → AreRead r.names r.devices r.more read → reach (get_or (formulas read) k Empty) ≤ 10000
read_near r read k sound are =
    let less = seen_reach r.names r.devices r.more read k are in let a = reach_in r.names k in let b = near r sound in omega (arith, less, a, b)
