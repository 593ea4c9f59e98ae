-- The bad gates of the flat top are told, and nothing else.
use Rattle.std.proofs.Common.{◌≡◌, ◌↔◌, inl, inr, ℕ, List, [], ◌∷◌, Some, map, slice_get, refl, sym, ap, subst, ◌∙◌}
use Rattle.std.proofs.lemmas.Option.{same_Some}
use Rattle.cell_graph.specs.Laws.{OrderLaw}
use Rattle.cell_graph.specs.Linked.{Linked, IsSound, plain}
use Rattle.deep_flow.specs.Bad.{class_at, told_bad}
use Rattle.deep_tables.specs.declared.gates.BadGate.{BadGate}
use Rattle.geo_base.specs.Motions.{moved_square}
use Rattle.flat_laws.proofs.Once.{gate_self}
use Rattle.flat_laws.specs.FlatGates.{AreFlatGates, ShowsGate}
use Rattle.flat_laws.specs.GateLaws.{SameGateLaw}
use Rattle.flat_layout.specs.Gates.{InGate, IsBadGate, Rule, geometry}
use Rattle.flat_layout.specs.GateTables as flat
use Rattle.flat_layout.specs.GateTables.{Bad, GateEntry, GateSquare, all_bad_gates}
use Rattle.flat_layout.specs.Layers.{InFlat}
use Rattle.flat_layout.specs.Layout.{Design, IsReached, Leads, Takes}
use Rattle.flat_layout.specs.Nets.{Tables}
use Rattle.flat_layout.specs.Regions.{Wiring}
use Rattle.geo_base.specs.declared.shapes.Square.{Square}
use Rattle.netlist_file.specs.Flat.{AreAllBad, AreAllTold, HasNoBadGate, IsBadFlatGate, IsToldAs}
use Rattle.plain_netlist.specs.Lists.{IsListed}
use Rattle.rule_layers.specs.Meaning.{device_rules}
use Rattle.rule_text.specs.Rules.{Rules}
use Rattle.table_laws.specs.BadLaws.{BadListedLaw, bad_entry}
use Rattle.flat_layout.specs.declared.cause.GateCause.{GateCause}

-- ---- paths and what they take

-- a path takes each square of its end somewhere
goes : (d : Design) (from to : ℕ) (path : List ℕ) (s : Square) → Leads d from path to → (q : Square) × Takes d from path to s q
goes d from to [] s leads = (s, (leads, refl))
goes d from to (k ∷ ks) s (p, placed, leads) =
    let rest = goes d p.cell to ks s leads in
    (moved_square p.motion rest.0, (p, placed, rest.0, rest.1, refl))

leads_on : (d : Design) (from to : ℕ) (path : List ℕ) (s q : Square) → Takes d from path to s q → Leads d from path to
leads_on d from to [] s q takes = takes.0
leads_on d from to (k ∷ ks) s q (p, placed, r, takes, e) = (p, placed, leads_on d p.cell to ks s r takes)

-- ---- lists that are told

told_listed : (r : Rules) (bs : List flat.BadGate) (b : flat.BadGate) → IsListed b bs → IsListed (told_bad r b) (map (told_bad r) bs)
told_listed r [] b h = absurd h
told_listed r (x ∷ bs) b (inl e) = inl (ap (told_bad r) e)
told_listed r (x ∷ bs) b (inr h) = inr (told_listed r bs b h)

told_from : (r : Rules) (bs : List flat.BadGate) (b : BadGate) → IsListed b (map (told_bad r) bs) → (x : flat.BadGate) × IsListed x bs × (told_bad r x ≡ b)
told_from r [] b h = absurd h
told_from r (x ∷ bs) b (inl e) = (x, inl refl, sym e)
told_from r (x ∷ bs) b (inr h) = let k = told_from r bs b h in (k.0, inr k.1, k.2)

-- ---- the cells' lists and the flat gates

module _ (d : Design) (w : Wiring) (t : Tables) (r : Rules) (gates : ℕ → List GateEntry) (all : AreFlatGates d w t (device_rules r) gates) (same : SameGateLaw) where
  -- a bad gate of the flat top stands in a reached cell's list
  pub found : (a : GateSquare) (why : GateCause) → IsBadFlatGate d w (device_rules r) a why
      → (b : flat.BadGate) × IsReached d b.cell × IsListed (bad_entry b) (gates b.cell) × IsToldAs d w r a why (told_bad r b)
  found a why x = by (all.found a.rule x.rule a.square x.is x.in_flat)
    where
      by : (path : List ℕ) × (end : ℕ) × (e : GateEntry) × (q : Square) × ShowsGate d gates path end e q × (e.at.rule ≡ a.rule) × InGate d (geometry w x.rule) d.top a.square q
          → (b : flat.BadGate) × IsReached d b.cell × IsListed (bad_entry b) (gates b.cell) × IsToldAs d w r a why (told_bad r b)
      by (path, end, e, q, shows, rule, way) =
          let is : slice_get (device_rules r) e.at.rule ≡ Some x.rule = subst (λ (k : ℕ). slice_get (device_rules r) k ≡ Some x.rule) (sym rule) x.is in
          let bad : IsBadGate d w x.rule d.top q why = (same d w x.rule d.top a.square q way).1 why x.bad in
          let verdict : e.verdict ≡ Bad why = all.bad x.rule path end e q why shows is bad in
          let here : e ≡ bad_entry (record { cell = end; at = e.at; cause = why }) = ap (λ (v : flat.Verdict). let y : GateEntry = record { at = e.at; verdict = v } in y) verdict in (
            record { cell = end; at = e.at; cause = why },
            record { path = path; leads = leads_on d d.top end path e.at.square q shows.takes },
            subst (λ (y : GateEntry). IsListed y (gates end)) here shows.listed,
            record {
              class = ap (class_at r) rule;
              cause = refl;
              path = path;
              square = q;
              takes = shows.takes;
              one = (refl, λ u there. subst (λ (v : Rule). InGate d (geometry w v) d.top a.square q) (same_Some x.rule u (sym x.is ∙ there)) way);
            },
          )

  -- and what stands there is one
  pub seen : (b : flat.BadGate) → IsReached d b.cell → IsListed (bad_entry b) (gates b.cell) → (a : GateSquare) × (why : GateCause) × IsBadFlatGate d w (device_rules r) a why × IsToldAs d w r a why (told_bad r b)
  seen b reached listed =
      let image = goes d d.top b.cell reached.path b.at.square reached.leads in
      let shows : ShowsGate d gates reached.path b.cell (bad_entry b) image.0 = record { listed = listed; takes = image.1 } in
      let each = all.each reached.path b.cell (bad_entry b) image.0 shows in (
        record { rule = b.at.rule; square = image.0 },
        b.cause,
        record { rule = each.0; is = each.1; in_flat = each.2; bad = each.3.1 },
        record {
          class = refl;
          cause = refl;
          path = reached.path;
          square = image.0;
          takes = image.1;
          one = (refl, λ u there. gate_self d (geometry w u) d.top image.0 (subst (λ (v : Rule). InFlat d d.top v.gate image.0) (same_Some each.0 u (sym each.1 ∙ there)) each.2));
        },
      )

-- ---- together

module _ (d : Linked) (w : Wiring) (t : Tables) (r : Rules) (gates : ℕ → List GateEntry) (bad : List BadGate) (sound : IsSound d) (order : OrderLaw) (lists : BadListedLaw) (same : SameGateLaw) (all : AreFlatGates (plain d) w t (device_rules r) gates)
    (told : bad ≡ map (told_bad r) (all_bad_gates gates d.order)) where
  pub all_told : AreAllTold (plain d) w r bad
  all_told a why x =
      let f = found (plain d) w t r gates all same a why x in
      let here : IsListed f.0 (all_bad_gates gates d.order) = (lists gates d.order f.0).1 (((order d sound).each f.0.cell).1 (f.1, tt), f.2) in
      (told_bad r f.0, subst (λ (l : List BadGate). IsListed (told_bad r f.0) l) (sym told) (told_listed r (all_bad_gates gates d.order) f.0 here), f.3)

  pub all_bad : AreAllBad (plain d) w r bad
  all_bad b listed =
      let k = told_from r (all_bad_gates gates d.order) b (subst (λ (l : List BadGate). IsListed b l) told listed) in
      let stands = (lists gates d.order k.0).0 k.1 in
      let f = seen (plain d) w t r gates all same k.0 (((order d sound).each k.0.cell).0 stands.0).0 stands.1 in
      (f.0, f.1, f.2, subst (λ (x : BadGate). IsToldAs (plain d) w r f.0 f.1 x) k.2 f.3)

  none_told : (l : List BadGate) → l ≡ [] → (b : BadGate) → IsListed b l → ⊥
  none_told [] e b h = h
  none_told (x ∷ l) e b h = absurd cc

  no_told : (l : List BadGate) → ((b : BadGate) → IsListed b l → ⊥) → l ≡ []
  no_told [] none = refl
  no_told (x ∷ l) none = absurd (none x (inl refl))

  pub no_bad : (bad ≡ []) ↔ HasNoBadGate (plain d) w (device_rules r)
  no_bad = (
    (λ e a why x. let k = all_told a why x in none_told bad e k.0 k.1),
    (λ none. no_told bad (λ b listed. let k = all_bad b listed in none k.0 k.1 k.2)),
  )
