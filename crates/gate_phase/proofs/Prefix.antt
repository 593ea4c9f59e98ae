-- The regions of the first rules of a list.
use Rattle.std.proofs.Common.{ℕ, ◌<◌, ◌++◌, List, length, sym, ◌∙◌}
use Rattle.base_laws.proofs.Items.{get_front}
use Rattle.std.proofs.lemmas.Option.{slice_get_within}
use Rattle.flat_layout.specs.Gates.{Rule}
use Rattle.flat_layout.specs.GateTables.{AreGates, GateEntry, IsGateEntry}
use Rattle.flat_layout.specs.Layout.{Design}
use Rattle.flat_layout.specs.Nets.{Tables}
use Rattle.flat_layout.specs.Regions.{Wiring}
use Rattle.gate_phase.specs.Rows.{AreGatesTo, PrefixLaw}

module _ (d : Design) (w : Wiring) (t : Tables) (front behind : List Rule) (cell : ℕ) where
  entry_front : (x : GateEntry) → x.at.rule < length front → IsGateEntry d w t (front ++ behind) cell x → IsGateEntry d w t front cell x
  entry_front x lt e = record { rule = e.rule; is = sym (get_front front behind x.at.rule lt) ∙ e.is; gate = e.gate; least = e.least; verdict = e.verdict }

  entry_both : (x : GateEntry) → IsGateEntry d w t front cell x → IsGateEntry d w t (front ++ behind) cell x
  entry_both x e = record { rule = e.rule; is = get_front front behind x.at.rule (slice_get_within front x.at.rule e.rule e.is) ∙ e.is; gate = e.gate; least = e.least; verdict = e.verdict }

  alone : (v : List GateEntry) → AreGatesTo d w t (front ++ behind) (length front) cell v → AreGates d w t front cell v
  alone v h = record {
    each = λ x i. entry_front x (h.first x i) (h.each x i);
    found = λ r u s at here. let lt = slice_get_within front r u at in h.found r u s lt (get_front front behind r lt ∙ at) here;
    rising = h.rising;
    parted = λ r u s at settled. let lt = slice_get_within front r u at in h.parted r u s lt (get_front front behind r lt ∙ at) settled;
  }

  first : (v : List GateEntry) → AreGates d w t front cell v → AreGatesTo d w t (front ++ behind) (length front) cell v
  first v h = record {
    each = λ x i. entry_both x (h.each x i);
    first = λ x i. let e = h.each x i in slice_get_within front x.at.rule e.rule e.is;
    found = λ r u s lt at here. h.found r u s (sym (get_front front behind r lt) ∙ at) here;
    rising = h.rising;
    parted = λ r u s lt at settled. h.parted r u s (sym (get_front front behind r lt) ∙ at) settled;
  }

pub front_law : PrefixLaw
front_law d w t front behind cell v = (alone d w t front behind cell v, first d w t front behind cell v)
