-- A layer that a selection doesn't read changes nothing of it.
use Rattle.std.proofs.Common.{◌≡◌, ◌↔◌, inl, inr, ℕ, List, [], ◌∷◌, sym, subst}
use Rattle.flat_layout.specs.Layers.{inputs, InFlat, IsStirred}
use Rattle.flat_layout.specs.Layout.{Design, Some_of, Leads, Takes, IsReached, IsDisturbed}
use Rattle.geo_base.specs.Motions.{moved_square}
use Rattle.geo_base.specs.declared.layer.LayerKey.{LayerKey}
use Rattle.geo_base.specs.declared.shapes.Square.{Square}
use Rattle.flat_laws.proofs.Names.{more_left, more_right}
use Rattle.select_laws.specs.Grouped.{GroupLaw, GroupPartedLaw}
use Rattle.select_laws.specs.Layered.{IsSameElse, IsOwnSelected}
use Rattle.select_laws.specs.Selects.{Select, sight, region_at}
use Rattle.select_laws.specs.Whole.{IsWhole, IsWholeBelow}
use Rattle.select_laws.proofs.Layered.{takes_down, name_same}
use Rattle.select_laws.proofs.Staged.{region_same, close_same, selected_same}

pub turned : (d e : Design) (key : LayerKey) → IsSameElse d e key → IsSameElse e d key
turned d e key same = record {
  top = sym same.top;
  places = λ cell k p. ((same.places cell k p).1, (same.places cell k p).0);
  texts = λ cell t. ((same.texts cell t).1, (same.texts cell t).0);
  own = λ cell other q not. ((same.own cell other q not).1, (same.own cell other q not).0);
}

disturbed_to : (d e : Design) (key : LayerKey) (same : IsSameElse d e key) (keys : List LayerKey) → (Some_of (λ k. k ≡ key) keys → ⊥) → (cell : ℕ) (q : Square) → IsDisturbed e keys cell q → IsDisturbed d keys cell q
disturbed_to d e key same keys free cell q h = record {
  path = h.path;
  other = h.other;
  end = h.end;
  square = h.square;
  place = h.place;
  key = h.key;
  listed = h.listed;
  takes = subst (λ t. Takes d t h.path cell q h.place) same.top (takes_down d e key same e.top h.path cell q h.place h.takes);
  others = subst (λ t. Takes d t h.other h.end h.square h.place) same.top (takes_down d e key same e.top h.other h.end h.square h.place h.others);
  own = (same.own h.end h.key h.square (λ is. free (subst (λ i. Some_of (λ k. k ≡ i) keys) is h.listed))).0 h.own;
  apart = h.apart;
}

stirred_to : (d e : Design) (key : LayerKey) (same : IsSameElse d e key) (keys : List LayerKey) → (Some_of (λ k. k ≡ key) keys → ⊥) → (n cell : ℕ) (q : Square) → IsStirred e keys n cell q → IsStirred d keys n cell q
stirred_to d e key same keys free n cell q h = record { square = h.square; within = h.within; disturbed = disturbed_to d e key same keys free cell h.square h.disturbed }

module _ (d e : Design) (key : LayerKey) (same : IsSameElse d e key) (x : Select) (free : Some_of (λ k. k ≡ key) (sight x).keys → ⊥) (cell : ℕ) where
  pub flats : (q : Square) → InFlat e cell x.region q ↔ InFlat d cell x.region q
  flats q = name_same d e key same x.region (λ h. free (more_left (λ k. k ≡ key) (inputs x.region) (inputs x.other) h)) cell q

  pub others : (q : Square) → InFlat e cell x.other q ↔ InFlat d cell x.other q
  others q = name_same d e key same x.other (λ h. free (more_right (λ k. k ≡ key) (inputs x.region) (inputs x.other) h)) cell q

  back : (q : Square) → InFlat d cell x.region q ↔ InFlat e cell x.region q
  back q = ((flats q).1, (flats q).0)

  pub region_to : (s q : Square) → region_at e x cell s q → region_at d x cell s q
  region_to s q h = region_same (InFlat e cell x.region) (InFlat d cell x.region) flats x.joint s q h

  region_from : (s q : Square) → region_at d x cell s q → region_at e x cell s q
  region_from s q h = region_same (InFlat d cell x.region) (InFlat e cell x.region) back x.joint s q h

  regions : (s q : Square) → region_at d x cell s q ↔ region_at e x cell s q
  regions s q = (region_from s q, region_to s q)

  pub whole_to : (s : Square) → IsWhole e x.joint (sight x) cell s → IsWhole d x.joint (sight x) cell s
  whole_to s h = record {
    is = (flats s).0 h.is;
    calm = λ q c st. h.calm q (close_same (region_at d x cell s) (region_at e x cell s) (regions s) q c)
        (stirred_to e d key (turned d e key same) (sight x).keys free (sight x).reach cell q st);
  }

below_to : (d e : Design) (key : LayerKey) (same : IsSameElse d e key) (x : Select) (free : Some_of (λ k. k ≡ key) (sight x).keys → ⊥) (cell : ℕ) (s : Square) → IsWholeBelow e x.joint (sight x) cell s → IsWholeBelow d x.joint (sight x) cell s
below_to d e key same x free cell s h = record {
  number = h.number;
  place = h.place;
  square = h.square;
  placed = (same.places cell h.number h.place).0 h.placed;
  whole = whole_to d e key same x free h.place.cell h.square h.whole;
  image = region_to d e key same x free cell s (moved_square h.place.motion h.square) h.image;
}

own_to : (d e : Design) (key : LayerKey) (same : IsSameElse d e key) (x : Select) (free : Some_of (λ k. k ≡ key) (sight x).keys → ⊥) (cell : ℕ) (q : Square) → IsOwnSelected e x cell q → IsOwnSelected d x cell q
own_to d e key same x free cell q h = record {
  own = record {
    whole = whole_to d e key same x free cell q h.own.whole;
    new = λ b. h.own.new (below_to e d key (turned d e key same) x free cell q b);
  };
  selected = (selected_same d e x cell (flats d e key same x free cell) (others d e key same x free cell) q).0 h.selected;
}

pub group : GroupLaw
group d e key x same free cell q = (own_to d e key same x free cell q, own_to e d key (turned d e key same) x free cell q)

leads_to : (d e : Design) (key : LayerKey) → IsSameElse d e key → (from : ℕ) (path : List ℕ) (to : ℕ) → Leads e from path to → Leads d from path to
leads_to d e key same from [] to h = h
leads_to d e key same from (k ∷ ks) to h = (h.0, (same.places from k h.0).0 h.1, leads_to d e key same h.0.cell ks to h.2)

pub reached_to : (d e : Design) (key : LayerKey) → IsSameElse d e key → (cell : ℕ) → IsReached e cell → IsReached d cell
reached_to d e key same cell h = record { path = h.path; leads = subst (λ t. Leads d t h.path cell) same.top (leads_to d e key same e.top h.path cell h.leads) }

pub group_parted : GroupPartedLaw
group_parted d e key x same free parted cell s reached whole =
    elim (parted cell s (reached_to d e key same cell reached) (whole_to d e key same x free cell s whole)) [
      | inl own ↦ inl (record { whole = whole; new = λ b. own.new (below_to d e key same x free cell s b) })
      | inr below ↦ inr (below_to e d key (turned d e key same) x free cell s below)
    ]
