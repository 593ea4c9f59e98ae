-- The places of a group's transistors, as groups grow.
use Rattle.std.proofs.Common.{◌≡◌, ◌<◌, ◌≤◌, ◌+◌, ℕ, zero, suc, Bool, true, false, cond, List, [], ◌∷◌, ◌++◌, map, length, refl, ap, ◌∙◌, sym, subst, arith}
use Rattle.base_laws.proofs.Lists.{map_last, map_count}
use Rattle.std.specs.Prelude.{not, slice_index_or, slice_set}
use Rattle.std.specs.Global.{Vec}
use Rattle.std.proofs.lemmas.List.Sums.{prefix_len-le-length}
use Rattle.plain_netlist.specs.Netlist.{DeviceRow}
use Rattle.merge_laws.specs.Grouped.{Group, Placed, grouped, groups, is_alike, with_device}
use Rattle.device_merge.specs.Keys.{AreKeys, lone, place_of}
use Rattle.device_merge.specs.Merging.{placed}
use Rattle.device_merge.specs.Parts.{IsParting, joined_at, place_lists, places_of}
use Rattle.device_merge.specs.declared.keys.DeviceKey.{DeviceKey}
use Rattle.device_merge.specs.declared.parts.Parting.{Parting}
use Rattle.device_merge.proofs.Joined.{begins, joined, keys_stay}

pub set_joined : (lists : List (Vec ℕ)) (at : ℕ) (v d : Vec ℕ) (place : ℕ) → at < length lists → v.items ≡ (slice_index_or lists at d).items ++ place ∷ [] → place_lists (slice_set lists at v) ≡ joined_at at place (place_lists lists)
set_joined [] at v d place low e = absurd (omega arith)
set_joined (l ∷ ls) zero v d place low e = ap (λ (t : List ℕ). t ∷ place_lists ls) e
set_joined (l ∷ ls) (suc at) v d place low e = ap (λ (t : List (List ℕ)). l.items ∷ t) (set_joined ls at v d place (omega arith) e)

pub past_joined : (ls : List (List ℕ)) (at place : ℕ) → length ls ≤ at → ls ++ (place ∷ []) ∷ [] ≡ joined_at at place ls
past_joined [] at place low = refl
past_joined (l ∷ ls) zero place low = absurd (omega arith)
past_joined (l ∷ ls) (suc at) place low = ap (λ (t : List (List ℕ)). l ∷ t) (past_joined ls at place (omega arith))

one_more : (n : ℕ) → suc n ≡ 1 + n
one_more n = omega arith

joins_places : (gs : List Group) (d : Placed) → map places_of (with_device gs d) ≡ joined_at (place_of gs d.row) d.place (map places_of gs)
joins_places [] d = refl
joins_places (g ∷ gs) d = at (is_alike g.first.row d.row) (joins_places gs d)
  where
    at : (b : Bool) → map places_of (with_device gs d) ≡ joined_at (place_of gs d.row) d.place (map places_of gs)
        → map places_of (cond b (joined g d ∷ gs) (g ∷ with_device gs d)) ≡ joined_at (cond (not b) (1 + place_of gs d.row) 0) d.place (places_of g ∷ map places_of gs)
    at true rec = ap (λ (t : List ℕ). (g.first.place ∷ t) ∷ map places_of gs) (map_last (λ (e : Placed). e.place) g.others d)
    at false rec = subst (λ (k : ℕ). places_of g ∷ map places_of (with_device gs d) ≡ joined_at k d.place (places_of g ∷ map places_of gs)) (one_more (place_of gs d.row)) (ap (λ (t : List (List ℕ)). places_of g ∷ t) rec)

-- as many lists as groups
pub as_many : (p : Parting) (gs : List Group) → IsParting p gs → length p.places.items ≡ length gs
as_many p gs h = sym (map_count (λ (l : Vec ℕ). l.items) p.places.items) ∙ ap (λ (ls : List (List ℕ)). length ls) h.places ∙ map_count places_of gs

pub joined_parting : (old new : Parting) (gs : List Group) (d : Placed) (at : ℕ) → IsParting old gs → at ≡ place_of gs d.row → at < length old.places.items → new.keys ≡ old.keys
    → place_lists new.places.items ≡ joined_at at d.place (place_lists old.places.items) → IsParting new (with_device gs d)
joined_parting old new gs d at h is low keys places =
    let count = as_many old gs h in
    let inside : place_of gs d.row < length gs = omega arith in
    record {
      keys = subst (λ (ks : List DeviceKey). AreKeys 0 ks (with_device gs d)) (sym keys) (keys_stay 0 old.keys gs d h.keys inside);
      places = places ∙ ap (λ (ls : List (List ℕ)). joined_at at d.place ls) h.places ∙ ap (λ (k : ℕ). joined_at k d.place (map places_of gs)) is ∙ sym (joins_places gs d);
    }

pub last_place : (old : Parting) (gs : List Group) (row : DeviceRow) (at : ℕ) → IsParting old gs → at ≡ place_of gs row → length old.places.items ≤ at → place_of gs row ≡ length gs
last_place old gs row at h is past =
    let count = as_many old gs h in
    let most : place_of gs row ≤ length gs = prefix_len-le-length _ gs in
    omega arith

pub begun_parting : (old new : Parting) (gs : List Group) (d : Placed) (at : ℕ) → IsParting old gs → at ≡ place_of gs d.row → place_of gs d.row ≡ length gs → AreKeys 0 new.keys (gs ++ lone d.place d.row ∷ [])
    → place_lists new.places.items ≡ joined_at at d.place (place_lists old.places.items) → IsParting new (with_device gs d)
begun_parting old new gs d at h is last keys places = record {
  keys = subst (λ (hs : List Group). AreKeys 0 new.keys hs) (sym (begins gs d last)) keys;
  places = places ∙ ap (λ (ls : List (List ℕ)). joined_at at d.place ls) h.places ∙ ap (λ (k : ℕ). joined_at k d.place (map places_of gs)) is ∙ sym (joins_places gs d);
}

-- the first of them are in groups, the rest isn't yet
pub record IsGoing (p : Parting) (place : ℕ) (all rest : List DeviceRow) : Type 0 where
  pub gs : List Group
  pub parting : IsParting p gs
  pub behind : grouped gs place rest ≡ groups all

pub further : (old new : Parting) (place : ℕ) (all more : List DeviceRow) (row : DeviceRow) → IsGoing old place all (row ∷ more)
    → ((gs : List Group) → IsParting old gs → IsParting new (with_device gs (placed place row))) → IsGoing new (place + 1) all more
further old new place all more row h added = record {
  gs = with_device h.gs (placed place row);
  parting = added h.gs h.parting;
  behind = ap (λ (n : ℕ). grouped (with_device h.gs (placed place row)) n more) (let e : place + 1 ≡ suc place = omega arith in e) ∙ h.behind;
}

pub ended : (p : Parting) (place : ℕ) (all : List DeviceRow) → IsGoing p place all [] → place_lists p.places.items ≡ map places_of (groups all)
ended p place all h = h.parting.places ∙ ap (λ (gs : List Group). map places_of gs) h.behind

pub begun : (p : Parting) (all : List DeviceRow) → IsParting p [] → IsGoing p 0 all all
begun p all h = record { gs = []; parting = h; behind = refl }
