-- Nets that were read, by the cells' numbers.
use Rattle.std.proofs.Common.{◌≡◌, ◌⊎◌, inl, inr, ℕ, ◌+◌, ◌<◌, ◌==◌, ◌||◌, Bool, true, false, List, [], ◌∷◌, ◌++◌, Option, Some, None, Result, Ok, Err, IfOk, IsSomeAnd, slice_index, get_or, length, length-set, take, refl, sym, ◌∙◌, ap, subst, arith}
use Rattle.std.proofs.lemmas.Bool.{or_cases, eqb-true}
use Rattle.std.proofs.Math.Decide.{ℕ_discrete}
use Rattle.std.proofs.Math.Seq.{take-length}
use Rattle.std.proofs.lemmas.List.{get_or-set_other, get_or-set_same, take_more}
use Rattle.std.specs.Prelude.{set}
use Rattle.job_graph.specs.Graph.{has}
use Rattle.cell_graph.specs.Linked.{Linked, plain}
use Rattle.deep_tables.specs.Nets.{AreCellNets}
use Rattle.deep_tables.specs.declared.nets.CellNets.{CellNets}
use Rattle.rule_text.specs.Rules.{Rules}
use Rattle.std.proofs.lemmas.Option.{slice_get_within}
use Rattle.flat_layout.specs.Layout.{Design}
use Rattle.flat_layout.specs.Nets.{Tables, items_of}
use Rattle.flat_layout.specs.Regions.{Wiring}
use Rattle.link_classes.specs.Classes.{AreInRange, IsLinked}
use Rattle.link_classes.specs.declared.classes.Link.{Link}
use Rattle.net_link_laws.specs.Found.{AreAllFound}
use Rattle.net_phase.specs.Reading.{AreRead}

has_split : (x y : ℕ) (xs : List ℕ) → has x (xs ++ y ∷ []) ≡ true → (has x xs ≡ true) ⊎ (x ≡ y)
has_split x y [] h = elim (or_cases (x == y) false h) [ inl a ↦ inr (eqb-true x y a) | inr b ↦ absurd (let z : ⊥ = cc in z) ]
has_split x y (z ∷ xs) h = elim (or_cases (x == z) (has x (xs ++ y ∷ [])) h) [
  | inl a ↦ inl (ap (λ b. b || has x xs) a)
  | inr b ↦ elim (has_split x y xs b) [ inl c ↦ inl (or_right (x == z) (has x xs) c) | inr e ↦ inr e ]
]
  where
    or_right : (a b : Bool) → b ≡ true → (a || b) ≡ true
    or_right true b e = refl
    or_right false b e = e

-- the cells of the first jobs have values of such jobs
pub record AreReadTo (value : ℕ → Option CellNets) (inputs order : List ℕ) (cells n : ℕ) (nets : List (Option CellNets)) : Type 0 where
  pub long : length nets ≡ cells
  pub each : (i : ℕ) → has i (take n inputs) ≡ true → (j : ℕ) × (has j inputs ≡ true) × (slice_index order j ≡ slice_index order i) × (get_or nets (slice_index order i) None ≡ value j)

pub none_read : (value : ℕ → Option CellNets) (inputs order : List ℕ) (cells : ℕ) (nets : List (Option CellNets)) → length nets ≡ cells → AreReadTo value inputs order cells 0 nets
none_read value inputs order cells nets e = record { long = e; each = λ i h. absurd (let f : false ≡ true = h in let z : ⊥ = cc in z) }

pub read_more : (value : ℕ → Option CellNets) (inputs order : List ℕ) (cells n : ℕ) (nets : List (Option CellNets)) (v : CellNets) → n < length inputs → has (get_or inputs n 0) inputs ≡ true → slice_index order (get_or inputs n 0) < cells
    → value (get_or inputs n 0) ≡ Some v → AreReadTo value inputs order cells n nets → AreReadTo value inputs order cells (n + 1) (set nets (slice_index order (get_or inputs n 0)) (Some v))
read_more value inputs order cells n nets v lt is within at h =
    let x = get_or inputs n 0 in
    let cell = slice_index order x in
    let long = h.long in
    record {
      long = length-set nets cell (Some v) ∙ long;
      each = λ i m.
          let split = has_split i x (take n inputs) (subst (λ (l : List ℕ). has i l ≡ true) (take_more inputs n 0 lt) m) in
          elim (ℕ_discrete (slice_index order i) cell) [
            | yes e ↦ (x, is, sym e, ap (λ k. get_or (set nets cell (Some v)) k None) e ∙ get_or-set_same nets cell (Some v) None (omega (arith, long, within)) ∙ sym at)
            | no k ↦ elim split [
              | inl a ↦ let g = h.each i a in (g.0, g.1, g.2, get_or-set_other nets cell (slice_index order i) (Some v) None k ∙ g.3)
              | inr e ↦ absurd (k (ap (slice_index order) e))
            ]
          ];
    }

pub read_all : (value : ℕ → Option CellNets) (d : Linked) (r : Rules) (inputs order : List ℕ) (cells n : ℕ) (nets : List (Option CellNets)) → n ≡ length inputs → AreReadTo value inputs order cells n nets
    → ((i : ℕ) → has i inputs ≡ true → IsSomeAnd (value i) (AreCellNets (plain d) r (slice_index order i))) → AreRead d r inputs order nets
read_all value d r inputs order cells n nets e h right i is =
    let whole : has i (take n inputs) ≡ true = subst (λ (l : List ℕ). has i l ≡ true) (sym (ap (λ k. take k inputs) e ∙ take-length inputs)) is in
    let g = h.each i whole in
    subst (λ o. IsSomeAnd o (AreCellNets (plain d) r (slice_index order i))) (sym g.3) (subst (λ k. IsSomeAnd (value g.0) (AreCellNets (plain d) r k)) g.2 (right g.0 g.1))

in_range : (n : ℕ) (ls : List Link) → ((i j : ℕ) → IsLinked ls i j → (i < n) × (j < n)) → AreInRange n ls
in_range n [] f = tt
in_range n (l ∷ ls) f = let h = f l.one l.other (inl (inl (refl, refl))) in (h.0, h.1, in_range n ls (λ i j m. f i j (inr m)))

-- links that were found join places of items
pub found_in_range : (d : Design) (w : Wiring) (t : Tables) (cell : ℕ) (links : List Link) → AreAllFound d w t cell links → AreInRange (length (items_of d w t cell)) links
found_in_range d w t cell links all = in_range (length (items_of d w t cell)) links (λ i j m.
    let f = all.each i j m in
    (slice_get_within (items_of d w t cell) i f.0 f.2, slice_get_within (items_of d w t cell) j f.1 f.3))

pub if_ok : {T E : Type 0} (P Q : T → Type 0) (r : Result T E) → ((x : T) → P x → Q x) → IfOk r P → IfOk r Q
if_ok P Q (Ok x) f h = f x h
if_ok P Q (Err e) f h = h
