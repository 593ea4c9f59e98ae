-- Heights on their way up.
use Rattle.std.proofs.Common.{◌≡◌, ◌⊎◌, inl, inr, ℕ, zero, suc, ◌+◌, ◌<◌, ◌≤◌, List, Some, length, get_or, set, slice_get, refl, sym, ◌∙◌, ap, subst, arith}
use Rattle.std.proofs.Math.Decide.{ℕ_discrete}
use Rattle.std.proofs.Math.ListN.{replicate}
use Rattle.std.proofs.lemmas.List.{get_or-set_same, get_or-set_other, length-set, get_or-replicate, length-replicate}
use Rattle.std.proofs.lemmas.Option.{slice_get_within, slice_get-get_or}
use Rattle.cell_graph.specs.declared.cells.Place.{Place}
use Rattle.cell_graph.specs.Chains.{Leads, HasChain, AreHeights}
use Rattle.cell_graph.specs.Parts.{Part, IsAmong, Places, AreResolved}
use Rattle.cell_graph.specs.Rising.{AreRising, AreSettled, height_in, IsOver, IsJustOver, IsHigher}
use Rattle.cell_graph.specs.Marking.{IsAmongFirst}

-- the height after the first places
pub record AboveSoFar (places : List Place) (heights : List ℕ) (n most : ℕ) : Type 0 where
  pub over : (j : ℕ) → IsAmongFirst places n j → (height_in heights j < most) ⊎ (65 ≤ most)
  pub just : (most ≡ 0) ⊎ ((j : ℕ) × IsAmong places j × (most ≤ height_in heights j + 1))
  pub low : most ≤ 65

-- a chain's first steps are a chain
shorter : (R : ℕ → ℕ → Type 0) (i n : ℕ) → HasChain R i (suc n) → HasChain R i n
shorter R i zero c = (i, refl)
shorter R i (suc n) (j, (k, r, l)) = let h = shorter R k n (j, l) in (h.0, (k, r, h.1))

pub short : (R : ℕ → ℕ → Type 0) (i n m : ℕ) → n ≤ m → HasChain R i m → HasChain R i n
short R i n zero le c = let e : zero ≡ n = omega arith in subst (HasChain R i) e c
short R i n (suc m) le c = elim (ℕ_discrete n (suc m)) [
  | yes e ↦ subst (HasChain R i) (sym e) c
  | no e ↦ short R i n m (omega arith) (shorter R i m c)
]

pub longer : (R : ℕ → ℕ → Type 0) (i j n : ℕ) → R i j → HasChain R j n → HasChain R i (suc n)
longer R i j n r (k, l) = (k, (j, r, l))

-- heights fall along a chain
falls : (parts : List Part) (hs : List ℕ) → length hs ≡ length parts → AreResolved parts → AreSettled parts hs (λ i. i < length parts)
    → (n i j : ℕ) → i < length parts → height_in hs i < 65 → Leads (Places parts) i n j → height_in hs j + n ≤ height_in hs i
falls parts hs e resolved settled zero i j lt h l = let f : height_in hs i ≡ height_in hs j = ap (height_in hs) l in omega arith
falls parts hs e resolved settled (suc n) i j lt h (k, r, l) =
    let in_k : k < length parts = subst (λ c. c < length parts) r.among.3 (resolved.inside i r.part r.there r.among.0 r.among.1 r.among.2) in
    elim (settled i k lt r) [
      | inl below ↦ let rest = falls parts hs e resolved settled n k j in_k (omega arith) l in omega arith
      | inr high ↦ absurd (let z : ⊥ = omega arith in z)
    ]

pub at_end : (parts : List Part) (hs : List ℕ) → AreResolved parts → AreRising parts hs → AreSettled parts hs (λ i. i < length parts) → AreHeights (Places parts) hs
at_end parts hs resolved rising settled = record {
  height = λ i lt h. record {
    chain = rising.chain i lt;
    longest = λ n c. let f = falls parts hs rising.count resolved settled n i c.0 (subst (λ m. i < m) rising.count lt) h c.1 in omega arith;
  };
  low = λ i lt. rising.low i;
  deep = λ i lt e. (65, (let a : 64 < 65 = omega arith in a), subst (HasChain (Places parts) i) e (rising.chain i lt));
}

-- the next place
pub above_next : (places : List Place) (hs : List ℕ) (n most more : ℕ) (p : Place) → slice_get places n ≡ Some p
    → most ≤ more → (height_in hs p.cell < more) ⊎ (65 ≤ more) → (more ≡ most) ⊎ (more ≤ height_in hs p.cell + 1) → more ≤ 65
    → AboveSoFar places hs n most → AboveSoFar places hs (n + 1) more
above_next places hs n most more p there le over just low h = record {
  over = λ j (k, q, lt, at, is). elim (ℕ_discrete k n) [
    | yes e ↦
        let same : q ≡ p = (let f : slice_get places n ≡ Some q = subst (λ i. slice_get places i ≡ Some q) e at in let g : Some q ≡ Some p = sym f ∙ there in cc) in
        let cell : p.cell ≡ j = ap (λ (r : Place). r.cell) (sym same) ∙ is in
        subst (λ c. (height_in hs c < more) ⊎ (65 ≤ more)) cell over
    | no e ↦ elim (h.over j (k, q, (let f : k < n = omega arith in f), at, is)) [ inl a ↦ inl (let f : height_in hs j < more = omega arith in f) | inr a ↦ inr (let f : 65 ≤ more = omega arith in f) ]
  ];
  just = elim just [
    | inl e ↦ subst (λ m. (m ≡ 0) ⊎ ((j : ℕ) × IsAmong places j × (m ≤ height_in hs j + 1))) (sym e) h.just
    | inr b ↦ inr (p.cell, (n, p, there, refl), b)
  ];
  low = low;
}

pub above_all : (places : List Place) (hs : List ℕ) (n most : ℕ) → length places ≤ n → AboveSoFar places hs n most → IsOver places hs most
above_all places hs n most le h j (k, p, at, is) = let lt = slice_get_within places k p at in h.over j (k, p, (let f : k < n = omega arith in f), at, is)

-- the height of one more cell
pub set_rising : (parts : List Part) (n : ℕ) (hs : List ℕ) (part : Part) (height : ℕ) → AreResolved parts → n < length parts → slice_get parts n ≡ Some part
    → IsJustOver part.items hs height → height ≤ 65 → AreRising parts hs → AreRising parts (set hs n height)
set_rising parts n hs part height resolved inside there just low rising =
    let in_hs : n < length hs = subst (λ m. n < m) (sym rising.count) inside in
    let chain : HasChain (Places parts) n height = elim just [
      | inl e ↦ subst (HasChain (Places parts) n) (sym e) (n, refl)
      | inr (j, among, le) ↦
          let in_j : j < length hs = subst (λ m. j < m) (sym rising.count) (subst (λ c. c < length parts) among.3 (resolved.inside n part there among.0 among.1 among.2)) in
          let place : Places parts n j = record { part = part; there = there; among = among } in
          short (Places parts) n height (suc (height_in hs j)) (omega arith) (longer (Places parts) n j (height_in hs j) place (rising.chain j in_j))
    ] in
    record {
      count = length-set hs n height ∙ rising.count;
      low = λ i. elim (ℕ_discrete i n) [
        | yes e ↦ subst (λ k. height_in (set hs n height) k ≤ 65) (sym e) (subst (λ v. v ≤ 65) (sym (get_or-set_same hs n height 0 in_hs)) low)
        | no e ↦ subst (λ v. v ≤ 65) (sym (get_or-set_other hs n i height 0 e)) (rising.low i)
      ];
      chain = λ i lt'. elim (ℕ_discrete i n) [
        | yes e ↦ subst (λ k. HasChain (Places parts) k (height_in (set hs n height) k)) (sym e) (subst (HasChain (Places parts) n) (sym (get_or-set_same hs n height 0 in_hs)) chain)
        | no e ↦ subst (HasChain (Places parts) i) (sym (get_or-set_other hs n i height 0 e)) (rising.chain i (subst (λ m. i < m) (length-set hs n height) lt'))
      ];
    }

pub all_zero : (parts : List Part) → AreRising parts (replicate (length parts) 0)
all_zero parts = record {
  count = length-replicate (length parts) 0;
  low = λ i. zero_low (length parts) i;
  chain = λ i lt. subst (HasChain (Places parts) i) (sym (get_or-replicate (length parts) i 0 0 (subst (λ m. i < m) (length-replicate (length parts) 0) lt))) (i, refl);
}
  where
    zero_low : (n i : ℕ) → height_in (replicate n 0) i ≤ 65
    zero_low zero i = omega arith
    zero_low (suc n) zero = omega arith
    zero_low (suc n) (suc i) = zero_low n i

pub above_more : (places : List Place) (hs : List ℕ) (n most more : ℕ) (d : Place) → n < length places → IsHigher most (height_in hs (get_or places n d).cell) more
    → AboveSoFar places hs n most → AboveSoFar places hs (n + 1) more
above_more places hs n most more d lt up h = above_next places hs n most more (get_or places n d) (slice_get-get_or places n d lt) up.kept up.above up.just up.low h
