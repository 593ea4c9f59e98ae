-- Calls of numbers are references of cells.
use Rattle.std.proofs.Common.{◌≡◌, inl, inr, ℕ, zero, suc, ◌+◌, ◌<◌, ◌≤◌, List, [], ◌∷◌, ◌++◌, Some, None, length, map, take, set, slice_get, refl, sym, ◌∙◌, ap, subst, arith}
use Rattle.std.proofs.lemmas.Bool.{cases_lt}
use Rattle.std.proofs.Math.Decide.{ℕ_discrete}
use Rattle.std.proofs.lemmas.Option.{slice_get_within}
use Rattle.std.proofs.lemmas.List.{get_or-set_same, get_or-set_other, take_all}
use Rattle.plain_netlist.specs.Chains.{IsChain}
use Rattle.plain_netlist.specs.Lists.{IsListed, AreApart}
use Rattle.call_order.specs.Order.{Calls, ReachesItself, IsCallOrder, IsFirstInCycle, AreInRange}
use Rattle.call_order.proofs.Results.{no_cycle}
use Rattle.cell_graph.specs.declared.cells.Place.{Place}
use Rattle.cell_graph.specs.declared.drafts.CellDraft.{CellDraft}
use Rattle.cell_graph.specs.Chains.{Leads, IsOnCycle, IsFirst, IsTooDeep, AreHeights}
use Rattle.cell_graph.specs.Drafts.{HasNoRepeat, HasNoCycle, HasNoDeep, AreParts, Refers}
use Rattle.cell_graph.specs.Parts.{Part, IsAmong, Places, AreResolved, called}
use Rattle.cell_graph.specs.Rising.{AreSettled, AreSettledTo, HaveHeights, height_in, IsOver, IsJustOver}
use Rattle.cell_graph.proofs.Firsts.{no_deep_low}
use Rattle.cell_graph.proofs.Resolving.{places_refers, refers_places, cycle_too, deep_too, height_too}
use Rattle.cell_graph.proofs.Raising.{set_rising}

among_listed : (places : List Place) (j : ℕ) → IsListed j (map (λ p. p.cell) places) → IsAmong places j
among_listed [] j h = absurd h
among_listed (p ∷ places) j (inl e) = (0, p, refl, sym e)
among_listed (p ∷ places) j (inr h) = let r = among_listed places j h in (suc r.0, r.1, r.2, r.3)

listed_among : (places : List Place) (k j : ℕ) (p : Place) → slice_get places k ≡ Some p → p.cell ≡ j → IsListed j (map (λ p. p.cell) places)
listed_among [] k j p e is = let f : None ≡ Some p = e in absurd (let z : ⊥ = cc in z)
listed_among (q ∷ places) zero j p e is = let same : q ≡ p = (let f : Some q ≡ Some p = e in cc) in inl (sym is ∙ ap (λ (r : Place). r.cell) (sym same))
listed_among (q ∷ places) (suc k) j p e is = inr (listed_among places k j p e is)

pub calls_places : (parts : List Part) (i j : ℕ) → Calls (called parts) i j → Places parts i j
calls_places [] i j h = absurd h
calls_places (p ∷ parts) zero j h = record { part = p; there = refl; among = among_listed p.items j h }
calls_places (p ∷ parts) (suc i) j h = let r = calls_places parts i j h in record { part = r.part; there = r.there; among = r.among }

pub places_calls : (parts : List Part) (i j : ℕ) → Places parts i j → Calls (called parts) i j
places_calls [] i j r = let f : None ≡ Some r.part = r.there in absurd (let z : ⊥ = cc in z)
places_calls (p ∷ parts) zero j r =
    let same : p ≡ r.part = (let f : Some p ≡ Some r.part = r.there in cc) in
    let a = r.among in
    subst (λ (q : Part). IsListed j (map (λ p. p.cell) q.items)) (sym same) (listed_among r.part.items a.0 j a.1 a.2 a.3)
places_calls (p ∷ parts) (suc i) j r = places_calls parts i j (record { part = r.part; there = r.there; among = r.among })

pub calls_in_range : (parts : List Part) → AreResolved parts → AreInRange (called parts)
calls_in_range parts resolved a b h =
    let r = calls_places parts a b h in
    let m = r.among in
    subst (λ n. b < n) (counted parts) (subst (λ c. c < length parts) m.3 (resolved.inside a r.part r.there m.0 m.1 m.2))
  where
    counted : (parts : List Part) → length parts ≡ length (called parts)
    counted [] = refl
    counted (p ∷ parts) = ap suc (counted parts)

leads_chain : (parts : List Part) (n i j : ℕ) → Leads (Places parts) i n j → (via : List ℕ) × IsChain (Calls (called parts)) i via j
leads_chain parts zero i j l = ([], l)
leads_chain parts (suc n) i j (k, r, l) = let h = leads_chain parts n k j l in (k ∷ h.0, (places_calls parts i k r, h.1))

chain_leads : (parts : List Part) (via : List ℕ) (i j : ℕ) → IsChain (Calls (called parts)) i via j → (n : ℕ) × Leads (Places parts) i n j
chain_leads parts [] i j e = (0, e)
chain_leads parts (k ∷ via) i j (c, h) = let r = chain_leads parts via k j h in (suc r.0, (k, calls_places parts i k c, r.1))

pub cycle_reaches : (parts : List Part) (i : ℕ) → IsOnCycle (Places parts) i → ReachesItself (called parts) i
cycle_reaches parts i (n, (k, r, l)) = let h = leads_chain parts n k i l in record { first = k; called = places_calls parts i k r; back = record { via = h.0; chain = h.1 } }

pub reaches_cycle : (parts : List Part) (i : ℕ) → ReachesItself (called parts) i → IsOnCycle (Places parts) i
reaches_cycle parts i h = let r = chain_leads parts h.back.via h.first i h.back.chain in (r.0, (h.first, calls_places parts i h.first h.called, r.1))

pub first_cycle : (parts : List Part) (i : ℕ) → IsFirstInCycle (called parts) i → IsFirst (IsOnCycle (Places parts)) i
first_cycle parts i h = record { here = reaches_cycle parts i h.reaches; before = λ j lt c. h.first j lt (cycle_reaches parts j c) }

pub ordered_no_cycle : (parts : List Part) (order : List ℕ) → IsCallOrder (called parts) order → (i : ℕ) → IsOnCycle (Places parts) i → ⊥
ordered_no_cycle parts order h i c = no_cycle (called parts) order h i (cycle_reaches parts i c)

pub called_more : (parts : List Part) (n : ℕ) (p : Part) → slice_get parts n ≡ Some p → called (take n parts) ++ map (λ q. q.cell) p.items ∷ [] ≡ called (take (suc n) parts)
called_more [] n p e = let f : None ≡ Some p = e in absurd (let z : ⊥ = cc in z)
called_more (x ∷ parts) zero p e = let same : x ≡ p = (let f : Some x ≡ Some p = e in cc) in ap (λ (y : Part). map (λ q. q.cell) y.items ∷ []) (sym same)
called_more (x ∷ parts) (suc n) p e = ap (λ ns. map (λ q. q.cell) x.items ∷ ns) (called_more parts n p e)

-- items among the first of a list
pub listed_at : (xs : List ℕ) (n i : ℕ) → IsListed i (take n xs) → (m : ℕ) × (m < n) × (slice_get xs m ≡ Some i)
listed_at [] zero i h = absurd h
listed_at [] (suc n) i h = absurd h
listed_at (x ∷ xs) zero i h = absurd h
listed_at (x ∷ xs) (suc n) i (inl e) = (0, (let f : 0 < suc n = omega arith in f), ap Some (sym e))
listed_at (x ∷ xs) (suc n) i (inr h) = let r = listed_at xs n i h in let lt = r.1 in (suc r.0, (let f : suc r.0 < suc n = omega arith in f), r.2)

pub at_listed : (xs : List ℕ) (n m i : ℕ) → m < n → slice_get xs m ≡ Some i → IsListed i (take n xs)
at_listed xs zero m i lt e = absurd (let z : ⊥ = omega arith in z)
at_listed [] (suc n) m i lt e = let f : None ≡ Some i = e in absurd (let z : ⊥ = cc in z)
at_listed (x ∷ xs) (suc n) zero i lt e = inl (let f : Some x ≡ Some i = e in let g : i ≡ x = cc in g)
at_listed (x ∷ xs) (suc n) (suc m) i lt e = inr (at_listed xs n m i (let f : m < n = omega arith in f) e)

listed_any : (xs : List ℕ) (m i : ℕ) → slice_get xs m ≡ Some i → IsListed i xs
listed_any [] m i e = let f : None ≡ Some i = e in absurd (let z : ⊥ = cc in z)
listed_any (x ∷ xs) zero i e = inl (let f : Some x ≡ Some i = e in let g : i ≡ x = cc in g)
listed_any (x ∷ xs) (suc m) i e = inr (listed_any xs m i e)

pub one_place : (xs : List ℕ) → AreApart xs → (n m i : ℕ) → slice_get xs n ≡ Some i → slice_get xs m ≡ Some i → n ≡ m
one_place [] apart n m i e f = let g : None ≡ Some i = e in absurd (let z : ⊥ = cc in z)
one_place (x ∷ xs) apart zero zero i e f = refl
one_place (x ∷ xs) apart zero (suc m) i e f = let g : i ≡ x = (let h : Some x ≡ Some i = e in cc) in absurd (apart.0 (subst (λ y. IsListed y xs) g (listed_any xs m i f)))
one_place (x ∷ xs) apart (suc n) zero i e f = let g : i ≡ x = (let h : Some x ≡ Some i = f in cc) in absurd (apart.0 (subst (λ y. IsListed y xs) g (listed_any xs n i e)))
one_place (x ∷ xs) apart (suc n) (suc m) i e f = ap suc (one_place xs apart.1 n m i e f)

pub settled_more : (parts : List Part) (order : List ℕ) (n cell : ℕ) (part : Part) (hs : List ℕ) (height : ℕ) → AreResolved parts → IsCallOrder (called parts) order
    → slice_get order n ≡ Some cell → slice_get parts cell ≡ Some part → IsOver part.items hs height → IsJustOver part.items hs height → height ≤ 65
    → AreSettledTo parts order n hs → AreSettledTo parts order (n + 1) (set hs cell height)
settled_more parts order n cell part hs height resolved o at there over just low h =
    let inside = slice_get_within parts cell part there in
    let in_hs : cell < length hs = subst (λ m. cell < m) (sym h.rising.count) inside in
    let new : height_in (set hs cell height) cell ≡ height = get_or-set_same hs cell height 0 in_hs in
    let other : (i : ℕ) → (i ≡ cell → ⊥) → height_in (set hs cell height) i ≡ height_in hs i = λ i not. get_or-set_other hs cell i height 0 not in
    let earlier : (j : ℕ) → IsListed j (take n order) → j ≡ cell → ⊥ = λ j l e.
    (let r = listed_at order n j l in
    let same = one_place order o.apart r.0 n cell (r.2 ∙ ap Some e) at in
    let lt = r.1 in let z : ⊥ = omega arith in z) in
    record {
      rising = set_rising parts cell hs part height resolved inside there just low h.rising;
      settled = λ i j l r.
          let p = listed_at order (n + 1) i l in
          let lt = p.1 in
          elim (ℕ_discrete p.0 n) [
            | yes e ↦
                let is : i ≡ cell = (let f : slice_get order n ≡ Some i = subst (λ k. slice_get order k ≡ Some i) e p.2 in let g : Some i ≡ Some cell = sym f ∙ at in cc) in
                let before : IsListed j (take n order) = subst (λ k. IsListed j (take k order)) e (o.behind p.0 i j p.2 (places_calls parts i j r)) in
                let among : IsAmong part.items j =
                (let f : slice_get parts cell ≡ Some r.part = subst (λ k. slice_get parts k ≡ Some r.part) is r.there in
                let g : r.part ≡ part = (let k : Some r.part ≡ Some part = sym f ∙ there in cc) in
                subst (λ (q : Part). IsAmong q.items j) g r.among) in
                let hj = other j (earlier j before) in
                let hi : height_in (set hs cell height) i ≡ height = ap (height_in (set hs cell height)) is ∙ new in
                elim (over j among) [ inl a ↦ inl (let f : height_in (set hs cell height) j < height_in (set hs cell height) i = omega arith in f) | inr a ↦ inr (let f : 65 ≤ height_in (set hs cell height) i = omega arith in f) ]
            | no e ↦
                let below : p.0 < n = omega arith in
                let li : IsListed i (take n order) = at_listed order n p.0 i below p.2 in
                let b = listed_at order p.0 j (o.behind p.0 i j p.2 (places_calls parts i j r)) in
                let blt = b.1 in
                let lj : IsListed j (take n order) = at_listed order n b.0 j (omega arith) b.2 in
                let hi = other i (earlier i li) in
                let hj = other j (earlier j lj) in
                elim (h.settled i j li r) [ inl a ↦ inl (let f : height_in (set hs cell height) j < height_in (set hs cell height) i = omega arith in f) | inr a ↦ inr (let f : 65 ≤ height_in (set hs cell height) i = omega arith in f) ]
          ];
    }

pub all_settled : (parts : List Part) (order : List ℕ) (n : ℕ) (hs : List ℕ) → IsCallOrder (called parts) order → length order ≤ n → AreSettledTo parts order n hs → AreSettled parts hs (λ i. i < length parts)
all_settled parts order n hs o le h i j lt r =
    h.settled i j (subst (IsListed i) (sym (take_all n order le)) (o.all i (subst (λ m. i < m) (counted parts) lt))) r
  where
    counted : (parts : List Part) → length parts ≡ length (called parts)
    counted [] = refl
    counted (p ∷ parts) = ap suc (counted parts)

below : (n : ℕ) → (65 ≤ n → ⊥) → n < 65
below n not = elim (cases_lt n 65) [ inl a ↦ a | inr b ↦ absurd (not b) ]

-- what the drafts tell by names
pub draft_no_cycle : (cells : List CellDraft) (parts : List Part) → HasNoRepeat cells → AreParts cells parts → (order : List ℕ) → IsCallOrder (called parts) order → HasNoCycle cells
draft_no_cycle cells parts once are order o i c = ordered_no_cycle parts order o i (cycle_too (Refers cells) (Places parts) (refers_places cells parts once are) i c)

pub draft_first_cycle : (cells : List CellDraft) (parts : List Part) → HasNoRepeat cells → AreParts cells parts → (i : ℕ) → IsFirstInCycle (called parts) i → IsFirst (IsOnCycle (Refers cells)) i
draft_first_cycle cells parts once are i h =
    let f = first_cycle parts i h in
    record {
      here = cycle_too (Places parts) (Refers cells) (places_refers cells parts are) i f.here;
      before = λ j lt c. f.before j lt (cycle_too (Refers cells) (Places parts) (refers_places cells parts once are) j c);
    }

pub cycle_inside : (cells : List CellDraft) (parts : List Part) → AreParts cells parts → (i : ℕ) → IsFirstInCycle (called parts) i → i < length cells
cycle_inside cells parts are i h =
    let r = calls_places parts i h.reaches.first h.reaches.called in
    subst (λ n. i < n) are.count (slice_get_within parts i r.part r.there)

pub draft_heights : (cells : List CellDraft) (parts : List Part) (hs : List ℕ) → HasNoRepeat cells → AreParts cells parts → length hs ≡ length parts → AreHeights (Places parts) hs
    → ((i : ℕ) → i < length hs → 65 ≤ height_in hs i → ⊥) → HaveHeights cells hs
draft_heights cells parts hs once are count h low = record {
  count = count ∙ are.count;
  each = λ i lt.
      let in_hs : i < length hs = subst (λ n. i < n) (sym (count ∙ are.count)) lt in
      let not = low i in_hs in
      height_too (Places parts) (Refers cells) (places_refers cells parts are) (refers_places cells parts once are) i (height_in hs i) (h.height i in_hs (below (height_in hs i) not));
}

pub none_deep : (cells : List CellDraft) (hs : List ℕ) → HaveHeights cells hs → ((i : ℕ) → i < length hs → 65 ≤ height_in hs i → ⊥) → HasNoDeep cells
none_deep cells hs h low i (n, more, (j, l)) =
    let lt : i < length cells = within n more l in
    let long = (h.each i lt).longest n (j, l) in
    low i (subst (λ m. i < m) (sym h.count) lt) (omega arith)
  where
    within : (n : ℕ) → 64 < n → Leads (Refers cells) i n j → i < length cells
    within zero more l = absurd (let z : ⊥ = omega arith in z)
    within (suc n) more (k, r, l) = slice_get_within cells i r.has.cell r.has.there

pub first_deep : (cells : List CellDraft) (parts : List Part) (hs : List ℕ) (i : ℕ) → HasNoRepeat cells → AreParts cells parts → length hs ≡ length parts → AreHeights (Places parts) hs
    → i < length hs → IsFirst (λ k. 65 ≤ height_in hs k) i → IsFirst (IsTooDeep (Refers cells)) i
first_deep cells parts hs i once are count h lt f = record {
  here = let low = h.low i lt in let high = f.here in deep_too (Places parts) (Refers cells) (places_refers cells parts are) i (h.deep i lt (omega arith));
  before = λ j before deep.
      let in_hs : j < length hs = omega arith in
      let not : 65 ≤ height_in hs j → ⊥ = f.before j before in
      no_deep_low (Places parts) j (height_in hs j) (below (height_in hs j) not) (h.height j in_hs (below (height_in hs j) not)) (deep_too (Refers cells) (Places parts) (refers_places cells parts once are) j deep);
}

called_count : (parts : List Part) → length (called parts) ≡ length parts
called_count [] = refl
called_count (p ∷ parts) = ap suc (called_count parts)

pub order_inside : (parts : List Part) (order : List ℕ) (n cell : ℕ) → IsCallOrder (called parts) order → slice_get order n ≡ Some cell → cell < length parts
order_inside parts order n cell o at = subst (λ m. cell < m) (called_count parts) (o.within cell (listed_any order n cell at))
