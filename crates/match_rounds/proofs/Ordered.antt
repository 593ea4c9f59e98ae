-- Ends in order.
use Rattle.std.proofs.Common.{◌≡◌, inl, inr, ◌<◌, ◌≤◌, ℕ, false, List, refl, sym, ap, arith, true≢false}
use Rattle.std.specs.declared.cmp.Ordering.{Ordering}
use Rattle.std.specs.declared.cmp.Ordering.TheVariants.{Less, Equal, Greater}
use Rattle.std.specs.Ordering.{nat_cmp, ordering_then, is_lt}
use Rattle.std.specs.List.Sorted.{IsSorted}
use Rattle.std.proofs.lemmas.Cmp.{ranked}
use Rattle.std.proofs.lemmas.List.Sorted.{sorted_far, ranks_by}
use Rattle.match_graph.specs.declared.graph.Port.{Port}
use Rattle.match_graph.specs.declared.graph.Port.TheVariants as port
use Rattle.match_graph.specs.declared.graph.End.{End}
use Rattle.match_graph.specs.contracts.graph.PortOrd.TheImpl as port_order
use Rattle.match_graph.specs.contracts.graph.EndOrd.TheImpl as end_order
use Rattle.match_graph.specs.contracts.graph.EndOrd.TheImpl.Laws as end_laws
use Rattle.match_graph.specs.Filling.{end}
use Rattle.match_rounds.specs.Touching.{end_at, IsPortBefore, IsNoLaterEnd, AreInOrder}

by_node : (m n : ℕ) (o : Ordering) → o ≡ nat_cmp n m → is_lt o ≡ false → m ≤ n
by_node m n Less e h = absurd (true≢false h)
by_node m n Equal e h = let r : n ≡ m = ranked n m Equal e in omega arith
by_node m n Greater e h = let r : m < n = ranked n m Greater e in omega arith

-- terminals of one group by their numbers
by_number : (group : ℕ → Port) (i j m n : ℕ) (o : Ordering) → (i < j → IsPortBefore (group i) (group j)) → o ≡ nat_cmp j i → is_lt (ordering_then o (nat_cmp n m)) ≡ false
    → IsNoLaterEnd (end (group i) m) (end (group j) n)
by_number group i j m n Less less e h = absurd (true≢false h)
by_number group i j m n Equal less e h = let r : j ≡ i = ranked j i Equal e in inr (ap group (sym r), by_node m n (nat_cmp n m) refl h)
by_number group i j m n Greater less e h = inl (less (ranked j i Greater e))

abbrev port_cmp : Port → Port → Ordering
port_cmp = port_order.cmp-value.it

abbrev pub end_cmp : End → End → Ordering
end_cmp = end_order.cmp-value.it

by_port : (p q : Port) (m n : ℕ) → is_lt (ordering_then (port_cmp q p) (nat_cmp n m)) ≡ false → IsNoLaterEnd (end p m) (end q n)
by_port port.EitherEnd port.EitherEnd m n h = inr (refl, by_node m n (nat_cmp n m) refl h)
by_port port.EitherEnd (port.Other j) m n h = inl (inl (omega arith))
by_port port.EitherEnd (port.Pin j) m n h = inl (inl (omega arith))
by_port (port.Other i) port.EitherEnd m n h = absurd (true≢false h)
by_port (port.Other i) (port.Other j) m n h = by_number port.Other i j m n (nat_cmp j i) (λ l. inr (refl, l)) refl h
by_port (port.Other i) (port.Pin j) m n h = inl (inl (omega arith))
by_port (port.Pin i) port.EitherEnd m n h = absurd (true≢false h)
by_port (port.Pin i) (port.Other j) m n h = absurd (true≢false h)
by_port (port.Pin i) (port.Pin j) m n h = by_number port.Pin i j m n (nat_cmp j i) (λ l. inr (refl, l)) refl h

pub in_order : (ends : List End) → IsSorted end_cmp ends → AreInOrder ends
in_order ends h i j l m =
    by_port (end_at ends i).port (end_at ends j).port (end_at ends i).node (end_at ends j).node
    (sorted_far (λ x y. is_lt (end_cmp x y)) (ranks_by end_laws.total-law (λ (x : End). x)) ends h i j (end port.EitherEnd 0) l m)
