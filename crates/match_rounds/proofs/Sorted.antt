-- Parts in order, and lists that are others reordered.
use Rattle.std.proofs.Common.{◌≡◌, inl, inr, ◌<◌, ◌≤◌, false, List, refl, sym, arith, true≢false}
use Rattle.std.specs.declared.cmp.Ordering.{Ordering}
use Rattle.std.specs.declared.cmp.Ordering.TheVariants.{Less, Equal, Greater}
use Rattle.std.specs.Ordering.{nat_cmp, ordering_then, is_lt}
use Rattle.std.specs.Cmp.{IsTotalOrder}
use Rattle.std.specs.List.Sorted.{IsSorted}
use Rattle.std.proofs.lemmas.Cmp.{ranked, nat_cmp_total, on_total, then_total}
use Rattle.std.proofs.lemmas.List.Sorted.{sorted_far, ranks_by}
use Rattle.match_rounds.specs.declared.groups.Part.{Part}
use Rattle.match_rounds.specs.Pieces.{entry, IsNoLaterPart, AreOrdered}

abbrev part_cmp : Part → Part → Ordering
part_cmp p q = ordering_then (nat_cmp p.class q.class) (ordering_then (nat_cmp p.count q.count) (nat_cmp p.node q.node))

part_total : IsTotalOrder part_cmp
part_total = then_total (on_total (λ (p : Part). p.class) nat_cmp_total) (then_total (on_total (λ (p : Part). p.count) nat_cmp_total) (on_total (λ (p : Part). p.node) nat_cmp_total))

by_count : (p q : Part) (o : Ordering) → o ≡ nat_cmp q.count p.count → is_lt (ordering_then o (nat_cmp q.node p.node)) ≡ false → p.count ≤ q.count
by_count p q Less e h = absurd (true≢false h)
by_count p q Equal e h = let r : q.count ≡ p.count = ranked q.count p.count Equal e in omega arith
by_count p q Greater e h = let r : p.count < q.count = ranked q.count p.count Greater e in omega arith

by_class : (p q : Part) (o : Ordering) → o ≡ nat_cmp q.class p.class → is_lt (ordering_then o (ordering_then (nat_cmp q.count p.count) (nat_cmp q.node p.node))) ≡ false → IsNoLaterPart p q
by_class p q Less e h = absurd (true≢false h)
by_class p q Equal e h = let r : q.class ≡ p.class = ranked q.class p.class Equal e in inr (sym r, by_count p q (nat_cmp q.count p.count) refl h)
by_class p q Greater e h = inl (ranked q.class p.class Greater e)

pub ordered : (parts : List Part) → IsSorted part_cmp parts → AreOrdered parts
ordered parts h e f l m =
    by_class (entry parts e) (entry parts f) (nat_cmp (entry parts f).class (entry parts e).class) refl
    (sorted_far (λ x y. is_lt (part_cmp x y)) (ranks_by part_total (λ (x : Part). x)) parts h e f (record { class = 0; count = 0; node = 0 }) m l)
