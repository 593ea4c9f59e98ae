-- The strips of weighted edges.
use Rattle.std.proofs.Common.{◌≡◌, ◌⊎◌, inl, inr, ℕ, ℤ, pos, ◌+ℤ◌, ◌-ℤ◌, ◌≤ℤ◌, ◌<ℤ◌, ◌≤◌, ◌<◌, ◌+◌, List, [], ◌∷◌, ◌++◌, Bool, true, false, ◌||◌, ◌&&◌, drop, length, refl, sym, ◌∙◌, ap, subst, arith, int_le, if◌then◌else◌}
use Rattle.base_laws.proofs.Tests.{same_truth}
use Rattle.std.proofs.lemmas.Int.{ints, by_lt_z}
use Rattle.std.proofs.lemmas.List.{drop_all}
use Rattle.std.proofs.lemmas.Bool.{false≢true, cases_lt, and_left}
use Rattle.geo_base.specs.Rects.{is_between, has}
use Rattle.rect_sets.specs.Rects.{covers, IsBlock, IsListed}
use Rattle.rect_sets.specs.Edges.{first_of, second_of, sum_where, crosses, acts_on, weight, total, set_of, IsBalanced}
use Rattle.rect_sets.specs.Rows.{weight_up_to, weight_of_all, IsRow, HasRunsOf}
use Rattle.rect_sets.specs.Opens.{nexts, ended}
use Rattle.rect_sets.specs.Sweeps.{IsStrip, ListHas, Swept, AreBlocks}
use Rattle.rect_sets.specs.Actives.{leftmost, edge_at, Follows, AreNext, HaveBegun, AreCrossing, EndFrom, Ignores, Merged, IsEnd}
use Rattle.rect_sets.specs.Blocks.{InSweepOrder, SweepState}
use Rattle.rect_sets.proofs.Merging.{cut_edges}
use Rattle.rect_sets.proofs.RowRuns.{no_weights, same_holds}
use Rattle.rect_sets.proofs.Sweeping.{swept_more}
use Rattle.rect_sets.specs.declared.row.Span.{Span}
use Rattle.geo_base.specs.declared.shapes.Rect.{Rect}
use Rattle.geo_base.specs.declared.shapes.Square.{Square}
use Rattle.rect_sets.specs.declared.opens.Open.{Open}
use Rattle.rect_sets.specs.declared.row.Edge.{Edge}
use Rattle.geo_base.specs.declared.layer.Op.{Op}

-- a test that no edge passes that begins above the row
abbrev Misses : ℤ → (Edge → Bool) → Type 0
Misses row test = (e : Edge) → row <ℤ e.y1 → test e ≡ false

if_not : (b : Bool) (v : ℤ) → b ≡ false → (if b then v else pos 0) ≡ pos 0
if_not true v e = absurd (false≢true (sym e))
if_not false v e = refl

if_so : (b : Bool) (v : ℤ) → b ≡ true → (if b then v else pos 0) ≡ v
if_so true v e = refl
if_so false v e = absurd (false≢true e)

first_after : (y x row : ℤ) (e : Edge) → Follows y x e → row <ℤ y → row <ℤ e.y1
first_after y x row e (inl h) lt = omega (arith, ints)
first_after y x row e (inr h) lt = let h0 = h.0 in omega (arith, ints)

none_later : (test : Edge → Bool) (field : Edge → ℤ) (row y x : ℤ) (edges : List Edge) → Misses row test → AreNext y x edges → row <ℤ y → sum_where test field edges ≡ pos 0
none_later test field row y x [] m h lt = refl
none_later test field row y x (e ∷ edges) m h lt =
    let lt' : row <ℤ e.y1 = first_after y x row e h.0 lt in
    let z = if_not (test e) (field e) (m e lt') in
    let rest = none_later test field row e.y1 e.x edges m h.3 lt' in
    omega (arith, ints, z, rest)

none_from : (test : Edge → Bool) (field : Edge → ℤ) (row y x : ℤ) (edges : List Edge) (k : ℕ) → Misses row test → AreNext y x (drop k edges) → (k < length edges → row <ℤ (edge_at edges k).y1) → sum_where test field (drop k edges) ≡ pos 0
none_from test field row y x edges k m h first = elim (cases_lt k (length edges)) [
  | inl lt ↦ (let cut = cut_edges edges k lt in
      let g = subst (λ (q : List Edge). AreNext y x q) cut h in
      let z = if_not (test (edge_at edges k)) (field (edge_at edges k)) (m (edge_at edges k) (first lt)) in
      let rest = none_later test field row (edge_at edges k).y1 (edge_at edges k).x (drop (k + 1) edges) m g.3 (first lt) in
      ap (λ (q : List Edge). sum_where test field q) cut ∙ omega (arith, ints, z, rest))
  | inr le ↦ ap (λ (q : List Edge). sum_where test field q) (drop_all k edges le)
]

and_second : (b c : Bool) → b ≡ true → (b && c) ≡ c
and_second true c e = refl
and_second false c e = absurd (false≢true e)

not_yet : (row : ℤ) (e : Edge) → row <ℤ e.y1 → crosses row e ≡ false
not_yet row e h = grind (arith, ints)

no_more : (row : ℤ) (e : Edge) → e.y2 ≤ℤ row → crosses row e ≡ false
no_more row e h = grind (arith, ints)

crossing : (row : ℤ) (e : Edge) → e.y1 ≤ℤ row → row <ℤ e.y2 → crosses row e ≡ true
crossing row e h g = grind (arith, ints)

acts_misses : (s : Square) → Misses s.y (acts_on s)
acts_misses s e lt = and_left (crosses s.y e) (int_le e.x s.x) (not_yet s.y e lt)

acts_ignores : (s : Square) (y : ℤ) → y ≤ℤ s.y → Ignores y (acts_on s)
acts_ignores s y le e h = and_left (crosses s.y e) (int_le e.x s.x) (no_more s.y e (omega (arith, ints)))

crosses_ignores : (row y : ℤ) → y ≤ℤ row → Ignores y (crosses row)
crosses_ignores row y le e h = no_more row e (omega (arith, ints))

no_square : (op : Op) (edges : List Edge) (s : Square) → weight first_of edges s ≡ pos 0 → weight second_of edges s ≡ pos 0 → set_of op edges s ≡ false
no_square op edges s a b = same_holds op _ _ _ _ a b ∙ no_weights op

-- the start

order_from : (edges : List Edge) (y : ℤ) → (0 < length edges → y ≡ (edge_at edges 0).y1) → InSweepOrder edges → AreNext y leftmost edges
order_from [] y f h = tt
order_from (e ∷ edges) y f h = subst (λ (q : ℤ). AreNext q leftmost (e ∷ edges)) (sym (f (omega arith))) h

none_below : (op : Op) (edges : List Edge) (y : ℤ) (s : Square) → AreNext y leftmost edges → s.y <ℤ y → set_of op edges s ≡ false
none_below op edges y s h lt = no_square op edges s (none_later (acts_on s) first_of s.y y leftmost edges (acts_misses s) h lt) (none_later (acts_on s) second_of s.y y leftmost edges (acts_misses s) h lt)

zero_plus : (a : ℤ) → (pos 0 +ℤ a) ≡ a
zero_plus a = omega (arith, ints)

plus_zero : (a b c : ℤ) → (a +ℤ b) ≡ c → b ≡ pos 0 → c ≡ a
plus_zero a b c h z = omega (arith, ints)

corner : (set : Square → Bool) (r : Rect) → IsBlock set r → (row : ℤ) → r.y1 ≤ℤ row → row <ℤ r.y2 → set (record { x = r.x1; y = row }) ≡ true
corner set r k row low high = let run = k.rows row low high in let some = run.some in run.inside r.x1 (omega (arith, ints)) some

start_swept : (op : Op) (edges : List Edge) (y : ℤ) → AreNext y leftmost edges → Swept (set_of op edges) y [] []
start_swept op edges y h = record {
  row = record { from = pos 0; apart = tt; same = λ x. sym (none_below op edges y (record { x = x; y = y -ℤ pos 1 }) h (omega (arith, ints))) };
  each_open = λ o g. absurd g;
  each_closed = λ r g. absurd g;
  all_closed = λ r k lt. let some = k.some in absurd (false≢true (sym (none_below op edges y (record { x = r.x1; y = r.y1 }) h (omega (arith, ints))) ∙ corner (set_of op edges) r k r.y1 (omega (arith, ints)) some));
  covered = λ s e lt. absurd (false≢true (sym (none_below op edges y s h lt) ∙ e));
}

pub start : (op : Op) (edges : List Edge) (y : ℤ) → (0 < length edges → y ≡ (edge_at edges 0).y1) → InSweepOrder edges → SweepState op edges y 0 [] [] []
start op edges y f h =
    let next = order_from edges y f h in
    record {
      swept = start_swept op edges y next;
      ready = record { at_in = omega arith; order = tt; begun = tt; next = next };
      part = λ test field ignores. zero_plus (sum_where test field edges);
    }

-- the sums after the merge

abbrev Parts : ℤ → List Edge → ℕ → List Edge → Type 0
Parts y edges at active = (test : Edge → Bool) (field : Edge → ℤ) → Ignores y test → (sum_where test field active +ℤ sum_where test field (drop at edges)) ≡ sum_where test field edges

pub parts : (op : Op) (edges : List Edge) (y : ℤ) (at at' : ℕ) (active merged : List Edge) (opens : List Open) (closed : List Rect) → SweepState op edges y at active opens closed → Merged y active edges at at' merged → Parts y edges at' merged
parts op edges y at at' active merged opens closed h m test field ignores = m.sums test field ignores ∙ h.part test field ignores

later_first : (y end : ℤ) (edges : List Edge) (at : ℕ) (row : ℤ) → row <ℤ end → (at < length edges → end ≤ℤ (edge_at edges at).y1) → at < length edges → row <ℤ (edge_at edges at).y1
later_first y end edges at row lt f l = let g = f l in omega (arith, ints)

-- all that cross the row count in full
full_total : (y : ℤ) (field : Edge → ℤ) (active : List Edge) → AreCrossing y active → sum_where (crosses y) field active ≡ weight_of_all field active
full_total y field [] h = refl
full_total y field (e ∷ active) h =
    let one = if_so (crosses y e) (field e) (crossing y e h.0 h.1) in
    let rest = full_total y field active h.2 in
    omega (arith, ints, one, rest)

balanced : (field : Edge → ℤ) (edges : List Edge) (y low : ℤ) (at : ℕ) (active : List Edge) → Parts y edges at active → AreNext y low (drop at edges) → (at < length edges → y <ℤ (edge_at edges at).y1) → AreCrossing y active → total field edges y ≡ pos 0 → weight_of_all field active ≡ pos 0
balanced field edges y low at active p next later cross z =
    let all = p (crosses y) field (crosses_ignores y y (omega (arith, ints))) in
    let none = none_from (crosses y) field y y low edges at (not_yet y) next later in
    let full = full_total y field active cross in
    omega (arith, ints, all, none, full, z)

pub is_row : (op : Op) (edges : List Edge) (y : ℤ) (at at' : ℕ) (active merged : List Edge) (opens : List Open) (closed : List Rect) → SweepState op edges y at active opens closed → Merged y active edges at at' merged → IsBalanced edges → IsRow leftmost merged
is_row op edges y at at' active merged opens closed h m b =
    let p : Parts y edges at' merged = parts op edges y at at' active merged opens closed h m in
    record {
      in_order = m.order;
      first_balanced = balanced first_of edges y m.low at' merged p m.next m.later m.crossing (b.first y);
      second_balanced = balanced second_of edges y m.low at' merged p m.next m.later m.crossing (b.second y);
    }

-- the strip

acts_here : (field : Edge → ℤ) (y end x row : ℤ) (active : List Edge) → AreCrossing y active → EndFrom end active → y ≤ℤ row → row <ℤ end → sum_where (acts_on (record { x = x; y = row })) field active ≡ weight_up_to field active x
acts_here field y end x row [] h g low high = refl
acts_here field y end x row (e ∷ active) h g low high =
    let h0 = h.0 in let g0 = g.0 in
    let same : acts_on (record { x = x; y = row }) e ≡ int_le e.x x = and_second (crosses row e) (int_le e.x x) (crossing row e (omega (arith, ints)) (omega (arith, ints))) in
    let rest = acts_here field y end x row active h.2 g.1 low high in
    ap (λ (b : Bool). (if b then field e else pos 0) +ℤ sum_where (acts_on (record { x = x; y = row })) field active) same ∙ ap (λ (v : ℤ). (if int_le e.x x then field e else pos 0) +ℤ v) rest

weight_here : (field : Edge → ℤ) (edges : List Edge) (y end low x row : ℤ) (at : ℕ) (active : List Edge) → Parts y edges at active → AreNext y low (drop at edges) → AreCrossing y active → IsEnd y active edges at end → y ≤ℤ row → row <ℤ end → weight field edges (record { x = x; y = row }) ≡ weight_up_to field active x
weight_here field edges y end low x row at active p next cross is_end below above =
    let s : Square = record { x = x; y = row } in
    let all = p (acts_on s) field (acts_ignores s y below) in
    let none = none_from (acts_on s) field row y low edges at (acts_misses s) next (later_first y end edges at row above is_end.later) in
    plus_zero _ _ _ all none ∙ acts_here field y end x row active cross is_end.ends below above

pub is_strip : (op : Op) (edges : List Edge) (y end : ℤ) (at at' : ℕ) (active merged : List Edge) (opens : List Open) (closed : List Rect) (runs : List Span) → SweepState op edges y at active opens closed → Merged y active edges at at' merged → IsEnd y merged edges at' end → HasRunsOf op merged runs → IsStrip (set_of op edges) y end runs
is_strip op edges y end at at' active merged opens closed runs h m is_end r =
    let p : Parts y edges at' merged = parts op edges y at at' active merged opens closed h m in
    record {
      some = is_end.some;
      rows = λ row below above. record {
        from = r.from;
        apart = r.apart;
        same = λ x. r.same x ∙ same_holds op _ _ _ _
            (sym (weight_here first_of edges y end m.low x row at' merged p m.next m.crossing is_end below above))
            (sym (weight_here second_of edges y end m.low x row at' merged p m.next m.crossing is_end below above));
      };
    }

begun_by : (y end : ℤ) (active : List Edge) → y <ℤ end → AreCrossing y active → HaveBegun end active
begun_by y end [] lt h = tt
begun_by y end (e ∷ active) lt h = let h0 = h.0 in (omega (arith, ints), begun_by y end active lt h.2)

next_from : (y end low : ℤ) (edges : List Edge) (at : ℕ) → AreNext y low (drop at edges) → (at < length edges → end ≤ℤ (edge_at edges at).y1) → AreNext end leftmost (drop at edges)
next_from y end low edges at h f = elim (cases_lt at (length edges)) [
  | inl lt ↦ (let cut = cut_edges edges at lt in
      let g = subst (λ (q : List Edge). AreNext y low q) cut h in
      subst (λ (q : List Edge). AreNext end leftmost q) (sym cut) (at_or_after end (edge_at edges at) (f lt) g.1, g.1, g.2, g.3))
  | inr le ↦ subst (λ (q : List Edge). AreNext end leftmost q) (sym (drop_all at edges le)) tt
]
  where
    at_or_after : (end : ℤ) (e : Edge) → end ≤ℤ e.y1 → leftmost ≤ℤ e.x → Follows end leftmost e
    at_or_after end e le left = by_lt_z end e.y1 (λ lt. inl lt) (λ ge. inr (omega (arith, ints), left))

pub next_state : (op : Op) (edges : List Edge) (y end : ℤ) (at at' : ℕ) (active merged : List Edge) (opens opens' : List Open) (closed closed' : List Rect) (runs : List Span) → SweepState op edges y at active opens closed → Merged y active edges at at' merged → IsEnd y merged edges at' end → HasRunsOf op merged runs → opens' ≡ nexts y opens runs → closed' ≡ closed ++ ended y opens runs → SweepState op edges end at' merged opens' closed'
next_state op edges y end at at' active merged opens opens' closed closed' runs h m is_end r eo ec =
    let strip = is_strip op edges y end at at' active merged opens closed runs h m is_end r in
    let swept = swept_more (set_of op edges) y end opens closed runs h.swept strip in
    let some = is_end.some in
    record {
      swept = subst (λ (q : List Open). Swept (set_of op edges) end q closed') (sym eo) (subst (λ (q : List Rect). Swept (set_of op edges) end (nexts y opens runs) q) (sym ec) swept);
      ready = record { at_in = m.at_in; order = m.order; begun = begun_by y end merged some m.crossing; next = next_from y end m.low edges at' m.next is_end.later };
      part = λ test field ignores. parts op edges y at at' active merged opens closed h m test field (λ e le. ignores e (omega (arith, ints)));
    }

-- the end

none_above : (op : Op) (edges : List Edge) (y : ℤ) (at : ℕ) (active : List Edge) (s : Square) → Parts y edges at active → active ≡ [] → drop at edges ≡ [] → y ≤ℤ s.y → set_of op edges s ≡ false
none_above op edges y at active s p a d le = no_square op edges s (zero first_of) (zero second_of)
  where
    zero : (field : Edge → ℤ) → weight field edges s ≡ pos 0
    zero field =
        let all = p (acts_on s) field (acts_ignores s y le) in
        let za : sum_where (acts_on s) field active ≡ pos 0 = ap (λ (q : List Edge). sum_where (acts_on s) field q) a in
        let zd : sum_where (acts_on s) field (drop at edges) ≡ pos 0 = ap (λ (q : List Edge). sum_where (acts_on s) field q) d in
        omega (arith, ints, all, za, zd)

pub listed_covers : (rects : List Rect) (s : Square) (r : Rect) → IsListed r rects → has r s ≡ true → covers rects s ≡ true
listed_covers [] s r h e = absurd h
listed_covers (q ∷ rects) s r (inl f) e = yes_first (has q s) (covers rects s) (subst (λ (p : Rect). has p s ≡ true) f e)
  where
    yes_first : (b c : Bool) → b ≡ true → (b || c) ≡ true
    yes_first true c e = refl
    yes_first false c e = absurd (false≢true e)
listed_covers (q ∷ rects) s r (inr h) e = yes_second (has q s) (covers rects s) (listed_covers rects s r h e)
  where
    yes_second : (b c : Bool) → c ≡ true → (b || c) ≡ true
    yes_second true c e = refl
    yes_second false c e = e

pub covers_listed : (rects : List Rect) (s : Square) → covers rects s ≡ true → ListHas rects s
covers_listed [] s e = absurd (false≢true e)
covers_listed (q ∷ rects) s e = elim (or_split (has q s) (covers rects s) e) [
  | inl f ↦ record { one = q; listed = inl refl; inside = f }
  | inr f ↦ (let l = covers_listed rects s f in record { one = l.one; listed = inr l.listed; inside = l.inside })
]
  where
    or_split : (b c : Bool) → (b || c) ≡ true → (b ≡ true) ⊎ (c ≡ true)
    or_split true c e = inl refl
    or_split false c e = inr e

pub within_block : (set : Square → Bool) (r : Rect) (s : Square) → IsBlock set r → has r s ≡ true → set s ≡ true
within_block set r s k e =
    let h = parts_of r s e in
    (k.rows s.y h.2 h.3).inside s.x h.0 h.1
  where
    low_of : (low x high : ℤ) → is_between low x high ≡ true → (low ≤ℤ x) × (x <ℤ high)
    low_of low x high e = (by_lt_z x low (λ lt. absurd (false≢true (sym (out_low low x high lt) ∙ e))) (λ le. le), by_lt_z x high (λ lt. lt) (λ le. absurd (false≢true (sym (out_high low x high le) ∙ e))))
      where
        out_low : (low x high : ℤ) → x <ℤ low → is_between low x high ≡ false
        out_low low x high h = grind (arith, ints)

        out_high : (low x high : ℤ) → high ≤ℤ x → is_between low x high ≡ false
        out_high low x high h = grind (arith, ints)

    and_split : (b c : Bool) → (b && c) ≡ true → (b ≡ true) × (c ≡ true)
    and_split true c e = (refl, e)
    and_split false c e = absurd (false≢true e)

    parts_of : (r : Rect) (s : Square) → has r s ≡ true → (r.x1 ≤ℤ s.x) × (s.x <ℤ r.x2) × (r.y1 ≤ℤ s.y) × (s.y <ℤ r.y2)
    parts_of r s e =
        let p = and_split (is_between r.x1 s.x r.x2) (is_between r.y1 s.y r.y2) e in
        let a = low_of r.x1 s.x r.x2 p.0 in
        let b = low_of r.y1 s.y r.y2 p.1 in
        (a.0, a.1, b.0, b.1)

-- nothing of the set is at y or above
pub finished : (set : Square → Bool) (y : ℤ) (opens : List Open) (closed : List Rect) → Swept set y opens closed → ((s : Square) → y ≤ℤ s.y → set s ≡ false) → AreBlocks set (closed ++ ended y opens [])
finished set y opens closed h none =
    let strip : IsStrip set y (y +ℤ pos 1) [] = record {
      some = omega (arith, ints);
      rows = λ row low high. record { from = pos 0; apart = tt; same = λ x. sym (none (record { x = x; y = row }) low) };
    } in
    let g : Swept set (y +ℤ pos 1) [] (closed ++ ended y opens []) = swept_more set y (y +ℤ pos 1) opens closed [] h strip in
    let low : (r : Rect) → IsBlock set r → r.y2 <ℤ (y +ℤ pos 1) = λ (r : Rect) (k : IsBlock set r). let some = k.some in by_lt_z y r.y2
    (λ lt. absurd (false≢true (sym (none (record { x = r.x1; y = r.y2 -ℤ pos 1 }) (omega (arith, ints))) ∙ corner set r k (r.y2 -ℤ pos 1) (omega (arith, ints)) (omega (arith, ints)))))
    (λ le. omega (arith, ints)) in
    record {
      each = λ r. (λ l. (g.each_closed r l).0, λ k. g.all_closed r k (low r k));
      same = λ s. same_truth (covers (closed ++ ended y opens []) s) (set s)
          (λ e. let l = covers_listed (closed ++ ended y opens []) s e in within_block set l.one s (g.each_closed l.one l.listed).0 l.inside)
          (λ e. by_lt_z s.y (y +ℤ pos 1)
          (λ lt. elim (g.covered s e lt) [ inl o ↦ absurd o.among | inr l ↦ listed_covers (closed ++ ended y opens []) s l.one l.listed l.inside ])
          (λ le. absurd (false≢true (sym (none s (omega (arith, ints))) ∙ e))));
    }

pub all_blocks : (op : Op) (edges : List Edge) (y : ℤ) (at at' : ℕ) (active merged : List Edge) (opens : List Open) (closed closed' : List Rect) → SweepState op edges y at active opens closed → Merged y active edges at at' merged → length edges ≤ at' → merged ≡ [] → closed' ≡ closed ++ ended y opens [] → AreBlocks (set_of op edges) closed'
all_blocks op edges y at at' active merged opens closed closed' h m le none e =
    let p : Parts y edges at' merged = parts op edges y at at' active merged opens closed h m in
    subst (λ (q : List Rect). AreBlocks (set_of op edges) q) (sym e) (finished (set_of op edges) y opens closed h.swept (λ s low. none_above op edges y at' merged s p none (drop_all at' edges le) low))
