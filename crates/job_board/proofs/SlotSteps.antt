-- What the slots show after a claim, after an arrival, and after the end of a job.
use Rattle.std.proofs.Common.{◌≡◌, ◌≢◌, ◌⊎◌, ℕ, zero, suc, ◌+◌, ◌<◌, ◌≤◌, Bool, true, false, not, ◌==◌, List, [], ◌∷◌, ◌++◌, map, replicate, drop, length, set, slice_index, refl, sym, ap, ◌∙◌, subst, arith, inl, inr, ⊎_elim, length-set}
use Rattle.std.proofs.lemmas.Bool.{ne_eqb, eq-eqb}
use Rattle.std.proofs.lemmas.Bool.Decides.{nat_tests}
use Rattle.std.proofs.lemmas.List.{map-append, length-replicate}
use Rattle.std.proofs.Math.Decide.{ℕ_discrete, dec_lt}
use mathlib.Core.Logic.{dite}
use mathlib.Core.Option.{some}
use mathlib.Core.Option as maybe
use lib.ListN.{get_elem?}
use Rattle.atomic_table.specs.Table.{homes_after, carried_after, Valid}
use Rattle.atomic_table.proofs.Lists.{set_here, set_else}
use Rattle.job_graph.specs.Graph.{inputs_of, has}
use Rattle.job_graph.specs.Machine.{less, put}
use Rattle.job_graph.proofs.Taken.{put_here, put_else, has_less_else}
use Rattle.job_graph.proofs.Inputs.{has_here, has_else}
use Rattle.job_graph.proofs.Events.{at_put}
use Rattle.job_board.specs.Rule.{AreDependents}
use Rattle.job_board.specs.Slots.{first, own_slot, place, edge_slot, Spot, Vacant, Out, Filled, edge_spot, own_spot, SpotOk, SlotsOk, numbered, taken, AreRight, held_by}
use Rattle.job_board.proofs.Slots.{block, one_slot, placed, has_index, its_place, in_left, in_right, in_neither, IsApart, apart_append, names, AreAt, at_append, take_them, left_length, left_else, left_here, takes_valid, give_them, back_length, back_else, Among, back_here, numbered_out, numbered_in, numbered_apart, each_out, each_in, each_apart, each_at, collect}

-- tests of stages
pub claimed_at : (st : ℕ) → st ≢ 0 → not (st == 0) ≡ true
claimed_at st n = grind (arith, nat_tests)

pub free_at : (st : ℕ) → st ≡ 0 → not (st == 0) ≡ false
free_at st e = grind (arith, nat_tests)

out_claimed : (a b c f : Bool) → c ≡ true → f ≡ false → edge_spot a b c f ≡ Out
out_claimed a b true false e g = refl
out_claimed a b true true e g = absurd (cc)
out_claimed a b false f e g = absurd (cc)

out_source : (a b c f : Bool) → a ≡ true → b ≡ false → c ≡ false → edge_spot a b c f ≡ Out
out_source true false false f e g h = refl
out_source false b c f e g h = absurd (cc)
out_source true true c f e g h = absurd (cc)
out_source true false true f e g h = absurd (cc)

vacant_source : (a b c f : Bool) → a ≡ false → b ≡ false → c ≡ false → edge_spot a b c f ≡ Vacant
vacant_source false false false f e g h = refl
vacant_source true b c f e g h = absurd (cc)
vacant_source false true c f e g h = absurd (cc)
vacant_source false false true f e g h = absurd (cc)

filled_arrived : (a b c f : Bool) → b ≡ true → c ≡ false → edge_spot a b c f ≡ Filled
filled_arrived a true false f e g = refl
filled_arrived a false c f e g = absurd (cc)
filled_arrived a true true f e g = absurd (cc)

vacant_finished : (a b c f : Bool) → c ≡ true → f ≡ true → edge_spot a b c f ≡ Vacant
vacant_finished a b true true e g = refl
vacant_finished a b true false e g = absurd (cc)
vacant_finished a b false f e g = absurd (cc)

own_out : (c f : Bool) → c ≡ true → f ≡ false → own_spot c f ≡ Out
own_out true false e g = refl
own_out true true e g = absurd (cc)
own_out false f e g = absurd (cc)

own_vacant : (c f : Bool) → c ≡ false → own_spot c f ≡ Vacant
own_vacant false f e = refl
own_vacant true f e = absurd (cc)

pub own_filled : (c f : Bool) → c ≡ true → f ≡ true → own_spot c f ≡ Filled
own_filled true true e g = refl
own_filled true false e g = absurd (cc)
own_filled false f e g = absurd (cc)

same_spot : (a b c f a' b' c' f' : Bool) → a' ≡ a → b' ≡ b → c' ≡ c → f' ≡ f → edge_spot a' b' c' f' ≡ edge_spot a b c f
same_spot a b c f a' b' c' f' p q r s = λ i. edge_spot (p i) (q i) (r i) (s i)

none_awaited : (j : ℕ) (l : List ℕ) → l ≡ [] → has j l ≡ true → ⊥
none_awaited j l e h = let n : has j l ≡ false = ap (has j) e in cc

pub held_length : {S : Type 0} (empty : S) (g : List (List ℕ)) (j : ℕ) (y : S) → length (held_by empty g j y) ≡ suc (length (inputs_of g j))
held_length empty g j y = ap suc (count (first g j) (replicate (length (inputs_of g j)) empty) ∙ length-replicate (length (inputs_of g j)) empty) where
  count : {S : Type 0} (n : ℕ) (ys : List S) → length (numbered n ys) ≡ length ys
  count n [] = refl
  count n (y ∷ ys) = ap suc (count (suc n) ys)

pub given_drop : {S : Type 0} (c xs : List (ℕ × S)) → carried_after c (give_them xs) ≡ drop (length xs) c
given_drop c [] = refl
given_drop [] (x ∷ xs) = given_drop [] xs ∙ nothing (length xs) where
  nothing : {A : Type 0} (n : ℕ) → (let e : List A = [] in drop n e) ≡ []
  nothing zero = refl
  nothing (suc n) = refl
given_drop (y ∷ c) (x ∷ xs) = given_drop c xs

at_all : {S : Type 0} (n e : ℕ) (y : S) → e < n → get_elem? (map some (replicate n y)) e ≡ some (some y)
at_all zero e y l = absurd (omega arith)
at_all (suc n) zero y l = refl
at_all (suc n) (suc e) y l = at_all n e y (omega arith)

-- the slots of a board where nothing was done yet
pub opened_slots : {S : Type 0} (empty : S) (right : ℕ → S → Type 0) (g d : List (List ℕ)) → SlotsOk empty right g d (inputs_of g) (λ _. 0) (map some (replicate (first g (length g)) empty))
opened_slots empty right g d = record {
  deep = length_some (first g (length g));
  edges = λ k q kl ql. let i = slice_index (inputs_of g k) q in let b = block g k (length g) kl (omega arith) in
      subst (λ z. SpotOk empty right z i (get_elem? (map some (replicate (first g (length g)) empty)) (first g k + q))) (sym (vacant_source false (not (has i (inputs_of g k))) false (0 == length (inputs_of d k) + 2) refl (ap not (has_index (inputs_of g k) q ql)) refl)) (at_all (first g (length g)) (first g k + q) empty (omega arith));
  own = λ k kl. let b = block g k (length g) kl (omega arith) in at_all (first g (length g)) (own_slot g k) empty (omega arith);
}
  where
    length_some : (n : ℕ) → length (map some (replicate n empty)) ≡ n
    length_some zero = refl
    length_some (suc n) = ap suc (length_some n)

module _ {S : Type 0} (empty : S) (right : ℕ → S → Type 0) (g d : List (List ℕ)) (fits : AreDependents g d) where
  abbrev Homes : Type 0
  Homes = List (maybe.Option S)

  abbrev Ok : (ℕ → List ℕ) → (ℕ → ℕ) → Homes → Type 0
  Ok awaits stage homes = SlotsOk empty right g d awaits stage homes

  -- a slot that shows something else: what was there, and why
  shows_now : (sp sp' : Spot) (i : ℕ) (h : maybe.Option (maybe.Option S)) → sp ≡ sp' → SpotOk empty right sp' i h → SpotOk empty right sp i h
  shows_now sp sp' i h e k = subst (λ z. SpotOk empty right z i h) (sym e) k

  stays_there : (sp sp' : Spot) (i : ℕ) (h h' : maybe.Option (maybe.Option S)) → sp' ≡ sp → h' ≡ h → SpotOk empty right sp i h → SpotOk empty right sp' i h'
  stays_there sp sp' i h h' e f k = subst (λ (z : maybe.Option (maybe.Option S)). SpotOk empty right sp' i z) (sym f) (subst (λ z. SpotOk empty right z i h) (sym e) k)

  names_taken : (j : ℕ) (ys : List S) → names (taken empty g d j ys) ≡ names (numbered (first g j) ys) ++ (names (map (λ k. (edge_slot g j k, empty)) (inputs_of d j)) ++ own_slot g j ∷ [])
  names_taken j ys = map-append (λ (x : ℕ × S). x.0) (numbered (first g j) ys) (map (λ k. (edge_slot g j k, empty)) (inputs_of d j) ++ (own_slot g j, empty) ∷ [])
      ∙ ap (λ z. names (numbered (first g j) ys) ++ z) (map-append (λ (x : ℕ × S). x.0) (map (λ k. (edge_slot g j k, empty)) (inputs_of d j)) ((own_slot g j, empty) ∷ []))

  inside : (k a : ℕ) → k < length g → a ≤ length (inputs_of g k) → first g k + a < first g (length g)
  inside k a l b = let r = block g k (length g) l (omega arith) in omega arith

  beside : (j k a : ℕ) → j < length g → k < length g → k ≢ j → a ≤ length (inputs_of g k) → (first g k + a < first g j) ⊎ (first g j + length (inputs_of g j) ≤ first g k + a)
  beside j k a jl kl n b = dite (dec_lt k j) (λ h. let r = block g k j h (omega arith) in inl (omega arith)) (λ h. let r = block g j k (omega arith) (omega arith) in inr (omega arith))

  module _ (j : ℕ) (ys : List S) (jl : j < length g) (many : length ys ≡ length (inputs_of g j)) where
    -- a slot of another job that isn't that of an edge from j is not taken
    not_taken : (k a : ℕ) → k < length g → k ≢ j → a ≤ length (inputs_of g k) → ((r : ℕ) → r < length (inputs_of d j) → slice_index (inputs_of d j) r ≡ k → place j (inputs_of g k) ≡ a → ⊥) → has (first g k + a) (names (taken empty g d j ys)) ≡ false
    not_taken k a kl n b none' = ap (has (first g k + a)) (names_taken j ys) ∙ in_neither (first g k + a) (names (numbered (first g j) ys)) (names (map (λ k. (edge_slot g j k, empty)) (inputs_of d j)) ++ own_slot g j ∷ [])
        (numbered_out (first g j) ys (first g k + a) (⊎_elim (λ (t : first g k + a < first g j). inl t) (λ (t : first g j + length (inputs_of g j) ≤ first g k + a). inr (omega arith)) (beside j k a jl kl n b)))
        (in_neither (first g k + a) (names (map (λ k. (edge_slot g j k, empty)) (inputs_of d j))) (own_slot g j ∷ [])
        (each_out (edge_slot g j) empty (inputs_of d j) (first g k + a)
        (λ r l e. let t = fits.edge j r l in let p = placed j (inputs_of g (slice_index (inputs_of d j) r)) t.1 in let pl = p.0 in
        let o = one_slot g (slice_index (inputs_of d j) r) k (place j (inputs_of g (slice_index (inputs_of d j) r))) a t.0 kl (omega arith) b e in
        none' r l o.0 (ap (λ z. place j (inputs_of g z)) (sym o.0) ∙ o.1)))
        (has_else (first g k + a) (own_slot g j) [] (λ e. n (one_slot g k j a (length (inputs_of g j)) kl jl b (omega arith) e).0)))

    taken_input : (q : ℕ) → q < length (inputs_of g j) → has (first g j + q) (names (taken empty g d j ys)) ≡ true
    taken_input q l = ap (has (first g j + q)) (names_taken j ys) ∙ in_left (first g j + q) (names (numbered (first g j) ys)) (names (map (λ k. (edge_slot g j k, empty)) (inputs_of d j)) ++ own_slot g j ∷ []) (numbered_in (first g j) ys (first g j + q) (omega arith) (omega arith))

    taken_own : has (own_slot g j) (names (taken empty g d j ys)) ≡ true
    taken_own = ap (has (own_slot g j)) (names_taken j ys) ∙ in_right (own_slot g j) (names (numbered (first g j) ys)) (names (map (λ k. (edge_slot g j k, empty)) (inputs_of d j)) ++ own_slot g j ∷ [])
        (in_right (own_slot g j) (names (map (λ k. (edge_slot g j k, empty)) (inputs_of d j))) (own_slot g j ∷ []) (has_here (own_slot g j) (own_slot g j) [] refl))

    taken_edge : (r : ℕ) → r < length (inputs_of d j) → has (edge_slot g j (slice_index (inputs_of d j) r)) (names (taken empty g d j ys)) ≡ true
    taken_edge r l = let e = edge_slot g j (slice_index (inputs_of d j) r) in ap (has e) (names_taken j ys) ∙ in_right e (names (numbered (first g j) ys)) (names (map (λ k. (edge_slot g j k, empty)) (inputs_of d j)) ++ own_slot g j ∷ [])
        (in_left e (names (map (λ k. (edge_slot g j k, empty)) (inputs_of d j))) (own_slot g j ∷ []) (each_in (edge_slot g j) empty (inputs_of d j) r l))

    -- the edges' slots stand apart
    edge_apart : (q r : ℕ) → q < length (inputs_of d j) → r < length (inputs_of d j) → edge_slot g j (slice_index (inputs_of d j) q) ≡ edge_slot g j (slice_index (inputs_of d j) r) → q ≡ r
    edge_apart q r a b e = let t = fits.edge j q a in let u = fits.edge j r b in let p = (placed j (inputs_of g (slice_index (inputs_of d j) q)) t.1).0 in let o = (placed j (inputs_of g (slice_index (inputs_of d j) r)) u.1).0 in
        fits.apart j q r a b (one_slot g (slice_index (inputs_of d j) q) (slice_index (inputs_of d j) r) (place j (inputs_of g (slice_index (inputs_of d j) q))) (place j (inputs_of g (slice_index (inputs_of d j) r))) t.0 u.0 (omega arith) (omega arith) e).0

    taken_apart : ((r : ℕ) → r < length (inputs_of d j) → slice_index (inputs_of d j) r ≢ j) → IsApart (names (taken empty g d j ys))
    taken_apart others = subst IsApart (sym (names_taken j ys)) (apart_append (names (numbered (first g j) ys)) (names (map (λ k. (edge_slot g j k, empty)) (inputs_of d j)) ++ own_slot g j ∷ []) (numbered_apart (first g j) ys)
        (apart_append (names (map (λ k. (edge_slot g j k, empty)) (inputs_of d j))) (own_slot g j ∷ []) (each_apart (edge_slot g j) empty (inputs_of d j) edge_apart) (refl, tt)
        (λ e h. has_else e (own_slot g j) [] (λ s. let z = each_out (edge_slot g j) empty (inputs_of d j) e (λ r l t. let u = fits.edge j r l in let p = (placed j (inputs_of g (slice_index (inputs_of d j) r)) u.1).0 in
        others r l (one_slot g (slice_index (inputs_of d j) r) j (place j (inputs_of g (slice_index (inputs_of d j) r))) (length (inputs_of g j)) u.0 jl (omega arith) (omega arith) (t ∙ s)).0) in absurd (cc))))
        (λ e h. dite (dec_lt e (first g j)) (λ l. let z = numbered_out (first g j) ys e (inl l) in absurd (cc))
        (λ nl. dite (dec_lt e (first g j + length ys))
        (λ l. in_neither e (names (map (λ k. (edge_slot g j k, empty)) (inputs_of d j))) (own_slot g j ∷ [])
        (each_out (edge_slot g j) empty (inputs_of d j) e (λ r rl t. let u = fits.edge j r rl in let p = (placed j (inputs_of g (slice_index (inputs_of d j) r)) u.1).0 in
        let b = beside j (slice_index (inputs_of d j) r) (place j (inputs_of g (slice_index (inputs_of d j) r))) jl u.0 (others r rl) (omega arith) in
        ⊎_elim (λ (v : edge_slot g j (slice_index (inputs_of d j) r) < first g j). absurd (omega arith)) (λ (v : first g j + length (inputs_of g j) ≤ edge_slot g j (slice_index (inputs_of d j) r)). absurd (omega arith)) b))
        (has_else e (own_slot g j) [] (λ s. absurd (omega arith))))
        (λ nm. let z = numbered_out (first g j) ys e (inr (omega arith)) in absurd (cc)))))

  -- after the claim of j
  module _ (awaits : ℕ → List ℕ) (stage : ℕ → ℕ) (homes : Homes) (ok : Ok awaits stage homes) (j : ℕ) (jl : j < length g) (fresh : stage j ≡ 0) (ready : awaits j ≡ [])
      (claimed_ready : (k : ℕ) → k < length g → stage k ≢ 0 → awaits k ≡ []) (open_edges : (r : ℕ) → r < length (inputs_of d j) → has j (awaits (slice_index (inputs_of d j) r)) ≡ true) where
    others : (r : ℕ) → r < length (inputs_of d j) → slice_index (inputs_of d j) r ≢ j
    others r l e = none_awaited j (awaits j) ready (ap (λ z. has j (awaits z)) (sym e) ∙ open_edges r l)

    waits : (k : ℕ) → k < length g → has j (awaits k) ≡ true → not (stage k == 0) ≡ false
    waits k l h = dite (ℕ_discrete (stage k) 0) (λ e. free_at (stage k) e) (λ n. absurd (none_awaited j (awaits k) (claimed_ready k l n) h))

    pub filled : (ys : List S) × AreAt homes (numbered (first g j) ys) × AreRight right (inputs_of g j) ys × (length ys ≡ length (inputs_of g j))
    filled = collect right homes (first g j) (inputs_of g j) (λ q l. let i = slice_index (inputs_of g j) q in
        subst (λ z. SpotOk empty right z i (get_elem? homes (first g j + q))) (filled_arrived (not (stage i == 0)) (not (has i (awaits j))) (not (stage j == 0)) (stage j == length (inputs_of d j) + 2) (ap (λ z. not (has i z)) ready) (free_at (stage j) fresh)) (ok.edges j q jl l))

    pub all_at : (ys : List S) → AreAt homes (numbered (first g j) ys) → length ys ≡ length (inputs_of g j) → AreAt homes (taken empty g d j ys)
    all_at ys a many = at_append homes (numbered (first g j) ys) (map (λ k. (edge_slot g j k, empty)) (inputs_of d j) ++ (own_slot g j, empty) ∷ []) a
        (at_append homes (map (λ k. (edge_slot g j k, empty)) (inputs_of d j)) ((own_slot g j, empty) ∷ [])
        (each_at (edge_slot g j) empty homes (inputs_of d j) (λ r l. let k = slice_index (inputs_of d j) r in let t = fits.edge j r l in let p = placed j (inputs_of g k) t.1 in
        let i = slice_index (inputs_of g k) (place j (inputs_of g k)) in let same : i ≡ j = p.1 in
        subst (λ z. SpotOk empty right z i (get_elem? homes (edge_slot g j k))) (vacant_source (not (stage i == 0)) (not (has i (awaits k))) (not (stage k == 0)) (stage k == length (inputs_of d k) + 2)
        (ap (λ z. not (stage z == 0)) same ∙ free_at (stage j) fresh) (ap (λ z. not (has z (awaits k))) same ∙ ap not (open_edges r l)) (waits k t.0 (open_edges r l))) (ok.edges k (place j (inputs_of g k)) t.0 p.0)))
        (subst (λ z. SpotOk empty right z j (get_elem? homes (own_slot g j))) (own_vacant (not (stage j == 0)) (stage j == length (inputs_of d j) + 2) (free_at (stage j) fresh)) (ok.own j jl), tt))

    pub claimed_slots : (ys : List S) (c : List (ℕ × S)) → AreAt homes (numbered (first g j) ys) → length ys ≡ length (inputs_of g j)
        → Valid homes c (take_them (taken empty g d j ys)) × Ok awaits (put stage j 1) (homes_after homes c (take_them (taken empty g d j ys)))
    claimed_slots ys c a many = let xs = taken empty g d j ys in let ap' = taken_apart j ys jl many others in let len = left_length homes c xs in let deep = ok.deep in (
      takes_valid homes c xs (all_at ys a many) ap',
      record {
        deep = left_length homes c xs ∙ ok.deep;
        edges = λ k q kl ql. let i = slice_index (inputs_of g k) q in let e = first g k + q in let homes' = homes_after homes c (take_them xs) in let ins = inside k q kl (omega arith) in
            dite (ℕ_discrete k j)
            (λ s. let sq : length (inputs_of g k) ≡ length (inputs_of g j) = ap (λ z. length (inputs_of g z)) s in let se : e ≡ first g j + q = ap (λ z. first g z + q) s in
            shows_now (edge_spot (not (put stage j 1 i == 0)) (not (has i (awaits k))) (not (put stage j 1 k == 0)) (put stage j 1 k == length (inputs_of d k) + 2)) Out i (get_elem? homes' e)
            (out_claimed (not (put stage j 1 i == 0)) (not (has i (awaits k))) (not (put stage j 1 k == 0)) (put stage j 1 k == length (inputs_of d k) + 2) (ap (λ z. not (z == 0)) (put_here stage j 1 k s)) (ap (λ z. z == length (inputs_of d k) + 2) (put_here stage j 1 k s) ∙ ne_eqb 1 (length (inputs_of d k) + 2) (λ z. absurd (omega arith))))
            (left_here homes c xs e (omega arith) (ap (λ z. has z (names xs)) se ∙ taken_input j ys jl many q (omega arith))))
            (λ n. dite (ℕ_discrete i j)
            (λ s. let h : has j (inputs_of g k) ≡ true = ap (λ z. has z (inputs_of g k)) (sym s) ∙ has_index (inputs_of g k) q ql in let t = fits.all j k h in let op : has j (awaits k) ≡ true = ap (λ z. has j (awaits z)) (sym t.2) ∙ open_edges t.0 t.1 in
            let w = its_place g k q j fits.inputs kl ql s in
            shows_now (edge_spot (not (put stage j 1 i == 0)) (not (has i (awaits k))) (not (put stage j 1 k == 0)) (put stage j 1 k == length (inputs_of d k) + 2)) Out i (get_elem? homes' e)
            (out_source (not (put stage j 1 i == 0)) (not (has i (awaits k))) (not (put stage j 1 k == 0)) (put stage j 1 k == length (inputs_of d k) + 2) (ap (λ z. not (z == 0)) (put_here stage j 1 i s)) (ap (λ z. not (has z (awaits k))) s ∙ ap not op) (ap (λ z. not (z == 0)) (put_else stage j 1 k n) ∙ waits k kl op))
            (left_here homes c xs e (omega arith) (ap (λ z. has z (names xs)) (let u : e ≡ edge_slot g j (slice_index (inputs_of d j) t.0) = ap (λ z. first g k + z) w ∙ ap (edge_slot g j) (sym t.2) in u) ∙ taken_edge j ys jl many t.0 t.1)))
            (λ m. stays_there (edge_spot (not (stage i == 0)) (not (has i (awaits k))) (not (stage k == 0)) (stage k == length (inputs_of d k) + 2)) (edge_spot (not (put stage j 1 i == 0)) (not (has i (awaits k))) (not (put stage j 1 k == 0)) (put stage j 1 k == length (inputs_of d k) + 2)) i (get_elem? homes e) (get_elem? homes' e)
            (same_spot (not (stage i == 0)) (not (has i (awaits k))) (not (stage k == 0)) (stage k == length (inputs_of d k) + 2) (not (put stage j 1 i == 0)) (not (has i (awaits k))) (not (put stage j 1 k == 0)) (put stage j 1 k == length (inputs_of d k) + 2)
            (ap (λ z. not (z == 0)) (put_else stage j 1 i m)) refl (ap (λ z. not (z == 0)) (put_else stage j 1 k n)) (ap (λ z. z == length (inputs_of d k) + 2) (put_else stage j 1 k n)))
            (left_else homes c xs e (not_taken j ys jl many k q kl n (omega arith) (λ r rl de pe. let h = (fits.edge j r rl).1 in let p = placed j (inputs_of g k) (ap (λ z. has j (inputs_of g z)) (sym de) ∙ h) in m (ap (slice_index (inputs_of g k)) (sym pe) ∙ p.1))))
            (ok.edges k q kl ql)));
        own = λ k kl. let e = own_slot g k in let homes' = homes_after homes c (take_them xs) in let ins = inside k (length (inputs_of g k)) kl (omega arith) in dite (ℕ_discrete k j)
            (λ s. shows_now (own_spot (not (put stage j 1 k == 0)) (put stage j 1 k == length (inputs_of d k) + 2)) Out k (get_elem? homes' e)
            (own_out (not (put stage j 1 k == 0)) (put stage j 1 k == length (inputs_of d k) + 2) (ap (λ z. not (z == 0)) (put_here stage j 1 k s)) (ap (λ z. z == length (inputs_of d k) + 2) (put_here stage j 1 k s) ∙ ne_eqb 1 (length (inputs_of d k) + 2) (λ z. absurd (omega arith))))
            (left_here homes c xs e (omega arith) (ap (λ z. has (own_slot g z) (names xs)) s ∙ taken_own j ys jl many)))
            (λ n. stays_there (own_spot (not (stage k == 0)) (stage k == length (inputs_of d k) + 2)) (own_spot (not (put stage j 1 k == 0)) (put stage j 1 k == length (inputs_of d k) + 2)) k (get_elem? homes e) (get_elem? homes' e)
            (λ z. own_spot (not (put_else stage j 1 k n z == 0)) (put_else stage j 1 k n z == length (inputs_of d k) + 2))
            (left_else homes c xs e (not_taken j ys jl many k (length (inputs_of g k)) kl n (omega arith) (λ r rl de pe. let h = (fits.edge j r rl).1 in let p = placed j (inputs_of g k) (ap (λ z. has j (inputs_of g z)) (sym de) ∙ h) in let z = p.0 in absurd (omega arith))))
            (ok.own k kl));
      },
    )

  -- after the arrival of the edge from j to k
  pub told_slots : (awaits : ℕ → List ℕ) (stage : ℕ → ℕ) (homes : Homes) → Ok awaits stage homes → (j k st : ℕ) (y : S) → j < length g → k < length g → stage j ≢ 0 → stage j ≢ length (inputs_of d j) + 2 → st ≢ 0 → st ≢ length (inputs_of d j) + 2 → stage k ≡ 0
      → has j (inputs_of g k) ≡ true → has j (less j (awaits k)) ≡ false → right j y → Ok (put awaits k (less j (awaits k))) (put stage j st) (set homes (edge_slot g j k) (some y))
  told_slots awaits stage homes ok j k st y jl kl n0 n1 m0 m1 free edge shut good = let p = placed j (inputs_of g k) edge in let pl = p.0 in let e0 = edge_slot g j k in let ins = inside k (place j (inputs_of g k)) kl (omega arith) in let deep = ok.deep in
      let claim : (i : ℕ) → not (put stage j st i == 0) ≡ not (stage i == 0) = λ i. at_put (λ a z. not (z == 0) ≡ not (stage a == 0)) stage j st i (λ e. claimed_at st m0 ∙ sym (ap (λ z. not (stage z == 0)) e ∙ claimed_at (stage j) n0)) (λ _. refl) in
      let fin : (i : ℕ) → (put stage j st i == length (inputs_of d i) + 2) ≡ (stage i == length (inputs_of d i) + 2) = λ i. at_put (λ a z. (z == length (inputs_of d a) + 2) ≡ (stage a == length (inputs_of d a) + 2)) stage j st i
      (λ e. ap (λ z. st == length (inputs_of d z) + 2) e ∙ ne_eqb st (length (inputs_of d j) + 2) m1 ∙ sym (ap (λ z. stage z == length (inputs_of d z) + 2) e ∙ ne_eqb (stage j) (length (inputs_of d j) + 2) n1)) (λ _. refl) in
      record {
        deep = length-set homes e0 (some y) ∙ ok.deep;
        edges = λ a q al ql. let i = slice_index (inputs_of g a) q in let e = first g a + q in let homes' = set homes e0 (some y) in
            let now = edge_spot (not (put stage j st i == 0)) (not (has i (put awaits k (less j (awaits k)) a))) (not (put stage j st a == 0)) (put stage j st a == length (inputs_of d a) + 2) in
            dite (ℕ_discrete e e0)
            (λ s. let o = one_slot g a k q (place j (inputs_of g k)) al kl (omega arith) (omega arith) s in let same : i ≡ j = ap (λ z. slice_index (inputs_of g z) q) o.0 ∙ ap (slice_index (inputs_of g k)) o.1 ∙ p.1 in
            shows_now now Filled i (get_elem? homes' e)
            (filled_arrived (not (put stage j st i == 0)) (not (has i (put awaits k (less j (awaits k)) a))) (not (put stage j st a == 0)) (put stage j st a == length (inputs_of d a) + 2)
            (ap (λ z. not (has i z)) (put_here awaits k (less j (awaits k)) a o.0) ∙ ap (λ z. not (has z (less j (awaits k)))) same ∙ ap not shut) (claim a ∙ ap (λ z. not (stage z == 0)) o.0 ∙ free_at (stage k) free))
            (y, ap (get_elem? homes') s ∙ set_here homes e0 (some y) (omega arith), subst (λ z. right z y) (sym same) good))
            (λ n. stays_there (edge_spot (not (stage i == 0)) (not (has i (awaits a))) (not (stage a == 0)) (stage a == length (inputs_of d a) + 2)) now i (get_elem? homes e) (get_elem? homes' e)
            (same_spot (not (stage i == 0)) (not (has i (awaits a))) (not (stage a == 0)) (stage a == length (inputs_of d a) + 2) (not (put stage j st i == 0)) (not (has i (put awaits k (less j (awaits k)) a))) (not (put stage j st a == 0)) (put stage j st a == length (inputs_of d a) + 2)
            (claim i)
            (at_put (λ b (z : List ℕ). not (has i z) ≡ not (has i (awaits b))) awaits k (less j (awaits k)) a
            (λ s. ap not (has_less_else j i (awaits k) (λ t. n (ap (λ z. first g z + q) s ∙ ap (λ z. first g k + z) (its_place g k q j fits.inputs kl (let u : length (inputs_of g a) ≡ length (inputs_of g k) = ap (λ z. length (inputs_of g z)) s in omega arith) (ap (λ z. slice_index (inputs_of g z) q) (sym s) ∙ t)))) ∙ ap (λ z. has i (awaits z)) (sym s)))
            (λ _. refl))
            (claim a) (fin a))
            (set_else homes e0 e (some y) n)
            (ok.edges a q al ql));
        own = λ a al. let e = own_slot g a in stays_there (own_spot (not (stage a == 0)) (stage a == length (inputs_of d a) + 2)) (own_spot (not (put stage j st a == 0)) (put stage j st a == length (inputs_of d a) + 2)) a (get_elem? homes e) (get_elem? (set homes e0 (some y)) e)
            (λ z. own_spot (claim a z) (fin a z))
            (set_else homes e0 e (some y) (λ s. let o = one_slot g a k (length (inputs_of g a)) (place j (inputs_of g k)) al kl (omega arith) (omega arith) s in let u : length (inputs_of g a) ≡ length (inputs_of g k) = ap (λ z. length (inputs_of g z)) o.0 in let v = o.1 in absurd (omega arith)))
            (ok.own a al);
      }

  empties : (base n q : ℕ) → q < n → Among (base + q) empty (numbered base (replicate n empty))
  empties base zero q l = absurd (omega arith)
  empties base (suc n) zero l = inl ((let e : base + 0 ≡ base = omega arith in e), refl)
  empties base (suc n) (suc q) l = inr (subst (λ z. Among z empty (numbered (suc base) (replicate n empty))) (let e : suc base + q ≡ base + suc q = omega arith in e) (empties (suc base) n q (omega arith)))

  pub ended_slots : (awaits : ℕ → List ℕ) (stage : ℕ → ℕ) (homes : Homes) → Ok awaits stage homes → (j : ℕ) (y : S) (c : List (ℕ × S)) → j < length g → stage j ≢ 0 → right j y
      → Ok awaits (put stage j (length (inputs_of d j) + 2)) (homes_after homes (held_by empty g j y ++ c) (give_them (held_by empty g j y)))
  ended_slots awaits stage homes ok j y c jl n0 good = let z0 = length (inputs_of d j) + 2 in let ys : List S = replicate (length (inputs_of g j)) empty in let many : length ys ≡ length (inputs_of g j) = length-replicate (length (inputs_of g j)) empty in let deep = ok.deep in
      let xs = held_by empty g j y in let homes' = homes_after homes (xs ++ c) (give_them xs) in
      let parts : IsApart (names xs) = (numbered_out (first g j) ys (own_slot g j) (inr (omega arith)), numbered_apart (first g j) ys) in
      let claim : (i : ℕ) → not (put stage j z0 i == 0) ≡ not (stage i == 0) = λ i. at_put (λ a z. not (z == 0) ≡ not (stage a == 0)) stage j z0 i (λ e. claimed_at z0 (λ v. absurd (omega arith)) ∙ sym (ap (λ z. not (stage z == 0)) e ∙ claimed_at (stage j) n0)) (λ _. refl) in
      let elsewhere : (k a : ℕ) → k < length g → k ≢ j → a ≤ length (inputs_of g k) → has (first g k + a) (names xs) ≡ false = λ k a kl n b.
      has_else (first g k + a) (own_slot g j) (names (numbered (first g j) ys)) (λ e. n (one_slot g k j a (length (inputs_of g j)) kl jl b (omega arith) e).0)
      ∙ numbered_out (first g j) ys (first g k + a) (⊎_elim (λ (t : first g k + a < first g j). inl t) (λ (t : first g j + length (inputs_of g j) ≤ first g k + a). inr (omega arith)) (beside j k a jl kl n b)) in
      record {
        deep = back_length homes xs c ∙ ok.deep;
        edges = λ k q kl ql. let i = slice_index (inputs_of g k) q in let e = first g k + q in let ins = inside k q kl (omega arith) in
            let now = edge_spot (not (put stage j z0 i == 0)) (not (has i (awaits k))) (not (put stage j z0 k == 0)) (put stage j z0 k == length (inputs_of d k) + 2) in
            dite (ℕ_discrete k j)
            (λ s. let u : length (inputs_of g k) ≡ length (inputs_of g j) = ap (λ z. length (inputs_of g z)) s in let se : first g k + q ≡ first g j + q = ap (λ z. first g z + q) s in
            shows_now now Vacant i (get_elem? homes' e)
            (vacant_finished (not (put stage j z0 i == 0)) (not (has i (awaits k))) (not (put stage j z0 k == 0)) (put stage j z0 k == length (inputs_of d k) + 2)
            (claim k ∙ ap (λ z. not (stage z == 0)) s ∙ claimed_at (stage j) n0) (eq-eqb (put stage j z0 k) (length (inputs_of d k) + 2) (put_here stage j z0 k s ∙ ap (λ z. length (inputs_of d z) + 2) (sym s))))
            (back_here homes xs c e empty (omega arith) parts (inr (subst (λ z. Among z empty (numbered (first g j) ys)) (sym se) (empties (first g j) (length (inputs_of g j)) q (omega arith))))))
            (λ n. stays_there (edge_spot (not (stage i == 0)) (not (has i (awaits k))) (not (stage k == 0)) (stage k == length (inputs_of d k) + 2)) now i (get_elem? homes e) (get_elem? homes' e)
            (same_spot (not (stage i == 0)) (not (has i (awaits k))) (not (stage k == 0)) (stage k == length (inputs_of d k) + 2) (not (put stage j z0 i == 0)) (not (has i (awaits k))) (not (put stage j z0 k == 0)) (put stage j z0 k == length (inputs_of d k) + 2)
            (claim i) refl (claim k) (ap (λ z. z == length (inputs_of d k) + 2) (put_else stage j z0 k n)))
            (back_else homes xs c e (elsewhere k q kl n (omega arith)))
            (ok.edges k q kl ql));
        own = λ k kl. let e = own_slot g k in let ins = inside k (length (inputs_of g k)) kl (omega arith) in let now = own_spot (not (put stage j z0 k == 0)) (put stage j z0 k == length (inputs_of d k) + 2) in
            dite (ℕ_discrete k j)
            (λ s. shows_now now Filled k (get_elem? homes' e)
            (own_filled (not (put stage j z0 k == 0)) (put stage j z0 k == length (inputs_of d k) + 2) (claim k ∙ ap (λ z. not (stage z == 0)) s ∙ claimed_at (stage j) n0) (eq-eqb (put stage j z0 k) (length (inputs_of d k) + 2) (put_here stage j z0 k s ∙ ap (λ z. length (inputs_of d z) + 2) (sym s))))
            (y, back_here homes xs c e y (omega arith) parts (inl (ap (own_slot g) s, refl)), subst (λ z. right z y) (sym s) good))
            (λ n. stays_there (own_spot (not (stage k == 0)) (stage k == length (inputs_of d k) + 2)) now k (get_elem? homes e) (get_elem? homes' e)
            (λ z. own_spot (claim k z) (put_else stage j z0 k n z == length (inputs_of d k) + 2))
            (back_else homes xs c e (elsewhere k (length (inputs_of g k)) kl n (omega arith)))
            (ok.own k kl));
      }
