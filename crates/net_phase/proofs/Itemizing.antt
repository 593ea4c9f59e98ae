-- Items in order, one by one.
use Rattle.std.proofs.Common.{◌≡◌, ℕ, zero, suc, ◌+◌, ◌<◌, List, [], ◌∷◌, ◌++◌, Some, slice_get, get_or, length, take, sym, ◌∙◌, ap, arith}
use Rattle.std.proofs.Math.Seq.{take-length}
use Rattle.std.proofs.lemmas.List.{length-take-le, take_more}
use Rattle.std.proofs.lemmas.Option.{get_or_from_slice_get, slice_get_within}
use Rattle.flat_layout.specs.Layers.{Empty, Formula}
use Rattle.flat_layout.specs.Layout.{Place}
use Rattle.flat_layout.specs.Nets.{Child, Item, Own, Tables, child_items, own_items, run}
use Rattle.net_walk.proofs.Placing.{behind_both, nothing_behind}

pub run_suc : (f : ℕ → Item) (k n : ℕ) → run f k (suc n) ≡ run f k n ++ f (k + n) ∷ []
run_suc f k zero = let z : k ≡ k + 0 = omega arith in ap (λ (i : ℕ). f i ∷ []) z
run_suc f k (suc n) =
    let z : suc k + n ≡ k + suc n = omega arith in
    ap (λ (l : List Item). f k ∷ l) (run_suc f (suc k) n) ∙ ap (λ (i : ℕ). f k ∷ (run f (suc k) n ++ f i ∷ [])) z

pub run_more : (f : ℕ → Item) (n : ℕ) (old mid : List Item) → mid ≡ old ++ run f 0 n → mid ++ f n ∷ [] ≡ old ++ run f 0 (n + 1)
run_more f n old mid h =
    let z : suc n ≡ n + 1 = omega arith in
    let y : n ≡ 0 + n = omega arith in
    ap (λ (l : List Item). l ++ f n ∷ []) h ∙ behind_both old (run f 0 n) (f n ∷ []) ∙ ap (λ (i : ℕ). old ++ (run f 0 n ++ f i ∷ [])) y ∙ ap (λ (l : List Item). old ++ l) (sym (run_suc f 0 n)) ∙ ap (λ (i : ℕ). old ++ run f 0 i) z

own_last : (t : Tables) (cell c : ℕ) (xs : List Formula) (x : Formula) → own_items t cell c (xs ++ x ∷ []) ≡ own_items t cell c xs ++ run (Own (c + length xs)) 0 (length (t.own cell (c + length xs)))
own_last t cell c [] x =
    let z : c ≡ c + 0 = omega arith in
    sym (nothing_behind (run (Own c) 0 (length (t.own cell c)))) ∙ ap (λ (i : ℕ). run (Own i) 0 (length (t.own cell i))) z
own_last t cell c (y ∷ xs) x =
    let z : suc c + length xs ≡ c + length (y ∷ xs) = omega arith in
    let first = run (Own c) 0 (length (t.own cell c)) in
    ap (λ (l : List Item). first ++ l) (own_last t cell (suc c) xs x)
    ∙ ap (λ (i : ℕ). first ++ (own_items t cell (suc c) xs ++ run (Own i) 0 (length (t.own cell i)))) z
    ∙ sym (behind_both first (own_items t cell (suc c) xs) (run (Own (c + length (y ∷ xs))) 0 (length (t.own cell (c + length (y ∷ xs))))))

pub owns_more : (t : Tables) (cell n : ℕ) (names : List Formula) (old mid new : List Item) → n < length names → mid ≡ old ++ own_items t cell 0 (take n names) → new ≡ mid ++ run (Own n) 0 (length (t.own cell n)) → new ≡ old ++ own_items t cell 0 (take (n + 1) names)
owns_more t cell n names old mid new lt h g =
    let long : 0 + length (take n names) ≡ n = (let e = length-take-le n names (omega (arith, lt)) in omega (arith, e)) in
    g ∙ ap (λ (l : List Item). l ++ run (Own n) 0 (length (t.own cell n))) h
    ∙ behind_both old (own_items t cell 0 (take n names)) (run (Own n) 0 (length (t.own cell n)))
    ∙ ap (λ (i : ℕ). old ++ (own_items t cell 0 (take n names) ++ run (Own i) 0 (length (t.own cell i)))) (sym long)
    ∙ ap (λ (l : List Item). old ++ l) (sym (own_last t cell 0 (take n names) (get_or names n Empty)))
    ∙ ap (λ (l : List Formula). old ++ own_items t cell 0 l) (sym (take_more names n Empty lt))

pub owns_all : (t : Tables) (cell n : ℕ) (names : List Formula) (old new : List Item) → n ≡ length names → new ≡ old ++ own_items t cell 0 (take n names) → new ≡ old ++ own_items t cell 0 names
owns_all t cell n names old new e h = h ∙ ap (λ (l : List Formula). old ++ own_items t cell 0 l) (ap (λ i. take i names) e ∙ take-length names)

child_last : (t : Tables) (k : ℕ) (ps : List Place) (p : Place) → child_items t k (ps ++ p ∷ []) ≡ child_items t k ps ++ run (Child (k + length ps)) 0 (t.nets p.cell).count
child_last t k [] p =
    let z : k ≡ k + 0 = omega arith in
    sym (nothing_behind (run (Child k) 0 (t.nets p.cell).count)) ∙ ap (λ (i : ℕ). run (Child i) 0 (t.nets p.cell).count) z
child_last t k (q ∷ ps) p =
    let z : suc k + length ps ≡ k + length (q ∷ ps) = omega arith in
    let first = run (Child k) 0 (t.nets q.cell).count in
    ap (λ (l : List Item). first ++ l) (child_last t (suc k) ps p)
    ∙ ap (λ (i : ℕ). first ++ (child_items t (suc k) ps ++ run (Child i) 0 (t.nets p.cell).count)) z
    ∙ sym (behind_both first (child_items t (suc k) ps) (run (Child (k + length (q ∷ ps))) 0 (t.nets p.cell).count))

take_next : (ps : List Place) (n : ℕ) (p : Place) → slice_get ps n ≡ Some p → take (n + 1) ps ≡ take n ps ++ p ∷ []
take_next ps n p h =
    let lt = slice_get_within ps n p h in
    take_more ps n p lt ∙ ap (λ (q : Place). take n ps ++ q ∷ []) (get_or_from_slice_get ps n p p h)

pub children_more : (t : Tables) (n : ℕ) (ps : List Place) (p : Place) (old mid new : List Item) → slice_get ps n ≡ Some p → mid ≡ old ++ child_items t 0 (take n ps) → new ≡ mid ++ run (Child n) 0 (t.nets p.cell).count → new ≡ old ++ child_items t 0 (take (n + 1) ps)
children_more t n ps p old mid new there h g =
    let lt = slice_get_within ps n p there in
    let long : 0 + length (take n ps) ≡ n = (let e = length-take-le n ps (omega (arith, lt)) in omega (arith, e)) in
    g ∙ ap (λ (l : List Item). l ++ run (Child n) 0 (t.nets p.cell).count) h
    ∙ behind_both old (child_items t 0 (take n ps)) (run (Child n) 0 (t.nets p.cell).count)
    ∙ ap (λ (i : ℕ). old ++ (child_items t 0 (take n ps) ++ run (Child i) 0 (t.nets p.cell).count)) (sym long)
    ∙ ap (λ (l : List Item). old ++ l) (sym (child_last t 0 (take n ps) p))
    ∙ ap (λ (l : List Place). old ++ child_items t 0 l) (sym (take_next ps n p there))

pub children_all : (t : Tables) (n : ℕ) (ps : List Place) (old new : List Item) → n ≡ length ps → new ≡ old ++ child_items t 0 (take n ps) → new ≡ old ++ child_items t 0 ps
children_all t n ps old new e h = h ∙ ap (λ (l : List Place). old ++ child_items t 0 l) (ap (λ i. take i ps) e ∙ take-length ps)
