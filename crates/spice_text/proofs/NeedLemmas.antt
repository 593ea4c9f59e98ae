-- The table of needs, row by row in an order of calls.
use Rattle.std.proofs.Common.{◌≡◌, ◌≢◌, ◌⊎◌, inl, inr, ℕ, zero, suc, ◌+◌, ◌<◌, Bool, true, false, ◌||◌, ◌&&◌, not, List, [], ◌∷◌, ◌++◌, map, take, set, length, Option, Some, refl, sym, subst, ap, ◌∙◌, arith}
use Rattle.std.proofs.lemmas.Bool.{or_cases, or_right, cases_Bool}
use Rattle.std.specs.Prelude.{slice_get, slice_index_or, get_or}
use Rattle.std.specs.Global.{Vec}
use Rattle.std.specs.List.{list_any}
use Rattle.std.specs.Str.{bytes_eq}
use Rattle.std.proofs.lemmas.List.{get_or-set_other, get_or-set_same, map-set, length-map, length-set, take_more}
use Rattle.std.proofs.lemmas.List.Folds.{list_any-append}
use Rattle.std.proofs.lemmas.Slice.Eq.{bytes_eq-Decides}
use Rattle.plain_netlist.specs.Lists.{IsListed, AreApart}
use Rattle.plain_netlist.specs.Chains.{IsChain}
use Rattle.call_order.specs.Order.{lists, Calls, IsCallOrder}
use Rattle.text_table.specs.Texts.{has_text, with_text}
use Rattle.spice_text.specs.Gather.{Circuit}
use Rattle.spice_text.specs.Circuits.{call_lists, called_in, names_of}
use Rattle.spice_text.specs.Needs.{first_seen, used_nets, is_pin, is_used, pin_in, used_in, Passes, Needs}
use Rattle.spice_text.specs.Table.{has_number, has_need, needed_below, IsRow, IsNeedRow, IsRowSet, needs_at, AreSettled, IsNeedTable}
use Rattle.spice_text.specs.declared.gather.CircuitCards.{CircuitCards}
use Rattle.spice_text.specs.Seen.{circuit_seen}
use Rattle.spice_text.proofs.CallLemmas.{row_at}

-- ---- names seen one after another

pub seen_append : (seen ns ms : List (List ℕ)) → first_seen seen (ns ++ ms) ≡ first_seen (first_seen seen ns) ms
seen_append seen [] ms = refl
seen_append seen (n ∷ ns) ms = seen_append (with_text seen n) ns ms

pub or_false : (b : Bool) → b ≡ (b || false)
or_false true = refl
or_false false = refl

more_has : (seen : List (List ℕ)) (n g : List ℕ) → has_text (with_text seen n) g ≡ (has_text seen g || (bytes_eq g n || false))
more_has seen n g = elim (cases_Bool (has_text seen n)) [
  | inl t ↦ rw t (there t)
  | inr f ↦ rw f (list_any-append (bytes_eq g) seen (n ∷ []))
]
  where
    there : has_text seen n ≡ true → has_text seen g ≡ (has_text seen g || (bytes_eq g n || false))
    there t = elim (cases_Bool (bytes_eq g n)) [
      | inl y ↦ let e : g ≡ n = (bytes_eq-Decides g n).0 y in let h : has_text seen g ≡ true = subst (λ (x : List ℕ). has_text seen x ≡ true) (sym e) t in rw h refl
      | inr z ↦ rw z (or_false (has_text seen g))
    ]

or_more : (a b c : Bool) → ((a || (b || false)) || c) ≡ (a || (b || c))
or_more true b c = refl
or_more false true c = refl
or_more false false c = refl

-- what is seen is what was there or is named
pub seen_has : (seen ns : List (List ℕ)) (g : List ℕ) → has_text (first_seen seen ns) g ≡ (has_text seen g || has_text ns g)
seen_has seen [] g = or_false (has_text seen g)
seen_has seen (n ∷ ns) g = seen_has (with_text seen n) ns g ∙ ap (λ (b : Bool). b || has_text ns g) (more_has seen n g) ∙ or_more (has_text seen g) (bytes_eq g n) (has_text ns g)

pub all_has : (ns : List (List ℕ)) (g : List ℕ) → has_text (first_seen [] ns) g ≡ has_text ns g
all_has ns g = seen_has [] ns g

-- ---- places in lists

get_is : {A : Type 0} (xs : List A) (i : ℕ) (x d : A) → i < length xs → x ≡ get_or xs i d → slice_get xs i ≡ Some x
get_is [] i x d l e = absurd (omega arith)
get_is {A = A} (y ∷ ys) zero x d l e = ap (λ (z : A). let o : Option A = Some z in o) (sym e)
get_is (y ∷ ys) (suc i) x d l e = get_is ys i x d (omega arith) e

pub get_listed : {A : Type 0} (xs : List A) (i : ℕ) (x : A) → slice_get xs i ≡ Some x → IsListed x xs
get_listed [] i x e = let z : ⊥ = cc in absurd z
get_listed (y ∷ ys) zero x e = let s : x ≡ y = cc in inl s
get_listed (y ∷ ys) (suc i) x e = inr (get_listed ys i x e)

taken : {A : Type 0} (xs : List A) (i : ℕ) (x : A) → IsListed x (take i xs) → (j : ℕ) × (j < i) × (slice_get xs j ≡ Some x)
taken [] zero x h = absurd h
taken [] (suc i) x h = absurd h
taken (y ∷ ys) zero x h = absurd h
taken {A = A} (y ∷ ys) (suc i) x (inl e) = (0, omega arith, ap (λ (z : A). let o : Option A = Some z in o) (sym e))
taken (y ∷ ys) (suc i) x (inr h) = let r = taken ys i x h in (suc r.0, (let l = r.1 in omega arith), r.2)

listed_take : {A : Type 0} (xs : List A) (i j : ℕ) (x : A) → slice_get xs j ≡ Some x → j < i → IsListed x (take i xs)
listed_take [] i j x e l = let z : ⊥ = cc in absurd z
listed_take (y ∷ ys) zero j x e l = absurd (omega arith)
listed_take (y ∷ ys) (suc i) zero x e l = let s : x ≡ y = cc in inl s
listed_take (y ∷ ys) (suc i) (suc j) x e l = inr (listed_take ys i j x e (omega arith))

pub once : {A : Type 0} (xs : List A) (i j : ℕ) (x : A) → AreApart xs → slice_get xs i ≡ Some x → slice_get xs j ≡ Some x → j < i → ⊥
once [] i j x a ei ej l = let z : ⊥ = cc in z
once (y ∷ ys) zero j x a ei ej l = absurd (omega arith)
once {A = A} (y ∷ ys) (suc i) zero x a ei ej l = let s : x ≡ y = cc in a.0 (subst (λ (z : A). IsListed z ys) s (get_listed ys i x ei))
once (y ∷ ys) (suc i) (suc j) x a ei ej l = once ys i j x a.1 ei ej (omega arith)

pub last_or : {A : Type 0} (xs : List A) (x y : A) → IsListed x (xs ++ y ∷ []) → IsListed x xs ⊎ (x ≡ y)
last_or [] x y (inl e) = inr e
last_or [] x y (inr h) = absurd h
last_or (z ∷ zs) x y (inl e) = inl (inl e)
last_or (z ∷ zs) x y (inr h) = elim (last_or zs x y h) [ inl l ↦ inl (inr l) | inr e ↦ inr e ]

pub listed_any : {A : Type 0} (p : A → Bool) (xs : List A) → list_any p xs ≡ true → (x : A) × IsListed x xs × (p x ≡ true)
listed_any p [] t = let z : ⊥ = cc in absurd z
listed_any p (y ∷ ys) t = elim (cases_Bool (p y)) [
  | inl h ↦ (y, inl refl, h)
  | inr f ↦ let e : (p y || list_any p ys) ≡ true = t in let r = listed_any p ys (sym (ap (λ (b : Bool). b || list_any p ys) f) ∙ e) in (r.0, inr r.1, r.2)
]

pub any_listed : {A : Type 0} (p : A → Bool) (xs : List A) (x : A) → IsListed x xs → p x ≡ true → list_any p xs ≡ true
any_listed p [] x h t = absurd h
any_listed {A = A} p (y ∷ ys) x (inl e) t = let h : p y ≡ true = subst (λ (z : A). p z ≡ true) e t in rw h refl
any_listed p (y ∷ ys) x (inr l) t = let r = any_listed p ys x l t in elim (cases_Bool (p y)) [ inl h ↦ rw h refl | inr f ↦ rw f r ]

any_same : {A : Type 0} (p q : A → Bool) (xs : List A) → ((x : A) → IsListed x xs → p x ≡ q x) → list_any p xs ≡ list_any q xs
any_same p q [] h = refl
any_same p q (y ∷ ys) h = ap (λ (b : Bool). b || list_any p ys) (h y (inl refl)) ∙ ap (λ (b : Bool). q y || b) (any_same p q ys (λ x l. h x (inr l)))

-- ---- one row more

got_lt : (xs : List CircuitCards) (k : ℕ) (r : CircuitCards) → k < length xs → r ≡ get_or xs k r → slice_get (map circuit_seen xs) k ≡ Some (circuit_seen r)
got_lt [] k r l e = absurd (omega arith)
got_lt (x ∷ xs) zero r l e = ap (λ (z : CircuitCards). let o : Option Circuit = Some (circuit_seen z) in o) (sym e)
got_lt (x ∷ xs) (suc k) r l e = got_lt xs k r (omega arith) e

row_is : (rows : List (Vec ℕ)) (k : ℕ) (r : Vec ℕ) → k < length rows → r ≡ get_or rows k r → r.items ≡ slice_index_or (lists rows) k []
row_is [] k r l e = absurd (omega arith)
row_is (x ∷ xs) zero r l e = ap (λ (z : Vec ℕ). z.items) e
row_is (x ∷ xs) (suc k) r l e = row_is xs k r (omega arith) e

pub row_set : (circuits : List CircuitCards) (calls : List (Vec ℕ)) (globals : List (List ℕ)) (rows rows_now : List (Vec ℕ)) (k : ℕ) (c : CircuitCards) (called : Vec ℕ) (made : Vec ℕ) (called_now : List ℕ)
    → k < length circuits → k < length calls → c ≡ get_or circuits k c → called ≡ get_or calls k called → called_now ≡ called.items → rows_now ≡ rows
    → IsNeedRow (circuit_seen c) called_now (lists rows_now) globals made.items
    → IsRowSet (map circuit_seen circuits) (lists calls) globals (lists rows) (lists (set rows k made)) k
row_set circuits calls globals rows rows_now k c called made called_now lc ll ec el en er is = record {
  circuit = circuit_seen c;
  there = got_lt circuits k c lc ec;
  row = made.items;
  is_row = subst (λ (xs : List ℕ). IsNeedRow (circuit_seen c) xs (lists rows) globals made.items) (en ∙ row_is calls k called ll el)
      (subst (λ (rs : List (Vec ℕ)). IsNeedRow (circuit_seen c) called_now (lists rs) globals made.items) er is);
  is_set = map-set (λ (r : Vec ℕ). r.items) rows k made;
}

row_other : (rows : List (List ℕ)) (k : ℕ) (row : List ℕ) (b : ℕ) → b ≢ k → slice_index_or (set rows k row) b [] ≡ slice_index_or rows b []
row_other rows k row b ne = get_or-set_other rows k b row [] ne

row_same : (rows : List (List ℕ)) (k : ℕ) (row : List ℕ) → k < length rows → slice_index_or (set rows k row) k [] ≡ row
row_same rows k row l = get_or-set_same rows k row [] l

-- what a row says is what its circuit's cards and the rows before it settle
row_says : (cs : List Circuit) (globals : List (List ℕ)) (rows : List (List ℕ)) (k : ℕ) (c : Circuit) (row : List ℕ) (j : ℕ) (g : List ℕ) → slice_get cs k ≡ Some c → slice_get globals j ≡ Some g
    → IsNeedRow c (slice_index_or (call_lists cs) k []) rows globals row → has_number row j ≡ needs_at cs rows g j k
row_says cs globals rows k c row j g at is h =
    h.says j g is
    ∙ ap (λ (o : Option Circuit). not (pin_in g o) && (has_text (used_nets c) g || needed_below rows (slice_index_or (call_lists cs) k []) j)) (sym at)
    ∙ ap (λ (o : Option Circuit). not (is_pin cs g k) && (used_in g o || needed_below rows (slice_index_or (call_lists cs) k []) j)) (sym at)

pub order_lt : (cs : List Circuit) (order : List ℕ) (i k : ℕ) → IsCallOrder (call_lists cs) order → i < length order → k ≡ slice_index_or order i 0 → k < length cs
order_lt cs order i k o l e =
    let h = o.within k (get_listed order i k (get_is order i k 0 l e)) in
    let n = length-map cs (λ (c : Circuit). map (called_in (names_of cs)) c.calls) in
    omega arith

pub settled_more : (cs : List Circuit) (calls : List (List ℕ)) (globals : List (List ℕ)) (order : List ℕ) (i k : ℕ) (old new : List (List ℕ)) → calls ≡ call_lists cs → IsCallOrder (call_lists cs) order
    → i < length order → k ≡ slice_index_or order i 0 → AreSettled cs globals (take i order) old → IsRowSet cs calls globals old new k → AreSettled cs globals (take (i + 1) order) new
settled_more cs calls globals order i k old new ec o l ek s r = record {
  count = ap (λ (xs : List (List ℕ)). length xs) r.is_set ∙ length-set old k r.row ∙ s.count;
  numbers = λ b h. elim (one_of b h) [
    | inl before ↦ subst (λ (xs : List ℕ). IsRow globals xs) (sym (stays b before)) (s.numbers b before)
    | inr e ↦ subst (λ (x : ℕ). IsRow globals (slice_index_or new x [])) (sym e) (subst (λ (xs : List ℕ). IsRow globals xs) (sym here) is_row.numbers)
  ];
  each = λ b j g h is. elim (one_of b h) [
    | inl before ↦ sym (same_needs b j before) ∙ s.each b j g before is ∙ kept b j g before
    | inr e ↦ subst (λ (x : ℕ). has_need new x j ≡ needs_at cs new g j x) (sym e)
        (ap (λ (xs : List ℕ). has_number xs j) here ∙ row_says cs globals old k r.circuit r.row j g r.there is is_row ∙ kept_here j g)
  ];
}
  where
    at : slice_get order i ≡ Some k
    at = get_is order i k 0 l ek

    is_row : IsNeedRow r.circuit (slice_index_or (call_lists cs) k []) old globals r.row
    is_row = subst (λ (xs : List (List ℕ)). IsNeedRow r.circuit (slice_index_or xs k []) old globals r.row) ec r.is_row

    one_of : (b : ℕ) → IsListed b (take (i + 1) order) → IsListed b (take i order) ⊎ (b ≡ k)
    one_of b h = last_or (take i order) b k (subst (λ (xs : List ℕ). IsListed b xs) (take_more order i 0 l ∙ ap (λ (x : ℕ). take i order ++ x ∷ []) (sym ek)) h)

    here : slice_index_or new k [] ≡ r.row
    here = ap (λ (rows : List (List ℕ)). slice_index_or rows k []) r.is_set ∙ row_same old k r.row (let n = s.count in let m = order_lt cs order i k o l ek in omega arith)

    not_here : (b : ℕ) → IsListed b (take i order) → b ≢ k
    not_here b h e = let t = taken order i b h in once order i t.0 k o.apart at (t.2 ∙ ap (λ (x : ℕ). let v : Option ℕ = Some x in v) e) t.1

    -- rows before it stay
    stays : (b : ℕ) → IsListed b (take i order) → slice_index_or new b [] ≡ slice_index_or old b []
    stays b h = ap (λ (rows : List (List ℕ)). slice_index_or rows b []) r.is_set ∙ row_other old k r.row b (not_here b h)

    same_needs : (b j : ℕ) → IsListed b (take i order) → has_need old b j ≡ has_need new b j
    same_needs b j h = ap (λ (xs : List ℕ). has_number xs j) (sym (stays b h))

    kept : (b j : ℕ) (g : List ℕ) → IsListed b (take i order) → needs_at cs old g j b ≡ needs_at cs new g j b
    kept b j g h =
        let t = taken order i b h in
        ap (λ (x : Bool). not (is_pin cs g b) && (is_used cs g b || x))
        (any_same (λ (d : ℕ). has_need old d j) (λ (d : ℕ). has_need new d j) (slice_index_or (call_lists cs) b [])
        (λ d c. let u = taken order t.0 d (o.behind t.0 b d t.2 c) in same_needs d j (listed_take order i u.0 d u.2 (let a = u.1 in let z = t.1 in omega arith))))

    kept_here : (j : ℕ) (g : List ℕ) → needs_at cs old g j k ≡ needs_at cs new g j k
    kept_here j g =
        ap (λ (x : Bool). not (is_pin cs g k) && (is_used cs g k || x))
        (any_same (λ (d : ℕ). has_need old d j) (λ (d : ℕ). has_need new d j) (slice_index_or (call_lists cs) k []) (λ d c. same_needs d j (o.behind i k d at c)))

-- ---- the table of all rows

pub listed_at : (xs : List ℕ) (k : ℕ) → IsListed k xs → (i : ℕ) × (slice_get xs i ≡ Some k)
listed_at [] k h = absurd h
listed_at (x ∷ xs) k (inl e) = (0, ap (λ (z : ℕ). let o : Option ℕ = Some z in o) (sym e))
listed_at (x ∷ xs) k (inr h) = let r = listed_at xs k h in (suc r.0, r.1)

pub get_lt : (cs : List Circuit) (k : ℕ) (c : Circuit) → slice_get cs k ≡ Some c → k < length cs
get_lt [] k c e = let z : ⊥ = cc in absurd z
get_lt (x ∷ xs) zero c e = omega arith
get_lt (x ∷ xs) (suc k) c e = let l = get_lt xs k c e in omega arith

used_lt : (cs : List Circuit) (g : List ℕ) (k : ℕ) → is_used cs g k ≡ true → k < length cs
used_lt [] g k e = let z : ⊥ = cc in absurd z
used_lt (x ∷ xs) g zero e = omega arith
used_lt (x ∷ xs) g (suc k) e = let l = used_lt xs g k e in omega arith

calls_lt : (cs : List Circuit) (a b : ℕ) → Calls (call_lists cs) a b → a < length cs
calls_lt cs a b h = let r = row_at (λ (c : Circuit). map (called_in (names_of cs)) c.calls) cs a b h in get_lt cs a r.0 r.1

pub count_lists : (cs : List Circuit) → length (call_lists cs) ≡ length cs
count_lists cs = length-map cs (λ (c : Circuit). map (called_in (names_of cs)) c.calls)

of_and : (p : Bool) (q : Bool) → (not p && q) ≡ true → (p ≡ false) × (q ≡ true)
of_and true q e = let z : ⊥ = cc in absurd z
of_and false q e = (refl, e)

up : (cs : List Circuit) (globals : List (List ℕ)) (order : List ℕ) (rows : List (List ℕ)) (j : ℕ) (g : List ℕ) → IsCallOrder (call_lists cs) order → AreSettled cs globals order rows → slice_get globals j ≡ Some g
    → (via : List ℕ) (k end : ℕ) → IsChain (Passes cs g) k via end → is_pin cs g end ≡ false → is_used cs g end ≡ true → has_need rows k j ≡ true
up cs globals order rows j g o s is [] k end c p u =
    subst (λ (x : ℕ). has_need rows x j ≡ true) (sym c) (s.each end j g (o.all end (let l = used_lt cs g end u in let n = count_lists cs in omega arith)) is ∙ rw p (rw u refl))
up cs globals order rows j g o s is (b ∷ via) k end c p u =
    let below = up cs globals order rows j g o s is via b end c.1 p u in
    let any : needed_below rows (slice_index_or (call_lists cs) k []) j ≡ true = any_listed (λ (d : ℕ). has_need rows d j) (slice_index_or (call_lists cs) k []) b c.0.1 below in
    let free = c.0.0 in
    s.each k j g (o.all k (let l = calls_lt cs k b c.0.1 in let n = count_lists cs in omega arith)) is ∙ rw free (or_right (is_used cs g k) (needed_below rows (slice_index_or (call_lists cs) k []) j) any)

down : (cs : List Circuit) (globals : List (List ℕ)) (order : List ℕ) (rows : List (List ℕ)) (j : ℕ) (g : List ℕ) → IsCallOrder (call_lists cs) order → AreSettled cs globals order rows → slice_get globals j ≡ Some g
    → (n i k : ℕ) → i < n → slice_get order i ≡ Some k → has_need rows k j ≡ true → Needs cs g k
down cs globals order rows j g o s is zero i k l at h = absurd (omega arith)
down cs globals order rows j g o s is (suc n) i k l at h =
    let says = of_and (is_pin cs g k) (is_used cs g k || needed_below rows (slice_index_or (call_lists cs) k []) j) (sym (s.each k j g (get_listed order i k at) is) ∙ h) in
    elim (or_cases (is_used cs g k) (needed_below rows (slice_index_or (call_lists cs) k []) j) says.1) [
      | inl u ↦ record { via = []; end = k; chain = refl; listed = says.0; used = u }
      | inr a ↦
          let b = listed_any (λ (d : ℕ). has_need rows d j) (slice_index_or (call_lists cs) k []) a in
          let t = taken order i b.0 (o.behind i k b.0 at b.1) in
          let m = down cs globals order rows j g o s is n t.0 b.0 (let q = t.1 in omega arith) t.2 b.2 in
          record { via = b.0 ∷ m.via; end = m.end; chain = ((says.0, b.1), m.chain); listed = m.listed; used = m.used }
    ]

pub table_is : (cs : List Circuit) (globals : List (List ℕ)) (order : List ℕ) (rows : List (List ℕ)) → IsCallOrder (call_lists cs) order → AreSettled cs globals order rows → IsNeedTable cs globals rows
table_is cs globals order rows o s = record {
  count = s.count;
  numbers = λ k l. s.numbers k (o.all k (let n = count_lists cs in omega arith));
  each = λ k j g l is. (
    (λ h. let a = listed_at order k (o.all k (let n = count_lists cs in omega arith)) in let m : a.0 < suc a.0 = omega arith in down cs globals order rows j g o s is (suc a.0) a.0 k m a.1 h),
    (λ d. up cs globals order rows j g o s is d.via k d.end d.chain d.listed d.used),
  );
}

pub none_settled : (circuits : List CircuitCards) (globals : List (List ℕ)) (rows : List (Vec ℕ)) → length rows ≡ length circuits → AreSettled (map circuit_seen circuits) globals [] (lists rows)
none_settled circuits globals rows e = record {
  count = length-map rows (λ (r : Vec ℕ). r.items) ∙ e ∙ sym (length-map circuits circuit_seen);
  numbers = λ k h. absurd h;
  each = λ k j g h is. absurd h;
}

pub order_lt_cards : (circuits : List CircuitCards) (order : List ℕ) (i : ℕ) → IsCallOrder (call_lists (map circuit_seen circuits)) order → i < length order → slice_index_or order i 0 < length circuits
order_lt_cards circuits order i o l = let h = order_lt (map circuit_seen circuits) order i (slice_index_or order i 0) o l refl in let n = length-map circuits circuit_seen in omega arith

pub order_lt_calls : (circuits : List CircuitCards) (calls : List (Vec ℕ)) (order : List ℕ) (i : ℕ) → lists calls ≡ call_lists (map circuit_seen circuits) → IsCallOrder (call_lists (map circuit_seen circuits)) order → i < length order
    → slice_index_or order i 0 < length calls
order_lt_calls circuits calls order i e o l =
    let h = order_lt (map circuit_seen circuits) order i (slice_index_or order i 0) o l refl in
    let n = count_lists (map circuit_seen circuits) in
    let m = length-map calls (λ (r : Vec ℕ). r.items) in
    let q : length (lists calls) ≡ length (call_lists (map circuit_seen circuits)) = ap (λ (xs : List (List ℕ)). length xs) e in
    omega arith

pub order_lt_rows : (circuits : List CircuitCards) (globals : List (List ℕ)) (order done : List ℕ) (rows : List (Vec ℕ)) (i : ℕ) → AreSettled (map circuit_seen circuits) globals done (lists rows) → IsCallOrder (call_lists (map circuit_seen circuits)) order
    → i < length order → slice_index_or order i 0 < length rows
order_lt_rows circuits globals order done rows i s o l =
    let h = order_lt (map circuit_seen circuits) order i (slice_index_or order i 0) o l refl in
    let n = s.count in
    let m = length-map rows (λ (r : Vec ℕ). r.items) in
    omega arith
