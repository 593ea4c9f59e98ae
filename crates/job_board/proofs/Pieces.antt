-- The slots in hand, one after the other.
use Rattle.std.proofs.Common.{◌≡◌, ℕ, zero, suc, ◌+◌, ◌<◌, ◌≤◌, List, [], ◌∷◌, ◌++◌, replicate, drop, take, length, get_or, slice_index, Option, Some, append-nil, append_assoc, refl, sym, ap, ◌∙◌, subst, arith, drop-cons}
use Rattle.atomic_table.specs.Table.{Me, rest, turned}
use Rattle.job_graph.specs.declared.notes.CellNote.{CellNote}
use Rattle.job_board.specs.Notes.{IsRight, AreNotes}
use Rattle.std.proofs.lemmas.List.{drop_all, length-map, get_or-map}
use Rattle.job_board.specs.declared.view.Plan.{Plan}
use Rattle.job_board.specs.declared.view.View.{View}
use Rattle.job_board.specs.Rule.{AreDependents, dependents, graph_of, dependents_of, graph_in}
use Rattle.job_board.specs.Plays.{telling, resting}
use Rattle.job_graph.specs.Graph.{inputs_of}
use Rattle.job_board.specs.Slots.{first, own_slot, edge_slot, numbered, held_by, AreRight}
use Rattle.job_board.specs.Pieces.{waiting_slots, MayTell, MayEnd}
use Rattle.job_board.specs.declared.layout.Edge.{Edge}
use Rattle.job_board.specs.Layout.{edge_to, edges_of}

-- a second note is as right as the first
pub right_again : {T K : Type 0} (defined : K → ℕ → T → Type 0) (p : Plan T K) (j : ℕ) (n m : CellNote T) → (m.cell ≡ n.cell) × (m.value ≡ n.value) → IsRight defined p j (Some n) → IsRight defined p j (Some m)
right_again defined p j n m e h = (e.0 ∙ h.0, subst (defined p.key j) (sym e.1) h.1)

-- the edge at a place of the list
pub edge_at : (g : List (List ℕ)) (j i : ℕ) (edges : List Edge) (d : Edge) → edges ≡ edges_of g j → i < length edges
    → (i < length (inputs_of (dependents g) j)) × ((get_or edges i d).to ≡ slice_index (inputs_of (dependents g) j) i) × ((get_or edges i d).slot ≡ edge_slot g j (slice_index (inputs_of (dependents g) j) i))
edge_at g j i edges d is l =
    let to = inputs_of (dependents g) j in let many = length-map to (edge_to g j) in let same = ap length is in let l' : i < length to = omega arith in
    let it : get_or edges i d ≡ edge_to g j (slice_index to i) = ap (λ z. get_or z i d) is ∙ get_or-map (edge_to g j) to i 0 d l' in
    (l', ap (λ (z : Edge). z.to) it, ap (λ (z : Edge). z.slot) it)

module _ {S : Type 0} where
  pub in_front : (empty : S) (g : List (List ℕ)) (j : ℕ) (ks : List ℕ) (i : ℕ) → i < length ks → waiting_slots empty g j (drop i ks) ≡ (edge_slot g j (slice_index ks i), empty) ∷ waiting_slots empty g j (drop (suc i) ks)
  in_front empty g j ks i l = ap (waiting_slots empty g j) (drop-cons ks i 0 l)

  pub headed : (c c' : List (ℕ × S)) (x : ℕ × S) → c ≡ x ∷ c' → c ≡ x ∷ rest c
  headed c c' x e = e ∙ ap (λ z. x ∷ z) (sym (ap rest e))

  all_gone : (n : ℕ) (base : ℕ) (y : S) → drop n (numbered base (replicate n y)) ≡ []
  all_gone zero base y = refl
  all_gone (suc n) base y = all_gone n (suc base) y

  pub held_gone : (empty : S) (g : List (List ℕ)) (j : ℕ) (y : S) → drop (suc (length (inputs_of g j))) (held_by empty g j y) ≡ []
  held_gone empty g j y = all_gone (length (inputs_of g j)) (first g j) empty

module _ {T K S : Type 0} (right : Plan T K → ℕ → S → Type 0) (p : Plan T K) (fits : AreDependents (graph_of p) (dependents_of p)) (v : View T K) (me now : Me S (View T K)) (j i : ℕ) (to : List ℕ) (all : to ≡ inputs_of (dependents_of p) j) (y : S) (good : right p j y) where
  pub may_tell : (slot k : ℕ) (c : List (ℕ × S)) → slot ≡ edge_slot (graph_of p) j k → slice_index to i ≡ k → i < length to → me ≡ (telling v j i, c) → now ≡ (me.0, (slot, y) ∷ rest me.1) → MayTell right p now j i k
  may_tell slot k c at is l e n = let l' : i < length (inputs_of (dependents_of p) j) = subst (λ ks. i < length ks) all l in record {
    work = ap (λ m. m.0.work) n ∙ ap (λ m. m.0.work) e;
    more = l';
    next = ap (λ ks. slice_index ks i) (sym all) ∙ is;
    within = subst (λ z. z < length (graph_of p)) (ap (λ ks. slice_index ks i) (sym all) ∙ is) (fits.edge j i l').0;
    hand = (y, rest me.1, ap (λ m. m.1) n ∙ ap (λ z. (z, y) ∷ rest me.1) at, good);
  }

  pub may_end : (empty : S) (own : ℕ) → own ≡ own_slot (graph_of p) j → length to ≤ i → i ≤ length to → me ≡ (telling v j i, waiting_slots empty (graph_of p) j (drop i to) ++ held_by empty (graph_of p) j empty) → now ≡ (me.0, (own, y) ∷ rest me.1) → MayEnd empty right p now j
  may_end empty own is g l e n = let last : i ≡ length (inputs_of (dependents_of p) j) = (let a : i ≡ length to = omega arith in a ∙ ap length all) in
      let gone : drop i to ≡ [] = drop_all i to g in record {
        work = ap (λ m. m.0.work) n ∙ ap (λ m. m.0.work) e ∙ ap (λ z. (telling v j z).work) last;
        hand = (y, [], ap (λ m. m.1) n ∙ ap (λ z. (z, y) ∷ rest me.1) is ∙ ap (λ c. (own_slot (graph_of p) j, y) ∷ rest c) (ap (λ m. m.1) e ∙ ap (λ ks. waiting_slots empty (graph_of p) j ks ++ held_by empty (graph_of p) j empty) gone) ∙ sym (append-nil (held_by empty (graph_of p) j y)), good);
      }

-- after a dependent was told: the slots of the next ones in hand
pub told_more : {T K S : Type 0} (empty y : S) (g : List (List ℕ)) (v : View T K) (me now last : Me S (View T K)) (j i slot : ℕ) (to : List ℕ) (held : List (ℕ × S)) → i < length to → me ≡ (telling v j i, waiting_slots empty g j (drop i to) ++ held)
    → now ≡ (me.0, (slot, y) ∷ rest me.1) → last ≡ (telling now.0 j (suc i), drop 1 now.1) → last ≡ (telling v j (i + 1), waiting_slots empty g j (drop (i + 1) to) ++ held)
told_more {T} {K} empty y g v me now last j i slot to held l e n is =
    let view : now.0 ≡ telling v j i = ap (λ m. m.0) n ∙ ap (λ m. m.0) e in
    let tail : drop 1 now.1 ≡ waiting_slots empty g j (drop (suc i) to) ++ held = ap (λ m. drop 1 m.1) n ∙ ap (λ m. rest m.1) e ∙ ap (λ c. rest (c ++ held)) (in_front empty g j to i l) in
    let up : suc i ≡ i + 1 = omega arith in
    is ∙ (λ k. (telling (view k) j (suc i), tail k)) ∙ ap (λ z. (let b : Me _ (View T K) = (telling v j z, waiting_slots empty g j (drop z to) ++ held) in b)) up

-- after the end: nothing in hand
pub at_rest : {T K S : Type 0} (empty : S) (p : Plan T K) (v : View T K) (me now last : Me S (View T K)) (j i own : ℕ) (to : List ℕ) (y : S) → v.plan ≡ Some p → length to ≤ i → me ≡ (telling v j i, waiting_slots empty (graph_of p) j (drop i to) ++ held_by empty (graph_of p) j empty)
    → now ≡ (me.0, (own, y) ∷ rest me.1) → last ≡ (resting now.0, drop (suc (length (inputs_of (graph_in now.0.plan) j))) now.1) → last ≡ (resting v, [])
at_rest {T} {K} {S} empty p v me now last j i own to y planned g e n l =
    let gone : drop i to ≡ [] = drop_all i to g in
    let plan : now.0.plan ≡ Some p = ap (λ m. m.0.plan) n ∙ ap (λ m. m.0.plan) e ∙ planned in
    let tail : rest me.1 ≡ numbered (first (graph_of p) j) (replicate (length (inputs_of (graph_of p) j)) empty) = ap (λ m. rest m.1) e ∙ ap (λ ks. rest (waiting_slots empty (graph_of p) j ks ++ held_by empty (graph_of p) j empty)) gone in
    let none' : drop (suc (length (inputs_of (graph_in now.0.plan) j))) now.1 ≡ [] = ap (λ (q : Option (Plan T K)). drop (suc (length (inputs_of (graph_in q) j))) now.1) plan ∙ ap (λ m. drop (suc (length (inputs_of (graph_of p) j))) m.1) n ∙ ap (λ c. drop (suc (length (inputs_of (graph_of p) j))) ((own, y) ∷ c)) tail
    ∙ all_gone (length (inputs_of (graph_of p) j)) (first (graph_of p) j) empty in
    let view : now.0 ≡ telling v j i = ap (λ m. m.0) n ∙ ap (λ m. m.0) e in
    l ∙ (λ k. (resting (view k), none' k))

-- the next of the values that stand side by side
pub next_right : {S : Type 0} (right : ℕ → S → Type 0) (is : List ℕ) (i : ℕ) (ys : List S) → i < length is → AreRight right (drop i is) ys → (y : S) × (zs : List S) × (ys ≡ y ∷ zs) × right (slice_index is i) y × AreRight right (drop (suc i) is) zs
next_right {S} right is i ys l h = cut ys (subst (λ ks. AreRight right ks ys) (drop-cons is i 0 l) h) where
  cut : (ys : List S) → AreRight right (slice_index is i ∷ drop (suc i) is) ys → (y : S) × (zs : List S) × (ys ≡ y ∷ zs) × right (slice_index is i) y × AreRight right (drop (suc i) is) zs
  cut [] h = absurd h
  cut (y ∷ zs) h = (y, zs, refl, h.0, h.1)

numbered_more : {S : Type 0} (base n : ℕ) (y : S) → numbered base (replicate (suc n) y) ≡ numbered base (replicate n y) ++ (base + n, y) ∷ []
numbered_more base zero y = ap (λ z. (z, y) ∷ []) (let e : base ≡ base + 0 = omega arith in e)
numbered_more base (suc n) y = ap (λ z. (base, y) ∷ z) (numbered_more (suc base) n y) ∙ ap (λ z. (base, y) ∷ numbered (suc base) (replicate n y) ++ (z, y) ∷ []) (let e : suc base + n ≡ base + suc n = omega arith in e)

-- one slot is emptied and goes behind the others
pub emptied : {S : Type 0} (empty y : S) (base i : ℕ) (zs : List S) (m : List (ℕ × S)) (c : List (ℕ × S)) → c ≡ numbered (base + i) (y ∷ zs) ++ (m ++ numbered base (replicate i empty))
    → turned ((base + i, empty) ∷ rest c) ≡ numbered (base + (i + 1)) zs ++ (m ++ numbered base (replicate (i + 1) empty))
emptied empty y base i zs m c e = ap (λ z. rest z ++ (base + i, empty) ∷ []) e
    ∙ append_assoc (numbered (suc (base + i)) zs) (m ++ numbered base (replicate i empty)) ((base + i, empty) ∷ [])
    ∙ ap (λ z. numbered (suc (base + i)) zs ++ z) (append_assoc m (numbered base (replicate i empty)) ((base + i, empty) ∷ []) ∙ ap (λ z. m ++ z) (sym (numbered_more base i empty)))
    ∙ ap (λ k. numbered k zs ++ (m ++ numbered base (replicate (suc i) empty))) (let f : suc (base + i) ≡ base + (i + 1) = omega arith in f)
    ∙ ap (λ k. numbered (base + (i + 1)) zs ++ (m ++ numbered base (replicate k empty))) (let f : suc i ≡ i + 1 = omega arith in f)

pub notes_more : {T K : Type 0} (defined : K → ℕ → T → Type 0) (p : Plan T K) (is : List ℕ) (i : ℕ) (ns : List (CellNote T)) (n : CellNote T) → i < length is → AreNotes defined p (take i is) ns → IsRight defined p (slice_index is i) (Some n) → AreNotes defined p (take (i + 1) is) (ns ++ n ∷ [])
notes_more {T} defined p is i ns n l h r = subst (λ k. AreNotes defined p (take k is) (ns ++ n ∷ [])) (let e : suc i ≡ i + 1 = omega arith in e) (go is i ns l h r) where
  go : (is : List ℕ) (i : ℕ) (ns : List (CellNote T)) → i < length is → AreNotes defined p (take i is) ns → IsRight defined p (slice_index is i) (Some n) → AreNotes defined p (take (suc i) is) (ns ++ n ∷ [])
  go [] i ns l h r = absurd (omega arith)
  go (k ∷ ks) zero [] l h r = (r, tt)
  go (k ∷ ks) zero (m ∷ ms) l h r = absurd h
  go (k ∷ ks) (suc i) [] l h r = absurd h
  go (k ∷ ks) (suc i) (m ∷ ms) l h r = (h.0, go ks i ms (omega arith) h.1 r)

pub front_note : {S : Type 0} (base : ℕ) (ys zs : List S) (y : S) (m c : List (ℕ × S)) → c ≡ numbered base ys ++ m → ys ≡ y ∷ zs → c ≡ (base, y) ∷ rest c
front_note base ys zs y m c e f = headed c (numbered (suc base) zs ++ m) (base, y) (e ∙ ap (λ z. numbered base z ++ m) f)

-- what was found in the slot
pub found_is : {S : Type 0} (slot : ℕ) (y r : S) (c : List (ℕ × S)) → c ≡ (slot, y) ∷ rest c → c ≡ (slot, r) ∷ rest c → r ≡ y
found_is {S} slot y r c e f = let a : ℕ × S = (slot, r) in let b : ℕ × S = (slot, y) in let same : a ∷ rest c ≡ b ∷ rest c = sym f ∙ e in let p : a ≡ b = (cc) in ap (λ (z : ℕ × S). z.1) p
