-- Nodes over entries: what is added, and what a walk over them passes.
use Rattle.std.proofs.Common.{◌≡◌, ◌≢◌, inl, inr, ℕ, zero, suc, ◌+◌, ◌-◌, ◌<◌, ◌≤◌, List, [], ◌∷◌, ◌++◌, Some, true, false, map, length, take, drop, get_or, slice_get, refl, sym, ◌∙◌, ap, subst, arith, length-append, append-nil, append_assoc}
use Rattle.base_laws.proofs.Items.{get_front, get_last}
use Rattle.std.proofs.Math.Decide.{ℕ_discrete}
use Rattle.std.proofs.lemmas.Bool.{cases_lt, cases_Bool}
use Rattle.std.proofs.lemmas.List.{map-append, take-take, take-append-drop, drop-take, take_more, length_push, length-drop, length-take-le, get_or-take, get_or-drop}
use Rattle.std.proofs.lemmas.List.Elements.{filter-append}
use Rattle.std.proofs.lemmas.Option.{slice_get-get_or, slice_get_within, get_or_from_slice_get}
use Rattle.geo_base.specs.declared.shapes.Rect.{Rect}
use Rattle.geo_base.specs.Rects.{IsInside, meets, bounding_box}
use Rattle.tile_index.specs.declared.entries.Entry.{Entry}
use Rattle.tile_index.specs.declared.tree.Node.{Node}
use Rattle.tile_index.specs.Entries.{hits}
use Rattle.tile_index.specs.Trees.{from_of, begin_of, HoldsAll, HoldsRange, IsNode, AreNodes, IsAbove, Grows, part}
use Rattle.geo_base.proofs.Meeting.{inside_meets, inside_too, in_left, in_right}
use Rattle.tile_index.proofs.Positions.{hit_more, hit_same}

pub hits_append : (w : Rect) (xs ys : List Entry) → hits w (xs ++ ys) ≡ hits w xs ++ hits w ys
hits_append w xs ys =
    ap (λ (es : List Entry). map (λ (e : Entry). e.position) es) (filter-append (λ (e : Entry). meets e.rect w) xs ys)
    ∙ map-append (λ (e : Entry). e.position) _ _

pub hit_pushed : (w : Rect) (entries : List Entry) (i : ℕ) (d : Entry) (old : List ℕ) → i < length entries → meets (get_or entries i d).rect w ≡ true
    → (old ++ hits w (take i entries)) ++ (get_or entries i d).position ∷ [] ≡ old ++ hits w (take (i + 1) entries)
hit_pushed w entries i d old lt hit =
    let last : hits w (get_or entries i d ∷ []) ≡ (get_or entries i d).position ∷ [] = hit_more w (get_or entries i d) [] hit in
    append_assoc old (hits w (take i entries)) ((get_or entries i d).position ∷ [])
    ∙ ap (λ ks. old ++ (hits w (take i entries) ++ ks)) (sym last)
    ∙ ap (λ ks. old ++ ks) (sym (hits_append w (take i entries) (get_or entries i d ∷ [])) ∙ ap (hits w) (sym (take_more entries i d lt)))

pub hit_passed : (w : Rect) (entries : List Entry) (i : ℕ) (d : Entry) → i < length entries → meets (get_or entries i d).rect w ≡ false
    → hits w (take i entries) ≡ hits w (take (i + 1) entries)
hit_passed w entries i d lt miss =
    let last : hits w (get_or entries i d ∷ []) ≡ [] = hit_same w (get_or entries i d) [] miss in
    sym (append-nil (hits w (take i entries)))
    ∙ ap (λ ks. hits w (take i entries) ++ ks) (sym last)
    ∙ sym (hits_append w (take i entries) (get_or entries i d ∷ [])) ∙ ap (hits w) (sym (take_more entries i d lt))

-- entries that don't reach into the window add nothing
pub none_between : (w : Rect) (entries : List Entry) (from to : ℕ) → from ≤ to
    → ((k : ℕ) (e : Entry) → from ≤ k → k < to → slice_get entries k ≡ Some e → meets e.rect w ≡ false) → hits w (take from entries) ≡ hits w (take to entries)
none_between w entries zero zero le none = refl
none_between w entries (suc from) zero le none = absurd (omega arith)
none_between w [] zero (suc to) le none = refl
none_between w [] (suc from) (suc to) le none = refl
none_between w (e ∷ entries) zero (suc to) le none =
    none_between w entries zero to (omega arith) (λ k f low lt there. none (suc k) f (omega arith) (omega arith) there)
    ∙ sym (hit_same w e (take to entries) (none 0 e (omega arith) (omega arith) refl))
none_between w (e ∷ entries) (suc from) (suc to) le none =
    let rest = none_between w entries from to (omega arith) (λ k f low lt there. none (suc k) f (omega arith) (omega arith) there) in
    elim (cases_Bool (meets e.rect w)) [
      | inl hit ↦ hit_more w e (take from entries) hit ∙ ap (λ ks. e.position ∷ ks) rest ∙ sym (hit_more w e (take to entries) hit)
      | inr miss ↦ hit_same w e (take from entries) miss ∙ rest ∙ sym (hit_same w e (take to entries) miss)
    ]

-- no entry under a node reaches into a window that its rectangle doesn't reach into
pub node_passed : (w : Rect) (entries : List Entry) (nodes : List Node) (i : ℕ) (node : Node) → IsNode entries nodes i node → meets node.hull w ≡ false
    → hits w (take node.from entries) ≡ hits w (take node.to entries)
node_passed w entries nodes i node h miss =
    none_between w entries node.from node.to h.range (λ k e low lt there. elim (cases_Bool (meets e.rect w)) [
      | inl hit ↦ let z : ⊥ = (let f = inside_meets e.rect node.hull w (h.holds k e low lt there) hit in cc) in absurd z
      | inr free ↦ free
    ])

pub take_split : {A : Type 0} (xs : List A) (from to : ℕ) → from ≤ to → take to xs ≡ take from xs ++ take (to - from) (drop from xs)
take_split xs from to le =
    let sum : from + (to - from) ≡ to = omega arith in
    let rest : drop from (take to xs) ≡ take (to - from) (drop from xs) = ap (λ n. drop from (take n xs)) (sym sum) ∙ drop-take from (to - from) xs in
    sym (take-append-drop from (take to xs))
    ∙ ap (λ ys. ys ++ drop from (take to xs)) (take-take from to xs le)
    ∙ ap (λ ys. take from xs ++ ys) rest

-- the entries of a leaf are looked at
pub leaf_passed : (w : Rect) (entries : List Entry) (from to : ℕ) → from ≤ to
    → hits w (take from entries) ++ hits w (take (to - from) (drop from entries)) ≡ hits w (take to entries)
leaf_passed w entries from to le =
    sym (hits_append w (take from entries) (take (to - from) (drop from entries))) ∙ ap (hits w) (sym (take_split entries from to le))

pub begin_kept : (entries : List Entry) (old more : List Node) (n : ℕ) → n ≤ length old → begin_of entries (old ++ more) n ≡ begin_of entries old n
begin_kept entries old more zero le = refl
begin_kept entries old more (suc n) le = ap (from_of (length entries)) (get_front old more n (omega arith))

pub begin_at : (entries : List Entry) (nodes : List Node) (n : ℕ) (node : Node) → slice_get nodes n ≡ Some node → begin_of entries nodes (suc n) ≡ node.from
begin_at entries nodes n node there = ap (from_of (length entries)) there

node_kept : (entries : List Entry) (nodes more : List Node) (i : ℕ) (node : Node) → i ≤ length nodes → IsNode entries nodes i node → IsNode entries (nodes ++ more) i node
node_kept entries nodes more i node le h = record {
  low = h.low;
  range = h.range;
  inside = h.inside;
  behind = begin_kept entries nodes more node.skip (let low = h.low in omega arith) ∙ h.behind;
  inner = λ lt. begin_kept entries nodes more i le ∙ h.inner lt;
  holds = h.holds;
}

-- one node more
pub node_pushed : (entries : List Entry) (nodes : List Node) (node : Node) → node.from ≤ node.to → node.to ≤ length entries → AreNodes entries nodes
    → IsAbove entries nodes node.from node.to node.skip → HoldsRange entries node.from node.to node.hull → Grows entries node.from nodes (nodes ++ node ∷ [])
node_pushed entries nodes node range inside all above holds =
    let own : IsNode entries nodes (length nodes) node = record {
      low = above.low_skip;
      range = range;
      inside = inside;
      behind = above.ends;
      inner = above.begins_too;
      holds = holds;
    } in
    record {
      nodes = λ i other there. elim (ℕ_discrete i (length nodes)) [
        | yes e ↦
            let at_end : slice_get (nodes ++ node ∷ []) i ≡ Some node = subst (λ n. slice_get (nodes ++ node ∷ []) n ≡ Some node) (sym e) (get_last nodes node) in
            let same : node ≡ other = (let f : Some node ≡ Some other = sym at_end ∙ there in cc) in
            subst (λ (o : Node). IsNode entries (nodes ++ node ∷ []) i o) same
            (subst (λ n. IsNode entries (nodes ++ node ∷ []) n node) (sym e) (node_kept entries nodes (node ∷ []) (length nodes) node (omega arith) own))
        | no ne ↦
            let within = slice_get_within (nodes ++ node ∷ []) i other there in
            let count = length_push nodes node in
            let lt : i < length nodes = omega arith in
            node_kept entries nodes (node ∷ []) i other (omega arith) (all i other (sym (get_front nodes (node ∷ []) i lt) ∙ there))
      ];
      begins = ap (begin_of entries (nodes ++ node ∷ [])) (length_push nodes node ∙ (let f : length nodes + 1 ≡ suc (length nodes) = omega arith in f))
          ∙ begin_at entries (nodes ++ node ∷ []) (length nodes) node (get_last nodes node);
      kept = (node ∷ [], refl);
    }

-- a node above the nodes that were added
pub above_added : (entries : List Entry) (from to : ℕ) (old mid new : List Node) → begin_of entries old (length old) ≡ to → (more : List Node) → mid ≡ old ++ more → Grows entries from mid new
    → IsAbove entries new from to (length old)
above_added entries from to old mid new next more is grown =
    let all : new ≡ old ++ (more ++ grown.kept.0) = grown.kept.1 ∙ ap (λ ns. ns ++ grown.kept.0) is ∙ append_assoc old more grown.kept.0 in
    record {
      low_skip = let count = ap length all ∙ length-append old (more ++ grown.kept.0) in omega arith;
      ends = ap (λ ns. begin_of entries ns (length old)) all ∙ begin_kept entries old _ (length old) (omega arith) ∙ next;
      begins_too = λ lt. grown.begins;
    }

pub kept_all : {A : Type 0} (old mid new : List A) → ((more : List A) × (mid ≡ old ++ more)) → ((more : List A) × (new ≡ mid ++ more)) → (more : List A) × (new ≡ old ++ more)
kept_all old mid new (a, is_a) (b, is_b) = (a ++ b, is_b ∙ ap (λ ns. ns ++ b) is_a ∙ append_assoc old a b)

-- the rectangle around one entry more
pub holds_more : (entries : List Entry) (i : ℕ) (d : Entry) (hull : Rect) → i < length entries
    → ((k : ℕ) (e : Entry) → k < i → slice_get entries k ≡ Some e → IsInside e.rect hull)
    → (k : ℕ) (e : Entry) → k < i + 1 → slice_get entries k ≡ Some e → IsInside e.rect (bounding_box hull (get_or entries i d).rect)
holds_more entries i d hull lt old k e below there =
    elim (ℕ_discrete k i) [
      | yes same ↦
          let at_i : slice_get entries i ≡ Some e = subst (λ n. slice_get entries n ≡ Some e) same there in
          let is : get_or entries i d ≡ e = (let f : Some (get_or entries i d) ≡ Some e = sym (slice_get-get_or entries i d lt) ∙ at_i in cc) in
          subst (λ (o : Entry). IsInside o.rect (bounding_box hull (get_or entries i d).rect)) is (in_right hull (get_or entries i d).rect)
      | no ne ↦ inside_too e.rect hull _ (old k e (omega arith) there) (in_left hull (get_or entries i d).rect)
    ]

-- the rectangle around a part of the entries
pub holds_range : (entries : List Entry) (from to : ℕ) (hull : Rect) → to ≤ length entries → HoldsAll (take (to - from) (drop from entries)) hull → HoldsRange entries from to hull
holds_range entries from to hull inside all k e low lt there = all (k - from) e (in_part entries from to k e inside low lt there)
  where
    in_part : {A : Type 0} (xs : List A) (from to k : ℕ) (x : A) → to ≤ length xs → from ≤ k → k < to → slice_get xs k ≡ Some x → slice_get (take (to - from) (drop from xs)) (k - from) ≡ Some x
    in_part xs from to k x inside low lt there =
        let rest = length-drop from xs in
        let count : length (take (to - from) (drop from xs)) ≡ to - from = length-take-le (to - from) (drop from xs) (omega arith) in
        let below : k - from < length (take (to - from) (drop from xs)) = omega arith in
        let sum : from + (k - from) ≡ k = omega arith in
        slice_get-get_or (take (to - from) (drop from xs)) (k - from) x below
        ∙ ap Some (get_or-take (to - from) (drop from xs) (k - from) x (omega arith)
        ∙ get_or-drop from xs (k - from) x ∙ ap (λ n. get_or xs n x) sum ∙ get_or_from_slice_get xs k x x there)

-- what grew twice
pub above_both : (entries : List Entry) (from middle to : ℕ) (old mid new : List Node) → Grows entries middle old mid → Grows entries from mid new
    → begin_of entries old (length old) ≡ to → IsAbove entries new from to (length old)
above_both entries from middle to old mid new late early next =
    let (a, mid_is) = late.kept in
    let (b, new_is) = early.kept in
    let whole : new ≡ old ++ (a ++ b) = new_is ∙ ap (λ xs. xs ++ b) mid_is ∙ append_assoc old a b in
    let count : length new ≡ length old + length (a ++ b) = ap length whole ∙ length-append old (a ++ b) in
    record {
      low_skip = omega arith;
      ends = ap (λ xs. begin_of entries xs (length old)) whole ∙ begin_kept entries old (a ++ b) (length old) (omega arith) ∙ next;
      begins_too = λ lt. early.begins;
    }

-- what holds the entries of two parts holds those of both
pub holds_both : (entries : List Entry) (from middle to : ℕ) (early late : Rect) → HoldsRange entries from middle early → HoldsRange entries middle to late → HoldsRange entries from to (bounding_box early late)
holds_both entries from middle to early late a b k e low lt there = elim (cases_lt k middle) [
  | inl before ↦ inside_too e.rect early (bounding_box early late) (a k e low before there) (in_left early late)
  | inr after ↦ inside_too e.rect late (bounding_box early late) (b k e after lt there) (in_right early late)
]

-- a walk down to the i-th node has found what lies before it
pub record HasWalked (w : Rect) (entries : List Entry) (nodes : List Node) (i : ℕ) (found : List ℕ) : Type 0 where
  pub inside : i ≤ length nodes
  pub found_are : found ≡ hits w (take (begin_of entries nodes i) entries)

pub node_at : (entries : List Entry) (nodes : List Node) (i : ℕ) (d : Node) → AreNodes entries nodes → 0 < i → i ≤ length nodes → IsNode entries nodes (i - 1) (get_or nodes (i - 1) d)
node_at entries nodes i d all above within = all (i - 1) (get_or nodes (i - 1) d) (slice_get-get_or nodes (i - 1) d (omega arith))

-- it stands where the entries of the node begin
at_node : (w : Rect) (entries : List Entry) (nodes : List Node) (i : ℕ) (d : Node) (found : List ℕ) → 0 < i → HasWalked w entries nodes i found
    → found ≡ hits w (take (get_or nodes (i - 1) d).from entries)
at_node w entries nodes i d found above h =
    let within = h.inside in
    let is : i ≡ suc (i - 1) = omega arith in
    let begin : begin_of entries nodes i ≡ (get_or nodes (i - 1) d).from =
    ap (begin_of entries nodes) is ∙ begin_at entries nodes (i - 1) (get_or nodes (i - 1) d) (slice_get-get_or nodes (i - 1) d (omega arith)) in
    h.found_are ∙ ap (λ n. hits w (take n entries)) begin

pub walked_past : (w : Rect) (entries : List Entry) (nodes : List Node) (i : ℕ) (d : Node) (found : List ℕ) → AreNodes entries nodes → 0 < i → HasWalked w entries nodes i found
    → meets (get_or nodes (i - 1) d).hull w ≡ false → HasWalked w entries nodes (get_or nodes (i - 1) d).skip found
walked_past w entries nodes i d found all above h miss =
    let node = get_or nodes (i - 1) d in
    let within = h.inside in
    let nd = node_at entries nodes i d all above within in
    let low = nd.low in
    record {
      inside = omega arith;
      found_are = at_node w entries nodes i d found above h ∙ node_passed w entries nodes (i - 1) node nd miss ∙ ap (λ n. hits w (take n entries)) (sym nd.behind);
    }

pub walked_leaf : (w : Rect) (entries : List Entry) (nodes : List Node) (i : ℕ) (d : Node) (found : List ℕ) → AreNodes entries nodes → 0 < i → HasWalked w entries nodes i found
    → (get_or nodes (i - 1) d).skip ≡ i - 1 → HasWalked w entries nodes (i - 1) (found ++ hits w (part entries (get_or nodes (i - 1) d)))
walked_leaf w entries nodes i d found all above h leaf =
    let node = get_or nodes (i - 1) d in
    let within = h.inside in
    let nd = node_at entries nodes i d all above within in
    record {
      inside = omega arith;
      found_are = ap (λ ks. ks ++ hits w (part entries node)) (at_node w entries nodes i d found above h)
          ∙ leaf_passed w entries node.from node.to nd.range
          ∙ ap (λ n. hits w (take n entries)) (sym nd.behind ∙ ap (begin_of entries nodes) leaf);
    }

pub walked_in : (w : Rect) (entries : List Entry) (nodes : List Node) (i : ℕ) (d : Node) (found : List ℕ) → AreNodes entries nodes → 0 < i → HasWalked w entries nodes i found
    → (get_or nodes (i - 1) d).skip ≢ i - 1 → HasWalked w entries nodes (i - 1) found
walked_in w entries nodes i d found all above h inner =
    let node = get_or nodes (i - 1) d in
    let within = h.inside in
    let nd = node_at entries nodes i d all above within in
    let low = nd.low in
    record {
      inside = omega arith;
      found_are = at_node w entries nodes i d found above h ∙ ap (λ n. hits w (take n entries)) (sym (nd.inner (omega arith)));
    }
