-- Nets of a flat circuit are the classes over inner paths.
use Rattle.std.proofs.Common.{◌≡◌, inl, inr, ℕ, List, [], ◌∷◌, ◌++◌, refl, sym, ◌∙◌, ap, subst}
use Rattle.plain_netlist.proofs.Once.{one_call}
use Rattle.plain_netlist.specs.Chains.{IsChain, Reaches}
use Rattle.plain_netlist.specs.Netlist.{CallRow, Netlist, IsCall, HasNet, IsSlot, Slot, Joins, IsJoin, slot}
use Rattle.align_laws.specs.Flat.{Placing, CallFate, Goes, Maps, below, step, image, placed_net, net_image, AreInlined}
use Rattle.align_laws.specs.Words.{IsInside, IsInnerLink, AreNetsInside, InnerNetLaw}
use Rattle.plain_netlist.proofs.Links.{stays, single, both, back, along}

module _ (g f : Netlist) (v : Maps) (height : ℕ → ℕ) (are : AreInlined g f v height) where
  abbrev Way : ℕ → Slot → Slot → Type 0
  Way c a b = Reaches (IsInnerLink g v c) a b

  link_back : (c : ℕ) (a b : Slot) → IsInnerLink g v c a b → IsInnerLink g v c b a
  link_back c a b (inl h) = inr h
  link_back c a b (inr h) = inl h

  way_back : (c : ℕ) (a b : Slot) → Way c a b → Way c b a
  way_back c a b h = back (IsInnerLink g v c) (link_back c) a b h

  way_on : (c : ℕ) (a b d : Slot) → Way c a b → Way c b d → Way c a d
  way_on c a b d h k = both (IsInnerLink g v c) a b d h k

  way_same : (c : ℕ) (a b : Slot) → a ≡ b → Way c a b
  way_same c a b e = stays (IsInnerLink g v c) a b e

  -- what is joined inside has one image
  joins_image : (path : List ℕ) (c outer k inner : ℕ) → Joins g c path outer k inner → IsInside g v c (path ++ k ∷ []) → image v placed_net c path outer ≡ image v placed_net c (path ++ k ∷ []) inner
  joins_image [] c outer k inner (row, call, called, at, p, net, pin) (row', call', i, fate, rest) =
      let inlaid = (are.each c).goes k i row call fate in
      ap (slot []) (sym (inlaid.pin p outer inner net (called, at, pin))) ∙ ap (λ (x : CallFate). step placed_net x (slot [] inner)) (sym fate)
  joins_image (j ∷ js) c outer k inner (row, call, h) (row', call', i, fate, rest) =
      let one : row' ≡ row = one_call g c j row' row call' call in
      let target = (are.each c).target j row call in
      let low = joins_image js row.circuit outer k inner h (subst (λ (r : CallRow). IsInside g v r.circuit (js ++ k ∷ [])) one rest) in
      ap (step placed_net (v.fate c j)) (subst (λ (t : ℕ). image v placed_net t js outer ≡ image v placed_net t (js ++ k ∷ []) inner) (sym target) low)

  join_image : (c : ℕ) (a b : Slot) → IsJoin g c a b → IsInside g v c b.path → net_image v c a ≡ net_image v c b
  join_image c a b j h =
      joins_image a.path c a.net j.number b.net j.joins (subst (λ (q : List ℕ). IsInside g v c q) (sym j.deeper) h) ∙ ap (λ (q : List ℕ). image v placed_net c q b.net) j.deeper

  chain_image : (c : ℕ) (a b : Slot) (xs : List Slot) → IsChain (IsInnerLink g v c) a xs b → net_image v c a ≡ net_image v c b
  chain_image c a b [] h = ap (net_image v c) h
  chain_image c a b (x ∷ xs) (inl (j, i), h) = join_image c a x j i ∙ chain_image c x b xs h
  chain_image c a b (x ∷ xs) (inr (j, i), h) = sym (join_image c x a j i) ∙ chain_image c x b xs h

  -- below a call that goes
  link_down : (c k : ℕ) (row : CallRow) (i : Placing) → IsCall g c k row → v.fate c k ≡ Goes i → (a b : Slot) → IsInnerLink g v row.circuit a b → Way c (below k a) (below k b)
  link_down c k row i call fate a b (inl (j, h)) =
      single (IsInnerLink g v c) (below k a) (below k b) (inl (record { number = j.number; deeper = ap (λ (p : List ℕ). k ∷ p) j.deeper; joins = (row, call, j.joins) }, (row, call, i, fate, h)))
  link_down c k row i call fate a b (inr (j, h)) =
      single (IsInnerLink g v c) (below k a) (below k b) (inr (record { number = j.number; deeper = ap (λ (p : List ℕ). k ∷ p) j.deeper; joins = (row, call, j.joins) }, (row, call, i, fate, h)))

  way_down : (c k : ℕ) (row : CallRow) (i : Placing) → IsCall g c k row → v.fate c k ≡ Goes i → (a b : Slot) → Way row.circuit a b → Way c (below k a) (below k b)
  way_down c k row i call fate a b h = along (IsInnerLink g v row.circuit) (IsInnerLink g v c) (below k) (link_down c k row i call fate) a b h

  own : (c n : ℕ) → HasNet g c n → v.net_from c n ≡ slot [] n
  own c n h = ((are.each c).net n h).1

  from_inlaid : (c k : ℕ) (row : CallRow) (i : Placing) (n : ℕ) → IsCall g c k row → v.fate c k ≡ Goes i → HasNet f row.circuit n → Way c (v.net_from c (i.net n)) (below k (v.net_from row.circuit n))
  from_inlaid c k row i n call fate has = elim (((are.each c).goes k i row call fate).net n has) [
    | inl (p, outer, net, pin) ↦
        let is = (are.each c).goes k i row call fate in
        let up : v.net_from c (i.net n) ≡ slot [] outer = ap (v.net_from c) (is.pin p outer n net pin) ∙ own c outer (are.within.calls c k p outer row call net) in
        let low : below k (v.net_from row.circuit n) ≡ slot (k ∷ []) n = ap (below k) (own row.circuit n (are.within.pins row.circuit p n pin)) in
        let join : Way c (slot [] outer) (slot (k ∷ []) n) = single (IsInnerLink g v c) (slot [] outer) (slot (k ∷ []) n)
        (inl (record { number = k; deeper = refl; joins = (row, call, pin.0, pin.1, p, net, pin.2) }, (row, call, i, fate, tt))) in
        way_on c (v.net_from c (i.net n)) (slot [] outer) (below k (v.net_from row.circuit n)) (way_same c (v.net_from c (i.net n)) (slot [] outer) up)
        (way_on c (slot [] outer) (slot (k ∷ []) n) (below k (v.net_from row.circuit n)) join (way_same c (slot (k ∷ []) n) (below k (v.net_from row.circuit n)) (sym low)))
    | inr e ↦ way_same c (v.net_from c (i.net n)) (below k (v.net_from row.circuit n)) e
  ]

  record Inner (c : ℕ) (a t : Slot) : Type 0 where
    net : ℕ
    is : t ≡ slot [] net
    has : HasNet f c net
    way : Way c a (v.net_from c net)

  inner : (path : List ℕ) (c n : ℕ) → IsInside g v c path → IsSlot g c path n → Inner c (slot path n) (image v placed_net c path n)
  inner [] c n inside h =
      let r = (are.each c).net n h in
      record { net = n; is = refl; has = r.0; way = way_same c (slot [] n) (v.net_from c n) (sym r.1) }
  inner (k ∷ ks) c n (row', call', i, fate, inside) (row, call, h) =
      let one : row' ≡ row = one_call g c k row' row call' call in
      let target = (are.each c).target k row call in
      let r = inner ks row.circuit n (subst (λ (x : CallRow). IsInside g v x.circuit ks) one inside) h in
      let inlaid = (are.each c).goes k i row call fate in
      record {
        net = i.net r.net;
        is = ap (λ (x : CallFate). step placed_net x (image v placed_net (v.target c k) ks n)) fate
            ∙ (ap (λ (t : ℕ). step placed_net (Goes i) (image v placed_net t ks n)) target ∙ ap (step placed_net (Goes i)) r.is);
        has = inlaid.within r.net r.has;
        way = way_on c (below k (slot ks n)) (below k (v.net_from row.circuit r.net)) (v.net_from c (i.net r.net))
            (way_down c k row i call fate (slot ks n) (v.net_from row.circuit r.net) r.way)
            (way_back c (v.net_from c (i.net r.net)) (below k (v.net_from row.circuit r.net)) (from_inlaid c k row i r.net call fate r.has));
      }

  pub nets_inside : (c : ℕ) → AreNetsInside g f v c
  nets_inside c = record {
    each = λ a inside h. let r = inner a.path c a.net inside h in (r.net, r.is, r.has);
    joined = λ a b ia ib ha hb. (
      (λ h. chain_image c a b h.via h.chain),
      (λ e.
          let r = inner a.path c a.net ia ha in
          let s = inner b.path c b.net ib hb in
          let same : slot [] r.net ≡ slot [] s.net = sym r.is ∙ (e ∙ s.is) in
          let net : r.net ≡ s.net = ap (λ (z : Slot). z.net) same in
          way_on c a (v.net_from c r.net) b r.way
          (way_on c (v.net_from c r.net) (v.net_from c s.net) b (way_same c (v.net_from c r.net) (v.net_from c s.net) (ap (v.net_from c) net))
          (way_back c b (v.net_from c s.net) s.way))),
    );
  }

pub inners : InnerNetLaw
inners g f v height are c = nets_inside g f v height are c
