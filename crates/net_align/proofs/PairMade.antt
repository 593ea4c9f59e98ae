-- The pairs that are found are those of the definition, and their sides are an aligned pair.
use Rattle.std.proofs.Common.{◌≡◌, inl, inr, ℕ, zero, suc, ◌<◌, Bool, true, false, List, [], ◌∷◌, length, Option, Some, None, get_or, slice_get, refl, sym, ◌∙◌, ap, subst, arith}
use Rattle.std.proofs.lemmas.Bool.{cases_Bool, and_from, and_parts, or_left, or_right, or_cases}
use Rattle.std.specs.Prelude.{slice_index_or, ◌==◌, ◌&&◌, ◌||◌}
use Rattle.std.proofs.lemmas.Bool.Decides.{Decides-eqb}
use Rattle.std.proofs.lemmas.Option.{none-some, slice_get_read, slice_get_within, slice_get-get_or}
use Rattle.plain_netlist.specs.Lists.{AreApart}
use Rattle.plain_netlist.specs.Netlist.{Netlist}
use Rattle.plain_netlist.proofs.Faults.{sides}
use Rattle.plain_netlist.proofs.Listing.{apart_at, at_apart}
use Rattle.align_laws.specs.Partners.{AreNamesApart, AreLinesApart, ArePairs, IsPair, IsPartner}
use Rattle.align_laws.proofs.Sides.{one_left}
use Rattle.net_align.specs.Compared.{AreAligned, AreTables, is_compared}
use Rattle.net_align.specs.Found.{ArePartners}
use Rattle.net_align.specs.Paired.{ArePairsBelow, compared_partner}
use Rattle.net_align.specs.Side.{AreMarkedCircuits, IsSide}
use Rattle.net_align.specs.Walked.{AreReached, IsMarked}
use Rattle.net_align.specs.declared.below.Below.{Below}
use Rattle.net_model.specs.Rows.{plain_netlist}
use Rattle.net_model.specs.declared.netlist.Netlist.{Netlist as Model}
use Rattle.net_align.proofs.PairKept.{partner_there}
use Rattle.net_align.proofs.Partnered.{at_or}
use Rattle.net_align.proofs.Placed.{low_in}
use Rattle.net_align.proofs.Sides.{mark_low}

item : (xs : List ℕ) (i : ℕ) → i < length xs → (x : ℕ) × (slice_get xs i ≡ Some x)
item [] i l = absurd (let m = l in omega arith)
item (x ∷ xs) zero l = (x, refl)
item (x ∷ xs) (suc i) l = item xs i (let m = l in omega arith)

compared_some : (test : ℕ → ℕ → Bool) (a b : ℕ) (o : Option ℕ) → compared_partner test a o ≡ Some b → (o ≡ Some b) × (test a b ≡ true)
compared_some test a b None e = absurd (none-some b e)
compared_some test a b (Some d) e = elim (cases_Bool (test a d)) [
  | inl t ↦
      let z : compared_partner test a (Some d) ≡ Some d = rw t refl in
      let w : Some d ≡ Some b = sym z ∙ e in
      let k : d ≡ b = cc in
      (w, subst (λ (x : ℕ). test a x ≡ true) k t)
  | inr f ↦
      let z : compared_partner test a (Some d) ≡ None = rw f refl in
      absurd (none-some b (sym z ∙ e))
]

some_compared : (test : ℕ → ℕ → Bool) (a b : ℕ) → test a b ≡ true → compared_partner test a (Some b) ≡ Some b
some_compared test a b t = rw t refl

-- what the table has for a circuit is its partner, or that there is none
module _ (layout schematic : Netlist) (top : ℕ) (same : List (List ℕ × List ℕ)) (of : List (Option ℕ)) (are : ArePartners layout schematic top same of) (a : ℕ) (o : Option ℕ) (low : a < length layout.circuits) (read : o ≡ get_or of a o) where
  at : slice_get of a ≡ Some o
  at = slice_get_read of (length of) a o refl (let k = are.long in omega (arith, low, k)) read

  pub has_partner : (b : ℕ) → o ≡ Some b → IsPartner layout schematic top same a b
  has_partner b e = (are.each a b).0 (at ∙ ap Some e)

  pub partner_has : (b : ℕ) → IsPartner layout schematic top same a b → o ≡ Some b
  partner_has b h = let s : Some o ≡ Some (Some b) = sym at ∙ (are.each a b).1 h in cc

-- what is found: the partners, what stands below both tops, and the pairs
pub record PairsFound (layout schematic : Netlist) (top right_top : ℕ) (same : List (List ℕ × List ℕ)) (of : List (Option ℕ)) (l r : Below) (lefts rights : List ℕ) : Type 0 where
  pub partners : ArePartners layout schematic top same of
  pub tops : IsPartner layout schematic top same top right_top
  pub left : AreTables layout l
  pub right : AreTables schematic r
  pub left_reached : AreReached layout top l.reached.items
  pub right_reached : AreReached schematic right_top r.reached.items
  pub pairs : ArePairsBelow of (is_compared top l r) (length of) lefts rights

-- the partner of the top, as the table has it
pub has_top_partner : (layout : Model) (schematic : Netlist) {top : ℕ} {same : List (List ℕ × List ℕ)} {of : List (Option ℕ)} {o : Option ℕ}
    {right_top : ℕ} → ArePartners (plain_netlist layout) schematic top same of → top < length layout.circuits.items
    → o ≡ get_or of top o → o ≡ Some right_top → IsPartner (plain_netlist layout) schematic top same top right_top
has_top_partner layout schematic are low read e = has_partner _ _ _ _ _ are _ _ (low_in layout _ low) read _ e

pub pairs_found : (layout schematic : Model) {top right_top : ℕ} {same : List (List ℕ × List ℕ)} {items of : List (Option ℕ)}
    {o : Option ℕ} {l r : Below} {left_items lefts right_items rights : List ℕ}
    → ArePartners (plain_netlist layout) (plain_netlist schematic) top same items → top < length layout.circuits.items
    → o ≡ get_or items top o → o ≡ Some right_top
    → AreTables (plain_netlist layout) l → AreReached (plain_netlist layout) top l.reached.items
    → AreTables (plain_netlist schematic) r → AreReached (plain_netlist schematic) right_top r.reached.items
    → of ≡ items → ArePairsBelow of (is_compared top l r) (length of) left_items right_items
    → lefts ≡ left_items → rights ≡ right_items
    → PairsFound (plain_netlist layout) (plain_netlist schematic) top right_top same of l r lefts rights
pairs_found layout schematic {top = top} {same = same} {of = of} {l = l} {r = r} {left_items = left_items} {rights = rights}
    are low read e left left_reached right right_reached z pairs el er = record {
      partners = subst (λ (x : List (Option ℕ)). ArePartners (plain_netlist layout) (plain_netlist schematic) top same x) (sym z) are;
      tops = has_top_partner layout (plain_netlist schematic) are low read e;
      left = left;
      right = right;
      left_reached = left_reached;
      right_reached = right_reached;
      pairs = subst (λ (x : List ℕ). ArePairsBelow of (is_compared top l r) (length of) x rights) (sym el)
          (subst (λ (x : List ℕ). ArePairsBelow of (is_compared top l r) (length of) left_items x) (sym er) pairs);
    }

module _ {layout schematic : Netlist} {top right_top : ℕ} {same : List (List ℕ × List ℕ)} {of : List (Option ℕ)} {l r : Below}
    {lefts rights : List ℕ} (h : PairsFound layout schematic top right_top same of l r lefts rights) where
  abbrev lr : List Bool
  lr = l.reached.items

  abbrev lh : List Bool
  lh = l.holds.items

  abbrev rr : List Bool
  rr = r.reached.items

  abbrev rh : List Bool
  rh = r.holds.items

  abbrev test : ℕ → ℕ → Bool
  test = is_compared top l r

  abbrev Pair : ℕ → ℕ → Type 0
  Pair a b = IsPair layout schematic top same right_top a b

  abbrev same_kind : ℕ → ℕ → Bool
  same_kind a b = a == top || (slice_index_or lh a false && slice_index_or rh b false)

  marked_low : (nl : Netlist) (ms : List Bool) (c : ℕ) → length ms ≡ length nl.circuits → IsMarked ms c → c < length nl.circuits
  marked_low nl ms c long m = let l = mark_low ms c m in omega (arith, l, long)

  -- what the test says
  reached_both : (a b : ℕ) → test a b ≡ true → IsMarked lr a × IsMarked rr b × (same_kind a b ≡ true)
  reached_both a b t =
      let p = and_parts (slice_index_or lr a false) (slice_index_or rr b false && same_kind a b) t in
      let q = and_parts (slice_index_or rr b false) (same_kind a b) p.1 in
      (p.0, q.0, q.1)

  tested : (a b : ℕ) → IsPartner layout schematic top same a b → test a b ≡ true → Pair a b
  tested a b partner t =
      let r = reached_both a b t in record {
        tops = h.tops;
        partner = partner;
        called = (h.left_reached.each a (marked_low layout lr a h.left_reached.long r.0)).0 r.0;
        right_called = (h.right_reached.each b (marked_low schematic rr b h.right_reached.long r.1)).0 r.1;
        devices = elim (or_cases (a == top) (slice_index_or lh a false && slice_index_or rh b false) r.2) [
          | inl e ↦ inl ((Decides-eqb a top).0 e)
          | inr e ↦
              let d = and_parts (slice_index_or lh a false) (slice_index_or rh b false) e in
              inr ((h.left.holds.each a (marked_low layout lh a h.left.holds.long d.0)).0 d.0, (h.right.holds.each b (marked_low schematic rh b h.right.holds.long d.1)).0 d.1)
        ];
      }

  -- a pair passes it
  passes : (a b : ℕ) → a < length layout.circuits → b < length schematic.circuits → Pair a b → test a b ≡ true
  passes a b low right_low p =
      and_from (slice_index_or lr a false) (slice_index_or rr b false && same_kind a b) ((h.left_reached.each a low).1 p.called)
      (and_from (slice_index_or rr b false) (same_kind a b) ((h.right_reached.each b right_low).1 p.right_called)
      (elim p.devices [
        | inl e ↦ or_left (a == top) (slice_index_or lh a false && slice_index_or rh b false) ((Decides-eqb a top).1 e)
        | inr d ↦ or_right (a == top) (slice_index_or lh a false && slice_index_or rh b false)
            (and_from (slice_index_or lh a false) (slice_index_or rh b false) ((h.left.holds.each a low).1 d.0) ((h.right.holds.each b right_low).1 d.1))
      ]))

  right_at : (k a : ℕ) → slice_get lefts k ≡ Some a → (b : ℕ) × (slice_get rights k ≡ Some b)
  right_at k a at = item rights k (let l = slice_get_within lefts k a at in let e = h.pairs.long in omega (arith, l, e))

  left_at : (k b : ℕ) → slice_get rights k ≡ Some b → (a : ℕ) × (slice_get lefts k ≡ Some a)
  left_at k b at = item lefts k (let l = slice_get_within rights k b at in let e = h.pairs.long in omega (arith, l, e))

  found : (k a b : ℕ) → slice_get lefts k ≡ Some a → slice_get rights k ≡ Some b → IsPartner layout schematic top same a b × (test a b ≡ true)
  found k a b at bt =
      let r = h.pairs.each k a b at bt in
      let s = compared_some test a b (slice_index_or of a None) r.1 in
      ((h.partners.each a b).0 (slice_get-get_or of a None r.0 ∙ ap Some s.0), s.1)

  is_pair : (k a b : ℕ) → slice_get lefts k ≡ Some a → slice_get rights k ≡ Some b → Pair a b
  is_pair k a b at bt = let f = found k a b at bt in tested a b f.0 f.1

  pub lefts_marked : AreMarkedCircuits layout lr lefts
  lefts_marked k a at =
      let b = right_at k a at in
      let r = reached_both a b.0 (found k a b.0 at b.1).1 in
      (marked_low layout lr a h.left_reached.long r.0, r.0)

  pub rights_marked : AreMarkedCircuits schematic rr rights
  rights_marked k b at =
      let a = left_at k b at in
      let r = reached_both a.0 b (found k a.0 b a.1 at).1 in
      (marked_low schematic rr b h.right_reached.long r.1, r.1)

  pub lefts_apart : AreApart lefts
  lefts_apart = at_apart lefts (λ i j a at bt. elim (sides i j) [
    | inl l ↦ absurd (let r = h.pairs.rising i j a a at bt l in omega (arith, r))
    | inr (inl e) ↦ e
    | inr (inr l) ↦ absurd (let r = h.pairs.rising j i a a bt at l in omega (arith, r))
  ])

  module _ (names : AreNamesApart layout) (right_names : AreNamesApart schematic) (lines : AreLinesApart same) where
    pub rights_apart : AreApart rights
    rights_apart = at_apart rights (λ i j b at bt.
        let x = left_at i b at in
        let y = left_at j b bt in
        let e = one_left layout schematic top same names right_names lines x.0 y.0 b (found i x.0 b x.1 at).0 (found j y.0 b y.1 bt).0 in
        apart_at x.0 lefts i j lefts_apart x.1 (y.1 ∙ ap Some (sym e)))

  module _ {left right : Netlist} (left_side : IsSide layout lefts left) (right_side : IsSide schematic rights right) where
    pair_at : (a b : ℕ) → Pair a b → (k : ℕ) × (slice_get lefts k ≡ Some a) × (slice_get rights k ≡ Some b)
    pair_at a b p =
        let e = (h.partners.each a b).1 p.partner in
        let l = slice_get_within of a (Some b) e in
        let low : a < length layout.circuits = let k = h.partners.long in omega (arith, l, k) in
        let t = passes a b low (partner_there layout schematic top same a b p.partner) p in
        h.pairs.all a b l (ap (compared_partner test a) (at_or of a (Some b) None e) ∙ some_compared test a b t)

    are_pairs : ArePairs layout schematic top same right_top left_side.by right_side.by
    are_pairs = record {
      left_kept = λ a. (
        (λ kept. let at = left_side.listed a kept in let b = right_at (left_side.by.number a) a at in (b.0, is_pair (left_side.by.number a) a b.0 at b.1)),
        (λ (b, q). let p = pair_at a b q in (left_side.kept p.0 a p.1).0),
      );
      right_kept = λ b. (
        (λ kept. let at = right_side.listed b kept in let a = left_at (right_side.by.number b) b at in (a.0, is_pair (right_side.by.number b) a.0 b a.1 at)),
        (λ (a, q). let p = pair_at a b q in (right_side.kept p.0 b p.2).0),
      );
      together = λ a b q. let p = pair_at a b q in (left_side.kept p.0 a p.1).1 ∙ sym (right_side.kept p.0 b p.2).1;
      rising = λ a b l ka kb.
          let at = left_side.listed a ka in
          let bt = left_side.listed b kb in
          let m = left_side.by.number a in
          let n = left_side.by.number b in
          elim (sides m n) [
            | inl r ↦ r
            | inr (inl e) ↦
                let s : Some a ≡ Some b = sym at ∙ (ap (λ (k : ℕ). slice_get lefts k) e ∙ bt) in
                let k : a ≡ b = cc in
                absurd (omega (arith, k, l))
            | inr (inr r) ↦ absurd (let k = h.pairs.rising n m b a bt at r in omega (arith, k, l))
          ];
    }

    pub are_aligned : AreAligned layout schematic top same left right
    are_aligned = record {
      right_top = right_top;
      left_by = left_side.by;
      right_by = right_side.by;
      are = record {
        partner = h.tops;
        pairs = are_pairs;
        left_aligned = left_side.aligned;
        right_aligned = right_side.aligned;
        left_only = left_side.only;
        right_only = right_side.only;
      };
    }
