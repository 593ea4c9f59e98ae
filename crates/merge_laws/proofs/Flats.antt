-- Merged flat netlists are the same where the given ones are.
use Rattle.std.proofs.Common.{◌≡◌, inl, inr, ℕ, List, [], ◌∷◌, refl, sym, ◌∙◌, ap, subst}
use Rattle.plain_netlist.specs.Lists.{IsListed}
use Rattle.plain_netlist.specs.Devices.{Row, AreRowsAlike}
use Rattle.plain_netlist.specs.Flats.{Flat, Corresponds, Reversed, Through}
use Rattle.plain_netlist.proofs.Rows.{rows_reversed, rows_through, rows_wider}
use Rattle.plain_netlist.proofs.Alike.{reversed}
use Rattle.merge_laws.proofs.Alike.{with_one_width, both_merge}
use Rattle.merge_laws.specs.Merge.{added_size, width_of, AreAlike, Known, total_width, AreOnce, IsClass, IsMergedWidth, with_width, merged}

module _ {D N E M : Type 0} (F : Flat D N) (G : Flat E M) (device : D → E → Type 0) (net : N → M → Type 0) (h : Corresponds F G device net) where
  -- images of alike rows are alike
  pub alike_on : (r t : Row N) (s u : Row M) → AreRowsAlike net r s → AreRowsAlike net t u → AreAlike F.one_net r t → AreAlike G.one_net s u
  alike_on r t s u a b l = record {
    merges = sym (both_merge net r s a) ∙ l.merges;
    rows = rows_wider (Through (Reversed net) (Through F.one_net net)) G.one_net (λ x y k. (h.nets k.0 k.2.0 x y k.1 k.2.2).0 k.2.1) (with_width s 0) (with_width u 0)
        (rows_through (Reversed net) (Through F.one_net net) (with_width s 0) (with_width r 0) (with_width u 0) (rows_reversed net (with_width r 0) (with_width s 0) (with_one_width net 0 r s a))
        (rows_through F.one_net net (with_width r 0) (with_width t 0) (with_width u 0) l.rows (with_one_width net 0 t u b)));
  }

module _ {D N E M : Type 0} (F : Flat D N) (G : Flat E M) (device : D → E → Type 0) (net : N → M → Type 0) (h : Corresponds F G device net) where
  alike_back : (r t : Row N) (s u : Row M) → AreRowsAlike net r s → AreRowsAlike net t u → AreAlike G.one_net s u → AreAlike F.one_net r t
  alike_back r t s u a b l = alike_on G F (Reversed device) (Reversed net) (reversed F G device net h) s u r t (rows_reversed net r s a) (rows_reversed net t u b) l

  -- a device of the one and its image
  record Image (d : Known D N) (e : Known E M) : Type 0 where
    pub has : G.has_device e.name e.row
    pub paired : device d.name e.name
    pub rows : AreRowsAlike net d.row e.row

  -- images of listed devices, in their order
  record Images (ds : List (Known D N)) (es : List (Known E M)) : Type 0 where
    pub there : (d : Known D N) → IsListed d ds → (e : Known E M) × IsListed e es × Image d e
    pub back : (e : Known E M) → IsListed e es → (d : Known D N) × IsListed d ds × Image d e
    pub once : AreOnce F.one_device ds → AreOnce G.one_device es
    pub widths : total_width ds ≡ total_width es

  images : (ds : List (Known D N)) → ((d : Known D N) → IsListed d ds → F.has_device d.name d.row) → (es : List (Known E M)) × Images ds es
  images [] has = ([], record { there = λ d i. absurd i; back = λ e i. absurd i; once = λ o. tt; widths = refl })
  images (d ∷ ds) has =
      let rest = images ds (λ c i. has c (inr i)) in
      let y = h.there d.name d.row (has d (inl refl)) in
      let e : Known E M = record { name = y.0; row = y.1 } in
      let is : Image d e = record { has = y.2; paired = y.3; rows = y.4 } in (
        e ∷ rest.0,
        record {
          there = λ c i. elim i [
            | inl q ↦ (e, inl refl, subst (λ (z : Known D N). Image z e) (sym q) is)
            | inr j ↦ let r = rest.1.there c j in (r.0, inr r.1, r.2)
          ];
          back = λ c i. elim i [
            | inl q ↦ (d, inl refl, subst (λ (z : Known E M). Image d z) (sym q) is)
            | inr j ↦ let r = rest.1.back c j in (r.0, inr r.1, r.2)
          ];
          once = λ o. (
            (λ c i one. let r = rest.1.back c i in o.0 r.0 r.1 ((h.devices d.name r.0.name e.name c.name is.paired r.2.paired).1 one)),
            rest.1.once o.1,
          );
          widths = let a : width_of d.row ≡ width_of e.row = ap added_size is.rows.sizes in let b = rest.1.widths in cc;
        },
      )

  pub class_on : (r : Row N) (s : Row M) (ds : List (Known D N)) → AreRowsAlike net r s → IsClass F r ds → (es : List (Known E M)) × IsClass G s es × (total_width ds ≡ total_width es)
  class_on r s ds rows is =
      let got = images ds (λ d i. (is.each d i).0) in (
        got.0,
        record {
          each = λ e i. let b = got.1.back e i in (b.2.has, alike_on F G device net h r b.0.row s e.row rows b.2.rows (is.each b.0 b.1).1);
          all = λ y u has like.
              let x = h.back y u has in
              let l = alike_back r x.1 s u rows x.4 like in
              let d = is.all x.0 x.1 x.2 l in
              let e = got.1.there d.0 d.1 in
              (e.0, e.1, (h.devices x.0 d.0.name y e.0.name x.3 e.2.paired).0 d.2);
          once = got.1.once is.once;
        },
        got.1.widths,
      )

  width_on : (r : Row N) (s : Row M) (w : ℕ) → AreRowsAlike net r s → IsMergedWidth F r w → IsMergedWidth G s w
  width_on r s w rows (inl (merges, ds, is, e)) = let k = class_on r s ds rows is in inl (sym (both_merge net r s rows) ∙ merges, k.0, k.1, e ∙ k.2)
  width_on r s w rows (inr (not, e)) = inr (sym (both_merge net r s rows) ∙ not, e ∙ ap added_size rows.sizes)

  pub merged_there : (a : D) (r : Row N) → (merged F).has_device a r → (y : E) × (s : Row M) × (merged G).has_device y s × device a y × AreRowsAlike net r s
  merged_there a r (base, has, w, is, e) =
      let y = h.there a base has in (
        y.0,
        with_width y.1 w,
        (y.1, y.2, w, width_on base y.1 w y.4 is, refl),
        y.3,
        subst (λ (z : Row N). AreRowsAlike net z (with_width y.1 w)) (sym e) (with_one_width net w base y.1 y.4),
      )

  pub one_on : (a b : D) (x y : E) → device a x → device b y → (merged F).one_device a b → (merged G).one_device x y
  one_on a b x y k m (inl one) = inl ((h.devices a b x y k m).0 one)
  one_on a b x y k m (inr (c, d, r, s, to_c, has_c, to_d, has_d, alike)) =
      let z = h.there c r has_c in
      let v = h.there d s has_d in
      inr (z.0, v.0, z.1, v.1, (h.devices a c x z.0 k z.3).0 to_c, z.2, (h.devices b d y v.0 m v.3).0 to_d, v.2, alike_on F G device net h r s z.1 v.1 z.4 v.4 alike)

pub merged_same : {D N E M : Type 0} (F : Flat D N) (G : Flat E M) (device : D → E → Type 0) (net : N → M → Type 0) → Corresponds F G device net → Corresponds (merged F) (merged G) device net
merged_same F G device net h =
    let back = reversed F G device net h in
    record {
      there = merged_there F G device net h;
      back = λ y s g. let x = merged_there G F (Reversed device) (Reversed net) back y s g in (x.0, x.1, x.2, x.3, rows_reversed (Reversed net) s x.1 x.4);
      devices = λ a b x y k m. (one_on F G device net h a b x y k m, one_on G F (Reversed device) (Reversed net) back x y a b k m);
      nets = h.nets;
      pins = h.pins;
    }
