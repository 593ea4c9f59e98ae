-- Correspondences turn round and compose, whatever devices and nets are.
use Rattle.std.proofs.Common.{◌≡◌, ℕ, refl, sym, ◌∙◌, subst}
use Rattle.plain_netlist.specs.Lists.{IsListed}
use Rattle.plain_netlist.specs.Devices.{Row, AreRowsAlike, terminal_nets}
use Rattle.plain_netlist.specs.Netlist.{DeviceRow, Netlist, Slot, slot, InOneNet, HasDevice, IsTerminal, IsOnPin}
use Rattle.plain_netlist.specs.Flats.{Flat, Corresponds, row_at, expanded, Reversed, Through}
use Rattle.plain_netlist.proofs.Rows.{rows_same, rows_reversed, rows_through, rows_terminal, over_terminal, terminal_over}

pub reversed : {D N E M : Type 0} (F : Flat D N) (G : Flat E M) (device : D → E → Type 0) (net : N → M → Type 0) → Corresponds F G device net → Corresponds G F (Reversed device) (Reversed net)
reversed F G device net h = record {
  there = λ y s g. let b = h.back y s g in (b.0, b.1, b.2, b.3, rows_reversed net b.1 s b.4);
  back = λ x r f. let b = h.there x r f in (b.0, b.1, b.2, b.3, rows_reversed net r b.1 b.4);
  devices = λ x y a b k l. let e = h.devices a b x y k l in (e.1, e.0);
  nets = λ x y a b k l. let e = h.nets a b x y k l in (e.1, e.0);
  pins = λ x a k. let e = h.pins a x k in (e.1, e.0);
}

pub through : {D N E M H O : Type 0} (F : Flat D N) (G : Flat E M) (K : Flat H O) (device : D → E → Type 0) (net : N → M → Type 0) (further : E → H → Type 0) (on_net : M → O → Type 0)
    → Corresponds F G device net → Corresponds G K further on_net → Corresponds F K (Through device further) (Through net on_net)
through F G K device net further on_net h k = record {
  there = λ x r f. let y = h.there x r f in let z = k.there y.0 y.1 y.2 in (z.0, z.1, z.2, (y.0, y.3, z.3), rows_through net on_net r y.1 z.1 y.4 z.4);
  back = λ z v f. let y = k.back z v f in let x = h.back y.0 y.1 y.2 in (x.0, x.1, x.2, (y.0, x.3, y.3), rows_through net on_net x.1 y.1 v x.4 y.4);
  devices = λ a b x y m n. let e = h.devices a b m.0 n.0 m.1 n.1 in let f = k.devices m.0 n.0 x y m.2 n.2 in ((λ s. f.0 (e.0 s)), (λ s. e.1 (f.1 s)));
  nets = λ a b x y m n. let e = h.nets a b m.0 n.0 m.1 n.1 in let f = k.nets m.0 n.0 x y m.2 n.2 in ((λ s. f.0 (e.0 s)), (λ s. e.1 (f.1 s)));
  pins = λ a x m. let e = h.pins a m.0 m.1 in let f = k.pins m.0 x m.2 in ((λ s. f.0 (e.0 s)), (λ s. e.1 (f.1 s)));
}

-- a circuit's expansion, by equal devices and nets
pub same : (l : Netlist) (t : ℕ) → Corresponds (expanded l t) (expanded l t) (λ a x. a ≡ x) (λ a x. a ≡ x)
same l t = record {
  there = λ a r f. (a, r, f, refl, rows_same (λ (a x : Slot). a ≡ x) (λ n. refl) r);
  back = λ a r f. (a, r, f, refl, rows_same (λ (a x : Slot). a ≡ x) (λ n. refl) r);
  devices = λ a b x y h k. ((λ e. sym h ∙ (e ∙ k)), (λ e. h ∙ (e ∙ sym k)));
  nets = λ a b x y h k. ((λ e. subst (λ z. InOneNet l t z y) h (subst (λ z. InOneNet l t a z) k e)), (λ e. subst (λ z. InOneNet l t z b) (sym h) (subst (λ z. InOneNet l t x z) (sym k) e)));
  pins = λ a x h. ((λ e. subst (λ z. IsOnPin l t z) h e), (λ e. subst (λ z. IsOnPin l t z) (sym h) e));
}

module _ (l r : Netlist) (t u : ℕ) (device net : Slot → Slot → Type 0) (h : Corresponds (expanded l t) (expanded r u) device net) where
  pub one_image : (a x y : Slot) → device a x → device a y → x ≡ y
  one_image a x y k m = (h.devices a a x y k m).0 refl

  pub one_origin : (a b x : Slot) → device a x → device b x → a ≡ b
  one_origin a b x k m = (h.devices a b x x k m).1 refl

  -- the image of a terminal's net is that of a terminal
  pub image_at : (a x : Slot) (row other : DeviceRow) → HasDevice r u x.path x.net other → AreRowsAlike net (row_at a.path row) (row_at x.path other) → (n : ℕ) → IsListed n (terminal_nets row)
      → (y : Slot) × IsTerminal r u y × net (slot a.path n) y
  image_at a x row other has alike n on =
      let m = rows_terminal net (row_at a.path row) (row_at x.path other) alike (slot a.path n) (over_terminal (slot a.path) row n on) in
      let o = terminal_over (slot x.path) other m.0 m.1 in
      (slot x.path o.0, record { device = x.net; row = other; has = has; on = o.1 }, subst (λ z. net (slot a.path n) z) o.2 m.2)

  pub terminal_image : (a : Slot) → IsTerminal l t a → (x : Slot) × IsTerminal r u x × net a x
  terminal_image a k =
      let y = h.there (slot a.path k.device) (row_at a.path k.row) (k.row, k.has, refl) in
      let other = y.2 in
      let alike = subst (λ (s : Row Slot). AreRowsAlike net (row_at a.path k.row) s) other.2 y.4 in
      image_at (slot a.path k.device) y.0 k.row other.0 other.1 alike a.net k.on
