-- At the top what is kept is what is flat, so the netlist is that of the flat top.
use Rattle.std.proofs.Common.{◌↔◌, ℕ, [], refl}
use Rattle.flat_layout.specs.Gates.{geometry}
use Rattle.flat_layout.specs.Layout.{Design, IsHeight, IsReached}
use Rattle.flat_layout.specs.Regions.{Wiring, Node, At, Ground, IsNode, IsLink, InOneRegion, formula, kept, flat}
use Rattle.flat_laws.proofs.Expand.{expanded}
use Rattle.flat_laws.proofs.Once.{top_settled}
use Rattle.flat_laws.proofs.OneNet.{regions}
use Rattle.flat_laws.proofs.Terminals.{top_kept}
use Rattle.flat_laws.specs.NetlistLaws.{FlatNetlistLaw, FlatRegionLaw}
use Rattle.plain_netlist.proofs.Links.{single, along}

node_flat : (d : Design) (w : Wiring) (height : ℕ → ℕ) → IsHeight d height → (n : Node) → IsNode w (kept d w d.top) n ↔ IsNode w (flat d w d.top) n
node_flat d w height lower (At c q) = top_kept d height (formula w c) q lower
node_flat d w height lower (Ground g) = ((λ h. h), (λ h. h))

pub region_flat : (d : Design) (w : Wiring) (height : ℕ → ℕ) → IsHeight d height → (a b : Node) → InOneRegion w (kept d w d.top) a b ↔ InOneRegion w (flat d w d.top) a b
region_flat d w height lower a b =
    let K : Node → Node → Type 0 = IsLink w (kept d w d.top) in
    let F : Node → Node → Type 0 = IsLink w (flat d w d.top) in (
      along K F (λ n. n) (λ x y h. single F x y (record { from = (node_flat d w height lower x).0 h.from; to = (node_flat d w height lower y).0 h.to; touch = h.touch })) a b,
      along F K (λ n. n) (λ x y h. single K x y (record { from = (node_flat d w height lower x).1 h.from; to = (node_flat d w height lower y).1 h.to; touch = h.touch })) a b,
    )

pub flat_netlist : FlatNetlistLaw
flat_netlist d w t g nl rules unit height x n num =
    let whole = expanded d w t g nl rules unit height x n num in
    let lower = x.tables.lower in
    record {
      each = whole.devices.each;
      found = λ r u s ends v l rule is form. whole.devices.found r u s ends v l rule (top_settled d (geometry w u) height lower s is) form;
      once = whole.devices.once;
      nets = λ a b m k ta tb sa sb.
          let same = whole.nets a b m k ta tb sa sb in
          let both = region_flat d w height lower m k in
          ((λ h. both.0 (same.0 h)), (λ h. same.1 (both.1 h)));
      pins = λ a m ta sa.
          let same = whole.pins a m ta sa in (
            (λ h. let p = same.0 h in (p.0, (region_flat d w height lower m p.0).0 p.1, p.2)),
            (λ (y, way, marked). same.1 (y, (region_flat d w height lower m y).1 way, marked)),
          );
    }

pub flat_regions : FlatRegionLaw
flat_regions d w t height tables x y a b h k =
    let top : IsReached d d.top = record { path = []; leads = refl } in
    let are = regions d w t height tables d.top top in
    let same = are.joined x y a b h k in
    let both = region_flat d w height tables.lower a b in
    ((node_flat d w height tables.lower a).0 (are.sound x a h), ((λ e. both.0 (same.0 e)), (λ way. same.1 (both.1 way))))
