use Rattle.std.proofs.Common.{◌≡◌, Bool, true, false, map, nat_eq, not, refl, sym, ◌∙◌, true≢false}
use Rattle.std.specs.Cmp.Derive.Mapped.{pointwise-map}
use Rattle.std.proofs.lemmas.Slice.Eq.{bytes_eq-Decides}
use Rattle.std.specs.Str.{bytes_eq}
use Rattle.fixed_num.specs.declared.femto.Femto.{Femto}
use Rattle.plain_netlist.proofs.Rows.{same_kind}
use Rattle.pairing_check.proofs.devices.are_one_device.Goals as goal

not_false : (b : Bool) → not b ≡ false → b ≡ true
not_false true e = refl
not_false false e = absurd (true≢false e)

pub returns : goal.returns
returns c =
    let l = c.args.left.now in
    let r = c.args.right.now in
    let kind : l.kind ≡ r.kind = (same_kind l.kind r.kind).0 (sym c.is.ensures ∙ c.if-not-is.false) in
    let bytes : c.bytes.result.now ≡ c.bytes-else-not-is.result.now = (bytes_eq-Decides _ _).0 (not_false _ (sym c.ne.ensures ∙ c.if-ne.false)) in
    let class : l.class ≡ r.class = sym c.bytes.ensures.same ∙ (bytes ∙ c.bytes-else-not-is.ensures.same) in
    let same : c.eq.result ≡ bytes_eq (map (λ (f : Femto). f.0) l.sizes) (map (λ (f : Femto). f.0) r.sizes) = c.eq.ensures ∙ sym (pointwise-map (λ (f : Femto). f.0) nat_eq l.sizes r.sizes) in
    ((λ t. record { kind = kind; class = class; sizes = (bytes_eq-Decides _ _).0 (sym same ∙ t) }), (λ o. same ∙ (bytes_eq-Decides _ _).1 o.sizes))
