use Rattle.std.proofs.Common.{ℕ, subst, sym}
use Rattle.net_model.specs.Rows.{plain_device}
use Rattle.plain_netlist.specs.declared.kinds.DeviceKind.{DeviceKind}
use Rattle.spice_text.specs.Written.{AreSizes, IsAreaText, IsLengthText}
use Rattle.spice_text.proofs.WriteLemmas.{size_is}
use Rattle.spice_text.proofs.write.size_texts.Goals as goal

pub returns-in_ok-length_text-in-Mos4 : goal.returns-in_ok-length_text-in-Mos4
returns-in_ok-length_text-in-Mos4 c =
    let ss = c.args.d.now.sizes in
    let x = c.in_ok-length.length.items in
    let y = c.in_ok-length_text-in-Mos4.field-0.items in
    subst (λ (k : DeviceKind). AreSizes k (plain_device c.args.d.now) x y) (sym c.in-Mos4.is) (
      subst (λ (v : ℕ). IsLengthText v x) (size_is ss 0) c.in_ok-length.ensures,
      subst (λ (v : ℕ). IsLengthText v y) (size_is ss 1) c.in_ok-length_text-in-Mos4.ensures,
    )

pub returns-in_ok-length_text-in-ResistorWithBulk : goal.returns-in_ok-length_text-in-ResistorWithBulk
returns-in_ok-length_text-in-ResistorWithBulk c =
    let ss = c.args.d.now.sizes in
    let x = c.in_ok-length.length.items in
    let y = c.in_ok-length_text-in-ResistorWithBulk.field-0.items in
    subst (λ (k : DeviceKind). AreSizes k (plain_device c.args.d.now) x y) (sym c.in-ResistorWithBulk.is) (
      subst (λ (v : ℕ). IsLengthText v x) (size_is ss 0) c.in_ok-length.ensures,
      subst (λ (v : ℕ). IsLengthText v y) (size_is ss 1) c.in_ok-length_text-in-ResistorWithBulk.ensures,
    )

pub returns-in_ok-area_in_text-in-Diode : goal.returns-in_ok-area_in_text-in-Diode
returns-in_ok-area_in_text-in-Diode c =
    let ss = c.args.d.now.sizes in
    let x = c.in_ok-area_in_text-in-Diode.field-0.items in
    let y = c.in_ok-length.length.items in
    subst (λ (k : DeviceKind). AreSizes k (plain_device c.args.d.now) x y) (sym c.in-Diode.is) (
      subst (λ (v : ℕ). IsAreaText v x) (size_is ss 1) c.in_ok-area_in_text-in-Diode.ensures,
      subst (λ (v : ℕ). IsLengthText v y) (size_is ss 0) c.in_ok-length.ensures,
    )
