use Rattle.std.proofs.Common.{◌≡◌, ◌<◌, ℕ, inl, inr, refl, sym, subst}
use Rattle.plain_netlist.specs.declared.kinds.DeviceKind.{DeviceKind}
use Rattle.plain_netlist.specs.declared.kinds.DeviceKind.TheVariants.{Mos4, ResistorWithBulk, Diode}
use Rattle.plain_netlist.specs.Lists.{IsListed}
use Rattle.plain_netlist.specs.Devices.{nets_of}
use Rattle.net_model.specs.declared.netlist.DeviceRow.{DeviceRow}
use Rattle.net_model.specs.Rows.{ends_in, others_in, plain_device}
use Rattle.match_parts.specs.Rows.{AreTerminalsBelow}
use Rattle.pairing_check.proofs.devices.are_terminals_kept.Goals as goal

-- a terminal of a device of this kind is below n
low : (d : DeviceRow) (n : ℕ) (kind : DeviceKind) → AreTerminalsBelow (plain_device d) n → d.kind ≡ kind → (m : ℕ) → IsListed m (nets_of (ends_in kind d.nets) (others_in kind d.nets)) → m < n
low d n kind below is m on = below m (subst (λ k. IsListed m (nets_of (ends_in k d.nets) (others_in k d.nets))) (sym is) on)

pub goes_to-requires : goal.goes_to-requires
goes_to-requires c = low c.args.left.now _ Mos4 c.requires.nets c.in-Mos4.is _ (inr (inl refl))

pub goes_to-requires-then-goes_to : goal.goes_to-requires-then-goes_to
goes_to-requires-then-goes_to c = low c.args.left.now _ Mos4 c.requires.nets c.in-Mos4.is _ (inr (inr (inr (inl refl))))

pub are_two_kept-requires-clause-first : goal.are_two_kept-requires-clause-first
are_two_kept-requires-clause-first c = low c.args.left.now _ Mos4 c.requires.nets c.in-Mos4.is _ (inr (inr (inl refl)))

pub are_two_kept-requires-clause-second : goal.are_two_kept-requires-clause-second
are_two_kept-requires-clause-second c = low c.args.left.now _ Mos4 c.requires.nets c.in-Mos4.is _ (inl refl)

pub goes_to-requires-in-ResistorWithBulk : goal.goes_to-requires-in-ResistorWithBulk
goes_to-requires-in-ResistorWithBulk c = low c.args.left.now _ ResistorWithBulk c.requires.nets c.in-ResistorWithBulk.is _ (inr (inl refl))

pub are_two_kept-requires-then-goes_to-3-clause-first : goal.are_two_kept-requires-then-goes_to-3-clause-first
are_two_kept-requires-then-goes_to-3-clause-first c = low c.args.left.now _ ResistorWithBulk c.requires.nets c.in-ResistorWithBulk.is _ (inr (inr (inl refl)))

pub are_two_kept-requires-then-goes_to-3-clause-second : goal.are_two_kept-requires-then-goes_to-3-clause-second
are_two_kept-requires-then-goes_to-3-clause-second c = low c.args.left.now _ ResistorWithBulk c.requires.nets c.in-ResistorWithBulk.is _ (inl refl)

pub goes_to-requires-in-Diode : goal.goes_to-requires-in-Diode
goes_to-requires-in-Diode c = low c.args.left.now _ Diode c.requires.nets c.in-Diode.is _ (inl refl)

pub goes_to-requires-then-goes_to-4 : goal.goes_to-requires-then-goes_to-4
goes_to-requires-then-goes_to-4 c = low c.args.left.now _ Diode c.requires.nets c.in-Diode.is _ (inr (inl refl))
