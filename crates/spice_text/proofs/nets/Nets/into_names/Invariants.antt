use Rattle.std.proofs.Common.{◌≡◌, ◌++◌, map}
use Rattle.spice_text.specs.Needs.{HaveBytes}
use Rattle.spice_text.proofs.nets.Nets.into_names.Given as goal

abbrev pub invariant-texts : goal.invariant-texts
invariant-texts l =
    (l.names.items ++ map (λ text. text.items) l.text-iterator.rest.items ≡ l.fn.self.table)
    × HaveBytes (map (λ text. text.items) l.text-iterator.rest.items)
