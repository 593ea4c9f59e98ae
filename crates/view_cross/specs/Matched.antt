-- The rows of a pair of circuits: each node with its partner, or each alone.
use Rattle.std.specs.Prelude.{ℕ, zero, suc, ◌+◌, ◌==◌, List, [], ◌∷◌, ◌++◌, Some, None, get_or}
use Rattle.std.specs.List.{position_or_len}
use Rattle.view_cross.specs.declared.matched.Counts.{Counts}
use Rattle.view_cross.specs.declared.rows.Kind.{Kind}
use Rattle.view_cross.specs.declared.rows.Kind.TheVariants.{Net, Pin, Device, Call}
use Rattle.view_cross.specs.declared.rows.Mark.TheVariants.{Matched, Mismatched}
use Rattle.view_cross.specs.declared.rows.Row.{Row}

abbrev pub partners : Kind → ℕ → ℕ → Row
partners kind a b = record { kind = kind; left = Some a; right = Some b; mark = Matched }

-- the left nodes from the k-th on, each with its right one
abbrev pub partner_rows : Kind → ℕ → List ℕ → List Row
partner_rows kind k [] = []
partner_rows kind k (n ∷ ns) = partners kind k n ∷ partner_rows kind (k + 1) ns

-- the pin that the right circuit has on a net
abbrev pub pin_on : List ℕ → ℕ → ℕ
pin_on pins net = position_or_len (λ p. p == net) pins

-- pins are partners where their nets are
abbrev pub pin_row : List ℕ → List ℕ → ℕ → ℕ → Row
pin_row nets rights k net = partners Pin k (pin_on rights (get_or nets net 0))

abbrev pub pin_rows : List ℕ → List ℕ → ℕ → List ℕ → List Row
pin_rows nets rights k [] = []
pin_rows nets rights k (n ∷ ns) =
    pin_row nets rights k n ∷ pin_rows nets rights (k + 1) ns

-- all nodes of a match: the right number of each left net, device and call, and the nets at the
-- pins of both
abbrev pub matched_rows : List ℕ → List ℕ → List ℕ → List ℕ → List ℕ → List Row
matched_rows nets lefts rights devices calls = partner_rows Net 0 nets
    ++ (pin_rows nets rights 0 lefts ++ (partner_rows Device 0 devices
    ++ partner_rows Call 0 calls))

abbrev pub left_alone : Kind → ℕ → Row
left_alone kind k = record { kind = kind; left = Some k; right = None; mark = Mismatched }

abbrev pub right_alone : Kind → ℕ → Row
right_alone kind k = record { kind = kind; left = None; right = Some k; mark = Mismatched }

-- so many nodes of a kind from the k-th on, each alone
abbrev pub lone_rows : (ℕ → Row) → ℕ → ℕ → List Row
lone_rows row k zero = []
lone_rows row k (suc n) = row k ∷ lone_rows row (k + 1) n

-- so many left and so many right nodes of a kind, each alone
abbrev pub lone_of : Kind → ℕ → ℕ → List Row
lone_of kind n m = lone_rows (left_alone kind) 0 n ++ lone_rows (right_alone kind) 0 m

-- all nodes of two circuits, each alone
abbrev pub apart_rows : Counts → Counts → List Row
apart_rows a b = lone_of Net a.nets b.nets ++ (lone_of Pin a.pins b.pins
    ++ (lone_of Device a.devices b.devices ++ lone_of Call a.calls b.calls))
