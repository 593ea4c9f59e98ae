use Rattle.std.proofs.Common.{◌≡◌, ◌∙◌, refl, sym, ℕ}
use Rattle.net_walk.proofs.leaders.push_follower.Goals as goal
use Rattle.touching_pieces.proofs.Links.{added_none, added_one}

abbrev IsThese : ℕ → ℕ → ℕ → ℕ → Type 0
IsThese a b i j = (a ≡ i) × (b ≡ j)

pub returns-then-leader-number : goal.returns-then-leader-number
returns-then-leader-number c = added_none (IsThese c.args.leader c.args.number) c.args.out.now.items (λ i j e. sym e.0 ∙ c.if-leader-number.true ∙ e.1)

pub returns : goal.returns
returns c = rw c.in_ok-push.ensures.items (added_one (IsThese c.args.leader c.args.number) c.args.out.now.items c.args.leader c.args.number (refl, refl) (λ i j e. e))
