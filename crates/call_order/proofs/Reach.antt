-- Chains of calls, put together.
use Rattle.std.proofs.Common.{ℕ, List, [], ◌∷◌, ◌++◌, refl, sym, subst}
use Rattle.plain_netlist.specs.Chains.{IsChain, Reaches}
use Rattle.call_order.specs.Order.{Calls, ReachesItself}

module _ (calls : List (List ℕ)) where
  abbrev pub To : ℕ → ℕ → Type 0
  To a b = Reaches (Calls calls) a b

  pub stays : (a : ℕ) → To a a
  stays a = record { via = []; chain = refl }

  onward : (via more : List ℕ) (a b c : ℕ) → IsChain (Calls calls) a via b → IsChain (Calls calls) b more c → IsChain (Calls calls) a (via ++ more) c
  onward [] more a b c h k = subst (λ x. IsChain (Calls calls) x more c) (sym h) k
  onward (x ∷ via) more a b c h k = (h.0, onward via more x b c h.1 k)

  pub through : (a b c : ℕ) → To a b → To b c → To a c
  through a b c h k = record { via = h.via ++ k.via; chain = onward h.via k.via a b c h.chain k.chain }

  pub one : (a b : ℕ) → Calls calls a b → To a b
  one a b h = record { via = b ∷ []; chain = (h, refl) }

  back_by : (via : List ℕ) (a b c : ℕ) → IsChain (Calls calls) a via b → Calls calls b c → To c a → ReachesItself calls a
  back_by [] a b c h call back = record { first = c; called = subst (λ x. Calls calls x c) (sym h) call; back = back }
  back_by (x ∷ via) a b c h call back = record {
    first = x;
    called = h.0;
    back = through x b a (record { via = via; chain = h.1 }) (through b c a (one b c call) back);
  }

  -- a chain with a call in it that leads back
  pub turned : (a b c : ℕ) → To a b → Calls calls b c → To c a → ReachesItself calls a
  turned a b c h call back = back_by h.via a b c h.chain call back

  -- those that reach a number that reaches itself, and are reached from it
  pub turned_by : (a b : ℕ) → To a b → ReachesItself calls b → To b a → ReachesItself calls a
  turned_by a b out cycle back = turned a b cycle.first out cycle.called (through cycle.first b a cycle.back back)
