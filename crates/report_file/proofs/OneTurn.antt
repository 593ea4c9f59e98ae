-- What follows a comparison is one.
use Rattle.std.proofs.Common.{◌≡◌, ◌⊎◌, inl, inr, ℕ, Bool, false, List, ◌++◌, Option, Some, None, sym, ap, subst, ◌∙◌, true≢false}
use Rattle.std.specs.List.{list_any}
use Rattle.std.proofs.lemmas.List.{ext_get_or}
use Rattle.std.proofs.lemmas.Option.{none-some}
use Rattle.align_laws.specs.Partners.{AreSides}
use Rattle.match_laws.specs.Answer.{Answer}
use Rattle.match_report.specs.Apart.{apart_texts, limit_text}
use Rattle.match_report.specs.Report.{again_line, answers_of, lefts_of, rights_of}
use Rattle.match_report.specs.declared.report.Compared.{Compared}
use Rattle.net_model.specs.Rows.{plain_netlist}
use Rattle.pair_turns.specs.Going.{AreGoing}
use Rattle.pair_turns.specs.Limit.{IsLimit}
use Rattle.plain_netlist.specs.Netlist.{Circuit, Netlist}
use Rattle.report_file.proofs.OneLimit.{one_limit}
use Rattle.report_file.specs.Turns.{AreTakenApart, EndsWith, IsTurn, NoneGoes}
use Rattle.rule_text.specs.Rules.{Rules}

-- the sides and the answers are the same, and of circuits merged alike
pub record AreSame (f g : Compared) : Type 0 where
  pub left : plain_netlist f.left ≡ plain_netlist g.left
  pub right : plain_netlist f.right ≡ plain_netlist g.right
  pub again : f.merged_again ≡ g.merged_again
  pub answers : answers_of f ≡ answers_of g

one_going : (left right : Netlist) (answers : List Answer) (g h : List Bool) → AreGoing left right answers g → AreGoing left right answers h → g ≡ h
one_going left right answers g h a b = ext_get_or false g h (a.long ∙ sym b.long) (λ k lt. a.each k ∙ sym (b.each k))

module _ (r : Rules) (f g : Compared) (same : AreSame f g) (s : AreSides (plain_netlist f.left) (plain_netlist f.right)) where
  going_of : (goes : List Bool) → AreGoing (plain_netlist g.left) (plain_netlist g.right) (answers_of g) goes → AreGoing (plain_netlist f.left) (plain_netlist f.right) (answers_of f) goes
  going_of goes h =
      subst (λ (l : Netlist). AreGoing l (plain_netlist f.right) (answers_of f) goes) (sym same.left)
      (subst (λ (l : Netlist). AreGoing (plain_netlist g.left) l (answers_of f) goes) (sym same.right)
      (subst (λ (vs : List Answer). AreGoing (plain_netlist g.left) (plain_netlist g.right) vs goes) (sym same.answers) h))

  limit_of : (goes : List Bool) (o : Option ℕ) → IsLimit (plain_netlist g.left) (plain_netlist g.right) goes o → IsLimit (plain_netlist f.left) (plain_netlist f.right) goes o
  limit_of goes o h =
      subst (λ (l : Netlist). IsLimit l (plain_netlist f.right) goes o) (sym same.left) (subst (λ (l : Netlist). IsLimit (plain_netlist g.left) l goes o) (sym same.right) h)

  -- the pairs that go are the same
  goes_same : (a b : List Bool) → AreGoing (plain_netlist f.left) (plain_netlist f.right) (answers_of f) a → AreGoing (plain_netlist g.left) (plain_netlist g.right) (answers_of g) b → a ≡ b
  goes_same a b h k = one_going (plain_netlist f.left) (plain_netlist f.right) (answers_of f) a b h (going_of b k)

  limit_same : (a b : List Bool) (o p : Option ℕ) → a ≡ b → IsLimit (plain_netlist f.left) (plain_netlist f.right) a o → IsLimit (plain_netlist g.left) (plain_netlist g.right) b p → o ≡ p
  limit_same a b o p e h k = one_limit (plain_netlist f.left) (plain_netlist f.right) a o p s h (subst (λ (x : List Bool). IsLimit (plain_netlist f.left) (plain_netlist f.right) x p) (sym e) (limit_of b p k))

  -- where none goes, no pairs are taken apart
  none_apart : (r.flattens_unmatched ≡ false) ⊎ NoneGoes f → (goes : List Bool) → AreTakenApart r g goes → ⊥
  none_apart (inl quiet) goes h = true≢false (sym h.flattens ∙ quiet)
  none_apart (inr n) goes h = true≢false (sym h.some ∙ ap (λ (x : List Bool). list_any (λ (b : Bool). b) x) (sym (goes_same n.goes goes n.going h.going)) ∙ n.none)

  apart_none : (r.flattens_unmatched ≡ false) ⊎ NoneGoes g → (goes : List Bool) → AreTakenApart r f goes → ⊥
  apart_none (inl quiet) goes h = true≢false (sym h.flattens ∙ quiet)
  apart_none (inr n) goes h = true≢false (sym h.some ∙ ap (λ (x : List Bool). list_any (λ (b : Bool). b) x) (goes_same goes n.goes h.going n.going) ∙ n.none)

  pub one_end : (l m : List ℕ) → EndsWith r f l → EndsWith r g m → l ≡ m
  one_end l m (inl h) (inl k) = h.1 ∙ sym k.1
  one_end l m (inl h) (inr k) = absurd (none_apart h.0 k.goes k.apart)
  one_end l m (inr h) (inl k) = absurd (apart_none k.0 h.goes h.apart)
  one_end l m (inr h) (inr k) =
      let goes = goes_same h.goes k.goes h.apart.going k.apart.going in
      let limit : Some h.pair ≡ Some k.pair = limit_same h.goes k.goes (Some h.pair) (Some k.pair) goes h.limit k.limit in
      let pair : h.pair ≡ k.pair = cc in
      h.told ∙ ap (λ (cs : List Circuit). limit_text cs h.pair) (ap (λ (n : Netlist). n.circuits) same.left) ∙ ap (λ (p : ℕ). limit_text (lefts_of g) p) pair ∙ sym k.told

  pub end_or_turn : (l m : List ℕ) (goes : List Bool) → EndsWith r f l → IsTurn r g goes m → ⊥
  end_or_turn l m goes (inl h) k = none_apart h.0 goes k.apart
  end_or_turn l m goes (inr h) k = none-some h.pair (sym (limit_same h.goes goes (Some h.pair) None (goes_same h.goes goes h.apart.going k.apart.going) h.limit k.limit))

  pub turn_or_end : (l m : List ℕ) (goes : List Bool) → IsTurn r f goes l → EndsWith r g m → ⊥
  turn_or_end l m goes h (inl k) = apart_none k.0 goes h.apart
  turn_or_end l m goes h (inr k) = none-some k.pair (limit_same goes k.goes None (Some k.pair) (goes_same goes k.goes h.apart.going k.apart.going) h.limit k.limit)

  pub one_goes : (l m : List ℕ) (a b : List Bool) → IsTurn r f a l → IsTurn r g b m → a ≡ b
  one_goes l m a b h k = goes_same a b h.apart.going k.apart.going

  pub one_here : (l m : List ℕ) (a b : List Bool) → IsTurn r f a l → IsTurn r g b m → l ≡ m
  one_here l m a b h k =
      h.told
      ∙ ap (λ (t : Bool). again_line t ++ apart_texts (lefts_of f) (rights_of f) 0 a (answers_of f)) same.again
      ∙ ap (λ (cs : List Circuit). again_line g.merged_again ++ apart_texts cs (rights_of f) 0 a (answers_of f)) (ap (λ (n : Netlist). n.circuits) same.left)
      ∙ ap (λ (cs : List Circuit). again_line g.merged_again ++ apart_texts (lefts_of g) cs 0 a (answers_of f)) (ap (λ (n : Netlist). n.circuits) same.right)
      ∙ ap (λ (x : List Bool). again_line g.merged_again ++ apart_texts (lefts_of g) (rights_of g) 0 x (answers_of f)) (one_goes l m a b h k)
      ∙ ap (λ (vs : List Answer). again_line g.merged_again ++ apart_texts (lefts_of g) (rights_of g) 0 b vs) same.answers
      ∙ sym k.told
