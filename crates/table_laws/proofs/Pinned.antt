-- Pins are determined by those of the cells above, and together.
use Rattle.std.proofs.Common.{◌≡◌, ◌↔◌, ℕ, zero, suc, ◌<◌, ◌+◌, Bool, true, false, List, ◌∷◌, ◌++◌, Some, slice_get, length, sym, ◌∙◌, ap, subst, arith}
use Rattle.base_laws.proofs.Tests.{same_truth}
use Rattle.base_laws.proofs.Items.{one_list}
use Rattle.std.proofs.Common.{Ordering, Less, Equal, Greater}
use Rattle.std.specs.Ordering.{is_lt, nat_cmp}
use Rattle.std.specs.Cmp.Lexicographic.{slice_cmp}
use Rattle.std.proofs.lemmas.Option.{same_Some, slice_get_within}
use Rattle.std.specs.Ordering.{ordering_reverse}
use Rattle.std.proofs.lemmas.Cmp.{nat_list_cmp_total}
use Rattle.flat_layout.specs.GateTables.{GateEntry}
use Rattle.flat_layout.specs.Layout.{Design, IsHeight, IsReached}
use Rattle.flat_layout.specs.Nets.{Tables}
use Rattle.flat_layout.specs.Pins.{ArePins, ArePinsOf, CellPins, IsAbove, IsBase, IsTextBefore, with_commas}
use Rattle.flat_layout.specs.Regions.{Wiring}
use Rattle.flat_laws.proofs.Planned.{lower}
use Rattle.plain_netlist.proofs.Listing.{one_rising}
use Rattle.table_laws.specs.TableLaws.{OnePinsLaw, PinsTogetherLaw, ReadPinsLaw}
use Rattle.table_laws.proofs.Tabled.{leads_both}

both_less : (o p : Ordering) → o ≡ ordering_reverse p → is_lt o ≡ true → is_lt p ≡ true → ⊥
both_less Less Less e f g = let z : Less ≡ Greater = e in (let y : ⊥ = cc in y)
both_less Less Equal e f g = let z : false ≡ true = g in (let y : ⊥ = cc in y)
both_less Less Greater e f g = let z : false ≡ true = g in (let y : ⊥ = cc in y)
both_less Equal p e f g = let z : false ≡ true = f in (let y : ⊥ = cc in y)
both_less Greater p e f g = let z : false ≡ true = f in (let y : ⊥ = cc in y)

-- of two texts at most one comes before the other
pub text_not_before : (a b : List ℕ) → IsTextBefore a b → IsTextBefore b a → ⊥
text_not_before a b h g = both_less (slice_cmp nat_cmp a b) (slice_cmp nat_cmp b a) (nat_list_cmp_total.antisymm a b) h g

-- a net has one base name
pub one_base : (d : Design) (w : Wiring) (t : Tables) (cell x : ℕ) (a b : List ℕ) → IsBase d w t cell x a → IsBase d w t cell x b → a ≡ b
one_base d w t cell x a b h g =
    let same : h.tags ≡ g.tags = one_rising IsTextBefore text_not_before h.tags g.tags h.rising g.rising (λ s l. (g.each s).1 ((h.each s).0 l)) (λ s l. (h.each s).1 ((g.each s).0 l)) in
    h.joined ∙ ap with_commas same ∙ sym g.joined

-- truths of one length that are true at the same places are one
pub same_truths : (xs ys : List Bool) (n : ℕ) → length xs ≡ n → length ys ≡ n → ((i : ℕ) → i < n → (slice_get xs i ≡ Some true) ↔ (slice_get ys i ≡ Some true)) → xs ≡ ys
same_truths xs ys n ex ey all = one_list xs ys (ex ∙ sym ey) (λ i a b h g.
    let lt : i < n = subst (λ m. i < m) ex (slice_get_within xs i a h) in
    let same = all i lt in
    same_truth a b (λ e. same_Some _ _ (sym g ∙ same.0 (h ∙ ap Some e))) (λ e. same_Some _ _ (sym h ∙ same.1 (g ∙ ap Some e))))

pub one_pins : OnePinsLaw
one_pins d w t gates pins cell v z a b =
    let first : v.pins ≡ z.pins = same_truths v.pins z.pins (t.nets cell).count a.count b.count (λ i lt. let h = a.each i lt in let g = b.each i lt in ((λ e. g.1 (h.0 e)), (λ e. h.1 (g.0 e)))) in
    let names : v.names ≡ z.names = one_list v.names z.names (a.named ∙ sym b.named) (λ i x y h g. one_base d w t cell i x y (a.names i x h) (b.names i y g)) in
    ap (λ (l : List Bool). let p : CellPins = record { pins = l; names = v.names } in p) first ∙ ap (λ (l : List (List ℕ)). let p : CellPins = record { pins = z.pins; names = l } in p) names

-- what is above a cell above is above
above_on : (d : Design) (f e cell : ℕ) → IsAbove d f e → IsAbove d e cell → IsAbove d f cell
above_on d f e cell (reached, (k, path, leads)) (up, (j, more, rest)) = (reached, (k, path ++ j ∷ more, (leads.0, leads.1, leads_both d leads.0.cell e cell path (j ∷ more) leads.2 rest)))

pub read_pins : ReadPinsLaw
read_pins d w t gates pins cell e v right above is = one_pins d w t gates pins e v (pins e) (is pins (λ f up. right f (above_on d f e cell up above))) (right e above)

-- from the top down
down : (d : Design) (w : Wiring) (t : Tables) (gates : ℕ → List GateEntry) (pins : ℕ → CellPins) (height : ℕ → ℕ) → IsHeight d height → ((e : ℕ) → IsReached d e → ArePinsOf d w t gates e (pins e))
    → (n cell : ℕ) → height d.top < n + height cell → IsReached d cell → ArePins d w t gates pins cell (pins cell)
down d w t gates pins height linked is zero cell lt reached = let h = lower d height linked reached.path d.top cell reached.leads in absurd (omega arith)
down d w t gates pins height linked is (suc n) cell lt reached = is cell reached pins (λ e up.
    let p = up.1.2 in
    let one = linked e up.1.0 p.0 p.1 in
    let rest = lower d height linked up.1.1 p.0.cell cell p.2 in
    down d w t gates pins height linked is n e (omega arith) up.0)

pub pins_together : PinsTogetherLaw
pins_together d w t gates pins height linked is cell reached = down d w t gates pins height linked is (suc (height d.top)) cell (omega arith) reached
