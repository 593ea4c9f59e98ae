-- Being alike is an equivalence of the rows that may merge; a circuit's test decides it.
use Rattle.std.proofs.Common.{◌≡◌, ◌⊎◌, ℕ, true, ◌==◌, ◌&&◌, ◌||◌, List, [], ◌∷◌, refl, sym, ◌∙◌, ap, ap₂, subst, bytes_eq, Decides}
use Rattle.std.proofs.lemmas.Bool.Decides.{Decides-eqb, Decides-and, Decides-or}
use Rattle.std.proofs.lemmas.Slice.Eq.{bytes_eq-Decides}
use Rattle.plain_netlist.specs.Kinds.{same_device_kind}
use Rattle.plain_netlist.specs.Devices.{Ends, NoEnds, Both, exchanged, Row, AreEndsJoined, AreJoined, AreRowsAlike}
use Rattle.plain_netlist.specs.Netlist.{DeviceRow}
use Rattle.plain_netlist.specs.Flats.{Reversed, Through}
use Rattle.plain_netlist.proofs.Rows.{same_kind, joined_same, joined_equal, rows_reversed, rows_through, rows_wider}
use Rattle.merge_laws.specs.Merge.{may_merge, may_merge_row, with_added, with_width, AreAlike}
use Rattle.merge_laws.specs.Grouped.{same_ends, is_alike, AlikeLaw, AlikeBackLaw}

-- the width of a row that has got another one
pub again : (sizes : List ℕ) (v w : ℕ) → with_added (with_added sizes v) w ≡ with_added sizes w
again [] v w = refl
again (first ∷ []) v w = refl
again (first ∷ second ∷ more) v w = refl

-- rows with one width
pub with_one_width : {N M : Type 0} (net : N → M → Type 0) (w : ℕ) (r : Row N) (s : Row M) → AreRowsAlike net r s → AreRowsAlike net (with_width r w) (with_width s w)
with_one_width net w r s a = record { kind = a.kind; class = a.class; sizes = ap (λ z. with_added z w) a.sizes; ends = a.ends; others = a.others }

-- rows of one kind and class may both merge
pub both_merge : {N M : Type 0} (net : N → M → Type 0) (r : Row N) (s : Row M) → AreRowsAlike net r s → may_merge_row r ≡ may_merge_row s
both_merge net r s a = ap₂ may_merge a.kind a.class

pub alike_merges : {N : Type 0} (same : N → N → Type 0) (r s : Row N) → AreAlike same r s → may_merge_row r ≡ may_merge_row s
alike_merges same r s l = both_merge same (with_width r 0) (with_width s 0) l.rows

module _ {N : Type 0} (same : N → N → Type 0) (turn : (a b : N) → same a b → same b a) where
  pub alike_turned : (r s : Row N) → AreAlike same r s → AreAlike same s r
  alike_turned r s l = record {
    merges = sym (alike_merges same r s l) ∙ l.merges;
    rows = rows_wider (Reversed same) same (λ a b h. turn b a h) (with_width s 0) (with_width r 0) (rows_reversed same (with_width r 0) (with_width s 0) l.rows);
  }

module _ {N : Type 0} (same : N → N → Type 0) (through : (a b c : N) → same a b → same b c → same a c) where
  pub alike_through : (r s t : Row N) → AreAlike same r s → AreAlike same s t → AreAlike same r t
  alike_through r s t a b = record {
    merges = a.merges;
    rows = rows_wider (Through same same) same (λ x y h. through x h.0 y h.1 h.2) (with_width r 0) (with_width t 0)
        (rows_through same same (with_width r 0) (with_width s 0) (with_width t 0) a.rows b.rows);
  }

abbrev pub On : DeviceRow → DeviceRow → Type 0
On a b = AreAlike (λ (m n : ℕ). m ≡ n) a b

abbrev Straight : Ends ℕ → Ends ℕ → Type 0
Straight d e = AreEndsJoined (λ (m n : ℕ). m ≡ n) d e

ends_decided : (d e : Ends ℕ) → Decides (same_ends d e) (Straight d e)
ends_decided NoEnds NoEnds = ((λ _. tt), (λ _. refl))
ends_decided (Both a b) (Both c d) = Decides-and (a == c) (b == d) (Decides-eqb a c) (Decides-eqb b d)
ends_decided NoEnds (Both c d) = ((λ h. cc), (λ h. absurd h))
ends_decided (Both a b) NoEnds = ((λ h. cc), (λ h. absurd h))

others_decided : (ns ms : List ℕ) → Decides (bytes_eq ns ms) (AreJoined (λ (m n : ℕ). m ≡ n) ns ms)
others_decided ns ms = (
  (λ h. subst (λ z. AreJoined (λ (m n : ℕ). m ≡ n) ns z) ((bytes_eq-Decides ns ms).0 h) (joined_same (λ (m n : ℕ). m ≡ n) (λ n. refl) ns)),
  (λ h. (bytes_eq-Decides ns ms).1 (joined_equal ns ms h)),
)

-- the test as what it tests, one after another
fields : (a b : DeviceRow) → Decides (is_alike a b) ((((((may_merge_row a ≡ true) × (a.kind ≡ b.kind)) × (a.class ≡ b.class)) × (with_added a.sizes 0 ≡ with_added b.sizes 0))
    × AreJoined (λ (m n : ℕ). m ≡ n) a.others b.others) × (Straight a.ends b.ends ⊎ Straight a.ends (exchanged b.ends)))
fields a b =
    let one = may_merge_row a && same_device_kind a.kind b.kind in
    let two = one && bytes_eq a.class b.class in
    let three = two && bytes_eq (with_added a.sizes 0) (with_added b.sizes 0) in
    let kinds = Decides-and (may_merge_row a) (same_device_kind a.kind b.kind) ((λ e. e), (λ e. e)) (same_kind a.kind b.kind) in
    let classes = Decides-and one (bytes_eq a.class b.class) kinds (bytes_eq-Decides a.class b.class) in
    let sizes = Decides-and two (bytes_eq (with_added a.sizes 0) (with_added b.sizes 0)) classes (bytes_eq-Decides (with_added a.sizes 0) (with_added b.sizes 0)) in
    let others = Decides-and three (bytes_eq a.others b.others) sizes (others_decided a.others b.others) in
    Decides-and (three && bytes_eq a.others b.others) (same_ends a.ends b.ends || same_ends a.ends (exchanged b.ends)) others
    (Decides-or (same_ends a.ends b.ends) (same_ends a.ends (exchanged b.ends)) (ends_decided a.ends b.ends) (ends_decided a.ends (exchanged b.ends)))

pub alike_law : AlikeLaw
alike_law a b e =
    let f = (fields a b).0 e in
    record { merges = f.0.0.0.0.0; rows = record { kind = f.0.0.0.0.1; class = f.0.0.0.1; sizes = f.0.0.1; others = f.0.1; ends = f.1 } }

pub alike_back_law : AlikeBackLaw
alike_back_law a b l = (fields a b).1 (((((l.merges, l.rows.kind), l.rows.class), l.rows.sizes), l.rows.others), l.rows.ends)

pub is_turned : (a b : DeviceRow) → is_alike a b ≡ true → is_alike b a ≡ true
is_turned a b e = alike_back_law b a (alike_turned (λ (m n : ℕ). m ≡ n) (λ m n e. sym e) a b (alike_law a b e))

pub is_through : (a b c : DeviceRow) → is_alike a b ≡ true → is_alike b c ≡ true → is_alike a c ≡ true
is_through a b c e f = alike_back_law a c (alike_through (λ (m n : ℕ). m ≡ n) (λ l m n e f. e ∙ f) a b c (alike_law a b e) (alike_law b c f))

-- the width is of no account
pub widths_apart : (a b : DeviceRow) (v w : ℕ) → is_alike (with_width a v) (with_width b w) ≡ true → is_alike a b ≡ true
widths_apart a b v w e =
    let l = alike_law (with_width a v) (with_width b w) e in
    alike_back_law a b (record {
      merges = l.merges;
      rows = record { kind = l.rows.kind; class = l.rows.class; sizes = sym (again a.sizes v 0) ∙ (l.rows.sizes ∙ again b.sizes w 0); ends = l.rows.ends; others = l.rows.others };
    })
