-- One side of an aligned pair, from the tables.
use Rattle.std.proofs.Common.{◌≡◌, inl, inr, ℕ, zero, suc, ◌+◌, ◌<◌, ◌≤◌, Bool, true, false, List, [], ◌∷◌, length, map, Option, Some, None, slice_get, refl, sym, ◌∙◌, ap, ap₂, subst, arith, true≢false, append-nil}
use Rattle.std.proofs.lemmas.Bool.{cases_Bool, and_parts, not-true}
use Rattle.std.specs.Prelude.{slice_index_or, nat_lt, not, ◌&&◌, is_some, unwrap_or}
use Rattle.std.proofs.Math.Path.{fun_ext}
use Rattle.std.proofs.lemmas.Option.{slice_get_within}
use Rattle.plain_netlist.specs.Lists.{AreApart, IsListed}
use Rattle.plain_netlist.specs.Netlist.{Netlist}
use Rattle.plain_netlist.specs.Sound.{HasDevices}
use Rattle.plain_netlist.proofs.Listing.{apart_at}
use Rattle.plain_netlist.proofs.Members.{listed, position}
use Rattle.align_laws.specs.Lists.{FlatCircuit}
use Rattle.net_model.specs.declared.netlist.Circuit.{Circuit as CircuitRow}
use Rattle.net_align.specs.Flattened.{Flattening, IsFlattening, AreFlats}
use Rattle.net_align.specs.Kept.{AreHeldPins, AreKeptMarked, cut_of}
use Rattle.net_align.specs.Laid.{goes_of}
use Rattle.net_align.specs.Sights.{has_number, is_kept, number_of, IsNumbering, firsts}
use Rattle.net_align.specs.Side.{AreMarkedCircuits, AreGoing, IsSide}
use Rattle.net_align.specs.Walked.{AreHolding}
use Rattle.net_align.proofs.Firsts.{firsts_once, first_places}
use Rattle.net_align.proofs.Seeing.{has_listed, listed_has}
use Rattle.net_align.proofs.Sided.{from_firsts, aligning, aligned_by, only_kept}

pub numbers_are : (circuits : List ℕ) (count : ℕ) (places : List (Option ℕ)) → AreApart circuits → IsNumbering (firsts circuits) count places → IsNumbering circuits count places
numbers_are circuits count places apart is = record {
  long = is.long;
  there = λ k n at. is.there k n (first k n at);
  back = λ n k at.
      let here = is.back n k at in
      let l : IsListed n circuits = elim (from_firsts circuits [] n (listed (firsts circuits) k n here)) [ inl z ↦ absurd z | inr c ↦ c ] in
      let p = position circuits n l in
      let same : p.0 ≡ k = firsts_once circuits [] (λ i j m a b. absurd (let z : ⊥ = cc in z)) p.0 k n (first p.0 n p.1) here in
      subst (λ (i : ℕ). slice_get circuits i ≡ Some n) same p.1;
}
  where
    first : (k n : ℕ) → slice_get circuits k ≡ Some n → slice_get (firsts circuits) k ≡ Some n
    first k n at =
        let f = first_places circuits [] [] k n (λ m l. refl) (λ i j m a b. apart_at m circuits i j apart a b) (λ i j m a b. absurd (let z : ⊥ = cc in z)) at in
        let z : 0 + k ≡ k = omega arith in
        subst (λ (i : ℕ). slice_get (firsts circuits) i ≡ Some n) z (subst (λ (t : List ℕ). slice_get (firsts t) (0 + k) ≡ Some n) (append-nil circuits) f)

module _ (circuits : List ℕ) (count : ℕ) (places : List (Option ℕ)) (is : IsNumbering circuits count places) where
  kept_place : (c : ℕ) (o : Option ℕ) → slice_index_or places c None ≡ o → is_some o ≡ true → (k : ℕ) × (slice_index_or places c None ≡ Some k)
  kept_place c None e t = absurd (true≢false (sym t))
  kept_place c (Some k) e t = (k, e)

  pub kept_listed : (c : ℕ) → is_kept places c ≡ true → (k : ℕ) × (slice_get circuits k ≡ Some c) × (number_of places c ≡ k)
  kept_listed c kept = let p = kept_place c (slice_index_or places c None) refl kept in (p.0, is.back c p.0 p.1, ap (λ (o : Option ℕ). unwrap_or o 0) p.1)

  pub listed_kept : (k c : ℕ) → slice_get circuits k ≡ Some c → (is_kept places c ≡ true) × (number_of places c ≡ k)
  listed_kept k c at = let e = is.there k c at in (ap (λ (o : Option ℕ). is_some o) e, ap (λ (o : Option ℕ). unwrap_or o 0) e)

  pub kept_has : (c : ℕ) → is_kept places c ≡ has_number circuits c
  kept_has c = elim (cases_Bool (has_number circuits c)) [
    | inl t ↦ let p = position circuits c (listed_has circuits c t) in (listed_kept p.0 c p.1).0 ∙ sym t
    | inr f ↦ elim (cases_Bool (is_kept places c)) [
      | inl t ↦ let p = kept_listed c t in absurd (true≢false (sym (has_listed circuits c (listed circuits p.0 c p.1)) ∙ f))
      | inr e ↦ e ∙ sym f
    ]
  ]

  pub kept_marked : (g : Netlist) (marks : List Bool) → AreMarkedCircuits g marks circuits → AreKeptMarked g marks places
  kept_marked g marks all c kept = let p = kept_listed c kept in all p.0 c p.1

  past_end : (xs : List Bool) (c : ℕ) → length xs ≤ c → slice_index_or xs c false ≡ false
  past_end [] zero l = refl
  past_end [] (suc c) l = refl
  past_end (x ∷ xs) zero l = absurd (let k = l in omega arith)
  past_end (x ∷ xs) (suc c) l = past_end xs c (let k = l in omega arith)

  and_false : (b : Bool) → (b && false) ≡ false
  and_false true = refl
  and_false false = refl

  pub goes_same : (given : ℕ → Bool) (holds goes : List Bool) → ((c : ℕ) → given c ≡ (not (has_number circuits c) && slice_index_or holds c false)) → AreGoing places holds (length holds) goes → goes_of goes ≡ given
  goes_same given holds goes are h = fun_ext (λ c. elim (cases_Bool (nat_lt c (length holds))) [
    | inl t ↦
        let l : c < length holds = grind (arith, t) in
        h.each c l ∙ (ap (λ (b : Bool). not b && slice_index_or holds c false) (kept_has c) ∙ sym (are c))
    | inr f ↦
        let l : length holds ≤ c = grind (arith, f) in
        let k = h.long in
        past_end goes c (omega (arith, l, k)) ∙ sym (are c ∙ (ap (λ (b : Bool). not (has_number circuits c) && b) (past_end holds c l) ∙ and_false (not (has_number circuits c))))
  ])

pub has_low : (g : Netlist) (c : ℕ) → HasDevices g c → c < length g.circuits
has_low g c ([], i, row, d) = slice_get_within g.circuits c d.0 d.1
has_low g c (k ∷ path, i, row, d) = slice_get_within g.circuits c d.1.0 d.1.1

-- a mark that is set is there
pub mark_low : (ms : List Bool) (c : ℕ) → slice_index_or ms c false ≡ true → c < length ms
mark_low [] zero m = absurd (true≢false (sym m))
mark_low [] (suc c) m = absurd (true≢false (sym m))
mark_low (x ∷ ms) zero m = omega arith
mark_low (x ∷ ms) (suc c) m = let l = mark_low ms c m in omega arith

pub side_made : (g : Netlist) (goes : ℕ → Bool) (f : Flattening) → IsFlattening g goes f → (marks holds : List Bool) (circuits : List ℕ) (count : ℕ) (places : List (Option ℕ)) (held : List (List ℕ)) (o : Netlist)
    → IsNumbering circuits count places → AreMarkedCircuits g marks circuits → AreHolding g holds → ((c : ℕ) → goes c ≡ (not (has_number circuits c) && slice_index_or holds c false))
    → AreHeldPins g f.flats places held → o.circuits ≡ map (cut_of f.flats places held) circuits → IsSide g circuits o
side_made g goes f h marks holds circuits count places held o is all holding are pins made =
    let low : (c : ℕ) → is_kept places c ≡ true → c < length g.circuits = λ c kept. (kept_marked circuits count places is g marks all c kept).0 in record {
      by = aligning g goes f h places held low pins;
      aligned = record {
        goes = goes;
        going = λ c. (
          (λ e.
              let b = and_parts (not (has_number circuits c)) (slice_index_or holds c false) (sym (are c) ∙ e) in
              let c_low = mark_low holds c b.1 in
              let k = holding.long in
              (kept_has circuits count places is c ∙ not-true (has_number circuits c) b.0, (holding.each c (omega (arith, c_low, k))).0 b.1)),
          (λ p.
              let m = (holding.each c (has_low g c p.1)).1 p.1 in
              let n : has_number circuits c ≡ false = sym (kept_has circuits count places is c) ∙ p.0 in
              are c ∙ ap₂ (λ (x y : Bool). not x && y) n m),
        );
        by = aligned_by g goes f h places held low pins o circuits count is made;
      };
      only = only_kept g goes f h places held low pins o circuits count is made;
      kept = λ k c at. listed_kept circuits count places is k c at;
      listed = λ c kept. let p = kept_listed circuits count places is c kept in subst (λ (i : ℕ). slice_get circuits i ≡ Some c) (sym p.2) p.1;
    }

pub flats_to : (g h : Netlist) (f : ℕ → FlatCircuit) (marks ms : List Bool) (xs ys : List (Option CircuitRow)) → h ≡ g → ms ≡ marks → xs ≡ ys → AreFlats g f marks ys → AreFlats h f ms xs
flats_to g h f marks ms xs ys e m t are =
    subst (λ (n : Netlist). AreFlats n f ms xs) (sym e) (subst (λ (n : List Bool). AreFlats g f n xs) (sym m) (subst (λ (n : List (Option CircuitRow)). AreFlats g f marks n) (sym t) are))

pub marked_to : (g h : Netlist) (marks ms : List Bool) (ps qs : List (Option ℕ)) → h ≡ g → ms ≡ marks → ps ≡ qs → AreKeptMarked g marks qs → AreKeptMarked h ms ps
marked_to g h marks ms ps qs e m t are =
    subst (λ (n : Netlist). AreKeptMarked n ms ps) (sym e) (subst (λ (n : List Bool). AreKeptMarked g n ps) (sym m) (subst (λ (n : List (Option ℕ)). AreKeptMarked g marks n) (sym t) are))
