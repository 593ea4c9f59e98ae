-- Rounds of windows.
use Rattle.std.proofs.Common.{◌≡◌, ◌⊎◌, inl, inr, ℕ, ◌+◌, ◌<◌, ◌≤◌, Option, Some, None, List, [], ◌∷◌, ◌++◌, true, false, ◌&&◌, ◌||◌, not, map, length, get_or, take, sym, ◌∙◌, ap, subst}
use Rattle.base_laws.proofs.Tests.{true_or_not}
use Rattle.std.proofs.lemmas.Bool.{false≢true, or_left, or_right, and_from, or_cases, and_parts}
use Rattle.std.proofs.lemmas.List.{take_more, take_all}
use Rattle.std.specs.List.{All}
use Rattle.std.specs.Option.{MatchOption, is_some}
use Rattle.std.proofs.lemmas.List.Elements.{All-append}
use Rattle.geo_base.specs.Rects.{has, IsRect}
use Rattle.geo_base.specs.declared.shapes.Rect.{Rect}
use Rattle.geo_base.specs.declared.shapes.Square.{Square}
use Rattle.rect_sets.specs.Rects.{covers, IsCanonical}
use Rattle.rect_sets.proofs.Splitting.{covers_append}
use Rattle.rect_sets.proofs.Unique.{rect_of}
use Rattle.flat_layout.specs.Parts.{IsCloseTo}
use Rattle.gate_shapes.specs.Borders.{grown_rect}
use Rattle.gate_shapes.specs.Sets.{in_set}
use Rattle.gate_shapes.proofs.Borders.{from_not}
use Rattle.gate_shapes.proofs.Groups.{beside_around}
use Rattle.gate_shapes.proofs.Rings.{close_same}
use Rattle.gate_search.specs.Gather.{AreMet, IsGathered, IsGathering, IsGatheredAround}

in_one : (w : Rect) (q : Square) → in_set (w ∷ []) q → has w q ≡ true
in_one w q e = elim (or_cases (has w q) false e) [ inl f ↦ f | inr f ↦ absurd (false≢true f) ]

module _ (keeps : Square → Type 0) where
  pub met_none : (windows : List Rect) → AreMet keeps (take 0 windows) []
  met_none windows = record { sound = λ q e. absurd (false≢true e); complete = λ q k e. absurd (false≢true e) }

  pub met_more : (windows : List Rect) (i : ℕ) (d : Rect) (all part new : List Rect) → i < length windows → new ≡ all ++ part → AreMet keeps (take i windows) all → AreMet keeps (get_or windows i d ∷ []) part → AreMet keeps (take (i + 1) windows) new
  met_more windows i d all part new lt is h g =
      let either : (q : Square) → covers new q ≡ (covers all q || covers part q) = λ q. ap (λ (l : List Rect). covers l q) is ∙ covers_append all part q in
      record {
        sound = λ q e. elim (or_cases (covers all q) (covers part q) (sym (either q) ∙ e)) [ inl f ↦ h.sound q f | inr f ↦ g.sound q f ];
        complete = λ q k e.
            let w = get_or windows i d in
            let more : covers (take (i + 1) windows) q ≡ (covers (take i windows) q || covers (w ∷ []) q) = ap (λ (l : List Rect). covers l q) (take_more windows i d lt) ∙ covers_append (take i windows) (w ∷ []) q in
            either q ∙ elim (or_cases (covers (take i windows) q) (covers (w ∷ []) q) (sym more ∙ e)) [
              | inl f ↦ or_left (covers all q) (covers part q) (h.complete q k f)
              | inr f ↦ or_right (covers all q) (covers part q) (g.complete q k f)
            ];
      }

  pub met_all : (windows : List Rect) (i : ℕ) (all set : List Rect) → length windows ≤ i → ((q : Square) → covers set q ≡ covers all q) → AreMet keeps (take i windows) all → AreMet keeps windows set
  met_all windows i all set le same h = record {
    sound = λ q e. h.sound q (sym (same q) ∙ e);
    complete = λ q k e. same q ∙ h.complete q k (ap (λ (l : List Rect). covers l q) (take_all i windows le) ∙ e);
  }

  pub gather_first : (windows fresh : List Rect) → AreMet keeps windows fresh → IsGathering keeps windows [] fresh
  gather_first windows fresh h = record {
    sound_done = λ q e. absurd (false≢true e);
    sound_fresh = h.sound;
    complete = λ q k e. inr (h.complete q k e);
    steps = λ p q e s. absurd (false≢true e);
  }

  pub gather_more : (windows done fresh next done' fresh' : List Rect) → IsCanonical fresh → AreMet keeps (map grown_rect fresh) next → ((q : Square) → covers done' q ≡ (covers done q || covers fresh q))
      → ((q : Square) → covers fresh' q ≡ (covers next q && not (covers done' q))) → IsGathering keeps windows done fresh → IsGathering keeps windows done' fresh'
  gather_more windows done fresh next done' fresh' good met joined left h = record {
    sound_done = λ q e. elim (or_cases (covers done q) (covers fresh q) (sym (joined q) ∙ e)) [ inl f ↦ h.sound_done q f | inr f ↦ h.sound_fresh q f ];
    sound_fresh = λ q e. met.sound q (and_parts (covers next q) (not (covers done' q)) (sym (left q) ∙ e)).0;
    complete = λ q k e. inl (to_done q (h.complete q k e));
    steps = λ p q e s. elim (or_cases (covers done p) (covers fresh p) (sym (joined p) ∙ e)) [
      | inl f ↦ inl (to_done q (h.steps p q f s))
      | inr f ↦ elim (true_or_not (covers done' q)) [
        | inl g ↦ inl g
        | inr g ↦
            let close : IsCloseTo (in_set fresh) q = record { square = p; in_part = f; around = beside_around p q s.edge } in
            let window : in_set (map grown_rect fresh) q = (close_same fresh (λ r l. rect_of (covers fresh) r ((good.each r).0 l)) q).1 close in
            inr (left q ∙ and_from (covers next q) (not (covers done' q)) (met.complete q s.to window) (from_not (covers done' q) g))
      ]
    ];
  }
    where
      to_done : (q : Square) → in_set done q ⊎ in_set fresh q → in_set done' q
      to_done q (inl f) = joined q ∙ or_left (covers done q) (covers fresh q) f
      to_done q (inr f) = joined q ∙ or_right (covers done q) (covers fresh q) f

  pub gather_all : (windows done fresh : List Rect) → ((q : Square) → in_set fresh q → ⊥) → IsGathering keeps windows done fresh → IsGathered keeps windows done
  gather_all windows done fresh none h = record {
    met = record { sound = h.sound_done; complete = λ q k e. elim (h.complete q k e) [ inl f ↦ f | inr f ↦ absurd (none q f) ] };
    steps = λ p q e s. elim (h.steps p q e s) [ inl f ↦ f | inr f ↦ absurd (none q f) ];
  }

pub none_from : (o : Option Square) (P : Type 0) (Q : Square → Type 0) → is_some o ≡ false → MatchOption o P Q → P
none_from None P Q e h = h
none_from (Some s) P Q e h = absurd (false≢true (sym e))

pub right_more : (all part new : List Rect) → new ≡ all ++ part → All IsRect all → All IsRect part → All IsRect new
right_more all part new is h g = subst (λ (l : List Rect). All IsRect l) (sym is) (All-append IsRect all part h g)

pub around_law : (keeps : Square → Type 0) (seeds windows found : List Rect) → IsCanonical seeds → windows ≡ map grown_rect seeds → IsGathered keeps windows found → IsGatheredAround keeps seeds found
around_law keeps seeds windows found good is h = record {
  sound = h.met.sound;
  around = λ a q k near e.
      let close : IsCloseTo (in_set seeds) a = record { square = q; in_part = e; around = record { left = near.right; right = near.left; low = near.high; high = near.low } } in
      h.met.complete a k (ap (λ (l : List Rect). covers l a) is ∙ (close_same seeds (λ r l. rect_of (covers seeds) r ((good.each r).0 l)) a).1 close);
  steps = h.steps;
}
