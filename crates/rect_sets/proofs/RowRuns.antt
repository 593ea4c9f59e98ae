-- The runs of one row.
use Rattle.std.proofs.Common.{◌≡◌, ℕ, ℤ, ◌≤ℤ◌, ◌<ℤ◌, ◌≤◌, ◌<◌, ◌+◌, ◌+ℤ◌, List, [], ◌∷◌, ◌++◌, Bool, true, false, ◌||◌, ◌&&◌, take, drop, length, set, refl, sym, ◌∙◌, ap, subst, arith, get_or, pos, ◌-ℤ◌, if◌then◌else◌, int_le, int_lt}
use Rattle.base_laws.proofs.Tests.{or_false}
use Rattle.std.proofs.lemmas.Int.{ints}
use Rattle.std.proofs.lemmas.List.{take_more, drop_more, take_all, take_more_set, length-set}
use Rattle.geo_base.specs.Rects.{is_between}
use Rattle.rect_sets.specs.Spans.{covers, is_inside, AreApart}
use Rattle.rect_sets.specs.Edges.{holds, first_of, second_of}
use Rattle.rect_sets.specs.Rows.{weight_up_to, weight_of_all, AreInOrder, EndUpTo, AreRunsUpTo, Grows, HasRunsOf, IsSumOf, AreUpTo, RowSoFar}
use Rattle.rect_sets.proofs.Growing.{meet, one_more, last_joined, beyond, changed}
use Rattle.rect_sets.specs.declared.row.Span.{Span}
use Rattle.rect_sets.specs.declared.row.Edge.{Edge}
use Rattle.geo_base.specs.declared.layer.Op.{Op}
use Rattle.geo_base.specs.declared.layer.Op.TheVariants.{And, Or, Not, Xor}

-- the last of a list
pub with_last : (xs : List Span) (k : ℕ) (d : Span) → k + 1 ≡ length xs → xs ≡ take k xs ++ get_or xs k d ∷ []
with_last xs k d e = sym (take_all (k + 1) xs (omega arith)) ∙ take_more xs k d (omega arith)

pub with_last_set : (xs : List Span) (k : ℕ) (s : Span) → k + 1 ≡ length xs → set xs k s ≡ take k xs ++ s ∷ []
with_last_set xs k s e = sym (take_all (k + 1) (set xs k s) (omega (arith, length-set xs k s))) ∙ take_more_set xs k s (omega arith)

end_raised : (a b : ℤ) (spans : List Span) → a ≤ℤ b → EndUpTo a spans → EndUpTo b spans
end_raised a b [] le h = tt
end_raised a b (s ∷ spans) le h = (omega (arith, ints, h.0), end_raised a b spans le h.1)

end_last : (low : ℤ) (closed : List Span) (c : Span) → EndUpTo low (closed ++ c ∷ []) → c.x2 ≤ℤ low
end_last low [] c h = h.0
end_last low (s ∷ closed) c h = end_last low closed c h.1

end_changed : (a b : ℤ) (closed : List Span) (c d : Span) → a ≤ℤ b → d.x2 ≤ℤ b → EndUpTo a (closed ++ c ∷ []) → EndUpTo b (closed ++ d ∷ [])
end_changed a b [] c d le f h = (f, tt)
end_changed a b (s ∷ closed) c d le f h = (omega (arith, ints, h.0), end_changed a b closed c d le f h.1)

end_longer : (a b : ℤ) (closed : List Span) (d : Span) → a ≤ℤ b → d.x2 ≤ℤ b → EndUpTo a closed → EndUpTo b (closed ++ d ∷ [])
end_longer a b [] d le f h = (f, tt)
end_longer a b (s ∷ closed) d le f h = (omega (arith, ints, h.0), end_longer a b closed d le f h.1)

nothing : (x from to : ℤ) (b inside : Bool) → to ≤ℤ from → b ≡ (b || (inside && is_between from x to))
nothing x from to b inside h = grind (arith, ints)

pub grows_nothing : (old : List Span) (from to : ℤ) (inside : Bool) → from ≤ℤ to → to ≤ℤ from → AreRunsUpTo from old → Grows old old from to inside
grows_nothing old from to inside h g runs = record {
  same = λ x. nothing x from to (covers old x) inside g;
  runs = record { from = runs.from; apart = runs.apart; ends = end_raised from to old h runs.ends };
}

outside : (b c : Bool) → b ≡ (b || (false && c))
outside true c = refl
outside false c = refl

pub grows_outside : (old : List Span) (from to : ℤ) (inside : Bool) → inside ≡ false → from ≤ℤ to → AreRunsUpTo from old → Grows old old from to inside
grows_outside old from to inside e h runs = subst (λ (i : Bool). Grows old old from to i) (sym e) (record {
  same = λ x. outside (covers old x) (is_between from x to);
  runs = record { from = runs.from; apart = runs.apart; ends = end_raised from to old h runs.ends };
})

pub grows_first : (old : List Span) (from to : ℤ) (inside : Bool) → inside ≡ true → old ≡ [] → from <ℤ to → Grows old (old ++ record { x1 = from; x2 = to } ∷ []) from to inside
grows_first old from to inside t e some =
    let s : Span = record { x1 = from; x2 = to } in
    let first : Grows [] (s ∷ []) from to true = record {
      same = λ x. or_false (is_inside x s);
      runs = record { from = from -ℤ pos 1; apart = (omega (arith, ints), some, tt); ends = (omega (arith, ints), tt) };
    } in
    subst (λ (i : Bool). Grows old (old ++ s ∷ []) from to i) (sym t) (subst (λ (ys : List Span). Grows ys (ys ++ s ∷ []) from to true) (sym e) first)

beyond_last : (closed : List Span) (c : Span) (from to : ℤ) → c.x2 <ℤ from → from <ℤ to → AreRunsUpTo from (closed ++ c ∷ []) → Grows (closed ++ c ∷ []) ((closed ++ c ∷ []) ++ record { x1 = from; x2 = to } ∷ []) from to true
beyond_last closed c from to lt some runs =
    let s : Span = record { x1 = from; x2 = to } in
    record {
      same = λ x. one_more (closed ++ c ∷ []) s x;
      runs = record { from = runs.from; apart = beyond from runs.from closed c s lt some runs.apart; ends = end_longer from to (closed ++ c ∷ []) s (omega (arith, ints)) (omega (arith, ints)) runs.ends };
    }

pub grows_beyond : (old : List Span) (k : ℕ) (d : Span) (from to : ℤ) (inside : Bool) → inside ≡ true → k + 1 ≡ length old → (get_or old k d).x2 <ℤ from → from <ℤ to → AreRunsUpTo from old → Grows old (old ++ record { x1 = from; x2 = to } ∷ []) from to inside
grows_beyond old k d from to inside t e lt some runs =
    let s : Span = record { x1 = from; x2 = to } in
    let cut = with_last old k d e in
    let g = beyond_last (take k old) (get_or old k d) from to lt some (subst (λ (ys : List Span). AreRunsUpTo from ys) cut runs) in
    subst (λ (i : Bool). Grows old (old ++ s ∷ []) from to i) (sym t) (subst (λ (ys : List Span). Grows ys (ys ++ s ∷ []) from to true) (sym cut) g)

wider_last : (closed : List Span) (c : Span) (from to : ℤ) → from ≤ℤ c.x2 → from <ℤ to → AreRunsUpTo from (closed ++ c ∷ []) → c.x1 <ℤ c.x2 → Grows (closed ++ c ∷ []) (closed ++ record { x1 = c.x1; x2 = to } ∷ []) from to true
wider_last closed c from to meets some runs own =
    let d : Span = record { x1 = c.x1; x2 = to } in
    let s : Span = record { x1 = from; x2 = to } in
    let ends : c.x2 ≤ℤ from = end_last from closed c runs.ends in
    let low : c.x1 ≤ℤ from = omega (arith, ints) in
    let less : c.x2 <ℤ to = omega (arith, ints) in
    let le : c.x2 ≤ℤ to = omega (arith, ints) in
    record {
      same = λ x. last_joined closed c d s x (meet x c.x1 c.x2 from to low meets less);
      runs = record { from = runs.from; apart = changed runs.from closed c d refl le runs.apart; ends = end_changed from to closed c d (omega (arith, ints)) (omega (arith, ints)) runs.ends };
    }

some_last : (from : ℤ) (closed : List Span) (c : Span) → AreApart from (closed ++ c ∷ []) → c.x1 <ℤ c.x2
some_last from [] c h = h.1
some_last from (s ∷ closed) c h = some_last s.x2 closed c h.2

pub grows_wider : (old : List Span) (k : ℕ) (d : Span) (from to : ℤ) (inside : Bool) → inside ≡ true → k + 1 ≡ length old → from ≤ℤ (get_or old k d).x2 → from <ℤ to → AreRunsUpTo from old → Grows old (set old k (record { x1 = (get_or old k d).x1; x2 = to })) from to inside
grows_wider old k d from to inside t e meets some runs =
    let s : Span = record { x1 = (get_or old k d).x1; x2 = to } in
    let cut = with_last old k d e in
    let runs' = subst (λ (ys : List Span). AreRunsUpTo from ys) cut runs in
    let g = wider_last (take k old) (get_or old k d) from to meets some runs' (some_last runs'.from (take k old) (get_or old k d) runs'.apart) in
    let h : Grows old (set old k s) from to true = subst (λ (ys : List Span). Grows ys (set old k s) from to true) (sym cut) (subst (λ (ys : List Span). Grows (take k old ++ get_or old k d ∷ []) ys from to true) (sym (with_last_set old k s e)) g) in
    subst (λ (i : Bool). Grows old (set old k s) from to i) (sym t) h

-- sums

all_push : (field : Edge → ℤ) (xs : List Edge) (e : Edge) → weight_of_all field (xs ++ e ∷ []) ≡ weight_of_all field xs +ℤ field e
all_push field [] e = omega (arith, ints)
all_push field (y ∷ xs) e = omega (arith, ints, all_push field xs e)

up_push : (field : Edge → ℤ) (xs : List Edge) (e : Edge) (x : ℤ) → weight_up_to field (xs ++ e ∷ []) x ≡ weight_up_to field xs x +ℤ (if int_le e.x x then field e else pos 0)
up_push field [] e x = omega (arith, ints)
up_push field (y ∷ xs) e x = omega (arith, ints, up_push field xs e x)

left_out : (field : Edge → ℤ) (e : Edge) (x : ℤ) → x <ℤ e.x → (if int_le e.x x then field e else pos 0) ≡ pos 0
left_out field e x h = grind (arith, ints)

taken : (field : Edge → ℤ) (e : Edge) (x : ℤ) → e.x ≤ℤ x → (if int_le e.x x then field e else pos 0) ≡ field e
taken field e x h = grind (arith, ints)

up_left : (field : Edge → ℤ) (xs : List Edge) (e : Edge) (x : ℤ) → x <ℤ e.x → weight_up_to field (xs ++ e ∷ []) x ≡ weight_up_to field xs x
up_left field xs e x h = omega (arith, ints, up_push field xs e x, left_out field e x h)

pub up_all : (field : Edge → ℤ) (xs : List Edge) (low x : ℤ) → AreUpTo low xs → low ≤ℤ x → weight_up_to field xs x ≡ weight_of_all field xs
up_all field [] low x h le = refl
up_all field (e ∷ xs) low x h le = omega (arith, ints, up_all field xs low x h.1 le, taken field e x (omega (arith, ints, h.0)))

pub upto_raised : (a b : ℤ) (xs : List Edge) → a ≤ℤ b → AreUpTo a xs → AreUpTo b xs
upto_raised a b [] le h = tt
upto_raised a b (e ∷ xs) le h = (omega (arith, ints, h.0), upto_raised a b xs le h.1)

pub upto_push : (b : ℤ) (xs : List Edge) (e : Edge) → e.x ≤ℤ b → AreUpTo b xs → AreUpTo b (xs ++ e ∷ [])
upto_push b [] e le h = (le, tt)
upto_push b (y ∷ xs) e le h = (h.0, upto_push b xs e le h.1)

-- three places for x: left of both, between them, and past both
stepped : (x low ex : ℤ) (h g inside : Bool) → low ≤ℤ ex → (x <ℤ ex → g ≡ h) → (low ≤ℤ x → h ≡ inside) → ((int_lt x low && h) || (inside && is_between low x ex)) ≡ (int_lt x ex && g)
stepped x low ex h g inside le f k = grind (arith, ints)

pub sum_more : (field : Edge → ℤ) (edges : List Edge) (i : ℕ) (d : Edge) (sum : ℤ) → i < length edges → (pos 0 -ℤ pos 2147483648) ≤ℤ field (get_or edges i d) → field (get_or edges i d) ≤ℤ pos 2147483648 → IsSumOf field edges i sum → IsSumOf field edges (i + 1) (sum +ℤ field (get_or edges i d))
sum_more field edges i d sum lt low high s = record {
  is = ap (λ z. z +ℤ field (get_or edges i d)) s.is ∙ sym (ap (weight_of_all field) (take_more edges i d lt) ∙ all_push field (take i edges) (get_or edges i d));
  low = omega (arith, ints, s.low);
  high = omega (arith, ints, s.high);
}

pub next_in_order : (low : ℤ) (edges : List Edge) (i : ℕ) (d : Edge) → i < length edges → AreInOrder low (drop i edges) → (low ≤ℤ (get_or edges i d).x) × AreInOrder (get_or edges i d).x (drop (i + 1) edges)
next_in_order low edges i d lt h =
    let cut : drop i edges ≡ get_or edges i d ∷ drop (i + 1) edges = drop_more edges i d lt in
    let g = subst (λ (ys : List Edge). AreInOrder low ys) cut h in (g.0, g.1)

pub same_holds : (op : Op) (a b c d : ℤ) → a ≡ c → b ≡ d → holds op a b ≡ holds op c d
same_holds op a b c d e f = cc

pub row_more : (op : Op) (edges : List Edge) (i : ℕ) (d : Edge) (low first second first' second' : ℤ) (out new : List Span) → i < length edges → RowSoFar op edges i low first second out → Grows out new low (get_or edges i d).x (holds op first second) → IsSumOf first_of edges (i + 1) first' → IsSumOf second_of edges (i + 1) second' → RowSoFar op edges (i + 1) (get_or edges i d).x first' second' new
row_more op edges i d low first second first' second' out new lt so grows sum1 sum2 =
    let e : Edge = get_or edges i d in
    let next = next_in_order low edges i d lt so.rest in
    let le : low ≤ℤ (get_or edges i d).x = next.0 in
    let more : take (i + 1) edges ≡ take i edges ++ get_or edges i d ∷ [] = take_more edges i d lt in
    record {
      rest = next.1;
      done = subst (λ (ys : List Edge). AreUpTo (get_or edges i d).x ys) (sym more) (upto_push (get_or edges i d).x (take i edges) (get_or edges i d) (omega (arith, ints)) (upto_raised low (get_or edges i d).x (take i edges) le so.done));
      first_sum = sum1;
      second_sum = sum2;
      runs = grows.runs;
      same = λ x. grows.same x ∙ ap (λ b. b || (holds op first second && is_between low x (get_or edges i d).x)) (so.same x) ∙
          stepped x low (get_or edges i d).x _ _ (holds op first second) le
          (λ lt'. same_holds op _ _ _ _
          (ap (λ ys. weight_up_to first_of ys x) more ∙ up_left first_of (take i edges) (get_or edges i d) x lt')
          (ap (λ ys. weight_up_to second_of ys x) more ∙ up_left second_of (take i edges) (get_or edges i d) x lt'))
          (λ le'. same_holds op _ _ _ _
          (up_all first_of (take i edges) low x so.done le' ∙ sym so.first_sum.is)
          (up_all second_of (take i edges) low x so.done le' ∙ sym so.second_sum.is));
    }

pub no_weights : (op : Op) → holds op (pos 0) (pos 0) ≡ false
no_weights And = refl
no_weights Or = refl
no_weights Not = refl
no_weights Xor = refl

at_end : (x low : ℤ) (h : Bool) → (low ≤ℤ x → h ≡ false) → (int_lt x low && h) ≡ h
at_end x low h f = grind (arith, ints)

and_false : (b c : Bool) → c ≡ false → false ≡ (b && c)
and_false true c e = sym e
and_false false c e = refl

zero_sum : (field : Edge → ℤ) (edges : List Edge) → IsSumOf field edges 0 (pos 0)
zero_sum field edges = record { is = refl; low = omega (arith, ints); high = omega (arith, ints) }

pub row_none : (op : Op) (edges : List Edge) (low : ℤ) → AreInOrder low edges → RowSoFar op edges 0 low (pos 0) (pos 0) []
row_none op edges low h = record {
  rest = h;
  done = tt;
  first_sum = zero_sum first_of edges;
  second_sum = zero_sum second_of edges;
  runs = record { from = pos 0; apart = tt; ends = tt };
  same = λ x. and_false (int_lt x low) _ (no_weights op);
}

pub row_all : (op : Op) (edges : List Edge) (n : ℕ) (low first second : ℤ) (out : List Span) → length edges ≤ n → weight_of_all first_of edges ≡ pos 0 → weight_of_all second_of edges ≡ pos 0 → RowSoFar op edges n low first second out → HasRunsOf op edges out
row_all op edges n low first second out le z1 z2 so =
    let all : take n edges ≡ edges = take_all n edges le in
    let done : AreUpTo low edges = subst (λ (ys : List Edge). AreUpTo low ys) all so.done in
    record {
      from = so.runs.from;
      apart = so.runs.apart;
      same = λ x. so.same x ∙ ap (λ ys. int_lt x low && holds op (weight_up_to first_of ys x) (weight_up_to second_of ys x)) all ∙
          at_end x low _ (λ le'. same_holds op _ _ _ _ (up_all first_of edges low x done le' ∙ z1) (up_all second_of edges low x done le' ∙ z2) ∙ no_weights op);
    }
