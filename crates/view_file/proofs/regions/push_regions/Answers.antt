use Rattle.std.proofs.Common.{◌≡◌, ◌∷◌, ◌++◌, ◌∙◌, ◌+◌, ◌-◌, ℕ, List, length, take, drop, sym, ap, append_assoc, arith}
use Rattle.view_words.proofs.Rows.{first_and_rest}
use Rattle.view_file.specs.Regions.{region_text, region_texts}
use Rattle.view_file.specs.declared.regions.Region.{Region}
use Rattle.view_file.proofs.Small.{small_first, small_rest}
use Rattle.view_file.proofs.regions.push_regions.Goals as goal

pub push_one-requires : goal.push_one-requires
push_one-requires c = small_first c.regions.rest.now c.region-item.result c.in-len1-up.len_at_least c.region-item.is c.regions.invariant.2

pub regions-preserved : goal.regions-preserved
regions-preserved c =
    let out = c.regions.out.items in
    let k = c.regions.k in
    let x = c.region-item.result in
    let rest = c.regions.rest.now in
    let more = take (length rest - 1) (drop 1 rest) in
    let split : rest ≡ x ∷ more = first_and_rest rest x c.in-len1-up.len_at_least ∙ ap (λ (r : Region). r ∷ more) (sym c.region-item.is) in
    let count = c.regions.invariant.1 in
    let long = ap (λ (rs : List Region). length rs) split in (
      ap (λ (o : List ℕ). o ++ region_texts (k + 1) more) c.in_ok-push_one.ensures
          ∙ append_assoc out (region_text k x) (region_texts (k + 1) more)
          ∙ ap (λ (rs : List Region). out ++ region_texts k rs) (sym split)
          ∙ c.regions.invariant.0,
      omega (arith, count, long),
      small_rest rest c.regions.invariant.2,
    )
